use Rattle.std.proofs.Common.{◌∙◌, ap, subst, reverse}
use Rattle.std.specs.Option.{option_map}
use Rattle.qc_event.specs.History.{kind_of}
use Rattle.qc_report.specs.Indexed.{IsIndexed}
use Rattle.qc_report.proofs.history.History.kind.Goals as goal

pub returns-in-Some : goal.returns-in-Some
returns-in-Some c =
    let known = subst (λ o. IsIndexed c.self.inside.trail.now (option_map (λ i. i.now) o)) c.in-Some.is c.self.invariant in
    c.kind.ensures known.0.0 known.1 known.0.1 ∙ ap (λ h. kind_of (reverse h) c.args.name.now) c.self.view_is
