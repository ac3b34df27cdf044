use Rattle.std.proofs.Common.{◌∙◌, ap, subst, reverse}
use Rattle.std.specs.Option.{option_map}
use Rattle.qc_event.specs.History.{kind_of}
use Rattle.qc_history.specs.Looking.{is_of_access}
use Rattle.qc_report.specs.Indexed.{IsIndexed}
use Rattle.qc_report.proofs.history.History.is_access.Goals as goal

pub returns-in-Some : goal.returns-in-Some
returns-in-Some c =
    let known = subst (λ o. IsIndexed c.self.inside.trail.now (option_map (λ i. i.now) o)) c.in-Some.is c.self.invariant in
    c.is_access.ensures known.0.0 known.1 known.0.1 ∙ ap (λ h. is_of_access (kind_of (reverse h) c.args.name.now)) c.self.view_is
