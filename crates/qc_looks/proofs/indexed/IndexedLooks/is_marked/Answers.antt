use Rattle.std.proofs.Common.{ap, ◌∙◌}
use Rattle.qc_event.specs.Users.{is_marked, top_number}
use Rattle.qc_looks.specs.Indexed.{Known}
use Rattle.qc_looks.proofs.indexed.IndexedLooks.is_marked.Goals as goal

pub returns : goal.returns
returns c =
    c.marked.ensures _ c.self.inside.history c.beside.ensures c.self.invariant.legal
    ∙ ap (λ n. is_marked c.self.inside.history c.args.session (top_number n)) c.top.ensures
    ∙ ap (λ (k : Known). is_marked k.past c.args.session c.args.number) c.self.view_is
