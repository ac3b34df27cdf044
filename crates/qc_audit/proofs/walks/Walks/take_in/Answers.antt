use Rattle.std.proofs.Common.{sym, ◌∙◌}
use Rattle.std.proofs.lemmas.Result.{on_ok_weaker}
use Rattle.qc_audit.proofs.Walking.{name_ends, user_starts}
use Rattle.qc_audit.proofs.walks.Walks.take_in.Goals as goal

pub returns-in-Some : goal.returns-in-Some
returns-in-Some c =
    on_ok_weaker c.start.result (λ goes later past parts legal was.
    let known = c.args.known.now in
    user_starts known.setting known.past later past c.args.entry.now parts legal c.args.self.now.lists.items was
    c.in-Some.c (sym c.started_user.ensures ∙ c.in-Some.is) c.start.new.self.lists.items (goes legal)) c.start.ensures

pub returns : goal.returns
returns c =
    on_ok_weaker c.end.result (λ goes later past parts legal was.
    let known = c.args.known.now in
    name_ends known.setting known.past later past c.args.entry.now parts legal c.args.self.now.lists.items was
    c.in-End.name c.in-End.how c.in-End.is c.end.new.self.lists.items (λ at here. goes legal at here legal)) c.end.ensures
