use Rattle.std.proofs.Common.{◌≡◌, ◌++◌, List, length, take, map, vec_capacity}
use Rattle.qc_event.specs.Legal.{Legal}
use Rattle.qc_event.specs.Standing.{Started, IsUser}
use Rattle.qc_script.specs.Calls.{MeetsLink}
use Rattle.qc_script.specs.Client.{ClientView}
use Rattle.qc_script.specs.Steps.{numbered}
use Rattle.qc_interp.specs.AtOnce.{StandingBranch, stands, BeganInTurn}
use Rattle.qc_interp.proofs.body.row.begin_all.Given as goal

abbrev pub invariant-loop-body : goal.invariant-loop-body
invariant-loop-body g l =
    let view = g.T.Tx.view in
    record {
      met : MeetsLink (view l.tx);
      legal : Legal (view l.tx).client.setting (view l.tx).seen;
      parent : Started (view l.tx).seen l.of (λ b. IsUser b.kind);
      capacity : vec_capacity l.branches ≡ vec_capacity l.fn.branches;
      long : length l.branches.items ≡ l.body-index;
      bodies : map (λ b. numbered b.body.now) l.branches.items ≡ map numbered (take l.body-index l.bodies);
      front : (rest : List StandingBranch) (x : ClientView) → BeganInTurn (view l.tx) l.of rest x → BeganInTurn (view l.fn.tx) l.of (map (stands view) l.branches.items ++ rest) x;
    }
