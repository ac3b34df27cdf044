-- The pass of the first copy, as the first pass gives it: locks that nothing holds follow what it has seen.
use Rattle.std.proofs.Common.{◌≡◌, [], sym, ap, subst}
use Rattle.qc_event.specs.History.{grants}
use Rattle.qc_moss.specs.Follows.{TableFollows}
use Rattle.qc_moss.specs.Locks.{Table, unheld}
use Rattle.qc_moss.proofs.Tables.{starts}
use Rattle.qc_desk.specs.declared.view.View.{View}
use Rattle.qc_desk.specs.Rules.{IsSplit, pass}
use Rattle.rows_request.specs.OneCopy.{start}
use Rattle.rows_desk.proofs.Tops.{low, next_low}

pub locks_start : (first then last ledger copy : View) (table : Table) → first ≡ pass 0 [] → IsSplit first then ledger → IsSplit then last copy → table ≡ unheld start → TableFollows copy.seen (grants copy.seen 0) table
locks_start first then last ledger copy table is one two unlocked =
    let after = (low first then ledger is one).0 in
    let seen = ap (λ (x : View). x.seen) (next_low then last copy after two).1 in
    subst (λ p. TableFollows p (grants p 0) table) (sym seen) (subst (TableFollows [] []) (sym unlocked) (starts [] start))
