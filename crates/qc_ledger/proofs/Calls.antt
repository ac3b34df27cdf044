-- What one call of a ledger leaves, and what that and the next leave together.
use Rattle.std.proofs.Common.{◌≡◌, ℕ, [], List, refl, sym, ap, ◌∙◌, subst, arith}
use Rattle.std.specs.Prelude.{IsTrue, is_some, Option, None, Some, Result, Ok, Err, OnOk}
use Rattle.qc_codec.specs.declared.past.Logged.{Logged}
use Rattle.qc_disk.specs.Disk.{IsImage}
use Rattle.qc_disk.specs.declared.disk.Disk.{Ghosts}
use Rattle.qc_event.specs.History.{Name, end}
use Rattle.qc_event.specs.Seats.{ledger_seat}
use Rattle.qc_journal.specs.Journal.{IsUp, Keeps, disk_of, limit_of}
use Rattle.qc_journal.specs.declared.journal.Journal.{Journal}
use Rattle.qc_journal.proofs.Moments.{falls_none, started, weakened}
use Rattle.qc_ledger.specs.Calls.{HasLogged, LedgerBecame, LedgerState, LedgerWroteNone, TopMoments}
use Rattle.qc_ledger.specs.Entered.{EntersTop, GrowsBy, KeepsLogged, tops_of}
use Rattle.qc_ledger.specs.Runs.{Falls, GoesOn, HasOrMore, Leaves, LosesNone}
use Rattle.qc_ledger.specs.Shelf.{journal_in, top_body, top_in}
use Rattle.qc_ledger.specs.Since.{IsNext, TopsGrow}
use Rattle.qc_ledger.specs.declared.shelf.Shelf.{Shelf}
use Rattle.qc_ledger.proofs.Logging.{LeavesNow, falls_grow, grew_by, loses_none_on, same_moments, then_grew, then_none}
use Rattle.qc_ledger.proofs.Since.{over_same, tops_on, tops_risen, tops_written}
use Rattle.qc_desk.specs.declared.view.View.{View}
use Rattle.qc_desk.specs.Entries.{IsOlder, entries_of}
use Rattle.qc_desk.proofs.Seers.{older_trans}

module _ {D : Type 0} {g : Ghosts D} where
  abbrev left_by : Shelf D g → List ℕ → Type 0
  left_by shelf = (g.view (disk_of (journal_in shelf))).may_leave

  abbrev disk_in : Shelf D g → D
  disk_in shelf = disk_of (journal_in shelf)

  -- ONE CALL

  -- nothing was written
  pub wrote_none : (old new : LedgerState g) → LeavesNow (journal_in old.shelf) → Leaves (journal_in old.shelf) (journal_in new.shelf) (left_by old.shelf) → Falls (journal_in old.shelf) (journal_in new.shelf)
      → IsOlder old.pass.seen new.pass.seen → LedgerWroteNone old new
  wrote_none old new law leaves falls older = record {
    moments = leaves;
    falls = falls;
    grown = λ told before since grown. tops_risen told before since old.shelf new.shelf new.shelf old.pass.seen new.pass.seen law leaves falls refl older grown;
  }

  -- nothing was written, and what is kept goes on
  pub kept_on : (old new : LedgerState g) → LedgerWroteNone old new → IsOlder old.pass.seen new.pass.seen → limit_of (journal_in new.shelf) ≡ limit_of (journal_in old.shelf) → GoesOn (journal_in old.shelf) (journal_in new.shelf)
      → ((told : Name → List Name) (before : List (List ℕ)) → KeepsLogged told before old.shelf (tops_of old.pass.mine) → KeepsLogged told before new.shelf (tops_of new.pass.mine)) → LedgerBecame None old new
  kept_on old new none older limit place kept = record {
    kept = λ told before is k. kept told before k;
    moments = λ told before k. none.moments;
    grows = λ told before k. falls_grow (journal_in old.shelf) (journal_in new.shelf) none.falls;
    grown = λ told before since is k grown. none.grown told before since grown;
    seen = older;
    limit = limit;
    place = place;
  }

  -- the journal was brought up
  pub risen : (old new : LedgerState g) → LeavesNow (journal_in old.shelf) → Leaves (journal_in old.shelf) (journal_in new.shelf) (left_by old.shelf) → Falls (journal_in old.shelf) (journal_in new.shelf) → new.pass ≡ old.pass
      → limit_of (journal_in new.shelf) ≡ limit_of (journal_in old.shelf) → GoesOn (journal_in old.shelf) (journal_in new.shelf)
      → ((told : Name → List Name) (before tops : List (List ℕ)) → KeepsLogged told before old.shelf tops → KeepsLogged told before new.shelf tops) → LedgerBecame None old new × LedgerWroteNone old new
  risen old new law leaves falls pass limit place over =
      let older : IsOlder old.pass.seen new.pass.seen = subst (λ (v : View). IsOlder old.pass.seen v.seen) (sym pass) ([], refl) in
      let none = wrote_none old new law leaves falls older in
      (kept_on old new none older limit place (λ told before k. subst (λ (v : View). KeepsLogged told before new.shelf (tops_of v.mine)) (sym pass) (over told before (tops_of old.pass.mine) k)), none)

  -- over the same journal
  pub same_journal : (old new : LedgerState g) → LeavesNow (journal_in old.shelf) → journal_in new.shelf ≡ journal_in old.shelf → IsOlder old.pass.seen new.pass.seen → LedgerWroteNone old new
  same_journal old new law same older = record {
    moments = subst (λ (j : Journal D g). Leaves (journal_in old.shelf) j (left_by old.shelf)) (sym same) (started g.view (disk_in old.shelf) (left_by old.shelf) (λ c at. (law c).0 at));
    falls = subst (λ (j : Journal D g). Falls (journal_in old.shelf) j) (sym same) (falls_none g.view (disk_in old.shelf));
    grown = λ told before since grown. tops_on told before since old.shelf new.shelf old.pass.seen new.pass.seen same older grown;
  }

  pub entered : (old new : LedgerState g) → LeavesNow (journal_in old.shelf) → journal_in new.shelf ≡ journal_in old.shelf → IsOlder old.pass.seen new.pass.seen
      → ((told : Name → List Name) (before : List (List ℕ)) → KeepsLogged told before old.shelf (tops_of old.pass.mine) → KeepsLogged told before new.shelf (tops_of new.pass.mine)) → LedgerBecame None old new
  entered old new law same older kept =
      kept_on old new (same_journal old new law same older) older (ap (λ (j : Journal D g). limit_of j) same) (subst (λ (j : Journal D g). GoesOn (journal_in old.shelf) j) (sym same) (omega arith)) kept

  -- nothing was entered
  pub looked : (old new : LedgerState g) → LeavesNow (journal_in old.shelf) → journal_in new.shelf ≡ journal_in old.shelf → top_in new.shelf ≡ top_in old.shelf → new.pass.mine ≡ old.pass.mine → IsOlder old.pass.seen new.pass.seen → LedgerBecame None old new
  looked old new law same hand mine older = entered old new law same older (λ told before k. over_same told before 0 old.shelf new.shelf (tops_of old.pass.mine) (tops_of new.pass.mine) same hand (ap tops_of mine) k)

  -- a call that wrote nothing was one that might have
  pub logs : (logged : Logged) (old new : LedgerState g) → LedgerBecame None old new → LedgerBecame (Some logged) old new
  logs logged old new one = record {
    kept = λ told before is k. one.kept told before tt k;
    moments = λ told before k. same_moments (journal_in old.shelf) (journal_in new.shelf) (top_body logged.top logged.aborted) _ k.keeps (one.moments told before k);
    grows = one.grows;
    grown = λ told before since is k grown. one.grown told before since tt k grown;
    seen = one.seen;
    limit = one.limit;
    place = one.place;
  }

  -- a top's record was written, with nothing in hand before
  module _ (logged : Logged) (old new : LedgerState g) (own : old.pass.mine ≡ entries_of ledger_seat old.pass.seen) (next : IsNext old.pass.seen logged.top) where
    pub wrote_top : IsImage (g.view (disk_in old.shelf)).content (left_by old.shelf) → IsUp (journal_in old.shelf) → top_in old.shelf ≡ None
        → ((found : List (List ℕ)) → Keeps (journal_in old.shelf) found → Leaves (journal_in old.shelf) (journal_in new.shelf) (HasOrMore found (top_body logged.top logged.aborted)))
        → ((found : List (List ℕ)) → Keeps (journal_in old.shelf) found → LosesNone (journal_in old.shelf) (journal_in new.shelf))
        → new.pass ≡ old.pass → limit_of (journal_in new.shelf) ≡ limit_of (journal_in old.shelf) → GoesOn (journal_in old.shelf) (journal_in new.shelf)
        → ((told : Name → List Name) (before tops : List (List ℕ)) → logged.aborted ≡ told logged.top → KeepsLogged told before old.shelf tops → KeepsLogged told before new.shelf tops) → LedgerBecame (Some logged) old new
    wrote_top image up none leaves grows pass limit place over = record {
      kept = λ told before is k. subst (λ (v : View). KeepsLogged told before new.shelf (tops_of v.mine)) (sym pass) (over told before (tops_of old.pass.mine) is k);
      moments = λ told before k. grew_by (journal_in old.shelf) (journal_in new.shelf) (top_body logged.top logged.aborted) _ k.keeps up image (leaves _ k.keeps);
      grows = λ told before k. grows _ k.keeps;
      grown = λ told before since is k grown. subst (λ (v : View). TopsGrow told before since new.shelf v.seen) (sym pass)
          (tops_written told before old.pass.seen old.pass.mine logged.top own next since old.shelf new.shelf (top_body logged.top logged.aborted) (ap (λ (l : List Name). top_body logged.top l) is) none leaves grows k grown);
      seen = subst (λ (v : View). IsOlder old.pass.seen v.seen) (sym pass) ([], refl);
      limit = limit;
      place = place;
    }

  -- TWO CALLS

  pub none_on : (old mid new : LedgerState g) → LeavesNow (journal_in mid.shelf) → LedgerWroteNone old mid → journal_in new.shelf ≡ journal_in mid.shelf → IsOlder mid.pass.seen new.pass.seen → LedgerWroteNone old new
  none_on old mid new law one same older = record {
    moments = subst (λ (j : Journal D g). Leaves (journal_in old.shelf) j (left_by old.shelf)) (sym same) one.moments;
    falls = subst (λ (j : Journal D g). Falls (journal_in old.shelf) j) (sym same) one.falls;
    grown = λ told before since grown. tops_on told before since mid.shelf new.shelf mid.pass.seen new.pass.seen same older (one.grown told before since grown);
  }

  some_run : (logged : Option Logged) (old new : Shelf D g) → TopMoments logged old new → Leaves (journal_in old) (journal_in new) (λ c. Unit {0})
  some_run None old new run = weakened g.view (disk_in old) (disk_in new) (left_by old) (λ c. Unit {0}) run (λ c left. tt)
  some_run (Some logged) old new run = weakened g.view (disk_in old) (disk_in new) (GrowsBy (top_body logged.top logged.aborted) (left_by old)) (λ c. Unit {0}) run (λ c left. tt)

  first_none : (logged : Option Logged) (old mid new : Shelf D g) (bodies : List (List ℕ)) → Keeps (journal_in old) bodies → LeavesNow (journal_in mid) → TopMoments None old mid → TopMoments logged mid new → TopMoments logged old new
  first_none None old mid new bodies k law first run = then_none (journal_in old) (journal_in mid) (journal_in new) (left_by old) law first run
  first_none (Some logged) old mid new bodies k law first run = then_grew (journal_in old) (journal_in mid) (journal_in new) (top_body logged.top logged.aborted) bodies k law first run

  last_none : (logged : Option Logged) (old mid new : Shelf D g) → LeavesNow (journal_in mid) → TopMoments logged old mid → TopMoments None mid new → TopMoments logged old new
  last_none None old mid new law run last = then_none (journal_in old) (journal_in mid) (journal_in new) (left_by old) law run last
  last_none (Some logged) old mid new law run last = then_none (journal_in old) (journal_in mid) (journal_in new) (GrowsBy (top_body logged.top logged.aborted) (left_by old)) law run last

  -- the first wrote nothing
  pub became_on : (logged : Option Logged) (old mid new : LedgerState g) → LeavesNow (journal_in mid.shelf) → LedgerBecame None old mid → LedgerBecame logged mid new → LedgerBecame logged old new
  became_on logged old mid new law one two = record {
    kept = λ told before is k. two.kept told before is (one.kept told before tt k);
    moments = λ told before k. first_none logged old.shelf mid.shelf new.shelf _ k.keeps law (one.moments told before k) (two.moments told before (one.kept told before tt k));
    grows = λ told before k.
        loses_none_on (journal_in old.shelf) (journal_in mid.shelf) (journal_in new.shelf) (left_by old.shelf) (λ c. Unit {0}) (one.moments told before k)
        (some_run logged mid.shelf new.shelf (two.moments told before (one.kept told before tt k))) (one.grows told before k) (two.grows told before (one.kept told before tt k));
    grown = λ told before since is k grown. two.grown told before since is (one.kept told before tt k) (one.grown told before since tt k grown);
    seen = older_trans old.pass.seen mid.pass.seen new.pass.seen one.seen two.seen;
    limit = two.limit ∙ one.limit;
    place = omega (arith, one.place, two.place);
  }

  -- and the next entered at most
  pub then_entered : (old mid new : LedgerState g) → LeavesNow (journal_in mid.shelf) → LedgerBecame None old mid → journal_in new.shelf ≡ journal_in mid.shelf → IsOlder mid.pass.seen new.pass.seen
      → ((told : Name → List Name) (before : List (List ℕ)) → KeepsLogged told before mid.shelf (tops_of mid.pass.mine) → KeepsLogged told before new.shelf (tops_of new.pass.mine)) → LedgerBecame None old new
  then_entered old mid new law one same older kept = became_on None old mid new law one (entered mid new law same older kept)

  -- the last is over the same journal
  pub became_last : (logged : Option Logged) (old mid new : LedgerState g) → LeavesNow (journal_in mid.shelf) → LedgerBecame logged old mid → journal_in new.shelf ≡ journal_in mid.shelf → IsOlder mid.pass.seen new.pass.seen
      → ((told : Name → List Name) (before : List (List ℕ)) → KeepsLogged told before mid.shelf (tops_of mid.pass.mine) → KeepsLogged told before new.shelf (tops_of new.pass.mine)) → LedgerBecame logged old new
  became_last logged old mid new law one same older kept =
      let last = same_journal mid new law same older in
      record {
        kept = λ told before is k. kept told before (one.kept told before is k);
        moments = λ told before k. last_none logged old.shelf mid.shelf new.shelf law (one.moments told before k) last.moments;
        grows = λ told before k. subst (λ (j : Journal D g). LosesNone (journal_in old.shelf) j) (sym same) (one.grows told before k);
        grown = λ told before since is k grown. last.grown told before since (one.grown told before since is k grown);
        seen = older_trans old.pass.seen mid.pass.seen new.pass.seen one.seen older;
        limit = ap (λ (j : Journal D g). limit_of j) same ∙ one.limit;
        place = subst (λ (j : Journal D g). GoesOn (journal_in old.shelf) j) (sym same) one.place;
      }

  -- WHAT IS LOGGED

  pub logged_stands : {T E : Type 0} (r : Result T E) (top : Name) (old new : LedgerState g) → OnOk r (HasLogged top old new) → OnOk r (IsTrue (is_some (end new.pass.seen top)))
  logged_stands (Ok x) top old new logged = logged.stands
  logged_stands (Err e) top old new logged = tt

  pub logged_enters : {T E : Type 0} (r : Result T E) (top : Name) (old new : LedgerState g) → OnOk r (HasLogged top old new) → OnOk r (EntersTop (top_in old.shelf) top old.pass.mine new.pass.mine)
  logged_enters (Ok x) top old new logged = logged.enters
  logged_enters (Err e) top old new logged = tt
