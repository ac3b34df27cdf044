-- That a desk's refusal, and the ledger's, is the first that holds.
use Rattle.std.proofs.Common.{◌≡◌, inl, inr, Bool, true, false, refl, sym, ap, subst}
use Rattle.std.specs.Prelude.{Option, None, Some, if◌then◌else◌}
use Rattle.std.proofs.lemmas.Option.{none-some, same_Some}
use Rattle.qc_event.proofs.OneEntry.{none_before}
use Rattle.qc_event.proofs.Wanting.{want_of}
use Rattle.qc_event.specs.Dead.{outcome, is_committed, is_live}
use Rattle.qc_event.specs.History.{Past, Name, is_ready}
use Rattle.qc_desk.proofs.Entering.{alive, closed, unready}
use Rattle.qc_desk.specs.declared.refusal.DeskNo.{DeskNo}
use Rattle.qc_desk.specs.declared.refusal.DeskNo.TheVariants as desk
use Rattle.qc_desk.specs.Refusing.{Refuses as Against, IsShort, against_child, against_commit, against_ready, if_committed, if_dead, if_ended, if_open, if_ready}
use Rattle.qc_ledger.specs.declared.fault.LedgerNo.{LedgerNo}
use Rattle.qc_ledger.specs.declared.fault.LedgerNo.TheVariants as ledger
use Rattle.qc_script.specs.Calls.{CanCommit, RefusesChild, RefusesCommit, TakesChildren}
use Rattle.qc_system.specs.Kept.{HasRefused}
use Rattle.qc_session.specs.Acting.{log_no, no_of}
use Rattle.qc_session.proofs.Refused.{dead_says, in_turn, live, open_says, ready_says}

-- A TEST THAT FAILS, AND ONE THAT DOES NOT

committed_first : (past : Past) (n : Name) (why : DeskNo) → if_committed past n ≡ Some why → (why ≡ desk.Ended) × (is_committed (outcome past n) ≡ true)
committed_first past n why is = by_test (is_committed (outcome past n)) refl is
  where
    by_test : (b : Bool) → is_committed (outcome past n) ≡ b → (if b then Some desk.Ended else None) ≡ Some why → (why ≡ desk.Ended) × (is_committed (outcome past n) ≡ true)
    by_test true h is = (sym (same_Some desk.Ended why is), h)
    by_test false h is = absurd (none-some why is)

not_committed : (past : Past) (n : Name) → if_committed past n ≡ None → is_committed (outcome past n) ≡ false
not_committed past n none = by_test (is_committed (outcome past n)) refl none
  where
    by_test : (b : Bool) → is_committed (outcome past n) ≡ b → (if b then Some desk.Ended else None) ≡ None → is_committed (outcome past n) ≡ false
    by_test true h is = absurd (none-some desk.Ended (sym is))
    by_test false h is = h

ended_first : (past : Past) (n : Name) (why : DeskNo) → if_ended past n ≡ Some why → (why ≡ desk.Ended) × (is_live (outcome past n) ≡ false)
ended_first past n why is = by_test (is_live (outcome past n)) refl is
  where
    by_test : (b : Bool) → is_live (outcome past n) ≡ b → (if b then None else Some desk.Ended) ≡ Some why → (why ≡ desk.Ended) × (is_live (outcome past n) ≡ false)
    by_test true h is = absurd (none-some why is)
    by_test false h is = (sym (same_Some desk.Ended why is), h)

module _ (past : Past) (n : Name) where
  abbrev Child : DeskNo → Type 0
  Child why = RefusesChild past n (no_of why)

  child_wanting : TakesChildren past n → (why : DeskNo) → IsShort past why → Child why
  child_wanting takes (desk.Short s) h = (inr takes, want_of past s h)
  child_wanting takes (desk.Orphan a) h = absurd h
  child_wanting takes desk.Ended h = absurd h
  child_wanting takes (desk.ChildrenOpen x) h = absurd h
  child_wanting takes desk.Ready h = absurd h

  pub child_exact : (why : DeskNo) → Against (against_child n) past why → RefusesChild past n (no_of why)
  child_exact why (inr (free, want)) =
      let first = none_before (if_committed past n) _ free in
      let second = none_before (if_dead past n) _ first.1 in
      child_wanting (not_committed past n first.0, alive past n second.0, unready past n second.1) why want
  child_exact why (inl is) = in_turn Child (if_committed past n) _
      (λ w h. let s = committed_first past n w h in subst Child (sym s.0) s.1)
      (λ other. in_turn Child (if_dead past n) _
      (λ w h. let s = dead_says past n w h in subst Child (sym s.1) (not_committed past n other, s.2))
      (λ living w h. let s = ready_says past n w h in subst Child (sym s.0) (not_committed past n other, alive past n living, s.1)))
      why is

  abbrev Commit : DeskNo → Type 0
  Commit why = RefusesCommit past n (no_of why)

  commit_wanting : CanCommit past n → (why : DeskNo) → IsShort past why → Commit why
  commit_wanting can (desk.Short s) h = (inr can, want_of past s h)
  commit_wanting can (desk.Orphan a) h = absurd h
  commit_wanting can desk.Ended h = absurd h
  commit_wanting can (desk.ChildrenOpen x) h = absurd h
  commit_wanting can desk.Ready h = absurd h

  by_end : (w : DeskNo) → if_ended past n ≡ Some w → Commit w
  by_end w h = let s = ended_first past n w h in subst Commit (sym s.0) s.1

  by_death : if_ended past n ≡ None → (w : DeskNo) → if_dead past n ≡ Some w → Commit w
  by_death before w h = let s = dead_says past n w h in subst Commit (sym s.1) (live past n before, s.2)

  by_child : if_ended past n ≡ None → if_dead past n ≡ None → (w : DeskNo) → if_open past n ≡ Some w → Commit w
  by_child before living w h = let s = open_says past n w h in subst Commit (sym s.1) (live past n before, alive past n living, s.2)

  pub commit_exact : (why : DeskNo) → Against (against_commit n) past why → RefusesCommit past n (no_of why)
  commit_exact why (inr (free, want)) =
      let first = none_before (if_ended past n) _ free in
      let second = none_before (if_dead past n) _ first.1 in
      commit_wanting (live past n first.0, alive past n second.0, closed past n second.1) why want
  commit_exact why (inl is) = in_turn Commit (if_ended past n) _ by_end (λ before. in_turn Commit (if_dead past n) _ (by_death before) (λ living. by_child before living)) why is

  pub ready_exact : (why : DeskNo) → Against (against_ready n) past why → RefusesCommit past n (no_of why)
  ready_exact why (inr (free, want)) =
      let first = none_before (if_ended past n) _ free in
      let second = none_before (if_dead past n) _ first.1 in
      let third = none_before (if_ready past n) _ second.1 in
      commit_wanting (live past n first.0, alive past n second.0, closed past n third.1) why want
  ready_exact why (inl is) = in_turn Commit (if_ended past n) _ by_end
      (λ before. in_turn Commit (if_dead past n) _ (by_death before)
      (λ living. in_turn Commit (if_ready past n) _
      (λ w h. let s = ready_says past n w h in subst Commit (sym s.0) (live past n before, alive past n living, s.1))
      (λ _. by_child before living)))
      why is

  -- the ledger's, of a top that is ready
  pub log_exact : (why : LedgerNo) → is_ready past n ≡ true → HasRefused past n why → RefusesCommit past n (log_no why)
  log_exact ledger.Disk ready h = inl h
  log_exact (ledger.Image bad) ready h = absurd h
  log_exact (ledger.Full place) ready h = inr h
  log_exact (ledger.Short s) ready h = (inl ready, h)
