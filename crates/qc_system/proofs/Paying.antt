-- Each word that a disk was down is paid for by a fault of the disk.
use Rattle.std.proofs.Common.{◌≡◌, ℕ, ◌+◌, ◌-◌, ◌^◌, ◌≤◌, Bool, true, cond, [], ◌∷◌, ◌++◌, refl, sym, ap, ◌∙◌, subst, arith, inl, inr}
use Rattle.std.specs.Prelude.{Option, None, Some, Result, Ok, Err, IfOk, OnErr, IfErr, IsErrOf, OnOk}
use Rattle.std.proofs.Math.Nat.{min-eq_left, min-eq_right, min-le_left}
use Rattle.std.proofs.lemmas.Bool.{cases_lt}
use Rattle.std.proofs.lemmas.List.Sums.{sum_by-append}
use Rattle.qc_disk.specs.Disk.{HasCause, Rose}
use Rattle.qc_disk.specs.declared.disk.Disk.{Ghosts}
use Rattle.qc_event.specs.declared.event.Answered.{Answered}
use Rattle.qc_event.specs.declared.event.Answered.TheVariants as answer
use Rattle.qc_event.specs.declared.event.Ask.{Ask}
use Rattle.qc_event.specs.declared.event.Entry.{Entry}
use Rattle.qc_event.specs.declared.event.Grant.{Grant}
use Rattle.qc_event.specs.declared.event.Why.TheVariants as why
use Rattle.qc_event.specs.declared.short.Short.{Short}
use Rattle.qc_event.specs.History.{Past, Name}
use Rattle.qc_journal.specs.Journal.{disk_of}
use Rattle.qc_journal.specs.declared.journal.Journal.{Journal}
use Rattle.qc_ledger.specs.Entered.{AtMost, CommitsHand, EntersTop, IsBehind, RefusalEnters, commits_of, unlogged_entry}
use Rattle.qc_ledger.specs.declared.fault.LedgerNo.{LedgerNo}
use Rattle.qc_ledger.specs.declared.fault.LedgerNo.TheVariants as no
use Rattle.qc_site.specs.AtDesk.{hand_entries, unable_entry}
use Rattle.qc_site.specs.Replica.{Standing}
use Rattle.qc_site.specs.Sites.{AnswerEnters, EntersHand}
use Rattle.qc_system.specs.declared.boxed.Boxed.{Boxed}
use Rattle.qc_system.specs.Kept.{Pays, downs, is_down}

-- COUNTS

-- the faults of the disk of a journal, which stands in a box
abbrev pub faults_of : {D : Type 0} {g : Ghosts (Boxed D)} → Journal (Boxed D) g → ℕ
faults_of {D} {g} journal = (g.view (disk_of journal)).faults

pub pays_on : (first told old now : ℕ) → old ≤ now → Pays first told old → Pays first told now
pays_on first told old now later pays = omega (arith, later, pays)

-- one more was told, and the count rose
pays_more : (first told old now : ℕ) → Rose old now → Pays first told old → Pays first (1 + told) now
pays_more first told old now rose pays = elim (cases_lt (first + told) (2 ^ 64 - 1)) [
  | inl small ↦
      let was = min-eq_left {n = first + told} {m = 2 ^ 64 - 1} (omega (arith, small)) in
      let is = min-eq_left {n = first + (1 + told)} {m = 2 ^ 64 - 1} (omega (arith, small)) in
      by_end (elim (cases_lt (old + 1) (2 ^ 64 - 1)) [ inl l ↦ omega (arith, rose, pays, was, is, l, min-eq_left {n = old + 1} {m = 2 ^ 64 - 1} (omega (arith, l))) | inr h ↦ omega (arith, rose, pays, was, is, small, h, min-eq_right {n = 2 ^ 64 - 1} {m = old + 1} (omega (arith, h))) ])
  | inr large ↦
      let was = min-eq_right {n = 2 ^ 64 - 1} {m = first + told} (omega (arith, large)) in
      let is = min-eq_right {n = 2 ^ 64 - 1} {m = first + (1 + told)} (omega (arith, large)) in
      omega (arith, rose, pays, was, is, min-eq_right {n = 2 ^ 64 - 1} {m = old + 1} (omega (arith, pays, was)))
]
  where
    by_end : Pays first (1 + told) now → Pays first (1 + told) now
    by_end h = h

pub pays_first : (first now : ℕ) → first ≡ now → Pays first 0 now
pays_first first now is = omega (arith, is, min-le_left (first + 0) (2 ^ 64 - 1))

-- what was paid, or paid once more where this failed
pays_where : (first told old now : ℕ) (Failed : Type 0) → HasCause old now Failed → Pays first told old → (more : ℕ) → ((more ≡ told)) → Pays first more now
pays_where first told old now Failed cause pays more same = subst (λ n. Pays first n now) (sym same) (pays_on first told old now cause.later pays)

one_down : (e : Entry) (mid : Past) → is_down e.event ≡ true → downs (e ∷ mid) ≡ 1 + downs mid
one_down e mid is = sum_by-append (λ (x : Entry). cond (is_down x.event) 1 0) (e ∷ []) mid ∙ ap (λ (b : Bool). (0 + cond b 1 0) + downs mid) is

-- WHAT A COPY ENTERS

hand_none : (copy : ℕ) (hand : Option Grant) (old : Past) → downs (hand_entries copy hand ++ old) ≡ downs old
hand_none copy None old = refl
hand_none copy (Some g) old = refl

-- what these entries do not change is unchanged
pub at_most : {A : Type 0} (f : Past → A) (these old new : Past) → f (these ++ old) ≡ f old → AtMost these old new → f new ≡ f old
at_most f these old new none (inl is) = ap f is
at_most f these old new none (inr is) = ap f is ∙ none

-- what enters at most the grant in hand costs nothing
pub hand_pays : (copy : ℕ) (old new : Standing) (first before now : ℕ) → EntersHand copy old new → before ≤ now → Pays first (downs old.pass.mine) before → Pays first (downs new.pass.mine) now
hand_pays copy old new first before now enters later pays =
    subst (λ n. Pays first n now) (sym (at_most downs (hand_entries copy old.hand) old.pass.mine new.pass.mine (hand_none copy old.hand old.pass.mine) enters)) (pays_on first _ before now later pays)

module _ (copy : ℕ) (ask : Ask) (old new : Standing) (first before now : ℕ) where
  same : EntersHand copy old new → downs new.pass.mine ≡ downs old.pass.mine
  same h = at_most downs (hand_entries copy old.hand) old.pass.mine new.pass.mine (hand_none copy old.hand old.pass.mine) h

  behind : (e : Entry) → downs (e ∷ []) ≡ 0 → IsBehind (hand_entries copy old.hand) (e ∷ []) old.pass.mine new.pass.mine → downs new.pass.mine ≡ downs old.pass.mine
  behind e none h = ap downs h.all ∙ one (at_most downs (hand_entries copy old.hand) old.pass.mine h.mid (hand_none copy old.hand old.pass.mine) h.first_of_all)
    where
      one : downs h.mid ≡ downs old.pass.mine → downs (e ∷ h.mid) ≡ downs old.pass.mine
      one is = omega (arith, sum_by-append (λ (x : Entry). cond (is_down x.event) 1 0) (e ∷ []) h.mid, none, is)

  -- an answer that tells no fault costs nothing
  pub answer_pays : (said : Answered) → AnswerEnters copy ask said old new → (Failed : Type 0) → HasCause before now Failed → (said ≡ answer.Down → Failed) → Pays first (downs old.pass.mine) before → Pays first (downs new.pass.mine) now
  answer_pays (answer.Granted tuple) (inl h) Failed cause fails pays = pays_where first _ before now Failed cause pays _ (same h)
  answer_pays (answer.Granted tuple) (inr h) Failed cause fails pays = pays_where first _ before now Failed cause pays _ (behind _ refl h)
  answer_pays (answer.Blocked holder) h Failed cause fails pays = pays_where first _ before now Failed cause pays _ (behind _ refl h)
  answer_pays (answer.Dead ancestor) h Failed cause fails pays = pays_where first _ before now Failed cause pays _ (behind _ refl h)
  answer_pays answer.Down h Failed cause fails pays =
      let mid = at_most downs (hand_entries copy old.hand) old.pass.mine h.mid (hand_none copy old.hand old.pass.mine) h.first_of_all in
      let is : downs new.pass.mine ≡ 1 + downs old.pass.mine = ap downs h.all ∙ one_down (unable_entry copy ask why.Down) h.mid refl ∙ ap (λ n. 1 + n) mid in
      subst (λ n. Pays first n now) (sym is) (pays_more first (downs old.pass.mine) before now (cause.failed (fails refl)) pays)
  answer_pays answer.Full h Failed cause fails pays = pays_where first _ before now Failed cause pays _ (behind _ refl h)
  answer_pays answer.Strange h Failed cause fails pays = pays_where first _ before now Failed cause pays _ (behind _ refl h)

  pub serve_pays : (r : Result Answered Short) → IfOk r (λ said. AnswerEnters copy ask said old new) → OnErr r (EntersHand copy old new) → HasCause before now (r ≡ Ok answer.Down) → Pays first (downs old.pass.mine) before → Pays first (downs new.pass.mine) now
  serve_pays (Ok said) enters err cause pays = answer_pays said enters (Ok said ≡ Ok answer.Down) cause (ap Ok) pays
  serve_pays (Err short) enters err cause pays = pays_where first _ before now _ cause pays _ (same err)

-- WHAT THE LEDGER ENTERS

commits_none : (hand : Option Name) (old : Past) → downs (commits_of hand ++ old) ≡ downs old
commits_none None old = refl
commits_none (Some top) old = refl

module _ (hand : Option Name) (top : Name) (old new : Past) (first before now : ℕ) where
  hand_same : CommitsHand hand old new → downs new ≡ downs old
  hand_same h = at_most downs (commits_of hand) old new (commits_none hand old) h

  top_same : EntersTop hand top old new → downs new ≡ downs old
  top_same (inl h) = hand_same h
  top_same (inr h) = ap downs h.all ∙ at_most downs (commits_of hand) old h.mid (commits_none hand old) h.first_of_all

  refusal_pays : (r : LedgerNo) → RefusalEnters r hand top old new → (Failed : Type 0) → HasCause before now Failed → (r ≡ no.Disk → Failed) → Pays first (downs old) before → Pays first (downs new) now
  refusal_pays no.Disk h Failed cause fails pays =
      let is : downs new ≡ 1 + downs old = ap downs h.all ∙ one_down (unlogged_entry top why.Down) h.mid refl ∙ ap (λ n. 1 + n) (at_most downs (commits_of hand) old h.mid (commits_none hand old) h.first_of_all) in
      subst (λ n. Pays first n now) (sym is) (pays_more first (downs old) before now (cause.failed (fails refl)) pays)
  refusal_pays (no.Image bad) h Failed cause fails pays = absurd h
  refusal_pays (no.Full place) h Failed cause fails pays = pays_where first _ before now Failed cause pays _ (ap downs h.all ∙ at_most downs (commits_of hand) old h.mid (commits_none hand old) h.first_of_all)
  refusal_pays (no.Short want) h Failed cause fails pays = pays_where first _ before now Failed cause pays _ (hand_same h)

  pub log_pays : (r : Result (Unit {0}) LedgerNo) → OnOk r (EntersTop hand top old new) → IfErr r (λ refusal. RefusalEnters refusal hand top old new) → HasCause before now (IsErrOf r no.Disk) → Pays first (downs old) before → Pays first (downs new) now
  log_pays (Ok x) ok err cause pays = pays_where first _ before now _ cause pays _ (top_same ok)
  log_pays (Err r) ok err cause pays = refusal_pays r err (IsErrOf (Err r) no.Disk) cause (λ is. ap Err is) pays
