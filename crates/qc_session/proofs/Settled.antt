-- A closed history, in which the clients of some sessions acted: each entry of a client is one of theirs, and each access
-- whose manager has ended has ended.
use Rattle.std.proofs.Common.{◌≡◌, ℕ, ◌==◌, ◌<◌, ◌⊎◌, inl, inr, Bool, true, false, cond, List, [], ◌∷◌, refl, sym, ap, ◌∙◌, subst, arith}
use mathlib.Core.Bool.{true≢false, Bool-set}
use Rattle.std.proofs.Math.Logic.{∥∥₁_elim}
use Rattle.std.specs.Prelude.{Option, None, Some, MatchOption, is_some, nat_lt, ◌||◌, IsTrue}
use Rattle.std.specs.List.{AllByRecursion, list_any}
use Rattle.std.proofs.lemmas.Bool.{eq-eqb, eqb-true}
use Rattle.std.proofs.lemmas.Bool.Decides.{nat_tests}
use Rattle.qc_names.specs.Name as name
use Rattle.qc_event.specs.declared.event.Entry.{Entry}
use Rattle.qc_event.specs.declared.event.Event.{Event}
use Rattle.qc_event.specs.declared.event.Event.TheVariants as event
use Rattle.qc_event.specs.Base.{Setting}
use Rattle.qc_event.specs.History.{Past, Name, Begun, end, same, start, start_in}
use Rattle.qc_event.specs.Legal.{Legal, MayHappen}
use Rattle.qc_event.specs.Seats.{is_client}
use Rattle.qc_event.specs.Standing.{IsManager, Started, open_child}
use Rattle.qc_event.proofs.LastNumber.{EndsIn, ends_in, front_last}
use Rattle.qc_event.proofs.Lawful.{lawful, no_open_child, started_some}
use Rattle.qc_event.proofs.LegalOrderly.{legal_orderly}
use Rattle.qc_event.proofs.OneEntry.{first_is, if_is, some_or_none}
use Rattle.qc_interp.specs.Sessions.{AccessesEnd}
use Rattle.qc_interp.proofs.Sessions.Owners.{starts_client}
use Rattle.qc_desk.specs.declared.view.View.{View}
use Rattle.qc_desk.specs.Entries.{entries_of}
use Rattle.qc_desk.specs.Own.{IsMine}
use Rattle.qc_desk.specs.Rules.{Has, IsSettled}
use Rattle.qc_script.specs.Calls.{is_access}
use Rattle.qc_session.specs.Session.{is_of}
use Rattle.qc_session.specs.Tidy.{IsTidy}
use Rattle.qc_session.proofs.Joining.{pair}
use Rattle.qc_session.proofs.Standing.{manager_above}
use Rattle.qc_event.proofs.Booleans.{or_true}

-- SEATS

-- whether a seat is one of these passes'
abbrev pub is_one : List View → ℕ → Bool
is_one ones k = list_any (λ (v : View). is_of v k) ones

-- under a client's seat that is none of theirs nothing was entered
abbrev NoneElse : List View → Past → Type 0
NoneElse ones past = (k : ℕ) → is_client k ≡ true → is_one ones k ≡ false → entries_of k past ≡ []

-- each entry under a client's seat is one of theirs
abbrev pub AreTheirs : List View → Past → Type 0
AreTheirs ones past = AllByRecursion (λ (e : Entry). is_client e.seat ≡ true → is_one ones e.seat ≡ true) past

-- a client's seat is 0, or above those of the ledger and the copies
client_seats : (k : ℕ) → is_client k ≡ true → (k ≡ 0) ⊎ (17 < k)
client_seats k is = by_zero (k == 0) refl is
  where
    by_zero : (b : Bool) → (k == 0) ≡ b → (b || nat_lt 17 k) ≡ true → (k ≡ 0) ⊎ (17 < k)
    by_zero true zero h = inl (eqb-true k 0 zero)
    by_zero false zero h = inr (grind (arith, nat_tests))

-- a number above those of the ledger and the copies is a client's
pub client_above : (n : ℕ) → 17 < n → is_client n ≡ true
client_above n above = ap (λ b. (n == 0) || b) (Rattle.std.proofs.lemmas.Bool.lt-ltb 17 n above) ∙ or_true (n == 0)

tail_none : (k : ℕ) (e : Entry) (past : Past) → entries_of k (e ∷ past) ≡ [] → ((e.seat == k) ≡ false) × (entries_of k past ≡ [])
tail_none k e past none = by_test (e.seat == k) refl none
  where
    by_test : (b : Bool) → (e.seat == k) ≡ b → cond b (e ∷ entries_of k past) (entries_of k past) ≡ [] → ((e.seat == k) ≡ false) × (entries_of k past ≡ [])
    by_test true is h = absurd cc
    by_test false is h = (is, h)

theirs : (ones : List View) (past : Past) → NoneElse ones past → AreTheirs ones past
theirs ones [] none = tt
theirs ones (e ∷ past) none = (λ client. by_test (is_one ones e.seat) refl client, theirs ones past (λ k client other. (tail_none k e past (none k client other)).1))
  where
    by_test : (b : Bool) → is_one ones e.seat ≡ b → is_client e.seat ≡ true → b ≡ true
    by_test true is client = refl
    by_test false is client = absurd (true≢false (sym (eq-eqb e.seat e.seat refl) ∙ (tail_none e.seat e past (none e.seat client is)).0))

-- where the kin of the first pass, which entered nothing itself, are these passes, and all clients' entries are its own or
-- its kin's
pub all_theirs : (ones : List View) (past : Past) (first : View) → first.mine ≡ [] → IsSettled past first → ((k : ℕ) (m : Past) → Has first.kin (pair k m) → is_one ones k ≡ true) → AreTheirs ones past
all_theirs ones past first nothing settled kin = theirs ones past none
  where
    by_kin : (k : ℕ) → is_one ones k ≡ false → (entries_of k past ≡ []) ⊎ Has first.kin (k, entries_of k past) → entries_of k past ≡ []
    by_kin k other (inl none) = none
    by_kin k other (inr h) = absurd (true≢false (sym (kin k (entries_of k past) h) ∙ other))

    by_seat : (k : ℕ) → is_one ones k ≡ false → (k ≡ 0) ⊎ (17 < k) → entries_of k past ≡ []
    by_seat k other (inl zero) = ap (λ n. entries_of n past) zero ∙ settled.0 ∙ nothing
    by_seat k other (inr high) = by_kin k other (settled.2 k high)

    none : NoneElse ones past
    none k client other = by_seat k other (client_seats k client)

-- THEIR ACCESSES

-- who has started was started by one of them
started_theirs : (setting : Setting) (ones : List View) (past : Past) (n : Name) (b : Begun) → Legal setting past → AreTheirs ones past → start past n ≡ Some b → is_one ones b.seat ≡ true
started_theirs setting ones [] n b legal all is = absurd cc
started_theirs setting ones (e ∷ past) n b legal all is = elim (first_is (start past n) (start_in n e.seat e.event) b is) [
  | inl old ↦ started_theirs setting ones past n b legal.0 all.1 old
  | inr new ↦ by_event e.event legal.1 new.1
]
  where
    by_event : (ev : Event) → MayHappen setting past e.seat ev → start_in n e.seat ev ≡ Some b → is_one ones b.seat ≡ true
    by_event (event.Start m k) may at =
        subst (λ (x : Begun). is_one ones x.seat ≡ true) (if_is (same m n) (record { seat = e.seat; kind = k }) b at).1 (all.0 (starts_client setting past e.seat m k may))
    by_event (event.Ask ask) may at = absurd cc
    by_event (event.Gone m why) may at = absurd cc
    by_event (event.Granted copy grant) may at = absurd cc
    by_event (event.Refused m copy refusal) may at = absurd cc
    by_event (event.Unable m why) may at = absurd cc
    by_event (event.Mark by session) may at = absurd cc
    by_event (event.Ready m) may at = absurd cc
    by_event (event.End m how) may at = absurd cc

module _ (setting : Setting) (ones : List View) (past : Past) (legal : Legal setting past) (all : AreTheirs ones past) (tidy : (k : ℕ) → is_one ones k ≡ true → ∥ IsTidy k past ∥₁) where
  -- a manager was started under a seat that is one of theirs
  seat_of : (m : Name) → Started past m (λ b. IsManager b.kind) → (k : ℕ) × (is_one ones k ≡ true) × IsMine past k m
  seat_of m manager = by_start (start past m) refl manager
    where
      by_start : (o : Option Begun) → start past m ≡ o → MatchOption o ⊥ (λ b. IsManager b.kind) → (k : ℕ) × (is_one ones k ≡ true) × MatchOption o ⊥ (λ b. IsManager b.kind × (b.seat ≡ k))
      by_start None at manager = absurd manager
      by_start (Some b) at manager = (b.seat, started_theirs setting ones past m b legal all at, (manager, refl))

  closed : (m : Name) → Started past m (λ b. IsManager b.kind) → is_some (end past m) ≡ true → (n : Name) → (open_child past m ≡ None → is_some (end past n) ≡ true) → is_some (end past n) ≡ true
  closed m manager over n then =
      let at = seat_of m manager in
      ∥∥₁_elim (tidy at.0 at.1) (hlevel Bool-set) (λ (t : IsTidy at.0 past). then (t.closed m at.2 over))

  pub accesses_end : AccessesEnd past
  accesses_end n access over = by_name n (ends_in n) access over
    where
      by_name : (m : Name) → (m ≡ []) ⊎ EndsIn m → Started past m (λ b. IsTrue (is_access b.kind)) → is_some (end past (name.front m)) ≡ true → is_some (end past m) ≡ true
      by_name m (inl root) access over = absurd (some_or_none (start past []) (subst (λ x. is_some (start past x) ≡ true) root (started_some (λ b. IsTrue (is_access b.kind)) (start past m) access)) (lawful past (legal_orderly setting past legal)).no_root_start)
      by_name m (inr (p, j, is)) access over =
          let front : name.front m ≡ p = ap name.front is ∙ front_last p j in
          closed (name.front m) (manager_above setting past m legal access) over m (λ none.
          subst (λ x. is_some (end past x) ≡ true) (sym is)
          (no_open_child past p j (subst (λ x. open_child past x ≡ None) front none) (subst (λ x. is_some (start past x) ≡ true) is (started_some (λ b. IsTrue (is_access b.kind)) (start past m) access))))
