-- Where accesses stand: below a manager, under its seat, and none is a user transaction or a manager itself.
use Rattle.std.proofs.Common.{◌≡◌, ◌<◌, inl, inr, Bool, true, false, [], ◌∷◌, ◌++◌, length, refl, sym, ap, ◌∙◌, subst}
use mathlib.Core.Bool.{true≢false}
use Rattle.std.specs.Prelude.{Option, None, Some, MatchOption, is_some, IsTrue, if◌then◌else◌}
use Rattle.std.specs.Option.{option_or}
use Rattle.qc_names.specs.Name as name
use Rattle.qc_event.specs.declared.event.Event.{Event}
use Rattle.qc_event.specs.declared.event.Event.TheVariants as event
use Rattle.qc_event.specs.declared.event.Kind.{Kind}
use Rattle.qc_event.specs.declared.event.Kind.TheVariants as kind
use Rattle.qc_event.specs.Base.{Setting}
use Rattle.qc_event.specs.History.{Past, Name, Begun, Asked, same, start, start_in, asked, ask_in, is_child}
use Rattle.qc_event.specs.Legal.{Legal, MayHappen}
use Rattle.qc_event.specs.Standing.{IsUser, IsManager, Started}
use Rattle.qc_event.specs.Starts.{Stands, Starts}
use Rattle.qc_event.proofs.Absent.{same_is}
use Rattle.qc_event.proofs.LastNumber.{child_last}
use Rattle.qc_event.proofs.Lawful.{lawful, user_parent, started_wider, started_some}
use Rattle.qc_event.proofs.LegalOrderly.{legal_orderly}
use Rattle.qc_event.proofs.Orderly.{Belongs}
use Rattle.qc_event.proofs.OneEntry.{Starting, start_step, start_is, started_stays}
use Rattle.qc_event.proofs.KindsApart.{user_or_manager}
use Rattle.qc_script.specs.Calls.{is_access}

-- KINDS

pub not_both : (past : Past) (n : Name) → Started past n (λ b. IsUser b.kind) → Started past n (λ b. IsManager b.kind) → ⊥
not_both past n user manager = by_start (start past n) user manager
  where
    by_start : (o : Option Begun) → MatchOption o ⊥ (λ b. IsUser b.kind) → MatchOption o ⊥ (λ b. IsManager b.kind) → ⊥
    by_start None user manager = user
    by_start (Some b) user manager = user_or_manager b.kind user manager

access_not_manager : (k : Kind) → is_access k ≡ true → IsManager k → ⊥
access_not_manager kind.Access is manager = manager
access_not_manager _ is manager = true≢false (sym is)

pub not_access_too : (past : Past) (n : Name) → Started past n (λ b. IsTrue (is_access b.kind)) → Started past n (λ b. IsManager b.kind) → ⊥
not_access_too past n access manager = by_start (start past n) access manager
  where
    by_start : (o : Option Begun) → MatchOption o ⊥ (λ b. IsTrue (is_access b.kind)) → MatchOption o ⊥ (λ b. IsManager b.kind) → ⊥
    by_start None access manager = access
    by_start (Some b) access manager = access_not_manager b.kind access manager

-- a start that stands is the same later on
pub some_first : {Y : Type 0} (o x : Option Y) → is_some o ≡ true → option_or o x ≡ o
some_first None x h = absurd (true≢false (sym h))
some_first (Some y) x h = refl

pub start_same : (inner past : Past) (m : Name) → is_some (start past m) ≡ true → start (inner ++ past) m ≡ start past m
start_same [] past m began = refl
start_same (e ∷ inner) past m began =
    let old = start_same inner past m began in
    ap (λ o. option_or o (start_in m e.seat e.event)) old ∙ some_first (start past m) (start_in m e.seat e.event) began

-- BELOW MANAGERS

-- a manager has no child that is a user transaction
pub no_user_below : (setting : Setting) (past : Past) (n c : Name) → Legal setting past → 0 < length n → Started past n (λ b. IsManager b.kind) → is_child n c ≡ true → Started past c (λ b. IsUser b.kind) → ⊥
no_user_below setting past n c legal pos manager is user =
    let last = child_last n c is in
    not_both past n (user_parent past n last.0 (lawful past (legal_orderly setting past legal)) pos (subst (λ m. Started past m (λ b. IsUser b.kind)) last.1 user)) manager

-- each child of a manager is an access
pub access_of : (setting : Setting) (past : Past) (n c : Name) → Legal setting past → 0 < length n → Started past n (λ b. IsManager b.kind) → is_child n c ≡ true → is_some (start past c) ≡ true → Started past c (λ b. IsTrue (is_access b.kind))
access_of setting past n c legal pos manager is began =
    let last = child_last n c is in
    let here : is_some (start past (n ++ last.0 ∷ [])) ≡ true = ap (λ m. is_some (start past m)) (sym last.1) ∙ began in
    subst (λ m. Started past m (λ b. IsTrue (is_access b.kind))) (sym last.1)
    (started_wider (λ b. Started past n (λ p. Belongs p b.kind)) (λ b. IsTrue (is_access b.kind)) (start past (n ++ last.0 ∷ [])) (λ b under. by_kind b.kind under) ((lawful past (legal_orderly setting past legal)).under n last.0 pos here))
  where
    by_kind : (k : Kind) → Started past n (λ p. Belongs p k) → is_access k ≡ true
    by_kind (kind.User session body) under = absurd (not_both past n under manager)
    by_kind (kind.Read rec) under = absurd (not_both past n under manager)
    by_kind (kind.Write rec value) under = absurd (not_both past n under manager)
    by_kind (kind.Reconf rec config) under = absurd (not_both past n under manager)
    by_kind kind.Access under = refl

access_is : (k : Kind) → is_access k ≡ true → k ≡ kind.Access
access_is kind.Access is = refl
access_is (kind.User session body) is = absurd (true≢false (sym is))
access_is (kind.Read rec) is = absurd (true≢false (sym is))
access_is (kind.Write rec value) is = absurd (true≢false (sym is))
access_is (kind.Reconf rec config) is = absurd (true≢false (sym is))

-- and an access stands below one
pub manager_above : (setting : Setting) (past : Past) (n : Name) → Legal setting past → Started past n (λ b. IsTrue (is_access b.kind)) → Started past (name.front n) (λ b. IsManager b.kind)
manager_above setting [] n legal access = absurd access
manager_above setting (e ∷ past) n legal access = elim (start_step e past n (started_some (λ b. IsTrue (is_access b.kind)) (start (e ∷ past) n) access)) [
  | inl old ↦ started_stays e past (name.front n) (λ b. IsManager b.kind) (manager_above setting past n legal.0 (subst (λ o. MatchOption o ⊥ (λ (b : Begun). IsTrue (is_access b.kind))) (start_same (e ∷ []) past n old) access))
  | inr new ↦ started_stays e past (name.front n) (λ b. IsManager b.kind) (begun new.0 new.1)
]
  where
    by_name : (m : Name) → Starts setting past e.seat m kind.Access → Started past (name.front m) (λ b. IsManager b.kind)
    by_name [] may = absurd may
    by_name (x ∷ []) may = absurd may.user
    by_name (x ∷ y ∷ r) may = started_wider (λ p. Stands setting e.seat p (length (x ∷ y ∷ r)) kind.Access) (λ b. IsManager b.kind) (start past (name.front (x ∷ y ∷ r))) (λ b stands. stands.0) may.stands

    begun : start past n ≡ None → Starting n e.event → Started past (name.front n) (λ b. IsManager b.kind)
    begun none (k, at) =
        let is : is_access k ≡ true = subst (λ o. MatchOption o ⊥ (λ (b : Begun). IsTrue (is_access b.kind))) (start_is e past n k none at) access in
        by_name n (subst (λ x. Starts setting past e.seat n x) (access_is k is) (subst (MayHappen setting past e.seat) at legal.1))

-- a request stands under the seat of its manager's start
if_ask : (b : Bool) (x : Asked) → is_some (if b then Some x else None) ≡ true → (b ≡ true) × ((if b then Some x else None) ≡ Some x)
if_ask true x h = (refl, refl)
if_ask false x h = absurd (true≢false (sym h))

abbrev pub SaysSeat : Past → Name → Option Asked → Type 0
SaysSeat past n o = MatchOption o (Unit {0}) (λ a. Started past (name.front n) (λ m. m.seat ≡ a.seat))

pub asked_seat : (setting : Setting) (past : Past) (n : Name) → Legal setting past → SaysSeat past n (asked past n)
asked_seat setting [] n legal = tt
asked_seat setting (e ∷ past) n legal = by_old (asked past n) refl (asked_seat setting past n legal.0)
  where
    by_event : (ev : Event) → MayHappen setting past e.seat ev → SaysSeat (e ∷ past) n (ask_in n e.seat ev)
    by_event (event.Ask ask) may = by_test (same ask.access n) refl
      where
        by_test : (b : Bool) → same ask.access n ≡ b → SaysSeat (e ∷ past) n (if b then Some (record { seat = e.seat; ask = ask }) else None)
        by_test true is = started_stays e past (name.front n) (λ m. m.seat ≡ e.seat) (subst (λ x. Started past (name.front x) (λ m. m.seat ≡ e.seat)) (same_is ask.access n is) may.manager_started)
        by_test false is = tt
    by_event _ may = tt

    by_old : (o : Option Asked) → asked past n ≡ o → SaysSeat past n o → SaysSeat (e ∷ past) n (option_or o (ask_in n e.seat e.event))
    by_old None is old = by_event e.event legal.1
    by_old (Some a) is old = started_stays e past (name.front n) (λ m. m.seat ≡ a.seat) old
