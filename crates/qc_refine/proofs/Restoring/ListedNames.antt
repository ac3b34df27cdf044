-- What is logged of a top of a legal history fits the ledger's form: its number, and the names that are listed of it.
use Rattle.std.proofs.Common.{◌≡◌, ℕ, ◌-◌, ◌+◌, ◌/◌, ◌%◌, ◌^◌, ◌<◌, ◌≤◌, ◌==◌, inl, inr, Bool, true, false, [], ◌∷◌, ◌++◌, length, refl, sym, ap, ◌∙◌, subst, arith, List}
use mathlib.Core.Bool.{true≢false}
use Rattle.std.specs.Prelude.{Option, None, Some, MatchOption, is_some, not, nat_lt, nat_le, option_to_list, if◌then◌else◌}
use Rattle.std.specs.List.{All}
use Rattle.std.proofs.lemmas.Bool.{and_parts, and_from, eqb-true, eq-eqb, lt-ltb, le-leb, not-true}
use Rattle.std.proofs.lemmas.List.{length-append, length-take-le}
use Rattle.std.proofs.lemmas.List.Elements.{All-nil, All-cons, All-head, All-tail, All-push, All-append, All-weaker}
use Rattle.qc_names.specs.Name as name
use Rattle.qc_names.specs.Name.{longest}
use Rattle.qc_event.specs.declared.event.Entry.{Entry}
use Rattle.qc_event.specs.declared.event.Event.{Event}
use Rattle.qc_event.specs.declared.event.Event.TheVariants as event
use Rattle.qc_event.specs.declared.event.How.{How}
use Rattle.qc_event.specs.declared.event.How.TheVariants.{Commit, Abort}
use Rattle.qc_event.specs.declared.event.Kind.{Kind}
use Rattle.qc_event.specs.declared.event.Kind.TheVariants as kind
use Rattle.qc_event.specs.Base.{Setting}
use Rattle.qc_event.specs.Dead.{is_aborted, outcome_of}
use Rattle.qc_event.specs.History.{Past, Name, Begun, end, every, ready_in, same, start, limit}
use Rattle.qc_event.specs.Legal.{Legal, MayHappen}
use Rattle.qc_event.specs.Listed.{aborted_below, aborted_in, listed}
use Rattle.qc_event.specs.Standing.{IsManager, IsUser}
use Rattle.qc_event.specs.Starts.{Starts}
use Rattle.qc_event.proofs.Absent.{same_itself}
use Rattle.qc_event.proofs.FewerChildren.{fewer}
use Rattle.qc_event.proofs.Lawful.{lawful}
use Rattle.qc_event.proofs.LegalOrderly.{legal_orderly}
use Rattle.qc_event.proofs.OneEntry.{at_most_one, if_is, start_step}
use Rattle.qc_event.proofs.AccessNames.{IsNumbered, started_numbered}
use Rattle.qc_event.proofs.Starting.{access_managed, manager_name, user_short}
use Rattle.qc_codec.specs.Bodies as body
use Rattle.qc_codec.specs.Fields.{is_length, is_top, long, name as name_form, some_number, top_number, word}
use Rattle.qc_codec.specs.declared.record.LedgerRecord.TheVariants.{Top}
use Rattle.qc_refine.specs.Standing.{IsOfEpoch}
use Rattle.qc_refine.proofs.Restoring.LoggedTops.{WasAborted, listed_aborted}

-- STARTED NAMES

-- each number behind the first is at most this
abbrev AreSmall : ℕ → Name → Type 0
AreSmall most [] = Unit {0}
AreSmall most (top ∷ rest) = All (λ (n : ℕ). n ≤ most) rest

small_last : (most : ℕ) (p : Name) (j : ℕ) → 0 < length p → AreSmall most p → j ≤ most → AreSmall most (p ++ j ∷ [])
small_last most [] j some small le = absurd (omega (arith, some))
small_last most (top ∷ rest) j some small le = All-push (λ (n : ℕ). n ≤ most) rest j small le

small_more : (most : ℕ) (n : Name) → AreSmall most n → AreSmall (most + 1) n
small_more most [] small = tt
small_more most (top ∷ rest) small = All-weaker (λ (n : ℕ). n ≤ most) (λ (n : ℕ). n ≤ most + 1) (λ n le. omega (arith, le)) rest small

next_small : (setting : Setting) (past : Past) (seat : ℕ) (n : Name) (k : Kind) → ((p : Name) → is_some (start past p) ≡ true → AreSmall (length past) p) → Starts setting past seat n k → AreSmall (length past + 1) n
next_small setting past seat [] k before may = absurd may
next_small setting past seat (top ∷ []) k before may = All-nil (λ (n : ℕ). n ≤ length past + 1)
next_small setting past seat (x ∷ y ∷ r) k before may =
    let long = length-take-le (length (x ∷ y ∷ r) - 1) (x ∷ y ∷ r) (omega arith) in
    let few = fewer past (name.front (x ∷ y ∷ r)) in
    subst (AreSmall (length past + 1)) (sym may.next_child)
    (small_last (length past + 1) (name.front (x ∷ y ∷ r)) _ (omega (arith, long)) (small_more (length past) (name.front (x ∷ y ∷ r)) (before (name.front (x ∷ y ∷ r)) may.parent_going.is_open.started)) (omega (arith, few)))

-- no number behind the first is greater than there are entries
started_small : (setting : Setting) (past : Past) (n : Name) → Legal setting past → is_some (start past n) ≡ true → AreSmall (length past) n
started_small setting [] n legal began = absurd (true≢false (sym began))
started_small setting (e ∷ past) n legal began = subst (λ (most : ℕ). AreSmall most n) (omega arith) (elim (start_step e past n began) [
  | inl old ↦ small_more (length past) n (started_small setting past n legal.0 old)
  | inr new ↦ next_small setting past e.seat n new.1.0 (λ p was. started_small setting past p legal.0 was) (subst (MayHappen setting past e.seat) new.1.1 legal.1)
])

-- a started name has at most 18 numbers
started_short : (setting : Setting) (past : Past) (n : Name) (b : Begun) → Legal setting past → start past n ≡ Some b → length n ≤ longest
started_short setting past n b legal is = by_kind b.kind refl
  where
    by_manager : (o : Option Begun) → start past (name.front n) ≡ o → MatchOption o ⊥ (λ p. IsManager p.kind) → length (name.front n) ≤ 17
    by_manager None at manages = absurd manages
    by_manager (Some m) at manages = (manager_name setting past (name.front n) m legal at manages).short

    by_kind : (k : Kind) → b.kind ≡ k → length n ≤ longest
    by_kind (kind.User session plan) at = let short = user_short setting past n b legal is (subst IsUser (sym at) tt) in omega (arith, short)
    by_kind (kind.Read rec) at = let short = (manager_name setting past n b legal is (subst IsManager (sym at) tt)).short in omega (arith, short)
    by_kind (kind.Write rec value) at = let short = (manager_name setting past n b legal is (subst IsManager (sym at) tt)).short in omega (arith, short)
    by_kind (kind.Reconf rec config) at = let short = (manager_name setting past n b legal is (subst IsManager (sym at) tt)).short in omega (arith, short)
    by_kind kind.Access at =
        let front = by_manager (start past (name.front n)) refl (access_managed setting past n b legal is at) in
        by_length n front
      where
        by_length : (m : Name) → length (name.front m) ≤ 17 → length m ≤ longest
        by_length [] few = omega arith
        by_length (x ∷ m) few = let l = length-take-le (length (x ∷ m) - 1) (x ∷ m) (omega arith) in omega (arith, few, l)

-- LISTED NAMES

-- a name below another
abbrev IsBelow : Name → Name → Type 0
IsBelow top n = (name.is_ancestor top n ≡ true) × (not (same top n) ≡ true)

below_event : (whole : Past) (top n : Name) (ev : Event) → aborted_in whole top ev ≡ Some n → IsBelow top n
below_event whole top n (event.End m (Abort c)) is =
    let parts = if_is _ m n is in
    let tests = and_parts _ _ parts.0 in
    subst (IsBelow top) parts.1 (and_parts _ _ tests.0)
below_event whole top n (event.End m (Commit given)) is = absurd cc
below_event whole top n _ is = absurd cc

each_below : (whole past : Past) (top : Name) → All (IsBelow top) (every (λ e. aborted_in whole top e.event) past)
each_below whole [] top = All-nil (IsBelow top)
each_below whole (e ∷ past) top =
    All-append (IsBelow top) (every (λ x. aborted_in whole top x.event) past) (option_to_list (aborted_in whole top e.event)) (each_below whole past top) (here (aborted_in whole top e.event) refl)
  where
    here : (o : Option Name) → aborted_in whole top e.event ≡ o → All (IsBelow top) (option_to_list o)
    here None is = All-nil (IsBelow top)
    here (Some n) is = All-cons (IsBelow top) n [] (below_event whole top n e.event is) (All-nil (IsBelow top))

listed_below : (past : Past) (top : Name) → All (IsBelow top) (listed past top)
listed_below [] top = All-nil (IsBelow top)
listed_below (e ∷ past) top = by_test (is_some (ready_in top e.event)) (listed_below past top)
  where
    by_test : (b : Bool) → All (IsBelow top) (listed past top) → All (IsBelow top) (if b then aborted_below past top else listed past top)
    by_test true before = each_below past past top
    by_test false before = before

-- there are no more of them than entries
every_few : {Y : Type 0} (f : Entry → Option Y) (past : Past) → length (every f past) ≤ length past
every_few f [] = omega arith
every_few f (e ∷ past) = let one = at_most_one (f e) in let before = every_few f past in omega (arith, one, before, length-append (every f past) (option_to_list (f e)))

listed_few : (past : Past) (top : Name) → length (listed past top) ≤ length past
listed_few [] top = omega arith
listed_few (e ∷ past) top = let le = by_test (is_some (ready_in top e.event)) (listed_few past top) in omega (arith, le)
  where
    by_test : (b : Bool) → length (listed past top) ≤ length past → length (if b then aborted_below past top else listed past top) ≤ length past
    by_test true before = every_few (λ x. aborted_in past top x.event) past
    by_test false before = before

-- FORMS

rest_fits : (most : ℕ) (rest : List ℕ) → most < 2 ^ 32 → All (λ n. 0 < n) rest → All (λ (n : ℕ). n ≤ most) rest → All some_number.fits rest
unfolding word
rest_fits most [] fit some small = All-nil some_number.fits
rest_fits most (n ∷ rest) fit some small =
    let le = All-head (λ (k : ℕ). k ≤ most) n rest small in
    All-cons some_number.fits n rest (omega (arith, le, fit), lt-ltb 0 n (All-head (λ k. 0 < k) n rest some))
    (rest_fits most rest fit (All-tail (λ k. 0 < k) n rest some) (All-tail (λ (k : ℕ). k ≤ most) n rest small))

-- a top's number, both of whose halves are at least 1
number_fits : (x : ℕ) → x < 2 ^ 64 → 0 < x / 2 ^ 32 → 0 < x % 2 ^ 32 → top_number.fits x
unfolding long
number_fits x small epoch place = (small, and_from (nat_lt 0 (x / 2 ^ 32)) _ (lt-ltb 0 (x / 2 ^ 32) epoch) (lt-ltb 0 (x % 2 ^ 32) place))

same_number : (x y : ℕ) → (x == y) ≡ true → not (same (x ∷ []) (y ∷ [])) ≡ true → ⊥
same_number x y is differ = true≢false (sym (same_itself (x ∷ [])) ∙ ap (λ k. same (x ∷ []) (k ∷ [])) (eqb-true x y is) ∙ not-true (same (x ∷ []) (y ∷ [])) differ)

below_fits : (x most : ℕ) (n : Name) → x < 2 ^ 64 → most < 2 ^ 32 → IsBelow (x ∷ []) n → IsNumbered n → AreSmall most n → length n ≤ longest → (body.below x).fits n
unfolding body.below name_form long
below_fits x most [] first fit below numbered small short = absurd (true≢false (sym below.0))
below_fits x most (y ∷ []) first fit below numbered small short = absurd (same_number x y (and_parts (x == y) true below.0).0 below.1)
below_fits x most (y ∷ z ∷ rest) first fit below numbered small short =
    let is : x ≡ y = eqb-true x y (and_parts (x == y) true below.0).0 in
    let few : length (y ∷ z ∷ rest) < 256 = omega (arith, short) in
    let between : is_length 2 (length (y ∷ z ∷ rest)) ≡ true =
    and_from (nat_lt 0 (length (y ∷ z ∷ rest))) _ (lt-ltb 0 (length (y ∷ z ∷ rest)) (omega arith))
    (and_from (nat_le 2 (length (y ∷ z ∷ rest))) _ (le-leb 2 (length (y ∷ z ∷ rest)) (omega arith)) (le-leb (length (y ∷ z ∷ rest)) longest short)) in
    let halves : is_top y ≡ true = and_from (nat_lt 0 (y / 2 ^ 32)) _ (lt-ltb 0 (y / 2 ^ 32) numbered.0) (lt-ltb 0 (y % 2 ^ 32) numbered.1) in
    ((((few, between), ((omega (arith, is, first), halves), (omega arith, rest_fits most (z ∷ rest) fit numbered.2 small))), tt), eq-eqb y x (sym is))

-- TOPS

module _ (setting : Setting) (past : Past) (legal : Legal setting past) (few : length past ≤ limit) where
  -- who was aborted was started
  aborted_started : (n : Name) → WasAborted past n → is_some (start past n) ≡ true
  aborted_started n was = (lawful past (legal_orderly setting past legal)).end_has_start n (some_end (end past n) was)
    where
      some_end : (o : Option How) → is_aborted (outcome_of o) ≡ true → is_some o ≡ true
      some_end None h = absurd (true≢false (sym h))
      some_end (Some how) h = refl

  name_short : (n : Name) → is_some (start past n) ≡ true → length n ≤ longest
  name_short n began = by_start (start past n) refl began
    where
      by_start : (o : Option Begun) → start past n ≡ o → is_some o ≡ true → length n ≤ longest
      by_start None at h = absurd (true≢false (sym h))
      by_start (Some b) at h = started_short setting past n b legal at

  module _ (x : ℕ) (first_small : x < 2 ^ 64) (began : is_some (start past (x ∷ [])) ≡ true) where
    abbrev ToldName : Name → Type 0
    ToldName n = IsBelow (x ∷ []) n × WasAborted past n

    told_fits : (n : Name) → ToldName n → (body.below x).fits n
    told_fits n told =
        let started = aborted_started n told.1 in
        below_fits x (length past) n first_small (omega (arith, few)) told.0 (started_numbered setting past n legal started) (started_small setting past n legal started) (name_short n started)

    both : (ns : List Name) → All (IsBelow (x ∷ [])) ns → All (WasAborted past) ns → All ToldName ns
    both [] below aborted = All-nil ToldName
    both (n ∷ ns) below aborted = All-cons ToldName n ns (All-head (IsBelow (x ∷ [])) n ns below, All-head (WasAborted past) n ns aborted) (both ns (All-tail (IsBelow (x ∷ [])) n ns below) (All-tail (WasAborted past) n ns aborted))

    -- the record of a started top, with the names that are listed of it, fits
    pub number_top_fits : body.ledger.fits (Top (x ∷ []) (listed past (x ∷ [])))
    unfolding body.ledger body.top word
    number_top_fits =
        let numbered = started_numbered setting past (x ∷ []) legal began in
        let count = listed_few past (x ∷ []) in (
          number_fits x first_small numbered.0 numbered.1,
          ((omega (arith, count, few), (refl, All-weaker ToldName (body.below x).fits told_fits (listed past (x ∷ [])) (both (listed past (x ∷ [])) (listed_below past (x ∷ [])) (listed_aborted setting past (x ∷ []) legal)))), tt),
        )

-- so does that of a top of an epoch
pub top_fits : (setting : Setting) (past : Past) (epoch : ℕ) → Legal setting past → length past ≤ limit → IsOfEpoch epoch past → epoch < 2 ^ 32 → (x : ℕ) → is_some (start past (x ∷ [])) ≡ true → body.ledger.fits (Top (x ∷ []) (listed past (x ∷ [])))
top_fits setting past epoch legal few of_epoch small x began = let of = of_epoch x began in number_top_fits setting past legal few x (omega (arith, of, small)) began
