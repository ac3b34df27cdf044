-- What each branch did, one by one, is what a row of them did.
use Rattle.std.proofs.Common.{◌≡◌, ℕ, zero, suc, ◌<◌, arith, Bool, true, false, List, [], ◌∷◌, ◌++◌, length, refl, sym, ap, ◌∙◌}
use mathlib.Core.Bool.{true≢false}
use Rattle.std.specs.Prelude.{◌==◌, Option, None, Some, MatchBool, ◌&&◌, ◌||◌, if◌then◌else◌, map}
use Rattle.std.specs.List.{AllByRecursion, IsDistinct, list_all, list_any}
use Rattle.std.specs.Option.{option_map_or}
use Rattle.std.proofs.lemmas.Map.Keys.{IsDistinct-head, IsDistinct-tail}
use Rattle.std.proofs.lemmas.Bool.{and_from, and_left, and_parts, and_right, eq-eqb, eqb-true, false_from_ne_true, or_left, or_right}
use Rattle.qc_event.specs.declared.event.Kind.{Kind}
use Rattle.qc_event.specs.declared.event.Kind.TheVariants as kind
use Rattle.qc_event.specs.History.{Past, Name, kind_of}
use Rattle.qc_script.specs.Plan.{Numbered, row_of}
use Rattle.qc_interp.specs.Branches.{IsLast}
use Rattle.qc_interp.specs.Deeds.{Deed, deed_end, OfChild}
use Rattle.qc_interp.specs.Follows.{RunsRow, WasTurnedBack}
use Rattle.qc_interp.specs.Reach.{Reach}
use Rattle.qc_interp.specs.Rows.{are_tries_at_once, begin_each, each_begun, each_own_seat, each_tried, is_of_body, is_try, is_try_in, keeps_own_seat, opens_seat, tries_among, was_tried}
use Rattle.qc_interp.specs.Tries.{Tries, is_tried_again}
use Rattle.qc_interp.proofs.Following.Followed.{IsRowTry, IsTryOf}
use Rattle.qc_interp.proofs.Rows.SameDeeds.{all_among, all_both, among_pass, none_each, none_own_seat}

module _ (past : Past) where
  -- tries in a row are each a try, and stand as tries of a branch do
  pub tried_in_row : (IsTry : Deed → Type 0) (Stopped : Type 0) (stopped : Bool) → (Stopped → stopped ≡ true) → (last : Option Deed) (left : ℕ) (ts : List Deed) → Tries (deed_end past) IsTry Stopped IsLast last left ts
      → AllByRecursion IsTry ts × (was_tried past stopped left ts ≡ true)
  tried_in_row IsTry Stopped stopped may last zero [] h = (tt, refl)
  tried_in_row IsTry Stopped stopped may last zero (t ∷ ts) h = absurd cc
  tried_in_row IsTry Stopped stopped may last (suc left) [] h = (tt, may h)
  tried_in_row IsTry Stopped stopped may last (suc left) (t ∷ ts) h =
      let further = by_test (is_tried_again (deed_end past t)) (tried_in_row IsTry Stopped stopped may (Some t) left ts) h.1 in
      ((h.0, further.0), further.1)
    where
      none : (l : List Deed) → l ≡ [] → AllByRecursion IsTry l × (was_tried past stopped zero l ≡ true)
      none [] is = (tt, refl)
      none (x ∷ l) is = absurd cc

      by_test : (b : Bool) → (Tries (deed_end past) IsTry Stopped IsLast (Some t) left ts → AllByRecursion IsTry ts × (was_tried past stopped left ts ≡ true)) → MatchBool b (Tries (deed_end past) IsTry Stopped IsLast (Some t) left ts) (ts ≡ [])
          → AllByRecursion IsTry ts × (was_tried past stopped (if b then left else zero) ts ≡ true)
      by_test true more g = more g
      by_test false more g = none ts g

  -- what stands of a body among some deeds is tries of it in a row
  abbrev pub RunsBranch : Reach → ℕ → Type 0 → List Deed → Numbered → Type 0
  RunsBranch reach s Stopped ds b = Tries (deed_end past) (OfChild (IsTryOf reach s past b.number b.plan)) Stopped IsLast None b.tries (tries_among past b.number ds)

  pub row_runs : (reach : Reach) (s : ℕ) (Stopped : Type 0) (stopped : Bool) → (Stopped → stopped ≡ true) → (bodies : List Numbered) (ds : List Deed) → AllByRecursion (RunsBranch reach s Stopped ds) bodies
      → RunsRow reach s past true (row_of bodies) ds × (each_tried past stopped (row_of bodies) ds ≡ true)
  row_runs reach s Stopped stopped may [] ds h = (tt, refl)
  row_runs reach s Stopped stopped may (b ∷ bodies) ds h =
      let one = tried_in_row (OfChild (IsTryOf reach s past b.number b.plan)) Stopped stopped may None b.tries (tries_among past b.number ds) h.0 in
      let others = row_runs reach s Stopped stopped may bodies ds h.1 in
      ((one.0, others.0), ap (λ x. x && each_tried past stopped (row_of bodies) ds) one.1 ∙ others.1)

  -- each branch was begun of which a try stands
  pub all_begun : (bodies : List Numbered) (ds : List Deed) → AllByRecursion (λ (b : Numbered). list_any (is_try past b.number) ds ≡ true) bodies → each_begun past (row_of bodies) ds ≡ true
  all_begun [] ds h = refl
  all_begun (b ∷ bodies) ds h = and_from _ _ h.0 (all_begun bodies ds h.1)

  -- and not each, where of one none stands
  pub not_begun : (first : List Numbered) (b : Numbered) (others : List Numbered) (ds : List Deed) → list_any (is_try past b.number) ds ≡ false → each_begun past (row_of (first ++ b ∷ others)) ds ≡ false
  not_begun [] b others ds h = and_left _ (each_begun past (row_of others) ds) h
  not_begun (x ∷ first) b others ds h = and_right (list_any (is_try past x.number) ds) _ (not_begun first b others ds h)

-- BRANCHES THAT WERE TURNED BACK

-- a try of a body that was turned back
abbrev pub WasTryTurnedBack : Reach → ℕ → Past → Name → Type 0
WasTryTurnedBack reach s past c = (number : ℕ) × (kind_of past c ≡ Some (kind.User s number)) × WasTurnedBack reach past c

-- where each deed was turned back, it is what a row does, not all of which was begun
pub turned_back_runs : (past : Past) (reach : Reach) (s : ℕ) (bodies : List Numbered) (ds : List Deed) → AllByRecursion (OfChild (WasTryTurnedBack reach s past)) ds → RunsRow reach s past false (row_of bodies) ds
turned_back_runs past reach s [] ds all = tt
turned_back_runs past reach s (b ∷ bodies) ds all = (
  all_both _ _ _ of_body (tries_among past b.number ds) (all_among (is_try past b.number) _ ds all) (among_pass (is_try past b.number) ds),
  turned_back_runs past reach s bodies ds all,
)
  where
    of_body : (d : Deed) → OfChild (WasTryTurnedBack reach s past) d → is_try past b.number d ≡ true → OfChild (IsRowTry reach s past false b.number b.plan) d
    of_body (Deed.mark m) turned is = absurd turned
    of_body (Deed.child c) turned is =
        let same : turned.0 ≡ b.number = eqb-true turned.0 b.number (sym (ap (λ o. option_map_or (is_of_body b.number) o false) turned.1) ∙ is) in
        (turned.1 ∙ ap (λ number. Some (kind.User s number)) same, turned.2)

-- THE FIRST TRIES OF A ROW

-- the deeds are tries of the bodies in order, one of each, as far as they go
abbrev pub AreFirstTries : Past → List Numbered → List Deed → Type 0
AreFirstTries past bodies [] = Unit {0}
AreFirstTries past [] (d ∷ ds) = ⊥
AreFirstTries past (b ∷ bodies) (d ∷ ds) = (is_try past b.number d ≡ true) × AreFirstTries past bodies ds

-- no two bodies have the same number
abbrev pub HaveOwnNumbers : List Numbered → Type 0
HaveOwnNumbers bodies = IsDistinct ◌==◌ (map (λ (b : Numbered). b.number) bodies)

numbers_apart : (b : Numbered) (bodies : List Numbered) → HaveOwnNumbers (b ∷ bodies) → AllByRecursion (λ k. (b.number == k) ≡ false) (map (λ (x : Numbered). x.number) bodies)
numbers_apart b bodies h = IsDistinct-head ◌==◌ b.number (map (λ (x : Numbered). x.number) bodies) h

own_others : (b : Numbered) (bodies : List Numbered) → HaveOwnNumbers (b ∷ bodies) → HaveOwnNumbers bodies
own_others b bodies h = IsDistinct-tail ◌==◌ b.number (map (λ (x : Numbered). x.number) bodies) h

module _ (past : Past) where
  -- a deed is a try of the bodies of one number
  one_number : (m k : ℕ) (d : Deed) → is_try past m d ≡ true → is_try past k d ≡ true → m ≡ k
  one_number m k (Deed.mark session) h g = absurd (true≢false (sym h))
  one_number m k (Deed.child c) h g = by_kind (kind_of past c) h g
    where
      by_kind : (o : Option Kind) → option_map_or (is_of_body m) o false ≡ true → option_map_or (is_of_body k) o false ≡ true → m ≡ k
      by_kind (Some (kind.User s body)) h g = sym (eqb-true body m h) ∙ eqb-true body k g
      by_kind None h g = absurd (true≢false (sym h))
      by_kind (Some _) h g = absurd (true≢false (sym h))

  other_number : (m k : ℕ) (d : Deed) → is_try past m d ≡ true → (m == k) ≡ false → is_try past k d ≡ false
  other_number m k d h apart = false_from_ne_true (is_try past k d) (λ g. true≢false (sym (eq-eqb m k (one_number m k d h g)) ∙ apart))

  -- a deed that is a try of none of the bodies
  abbrev IsOther : List Numbered → Deed → Type 0
  IsOther bodies d = AllByRecursion (λ (b : Numbered). is_try past b.number d ≡ false) bodies

  others : (number : ℕ) (d : Deed) → is_try past number d ≡ true → (bodies : List Numbered) → AllByRecursion (λ k. (number == k) ≡ false) (map (λ (b : Numbered). b.number) bodies) → IsOther bodies d
  others number d is [] apart = tt
  others number d is (b ∷ bodies) apart = (other_number number b.number d is apart.0, others number d is bodies apart.1)

  among_other : (number : ℕ) (d : Deed) (ds : List Deed) → is_try past number d ≡ false → tries_among past number (d ∷ ds) ≡ tries_among past number ds
  among_other number d ds out = ap (λ b. if b then d ∷ tries_among past number ds else tries_among past number ds) out

  -- it counts for nothing among them
  tried_other : (stopped : Bool) (bodies : List Numbered) (d : Deed) (ds : List Deed) → IsOther bodies d → each_tried past stopped (row_of bodies) (d ∷ ds) ≡ each_tried past stopped (row_of bodies) ds
  tried_other stopped [] d ds out = refl
  tried_other stopped (b ∷ bodies) d ds out =
      ap (λ l. was_tried past stopped b.tries l && each_tried past stopped (row_of bodies) (d ∷ ds)) (among_other b.number d ds out.0)
      ∙ ap (λ x. was_tried past stopped b.tries (tries_among past b.number ds) && x) (tried_other stopped bodies d ds out.1)

  begun_other : (bodies : List Numbered) (d : Deed) (ds : List Deed) → IsOther bodies d → each_begun past (row_of bodies) (d ∷ ds) ≡ each_begun past (row_of bodies) ds
  begun_other [] d ds out = refl
  begun_other (b ∷ bodies) d ds out =
      ap (λ x. (x || list_any (is_try past b.number) ds) && each_begun past (row_of bodies) (d ∷ ds)) out.0
      ∙ ap (λ x. list_any (is_try past b.number) ds && x) (begun_other bodies d ds out.1)

  own_seat_other : (bodies : List Numbered) (d : Deed) (ds : List Deed) → IsOther bodies d → each_own_seat past (row_of bodies) (d ∷ ds) ≡ each_own_seat past (row_of bodies) ds
  own_seat_other [] d ds out = refl
  own_seat_other (b ∷ bodies) d ds out =
      ap (λ l. keeps_own_seat past l && each_own_seat past (row_of bodies) (d ∷ ds)) (among_other b.number d ds out.0)
      ∙ ap (λ x. keeps_own_seat past (tries_among past b.number ds) && x) (own_seat_other bodies d ds out.1)

  -- of the bodies behind one, no first try is a try of it
  none_among : (number : ℕ) (bodies : List Numbered) (ds : List Deed) → AllByRecursion (λ k. (number == k) ≡ false) (map (λ (b : Numbered). b.number) bodies) → AreFirstTries past bodies ds → tries_among past number ds ≡ []
  none_among number bodies [] apart first = refl
  none_among number [] (d ∷ ds) apart first = absurd first
  none_among number (b ∷ bodies) (d ∷ ds) apart first = among_other number d ds out ∙ none_among number bodies ds apart.1 first.1
    where
      out : is_try past number d ≡ false
      out = false_from_ne_true (is_try past number d) (λ g. true≢false (sym (eq-eqb number b.number (one_number number b.number d g first.0)) ∙ apart.0))

  one_among : (b : Numbered) (bodies : List Numbered) (d : Deed) (ds : List Deed) → HaveOwnNumbers (b ∷ bodies) → AreFirstTries past (b ∷ bodies) (d ∷ ds) → tries_among past b.number (d ∷ ds) ≡ d ∷ []
  one_among b bodies d ds apart first =
      ap (λ x. if x then d ∷ tries_among past b.number ds else tries_among past b.number ds) first.0 ∙ ap (λ l. d ∷ l) (none_among b.number bodies ds (numbers_apart b bodies apart) first.1)

  first_in : (bodies : List Numbered) (ds : List Deed) → AreFirstTries past bodies ds → list_all (is_try_in past (row_of bodies)) ds ≡ true
  first_in bodies [] first = refl
  first_in [] (d ∷ ds) first = absurd first
  first_in (b ∷ bodies) (d ∷ ds) first = and_from _ _ (or_left (is_try past b.number d) (is_try_in past (row_of bodies) d) first.0) (wider ds (first_in bodies ds first.1))
    where
      wider : (l : List Deed) → list_all (is_try_in past (row_of bodies)) l ≡ true → list_all (is_try_in past (row_of (b ∷ bodies))) l ≡ true
      wider [] h = refl
      wider (x ∷ l) h =
          let both = and_parts (is_try_in past (row_of bodies) x) (list_all (is_try_in past (row_of bodies)) l) h in
          and_from _ _ (or_right (is_try past b.number x) (is_try_in past (row_of bodies) x) both.0) (wider l both.1)

  first_begin : (bodies : List Numbered) (ds : List Deed) → AreFirstTries past bodies ds → begin_each past (row_of bodies) ds ≡ true
  first_begin [] ds first = refl
  first_begin (b ∷ bodies) [] first = refl
  first_begin (b ∷ bodies) (d ∷ ds) first = and_from _ _ first.0 (first_begin bodies ds first.1)

  tried_once : (left : ℕ) (d : Deed) → 0 < left → was_tried past true left (d ∷ []) ≡ true
  tried_once zero d some = let z : ⊥ = omega (arith, some) in absurd z
  tried_once (suc left) d some = none_left (if is_tried_again (deed_end past d) then left else zero)
    where
      none_left : (n : ℕ) → was_tried past true n [] ≡ true
      none_left zero = refl
      none_left (suc n) = refl

  first_tried : (bodies : List Numbered) (ds : List Deed) → HaveOwnNumbers bodies → AllByRecursion (λ (b : Numbered). 0 < b.tries) bodies → AreFirstTries past bodies ds → each_tried past true (row_of bodies) ds ≡ true
  first_tried bodies [] apart some first = none_each past (row_of bodies)
  first_tried [] (d ∷ ds) apart some first = absurd first
  first_tried (b ∷ bodies) (d ∷ ds) apart some first =
      and_from _ _ (ap (was_tried past true b.tries) (one_among b bodies d ds apart first) ∙ tried_once b.tries d some.0)
      (tried_other true bodies d ds (others b.number d first.0 bodies (numbers_apart b bodies apart)) ∙ first_tried bodies ds (own_others b bodies apart) some.1 first.1)

  pub first_at_once : (bodies : List Numbered) (ds : List Deed) → HaveOwnNumbers bodies → AllByRecursion (λ (b : Numbered). 0 < b.tries) bodies → AreFirstTries past bodies ds → are_tries_at_once past (row_of bodies) ds ≡ true
  first_at_once bodies ds apart some first = and_from _ _ (and_from _ _ (first_in bodies ds first) (first_begin bodies ds first)) (first_tried bodies ds apart some first)

  -- where each of them opens its seat, each branch has a seat of its own
  pub first_own_seat : (bodies : List Numbered) (ds : List Deed) → HaveOwnNumbers bodies → AreFirstTries past bodies ds → AllByRecursion (OfChild (λ c. opens_seat past c ≡ true)) ds → each_own_seat past (row_of bodies) ds ≡ true
  first_own_seat bodies [] apart first opens = none_own_seat past (row_of bodies)
  first_own_seat [] (d ∷ ds) apart first opens = absurd first
  first_own_seat (b ∷ bodies) (d ∷ ds) apart first opens =
      and_from _ _ (ap (keeps_own_seat past) (one_among b bodies d ds apart first) ∙ alone d opens.0)
      (own_seat_other bodies d ds (others b.number d first.0 bodies (numbers_apart b bodies apart)) ∙ first_own_seat bodies ds (own_others b bodies apart) first.1 opens.1)
    where
      alone : (x : Deed) → OfChild (λ c. opens_seat past c ≡ true) x → keeps_own_seat past (x ∷ []) ≡ true
      alone (Deed.child c) h = and_from _ _ h refl
      alone (Deed.mark m) h = absurd h

  -- where they are as many as the bodies, each branch was begun
  pub first_begun : (bodies : List Numbered) (ds : List Deed) → HaveOwnNumbers bodies → length ds ≡ length bodies → AreFirstTries past bodies ds → each_begun past (row_of bodies) ds ≡ true
  first_begun [] ds apart long first = refl
  first_begun (b ∷ bodies) [] apart long first = let z : ⊥ = omega (arith, long) in absurd z
  first_begun (b ∷ bodies) (d ∷ ds) apart long first =
      and_from _ _ (or_left (is_try past b.number d) _ first.0) (begun_other bodies d ds (others b.number d first.0 bodies (numbers_apart b bodies apart)) ∙ first_begun bodies ds (own_others b bodies apart) (omega (arith, long)) first.1)

  -- where they are fewer, not each was begun, nor tried as often as it is
  pub first_unbegun : (bodies : List Numbered) (ds : List Deed) → HaveOwnNumbers bodies → length ds < length bodies → AreFirstTries past bodies ds → each_begun past (row_of bodies) ds ≡ false
  first_unbegun [] ds apart few first = let z : ⊥ = omega (arith, few) in absurd z
  first_unbegun (b ∷ bodies) [] apart few first = refl
  first_unbegun (b ∷ bodies) (d ∷ ds) apart few first =
      and_right (list_any (is_try past b.number) (d ∷ ds)) _ (begun_other bodies d ds (others b.number d first.0 bodies (numbers_apart b bodies apart)) ∙ first_unbegun bodies ds (own_others b bodies apart) (omega (arith, few)) first.1)

  pub first_untried : (bodies : List Numbered) (ds : List Deed) → HaveOwnNumbers bodies → AllByRecursion (λ (b : Numbered). 0 < b.tries) bodies → length ds < length bodies → AreFirstTries past bodies ds → each_tried past false (row_of bodies) ds ≡ false
  first_untried [] ds apart some few first = let z : ⊥ = omega (arith, few) in absurd z
  first_untried (b ∷ bodies) [] apart some few first = and_left _ (each_tried past false (row_of bodies) []) (none_yet b.tries some.0)
    where
      none_yet : (left : ℕ) → 0 < left → was_tried past false left [] ≡ false
      none_yet zero h = let z : ⊥ = omega (arith, h) in absurd z
      none_yet (suc left) h = refl
  first_untried (b ∷ bodies) (d ∷ ds) apart some few first =
      and_right (was_tried past false b.tries (tries_among past b.number (d ∷ ds))) _
      (tried_other false bodies d ds (others b.number d first.0 bodies (numbers_apart b bodies apart)) ∙ first_untried bodies ds (own_others b bodies apart) some.1 (omega (arith, few)) first.1)
