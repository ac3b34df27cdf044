-- Whose seat it is, where a client has merged branches.
use Rattle.std.proofs.Common.{◌≡◌, inl, inr, ℕ, zero, suc, Bool, true, false, List, [], ◌∷◌, ◌++◌, refl, sym, ap, ◌∙◌}
use mathlib.Core.Bool.{true≢false}
use Rattle.std.specs.Prelude.{Some, slice_get, ◌==◌, ◌||◌}
use Rattle.std.specs.List.{AllByRecursion, IsDistinct, list_any}
use Rattle.std.proofs.lemmas.Bool.{eqb-true, eq-eqb, or_cases, or_left, or_right}
use Rattle.std.proofs.lemmas.List.Folds.{list_any-append}
use Rattle.qc_event.specs.declared.event.Entry.{Entry}
use Rattle.qc_event.specs.History.{Past}
use Rattle.qc_script.specs.Client.{Client, is_own, HasJoined}
use Rattle.qc_interp.specs.Branches.{Branch, seats_of, with_all}
use Rattle.qc_interp.proofs.Listing.Places.{some_same}

-- whether one of some branches owns a seat
abbrev pub any_owns : List Branch → ℕ → Bool
any_owns bs seat = list_any (λ b. is_own b.client seat) bs

or_more : (a b c : Bool) → (a || (b || c)) ≡ ((a || b) || c)
or_more true b c = refl
or_more false b c = refl

pub seats_owned : (bs : List Branch) (seat : ℕ) → list_any (λ k. k == seat) (seats_of bs) ≡ any_owns bs seat
seats_owned [] seat = refl
seats_owned (b ∷ bs) seat =
    ap (λ x. (b.client.number == seat) || x) (list_any-append (λ k. k == seat) b.client.kin (seats_of bs))
    ∙ or_more (b.client.number == seat) (list_any (λ k. k == seat) b.client.kin) (list_any (λ k. k == seat) (seats_of bs))
    ∙ ap (λ x. is_own b.client seat || x) (seats_owned bs seat)

-- a client that has merged branches owns its own seats and theirs
pub all_own : (c : Client) (bs : List Branch) (seat : ℕ) → is_own (with_all c bs) seat ≡ (is_own c seat || any_owns bs seat)
all_own c bs seat =
    ap (λ x. (c.number == seat) || x) (list_any-append (λ k. k == seat) c.kin (seats_of bs))
    ∙ or_more (c.number == seat) (list_any (λ k. k == seat) c.kin) (list_any (λ k. k == seat) (seats_of bs))
    ∙ ap (λ x. is_own c seat || x) (seats_owned bs seat)

-- each branch owns what it owns
pub any_own : (bs : List Branch) (i : ℕ) (b : Branch) (seat : ℕ) → slice_get bs i ≡ Some b → is_own b.client seat ≡ true → any_owns bs seat ≡ true
any_own [] i b seat at own = absurd cc
any_own (x ∷ bs) zero b seat at own = or_left (is_own x.client seat) (any_owns bs seat) (ap (λ (y : Branch). is_own y.client seat) (some_same x b at) ∙ own)
any_own (x ∷ bs) (suc i) b seat at own = or_right (is_own x.client seat) (any_owns bs seat) (any_own bs i b seat at own)

-- DIFFERENT SEATS

-- no seat stands in both of two parts of different ones
pub apart_parts : (xs ys : List ℕ) (seat : ℕ) → IsDistinct (λ a b. a == b) (xs ++ ys) → list_any (λ k. k == seat) xs ≡ true → list_any (λ k. k == seat) ys ≡ true → ⊥
unfolding IsDistinct
apart_parts [] ys seat apart one other = true≢false (sym one)
apart_parts (x ∷ xs) ys seat apart one other = elim (or_cases (x == seat) (list_any (λ k. k == seat) xs) one) [
  | inl here ↦ none_later (xs ++ ys) (apart.0) (list_any-append (λ k. k == seat) xs ys ∙ or_right (list_any (λ k. k == seat) xs) (list_any (λ k. k == seat) ys) other) here
  | inr later ↦ apart_parts xs ys seat apart.1 later other
]
  where
    none_later : (ks : List ℕ) → AllByRecursion (λ k. (x == k) ≡ false) ks → list_any (λ k. k == seat) ks ≡ true → (x == seat) ≡ true → ⊥
    none_later [] all found here = true≢false (sym found)
    none_later (k ∷ ks) all found here = elim (or_cases (k == seat) (list_any (λ y. y == seat) ks) found) [
      | inl is ↦ true≢false (sym (eq-eqb x k (eqb-true x seat here ∙ sym (eqb-true k seat is))) ∙ all.0)
      | inr more ↦ none_later ks all.1 more here
    ]

pub apart_later : (xs ys : List ℕ) → IsDistinct (λ a b. a == b) (xs ++ ys) → IsDistinct (λ a b. a == b) ys
unfolding IsDistinct
apart_later [] ys apart = apart
apart_later (x ∷ xs) ys apart = apart_later xs ys apart.1

-- a seat is of one branch at most
pub one_owner : (bs : List Branch) (seat i j : ℕ) (a b : Branch) → IsDistinct (λ x y. x == y) (seats_of bs) → slice_get bs i ≡ Some a → slice_get bs j ≡ Some b → is_own a.client seat ≡ true → is_own b.client seat ≡ true → i ≡ j
one_owner [] seat i j a b apart at also own other = absurd cc
one_owner (x ∷ bs) seat zero zero a b apart at also own other = refl
one_owner (x ∷ bs) seat zero (suc j) a b apart at also own other =
    absurd (apart_parts (x.client.number ∷ x.client.kin) (seats_of bs) seat apart (ap (λ (y : Branch). is_own y.client seat) (some_same x a at) ∙ own) (seats_owned bs seat ∙ any_own bs j b seat also other))
one_owner (x ∷ bs) seat (suc i) zero a b apart at also own other =
    absurd (apart_parts (x.client.number ∷ x.client.kin) (seats_of bs) seat apart (ap (λ (y : Branch). is_own y.client seat) (some_same x b also) ∙ other) (seats_owned bs seat ∙ any_own bs i a seat at own))
one_owner (x ∷ bs) seat (suc i) (suc j) a b apart at also own other =
    ap suc (one_owner bs seat i j a b (apart_later (x.client.number ∷ x.client.kin) (seats_of bs) apart) at also own other)

-- THE CLIENT THAT MERGED THEM

-- by a history in which no branch made anything it owns what it did
pub own_as_before : (c : Client) (bs : List Branch) (past : Past) → AllByRecursion (λ b. AllByRecursion (λ (e : Entry). is_own b.client e.seat ≡ false) past) bs → AllByRecursion (λ (e : Entry). is_own (with_all c bs) e.seat ≡ is_own c e.seat) past
own_as_before c bs [] none = tt
own_as_before c bs (e ∷ past) none = (all_own c bs e.seat ∙ ap (λ x. is_own c e.seat || x) (nobody bs none) ∙ or_none (is_own c e.seat), own_as_before c bs past (behind bs none))
  where
    or_none : (x : Bool) → (x || false) ≡ x
    or_none true = refl
    or_none false = refl

    nobody : (xs : List Branch) → AllByRecursion (λ b. AllByRecursion (λ (y : Entry). is_own b.client y.seat ≡ false) (e ∷ past)) xs → any_owns xs e.seat ≡ false
    nobody [] all = refl
    nobody (b ∷ xs) all = ap (λ x. x || any_owns xs e.seat) all.0.0 ∙ nobody xs all.1

    behind : (xs : List Branch) → AllByRecursion (λ b. AllByRecursion (λ (y : Entry). is_own b.client y.seat ≡ false) (e ∷ past)) xs → AllByRecursion (λ b. AllByRecursion (λ (y : Entry). is_own b.client y.seat ≡ false) past) xs
    behind [] all = tt
    behind (b ∷ xs) all = (all.0.1, behind xs all.1)

pub own_wider : (c : Client) (bs : List Branch) (seat : ℕ) → is_own c seat ≡ true → is_own (with_all c bs) seat ≡ true
own_wider c bs seat own = all_own c bs seat ∙ or_left (is_own c seat) (any_owns bs seat) own

pub begun_joined : (c : Client) (bs : List Branch) (past : Past) → AllByRecursion (λ b. AllByRecursion (λ (e : Entry). is_own b.client e.seat ≡ false) past) bs → HasJoined c past (with_all c bs)
begun_joined c bs past none = record { kin = (with_all c bs).kin; same = refl; wider = own_wider c bs; own = own_as_before c bs past none }
