-- When two names are in different branches, and when they stay so.
use Rattle.std.proofs.Common.{◌≡◌, ℕ, Bool, true, false, [], ◌∷◌, ◌++◌, length, take, refl, sym, ap, ◌∙◌, append_assoc}
use mathlib.Core.Bool.{true≢false}
use Rattle.std.specs.Prelude.{Option, None, Some, not, ◌==◌, ◌&&◌, if◌then◌else◌}
use Rattle.std.proofs.lemmas.Bool.{and_parts, and_from, eq-eqb, eqb-true, false_from_ne_true}
use Rattle.std.proofs.Math.Seq.{take-append_seam}
use Rattle.qc_event.specs.History.{Past, Name, is_child}
use Rattle.qc_event.proofs.LastNumber.{child_last, child_longer, rest_of}
use Rattle.qc_names.specs.Name as name
use Rattle.qc_interp.specs.Turns.{seat_of, differ, all_differ, child_above, are_apart}

-- WHERE TWO NAMES PART

meet_at : (of r s : Name) (j k : ℕ) → (j == k) ≡ false → name.meet (of ++ j ∷ r) (of ++ k ∷ s) ≡ of
meet_at [] r s j k other = ap (λ (b : Bool). if b then j ∷ name.meet r s else []) other
meet_at (x ∷ of) r s j k other =
    ap (λ (b : Bool). if b then x ∷ name.meet (of ++ j ∷ r) (of ++ k ∷ s) else []) (eq-eqb x x refl) ∙ ap (λ l. x ∷ l) (meet_at of r s j k other)

-- below two children of one name they part there
pub part_at : (of a b m n : Name) → is_child of a ≡ true → is_child of b ≡ true → (a ≡ b → ⊥) → name.is_ancestor a m ≡ true → name.is_ancestor b n ≡ true → name.meet m n ≡ of
part_at of a b m n child other differ low also =
    let j = child_last of a child in
    let k = child_last of b other in
    let r = rest_of a m low in
    let s = rest_of b n also in
    ap (λ x. name.meet x n) (r.1 ∙ ap (λ x. x ++ r.0) j.1 ∙ append_assoc of (j.0 ∷ []) r.0)
    ∙ ap (name.meet (of ++ j.0 ∷ r.0)) (s.1 ∙ ap (λ x. x ++ s.0) k.1 ∙ append_assoc of (k.0 ∷ []) s.0)
    ∙ meet_at of r.0 s.0 j.0 k.0 (false_from_ne_true (j.0 == k.0) (λ h. differ (j.1 ∙ ap (λ x. of ++ x ∷ []) (eqb-true j.0 k.0 h) ∙ sym k.1)))

pub child_is_above : (of a m : Name) → is_child of a ≡ true → name.is_ancestor a m ≡ true → child_above of m ≡ a
child_is_above of a m child low =
    let r = rest_of a m low in
    ap (λ k. take k m) (sym (child_longer of a child)) ∙ ap (take (length a)) r.1 ∙ take-append_seam a r.0

-- DIFFERENT SEATS

-- they are apart where their branches and the parent of these stand under three seats
pub apart_by : (past : Past) (of a b m n : Name) (x y z : ℕ) → name.meet m n ≡ of → child_above of m ≡ a → child_above of n ≡ b → seat_of past of ≡ Some x → seat_of past a ≡ Some y → seat_of past b ≡ Some z
    → (x == y) ≡ false → (x == z) ≡ false → (y == z) ≡ false → are_apart past m n ≡ true
apart_by past of a b m n x y z meets left right top first second one two three =
    ap (λ p. all_differ (seat_of past p) (seat_of past (child_above p m)) (seat_of past (child_above p n))) meets
    ∙ ap (λ p. all_differ (seat_of past of) (seat_of past p) (seat_of past (child_above of n))) left
    ∙ ap (λ p. all_differ (seat_of past of) (seat_of past a) (seat_of past p)) right
    ∙ ap (λ o. all_differ o (seat_of past a) (seat_of past b)) top
    ∙ ap (λ o. all_differ (Some x) o (seat_of past b)) first
    ∙ ap (λ o. all_differ (Some x) (Some y) o) second
    ∙ and_from (not (x == y)) (not (x == z) && not (y == z)) (ap not one) (and_from (not (x == z)) (not (y == z)) (ap not two) (ap not three))

-- AS MORE IS TOLD

-- what one seat is the other is
abbrev pub IsToldSeat : Option ℕ → Option ℕ → Type 0
IsToldSeat o p = (seat : ℕ) → o ≡ Some seat → p ≡ Some seat

differ_wider : (a b x y : Option ℕ) → IsToldSeat a x → IsToldSeat b y → differ a b ≡ true → differ x y ≡ true
differ_wider (Some a) (Some b) x y first second h = ap (λ o. differ o y) (first a refl) ∙ ap (differ (Some a)) (second b refl) ∙ h
differ_wider None b x y first second h = absurd (true≢false (sym h))
differ_wider (Some a) None x y first second h = absurd (true≢false (sym h))

-- who is apart by what was told stays so as more is told
pub apart_wider : (a b : Past) (m n : Name) → ((x : Name) → IsToldSeat (seat_of a x) (seat_of b x)) → are_apart a m n ≡ true → are_apart b m n ≡ true
apart_wider a b m n told h =
    let p = name.meet m n in
    let l = child_above p m in
    let r = child_above p n in
    let one = and_parts (differ (seat_of a p) (seat_of a l)) (differ (seat_of a p) (seat_of a r) && differ (seat_of a l) (seat_of a r)) h in
    let two = and_parts (differ (seat_of a p) (seat_of a r)) (differ (seat_of a l) (seat_of a r)) one.1 in
    and_from _ _ (differ_wider _ _ _ _ (told p) (told l) one.0) (and_from _ _ (differ_wider _ _ _ _ (told p) (told r) two.0) (differ_wider _ _ _ _ (told l) (told r) two.1))
