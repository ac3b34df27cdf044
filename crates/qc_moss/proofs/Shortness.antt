-- Settled locks are as few as they can be.
use Rattle.std.proofs.Common.{◌≡◌, Bool, true, false, List, [], ◌∷◌, refl, sym, ap, ◌∙◌}
use mathlib.Core.Bool.{true≢false}
use Rattle.std.specs.Prelude.{not, ◌&&◌, ◌||◌, if◌then◌else◌}
use Rattle.qc_event.specs.History.{Name, same}
use Rattle.qc_moss.specs.declared.holder.Holder.{Holder}
use Rattle.qc_moss.specs.Locks.{joined, is_read, is_held, with_neighbour, with_next, none_joins, is_short, is_root, is_first_root, unfolded}
use Rattle.qc_moss.proofs.Following.{and_true, and_true_left, and_true_right, reads_first}

-- whoever is apart from two is apart from both as one
joined_apart : (k l h : Holder) → not (is_read l && same k.at l.at) ≡ true → not (is_read (joined l h) && same k.at l.at) ≡ true
joined_apart k l h apart = by_test (is_read (joined l h)) refl
  where
    by_test : (b : Bool) → is_read (joined l h) ≡ b → not (b && same k.at l.at) ≡ true
    by_test true reads = ap (λ r. not (r && same k.at l.at)) (sym (reads_first l h reads)) ∙ apart
    by_test false writes = refl

still_none : (k h : Holder) (held : List Holder) → not (is_read h && same k.at h.at) ≡ true → none_joins k held ≡ true → none_joins k (with_neighbour held h) ≡ true
still_none k h [] apart none = and_true apart refl
still_none k h (l ∷ []) apart none = by_test (same l.at h.at)
  where
    by_test : (b : Bool) → none_joins k (if b then joined l h ∷ [] else l ∷ h ∷ []) ≡ true
    by_test true = and_true (joined_apart k l h (and_true_left _ _ none)) refl
    by_test false = and_true (and_true_left _ _ none) (and_true apart refl)
still_none k h (l ∷ m ∷ held) apart none = and_true (and_true_left _ _ none) (still_none k h (m ∷ held) apart (and_true_right _ _ none))

-- of a read that none of the locks is with, the first is apart
first_apart : (k h : Holder) (held : List Holder) → (is_read h && is_held (k ∷ held) h.at) ≡ false → not (is_read h && same k.at h.at) ≡ true
first_apart k h held apart = by_test (is_read h) (same k.at h.at) apart
  where
    by_test : (reads here : Bool) → (reads && (here || is_held held h.at)) ≡ false → not (reads && here) ≡ true
    by_test true true no_ = absurd (true≢false no_)
    by_test true false no_ = refl
    by_test false here no_ = refl

rest_apart : (k h : Holder) (held : List Holder) → (is_read h && is_held (k ∷ held) h.at) ≡ false → (is_read h && is_held held h.at) ≡ false
rest_apart k h held apart = by_test (is_read h) (same k.at h.at) apart
  where
    by_test : (reads here : Bool) → (reads && (here || is_held held h.at)) ≡ false → (reads && is_held held h.at) ≡ false
    by_test true true no_ = absurd (true≢false no_)
    by_test true false no_ = no_
    by_test false here no_ = refl

neighbour_short : (held : List Holder) (h : Holder) → (is_read h && is_held held h.at) ≡ false → is_short held ≡ true → is_short (with_neighbour held h) ≡ true
neighbour_short [] h apart short = refl
neighbour_short (k ∷ []) h apart short = by_test (same k.at h.at) refl
  where
    by_test : (b : Bool) → same k.at h.at ≡ b → is_short (if b then joined k h ∷ [] else k ∷ h ∷ []) ≡ true
    by_test true is = refl
    by_test false is = and_true (ap not is) refl
neighbour_short (k ∷ l ∷ []) h apart short = by_test (same l.at h.at) refl
  where
    by_test : (b : Bool) → same l.at h.at ≡ b → is_short (k ∷ (if b then joined l h ∷ [] else l ∷ h ∷ [])) ≡ true
    by_test true is = short
    by_test false is = and_true (and_true_left _ _ short) (and_true (and_true (first_apart k h (l ∷ []) apart) refl) (and_true (ap not is) refl))
neighbour_short (k ∷ l ∷ m ∷ held) h apart short =
    let rest = and_true_right _ _ short in
    and_true (and_true_left _ _ short)
    (and_true (still_none k h (m ∷ held) (first_apart k h (l ∷ m ∷ held) apart) (and_true_left _ _ rest))
    (neighbour_short (l ∷ m ∷ held) h (rest_apart k h (l ∷ m ∷ held) apart) (and_true_right _ _ rest)))

pub next_short : (held : List Holder) (h : Holder) → is_short held ≡ true → is_short (with_next held h) ≡ true
next_short held h short = by_test (is_read h && is_held held h.at) refl
  where
    by_test : (b : Bool) → (is_read h && is_held held h.at) ≡ b → is_short (if b then held else with_neighbour held h) ≡ true
    by_test true is = short
    by_test false is = neighbour_short held h is short

-- WITHOUT A FIRST ONE THAT THE ROOT HOLDS

tail_short : (h : Holder) (held : List Holder) → is_short (h ∷ held) ≡ true → is_short held ≡ true
tail_short h [] short = refl
tail_short h (k ∷ held) short = and_true_right _ _ (and_true_right _ _ short)

pub unfolded_short : (held : List Holder) → is_short held ≡ true → is_short (unfolded held) ≡ true
unfolded_short [] short = refl
unfolded_short (h ∷ held) short = by_test (is_root h.at)
  where
    by_test : (b : Bool) → is_short (if b then held else h ∷ held) ≡ true
    by_test true = tail_short h held short
    by_test false = short

-- two that the root holds are held by the same
both_roots : (a b : Name) → is_root a ≡ true → is_root b ≡ true → same a b ≡ true
both_roots [] [] first second = refl
both_roots [] (x ∷ b) first second = absurd (true≢false (sym second))
both_roots (x ∷ a) b first second = absurd (true≢false (sym first))

pub none_at_root : (held : List Holder) → is_short held ≡ true → is_first_root (unfolded held) ≡ false
none_at_root [] short = refl
none_at_root (h ∷ []) short = by_test (is_root h.at) refl
  where
    by_test : (b : Bool) → is_root h.at ≡ b → is_first_root (if b then [] else h ∷ []) ≡ false
    by_test true is = refl
    by_test false is = is
none_at_root (h ∷ k ∷ held) short = by_test (is_root h.at) refl
  where
    next : is_root h.at ≡ true → (b : Bool) → is_root k.at ≡ b → b ≡ false
    next first true second = absurd (true≢false (sym (sym (ap not (both_roots h.at k.at first second)) ∙ and_true_left _ _ short)))
    next first false second = refl

    by_test : (b : Bool) → is_root h.at ≡ b → is_first_root (if b then k ∷ held else h ∷ k ∷ held) ≡ false
    by_test true is = next is (is_root k.at) refl
    by_test false is = is
