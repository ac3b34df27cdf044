-- When the machine allows an event, by its stack's top and what it knows of the name.
use Rattle.std.proofs.Common.{◌≡◌, ◌-◌, Bool, true, false, not, ◌&&◌, ◌||◌, IsTrue, List, [], ◌∷◌, ◌++◌, length, take, refl, ap, ◌∙◌, arith, length-append}
use Rattle.std.specs.Prelude.{Some, slice_get}
use Rattle.std.specs.Option.{option_map_or}
use Rattle.std.specs.List.{list_all}
use Rattle.std.proofs.Math.Seq.{take-append_seam}
use Rattle.std.proofs.lemmas.Bool.{or_right}
use Rattle.qc_names.specs.Name as name
use Rattle.qc_event.proofs.Booleans.{implies}
use Rattle.qc_serial.specs.declared.event.SerialEvent.TheVariants.{Leave}
use Rattle.qc_serial.specs.Machine.{Name, State, same, is_in, is_child, top, on_top, parent_on, may_begin, is_waiting, all_closed, allows}
use Rattle.qc_serial.proofs.Known.{Known, known, same_itself}

-- what is known of a name that was started and not yet entered or skipped
abbrev pub waiting : Known
waiting = record { used = true; started = true; entered = false; closed = false }

both : (a b : Bool) → a ≡ true → b ≡ true → IsTrue (a && b)
both a b p q = ap (λ x. x && b) p ∙ q

-- THE STACK

slice_get_seam : (stack : List Name) (n : Name) → slice_get (stack ++ n ∷ []) (length stack) ≡ Some n
slice_get_seam [] n = refl
slice_get_seam (x ∷ stack) n = slice_get_seam stack n

one_less : (stack : List Name) (n : Name) → length (stack ++ n ∷ []) - 1 ≡ length stack
one_less stack n = omega (arith, length-append stack (n ∷ []))

-- who was entered last is on top
pub top_last : (stack : List Name) (n : Name) → top (stack ++ n ∷ []) ≡ Some n
top_last stack n = ap (λ i. slice_get (stack ++ n ∷ []) i) (one_less stack n) ∙ slice_get_seam stack n

-- and those below it are left when it leaves
pub rest_of_stack : (stack : List Name) (n : Name) → take (length (stack ++ n ∷ []) - 1) (stack ++ n ∷ []) ≡ stack
rest_of_stack stack n = ap (λ i. take i (stack ++ n ∷ [])) (one_less stack n) ∙ take-append_seam stack (n ∷ [])

is_on_top : (stack : List Name) (n : Name) → top stack ≡ Some n → on_top stack n ≡ true
is_on_top stack n on = ap (λ o. option_map_or (λ t. same t n) o false) on ∙ same_itself n

parent_is_on : (stack : List Name) (n c : Name) → top stack ≡ Some n → name.parent c ≡ Some n → parent_on stack (name.parent c) ≡ true
parent_is_on stack n c on parent = ap (parent_on stack) parent ∙ is_on_top stack n on

-- EVENTS

pub begins : (m : State) (n c : Name) → top m.stack ≡ Some n → name.parent c ≡ Some n → (known m c).used ≡ false → IsTrue (may_begin m c)
begins m n c on parent unused = both _ (not (is_in c m.used)) (parent_is_on m.stack n c on parent) (ap not unused)

pub waits : (m : State) (n c : Name) → top m.stack ≡ Some n → name.parent c ≡ Some n → known m c ≡ waiting → IsTrue (parent_on m.stack (name.parent c) && is_waiting m c)
waits m n c on parent is =
    both _ (is_waiting m c) (parent_is_on m.stack n c on parent)
    (ap (λ (k : Known). k.started && not k.entered && not k.closed) is)

each_passes : (p : Name → Bool) (names : List Name) → ((x : Name) → is_in x names ≡ true → p x ≡ true) → list_all p names ≡ true
each_passes p [] each = refl
each_passes p (y ∷ names) each =
    both (p y) (list_all p names)
    (each y (ap (λ b. b || is_in y names) (same_itself y)))
    (each_passes p names (λ x h. each x (or_right (same y x) (is_in x names) h)))

-- a name leaves from the top, once each child that it started has closed
pub leaves : (m : State) (n : Name) → top m.stack ≡ Some n → same n [] ≡ false → ((x : Name) → is_child n x ≡ true → (known m x).started ≡ true → (known m x).closed ≡ true) → IsTrue (allows m (Leave n))
leaves m n on nonroot closed =
    both (on_top m.stack n && not (same n [])) (all_closed m.started m.closed n)
    (both (on_top m.stack n) (not (same n [])) (is_on_top m.stack n on) (ap not nonroot))
    (each_passes _ m.started (λ x h. implies (is_child n x) (is_in x m.closed) (λ is. closed x is h)))
