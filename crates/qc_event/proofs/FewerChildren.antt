-- How many children of a name have started: there is room for one more.
use Rattle.std.proofs.Common.{◌≡◌, ◌<◌, ◌≤◌, Bool, true, [], ◌∷◌, length, sym, ap, ◌∙◌, inl, inr, arith}
use mathlib.Core.Bool.{true≢false}
use Rattle.std.specs.Prelude.{None, Some, is_some, option_to_list, if◌then◌else◌}
use Rattle.std.proofs.lemmas.Bool.{false_from_ne_true}
use Rattle.std.proofs.lemmas.List.{length-append}
use Rattle.qc_event.specs.declared.event.Event.{Event}
use Rattle.qc_event.specs.History.{Past, Name, start, is_child, child_in, children}
use Rattle.qc_event.proofs.LastNumber.{child_last, last_longer}
use Rattle.qc_event.proofs.OneEntry.{Starting, at_most_one, start_step}

-- no more children than entries
pub fewer : (past : Past) (n : Name) → length (children past n) ≤ length past
fewer [] n = omega arith
fewer (e ∷ past) n =
    let one = at_most_one (child_in n e.event) in
    omega (arith, fewer past n, length-append (children past n) (option_to_list (child_in n e.event)))

no_own_child : (n : Name) (ev : Event) → Starting n ev → length (option_to_list (child_in n ev)) ≡ 0
no_own_child n ev (k, is) =
    ap (λ x. length (option_to_list (child_in n x))) is
    ∙ ap (λ (b : Bool). length (option_to_list (if b then Some n else None))) (false_from_ne_true (is_child n n) (λ h. let (j, last) = child_last n n h in last_longer n j (sym last)))

-- a started name has fewer children than there are entries
pub children_fewer : (past : Past) (n : Name) → is_some (start past n) ≡ true → length (children past n) < length past
children_fewer [] n h = absurd (true≢false (sym h))
children_fewer (e ∷ past) n h = elim (start_step e past n h) [
  | inl old ↦
      let one = at_most_one (child_in n e.event) in
      let before = children_fewer past n old in
      omega (arith, length-append (children past n) (option_to_list (child_in n e.event)))
  | inr new ↦
      let adds = no_own_child n e.event new.1 in
      let before = fewer past n in
      omega (arith, length-append (children past n) (option_to_list (child_in n e.event)))
]
