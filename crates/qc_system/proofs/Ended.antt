-- What a desk tells: whether each top has its end.
use Rattle.std.proofs.Common.{◌≡◌, Bool, true, false, [], ◌∷◌, refl, sym, ap, ◌∙◌, subst}
use mathlib.Core.Bool.{true≢false}
use Rattle.std.specs.Prelude.{Option, None, Some, is_some, is_none, if◌then◌else◌, option_to_list, find}
use Rattle.std.specs.Option.{option_or}
use Rattle.std.proofs.lemmas.List.Folds.{find-append}
use Rattle.qc_event.specs.declared.event.Event.{Event}
use Rattle.qc_event.specs.declared.event.Event.TheVariants as event
use Rattle.qc_event.specs.History.{Past, Name, start, end, is_child, child_in, children}
use Rattle.qc_event.specs.Standing.{HasEnded, open_child}
use Rattle.qc_event.proofs.LastNumber.{child_last}
use Rattle.qc_event.proofs.OneEntry.{some_not_none, start_now, start_stays}
use Rattle.qc_refine.proofs.Restoring.FoldedPairs.{none_is, settled_ended}

-- what no child that was started passes, none of the children passes
none_passes : (test : Name → Bool) (past : Past) (n : Name) → ((c : Name) → is_child n c ≡ true → is_some (start past c) ≡ true → test c ≡ false) → find test (children past n) ≡ None
none_passes test [] n out = refl
none_passes test (e ∷ past) n out =
    find-append test (children past n) (option_to_list (child_in n e.event))
    ∙ ap (λ o. option_or o (find test (option_to_list (child_in n e.event)))) (none_passes test past n (λ c is began. out c is (start_stays e past c began)))
    ∙ by_event e.event refl
  where
    alone : (m : Name) (b : Bool) → b ≡ false → (if b then Some m else None) ≡ None
    alone m true is = absurd (true≢false is)
    alone m false is = refl

    by_child : (m : Name) (b : Bool) → (b ≡ true → test m ≡ false) → find test (option_to_list (if b then Some m else None)) ≡ None
    by_child m true out = alone m (test m) (out refl)
    by_child m false out = refl

    by_event : (ev : Event) → e.event ≡ ev → find test (option_to_list (child_in n ev)) ≡ None
    by_event (event.Start m k) is = by_child m (is_child n m) (λ child. out m child (start_now e past m (k, is)))
    by_event _ is = refl

-- where each top has its end no child of the root is open
pub none_open : (past : Past) → HasEnded past → open_child past [] ≡ None
none_open past ended = none_passes (λ c. is_none (end past c)) past [] (λ c is began.
    let (number, last) = child_last [] c is in
    some_not_none (end past c) (subst (λ n. is_some (end past n) ≡ true) (sym last) (ended number (subst (λ n. is_some (start past n) ≡ true) last began))))

-- what a desk tells
pub told_ended : (past : Past) (b : Bool) → b ≡ is_none (open_child past []) → b ≡ true → HasEnded past
told_ended past b told is = settled_ended past (none_is (open_child past []) (sym told ∙ is))

pub told_open : (past : Past) (b : Bool) → b ≡ is_none (open_child past []) → b ≡ false → HasEnded past → ⊥
told_open past b told is ended = true≢false (sym (told ∙ ap (λ (o : Option Name). is_none o) (none_open past ended)) ∙ is)
