-- Tops that are numbered in order are of one epoch.
use Rattle.std.proofs.Common.{◌≡◌, ℕ, ◌+◌, ◌*◌, ◌<◌, ◌≤◌, ◌/◌, ◌^◌, inl, inr, true, [], ◌∷◌, length, sym, subst, arith}
use mathlib.Core.Bool.{true≢false}
use Rattle.std.specs.Prelude.{◌==◌, option_to_list}
use Rattle.std.specs.Option.{option_map_or}
use Rattle.std.proofs.lemmas.Bool.{and_parts, eqb-true}
use Rattle.std.proofs.lemmas.List.{length-append}
use Rattle.qc_event.specs.declared.event.Entry.{Entry}
use Rattle.qc_event.specs.History.{Past, every, limit}
use Rattle.qc_event.proofs.OneEntry.{Starting, at_most_one, start_step}
use Rattle.qc_codec.specs.Ledger.{epoch_in}
use Rattle.qc_refine.specs.Standing.{IsOfEpoch}
use Rattle.qc_script.specs.Numbers.{any_top, each, is_next_top, next_top}

few_tops : (past : Past) → length (every (λ (x : Entry). any_top x.event) past) ≤ length past
few_tops [] = omega arith
few_tops (e ∷ past) =
    let one = at_most_one (any_top e.event) in
    omega (arith, few_tops past, length-append (every (λ (x : Entry). any_top x.event) past) (option_to_list (any_top e.event)))

epoch_of : (epoch place number : ℕ) → place < 4294967295 → number ≡ epoch * 2 ^ 32 + place + 1 → number / 2 ^ 32 ≡ epoch
epoch_of epoch place number few is = omega arith

pub of_epoch : (epoch : ℕ) (past : Past) → length past ≤ limit → each (is_next_top epoch) past ≡ true → IsOfEpoch epoch past
of_epoch epoch [] few numbered number began = absurd (true≢false (sym began))
of_epoch epoch (e ∷ past) few numbered number began =
    let parts = and_parts (each (is_next_top epoch) past) (is_next_top epoch e past) numbered in
    elim (start_step e past (number ∷ []) began) [
      | inl old ↦ of_epoch epoch past (omega (arith, few)) parts.0 number old
      | inr new ↦ here new.1 parts.1
    ]
  where
    here : Starting (number ∷ []) e.event → is_next_top epoch e past ≡ true → epoch_in number ≡ epoch
    here (k, at) next =
        let is : number ≡ next_top epoch past = eqb-true number (next_top epoch past) (subst (λ ev. option_map_or (λ n. n == next_top epoch past) (any_top ev) true ≡ true) at next) in
        let count = length (every (λ (x : Entry). any_top x.event) past) in
        let low : count < 4294967295 = omega (arith, few, few_tops past) in
        epoch_of epoch count number low is
