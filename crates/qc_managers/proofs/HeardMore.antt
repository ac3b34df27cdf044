-- What is kept of the copies asked, after one more.
use Rattle.std.proofs.Common.{◌≡◌, ℕ, ◌<◌, Bool, true, false, List, [], ◌∷◌, ◌++◌, map, refl, sym, ap, ◌∙◌, arith, ne_eqb, ◌⊎◌, inl, inr}
use Rattle.std.proofs.Math.Bool.{or-false, or-true}
use Rattle.std.proofs.lemmas.Bool.{eq-eqb}
use Rattle.std.proofs.lemmas.Grind.{common_steps}
use Rattle.std.specs.Prelude.{◌==◌, ◌&&◌, ◌||◌, is_some, slice_set, None, Some}
use Rattle.std.specs.Option.{option_or}
use Rattle.qc_config.specs.Copies.{has, with}
use Rattle.qc_config.specs.declared.tuple.Tuple.{Tuple}
use Rattle.qc_event.specs.declared.event.Why.{Why}
use Rattle.qc_event.specs.History.{Name}
use Rattle.qc_event.specs.Manager.{Replied, Missing, BlockedBy, all_copies}
use Rattle.qc_event.proofs.Histories.{or_none}
use Rattle.qc_managers.specs.declared.heard.Heard.{Heard}
use Rattle.qc_managers.specs.Told.{Told, reply_in, why_in, was_asked, replied_by, replied_in, missing_in}
use Rattle.qc_managers.specs.Heard.{heard, block_in, first_block_in}
use Rattle.qc_managers.proofs.Rows.{row_set, row_same, row_at}
use Rattle.qc_managers.proofs.OneMore.{asked_more, replied_more, missing_more, block_more}

-- one more was asked
asked_row : (told : List Told) (t : Told) → t.copy < 16 → map (was_asked (told ++ t ∷ [])) all_copies ≡ with (map (was_asked told) all_copies) t.copy
asked_row told t within =
    row_set (was_asked told) (was_asked (told ++ t ∷ [])) 16 t.copy true within
    (λ k other. asked_more told t k ∙ ap (λ b. was_asked told k || b) (ne_eqb t.copy k (λ e. other (sym e))) ∙ or-false (was_asked told k))
    (asked_more told t t.copy ∙ ap (λ b. was_asked told t.copy || b) (eq-eqb t.copy t.copy refl) ∙ or-true (was_asked told t.copy))

-- one more replied
replied_row : (told : List Told) (t : Told) → is_some (reply_in t) ≡ true → t.copy < 16 → replied_in (told ++ t ∷ []) ≡ with (replied_in told) t.copy
replied_row told t reply within =
    row_set (replied_by told) (replied_by (told ++ t ∷ [])) 16 t.copy true within
    (λ k other. replied_more told t k ∙ ap (λ b. replied_by told k || (b && is_some (reply_in t))) (ne_eqb t.copy k (λ e. other (sym e))) ∙ or-false (replied_by told k))
    (replied_more told t t.copy ∙ ap (λ b. replied_by told t.copy || (b && is_some (reply_in t))) (eq-eqb t.copy t.copy refl) ∙ ap (λ b. replied_by told t.copy || b) reply ∙ or-true (replied_by told t.copy))

-- what is no reply leaves who replied
replied_same : (told : List Told) (t : Told) → is_some (reply_in t) ≡ false → replied_in (told ++ t ∷ []) ≡ replied_in told
replied_same told t silent =
    row_same (replied_by told) (replied_by (told ++ t ∷ [])) 16 false (λ k. replied_more told t k ∙ ap (λ b. replied_by told k || b) (no_more (t.copy == k) (is_some (reply_in t)) silent) ∙ or-false (replied_by told k))
  where
    no_more : (b c : Bool) → c ≡ false → (b && c) ≡ false
    no_more true c h = h
    no_more false c h = refl

not_asked_missing : (told : List Told) (k : ℕ) → was_asked told k ≡ false → missing_in told k ≡ None
not_asked_missing [] k out = refl
not_asked_missing (u ∷ told) k out = let before = not_asked_missing told k in grind (arith, common_steps, before)

-- what has no reason, or is no first word, leaves why others are missing
missing_same : (told : List Told) (t : Told) → (was_asked told t.copy ≡ true) ⊎ (why_in t ≡ None) → map (missing_in (told ++ t ∷ [])) all_copies ≡ map (missing_in told) all_copies
missing_same told t quiet =
    row_same (missing_in told) (missing_in (told ++ t ∷ [])) 16 None (λ k. let more = missing_more told t k in let none = not_asked_missing told k in grind (arith, common_steps, more, none))

-- the first word of a copy says why it is missing
missing_row : (told : List Told) (copy : ℕ) (why : Why) → was_asked told copy ≡ false → copy < 16 → map (missing_in (told ++ record { copy = copy; result = Missing why } ∷ [])) all_copies ≡ slice_set (map (missing_in told) all_copies) copy (Some why)
missing_row told copy why first within =
    let t : Told = record { copy = copy; result = Missing why } in
    row_set (missing_in told) (missing_in (told ++ t ∷ [])) 16 copy (Some why) within
    (λ k other. let more = missing_more told t k in let none = not_asked_missing told k in grind (arith, common_steps, more, none))
    (let more = missing_more told t copy in grind (arith, common_steps, more, first))

-- what is no block leaves the first
block_same : (told : List Told) (t : Told) → block_in t ≡ None → first_block_in (told ++ t ∷ []) ≡ first_block_in told
block_same told t none = block_more told t ∙ ap (λ o. option_or (first_block_in told) o) none ∙ sym (or_none (first_block_in told))

pub heard_reply : (told : List Told) (copy : ℕ) (tuple : Tuple) → copy < 16 → heard (told ++ record { copy = copy; result = Replied tuple } ∷ []) ≡ record (heard told) { asked = with (heard told).asked copy; replied = with (heard told).replied copy }
heard_reply told copy tuple within =
    let t : Told = record { copy = copy; result = Replied tuple } in
    rw (asked_row told t within, replied_row told t refl within, missing_same told t (inr refl), block_same told t refl)

pub heard_block : (told : List Told) (copy : ℕ) (holder : Name) → copy < 16 → heard (told ++ record { copy = copy; result = BlockedBy holder } ∷ []) ≡ record (heard told) { asked = with (heard told).asked copy; blocked = option_or (heard told).blocked (Some (copy, holder)) }
heard_block told copy holder within =
    let t : Told = record { copy = copy; result = BlockedBy holder } in
    rw (asked_row told t within, replied_same told t refl, missing_same told t (inr refl), block_more told t)

pub heard_miss_again : (told : List Told) (copy : ℕ) (why : Why) → copy < 16 → was_asked told copy ≡ true → heard (told ++ record { copy = copy; result = Missing why } ∷ []) ≡ record (heard told) { asked = with (heard told).asked copy }
heard_miss_again told copy why within again =
    let t : Told = record { copy = copy; result = Missing why } in
    rw (asked_row told t within, replied_same told t refl, missing_same told t (inl again), block_same told t refl)

pub heard_miss : (told : List Told) (copy : ℕ) (why : Why) → copy < 16 → was_asked told copy ≡ false → heard (told ++ record { copy = copy; result = Missing why } ∷ []) ≡ record (heard told) { asked = with (heard told).asked copy; missing = slice_set (heard told).missing copy (Some why) }
heard_miss told copy why within first =
    let t : Told = record { copy = copy; result = Missing why } in
    rw (asked_row told t within, replied_same told t refl, missing_row told copy why first within, block_same told t refl)

-- whether a copy was asked, by the marks
pub asked_at : (told : List Told) (h : Heard) (copy : ℕ) → h ≡ heard told → copy < 16 → was_asked told copy ≡ has h.asked copy
asked_at told h copy is within = sym (ap (λ (h : Heard). has h.asked copy) is ∙ row_at (was_asked told) 16 copy false within)
