-- What a manager knows after it was told of one more copy.
use Rattle.std.proofs.Common.{◌≡◌, ℕ, Bool, List, [], ◌∷◌, ◌++◌, refl, sym, ap, ◌∙◌, arith}
use Rattle.std.proofs.Math.Bool.{or-false}
use Rattle.std.proofs.lemmas.Grind.{common_steps}
use Rattle.std.proofs.lemmas.List.Folds.{list_any-append}
use Rattle.std.specs.Prelude.{◌==◌, ◌&&◌, ◌||◌, cond, is_some, None}
use Rattle.std.specs.List.{list_any}
use Rattle.std.specs.Option.{option_or}
use Rattle.qc_event.specs.Manager.{Result, Replied, Missing, BlockedBy}
use Rattle.qc_event.proofs.Histories.{or_none, or_first}
use Rattle.qc_managers.specs.Told.{Told, reply_in, why_in, was_asked, replied_by, missing_in}
use Rattle.qc_managers.specs.Heard.{block_in, first_block_in}

any_more : (p : Told → Bool) (told : List Told) (t : Told) → list_any p (told ++ t ∷ []) ≡ (list_any p told || p t)
any_more p told t = list_any-append p told (t ∷ []) ∙ ap (λ b. list_any p told || b) (or-false (p t))

pub asked_more : (told : List Told) (t : Told) (k : ℕ) → was_asked (told ++ t ∷ []) k ≡ (was_asked told k || (t.copy == k))
asked_more told t k = any_more (λ u. u.copy == k) told t

pub replied_more : (told : List Told) (t : Told) (k : ℕ) → replied_by (told ++ t ∷ []) k ≡ (replied_by told k || ((t.copy == k) && is_some (reply_in t)))
replied_more told t k = any_more (λ u. (u.copy == k) && is_some (reply_in u)) told t

-- the first word of a copy says why it is missing
pub missing_more : (told : List Told) (t : Told) (k : ℕ) → missing_in (told ++ t ∷ []) k ≡ cond (was_asked told k) (missing_in told k) (cond (t.copy == k) (why_in t) None)
missing_more [] t k = grind (arith, common_steps)
missing_more (u ∷ told) t k = let before = missing_more told t k in grind (arith, common_steps, before)

block_first : (copy : ℕ) (r : Result) (told : List Told) → first_block_in (record { copy = copy; result = r } ∷ told) ≡ option_or (block_in (record { copy = copy; result = r })) (first_block_in told)
block_first copy (Replied tuple) told = refl
block_first copy (Missing why) told = refl
block_first copy (BlockedBy holder) told = refl

pub block_more : (told : List Told) (t : Told) → first_block_in (told ++ t ∷ []) ≡ option_or (first_block_in told) (block_in t)
block_more [] t = block_first t.copy t.result [] ∙ sym (or_none (block_in t))
block_more (u ∷ told) t =
    block_first u.copy u.result (told ++ t ∷ [])
    ∙ ap (λ o. option_or (block_in u) o) (block_more told t)
    ∙ sym (or_first (block_in u) (first_block_in told) (block_in t))
    ∙ ap (λ o. option_or o (block_in t)) (sym (block_first u.copy u.result told))
