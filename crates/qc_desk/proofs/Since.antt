-- What stands above what a pass has seen is of others, where no more stands under its number.
use Rattle.std.proofs.Common.{◌≡◌, ℕ, ◌==◌, Bool, true, false, cond, [], ◌∷◌, ◌++◌, length, arith, refl, sym, ap, ◌∙◌, eq-eqb}
use Rattle.std.proofs.lemmas.List.{length-append}
use Rattle.qc_event.specs.History.{Past}
use Rattle.qc_desk.specs.Entries.{AreOthers, entries_of, IsOlder, IsSince}
use Rattle.qc_desk.proofs.Lists.{entries_append}

-- where a number has no entry, all entries are others'
pub others_where_none : (n : ℕ) (newer : Past) → entries_of n newer ≡ [] → AreOthers n newer
others_where_none n [] none = tt
others_where_none n (e ∷ newer) none = let parts = by_test (e.seat == n) refl none in (parts.0, others_where_none n newer parts.1)
  where
    by_test : (b : Bool) → (e.seat == n) ≡ b → cond b (e ∷ entries_of n newer) (entries_of n newer) ≡ [] → (e.seat ≡ n → ⊥) × (entries_of n newer ≡ [])
    by_test true is h = absurd cc
    by_test false is h = ((λ same. absurd (cc (sym is ∙ eq-eqb e.seat n same))), h)

-- where a list behind another is that one, nothing is before it
pub nothing_more : (xs ys : Past) → xs ++ ys ≡ ys → xs ≡ []
nothing_more [] ys is = refl
nothing_more (x ∷ xs) ys is = absurd (omega (arith, ap length is, length-append (x ∷ xs) ys))

pub since : (n : ℕ) (before now : Past) → IsOlder before now → entries_of n now ≡ entries_of n before → IsSince n before now
since n before now older same = (
  older.0,
  older.1,
  others_where_none n older.0 (nothing_more (entries_of n older.0) (entries_of n before) (sym (entries_append n older.0 before) ∙ sym (ap (entries_of n) older.1) ∙ same)),
)
