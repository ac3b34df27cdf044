-- The entries so far and their lines, one entry further.
use Rattle.std.proofs.Common.{◌≡◌, ℕ, zero, suc, ◌+◌, ◌<◌, List, length, refl, arith, [], ◌∷◌, ◌++◌, take, get_or, ap, sym, ◌∙◌, append-nil}
use Rattle.std.specs.Prelude.{Some, slice_get}
use Rattle.std.specs.List.{flat_map}
use Rattle.std.proofs.lemmas.Grind.{flat_map-append}
use Rattle.std.proofs.lemmas.List.{take_more}
use Rattle.std.proofs.lemmas.Option.{same_Some, slice_get_within}
use Rattle.qc_event.specs.declared.event.Entry.{Entry}
use Rattle.qc_report.specs.Report.{Text}

-- what stands at a place is read there
pub read_there : {X : Type 0} → (xs : List X) (i : ℕ) (x : X) → slice_get xs i ≡ Some x → x ≡ get_or xs i x
read_there [] i x is = absurd cc
read_there (y ∷ xs) zero x is = sym (same_Some y x is)
read_there (y ∷ xs) (suc i) x is = read_there xs i x is

-- something stands at each place within
pub something_at : {X : Type 0} → (xs : List X) (i : ℕ) → i < length xs → (x : X) × (slice_get xs i ≡ Some x)
something_at [] i lt = absurd (omega (arith, lt))
something_at (x ∷ xs) zero lt = (x, refl)
something_at (x ∷ xs) (suc i) lt = something_at xs i (omega (arith, lt))

pub entries_further : (es : List Entry) (i : ℕ) (e : Entry) → slice_get es i ≡ Some e → take i es ++ e ∷ [] ≡ take (i + 1) es
entries_further es i e here = ap (λ x. take i es ++ x ∷ []) (read_there es i e here) ∙ sym (take_more es i e (slice_get_within es i e here))

pub lines_further : (line : Entry → Text) (es : List Entry) (i : ℕ) (e : Entry) → slice_get es i ≡ Some e → flat_map line (take i es) ++ line e ≡ flat_map line (take (i + 1) es)
lines_further line es i e here =
    ap (λ x. flat_map line (take i es) ++ x) (sym (append-nil (line e)))
    ∙ sym (flat_map-append line (take i es) (e ∷ []))
    ∙ ap (flat_map line) (entries_further es i e here)
