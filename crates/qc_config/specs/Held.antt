-- How a value is held: a number as it is, and a text in the front of an array, with zeros behind it.
use Rattle.std.specs.Prelude.{ℕ, ◌≡◌, ◌-◌, ◌<◌, ◌≤◌, ◌^◌, refl, List, ◌++◌, length, take, drop, replicate}
use Rattle.std.specs.List.{All}
use Rattle.std.proofs.Common.{ap, ap₂}
use Rattle.qc_config.specs.Padded.{front_padded, front_length}
use Rattle.qc_config.specs.Val.{Datum, Number, Text}
use Rattle.qc_config.specs.declared.val.Val.TheInside.{Inside}
use Rattle.qc_config.specs.declared.val.Kept.{Kept}
use Rattle.qc_config.specs.declared.val.Kept.TheVariants as kept_is

abbrev pub told_by : Kept → Datum
told_by (kept_is.Number n) = Number n
told_by (kept_is.Text count bytes) = Text (take count bytes)

abbrev pub told : Inside → Datum
told v = told_by v.kept

abbrev pub is_kept : Kept → Type 0
is_kept (kept_is.Number n) = n < 2 ^ 64
is_kept (kept_is.Text count bytes) = (count ≤ 1024) × (length bytes ≡ 1024) × (drop count bytes ≡ replicate (1024 - count) 0) × All (λ b. b < 256) (take count bytes)

abbrev pub is_held : Inside → Type 0
is_held v = is_kept v.kept

abbrev pub kept : Datum → Kept
kept (Number n) = kept_is.Number n
kept (Text bytes) = kept_is.Text (length bytes) (bytes ++ replicate (1024 - length bytes) 0)

abbrev pub held : Datum → Inside
held v = record { kept = kept v }

-- what is told gives back what is kept
pub kept_back : (k : Kept) → is_kept k → kept (told_by k) ≡ k
kept_back (kept_is.Number n) i = refl
kept_back (kept_is.Text count bytes) i = ap₂ kept_is.Text (front_length 1024 count bytes i.0 i.1) (front_padded 1024 count bytes i.0 i.1 i.2)

pub held_back : (v : Inside) → is_held v → held (told v) ≡ v
held_back v i = ap (λ k. record { kept = k }) (kept_back v.kept i)
