-- What the next thing to do says of the copies.
use Rattle.std.proofs.Common.{◌≡◌, ℕ, Bool, true, false, List, refl, sym, ap}
use Rattle.std.specs.Prelude.{unwrap_or, Option, None, Some}
use Rattle.std.specs.Option.{option_map}
use Rattle.qc_config.specs.Config.{Voting}
use Rattle.qc_managers.specs.declared.next.Next.TheVariants.{Enough, Copy, Short}
use Rattle.qc_managers.specs.Heard.{next_of}
use Rattle.qc_managers.specs.Told.{Told, next_in}

not_enough : (o : Option ℕ) → unwrap_or (option_map Copy o) Short ≡ Enough → ⊥
not_enough None is = cc
not_enough (Some copy) is = cc

pub next_enough : (b : Bool) (config : Voting) (told : List Told) → Enough ≡ next_of b config told → b ≡ true
next_enough true config told is = refl
next_enough false config told is = absurd (not_enough (next_in config told) (sym is))

is_short : (o : Option ℕ) → unwrap_or (option_map Copy o) Short ≡ Short → o ≡ None
is_short None is = refl
is_short (Some copy) is = absurd cc

pub next_short : (b : Bool) (config : Voting) (told : List Told) → Short ≡ next_of b config told → (b ≡ false) × (next_in config told ≡ None)
next_short true config told is = absurd cc
next_short false config told is = (refl, is_short (next_in config told) (sym is))

is_copy : (o : Option ℕ) (copy : ℕ) → unwrap_or (option_map Copy o) Short ≡ Copy copy → o ≡ Some copy
is_copy None copy is = absurd cc
is_copy (Some c) copy is = let same : c ≡ copy = cc in ap Some same

pub next_copy_of : (b : Bool) (config : Voting) (told : List Told) (copy : ℕ) → Copy copy ≡ next_of b config told → (b ≡ false) × (next_in config told ≡ Some copy)
next_copy_of true config told copy is = absurd cc
next_copy_of false config told copy is = (refl, is_copy (next_in config told) copy (sym is))
