-- Tops that were started.
use Rattle.std.specs.Prelude.{◌≡◌, length}
use Rattle.qc_event.specs.History.{Past, Name}
use Rattle.qc_event.specs.Standing.{Started, IsUser}

-- a top that was started as a user transaction
abbrev pub IsUserTop : Past → Name → Type 0
IsUserTop past n = (length n ≡ 1) × Started past n (λ b. IsUser b.kind)

-- a top and another name, both started as user transactions
abbrev pub AreUsers : Past → Name → Name → Type 0
AreUsers past top n = IsUserTop past top × Started past n (λ b. IsUser b.kind)
