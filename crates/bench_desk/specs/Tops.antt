-- Tops that were started.
use Rattle.std.specs.Prelude.{List, All}
use Rattle.qc_event.specs.History.{Past, Name}
use Rattle.qc_event.specs.Standing.{Started, IsUser}

-- each name was started as a user transaction
abbrev pub AreStarted : Past → List Name → Type 0
AreStarted past names = All (λ n. Started past n (λ b. IsUser b.kind)) names
