-- Tops without an end.
use Rattle.std.specs.Prelude.{ℕ, ◌≡◌, ◌==◌, Bool, false, [], length, count_by, is_none}
use Rattle.qc_event.specs.declared.event.Event.{Event}
use Rattle.qc_event.specs.declared.event.Event.TheVariants as event
use Rattle.qc_event.specs.History.{Past, end, children}
use Rattle.qc_history.specs.declared.opens.Opens.{Opens}

-- whether the event ends a top
abbrev pub ends_top : Event → Bool
ends_top (event.End n how) = length n == 1
ends_top _ = false

-- how many started tops have no end
abbrev pub open_tops : Past → ℕ
open_tops past = count_by (λ c. is_none (end past c)) (children past [])

-- so many are counted
abbrev pub AreOpen : Opens → Past → Type 0
AreOpen opens past = opens.count ≡ open_tops past
