-- The first entry of a trail that those before it do not allow.
use Rattle.std.specs.Prelude.{ℕ, ◌<◌, List, length, take, reverse, slice_get, MatchOption}
use Rattle.qc_event.specs.declared.event.Entry.{Entry}
use Rattle.qc_event.specs.Base.{Setting}
use Rattle.qc_event.specs.Legal.{Legal, Allowed}
use Rattle.qc_audit.specs.declared.illegal.Stop.{Stop}
use Rattle.qc_audit.specs.declared.illegal.Stop.TheVariants.{Illegal, Memory}

-- Of a trail, the oldest entry first, those before a place are legal, and the one there may not come next.
pub record IsFirstIllegal (setting : Setting) (trail : List Entry) (place : ℕ) : Type 0 where
  pub within : place < length trail
  pub legal_before : Legal setting (reverse (take place trail))
  pub not_allowed : MatchOption (slice_get trail place) ⊥ (λ e. Allowed setting (reverse (take place trail)) e → ⊥)

-- why a trail is not gone through to its end
abbrev pub StopsAt : Setting → List Entry → Stop → Type 0
StopsAt setting trail (Illegal place) = IsFirstIllegal setting trail place
StopsAt setting trail Memory = Unit {0}
