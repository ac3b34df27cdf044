-- Which names may start: a new top, or the next child of a name that is going on.
use Rattle.std.specs.Prelude.{ℕ, ◌≡◌, [], ◌∷◌, length}
use Rattle.qc_event.specs.Base.{Setting}
use Rattle.qc_event.specs.declared.event.Kind.{Kind}
use Rattle.qc_event.specs.declared.event.Kind.TheVariants as kind
use Rattle.qc_event.specs.History.{Past, Name, Begun}
use Rattle.qc_event.specs.Standing.{IsManager}
use Rattle.qc_event.specs.Users.{MayStartTop, StandsUnder, MayStartNext}

-- Where a child of a kind may stand, started under a seat: an access stands under a manager, and under
-- the seat of the manager's start.
abbrev pub Stands : Setting → ℕ → Begun → ℕ → Kind → Type 0
Stands setting seat parent depth kind.Access = IsManager parent.kind × (seat ≡ parent.seat)
Stands setting seat parent depth k = StandsUnder setting parent depth k

-- where a name may start, by its shape: the root never does
abbrev pub Starts : Setting → Past → ℕ → Name → Kind → Type 0
Starts setting past seat [] k = ⊥
Starts setting past seat (number ∷ []) k = MayStartTop past seat number k
Starts setting past seat n k = MayStartNext (λ p. Stands setting seat p (length n) k) past seat n
