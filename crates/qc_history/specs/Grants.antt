-- Grants of copies.
use Rattle.std.specs.Prelude.{ℕ, ◌≡◌, ◌==◌, ◌<◌, List, [], ◌∷◌, ◌++◌, length, take, if◌then◌else◌, Option, None, Some, option_and_then, option_to_list, slice_get, vec_len, vec_capacity}
use Rattle.std.specs.Option.{option_map, option_map_or}
use Rattle.qc_config.specs.declared.tuple.Tuple.{Tuple}
use Rattle.qc_event.specs.declared.event.Entry.{Entry}
use Rattle.qc_event.specs.declared.event.Event.{Event}
use Rattle.qc_event.specs.declared.event.Event.TheVariants as event
use Rattle.qc_event.specs.declared.event.Grant.{Grant}
use Rattle.qc_event.specs.Clear.{is_get}
use Rattle.qc_event.specs.History.{Past, Name, Given, grant_at}
use Rattle.qc_history.specs.declared.grants.Grants.{Grants}
use Rattle.qc_history.specs.declared.grants.Places.{Places}

-- the copy that the event lets grant
abbrev pub granted_at : Event → Option ℕ
granted_at (event.Granted copy grant) = Some copy
granted_at _ = None

-- the grant, where the event is one
abbrev pub grant_of : Event → Option Grant
grant_of (event.Granted copy grant) = Some grant
grant_of _ = None

-- the grant at an index, where it is one of a put
abbrev pub put_at : List Grant → ℕ → Option Grant
put_at given index = option_and_then (λ (g : Grant). if is_get g.op then None else Some g) (slice_get given index)

-- whom the event grants
abbrev pub granted_name : Event → Option Name
granted_name (event.Granted copy grant) = Some grant.access
granted_name _ = None

-- the grant and the copy that gave it, where the event is one
abbrev pub given_of : Event → Option Given
given_of (event.Granted copy grant) = Some (record { copy = copy; grant = grant })
given_of _ = None

-- the tuple of a grant, where this copy gave it
abbrev pub tuple_at : ℕ → Given → Option Tuple
tuple_at copy x = if x.copy == copy then Some x.grant.tuple else None

-- the places of the entries that answer, in order
abbrev pub places_of : {Y : Type 0} → (Entry → Option Y) → Past → List ℕ
places_of f [] = []
places_of f (e ∷ past) = places_of f past ++ option_to_list (option_map (λ _. length past) (f e))

-- the places that are listed for a copy, none where it has no list
abbrev pub listed : List Places → ℕ → List ℕ
listed lists copy = option_map_or (λ (p : Places). p.places.items) (slice_get lists copy) []

-- The places of each copy's grants are listed.
pub record AreListed (past : Past) (lists : List Places) : Type 0 where
  pub each : (copy : ℕ) → listed lists copy ≡ places_of (λ e. grant_at copy e.event) past

abbrev pub AreGrants : Grants → Past → Type 0
AreGrants kept past = AreListed past kept.copies.items

-- where an event is a grant, its copy has a list with room for one place more
abbrev pub HasSpare : Event → List Places → Type 0
HasSpare ev lists = (copy : ℕ) → granted_at ev ≡ Some copy → (p : Places) × (slice_get lists copy ≡ Some p) × (vec_len p.places < vec_capacity p.places)

-- Whether a list begins with another, or at which index it first has something else or nothing, and what the other
-- has there.
abbrev pub Differs : List Grant → List Grant → Option (ℕ × Grant) → Type 0
Differs given theirs None = take (length theirs) given ≡ theirs
Differs given theirs (Some d) = (take d.0 given ≡ take d.0 theirs) × (slice_get theirs d.0 ≡ Some d.1) × (slice_get given d.0 ≡ Some d.1 → ⊥)
