-- Where each manager's accesses asked.
use Rattle.std.specs.Prelude.{ℕ, ◌≡◌, ◌≤◌, List, [], Option, None, Some, Vec, slice_get}
use Rattle.std.specs.declared.alloc.Global.{Global}
use Rattle.std.specs.Option.{option_map_or}
use Rattle.qc_names.specs.Name as name
use Rattle.qc_event.specs.declared.event.Ask.{Ask}
use Rattle.qc_event.specs.declared.event.Entry.{Entry}
use Rattle.qc_event.specs.declared.event.Event.{Event}
use Rattle.qc_event.specs.declared.event.Event.TheVariants as event
use Rattle.qc_event.specs.Base.{Setting}
use Rattle.qc_event.specs.History.{Past, Name, ask_below}
use Rattle.qc_event.specs.Legal.{Legal}
use Rattle.qc_history.specs.Grants.{places_of}
use Rattle.qc_history.specs.Index.{Shape, IsOf}
use Rattle.qc_history.specs.Places.{started, place}
use Rattle.qc_looks.specs.declared.asks.Asks.{Asks}

-- whose access asks by the event
abbrev pub manager_of : Event → Option Name
manager_of (event.Ask ask) = Some (name.front ask.access)
manager_of _ = None

-- the request, where the event is one
abbrev pub ask_of : Event → Option Ask
ask_of (event.Ask ask) = Some ask
ask_of _ = None

-- what is listed at a place
abbrev pub listed : List (Vec ℕ Global) → ℕ → List ℕ
listed lists i = option_map_or (λ (v : Vec ℕ Global). v.items) (slice_get lists i) []

-- where a manager's accesses asked, in order
abbrev pub asked_at : Past → Name → List ℕ
asked_at past m = places_of (λ (e : Entry). ask_below m e.event) past

-- What is listed at a name's place is where its accesses asked, and elsewhere nothing is.
pub record AreAsksOf (past : Past) (lists : List (Vec ℕ Global)) : Type 0 where
  pub at_place : (m : Name) (i : ℕ) → place past m ≡ Some i → listed lists i ≡ asked_at past m
  pub beyond : (i : ℕ) → started past ≤ i → listed lists i ≡ []

abbrev pub AreAsks : Asks → Past → Type 0
AreAsks kept past = AreAsksOf past kept.lists.items

-- a fact holds of each legal history beside which this is kept, and whose names are indexed
abbrev pub OfAsks : Asks → Shape → (Past → Type 0) → Type 0
OfAsks kept names fact = (setting : Setting) (past : Past) → AreAsks kept past → IsOf names past → Legal setting past → fact past

-- this is kept beside a legal history whose names are indexed
abbrev pub AreKept : Asks → Shape → Past → Type 0
AreKept kept names past = (setting : Setting) × AreAsks kept past × IsOf names past × Legal setting past
