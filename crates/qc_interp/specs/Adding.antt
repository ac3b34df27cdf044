-- What a client adds: about whom, and when its tops start.
use Rattle.std.specs.Prelude.{ℕ, ◌≡◌, Bool, true, false, not, ◌&&◌, ◌||◌, List, [], is_none, is_some}
use Rattle.std.specs.List.{list_all, list_any}
use Rattle.std.specs.Option.{option_map_or}
use Rattle.qc_names.specs.Name as name
use Rattle.qc_event.specs.declared.event.Cause.TheVariants.{Asked}
use Rattle.qc_event.specs.declared.event.Entry.{Entry}
use Rattle.qc_event.specs.declared.event.Event.{Event}
use Rattle.qc_event.specs.declared.event.Event.TheVariants as event
use Rattle.qc_event.specs.declared.event.How.TheVariants.{Abort}
use Rattle.qc_event.specs.History.{Past, Name, children}
use Rattle.qc_script.specs.Client.{Client, mine, is_own, about, is_upward}
use Rattle.qc_script.specs.Numbers.{any_top}
use Rattle.qc_script.specs.Calls.{is_over}
use Rattle.qc_interp.specs.Sessions.{top_in}

-- a name above a scope is aborted, as one at or below the scope asked
abbrev pub asks_above : Name → Event → Bool
asks_above t (event.End n (Abort (Asked by))) = is_upward t n && name.is_ancestor t by
asks_above t _ = false

-- An entry starts no top, and whom it is about is at or below a scope, or is above it and aborted as one there asked.
abbrev pub stays_in : Name → Entry → Bool
stays_in t e = is_none (any_top e.event) && (option_map_or (λ n. name.is_ancestor t n) (about e.event) true || asks_above t e.event)

-- among some newer entries, those of the client stay in a scope
abbrev pub AllStayIn : Client → Name → Past → Type 0
AllStayIn c t newer = list_all (stays_in t) (mine c newer) ≡ true

-- whom an entry is about is at or below one of some tops
abbrev pub is_of_one : List Name → Entry → Bool
is_of_one tops e = option_map_or (λ n. list_any (λ t. name.is_ancestor t n) tops) (about e.event) true

abbrev pub AllOfOne : Client → List Name → Past → Type 0
AllOfOne c tops newer = list_all (is_of_one tops) (mine c newer) ≡ true

-- an entry starts no top, or one for this session
abbrev pub starts_for : ℕ → Entry → Bool
starts_for s e = is_none (any_top e.event) || is_some (top_in s e.event)

-- among some newer entries, each top that the client started it started for its session
abbrev pub AllForIts : Client → Past → Type 0
AllForIts c newer = list_all (starts_for c.session) (mine c newer) ≡ true

-- whether all tops that the client started are over
abbrev pub all_over : Client → Past → Bool
all_over c past = list_all (is_over past) (children (mine c past) [])

-- a top that the client starts starts once its earlier ones are over
abbrev pub own_after : Client → Entry → Past → Bool
own_after c e past = not (is_own c e.seat) || option_map_or (λ number. all_over c past) (any_top e.event) true
