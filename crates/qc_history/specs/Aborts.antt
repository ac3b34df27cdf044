-- Aborts below tops.
use Rattle.std.specs.Prelude.{ℕ, ◌≡◌, ◌<◌, List, [], ◌∷◌, length, Option, None, Some}
use Rattle.std.specs.Option.{option_map}
use Rattle.qc_event.specs.declared.event.Entry.{Entry}
use Rattle.qc_event.specs.declared.event.Event.{Event}
use Rattle.qc_event.specs.declared.event.Event.TheVariants as event
use Rattle.qc_event.specs.declared.event.How.TheVariants.{Abort}
use Rattle.qc_event.specs.History.{Past, Name}
use Rattle.qc_history.specs.Slots.{IsBeside, Reaches}
use Rattle.qc_history.specs.Chains.{last_of, AreLinked}
use Rattle.qc_history.specs.declared.aborts.Aborts.{Aborts}

-- the number of the top below which the event aborts a name
abbrev pub abort_top : Event → Option ℕ
abort_top (event.End (x ∷ y ∷ rest) (Abort c)) = Some x
abort_top _ = None

-- the name of that top
abbrev pub top_name : Event → Option Name
top_name ev = option_map (λ x. x ∷ []) (abort_top ev)

-- one more than the place of the last abort below a top, or 0
abbrev pub last_abort : Past → Name → ℕ
last_abort past (x ∷ []) = last_of abort_top x past
last_abort past _ = 0

-- The last abort below each top stands beside its name, and the abort before each abort beside that entry.
pub record AreAbortsOf (past : Past) (lasts before : List ℕ) : Type 0 where
  pub last : IsBeside last_abort past lasts
  pub linked : AreLinked abort_top past before

-- There is room for an entry: where it aborts a name below a top, beside the top and beside the entry.
pub record HaveRoomFor (e : Entry) (past : Past) (lasts before : List ℕ) : Type 0 where
  pub top : Reaches past (top_name e.event) lasts
  pub here : (x : ℕ) → abort_top e.event ≡ Some x → length past < length before

abbrev pub AreAborts : Aborts → Past → Type 0
AreAborts aborts past = AreAbortsOf past aborts.last.items aborts.before.items
