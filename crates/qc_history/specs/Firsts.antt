-- First entries about names.
use Rattle.std.specs.Prelude.{ℕ, ◌≡◌, Bool, true, false, if◌then◌else◌, List, ◌∷◌, length, Option, None, Some, is_some}
use Rattle.std.specs.Option.{option_map_or}
use Rattle.qc_event.specs.Base.{Setting}
use Rattle.qc_event.specs.declared.event.Entry.{Entry}
use Rattle.qc_event.specs.declared.event.Event.{Event}
use Rattle.qc_event.specs.History.{Past, Name, same, earliest, start}
use Rattle.qc_event.specs.Legal.{Legal}
use Rattle.qc_history.specs.Places.{starts_in, place, before_first}
use Rattle.qc_history.specs.Slots.{code, IsBeside}
use Rattle.qc_history.specs.declared.firsts.Firsts.{Firsts}

-- whom an event is about, where it is about a name
abbrev pub Subject : Type 0
Subject = Event → Option Name

-- whether an event is about a name
abbrev pub is_about : Subject → Name → Event → Bool
is_about subject n ev = option_map_or (λ m. same m n) (subject ev) false

-- the entry, where it is about a name
abbrev pub about_in : Subject → Name → Entry → Option Entry
about_in subject n e = if is_about subject n e.event then Some e else None

-- the first entry about a name
abbrev pub first_about : Subject → Past → Name → Option Entry
first_about subject past n = earliest (about_in subject n) past

-- one more than its place, or 0
abbrev pub after_first : Subject → Past → Name → ℕ
after_first subject past n = code (before_first length (about_in subject n) past)

-- The first entries stand beside the names that they are about, and these were started.
pub record AreFirstsOf (subject : Subject) (past : Past) (xs : List ℕ) : Type 0 where
  pub beside : IsBeside (after_first subject) past xs
  pub only_started : (n : Name) → place past n ≡ None → first_about subject past n ≡ None

abbrev pub AreFirsts : Subject → Firsts → Past → Type 0
AreFirsts subject firsts past = AreFirstsOf subject past firsts.after.items

-- In legal histories an entry about a name comes after the name's start, and is itself no start.
pub record ComesAfterStart (subject : Subject) : Type 0 where
  pub started : (setting : Setting) (past : Past) (e : Entry) (n : Name) → Legal setting (e ∷ past) → subject e.event ≡ Some n → is_some (start past n) ≡ true
  pub calm : (ev : Event) (n : Name) → subject ev ≡ Some n → starts_in ev ≡ 0
