-- What is told of names by a look.
use Rattle.std.specs.Prelude.{ℕ, Bool, true, false, Option, None, Some, option_and_then}
use Rattle.std.specs.Option.{option_map_or}
use Rattle.qc_event.specs.Base.{Setting}
use Rattle.qc_event.specs.Legal.{Legal}
use Rattle.qc_event.specs.declared.event.Kind.{Kind}
use Rattle.qc_event.specs.declared.event.Kind.TheVariants as kind
use Rattle.qc_event.specs.History.{Past, Name, kind_of}
use Rattle.qc_event.specs.Users.{is_marked, top_number}

-- the session of a user transaction
abbrev pub session_of : Kind → Option ℕ
session_of (kind.User session body) = Some session
session_of _ = None

-- whether a name was started as an access
abbrev pub is_of_access : Option Kind → Bool
is_of_access (Some kind.Access) = true
is_of_access _ = false

-- whether a user transaction's session is marked, by a top with at least the number of its own
abbrev pub is_marked_for : Past → Name → Bool
is_marked_for past n = option_map_or (λ session. is_marked past session (top_number n)) (option_and_then session_of (kind_of past n)) false

-- a fact holds of a history where it is legal
abbrev pub WhereLegal : Past → Type 0 → Type 0
WhereLegal past fact = (setting : Setting) → Legal setting past → fact
