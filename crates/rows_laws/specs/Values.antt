-- Trails of steps that go by the value that a read gave.
use Rattle.std.specs.Prelude.{ℕ, ◌-◌, ◌^◌, List, [], ◌∷◌, codes}
use Rattle.qc_config.specs.Val.{Datum, Number, Text}
use Rattle.qc_event.specs.declared.event.Answer.TheVariants as answer
use Rattle.qc_event.specs.declared.event.Cause.TheVariants as cause
use Rattle.qc_event.specs.declared.event.Entry.{Entry}
use Rattle.qc_event.specs.declared.event.Event.TheVariants as event
use Rattle.qc_event.specs.declared.event.How.TheVariants.{Commit, Abort}
use Rattle.qc_event.specs.declared.event.Kind.TheVariants as kind
use Rattle.qc_event.specs.Seats.{ledger_seat}
use Rattle.qc_script.specs.Plan.{Plan, Numbered, change_then, need_then, plus, minus}
use Rattle.rows_laws.specs.Trails.{client, x, top, first_child, second_child, by, user, body_of}

-- the greatest number
abbrev pub last_value : ℕ
last_value = 2 ^ 64 - 1

-- the top starts, and a read gives this value
abbrev pub given_then : Datum → List Entry → List Entry
given_then value rest =
    user client top
    ∷ by client (event.Start first_child (kind.Read x))
    ∷ by client (event.End first_child (Commit (answer.Value value)))
    ∷ rest

-- the top commits
abbrev pub commits : List Entry
commits = by client (event.Ready top) ∷ by ledger_seat (event.End top (Commit answer.Nothing)) ∷ []

-- a number is written, and the top commits
abbrev pub writes : ℕ → List Entry
writes written =
    by client (event.Start second_child (kind.Write x (Number written))) ∷ by client (event.End second_child (Commit answer.Nothing)) ∷ commits

-- the top aborts itself
abbrev pub aborts : List Entry
aborts = by client (event.End top (Abort (cause.Asked top))) ∷ []

-- one number is read, and another is written
abbrev pub changed : ℕ → ℕ → List Entry
changed read written = given_then (Number read) (writes written)

-- a number is read, and the top commits
abbrev pub enough : ℕ → List Entry
enough read = given_then (Number read) commits

-- a number is read, and the top aborts itself
abbrev pub too_little : ℕ → List Entry
too_little read = given_then (Number read) aborts

-- a text is read that looks like a number
abbrev pub text_then : List Entry → List Entry
text_then rest = given_then (Text (codes "30")) rest

abbrev pub add : ℕ → List Numbered
add amount = body_of (change_then x (λ value. plus value amount) Plan.done)

abbrev pub sub : ℕ → List Numbered
sub amount = body_of (change_then x (λ value. minus value amount) Plan.done)

abbrev pub need : ℕ → List Numbered
need least = body_of (need_then x least Plan.done)
