-- What a collection and a phase of puts keep of what a manager was told.
use Rattle.std.specs.Prelude.{ℕ, List, [], ◌∷◌, Option, None, Some}
use Rattle.qc_config.specs.Config.{Voting}
use Rattle.qc_config.specs.Val.{Datum}
use Rattle.qc_config.specs.declared.tuple.Tuple.{Tuple}
use Rattle.qc_event.specs.declared.event.Phase.{Phase}
use Rattle.qc_event.specs.Manager.{Newest, Greatest, greater, greatest_among}
use Rattle.qc_managers.specs.declared.heard.Heard.{Heard}
use Rattle.qc_managers.specs.Heard.{heard}
use Rattle.qc_managers.specs.Told.{Told, replies_in, newest_in}

-- A collection: what was heard, the newest configuration, and the greatest version with its value, where
-- something replied.
pub record Gathered : Type 0 where
  pub heard : Heard
  pub newest : Newest
  pub greatest : Option Greatest

-- the greatest among tuples, where there are some
abbrev pub greatest_of : List Tuple → Option Greatest
greatest_of [] = None
greatest_of (first ∷ tuples) = Some (greatest_among (first ∷ tuples))

-- the collection by a first configuration and what was told
abbrev pub gathered : Voting → List Told → Gathered
gathered first told = record { heard = heard told; newest = newest_in first told; greatest = greatest_of (replies_in told) }

-- a version and its value, as a pair
abbrev pub kept : ℕ × Datum → Greatest
kept pair = record { version = pair.0; value = pair.1 }

-- the greatest with one more tuple
abbrev pub raised : Option Greatest → Tuple → Greatest
raised None t = record { version = t.version; value = t.value }
raised (Some best) t = greater best t

-- A phase of puts: what was heard, and the configuration whose write quorum is needed.
pub record Putting : Type 0 where
  pub heard : Heard
  pub config : Voting
  pub phase : Phase

-- the puts of a phase by their configuration and what was told
abbrev pub put : Voting → Phase → List Told → Putting
put config phase told = record { heard = heard told; config = config; phase = phase }
