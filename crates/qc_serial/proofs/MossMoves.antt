-- What of a history bears on locks: grants, commits and aborts, the newest first, with names from the
-- deepest number up.
use Rattle.std.specs.Prelude.{ℕ, ◌&&◌, ◌||◌, ◌==◌, Bool, cond, not, List, [], ◌∷◌, reverse}
use Rattle.qc_config.specs.declared.tuple.Tuple.{Tuple}
use Rattle.qc_config.specs.declared.tuple.Op.{Op}
use Rattle.qc_config.specs.Tuple.{after}
use Rattle.qc_event.specs.declared.event.Outcome.{Outcome}
use Rattle.qc_event.specs.declared.event.Outcome.TheVariants.{Live, Committed, Aborted}
use Rattle.qc_event.specs.History.{Given, same}
use Rattle.qc_event.specs.Clear.{is_get}
use Rattle.qc_event.specs.Dead.{is_committed, is_aborted}
use Rattle.qc_serial.proofs.MossNames.{Line, is_above}

abbrev pub is_put : Op → Bool
is_put op = not (is_get op)

-- a copy and a record
pub record Place : Type 0 where
  pub copy : ℕ
  pub rec : ℕ

abbrev pub same_place : Place → Place → Bool
same_place a b = (a.copy == b.copy) && (a.rec == b.rec)

abbrev pub place_of : Given → Place
place_of g = record { copy = g.copy; rec = g.grant.rec }

abbrev pub access_of : Given → Line
access_of g = reverse g.grant.access

-- child k of the parent commits, or aborts
pub data Move : Type 0 where
  Granted : (g : Given) → Move
  Commit : (k : ℕ) (parent : Line) → Move
  Abort : (k : ℕ) (parent : Line) → Move

abbrev pub outcome : List Move → Line → Outcome
outcome [] n = Live
outcome (Granted g ∷ h) n = outcome h n
outcome (Commit k p ∷ h) n = cond (same (k ∷ p) n) Committed (outcome h n)
outcome (Abort k p ∷ h) n = cond (same (k ∷ p) n) Aborted (outcome h n)

-- one of its ancestors is aborted
abbrev pub is_dead : List Move → Line → Bool
is_dead h [] = is_aborted (outcome h [])
is_dead h (k ∷ p) = is_aborted (outcome h (k ∷ p)) || is_dead h p

-- each ancestor of b that is no ancestor of a is committed
abbrev pub is_shown : List Move → Line → Line → Bool
is_shown h [] a = is_committed (outcome h []) || is_above [] a
is_shown h (k ∷ p) a = (is_committed (outcome h (k ∷ p)) || is_above (k ∷ p) a) && is_shown h p a

abbrev pub grants : List Move → List Given
grants [] = []
grants (Granted g ∷ h) = g ∷ grants h
grants (Commit k p ∷ h) = grants h
grants (Abort k p ∷ h) = grants h

-- what the grants at a place that pass a test leave there, newest first
abbrev pub left_by : (Place → Tuple) → (Line → Bool) → List Given → Place → Tuple
left_by base p [] place = base place
left_by base p (g ∷ gs) place = cond (same_place (place_of g) place && p (access_of g)) (after (left_by base p gs place) g.grant.op) (left_by base p gs place)

-- the copy's value: what the grants that are not dead leave
abbrev pub seen : (Place → Tuple) → List Move → Place → Tuple
seen base h place = left_by base (λ n. not (is_dead h n)) (grants h) place
