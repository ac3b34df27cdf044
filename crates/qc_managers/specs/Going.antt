-- How a manager goes on: what it hears, and what its accesses leave of the carrier.
use Rattle.std.specs.Prelude.{ℕ, ◌≡◌, ◌≤◌, true, false, IsTrue, List, [], ◌∷◌, ◌++◌, All}
use Rattle.qc_config.specs.Config.{Voting}
use Rattle.qc_config.specs.declared.tuple.Op.{Op}
use Rattle.qc_event.specs.Base.{Setting}
use Rattle.qc_event.specs.declared.event.Kind.{Kind}
use Rattle.qc_event.specs.declared.event.Phase.{Phase}
use Rattle.qc_event.specs.declared.event.Phase.TheVariants.{Collect}
use Rattle.qc_event.specs.History.{Past, Name, is_child}
use Rattle.qc_event.specs.Manager.{Stage, is_phase, phase_of, is_enough, newest, collecting, stages, at_last_number, record_of, first_for}
use Rattle.qc_event.specs.Standing.{IsManager}
use Rattle.qc_managers.specs.Carrying.{CarrierView, own_entries, IsRunning, HasGrown, name_of}
use Rattle.qc_managers.specs.Gathered.{Gathered, gathered}
use Rattle.qc_managers.specs.Told.{Told}
use Rattle.qc_managers.specs.Answered.{told_in, EachTold}

-- WHAT A MANAGER HEARS

-- A manager that may go on: it runs, and each of its requests has a result.
pub record MayGoOn (seat : ℕ) (past : Past) (m : Name) (k : Kind) : Type 0 where
  pub running : IsRunning seat past m k
  pub each_told : EachTold past m

-- In every other phase a manager was told the same.
abbrev pub SameElsewhere : Past → Past → Name → Phase → Type 0
SameElsewhere before now m phase = (p : Phase) → is_phase p phase ≡ false → told_in now m p ≡ told_in before m p

-- A manager was told more in a phase, and nothing in others. It may go on.
pub record HasHeard (seat : ℕ) (before now : Past) (m : Name) (k : Kind) (phase : Phase) (more : List Told) : Type 0 where
  pub goes_on : MayGoOn seat now m k
  pub here : told_in now m phase ≡ told_in before m phase ++ more
  pub elsewhere : SameElsewhere before now m phase

-- WHAT ITS ACCESSES LEAVE

-- entries of a manager's accesses were added
pub record HasMade (m : Name) (before now : Past) : Type 0 where
  pub made : Past
  pub added : now ≡ made ++ before
  pub each : All (λ e. IsTrue (is_child m (name_of e.event))) made

-- A carrier has carried for a manager: what it saw and made are entries of the manager's accesses, or such
-- as others may make.
pub record HasServed (m : Name) (before now : CarrierView) : Type 0 where
  pub setting : now.setting ≡ before.setting
  pub seat : now.seat ≡ before.seat
  pub others : now.others ≡ before.others
  pub grown : HasGrown before.others (λ n. IsTrue (is_child m n)) before.seen now.seen
  pub own : HasMade m (own_entries before) (own_entries now)
  pub later : before.troubles ≤ now.troubles

-- STAGES

-- A manager has come to a stage: each stage before it, in another phase, is enough, and its number is not at
-- the last one.
pub record HasReached (past : Past) (first : Voting) (m : Name) (k : Kind) (s : Stage) : Type 0 where
  pub earlier : List Stage
  pub later : List Stage
  pub among : stages past first m k ≡ earlier ++ s ∷ later
  pub enough : All (λ e. IsTrue (is_enough past m e)) earlier
  pub apart : All (λ (e : Stage). is_phase e.phase s.phase ≡ false) earlier
  pub not_last : at_last_number past first m k ≡ false

-- A manager may collect: it may go on, and was told nothing of its collection.
pub record MayCollect (setting : Setting) (seat : ℕ) (past : Past) (m : Name) (k : Kind) (rec : ℕ) (first : Voting) : Type 0 where
  pub manages : IsManager k
  pub goes_on : MayGoOn seat past m k
  pub same_record : rec ≡ record_of k
  pub same_first : first ≡ first_for setting k
  pub nothing_told : told_in past m Collect ≡ []

-- A manager has collected enough: what it was told is gathered, by the record's first configuration.
pub record HasCollected (seat : ℕ) (before now : Past) (m : Name) (k : Kind) (first : Voting) (collected : Gathered) : Type 0 where
  pub goes_on : MayGoOn seat now m k
  pub elsewhere : SameElsewhere before now m Collect
  pub kept : collected ≡ gathered first (told_in now m Collect)
  pub enough : IsTrue (is_enough now m (collecting (newest now first m)))

-- the stage of a manager that puts
abbrev pub putting : Voting → Phase → Op → Stage
putting config phase op = record { phase = phase; config = config; op = op; writes = true }

-- A manager may put at a stage after its collection: it may go on, has come to that stage, and was told
-- nothing there.
pub record MayPut (setting : Setting) (seat : ℕ) (past : Past) (m : Name) (k : Kind) (rec : ℕ) (s : Stage) : Type 0 where
  pub manages : IsManager k
  pub goes_on : MayGoOn seat past m k
  pub same_record : rec ≡ record_of k
  pub reached : HasReached past (first_for setting k) m k s
  pub after : is_phase Collect s.phase ≡ false
  pub of_phase : s.phase ≡ phase_of s.op
  pub nothing_told : told_in past m s.phase ≡ []

-- A manager has put enough.
pub record HasPut (seat : ℕ) (before now : Past) (m : Name) (k : Kind) (s : Stage) : Type 0 where
  pub goes_on : MayGoOn seat now m k
  pub elsewhere : SameElsewhere before now m s.phase
  pub enough : IsTrue (is_enough now m s)
