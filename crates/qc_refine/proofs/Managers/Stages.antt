-- The stage at which a manager is, by the tuples and the copies that replied: collecting, putting or moving.
use Rattle.std.proofs.Common.{◌≡◌, ℕ, ◌+◌, Bool, true, false, List, length, refl, sym, ap, ◌∙◌, inl, inr, ◌⊎◌}
use Rattle.std.specs.Prelude.{Option, None, Some, find, fold, cond, not, ◌&&◌, if◌then◌else◌}
use Rattle.std.proofs.lemmas.Option.{none-some}
use Rattle.qc_config.specs.Config.{Voting, no_config, holds_read, holds_write}
use Rattle.qc_config.specs.Val.{Number}
use Rattle.qc_config.specs.declared.tuple.Op.{Op}
use Rattle.qc_config.specs.declared.tuple.Op.TheVariants.{PutData, PutConfig}
use Rattle.qc_config.specs.declared.tuple.Tuple.{Tuple}
use Rattle.qc_event.specs.declared.event.Kind.{Kind}
use Rattle.qc_event.specs.declared.event.Kind.TheVariants as kind
use Rattle.qc_event.specs.declared.event.Phase.{Phase}
use Rattle.qc_event.specs.declared.event.Phase.TheVariants.{Collect, Values, Configs}
use Rattle.qc_event.specs.Base.{Setting}
use Rattle.qc_event.specs.Standing.{IsManager}
use Rattle.qc_event.specs.Manager.{Stage, Newest, Greatest, phase_of, newer, greatest_among, collecting, stages_by, is_last}
use Rattle.qc_event.proofs.KindFits.{KindFits}
use Rattle.qc_event.proofs.Sizes.{AllSized, newest_sized}

-- the newest configuration among tuples
abbrev pub newest_among : Voting → List Tuple → Newest
newest_among first tuples = fold newer (record { generation = 0; config = first }) tuples

-- whether the copies of a stage's phase hold its quorum
abbrev pub is_enough_by : (Phase → List Bool) → Stage → Bool
is_enough_by marks s = if s.writes then holds_write s.config (marks s.phase) else holds_read s.config (marks s.phase)

-- the stage of a manager that collected these tuples, and to which these copies replied
abbrev pub stage_by : Voting → Kind → List Tuple → (Phase → List Bool) → Option Stage
stage_by first k tuples marks =
    if is_enough_by marks (collecting (newest_among first tuples)) && is_last k (newest_among first tuples) (greatest_among tuples) then None
    else find (λ s. not (is_enough_by marks s)) (stages_by k (newest_among first tuples) (greatest_among tuples))

-- what is put in the phase of values, and what in that of configurations
abbrev pub put_op : Kind → Greatest → Op
put_op (kind.Write rec value) found = PutData (found.version + 1) value
put_op (kind.Reconf rec config) found = PutData found.version found.value
put_op _ found = PutData 0 (Number 0)

abbrev pub move_op : Kind → Newest → Op
move_op (kind.Reconf rec config) now = PutConfig (now.generation + 1) config
move_op _ now = PutConfig 0 no_config

pub put_phase : (k : Kind) (found : Greatest) → phase_of (put_op k found) ≡ Values
put_phase (kind.Write rec value) found = refl
put_phase (kind.Reconf rec config) found = refl
put_phase _ found = refl

pub move_phase : (k : Kind) (now : Newest) → phase_of (move_op k now) ≡ Configs
move_phase (kind.Reconf rec config) now = refl
move_phase _ now = refl

-- the configuration that counts in the phase of values
abbrev pub put_config : Kind → Newest → Voting
put_config (kind.Reconf rec config) now = config
put_config _ now = now.config

abbrev pub putting : Kind → Newest → Greatest → Stage
putting k now found = record { phase = Values; config = put_config k now; op = put_op k found; writes = true }

abbrev pub moving : Kind → Newest → Stage
moving k now = record { phase = Configs; config = now.config; op = move_op k now; writes = true }

-- whether a kind puts values, and whether it puts configurations
abbrev pub Puts : Kind → Type 0
Puts (kind.Write rec value) = Unit {0}
Puts (kind.Reconf rec config) = Unit {0}
Puts _ = ⊥

abbrev pub Moves : Kind → Type 0
Moves (kind.Reconf rec config) = Unit {0}
Moves _ = ⊥

pub record IsCollecting (now : Newest) (marks : Phase → List Bool) (s : Stage) : Type 0 where
  pub is : collecting now ≡ s
  pub short : holds_read now.config (marks Collect) ≡ false

pub record IsPutting (k : Kind) (now : Newest) (found : Greatest) (marks : Phase → List Bool) (s : Stage) : Type 0 where
  pub is : putting k now found ≡ s
  pub puts : Puts k
  pub enough : holds_read now.config (marks Collect) ≡ true
  pub short : holds_write (put_config k now) (marks Values) ≡ false

pub record IsMoving (k : Kind) (now : Newest) (marks : Phase → List Bool) (s : Stage) : Type 0 where
  pub is : moving k now ≡ s
  pub moves : Moves k
  pub enough : holds_read now.config (marks Collect) ≡ true
  pub written : holds_write (put_config k now) (marks Values) ≡ true

-- the stage that is found
abbrev pub IsAtStage : Kind → Newest → Greatest → (Phase → List Bool) → Stage → Type 0
IsAtStage k now found marks s = IsCollecting now marks s ⊎ (IsPutting k now found marks s ⊎ IsMoving k now marks s)

not_last : (c l : Bool) (o : Option Stage) (s : Stage) → (if c && l then None else o) ≡ Some s → o ≡ Some s
not_last true true o s is = absurd cc
not_last true false o s is = is
not_last false l o s is = is

first_short : (b : Bool) (a s : Stage) (rest : Option Stage) → cond (not b) (Some a) rest ≡ Some s → ((b ≡ false) × (a ≡ s)) ⊎ ((b ≡ true) × (rest ≡ Some s))
first_short true a s rest is = inr (refl, is)
first_short false a s rest is = inl (refl, cc)

module _ (first : Voting) (tuples : List Tuple) (marks : Phase → List Bool) (s : Stage) where
  abbrev now : Newest
  now = newest_among first tuples

  abbrev found : Greatest
  found = greatest_among tuples

  abbrev got : Bool
  got = holds_read now.config (marks Collect)

  pub finds : (k : Kind) → IsManager k → stage_by first k tuples marks ≡ Some s → IsAtStage k now found marks s
  finds (kind.Read rec) manager is = elim (first_short got _ s _ (not_last got false _ s is)) [
    | inl short ↦ inl (record { is = short.1; short = short.0 })
    | inr enough ↦ absurd (none-some s enough.1)
  ]
  finds (kind.Write rec value) manager is = elim (first_short got _ s _ (not_last got _ _ s is)) [
    | inl short ↦ inl (record { is = short.1; short = short.0 })
    | inr enough ↦ elim (first_short (holds_write now.config (marks Values)) (putting (kind.Write rec value) now found) s None enough.1) [
      | inl short ↦ inr (inl (record { is = short.1; puts = tt; enough = enough.0; short = short.0 }))
      | inr written ↦ absurd (none-some s written.1)
    ]
  ]
  finds (kind.Reconf rec config) manager is = elim (first_short got _ s _ (not_last got _ _ s is)) [
    | inl short ↦ inl (record { is = short.1; short = short.0 })
    | inr enough ↦ elim (first_short (holds_write config (marks Values)) (putting (kind.Reconf rec config) now found) s _ enough.1) [
      | inl short ↦ inr (inl (record { is = short.1; puts = tt; enough = enough.0; short = short.0 }))
      | inr written ↦ elim (first_short (holds_write now.config (marks Configs)) (moving (kind.Reconf rec config) now) s None written.1) [
        | inl short ↦ inr (inr (record { is = short.1; moves = tt; enough = enough.0; written = written.0 }))
        | inr all ↦ absurd (none-some s all.1)
      ]
    ]
  ]
  finds _ manager is = absurd manager

-- SIZES

-- the configuration of a reconfiguration is for this many copies
abbrev pub KindSized : ℕ → Kind → Type 0
KindSized size (kind.Reconf rec config) = length config.votes ≡ size
KindSized size _ = Unit {0}

-- a kind that fits the table has one for every copy
pub kind_sized : (setting : Setting) (k : Kind) → KindFits setting k → KindSized (length setting.base) k
kind_sized setting (kind.Reconf rec config) fits = fits.1
kind_sized setting (kind.User session body) fits = tt
kind_sized setting (kind.Read rec) fits = tt
kind_sized setting (kind.Write rec value) fits = tt
kind_sized setting kind.Access fits = tt

put_sized : (size : ℕ) (k : Kind) (best : Newest) → KindSized size k → length best.config.votes ≡ size → length (put_config k best).votes ≡ size
put_sized size (kind.Reconf rec config) best sized here = sized
put_sized size _ best sized here = here

-- the configuration that counts in a stage is for as many copies as all others
pub stage_sized : (size : ℕ) (first : Voting) (k : Kind) (tuples : List Tuple) (marks : Phase → List Bool) (s : Stage) → length first.votes ≡ size → AllSized size tuples → KindSized size k → IsAtStage k (newest_among first tuples) (greatest_among tuples) marks s → length s.config.votes ≡ size
stage_sized size first k tuples marks s here all sized finds =
    let newest : length (newest_among first tuples).config.votes ≡ size = newest_sized size (record { generation = 0; config = first }) tuples here all in
    elim finds [
      | inl c ↦ ap (λ (x : Stage). length x.config.votes) (sym c.is) ∙ newest
      | inr rest ↦ elim rest [
        | inl p ↦ ap (λ (x : Stage). length x.config.votes) (sym p.is) ∙ put_sized size k (newest_among first tuples) sized newest
        | inr m ↦ ap (λ (x : Stage). length x.config.votes) (sym m.is) ∙ newest
      ]
    ]
