-- What a complete manager was given, by its kind, in the order in which it was.
use Rattle.std.specs.Prelude.{◌≡◌, ◌+◌, ◌<◌, IsTrue, List, [], ◌∷◌, ◌++◌, length}
use Rattle.qc_config.specs.Config.{Voting, holds_read, holds_write}
use Rattle.qc_config.specs.Val.{Datum}
use Rattle.qc_config.specs.declared.tuple.Op.TheVariants.{Get, PutData, PutConfig}
use Rattle.qc_event.specs.declared.event.Answer.{Answer}
use Rattle.qc_event.specs.declared.event.Answer.TheVariants as answer
use Rattle.qc_event.specs.declared.event.Kind.{Kind}
use Rattle.qc_event.specs.declared.event.Kind.TheVariants as kind
use Rattle.qc_event.specs.declared.event.Phase.TheVariants.{Collect, Values, Configs}
use Rattle.qc_event.specs.Base.{Setting, first_of}
use Rattle.qc_event.specs.History.{Past, Name, Given}
use Rattle.qc_event.specs.Manager.{replies, replied, newest, greatest, record_of}
use Rattle.qc_serial.specs.Visible.{served}
use Rattle.qc_refine.specs.Given.{tuples_of, marks_of, AllDo}

-- What was collected: the replies are those of the gets, and their copies hold a read quorum of the newest
-- configuration.
pub record HasCollected (past : Past) (first : Voting) (m : Name) (gets : List Given) : Type 0 where
  pub all_get : AllDo Get gets
  pub same_replies : replies past m ≡ tuples_of gets
  pub same_copies : replied past m Collect ≡ marks_of gets
  pub quorum : IsTrue (holds_read (newest past first m).config (replied past m Collect))

-- A reading manager has collected, and answers the value of the greatest version.
pub record HasRead (past : Past) (first : Voting) (m : Name) (given : Answer) : Type 0 where
  pub collected : HasCollected past first m (served past m)
  pub answers : given ≡ answer.Value (greatest past m).value

-- A writing manager has collected, and then put its value, with the version after the greatest, at a write
-- quorum of the newest configuration.
pub record HasWritten (past : Past) (first : Voting) (m : Name) (value : Datum) (given : Answer) : Type 0 where
  pub gets : List Given
  pub puts : List Given
  pub parts : served past m ≡ gets ++ puts
  pub collected : HasCollected past first m gets
  pub all_put : AllDo (PutData ((greatest past m).version + 1) value) puts
  pub same_copies : replied past m Values ≡ marks_of puts
  pub quorum : IsTrue (holds_write (newest past first m).config (replied past m Values))
  pub answers : given ≡ answer.Nothing

-- A reconfiguring manager has collected, then put the value of the greatest version at a write quorum of the
-- new configuration, and then the new configuration, with the generation after the newest, at a write
-- quorum of the newest. It answers that generation.
pub record HasMoved (past : Past) (first : Voting) (m : Name) (config : Voting) (given : Answer) : Type 0 where
  pub gets : List Given
  pub puts : List Given
  pub configs : List Given
  pub parts : served past m ≡ gets ++ (puts ++ configs)
  pub collected : HasCollected past first m gets
  pub all_put : AllDo (PutData (greatest past m).version (greatest past m).value) puts
  pub put_copies : replied past m Values ≡ marks_of puts
  pub put_quorum : IsTrue (holds_write config (replied past m Values))
  pub all_move : AllDo (PutConfig ((newest past first m).generation + 1) config) configs
  pub move_copies : replied past m Configs ≡ marks_of configs
  pub move_quorum : IsTrue (holds_write (newest past first m).config (replied past m Configs))
  pub answers : given ≡ answer.Generation ((newest past first m).generation + 1)

-- what a manager of a kind has done that answers so
abbrev pub HasDone : Setting → Past → Name → Answer → Kind → Type 0
HasDone setting past m given (kind.Read rec) = HasRead past (first_of setting rec) m given
HasDone setting past m given (kind.Write rec value) = HasWritten past (first_of setting rec) m value given
HasDone setting past m given (kind.Reconf rec config) = HasMoved past (first_of setting rec) m config given
HasDone setting past m given _ = ⊥

-- A grant is from a copy that there is, below 16, and of a manager's record.
pub record IsWithin (setting : Setting) (k : Kind) (g : Given) : Type 0 where
  pub below : g.copy < 16
  pub is_copy : g.copy < length setting.base
  pub same_record : g.grant.rec ≡ record_of k

-- so are all grants of the list
abbrev pub AllWithin : Setting → Kind → List Given → Type 0
AllWithin setting k [] = Unit {0}
AllWithin setting k (g ∷ given) = IsWithin setting k g × AllWithin setting k given
