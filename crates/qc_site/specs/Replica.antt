-- What a copy knows at its desk.
use Rattle.std.specs.Prelude.{ℕ, ◌≡◌, ◌<◌, Bool, true, List, [], length, slice_index_or, Option, IfSome}
use Rattle.qc_config.specs.declared.tuple.Tuple.{Tuple}
use Rattle.qc_event.specs.declared.event.Grant.{Grant}
use Rattle.qc_event.specs.Base.{Setting}
use Rattle.qc_event.specs.Grants.{MayGrant}
use Rattle.qc_event.specs.History.{Past, grants}
use Rattle.qc_event.specs.Seats.{copy_seat}
use Rattle.qc_moss.specs.Follows.{TableFollows}
use Rattle.qc_moss.specs.Locks.{Table}
use Rattle.qc_desk.specs.declared.view.View.{View}
use Rattle.qc_desk.specs.Known.{IsKnown}

-- A copy at its desk: its pass, the grant in hand, which is not entered yet, and whether it has its locks.
pub record Standing : Type 0 where
  pub pass : View
  pub hand : Option Grant
  pub up : Bool

-- A lock table has room for the grant in hand.
pub record HasRoomFor (locks : Table) (grant : Grant) : Type 0 where
  pub reserved : locks.reserved ≡ true
  pub within : grant.rec < length locks.start

-- A lock table is over these tuples, and follows what was seen with the copy's grants.
pub record IsTableOf (start : List Tuple) (past : Past) (copy : ℕ) (locks : Table) : Type 0 where
  pub same_start : locks.start ≡ start
  pub follows : TableFollows past (grants past copy) locks

-- What a copy keeps: its number, that no pass is out and none was joined, what its pass knows, its start, its locks where it is up, and that the grant in hand may be made.
pub record IsKept (setting : Setting) (copy : ℕ) (pass : View) (start : List Tuple) (locks : Option Table) (hand : Option Grant) : Type 0 where
  pub small : copy < 16
  pub live : pass.live ≡ true
  pub number : pass.number ≡ copy_seat copy
  pub out : pass.out ≡ []
  pub kin : pass.kin ≡ []
  pub known : ∥ IsKnown setting pass ∥₁
  pub starts : start ≡ slice_index_or setting.base copy []
  pub kept : IfSome locks (IsTableOf start pass.seen copy)
  pub may : IfSome hand (MayGrant setting pass.seen (copy_seat copy) copy)
  pub room : IfSome locks (λ l. IfSome hand (HasRoomFor l))
