-- How a pass goes on by its own entries, whatever others enter between them.
use Rattle.std.specs.Prelude.{◌≡◌, ◌++◌}
use Rattle.qc_event.specs.History.{Past}
use Rattle.qc_managers.specs.Carrying.{made_by}
use Rattle.qc_desk.specs.declared.view.View.{View}

-- The pass has seen more, of which these entries, the latest first, are its own; it is else as it was.
pub record Walk (v w : View) (made : Past) : Type 0 where
  pub newer : Past
  pub grown : w.seen ≡ newer ++ v.seen
  pub own : made_by v.number newer ≡ made
  pub number : w.number ≡ v.number
  pub live : w.live ≡ v.live
  pub out : w.out ≡ v.out
  pub kin : w.kin ≡ v.kin
