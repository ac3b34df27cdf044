-- Seeing nothing more is seeing more.
use Rattle.std.proofs.Common.{[], refl}
use Rattle.qc_desk.specs.Calling.{SeesMore}
use Rattle.qc_desk.specs.declared.view.View.{View}

-- a pass sees what it saw
pub sees_itself : (v : View) → SeesMore v v
sees_itself v = record { older = ([], refl); mine = refl; number = refl; live = refl; out = refl; kin = refl }
