-- Which operations are of which phase.
use Rattle.std.proofs.Common.{◌≡◌, refl}
use Rattle.qc_config.specs.declared.tuple.Op.{Op}
use Rattle.qc_config.specs.declared.tuple.Op.TheVariants.{Get, PutData, PutConfig}
use Rattle.qc_event.specs.Clear.{is_get}
use Rattle.qc_event.specs.declared.event.Phase.TheVariants.{Collect}
use Rattle.qc_event.specs.Manager.{is_phase, phase_of}

pub get_collects : (op : Op) → is_get op ≡ is_phase Collect (phase_of op)
get_collects Get = refl
get_collects (PutData version value) = refl
get_collects (PutConfig generation config) = refl
