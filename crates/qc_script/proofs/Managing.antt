-- What a user transaction has a manager do is of a manager's kind.
use Rattle.qc_event.specs.Standing.{IsManager}
use Rattle.qc_script.specs.Managers.{manager_for}
use Rattle.qc_script.specs.declared.managed.Managed.{Managed}
use Rattle.qc_script.specs.declared.managed.Managed.TheVariants as managed

pub is_manager : (what : Managed) → IsManager (manager_for what)
is_manager (managed.Read rec) = tt
is_manager (managed.Write rec value) = tt
is_manager (managed.Reconf rec config) = tt
