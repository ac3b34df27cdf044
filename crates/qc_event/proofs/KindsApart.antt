-- Which kinds of transactions are apart.
use Rattle.qc_event.specs.Standing.{IsUser, IsManager}
use Rattle.qc_event.specs.declared.event.Kind.{Kind}
use Rattle.qc_event.specs.declared.event.Kind.TheVariants as kind

-- a user transaction is no manager
pub user_or_manager : (k : Kind) → IsUser k → IsManager k → ⊥
user_or_manager (kind.User session body) user manager = manager
user_or_manager _ user manager = user
