-- What a client does at its line beside its accesses.
use Rattle.std.specs.Prelude.{◌≡◌}
use Rattle.qc_carry.specs.declared.line.Line.{Line}
use Rattle.qc_event.specs.declared.event.Kind.{Kind}
use Rattle.qc_event.specs.declared.event.Kind.TheVariants as kind

-- it is a user transaction or a manager
abbrev pub IsNoAccess : Kind → Type 0
IsNoAccess kind.Access = ⊥
IsNoAccess _ = Unit {0}

-- all of a line but its pass is as it was
abbrev pub KeepsRest : {R D L N : Type 0} {d : _} {b : _} {l : _} {n : _} {s : _} → Line R D L N d b l n s → Line R D L N d b l n s → Type 0
KeepsRest line now = (now.courier ≡ line.courier) × (now.patience ≡ line.patience) × (now.torn ≡ line.torn) × (now.system ≡ line.system)
