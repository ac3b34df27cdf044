-- When an earlier access stands in no later one's way.
use Rattle.std.specs.Prelude.{Bool, true, false, ◌||◌, ◌&&◌, not, is_some}
use Rattle.std.specs.List.{list_all}
use Rattle.qc_config.specs.declared.tuple.Op.{Op}
use Rattle.qc_config.specs.declared.tuple.Op.TheVariants.{Get, PutData, PutConfig}
use Rattle.qc_names.specs.Name as name
use Rattle.qc_event.specs.History.{Past, Name}
use Rattle.qc_event.specs.Dead.{outcome, is_committed, ancestors, dead}

-- An access b is clear for a where b is dead, or each ancestor of b that is no ancestor of a is
-- committed: its lock was inherited as far as a's own line (Moss).
abbrev pub clear : Past → Name → Name → Bool
clear past b a = is_some (dead past b) || list_all (λ c. name.is_ancestor c a || is_committed (outcome past c)) (ancestors b)

-- whether an operation only reads
abbrev pub is_get : Op → Bool
is_get Get = true
is_get (PutData version value) = false
is_get (PutConfig generation config) = false

-- Two operations conflict unless both are reads.
abbrev pub conflict : Op → Op → Bool
conflict a b = not (is_get a && is_get b)
