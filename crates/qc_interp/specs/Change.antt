-- How a step changes the number of a record.
use Rattle.std.specs.Prelude.{ℕ}
use Rattle.qc_script.specs.Plan.{plus, minus}
use Rattle.qc_interp.specs.declared.managing.Change.{Change}
use Rattle.qc_interp.specs.declared.managing.Change.TheVariants.{Add, Sub}

abbrev pub changed : Change → ℕ → ℕ
changed (Add amount) = λ value. plus value amount
changed (Sub amount) = λ value. minus value amount
