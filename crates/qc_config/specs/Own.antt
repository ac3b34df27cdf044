-- How a value is kept for long: a number as it is, and a text as its bytes on the heap.
use Rattle.std.specs.Prelude.{◌≤◌, length}
use Rattle.qc_config.specs.Val.{Datum, Number, Text, longest}
use Rattle.qc_config.specs.declared.own_val.OwnVal.TheInside.{Inside}
use Rattle.qc_config.specs.declared.own_val.Long.{Long}
use Rattle.qc_config.specs.declared.own_val.Long.TheVariants as long_is

abbrev pub told_by : Long → Datum
told_by (long_is.Number n) = Number n
told_by (long_is.Text bytes) = Text bytes.items

abbrev pub told : Inside → Datum
told v = told_by v.kept

abbrev pub is_short_by : Long → Type 0
is_short_by (long_is.Number n) = Unit {0}
is_short_by (long_is.Text bytes) = length bytes.items ≤ longest

abbrev pub is_short : Inside → Type 0
is_short v = is_short_by v.kept
