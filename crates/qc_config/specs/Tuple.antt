-- What an operation does to a copy's tuple.
use Rattle.qc_config.specs.declared.tuple.Tuple.{Tuple}
use Rattle.qc_config.specs.declared.tuple.Op.{Op}
use Rattle.qc_config.specs.declared.tuple.Op.TheVariants.{Get, PutData, PutConfig}

-- the tuple after an operation: a put sets its two fields
abbrev pub after : Tuple → Op → Tuple
after tuple Get = tuple
after tuple (PutData version value) = record tuple { version = version; value = value }
after tuple (PutConfig generation config) = record tuple { generation = generation; config = config }
