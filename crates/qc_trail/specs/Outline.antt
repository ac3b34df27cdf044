-- What an entry is of, without its values.
use Rattle.qc_config.specs.declared.tuple.Op.{Op}
use Rattle.qc_config.specs.declared.tuple.Op.TheVariants.{Get}
use Rattle.qc_event.specs.declared.event.Event.{Event}
use Rattle.qc_event.specs.declared.event.Event.TheVariants as event
use Rattle.qc_event.specs.declared.event.How.{How}
use Rattle.qc_event.specs.declared.event.How.TheVariants as how
use Rattle.qc_event.specs.declared.event.Kind.{Kind}
use Rattle.qc_event.specs.declared.event.Kind.TheVariants.{Access}
use Rattle.qc_event.specs.History.{Name}
use Rattle.qc_trail.specs.declared.outline.Outline.{Outline}
use Rattle.qc_trail.specs.declared.outline.Outline.TheVariants.{Start, StartAccess, Put, Ready, Commit, Abort, Other}

-- the start of a name for this
abbrev pub kind_outline : Name → Kind → Outline
kind_outline n Access = StartAccess n
kind_outline n _ = Start n

-- the end of a name
abbrev pub how_outline : Name → How → Outline
how_outline n (how.Commit answer) = Commit n
how_outline n (how.Abort why) = Abort n

-- the grant of an operation
abbrev pub op_outline : Op → Outline
op_outline Get = Other
op_outline _ = Put

-- what an event is of
abbrev pub outline_of : Event → Outline
outline_of (event.Start n kind) = kind_outline n kind
outline_of (event.Granted copy grant) = op_outline grant.op
outline_of (event.Ready top) = Ready top
outline_of (event.End n how) = how_outline n how
outline_of _ = Other
