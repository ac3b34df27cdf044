-- The greatest of tuples, as it is raised by one after another.
use Rattle.std.specs.Prelude.{◌+◌, true, List, [], ◌∷◌, Option, None, Some, filter, filter_map, if◌then◌else◌}
use Rattle.qc_config.specs.Config.{Voting}
use Rattle.qc_config.specs.declared.tuple.Op.TheVariants.{PutData, PutConfig}
use Rattle.qc_config.specs.declared.tuple.Tuple.{Tuple}
use Rattle.qc_event.specs.declared.event.Ask.{Ask}
use Rattle.qc_event.specs.declared.event.Phase.TheVariants.{Values, Configs}
use Rattle.qc_event.specs.Clear.{is_get}
use Rattle.qc_event.specs.History.{Past}
use Rattle.qc_event.specs.Manager.{Greatest, Newest, Stage, greater, reply}

-- the greatest so far and one more tuple
abbrev pub raised : Option Greatest → Tuple → Option Greatest
raised None t = Some (record { version = t.version; value = t.value })
raised (Some best) t = Some (greater best t)

-- what a request replied, where it reads
abbrev pub reply_to : Past → Ask → Option Tuple
reply_to past ask = if is_get ask.op then reply past ask.access else None

-- what requests replied, those that read, in order
abbrev pub replies_to : Past → List Ask → List Tuple
replies_to past requests = filter_map (λ (ask : Ask). reply past ask.access) (filter (λ (ask : Ask). is_get ask.op) requests)

-- what a reconfiguring manager does after its collection
abbrev pub later_stages : Voting → Newest → Greatest → List Stage
later_stages config now found =
    record { phase = Values; config = config; op = PutData found.version found.value; writes = true }
    ∷ record { phase = Configs; config = now.config; op = PutConfig (now.generation + 1) config; writes = true }
    ∷ []
