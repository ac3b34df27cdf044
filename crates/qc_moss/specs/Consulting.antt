-- What a copy's locks tell of a request.
use Rattle.std.specs.Prelude.{List, fold, filter, find, Option}
use Rattle.std.specs.Option.{option_map, option_map_or}
use Rattle.qc_config.specs.declared.tuple.Tuple.{Tuple}
use Rattle.qc_config.specs.Tuple.{after}
use Rattle.qc_event.specs.declared.event.Ask.{Ask}
use Rattle.qc_event.specs.declared.event.Grant.{Grant}
use Rattle.qc_event.specs.Dead.{dead}
use Rattle.qc_event.specs.Grants.{grant_with}
use Rattle.qc_event.specs.History.{Past, Name}
use Rattle.qc_event.specs.Seen.{is_in_way, is_live_at, changed_by}
use Rattle.qc_moss.specs.declared.consulting.Verdict.{Verdict}
use Rattle.qc_moss.specs.declared.consulting.Verdict.TheVariants as verdicts
use Rattle.qc_moss.specs.Locks.{Table, granted_to, start_of, tuple_of}

-- the lock table after grants of which each access holds its own lock
abbrev pub all_granted : Table → List Grant → Table
all_granted table given = fold (λ t (g : Grant). granted_to t g.access g.rec g.op) table given

-- the grant of a request, by what the locks leave
abbrev pub grant_of : Table → Ask → Grant
grant_of table ask = grant_with ask (after (tuple_of table ask.rec) ask.op)

-- the access of the first grant in a request's way
abbrev pub blocker : Past → List Grant → Ask → Option Name
blocker past given ask = option_map (λ (g : Grant). g.access) (find (is_in_way past ask.rec ask.op ask.access) given)

-- the tuple after a request's operation: the start tuple, changed in order by each grant that is not dead
abbrev pub tuple_after : Past → Table → List Grant → Ask → Tuple
tuple_after past table given ask = after (changed_by (start_of table ask.rec) (filter (is_live_at past ask.rec) given)) ask.op

-- whether a request may be granted, and with which tuple after it
abbrev pub verdict : Past → Table → List Grant → Ask → Verdict
verdict past table given ask =
    option_map_or verdicts.Dead (dead past ask.access)
    (option_map_or verdicts.Blocked (blocker past given ask)
    (verdicts.Free (tuple_after past table given ask)))
