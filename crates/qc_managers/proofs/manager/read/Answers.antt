-- A manager that has asked nothing reads, and may commit with the value.
use Rattle.std.proofs.Common.{refl}
use Rattle.qc_event.specs.Base.{first_of}
use Rattle.qc_event.specs.declared.event.Kind.TheVariants as kind
use Rattle.qc_event.specs.declared.event.Phase.TheVariants.{Collect}
use Rattle.qc_managers.specs.Answered.{told_in}
use Rattle.qc_managers.proofs.Answered.{may_collect, read_answered}
use Rattle.qc_managers.proofs.Onwards.{collected_by}
use Rattle.qc_managers.proofs.manager.read.Goals as goal

pub collect-requires : goal.collect-requires
collect-requires g c κs within =
    let before = c.args.carrier.now in
    (within, may_collect (g.C.Carrier.view before).setting (g.C.Carrier.view before).seat (g.C.Carrier.view before).seen c.args.manager.now (kind.Read c.args.rec) c.args.rec c.args.first.now (g.met.C.Carrier.is_legal before) tt c.requires.manager c.requires.no_child refl c.requires.first)

pub returns-clause-answered : goal.returns-clause-answered
returns-clause-answered g c =
    let carrier = g.C.Carrier in
    let before = c.args.carrier.now in
    let now = c.collect.new.carrier in
    let read = kind.Read c.args.rec in
    let collected = collected_by (carrier.view before).seat (carrier.view before).seen (carrier.view now).seen c.args.manager.now read c.args.first.now (first_of (carrier.view before).setting c.args.rec) c.in_ok-gather.gather c.requires.first c.in_ok-gather.ensures.collected in
    read_answered (carrier.view before).setting (carrier.view before).seat (carrier.view before).seen (carrier.view now).seen c.args.manager.now c.args.rec c.in_ok-gather.gather c.greatest-value.result.1 collected (c.greatest-value.ensures.value (first_of (carrier.view before).setting c.args.rec) (told_in (carrier.view now).seen c.args.manager.now Collect) collected.kept)
