-- A manager that has asked nothing reconfigures, and may commit.
use Rattle.std.proofs.Common.{◌≡◌, ◌+◌, refl, subst, sym}
use Rattle.std.specs.Prelude.{IsTrue}
use Rattle.std.proofs.lemmas.Result.{err_from_is_err_and}
use Rattle.qc_config.specs.Config.{holds_write}
use Rattle.qc_event.specs.Base.{first_of}
use Rattle.qc_event.specs.declared.event.Kind.TheVariants as kind
use Rattle.qc_event.specs.declared.event.Phase.TheVariants.{Collect, Configs}
use Rattle.qc_event.specs.Manager.{newest, replied}
use Rattle.qc_managers.specs.Answered.{told_in}
use Rattle.qc_managers.specs.Going.{MayCollect}
use Rattle.qc_managers.proofs.Answered.{may_collect}
use Rattle.qc_managers.proofs.Onwards.{kind_is, has_gathered, may_put, complete_there}
use Rattle.qc_managers.proofs.Served.{served_further}
use Rattle.qc_managers.proofs.Undisturbed.{never_last}
use Rattle.qc_managers.proofs.Moving.{at_last_generation, comes_to_move, comes_to_teach, is_next, has_moved, has_taught, has_reconfigured}
use Rattle.qc_managers.proofs.reconfiguration.reconfigure.Goals as goal

pub collect-requires : goal.collect-requires
collect-requires g c κs within =
    let carrier = g.C.Carrier in
    let before = c.args.carrier.now in
    let m = c.args.manager.now in
    let reconf = kind.Reconf c.args.rec c.args.new.now in
    let may = may_collect (carrier.view before).setting (carrier.view before).seat (carrier.view before).seen m reconf c.args.rec c.args.first.now (g.met.C.Carrier.is_legal before) tt c.requires.manager c.requires.no_child refl c.requires.first in
    (within, subst (λ k. MayCollect (carrier.view before).setting (carrier.view before).seat (carrier.view before).seen m k c.args.rec c.args.first.now) (sym (kind_is (carrier.view before).seat (carrier.view before).seen m reconf c.requires.manager)) may)

pub returns-then-generation-clause-refused : goal.returns-then-generation-clause-refused
returns-then-generation-clause-refused g c =
    let carrier = g.C.Carrier in
    let before = c.args.carrier.now in
    let m = c.args.manager.now in
    let now = c.collect.new.carrier in
    let a = carrier.view before in
    let l = carrier.view now in
    let first = first_of (carrier.view before).setting c.args.rec in
    let told = told_in (carrier.view now).seen m Collect in
    let h = has_gathered a l m (kind.Reconf c.args.rec c.args.new.now) c.args.first.now c.in_ok-gather.gather (g.met.C.Carrier.is_legal before) tt c.requires.manager c.requires.no_child c.requires.first c.collect.ensures.served c.in_ok-gather.ensures.collected in
    at_last_generation a l m c.args.rec c.args.new.now c.in_ok-gather.gather h c.newest-generation.result.0 (c.newest-generation.ensures.generation first told h.collected.kept) c.if-generation.true

pub returns-then-generation-clause-complete : goal.returns-then-generation-clause-complete
returns-then-generation-clause-complete g c = λ u. never_last _ _ _ _ _ _ u (returns-then-generation-clause-refused g c).licensed

pub put-requires : goal.put-requires
put-requires g c κs within =
    let carrier = g.C.Carrier in
    let before = c.args.carrier.now in
    let m = c.args.manager.now in
    let now = c.collect.new.carrier in
    let a = carrier.view before in
    let l = carrier.view now in
    let first = first_of (carrier.view before).setting c.args.rec in
    let told = told_in (carrier.view now).seen m Collect in
    let h = has_gathered a l m (kind.Reconf c.args.rec c.args.new.now) c.args.first.now c.in_ok-gather.gather (g.met.C.Carrier.is_legal before) tt c.requires.manager c.requires.no_child c.requires.first c.collect.ensures.served c.in_ok-gather.ensures.collected in
    (within, may_put a l m (kind.Reconf c.args.rec c.args.new.now) _ _ _ (comes_to_move a l m c.args.rec c.args.new.now c.in_ok-gather.gather h c.newest-generation.result.0 c.newest-generation.result.1 c.greatest-version.result.0 c.greatest-version.result.1 (c.newest-generation.ensures.generation first told h.collected.kept) (c.newest-generation.ensures.config first told h.collected.kept) (c.greatest-version.ensures.version first told h.collected.kept) (c.greatest-version.ensures.value first told h.collected.kept) c.if-generation.false))

pub put-requires-2 : goal.put-requires-2
put-requires-2 g c κs within =
    let carrier = g.C.Carrier in
    let before = c.args.carrier.now in
    let m = c.args.manager.now in
    let now = c.collect.new.carrier in
    let a = carrier.view before in
    let l = carrier.view now in
    let first = first_of (carrier.view before).setting c.args.rec in
    let told = told_in (carrier.view now).seen m Collect in
    let h = has_gathered a l m (kind.Reconf c.args.rec c.args.new.now) c.args.first.now c.in_ok-gather.gather (g.met.C.Carrier.is_legal before) tt c.requires.manager c.requires.no_child c.requires.first c.collect.ensures.served c.in_ok-gather.ensures.collected in
    let mid = c.put.new.carrier in
    let l2 = carrier.view mid in
    (within, may_put a l2 m (kind.Reconf c.args.rec c.args.new.now) _ _ _ (comes_to_teach a l m c.args.rec c.args.new.now c.in_ok-gather.gather h c.newest-generation.result.0 c.newest-generation.result.1 c.greatest-version.result.0 c.greatest-version.result.1 (c.newest-generation.ensures.generation first told h.collected.kept) (c.newest-generation.ensures.config first told h.collected.kept) (c.greatest-version.ensures.version first told h.collected.kept) (c.greatest-version.ensures.value first told h.collected.kept) c.if-generation.false l2 c.put.ensures.served c.in_ok-put.ensures.put))

pub returns-in_err-put-clause-complete : goal.returns-in_err-put-clause-complete
returns-in_err-put-clause-complete g c =
    let carrier = g.C.Carrier in
    let before = c.args.carrier.now in
    let m = c.args.manager.now in
    let now = c.collect.new.carrier in
    let a = carrier.view before in
    let l = carrier.view now in
    let first = first_of (carrier.view before).setting c.args.rec in
    let told = told_in (carrier.view now).seen m Collect in
    let h = has_gathered a l m (kind.Reconf c.args.rec c.args.new.now) c.args.first.now c.in_ok-gather.gather (g.met.C.Carrier.is_legal before) tt c.requires.manager c.requires.no_child c.requires.first c.collect.ensures.served c.in_ok-gather.ensures.collected in
    let p = err_from_is_err_and c.from_residual-in_err-put.result c.from_residual-in_err-put.ensures.1 in
    rw (p.1, p.2) (complete_there a l m (kind.Reconf c.args.rec c.args.new.now) _ _ _ (comes_to_move a l m c.args.rec c.args.new.now c.in_ok-gather.gather h c.newest-generation.result.0 c.newest-generation.result.1 c.greatest-version.result.0 c.greatest-version.result.1 (c.newest-generation.ensures.generation first told h.collected.kept) (c.newest-generation.ensures.config first told h.collected.kept) (c.greatest-version.ensures.version first told h.collected.kept) (c.greatest-version.ensures.value first told h.collected.kept) c.if-generation.false) (carrier.view c.put.new.carrier).seen (carrier.view c.put.new.carrier).troubles c.in_err-put.field-0.0 c.in_err-put.ensures.complete)

pub returns-in_err-put-2-clause-complete : goal.returns-in_err-put-2-clause-complete
returns-in_err-put-2-clause-complete g c =
    let carrier = g.C.Carrier in
    let before = c.args.carrier.now in
    let m = c.args.manager.now in
    let now = c.collect.new.carrier in
    let a = carrier.view before in
    let l = carrier.view now in
    let first = first_of (carrier.view before).setting c.args.rec in
    let told = told_in (carrier.view now).seen m Collect in
    let h = has_gathered a l m (kind.Reconf c.args.rec c.args.new.now) c.args.first.now c.in_ok-gather.gather (g.met.C.Carrier.is_legal before) tt c.requires.manager c.requires.no_child c.requires.first c.collect.ensures.served c.in_ok-gather.ensures.collected in
    let mid = c.put.new.carrier in
    let l2 = carrier.view mid in
    let p = err_from_is_err_and c.from_residual-in_err-put-2.result c.from_residual-in_err-put-2.ensures.1 in
    rw (p.1, p.2) (complete_there a l2 m (kind.Reconf c.args.rec c.args.new.now) _ _ _ (comes_to_teach a l m c.args.rec c.args.new.now c.in_ok-gather.gather h c.newest-generation.result.0 c.newest-generation.result.1 c.greatest-version.result.0 c.greatest-version.result.1 (c.newest-generation.ensures.generation first told h.collected.kept) (c.newest-generation.ensures.config first told h.collected.kept) (c.greatest-version.ensures.version first told h.collected.kept) (c.greatest-version.ensures.value first told h.collected.kept) c.if-generation.false l2 c.put.ensures.served c.in_ok-put.ensures.put) (carrier.view c.put-2.new.carrier).seen (carrier.view c.put-2.new.carrier).troubles c.in_err-put-2.field-0.0 c.in_err-put-2.ensures.complete)

pub returns-in_err-put-clause-grown : goal.returns-in_err-put-clause-grown
returns-in_err-put-clause-grown g c = (served_further c.args.manager.now _ _ _ c.collect.ensures.served c.put.ensures.served).grown

pub returns-in_err-put-clause-own : goal.returns-in_err-put-clause-own
returns-in_err-put-clause-own g c = (served_further c.args.manager.now _ _ _ c.collect.ensures.served c.put.ensures.served).own

pub returns-in_err-put-2-clause-grown : goal.returns-in_err-put-2-clause-grown
returns-in_err-put-2-clause-grown g c = (served_further c.args.manager.now _ _ _ (served_further c.args.manager.now _ _ _ c.collect.ensures.served c.put.ensures.served) c.put-2.ensures.served).grown

pub returns-in_err-put-2-clause-own : goal.returns-in_err-put-2-clause-own
returns-in_err-put-2-clause-own g c = (served_further c.args.manager.now _ _ _ (served_further c.args.manager.now _ _ _ c.collect.ensures.served c.put.ensures.served) c.put-2.ensures.served).own

pub returns-clause-grown : goal.returns-clause-grown
returns-clause-grown g c = (served_further c.args.manager.now _ _ _ (served_further c.args.manager.now _ _ _ c.collect.ensures.served c.put.ensures.served) c.put-2.ensures.served).grown

pub returns-clause-own : goal.returns-clause-own
returns-clause-own g c = (served_further c.args.manager.now _ _ _ (served_further c.args.manager.now _ _ _ c.collect.ensures.served c.put.ensures.served) c.put-2.ensures.served).own

pub returns-clause-answered : goal.returns-clause-answered
returns-clause-answered g c =
    let carrier = g.C.Carrier in
    let before = c.args.carrier.now in
    let m = c.args.manager.now in
    let now = c.collect.new.carrier in
    let a = carrier.view before in
    let l = carrier.view now in
    let first = first_of (carrier.view before).setting c.args.rec in
    let told = told_in (carrier.view now).seen m Collect in
    let h = has_gathered a l m (kind.Reconf c.args.rec c.args.new.now) c.args.first.now c.in_ok-gather.gather (g.met.C.Carrier.is_legal before) tt c.requires.manager c.requires.no_child c.requires.first c.collect.ensures.served c.in_ok-gather.ensures.collected in
    let mid = c.put.new.carrier in
    let l2 = carrier.view mid in
    let after = c.put-2.new.carrier in
    let l3 = carrier.view after in
    has_reconfigured a l m c.args.rec c.args.new.now c.in_ok-gather.gather h c.newest-generation.result.0 c.newest-generation.result.1 c.greatest-version.result.0 c.greatest-version.result.1 (c.newest-generation.ensures.generation first told h.collected.kept) (c.newest-generation.ensures.config first told h.collected.kept) (c.greatest-version.ensures.version first told h.collected.kept) (c.greatest-version.ensures.value first told h.collected.kept) c.if-generation.false l2 c.put.ensures.served c.in_ok-put.ensures.put l3 c.in_ok-put-2.ensures.put

pub returns-clause-value_moved : goal.returns-clause-value_moved
returns-clause-value_moved g c =
    let carrier = g.C.Carrier in
    let before = c.args.carrier.now in
    let m = c.args.manager.now in
    let now = c.collect.new.carrier in
    let a = carrier.view before in
    let l = carrier.view now in
    let first = first_of (carrier.view before).setting c.args.rec in
    let told = told_in (carrier.view now).seen m Collect in
    let h = has_gathered a l m (kind.Reconf c.args.rec c.args.new.now) c.args.first.now c.in_ok-gather.gather (g.met.C.Carrier.is_legal before) tt c.requires.manager c.requires.no_child c.requires.first c.collect.ensures.served c.in_ok-gather.ensures.collected in
    let mid = c.put.new.carrier in
    let l2 = carrier.view mid in
    let after = c.put-2.new.carrier in
    let l3 = carrier.view after in
    has_moved a l m c.args.rec c.args.new.now c.in_ok-gather.gather h c.newest-generation.result.0 c.newest-generation.result.1 c.greatest-version.result.0 c.greatest-version.result.1 (c.newest-generation.ensures.generation first told h.collected.kept) (c.newest-generation.ensures.config first told h.collected.kept) (c.greatest-version.ensures.version first told h.collected.kept) (c.greatest-version.ensures.value first told h.collected.kept) c.if-generation.false l2 c.put.ensures.served c.in_ok-put.ensures.put l3 c.in_ok-put-2.ensures.put

pub returns-clause-generation : goal.returns-clause-generation
returns-clause-generation g c =
    let carrier = g.C.Carrier in
    let before = c.args.carrier.now in
    let m = c.args.manager.now in
    let now = c.collect.new.carrier in
    let a = carrier.view before in
    let l = carrier.view now in
    let first = first_of (carrier.view before).setting c.args.rec in
    let told = told_in (carrier.view now).seen m Collect in
    let h = has_gathered a l m (kind.Reconf c.args.rec c.args.new.now) c.args.first.now c.in_ok-gather.gather (g.met.C.Carrier.is_legal before) tt c.requires.manager c.requires.no_child c.requires.first c.collect.ensures.served c.in_ok-gather.ensures.collected in
    let mid = c.put.new.carrier in
    let l2 = carrier.view mid in
    let after = c.put-2.new.carrier in
    let l3 = carrier.view after in
    subst (λ f. c.newest-generation.result.0 + 1 ≡ (newest (carrier.view after).seen f m).generation + 1) (sym c.requires.first)
    (is_next a l m c.args.rec c.args.new.now c.in_ok-gather.gather h c.newest-generation.result.0 c.newest-generation.result.1 c.greatest-version.result.0 c.greatest-version.result.1 (c.newest-generation.ensures.generation first told h.collected.kept) (c.newest-generation.ensures.config first told h.collected.kept) (c.greatest-version.ensures.version first told h.collected.kept) (c.greatest-version.ensures.value first told h.collected.kept) c.if-generation.false l2 c.put.ensures.served c.in_ok-put.ensures.put l3 c.in_ok-put-2.ensures.put)

pub returns-clause-config_moved : goal.returns-clause-config_moved
returns-clause-config_moved g c =
    let carrier = g.C.Carrier in
    let before = c.args.carrier.now in
    let m = c.args.manager.now in
    let now = c.collect.new.carrier in
    let a = carrier.view before in
    let l = carrier.view now in
    let first = first_of (carrier.view before).setting c.args.rec in
    let told = told_in (carrier.view now).seen m Collect in
    let h = has_gathered a l m (kind.Reconf c.args.rec c.args.new.now) c.args.first.now c.in_ok-gather.gather (g.met.C.Carrier.is_legal before) tt c.requires.manager c.requires.no_child c.requires.first c.collect.ensures.served c.in_ok-gather.ensures.collected in
    let mid = c.put.new.carrier in
    let l2 = carrier.view mid in
    let after = c.put-2.new.carrier in
    let l3 = carrier.view after in
    subst (λ f. IsTrue (holds_write (newest (carrier.view after).seen f m).config (replied (carrier.view after).seen m Configs))) (sym c.requires.first)
    (has_taught a l m c.args.rec c.args.new.now c.in_ok-gather.gather h c.newest-generation.result.0 c.newest-generation.result.1 c.greatest-version.result.0 c.greatest-version.result.1 (c.newest-generation.ensures.generation first told h.collected.kept) (c.newest-generation.ensures.config first told h.collected.kept) (c.greatest-version.ensures.version first told h.collected.kept) (c.greatest-version.ensures.value first told h.collected.kept) c.if-generation.false l2 c.put.ensures.served c.in_ok-put.ensures.put l3 c.in_ok-put-2.ensures.put)
