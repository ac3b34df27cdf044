-- A manager that has asked nothing writes, and may commit.
use Rattle.std.proofs.Common.{refl, subst, sym}
use Rattle.std.proofs.lemmas.Result.{err_from_is_err_and}
use Rattle.qc_event.specs.Base.{first_of}
use Rattle.qc_event.specs.declared.event.Kind.TheVariants as kind
use Rattle.qc_event.specs.declared.event.Phase.TheVariants.{Collect}
use Rattle.qc_managers.specs.Answered.{told_in}
use Rattle.qc_managers.specs.Going.{MayCollect}
use Rattle.qc_managers.proofs.Answered.{may_collect}
use Rattle.qc_managers.proofs.Onwards.{kind_is, has_gathered, may_put, complete_there}
use Rattle.qc_managers.proofs.Served.{served_further}
use Rattle.qc_managers.proofs.Undisturbed.{never_last}
use Rattle.qc_managers.proofs.Writing.{at_last_version, comes_to_put, is_next, has_written}
use Rattle.qc_managers.proofs.manager.write.Goals as goal

pub collect-requires : goal.collect-requires
collect-requires g c κs within =
    let carrier = g.C.Carrier in
    let before = c.args.carrier.now in
    let m = c.args.manager.now in
    let write = kind.Write c.args.rec c.args.value in
    let may = may_collect (carrier.view before).setting (carrier.view before).seat (carrier.view before).seen m write c.args.rec c.args.first.now (g.met.C.Carrier.is_legal before) tt c.requires.manager c.requires.no_child refl c.requires.first in
    (within, subst (λ k. MayCollect (carrier.view before).setting (carrier.view before).seat (carrier.view before).seen m k c.args.rec c.args.first.now) (sym (kind_is (carrier.view before).seat (carrier.view before).seen m write c.requires.manager)) may)

pub returns-then-greatest-clause-refused : goal.returns-then-greatest-clause-refused
returns-then-greatest-clause-refused g c =
    let carrier = g.C.Carrier in
    let before = c.args.carrier.now in
    let m = c.args.manager.now in
    let now = c.collect.new.carrier in
    let a = carrier.view before in
    let l = carrier.view now in
    let first = first_of (carrier.view before).setting c.args.rec in
    let told = told_in (carrier.view now).seen m Collect in
    let h = has_gathered a l m (kind.Write c.args.rec c.args.value) c.args.first.now c.in_ok-gather.gather (g.met.C.Carrier.is_legal before) tt c.requires.manager c.requires.no_child c.requires.first c.collect.ensures.served c.in_ok-gather.ensures.collected in
    at_last_version a l m c.args.rec c.args.value c.in_ok-gather.gather h c.greatest-greatest.result.0 (c.greatest-greatest.ensures.version first told h.collected.kept) c.if-greatest.true

pub returns-then-greatest-clause-complete : goal.returns-then-greatest-clause-complete
returns-then-greatest-clause-complete g c = λ u. never_last _ _ _ _ _ _ u (returns-then-greatest-clause-refused g c).licensed

pub put-requires : goal.put-requires
put-requires g c κs within =
    let carrier = g.C.Carrier in
    let before = c.args.carrier.now in
    let m = c.args.manager.now in
    let now = c.collect.new.carrier in
    let a = carrier.view before in
    let l = carrier.view now in
    let first = first_of (carrier.view before).setting c.args.rec in
    let told = told_in (carrier.view now).seen m Collect in
    let h = has_gathered a l m (kind.Write c.args.rec c.args.value) c.args.first.now c.in_ok-gather.gather (g.met.C.Carrier.is_legal before) tt c.requires.manager c.requires.no_child c.requires.first c.collect.ensures.served c.in_ok-gather.ensures.collected in
    (within, may_put a l m (kind.Write c.args.rec c.args.value) _ _ _ (comes_to_put a l m c.args.rec c.args.value c.in_ok-gather.gather h c.greatest-greatest.result.0 c.newest-config.result.1 (c.greatest-greatest.ensures.version first told h.collected.kept) c.if-greatest.false (c.newest-config.ensures.config first told h.collected.kept)))

pub returns-in_err-put-clause-grown : goal.returns-in_err-put-clause-grown
returns-in_err-put-clause-grown g c = (served_further c.args.manager.now _ _ _ c.collect.ensures.served c.put.ensures.served).grown

pub returns-in_err-put-clause-own : goal.returns-in_err-put-clause-own
returns-in_err-put-clause-own g c = (served_further c.args.manager.now _ _ _ c.collect.ensures.served c.put.ensures.served).own

pub returns-in_err-put-clause-complete : goal.returns-in_err-put-clause-complete
returns-in_err-put-clause-complete g c =
    let carrier = g.C.Carrier in
    let before = c.args.carrier.now in
    let m = c.args.manager.now in
    let now = c.collect.new.carrier in
    let a = carrier.view before in
    let l = carrier.view now in
    let first = first_of (carrier.view before).setting c.args.rec in
    let told = told_in (carrier.view now).seen m Collect in
    let h = has_gathered a l m (kind.Write c.args.rec c.args.value) c.args.first.now c.in_ok-gather.gather (g.met.C.Carrier.is_legal before) tt c.requires.manager c.requires.no_child c.requires.first c.collect.ensures.served c.in_ok-gather.ensures.collected in
    let at = comes_to_put a l m c.args.rec c.args.value c.in_ok-gather.gather h c.greatest-greatest.result.0 c.newest-config.result.1 (c.greatest-greatest.ensures.version first told h.collected.kept) c.if-greatest.false (c.newest-config.ensures.config first told h.collected.kept) in
    let p = err_from_is_err_and c.from_residual-in_err-put.result c.from_residual-in_err-put.ensures.1 in
    rw (p.1, p.2) (complete_there a l m (kind.Write c.args.rec c.args.value) _ _ _ at (carrier.view c.put.new.carrier).seen (carrier.view c.put.new.carrier).troubles c.in_err-put.field-0.0 c.in_err-put.ensures.complete)

pub returns-clause-grown : goal.returns-clause-grown
returns-clause-grown g c = (served_further c.args.manager.now _ _ _ c.collect.ensures.served c.put.ensures.served).grown

pub returns-clause-own : goal.returns-clause-own
returns-clause-own g c = (served_further c.args.manager.now _ _ _ c.collect.ensures.served c.put.ensures.served).own

pub returns-clause-answered : goal.returns-clause-answered
returns-clause-answered g c =
    let carrier = g.C.Carrier in
    let before = c.args.carrier.now in
    let m = c.args.manager.now in
    let now = c.collect.new.carrier in
    let a = carrier.view before in
    let l = carrier.view now in
    let first = first_of (carrier.view before).setting c.args.rec in
    let told = told_in (carrier.view now).seen m Collect in
    let h = has_gathered a l m (kind.Write c.args.rec c.args.value) c.args.first.now c.in_ok-gather.gather (g.met.C.Carrier.is_legal before) tt c.requires.manager c.requires.no_child c.requires.first c.collect.ensures.served c.in_ok-gather.ensures.collected in
    let after = c.put.new.carrier in
    let l2 = carrier.view after in
    has_written a l m c.args.rec c.args.value c.in_ok-gather.gather h c.greatest-greatest.result.0 c.newest-config.result.1 (c.greatest-greatest.ensures.version first told h.collected.kept) c.if-greatest.false (c.newest-config.ensures.config first told h.collected.kept) l2 c.in_ok-put.ensures.put

pub returns-clause-version : goal.returns-clause-version
returns-clause-version g c =
    let carrier = g.C.Carrier in
    let before = c.args.carrier.now in
    let m = c.args.manager.now in
    let now = c.collect.new.carrier in
    let a = carrier.view before in
    let l = carrier.view now in
    let first = first_of (carrier.view before).setting c.args.rec in
    let told = told_in (carrier.view now).seen m Collect in
    let h = has_gathered a l m (kind.Write c.args.rec c.args.value) c.args.first.now c.in_ok-gather.gather (g.met.C.Carrier.is_legal before) tt c.requires.manager c.requires.no_child c.requires.first c.collect.ensures.served c.in_ok-gather.ensures.collected in
    let after = c.put.new.carrier in
    let l2 = carrier.view after in
    is_next a l m c.args.rec c.args.value c.in_ok-gather.gather h c.greatest-greatest.result.0 c.newest-config.result.1 (c.greatest-greatest.ensures.version first told h.collected.kept) c.if-greatest.false (c.newest-config.ensures.config first told h.collected.kept) l2 c.in_ok-put.ensures.put
