use Rattle.std.proofs.Common.{sym, subst}
use Rattle.qc_event.specs.Tables.{setting_of}
use Rattle.qc_desk.specs.Refusing.{against_nothing}
use Rattle.qc_desk.proofs.AskedTops.{IsTop, top_begun, entered_as_later}
use Rattle.bench_desk.specs.Tops.{AreStarted}
use Rattle.bench_desk.proofs.More.{still_started, one_more}
use Rattle.bench_desk.proofs.tops.start_one.Goals as goal

pub returns-in-Ok-clause-started : goal.returns-in-Ok-clause-started
returns-in-Ok-clause-started g c =
    let setting = setting_of g.N.Store.table g.N.Store.base in
    let top = c.in_ok-top.top in
    let entered = c.in_ok-top.ensures.ok in
    let new = top_begun setting _ 0 0 c.args.pass.now c.start_top.new.pass top entered c.known.ensures.legal in
    let was = still_started c.args.pass.now.seen c.start_top.new.pass.seen c.args.tops.now.items (entered_as_later against_nothing (IsTop _ 0 0 top) c.args.pass.now c.start_top.new.pass entered) c.requires.started in
    subst (AreStarted c.start_top.new.pass.seen) (sym c.in-Ok.ensures.ok) (one_more c.start_top.new.pass.seen c.args.tops.now.items top was new)
