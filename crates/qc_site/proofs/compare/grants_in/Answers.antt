-- A body more.
use Rattle.std.proofs.Common.{List, sym, subst, ◌+◌, take}
use Rattle.qc_event.specs.declared.event.Grant.{Grant}
use Rattle.qc_journal.specs.Image.{bodies_of}
use Rattle.qc_site.specs.Back.{AreGrants}
use Rattle.qc_site.proofs.Backs.{read_more, unread}
use Rattle.qc_site.proofs.compare.grants_in.Goals as goal

pub returns-in-Err-clause-unread : goal.returns-in-Err-clause-unread
returns-in-Err-clause-unread c =
    unread c.args.copies c.args.bodies.now c.loop-index.index c.index-bodies-index.result c.loop-index-test.true c.index-bodies-index.is c.loop-index.grants.items c.loop-index.invariant c.as_slice.result.now c.as_slice.ensures.value
    c.in-Err.field-0 c.in-Err.ensures.only_bad c.in-Err.ensures.exact

pub loop-index-preserved : goal.loop-index-preserved
loop-index-preserved c =
    subst (λ (gs : List Grant). AreGrants c.args.copies gs (bodies_of (take (c.loop-index.index + 1) c.args.bodies.now))) (sym c.in_ok-append-in-Ok.ensures.ok)
    (read_more c.args.copies c.args.bodies.now c.loop-index.index c.index-bodies-index.result c.loop-index-test.true c.index-bodies-index.is c.loop-index.grants.items c.loop-index.invariant c.as_slice.result.now c.as_slice.ensures.value
    c.in-Ok.grant c.in-Ok.ensures.exact)
