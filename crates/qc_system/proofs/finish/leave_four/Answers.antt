-- One copy after another leaves, whose numbers are next to each other.
use Rattle.std.proofs.Common.{◌≡◌, ◌+◌, ◌∙◌, arith, length, subst, sym}
use Rattle.qc_desk.proofs.Seers.{older_trans}
use Rattle.qc_event.specs.Tables.{setting_of}
use Rattle.qc_system.specs.Closing.{HaveLeft}
use Rattle.qc_system.specs.Pairs.{pairs_in}
use Rattle.qc_system.specs.Parts.{AreKeptBack}
use Rattle.qc_system.proofs.Joining.{low_by_both}
use Rattle.qc_system.proofs.finish.leave_four.Goals as goal

pub leave_at-requires-2 : goal.leave_at-requires-2
leave_at-requires-2 g c =
    let next : g.row.C0 + 1 ≡ g.row.C1 = sym c.requires.next.0 in
    let others = subst (λ n. AreKeptBack (length g.N.Store.base) g.N.Mounting.found n c.leave_at.new.folds.items) next c.leave_at.ensures.others in
    let left = subst (λ n. HaveLeft (setting_of g.N.Store.table g.N.Store.base) g.N.Mounting.found g.D.Disk.view c.leave_at.new.folding.since.seen n c.leave_at.new.folding.whole c.leave_at.new.folding.wanting (pairs_in c.leave_at.new.returns) c.leave_at.new.first) next c.leave_at.ensures.left in
    (omega arith, (omega (arith, c.requires.low, c.requires.next.0, c.requires.next.1, c.requires.next.2), (c.requires.proper, (c.leave_at.ensures.first, (c.leave_at.ensures.later, (c.args.four.there1, (others, left)))))))

pub leave_at-requires-3 : goal.leave_at-requires-3
leave_at-requires-3 g c =
    let next : g.row.C1 + 1 ≡ g.row.C2 = omega (arith, c.requires.next.0, c.requires.next.1) in
    let others = subst (λ n. AreKeptBack (length g.N.Store.base) g.N.Mounting.found n c.leave_at-2.new.folds.items) next c.leave_at-2.ensures.others in
    let left = subst (λ n. HaveLeft (setting_of g.N.Store.table g.N.Store.base) g.N.Mounting.found g.D.Disk.view c.leave_at-2.new.folding.since.seen n c.leave_at-2.new.folding.whole c.leave_at-2.new.folding.wanting (pairs_in c.leave_at-2.new.returns) c.leave_at-2.new.first) next c.leave_at-2.ensures.left in
    (omega arith, (omega (arith, c.requires.low, c.requires.next.0, c.requires.next.1, c.requires.next.2), (c.requires.proper, (c.leave_at-2.ensures.first, (c.leave_at-2.ensures.later, (c.args.four.there2, (others, left)))))))

pub leave_at-requires-4 : goal.leave_at-requires-4
leave_at-requires-4 g c =
    let next : g.row.C2 + 1 ≡ g.row.C3 = omega (arith, c.requires.next.1, c.requires.next.2) in
    let others = subst (λ n. AreKeptBack (length g.N.Store.base) g.N.Mounting.found n c.leave_at-3.new.folds.items) next c.leave_at-3.ensures.others in
    let left = subst (λ n. HaveLeft (setting_of g.N.Store.table g.N.Store.base) g.N.Mounting.found g.D.Disk.view c.leave_at-3.new.folding.since.seen n c.leave_at-3.new.folding.whole c.leave_at-3.new.folding.wanting (pairs_in c.leave_at-3.new.returns) c.leave_at-3.new.first) next c.leave_at-3.ensures.left in
    (omega arith, (omega (arith, c.requires.low, c.requires.next.0, c.requires.next.1, c.requires.next.2), (c.requires.proper, (c.leave_at-3.ensures.first, (c.leave_at-3.ensures.later, (c.args.four.there3, (others, left)))))))

pub returns-clause-seen : goal.returns-clause-seen
returns-clause-seen g c =
    let one = older_trans c.args.first.now.seen c.leave_at.new.first.seen c.leave_at-2.new.first.seen c.leave_at.ensures.seen c.leave_at-2.ensures.seen in
    let two = older_trans c.args.first.now.seen c.leave_at-2.new.first.seen c.leave_at-3.new.first.seen one c.leave_at-3.ensures.seen in
    older_trans c.args.first.now.seen c.leave_at-3.new.first.seen c.leave_at-4.new.first.seen two c.leave_at-4.ensures.seen

pub returns-clause-low : goal.returns-clause-low
returns-clause-low g c =
    let one = low_by_both c.args.first.now c.leave_at.new.first c.leave_at-2.new.first c.leave_at.ensures.low c.leave_at-2.ensures.low in
    let two = low_by_both c.args.first.now c.leave_at-2.new.first c.leave_at-3.new.first one c.leave_at-3.ensures.low in
    low_by_both c.args.first.now c.leave_at-3.new.first c.leave_at-4.new.first two c.leave_at-4.ensures.low

pub returns-clause-since : goal.returns-clause-since
returns-clause-since g c = c.leave_at-4.ensures.since ∙ c.leave_at-3.ensures.since ∙ c.leave_at-2.ensures.since ∙ c.leave_at.ensures.since

pub returns-clause-others : goal.returns-clause-others
returns-clause-others g c =
    let next : g.row.C3 + 1 ≡ g.row.C0 + 4 = omega (arith, c.requires.next.2) in
    subst (λ n. AreKeptBack (length g.N.Store.base) g.N.Mounting.found n c.leave_at-4.new.folds.items) next c.leave_at-4.ensures.others

pub returns-clause-left : goal.returns-clause-left
returns-clause-left g c =
    let next : g.row.C3 + 1 ≡ g.row.C0 + 4 = omega (arith, c.requires.next.2) in
    subst (λ n. HaveLeft (setting_of g.N.Store.table g.N.Store.base) g.N.Mounting.found g.D.Disk.view c.leave_at-4.new.folding.since.seen n c.leave_at-4.new.folding.whole c.leave_at-4.new.folding.wanting (pairs_in c.leave_at-4.new.returns) c.leave_at-4.new.first) next c.leave_at-4.ensures.left
