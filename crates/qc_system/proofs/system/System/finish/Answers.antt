-- The pairs are folded, the copies leave, one after another, and then the ledger; then the desk is closed.
use Rattle.std.proofs.Common.{◌≡◌, ◌<◌, ◌≤◌, [], sym, ap, ◌∙◌, subst, arith, length, reverse}
use Rattle.qc_event.specs.Seats.{ledger_seat}
use Rattle.qc_event.specs.Standing.{HasEnded}
use Rattle.qc_event.specs.Tables.{setting_of}
use Rattle.qc_desk.specs.declared.view.View.{View}
use Rattle.qc_desk.specs.Entries.{IsOlder, entries_of}
use Rattle.qc_desk.proofs.Seers.{older_trans}
use Rattle.qc_system.specs.Pairs.{pairs_in}
use Rattle.qc_system.specs.Parts.{AreKeptBack, IsClosing}
use Rattle.qc_system.proofs.Closing.{none_left}
use Rattle.qc_system.proofs.Folds.{IsQuiet}
use Rattle.qc_system.proofs.Joining.{low_by_both, low_sees, settled_before}
use Rattle.qc_system.proofs.Opening.{first_other, less_one, rest_others}
use Rattle.qc_system.proofs.Settled.{all_left, quiet_since}
use Rattle.qc_system.proofs.system.System.finish.Goals as goal

pub leave_four-requires : goal.leave_four-requires
leave_four-requires g c =
    let copies = length g.N.Store.base in
    let folds = c.args.others.folds.items in
    let some : 0 < length folds = omega (arith, c.requires.others.many) in
    let others = subst (AreKeptBack copies g.N.Mounting.found 0) (sym c.remove-fold.ensures.items) (omega (arith, less_one copies g.N.Mounting.found folds some, c.requires.others.many), rest_others copies g.N.Mounting.found 0 folds some c.requires.others.are) in
    let sees = c.begin-folding.ensures.first in
    let first : IsClosing c.begin-folding.new.first = (sees.live ∙ c.requires.first.0, sees.number ∙ c.requires.first.1, sees.out ∙ c.requires.first.2) in
    let since : IsOlder c.begin-folding.result.since.seen c.begin-folding.new.first.seen = ([], sym c.begin-folding.ensures.since) in
    let left = none_left (setting_of g.N.Store.table g.N.Store.base) g.N.Mounting.found g.D.Disk.view c.begin-folding.result.since.seen c.begin-folding.result.whole c.begin-folding.result.wanting (pairs_in c.args.others.returns) c.begin-folding.new.first
    c.requires.others.none since (λ fine ended. c.begin-folding.ensures.free fine (subst HasEnded c.begin-folding.ensures.since ended)) in
    (omega arith, (omega arith, (omega arith, (c.args.self.proper, (first, (since, (others, left)))))))

pub leave_four-requires-2 : goal.leave_four-requires-2
leave_four-requires-2 g c =
    (omega arith, (omega arith, (omega arith, (c.args.self.proper, (c.leave_four.ensures.first, (c.leave_four.ensures.later, (c.leave_four.ensures.others, c.leave_four.ensures.left)))))))

pub leave_four-requires-3 : goal.leave_four-requires-3
leave_four-requires-3 g c =
    (omega arith, (omega arith, (omega arith, (c.args.self.proper, (c.leave_four-2.ensures.first, (c.leave_four-2.ensures.later, (c.leave_four-2.ensures.others, c.leave_four-2.ensures.left)))))))

pub leave_four-requires-4 : goal.leave_four-requires-4
leave_four-requires-4 g c =
    (omega arith, (omega arith, (omega arith, (c.args.self.proper, (c.leave_four-3.ensures.first, (c.leave_four-3.ensures.later, (c.leave_four-3.ensures.others, c.leave_four-3.ensures.left)))))))

pub leave_last-requires : goal.leave_last-requires
leave_last-requires g c =
    let same = c.leave_four-4.ensures.since ∙ c.leave_four-3.ensures.since ∙ c.leave_four-2.ensures.since ∙ c.leave_four.ensures.since in
    let knew = subst (λ (p : View). IsOlder c.begin-folding.new.self.ledger.pass.seen p.seen) (sym same) (subst (λ p. IsOlder c.begin-folding.new.self.ledger.pass.seen p) (sym c.begin-folding.ensures.since) c.begin-folding.ensures.older) in
    let other = first_other (length g.N.Store.base) g.N.Mounting.found 0 c.args.others.folds.items c.remove-fold.result (omega (arith, c.requires.others.many)) c.remove-fold.ensures.value c.requires.others.are in
    record { few = subst (λ k. k ≤ 16) c.args.self.whole c.args.self.few; first = c.leave_four-4.ensures.first; since = c.leave_four-4.ensures.later; knew = knew; other = other; left = c.leave_four-4.ensures.left }

pub returns-clause-disks : goal.returns-clause-disks
returns-clause-disks g c =
    let setting = setting_of g.N.Store.table g.N.Store.base in
    let log = reverse c.close-base.result.1 in
    let sees = c.begin-folding.ensures.first in
    let closing : IsClosing c.begin-folding.new.first = (sees.live ∙ c.requires.first.0, sees.number ∙ c.requires.first.1, sees.out ∙ c.requires.first.2) in
    let s0 : IsOlder c.begin-folding.new.first.seen c.leave_four.new.first.seen = c.leave_four.ensures.seen in
    let s1 = older_trans c.begin-folding.new.first.seen c.leave_four.new.first.seen c.leave_four-2.new.first.seen s0 c.leave_four-2.ensures.seen in
    let s2 = older_trans c.begin-folding.new.first.seen c.leave_four-2.new.first.seen c.leave_four-3.new.first.seen s1 c.leave_four-3.ensures.seen in
    let s3 = older_trans c.begin-folding.new.first.seen c.leave_four-3.new.first.seen c.leave_four-4.new.first.seen s2 c.leave_four-4.ensures.seen in
    let s4 = older_trans c.begin-folding.new.first.seen c.leave_four-4.new.first.seen c.leave_last.new.first.seen s3 c.leave_last.ensures.seen in
    let s5 = older_trans c.begin-folding.new.first.seen c.leave_last.new.first.seen (reverse c.close-base.result.1) s4 c.close-base.ensures.settled.0 in
    let l0 = c.leave_four.ensures.low in
    let l1 = low_by_both c.begin-folding.new.first c.leave_four.new.first c.leave_four-2.new.first l0 c.leave_four-2.ensures.low in
    let l2 = low_by_both c.begin-folding.new.first c.leave_four-2.new.first c.leave_four-3.new.first l1 c.leave_four-3.ensures.low in
    let l3 = low_by_both c.begin-folding.new.first c.leave_four-3.new.first c.leave_four-4.new.first l2 c.leave_four-4.ensures.low in
    let l4 = low_by_both c.begin-folding.new.first c.leave_four-4.new.first c.leave_last.new.first l3 c.leave_last.ensures.low in
    let settled = settled_before c.begin-folding.new.first c.leave_last.new.first (reverse c.close-base.result.1) l4 c.close-base.ensures.settled.1 in
    let all = c.leave_last.ensures.left in
    let same = c.leave_last.ensures.since ∙ c.leave_four-4.ensures.since ∙ c.leave_four-3.ensures.since ∙ c.leave_four-2.ensures.since ∙ c.leave_four.ensures.since in
    let at : c.leave_last.new.folding.since.seen ≡ c.begin-folding.new.first.seen = ap (λ (p : View). p.seen) same ∙ c.begin-folding.ensures.since in
    let own = c.close-base.ensures.settled.1.1 ledger_seat (entries_of ledger_seat all.ledger.seen) all.ledger.joined in
    let quiet = quiet_since setting c.begin-folding.new.first log closing c.begin-folding.ensures.known s5 settled all.ledger.seen (subst (λ p. IsOlder all.ledger.seen p) at all.knew) own in
    all_left setting g.N.Mounting.found g.D.Disk.view c.leave_last.new.folding.since.seen c.leave_last.new.folding.whole c.leave_last.new.folding.wanting (pairs_in c.leave_last.new.returns) c.leave_last.new.first log
    c.close-base.ensures.settled.0 c.close-base.ensures.legal c.close-base.ensures.settled.1 (subst (λ p. IsQuiet p log) (sym at) quiet) all (subst (λ k. k ≤ 16) c.args.self.whole c.args.self.few) c.into_disks.result.items c.into_disks.ensures

pub returns-clause-seen : goal.returns-clause-seen
returns-clause-seen g c =
    let s0 : IsOlder c.begin-folding.new.first.seen c.leave_four.new.first.seen = c.leave_four.ensures.seen in
    let s1 = older_trans c.begin-folding.new.first.seen c.leave_four.new.first.seen c.leave_four-2.new.first.seen s0 c.leave_four-2.ensures.seen in
    let s2 = older_trans c.begin-folding.new.first.seen c.leave_four-2.new.first.seen c.leave_four-3.new.first.seen s1 c.leave_four-3.ensures.seen in
    let s3 = older_trans c.begin-folding.new.first.seen c.leave_four-3.new.first.seen c.leave_four-4.new.first.seen s2 c.leave_four-4.ensures.seen in
    let s4 = older_trans c.begin-folding.new.first.seen c.leave_four-4.new.first.seen c.leave_last.new.first.seen s3 c.leave_last.ensures.seen in
    let s5 = older_trans c.begin-folding.new.first.seen c.leave_last.new.first.seen (reverse c.close-base.result.1) s4 c.close-base.ensures.settled.0 in
    older_trans c.args.first.seen c.begin-folding.new.first.seen (reverse c.close-base.result.1) c.begin-folding.ensures.first.older s5

pub returns-clause-settled : goal.returns-clause-settled
returns-clause-settled g c =
    let l0 = c.leave_four.ensures.low in
    let l1 = low_by_both c.begin-folding.new.first c.leave_four.new.first c.leave_four-2.new.first l0 c.leave_four-2.ensures.low in
    let l2 = low_by_both c.begin-folding.new.first c.leave_four-2.new.first c.leave_four-3.new.first l1 c.leave_four-3.ensures.low in
    let l3 = low_by_both c.begin-folding.new.first c.leave_four-3.new.first c.leave_four-4.new.first l2 c.leave_four-4.ensures.low in
    let l4 = low_by_both c.begin-folding.new.first c.leave_four-4.new.first c.leave_last.new.first l3 c.leave_last.ensures.low in
    let settled = settled_before c.begin-folding.new.first c.leave_last.new.first (reverse c.close-base.result.1) l4 c.close-base.ensures.settled.1 in
    settled_before c.args.first c.begin-folding.new.first (reverse c.close-base.result.1) (low_sees c.args.first c.begin-folding.new.first c.begin-folding.ensures.first) settled
