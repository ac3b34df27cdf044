-- One more copy leaves, where it is there.
use Rattle.std.proofs.Common.{◌≡◌, ◌+◌, ◌++◌, ◌∷◌, ap, sym, ◌∙◌, subst, arith, length}
use Rattle.std.specs.Prelude.{is_some}
use Rattle.qc_disk.specs.Disk.{DiskView as Disk}
use Rattle.qc_event.specs.Legal.{Legal}
use Rattle.qc_event.specs.Seats.{copy_seat}
use Rattle.qc_event.specs.Tables.{setting_of}
use Rattle.qc_journal.specs.Journal.{disk_of}
use Rattle.qc_pair.specs.Fold.{other_in, swapped_in}
use Rattle.qc_desk.specs.declared.view.View.{View}
use Rattle.qc_desk.specs.Entries.{IsOlder, entries_of}
use Rattle.qc_desk.proofs.Seers.{older_trans}
use Rattle.qc_site.specs.Log.{log_journal}
use Rattle.qc_system.specs.Closing.{active_of, other_of, CopyKeeps, HaveLeft}
use Rattle.qc_system.specs.Folds.{held_in, IsFolded, IsFree, IsLeftBy, WasFolded}
use Rattle.qc_system.specs.Pairs.{pairs_in}
use Rattle.qc_system.proofs.Closing.{is_below, is_past, no_more, one_more, shorter}
use Rattle.qc_system.proofs.Folds.{folded_since, left_since}
use Rattle.qc_system.proofs.Joining.{joins_low, low_by_both, low_sees}
use Rattle.qc_system.proofs.Opening.{first_other, no_others, taken_back}
use Rattle.qc_system.proofs.OtherDisks.{active_is, other_is}
use Rattle.qc_system.proofs.finish.leave_at.Goals as goal

pub fold_at-requires : goal.fold_at-requires
fold_at-requires g c =
    let folds = c.args.folds.now.items in
    let below = is_below g.row.C (length g.N.Store.base) (is_some c.args.site) (ap is_some c.in-Some.is) c.requires.there in
    (omega arith, (below, (c.requires.proper, first_other (length g.N.Store.base) g.N.Mounting.found (g.row.C + 1) folds c.remove-fold.result (omega (arith, c.requires.others.0, below)) c.remove-fold.ensures.value c.requires.others.1)))

pub returns-in-Some-clause-others : goal.returns-in-Some-clause-others
returns-in-Some-clause-others g c =
    let below = is_below g.row.C (length g.N.Store.base) (is_some c.args.site) (ap is_some c.in-Some.is) c.requires.there in
    taken_back (length g.N.Store.base) g.N.Mounting.found g.row.C c.args.folds.now.items c.remove-fold.new.self.items below c.remove-fold.ensures.items c.requires.others

pub returns-in_default-clause-others : goal.returns-in_default-clause-others
returns-in_default-clause-others g c =
    let past = is_past g.row.C (length g.N.Store.base) (is_some c.args.site) (ap is_some c.in_default.is) c.requires.there in
    (omega (arith, c.requires.others.0, past), no_others (length g.N.Store.base) g.N.Mounting.found (g.row.C + 1 + 1) c.args.folds.now.items (omega (arith, c.requires.others.0, past)))

pub returns-in-Some-clause-seen : goal.returns-in-Some-clause-seen
returns-in-Some-clause-seen g c = older_trans c.args.first.now.seen c.fold_at.new.first.seen c.join.new.pass.seen c.fold_at.ensures.first.older c.join.ensures.seen.0

pub returns-in-Some-clause-low : goal.returns-in-Some-clause-low
returns-in-Some-clause-low g c =
    low_by_both c.args.first.now c.fold_at.new.first c.join.new.pass (low_sees c.args.first.now c.fold_at.new.first c.fold_at.ensures.first)
    (joins_low c.fold_at.new.first c.leave-disk.result.2 c.join.new.pass (omega (arith, c.leave-disk.ensures.pass.1, c.requires.low)) c.leave-disk.ensures.kin c.join.ensures.joined)

pub returns-in-Some-clause-later : goal.returns-in-Some-clause-later
returns-in-Some-clause-later g c =
    let seen = older_trans c.args.first.now.seen c.fold_at.new.first.seen c.join.new.pass.seen c.fold_at.ensures.first.older c.join.ensures.seen.0 in
    subst (λ (p : View). IsOlder p.seen c.join.new.pass.seen) (sym c.fold_at.ensures.since) (older_trans c.args.folding.now.since.seen c.args.first.now.seen c.join.new.pass.seen c.requires.since seen)

pub returns-in-Some-clause-left : goal.returns-in-Some-clause-left
returns-in-Some-clause-left g c =
    let setting = setting_of g.N.Store.table g.N.Store.base in
    let found = g.N.Mounting.found in
    let pair = g.row.C + 1 in
    let view = g.D.Disk.view in
    let since = c.args.folding.now.since.seen in
    let first = c.args.first.now in
    let folded = c.fold_at.new.first in
    let joined = c.join.new.pass in
    let held = c.fold_at.new.held in
    let fold = c.fold_at.new.fold in
    let left = c.leave-disk.result in
    let seen = held.site.replica.pass.seen in
    let active = disk_of (log_journal held.site.log) in
    let other = disk_of (other_in fold) in
    let same : left.2 ≡ held.site.replica.pass = c.leave-disk.ensures.same in
    let below = is_below g.row.C (length g.N.Store.base) (is_some c.args.site) (ap is_some c.in-Some.is) c.requires.there in
    let older : IsOlder first.seen joined.seen = older_trans first.seen folded.seen joined.seen c.fold_at.ensures.first.older c.join.ensures.seen.0 in
    let own_older : IsOlder seen joined.seen = subst (λ (v : View). IsOlder v.seen joined.seen) same c.join.ensures.seen.1 in
    let kin = ap (λ (v : View). v.kin) c.join.ensures.joined ∙ (ap (λ n. folded.kin ++ (n, left.2.mine) ∷ left.2.kin) c.leave-disk.ensures.pass.1 ∙ ap (λ l. l ++ (copy_seat g.row.C, left.2.mine) ∷ left.2.kin) c.fold_at.ensures.first.kin) in
    let act_is : active_of setting found pair (view left.0) (view left.1) ≡ view active.disk.value = active_is (λ b. b.disk.value) view setting found pair (swapped_in fold) active other left.0 left.1 c.fold_at.ensures.swapped c.leave-disk.ensures.own c.leave-disk.ensures.spare in
    let oth_is : other_of setting found pair (view left.0) (view left.1) ≡ view other.disk.value = other_is (λ b. b.disk.value) view setting found pair (swapped_in fold) active other left.0 left.1 c.fold_at.ensures.swapped c.leave-disk.ensures.own c.leave-disk.ensures.spare in
    subst (λ (p : View). HaveLeft setting found view p.seen (g.row.C + 1) c.fold_at.new.folding.whole c.fold_at.new.folding.wanting (pairs_in c.put.new.self) joined) (sym c.fold_at.ensures.since)
    (one_more setting found view since g.row.C c.args.folding.now.whole c.fold_at.new.folding.whole c.args.folding.now.wanting c.fold_at.new.folding.wanting (pairs_in c.args.returns.now) (pairs_in c.put.new.self) left.0 left.1 first joined left.2.kin seen left.2.mine
    below older own_older (subst (λ (v : View). Legal setting v.seen) same c.leave-disk.ensures.legal) (c.leave-disk.ensures.mine ∙ ap (λ (v : View). entries_of (copy_seat g.row.C) v.seen) same) kin c.put.ensures
    (subst (λ (d : Disk). CopyKeeps setting found g.row.C d seen) (sym act_is) (subst (λ (v : View). CopyKeeps setting found g.row.C (view active.disk.value) v.seen) same c.leave-disk.ensures.kept))
    (subst (λ (d : Disk). IsLeftBy setting found since pair d seen) (sym oth_is) (left_since setting found since first.seen c.requires.since pair (view other.disk.value) seen c.fold_at.ensures.left))
    (λ whole.
    let f = c.fold_at.ensures.folded whole in (
      f.0,
      subst (λ (d : Disk). WasFolded setting found since pair d seen) (sym oth_is) (folded_since setting found since first.seen c.requires.since pair (view other.disk.value) seen f.1),
      subst (λ (d : Disk). IsFolded setting found pair (held_in setting found pair seen) d) (sym oth_is) f.2,
    ))
    c.fold_at.ensures.wants
    (λ fine ended room whole free.
    c.fold_at.ensures.free fine
    (λ at before after. ended at (older_trans since first.seen at c.requires.since before) (older_trans at folded.seen joined.seen after c.join.ensures.seen.0))
    (shorter setting found view seen joined.seen own_older room) whole
    (λ before.
    subst (λ (d : Disk). IsFree setting found pair (held_in setting found pair seen) d (view other.disk.value)) act_is
    (subst (λ (d : Disk). IsFree setting found pair (held_in setting found pair seen) (active_of setting found pair (view left.0) (view left.1)) d) oth_is (free (older_trans since first.seen seen c.requires.since before)))))
    c.requires.left)

pub returns-in_default-clause-left : goal.returns-in_default-clause-left
returns-in_default-clause-left g c =
    no_more (setting_of g.N.Store.table g.N.Store.base) g.N.Mounting.found g.D.Disk.view c.args.folding.now.since.seen g.row.C c.args.folding.now.whole c.args.folding.now.wanting (pairs_in c.args.returns.now) c.args.first.now
    (is_past g.row.C (length g.N.Store.base) (is_some c.args.site) (ap is_some c.in_default.is) c.requires.there) c.requires.left
