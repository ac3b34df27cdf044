-- The ledger leaves last.
use Rattle.std.proofs.Common.{◌≡◌, [], ◌++◌, ◌∷◌, true, ap, sym, ◌∙◌, subst, arith}
use Rattle.qc_disk.specs.Disk.{DiskView as Disk}
use Rattle.qc_event.specs.Seats.{ledger_seat}
use Rattle.qc_event.specs.Tables.{setting_of}
use Rattle.qc_journal.specs.Journal.{disk_of}
use Rattle.qc_ledger.specs.Shelf.{journal_in}
use Rattle.qc_pair.specs.Fold.{other_in, swapped_in}
use Rattle.qc_desk.specs.declared.view.View.{View}
use Rattle.qc_desk.specs.Entries.{IsOlder}
use Rattle.qc_desk.proofs.Seers.{older_trans}
use Rattle.qc_system.specs.Closing.{active_of, other_of, AllLeft, LedgerKeeps}
use Rattle.qc_system.specs.Folds.{IsFolded, IsFree}
use Rattle.qc_system.specs.Pairs.{pairs_in}
use Rattle.qc_system.proofs.Closing.{joined_now, still_left}
use Rattle.qc_system.proofs.Folds.{by_fold}
use Rattle.qc_system.proofs.Joining.{joins_low, low_by_both, low_sees}
use Rattle.qc_system.proofs.OtherDisks.{active_is, other_is}
use Rattle.qc_system.proofs.finish.leave_last.Goals as goal

pub returns-clause-seen : goal.returns-clause-seen
returns-clause-seen g c = older_trans c.args.first.now.seen c.fold_last.new.first.seen c.join.new.pass.seen c.fold_last.ensures.first.older c.join.ensures.seen.0

pub returns-clause-low : goal.returns-clause-low
returns-clause-low g c =
    low_by_both c.args.first.now c.fold_last.new.first c.join.new.pass (low_sees c.args.first.now c.fold_last.new.first c.fold_last.ensures.first)
    (joins_low c.fold_last.new.first c.leave-disk.result.2 c.join.new.pass (omega (arith, c.leave-disk.ensures.pass.1)) c.leave-disk.ensures.kin c.join.ensures.joined)

pub returns-clause-left : goal.returns-clause-left
returns-clause-left g c =
    let setting = setting_of g.N.Store.table g.N.Store.base in
    let found = g.N.Mounting.found in
    let view = g.D.Disk.view in
    let since = c.args.folding.now.since.seen in
    let first = c.args.first.now in
    let folded = c.fold_last.new.first in
    let joined = c.join.new.pass in
    let fold = c.fold_last.new.fold in
    let left = c.leave-disk.result in
    let active = disk_of (journal_in c.args.ledger.ledger.shelf) in
    let other = disk_of (other_in fold) in
    let older : IsOlder first.seen joined.seen = older_trans first.seen folded.seen joined.seen c.fold_last.ensures.first.older c.join.ensures.seen.0 in
    let kin = ap (λ (v : View). v.kin) c.join.ensures.joined ∙ (ap (λ n. folded.kin ++ (n, left.2.mine) ∷ left.2.kin) c.leave-disk.ensures.pass.1 ∙ ap (λ l. l ++ (ledger_seat, left.2.mine) ∷ left.2.kin) c.fold_last.ensures.first.kin) in
    let act_is : active_of setting found 0 (view left.0) (view left.1) ≡ view active.disk.value = active_is (λ b. b.disk.value) view setting found 0 (swapped_in fold) active other left.0 left.1 c.fold_last.ensures.swapped c.leave-disk.ensures.own c.leave-disk.ensures.spare in
    let oth_is : other_of setting found 0 (view left.0) (view left.1) ≡ view other.disk.value = other_is (λ b. b.disk.value) view setting found 0 (swapped_in fold) active other left.0 left.1 c.fold_last.ensures.swapped c.leave-disk.ensures.own c.leave-disk.ensures.spare in
    let others = by_fold setting found since first.seen c.requires.since (view other.disk.value) (other_of setting found 0 (view left.0) (view left.1)) (sym oth_is) joined.seen (c.args.folding.now.whole ≡ true) (c.fold_last.ensures.left joined.seen c.join.ensures.seen.0) in
    subst (λ (p : View). AllLeft setting found view p.seen c.fold_last.new.folding.whole c.fold_last.new.folding.wanting (pairs_in c.put_first.new.self) joined) (sym c.fold_last.ensures.since) (record {
      own = left.0;
      spare = left.1;
      rest = pairs_in c.args.returns.now;
      pairs_are = c.put_first.ensures;
      copies_whole = c.args.folding.now.whole;
      copies_wanting = c.args.folding.now.wanting;
      copies = still_left setting found view since 16 c.args.folding.now.whole c.args.folding.now.wanting (pairs_in c.args.returns.now) first joined ((ledger_seat, left.2.mine) ∷ left.2.kin) older kin c.requires.left;
      ledger = record {
        seen = left.2.seen;
        older = c.join.ensures.seen.1;
        legal = c.leave-disk.ensures.legal;
        joined = joined_now setting found view first.kin left.2.kin joined left.2.seen left.2.mine ledger_seat c.leave-disk.ensures.mine kin;
        kept = subst (λ (d : Disk). LedgerKeeps setting found d left.2.seen) (sym act_is) c.leave-disk.ensures.kept;
      };
      knew = subst (λ (v : View). IsOlder v.seen since) (sym c.leave-disk.ensures.same) c.requires.knew;
      other = others;
      folded = λ whole.
          let f = c.fold_last.ensures.folded whole in
          (f.0, subst (λ (d : Disk). IsFolded setting found 0 [] d) (sym oth_is) f.1);
      free = λ fine ended whole free.
          c.fold_last.ensures.free fine
          (λ at before after. ended at (older_trans since first.seen at c.requires.since before) (older_trans at folded.seen joined.seen after c.join.ensures.seen.0))
          whole
          (subst (λ (d : Disk). IsFree setting found 0 [] d (view other.disk.value)) act_is
          (subst (λ (d : Disk). IsFree setting found 0 [] (active_of setting found 0 (view left.0) (view left.1)) d) oth_is free));
      wants = c.fold_last.ensures.wants;
    })
