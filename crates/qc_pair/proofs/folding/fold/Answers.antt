-- Each call goes on from where the one before left the disk.
use Rattle.std.proofs.Common.{[], ◌∷◌}
use Rattle.qc_journal.specs.Journal.{disk_of}
use Rattle.qc_pair.proofs.Folds.{base_too, dropped, made_too}
use Rattle.qc_pair.proofs.folding.fold.Goals as goal

pub returns-in_err-reset-clause-any_moment : goal.returns-in_err-reset-clause-any_moment
returns-in_err-reset-clause-any_moment g c = λ bodies k.
    dropped g.D.Disk.view bodies c.args.made.now c.args.base.now _ _ (c.reset.ensures.any_moment bodies k)

pub returns-in_err-append-clause-any_moment : goal.returns-in_err-append-clause-any_moment
returns-in_err-append-clause-any_moment g c = λ bodies k.
    made_too g.D.Disk.view bodies c.args.made.now c.args.base.now _ (disk_of c.reset.new.self) _
    (dropped g.D.Disk.view bodies c.args.made.now c.args.base.now _ _ (c.reset.ensures.any_moment bodies k))
    (c.append.ensures.any_moment [] (c.in_ok-reset.ensures.emptied bodies k))

pub returns-clause-any_moment : goal.returns-clause-any_moment
returns-clause-any_moment g c = λ bodies k.
    let none = c.in_ok-reset.ensures.emptied bodies k in
    base_too g.D.Disk.view bodies c.args.made.now c.args.base.now _ (disk_of c.append.new.self) _
    (made_too g.D.Disk.view bodies c.args.made.now c.args.base.now _ (disk_of c.reset.new.self) _
    (dropped g.D.Disk.view bodies c.args.made.now c.args.base.now _ _ (c.reset.ensures.any_moment bodies k))
    (c.append.ensures.any_moment [] none))
    (c.append-2.ensures.any_moment (c.args.made.now ∷ []) (c.in_ok-append.ensures.acknowledged [] none))
