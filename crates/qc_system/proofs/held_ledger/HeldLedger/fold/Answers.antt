-- The ledger's pair is folded with no tuples, which fit.
use Rattle.std.proofs.Common.{inl, inr, [], refl, ap, ◌∙◌}
use Rattle.std.proofs.lemmas.List.Elements.{All-nil}
use Rattle.qc_event.specs.Tables.{setting_of}
use Rattle.qc_journal.specs.Journal.{disk_of}
use Rattle.std.specs.Prelude.{Err}
use Rattle.qc_pair.specs.Fold.{other_in}
use Rattle.qc_system.proofs.Ended.{told_ended, told_open}
use Rattle.qc_system.proofs.OtherFolds.{folded_other, keeps_still, ledger_refused, left_so, next_by, no_room, other_rose}
use Rattle.qc_system.proofs.held_ledger.HeldLedger.fold.Goals as goal

pub returns-then-not-settled-clause-left : goal.returns-then-not-settled-clause-left
returns-then-not-settled-clause-left g c = λ past older. inl (keeps_still (setting_of g.N.Store.table g.N.Store.base) g.N.Mounting.found 0 [] c.args.fold.now c.args.fold.now c.requires.other (g.met.D.Disk.leaves_now (disk_of (other_in c.args.fold.now)).disk.value) refl)

pub returns-then-not-settled-clause-barred : goal.returns-then-not-settled-clause-barred
returns-then-not-settled-clause-barred g c = λ is ended free. told_open c.settled.new.pass.seen c.settled.result c.settled.ensures.settled c.if-not-settled.true (ended c.settled.new.pass.seen c.settled.ensures.looked.0 ([], refl))

pub returns-then-not-is_up-clause-left : goal.returns-then-not-is_up-clause-left
returns-then-not-is_up-clause-left g c = λ past older. inl (keeps_still (setting_of g.N.Store.table g.N.Store.base) g.N.Mounting.found 0 [] c.args.fold.now c.args.fold.now c.requires.other (g.met.D.Disk.leaves_now (disk_of (other_in c.args.fold.now)).disk.value) refl)

pub returns-in-Ok-clause-left : goal.returns-in-Ok-clause-left
returns-in-Ok-clause-left g c = λ past older.
    left_so (setting_of g.N.Store.table g.N.Store.base) g.N.Mounting.found 0 [] c.args.fold.now c.checkpoint.new.fold c.requires.other c.args.seer.now.seen c.settled.new.pass.seen past refl c.settled.ensures.looked.0 older
    (told_ended c.settled.new.pass.seen c.settled.result c.settled.ensures.settled c.if-not-settled.false) (g.met.D.Disk.leaves_now (disk_of (other_in c.args.fold.now)).disk.value) c.checkpoint.ensures.any_moment (λ used. (c.checkpoint.ensures.last used).1) (inr (All-nil _))

pub returns-in-Ok-clause-folded : goal.returns-in-Ok-clause-folded
returns-in-Ok-clause-folded g c = λ is.
    folded_other (setting_of g.N.Store.table g.N.Store.base) g.N.Mounting.found 0 [] c.args.fold.now c.checkpoint.new.fold c.requires.other
    (next_by (setting_of g.N.Store.table g.N.Store.base) g.N.Mounting.found 0 [] c.args.fold.now c.checkpoint.new.fold c.requires.other c.in-Ok.ensures.room) (All-nil _) c.in-Ok.ensures.up c.in-Ok.ensures.keeps

pub returns-in-Err-clause-left : goal.returns-in-Err-clause-left
returns-in-Err-clause-left g c = λ past older.
    left_so (setting_of g.N.Store.table g.N.Store.base) g.N.Mounting.found 0 [] c.args.fold.now c.checkpoint.new.fold c.requires.other c.args.seer.now.seen c.settled.new.pass.seen past refl c.settled.ensures.looked.0 older
    (told_ended c.settled.new.pass.seen c.settled.result c.settled.ensures.settled c.if-not-settled.false) (g.met.D.Disk.leaves_now (disk_of (other_in c.args.fold.now)).disk.value) c.checkpoint.ensures.any_moment (λ used. (c.checkpoint.ensures.last used).1) (inr (All-nil _))

pub returns-in-Err-clause-barred : goal.returns-in-Err-clause-barred
returns-in-Err-clause-barred g c = λ is ended free.
    let setting = setting_of g.N.Store.table g.N.Store.base in
    let old = c.args.fold.now in
    let new = c.checkpoint.new.fold in
    ledger_refused c.in-Err.no c.in-Err.ensures.refused
    (λ failed. free.sound_other (other_rose setting g.N.Mounting.found 0 [] old new c.requires.other (c.checkpoint.ensures.cause.failed (c.in-Err.is ∙ ap (λ r. Err r) failed))))
    (λ place full. free.room place (no_room setting g.N.Mounting.found 0 [] old new c.requires.other place (c.checkpoint.ensures.full place (c.in-Err.is ∙ ap (λ r. Err r) full))))
    (c.unfolded.ensures.refused is)
