use Rattle.std.proofs.Common.{refl}
use Rattle.qc_journal.specs.Journal.{disk_of}
use Rattle.qc_site.specs.Log.{log_journal}
use Rattle.qc_site.proofs.Logs.{failed_each, plain_each, read_each}
use Rattle.qc_site.proofs.log.GrantLog.read_back.Goals as goal

pub returns-then-is_err-clause-kept : goal.returns-then-is_err-clause-kept
returns-then-is_err-clause-kept g c =
    let r = c.read_back-answer in
    failed_each c.args.self.now _ r.new.journal c.args.given.now c.args.hand.now r.result refl refl c.close.ensures.down c.close.ensures.hand c.close.ensures.kept r.ensures.kept

pub returns-then-is_err-clause-plain : goal.returns-then-is_err-clause-plain
returns-then-is_err-clause-plain g c = λ before k.
    let r = c.read_back-answer in
    plain_each c.args.self.now before c.args.given.now c.args.hand.now (g.met.D.Disk.reads_as_image (disk_of (log_journal c.args.self.now))) r.result k r.ensures.says

pub returns-else-is_err-clause-over : goal.returns-else-is_err-clause-over
returns-else-is_err-clause-over g c =
    let r = c.read_back-answer in
    read_each c.args.self.now _ c.args.given.now c.args.hand.now r.result refl refl r.ensures.up r.ensures.keeps
