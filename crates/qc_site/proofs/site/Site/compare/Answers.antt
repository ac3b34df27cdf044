use Rattle.std.proofs.Common.{inr, subst}
use Rattle.std.specs.Prelude.{Err, IfSome}
use Rattle.qc_journal.specs.Journal.{disk_of}
use Rattle.qc_site.specs.Back.{IsAnswer, IsPlain}
use Rattle.qc_site.specs.Log.{log_journal}
use Rattle.qc_site.specs.declared.back.BackNo.TheVariants as no_back
use Rattle.qc_site.proofs.Logs.{same_over}
use Rattle.qc_site.proofs.site.Site.compare.Goals as goal

pub returns-in-Err-Strange-clause-plain : goal.returns-in-Err-Strange-clause-plain
returns-in-Err-Strange-clause-plain g c = λ before k.
    absurd (subst IsPlain c.in-Err-Strange.field-0-is (c.in-Err-Strange.ensures.plain before (same_over before c.args.self.now.log _ _ _ _ c.requires.given c.hand.ensures k)))

pub returns-in-Err-Strange-clause-differs : goal.returns-in-Err-Strange-clause-differs
returns-in-Err-Strange-clause-differs g c =
    let old = c.args.self.now in
    inr (subst (λ h. IfSome (g.D.Disk.view (disk_of (log_journal old.log))).content (IsAnswer old.log.copies old.log.earlier c.args.given.now h (Err (no_back.Strange c.in-Err-Strange.strange)))) c.hand.ensures
    (subst (λ e. IfSome (g.D.Disk.view (disk_of (log_journal old.log))).content (IsAnswer old.log.copies old.log.earlier c.args.given.now c.hand.result (Err e))) c.in-Err-Strange.field-0-is c.in-Err-Strange.ensures.says))
