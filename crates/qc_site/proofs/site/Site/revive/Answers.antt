use Rattle.std.proofs.Common.{[], inl, inr, refl, sym, ap, ◌∙◌, subst}
use Rattle.std.specs.Prelude.{None, IsErrOf}
use Rattle.qc_site.specs.declared.fault.SiteNo.TheVariants.{Disk}
use Rattle.qc_event.specs.Tables.{setting_of}
use Rattle.qc_journal.specs.Journal.{disk_of}
use Rattle.qc_ledger.specs.Runs.{Costs, CostsOnce}
use Rattle.qc_site.specs.Calls.{site_state}
use Rattle.qc_site.specs.Log.{log_journal}
use Rattle.qc_site.proofs.Calls.{became_on, compared, looked, none_on, nothing_done, nothing_written}
use Rattle.qc_site.proofs.Refusals.{no_disk_no, want_says}
use Rattle.qc_site.proofs.site.Site.revive.Goals as goal

pub returns-then-is_some-clause-became : goal.returns-then-is_some-clause-became
returns-then-is_some-clause-became g c = nothing_done (setting_of g.N.Store.table g.N.Store.base) g.row.C _ (g.met.D.Disk.leaves_now (disk_of (log_journal c.args.self.now.log)))

pub returns-then-is_some-clause-wrote_none : goal.returns-then-is_some-clause-wrote_none
returns-then-is_some-clause-wrote_none g c = nothing_written (setting_of g.N.Store.table g.N.Store.base) g.row.C _ _ (g.met.D.Disk.leaves_now (disk_of (log_journal c.args.self.now.log))) refl ([], refl)

pub returns-in_err-given-clause-became : goal.returns-in_err-given-clause-became
returns-in_err-given-clause-became g c =
    looked (setting_of g.N.Store.table g.N.Store.base) g.row.C _ _ (g.met.D.Disk.leaves_now (disk_of (log_journal c.args.self.now.log))) refl refl c.given.ensures.hand c.given.ensures.looks.same_grants c.given.ensures.looks.older

pub returns-in_err-given-clause-wrote_none : goal.returns-in_err-given-clause-wrote_none
returns-in_err-given-clause-wrote_none g c = nothing_written (setting_of g.N.Store.table g.N.Store.base) g.row.C _ _ (g.met.D.Disk.leaves_now (disk_of (log_journal c.args.self.now.log))) refl c.given.ensures.looks.older

-- THE DISK IS READ

pub returns-in_err-compare-clause-became : goal.returns-in_err-compare-clause-became
returns-in_err-compare-clause-became g c =
    let read = c.compare.ensures in
    (compared (setting_of g.N.Store.table g.N.Store.base) g.row.C (site_state c.args.self.now) (site_state c.compare.new.self) c.given.new.self (g.met.D.Disk.leaves_now (disk_of (log_journal c.args.self.now.log)))
    c.given.ensures.hand c.given.ensures.looks.same_grants c.given.ensures.looks.older read.content read.any_moment read.falls read.limit read.pass read.over read.plain).0

pub returns-in_err-compare-clause-wrote_none : goal.returns-in_err-compare-clause-wrote_none
returns-in_err-compare-clause-wrote_none g c =
    let read = c.compare.ensures in
    (compared (setting_of g.N.Store.table g.N.Store.base) g.row.C (site_state c.args.self.now) (site_state c.compare.new.self) c.given.new.self (g.met.D.Disk.leaves_now (disk_of (log_journal c.args.self.now.log)))
    c.given.ensures.hand c.given.ensures.looks.same_grants c.given.ensures.looks.older read.content read.any_moment read.falls read.limit read.pass read.over read.plain).1

pub returns-clause-became : goal.returns-clause-became
returns-clause-became g c =
    let setting = setting_of g.N.Store.table g.N.Store.base in
    let read = c.compare.ensures in
    let mid = c.compare.new.self in
    became_on setting g.row.C None (site_state c.args.self.now) (site_state mid) (site_state c.restore.new.self) (g.met.D.Disk.leaves_now (disk_of (log_journal mid.log)))
    (compared setting g.row.C (site_state c.args.self.now) (site_state mid) c.given.new.self (g.met.D.Disk.leaves_now (disk_of (log_journal c.args.self.now.log)))
    c.given.ensures.hand c.given.ensures.looks.same_grants c.given.ensures.looks.older read.content read.any_moment read.falls read.limit read.pass read.over read.plain).0
    c.restore.ensures.became

pub returns-clause-wrote_none : goal.returns-clause-wrote_none
returns-clause-wrote_none g c =
    let setting = setting_of g.N.Store.table g.N.Store.base in
    let read = c.compare.ensures in
    let mid = c.compare.new.self in
    none_on setting g.row.C (site_state c.args.self.now) (site_state mid) (site_state c.restore.new.self)
    (compared setting g.row.C (site_state c.args.self.now) (site_state mid) c.given.new.self (g.met.D.Disk.leaves_now (disk_of (log_journal c.args.self.now.log)))
    c.given.ensures.hand c.given.ensures.looks.same_grants c.given.ensures.looks.older read.content read.any_moment read.falls read.limit read.pass read.over read.plain).1
    (ap (λ l. log_journal l) c.restore.ensures.log) c.restore.ensures.became.seen

pub returns-clause-refused : goal.returns-clause-refused
returns-clause-refused g c = want_says (site_state c.restore.new.self) c.restore.result c.restore.ensures.refused

pub returns-clause-cause : goal.returns-clause-cause
returns-clause-cause g c =
    subst (λ l. Costs (log_journal c.args.self.now.log) (log_journal l) (IsErrOf c.restore.result Disk)) (sym c.restore.ensures.log)
    record { later = c.in_ok-compare.ensures.cause.later; failed = λ failed. absurd (no_disk_no c.restore.new.self.replica.pass.seen c.restore.result c.restore.ensures.refused failed) }

pub returns-clause-counts_once : goal.returns-clause-counts_once
returns-clause-counts_once g c =
    subst (λ l. CostsOnce (log_journal c.args.self.now.log) (log_journal l) (IsErrOf c.restore.result Disk)) (sym c.restore.ensures.log)
    record { once = c.in_ok-compare.ensures.counts_once.once; spared = λ never. c.in_ok-compare.ensures.counts_once.spared (λ failed. absurd cc) }

pub returns-clause-hand : goal.returns-clause-hand
returns-clause-hand g c = elim c.restore.ensures.hand [
  | inl none ↦ inl none
  | inr same ↦ elim c.compare.ensures.hand [ inl none ↦ inl (same ∙ none) | inr kept ↦ inr (same ∙ kept ∙ c.given.ensures.hand) ]
]

pub returns-in_err-compare-clause-hand : goal.returns-in_err-compare-clause-hand
returns-in_err-compare-clause-hand g c = elim c.compare.ensures.hand [ inl none ↦ inl none | inr kept ↦ inr (kept ∙ c.given.ensures.hand) ]
