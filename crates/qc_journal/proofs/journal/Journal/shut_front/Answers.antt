-- The gate at the front stands closed, or is closed by a write.
use Rattle.std.proofs.Common.{inr, [], ◌∷◌}
use Rattle.std.proofs.lemmas.Result.{err_from_is_err_and}
use Rattle.qc_disk.specs.Disk.{written}
use Rattle.qc_journal.specs.Image.{EndsAt}
use Rattle.qc_journal.proofs.Appends.{tells_on}
use Rattle.qc_journal.proofs.Moments.{started}
use Rattle.qc_journal.proofs.Reopens.{only_told}
use Rattle.qc_journal.proofs.Resets.{bare, bare_moment, some_record, wrote, any_moment, bare_stays, wrote_stays, told_shut, written_front}
use Rattle.qc_journal.proofs.journal.Journal.shut_front.Goals as goal

pub returns-then-is_bare-clause-shut : goal.returns-then-is_bare-clause-shut
returns-then-is_bare-clause-shut g c = λ bodies k.
    let front = (c.is_bare-is_bare.ensures.0 c.if-is_bare.true).0 in
    record { bytes = k.bytes; told = k.told; each = λ image left. inr (bare c.args.self.now bodies c.requires k front image left) }

pub returns-then-is_bare-clause-any_moment : goal.returns-then-is_bare-clause-any_moment
returns-then-is_bare-clause-any_moment g c = λ bodies k.
    let old = c.args.self.now in
    bare_moment old bodies c.requires k (started g.D.Disk.view old.disk _ (λ d left. (g.met.D.Disk.leaves_now old.disk d).0 left))

pub returns-in_err-write_synced-clause-kept : goal.returns-in_err-write_synced-clause-kept
returns-in_err-write_synced-clause-kept g c =
    let old = c.args.self.now in
    let p = err_from_is_err_and c.from_residual.result c.from_residual.ensures.1 in
    rw (p.1) (λ bodies k.
    let some = some_record old bodies c.requires k c.is_bare-is_bare.result c.is_bare-is_bare.ensures c.if-is_bare.false in
    let now = tells_on _ _ _ k.bytes k.told c.write_synced.ensures.torn in
    record {
      bytes = now.0;
      told = now.1;
      each = λ image left. wrote old bodies c.requires k some c.write_synced.new.disk image (c.write_synced.ensures.crash image left);
    })

pub returns-in_err-write_synced-clause-any_moment : goal.returns-in_err-write_synced-clause-any_moment
returns-in_err-write_synced-clause-any_moment g c = λ bodies k.
    let old = c.args.self.now in
    let some = some_record old bodies c.requires k c.is_bare-is_bare.result c.is_bare-is_bare.ensures c.if-is_bare.false in
    any_moment old bodies c.requires k some c.write_synced.new.disk c.write_synced.ensures.any_moment

pub returns-clause-shut : goal.returns-clause-shut
returns-clause-shut g c = λ bodies k.
    let told = told_shut c.args.self.now bodies c.requires k (some_record c.args.self.now bodies c.requires k c.is_bare-is_bare.result c.is_bare-is_bare.ensures c.if-is_bare.false) c.write_synced.new.disk c.in_ok-write_synced.ensures.written in
    record {
      bytes = written 0 (0 ∷ []) k.bytes;
      told = told;
      each = λ image left. inr (only_told _ _ _ (EndsAt 0 []) told c.in_ok-write_synced.ensures.durable (written_front k.bytes) image left);
    }

pub returns-clause-any_moment : goal.returns-clause-any_moment
returns-clause-any_moment g c = λ bodies k.
    let old = c.args.self.now in
    let some = some_record old bodies c.requires k c.is_bare-is_bare.result c.is_bare-is_bare.ensures c.if-is_bare.false in
    any_moment old bodies c.requires k some c.write_synced.new.disk c.write_synced.ensures.any_moment

pub returns-then-is_bare-clause-stays_empty : goal.returns-then-is_bare-clause-stays_empty
returns-then-is_bare-clause-stays_empty g c = λ bodies k. bare_stays c.args.self.now bodies c.requires k

pub returns-in_err-write_synced-clause-stays_empty : goal.returns-in_err-write_synced-clause-stays_empty
returns-in_err-write_synced-clause-stays_empty g c = λ bodies k.
    let old = c.args.self.now in
    let some = some_record old bodies c.requires k c.is_bare-is_bare.result c.is_bare-is_bare.ensures c.if-is_bare.false in
    wrote_stays old bodies c.requires k some c.write_synced.new.disk (g.met.D.Disk.reads_as_image old.disk) c.write_synced.ensures.any_moment c.write_synced.ensures.once (g.met.D.Disk.leaves_now old.disk)

pub returns-clause-stays_empty : goal.returns-clause-stays_empty
returns-clause-stays_empty g c = λ bodies k.
    let old = c.args.self.now in
    let some = some_record old bodies c.requires k c.is_bare-is_bare.result c.is_bare-is_bare.ensures c.if-is_bare.false in
    wrote_stays old bodies c.requires k some c.write_synced.new.disk (g.met.D.Disk.reads_as_image old.disk) c.write_synced.ensures.any_moment c.write_synced.ensures.once (g.met.D.Disk.leaves_now old.disk)
