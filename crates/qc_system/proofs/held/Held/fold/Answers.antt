-- The other journal is folded over, and its own keeps and pays as before.
use Rattle.std.proofs.Common.{inl, inr, ◌+◌, [], refl, sym, ap, ◌∙◌, subst, arith}
use mathlib.Core.Bool.{true≢false}
use Rattle.std.proofs.Math.Logic.{∥∥₁_elim, ∥∥₁_map}
use Rattle.std.specs.Prelude.{Err, slice_index_or}
use Rattle.qc_event.specs.Tables.{setting_of}
use Rattle.qc_journal.specs.Journal.{disk_of}
use Rattle.qc_desk.proofs.Seers.{older_trans}
use Rattle.qc_ledger.proofs.Passes.{sees_on}
use Rattle.qc_pair.specs.Fold.{other_in}
use Rattle.qc_pair.specs.Folding.{HasNoRoom}
use Rattle.qc_site.specs.Calls.{site_state}
use Rattle.qc_site.specs.Checkpoint.{held_by}
use Rattle.qc_site.specs.Log.{log_journal}
use Rattle.qc_system.specs.Folds.{base_in, IsFolded}
use Rattle.qc_system.specs.Kept.{downs}
use Rattle.qc_site.proofs.Replicas.{shown_sees}
use Rattle.qc_system.proofs.Ended.{told_ended, told_open}
use Rattle.qc_system.proofs.Grown.{left_on}
use Rattle.qc_system.proofs.HeldRows.{row_held}
use Rattle.qc_system.proofs.OtherFolds.{folded_other, keeps_still, left_so, next_by, no_room, other_rose, rose_since, site_refused, was_folded}
use Rattle.qc_system.proofs.Paying.{faults_of, hand_pays}
use Rattle.qc_system.proofs.Unable.{hand_plain, hand_room}
use Rattle.qc_system.proofs.held.Held.fold.Goals as goal

pub checkpoint-requires : goal.checkpoint-requires
checkpoint-requires g c = (omega arith, (c.requires.proper, (told_ended c.settled.new.pass.seen c.settled.result c.settled.ensures.settled c.if-not-settled.false, (c.requires.other.up, c.requires.other.many))))

pub invariant_of-self : goal.invariant_of-self
invariant_of-self g c =
    let setting = setting_of g.N.Store.table g.N.Store.base in
    let before = (g.N.Mounting.found.active (g.row.C + 1)).before in
    let first = (g.N.Mounting.found.active (g.row.C + 1)).first in
    let held = c.args.self.now in
    let old = held.site in
    let new = c.checkpoint.new.self in
    let became = c.checkpoint.ensures.became in
    let enters = c.checkpoint.ensures.enters in
    record {
      keeps = ∥∥₁_map held.keeps (λ k told. (
        became.kept before (k told).0,
        record {
          began = left_on first (disk_of (log_journal old.log)) (disk_of (log_journal new.log)) (λ d. g.D.Disk.view d.disk.value) (became.moments before (k told).0).earlier (k told).1.grown.later (k told).1.began;
          grown = became.grown before first.moment (k told).0 (k told).1.grown;
        },
      ));
      pays = hand_pays g.row.C old.replica new.replica first.faults (faults_of (log_journal old.log)) (faults_of (log_journal new.log)) enters c.checkpoint.ensures.cause.later held.pays;
      limit = became.limit ∙ held.limit;
      full = ∥∥₁_map held.full (λ had told. hand_room setting g.row.C before g.N.Mounting.found.limit old.replica new.replica enters became.seen (had told));
      plain = ∥∥₁_elim held.keeps (hlevel) (λ k. ∥∥₁_map held.plain (λ was told. (became.plain before (k told).0 ∙ (was told).0, hand_plain g.row.C old.replica new.replica enters (was told).1)));
    }

-- WHERE A TOP HAS NO END

pub returns-then-not-settled-clause-left : goal.returns-then-not-settled-clause-left
returns-then-not-settled-clause-left g c = let fold = c.args.fold.now in
    inl (keeps_still (setting_of g.N.Store.table g.N.Store.base) g.N.Mounting.found (g.row.C + 1) [] fold fold c.requires.other (g.met.D.Disk.leaves_now (disk_of (other_in fold)).disk.value) refl)

pub returns-then-not-settled-clause-barred : goal.returns-then-not-settled-clause-barred
returns-then-not-settled-clause-barred g c = λ is ended few free.
    told_open c.settled.new.pass.seen c.settled.result c.settled.ensures.settled c.if-not-settled.true (ended c.settled.new.pass.seen c.settled.ensures.looked.0 ([], refl))

-- WHERE EACH HAS

pub returns-in-Ok-clause-seer : goal.returns-in-Ok-clause-seer
returns-in-Ok-clause-seer g c = sees_on c.args.seer.now c.settled.new.pass c.checkpoint.new.seer (shown_sees c.args.seer.now c.settled.new.pass c.settled.ensures.looked) c.checkpoint.ensures.seer

pub returns-in-Err-clause-seer : goal.returns-in-Err-clause-seer
returns-in-Err-clause-seer g c = sees_on c.args.seer.now c.settled.new.pass c.checkpoint.new.seer (shown_sees c.args.seer.now c.settled.new.pass c.settled.ensures.looked) c.checkpoint.ensures.seer

pub returns-in-Ok-clause-left : goal.returns-in-Ok-clause-left
returns-in-Ok-clause-left g c =
    let setting = setting_of g.N.Store.table g.N.Store.base in
    let new = c.checkpoint.new.self.replica in
    left_so setting g.N.Mounting.found (g.row.C + 1) (held_by (slice_index_or g.N.Store.base g.row.C []) g.row.C new) c.args.fold.now c.checkpoint.new.fold c.requires.other
    c.args.seer.now.seen c.settled.new.pass.seen new.pass.seen (row_held setting g.N.Mounting.found g.row.C new.pass.seen c.requires.proper c.requires.inside) c.settled.ensures.looked.0
    (older_trans c.settled.new.pass.seen c.checkpoint.new.seer.seen new.pass.seen c.checkpoint.ensures.seer.older c.checkpoint.ensures.older)
    (told_ended c.settled.new.pass.seen c.settled.result c.settled.ensures.settled c.if-not-settled.false)
    (g.met.D.Disk.leaves_now (disk_of (other_in c.args.fold.now)).disk.value) c.checkpoint.ensures.any_moment (λ used. c.checkpoint.ensures.spared (inr (inr (inr used)))) c.checkpoint.ensures.fits

pub returns-in-Err-clause-left : goal.returns-in-Err-clause-left
returns-in-Err-clause-left g c =
    let setting = setting_of g.N.Store.table g.N.Store.base in
    let new = c.checkpoint.new.self.replica in
    left_so setting g.N.Mounting.found (g.row.C + 1) (held_by (slice_index_or g.N.Store.base g.row.C []) g.row.C new) c.args.fold.now c.checkpoint.new.fold c.requires.other
    c.args.seer.now.seen c.settled.new.pass.seen new.pass.seen (row_held setting g.N.Mounting.found g.row.C new.pass.seen c.requires.proper c.requires.inside) c.settled.ensures.looked.0
    (older_trans c.settled.new.pass.seen c.checkpoint.new.seer.seen new.pass.seen c.checkpoint.ensures.seer.older c.checkpoint.ensures.older)
    (told_ended c.settled.new.pass.seen c.settled.result c.settled.ensures.settled c.if-not-settled.false)
    (g.met.D.Disk.leaves_now (disk_of (other_in c.args.fold.now)).disk.value) c.checkpoint.ensures.any_moment (λ used. c.checkpoint.ensures.spared (inr (inr (inr used)))) c.checkpoint.ensures.fits

pub returns-in-Ok-clause-folded : goal.returns-in-Ok-clause-folded
returns-in-Ok-clause-folded g c = λ is.
    let setting = setting_of g.N.Store.table g.N.Store.base in
    let found = g.N.Mounting.found in
    let new = c.checkpoint.new.self.replica in
    let tuples = held_by (slice_index_or g.N.Store.base g.row.C []) g.row.C new in
    let row = row_held setting found g.row.C new.pass.seen c.requires.proper c.requires.inside in
    let next = next_by setting found (g.row.C + 1) tuples c.args.fold.now c.checkpoint.new.fold c.requires.other c.in-Ok.ensures.room in (
      was_folded setting found (g.row.C + 1) tuples c.args.fold.now c.checkpoint.new.fold c.requires.other c.args.seer.now.seen c.settled.new.pass.seen new.pass.seen row c.settled.ensures.looked.0
          (older_trans c.settled.new.pass.seen c.checkpoint.new.seer.seen new.pass.seen c.checkpoint.ensures.seer.older c.checkpoint.ensures.older)
          (told_ended c.settled.new.pass.seen c.settled.result c.settled.ensures.settled c.if-not-settled.false)
          (g.met.D.Disk.leaves_now (disk_of (other_in c.args.fold.now)).disk.value) c.checkpoint.ensures.any_moment next c.in-Ok.ensures.fit,
      subst (λ ts. IsFolded setting found (g.row.C + 1) ts (g.D.Disk.view (disk_of (other_in c.checkpoint.new.fold)).disk.value)) row
          (folded_other setting found (g.row.C + 1) tuples c.args.fold.now c.checkpoint.new.fold c.requires.other next c.in-Ok.ensures.fit c.in-Ok.ensures.up c.in-Ok.ensures.keeps),
    )

pub returns-in-Err-clause-barred : goal.returns-in-Err-clause-barred
returns-in-Err-clause-barred g c = λ is ended few frees.
    let setting = setting_of g.N.Store.table g.N.Store.base in
    let found = g.N.Mounting.found in
    let pair = g.row.C + 1 in
    let before = (found.active pair).before in
    let held = c.args.self.now in
    let old = c.args.fold.now in
    let new = c.checkpoint.new.self in
    let tuples = held_by (slice_index_or g.N.Store.base g.row.C []) g.row.C new.replica in
    let row = row_held setting found g.row.C new.replica.pass.seen c.requires.proper c.requires.inside in
    let sees = older_trans c.args.seer.now.seen c.settled.new.pass.seen c.checkpoint.new.seer.seen c.settled.ensures.looked.0 c.checkpoint.ensures.seer.older in
    let free = frees (older_trans c.args.seer.now.seen c.checkpoint.new.seer.seen new.replica.pass.seen sees c.checkpoint.ensures.older) in
    site_refused g.row.C old tuples (site_state new) c.in-Err.no c.in-Err.ensures.refused
    (λ failed. elim (c.checkpoint.ensures.cause.either (c.in-Err.is ∙ ap (λ r. Err r) failed)) [
      | inl own ↦ free.sound (rose_since (found.active pair).first.faults (downs held.site.replica.pass.mine) (faults_of (log_journal held.site.log)) (faults_of (log_journal new.log)) held.pays own)
      | inr other ↦ free.sound_other (other_rose setting found pair tuples old c.checkpoint.new.fold c.requires.other other)
    ])
    (λ place full. free.room place (subst (λ ts. HasNoRoom (found.number pair) found.limit (found.made pair) (base_in setting found pair ts) place) row (no_room setting found pair tuples old c.checkpoint.new.fold c.requires.other place full)))
    (λ now. ∥∥₁_elim held.keeps (hlevel) (λ k. ∥∥₁_elim held.plain (hlevel) (λ was. true≢false (sym now ∙ c.checkpoint.ensures.became.plain before (k free.told).0 ∙ (was free.told).0))))
    (c.unfolded.ensures.refused is)
    (λ full. omega (arith, few, full))
