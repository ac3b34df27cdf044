use Rattle.std.proofs.Common.{inl, inr, ℕ, List, refl, arith, subst}
use Rattle.std.specs.Prelude.{All, OnOk, length}
use Rattle.qc_codec.specs.Fields as field
use Rattle.qc_codec.specs.Fields.{current}
use Rattle.qc_config.specs.declared.tuple.Tuple.{Tuple}
use Rattle.qc_disk.specs.Disk.{LeavesOnly}
use Rattle.qc_journal.specs.Journal.{disk_of, Keeps}
use Rattle.qc_journal.proofs.Moments.{started}
use Rattle.qc_ledger.proofs.Writing.{kept_has}
use Rattle.qc_pair.specs.Fold.{folded_base, folded_bodies, made_in, other_in, IsFullFor}
use Rattle.qc_pair.specs.Folding.{IsFolding}
use Rattle.qc_site.specs.declared.fault.SiteNo.TheVariants.{Disk}
use Rattle.qc_site.proofs.Backs.{on_ok}
use Rattle.qc_site.proofs.Refusals.{handed_refusal, same_refusal}
use Rattle.qc_site.proofs.site.Site.checkpoint.Goals as goal

-- WHERE THE COPY IS NOT ABLE

pub returns-in_err-held-clause-any_moment : goal.returns-in_err-held-clause-any_moment
returns-in_err-held-clause-any_moment g c = λ bodies k.
    let other = other_in c.args.fold.now in
    started g.D.Disk.view (disk_of other) _ (λ image at. inl (kept_has other bodies image c.requires.up k ((g.met.D.Disk.leaves_now (disk_of other) image).0 at)))

pub returns-in_err-held-clause-cause : goal.returns-in_err-held-clause-cause
returns-in_err-held-clause-cause g c = record {
  later = c.in_err-held.ensures.cause.later;
  later_other = omega arith;
  either = λ failed. inl (c.in_err-held.ensures.cause.failed (same_refusal c.from_residual.result c.in_err-held.field-0.0 Disk c.from_residual.ensures.1 failed));
  counts = record {
    once = c.in_err-held.ensures.counts_once.once;
    spared = λ never. c.in_err-held.ensures.counts_once.spared (λ failed. never (handed_refusal c.from_residual.result c.in_err-held.field-0.0 Disk c.from_residual.ensures.1 failed));
  };
  counts_other = record { once = omega arith; spared = λ never. refl };
}

pub returns-in_err-held-clause-fits : goal.returns-in_err-held-clause-fits
returns-in_err-held-clause-fits g c = inl refl

-- WHERE IT IS

pub returns-clause-fits : goal.returns-clause-fits
returns-clause-fits g c = inr (subst (λ (ts : List Tuple). All (field.tuple (current (length g.N.Store.base))).fits ts) c.in_ok-held.ensures.held c.fold_in.ensures.fits)

pub returns-clause-fit : goal.returns-clause-fit
returns-clause-fit g c = on_ok c.fold_in.result (subst (λ (ts : List Tuple). All (field.tuple (current (length g.N.Store.base))).fits ts) c.in_ok-held.ensures.held c.fold_in.ensures.fits)

pub returns-clause-keeps : goal.returns-clause-keeps
returns-clause-keeps g c =
    subst (λ (ts : List Tuple). OnOk c.fold_in.result ((bodies : List (List ℕ)) → Keeps (other_in c.args.fold.now) bodies → Keeps (other_in c.fold_in.new.fold) (folded_bodies c.args.fold.now ts)))
    c.in_ok-held.ensures.held c.fold_in.ensures.keeps

pub returns-clause-any_moment : goal.returns-clause-any_moment
returns-clause-any_moment g c = λ bodies k.
    subst (λ (ts : List Tuple). LeavesOnly g.D.Disk.view (disk_of (other_in c.args.fold.now)) (disk_of (other_in c.fold_in.new.fold)) (IsFolding bodies (made_in c.args.fold.now) (folded_base c.args.fold.now ts)))
    c.in_ok-held.ensures.held (c.fold_in.ensures.any_moment bodies k)

pub returns-clause-room : goal.returns-clause-room
returns-clause-room g c =
    subst (λ (ts : List Tuple). OnOk c.fold_in.result ((place : ℕ) → IsFullFor c.args.fold.now ts place → ⊥)) c.in_ok-held.ensures.held c.fold_in.ensures.room

pub returns-clause-cause : goal.returns-clause-cause
returns-clause-cause g c = record {
  later = c.in_ok-held.ensures.cause.later;
  later_other = c.fold_in.ensures.cause.later;
  either = λ failed. inr (c.fold_in.ensures.cause.failed failed);
  counts = record { once = c.in_ok-held.ensures.counts_once.once; spared = λ never. c.in_ok-held.ensures.counts_once.spared (λ failed. absurd cc) };
  counts_other = c.fold_in.ensures.counts_once;
}
