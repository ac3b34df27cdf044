use Rattle.std.proofs.Common.{List, ap, length, sym, subst}
use Rattle.std.specs.Prelude.{Err}
use Rattle.std.specs.List.{All}
use Rattle.qc_config.specs.declared.tuple.Tuple.{Tuple}
use Rattle.qc_codec.specs.Fields as field
use Rattle.qc_codec.specs.Fields.{current}
use Rattle.qc_site.proofs.Checkpoints.{disk_fold, fold_disk, fold_refuses}
use Rattle.qc_site.proofs.site.Site.fold_in.Goals as goal

pub fold-requires-clause-fit : goal.fold-requires-clause-fit
fold-requires-clause-fit g c =
    subst (λ n. All (field.tuple (current n)).fits c.args.held.items) (sym c.requires.copies)
    (subst (λ (ts : List Tuple). All (field.tuple (current (length g.N.Store.base))).fits ts) c.deref.ensures.value c.held_fits.ensures.fits)

pub returns-in-Ok-clause-counts_once : goal.returns-in-Ok-clause-counts_once
returns-in-Ok-clause-counts_once g c = record { once = c.in-Ok.ensures.counts_once.once; spared = λ never. c.in-Ok.ensures.counts_once.spared (λ failed. absurd cc) }

pub returns-in-Err-clause-refused : goal.returns-in-Err-clause-refused
returns-in-Err-clause-refused g c =
    fold_refuses g.row.C c.args.fold.now c.args.held.items c.fold.new.self c.in-Err.fault c.disk.result c.fold_no.result c.fold_no.ensures c.disk.ensures c.fold.ensures.same.swapped
    c.in-Err.ensures.fault (λ place is. c.in-Err.ensures.full place (ap (λ x. Err x) is))

pub returns-in-Err-clause-cause : goal.returns-in-Err-clause-cause
returns-in-Err-clause-cause g c = record {
  later = c.in-Err.ensures.cause.later;
  failed = λ failed. c.in-Err.ensures.cause.failed (fold_disk c.in-Err.fault c.disk.result c.fold_no.result c.fold_no.ensures c.in-Err.ensures.fault failed);
}

pub returns-in-Err-clause-counts_once : goal.returns-in-Err-clause-counts_once
returns-in-Err-clause-counts_once g c = record {
  once = c.in-Err.ensures.counts_once.once;
  spared = λ never. c.in-Err.ensures.counts_once.spared (λ failed. never (disk_fold c.in-Err.fault c.disk.result c.fold_no.result c.fold_no.ensures failed));
}
