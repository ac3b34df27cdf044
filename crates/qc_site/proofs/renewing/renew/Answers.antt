-- What is folded is what the copy's records restore, as of the ledger's last epoch.
use Rattle.std.proofs.Common.{◌+◌, ℕ, List, ◌∷◌, [], refl, sym, ap, ap₂, ◌∙◌, subst, arith}
use Rattle.std.specs.Prelude.{if◌then◌else◌}
use Rattle.qc_disk.specs.Disk.{LeavesOnly}
use Rattle.qc_journal.specs.Journal.{disk_of}
use Rattle.qc_pair.specs.Fold.{other_in, swapped_in}
use Rattle.qc_pair.specs.Folding.{IsFolding}
use Rattle.qc_pair.proofs.Folds.{same_run}
use Rattle.qc_site.specs.Image.{made_body, AreBytes}
use Rattle.qc_site.specs.Mounted.{records_of}
use Rattle.qc_site.specs.Renewal.{renewed_body}
use Rattle.qc_site.specs.Renewing as renewing
use Rattle.qc_site.proofs.PairMounts.{other_number}
use Rattle.qc_site.proofs.Renewals.{folded_back, folded_is, folds_base, full_before, full_then, may_fit, refused_so, start_fits}
use Rattle.qc_site.proofs.renewing.renew.Goals as goal

pub returns-in_default-clause-fits : goal.returns-in_default-clause-fits
returns-in_default-clause-fits g c =
    may_fit c.args.table.now c.args.past.now c.args.mounted c.args.fold c.requires.may c.requires.proper (subst AreBytes c.records.ensures c.are_bytes.ensures) (omega arith)

pub returns-in_default-start_of-clause-fits : goal.returns-in_default-start_of-clause-fits
returns-in_default-start_of-clause-fits g c =
    may_fit c.args.table.now c.args.past.now c.args.mounted c.args.fold c.requires.may c.requires.proper (subst AreBytes c.records.ensures c.are_bytes.ensures) (omega arith)

pub renew-requires-clause-fit : goal.renew-requires-clause-fit
renew-requires-clause-fit g c =
    start_fits c.args.table.now c.args.past.now c.args.mounted c.args.fold c.requires.may c.requires.proper (subst AreBytes c.records.ensures c.are_bytes.ensures) c.in-Ok-start_of.tuples.items c.in-Ok-start_of.ensures

pub returns-in-Ok-renew-clause-renews : goal.returns-in-Ok-renew-clause-renews
returns-in-Ok-renew-clause-renews g c =
    let table = c.args.table.now in
    let past = c.args.past.now in
    let mounted = c.args.mounted in
    let fold = c.args.fold in
    let may = c.requires.may in
    let did = c.in-Ok-renew.ensures in
    let tuples = c.in-Ok-start_of.tuples.items in
    record {
      same_copy = refl;
      same_copies = refl;
      same_start = refl;
      up = did.up;
      limit_is = did.limit;
      records = did.bodies ∙ ap₂ (λ (m b : List ℕ). m ∷ b ∷ []) may.made (folds_base table past mounted fold may tuples c.in-Ok-start_of.ensures);
      keeps = did.keeps;
      exchanged = record {
        other = did.exchanged.other;
        number = did.exchanged.number;
        swapped = did.exchanged.swapped;
        made_is = did.exchanged.made_is ∙ c.in-Ok.ensures ∙ ap (λ (n : ℕ). made_body n table) c.active_disk.ensures;
        epoch = did.exchanged.epoch;
        copies = did.exchanged.copies;
      };
      fits = may_fit table past mounted fold may c.requires.proper (subst AreBytes c.records.ensures c.are_bytes.ensures) (omega arith) did.low;
      room = λ place full. did.room place (full_before table past mounted fold may tuples c.in-Ok-start_of.ensures place full);
    }

pub returns-in-Ok-renew-clause-fits : goal.returns-in-Ok-renew-clause-fits
returns-in-Ok-renew-clause-fits g c =
    may_fit c.args.table.now c.args.past.now c.args.mounted c.args.fold c.requires.may c.requires.proper (subst AreBytes c.records.ensures c.are_bytes.ensures) (omega arith)

pub returns-in-Ok-renew-clause-any_moment : goal.returns-in-Ok-renew-clause-any_moment
returns-in-Ok-renew-clause-any_moment g c = λ bodies k.
    let table = c.args.table.now in
    let past = c.args.past.now in
    let mounted = c.args.mounted in
    let fold = c.args.fold in
    let old = disk_of (other_in fold) in
    let made = made_body (renewing.other_number table past mounted fold) table in
    let base = renewed_body table past (records_of mounted) in
    subst (λ d. LeavesOnly g.D.Disk.view old d (IsFolding bodies made base)) (sym (folded_is fold c.in-Ok-renew.fold (disk_of c.in-Ok-renew.journal) c.in-Ok-renew.ensures.exchanged.swapped))
    (same_run g.D.Disk.view old (disk_of c.in-Ok-renew.journal) bodies _ _ made base c.requires.may.made
    (folds_base table past mounted fold c.requires.may c.in-Ok-start_of.tuples.items c.in-Ok-start_of.ensures) (c.in-Ok-renew.ensures.any_moment bodies k))

pub returns-clause-refused : goal.returns-clause-refused
returns-clause-refused g c =
    let table = c.args.table.now in
    let past = c.args.past.now in
    let mounted = c.args.mounted in
    let fold = c.args.fold in
    refused_so table past mounted fold c.disk-other.result c.in-Err.fault c.mount_no.result c.mount_no.ensures
    (c.disk-other.ensures ∙ other_number (swapped_in fold) (mounted.copy + 1)) c.in-Err.ensures.fault
    (λ place is. full_then table past mounted fold c.requires.may c.in-Ok-start_of.tuples.items c.in-Ok-start_of.ensures place (c.in-Err.ensures.full place is))

pub returns-clause-fits : goal.returns-clause-fits
returns-clause-fits g c =
    may_fit c.args.table.now c.args.past.now c.args.mounted c.args.fold c.requires.may c.requires.proper (subst AreBytes c.records.ensures c.are_bytes.ensures) (omega arith)

pub returns-clause-any_moment : goal.returns-clause-any_moment
returns-clause-any_moment g c = λ bodies k.
    let table = c.args.table.now in
    let past = c.args.past.now in
    let mounted = c.args.mounted in
    let fold = c.args.fold in
    let old = disk_of (other_in fold) in
    let made = made_body (renewing.other_number table past mounted fold) table in
    let base = renewed_body table past (records_of mounted) in
    let disks = c.into_disks-disk.ensures in
    subst (λ d. LeavesOnly g.D.Disk.view old d (IsFolding bodies made base))
    (sym (ap₂ (λ a b. if swapped_in fold then a else b) disks.own disks.spare ∙ folded_back fold c.in-Err.fold c.into_disk.result c.in-Err.ensures.back.1.swapped))
    (same_run g.D.Disk.view old (disk_of (other_in c.in-Err.fold)) bodies _ _ made base c.requires.may.made
    (folds_base table past mounted fold c.requires.may c.in-Ok-start_of.tuples.items c.in-Ok-start_of.ensures) (c.in-Err.ensures.any_moment bodies k))
