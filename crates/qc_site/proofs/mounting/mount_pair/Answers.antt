-- What was found in the current format is mounted, and what was found in an older one is folded first.
use Rattle.std.proofs.Common.{◌≡◌, arith, subst}
use Rattle.std.proofs.lemmas.Result.{IfErr-weaker, IfOk-weaker}
use Rattle.qc_codec.proofs.Fits.{made_proper}
use Rattle.qc_site.specs.Image.{AreBytes}
use Rattle.qc_site.specs.Mounted.{records_of}
use Rattle.qc_site.specs.Pairs.{IsCopyPairNo, MountsCopyPair}
use Rattle.qc_site.specs.Renewal.{restored_in}
use Rattle.qc_site.specs.Renewing.{IsNotRenewed, Renews}
use Rattle.qc_site.specs.Start.{start_of}
use Rattle.qc_site.proofs.Faults.{few_copies}
use Rattle.qc_site.proofs.PairRenewals.{found_now, found_older}
use Rattle.qc_site.proofs.RenewedHalves.{own_half, refused_pair, spare_half}
use Rattle.qc_site.proofs.RenewedPair.{renewed_mounts, renewed_start}
use Rattle.qc_site.proofs.mounting.mount_pair.Goals as goal

pub returns-then-format-eq-FORMAT-clause-mounts : goal.returns-then-format-eq-FORMAT-clause-mounts
returns-then-format-eq-FORMAT-clause-mounts g c =
    found_now c.args.copy c.args.table.now (g.D.Disk.view c.args.disk).content (g.D.Disk.view c.args.spare).content c.args.past.now c.args.limit c.in_ok-mounted.format c.in_ok-mounted.mounted c.in_ok-mounted.fold c.in_ok-mounted.ensures.finds
    c.if-format-eq-FORMAT.true

pub returns-clause-mounts : goal.returns-clause-mounts
returns-clause-mounts g c =
    let told = c.in_ok-mounted.ensures in
    let m = c.in_ok-mounted.mounted in
    let f = c.in_ok-mounted.fold in
    let table = c.args.table.now in
    let past = c.args.past.now in
    let older = found_older _ table past c.args.limit c.in_ok-mounted.format _ _ told.finds.mounts (subst AreBytes c.records.ensures c.are_bytes.ensures) (λ is. omega (arith, c.if-format-eq-FORMAT.false, is)) in
    IfOk-weaker c.renew.result (λ x. Renews table past m f x.0 x.1) (λ x. MountsCopyPair c.args.copy table past c.args.limit (g.D.Disk.view c.args.disk).content (g.D.Disk.view c.args.spare).content x.0 x.1)
    (λ x renews. renewed_mounts c.args.copy table past c.args.limit c.in_ok-mounted.format (g.D.Disk.view c.args.disk).content (g.D.Disk.view c.args.spare).content m f told.finds older told.copy.0 x.0 x.1 renews
    (λ disk low. made_proper disk table low c.requires.proper) (omega (arith, c.requires.copy, few_copies table c.requires.proper)) g.met.D.Disk.reads_as_image told.fold.limit_is)
    c.renew.ensures.renews

pub returns-clause-start : goal.returns-clause-start
returns-clause-start g c =
    let told = c.in_ok-mounted.ensures in
    let m = c.in_ok-mounted.mounted in
    let f = c.in_ok-mounted.fold in
    let table = c.args.table.now in
    let past = c.args.past.now in
    let older = found_older _ table past c.args.limit c.in_ok-mounted.format _ _ told.finds.mounts (subst AreBytes c.records.ensures c.are_bytes.ensures) (λ is. omega (arith, c.if-format-eq-FORMAT.false, is)) in
    IfOk-weaker c.renew.result (λ x. Renews table past m f x.0 x.1) (λ x. start_of x.0 ≡ restored_in past.tops table (records_of x.0))
    (λ x renews. renewed_start c.args.copy table past c.args.limit c.in_ok-mounted.format (g.D.Disk.view c.args.disk).content (g.D.Disk.view c.args.spare).content m f told.finds older told.copy.0 x.0 x.1 renews
    (λ disk low. made_proper disk table low c.requires.proper) (omega (arith, c.requires.copy, few_copies table c.requires.proper)) g.met.D.Disk.reads_as_image told.start)
    c.renew.ensures.renews

pub returns-clause-refused : goal.returns-clause-refused
returns-clause-refused g c =
    let told = c.in_ok-mounted.ensures in
    let m = c.in_ok-mounted.mounted in
    let f = c.in_ok-mounted.fold in
    let table = c.args.table.now in
    let past = c.args.past.now in
    let did = c.renew.ensures in
    let older = found_older _ table past c.args.limit c.in_ok-mounted.format _ _ told.finds.mounts (subst AreBytes c.records.ensures c.are_bytes.ensures) (λ is. omega (arith, c.if-format-eq-FORMAT.false, is)) in
    IfErr-weaker c.renew.result (λ x. IsNotRenewed table past m f x.2) (λ x. IsCopyPairNo c.args.copy table past c.args.limit (g.D.Disk.view c.args.disk).content (g.D.Disk.view c.args.spare).content x.2)
    (λ x is. refused_pair c.args.copy table past c.args.limit c.in_ok-mounted.format c.args.disk c.args.spare m f told.finds older told.copy.0 c.renew.result did.active did.last did.fits did.any_moment did.cause did.counts_once did.refused told.fold.limit_is x.2 is)
    did.refused

pub returns-clause-own : goal.returns-clause-own
returns-clause-own g c =
    let told = c.in_ok-mounted.ensures in
    let m = c.in_ok-mounted.mounted in
    let f = c.in_ok-mounted.fold in
    let table = c.args.table.now in
    let past = c.args.past.now in
    let did = c.renew.ensures in
    let older = found_older _ table past c.args.limit c.in_ok-mounted.format _ _ told.finds.mounts (subst AreBytes c.records.ensures c.are_bytes.ensures) (λ is. omega (arith, c.if-format-eq-FORMAT.false, is)) in
    own_half c.args.copy table past c.args.limit c.in_ok-mounted.format c.args.disk c.args.spare m f told.finds older told.copy.0 c.renew.result did.active did.last did.fits did.any_moment did.cause did.counts_once did.refused told.own

pub returns-clause-spare : goal.returns-clause-spare
returns-clause-spare g c =
    let told = c.in_ok-mounted.ensures in
    let m = c.in_ok-mounted.mounted in
    let f = c.in_ok-mounted.fold in
    let table = c.args.table.now in
    let past = c.args.past.now in
    let did = c.renew.ensures in
    let older = found_older _ table past c.args.limit c.in_ok-mounted.format _ _ told.finds.mounts (subst AreBytes c.records.ensures c.are_bytes.ensures) (λ is. omega (arith, c.if-format-eq-FORMAT.false, is)) in
    spare_half c.args.copy table past c.args.limit c.in_ok-mounted.format c.args.disk c.args.spare m f told.finds older told.copy.0 c.renew.result did.active did.last did.fits did.any_moment did.cause did.counts_once did.refused told.spare
