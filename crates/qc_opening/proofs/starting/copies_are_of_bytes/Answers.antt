-- One copy more.
use Rattle.std.proofs.Common.{subst}
use Rattle.std.specs.Prelude.{All}
use Rattle.std.proofs.lemmas.List.{take_all}
use Rattle.std.proofs.lemmas.List.Elements.{All-more}
use Rattle.qc_site.specs.Mounted.{records_of}
use Rattle.qc_system.specs.declared.parts.CopyPair.{CopyPair}
use Rattle.qc_site.specs.Image.{AreBytes}
use Rattle.qc_opening.proofs.starting.copies_are_of_bytes.Goals as goal

pub loop-copy-preserved : goal.loop-copy-preserved
loop-copy-preserved g c =
    let Fit : CopyPair g.row.D.Denot g.D.Disk → Type 0 = λ pair. AreBytes (records_of pair.copy) in
    let here : Fit c.copy-item.result = subst AreBytes c.records.ensures c.are_bytes.ensures in
    All-more Fit c.args.copies.now c.loop-copy.copy-index c.copy-item.result c.loop-copy-test.true c.loop-copy.invariant (subst Fit c.copy-item.is here)

pub returns : goal.returns
returns g c =
    let Fit : CopyPair g.row.D.Denot g.D.Disk → Type 0 = λ pair. AreBytes (records_of pair.copy) in
    subst (All Fit) (take_all c.loop-copy.copy-index c.args.copies.now c.loop-copy-test.false) c.loop-copy.invariant
