-- What the second body is, read by the table.
use Rattle.std.proofs.Common.{◌<◌, ◌∙◌, List, ℕ, length, refl, sym, ap, ap₂, subst, arith}
use Rattle.qc_codec.specs.Bodies as body
use Rattle.qc_codec.specs.Fields.{layout}
use Rattle.qc_codec.specs.Form.{all_of}
use Rattle.qc_journal.specs.Image.{bodies_of}
use Rattle.qc_site.specs.Reading.{IsLaterBad}
use Rattle.qc_site.specs.Refusing.{IsOfBytes}
use Rattle.qc_site.proofs.Rests.{second_bad}
use Rattle.qc_site.proofs.Rows.{base_sized}
use Rattle.qc_site.proofs.reading.read_second.Goals as goal

pub returns-in-Ok-clause-sized : goal.returns-in-Ok-clause-sized
returns-in-Ok-clause-sized c = base_sized (layout c.args.table.now.copies c.args.format) (length c.as_slice.result.now) c.in-Ok.base c.in-Ok.ensures.found.1 ∙ ap length c.as_slice.ensures

pub returns-in-Ok-2-clause-fault : goal.returns-in-Ok-2-clause-fault
returns-in-Ok-2-clause-fault c =
    let disk = c.args.who in
    let table = c.args.table.now in
    let past = c.args.past.now in
    let bodies = c.args.bodies.now in
    let read =
    ap₂ (λ (n : ℕ) (bytes : List ℕ). all_of (body.base (layout table.copies c.args.format) n) bytes) (sym (ap length c.as_slice.ensures)) (sym c.as_slice-2.ensures.value) ∙ c.in-Ok.ensures.exact in
    let within : 1 < length bodies = omega (arith, c.if-bodies-lt2.false) in
    subst (IsOfBytes disk (IsLaterBad disk table past (bodies_of bodies))) (sym c.image_no.ensures)
    (refl, second_bad disk table past c.args.format bodies c.index-bodies-1.result within c.index-bodies-1.is c.requires.made c.in-Ok.base read (λ old. omega (arith, old, c.if-read_base-past.false)))
