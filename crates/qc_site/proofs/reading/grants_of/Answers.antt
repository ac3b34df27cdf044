-- What is wrong with the first body is the first fault of all.
use Rattle.std.proofs.Common.{◌∷◌, ◌∙◌, ap, sym, length, drop, List, ℕ}
use Rattle.qc_journal.specs.Image.{bodies_of}
use Rattle.qc_event.proofs.Numbers.{nonzero}
use Rattle.qc_ledger.proofs.Firsts.{with_first}
use Rattle.qc_site.specs.Image.{IsCopyFault}
use Rattle.qc_site.specs.Reading.{IsFirstBad}
use Rattle.qc_codec.proofs.Fits.{table_sized}
use Rattle.qc_codec.specs.Fields.{current_format}
use Rattle.qc_site.proofs.Faults.{first_fault, handed_on}
use Rattle.qc_site.proofs.Rests.{format_told}
use Rattle.qc_site.proofs.reading.grants_of.Goals as goal

pub returns-in_err-format-clause-fault : goal.returns-in_err-format-clause-fault
returns-in_err-format-clause-fault c = λ limit.
    let disk = c.args.who in
    let table = c.args.table.now in
    let past = c.args.past.now in
    let bodies = c.args.bodies.now in
    let v = c.index-bodies-0.result in
    handed_on disk c.from_residual.result c.in_err-format.field-0.0 (IsFirstBad disk table past c.as_slice.result.now) (IsCopyFault disk table past limit (bodies_of bodies))
    (first_fault disk table past limit c.as_slice.result.now (bodies_of bodies) (bodies_of (drop 1 bodies)) (with_first bodies v (nonzero (length bodies) (sym c.is_empty.ensures ∙ c.if-is_empty.false)) c.index-bodies-0.is ∙ ap (λ (b : List ℕ). b ∷ bodies_of (drop 1 bodies)) (sym c.as_slice.ensures.value)))
    c.from_residual.ensures.1 (c.in_err-format.ensures.fault past)

-- the made record tells the format
pub read_rest-requires-clause-format : goal.read_rest-requires-clause-format
read_rest-requires-clause-format c =
    let bodies = c.args.bodies.now in
    let v = c.index-bodies-0.result in
    let some = nonzero (length bodies) (sym c.is_empty.ensures ∙ c.if-is_empty.false) in
    format_told c.args.who c.args.table.now c.in_ok-format.format (bodies_of bodies) v.items c.as_slice.result.now (bodies_of (drop 1 bodies))
    (with_first bodies v some c.index-bodies-0.is) c.as_slice.ensures.value c.in_ok-format.ensures.made

pub returns-clause-format : goal.returns-clause-format
returns-clause-format c =
    let bodies = c.args.bodies.now in
    let v = c.index-bodies-0.result in
    let some = nonzero (length bodies) (sym c.is_empty.ensures ∙ c.if-is_empty.false) in
    format_told c.args.who c.args.table.now c.in_ok-format.format (bodies_of bodies) v.items c.as_slice.result.now (bodies_of (drop 1 bodies))
    (with_first bodies v some c.index-bodies-0.is) c.as_slice.ensures.value c.in_ok-format.ensures.made

pub read_second-requires-clause-small : goal.read_second-requires-clause-small
read_second-requires-clause-small c = (table_sized current_format c.args.table.now c.requires.fits).records
