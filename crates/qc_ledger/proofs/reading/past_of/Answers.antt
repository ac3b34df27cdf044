-- What is wrong with the first body is the first fault of all, and the made record's copies are at most 16.
use Rattle.std.proofs.Common.{◌∷◌, ◌∙◌, ap, sym, length, drop}
use Rattle.qc_journal.specs.Image.{bodies_of}
use Rattle.qc_ledger.specs.Image.{IsLedgerFault}
use Rattle.qc_ledger.specs.Reading.{IsFirstBad}
use Rattle.qc_codec.proofs.Fits.{made_sized}
use Rattle.qc_ledger.proofs.Firsts.{first_fault, handed_on, with_first}
use Rattle.qc_event.proofs.Numbers.{nonzero}
use Rattle.qc_ledger.proofs.reading.past_of.Goals as goal

pub returns-in_err-format-clause-fault : goal.returns-in_err-format-clause-fault
returns-in_err-format-clause-fault c = λ limit.
    let bodies = c.args.bodies.now in
    let v = c.index-bodies-0.result in
    handed_on c.args.made.who c.from_residual.result c.in_err-format.field-0.0 (IsFirstBad c.args.made.who c.args.made.table c.as_slice.result.now) (IsLedgerFault c.args.made.who c.args.made.table limit (bodies_of bodies))
    (first_fault c.args.made.who c.args.made.table limit c.as_slice.result.now (bodies_of bodies) (bodies_of (drop 1 bodies)) (with_first bodies v (nonzero (length bodies) (sym c.is_empty.ensures ∙ c.if-is_empty.false)) c.index-bodies-0.is ∙ ap (λ b. b ∷ bodies_of (drop 1 bodies)) (sym c.as_slice.ensures.value)))
    c.from_residual.ensures.1 c.in_err-format.ensures.fault

pub read_rest-requires-clause-few : goal.read_rest-requires-clause-few
read_rest-requires-clause-few c = (made_sized c.args.made c.requires.fits).copies
