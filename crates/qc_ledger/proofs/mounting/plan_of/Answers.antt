-- What is written is made for the table.
use Rattle.std.proofs.Common.{arith, ap, sym, subst, ◌∙◌}
use Rattle.qc_codec.specs.Bodies as body
use Rattle.qc_codec.specs.declared.record.Made.{Made}
use Rattle.qc_journal.specs.Image.{bodies_of}
use Rattle.qc_ledger.specs.Image.{IsLedgerFault, made_body}
use Rattle.qc_ledger.specs.Refusing.{IsOfBytes}
use Rattle.qc_codec.proofs.Fits.{made_proper}
use Rattle.qc_ledger.proofs.Firsts.{handed_on}
use Rattle.qc_ledger.proofs.Writing.{epoch_fits}
use Rattle.qc_ledger.proofs.mounting.plan_of.Goals as goal

pub past_of-requires-clause-fits : goal.past_of-requires-clause-fits
past_of-requires-clause-fits c = subst body.made.fits (sym c.in_ok-made.ensures.made) (made_proper c.args.who c.args.table.now (omega arith) c.requires.proper)

pub past_of-requires-clause-spelled : goal.past_of-requires-clause-spelled
past_of-requires-clause-spelled c = c.deref.ensures.value ∙ c.in_ok-made.ensures.body ∙ ap (λ (m : Made). made_body m.who m.table) (sym c.in_ok-made.ensures.made)

pub returns-in_err-past-clause-fault : goal.returns-in_err-past-clause-fault
returns-in_err-past-clause-fault c = λ limit.
    let Has = λ (m : Made). IsLedgerFault m.who m.table limit (bodies_of c.args.bodies.now) in
    let own = IsLedgerFault c.args.who c.args.table.now limit (bodies_of c.args.bodies.now) in
    handed_on c.args.who c.from_residual-in_err-past.result c.in_err-past.field-0.0 own own (λ f is. is) c.from_residual-in_err-past.ensures.1
    (subst (λ (m : Made). IsOfBytes m.who (Has m) c.in_err-past.field-0.0) c.in_ok-made.ensures.made (c.in_err-past.ensures.fault limit))

pub write_ledger-requires : goal.write_ledger-requires
write_ledger-requires c = record { proper = epoch_fits c.in_ok-past.past.epoch c.in_ok-past.ensures.epoch; current = tt }
