use Rattle.std.proofs.Common.{ap, subst}
use Rattle.qc_codec.specs.Bodies as body
use Rattle.qc_codec.specs.Gives.{Spells}
use Rattle.qc_codec.specs.Ledger.{made_in}
use Rattle.qc_codec.specs.declared.record.Made.{Made}
use Rattle.qc_audit.proofs.Parts.{one_made}
use Rattle.qc_audit.proofs.reading.ledger_made.Goals as goal

pub returns-then-made-ne-LEDGER_DISK-clause-bad : goal.returns-then-made-ne-LEDGER_DISK-clause-bad
returns-then-made-ne-LEDGER_DISK-clause-bad c = λ is format table spells.
    absurd (c.if-made-ne-LEDGER_DISK.true (ap (λ (m : Made). m.who) (one_made c.args.bytes.now c.in_ok-made.made (made_in format 0 table) c.in_ok-made.ensures.found spells)))

pub returns-clause-found : goal.returns-clause-found
returns-clause-found c =
    let m = c.in_ok-made.made in
    subst (λ n. Spells body.made c.args.bytes.now (record { format = m.format; who = n; table = m.table })) c.if-made-ne-LEDGER_DISK.false c.in_ok-made.ensures.found
