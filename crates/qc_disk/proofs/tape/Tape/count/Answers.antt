-- There are as many kinds as acts.
use Rattle.std.proofs.Common.{arith}
use Rattle.qc_disk.specs.Kept.{records_kept}
use Rattle.qc_disk.proofs.Kept.{acts_count, kept_count}
use Rattle.qc_disk.proofs.tape.Tape.count.Goals as goal

pub returns-clause-count : goal.returns-clause-count
returns-clause-count c =
    let tape = c.args.self.now in
    let records = tape.records in
    omega (arith, c.count.ensures.count, acts_count (records_kept records) tape.bytes.items, kept_count records.calls.items records.changes.items records.lost.items)
