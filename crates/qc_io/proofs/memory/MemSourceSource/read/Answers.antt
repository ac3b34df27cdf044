-- A list from a place on is read as a source must be.
use Rattle.std.proofs.Common.{arith}
use Rattle.qc_io.proofs.Streams.{reads_from}
use Rattle.qc_io.proofs.memory.MemSourceSource.read.Goals as goal

pub returns-clause-reads : goal.returns-clause-reads
returns-clause-reads c =
    reads_from c.deref.result.now c.args.self.now.bytes.items c.copy_front-count.new.into c.args.self.now.at c.copy_front-count.result c.deref.ensures.value (omega arith) (omega arith) c.copy_front-count.ensures.copied
