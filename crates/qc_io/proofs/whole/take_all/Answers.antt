-- Where a read failed, what is gone came before it.
use Rattle.std.proofs.Common.{◌+◌, arith, length}
use Rattle.std.proofs.lemmas.Result.{err_from_is_err_and}
use Rattle.qc_io.proofs.Streams.{loses_more}
use Rattle.qc_io.proofs.whole.take_all.Goals as goal

pub returns-in_err-take_piece-clause-lost : goal.returns-in_err-take_piece-clause-lost
returns-in_err-take_piece-clause-lost g c =
    let p = err_from_is_err_and c.from_residual.result c.from_residual.ensures.1 in
    let lost = c.in_err-take_piece.ensures.lost in
    let most = lost.1 in
    let size = c.loop-bytes.bytes.ok.0 in
    rw (p.1) (length c.loop-bytes.bytes.items + lost.0, omega arith, loses_more _ _ _ c.loop-bytes.bytes.items lost.0 c.loop-bytes.invariant.bytes lost.2)
