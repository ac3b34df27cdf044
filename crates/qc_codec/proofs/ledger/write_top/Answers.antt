use Rattle.std.proofs.Common.{◌++◌, List, ℕ, ap, ◌∙◌, sym}
use Rattle.std.specs.Prelude.{slice_index}
use Rattle.qc_codec.specs.Bodies.{top}
use Rattle.qc_codec.proofs.Fits.{top_alone}
use Rattle.qc_codec.proofs.ledger.write_top.Goals as goal

pub put_top-requires-clause-fits : goal.put_top-requires-clause-fits
put_top-requires-clause-fits c = (top_alone c.args.top.now c.args.aborted.now c.requires.proper).fits

pub put_top-requires-clause-some : goal.put_top-requires-clause-some
put_top-requires-clause-some c = (top_alone c.args.top.now c.args.aborted.now c.requires.proper).some

pub returns : goal.returns
returns c = (
  c.in_ok-put_top.ensures
      ∙ ap (λ (front : List ℕ). front ++ top.spell (slice_index c.args.top.now 0, c.args.aborted.now)) c.in_ok-out.ensures.items
      ∙ sym (top_alone c.args.top.now c.args.aborted.now c.requires.proper).spelled,
  c.requires.proper,
)
