use Rattle.std.proofs.Common.{arith, subst}
use Rattle.std.specs.List.{All}
use Rattle.std.proofs.lemmas.List.{take_all}
use Rattle.std.proofs.lemmas.List.Elements.{All-more}
use Rattle.qc_codec.proofs.Fits.{value_fits}
use Rattle.qc_event.specs.Tables.{setting_of}
use Rattle.qc_site.proofs.HeldFits.{IsTupleInRange, held_all_fit}
use Rattle.qc_site.proofs.fits.held_to_fit.Goals as goal

pub loop-tuple-preserved : goal.loop-tuple-preserved
loop-tuple-preserved g c =
    let t = c.tuple-item.result in
    All-more IsTupleInRange c.args.held.now c.loop-tuple.tuple-index t c.loop-tuple-test.true c.loop-tuple.invariant
    (subst IsTupleInRange c.tuple-item.is (record {
      version = omega arith;
      value = value_fits t.value c.as_number-value.ensures.possible;
      generation = omega arith;
      config = record { votes = c.config_in_range.ensures.votes; read = c.config_in_range.ensures.read; write = c.config_in_range.ensures.write };
    }))

pub returns : goal.returns
returns g c = record {
  fits = held_all_fit (setting_of g.N.Store.table g.N.Store.base) c.args.pass.now.seen c.requires.proper c.requires.legal c.args.copy c.args.held.now c.requires.held
      (subst (All IsTupleInRange) (take_all c.loop-tuple.tuple-index c.args.held.now c.loop-tuple-test.false) c.loop-tuple.invariant);
}
