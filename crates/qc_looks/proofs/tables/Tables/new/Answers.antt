use Rattle.std.proofs.Common.{[], sym, ap, arith, subst}
use Rattle.std.specs.Prelude.{slice_index_or}
use Rattle.qc_moss.specs.Follows.{TableFollows}
use Rattle.qc_moss.specs.Locks.{Table}
use Rattle.qc_moss.proofs.Tables.{starts}
use Rattle.qc_looks.proofs.tables.Tables.new.Goals as goal

pub returns : goal.returns
returns c =
    let over = c.loop-copy-test.false in
    let within = c.loop-copy.auto.copy-end in
    record {
      as_many = omega (arith, c.loop-copy.invariant.as_many, over, within, c.copies-copy-end.ensures);
      each = λ copy table at.
          let fresh = c.loop-copy.invariant.each copy table at in
          record {
            start = ap (λ (t : Table). t.start) fresh;
            follows = subst (TableFollows [] []) (sym fresh) (starts [] (slice_index_or c.args.base.now copy []));
          };
    }
