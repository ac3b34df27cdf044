-- What the bodies so far tell, which are in order.
use Rattle.std.proofs.Common.{◌≡◌, ◌≤◌, take}
use Rattle.qc_codec.specs.Base.{base_in, copy_base}
use Rattle.qc_codec.specs.Copy.{grant_in, AreInOrder}
use Rattle.qc_codec.specs.Ledger.{readings}
use Rattle.qc_journal.specs.Image.{bodies_of}
use Rattle.qc_site.specs.Granted.{HasAccesses, given_by}
use Rattle.qc_site.proofs.reading.read_rest.Given as goal

abbrev pub invariant-loop-index : goal.invariant-loop-index
invariant-loop-index l = record {
  told : given_by l.granted ≡ readings (grant_in l.format l.table) (bodies_of (take l.index l.bodies));
  order : AreInOrder l.who l.table l.past (bodies_of (take l.index l.bodies));
  based : base_in copy_base (bodies_of (take l.index l.bodies)) ≡ l.base;
  begun : 1 ≤ l.index;
  accesses : HasAccesses l.granted;
}
