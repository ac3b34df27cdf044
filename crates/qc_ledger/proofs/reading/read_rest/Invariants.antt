-- What the bodies so far tell, which are in order. The base of all is theirs.
use Rattle.std.proofs.Common.{◌≡◌, ◌≤◌, take}
use Rattle.qc_codec.specs.Base.{base_in, ledger_base}
use Rattle.qc_codec.specs.Ledger.{AreInOrder, past_in}
use Rattle.qc_journal.specs.Image.{bodies_of}
use Rattle.qc_ledger.specs.Seen.{HasNumbers, told_by}
use Rattle.qc_ledger.proofs.reading.read_rest.Given as goal

abbrev pub invariant-loop-index : goal.invariant-loop-index
invariant-loop-index l = record {
  told : told_by l.seen ≡ past_in (bodies_of (take l.index l.bodies));
  order : AreInOrder l.who (bodies_of (take l.index l.bodies));
  begun : 1 ≤ l.index;
  base : base_in ledger_base (bodies_of (take l.index l.bodies)) ≡ base_in ledger_base (bodies_of l.bodies);
  numbers : HasNumbers l.seen;
}
