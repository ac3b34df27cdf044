-- A base has so many tuples.
use Rattle.std.proofs.Common.{◌≡◌, ℕ, length}
use Rattle.qc_codec.specs.Bodies as body
use Rattle.qc_codec.specs.Fields.{Layout}
use Rattle.qc_codec.specs.declared.record.BaseRecord.{BaseRecord}

pub base_sized : (layout : Layout) (records : ℕ) (b : BaseRecord) → (body.base layout records).fits b → length b.tuples ≡ records
unfolding body.base body.folded
base_sized layout records b fits = fits.0.1.1.0
