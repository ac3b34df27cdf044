-- A base of numbers in range fits its form.
use Rattle.std.proofs.Common.{ℕ, ◌<◌, ◌≤◌, ◌^◌, ◌≡◌, true, length, refl, arith}
use Rattle.std.specs.Prelude.{nat_lt}
use Rattle.std.specs.List.{All}
use Rattle.std.proofs.lemmas.Bool.{and_from, le-leb, lt-ltb}
use Rattle.qc_codec.specs.Bodies as body
use Rattle.qc_codec.specs.Fields.{current, long, tuple, word}
use Rattle.qc_codec.specs.declared.record.BaseRecord.{BaseRecord}

pub base_fits : (copies : ℕ) (b : BaseRecord) → 0 < b.number → b.number ≤ 2 ^ 63 → b.epoch < 2 ^ 32 → All (tuple (current copies)).fits b.tuples
    → (body.base (current copies) (length b.tuples)).fits b
unfolding body.base body.folded word long
base_fits copies b some last small fit =
    let is_fold : body.is_fold b.number ≡ true = and_from (nat_lt 0 b.number) _ (lt-ltb 0 b.number some) (le-leb b.number (2 ^ 63) last) in
    (((omega (arith, last), is_fold), ((small, refl), (refl, fit))), tt)
