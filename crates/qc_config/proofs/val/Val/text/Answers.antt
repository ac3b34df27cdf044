use Rattle.std.proofs.Common.{◌≤◌, ◌<◌, length, sym, subst, arith}
use Rattle.std.specs.List.{All}
use Rattle.std.proofs.lemmas.List.Elements.{All-from_get_or}
use Rattle.qc_config.specs.Padded.{filled_length, filled_rest, filled_front}
use Rattle.qc_config.proofs.val.Val.text.Goals as goal

pub invariant_of-result : goal.invariant_of-result
invariant_of-result c =
    let bytes = c.args.bytes.now in
    let short : length bytes ≤ 1024 = omega arith in
    let each : All (λ b. b < 256) bytes = All-from_get_or (λ b. b < 256) bytes 0 (λ k lt. omega (arith, c.type_inv.bytes k)) in
    rw c.copy_from_slice.ensures.after (short, filled_length 1024 bytes short, filled_rest 1024 bytes, subst (All (λ b. b < 256)) (sym (filled_front 1024 bytes)) each)
