use Rattle.std.proofs.Common.{length, ◌≤◌, ◌^◌, Err, ap, inl, inr, subst, arith}
use Rattle.qc_run.specs.Audit.{IsMalformed}
use Rattle.qc_run.proofs.auditing.over.Goals as goal

pub returns-in-Err-Malformed : goal.returns-in-Err-Malformed
returns-in-Err-Malformed g c =
    let few : length c.args.bytes.items ≤ 2 ^ 24 = omega (arith, c.len.ensures, c.if-len-gt-MOST_SAVED.false) in
    inl (record {
      none = inr (few, subst IsMalformed c.as_slice.ensures.value (c.in-Err-Malformed.ensures.malformed (ap Err c.in-Err-Malformed.field-0-is)));
      answered = c.tell-in-Err-Malformed.ensures.answer;
      wrote = c.tell-in-Err-Malformed.ensures.wrote;
    })
