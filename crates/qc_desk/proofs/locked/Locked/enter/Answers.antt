use Rattle.std.proofs.Common.{inl}
use Rattle.qc_desk.proofs.locked.Locked.enter.Goals as goal

pub returns-in-Some-clause-err : goal.returns-in-Some-clause-err
returns-in-Some-clause-err g c = (c.look.ensures.same, inl c.in-Some.is)
