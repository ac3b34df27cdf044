use Rattle.std.proofs.Common.{inl, inr}
use Rattle.qc_run.proofs.Taken.{reads_script, unread}
use Rattle.qc_run.proofs.reading.read.Goals as goal

pub returns-in-Ok-clause-answer : goal.returns-in-Ok-clause-answer
returns-in-Ok-clause-answer g c =
    let before = g.S.Source.view c.args.source.now in
    let now = g.S.Source.view c.take_all.new.source in
    let taken = c.in-Ok.ensures.bytes in
    elim c.over.ensures.answer [
      | inl refused ↦ inl (refused.0, unread before now _ c.over.result.status taken refused.1, refused.2)
      | inr ran ↦ inr (ran.0, reads_script before.left now.left _ ran.0 taken c.in-Ok.ensures.left c.in-Ok.ensures.ended ran.1, ran.2)
    ]
