use Rattle.std.proofs.Common.{[], subst, inr}
use Rattle.qc_script.specs.Plan.{ScriptPlan}
use Rattle.qc_run.specs.Left.{IsAnswer}
use Rattle.qc_run.specs.declared.finishing.Form.TheVariants.{Summary}
use Rattle.qc_run.proofs.making.make.Goals as goal

pub returns-in-Ok-clause-answer : goal.returns-in-Ok-clause-answer
returns-in-Ok-clause-answer g c =
    let shop = g.H.Shop.view c.args.shop.now in
    inr (subst (λ (s : ScriptPlan). IsAnswer g.H.D.Disk.view s shop [] Summary (g.H.Shop.view c.perform.new.shop) (g.K.Sink.view c.args.sink.now) (g.K.Sink.view c.perform.new.sink) c.perform.result) c.in-Ok.ensures.made c.perform.ensures.answer)
