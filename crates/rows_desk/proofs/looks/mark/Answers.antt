use Rattle.qc_event.specs.declared.event.Event.TheVariants as event
use Rattle.qc_desk.specs.Refusing.{against_nothing}
use Rattle.qc_desk.proofs.AskedTops.{entered_later, on_ok}
use Rattle.rows_desk.proofs.Children.{still_top}
use Rattle.rows_desk.proofs.looks.mark.Goals as goal

pub returns-clause-top : goal.returns-clause-top
returns-clause-top g c =
    on_ok c.mark.result _ _ (λ entered. still_top c.args.pass.now.seen c.mark.new.pass.seen c.args.top.now
    (entered_later against_nothing (event.Mark c.args.top.now 3) c.args.pass.now c.mark.new.pass entered) c.requires.top)
    c.mark.ensures.ok
