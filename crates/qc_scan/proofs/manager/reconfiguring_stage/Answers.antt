use Rattle.std.proofs.Common.{◌+◌, true, [], ◌∷◌, sym, ap, ap₂, ◌∙◌}
use Rattle.std.specs.Prelude.{find}
use Rattle.std.specs.Option.{option_or}
use Rattle.std.proofs.lemmas.List.Folds.{find-append}
use Rattle.qc_config.specs.declared.tuple.Op.TheVariants.{PutData, PutConfig}
use Rattle.qc_event.specs.declared.event.Phase.TheVariants.{Values, Configs}
use Rattle.qc_event.specs.Manager.{Greatest, Newest, Stage, is_enough}
use Rattle.qc_scan.proofs.Stages.{short}
use Rattle.qc_scan.proofs.manager.reconfiguring_stage.Goals as goal

pub returns : goal.returns
returns g c =
    let values = λ (g : Greatest). let s : Stage = record { phase = Values; config = c.args.config.now; op = PutData g.version g.value; writes = true } in s in
    let configs = λ (n : Newest). let s : Stage = record { phase = Configs; config = n.config; op = PutConfig (n.generation + 1) c.args.config.now; writes = true } in s in
    let a = short (is_enough (g.H.Looks.past c.args.h.now) c.args.m.now) in
    c.or.ensures
    ∙ ap₂ option_or c.if_short.ensures c.if_short-2.ensures
    ∙ sym (find-append a (c.writing-values.result ∷ []) (c.writing-configs.result ∷ []))
    ∙ ap (find a) (ap₂ (λ (x y : Stage). x ∷ y ∷ []) (c.writing-values.ensures ∙ ap values c.found.view_is) (c.writing-configs.ensures ∙ ap configs c.now.view_is))
