use Rattle.std.proofs.Common.{◌+◌, ◌∷◌, sym, ◌∙◌, subst}
use Rattle.qc_event.proofs.Orderly.{KeepsOrder, BecomesReady}
use Rattle.qc_event.proofs.LegalOrderly.{legal_orderly}
use Rattle.qc_history.specs.declared.index.Index.TheInside.{Inside}
use Rattle.qc_history.specs.Index.{Shape, IsIndexOf}
use Rattle.qc_history.proofs.Pushing.{ready_now, has_place}
use Rattle.qc_history.proofs.index.Index.make_ready.Goals as goal
use Rattle.qc_history.proofs.index.Index.make_ready.Goals.{in-Some, in_default}

pub returns-clause-index : goal.returns-clause-index
returns-clause-index c = λ e is setting past was legal.
    let orderly = legal_orderly setting (e ∷ past) legal in
    let inside = c.self.inside in
    let view : Shape = record { tops = inside.tops.entries; spots = inside.nodes; count = inside.count } in
    elim c.match-place.branch [
      | in-Some w ↦
          let here = sym (c.place.ensures.place setting past was legal.0) ∙ w.in-Some.is in
          subst (λ (x : Inside). IsIndexOf (e ∷ past) (let s : Shape = record { tops = x.tops.entries; spots = x.nodes; count = x.count + 1 } in s)) (sym w.self-inside-is)
          (subst (λ spots. IsIndexOf (e ∷ past) (let s : Shape = record { tops = inside.tops.entries; spots = spots; count = inside.count + 1 } in s)) (sym (w.set_ready.ensures))
          (ready_now e past c.args.top.now view w.in-Some.at is orderly.1 (subst (IsIndexOf past) (sym c.self.view_is) was) here))
      | in_default w ↦ absurd (has_place past c.args.top.now (let may : BecomesReady past c.args.top.now = subst (KeepsOrder past) is orderly.1 in may.is_open.started) (sym (c.place.ensures.place setting past was legal.0) ∙ w.in_default.is))
    ]
