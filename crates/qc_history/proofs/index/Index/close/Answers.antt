use Rattle.std.proofs.Common.{◌+◌, ◌∷◌, sym, ap, ◌∙◌, subst}
use Rattle.qc_event.proofs.Lawful.{ends_open}
use Rattle.qc_event.proofs.LegalOrderly.{legal_orderly}
use Rattle.qc_history.specs.declared.index.Index.TheInside.{Inside}
use Rattle.qc_history.specs.Spots.{changed, with_end}
use Rattle.qc_history.specs.Index.{Shape, IsIndexOf}
use Rattle.qc_history.proofs.Pushing.{ended_now, has_place}
use Rattle.qc_history.proofs.index.Index.close.Goals as goal
use Rattle.qc_history.proofs.index.Index.close.Goals.{in-Some, in_default}

pub returns-clause-index : goal.returns-clause-index
returns-clause-index c = λ e how is same setting past was legal.
    let orderly = legal_orderly setting (e ∷ past) legal in
    let inside = c.self.inside in
    let view : Shape = record { tops = inside.tops.entries; spots = inside.nodes; count = inside.count } in
    elim c.match-place.branch [
      | in-Some w ↦
          let here = sym (c.place.ensures.place setting past was legal.0) ∙ w.in-Some.is in
          subst (λ (x : Inside). IsIndexOf (e ∷ past) (let s : Shape = record { tops = x.tops.entries; spots = x.nodes; count = x.count + 1 } in s)) (sym w.self-inside-is)
          (subst (λ spots. IsIndexOf (e ∷ past) (let s : Shape = record { tops = inside.tops.entries; spots = spots; count = inside.count + 1 } in s)) (sym (w.set_end.ensures ∙ ap (λ o. changed c.self.inside.nodes w.in-Some.at (with_end o c.self.inside.count)) same))
          (ended_now e past c.args.name.now how view w.in-Some.at is orderly.1 (subst (IsIndexOf past) (sym c.self.view_is) was) here))
      | in_default w ↦ absurd (has_place past c.args.name.now (ends_open past e c.args.name.now how is orderly.1).started (sym (c.place.ensures.place setting past was legal.0) ∙ w.in_default.is))
    ]
