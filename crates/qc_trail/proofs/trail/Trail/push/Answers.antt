use Rattle.std.proofs.Common.{◌∙◌, ap, ap₂, sym, subst, List, ◌∷◌, [], ◌++◌}
use Rattle.std.specs.Prelude.{map}
use Rattle.qc_event.specs.declared.event.Entry.{Entry}
use Rattle.qc_event.specs.declared.event.Event.{Event}
use Rattle.qc_trail.specs.Told.{AreWithin, told}
use Rattle.qc_trail.proofs.Growing.{all_told_later, one_told_more, one_within_more}
use Rattle.qc_trail.proofs.trail.Trail.push.Goals as goal

pub invariant_of-self-in-Ok : goal.invariant_of-self-in-Ok
invariant_of-self-in-Ok c =
    subst (AreWithin c.brief.new.self) (sym c.add.ensures)
    (one_within_more c.self.inside.lists c.brief.new.self c.in-Ok.ensures.grows c.make_room.new.items.items _ (subst (AreWithin c.self.inside.lists) (sym c.make_room.ensures.same) c.self.invariant) c.in-Ok.ensures.told.within)

pub returns-in-Ok-clause-ok : goal.returns-in-Ok-clause-ok
returns-in-Ok-clause-ok c =
    ap (map (told c.brief.new.self)) c.add.ensures
    ∙ one_told_more c.self.inside.lists c.brief.new.self c.in-Ok.ensures.grows c.make_room.new.items.items _ (subst (AreWithin c.self.inside.lists) (sym c.make_room.ensures.same) c.self.invariant)
    ∙ ap₂ (λ (xs : List Entry) (x : Entry). xs ++ x ∷ [])
    (ap (map (told c.self.inside.lists)) c.make_room.ensures.same ∙ c.self.view_is)
    (ap (λ (event : Event). record { seat = c.args.entry.now.seat; event = event }) c.in-Ok.ensures.told.is)

pub returns-in-Err-clause-err : goal.returns-in-Err-clause-err
returns-in-Err-clause-err c =
    ap (map (told c.brief.new.self)) c.make_room.ensures.same
    ∙ all_told_later c.self.inside.lists c.brief.new.self c.in-Err.ensures.grows c.self.inside.briefs.items c.self.invariant
    ∙ c.self.view_is
