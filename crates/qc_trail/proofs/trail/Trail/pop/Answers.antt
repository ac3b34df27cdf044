use Rattle.std.proofs.Common.{◌∙◌, ◌-◌, ℕ, ap, sym, List, length, take}
use Rattle.std.specs.Prelude.{map}
use Rattle.std.proofs.lemmas.List.{take-map, length-map}
use Rattle.qc_event.specs.declared.event.Entry.{Entry}
use Rattle.qc_trail.specs.Told.{told}
use Rattle.qc_trail.proofs.trail.Trail.pop.Goals as goal

pub returns : goal.returns
returns c =
    ap (map (told c.self.inside.lists)) c.drop_last.ensures
    ∙ sym (take-map (told c.self.inside.lists) (length c.self.inside.briefs.items - 1) c.self.inside.briefs.items)
    ∙ ap (λ (n : ℕ). take (n - 1) (map (told c.self.inside.lists) c.self.inside.briefs.items)) (sym (length-map c.self.inside.briefs.items (told c.self.inside.lists)))
    ∙ ap (λ (es : List Entry). take (length es - 1) es) c.self.view_is
