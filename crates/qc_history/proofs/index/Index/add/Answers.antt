use Rattle.std.proofs.Common.{◌≡◌, ◌+◌, ◌-◌, ◌<◌, take, ◌∷◌, length, sym, ap, ◌∙◌, subst, arith}
use Rattle.std.specs.Prelude.{None, Some}
use Rattle.qc_names.specs.Name as name
use Rattle.qc_event.specs.declared.event.Event.TheVariants as event
use Rattle.qc_event.proofs.LegalOrderly.{legal_orderly}
use Rattle.qc_history.specs.Places.{place}
use Rattle.qc_history.specs.Index.{Shape, IsIndexOf}
use Rattle.qc_history.proofs.Finding.{has_number}
use Rattle.qc_history.proofs.Pushing.{top_is_new, top_started, child_started, one_number, in_parts, front_shorter, parent_placed}
use Rattle.qc_history.proofs.index.Index.add.Goals as goal

pub returns-then-len-eq1-clause-ok : goal.returns-then-len-eq1-clause-ok
returns-then-len-eq1-clause-ok c = λ e kind is setting past was legal.
    let inside = c.self.inside in
    let view : Shape = record { tops = inside.tops.entries; spots = inside.nodes; count = inside.count } in
    let orderly = legal_orderly setting (e ∷ past) legal in
    let top = one_number c.args.name.now c.in-Some.number (sym c.number.ensures ∙ c.in-Some.is) (omega (arith, c.len.ensures.length, c.if-len-eq1.true)) in
    let starts = is ∙ ap (λ n. event.Start n kind) top in
    let here = subst (IsIndexOf past) (sym c.self.view_is) was in
    subst (λ spots. IsIndexOf (e ∷ past) (let s : Shape = record { tops = c.add_top.new.tops.entries; spots = spots; count = inside.count + 1 } in s)) (sym c.in_ok-add_top.ensures.added)
    (top_started e past c.in-Some.number kind view c.add_top.new.tops.entries starts orderly.0 orderly.1 here c.in_ok-add_top.ensures.top.0
    (c.in_ok-add_top.ensures.count (top_is_new e past c.in-Some.number kind view starts orderly.1 here)))

pub returns-in_default-place-clause-ok : goal.returns-in_default-place-clause-ok
returns-in_default-place-clause-ok c = λ e kind is setting past was legal.
    let orderly = legal_orderly setting (e ∷ past) legal in
    let n = c.args.name.now in
    let long : 1 < length n = omega (arith, c.len.ensures.length, c.if-len-eq1.false, has_number n c.in-Some.number (sym c.number.ensures ∙ c.in-Some.is)) in
    let none : place past (name.front n) ≡ None = ap (λ l. place past (take (l - 1) n)) (sym c.len-2.ensures.length) ∙ ap (place past) (sym c.ancestor.ensures) ∙ sym (c.place.ensures.place setting past was legal.0) ∙ c.in_default-place.is in
    absurd (parent_placed e past n kind orderly.0 orderly.1 is long none)

pub returns-clause-ok : goal.returns-clause-ok
returns-clause-ok c = λ e kind is setting past was legal.
    let inside = c.self.inside in
    let n = c.args.name.now in
    let view : Shape = record { tops = inside.tops.entries; spots = inside.nodes; count = inside.count } in
    let orderly = legal_orderly setting (e ∷ past) legal in
    let long : 1 < length n = omega (arith, c.len.ensures.length, c.if-len-eq1.false, has_number n c.in-Some.number (sym c.number.ensures ∙ c.in-Some.is)) in
    let parts = in_parts n long in
    let here : place past (name.front n) ≡ Some c.in-Some-place.parent = ap (λ l. place past (take (l - 1) n)) (sym c.len-2.ensures.length) ∙ ap (place past) (sym c.ancestor.ensures) ∙ sym (c.place.ensures.place setting past was legal.0) ∙ c.in-Some-place.is in
    subst (λ spots. IsIndexOf (e ∷ past) (let s : Shape = record { tops = inside.tops.entries; spots = spots; count = inside.count + 1 } in s)) (sym c.in_ok-add_child.ensures.added)
    (child_started e past (name.front n) parts.0 kind view c.in-Some-place.parent (is ∙ ap (λ m. event.Start m kind) parts.1) (front_shorter n long) orderly.0 orderly.1 (subst (IsIndexOf past) (sym c.self.view_is) was) here)
