use Rattle.std.proofs.Common.{◌+◌, ◌∷◌, ◌++◌, [], length, arith, sym, ap, ◌∙◌, subst}
use Rattle.qc_event.specs.History.{children}
use Rattle.qc_event.specs.Legal.{Allowed}
use Rattle.qc_event.specs.Tables.{setting_of}
use Rattle.qc_event.specs.declared.event.Event.TheVariants as event
use Rattle.qc_desk.specs.Entries.{entry}
use Rattle.qc_desk.specs.Refusing.{against_child}
use Rattle.qc_desk.proofs.Calls.{client, after_look}
use Rattle.qc_desk.proofs.Entering.{IsParent, is_parent, child_allowed, next_child}
use Rattle.qc_desk.proofs.desk.Desk.start.Goals as goal

pub children-number-requires : goal.children-number-requires
children-number-requires g c =
    let setting = setting_of g.N.Store.table g.N.Store.base in
    let l = c.look.ensures in
    let s = l.since c.requires.client.0 in
    let p : IsParent c.deref_mut.result.now c.args.parent.now = is_parent setting c.args.pass.now.number c.args.pass.now.seen c.deref_mut.result.now c.args.parent.now c.args.kind (l.history.legal) (s.0, s.1) c.requires.stands in
    p.below_a_top

pub overflow_add-number : goal.overflow_add-number
overflow_add-number g c =
    let setting = setting_of g.N.Store.table g.N.Store.base in
    let l = c.look.ensures in
    let s = l.since c.requires.client.0 in
    let p : IsParent c.deref_mut.result.now c.args.parent.now = is_parent setting c.args.pass.now.number c.args.pass.now.seen c.deref_mut.result.now c.args.parent.now c.args.kind (l.history.legal) (s.0, s.1) c.requires.stands in
    let few = p.few in
    omega (arith, few, c.children-number.ensures, ap (λ h. length (children h c.args.parent.now)) (c.deref-2.ensures ∙ l.same.0), l.history.bounded)

pub overflow_cast-number : goal.overflow_cast-number
overflow_cast-number g c =
    let setting = setting_of g.N.Store.table g.N.Store.base in
    let l = c.look.ensures in
    let s = l.since c.requires.client.0 in
    let p : IsParent c.deref_mut.result.now c.args.parent.now = is_parent setting c.args.pass.now.number c.args.pass.now.seen c.deref_mut.result.now c.args.parent.now c.args.kind (l.history.legal) (s.0, s.1) c.requires.stands in
    let few = p.few in
    omega (arith, few, c.children-number.ensures, ap (λ h. length (children h c.args.parent.now)) (c.deref-2.ensures ∙ l.same.0), l.history.bounded)

pub child-name-requires-clause-below_a_top : goal.child-name-requires-clause-below_a_top
child-name-requires-clause-below_a_top g c =
    let setting = setting_of g.N.Store.table g.N.Store.base in
    let l = c.look.ensures in
    let s = l.since c.requires.client.0 in
    let p : IsParent c.deref_mut.result.now c.args.parent.now = is_parent setting c.args.pass.now.number c.args.pass.now.seen c.deref_mut.result.now c.args.parent.now c.args.kind (l.history.legal) (s.0, s.1) c.requires.stands in
    p.below_a_top

pub child-name-requires-clause-room : goal.child-name-requires-clause-room
child-name-requires-clause-room g c =
    let setting = setting_of g.N.Store.table g.N.Store.base in
    let l = c.look.ensures in
    let s = l.since c.requires.client.0 in
    let p : IsParent c.deref_mut.result.now c.args.parent.now = is_parent setting c.args.pass.now.number c.args.pass.now.seen c.deref_mut.result.now c.args.parent.now c.args.kind (l.history.legal) (s.0, s.1) c.requires.stands in
    let room = p.room in
    omega (arith, room)

pub enter-requires-clause-allowed : goal.enter-requires-clause-allowed
enter-requires-clause-allowed g c none =
    let setting = setting_of g.N.Store.table g.N.Store.base in
    let l = c.look.ensures in
    let s = l.since c.requires.client.0 in
    let p : IsParent c.deref_mut.result.now c.args.parent.now = is_parent setting c.args.pass.now.number c.args.pass.now.seen c.deref_mut.result.now c.args.parent.now c.args.kind (l.history.legal) (s.0, s.1) c.requires.stands in
    let named = c.child-name.ensures ∙ ap (λ n. c.args.parent.now ++ (n + 1) ∷ []) c.children-number.ensures ∙ ap (λ h. next_child h c.args.parent.now) (c.deref-2.ensures ∙ l.same.0) in
    after_look setting (event.Start c.child-name.result c.args.kind) (against_child c.args.parent.now) _ _ _ _ c.args.pass.now _ c.against_child-no.result l.same c.deref.ensures c.deref_mut-2.ensures.value c.against_child-no.ensures
    (λ living. subst (λ n. Allowed setting c.deref_mut.result.now (entry c.args.pass.now.number (event.Start n c.args.kind))) (sym named)
    (child_allowed setting c.args.pass.now.number c.args.pass.now.seen c.deref_mut.result.now c.args.parent.now c.args.kind (s.0, s.1) p.below_a_top (client c.args.pass.now c.requires.client) c.requires.stands living)) none
