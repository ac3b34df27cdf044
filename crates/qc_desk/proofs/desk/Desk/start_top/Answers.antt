use Rattle.std.proofs.Common.{◌+◌, [], length, arith, refl, sym, ap, ◌∙◌, subst}
use Rattle.std.specs.Prelude.{None}
use Rattle.qc_event.specs.History.{children}
use Rattle.qc_event.specs.Legal.{Allowed}
use Rattle.qc_event.specs.Seats.{top_name}
use Rattle.qc_event.specs.Tables.{setting_of}
use Rattle.qc_event.specs.declared.event.Event.TheVariants as event
use Rattle.qc_event.specs.declared.event.Kind.TheVariants as kind
use Rattle.qc_desk.specs.Entries.{entry}
use Rattle.qc_desk.specs.Refusing.{against_nothing}
use Rattle.qc_desk.proofs.Calls.{client, after_look}
use Rattle.qc_desk.proofs.Counting.{top_allowed, next_top}
use Rattle.qc_event.proofs.FewerChildren.{fewer}
use Rattle.qc_desk.proofs.desk.Desk.start_top.Goals as goal

pub overflow_cast-tops : goal.overflow_cast-tops
overflow_cast-tops g c =
    let few = fewer c.deref-2.result.now [] in
    omega (arith, few, c.tops.ensures, c.len.ensures.length, ap length (c.deref-2.ensures ∙ sym c.deref.ensures), c.if-len-ge-LIMIT.false)

pub overflow_add-tops : goal.overflow_add-tops
overflow_add-tops g c =
    let few = fewer c.deref-2.result.now [] in
    omega (arith, few, c.tops.ensures, c.len.ensures.length, ap length (c.deref-2.ensures ∙ sym c.deref.ensures), c.if-len-ge-LIMIT.false)

pub append-requires-clause-allowed : goal.append-requires-clause-allowed
append-requires-clause-allowed g c =
    let setting = setting_of g.N.Store.table g.N.Store.base in
    let l = c.look.ensures in
    let past = c.deref_mut.result.now in
    let at3 = c.deref-2.ensures ∙ l.same.0 in
    let few = fewer c.deref-2.result.now [] in
    let named = c.top_name-top.ensures ∙ ap (λ n. top_name c.args.self.now.epoch (n + 1)) c.tops.ensures ∙ ap (next_top c.args.self.now.epoch) at3 in
    after_look setting (event.Start c.top_name-top.result (kind.User c.args.session c.args.body)) against_nothing past _ c.deref-2.result.now _ c.args.pass.now _ None l.same c.deref-2.ensures c.deref_mut-2.ensures.value refl
    (λ nothing. subst (λ n. Allowed setting past (entry c.args.pass.now.number (event.Start n (kind.User c.args.session c.args.body)))) (sym named)
    (top_allowed setting c.args.self.now.epoch c.args.pass.now.number past c.args.session c.args.body c.args.self.now.some
    (omega (arith, few, ap (λ h. length (children h [])) at3, c.len.ensures.length, ap length (c.deref-2.ensures ∙ sym c.deref.ensures), c.if-len-ge-LIMIT.false))
    l.history.counted (client c.args.pass.now c.requires.client))) refl
