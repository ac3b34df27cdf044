use Rattle.std.proofs.Common.{refl, sym, ap, ◌∙◌}
use Rattle.qc_event.specs.History.{grants}
use Rattle.qc_event.specs.Tables.{setting_of}
use Rattle.qc_desk.specs.declared.view.View.{View}
use Rattle.qc_desk.specs.Consulting.{granted_before}
use Rattle.qc_desk.proofs.Consulting.{ready, within, verdict_stands, has_reason, refusal_allowed, looked, judged_free, judged_refused, before_refused, follows_still, follows_wanting, follows_entered, entered_refusal}
use Rattle.qc_desk.proofs.locked.Locked.consult.Goals as goal

pub consult_locks-verdict-requires : goal.consult_locks-verdict-requires
consult_locks-verdict-requires g c =
    let setting = setting_of g.N.Store.table g.N.Store.base in
    let r = ready setting c.args.self.now c.look.new.self c.args.pass.now c.look.new.pass c.args.ask.now c.args.locks.now c.requires.copy.1 c.look.ensures.history.legal c.requires.asked (c.look.ensures.since c.requires.copy.0) c.look.ensures.same c.requires.follows in
    within setting c.look.new.self c.args.ask.now r.has c.requires.proper r.legal c.args.locks.now c.requires.start

pub returns-in-Some-clause-follows : goal.returns-in-Some-clause-follows
returns-in-Some-clause-follows g c =
    let setting = setting_of g.N.Store.table g.N.Store.base in
    let h = c.look.new.self in
    let ask = c.args.ask.now in
    let r = ready setting c.args.self.now h c.args.pass.now c.look.new.pass ask c.args.locks.now c.requires.copy.1 c.look.ensures.history.legal c.requires.asked (c.look.ensures.since c.requires.copy.0) c.look.ensures.same c.requires.follows in
    follows_still setting h c.args.pass.now c.look.new.pass ask c.args.locks.now r c.args.locks.now r.follows

pub returns-in_default-refusal_of-clause-told : goal.returns-in_default-refusal_of-clause-told
returns-in_default-refusal_of-clause-told g c =
    let setting = setting_of g.N.Store.table g.N.Store.base in
    let h = c.look.new.self in
    let ask = c.args.ask.now in
    let r = ready setting c.args.self.now h c.args.pass.now c.look.new.pass ask c.args.locks.now c.requires.copy.1 c.look.ensures.history.legal c.requires.asked (c.look.ensures.since c.requires.copy.0) c.look.ensures.same c.requires.follows in
    let said = c.consult_locks-verdict.ensures.verdict h (grants h ask.copy) refl r.follows in
    let seen = ap (λ (x : View). x.seen) r.is in (
      ap (λ p. granted_before p ask) seen ∙ sym c.granted.ensures ∙ c.in_default.is,
      judged_free setting h ask c.args.pass.now c.look.new.pass c.consult_locks-verdict.result (sym c.refusal_of.ensures ∙ c.in_default-refusal_of.is)
          (verdict_stands setting h ask r.has c.requires.proper r.legal c.args.locks.now c.requires.start c.consult_locks-verdict.result said)
          (looked setting h c.args.pass.now c.look.new.pass ask c.args.locks.now r) seen,
    )

pub returns-in_default-refusal_of-clause-follows : goal.returns-in_default-refusal_of-clause-follows
returns-in_default-refusal_of-clause-follows g c =
    let setting = setting_of g.N.Store.table g.N.Store.base in
    let h = c.look.new.self in
    let ask = c.args.ask.now in
    let r = ready setting c.args.self.now h c.args.pass.now c.look.new.pass ask c.args.locks.now c.requires.copy.1 c.look.ensures.history.legal c.requires.asked (c.look.ensures.since c.requires.copy.0) c.look.ensures.same c.requires.follows in
    follows_still setting h c.args.pass.now c.look.new.pass ask c.args.locks.now r c.consult_locks-verdict.new.locks (c.consult_locks-verdict.ensures.follows h (grants h ask.copy) refl r.follows)

pub append-requires-clause-allowed : goal.append-requires-clause-allowed
append-requires-clause-allowed g c =
    let setting = setting_of g.N.Store.table g.N.Store.base in
    let h = c.look.new.self in
    let ask = c.args.ask.now in
    let r = ready setting c.args.self.now h c.args.pass.now c.look.new.pass ask c.args.locks.now c.requires.copy.1 c.look.ensures.history.legal c.requires.asked (c.look.ensures.since c.requires.copy.0) c.look.ensures.same c.requires.follows in
    let said = c.consult_locks-verdict.ensures.verdict h (grants h ask.copy) refl r.follows in
    refusal_allowed setting h ask r.has c.look.new.pass.number c.in-Some-refusal_of.refusal (ap (λ (x : View). x.number) r.is ∙ c.requires.copy.1)
    (has_reason setting h ask c.consult_locks-verdict.result c.in-Some-refusal_of.refusal (sym c.refusal_of.ensures ∙ c.in-Some-refusal_of.is)
    (verdict_stands setting h ask r.has c.requires.proper r.legal c.args.locks.now c.requires.start c.consult_locks-verdict.result said))

pub returns-in_err-append-clause-follows : goal.returns-in_err-append-clause-follows
returns-in_err-append-clause-follows g c =
    let setting = setting_of g.N.Store.table g.N.Store.base in
    let h = c.look.new.self in
    let ask = c.args.ask.now in
    let r = ready setting c.args.self.now h c.args.pass.now c.look.new.pass ask c.args.locks.now c.requires.copy.1 c.look.ensures.history.legal c.requires.asked (c.look.ensures.since c.requires.copy.0) c.look.ensures.same c.requires.follows in
    follows_wanting setting h c.args.pass.now c.look.new.pass ask c.args.locks.now r c.consult_locks-verdict.new.locks c.append.new.self c.append.new.pass (c.consult_locks-verdict.ensures.follows h (grants h ask.copy) refl r.follows) c.in_err-append.ensures.err

pub returns-clause-told : goal.returns-clause-told
returns-clause-told g c =
    let setting = setting_of g.N.Store.table g.N.Store.base in
    let h = c.look.new.self in
    let ask = c.args.ask.now in
    let r = ready setting c.args.self.now h c.args.pass.now c.look.new.pass ask c.args.locks.now c.requires.copy.1 c.look.ensures.history.legal c.requires.asked (c.look.ensures.since c.requires.copy.0) c.look.ensures.same c.requires.follows in
    let said = c.consult_locks-verdict.ensures.verdict h (grants h ask.copy) refl r.follows in
    let some = sym c.refusal_of.ensures ∙ c.in-Some-refusal_of.is in
    let reason = has_reason setting h ask c.consult_locks-verdict.result c.in-Some-refusal_of.refusal some
    (verdict_stands setting h ask r.has c.requires.proper r.legal c.args.locks.now c.requires.start c.consult_locks-verdict.result said) in
    let entered = c.in_ok-append.ensures.ok in (
      ap (λ (x : View). granted_before x.seen ask) entered.1 ∙ before_refused h c.look.new.pass.number ask.copy ask.access c.in-Some-refusal_of.refusal ask ∙ sym c.granted.ensures ∙ c.in_default.is,
      judged_refused setting h ask c.args.pass.now c.append.new.pass c.consult_locks-verdict.result c.in-Some-refusal_of.refusal some
          (entered_refusal setting h c.args.pass.now c.look.new.pass ask c.args.locks.now r c.append.new.self c.append.new.pass c.in-Some-refusal_of.refusal reason entered),
    )

pub returns-clause-follows : goal.returns-clause-follows
returns-clause-follows g c =
    let setting = setting_of g.N.Store.table g.N.Store.base in
    let h = c.look.new.self in
    let ask = c.args.ask.now in
    let r = ready setting c.args.self.now h c.args.pass.now c.look.new.pass ask c.args.locks.now c.requires.copy.1 c.look.ensures.history.legal c.requires.asked (c.look.ensures.since c.requires.copy.0) c.look.ensures.same c.requires.follows in
    follows_entered setting h c.args.pass.now c.look.new.pass ask c.args.locks.now r c.consult_locks-verdict.new.locks c.append.new.self c.append.new.pass c.in-Some-refusal_of.refusal (c.consult_locks-verdict.ensures.follows h (grants h ask.copy) refl r.follows) c.in_ok-append.ensures.ok
