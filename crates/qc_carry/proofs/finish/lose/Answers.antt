-- An access is given up, and then missed.
use Rattle.std.proofs.Common.{[], ◌∷◌, refl}
use Rattle.std.proofs.lemmas.Result.{err_from_is_err_and}
use Rattle.qc_event.specs.declared.event.Cause.TheVariants as cause
use Rattle.qc_event.specs.declared.event.Event.TheVariants as event
use Rattle.qc_event.specs.declared.event.How.TheVariants.{Abort}
use Rattle.qc_event.specs.Tables.{setting_of}
use Rattle.qc_managers.specs.Carrying.{entry}
use Rattle.qc_carry.proofs.Course.{go_on}
use Rattle.qc_carry.proofs.Ending.{ends_gone, missed_gone, still_told}
use Rattle.qc_carry.proofs.OwnStays.{still_own}
use Rattle.qc_carry.proofs.finish.lose.Goals as goal

pub miss-requires-clause-own : goal.miss-requires-clause-own
miss-requires-clause-own g c =
    still_own (setting_of g.N.Store.table g.N.Store.base) c.args.pass.now c.give_up.new.pass _ c.in_ok-give_up.ensures.ok c.give_up.ensures.known.legal c.args.ask.now.access c.requires.waits.own refl

pub miss-requires-clause-missed : goal.miss-requires-clause-missed
miss-requires-clause-missed g c =
    missed_gone (setting_of g.N.Store.table g.N.Store.base) c.args.pass.now c.give_up.new.pass c.args.ask.now c.args.why c.requires.waits c.give_up.ensures.known.legal c.in_ok-give_up.ensures.ok

pub returns-in_err-miss-clause-ends : goal.returns-in_err-miss-clause-ends
returns-in_err-miss-clause-ends g c =
    let p = err_from_is_err_and c.from_residual-in_err-miss.result c.from_residual-in_err-miss.ensures.1 in
    rw (p.1, p.2) (ends_gone c.args.pass.now c.give_up.new.pass c.miss.new.pass c.args.ask.now c.args.why c.in_err-miss.field-0.0 c.in_ok-give_up.ensures.ok c.in_err-miss.ensures.err)

pub returns-clause-ends : goal.returns-clause-ends
returns-clause-ends g c =
    let v = c.args.pass.now in
    let n = c.args.ask.now.access in
    let walk = go_on v c.give_up.new.pass c.miss.new.pass _ (λ k. entry k (event.End n (Abort cause.Missed)) ∷ []) c.in_ok-give_up.ensures.ok c.in_ok-miss.ensures.ok in
    (walk, still_told v c.miss.new.pass _ walk n c.args.why c.requires.told)
