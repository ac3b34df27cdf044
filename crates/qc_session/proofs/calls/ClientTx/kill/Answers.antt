-- A mark is what its client made, and its seat at the board knows it; or none was made.
use Rattle.std.proofs.Common.{IsBitSet, sym, subst}
use Rattle.qc_board.specs.Boards.{Seated}
use Rattle.qc_event.specs.declared.event.Event.TheVariants as event
use Rattle.qc_event.specs.Tables.{setting_of}
use Rattle.qc_session.specs.Keeping.{IsClientPass}
use Rattle.qc_session.specs.Marking.{IsSeatAt}
use Rattle.qc_session.proofs.Calling.{client_now, for, mark_keeps, met_now, none_keeps}
use Rattle.qc_session.proofs.Killing.{not_marked}
use Rattle.qc_session.proofs.Own.{made_one}
use Rattle.qc_session.proofs.OwnMarks.{may_mark}
use Rattle.qc_session.proofs.calls.ClientTx.kill.Goals as goal

pub invariant_of-self : goal.invariant_of-self
invariant_of-self g c =
    let me = c.args.self.now in
    record {
      over = me.over;
      kept = none_keeps c.mark.ensures.went me.kept.kin me.seat.marks c.in-Err.ensures.err.0 me.kept;
      low = me.low;
      seated = me.seated;
      boarded = me.boarded;
    }

pub returns-in-Err-clause-err : goal.returns-in-Err-clause-err
returns-in-Err-clause-err g c =
    let me = c.args.self.now in
    not_marked (setting_of g.N.Store.table g.N.Store.base) me.line.pass c.mark.new.line.pass _ c.in-Err.short (for c.mark.ensures.went me.kept.kin _ _ _ _) c.mark.ensures.went.legal c.in-Err.ensures.err

pub returns-clause-ok : goal.returns-clause-ok
returns-clause-ok g c =
    let me = c.args.self.now in
    made_one (setting_of g.N.Store.table g.N.Store.base) me.line.pass c.mark.new.line.pass _ (for c.mark.ensures.went me.kept.kin _ _ _ _) c.mark.ensures.went.legal (event.Mark c.args.by.now c.args.session) c.in_default.ensures.ok

pub doom-requires-clause-may : goal.doom-requires-clause-may
doom-requires-clause-may g c = subst (λ n. IsBitSet n c.args.session) (sym c.args.self.now.seated.may) (may_mark c.args.session c.requires.session)

pub invariant_of-self-2 : goal.invariant_of-self-2
invariant_of-self-2 g c =
    let me = c.args.self.now in
    record {
      over = me.over;
      kept = subst (λ (s : Seated). IsClientPass c.mark.new.line.pass s.marks) (sym c.doom.ensures) (mark_keeps c.mark.ensures.went me.kept.kin me.seat.marks c.args.by.now c.args.session c.number_of_top-upto.result c.number_of_top-upto.ensures c.in_default.ensures.ok me.kept);
      low = me.low;
      seated = subst (IsSeatAt me.board.now) (sym c.doom.ensures) (record { sessions = me.seated.sessions; same = me.seated.same; may = me.seated.may });
      boarded = me.boarded;
    }

pub returns-in-Err-clause-met : goal.returns-in-Err-clause-met
returns-in-Err-clause-met g c =
    let me = c.args.self.now in
    met_now c.mark.ensures.went me.kept.kin me.root me.session (λ s. s.now.desk.epoch) c.requires.met

pub returns-clause-met : goal.returns-clause-met
returns-clause-met g c =
    let me = c.args.self.now in
    met_now c.mark.ensures.went me.kept.kin me.root me.session (λ s. s.now.desk.epoch) c.requires.met

pub returns-in-Err-clause-client : goal.returns-in-Err-clause-client
returns-in-Err-clause-client g c =
    let me = c.args.self.now in
    client_now c.mark.ensures.went me.kept.kin me.root me.session (λ s. s.now.desk.epoch)

pub returns-clause-client : goal.returns-clause-client
returns-clause-client g c =
    let me = c.args.self.now in
    client_now c.mark.ensures.went me.kept.kin me.root me.session (λ s. s.now.desk.epoch)
