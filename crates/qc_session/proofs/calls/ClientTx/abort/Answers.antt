-- An abort is what its client made.
use Rattle.qc_session.proofs.Calling.{aborted_keeps, client_now, for, met_now}
use Rattle.qc_session.proofs.calls.ClientTx.abort.Goals as goal

pub invariant_of-self : goal.invariant_of-self
invariant_of-self g c =
    let me = c.args.self.now in
    record {
      over = me.over;
      kept = aborted_keeps c.abort.ensures.went me.kept.kin me.seat.marks c.abort.result c.args.target.now c.args.cause c.abort.ensures.ok c.abort.ensures.err me.kept;
      low = me.low;
      seated = me.seated;
      boarded = me.boarded;
    }

pub returns-clause-met : goal.returns-clause-met
returns-clause-met g c =
    let me = c.args.self.now in
    met_now c.abort.ensures.went me.kept.kin me.root me.session (λ s. s.now.desk.epoch) c.requires.met

pub returns-clause-client : goal.returns-clause-client
returns-clause-client g c =
    let me = c.args.self.now in
    client_now c.abort.ensures.went me.kept.kin me.root me.session (λ s. s.now.desk.epoch)

pub returns-clause-ok : goal.returns-clause-ok
returns-clause-ok g c =
    let me = c.args.self.now in
    c.abort.ensures.ok _ (for c.abort.ensures.went me.kept.kin _ _ _ _)

pub returns-clause-err : goal.returns-clause-err
returns-clause-err g c =
    let me = c.args.self.now in
    c.abort.ensures.err _ (for c.abort.ensures.went me.kept.kin _ _ _ _)
