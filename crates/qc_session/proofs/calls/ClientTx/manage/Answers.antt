-- A manager ran for its client, or gave none.
use Rattle.qc_script.specs.Managers.{manager_for}
use Rattle.qc_session.proofs.Calling.{client_now, for, manager_keeps, met_now}
use Rattle.qc_session.proofs.calls.ClientTx.manage.Goals as goal

pub invariant_of-self : goal.invariant_of-self
invariant_of-self g c =
    let me = c.args.self.now in
    record {
      over = me.over;
      kept = manager_keeps c.manage.ensures.went me.kept.kin me.seat.marks c.manage.result c.args.of.now (manager_for c.args.what.now) c.manage.ensures.ok c.manage.ensures.err me.kept;
      low = me.low;
      seated = me.seated;
      boarded = me.boarded;
    }

pub returns-clause-met : goal.returns-clause-met
returns-clause-met g c =
    let me = c.args.self.now in
    met_now c.manage.ensures.went me.kept.kin me.root me.session (λ s. s.now.desk.epoch) c.requires.met

pub returns-clause-client : goal.returns-clause-client
returns-clause-client g c =
    let me = c.args.self.now in
    client_now c.manage.ensures.went me.kept.kin me.root me.session (λ s. s.now.desk.epoch)

pub returns-clause-ok : goal.returns-clause-ok
returns-clause-ok g c =
    let me = c.args.self.now in
    c.manage.ensures.ok _ (for c.manage.ensures.went me.kept.kin _ _ _ _)

pub returns-clause-err : goal.returns-clause-err
returns-clause-err g c =
    let me = c.args.self.now in
    c.manage.ensures.err _ (for c.manage.ensures.went me.kept.kin _ _ _ _)
