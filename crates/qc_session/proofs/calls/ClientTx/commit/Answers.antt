-- A commit is what its client made.
use Rattle.qc_event.specs.Tables.{setting_of}
use Rattle.qc_session.proofs.Calling.{client_now, ended_keeps, for, met_now}
use Rattle.qc_desk.proofs.Begun.{user_nonroot}
use Rattle.qc_session.proofs.Starting.{below_top}
use Rattle.qc_session.proofs.calls.ClientTx.commit.Goals as goal
use Rattle.qc_session.proofs.Knowing.{seen_legal}

pub invariant_of-self : goal.invariant_of-self
invariant_of-self g c =
    let me = c.args.self.now in
    record {
      over = me.over;
      kept = ended_keeps c.commit_top.ensures.went me.kept.kin me.seat.marks c.commit_top.result c.args.of.now c.commit_top.ensures.ok c.commit_top.ensures.err me.kept;
      low = me.low;
      seated = me.seated;
      boarded = me.boarded;
    }

pub returns-in-Some-clause-met : goal.returns-in-Some-clause-met
returns-in-Some-clause-met g c =
    let me = c.args.self.now in
    met_now c.commit_top.ensures.went me.kept.kin me.root me.session (λ s. s.now.desk.epoch) c.requires.met

pub returns-in-Some-clause-client : goal.returns-in-Some-clause-client
returns-in-Some-clause-client g c =
    let me = c.args.self.now in
    client_now c.commit_top.ensures.went me.kept.kin me.root me.session (λ s. s.now.desk.epoch)

pub returns-in-Some-clause-ok : goal.returns-in-Some-clause-ok
returns-in-Some-clause-ok g c =
    let me = c.args.self.now in
    c.commit_top.ensures.ok _ (for c.commit_top.ensures.went me.kept.kin _ _ _ _)

pub returns-in-Some-clause-err : goal.returns-in-Some-clause-err
returns-in-Some-clause-err g c =
    let me = c.args.self.now in
    c.commit_top.ensures.err _ (for c.commit_top.ensures.went me.kept.kin _ _ _ _)

pub invariant_of-self-2 : goal.invariant_of-self-2
invariant_of-self-2 g c =
    let me = c.args.self.now in
    record {
      over = me.over;
      kept = ended_keeps c.commit_below.ensures.went me.kept.kin me.seat.marks c.commit_below.result c.args.of.now c.commit_below.ensures.ok c.commit_below.ensures.err me.kept;
      low = me.low;
      seated = me.seated;
      boarded = me.boarded;
    }

pub returns-clause-met : goal.returns-clause-met
returns-clause-met g c =
    let me = c.args.self.now in
    met_now c.commit_below.ensures.went me.kept.kin me.root me.session (λ s. s.now.desk.epoch) c.requires.met

pub returns-clause-client : goal.returns-clause-client
returns-clause-client g c =
    let me = c.args.self.now in
    client_now c.commit_below.ensures.went me.kept.kin me.root me.session (λ s. s.now.desk.epoch)

pub returns-clause-ok : goal.returns-clause-ok
returns-clause-ok g c =
    let me = c.args.self.now in
    c.commit_below.ensures.ok _ (for c.commit_below.ensures.went me.kept.kin _ _ _ _)

pub returns-clause-err : goal.returns-clause-err
returns-clause-err g c =
    let me = c.args.self.now in
    c.commit_below.ensures.err _ (for c.commit_below.ensures.went me.kept.kin _ _ _ _)

pub commit_below-requires-clause-below : goal.commit_below-requires-clause-below
commit_below-requires-clause-below g c =
    let line = c.args.self.now.line in
    below_top c.args.of.now (user_nonroot (setting_of g.N.Store.table g.N.Store.base) line.pass.seen c.args.of.now (seen_legal line.known) c.requires.user) (c.top_number.ensures.none c.in_default.is)
