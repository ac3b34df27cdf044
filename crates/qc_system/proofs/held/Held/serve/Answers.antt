-- What the site serves its disk keeps and pays for, and what it answers stands.
use Rattle.std.proofs.Common.{◌≡◌, ◌+◌, ◌∙◌, sym, ap, subst}
use mathlib.Core.Bool.{true≢false}
use Rattle.std.proofs.Math.Logic.{∥∥₁_elim, ∥∥₁_map}
use Rattle.std.specs.Prelude.{is_some}
use Rattle.qc_ledger.proofs.Logging.{up_by}
use Rattle.qc_ledger.proofs.Passes.{sees_on}
use Rattle.qc_event.specs.declared.event.Answered.TheVariants.{Full, Strange}
use Rattle.qc_event.specs.declared.short.Short.TheVariants.{Room}
use Rattle.qc_event.specs.History.{grants}
use Rattle.qc_event.specs.Legal.{Legal}
use Rattle.qc_event.specs.Tables.{setting_of}
use Rattle.qc_event.specs.Wants.{IsWant}
use Rattle.qc_journal.specs.Journal.{disk_of, limit_of}
use Rattle.qc_desk.specs.Entries.{IsOlder}
use Rattle.qc_desk.proofs.NoGrants.{own_grants}
use Rattle.qc_desk.specs.Answers.{HasAnswered}
use Rattle.qc_site.specs.AtDesk.{LeavesKnown}
use Rattle.qc_site.specs.Calls.{AnswerRests, HasServed, site_state}
use Rattle.qc_site.specs.Log.{log_journal}
use Rattle.qc_site.proofs.Calls.{served_enters}
use Rattle.qc_site.proofs.Since.{grants_on}
use Rattle.qc_system.specs.Grown.{LeftAlike}
use Rattle.qc_system.specs.Kept.{CopyHadNoRoom, NoneStrange, Pays, downs}
use Rattle.qc_system.proofs.Grown.{disk_in, left_on}
use Rattle.qc_system.proofs.Paying.{faults_of, serve_pays}
use Rattle.qc_desk.proofs.Answered.{full_still}
use Rattle.qc_system.proofs.Standing.{answer_stands}
use Rattle.qc_system.proofs.Unable.{full_for, locks_serve, ok_is, on_ok, room_later, serve_plain, serve_room}
use Rattle.qc_system.proofs.held.Held.serve.Goals as goal

pub invariant_of-self : goal.invariant_of-self
invariant_of-self g c = record {
  keeps = ∥∥₁_map c.args.self.now.keeps (λ k told.
      let before = (g.N.Mounting.found.active (g.row.C + 1)).before in
      let first = (g.N.Mounting.found.active (g.row.C + 1)).first in (
        c.serve.ensures.became.kept before (k told).0,
        record {
          began = left_on first (disk_of (log_journal c.args.self.now.site.log)) (disk_of (log_journal c.serve.new.self.log)) (λ d. g.D.Disk.view d.disk.value) (c.serve.ensures.became.moments before (k told).0).1.earlier (k told).1.grown.later (k told).1.began;
          grown = c.serve.ensures.became.grown before first.moment (k told).0 (k told).1.grown;
        },
      ));
  pays = serve_pays g.row.C c.args.ask.now c.args.self.now.site.replica c.serve.new.self.replica (g.N.Mounting.found.active (g.row.C + 1)).first.faults _ _ c.serve.result (served_enters g.row.C c.args.ask.now c.serve.new.seer (site_state c.args.self.now.site) (site_state c.serve.new.self) c.serve.result c.serve.ensures.served) c.serve.ensures.err c.serve.ensures.cause c.args.self.now.pays;
  limit = c.serve.ensures.became.limit ∙ c.args.self.now.limit;
  full = ∥∥₁_elim c.args.self.now.keeps (hlevel) (λ k. ∥∥₁_map c.args.self.now.full (λ had told.
      serve_room (setting_of g.N.Store.table g.N.Store.base) g.row.C (g.N.Mounting.found.active (g.row.C + 1)).before g.N.Mounting.found.limit c.args.ask.now c.args.self.now.site.replica c.serve.new.self.replica c.serve.result
      (served_enters g.row.C c.args.ask.now c.serve.new.seer (site_state c.args.self.now.site) (site_state c.serve.new.self) c.serve.result c.serve.ensures.served) c.serve.ensures.err c.serve.ensures.became.seen
      (λ is own same.
      let served = ok_is (HasServed g.row.C c.args.ask.now c.serve.new.seer (site_state c.args.self.now.site) (site_state c.serve.new.self)) c.serve.result Full is c.serve.ensures.served in
      let known = on_ok (LeavesKnown (setting_of g.N.Store.table g.N.Store.base) g.row.C c.serve.new.self.replica.pass c.serve.new.seer) c.serve.result Full is c.serve.ensures.known in
      let all = sym (own_grants (setting_of g.N.Store.table g.N.Store.base) g.row.C c.serve.new.self.replica.pass.seen (subst (Legal (setting_of g.N.Store.table g.N.Store.base)) served.shown known.known.legal)) ∙ sym (ap (λ p. grants p g.row.C) known.own) ∙ same in
      full_for (setting_of g.N.Store.table g.N.Store.base) g.row.C (g.N.Mounting.found.active (g.row.C + 1)).before g.N.Mounting.found.limit c.args.ask.now c.serve.new.self.log c.serve.new.self.replica own all (c.serve.ensures.full is)
      (c.serve.ensures.became.kept (g.N.Mounting.found.active (g.row.C + 1)).before (k told).0) served.rests.none (up_by c.serve.new.self.log.journal.state (c.serve.new.self.journal served.rests.up))
      (g.met.D.Disk.reads_as_image (disk_of (log_journal c.serve.new.self.log)).disk.value) c.serve.new.self.copies (c.serve.ensures.became.limit ∙ c.args.self.now.limit))
      (had told)));
  plain = ∥∥₁_elim c.args.self.now.keeps (hlevel) (λ k. ∥∥₁_map c.args.self.now.plain (λ was told.
      let still = c.serve.ensures.became.plain (g.N.Mounting.found.active (g.row.C + 1)).before (k told).0 ∙ (was told).0 in (
        still,
        serve_plain g.row.C c.args.ask.now c.args.self.now.site.replica c.serve.new.self.replica c.serve.result
            (served_enters g.row.C c.args.ask.now c.serve.new.seer (site_state c.args.self.now.site) (site_state c.serve.new.self) c.serve.result c.serve.ensures.served) c.serve.ensures.err
            (λ is. true≢false (sym (ok_is (HasServed g.row.C c.args.ask.now c.serve.new.seer (site_state c.args.self.now.site) (site_state c.serve.new.self)) c.serve.result Strange is c.serve.ensures.served).rests ∙ still))
            (was told).1,
      )));
}

pub invariant_of-self-in-Err : goal.invariant_of-self-in-Err
invariant_of-self-in-Err g c =
    let before = (g.N.Mounting.found.active (g.row.C + 1)).before in
    let first = (g.N.Mounting.found.active (g.row.C + 1)).first in
    let served = serve_pays g.row.C c.args.ask.now c.args.self.now.site.replica c.serve.new.self.replica first.faults _ _ c.serve.result (served_enters g.row.C c.args.ask.now c.serve.new.seer (site_state c.args.self.now.site) (site_state c.serve.new.self) c.serve.result c.serve.ensures.served) c.serve.ensures.err c.serve.ensures.cause c.args.self.now.pays in
    record {
      keeps = ∥∥₁_map c.args.self.now.keeps (λ k told. (
        c.show.ensures.became.kept before (c.serve.ensures.became.kept before (k told).0),
        record {
          began = subst (λ l. LeftAlike first (disk_in (log_journal l))) (sym c.show.ensures.log)
              (left_on first (disk_of (log_journal c.args.self.now.site.log)) (disk_of (log_journal c.serve.new.self.log)) (λ d. g.D.Disk.view d.disk.value) (c.serve.ensures.became.moments before (k told).0).1.earlier (k told).1.grown.later (k told).1.began);
          grown = grants_on (setting_of g.N.Store.table g.N.Store.base) g.row.C before first.moment c.serve.new.self.log c.show.new.self.log c.serve.new.self.replica.pass.seen c.show.new.self.replica.pass.seen
              (ap log_journal c.show.ensures.log) c.show.ensures.looks.older (c.serve.ensures.became.grown before first.moment (k told).0 (k told).1.grown);
        },
      ));
      pays = subst (λ l. Pays first.faults (downs c.show.new.self.replica.pass.mine) (faults_of l.journal)) (sym c.show.ensures.log)
          (subst (λ p. Pays first.faults (downs p) (faults_of c.serve.new.self.log.journal)) (sym c.show.ensures.looks.mine) served);
      limit = ap (λ l. limit_of (log_journal l)) c.show.ensures.log ∙ c.serve.ensures.became.limit ∙ c.args.self.now.limit;
      full = ∥∥₁_map c.args.self.now.full (λ had told.
          let setting = setting_of g.N.Store.table g.N.Store.base in
          let tried = c.serve.new.self.replica.pass in
          let shown = c.show.new.self.replica.pass in
          subst (λ p. CopyHadNoRoom setting g.row.C before g.N.Mounting.found.limit shown.seen p) (sym c.show.ensures.looks.mine)
          (room_later setting g.row.C before g.N.Mounting.found.limit tried.seen shown.seen tried.mine c.show.ensures.looks.older
          (serve_room setting g.row.C before g.N.Mounting.found.limit c.args.ask.now c.args.self.now.site.replica c.serve.new.self.replica c.serve.result
          (served_enters g.row.C c.args.ask.now c.serve.new.seer (site_state c.args.self.now.site) (site_state c.serve.new.self) c.serve.result c.serve.ensures.served) c.serve.ensures.err c.serve.ensures.became.seen
          (λ is own same. absurd (let never = sym c.in-Err.is ∙ is in cc)) (had told))));
      plain = ∥∥₁_elim c.args.self.now.keeps (hlevel) (λ k. ∥∥₁_map c.args.self.now.plain (λ was told. (
        ap is_some c.show.ensures.strange ∙ c.serve.ensures.became.plain before (k told).0 ∙ (was told).0,
        subst NoneStrange (sym c.show.ensures.looks.mine)
            (serve_plain g.row.C c.args.ask.now c.args.self.now.site.replica c.serve.new.self.replica c.serve.result
            (served_enters g.row.C c.args.ask.now c.serve.new.seer (site_state c.args.self.now.site) (site_state c.serve.new.self) c.serve.result c.serve.ensures.served) c.serve.ensures.err
            (λ is. let never = sym c.in-Err.is ∙ is in cc) (was told).1),
      )));
    }

pub returns-in-Ok-clause-answered : goal.returns-in-Ok-clause-answered
returns-in-Ok-clause-answered g c =
    subst (λ p. HasAnswered g.row.C p c.args.ask.now c.in-Ok.answered) (sym c.in-Ok.ensures.served.shown)
    (answer_stands g.row.C c.args.ask.now c.args.self.now.site.replica c.serve.new.self.replica c.in-Ok.answered c.in-Ok.ensures.known.own (λ tuple is. (subst (AnswerRests g.row.C c.args.ask.now (site_state c.serve.new.self)) is c.in-Ok.ensures.served.rests).1) c.in-Ok.ensures.served.enters)

pub returns-in-Ok-clause-serves : goal.returns-in-Ok-clause-serves
returns-in-Ok-clause-serves g c = locks_serve g.row.C c.args.ask.now (site_state c.serve.new.self) c.in-Ok.answered c.in-Ok.ensures.served.rests

pub returns-in-Err-clause-room : goal.returns-in-Err-clause-room
returns-in-Err-clause-room g c = λ is.
    full_still c.serve.new.self.replica.pass.seen c.show.new.seer.seen (subst (λ p. IsOlder c.serve.new.self.replica.pass.seen p) (sym c.show.ensures.same) c.show.ensures.looks.older) c.show.ensures.bounded
    (let one : c.in-Err.short ≡ Room = cc in subst (IsWant c.serve.new.self.replica.pass.seen) one c.in-Err.ensures.refused)

pub returns-in-Err-clause-seer : goal.returns-in-Err-clause-seer
returns-in-Err-clause-seer g c = sees_on c.args.seer.now c.serve.new.seer c.show.new.seer c.serve.ensures.seer c.show.ensures.seer
