-- A manager commits with its answer, or ends as an orphan, or memory or room was wanting.
use Rattle.qc_carry.proofs.Walking.{of_entered, of_looked}
use Rattle.qc_event.specs.Tables.{setting_of}
use Rattle.qc_event.specs.declared.event.Event.TheVariants as event
use Rattle.qc_event.specs.declared.event.How.TheVariants.{Commit as Commits}
use Rattle.qc_desk.specs.Calling.{Refused}
use Rattle.qc_desk.specs.Refusing.{against_commit}
use Rattle.qc_desk.specs.declared.view.View.{View}
use Rattle.qc_session.proofs.Managing.{commit_wanting, dead_orphan, is_told, manager_mine, not_closed_on, orphan_at_end, running_on, wanting_on}
use Rattle.qc_session.proofs.Tidy.{manager_tidy}
use Rattle.qc_session.specs.Acting.{IsWanting}
use Rattle.std.proofs.Common.{ap, refl, sym, ◌∙◌, subst}
use Rattle.qc_net.specs.Courier.{held_of, link_of}
use Rattle.qc_script.proofs.Managing.{is_manager}
use Rattle.qc_script.specs.Managers.{manager_for}
use Rattle.qc_session.proofs.Going.{went_by, went_looking, went_on_from}
use Rattle.qc_session.proofs.managers.commit_manager.Goals as goal
use Rattle.qc_session.proofs.Knowing.{seen_legal}

pub abort_manager-requires : goal.abort_manager-requires
abort_manager-requires g c =
    let v = c.args.line.now.pass in
    let u = c.end-ended.new.self.pass in
    let r = subst (Refused (against_commit c.args.name.now) c.args.line.now.pass c.end-ended.new.self.pass) (is_told c.in-Err.no c.in-Some.ancestor (sym c.orphan_told.ensures ∙ c.in-Some.is)) c.in-Err.ensures.err in
    let runs = c.requires.answered.running in
    let walk = of_looked v u r.0 in
    let orphan = dead_orphan (setting_of g.N.Store.table g.N.Store.base) v u c.args.name.now (manager_for c.args.what.now) (is_manager c.args.what.now) runs (seen_legal c.end-ended.new.self.known) walk c.in-Some.ancestor r in
    record {
      may = record {
        running = running_on (setting_of g.N.Store.table g.N.Store.base) v u c.args.name.now (manager_for c.args.what.now) (is_manager c.args.what.now) runs (seen_legal c.end-ended.new.self.known) walk r.0.0;
        licensed = orphan.orphan;
        shortest = orphan.shortest;
      };
    }

pub returns-in-Ok-clause-ok : goal.returns-in-Ok-clause-ok
returns-in-Ok-clause-ok g c = (refl, of_entered (against_commit c.args.name.now) (event.End c.args.name.now (Commits c.args.answer.now)) c.args.line.now.pass c.end-ended.new.self.pass (c.in-Ok.ensures.ok))

pub returns-in-Ok-abort_manager-clause-err : goal.returns-in-Ok-abort_manager-clause-err
returns-in-Ok-abort_manager-clause-err g c =
    let v = c.args.line.now.pass in
    let u = c.end-ended.new.self.pass in
    let w = c.abort_manager.new.line.pass in
    let r = subst (Refused (against_commit c.args.name.now) c.args.line.now.pass c.end-ended.new.self.pass) (is_told c.in-Err.no c.in-Some.ancestor (sym c.orphan_told.ensures ∙ c.in-Some.is)) c.in-Err.ensures.err in
    let walk = of_looked v u r.0 in
    let ends = c.in-Ok-abort_manager.ensures.ok in
    let orphan = dead_orphan (setting_of g.N.Store.table g.N.Store.base) v u c.args.name.now (manager_for c.args.what.now) (is_manager c.args.what.now) c.requires.answered.running (seen_legal c.end-ended.new.self.known) walk c.in-Some.ancestor r in
    (not_closed_on v u w c.args.name.now c.in-Some.ancestor walk ends, orphan_at_end u w c.args.name.now c.in-Some.ancestor ends orphan)

pub returns-in-Err-abort_manager-clause-err : goal.returns-in-Err-abort_manager-clause-err
returns-in-Err-abort_manager-clause-err g c =
    let v = c.args.line.now.pass in
    let u = c.end-ended.new.self.pass in
    let w = c.abort_manager.new.line.pass in
    let r = subst (Refused (against_commit c.args.name.now) c.args.line.now.pass c.end-ended.new.self.pass) (is_told c.in-Err.no c.in-Some.ancestor (sym c.orphan_told.ensures ∙ c.in-Some.is)) c.in-Err.ensures.err in
    let short = c.in-Err-abort_manager.short in
    wanting_on v u w c.args.name.now short (of_looked v u r.0) c.in-Err-abort_manager.ensures.err

pub returns-in-None-clause-err : goal.returns-in-None-clause-err
returns-in-None-clause-err g c =
    let v = c.args.line.now.pass in
    let u = c.end-ended.new.self.pass in
    let r = c.in-Err.ensures.err in
    subst (IsWanting v u) (sym c.short_of.ensures) (commit_wanting c.args.name.now v u c.in-Err.no r)

pub returns-in-Ok-clause-went : goal.returns-in-Ok-clause-went
returns-in-Ok-clause-went g c =
    let v = c.args.line.now.pass in
    let line = c.end-ended.new.self in
    let s = c.in-Ok.ensures.ok in
    let runs = c.requires.answered.running in
    went_by (setting_of g.N.Store.table g.N.Store.base) v line.pass (λ k. (g.L.Link.view (link_of k)).plan) _ (of_entered (against_commit c.args.name.now) (event.End c.args.name.now (Commits c.args.answer.now)) v line.pass s) c.end-ended.ensures.rest line.known (held_of line.courier) line.keeps
    (λ was. manager_tidy (setting_of g.N.Store.table g.N.Store.base) v line.pass (seen_legal line.known) (ap (λ (x : View). x.number) s.3) was (event.End c.args.name.now (Commits c.args.answer.now)) s.0 s.1 (ap (λ (x : View). x.seen) s.3) c.args.name.now (Commits c.args.answer.now) refl (manager_mine v.number v.seen c.args.name.now (manager_for c.args.what.now) (is_manager c.args.what.now) runs) runs.children_ended)

pub returns-in-Ok-abort_manager-clause-went : goal.returns-in-Ok-abort_manager-clause-went
returns-in-Ok-abort_manager-clause-went g c =
    let v = c.args.line.now.pass in
    let line = c.end-ended.new.self in
    went_on_from (setting_of g.N.Store.table g.N.Store.base) v line.pass c.abort_manager.new.line.pass (λ k. (g.L.Link.view (link_of k)).plan) line.known (of_looked v line.pass c.in-Err.ensures.err.0) c.end-ended.ensures.rest c.abort_manager.ensures.went

pub returns-in-Err-abort_manager-clause-went : goal.returns-in-Err-abort_manager-clause-went
returns-in-Err-abort_manager-clause-went g c =
    let v = c.args.line.now.pass in
    let line = c.end-ended.new.self in
    went_on_from (setting_of g.N.Store.table g.N.Store.base) v line.pass c.abort_manager.new.line.pass (λ k. (g.L.Link.view (link_of k)).plan) line.known (of_looked v line.pass c.in-Err.ensures.err.0) c.end-ended.ensures.rest c.abort_manager.ensures.went

pub returns-in-None-clause-went : goal.returns-in-None-clause-went
returns-in-None-clause-went g c =
    let v = c.args.line.now.pass in
    let line = c.end-ended.new.self in
    went_looking (setting_of g.N.Store.table g.N.Store.base) v line.pass (λ k. (g.L.Link.view (link_of k)).plan) (of_looked v line.pass c.in-Err.ensures.err.0) c.end-ended.ensures.rest line.known (held_of line.courier) line.keeps
