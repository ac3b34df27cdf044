use Rattle.std.proofs.Common.{◌≡◌, ◌<◌, ◌++◌, length, sym, ap, ◌∙◌, subst}
use Rattle.std.specs.Prelude.{None, Some, Ok}
use Rattle.qc_event.specs.Grants.{grant_with}
use Rattle.qc_event.specs.History.{grants}
use Rattle.qc_event.specs.Tables.{setting_of}
use Rattle.qc_desk.specs.Consulting.{IsTold}
use Rattle.qc_desk.specs.declared.consult.Consulted.{Consulted}
use Rattle.qc_desk.specs.declared.consult.Consulted.TheVariants as consulted
use Rattle.qc_desk.specs.Answers.{IsGranted}
use Rattle.qc_site.specs.Replica.{IsTableOf, Standing}
use Rattle.qc_site.proofs.Again.{again_granted, again_is_told, again_of, ask_within, granted_earlier}
use Rattle.qc_site.proofs.Replicas.{kept_told, leaves_known, looked_none, same_grants, table_at, told_none}
use Rattle.qc_site.proofs.replica.Replica.consult.Goals as goal

pub invariant_of-self-2 : goal.invariant_of-self-2
invariant_of-self-2 g c =
    let setting = setting_of g.N.Store.table g.N.Store.base in
    let v = c.self.inside.pass in
    let w = c.ask_desk-answer.new.pass in
    let ask = c.args.ask.now in
    let start = c.self.inside.start.items in
    let t = c.ask_desk-answer.new.locks in
    let was = c.self.invariant in
    let known = c.ask_desk-answer.ensures.known.0 in
    let asked = c.ask_desk-answer.ensures in
    let kept : IsTableOf start w.seen g.row.C t = table_at g.N.Store.base start w.seen ask.copy g.row.C t c.requires.copy was.starts asked.locks in
    let within : ask.rec < length t.start = subst (λ row. ask.rec < length row) (sym asked.locks.same_start) (ask_within setting w.seen ask c.requires.proper known.legal asked.asked) in
    kept_told setting g.row.C v w ask start c.self.inside.locks t c.self.inside.hand c.hand_of-self-inside.result c.in_ok-told.told c.requires.copy was.number known asked.asked c.in_ok-told.ensures.told kept within
    (λ tuple is. asked.room tuple (c.in_ok-told.was ∙ ap (λ (x : Consulted). Ok x) is)) c.hand_of-self-inside.ensures was

pub returns-in_err-told-clause-grants : goal.returns-in_err-told-clause-grants
returns-in_err-told-clause-grants g c =
    let setting = setting_of g.N.Store.table g.N.Store.base in
    let v = c.self.inside.pass in
    let w = c.ask_desk-answer.new.pass in
    same_grants setting g.row.C v w c.ask_desk-answer.ensures.known.0.legal (looked_none setting g.row.C v w c.self.invariant.number c.ask_desk-answer.ensures.known.0.legal c.in_err-told.ensures.err)
    ∙ ap (λ (x : Standing). grants x.pass.seen g.row.C) c.self.view_is

pub returns-in_err-told-clause-again : goal.returns-in_err-told-clause-again
returns-in_err-told-clause-again g c = λ tuple told.
    let ask = c.args.ask.now in
    let v = c.self.inside.pass in
    let w = c.ask_desk-answer.new.pass in
    let more = looked_none (setting_of g.N.Store.table g.N.Store.base) g.row.C v w c.self.invariant.number c.ask_desk-answer.ensures.known.0.legal c.in_err-told.ensures.err in
    let before = granted_earlier g.row.C c.args.self.now.pass.seen w.seen ask tuple c.requires.copy (more.newer, more.seen ∙ ap (λ (x : Standing). more.newer ++ x.pass.seen) c.self.view_is) told in
    let none = c.in_err-told.ensures.fresh in
    let never : None ≡ Some tuple = sym none ∙ before in
    absurd cc

pub returns-clause-again : goal.returns-clause-again
returns-clause-again g c = λ tuple told.
    let setting = setting_of g.N.Store.table g.N.Store.base in
    let ask = c.args.ask.now in
    let v = c.self.inside.pass in
    let w = c.ask_desk-answer.new.pass in
    let more = told_none setting g.row.C v w ask c.in_ok-told.told c.self.invariant.number c.ask_desk-answer.ensures.known.0.legal c.in_ok-told.ensures.told in
    let before = granted_earlier g.row.C c.args.self.now.pass.seen w.seen ask tuple c.requires.copy (more.newer, more.seen ∙ ap (λ (x : Standing). more.newer ++ x.pass.seen) c.self.view_is) told in
    sym c.in_ok-told.was ∙ again_is_told setting ask v w c.ask_desk-answer.result tuple c.ask_desk-answer.ensures.told c.ask_desk-answer.ensures.fresh before

pub returns-clause-granted : goal.returns-clause-granted
returns-clause-granted g c = λ tuple again.
    let setting = setting_of g.N.Store.table g.N.Store.base in
    let ask = c.args.ask.now in
    let w = c.ask_desk-answer.new.pass in
    let told : IsTold setting ask c.self.inside.pass w (consulted.Again tuple) = again_of setting ask c.self.inside.pass w c.ask_desk-answer.result tuple c.ask_desk-answer.ensures.told (c.in_ok-told.was ∙ again) in
    subst (λ n. IsGranted n w.seen (grant_with ask tuple)) c.requires.copy (again_granted setting w.seen ask c.ask_desk-answer.ensures.known.0.legal c.ask_desk-answer.ensures.asked tuple told.1)

pub returns-clause-grants : goal.returns-clause-grants
returns-clause-grants g c =
    let setting = setting_of g.N.Store.table g.N.Store.base in
    let v = c.self.inside.pass in
    let w = c.ask_desk-answer.new.pass in
    let more = told_none setting g.row.C v w c.args.ask.now c.in_ok-told.told c.self.invariant.number c.ask_desk-answer.ensures.known.0.legal c.in_ok-told.ensures.told in
    same_grants setting g.row.C v w c.ask_desk-answer.ensures.known.0.legal more ∙ ap (λ (x : Standing). grants x.pass.seen g.row.C) c.self.view_is

pub returns-clause-seen : goal.returns-clause-seen
returns-clause-seen g c =
    let setting = setting_of g.N.Store.table g.N.Store.base in
    let v = c.self.inside.pass in
    let w = c.ask_desk-answer.new.pass in
    let more = told_none setting g.row.C v w c.args.ask.now c.in_ok-told.told c.self.invariant.number c.ask_desk-answer.ensures.known.0.legal c.in_ok-told.ensures.told in
    (more.newer, more.seen ∙ ap (λ (x : Standing). more.newer ++ x.pass.seen) c.self.view_is)

pub returns-clause-may : goal.returns-clause-may
returns-clause-may g c = (invariant_of-self-2 g c).may

pub returns-clause-known : goal.returns-clause-known
returns-clause-known g c =
    let kept = invariant_of-self-2 g c in
    leaves_known (setting_of g.N.Store.table g.N.Store.base) g.row.C c.ask_desk-answer.new.pass c.ask_desk-answer.new.seer kept.live kept.number c.ask_desk-answer.ensures.known
