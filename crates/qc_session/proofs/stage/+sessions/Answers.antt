-- A session ran, and those after it.
use Rattle.std.proofs.Common.{◌≡◌, ◌+◌, ◌-◌, ◌<◌, ◌≤◌, ℕ, true, List, [], ◌∷◌, length, map, take, drop, get_or, refl, sym, ap, ◌∙◌, subst, arith, Ok, Result}
use Rattle.std.proofs.lemmas.List.{take_all}
use Rattle.qc_event.specs.Base.{Setting}
use Rattle.qc_event.specs.declared.short.Short.{Short}
use Rattle.qc_event.specs.Tables.{setting_of}
use Rattle.qc_desk.specs.declared.view.View.{View}
use Rattle.qc_desk.specs.Entries.{IsOlder, entries_of}
use Rattle.qc_desk.specs.Rules.{AreKin, IsSplit, joined, knows}
use Rattle.qc_script.specs.declared.script.Session.{Session}
use Rattle.qc_script.specs.Steps.{plan_of_session}
use Rattle.qc_session.specs.Session.{IsFirst, RanEach, RanOne, first_want}
use Rattle.qc_session.proofs.Joining.{each_ran, new_pass, none_left}
use Rattle.qc_session.proofs.stage.+sessions.Goals as goal

no_sessions : (ss : List Session) → length ss < 1 → ss ≡ []
no_sessions [] few = refl
no_sessions (s ∷ ss) few = let z : ⊥ = omega (arith, few) in absurd z

parted : (ss : List Session) (item : Session) → 1 ≤ length ss → item ≡ get_or ss 0 item → item ∷ take (length ss - 1) (drop 1 ss) ≡ ss
parted [] item some is = let z : ⊥ = omega (arith, some) in absurd z
parted (s ∷ rest) item some is = ap (λ x. x ∷ take (length (s ∷ rest) - 1) rest) is ∙ ap (λ l. s ∷ l) (take_all (length (s ∷ rest) - 1) rest (omega arith))

-- what the first of some sessions left, and the others
both : (setting : Setting) (epoch patience number : ℕ) (ss : List Session) (item : Session) (first split given back mid now : View) (ran rest : Result (Unit {0}) Short)
    → 1 ≤ length ss → item ≡ get_or ss 0 item → IsFirst first → IsSplit first split given → (given.live ≡ true → given.mine ≡ entries_of given.number given.seen)
    → RanOne setting epoch patience number (plan_of_session item) given ran back
    → RanEach setting epoch patience (number + 1) (map plan_of_session (take (length ss - 1) (drop 1 ss))) split rest mid
    → (back.live ≡ true → back.mine ≡ entries_of back.number back.seen) → AreKin back.kin back.seen → now ≡ knows now.seen (joined mid back) → IsOlder mid.seen now.seen × IsOlder back.seen now.seen
    → RanEach setting epoch patience number (map plan_of_session ss) first (first_want ran rest) now
both setting epoch patience number ss item first split given back mid now ran rest some is fresh splits known one others knew kin joins seen =
    subst (λ (l : List Session). RanEach setting epoch patience number (map plan_of_session l) first (first_want ran rest) now) (parted ss item some is)
    (each_ran setting epoch patience number (plan_of_session item) (map plan_of_session (take (length ss - 1) (drop 1 ss))) first split given back mid now fresh splits (new_pass first split given fresh splits known)
    one.number one.high one.none (knew one.live) kin joins seen.0 seen.1 ran rest one others)

pub Stage::run_from-returns-in_default : goal.Stage::run_from-returns-in_default
Stage::run_from-returns-in_default g t c =
    let setting = setting_of g.N.Store.table g.N.Store.base in
    let epoch = c.args.self.now.system.now.desk.epoch in
    let patience = c.args.self.now.script.now.patience in
    subst (λ (ss : List Session). RanEach setting epoch patience c.args.number (map plan_of_session ss) c.args.first (Ok tt) c.args.first) (sym (no_sessions c.args.sessions.now (omega (arith, c.in_default.len_below))))
    (none_left setting epoch patience c.args.number c.args.first c.requires.first)

pub Stage::run_from-returns : goal.Stage::run_from-returns
Stage::run_from-returns g t c =
    let setting = setting_of g.N.Store.table g.N.Store.base in
    let epoch = c.args.self.now.system.now.desk.epoch in
    let patience = c.args.self.now.script.now.patience in
    let ran = c.run_both-pass.result in
    subst (λ (r : Result (Unit {0}) Short). RanEach setting epoch patience c.args.number (map plan_of_session c.args.sessions.now) c.args.first r c.join.new.pass) (sym c.first_want.ensures)
    (both setting epoch patience c.args.number c.args.sessions.now c.session-item.result c.args.first c.split-pass.new.pass c.split-pass.result ran.0.1 ran.1.1 c.join.new.pass ran.0.0 ran.1.0 (omega (arith, c.in-len1-up.len_at_least)) c.session-item.is
    c.requires.first c.split-pass.ensures.split c.split-pass.ensures.known.1.mine c.run_both-pass.ensures.one c.run_both-pass.ensures.others c.run_both-pass.ensures.one.known.mine c.run_both-pass.ensures.one.known.kin c.join.ensures.joined c.join.ensures.seen)
