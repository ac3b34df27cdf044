use Rattle.std.proofs.Common.{◌≡◌, ◌⊎◌, inr, ◌<◌, ◌++◌, length, sym, ap, ◌∙◌, subst, arith}
use Rattle.std.specs.Prelude.{None, Some, IfSome, option_to_list}
use Rattle.qc_event.specs.History.{grants}
use Rattle.qc_desk.specs.declared.view.View.{View}
use Rattle.qc_desk.specs.Entries.{IsOlder}
use Rattle.qc_site.proofs.Backs.{on_err}
use Rattle.qc_event.specs.Tables.{setting_of}
use Rattle.qc_site.specs.AtDesk.{LeavesKnown}
use Rattle.qc_site.specs.Replica.{HasRoomFor, IsKept, IsTableOf, Standing}
use Rattle.qc_site.proofs.Replicas.{granted_last, kept_granted, kept_on, leaves_known, looked_none, older_entered, only_looks, table_granted}
use Rattle.qc_site.proofs.replica.Replica.append.Goals as goal
use Rattle.qc_site.proofs.replica.Replica.append.Goals.{in-Some-1, in-None-1}

pub invariant_of-self : goal.invariant_of-self
invariant_of-self g c =
    let setting = setting_of g.N.Store.table g.N.Store.base in
    let was = c.self.invariant in
    kept_on setting g.row.C c.self.inside.pass _ c.append.ensures.known.0.legal
    (looked_none setting g.row.C c.self.inside.pass _ was.number c.append.ensures.known.0.legal c.in_err-append.ensures.err.0)
    c.append.ensures.known.0 c.self.inside.start.items c.self.inside.locks c.self.inside.hand was

pub invariant_of-self-in-Some-take-2 : goal.invariant_of-self-in-Some-take-2
invariant_of-self-in-Some-take-2 g c =
    let setting = setting_of g.N.Store.table g.N.Store.base in
    let v = c.self.inside.pass in
    let w = c.append.new.pass in
    let start = c.self.inside.start.items in
    let t = c.in-Some-take.locks in
    let grant = c.in-Some.grant in
    let was = subst (λ o. IsKept setting g.row.C v start c.self.inside.locks o) c.in-Some.is c.self.invariant in
    let had : IsTableOf start v.seen g.row.C t = subst (λ o. IfSome o (IsTableOf start v.seen g.row.C)) (sym c.take.ensures.value ∙ c.in-Some-take.is) was.kept in
    let room : HasRoomFor t grant = subst (λ o. IfSome o (λ l. HasRoomFor l grant)) (sym c.take.ensures.value ∙ c.in-Some-take.is) was.room in
    let within : grant.rec < length t.held = omega (arith, room.within, c.hold.ensures.lists) in
    kept_granted setting g.row.C v w grant start was.number c.append.ensures.known.0.legal c.in_ok-append.ensures.ok c.append.ensures.known.0 c.self.inside.locks (Some c.hold.new.self)
    (table_granted setting g.row.C v w grant start was.number c.append.ensures.known.0.legal c.in_ok-append.ensures.ok t c.hold.new.self within c.hold.ensures.granted had)
    was

pub returns-in_err-append-clause-err : goal.returns-in_err-append-clause-err
returns-in_err-append-clause-err g c =
    let setting = setting_of g.N.Store.table g.N.Store.base in
    let was = c.self.invariant in
    let looked = c.in_err-append.ensures.err.0 in
    on_err c.from_residual.result (only_looks setting g.row.C c.args.self.now _ c.self.inside.pass (ap (λ (x : Standing). x.pass) c.self.view_is) c.append.ensures.known.0.legal
    (looked_none setting g.row.C c.self.inside.pass _ was.number c.append.ensures.known.0.legal looked) (ap (λ (x : View). x.mine) looked.1))

pub returns-in-Some-take-clause-grants : goal.returns-in-Some-take-clause-grants
returns-in-Some-take-clause-grants g c =
    let setting = setting_of g.N.Store.table g.N.Store.base in
    let now = λ (x : Standing). grants x.pass.seen g.row.C in
    let last = granted_last setting g.row.C c.self.inside.pass c.append.new.pass c.in-Some.grant c.self.invariant.number c.append.ensures.known.0.legal c.in_ok-append.ensures.ok
    ∙ (λ i. now (c.self.view_is i) ++ option_to_list ((sym c.in-Some.is ∙ ap (λ (x : Standing). x.hand) c.self.view_is) i)) in
    elim c.match-self-2.branch [
      | in-Some-1 w ↦ ap now w.self-is ∙ last
      | in-None-1 w ↦ ap now w.self-is ∙ last
    ]

pub returns-in_default-take-clause-grants : goal.returns-in_default-take-clause-grants
returns-in_default-take-clause-grants g c =
    let setting = setting_of g.N.Store.table g.N.Store.base in
    let now = λ (x : Standing). grants x.pass.seen g.row.C in
    let last = granted_last setting g.row.C c.self.inside.pass c.append.new.pass c.in-Some.grant c.self.invariant.number c.append.ensures.known.0.legal c.in_ok-append.ensures.ok
    ∙ (λ i. now (c.self.view_is i) ++ option_to_list ((sym c.in-Some.is ∙ ap (λ (x : Standing). x.hand) c.self.view_is) i)) in
    last

pub returns-in-Some-take-clause-seen : goal.returns-in-Some-take-clause-seen
returns-in-Some-take-clause-seen g c =
    let old = subst (λ (x : Standing). IsOlder x.pass.seen c.append.new.pass.seen) c.self.view_is (older_entered c.self.inside.pass c.append.new.pass _ c.in_ok-append.ensures.ok) in
    let on = λ (x : Standing). IsOlder c.args.self.now.pass.seen x.pass.seen in
    elim c.match-self-2.branch [
      | in-Some-1 w ↦ subst on (sym w.self-is) old
      | in-None-1 w ↦ subst on (sym w.self-is) old
    ]

pub returns-in_default-take-clause-seen : goal.returns-in_default-take-clause-seen
returns-in_default-take-clause-seen g c =
    let old = subst (λ (x : Standing). IsOlder x.pass.seen c.append.new.pass.seen) c.self.view_is (older_entered c.self.inside.pass c.append.new.pass _ c.in_ok-append.ensures.ok) in
    old

pub returns-in-Some-take-clause-known : goal.returns-in-Some-take-clause-known
returns-in-Some-take-clause-known g c =
    let setting = setting_of g.N.Store.table g.N.Store.base in
    let w = c.append.new.pass in
    let is = c.in_ok-append.ensures.ok.3 in
    let leaves = inr (leaves_known setting g.row.C w c.append.new.seer (ap (λ (x : View). x.live) is ∙ c.self.invariant.live) (ap (λ (x : View). x.number) is ∙ c.self.invariant.number) c.append.ensures.known) in
    let on = λ (x : Standing). (c.args.self.now.hand ≡ None) ⊎ LeavesKnown setting g.row.C x.pass c.append.new.seer in
    elim c.match-self-2.branch [
      | in-Some-1 w ↦ subst on (sym w.self-is) leaves
      | in-None-1 w ↦ subst on (sym w.self-is) leaves
    ]

pub returns-in_default-take-clause-known : goal.returns-in_default-take-clause-known
returns-in_default-take-clause-known g c =
    let setting = setting_of g.N.Store.table g.N.Store.base in
    let w = c.append.new.pass in
    let is = c.in_ok-append.ensures.ok.3 in
    let leaves = inr (leaves_known setting g.row.C w c.append.new.seer (ap (λ (x : View). x.live) is ∙ c.self.invariant.live) (ap (λ (x : View). x.number) is ∙ c.self.invariant.number) c.append.ensures.known) in
    leaves
