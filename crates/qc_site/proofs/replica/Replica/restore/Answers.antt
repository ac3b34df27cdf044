use Rattle.std.proofs.Common.{◌<◌, List, length, sym, ap, ◌∙◌, subst}
use Rattle.std.specs.List.{All}
use Rattle.qc_config.specs.declared.tuple.Tuple.{Tuple}
use Rattle.qc_event.specs.declared.event.Grant.{Grant}
use Rattle.qc_event.specs.History.{grants}
use Rattle.qc_event.specs.Tables.{setting_of}
use Rattle.qc_desk.proofs.Known.{known_again}
use Rattle.qc_moss.specs.Follows.{TableFollows}
use Rattle.qc_site.specs.Replica.{Standing}
use Rattle.qc_site.proofs.Again.{grants_within}
use Rattle.qc_site.proofs.Replicas.{kept_restored}
use Rattle.qc_site.proofs.replica.Replica.restore.Goals as goal

pub replay_locks-requires : goal.replay_locks-requires
replay_locks-requires g c =
    let setting = setting_of g.N.Store.table g.N.Store.base in
    let was = c.self.invariant in
    subst (λ (gs : List Grant). All (λ (x : Grant). x.rec < length c.in_ok-to_vec.field-0.items) gs) (sym (c.requires.given ∙ sym (ap (λ (x : Standing). grants x.pass.seen g.row.C) c.self.view_is)))
    (subst (λ (row : List Tuple). All (λ (x : Grant). x.rec < length row) (grants c.self.inside.pass.seen g.row.C)) (sym (c.in_ok-to_vec.ensures.items_if_clones_equal (λ x y is. is) ∙ c.deref.ensures.value ∙ was.starts))
    (grants_within setting c.self.inside.pass.seen g.row.C c.requires.proper (known_again setting c.self.inside.pass was.known).legal))

pub invariant_of-self : goal.invariant_of-self
invariant_of-self g c =
    let setting = setting_of g.N.Store.table g.N.Store.base in
    let past = c.self.inside.pass.seen in
    let t = c.in_ok-locks.locks in
    let given = c.requires.given ∙ sym (ap (λ (x : Standing). grants x.pass.seen g.row.C) c.self.view_is) in
    kept_restored setting g.row.C c.self.inside.pass c.self.inside.start.items c.self.inside.locks c.self.inside.hand t
    (ap (λ (x : Standing). x.hand) c.self.view_is ∙ c.requires.none)
    record {
      same_start = c.in_ok-locks.ensures.start ∙ c.in_ok-to_vec.ensures.items_if_clones_equal (λ x y is. is) ∙ c.deref.ensures.value;
      follows = subst (λ gs. TableFollows past gs t) given (c.in_ok-locks.ensures.follows past);
    }
    c.self.invariant
