use Rattle.std.proofs.Common.{refl}
use Rattle.std.specs.Prelude.{None}
use Rattle.std.proofs.lemmas.Bool.{le-leb}
use Rattle.qc_event.specs.Standing.{IsUser}
use Rattle.qc_event.specs.Tables.{setting_of}
use Rattle.qc_event.specs.declared.event.Event.TheVariants as event
use Rattle.qc_desk.specs.Refusing.{against_nothing}
use Rattle.qc_desk.proofs.Calls.{client, after_look}
use Rattle.qc_desk.proofs.Entering.{started_later}
use Rattle.qc_desk.proofs.desk.Desk.mark.Goals as goal

pub append-requires-clause-allowed : goal.append-requires-clause-allowed
append-requires-clause-allowed g c =
    let setting = setting_of g.N.Store.table g.N.Store.base in
    let l = c.look.ensures in
    let s = l.since c.requires.client.0 in
    after_look setting (event.Mark c.args.by.now c.args.session) against_nothing _ _ c.look.new.self _ c.args.pass.now _ None l.same refl c.deref_mut-2.ensures.value refl
    (λ _. record { by_client = client c.args.pass.now c.requires.client; by_user = started_later c.args.pass.now.seen _ c.args.by.now (λ b. IsUser b.kind) (s.0, s.1) c.requires.user; session_small = le-leb c.args.session 15 c.requires.small }) refl
