use Rattle.std.proofs.Common.{◌≡◌, ◌++◌, refl, sym, ap, ◌∙◌, subst, inl, inr}
use Rattle.std.specs.Prelude.{Ok, Some, is_some}
use Rattle.qc_event.specs.declared.event.Answered.TheVariants.{Granted}
use Rattle.qc_event.specs.Tables.{setting_of}
use Rattle.qc_journal.specs.Journal.{disk_of}
use Rattle.qc_ledger.proofs.Passes.{sees_on}
use Rattle.qc_desk.specs.declared.consult.Consulted.TheVariants.{Fresh}
use Rattle.qc_site.specs.AtDesk.{hand_after, told_entries}
use Rattle.qc_site.specs.Calls.{empty_handed, site_state, HasEnded, SiteState}
use Rattle.qc_site.specs.Log.{log_journal}
use Rattle.qc_site.specs.Sites.{IsTooLongFor}
use Rattle.qc_site.specs.declared.serve.ServeNo.TheVariants.{Down, Full}
use Rattle.qc_site.proofs.Again.{err_or_again, fresh_or_again, one_tuple}
use Rattle.qc_site.proofs.Calls.{asks, became_on, looked, serves_on}
use Rattle.qc_site.proofs.Refusals.{handed_refusal, same_refusal, short_not, short_says}
use Rattle.qc_site.proofs.site.Site.grant.Goals as goal

-- WHERE MEMORY OR ROOM IS WANTING

pub returns-in_err-told-clause-refused : goal.returns-in_err-told-clause-refused
returns-in_err-told-clause-refused g c =
    let new : SiteState g.D.Disk = record { log = c.args.self.now.log; replica = c.consult.new.self; strange = is_some c.args.self.now.strange } in
    short_says new c.in_err-told.field-0.0 c.from_residual.result c.from_residual.ensures.1 c.in_err-told.ensures.want

pub returns-in_err-told-clause-became : goal.returns-in_err-told-clause-became
returns-in_err-told-clause-became g c =
    let setting = setting_of g.N.Store.table g.N.Store.base in
    let law = g.met.D.Disk.leaves_now (disk_of (log_journal c.args.self.now.log)) in
    asks setting g.row.C c.args.ask.now _ _ (looked setting g.row.C (site_state c.args.self.now) _ law refl refl (c.in_err-told.ensures.none ∙ sym c.requires.ready.none) c.consult.ensures.grants c.consult.ensures.seen)

pub returns-in_err-told-clause-again : goal.returns-in_err-told-clause-again
returns-in_err-told-clause-again g c = λ tuple told. absurd (err_or_again c.consult.result c.in_err-told.field-0.0 tuple c.in_err-told.was (c.consult.ensures.again tuple told))

-- A REPEAT

pub returns-in-Again-clause-served : goal.returns-in-Again-clause-served
returns-in-Again-clause-served g c = record {
  enters = inl (inl (c.in_ok-told.ensures.enters ∙ ap (λ x. told_entries g.row.C c.args.ask.now x ++ c.args.self.now.replica.pass.mine) c.in-Again.is));
  rests = (
    record { up = c.consult.ensures.up; none = c.in_ok-told.ensures.hand ∙ ap (hand_after c.args.ask.now) c.in-Again.is },
    c.consult.ensures.granted c.in-Again.tuple (c.in_ok-told.was ∙ ap (λ x. Ok x) c.in-Again.is),
  );
  shown = c.consult.ensures.same;
}

pub returns-in-Again-clause-again : goal.returns-in-Again-clause-again
returns-in-Again-clause-again g c = λ tuple told. (
  ap (λ t. Ok (Granted t)) (one_tuple c.consult.result c.in-Again.tuple tuple (c.in_ok-told.was ∙ ap (λ x. Ok x) c.in-Again.is) (c.consult.ensures.again tuple told)),
  refl,
  c.in_ok-told.ensures.enters ∙ ap (λ x. told_entries g.row.C c.args.ask.now x ++ c.args.self.now.replica.pass.mine) c.in-Again.is,
)

pub returns-in-Again-clause-became : goal.returns-in-Again-clause-became
returns-in-Again-clause-became g c =
    let setting = setting_of g.N.Store.table g.N.Store.base in
    let law = g.met.D.Disk.leaves_now (disk_of (log_journal c.args.self.now.log)) in
    let none = c.in_ok-told.ensures.hand ∙ ap (hand_after c.args.ask.now) c.in-Again.is in
    asks setting g.row.C c.args.ask.now _ _ (looked setting g.row.C (site_state c.args.self.now) _ law refl refl (none ∙ sym c.requires.ready.none) c.consult.ensures.grants c.consult.ensures.seen)

-- WHAT IS FREE

pub returns-in_err-admit-in-Free-clause-again : goal.returns-in_err-admit-in-Free-clause-again
returns-in_err-admit-in-Free-clause-again g c = λ tuple told. absurd (fresh_or_again c.consult.result c.in-Fresh.verdict tuple (c.in_ok-told.was ∙ ap (λ x. Ok x) c.in-Fresh.is) (c.consult.ensures.again tuple told))

pub returns-in_ok-admit-in-Free-clause-again : goal.returns-in_ok-admit-in-Free-clause-again
returns-in_ok-admit-in-Free-clause-again g c = λ tuple told. absurd (fresh_or_again c.consult.result c.in-Fresh.verdict tuple (c.in_ok-told.was ∙ ap (λ x. Ok x) c.in-Fresh.is) (c.consult.ensures.again tuple told))

pub returns-in_ok-admit-in-Free-clause-served : goal.returns-in_ok-admit-in-Free-clause-served
returns-in_ok-admit-in-Free-clause-served g c =
    let old = site_state c.args.self.now in
    let told : SiteState g.D.Disk = record { log = old.log; replica = c.consult.new.self; strange = old.strange } in
    let before = c.in_ok-told.ensures.enters ∙ ap (λ x. told_entries g.row.C c.args.ask.now x ++ old.replica.pass.mine) (c.in-Fresh.is ∙ ap (λ x. Fresh x) c.in-Free.is) in
    serves_on g.row.C c.args.ask.now c.admit.new.seer old (empty_handed told) (site_state c.admit.new.self) (Granted c.in-Free.tuple) (inl before) refl c.in_ok-admit-in-Free.ensures.served

pub returns-in_ok-admit-in-Free-clause-became : goal.returns-in_ok-admit-in-Free-clause-became
returns-in_ok-admit-in-Free-clause-became g c =
    let setting = setting_of g.N.Store.table g.N.Store.base in
    let old = site_state c.args.self.now in
    let told : SiteState g.D.Disk = record { log = old.log; replica = c.consult.new.self; strange = old.strange } in
    let law = g.met.D.Disk.leaves_now (disk_of (log_journal old.log)) in
    became_on setting g.row.C (Some c.args.ask.now) old (empty_handed told) (site_state c.admit.new.self) law
    (looked setting g.row.C old (empty_handed told) law refl refl (sym c.requires.ready.none) c.consult.ensures.grants c.consult.ensures.seen) c.admit.ensures.became

pub returns-in_err-admit-in-Free-clause-became : goal.returns-in_err-admit-in-Free-clause-became
returns-in_err-admit-in-Free-clause-became g c =
    let setting = setting_of g.N.Store.table g.N.Store.base in
    let old = site_state c.args.self.now in
    let told : SiteState g.D.Disk = record { log = old.log; replica = c.consult.new.self; strange = old.strange } in
    let law = g.met.D.Disk.leaves_now (disk_of (log_journal old.log)) in
    became_on setting g.row.C (Some c.args.ask.now) old (empty_handed told) (site_state c.admit.new.self) law
    (looked setting g.row.C old (empty_handed told) law refl refl (sym c.requires.ready.none) c.consult.ensures.grants c.consult.ensures.seen) c.admit.ensures.became

pub returns-in_err-admit-in-Free-clause-seer : goal.returns-in_err-admit-in-Free-clause-seer
returns-in_err-admit-in-Free-clause-seer g c = sees_on c.args.seer.now c.consult.new.seer c.admit.new.seer c.consult.ensures.seer c.admit.ensures.seer

pub returns-in_ok-admit-in-Free-clause-seer : goal.returns-in_ok-admit-in-Free-clause-seer
returns-in_ok-admit-in-Free-clause-seer g c = sees_on c.args.seer.now c.consult.new.seer c.admit.new.seer c.consult.ensures.seer c.admit.ensures.seer

-- WHAT IS REFUSED

pub returns-in-Blocked-clause-again : goal.returns-in-Blocked-clause-again
returns-in-Blocked-clause-again g c = λ tuple told. absurd (fresh_or_again c.consult.result c.in-Fresh.verdict tuple (c.in_ok-told.was ∙ ap (λ x. Ok x) c.in-Fresh.is) (c.consult.ensures.again tuple told))

pub returns-in-Dead-clause-again : goal.returns-in-Dead-clause-again
returns-in-Dead-clause-again g c = λ tuple told. absurd (fresh_or_again c.consult.result c.in-Fresh.verdict tuple (c.in_ok-told.was ∙ ap (λ x. Ok x) c.in-Fresh.is) (c.consult.ensures.again tuple told))

pub returns-in-Blocked-clause-served : goal.returns-in-Blocked-clause-served
returns-in-Blocked-clause-served g c =
    let told = c.in-Fresh.is ∙ ap (λ x. Fresh x) c.in-Blocked.is in
    record {
      enters = record {
        mid = c.args.self.now.replica.pass.mine;
        first_of_all = inl refl;
        all = c.in_ok-told.ensures.enters ∙ ap (λ x. told_entries g.row.C c.args.ask.now x ++ c.args.self.now.replica.pass.mine) told;
      };
      rests = record { up = c.consult.ensures.up; none = c.in_ok-told.ensures.hand ∙ ap (hand_after c.args.ask.now) told };
      shown = c.consult.ensures.same;
    }

pub returns-in-Blocked-clause-became : goal.returns-in-Blocked-clause-became
returns-in-Blocked-clause-became g c =
    let setting = setting_of g.N.Store.table g.N.Store.base in
    let law = g.met.D.Disk.leaves_now (disk_of (log_journal c.args.self.now.log)) in
    let none = c.in_ok-told.ensures.hand ∙ ap (hand_after c.args.ask.now) (c.in-Fresh.is ∙ ap (λ x. Fresh x) c.in-Blocked.is) in
    asks setting g.row.C c.args.ask.now _ _ (looked setting g.row.C (site_state c.args.self.now) _ law refl refl (none ∙ sym c.requires.ready.none) c.consult.ensures.grants c.consult.ensures.seen)

pub returns-in-Dead-clause-served : goal.returns-in-Dead-clause-served
returns-in-Dead-clause-served g c =
    let told = c.in-Fresh.is ∙ ap (λ x. Fresh x) c.in-Dead.is in
    record {
      enters = record {
        mid = c.args.self.now.replica.pass.mine;
        first_of_all = inl refl;
        all = c.in_ok-told.ensures.enters ∙ ap (λ x. told_entries g.row.C c.args.ask.now x ++ c.args.self.now.replica.pass.mine) told;
      };
      rests = record { up = c.consult.ensures.up; none = c.in_ok-told.ensures.hand ∙ ap (hand_after c.args.ask.now) told };
      shown = c.consult.ensures.same;
    }

pub returns-in-Dead-clause-became : goal.returns-in-Dead-clause-became
returns-in-Dead-clause-became g c =
    let setting = setting_of g.N.Store.table g.N.Store.base in
    let law = g.met.D.Disk.leaves_now (disk_of (log_journal c.args.self.now.log)) in
    let none = c.in_ok-told.ensures.hand ∙ ap (hand_after c.args.ask.now) (c.in-Fresh.is ∙ ap (λ x. Fresh x) c.in-Dead.is) in
    asks setting g.row.C c.args.ask.now _ _ (looked setting g.row.C (site_state c.args.self.now) _ law refl refl (none ∙ sym c.requires.ready.none) c.consult.ensures.grants c.consult.ensures.seen)

pub returns-in_err-admit-in-Free-clause-cause : goal.returns-in_err-admit-in-Free-clause-cause
returns-in_err-admit-in-Free-clause-cause g c = record {
  later = c.admit.ensures.cause.later;
  failed = λ down. c.in_err-admit-in-Free.ensures.cause.failed (same_refusal c.from_residual-in_err-admit-in-Free.result c.in_err-admit-in-Free.field-0.0 Down c.from_residual-in_err-admit-in-Free.ensures.1 down);
}

pub returns-in_err-admit-in-Free-clause-counts_once : goal.returns-in_err-admit-in-Free-clause-counts_once
returns-in_err-admit-in-Free-clause-counts_once g c = record {
  once = c.admit.ensures.counts_once.once;
  spared = λ never. c.in_err-admit-in-Free.ensures.counts_once.spared (λ down.
      never (handed_refusal c.from_residual-in_err-admit-in-Free.result c.in_err-admit-in-Free.field-0.0 Down c.from_residual-in_err-admit-in-Free.ensures.1 down));
}

pub returns-in_err-admit-in-Free-clause-full : goal.returns-in_err-admit-in-Free-clause-full
returns-in_err-admit-in-Free-clause-full g c = λ full.
    c.in_err-admit-in-Free.ensures.full (same_refusal c.from_residual-in_err-admit-in-Free.result c.in_err-admit-in-Free.field-0.0 Full c.from_residual-in_err-admit-in-Free.ensures.1 full)

pub returns-in_err-told-clause-full : goal.returns-in_err-told-clause-full
returns-in_err-told-clause-full g c = λ full. absurd (short_not c.in_err-told.field-0.0 Full c.from_residual.result (λ same. cc) c.from_residual.ensures.1 full)

pub returns-in_ok-admit-in-Free-clause-counts_once : goal.returns-in_ok-admit-in-Free-clause-counts_once
returns-in_ok-admit-in-Free-clause-counts_once g c = record { once = c.in_ok-admit-in-Free.ensures.counts_once.once; spared = λ never. c.in_ok-admit-in-Free.ensures.counts_once.spared (λ failed. absurd cc) }

pub returns-in-Again-clause-fits : goal.returns-in-Again-clause-fits
returns-in-Again-clause-fits g c = λ tuple is.
    inl (c.in_ok-told.ensures.enters ∙ ap (λ x. told_entries g.row.C c.args.ask.now x ++ c.args.self.now.replica.pass.mine) c.in-Again.is)

pub returns-in_ok-admit-in-Free-clause-fits : goal.returns-in_ok-admit-in-Free-clause-fits
returns-in_ok-admit-in-Free-clause-fits g c = λ tuple is.
    let same : c.in-Free.tuple ≡ tuple = cc in
    inr (subst (λ t. IsTooLongFor c.args.self.now.log c.args.ask.now t → ⊥) same c.in_ok-admit-in-Free.ensures.fits)

pub returns-in_ok-admit-in-Free-clause-cause : goal.returns-in_ok-admit-in-Free-clause-cause
returns-in_ok-admit-in-Free-clause-cause g c = record { later = c.in_ok-admit-in-Free.ensures.cause.later; failed = λ failed. absurd cc }

pub returns-in-Again-clause-hand : goal.returns-in-Again-clause-hand
returns-in-Again-clause-hand g c = inl (c.in_ok-told.ensures.hand ∙ ap (hand_after c.args.ask.now) c.in-Again.is)

pub returns-in-Blocked-clause-hand : goal.returns-in-Blocked-clause-hand
returns-in-Blocked-clause-hand g c = inl (c.in_ok-told.ensures.hand ∙ ap (hand_after c.args.ask.now) (c.in-Fresh.is ∙ ap (λ x. Fresh x) c.in-Blocked.is))

pub returns-in-Dead-clause-hand : goal.returns-in-Dead-clause-hand
returns-in-Dead-clause-hand g c = inl (c.in_ok-told.ensures.hand ∙ ap (hand_after c.args.ask.now) (c.in-Fresh.is ∙ ap (λ x. Fresh x) c.in-Dead.is))

pub returns-in-Again-clause-within : goal.returns-in-Again-clause-within
returns-in-Again-clause-within g c = λ tuple is.
    inl (c.in_ok-told.ensures.enters ∙ ap (λ x. told_entries g.row.C c.args.ask.now x ++ c.args.self.now.replica.pass.mine) c.in-Again.is)

pub returns-in_ok-admit-in-Free-clause-within : goal.returns-in_ok-admit-in-Free-clause-within
returns-in_ok-admit-in-Free-clause-within g c = λ tuple is.
    let same : c.in-Free.tuple ≡ tuple = cc in
    inr (subst (λ t. HasEnded c.args.ask.now (site_state c.admit.new.self) t) same c.in_ok-admit-in-Free.ensures.within)
