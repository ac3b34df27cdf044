use Rattle.std.proofs.Common.{inl, inr, refl, sym, ap, ◌∙◌, ◌++◌, subst}
use Rattle.std.specs.Prelude.{Some, IfSome, is_some}
use Rattle.qc_event.specs.Grants.{grant_with}
use Rattle.qc_event.specs.Tables.{setting_of}
use Rattle.qc_journal.specs.Journal.{disk_of}
use Rattle.qc_desk.specs.declared.view.View.{View}
use Rattle.qc_desk.specs.Answers.{IsGranted}
use Rattle.qc_site.specs.AtDesk.{hand_entries}
use Rattle.qc_site.specs.Calls.{empty_handed, site_state, SiteState}
use Rattle.qc_site.specs.Log.{log_journal}
use Rattle.qc_site.specs.declared.serve.ServeNo.TheVariants.{Down, Full}
use Rattle.qc_site.proofs.Calls.{became_last, entered, looked}
use Rattle.qc_site.proofs.Refusals.{short_not, short_says}
use Rattle.qc_site.proofs.site.Site.admit.Goals as goal

pub returns-clause-served : goal.returns-clause-served
returns-clause-served g c =
    let mid = c.write.new.self.replica in
    let hand = c.in_ok-write.ensures.hand ∙ c.requires.hand in
    record {
      enters = inr record {
        mid = c.args.self.now.replica.pass.mine;
        first_of_all = inl refl;
        all = c.in_ok-append.ensures.enters ∙ ap (λ h. hand_entries g.row.C h ++ mid.pass.mine) hand ∙ ap (λ (v : View). hand_entries g.row.C (Some (grant_with c.args.ask.now c.args.tuple.now)) ++ v.mine) c.write.ensures.pass;
      };
      rests = (
        record { up = c.append.ensures.up ∙ c.in_ok-write.ensures.up; none = c.in_ok-append.ensures.none },
        subst (λ h. IfSome h (IsGranted g.row.C c.append.new.self.pass.seen)) hand c.in_ok-append.ensures.granted,
      );
      shown = elim c.append.ensures.same [ inl none ↦ absurd (let never = sym hand ∙ none in cc) | inr same ↦ same ];
    }

pub returns-clause-known : goal.returns-clause-known
returns-clause-known g c =
    let hand = c.in_ok-write.ensures.hand ∙ c.requires.hand in
    elim c.in_ok-append.ensures.known [ inl none ↦ absurd (let never = sym hand ∙ none in cc) | inr known ↦ known ]

pub returns-clause-became : goal.returns-clause-became
returns-clause-became g c =
    let setting = setting_of g.N.Store.table g.N.Store.base in
    let mid = c.write.new.self in
    let law = g.met.D.Disk.leaves_now (disk_of (log_journal mid.log)) in
    became_last setting g.row.C (Some c.args.ask.now) (empty_handed (site_state c.args.self.now)) (site_state mid) _ law c.write.ensures.became
    (entered setting g.row.C (site_state mid) _ law c.in_ok-write.ensures.journal refl refl c.in_ok-append.ensures.none c.in_ok-append.ensures.grants c.append.ensures.seen)

pub returns-in_err-append-clause-became : goal.returns-in_err-append-clause-became
returns-in_err-append-clause-became g c =
    let setting = setting_of g.N.Store.table g.N.Store.base in
    let mid = c.write.new.self in
    let law = g.met.D.Disk.leaves_now (disk_of (log_journal mid.log)) in
    became_last setting g.row.C (Some c.args.ask.now) (empty_handed (site_state c.args.self.now)) (site_state mid) _ law c.write.ensures.became
    (looked setting g.row.C (site_state mid) _ law refl refl c.in_err-append.ensures.kept c.in_err-append.ensures.err.same_grants c.append.ensures.seen)

pub returns-in_err-append-clause-refused : goal.returns-in_err-append-clause-refused
returns-in_err-append-clause-refused g c =
    let new : SiteState g.D.Disk = record { log = c.write.new.self.log; replica = c.append.new.self; strange = is_some c.write.new.self.strange } in
    short_says new c.in_err-append.field-0.0 c.from_residual-in_err-append.result c.from_residual-in_err-append.ensures.1 c.in_err-append.ensures.want

pub returns-in_err-append-clause-cause : goal.returns-in_err-append-clause-cause
returns-in_err-append-clause-cause g c = record {
  later = c.in_ok-write.ensures.cause.later;
  failed = λ failed. absurd (short_not c.in_err-append.field-0.0 Down c.from_residual-in_err-append.result (λ same. cc) c.from_residual-in_err-append.ensures.1 failed);
}

pub returns-in_err-append-clause-counts_once : goal.returns-in_err-append-clause-counts_once
returns-in_err-append-clause-counts_once g c = record {
  once = c.in_ok-write.ensures.counts_once.once;
  spared = λ never. c.in_ok-write.ensures.counts_once.spared (λ failed. absurd cc);
}

pub returns-in_err-append-clause-full : goal.returns-in_err-append-clause-full
returns-in_err-append-clause-full g c = λ failed. absurd (short_not c.in_err-append.field-0.0 Full c.from_residual-in_err-append.result (λ same. cc) c.from_residual-in_err-append.ensures.1 failed)

pub returns-in_err-append-clause-left : goal.returns-in_err-append-clause-left
returns-in_err-append-clause-left g c = inr (inr (c.args.tuple.now, c.in_err-append.ensures.kept ∙ c.in_ok-write.ensures.hand ∙ c.requires.hand))
