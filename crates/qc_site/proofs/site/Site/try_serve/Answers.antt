use Rattle.std.proofs.Common.{◌≡◌, ◌⊎◌, inl, inr, sym, ap, ◌∙◌, subst}
use Rattle.std.specs.Prelude.{Err, Some, is_some}
use Rattle.qc_event.specs.Grants.{grant_with}
use Rattle.qc_event.specs.Tables.{setting_of}
use Rattle.qc_journal.specs.Journal.{disk_of}
use Rattle.qc_desk.proofs.Consulting.{asked_later}
use Rattle.qc_ledger.specs.Entered.{AtMost}
use Rattle.qc_desk.specs.Answers.{IsGranted}
use Rattle.qc_site.specs.AtDesk.{hand_entries}
use Rattle.qc_site.specs.Calls.{site_state}
use Rattle.qc_site.specs.Log.{log_journal}
use Rattle.qc_site.specs.Replica.{Standing}
use Rattle.qc_site.specs.Sites.{IsTooLongFor}
use Rattle.qc_site.proofs.Calls.{asks, became_on, left_by_look, left_on, refused_on, served_on, unwritten_on}
use Rattle.qc_site.proofs.Logs.{cause_on, once_on}
use Rattle.qc_site.proofs.Refusals.{disk_is_down, not_strange, site_down, site_not_full, site_says, strange_is, strange_site}
use Rattle.qc_site.proofs.site.Site.try_serve.Goals as goal

-- WHERE IT DOES NOT RISE

pub returns-in-Err-clause-refused : goal.returns-in-Err-clause-refused
returns-in-Err-clause-refused g c = site_says (site_state c.rise.new.self) c.in-Err.no c.of_site.result c.of_site.ensures c.in-Err.ensures.refused

pub returns-in-Err-clause-again : goal.returns-in-Err-clause-again
returns-in-Err-clause-again g c = λ tuple ready told. absurd ((c.in-Err.ensures.idle ready).0)

pub returns-in-Err-clause-became : goal.returns-in-Err-clause-became
returns-in-Err-clause-became g c = asks (setting_of g.N.Store.table g.N.Store.base) g.row.C c.args.ask.now _ _ c.rise.ensures.became

pub returns-in-Err-clause-cause : goal.returns-in-Err-clause-cause
returns-in-Err-clause-cause g c = record {
  later = c.in-Err.ensures.cause.later;
  failed = λ failed. c.in-Err.ensures.cause.failed (site_down c.in-Err.no c.of_site.result c.of_site.ensures failed);
}

pub returns-in-Err-clause-counts_once : goal.returns-in-Err-clause-counts_once
returns-in-Err-clause-counts_once g c = record {
  once = c.in-Err.ensures.counts_once.once;
  spared = λ never. c.in-Err.ensures.counts_once.spared (λ failed. never (disk_is_down c.in-Err.no c.of_site.result c.of_site.ensures failed));
}

pub returns-in-Err-clause-full : goal.returns-in-Err-clause-full
returns-in-Err-clause-full g c = λ full. absurd (site_not_full c.in-Err.no c.of_site.result c.of_site.ensures full)

pub returns-in-Err-clause-hand : goal.returns-in-Err-clause-hand
returns-in-Err-clause-hand g c = left_by_look c.args.ask.now c.args.self.now.replica.hand c.rise.new.self.replica.hand c.rise.ensures.hand

pub returns-in-Err-clause-stays : goal.returns-in-Err-clause-stays
returns-in-Err-clause-stays g c = λ none. c.rise.ensures.wrote_none

pub returns-in-Err-clause-strange : goal.returns-in-Err-clause-strange
returns-in-Err-clause-strange g c = (
  λ is. c.rise.ensures.strange.0 (c.in-Err.is ∙ ap (λ x. Err x) (strange_site c.in-Err.no c.of_site.result c.of_site.ensures is)),
  λ strange. strange_is c.in-Err.no c.of_site.result c.of_site.ensures (sym c.in-Err.is ∙ c.rise.ensures.strange.1 strange),
)

-- WHERE IT DOES

pub returns-clause-served : goal.returns-clause-served
returns-clause-served g c =
    served_on g.row.C c.args.ask.now c.grant.new.seer (site_state c.args.self.now) (site_state c.rise.new.self) (site_state c.grant.new.self) c.grant.result c.rise.ensures.enters c.in-Ok.ensures.ready.none c.grant.ensures.served

pub returns-clause-again : goal.returns-clause-again
returns-clause-again g c = λ tuple ready told.
    let idle = c.rise.ensures.idle ready in
    let there = c.grant.ensures.again tuple (subst (λ (x : Standing). IsGranted g.row.C x.pass.seen (grant_with c.args.ask.now tuple)) (sym idle.2) told) in
    (there.0, there.1 ∙ idle.1, there.2 ∙ ap (λ (x : Standing). x.pass.mine) idle.2)

pub returns-clause-became : goal.returns-clause-became
returns-clause-became g c =
    became_on (setting_of g.N.Store.table g.N.Store.base) g.row.C (Some c.args.ask.now) (site_state c.args.self.now) (site_state c.rise.new.self) (site_state c.grant.new.self)
    (g.met.D.Disk.leaves_now (disk_of (log_journal c.rise.new.self.log))) c.rise.ensures.became c.grant.ensures.became

pub returns-clause-asked : goal.returns-clause-asked
returns-clause-asked g c = asked_later c.args.seer.now.seen c.grant.new.seer.seen c.args.ask.now c.grant.ensures.seer.older c.requires.asked

pub returns-clause-cause : goal.returns-clause-cause
returns-clause-cause g c = cause_on _ _ _ _ _ c.rise.ensures.cause c.grant.ensures.cause

pub returns-clause-counts_once : goal.returns-clause-counts_once
returns-clause-counts_once g c = once_on _ _ _ _ (c.in-Ok.ensures.counts_once.spared (λ failed. absurd cc)) c.grant.ensures.counts_once

pub returns-clause-fits : goal.returns-clause-fits
returns-clause-fits g c = λ tuple ready is.
    let idle = c.rise.ensures.idle ready in
    let new = c.grant.new.self.replica.pass.mine in
    subst (λ (x : Standing). (new ≡ x.pass.mine) ⊎ (IsTooLongFor c.args.self.now.log c.args.ask.now tuple → ⊥)) idle.2
    (subst (λ l. (new ≡ c.rise.new.self.replica.pass.mine) ⊎ (IsTooLongFor l c.args.ask.now tuple → ⊥)) idle.1 (c.grant.ensures.fits tuple is))

pub returns-clause-hand : goal.returns-clause-hand
returns-clause-hand g c = left_on c.args.ask.now c.args.self.now.replica.hand c.grant.new.self.replica.hand c.grant.ensures.hand

pub returns-clause-within : goal.returns-clause-within
returns-clause-within g c = λ tuple is. elim (c.grant.ensures.within tuple is) [
  | inl same ↦ inl (subst (AtMost (hand_entries g.row.C c.args.self.now.replica.hand) c.args.self.now.replica.pass.mine) (sym same) c.rise.ensures.enters)
  | inr ended ↦ inr ended
]

pub returns-clause-wrote_none : goal.returns-clause-wrote_none
returns-clause-wrote_none g c =
    unwritten_on (setting_of g.N.Store.table g.N.Store.base) g.row.C (site_state c.args.self.now) (site_state c.rise.new.self) (site_state c.grant.new.self) c.grant.result
    c.rise.ensures.wrote_none c.grant.ensures.became.seen c.grant.ensures.unwritten

pub returns-clause-stays : goal.returns-clause-stays
returns-clause-stays g c =
    refused_on (setting_of g.N.Store.table g.N.Store.base) g.row.C (site_state c.args.self.now) (site_state c.rise.new.self) (site_state c.grant.new.self) c.grant.result
    c.rise.ensures.wrote_none c.grant.ensures.became.seen c.grant.ensures.untouched
    (λ refused. not_strange (site_state c.grant.new.self) c.grant.result c.grant.ensures.refused refused (λ strange. absurd (let never = c.rise.ensures.strange.1 (sym (ap is_some c.grant.ensures.strange) ∙ strange) in cc)))

pub returns-clause-strange : goal.returns-clause-strange
returns-clause-strange g c = (
  λ refused. absurd (not_strange (site_state c.grant.new.self) c.grant.result c.grant.ensures.refused refused (λ strange. absurd (let never = c.rise.ensures.strange.1 (sym (ap is_some c.grant.ensures.strange) ∙ strange) in cc))),
  λ strange. absurd (let never = c.rise.ensures.strange.1 (sym (ap is_some c.grant.ensures.strange) ∙ strange) in cc),
)
