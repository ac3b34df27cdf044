-- The pass has looked twice.
use Rattle.std.proofs.Common.{◌≡◌, ap, sym, ◌∙◌, subst}
use Rattle.std.specs.Prelude.{is_some, true}
use Rattle.qc_event.specs.History.{Past, is_ready}
use Rattle.qc_event.specs.Tables.{setting_of}
use Rattle.qc_desk.specs.Entries.{entries_of}
use Rattle.qc_desk.proofs.Listed.{ready_stays}
use Rattle.qc_ledger.proofs.Passes.{kept_on, may_first, may_next, shown_kept}
use Rattle.qc_ledger.proofs.ledger.Ledger.has_ended.Goals as goal

pub invariant_of-self : goal.invariant_of-self
invariant_of-self g c =
    let old = c.args.self.now.pass in
    let mid = c.show.new.seer in
    let new = c.ended-how.new.pass in
    let kept = kept_on old mid new (shown_kept old mid c.show.ensures.seer) (shown_kept mid new c.ended-how.ensures.looked) in
    record {
      live = kept.live ∙ c.args.self.now.live;
      number = kept.number ∙ c.args.self.now.number;
      out = kept.out ∙ c.args.self.now.out;
      kin = kept.kin ∙ c.args.self.now.kin;
      known = ∣ c.ended-how.ensures.known ∣₁;
      may = λ top here. kept.still top (c.args.self.now.may top here);
    }

pub returns-clause-may : goal.returns-clause-may
returns-clause-may g c =
    let top = c.args.top.now in
    let old = c.args.self.now.pass in
    let asked = c.args.seer.now in
    let shown = c.show.new.pass in
    let mid = c.show.new.seer in
    let new = c.ended-how.new.pass in
    let first = ready_stays asked.seen shown.seen top (shown_kept asked shown c.show.ensures.pass).older c.requires.ready in
    let here = subst (λ (p : Past). is_ready p top ≡ true) (sym c.show.ensures.same) first in
    may_first new top c.is_some.result c.requires.is_top (ready_stays mid.seen new.seen top (shown_kept mid new c.ended-how.ensures.looked).older here) (c.ended-how.ensures.known.mine ((kept_on old mid new (shown_kept old mid c.show.ensures.seer) (shown_kept mid new c.ended-how.ensures.looked)).live ∙ c.args.self.now.live)) (c.is_some.ensures ∙ ap is_some c.ended-how.ensures.end)

pub returns-clause-own : goal.returns-clause-own
returns-clause-own g c =
    let old = c.args.self.now.pass in
    let mid = c.show.new.seer in
    let new = c.ended-how.new.pass in
    let kept = kept_on old mid new (shown_kept old mid c.show.ensures.seer) (shown_kept mid new c.ended-how.ensures.looked) in
    c.ended-how.ensures.known.mine (kept.live ∙ c.args.self.now.live) ∙ ap (λ n. entries_of n new.seen) (kept.number ∙ c.args.self.now.number)

pub returns-clause-next : goal.returns-clause-next
returns-clause-next g c = may_next (setting_of g.N.Store.table g.N.Store.base) c.ended-how.new.pass c.args.top.now c.is_some.result c.ended-how.ensures.known.legal (returns-clause-own g c) (returns-clause-may g c)
