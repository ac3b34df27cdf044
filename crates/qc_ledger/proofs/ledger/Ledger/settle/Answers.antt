-- What was refused leaves the top in hand one that may be committed.
use Rattle.std.proofs.Common.{ap, ◌∙◌, subst}
use Rattle.qc_desk.specs.declared.view.View.{View}
use Rattle.qc_desk.specs.Entries.{IsOlder}
use Rattle.qc_ledger.proofs.Passes.{may_still}
use Rattle.qc_ledger.proofs.ledger.Ledger.settle.Goals as goal

pub invariant_of-self : goal.invariant_of-self
invariant_of-self g c =
    let old = c.args.self.now.pass in
    let mid = c.note-seer.new.pass in
    let new = c.finish.new.pass in
    let same = c.note-seer.ensures.1 in
    let r = c.in_err-finish.ensures.err in
    let is = r.0.1 in
    let older : IsOlder old.seen new.seen = subst (λ (v : View). IsOlder v.seen new.seen) same (r.0.0.0, r.0.0.1) in
    record {
      live = ap (λ (v : View). v.live) is ∙ ap (λ (v : View). v.live) same ∙ c.args.self.now.live;
      number = ap (λ (v : View). v.number) is ∙ ap (λ (v : View). v.number) same ∙ c.args.self.now.number;
      out = ap (λ (v : View). v.out) is ∙ ap (λ (v : View). v.out) same ∙ c.args.self.now.out;
      kin = ap (λ (v : View). v.kin) is ∙ ap (λ (v : View). v.kin) same ∙ c.args.self.now.kin;
      known = ∣ c.finish.ensures.known.0 ∣₁;
      may = λ top here. may_still old new top (ap (λ (v : View). v.mine) is ∙ ap (λ (v : View). v.mine) same) older (c.args.self.now.may top here);
    }
