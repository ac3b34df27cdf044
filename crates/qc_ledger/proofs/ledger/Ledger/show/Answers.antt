-- The pass has looked.
use Rattle.std.proofs.Common.{◌∙◌}
use Rattle.qc_ledger.proofs.Passes.{shown_kept}
use Rattle.qc_ledger.proofs.ledger.Ledger.show.Goals as goal

pub invariant_of-self : goal.invariant_of-self
invariant_of-self g c =
    let kept = shown_kept c.args.self.now.pass c.show.new.seer c.show.ensures.seer in
    record {
      live = kept.live ∙ c.args.self.now.live;
      number = kept.number ∙ c.args.self.now.number;
      out = kept.out ∙ c.args.self.now.out;
      kin = kept.kin ∙ c.args.self.now.kin;
      known = ∣ c.show.ensures.known.1 ∣₁;
      may = λ top here. kept.still top (c.args.self.now.may top here);
    }
