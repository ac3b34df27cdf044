-- The pass has seen more, and ended no top.
use Rattle.std.proofs.Common.{◌∙◌}
use Rattle.qc_ledger.proofs.Passes.{unable_kept}
use Rattle.qc_ledger.proofs.ledger.Ledger.unable.Goals as goal

pub invariant_of-self : goal.invariant_of-self
invariant_of-self g c =
    let kept = unable_kept c.unable.result c.args.self.now.pass c.unable.new.pass c.args.top.now c.args.why c.unable.ensures.ok c.unable.ensures.err in
    record {
      live = kept.live ∙ c.args.self.now.live;
      number = kept.number ∙ c.args.self.now.number;
      out = kept.out ∙ c.args.self.now.out;
      kin = kept.kin ∙ c.args.self.now.kin;
      known = ∣ c.unable.ensures.known.0 ∣₁;
      may = λ top here. kept.still top (c.args.self.now.may top here);
    }

pub returns-clause-seen : goal.returns-clause-seen
returns-clause-seen g c = (unable_kept c.unable.result c.args.self.now.pass c.unable.new.pass c.args.top.now c.args.why c.unable.ensures.ok c.unable.ensures.err).older
