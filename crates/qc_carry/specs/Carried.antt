-- What carrying leaves of a line: its pass has seen and entered more, and its link is the same.
use Rattle.std.proofs.Common.{◌≡◌, ℕ, refl, ◌∙◌}
use Rattle.std.specs.Prelude.{Option, option_map}
use Rattle.qc_net.specs.Plan.{Plan, anew}
use Rattle.qc_desk.specs.declared.view.View.{View}

-- A line has carried: its pass has the same number, what was split from it and joined into it is the same, and so are the
-- fates of its link, and its patience.
pub record HasCarried (v w : View) (before now : Option Plan) (patience patience' : ℕ) : Type 0 where
  pub number : w.number ≡ v.number
  pub live : w.live ≡ v.live
  pub out : w.out ≡ v.out
  pub kin : w.kin ≡ v.kin
  pub net : option_map anew now ≡ option_map anew before
  pub same_patience : patience' ≡ patience

-- a line is as it was
pub carried_itself : (v : View) (plan : Option Plan) (patience : ℕ) → HasCarried v v plan plan patience patience
carried_itself v plan patience = record { number = refl; live = refl; out = refl; kin = refl; net = refl; same_patience = refl }

-- a line that has carried, and has carried again, has carried
pub carried_by_both : (a b c : View) (p q r : Option Plan) (x y z : ℕ) → HasCarried a b p q x y → HasCarried b c q r y z → HasCarried a c p r x z
carried_by_both a b c p q r x y z first next = record {
  number = next.number ∙ first.number;
  live = next.live ∙ first.live;
  out = next.out ∙ first.out;
  kin = next.kin ∙ first.kin;
  net = next.net ∙ first.net;
  same_patience = next.same_patience ∙ first.same_patience;
}
