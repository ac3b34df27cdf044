-- What a pass at rest knows, and that this is told again by that it was shown once.
use Rattle.std.proofs.Props.{props}
use Rattle.std.proofs.Math.Logic.{∥∥₁_elim, ∥∥₁_map}
use Rattle.qc_event.specs.Base.{Setting}
use Rattle.qc_event.proofs.LegalAgain.{legal_again}
use Rattle.qc_desk.specs.declared.view.View.{View}
use Rattle.qc_desk.specs.Known.{IsKnown}
use Rattle.qc_desk.specs.Rules.{IsAtRest}

pub known_at_rest : (setting : Setting) (v : View) → IsAtRest setting v → IsKnown setting v
known_at_rest setting v rest = record { legal = legal_again setting v.seen rest.3; mine = rest.4; kin = rest.6; apart = rest.7 }

pub known_again : (setting : Setting) (v : View) → ∥ IsKnown setting v ∥₁ → IsKnown setting v
known_again setting v shown = record {
  legal = legal_again setting v.seen (∥∥₁_map shown (λ (k : IsKnown setting v). k.legal));
  mine = ∥∥₁_elim shown (hlevel props) (λ (k : IsKnown setting v). k.mine);
  kin = ∥∥₁_elim shown (hlevel props) (λ (k : IsKnown setting v). k.kin);
  apart = ∥∥₁_elim shown (hlevel props) (λ (k : IsKnown setting v). k.apart);
}
