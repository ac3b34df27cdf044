-- What a pass has seen is legal, by what the pass knows.
use Rattle.qc_event.specs.Base.{Setting}
use Rattle.qc_event.specs.Legal.{Legal}
use Rattle.qc_desk.specs.declared.view.View.{View}
use Rattle.qc_desk.specs.Known.{IsKnown}
use Rattle.qc_desk.proofs.Known.{known_again}

pub seen_legal : {setting : Setting} {v : View} → ∥ IsKnown setting v ∥₁ → Legal setting v.seen
seen_legal {setting} {v} known = (known_again setting v known).legal
