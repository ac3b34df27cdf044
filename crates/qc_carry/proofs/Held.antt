-- Requests that were made stay so while a pass goes on.
use Rattle.std.specs.Prelude.{List, All}
use Rattle.std.proofs.lemmas.List.Elements.{All-weaker}
use Rattle.qc_event.specs.declared.event.Ask.{Ask}
use Rattle.qc_event.specs.History.{Past}
use Rattle.qc_desk.specs.declared.view.View.{View}
use Rattle.qc_desk.specs.Consulting.{HasAsked}
use Rattle.qc_desk.proofs.Consulting.{asked_later}
use Rattle.qc_carry.specs.Walk.{Walk}

pub held_on : (v w : View) (made : Past) → Walk v w made → (held : List Ask) → All (HasAsked v.seen) held → All (HasAsked w.seen) held
held_on v w made walk held all = All-weaker (HasAsked v.seen) (HasAsked w.seen) (λ ask h. asked_later v.seen w.seen ask (walk.newer, walk.grown) h) held all
