-- The request is held last, behind what is left of the others, and the wait of a link that tells its plan goes on.
use Rattle.std.proofs.Common.{◌≡◌, [], ◌∷◌, ◌++◌, option_map, All, Some, ◌-◌}
use Rattle.qc_event.specs.declared.event.Ask.{Ask}
use Rattle.qc_event.specs.declared.event.Answered.{Answered}
use Rattle.qc_net.specs.Plan.{Plan, anew}
use Rattle.qc_net.specs.Sending.{waiting}
use Rattle.qc_net.specs.Courier.{IsHeldBehind}
use Rattle.qc_net.proofs.Waits.{Waits}
use Rattle.qc_net.proofs.courier.Courier.hold.Given as goal

abbrev pub invariant-loop : goal.invariant-loop
invariant-loop g l = record {
  behind : IsHeldBehind (g.P.Port.view l.port).gave l.fn.self.held.items l.ask l.self.held.items;
  allowed : All (g.P.Port.view l.port).may l.self.held.items;
  may : (other : Ask) → (g.P.Port.view l.fn.port).may other → (g.P.Port.view l.port).may other;
  gave : (other : Ask) (answer : Answered) → (g.P.Port.view l.fn.port).gave other answer → (g.P.Port.view l.port).gave other answer;
  plan : option_map anew (g.L.Link.view l.self.link).plan ≡ option_map anew (g.L.Link.view l.fn.self.link).plan;
  became : g.P.Port.became l.fn.port l.port;
  counts : (g.L.Link.view l.self.link).troubles ≡ (g.L.Link.view l.fn.self.link).troubles;
  told : (first : Plan) → (g.L.Link.view l.fn.self.link).plan ≡ Some first → Waits (g.P.Port.view l.port).gave (waiting l.patience (record { plan = first; held = l.fn.self.held.items ++ l.ask ∷ []; delivered = [] })) (l.patience - l.counter) (g.L.Link.view l.self.link).plan l.self.held.items (g.P.Port.view l.fn.port).made (g.P.Port.view l.port).made;
}
