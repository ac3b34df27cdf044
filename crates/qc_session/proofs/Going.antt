-- How a line goes on by one call, and by two one after another.
use Rattle.std.proofs.Common.{◌≡◌, ℕ, Bool, [], refl, ap, ◌∙◌}
use Rattle.std.specs.Prelude.{List, Option}
use Rattle.qc_carry.specs.Carried.{HasCarried, carried_by_both, carried_itself}
use Rattle.qc_carry.specs.Kept.{Keeps}
use Rattle.qc_carry.specs.Walk.{Walk}
use Rattle.qc_carry.proofs.KeepsStill.{keeps_met}
use Rattle.qc_event.specs.Base.{Setting}
use Rattle.qc_event.specs.declared.event.Ask.{Ask}
use Rattle.qc_event.specs.History.{Past}
use Rattle.qc_net.specs.Plan.{Plan}
use Rattle.qc_desk.specs.declared.view.View.{View}
use Rattle.qc_desk.specs.Entries.{IsOlder}
use Rattle.qc_desk.specs.Known.{IsKnown}
use Rattle.qc_desk.proofs.Known.{known_again}
use Rattle.qc_desk.proofs.Seers.{older_trans}
use Rattle.qc_session.specs.Lines.{HasGoneOn}
use Rattle.qc_session.specs.Tidy.{IsTidy}
use Rattle.qc_session.proofs.Knowing.{seen_legal}
use Rattle.qc_session.proofs.Tidy.{walked_tidy}
use Rattle.qc_session.proofs.Walks.{walk_carried}

-- ONE CALL

module _ (setting : Setting) (v w : View) {Link Over : Type 0} (plan_of : Link → Option Plan) {link link' : Link} {patience patience' : ℕ} {torn torn' : Bool} {over over' : Over} where
  -- its client made these entries, and all else of the line is as it was
  pub went_by : (made : Past) → Walk v w made → (link' ≡ link) × (patience' ≡ patience) × (torn' ≡ torn) × (over' ≡ over) → ∥ IsKnown setting w ∥₁ → (held : List Ask) → Keeps w.number (plan_of link') held patience' w.seen torn' → (IsTidy v.number v.seen → IsTidy w.number w.seen)
      → HasGoneOn setting v w (plan_of link) (plan_of link') patience patience' over over'
  went_by made walk rest known held keeps tidy = record {
    carried = walk_carried v w made (plan_of link) (plan_of link') patience patience' walk (ap plan_of rest.0) rest.1;
    system = rest.3;
    older = (walk.newer, walk.grown);
    legal = seen_legal known;
    kin = (known_again setting w known).kin;
    met = keeps_met w.number (plan_of link') held patience' w.seen torn' keeps;
    tidy = tidy;
  }

  -- its client looked
  pub went_looking : Walk v w [] → (link' ≡ link) × (patience' ≡ patience) × (torn' ≡ torn) × (over' ≡ over) → ∥ IsKnown setting w ∥₁ → (held : List Ask) → Keeps w.number (plan_of link') held patience' w.seen torn'
      → HasGoneOn setting v w (plan_of link) (plan_of link') patience patience' over over'
  went_looking walk rest known held keeps = went_by [] walk rest known held keeps (walked_tidy setting v w (seen_legal known) walk)

-- it did nothing
pub went_nowhere : {System : Type 0} (setting : Setting) (v : View) (plan : Option Plan) (patience : ℕ) (over : System) (torn : Bool) (held : List Ask) → ∥ IsKnown setting v ∥₁ → Keeps v.number plan held patience v.seen torn → HasGoneOn setting v v plan plan patience patience over over
went_nowhere setting v plan patience over torn held known keeps = record {
  carried = carried_itself v plan patience;
  system = refl;
  older = ([], refl);
  legal = seen_legal known;
  kin = (known_again setting v known).kin;
  met = keeps_met v.number plan held patience v.seen torn keeps;
  tidy = λ was. was;
}

-- ONE AFTER ANOTHER

module _ {setting : Setting} {v u w : View} {p q r : Option Plan} {x y z : ℕ} {System : Type 0} {a b c : System} (next : HasGoneOn setting u w q r y z b c) where
  -- whatever a line had carried before
  pub went_after : HasCarried v u p q x y → b ≡ a → IsOlder v.seen u.seen → (IsTidy v.number v.seen → IsTidy u.number u.seen) → HasGoneOn setting v w p r x z a c
  went_after first same older tidy = record {
    carried = carried_by_both v u w p q r x y z first next.carried;
    system = next.system ∙ same;
    older = older_trans v.seen u.seen w.seen older next.older;
    legal = next.legal;
    kin = next.kin;
    met = next.met;
    tidy = λ was. next.tidy (tidy was);
  }

  pub went_both : HasGoneOn setting v u p q x y a b → HasGoneOn setting v w p r x z a c
  went_both first = went_after first.carried first.system first.older first.tidy

module _ (setting : Setting) (v u w : View) {Link Over : Type 0} (plan_of : Link → Option Plan) {link link' : Link} {patience patience' : ℕ} {torn torn' : Bool} {over over' : Over} {r : Option Plan} {z : ℕ} {over'' : Over} where
  -- its client made these entries, and then it went on
  pub went_then : (made : Past) → Walk v u made → (link' ≡ link) × (patience' ≡ patience) × (torn' ≡ torn) × (over' ≡ over) → (IsTidy v.number v.seen → IsTidy u.number u.seen) → HasGoneOn setting u w (plan_of link') r patience' z over' over''
      → HasGoneOn setting v w (plan_of link) r patience z over over''
  went_then made walk rest tidy next = went_after next (walk_carried v u made (plan_of link) (plan_of link') patience patience' walk (ap plan_of rest.0) rest.1) rest.3 (walk.newer, walk.grown) tidy

  -- its client looked, and then it went on
  pub went_on_from : ∥ IsKnown setting u ∥₁ → Walk v u [] → (link' ≡ link) × (patience' ≡ patience) × (torn' ≡ torn) × (over' ≡ over) → HasGoneOn setting u w (plan_of link') r patience' z over' over''
      → HasGoneOn setting v w (plan_of link) r patience z over over''
  went_on_from known walk rest next = went_then [] walk rest (walked_tidy setting v u (seen_legal known) walk) next
