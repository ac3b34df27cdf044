-- A wait of a link that tells its plan is that of the definition.
use Rattle.std.proofs.Common.{◌≡◌, ℕ, ◌<◌, suc, ◌-◌, Bool, true, false, ◌&&◌, nat_lt, if◌then◌else◌, List, [], ◌∷◌, ◌++◌, length, refl, sym, subst, ap, ◌∙◌, Option, Some, None, arith}
use Rattle.std.specs.Prelude.{remove, option_map, IfSome, ◌==◌}
use Rattle.std.proofs.lemmas.Bool.{ne_eqb}
use Rattle.std.proofs.lemmas.List.{map-append}
use Rattle.qc_event.specs.declared.event.Ask.{Ask}
use Rattle.qc_event.specs.declared.event.Answered.{Answered}
use Rattle.qc_net.specs.Plan.{Plan, is_due, due_in, passed}
use Rattle.qc_net.specs.Given.{Given, given}
use Rattle.qc_net.specs.Sending.{Way, Sending, answered, late, waiting, Made, IsSending}
use Rattle.qc_net.specs.Courier.{Stepped}
use Rattle.qc_net.specs.declared.courier.Sent.TheVariants.{Answer, Late}
use Rattle.qc_net.proofs.Left.{Wider}
use Rattle.qc_net.proofs.Steps.{asks_of, made-none, made-more, stepped_made, made-stepped, stepped-way}

-- A wait of a link that tells its plan: what was delivered so far, and what is left to do comes to the same end.
pub record Waits (Gave : Ask → Answered → Type 0) (end : Sending) (patience : ℕ) (plan : Option Plan) (held : List Ask) (before now : Option (List Given)) : Type 0 where
  pub current : Plan
  pub told : plan ≡ Some current
  pub made : List Given
  pub is_made : Made Gave before now made
  pub goes : waiting patience (record { plan = current; held = held; delivered = asks_of made }) ≡ end

-- it begins
pub waits-begin : (Gave : Ask → Answered → Type 0) (patience : ℕ) (plan : Option Plan) (held : List Ask) (before : Option (List Given)) (first : Plan) → plan ≡ Some first → Waits Gave (waiting patience (record { plan = first; held = held; delivered = [] })) patience plan held before before
waits-begin Gave patience plan held before first told = record {
  current = first;
  told = told;
  made = [];
  is_made = made-none Gave before before refl;
  goes = refl;
}

-- a due step of one that goes on, from the way before it to the way after it
pub record Goes (Gave : Ask → Answered → Type 0) (end : Sending) (patience : ℕ) (plan : Option Plan) (held : List Ask) (before now : Option (List Given)) (made : List Given) : Type 0 where
  pub current : Plan
  pub told : plan ≡ Some current
  pub earlier : List Given
  pub is_made : Made Gave before now (made ++ earlier)
  pub goes : (if length held == 0 then record { outcome = answered 0; way = record { plan = current; held = held; delivered = asks_of (made ++ earlier) } } else waiting patience (record { plan = current; held = held; delivered = asks_of (made ++ earlier) })) ≡ end

pub waits-step : (Gave Gives : Ask → Answered → Type 0) → Wider Gave Gives → (end : Sending) (left patience : ℕ) → left ≡ suc patience → (plan next : Option Plan) (held now : List Ask) (before mid after : Option (List Given)) → Waits Gave end left plan held before mid → next ≡ option_map passed plan → (step : Option (ℕ × Answered)) (stepped : Stepped Gives held now mid after step) → IfSome plan (λ p. option_map (λ s. s.0) step ≡ due_in p (length held)) → Goes Gives end patience next now before after (stepped_made Gives held now mid after step stepped)
waits-step Gave Gives wider end left patience one plan next held now before mid after waits goes_on step stepped place =
    let p = waits.current in
    let here : option_map (λ s. s.0) step ≡ due_in p (length held) = rw (waits.told) at place in
    let made = stepped_made Gives held now mid after step stepped in
    let way = stepped-way Gives p held now (asks_of waits.made) mid after step stepped here in
    let delivered : asks_of made ++ asks_of waits.made ≡ asks_of (made ++ waits.made) = sym (map-append (λ (g : Given). g.ask) made waits.made) in
    let before_step : waiting (suc patience) (record { plan = p; held = held; delivered = asks_of waits.made }) ≡ end = ap (λ n. waiting n (record { plan = p; held = held; delivered = asks_of waits.made })) (sym one) ∙ waits.goes in
    let next_way = λ (w : Way). if length w.held == 0 then record { outcome = answered 0; way = w } else waiting patience w in
    record {
      current = passed p;
      told = goes_on ∙ ap (option_map passed) waits.told;
      earlier = waits.made;
      is_made = made-more Gave Gives wider before mid after waits.made made waits.is_made (made-stepped Gives held now mid after step stepped);
      goes = sym (ap next_way (way ∙ ap (λ (d : List Ask). record { plan = passed p; held = now; delivered = d }) delivered)) ∙ before_step;
    }

-- none is held any more: the last delivery is that of the request
pub wait-ends : (Gave : Ask → Answered → Type 0) (end : Sending) (patience : ℕ) (next : Option Plan) (now : List Ask) (before after : Option (List Given)) (ask : Ask) (answer : Answered) → Goes Gave end patience next now before after (given ask answer ∷ []) → length now ≡ 0 → IsSending end next now Gave before after (Answer answer)
wait-ends Gave end patience next now before after ask answer goes none =
    let way : Way = record { plan = goes.current; held = now; delivered = asks_of (given ask answer ∷ goes.earlier) } in
    let here : Sending = record { outcome = answered 0; way = way } in
    let is : here ≡ end = rw none at goes.goes in
    let sends : IsSending here next now Gave before after (Answer answer) = record {
      plan_after = goes.told;
      held_after = refl;
      made = given ask answer ∷ goes.earlier;
      is_made = goes.is_made;
      delivered = refl;
      tells = (given ask answer, refl, refl);
    } in
    subst (λ (s : Sending). IsSending s next now Gave before after (Answer answer)) is sends

-- some is held: the wait goes on
pub wait-goes : (Gave : Ask → Answered → Type 0) (end : Sending) (patience : ℕ) (next : Option Plan) (now : List Ask) (before after : Option (List Given)) (made : List Given) → Goes Gave end patience next now before after made → 0 < length now → Waits Gave end patience next now before after
wait-goes Gave end patience next now before after made goes some = record {
  current = goes.current;
  told = goes.told;
  made = made ++ goes.earlier;
  is_made = goes.is_made;
  goes = rw (ne_eqb (length now) 0 (λ none. omega arith)) at goes.goes;
}

-- patience is at its end
pub wait-late : (Gave : Ask → Answered → Type 0) (end : Sending) (left : ℕ) (plan : Option Plan) (held : List Ask) (before now : Option (List Given)) → Waits Gave end left plan held before now → left ≡ 0 → IsSending end plan held Gave before now Late
wait-late Gave end left plan held before now waits none =
    let way : Way = record { plan = waits.current; held = held; delivered = asks_of waits.made } in
    let here : Sending = record { outcome = late; way = way } in
    let is : here ≡ end = rw none at waits.goes in
    let sends : IsSending here plan held Gave before now Late = record {
      plan_after = waits.told;
      held_after = refl;
      made = waits.made;
      is_made = waits.is_made;
      delivered = refl;
      tells = refl;
    } in
    subst (λ (s : Sending). IsSending s plan held Gave before now Late) is sends

some-first : (some : Bool) (place : ℕ) → Some place ≡ (if some then Some 0 else None) → place ≡ 0
some-first false place is = cc
some-first true place is = cc

due-first : (due : Bool) (n place : ℕ) → Some place ≡ (if due && nat_lt 0 n then Some 0 else None) → place ≡ 0
due-first false n place is = cc
due-first true n place is = some-first (nat_lt 0 n) place is

-- the only one that was held is gone
none-left : (held now : List Ask) (place : ℕ) → now ≡ remove held place → place ≡ 0 → place ≡ length held - 1 → length now ≡ 0
none-left [] now place is first last = rw is (rw first refl)
none-left (ask ∷ held) now place is first last = let none : length held ≡ 0 = omega (arith, first, last) in rw is (rw first none)

-- The last that is held is delivered, and the plan delivers the first: so it is the only one.
wait-some : (Gave : Ask → Answered → Type 0) (end : Sending) (patience : ℕ) (current : Plan) (next : Option Plan) (held now : List Ask) (before mid after : Option (List Given)) (place : ℕ) (answer : Answered) → place ≡ length held - 1 → (stepped : Stepped Gave held now mid after (Some (place, answer))) → Some place ≡ due_in current (length held) → Goes Gave end patience next now before after (given stepped.0 answer ∷ []) → IsSending end next now Gave before after (Answer answer)
wait-some Gave end patience current next held now before mid after place answer last stepped due goes =
    let first = due-first (is_due current) (length held) place due in
    wait-ends Gave end patience next now before after stepped.0 answer goes (none-left held now place stepped.2 first last)

pub wait-mine : (Gave : Ask → Answered → Type 0) (end : Sending) (patience : ℕ) (current : Plan) (next : Option Plan) (held now : List Ask) (before mid after : Option (List Given)) (step : Option (ℕ × Answered)) (stepped : Stepped Gave held now mid after step) (place : ℕ) (answer : Answered) → step ≡ Some (place, answer) → option_map (λ s. s.0) step ≡ due_in current (length held) → place ≡ length held - 1 → Goes Gave end patience next now before after (stepped_made Gave held now mid after step stepped) → IsSending end next now Gave before after (Answer answer)
wait-mine Gave end patience current next held now before mid after step stepped place answer is due last goes =
    let P : Option (ℕ × Answered) → Type 0 = λ s. (met : Stepped Gave held now mid after s) → option_map (λ p. p.0) s ≡ due_in current (length held) → Goes Gave end patience next now before after (stepped_made Gave held now mid after s met) → IsSending end next now Gave before after (Answer answer) in
    subst P (sym is) (wait-some Gave end patience current next held now before mid after place answer last) stepped due goes
