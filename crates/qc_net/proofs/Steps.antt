-- A due step of a link that tells its plan is that of the definition.
use Rattle.std.proofs.Common.{◌≡◌, ℕ, Bool, true, false, ◌&&◌, nat_lt, if◌then◌else◌, List, [], ◌∷◌, ◌++◌, length, take, drop, map, refl, sym, ap, ◌∙◌, Option, Some, None, arith, append_assoc}
use Rattle.std.specs.Prelude.{slice_get, remove, option_map, IfSome}
use Rattle.std.proofs.lemmas.Bool.{lt-ltb}
use Rattle.std.proofs.lemmas.List.Elements.{All-append, All-weaker, All-nil, All-cons}
use Rattle.qc_event.specs.declared.event.Ask.{Ask}
use Rattle.qc_event.specs.declared.event.Answered.{Answered}
use Rattle.qc_net.specs.Plan.{Plan, is_due, due_in, passed, asked, anew}
use Rattle.qc_net.specs.Given.{Given, given}
use Rattle.qc_net.specs.Sending.{due_step, Made}
use Rattle.qc_net.specs.Courier.{Stepped}
use Rattle.qc_net.proofs.Left.{Wider}

-- the requests of deliveries
abbrev pub asks_of : List Given → List Ask
asks_of made = map (λ (g : Given). g.ask) made

nothing-before : (before : Option (List Given)) → before ≡ option_map (λ earlier. [] ++ earlier) before
nothing-before None = refl
nothing-before (Some made) = refl

-- no delivery
pub made-none : (Gave : Ask → Answered → Type 0) (before now : Option (List Given)) → now ≡ before → Made Gave before now []
made-none Gave before now same = record { gave = All-nil (λ (g : Given). Gave g.ask g.answer); told = same ∙ nothing-before before }

-- one delivery
pub made-one : (Gave : Ask → Answered → Type 0) (before now : Option (List Given)) (ask : Ask) (answer : Answered) → Gave ask answer → now ≡ option_map (λ earlier. given ask answer ∷ earlier) before → Made Gave before now (given ask answer ∷ [])
made-one Gave before now ask answer gave told = record {
  gave = All-cons (λ (g : Given). Gave g.ask g.answer) (given ask answer) [] gave (All-nil (λ (g : Given). Gave g.ask g.answer));
  told = told;
}

-- two deliveries
pub made-two : (Gave : Ask → Answered → Type 0) (before now : Option (List Given)) (ask : Ask) (first second : Answered) → Gave ask first → Gave ask second → now ≡ option_map (λ earlier. given ask second ∷ given ask first ∷ earlier) before → Made Gave before now (given ask second ∷ given ask first ∷ [])
made-two Gave before now ask first second one two told = record {
  gave = All-cons (λ (g : Given). Gave g.ask g.answer) (given ask second) (given ask first ∷ []) two (All-cons (λ (g : Given). Gave g.ask g.answer) (given ask first) [] one (All-nil (λ (g : Given). Gave g.ask g.answer)));
  told = told;
}

told-more : (before mid now : Option (List Given)) (made more : List Given) → mid ≡ option_map (λ earlier. made ++ earlier) before → now ≡ option_map (λ earlier. more ++ earlier) mid → now ≡ option_map (λ earlier. (more ++ made) ++ earlier) before
told-more None mid now made more first next = next ∙ ap (option_map (λ earlier. more ++ earlier)) first
told-more (Some before) mid now made more first next = next ∙ ap (option_map (λ earlier. more ++ earlier)) first ∙ ap Some (sym (append_assoc more made before))

-- deliveries, and more of them
pub made-more : (Gave Gives : Ask → Answered → Type 0) → Wider Gave Gives → (before mid now : Option (List Given)) (made more : List Given) → Made Gave before mid made → Made Gives mid now more → Made Gives before now (more ++ made)
made-more Gave Gives wider before mid now made more first next = record {
  gave = All-append (λ (g : Given). Gives g.ask g.answer) more made next.gave (All-weaker (λ (g : Given). Gave g.ask g.answer) (λ (g : Given). Gives g.ask g.answer) (λ g is. wider g.ask g.answer is) made first.gave);
  told = told-more before mid now made more first.told next.told;
}

-- what a due step delivered
abbrev pub stepped_made : (Gave : Ask → Answered → Type 0) (held now : List Ask) (before after : Option (List Given)) (step : Option (ℕ × Answered)) → Stepped Gave held now before after step → List Given
stepped_made Gave held now before after None stepped = []
stepped_made Gave held now before after (Some (place, answer)) stepped = given stepped.0 answer ∷ []

pub made-stepped : (Gave : Ask → Answered → Type 0) (held now : List Ask) (before after : Option (List Given)) (step : Option (ℕ × Answered)) (stepped : Stepped Gave held now before after step) → Made Gave before after (stepped_made Gave held now before after step stepped)
made-stepped Gave held now before after None stepped = made-none Gave before after stepped.1
made-stepped Gave held now before after (Some (place, answer)) stepped = made-one Gave before after stepped.0 answer stepped.3 stepped.4

-- what is left, and what was delivered, of a step that is due or not
abbrev left_by : Bool → List Ask → List Ask
left_by due held = drop (if due then 1 else 0) held

abbrev gone_by : Bool → List Ask → List Ask
gone_by due held = take (if due then 1 else 0) held

abbrev no_place : Option ℕ
no_place = None

first-gone : (Gave : Ask → Answered → Type 0) (first : Ask) (held now : List Ask) (before after : Option (List Given)) (place : ℕ) (answer : Answered) → place ≡ 0 → (stepped : Stepped Gave (first ∷ held) now before after (Some (place, answer))) → (held ≡ now) × (first ≡ stepped.0)
first-gone Gave first held now before after place answer zero_place (ask, at, is, gave, told) =
    let here : slice_get (first ∷ held) 0 ≡ Some ask = rw zero_place at at in
    let left : now ≡ remove (first ∷ held) 0 = rw zero_place at is in
    let same : first ≡ ask = cc in
    (sym left, same)

by-due : (Gave : Ask → Answered → Type 0) (due : Bool) (held now : List Ask) (before after : Option (List Given)) (step : Option (ℕ × Answered)) (stepped : Stepped Gave held now before after step) → option_map (λ s. s.0) step ≡ (if due && nat_lt 0 (length held) then Some 0 else None) → (left_by due held ≡ now) × (gone_by due held ≡ asks_of (stepped_made Gave held now before after step stepped))
by-due Gave false [] now before after None stepped place = (sym stepped.0, refl)
by-due Gave false (first ∷ held) now before after None stepped place = (sym stepped.0, refl)
by-due Gave false held now before after (Some s) stepped place = cc
by-due Gave true [] now before after None stepped place = (sym stepped.0, refl)
by-due Gave true [] now before after (Some s) stepped place = cc
by-due Gave true (first ∷ held) now before after None stepped place =
    let none : no_place ≡ Some 0 = rw (lt-ltb 0 (length (first ∷ held)) (omega arith)) at place in
    cc
by-due Gave true (first ∷ held) now before after (Some (at, answer)) stepped place =
    let some : Some at ≡ Some 0 = rw (lt-ltb 0 (length (first ∷ held)) (omega arith)) at place in
    let zero_place : at ≡ 0 = cc in
    let gone = first-gone Gave first held now before after at answer zero_place stepped in
    (gone.0, ap (λ (a : Ask). a ∷ []) gone.1)

-- the way after a due step
pub stepped-way : (Gave : Ask → Answered → Type 0) (plan : Plan) (held now delivered : List Ask) (before after : Option (List Given)) (step : Option (ℕ × Answered)) (stepped : Stepped Gave held now before after step) → option_map (λ s. s.0) step ≡ due_in plan (length held) → due_step (record { plan = plan; held = held; delivered = delivered }) ≡ record { plan = passed plan; held = now; delivered = asks_of (stepped_made Gave held now before after step stepped) ++ delivered }
stepped-way Gave plan held now delivered before after step stepped place =
    let both = by-due Gave (is_due plan) held now before after step stepped place in
    ap (λ (h : List Ask). record { plan = passed plan; held = h; delivered = gone_by (is_due plan) held ++ delivered }) both.0
    ∙ ap (λ (d : List Ask). record { plan = passed plan; held = now; delivered = d ++ delivered }) both.1

-- what holds of each plan that is told
pub each-plan : (P : Plan → Type 0) (plan : Option Plan) → ((first : Plan) → plan ≡ Some first → P first) → IfSome plan P
each-plan P None each = tt
each-plan P (Some first) each = each first refl

-- a step keeps the fates and the hold
pub anew-passed : (plan next : Option Plan) → next ≡ option_map passed plan → option_map anew next ≡ option_map anew plan
anew-passed None next is = ap (option_map anew) is
anew-passed (Some plan) next is = ap (option_map anew) is

pub anew-asked : (plan next : Option Plan) → next ≡ option_map asked plan → option_map anew next ≡ option_map anew plan
anew-asked None next is = ap (option_map anew) is
anew-asked (Some plan) next is = ap (option_map anew) is
