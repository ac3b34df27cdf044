-- A sending is a due step, and then the request meets its fate.
use Rattle.std.proofs.Common.{◌≡◌, ℕ, zero, suc, Bool, true, false, if◌then◌else◌, List, [], ◌∷◌, ◌++◌, length, take, drop, refl, sym, subst, ap, ◌∙◌, Option, Some, None, Result, Ok, Err, append_assoc}
use Rattle.std.specs.Prelude.{option_map, IfOk, IfSome, ◌==◌}
use Rattle.std.proofs.lemmas.List.{map-append, append-nil}
use Rattle.std.proofs.lemmas.Option.{slice_get_within}
use Rattle.qc_event.specs.declared.event.Ask.{Ask}
use Rattle.qc_event.specs.declared.event.Answered.{Answered}
use Rattle.qc_net.specs.Plan.{Plan, next_fate, asked, is_due, due_in, passed}
use Rattle.qc_net.specs.Given.{Given, given}
use Rattle.qc_net.specs.Sending.{Way, Sending, Outcome, answered, lost, late, due_step, waiting, meeting, sending, sending_from, Tells, Made, IsSending}
use Rattle.qc_net.specs.Courier.{Stepped}
use Rattle.qc_net.specs.declared.link.Fate.{Fate}
use Rattle.qc_net.specs.declared.link.Fate.TheVariants.{Deliver, LoseAsk, LoseReply, Hold, Twice}
use Rattle.qc_net.specs.declared.courier.Sent.{Sent}
use Rattle.qc_net.specs.declared.courier.Sent.TheVariants.{Answer, Lost}
use Rattle.qc_net.proofs.Left.{Wider, slice_get-left}
use Rattle.qc_net.proofs.Steps.{asks_of, made-more, stepped_made, made-stepped, stepped-way}

-- a way, and a sending, of which these were delivered before
abbrev pub way_behind : List Ask → Way → Way
way_behind earlier way = record way { delivered = way.delivered ++ earlier }

abbrev pub behind : List Ask → Sending → Sending
behind earlier s = record { outcome = s.outcome; way = way_behind earlier s.way }

behind-if : (earlier : List Ask) (b : Bool) (s t : Sending) → (if b then behind earlier s else behind earlier t) ≡ behind earlier (if b then s else t)
behind-if earlier true s t = refl
behind-if earlier false s t = refl

step-behind : (earlier : List Ask) (way : Way) → due_step (way_behind earlier way) ≡ way_behind earlier (due_step way)
step-behind earlier way =
    let now : ℕ = if is_due way.plan then 1 else 0 in
    ap (λ (d : List Ask). record { plan = passed way.plan; held = drop now way.held; delivered = d }) (sym (append_assoc (take now way.held) way.delivered earlier))

waiting-behind : (patience : ℕ) (earlier : List Ask) (way : Way) → waiting patience (way_behind earlier way) ≡ behind earlier (waiting patience way)
waiting-behind zero earlier way = refl
waiting-behind (suc patience) earlier way =
    let next = due_step way in
    let tell = λ (w : Way). if length w.held == 0 then record { outcome = answered 0; way = w } else waiting patience w in
    ap tell (step-behind earlier way)
    ∙ ap (λ (s : Sending). if length next.held == 0 then record { outcome = answered 0; way = way_behind earlier next } else s) (waiting-behind patience earlier next)
    ∙ behind-if earlier (length next.held == 0) (record { outcome = answered 0; way = next }) (waiting patience next)

meeting-behind : (fate : Fate) (ask : Ask) (patience : ℕ) (earlier : List Ask) (way : Way) → meeting fate ask patience (way_behind earlier way) ≡ behind earlier (meeting fate ask patience way)
meeting-behind Deliver ask patience earlier way = refl
meeting-behind LoseAsk ask patience earlier way = refl
meeting-behind LoseReply ask patience earlier way = refl
meeting-behind Hold ask patience earlier way = waiting-behind patience earlier (record way { held = way.held ++ ask ∷ [] })
meeting-behind Twice ask patience earlier way = refl

-- what the sender is told comes from the latest deliveries
tells-behind : (outcome : Outcome) (made earlier : List Given) (sent : Sent) → Tells outcome made sent → Tells outcome (made ++ earlier) sent
tells-behind (answered later) made earlier sent (g, at, is) = (g, slice_get-left made earlier later (slice_get_within made later g at) ∙ at, is)
tells-behind lost made earlier sent is = is
tells-behind late made earlier sent is = is

-- a sending after earlier deliveries
sent-behind : (Gave Gives : Ask → Answered → Type 0) → Wider Gave Gives → (s : Sending) (plan : Option Plan) (held : List Ask) (before mid after : Option (List Given)) (earlier : List Given) (sent : Sent) → Made Gave before mid earlier → IsSending s plan held Gives mid after sent → IsSending (behind (asks_of earlier) s) plan held Gives before after sent
sent-behind Gave Gives wider s plan held before mid after earlier sent first next = record {
  plan_after = next.plan_after;
  held_after = next.held_after;
  made = next.made ++ earlier;
  is_made = made-more Gave Gives wider before mid after earlier next.made first next.is_made;
  delivered = map-append (λ (g : Given). g.ask) next.made earlier ∙ ap (λ (d : List Ask). d ++ asks_of earlier) next.delivered;
  tells = tells-behind s.outcome next.made earlier sent next.tells;
}

-- the due step, and then what the request meets
pub sends : (Gave Gives : Ask → Answered → Type 0) → Wider Gave Gives → (plan : Plan) (held now : List Ask) (before mid : Option (List Given)) (step : Option (ℕ × Answered)) (stepped : Stepped Gave held now before mid step) → option_map (λ s. s.0) step ≡ due_in plan (length held) → (fate : Fate) → fate ≡ next_fate plan.coming → (ask : Ask) (patience : ℕ) (later : Option Plan) (left : List Ask) (after : Option (List Given)) (sent : Sent) → IsSending (meeting fate ask patience (record { plan = asked (passed plan); held = now; delivered = [] })) later left Gives mid after sent → IsSending (sending plan held ask patience) later left Gives before after sent
sends Gave Gives wider plan held now before mid step stepped place fate is ask patience later left after sent meets =
    let made = stepped_made Gave held now before mid step stepped in
    let met : Way = record { plan = asked (passed plan); held = now; delivered = [] } in
    let way = stepped-way Gave plan held now [] before mid step stepped place in
    let none : asks_of made ++ [] ≡ asks_of made = append-nil (asks_of made) in
    let here : sending plan held ask patience ≡ behind (asks_of made) (meeting fate ask patience met) =
    ap (λ (w : Way). sending_from w ask patience) (way ∙ ap (λ (d : List Ask). record { plan = passed plan; held = now; delivered = d }) none)
    ∙ ap (λ (f : Fate). meeting f ask patience (way_behind (asks_of made) met)) (sym is)
    ∙ meeting-behind fate ask patience (asks_of made) met in
    let all = sent-behind Gave Gives wider (meeting fate ask patience met) later left before mid after made sent (made-stepped Gave held now before mid step stepped) meets in
    subst (λ (s : Sending). IsSending s later left Gives before after sent) (sym here) all

-- a plan that is told after a delivery, a lost reply and a second delivery
pub met-deliver : (Gave : Ask → Answered → Type 0) (plan : Option Plan) (held : List Ask) (before now : Option (List Given)) (ask : Ask) (answer : Answered) (patience : ℕ) → Made Gave before now (given ask answer ∷ []) → IfSome plan (λ p. IsSending (meeting Deliver ask patience (record { plan = p; held = held; delivered = [] })) plan held Gave before now (Answer answer))
met-deliver Gave None held before now ask answer patience made = tt
met-deliver Gave (Some p) held before now ask answer patience made = record {
  plan_after = refl;
  held_after = refl;
  made = given ask answer ∷ [];
  is_made = made;
  delivered = refl;
  tells = (given ask answer, refl, refl);
}

pub met-lose_reply : (Gave : Ask → Answered → Type 0) (plan : Option Plan) (held : List Ask) (before now : Option (List Given)) (ask : Ask) (answer : Answered) (patience : ℕ) → Made Gave before now (given ask answer ∷ []) → IfSome plan (λ p. IsSending (meeting LoseReply ask patience (record { plan = p; held = held; delivered = [] })) plan held Gave before now Lost)
met-lose_reply Gave None held before now ask answer patience made = tt
met-lose_reply Gave (Some p) held before now ask answer patience made = record {
  plan_after = refl;
  held_after = refl;
  made = given ask answer ∷ [];
  is_made = made;
  delivered = refl;
  tells = refl;
}

pub met-twice : (Gave : Ask → Answered → Type 0) (plan : Option Plan) (held : List Ask) (before now : Option (List Given)) (ask : Ask) (answer again : Answered) (patience : ℕ) → Made Gave before now (given ask again ∷ given ask answer ∷ []) → IfSome plan (λ p. IsSending (meeting Twice ask patience (record { plan = p; held = held; delivered = [] })) plan held Gave before now (Answer answer))
met-twice Gave None held before now ask answer again patience made = tt
met-twice Gave (Some p) held before now ask answer again patience made = record {
  plan_after = refl;
  held_after = refl;
  made = given ask again ∷ given ask answer ∷ [];
  is_made = made;
  delivered = refl;
  tells = (given ask answer, refl, refl);
}

-- the same of a call that may have found no memory
pub sends-ok : {E : Type 0} → (r : Result Sent E) (P Q : Sent → Type 0) → ((sent : Sent) → P sent → Q sent) → IfOk r P → IfOk r Q
sends-ok (Ok sent) P Q on is = on sent is
sends-ok (Err e) P Q on is = tt
