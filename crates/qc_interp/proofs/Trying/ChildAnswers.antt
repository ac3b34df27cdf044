-- The tries of a child, by what each call of them left. They began from `v` on, and go on from `w`; `x` is what is left of asking for
-- a try, and `y` what its steps left, or what stopping left where it was refused.
use Rattle.std.proofs.Common.{◌≡◌, ℕ, suc, ◌+◌, ◌-◌, ◌<◌, Bool, true, false, length, [], ◌∷◌, sym, ◌∙◌, subst, arith}
use Rattle.std.specs.Prelude.{Option, Some}
use Rattle.qc_event.specs.declared.event.Event.TheVariants as event
use Rattle.qc_event.specs.declared.event.Kind.TheVariants as kind
use Rattle.qc_event.specs.History.{Past, Name, is_child}
use Rattle.qc_event.proofs.LastNumber.{child_longer}
use Rattle.qc_event.specs.declared.short.Short.{Short}
use Rattle.qc_script.specs.declared.tx.TxNo.{TxNo}
use Rattle.qc_script.specs.declared.tx.TxNo.TheVariants as tx_no
use Rattle.qc_script.specs.Calls.{by_client, WasRefused}
use Rattle.qc_script.specs.Client.{Client, ClientView, Made, HasJoined}
use Rattle.qc_script.specs.Plan.{Plan, Numbered, PlanFits}
use Rattle.qc_interp.specs.Running.{Runs, WhyStop, Stopped, Ended, CutOff, WentOn, Failed, child_step}
use Rattle.qc_interp.specs.declared.stops.Finish.{Finish}
use Rattle.qc_interp.specs.declared.stops.Finish.TheVariants as finish
use Rattle.qc_interp.proofs.Scopes.Growth.{made_both}
use Rattle.qc_interp.proofs.Branching.Joined.{StartedBy, started_by, joined_trans, joined_setting}
use Rattle.qc_interp.proofs.Trying.Tried.{Tried, tried_once, cut_once}
use Rattle.qc_interp.proofs.Trying.TriesLeft.{TriesLeft, tries_joined, tried_more, tried_failed, tried_out, tries_cut, not_begun, begin_stops, begin_cut, refused_made}

-- what the steps of a try fit
pub fits_child : (v d : Client) (before : Past) (of n : Name) (plan other : Plan) → HasJoined v before d → is_child of n ≡ true → other ≡ plan → PlanFits v.setting (length of + 1) plan → PlanFits d.setting (length n) other
fits_child v d before of n plan other joined child same fits =
    subst (λ p. PlanFits d.setting (length n) p) (sym same) (subst (λ s. PlanFits s (length n) plan) (sym (joined_setting v d before joined)) (subst (λ k. PlanFits v.setting k plan) (sym (child_longer of n child)) fits))

-- what a try that was refused to begin leaves, as it is for want of memory or room, and as it stops or is cut off there
pub record Unbegun (v x y : ClientView) (of : Name) (body : Numbered) (why : TxNo) : Type 0 where
  pub cut : (rest : Plan) → CutOff x.client of v.seen x.seen (child_step body rest)
  pub stopped_cut : y.client ≡ x.client → Made x.client [] x.seen y.seen → (rest : Plan) → CutOff y.client of v.seen y.seen (child_step body rest)
  pub stops : ((s : Short) → why ≡ tx_no.Short s → ⊥) → Runs x.client of x.seen × WhyStop x.client x.seen of why
  pub ended : ((s : Short) → why ≡ tx_no.Short s → ⊥) → (again : Bool) → y.client ≡ x.client → Stopped x.client of why x.seen y.seen again → (rest : Plan) → Ended y.client of v.seen y.seen (child_step body rest) (finish.Stopped again)

-- what a try that ran leaves, by what it came to; `left` are the tries left behind it
pub record RanTry (v w x y : ClientView) (of n : Name) (body : Numbered) (left : ℕ) (steps : Plan) : Type 0 where
  pub joined : HasJoined v.client v.seen w.client → HasJoined v.client v.seen y.client
  pub through : Ended y.client n x.seen y.seen steps finish.Committed → WentOn y.client of v.seen y.seen (child_step body)
  pub failed : Ended y.client n x.seen y.seen steps (finish.Stopped false) → Failed y.client of v.seen y.seen body n
  pub again : Ended y.client n x.seen y.seen steps (finish.Stopped true) → TriesLeft y.client of body v.seen y.seen (Some n) left
  pub cut : CutOff y.client n x.seen y.seen steps → (rest : Plan) → CutOff y.client of v.seen y.seen (child_step body rest)

module _ (v w x y : ClientView) (of : Name) (body : Numbered) (last : Option Name) (counter : ℕ) (left : TriesLeft w.client of body v.seen w.seen last (body.tries - counter)) (few : counter < body.tries) (same : x.client ≡ w.client) where
  fewer : (c : Client) → TriesLeft c of body v.seen w.seen last (body.tries - counter) → TriesLeft c of body v.seen w.seen last (suc (body.tries - (counter + 1)))
  fewer c l = subst (TriesLeft c of body v.seen w.seen last) (let e : body.tries - counter ≡ suc (body.tries - (counter + 1)) = omega (arith, few) in e) l

  pub unbegun : (why : TxNo) → WasRefused w.client of w.seen x.seen why → Unbegun v x y of body why
  unbegun why refused =
      let made = refused_made w.client of body w.seen x.seen why refused in
      record {
        cut = λ rest. subst (λ d. CutOff d of v.seen x.seen (child_step body rest)) (sym same) (begin_cut w.client of body v.seen w.seen x.seen _ _ rest (fewer w.client left) made);
        stopped_cut = λ still more rest.
            subst (λ d. CutOff d of v.seen y.seen (child_step body rest)) (sym (still ∙ same))
            (begin_cut w.client of body v.seen w.seen y.seen _ _ rest (fewer w.client left) (made_both w.client w.seen x.seen y.seen made (subst (λ (d : Client). Made d [] x.seen y.seen) same more)));
        stops = λ other. subst (λ d. Runs d of x.seen × WhyStop d x.seen of why) (sym same) (begin_stops w.client of body w.seen x.seen why left.runs refused other);
        ended = λ other again still stopped rest.
            subst (λ d. Ended d of v.seen y.seen (child_step body rest) (finish.Stopped again)) (sym (still ∙ same))
            (not_begun w.client of body v.seen w.seen x.seen y.seen _ _ why again rest (fewer w.client left) refused other (subst (λ d. Stopped d of why x.seen y.seen again) same stopped));
      }

  module _ (n : Name) (child : is_child of n ≡ true) (number : ℕ) (is : number ≡ body.number) (begun : Made w.client (by_client w.client (event.Start n (kind.User w.client.session number)) ∷ []) w.seen x.seen) (ran : HasJoined x.client x.seen y.client) (steps : Plan) (plan : steps ≡ body.plan) where
    by : StartedBy w.client y.client n body.number w.seen x.seen
    by = started_by w.client x.client y.client n body.number number w.seen x.seen same is ran begun

    so_far : TriesLeft y.client of body v.seen w.seen last (suc (body.tries - (counter + 1)))
    so_far = fewer y.client (tries_joined w.client y.client of body v.seen w.seen by.since last (body.tries - counter) left)

    tried : (to : Finish) → Ended y.client n x.seen y.seen steps to → Tried y.client of n body w.seen y.seen to
    tried to ended = tried_once y.client of n body w.seen x.seen y.seen so_far.runs child by.made to (subst (λ p. Ended y.client n x.seen y.seen p to) plan ended)

    pub ran_try : RanTry v w x y of n body (body.tries - (counter + 1)) steps
    ran_try = record {
      joined = λ joined. joined_trans v.client w.client y.client v.seen w.seen joined left.leaves.later by.since;
      through = λ ended. tried_out y.client of body v.seen w.seen y.seen last _ n so_far (tried finish.Committed ended);
      failed = λ ended. tried_failed y.client of body v.seen w.seen y.seen last _ n so_far (tried (finish.Stopped false) ended);
      again = λ ended. tried_more y.client of body v.seen w.seen y.seen last _ n so_far (tried (finish.Stopped true) ended);
      cut = λ cut rest. tries_cut y.client of body v.seen w.seen y.seen last _ rest so_far (cut_once y.client of n body w.seen x.seen y.seen so_far.runs child by.made (subst (CutOff y.client n x.seen y.seen) plan cut));
    }
