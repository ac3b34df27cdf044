-- The tries of a body that run as tops, by what each call of them left. They began from `v` on, and go on from `w`; `x` is what is
-- left of asking for a try, and `y` what its steps left.
use Rattle.std.proofs.Common.{◌≡◌, ℕ, suc, ◌+◌, ◌-◌, ◌<◌, true, false, List, [], ◌∷◌, sym, subst, arith}
use Rattle.qc_event.specs.declared.event.Event.TheVariants as event
use Rattle.qc_event.specs.declared.event.Kind.TheVariants as kind
use Rattle.qc_event.specs.History.{Past, Name, is_child}
use Rattle.qc_script.specs.declared.tx.TxNo.{TxNo}
use Rattle.qc_script.specs.Calls.{by_client, WasRefused}
use Rattle.qc_script.specs.Client.{Client, ClientView, Made, HasJoined}
use Rattle.qc_script.specs.Numbers.{Numbers}
use Rattle.qc_script.specs.Plan.{Plan, Numbered}
use Rattle.qc_interp.specs.Running.{Ended, CutOff}
use Rattle.qc_interp.specs.Session.{RanTops, CutTops}
use Rattle.qc_interp.specs.Tries.{is_again}
use Rattle.qc_interp.specs.declared.stops.Finish.{Finish}
use Rattle.qc_interp.proofs.Branching.Joined.{StartedBy, started_by, joined_trans}
use Rattle.qc_interp.proofs.Sessions.TopLoops.{TopTriesLeft, top_tries_joined, top_more, top_out, top_not_begun, try_cut}
use Rattle.qc_interp.proofs.Sessions.TopsRun.{TriedTop, top_once, top_cut}
use Rattle.qc_interp.proofs.Trying.TriesLeft.{refused_made}

-- what a try that ran leaves, by what it came to; `left` are the tries left behind it
pub record RanTop (v w x y : ClientView) (n : Name) (body : Numbered) (left : ℕ) (steps : Plan) : Type 0 where
  pub joined : HasJoined v.client v.seen w.client → HasJoined v.client v.seen y.client
  pub out : (to : Finish) → Ended y.client n x.seen y.seen steps to → is_again to ≡ false → RanTops y.client v.seen y.seen (λ rest. body ∷ rest)
  pub more : (to : Finish) → Ended y.client n x.seen y.seen steps to → is_again to ≡ true → TopTriesLeft y.client body v.seen y.seen left
  pub cut : CutOff y.client n x.seen y.seen steps → (rest : List Numbered) → CutTops y.client v.seen y.seen (body ∷ rest)

fewer : (c : Client) (body : Numbered) (before now : Past) (counter : ℕ) → counter < body.tries → TopTriesLeft c body before now (body.tries - counter) → TopTriesLeft c body before now (suc (body.tries - (counter + 1)))
fewer c body before now counter few left = subst (TopTriesLeft c body before now) (let e : body.tries - counter ≡ suc (body.tries - (counter + 1)) = omega (arith, few) in e) left

module _ (v w x : ClientView) (body : Numbered) (counter : ℕ) (left : TopTriesLeft w.client body v.seen w.seen (body.tries - counter)) (few : counter < body.tries) (same : x.client ≡ w.client) where
  -- it was refused to begin
  pub top_unbegun : (of : Name) (why : TxNo) → WasRefused w.client of w.seen x.seen why → (rest : List Numbered) → CutTops x.client v.seen x.seen (body ∷ rest)
  top_unbegun of why refused rest =
      subst (λ d. CutTops d v.seen x.seen (body ∷ rest)) (sym same) (top_not_begun w.client body v.seen w.seen x.seen _ rest (fewer w.client body v.seen w.seen counter few left) (refused_made w.client of body w.seen x.seen why refused))

  module _ (y : ClientView) (n : Name) (top : is_child [] n ≡ true) (number : ℕ) (is : number ≡ body.number) (begun : Made w.client (by_client w.client (event.Start n (kind.User w.client.session number)) ∷ []) w.seen x.seen) (numbers : Numbers w.client w.seen x.seen) (ran : HasJoined x.client x.seen y.client) (steps : Plan) (plan : steps ≡ body.plan) where
    by : StartedBy w.client y.client n body.number w.seen x.seen
    by = started_by w.client x.client y.client n body.number number w.seen x.seen same is ran begun

    so_far : TopTriesLeft y.client body v.seen w.seen (suc (body.tries - (counter + 1)))
    so_far = fewer y.client body v.seen w.seen counter few (top_tries_joined w.client y.client body v.seen w.seen by.since (body.tries - counter) left)

    tried : (to : Finish) → Ended y.client n x.seen y.seen steps to → TriedTop y.client body w.seen y.seen (is_again to)
    tried to ended = top_once y.client n body w.seen x.seen y.seen top by.made (by.numbers numbers) to (subst (λ p. Ended y.client n x.seen y.seen p to) plan ended)

    pub ran_top : RanTop v w x y n body (body.tries - (counter + 1)) steps
    ran_top = record {
      joined = λ joined. joined_trans v.client w.client y.client v.seen w.seen joined left.later by.since;
      out = λ to ended again. top_out y.client body v.seen w.seen y.seen _ so_far (subst (TriedTop y.client body w.seen y.seen) again (tried to ended));
      more = λ to ended again. top_more y.client body v.seen w.seen y.seen _ so_far (subst (TriedTop y.client body w.seen y.seen) again (tried to ended));
      cut = λ cut rest. try_cut y.client body v.seen w.seen y.seen _ rest so_far (top_cut y.client n body w.seen x.seen y.seen top by.made (by.numbers numbers) (subst (CutOff y.client n x.seen y.seen) plan cut));
    }
