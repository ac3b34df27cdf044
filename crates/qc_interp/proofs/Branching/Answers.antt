-- The tries of a branch, by what each call of it left. The branch was given as `v`; a try runs from `w` on, `y` is what its steps
-- left, and `x` what is left of asking for a further try.
use Rattle.std.proofs.Common.{◌≡◌, ℕ, length, suc, zero, ◌+◌, ◌-◌, ◌<◌, true, false, [], ◌∷◌, map, sym, ap, ◌∙◌, subst}
use Rattle.std.specs.Prelude.{Some}
use Rattle.qc_event.specs.declared.event.Event.TheVariants as event
use Rattle.qc_event.specs.declared.event.Kind.TheVariants as kind
use Rattle.qc_event.specs.History.{Past, Name, is_child}
use Rattle.qc_event.specs.declared.short.Short.{Short}
use Rattle.qc_script.specs.declared.tx.TxNo.{TxNo}
use Rattle.qc_script.specs.declared.tx.TxNo.TheVariants as tx_no
use Rattle.qc_script.specs.Calls.{by_client, Refuses, WasRefused}
use Rattle.qc_script.specs.Client.{Client, ClientView, mine, Made, HasJoined}
use Rattle.qc_script.specs.Plan.{Plan, Numbered, PlanFits}
use Rattle.qc_interp.specs.AtOnce.{IsCallRefusal, TriesEnd, came_at_last}
use Rattle.qc_interp.specs.Branches.{RanTries, AreTriesOurs, tries_by}
use Rattle.qc_interp.specs.Deeds.{Deed}
use Rattle.qc_interp.specs.Reach.{Reach}
use Rattle.qc_interp.specs.Rows.{was_tried}
use Rattle.qc_interp.specs.Running.{Ended, CutOff}
use Rattle.qc_interp.specs.Tries.{is_again}
use Rattle.qc_interp.specs.declared.stops.Finish.{Finish}
use Rattle.qc_interp.proofs.Branching.Ends.{GoesOn, goes_on, one_less, next_runs, tries_end, tries_cut_off, tries_stop, try_was_due, why_refused}
use Rattle.qc_interp.proofs.Branching.Left.{BranchLeft, TryRuns, runs_joined, try_done, try_cut_off, tried_further}
use Rattle.qc_interp.proofs.Branching.Tries.{TriedOne}
use Rattle.qc_interp.proofs.Trying.ChildAnswers.{fits_child}
use Rattle.qc_interp.proofs.Scopes.Growth.{made_later}
use Rattle.qc_interp.proofs.Branching.Joined.{joined_same}
use Rattle.qc_interp.proofs.Trying.TriesLeft.{refused_made}

-- what the steps of a try fit
pub fits_try : (v d : Client) (before : Past) (of n : Name) (plan other : Plan) → HasJoined v before d → d.root ≡ of → is_child d.root n ≡ true → other ≡ plan → PlanFits v.setting (length of + 1) plan → PlanFits d.setting (length n) other
fits_try v d before of n plan other joined root child same fits = fits_child v d before of n plan other joined (ap (λ r. is_child r n) (sym root) ∙ child) same fits

-- what a try that ended leaves; it may be the last
pub record EndedTry (v y : ClientView) (of n : Name) (body : Numbered) (left : ℕ) (to : Finish) : Type 0 where
  pub goes : GoesOn v.client v.seen of y.client y.seen
  pub ends : (is_again to ≡ true → left ≡ zero) → TriesEnd y.client body y.seen (came_at_last to n)

-- and where a further one was refused to begin
pub record RefusedTry (v x : ClientView) (of : Name) (body : Numbered) (why : TxNo) : Type 0 where
  pub goes : GoesOn v.client v.seen of x.client x.seen
  pub ran : (reach : Reach) → RanTries reach (Unit {0}) x.client body x.seen
  pub due : AreTriesOurs x.client x.seen → was_tried (mine x.client x.seen) false body.tries (map Deed.child (tries_by x.client x.seen)) ≡ false
  pub refused : ((s : Short) → why ≡ tx_no.Short s → ⊥) → Refuses x.seen x.client.root why × IsCallRefusal why

module _ (v w y : ClientView) (of n : Name) (body : Numbered) (counter : ℕ) (goes : GoesOn v.client v.seen of w.client w.seen) (start : Past) (runs : TryRuns w.client body start n w.seen (body.tries - counter)) (joined : HasJoined w.client w.seen y.client) (steps : Plan) (plan : steps ≡ body.plan) where
  abbrev left : ℕ
  left = body.tries - counter

  then_runs : TryRuns y.client body start n w.seen left
  then_runs = runs_joined w.client y.client body start n w.seen left joined runs

  -- it was cut off
  pub branch_cut_off : CutOff y.client n w.seen y.seen steps → GoesOn v.client v.seen of y.client y.seen × RanTries Reach.cut_off (Unit {0}) y.client body y.seen
  branch_cut_off cut = (
    goes_on v.client v.seen of w.client y.client w.seen y.seen goes joined cut.leaves.later,
    tries_cut_off y.client body start n w.seen y.seen left then_runs (try_cut_off y.client body start n w.seen left then_runs y.seen (subst (CutOff y.client n w.seen y.seen) plan cut)),
  )

  -- it ended
  module _ (to : Finish) (ended : Ended y.client n w.seen y.seen steps to) where
    goes_then : GoesOn v.client v.seen of y.client y.seen
    goes_then = goes_on v.client v.seen of w.client y.client w.seen y.seen goes joined ended.leaves.later

    one : TriedOne y.client body n then_runs.prior y.seen to
    one = try_done y.client body start n w.seen left then_runs y.seen to (subst (λ p. Ended y.client n w.seen y.seen p to) plan ended)

    pub branch_ended : EndedTry v y of n body left to
    branch_ended = record { goes = goes_then; ends = tries_end y.client body start n w.seen y.seen left then_runs to ended.leaves.later one }

    -- a further one is due
    module _ (few : counter < body.tries) (again : is_again to ≡ true) (x : ClientView) (same : x.client ≡ y.client) where
      due : BranchLeft y.client body start y.seen (Some n) (suc (body.tries - (counter + 1)))
      due = subst (BranchLeft y.client body start y.seen (Some n)) (one_less body.tries counter few) (tried_further y.client body start n w.seen y.seen left to then_runs again one)

      -- it was refused to begin
      pub branch_refused : (why : TxNo) → WasRefused y.client of y.seen x.seen why → RefusedTry v x of body why
      branch_refused why refused =
          let made = refused_made y.client of body y.seen x.seen why refused in
          let further = goes_on v.client v.seen of y.client x.client y.seen x.seen goes_then (joined_same _ _ _ same) (made_later x.client [] y.seen x.seen (subst (λ d. Made d [] y.seen x.seen) (sym same) made)) in
          record {
            goes = further;
            ran = λ reach. subst (λ d. RanTries reach (Unit {0}) d body x.seen) (sym same) (tries_stop y.client body start y.seen x.seen (Some n) _ due made reach);
            due = subst (λ d. AreTriesOurs d x.seen → was_tried (mine d x.seen) false body.tries (map Deed.child (tries_by d x.seen)) ≡ false) (sym same) (try_was_due y.client body start y.seen x.seen (Some n) _ due made);
            refused = λ other. subst (λ r. Refuses x.seen r why × IsCallRefusal why) (sym further.root) (why_refused y.client of y.seen x.seen why refused other);
          }

      -- it began
      pub further_runs : (next : Name) → is_child of next ≡ true → Made y.client (by_client y.client (event.Start next (kind.User y.client.session body.number)) ∷ []) y.seen x.seen → GoesOn v.client v.seen of x.client x.seen × TryRuns x.client body start next x.seen (body.tries - (counter + 1))
      further_runs next child begun =
          let made = subst (λ d. Made d (by_client d (event.Start next (kind.User d.session body.number)) ∷ []) y.seen x.seen) (sym same) begun in
          let further = goes_on v.client v.seen of y.client x.client y.seen x.seen goes_then (joined_same _ _ _ same) (made_later x.client _ y.seen x.seen made) in
          (further, next_runs x.client body start next y.seen x.seen (Some n) _ (subst (λ d. BranchLeft d body start y.seen (Some n) (suc (body.tries - (counter + 1)))) (sym same) due) (ap (λ r. is_child r next) further.root ∙ child) made)
