-- What a step leaves of whose bodies not all could be begun.
use Rattle.std.proofs.Common.{◌≡◌, Bool, true, false, List, [], length, map, sym, subst}
use Rattle.std.specs.Prelude.{Option, None, Some, is_some}
use Rattle.std.specs.List.{AllByRecursion}
use Rattle.qc_event.specs.History.{Past, Name, end, limit}
use Rattle.qc_event.specs.Legal.{Legal}
use Rattle.qc_event.specs.declared.short.Short.{Short}
use Rattle.qc_event.specs.Wants.{IsWant}
use Rattle.qc_script.specs.declared.tx.TxNo.{TxNo}
use Rattle.qc_script.specs.declared.tx.TxNo.TheVariants as tx_no
use Rattle.qc_script.specs.Calls.{Refuses}
use Rattle.qc_script.specs.Client.{ClientView, Made}
use Rattle.qc_script.specs.Plan.{Plan, Numbered}
use Rattle.qc_interp.specs.declared.body.branch.BranchCame.TheVariants as came
use Rattle.qc_interp.specs.AtOnce.{StandingBranch, branch_in, RefusedSo, IsFirst, TurnedSome, TurnedAll, KnowsBehind, WentBehind}
use Rattle.qc_interp.specs.Branches.{Branch, row_step}
use Rattle.qc_interp.specs.Running.{CutOff, HasActed}
use Rattle.qc_interp.proofs.Listing.Lists.{all_parts}
use Rattle.qc_interp.proofs.Branching.Ends.{refusal_stops, why_refused}
use Rattle.qc_interp.proofs.Branching.Plans.{BodyFits}
use Rattle.qc_interp.proofs.Scopes.Growth.{made_itself}
use Rattle.qc_interp.proofs.Rows.Aborts.{Back, back_some, back_all, refused_still}
use Rattle.qc_interp.proofs.Rows.Back.{none_back}
use Rattle.qc_interp.proofs.Rows.Fits.{fits_each}
use Rattle.qc_interp.proofs.Rows.Out.{RowOut, row_stops, row_cut_behind}
use Rattle.qc_interp.proofs.Rows.TurnedOut.{RowTurned, back_cut, back_out, back_legal}
use Rattle.qc_interp.proofs.Rows.Turning.{turned_firsts, turned_grown, turned_refused}

module _ {of : Name} {v w : ClientView} {bodies : List Numbered} {why : TxNo} {firsts : List Name} (t : RowTurned of v w bodies why firsts) where
  open t use {begun as m, seen_by_all as m1, bs, ones, others, runs, began, shown, same, made, merged, first, then, fits, are}

  legal : Legal w.client.setting w.seen
  legal = back_legal t

  -- it is refused still
  pub turned_refused_so : ((s : Short) → why ≡ tx_no.Short s → ⊥) → RefusedSo w.seen of why
  turned_refused_so other =
      let grown = turned_grown of v m m1 bs ones why runs began shown same made w merged in
      subst (λ h. RefusedSo h of why) (sym grown.1) (refused_still grown.0 m.seen of why (why_refused m.client of began.0.seen m.seen why began.2.refused other))

  -- Where there was no room to begin it, there is none. Where none was begun nothing was seen meanwhile.
  pub turned_want : (ones ≡ [] → w.seen ≡ m.seen) → (s : Short) → why ≡ tx_no.Short s → IsWant w.seen s
  turned_want idle s is = subst (Refuses w.seen of) is (turned_refused of v m m1 bs ones why runs began shown same made w merged idle)

  -- those that it aborts
  first_tries : AllByRecursion (IsFirst of w.seen) (map (λ (b : StandingBranch). b.first) ones)
  first_tries = turned_firsts of v m m1 bs ones why runs began shown same made w merged
      ((all_parts (BodyFits v.client.setting (length of)) (map (λ (b : StandingBranch). b.body) bs) others (subst (AllByRecursion (BodyFits v.client.setting (length of))) first (fits_each v.client.setting (length of) bodies then fits))).0)

  pub turned_are_firsts : AllByRecursion (IsFirst of w.seen) firsts
  turned_are_firsts = subst (AllByRecursion (IsFirst of w.seen)) (sym are) first_tries

  -- it was cut off before an abort, or as some were aborted
  pub turned_cut_at_once : (rest : Plan) → CutOff w.client of v.seen w.seen (row_step bodies rest)
  turned_cut_at_once rest = back_cut t [] w.seen (subst (λ es. Made w.client es w.seen w.seen) (sym (none_back w.client (map branch_in ones))) (made_itself w.client w.seen legal)) rest

  pub turned_cut_off : (x : Past) (rest : Plan) → TurnedSome w.client firsts w.seen x → CutOff w.client of v.seen x (row_step bodies rest)
  turned_cut_off x rest turned =
      let back = back_some w.client ones w.seen x (subst (λ ns. TurnedSome w.client ns w.seen x) are turned) in
      back_cut t back.0 x back.1 rest

  -- all have ended
  module _ (refused : RefusedSo w.seen of why) (x : Past) (turned : TurnedAll w.client why firsts w.seen x) where
    back : Back w.client ones w.seen x × AllByRecursion (λ (b : Branch). is_some (end x b.first) ≡ true) (map branch_in ones)
    back = back_all w.client of ones w.seen x why legal runs.nonroot refused first_tries (subst (λ ns. TurnedAll w.client why ns w.seen x) are turned)

    pub turned_row_out : RowOut w.client of v.seen x bodies false None
    turned_row_out = back_out t back.0.0 x back.0.1 back.1

    -- it stops by the refusal
    pub turned_knows : KnowsBehind w.client of x (came.Refused why)
    turned_knows = refusal_stops w.client of x why (subst (λ h. RefusedSo h of why) (sym back.0.1.grown) (refused_still back.0.1.newer w.seen of why refused))

    pub turned_acted : (y : Past) (r : Option Bool) → WentBehind w.client of x y (came.Refused why) r → HasActed w.client of v.seen y (row_step bodies) r
    turned_acted y None went = absurd went
    turned_acted y (Some again) went = λ rest. row_stops w.client of v.seen x bodies y why again rest turned_row_out refused.1 went

    pub turned_cut_behind : (y : Past) (rest : Plan) → Made w.client [] x y → CutOff w.client of v.seen y (row_step bodies rest)
    turned_cut_behind y rest m = row_cut_behind w.client of v.seen x bodies y false None rest turned_row_out m
