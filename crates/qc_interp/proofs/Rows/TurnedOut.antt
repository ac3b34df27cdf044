-- A step that runs bodies at once, where not all could be begun: the first tries of those that were are aborted as orphans, and
-- then the transaction stops, or was cut off meanwhile. It is the same where none was begun.
use Rattle.std.proofs.Common.{◌≡◌, ◌<◌, true, false, List, [], ◌++◌, length, map, sym, ap, ◌∙◌, subst, append-nil}
use Rattle.std.specs.Prelude.{Option, None, is_some}
use Rattle.std.specs.List.{AllByRecursion}
use Rattle.qc_event.specs.History.{Past, Name, end}
use Rattle.qc_event.specs.Legal.{Legal}
use Rattle.qc_script.specs.declared.tx.TxNo.{TxNo}
use Rattle.qc_script.specs.Client.{Client, ClientView, Made, HasJoined}
use Rattle.qc_script.specs.Plan.{Plan, Numbered, PlanFits}
use Rattle.qc_interp.specs.AtOnce.{StandingBranch, branch_in, BeganSome, InPairs, WasShown, MergedInTurn}
use Rattle.qc_interp.specs.Branches.{Branch, with_all, RanRow, row_step}
use Rattle.qc_interp.specs.Reach.{Reach}
use Rattle.qc_interp.specs.Running.{Runs, CutOff}
use Rattle.qc_interp.proofs.Listing.Lists.{all_parts}
use Rattle.qc_interp.proofs.Branching.Plans.{BodyFits}
use Rattle.qc_interp.proofs.Branching.Branches.{HaveOwnNumbers}
use Rattle.qc_interp.proofs.Scopes.Growth.{later_itself, made_both}
use Rattle.qc_interp.proofs.Branching.Joined.{joined_trans}
use Rattle.qc_interp.proofs.Rows.Back.{turns_back}
use Rattle.qc_interp.proofs.Rows.Few.{HasOnlyBegun}
use Rattle.qc_interp.proofs.Rows.Fits.{fits_own, fits_some, fits_each, fits_tried}
use Rattle.qc_interp.proofs.Rows.Leaves.{row_joined}
use Rattle.qc_interp.proofs.Rows.NoneBegun.{none_out, none_cut}
use Rattle.qc_interp.proofs.Rows.Out.{RowOut}
use Rattle.qc_interp.proofs.Rows.TurnedBack.{turned_leaves, turned_runs}
use Rattle.qc_interp.proofs.Rows.TurnedEnds.{row_turned_cut, row_turned_front}
use Rattle.qc_interp.proofs.Rows.Turning.{become_itself, none_or_some, bodies_in, joined_one, joined_old, runs_then, turned_client, turned_made, turned_only, turned_row}
use Rattle.qc_interp.proofs.Rows.Whole.{same_numbers}

-- The first bodies of a step were begun and the next was refused; their branches were shown the starts of all and merged. These
-- are their first tries.
pub record RowTurned (of : Name) (v w : ClientView) (bodies : List Numbered) (why : TxNo) (firsts : List Name) : Type 0 where
  pub begun : ClientView
  pub seen_by_all : ClientView
  pub bs : List StandingBranch
  pub ones : List StandingBranch
  pub others : List Numbered
  pub runs : Runs v.client of v.seen
  pub began : BeganSome v of bs begun why
  pub shown : InPairs (WasShown begun.seen) bs ones
  pub same : seen_by_all.client ≡ begun.client
  pub made : Made begun.client [] begun.seen seen_by_all.seen
  pub merged : MergedInTurn seen_by_all ones w
  pub first : bodies ≡ map (λ (b : StandingBranch). b.body) bs ++ others
  pub some : 0 < length others
  pub then : Plan
  pub fits : PlanFits v.client.setting (length of) (row_step bodies then)
  pub are : firsts ≡ map (λ (b : StandingBranch). b.first) ones

module _ {of : Name} {v w : ClientView} {bodies : List Numbered} {why : TxNo} {firsts : List Name} (t : RowTurned of v w bodies why firsts) where
  open t use {begun as m, seen_by_all as m1, bs, ones, others, runs, began, shown, same, made, merged, first, some, then, fits}

  abbrev c : Client
  c = v.client

  abbrev d : Client
  d = joined_one of v m m1 bs ones why runs began shown same made

  abbrev branches : List Branch
  branches = map branch_in ones

  each_fits : AllByRecursion (BodyFits c.setting (length of)) (map (λ (b : StandingBranch). b.body) bs)
  each_fits = (all_parts (BodyFits c.setting (length of)) (map (λ (b : StandingBranch). b.body) bs) others (subst (AllByRecursion (BodyFits c.setting (length of))) first (fits_each c.setting (length of) bodies then fits))).0

  own : HaveOwnNumbers bodies
  own = fits_own c.setting (length of) bodies then fits

  tried : AllByRecursion (λ (b : Numbered). 0 < b.tries) bodies
  tried = fits_tried c.setting (length of) bodies then fits

  -- the bodies of the branches come first
  bodies_are : bodies ≡ map (λ (b : Branch). b.body) branches ++ others
  bodies_are = first ∙ ap (λ l. l ++ others) (sym (bodies_in ones ∙ (same_numbers m.seen bs ones ones shown (become_itself ones)).1))

  client_is : w.client ≡ with_all d branches
  client_is = turned_client of v m m1 bs ones why runs began shown same made w merged

  row : 0 < length ones → RanRow Reach.cut_off (λ b. Unit {0}) d of v.seen began.0.seen w.seen branches
  row any = turned_row of v m m1 bs ones why runs began shown same made w merged each_fits any

  only : AllByRecursion (HasOnlyBegun d w.seen) branches
  only = turned_only of v m m1 bs ones why runs began shown same made w merged each_fits

  runs_d : Runs d of v.seen
  runs_d = runs_then of v m m1 bs ones why runs began shown same made

  alone : ones ≡ [] → w.client ≡ d
  alone none = client_is ∙ ap (λ l. with_all d (map branch_in l)) none ∙ ap (λ kin. record d { kin = kin }) (append-nil d.kin)

  -- THE CLIENT

  pub back_joined : HasJoined v.client v.seen w.client
  back_joined = none_or_some (HasJoined c v.seen w.client) ones
      (λ none. subst (HasJoined c v.seen) (sym (alone none)) (joined_old of v m m1 bs ones why runs began shown same made))
      (λ any. subst (HasJoined c v.seen) (sym client_is) (joined_trans c d (with_all d branches) v.seen v.seen (joined_old of v m m1 bs ones why runs began shown same made) (later_itself d v.seen runs_d.legal) (row_joined Reach.cut_off (λ b. Unit {0}) d of v.seen began.0.seen w.seen branches (row any))))

  pub back_legal : Legal w.client.setting w.seen
  back_legal = subst (λ (y : Client). Legal y.setting w.seen) (sym client_is) (turned_made of v m m1 bs ones why runs began shown same made w merged).legal

  -- AS FAR AS THEY WERE ABORTED

  module _ (above : List (Option Name)) (x : Past) (back : Made w.client (turns_back w.client (map branch_in ones) above) w.seen x) where
    back_all : Made (with_all d branches) (turns_back (with_all d branches) branches above) w.seen x
    back_all = subst (λ (y : Client). Made y (turns_back y branches above) w.seen x) client_is back

    -- where there is none
    runs_alone : ones ≡ [] → Runs w.client of v.seen
    runs_alone none = subst (λ y. Runs y of v.seen) (sym (alone none)) runs_d

    made_alone : ones ≡ [] → Made w.client [] v.seen x
    made_alone none =
        made_both w.client v.seen w.seen x (subst (λ y. Made y [] v.seen w.seen) (sym (alone none)) (turned_made of v m m1 bs ones why runs began shown same made w merged))
        (subst (λ (l : List StandingBranch). Made w.client (turns_back w.client (map branch_in l) above) w.seen x) none back)

    pub back_cut : (rest : Plan) → CutOff w.client of v.seen x (row_step bodies rest)
    back_cut rest = none_or_some (CutOff w.client of v.seen x (row_step bodies rest)) ones
        (λ none. none_cut w.client of v.seen x (runs_alone none) (made_alone none) bodies (fits_some c.setting (length of) bodies then fits) own tried rest)
        (λ any. subst (λ y. CutOff y of v.seen x (row_step bodies rest)) (sym client_is)
        (subst (λ l. CutOff (with_all d branches) of v.seen x (row_step l rest)) (sym bodies_are)
        (row_turned_cut (λ b. Unit {0}) d of v.seen began.0.seen w.seen branches (row any) runs_d only above x back_all others some (subst HaveOwnNumbers bodies_are own) (subst (AllByRecursion (λ (b : Numbered). 0 < b.tries)) bodies_are tried) rest)))

    -- where all of them have ended, whoever ended them
    pub back_out : AllByRecursion (λ (b : Branch). is_some (end x b.first) ≡ true) (map branch_in ones) → RowOut w.client of v.seen x bodies false None
    back_out ended = none_or_some (RowOut w.client of v.seen x bodies false None) ones
        (λ none. none_out w.client of v.seen x (runs_alone none) (made_alone none) bodies (fits_some c.setting (length of) bodies then fits) own tried)
        (λ any. subst (λ y. RowOut y of v.seen x bodies false None) (sym client_is) (record {
          leaves = turned_leaves (λ b. Unit {0}) d of v.seen began.0.seen w.seen branches (row any) runs_d only above x back_all ended;
          runs = turned_runs (λ b. Unit {0}) d of v.seen began.0.seen w.seen branches (row any) runs_d only above x back_all ended;
          front = subst (λ l. Rattle.qc_interp.specs.Branches.FrontRow (with_all d branches) of v.seen x l false None) (sym bodies_are)
              (row_turned_front (λ b. Unit {0}) d of v.seen began.0.seen w.seen branches (row any) runs_d only above x back_all others some (subst HaveOwnNumbers bodies_are own) (subst (AllByRecursion (λ (b : Numbered). 0 < b.tries)) bodies_are tried) ended);
        }))
