-- What a step leaves whose branches all ran.
use Rattle.std.proofs.Common.{◌≡◌, ℕ, suc, ◌≤◌, Bool, true, false, List, [], ◌∷◌, ◌++◌, map, length, refl, sym, ap, ◌∙◌, subst, Ok, Err}
use mathlib.Core.Bool.{true≢false}
use Rattle.std.specs.Prelude.{Option, None, Some, Result, IfErr, slice_get, option_map}
use Rattle.std.specs.List.{AllByRecursion}
use Rattle.qc_event.specs.declared.short.Short.{Short}
use Rattle.qc_event.specs.History.{Past, Name, limit}
use Rattle.qc_script.specs.declared.tx.TxNo.{TxNo}
use Rattle.qc_script.specs.Client.{Client, ClientView, Made, HasJoined, AreOurs}
use Rattle.qc_script.specs.Plan.{Plan, Numbered}
use Rattle.qc_interp.specs.declared.body.branch.BranchCame.{BranchCame}
use Rattle.qc_interp.specs.declared.body.branch.BranchCame.TheVariants as came
use Rattle.qc_interp.specs.AtOnce.{StandingBranch, branch_in, BeganInTurn, InPairs, WasShown, HasRun, MergedInTurn, TriesEnd, IsCallRefusal, CameSo, row_came, came_worse, came_behind, KnowsBehind, WentBehind, RefusedSo}
use Rattle.qc_interp.specs.Branches.{Branch, with_all, RanRow, AreTriesOurs, row_step}
use Rattle.qc_interp.specs.Deeds.{Deed}
use Rattle.qc_interp.specs.Reach.{Reach}
use Rattle.qc_interp.specs.Running.{Runs, CutOff, HasActed, Stepped}
use Rattle.qc_interp.proofs.Branching.Ends.{refusal_stops}
use Rattle.qc_interp.proofs.Stepping.Marking.{acted_by}
use Rattle.qc_interp.proofs.Listing.Places.{each_place}
use Rattle.qc_interp.proofs.Rows.CameTo.{CameAt, Whole, ok, err, not_well, came_later, all_whole, all_cut, wants, CameOut, how_out}
use Rattle.qc_interp.proofs.Rows.Cut.{row_cut}
use Rattle.qc_interp.proofs.Rows.Ends.{row_front}
use Rattle.qc_interp.proofs.Rows.Here.{HaveOwnBodies}
use Rattle.qc_interp.proofs.Rows.Leaves.{row_leaves, row_joined}
use Rattle.qc_interp.proofs.Rows.Ours.{tries_ours}
use Rattle.qc_interp.proofs.Rows.Out.{RowOut, row_through, row_quit, row_stops, row_cut_behind}
use Rattle.qc_interp.proofs.Rows.Ran.{Became, has_become, MadeNoMore, MergedSome}
use Rattle.qc_interp.proofs.Rows.Runs.{row_runs_on, row_has_failed}
use Rattle.qc_interp.proofs.Rows.Stands.{all_tried, one_failed}
use Rattle.qc_interp.proofs.Rows.Whole.{StaysOf, all_stay, client_is, no_more, the_row}
use Rattle.qc_event.proofs.Lists.{get_last}
use Rattle.qc_event.specs.Wants.{IsWant}

pub all_become : (olds news : List StandingBranch) → InPairs HasRun olds news → InPairs Became olds news
all_become [] [] h = tt
all_become [] (b ∷ news) h = absurd h
all_become (a ∷ olds) [] h = absurd h
all_become (a ∷ olds) (b ∷ news) h = (has_become a b h.0, all_become olds news h.1)

-- what each came to stands behind its merge
came_since : (now : Past) (olds news : List StandingBranch) → length now ≤ limit → InPairs HasRun olds news → AllByRecursion (MadeNoMore now) news → AllByRecursion (CameAt now) news
came_since now [] [] bound h none = tt
came_since now [] (b ∷ news) bound h none = absurd h
came_since now (a ∷ olds) [] bound h none = absurd h
came_since now (a ∷ olds) (b ∷ news) bound h none = (came_later b.view.client b.body b.view.seen now none.0 bound b.came h.0.came, came_since now olds news bound h.1 none.1)

-- WHICH FAILED, AND WHY ONE WAS REFUSED

same_ok : (s x : BranchCame) → ok s ≡ ok x → s ≡ x
same_ok s x e = cc

failed_stays : (k l : Name) (bs : List StandingBranch) → row_came (Ok (came.Failed k)) bs ≡ Ok (came.Failed l) → l ≡ k
failed_stays k l [] is = same_name (same_ok (came.Failed k) (came.Failed l) is)
  where
    same_name : came.Failed k ≡ came.Failed l → l ≡ k
    same_name e = cc
failed_stays k l (b ∷ bs) is = by_came b.came (failed_stays k l bs) is
  where
    by_came : (o : Option (Result BranchCame Short)) → (row_came (Ok (came.Failed k)) bs ≡ Ok (came.Failed l) → l ≡ k) → row_came (came_behind (Ok (came.Failed k)) b.body.must o) bs ≡ Ok (came.Failed l) → l ≡ k
    by_came None more is = more is
    by_came (Some (Err why)) more is = absurd (not_well why (came.Failed l) bs is)
    by_came (Some (Ok came.Through)) more is = more is
    by_came (Some (Ok (came.Failed one))) more is = more is
    by_came (Some (Ok (came.Refused w))) more is = absurd (other (Rattle.qc_interp.proofs.Rows.CameTo.refused_stays w bs (came.Failed l) is))
      where
        other : came.Failed l ≡ came.Refused w → ⊥
        other e = cc

-- a branch at a place failed with this try
pub record FailedAt (now : Past) (bs : List Branch) (last : Name) : Type 0 where
  pub place : ℕ
  pub branch : Branch
  pub at : slice_get bs place ≡ Some branch
  pub ends : TriesEnd branch.client branch.body now (came.Failed last)

pub failed_at : (now : Past) (bs : List StandingBranch) (last : Name) → AllByRecursion (CameAt now) bs → row_came (Ok came.Through) bs ≡ Ok (came.Failed last) → FailedAt now (map branch_in bs) last
failed_at now [] last all is = absurd (other (same_ok came.Through (came.Failed last) is))
  where
    other : came.Through ≡ came.Failed last → ⊥
    other e = cc
failed_at now (b ∷ bs) last all is = by_came b.came b.body.must all.0 (λ h. behind (failed_at now bs last all.1 h)) is
  where
    behind : FailedAt now (map branch_in bs) last → FailedAt now (map branch_in (b ∷ bs)) last
    behind f = record { place = suc f.place; branch = f.branch; at = f.at; ends = f.ends }

    by_came : (o : Option (Result BranchCame Short)) (must : Bool) → CameSo b.view.client b.body now o → (row_came (Ok came.Through) bs ≡ Ok (came.Failed last) → FailedAt now (map branch_in (b ∷ bs)) last) → row_came (came_behind (Ok came.Through) must o) bs ≡ Ok (came.Failed last)
        → FailedAt now (map branch_in (b ∷ bs)) last
    by_came None must h more is = absurd h
    by_came (Some (Err why)) must h more is = absurd (not_well why (came.Failed last) bs is)
    by_came (Some (Ok came.Through)) true h more is = more is
    by_came (Some (Ok came.Through)) false h more is = more is
    by_came (Some (Ok (came.Failed one))) false h more is = more is
    by_came (Some (Ok (came.Failed one))) true h more is = record { place = 0; branch = branch_in b; at = refl; ends = subst (λ n. TriesEnd b.view.client b.body now (came.Failed n)) (sym (failed_stays one last bs is)) h }
    by_came (Some (Ok (came.Refused w))) true h more is = absurd (other w (Rattle.qc_interp.proofs.Rows.CameTo.refused_stays w bs (came.Failed last) is))
      where
        other : (w : TxNo) → came.Failed last ≡ came.Refused w → ⊥
        other w e = cc
    by_came (Some (Ok (came.Refused w))) false h more is = absurd (other w (Rattle.qc_interp.proofs.Rows.CameTo.refused_stays w bs (came.Failed last) is))
      where
        other : (w : TxNo) → came.Failed last ≡ came.Refused w → ⊥
        other w e = cc

pub refused_at : (c : Client) (of : Name) (now : Past) (bs : List StandingBranch) (s : BranchCame) (w : TxNo) → AllByRecursion (CameAt now) bs → AllByRecursion (StaysOf c of) bs → (s ≡ came.Refused w → RefusedSo now of w) → row_came (Ok s) bs ≡ Ok (came.Refused w) → RefusedSo now of w
refused_at c of now [] s w all stay was is = was (same_ok s (came.Refused w) is)
refused_at c of now (b ∷ bs) s w all stay was is = by_came b.came all.0 (λ y was_y h. refused_at c of now bs y w all.1 stay.1 was_y h) is
  where
    so : (v : TxNo) → TriesEnd b.view.client b.body now (came.Refused v) → came.Refused v ≡ came.Refused w → RefusedSo now of w
    so v h e = subst (λ n. RefusedSo now n w) stay.0.root (subst (λ y. RefusedSo now b.view.client.root y) (same_why e) h.1)
      where
        same_why : came.Refused v ≡ came.Refused w → v ≡ w
        same_why e = cc

    worse : (s : BranchCame) (must : Bool) (y : BranchCame) → TriesEnd b.view.client b.body now y → (s ≡ came.Refused w → RefusedSo now of w) → came_worse s must y ≡ came.Refused w → RefusedSo now of w
    worse came.Through true came.Through h was e = was e
    worse came.Through false came.Through h was e = was e
    worse came.Through true (came.Failed one) h was e = absurd (other e)
      where
        other : came.Failed one ≡ came.Refused w → ⊥
        other e = cc
    worse came.Through false (came.Failed one) h was e = was e
    worse came.Through true (came.Refused v) h was e = so v h e
    worse came.Through false (came.Refused v) h was e = so v h e
    worse (came.Failed one) must came.Through h was e = was e
    worse (came.Failed one) must (came.Failed two) h was e = was e
    worse (came.Failed one) must (came.Refused v) h was e = so v h e
    worse (came.Refused u) must y h was e = was e

    by_came : (o : Option (Result BranchCame Short)) → CameSo b.view.client b.body now o → ((y : BranchCame) → (y ≡ came.Refused w → RefusedSo now of w) → row_came (Ok y) bs ≡ Ok (came.Refused w) → RefusedSo now of w) → row_came (came_behind (Ok s) b.body.must o) bs ≡ Ok (came.Refused w) → RefusedSo now of w
    by_came None h more is = absurd h
    by_came (Some (Err why)) h more is = absurd (not_well why (came.Refused w) bs is)
    by_came (Some (Ok y)) h more is = more (came_worse s b.body.must y) (worse s b.body.must y h was) is

-- THE STEP

-- whether all were tried as often as they are, and which failed first
abbrev out_of : BranchCame → Bool
out_of (came.Refused why) = false
out_of x = true

abbrev failed_of : BranchCame → Option Name
failed_of (came.Failed last) = Some last
failed_of x = None

-- The bodies of a step were all begun; their branches were shown the starts of all, ran and were merged.
pub record RowDone (of : Name) (v w3 : ClientView) (bs2 : List StandingBranch) (bodies : List Numbered) : Type 0 where
  pub w1 : ClientView
  pub w2 : ClientView
  pub bs0 : List StandingBranch
  pub bs1 : List StandingBranch
  pub runs : Runs v.client of v.seen
  pub began : BeganInTurn v of bs0 w1
  pub shown : InPairs (WasShown w1.seen) bs0 bs1
  pub same : w2.client ≡ w1.client
  pub made : Made w1.client [] w1.seen w2.seen
  pub ran : InPairs HasRun bs1 bs2
  pub merged : MergedInTurn w2 bs2 w3
  pub some : MergedSome w3
  pub own : HaveOwnBodies (map branch_in bs2)
  pub are : map (λ (b : Branch). b.body) (map branch_in bs2) ≡ bodies

module _ {of : Name} {v w3 : ClientView} {bs2 : List StandingBranch} {bodies : List Numbered} (r : RowDone of v w3 bs2 bodies) where
  open r use {w1, w2, bs0, bs1, runs, began, shown, same, made, ran, merged, some, own, are}

  abbrev c : Client
  c = v.client

  abbrev bs : List Branch
  bs = map branch_in bs2

  became : InPairs Became bs1 bs2
  became = all_become bs1 bs2 ran

  came_all : AllByRecursion (CameAt w3.seen) bs2
  came_all = came_since w3.seen bs1 bs2 some.bounded ran (no_more of v w1 w2 bs0 bs1 bs2 runs.legal began shown same became made w3 merged)

  is : w3.client ≡ with_all c bs
  is = client_is of v w1 w2 bs0 bs1 bs2 runs.legal began shown same became made w3 merged

  cut_row : RanRow Reach.cut_off (λ b. Unit {0}) c of v.seen w1.seen w3.seen bs
  cut_row = the_row of v w1 w2 bs0 bs1 bs2 runs.legal began shown same became made w3 merged Reach.cut_off (λ b. Unit {0}) some (all_cut w3.seen bs2 came_all)

  pub done_joined : HasJoined c v.seen w3.client
  done_joined = subst (HasJoined c v.seen) (sym is) (row_joined Reach.cut_off (λ b. Unit {0}) c of v.seen w1.seen w3.seen bs cut_row)

  -- where one was cut off
  pub done_cut : (rest : Plan) → CutOff w3.client of v.seen w3.seen (row_step bodies rest)
  done_cut rest = subst (λ l. CutOff w3.client of v.seen w3.seen (row_step l rest)) are
      (subst (λ d. CutOff d of v.seen w3.seen (row_step (map (λ (b : Branch). b.body) bs) rest)) (sym is) (row_cut (λ b. Unit {0}) c of v.seen w1.seen w3.seen bs cut_row runs own rest))

  pub done_want : (why : Short) → row_came (Ok came.Through) bs2 ≡ Err why → IsWant w3.seen why
  done_want why told = subst (λ r. IfErr r (IsWant w3.seen)) told (wants w3.seen bs2 (Ok came.Through) came_all tt)

  -- where all ran
  module _ (x : BranchCame) (came_to : row_came (Ok came.Through) bs2 ≡ Ok x) where
    row : RanRow Reach.to_the_end (λ b. Unit {0}) c of v.seen w1.seen w3.seen bs
    row = the_row of v w1 w2 bs0 bs1 bs2 runs.legal began shown same became made w3 merged Reach.to_the_end (λ b. Unit {0}) some (all_whole w3.seen bs2 came.Through x came_all came_to)

    out : AreOurs (with_all c bs) of w3.seen → CameOut came.Through x (all_tried w3.seen bs) (one_failed w3.seen bs)
    out ours = how_out w3.seen bs2 came.Through x came_all (each_place (λ (b : Branch). AreTriesOurs b.client w3.seen) bs (λ i b at. tries_ours Reach.to_the_end (λ b. Unit {0}) c of v.seen w1.seen w3.seen bs row runs ours i b at)) came_to

    pub done_out : RowOut w3.client of v.seen w3.seen bodies (out_of x) (failed_of x)
    done_out = subst (λ l. RowOut w3.client of v.seen w3.seen l (out_of x) (failed_of x)) are (subst (λ d. RowOut d of v.seen w3.seen (map (λ (b : Branch). b.body) bs) (out_of x) (failed_of x)) (sym is) (record {
      leaves = row_leaves Reach.to_the_end (λ b. Unit {0}) c of v.seen w1.seen w3.seen bs row runs;
      runs = row_runs_on (λ b. Unit {0}) c of v.seen w1.seen w3.seen bs row runs;
      front = row_front (λ b. Unit {0}) c of v.seen w1.seen w3.seen bs row runs own (out_of x) (failed_of x) (λ ours. tried x (out ours)) (λ ours all. first x all (out ours));
    }))
      where
        t : Bool
        t = all_tried w3.seen bs

        tried : (y : BranchCame) → CameOut came.Through y (all_tried w3.seen bs) (one_failed w3.seen bs) → all_tried w3.seen bs ≡ out_of y
        tried came.Through h = h.0
        tried (came.Failed last) h = h.0
        tried (came.Refused why) h = h

        first : (y : BranchCame) → out_of y ≡ true → CameOut came.Through y (all_tried w3.seen bs) (one_failed w3.seen bs) → one_failed w3.seen bs ≡ option_map Deed.child (failed_of y)
        first came.Through all h = h.1
        first (came.Failed last) all h = h.1
        first (came.Refused why) all h = absurd (true≢false (sym all))

    pub done_knows : KnowsBehind w3.client of w3.seen x
    done_knows = subst (λ d. KnowsBehind d of w3.seen x) (sym is) (by_case x came_to)
      where
        by_case : (y : BranchCame) → row_came (Ok came.Through) bs2 ≡ Ok y → KnowsBehind (with_all c bs) of w3.seen y
        by_case came.Through h = tt
        by_case (came.Failed last) h =
            let f = failed_at w3.seen bs2 last came_all h in
            row_has_failed (λ b. Unit {0}) c of v.seen w1.seen w3.seen bs row runs f.place f.branch f.at (length f.ends.1.0) last (ap (λ l. slice_get l (length f.ends.1.0)) f.ends.1.1 ∙ get_last f.ends.1.0 last (length f.ends.1.0) refl) f.ends.2 f.ends.3
        by_case (came.Refused why) h =
            refusal_stops (with_all c bs) of w3.seen why (refused_at c of w3.seen bs2 came.Through why came_all (all_stay c of v w1 w1.seen bs0 bs1 bs2 (c.out, refl) began shown became) (λ e. absurd (other why e)) h)
          where
            other : (y : TxNo) → came.Through ≡ came.Refused y → ⊥
            other y e = cc

    -- what a call behind them comes to
    pub done_acted : (y : Past) (r : Option Bool) → WentBehind w3.client of w3.seen y x r → HasActed w3.client of v.seen y (row_step bodies) r
    done_acted y r went = acted_by w3.client of v.seen y (row_step bodies) r (by_case x r done_out done_knows went (refusal x came_to))
      where
        refusal : (z : BranchCame) → row_came (Ok came.Through) bs2 ≡ Ok z → (w : TxNo) → z ≡ came.Refused w → IsCallRefusal w
        refusal z h w e = (refused_at c of w3.seen bs2 came.Through w came_all (all_stay c of v w1 w1.seen bs0 bs1 bs2 (c.out, refl) began shown became) (λ e. absurd (other e)) (h ∙ ap ok e)).1
          where
            other : came.Through ≡ came.Refused w → ⊥
            other e = cc

        by_case : (z : BranchCame) (r : Option Bool) → RowOut w3.client of v.seen w3.seen bodies (out_of z) (failed_of z) → KnowsBehind w3.client of w3.seen z → WentBehind w3.client of w3.seen y z r → ((w : TxNo) → z ≡ came.Refused w → IsCallRefusal w) → Stepped w3.client of v.seen y (row_step bodies) r
        by_case came.Through None o knows went is_refusal = subst (λ h. Stepped w3.client of v.seen h (row_step bodies) None) (sym went) (row_through w3.client of v.seen w3.seen bodies o)
        by_case came.Through (Some again) o knows went is_refusal = absurd went
        by_case (came.Failed last) None o knows went is_refusal = absurd went
        by_case (came.Failed last) (Some again) o knows went is_refusal = λ rest. row_quit w3.client of v.seen w3.seen bodies y last again rest o knows went
        by_case (came.Refused why) None o knows went is_refusal = absurd went
        by_case (came.Refused why) (Some again) o knows went is_refusal = λ rest. row_stops w3.client of v.seen w3.seen bodies y why again rest o (is_refusal why refl) went

    pub done_cut_behind : (y : Past) (rest : Plan) → Made w3.client [] w3.seen y → CutOff w3.client of v.seen y (row_step bodies rest)
    done_cut_behind y rest m = row_cut_behind w3.client of v.seen w3.seen bodies y (out_of x) (failed_of x) rest done_out m
