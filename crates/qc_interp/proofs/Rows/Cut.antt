-- Branches at once that were cut off: their transaction came as far with the whole step.
use Rattle.std.proofs.Common.{◌≡◌, inl, inr, ℕ, arith, Bool, true, false, List, [], ◌∷◌, ◌++◌, map, refl, sym, ap, ◌∙◌, subst, append-nil}
use Rattle.std.specs.Prelude.{Option, None, Some}
use Rattle.std.specs.List.{AllByRecursion}
use Rattle.qc_event.specs.declared.event.How.{How}
use Rattle.qc_event.specs.declared.event.How.TheVariants.{Commit, Abort}
use Rattle.qc_event.specs.History.{Past, Name, end, is_ready}
use Rattle.qc_script.specs.Client.{Client, mine}
use Rattle.qc_script.specs.Plan.{Plan, row_of}
use Rattle.qc_interp.specs.Asking.{Asks, DoesInRow}
use Rattle.qc_interp.specs.Branches.{Branch, with_all, RanRow, row_step}
use Rattle.qc_interp.specs.Deeds.{Deed, deeds, OfChild}
use Rattle.qc_interp.specs.Follows.{IsUnended, AfterRow, GoesOnAfter, RunsPlan, RunsRow}
use Rattle.qc_interp.specs.Reach.{Reach}
use Rattle.qc_interp.specs.Rows.{each_tried, first_failed}
use Rattle.qc_interp.specs.Running.{Runs, EndsAt, CutOff}
use Rattle.qc_interp.proofs.Stepping.Asked.{wider_all}
use Rattle.qc_interp.proofs.Rows.Asked.{row_asked}
use Rattle.qc_interp.proofs.Rows.Here.{HaveOwnBodies, here, row_deeds}
use Rattle.qc_interp.proofs.Rows.Idle.{row_begins_first}
use Rattle.qc_interp.proofs.Rows.Leaves.{row_leaves, row_ready, row_unended, mine_now, mine_before}
use Rattle.qc_interp.proofs.Rows.Outcome.{row_seats}
use Rattle.qc_interp.proofs.Rows.Stands.{row_run, row_at_once, row_begun}
use Rattle.qc_interp.proofs.Rows.SameDeeds.{failed_is}
use Rattle.qc_interp.proofs.Stepping.Stopping.{running_stops, running_unended, running_runs}
use Rattle.qc_interp.proofs.Trying.TriesAlike.{IfAny}

-- WHO RUNS STILL

-- behind tries, the last of which is a child, a transaction that runs still came as far
module _ (s : ℕ) (h : Past) (n : Name) (how : Option How) (unended : IsUnended n how) (unready : is_ready h n ≡ false) where
  runs_behind : (c : Name) (o : Option How) (rest : Plan) → GoesOnAfter Reach.cut_off h n c o (RunsPlan Reach.cut_off s h n rest [] how) [] how
  runs_behind c None rest = (refl, running_unended h n how unended unready)
  runs_behind c (Some (Commit given)) rest = running_runs s h n how unended unready rest
  runs_behind c (Some (Abort x)) rest = (refl, inr (running_stops h n how unended unready))

  pub runs_after : (tried : Bool) (failed : Option Deed) (rest : Plan) → IfAny (OfChild (λ c. Unit {0})) failed → AfterRow Reach.cut_off h n tried failed (RunsPlan Reach.cut_off s h n rest [] how) [] how
  runs_after true None rest was = running_runs s h n how unended unready rest
  runs_after true (Some (Deed.child c)) rest was = runs_behind c (end h c) rest
  runs_after true (Some (Deed.mark m)) rest was = absurd was
  runs_after false failed rest was = (refl, running_stops h n how unended unready)

children_only : (ts : List Name) → AllByRecursion (OfChild (λ c. Unit {0})) (map Deed.child ts)
children_only [] = tt
children_only (t ∷ ts) = (tt, children_only ts)

module _ (Stopped : Branch → Type 0) (c : Client) (of : Name) (before shown now : Past) (bs : List Branch) (row : RanRow Reach.cut_off Stopped c of before shown now bs) (runs : Runs c of before) where
  abbrev d : Client
  d = with_all c bs

  abbrev ds : List Deed
  ds = here Reach.cut_off Stopped c of before shown now bs row

  abbrev branches : Plan
  branches = row_of (map (λ (b : Branch). b.body) bs)

  pub unended_now : IsUnended of (end (mine (with_all c bs) now) of)
  unended_now =
      row_unended Reach.cut_off Stopped c of before shown now bs row of (omega arith)
      (subst (λ h. IsUnended of (end h of)) (sym (mine_before Reach.cut_off Stopped c of before shown now bs row)) (runs.above of [] (sym (append-nil of)) runs.nonroot).0)

  pub unready_now : is_ready (mine (with_all c bs) now) of ≡ false
  unready_now =
      row_ready Reach.cut_off Stopped c of before shown now bs row of (omega arith) ∙ ap (λ h. is_ready h of) (mine_before Reach.cut_off Stopped c of before shown now bs row)
      ∙ (runs.above of [] (sym (append-nil of)) runs.nonroot).1

  pub deeds_now : deeds (mine (with_all c bs) now) of ≡ deeds (mine (with_all c bs) before) of ++ ds
  deeds_now =
      row_deeds Reach.cut_off Stopped c of before shown now bs row ∙ ap (λ h. deeds h of ++ ds) (sym (mine_before Reach.cut_off Stopped c of before shown now bs row))

  -- where all of them were begun
  row_begins : HaveOwnBodies bs → (rest : Plan) → EndsAt Reach.cut_off d of before now (row_step (map (λ (b : Branch). b.body) bs) rest)
  row_begins own rest = λ ours. (
    ds,
    deeds_now,
    (
      ds,
      [],
      sym (append-nil ds),
      (row_at_once Reach.cut_off Stopped c of before shown now bs row runs ours own, row_seats Reach.cut_off Stopped c of before shown now bs row runs ours own, row_begins_first Reach.cut_off Stopped c of before shown now bs row runs ours own, refl),
      subst (λ b. RunsRow Reach.cut_off c.session (mine d now) b branches ds) (sym (row_begun Reach.cut_off Stopped c of before shown now bs row runs ours own)) (row_run Reach.cut_off Stopped c of before shown now bs row runs ours own),
      runs_after c.session (mine d now) of (end (mine d now) of) unended_now unready_now (each_tried (mine d now) false branches ds) (first_failed (mine d now) branches ds) rest
          (failed_is (mine d now) (OfChild (λ x. Unit {0})) branches ds (children_only _)),
    ),
    (
      mine d row.made.newer,
      mine_now Reach.cut_off Stopped c of before shown now bs row,
      wider_all _ _ (λ by target asks. (
        ds,
        [],
        sym (append-nil ds),
        row_at_once Reach.cut_off Stopped c of before shown now bs row runs ours own,
        one_does (each_tried (mine d now) false branches ds) (first_failed (mine d now) branches ds) _ (Asks (mine d now) of rest [] by target) (row_begun Reach.cut_off Stopped c of before shown now bs row runs ours own, asks),
      )) (mine d row.made.newer) (row_asked Reach.cut_off Stopped c of before shown now bs row runs ours own),
    ),
  )
    where
      one_does : (tried : Bool) (failed : Option Deed) (One Rest : Type 0) → One → DoesInRow (mine d now) tried failed One [] Rest
      one_does true failed One Rest one = inl one
      one_does false failed One Rest one = (refl, one)

  pub row_cut : HaveOwnBodies bs → (rest : Plan) → CutOff (with_all c bs) of before now (row_step (map (λ (b : Branch). b.body) bs) rest)
  row_cut own rest = record {
    leaves = row_leaves Reach.cut_off Stopped c of before shown now bs row runs;
    unended = unended_now;
    begins = row_begins own rest;
  }
