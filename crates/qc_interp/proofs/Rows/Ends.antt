-- Branches at once that came to the end: what follows them is with them the whole step.
use Rattle.std.proofs.Common.{◌≡◌, Bool, true, List, [], ◌∷◌, ◌++◌, map, sym, ap, ◌∙◌, subst}
use Rattle.std.specs.Prelude.{Option, is_some, option_map}
use Rattle.std.specs.List.{AllByRecursion, list_all}
use Rattle.std.proofs.lemmas.Bool.{and_parts}
use Rattle.std.proofs.lemmas.List.Folds.{list_all-append}
use Rattle.qc_event.specs.History.{Past, Name, end, children, child_in}
use Rattle.qc_script.specs.Client.{Client, mine, AreOurs}
use Rattle.qc_script.specs.Plan.{Numbered, row_of}
use Rattle.qc_interp.specs.Branches.{Branch, with_all, RanRow, FrontRow}
use Rattle.qc_interp.specs.Deeds.{Deed, deeds, OfChild}
use Rattle.qc_interp.specs.Follows.{RunsRow}
use Rattle.qc_interp.specs.Reach.{Reach}
use Rattle.qc_interp.specs.Running.{Runs}
use Rattle.qc_interp.proofs.Stepping.Asked.{wider_all}
use Rattle.qc_interp.proofs.Rows.Asked.{row_asked}
use Rattle.qc_interp.proofs.Rows.Front.{front_of}
use Rattle.qc_interp.proofs.Rows.Here.{HaveOwnBodies, here, row_deeds}
use Rattle.qc_interp.proofs.Rows.Idle.{row_begins_first}
use Rattle.qc_interp.proofs.Rows.Later.{HaveRun}
use Rattle.qc_interp.proofs.Rows.Leaves.{row_later, mine_now, mine_before}
use Rattle.qc_interp.proofs.Rows.Outcome.{row_seats, row_tried, row_failed}
use Rattle.qc_interp.proofs.Rows.Runs.{each_ended, row_runs_on}
use Rattle.qc_interp.proofs.Rows.Stands.{all_tried, one_failed, row_run, row_at_once, row_begun}
use Rattle.qc_event.proofs.Granted.{every-append}

all_ended : (h : Past) (ts : List Name) → list_all (λ t. is_some (end h t)) ts ≡ true → AllByRecursion (OfChild (λ t. is_some (end h t) ≡ true)) (map Deed.child ts)
all_ended h [] all = tt
all_ended h (t ∷ ts) all = let parts = and_parts (is_some (end h t)) (list_all (λ x. is_some (end h x)) ts) all in (parts.0, all_ended h ts parts.1)

module _ (Stopped : Branch → Type 0) (c : Client) (of : Name) (before shown now : Past) (bs : List Branch) (row : RanRow Reach.to_the_end Stopped c of before shown now bs) (runs : Runs c of before) (own : HaveOwnBodies bs) where
  abbrev d : Client
  d = with_all c bs

  abbrev bodies : List Numbered
  bodies = map (λ (b : Branch). b.body) bs

  abbrev ds : List Deed
  ds = here Reach.to_the_end Stopped c of before shown now bs row

  have_run : AreOurs d of now → HaveRun c.session (mine d now) (row_of bodies) ds
  have_run ours = record {
    at_once = row_at_once Reach.to_the_end Stopped c of before shown now bs row runs ours own;
    seats = row_seats Reach.to_the_end Stopped c of before shown now bs row runs ours own;
    begins = row_begins_first Reach.to_the_end Stopped c of before shown now bs row runs ours own;
    runs = subst (λ b. RunsRow Reach.to_the_end c.session (mine d now) b (row_of bodies) ds) (sym (row_begun Reach.to_the_end Stopped c of before shown now bs row runs ours own)) (row_run Reach.to_the_end Stopped c of before shown now bs row runs ours own);
    ended = all_ended (mine d now) (children (mine d row.made.newer) of) ended_here;
  }
    where
      ended_here : list_all (λ t. is_some (end (mine d now) t)) (children (mine d row.made.newer) of) ≡ true
      ended_here =
          (and_parts (list_all (λ t. is_some (end (mine d now) t)) (children (mine d before) of)) (list_all (λ t. is_some (end (mine d now) t)) (children (mine d row.made.newer) of))
          (sym (list_all-append (λ t. is_some (end (mine d now) t)) (children (mine d before) of) (children (mine d row.made.newer) of))
          ∙ ap (list_all (λ t. is_some (end (mine d now) t))) (sym (every-append (λ e. child_in of e.event) (mine d row.made.newer) (mine d before)) ∙ ap (λ l. children l of) (sym (mine_now Reach.to_the_end Stopped c of before shown now bs row)))
          ∙ each_ended (mine d now) (children (mine d now) of) ((row_runs_on Stopped c of before shown now bs row runs).closed ours))).1

  pub row_front : (out : Bool) (failed : Option Name) → (AreOurs (with_all c bs) of now → all_tried now bs ≡ out) → (AreOurs (with_all c bs) of now → out ≡ true → one_failed now bs ≡ option_map Deed.child failed)
      → FrontRow (with_all c bs) of before now (map (λ (b : Branch). b.body) bs) out failed
  row_front out failed tried first =
      front_of d of before now bodies ds out failed (row_later Reach.to_the_end Stopped c of before shown now bs row)
      (row_deeds Reach.to_the_end Stopped c of before shown now bs row ∙ ap (λ h. deeds h of ++ ds) (sym (mine_before Reach.to_the_end Stopped c of before shown now bs row))) (λ ours. record {
        run = have_run ours;
        tried = row_tried Reach.to_the_end Stopped c of before shown now bs row runs ours own ∙ tried ours;
        first = λ all. row_failed Reach.to_the_end Stopped c of before shown now bs row runs ours own ∙ first ours all;
        asked = (
          mine d row.made.newer,
          mine_now Reach.to_the_end Stopped c of before shown now bs row,
          wider_all _ _ (λ by target asks. (row_begun Reach.to_the_end Stopped c of before shown now bs row runs ours own, asks)) (mine d row.made.newer) (row_asked Reach.to_the_end Stopped c of before shown now bs row runs ours own),
        );
      })
