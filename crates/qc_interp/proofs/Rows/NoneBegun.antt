-- A step that runs bodies at once, of which none was begun.
use Rattle.std.proofs.Common.{◌<◌, false, List, [], length, sym, ap, ◌∙◌, subst, append-nil}
use mathlib.Core.Bool.{true≢false}
use Rattle.std.specs.Prelude.{None}
use Rattle.std.specs.List.{AllByRecursion}
use Rattle.qc_event.specs.History.{Past, Name}
use Rattle.qc_script.specs.Client.{Client, mine, Made}
use Rattle.qc_script.specs.Plan.{Plan, Numbered, row_of}
use Rattle.qc_interp.specs.Branches.{row_step}
use Rattle.qc_interp.specs.Deeds.{deeds}
use Rattle.qc_interp.specs.Follows.{RunsRow}
use Rattle.qc_interp.specs.Reach.{Reach}
use Rattle.qc_interp.specs.Running.{Runs, CutOff}
use Rattle.qc_interp.proofs.Stepping.Asked.{asked_made}
use Rattle.qc_interp.proofs.Branching.Branches.{HaveOwnNumbers, first_at_once, first_own_seat, first_unbegun, first_untried, turned_back_runs}
use Rattle.qc_interp.proofs.Stepping.Ending.{still, leaves_still, runs_still, cut_still}
use Rattle.qc_interp.proofs.Scopes.Growth.{made_later}
use Rattle.qc_interp.proofs.Rows.Front.{front_of}
use Rattle.qc_interp.proofs.Rows.SameDeeds.{none_begin}
use Rattle.qc_interp.proofs.Rows.Out.{RowOut}

module _ (c : Client) (of : Name) (before now : Past) (runs : Runs c of before) (made : Made c [] before now) (bodies : List Numbered) (some : 0 < length bodies) (own : HaveOwnNumbers bodies) (tried : AllByRecursion (λ (b : Numbered). 0 < b.tries) bodies) where
  pub none_out : RowOut c of before now bodies false None
  none_out = record {
    leaves = leaves_still c of before now made;
    runs = runs_still c of before now made runs;
    front = front_of c of before now bodies [] false None (made_later c [] before now made) (ap (λ h. deeds h of) (still c of before now made) ∙ sym (append-nil _)) (λ ours. record {
      run = record {
        at_once = first_at_once (mine c now) bodies [] own tried tt;
        seats = first_own_seat (mine c now) bodies [] own tt tt;
        begins = none_begin (mine c now) (row_of bodies);
        runs = subst (λ b. RunsRow Reach.to_the_end c.session (mine c now) b (row_of bodies) []) (sym (first_unbegun (mine c now) bodies [] own some tt)) (turned_back_runs (mine c now) Reach.to_the_end c.session bodies [] tt);
        ended = tt;
      };
      tried = first_untried (mine c now) bodies [] own tried some tt;
      first = λ h. absurd (true≢false (sym h));
      asked = asked_made c [] before now _ made tt;
    });
  }

  pub none_cut : (rest : Plan) → CutOff c of before now (row_step bodies rest)
  none_cut rest = cut_still c of before now runs made (row_step bodies rest)
