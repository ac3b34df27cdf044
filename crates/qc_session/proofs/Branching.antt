-- What a client's branch is, and what both are told once they have seen the same.
use Rattle.std.proofs.Common.{◌≡◌, ℕ, [], ◌∷◌, ap, sym, subst, ◌∙◌}
use Rattle.std.specs.Prelude.{Option, None, Some, IfSome, IsTrue, MatchOption, ◌&&◌, true, option_map, List}
use Rattle.std.specs.List.{list_all}
use Rattle.qc_carry.specs.Branching.{IsBranch}
use Rattle.qc_carry.specs.Kept.{net_of}
use Rattle.qc_event.specs.Base.{Setting}
use Rattle.qc_event.specs.History.{Name}
use Rattle.qc_event.specs.Legal.{Legal}
use Rattle.qc_net.specs.Messages.{Net, meets_fates}
use Rattle.qc_net.specs.Plan.{Plan, anew}
use Rattle.qc_desk.specs.declared.view.View.{View}
use Rattle.qc_desk.specs.Entries.{entries_of}
use Rattle.qc_desk.specs.Rules.{numbers}
use Rattle.qc_desk.proofs.Since.{others_where_none}
use Rattle.qc_script.specs.Calls.{Branched, MeetsLink}
use Rattle.qc_board.specs.Boards.{Mark}
use Rattle.qc_session.specs.Clients.{link_told, view_of}
use Rattle.qc_session.specs.Keeping.{IsClientPass}
use Rattle.qc_session.proofs.Keeping.{new_keeps}
use Rattle.qc_session.proofs.Settled.{client_above}
use Rattle.qc_session.proofs.Walks.{same_net}

module _ (setting : Setting) (root of : Name) (session : ℕ) (v w b : View) (is : IsBranch v w b) where
  alone : numbers b ≡ b.number ∷ []
  alone = ap numbers is.fresh

  seen : b.seen ≡ v.seen
  seen = ap (λ (x : View). x.seen) is.fresh

  -- a link that begins anew has the same fates
  pub anew_net : (plan fresh : Option Plan) (patience patience' : ℕ) → fresh ≡ option_map anew plan → patience' ≡ patience → link_told fresh patience' ≡ link_told plan patience
  anew_net plan fresh patience patience' same patient = same_net plan fresh patience patience' (by_plan plan fresh same) patient
    where
      by_plan : (p q : Option Plan) → q ≡ option_map anew p → option_map anew q ≡ option_map anew p
      by_plan None q same = ap (option_map anew) same
      by_plan (Some p) q same = ap (option_map anew) same

  pub branched : (epoch epoch_w epoch_b : ℕ) (net net_w net_b : Option Net) → epoch_w ≡ epoch → epoch_b ≡ epoch → net_w ≡ net → net_b ≡ net
      → Branched (view_of setting root session epoch net v) (view_of setting root session epoch_w net_w w) of (view_of setting of session epoch_b net_b b)
  branched epoch epoch_w epoch_b net net_w net_b same same_b told told_b = record {
    number = b.number;
    is_one = client_above b.number is.number;
    other = is.other.0;
    not_out = is.other.1;
    none = others_where_none b.number v.seen is.none;
    branch = λ i. view_of setting of session (same_b i) (told_b i) (is.fresh i);
    left = λ i. view_of setting root session (same i) (told i) (is.left i);
  }

  -- the client has the same requests as before
  pub still_met : (epoch epoch_w : ℕ) (net net_w : Option Net) → net_w ≡ net → MeetsLink (view_of setting root session epoch net v) → MeetsLink (view_of setting root session epoch_w net_w w)
  still_met epoch epoch_w net net_w told met =
      subst (λ (x : Option Net × View). MatchOption x.0 (Unit {0}) (λ n. IsTrue (list_all (λ seat. meets_fates seat n x.1.seen) (numbers x.1)))) (λ i. (sym told i, sym is.left i)) met

  -- its branch has made none
  pub branch_met : (epoch : ℕ) (plan : Option Plan) (patience : ℕ) → IfSome plan (λ p. IsTrue (meets_fates b.number (net_of p patience) b.seen)) → MeetsLink (view_of setting of session epoch (link_told plan patience) b)
  branch_met epoch None patience own = tt
  branch_met epoch (Some p) patience own = subst (λ ns. IsTrue (list_all (λ seat. meets_fates seat (net_of p patience) b.seen) ns)) (sym alone) (ap (λ x. x && true) own)

  -- the client keeps its pass
  pub left_keeps : (marks : List Mark) → IsClientPass v marks → IsClientPass w marks
  left_keeps marks was = subst (λ (x : View). IsClientPass x marks) (sym is.left) (record { high = was.high; kin = was.kin; tidy = was.tidy; marks_known = was.marks_known })

  none_there : entries_of b.number b.seen ≡ []
  none_there = ap (entries_of b.number) seen ∙ is.none

  -- so does the branch, which has entered nothing
  pub branch_keeps : Legal setting b.seen → (marks : List Mark) → IsClientPass b marks
  branch_keeps legal marks = new_keeps setting b marks is.number (ap (λ (x : View). x.kin) is.fresh) legal none_there
