-- The pass of a client that has entered nothing.
use Rattle.std.proofs.Common.{◌≡◌, ℕ, ◌<◌, List, [], ◌∷◌, map, sym, ap, subst}
use Rattle.qc_board.specs.Boards.{Mark}
use Rattle.qc_event.specs.Base.{Setting}
use Rattle.qc_event.specs.History.{Past}
use Rattle.qc_event.specs.Legal.{Legal}
use Rattle.qc_desk.specs.declared.view.View.{View}
use Rattle.qc_desk.specs.Entries.{entries_of}
use Rattle.qc_desk.specs.Rules.{AreKin, numbers}
use Rattle.qc_desk.proofs.Having.{has_none}
use Rattle.qc_session.specs.Keeping.{IsClientPass}
use Rattle.qc_session.specs.Marking.{KnowsMarks}
use Rattle.qc_session.specs.Session.{AreHigh}
use Rattle.qc_session.specs.Tidy.{AreTidy}
use Rattle.qc_session.proofs.High.{one_high}
use Rattle.qc_session.proofs.OwnMarks.{one_known}
use Rattle.qc_session.proofs.Tidy.{fresh_tidy}

pub new_keeps : (setting : Setting) (v : View) (marks : List Mark) → 17 < v.number → v.kin ≡ [] → Legal setting v.seen → entries_of v.number v.seen ≡ [] → IsClientPass v marks
new_keeps setting v marks high none legal nothing =
    let alone : numbers v ≡ v.number ∷ [] = ap (λ (ks : List (ℕ × Past)). v.number ∷ map (λ (p : ℕ × Past). p.0) ks) none in
    record {
      high = subst AreHigh (sym alone) (one_high v.number high);
      kin = subst (λ (ks : List (ℕ × Past)). AreKin ks v.seen) (sym none) (λ k m h. absurd (has_none (k, m) h));
      tidy = ∣ subst (λ ns. AreTidy ns v.seen) (sym alone) (fresh_tidy setting v.number v.seen legal nothing, tt) ∣₁;
      marks_known = ∣ subst (λ ns. KnowsMarks ns v.seen marks) (sym alone) (one_known v.number marks v.seen nothing) ∣₁;
    }
