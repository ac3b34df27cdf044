-- The history of a run is legal.
use Rattle.std.proofs.Common.{ℕ, List, [], reverse, subst, sym, inl, inr}
use Rattle.std.specs.Prelude.{Option}
use Rattle.qc_event.specs.Legal.{Legal}
use Rattle.qc_event.specs.Tables.{setting_of}
use Rattle.qc_report.specs.Indexed.{IsLegal}
use Rattle.qc_run.specs.Run.{NoneBegun, OfRun}
use Rattle.qc_run.specs.Words.{IsAudit}
use Rattle.qc_run.specs.declared.ran.Ran.{Ran}

none_is_legal : {D : Type 0} (ran : Ran D) → NoneBegun ran.start ran.trail → IsLegal ran.trail
none_is_legal ran none = subst IsLegal (sym none.1) (record { firsts = []; base = [] }, tt)

-- An audit begins nothing.
pub run_is_legal : {D : Type 0} (words : List (List ℕ)) (before now : Option (List ℕ)) (ran : Ran D) → (IsAudit words → NoneBegun ran.start ran.trail) → OfRun words before now ran (λ s. Legal (setting_of s.table ran.start) (reverse ran.trail)) → IsLegal ran.trail
run_is_legal words before now ran alone (inl audits) = none_is_legal ran (alone audits)
run_is_legal words before now ran alone (inr (inl other)) = none_is_legal ran other.none
run_is_legal words before now ran alone (inr (inr of)) = (setting_of of.0.table ran.start, of.2)
