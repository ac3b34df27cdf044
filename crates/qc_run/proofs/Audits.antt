-- What an audit answers and writes, by what its parts keep.
use Rattle.std.proofs.Common.{◌≡◌, ℕ, ◌+◌, ◌≤◌, List, [], length, take, refl, sym, subst, inl, inr}
use Rattle.std.specs.Prelude.{IfSome, Some}
use Rattle.qc_audit.specs.Verdicts.{Judges}
use Rattle.qc_audit.specs.declared.verdict.Verdict.{Verdict}
use Rattle.qc_audit.specs.declared.verdict.Verdict.TheVariants as verdict
use Rattle.qc_io.specs.Io.{Rose, Appends, Drops, SinkView, SourceView}
use Rattle.qc_run.specs.Audit.{IsAudited, IsNoTrail, MayAudit, most_saved, status_of, verdict_text}
use Rattle.qc_run.specs.Auditing.{AreNoTrail, Concluded, IsAuditOf, Says, WereRefused}
use Rattle.qc_run.specs.Left.{HasAudited, IsRefusedRun}
use Rattle.qc_run.specs.Run.{IsOrMemory, NoneBegun}
use Rattle.qc_run.specs.declared.ran.Ran.{Ran}
use Rattle.qc_run.specs.declared.status.Status.{Status}
use Rattle.qc_run.specs.declared.status.Status.TheVariants as status
use Rattle.qc_run.proofs.Taken.{found_in, malformed, too_many}

-- VERDICTS

-- a verdict was written whole
pub concluded : (before now : SinkView) (found : Verdict) → Appends before.taken now.taken (verdict_text found) → before.faults ≤ now.faults → Concluded before now found (status_of found)
concluded before now (verdict.Serial table entries events) wrote later = record {
  may = tt;
  wrote = record { whole = λ _. wrote; front = λ e. absurd (differ e); line = λ told. absurd told; none = λ e. absurd (unlike e); cause = λ e. absurd (differ e); faults = later };
  says = (refl, wrote);
}
  where
    differ : status.Done ≡ status.WriteFault → ⊥
    differ e = cc

    unlike : status.Done ≡ status.Memory → ⊥
    unlike e = cc
concluded before now (verdict.Illegal entry) wrote later = record {
  may = tt;
  wrote = record { whole = λ reported. absurd reported; front = λ e. absurd (differ e); line = λ told. absurd told; none = λ e. absurd (unlike e); cause = λ e. absurd (differ e); faults = later };
  says = (refl, wrote);
}
  where
    differ : status.Illegal entry ≡ status.WriteFault → ⊥
    differ e = cc

    unlike : status.Illegal entry ≡ status.Memory → ⊥
    unlike e = cc
concluded before now (verdict.Unserial place) wrote later = record {
  may = tt;
  wrote = record { whole = λ reported. absurd reported; front = λ e. absurd (differ e); line = λ told. absurd told; none = λ e. absurd (unlike e); cause = λ e. absurd (differ e); faults = later };
  says = (refl, wrote);
}
  where
    differ : status.Unserial place ≡ status.WriteFault → ⊥
    differ e = cc

    unlike : status.Unserial place ≡ status.Memory → ⊥
    unlike e = cc

-- BYTES

module _ (source now : SourceView) (bytes : List ℕ) (taken : IfSome source.left (λ l. bytes ≡ take (most_saved + 1) l)) (drops : Drops source.left now.left (most_saved + 1)) (ended : IfSome source.left (λ l. length l ≤ most_saved → now.left ≡ Some [])) where
  no_trail : AreNoTrail bytes → IfSome source.left IsNoTrail
  no_trail (inl long) = too_many source.left bytes taken long
  no_trail (inr none) = malformed source.left bytes taken none.0 none.1

  said_refused : (sink sink_now : SinkView) (answer : Status) → WereRefused sink sink_now bytes answer → IsAudited source now sink sink_now answer
  said_refused sink sink_now answer were = by_answer were.answered
    where
      by_answer : IsOrMemory status.Trail answer → IsAudited source now sink sink_now answer
      by_answer (inl is) = subst (IsAudited source now sink sink_now) (sym is) (no_trail were.none)
      by_answer (inr is) = subst (IsAudited source now sink sink_now) (sym is) tt

  said_judged : (sink sink_now : SinkView) (answer : Status) (found : Verdict) → Judges bytes found → length bytes ≤ most_saved → MayAudit answer → Says sink sink_now found answer → IsAudited source now sink sink_now answer
  said_judged sink sink_now status.Done found is few may says = (found, found_in source.left now.left bytes found taken drops ended few is, says.0, says.1)
  said_judged sink sink_now (status.Illegal entry) found is few may says = (found, found_in source.left now.left bytes found taken drops ended few is, says.0, says.1)
  said_judged sink sink_now (status.Unserial event) found is few may says = (found, found_in source.left now.left bytes found taken drops ended few is, says.0, says.1)
  said_judged sink sink_now status.WriteFault found is few may says = (found, found_in source.left now.left bytes found taken drops ended few is, says)
  said_judged sink sink_now status.Memory found is few may says = tt
  said_judged sink sink_now status.ReadFault found is few may says = absurd (not_read found says.0)
    where
      not_read : (found : Verdict) → status.ReadFault ≡ status_of found → ⊥
      not_read (verdict.Serial table entries events) e = cc
      not_read (verdict.Illegal entry) e = cc
      not_read (verdict.Unserial place) e = cc
  said_judged sink sink_now status.Trail found is few may says = absurd (no_refusal found says.0)
    where
      no_refusal : (found : Verdict) → status.Trail ≡ status_of found → ⊥
      no_refusal (verdict.Serial table entries events) e = cc
      no_refusal (verdict.Illegal entry) e = cc
      no_refusal (verdict.Unserial place) e = cc
  said_judged sink sink_now answer found is few may says = absurd may

  module _ {D : Type 0} (sink sink_now : SinkView) (ran : Ran D) where
    refused_may : IsOrMemory status.Trail ran.status → MayAudit ran.status
    refused_may (inl is) = subst MayAudit (sym is) tt
    refused_may (inr is) = subst MayAudit (sym is) tt

    -- what was answered to bytes is what an audit answers
    pub audited : IsAuditOf sink sink_now bytes ran.status → NoneBegun ran.start ran.trail → ran.disks.items ≡ [] → HasAudited source now sink sink_now ran
    audited (inl were) none no_disks = record {
      may = refused_may were.answered;
      said = said_refused sink sink_now ran.status were;
      none = none;
      no_disks = no_disks;
      text = [];
      wrote = were.wrote [];
    }
    audited (inr (inl were)) none no_disks = record {
      may = were.concluded.may;
      said = said_judged sink sink_now ran.status were.found were.is_verdict were.few were.concluded.may were.concluded.says;
      none = none;
      no_disks = no_disks;
      text = verdict_text were.found;
      wrote = were.concluded.wrote;
    }
    audited (inr (inr were)) none no_disks = record {
      may = subst MayAudit (sym were.answered) tt;
      said = subst (IsAudited source now sink sink_now) (sym were.answered) tt;
      none = none;
      no_disks = no_disks;
      text = [];
      wrote = were.wrote [];
    }

-- NO BYTES

-- the source failed, or there was no memory
pub unread : {D : Type 0} (source now : SourceView) (sink sink_now : SinkView) (ran : Ran D) → Rose source.faults now.faults → IsOrMemory status.ReadFault ran.status → IsRefusedRun sink sink_now ran → ran.disks.items ≡ [] → HasAudited source now sink sink_now ran
unread source now sink sink_now ran rose answered refusal no_disks = record {
  may = may answered;
  said = said answered;
  none = refusal.none;
  no_disks = no_disks;
  text = [];
  wrote = refusal.wrote [];
}
  where
    may : IsOrMemory status.ReadFault ran.status → MayAudit ran.status
    may (inl is) = subst MayAudit (sym is) tt
    may (inr is) = subst MayAudit (sym is) tt

    said : IsOrMemory status.ReadFault ran.status → IsAudited source now sink sink_now ran.status
    said (inl is) = subst (IsAudited source now sink sink_now) (sym is) rose
    said (inr is) = subst (IsAudited source now sink sink_now) (sym is) tt
