-- What was answered to words, by what was answered to what they ask for.
use Rattle.std.proofs.Common.{ℕ, ◌≡◌, List, refl, sym, subst, inl, inr}
use Rattle.std.specs.Prelude.{None, Some}
use Rattle.qc_disk.specs.Disk.{DiskView}
use Rattle.qc_disk.specs.Shop.{ShopView as Shop}
use Rattle.qc_interp.specs.declared.mode.Mode.{Mode}
use Rattle.qc_io.specs.Io.{SinkView, SourceView}
use Rattle.qc_script.specs.MadePlan.{made_plan}
use Rattle.qc_run.specs.Left.{HadNoScript, HasAudited, IsAnswerToMaking, IsAnswerToSource, IsAnswerToWords, IsEarly, IsUnread}
use Rattle.qc_run.specs.Run.{IsOrMemory}
use Rattle.qc_run.specs.Words.{Asked, IsAudit, IsCommand, IsMaking, IsNoCommand, IsReading, asked_as}
use Rattle.qc_run.specs.declared.finishing.Form.{Form}
use Rattle.qc_run.specs.declared.ran.Ran.{Ran}
use Rattle.qc_run.specs.declared.status.Status.{Status}
use Rattle.qc_run.specs.declared.status.Status.TheVariants as status
use Rattle.qc_run.proofs.OneCommand.{not_both, not_made, not_run}

-- WORDS

-- words for which nothing is found are no command
pub none_found : (words : List (List ℕ)) → ((asked : Asked) → IsCommand words asked → None ≡ Some asked) → IsNoCommand words
none_found words none asked is = differ (none asked is)
  where
    differ : None ≡ Some asked → ⊥
    differ e = cc

pub not_reading : (words : List (List ℕ)) → IsNoCommand words → IsReading words → ⊥
not_reading words none reading = none (asked_as reading.0) (reading.0, reading.1, refl)

pub not_making : (words : List (List ℕ)) → IsNoCommand words → IsMaking words → ⊥
not_making words none making = none (Asked.made_of making.0) making.1

pub reads_alone : (words : List (List ℕ)) → IsReading words → IsMaking words → ⊥
reads_alone words reading making = not_both words reading.0 making.0 reading.1 making.1

pub not_audit : (words : List (List ℕ)) → IsNoCommand words → IsAudit words → ⊥
not_audit words none audit = none Asked.audit audit

pub reads_no_trail : (words : List (List ℕ)) → IsReading words → IsAudit words → ⊥
reads_no_trail words reading audit = not_run words reading.0 audit reading.1

pub makes_no_trail : (words : List (List ℕ)) → IsMaking words → IsAudit words → ⊥
makes_no_trail words making audit = not_made words making.0 audit making.1

-- ANSWERS

none_read : (words : List (List ℕ)) (before now : SourceView) (answer : Status) → IsReading words → IsUnread before now answer → HadNoScript words before now answer
none_read words before now status.ReadFault reading un = (reading, un)
none_read words before now (status.Script e) reading un = (reading, un)
none_read words before now status.Memory reading un = tt
none_read words before now status.Trail reading un = absurd un
none_read words before now (status.Illegal at) reading un = absurd un
none_read words before now (status.Unserial at) reading un = absurd un
none_read words before now status.Done reading un = absurd un
none_read words before now status.InDoubt reading un = absurd un
none_read words before now status.Usage reading un = absurd un
none_read words before now status.WriteFault reading un = absurd un
none_read words before now (status.DiskFault which) reading un = absurd un
none_read words before now (status.Image bad) reading un = absurd un
none_read words before now status.Room reading un = absurd un

module _ {D H : Type 0} (view : D → DiskView) (shop_view : H → Shop) (words : List (List ℕ)) (source_before source_now : SourceView) (shop shop_now : H) (before now : SinkView) (ran : Ran D) where
  abbrev ToWords : Type 0
  ToWords = IsAnswerToWords view shop_view words source_before source_now shop shop_now before now ran

  pub by_reading : (place : List ℕ) (mode : Mode) (form : Form) → IsCommand words (Asked.read_at place mode form) → IsAnswerToSource view shop_view form source_before source_now shop place shop_now before now ran → ToWords
  by_reading place mode form is (inl refused) = inr (inl (refused.0, none_read words source_before source_now ran.status (is.0, is.1) refused.1, refused.2))
  by_reading place mode form is (inr run) = inr (inr (run.0, (record { asked = Asked.read_at place mode form; is_command = is; is_script = run.1 }, run.2)))

  pub by_making : (n : ℕ) → IsCommand words (Asked.made_of n) → IsAnswerToMaking view shop_view (made_plan n) shop shop_now before now ran → ToWords
  by_making n is (inl refused) = inr (inl (refused.0, subst (HadNoScript words source_before source_now) (sym refused.1) tt, refused.2))
  by_making n is (inr answer) = inr (inr (made_plan n, (record { asked = Asked.made_of n; is_command = is; is_script = refl }, answer)))

  pub by_audit : IsAudit words → HasAudited source_before source_now before now ran → shop_now ≡ shop → ToWords
  by_audit is audited same = inl (is, audited, same)

  pub by_nothing : IsNoCommand words → IsOrMemory status.Usage ran.status → IsEarly before now ran → shop_now ≡ shop → ToWords
  by_nothing none (inl usage) refusal same = inr (inl (refusal, subst (HadNoScript words source_before source_now) (sym usage) none, same))
  by_nothing none (inr memory) refusal same = inr (inl (refusal, subst (HadNoScript words source_before source_now) (sym memory) tt, same))
