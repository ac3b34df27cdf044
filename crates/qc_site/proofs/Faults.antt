-- Which fault of bodies is the first, and that it is handed on.
use Rattle.std.proofs.Common.{◌≡◌, ℕ, ◌≤◌, List, [], ◌∷◌, refl, sym, ◌∙◌, subst}
use Rattle.std.specs.Prelude.{Result, Ok, Err, IfErr}
use Rattle.std.specs.Result.{IsErrAnd, IsErrOf}
use Rattle.qc_event.specs.declared.table.Table.{Table}
use Rattle.qc_codec.specs.Bodies as body
use Rattle.qc_codec.specs.Copy.{MayStand}
use Rattle.qc_codec.specs.declared.image.ImageFault.{ImageFault}
use Rattle.qc_codec.specs.declared.image.ImageFault.TheVariants.{Broken, Grammar, Full, Table as OtherTable, Epoch}
use Rattle.qc_codec.specs.declared.past.Past.{Past}
use Rattle.qc_codec.proofs.Fits.{table_sized}
use Rattle.qc_codec.proofs.Order.{each_none}
use Rattle.qc_codec.specs.Fields.{current_format}
use Rattle.qc_journal.specs.declared.fault.Fault.{Fault}
use Rattle.qc_journal.specs.declared.fault.Fault.TheVariants as journal
use Rattle.qc_ledger.specs.Refusing.{IsOfWriting}
use Rattle.qc_site.specs.Image.{AreMadeFor, IsCopyFault}
use Rattle.qc_site.specs.Reading.{IsFirstBad, IsLaterBad}
use Rattle.qc_site.specs.Refusing.{copy_mount_no, IsOfCopyImage, IsOfBytes}
use Rattle.qc_event.specs.declared.short.Short.TheVariants as short
use Rattle.qc_site.specs.declared.fault.SiteNo.{SiteNo}
use Rattle.qc_site.specs.declared.fault.SiteNo.TheVariants.{Disk, Image, Strange, Short}

-- a table has at most 16 copies
pub few_copies : (table : Table) → (body.table current_format).fits table → table.copies ≤ 16
few_copies table fits = (table_sized current_format table fits).copies

module _ (disk : ℕ) where
  -- HANDED ON

  bytes_also : (P Q : ImageFault → Type 0) → ((f : ImageFault) → P f → Q f) → (fault : SiteNo) → IsOfBytes disk P fault → IsOfBytes disk Q fault
  bytes_also P Q also Disk is = is
  bytes_also P Q also (Image bad) is = (is.0, also bad.fault is.1)
  bytes_also P Q also Strange is = is
  bytes_also P Q also (Short short.Memory) is = tt
  bytes_also P Q also (Short short.Room) is = is

  pub handed_on : {T : Type 0} (r : Result T SiteNo) (fault : SiteNo) (P Q : ImageFault → Type 0) → ((f : ImageFault) → P f → Q f) → IsErrAnd r (λ e. e ≡ fault) → IsOfBytes disk P fault → IfErr r (IsOfBytes disk Q)
  handed_on (Ok x) fault P Q also same is = tt
  handed_on (Err e) fault P Q also same is = subst (IsOfBytes disk Q) (sym same) (bytes_also P Q also fault is)

  image_of_bytes : (P Q : ImageFault → Type 0) → ((f : ImageFault) → P f → Q f) → (fault : SiteNo) → IsOfBytes disk P fault → IsOfCopyImage disk Q fault
  image_of_bytes P Q also Disk is = tt
  image_of_bytes P Q also (Image bad) is = (is.0, also bad.fault is.1)
  image_of_bytes P Q also Strange is = is
  image_of_bytes P Q also (Short short.Memory) is = tt
  image_of_bytes P Q also (Short short.Room) is = is

  pub passed_on : {T : Type 0} (r : Result T SiteNo) (fault : SiteNo) (P Q : ImageFault → Type 0) → ((f : ImageFault) → P f → Q f) → IsErrAnd r (λ e. e ≡ fault) → IsOfBytes disk P fault → IfErr r (IsOfCopyImage disk Q)
  passed_on (Ok x) fault P Q also same is = tt
  passed_on (Err e) fault P Q also same is = subst (IsOfCopyImage disk Q) (sym same) (image_of_bytes P Q also fault is)

  pub no_disk : {T : Type 0} (r : Result T SiteNo) (fault : SiteNo) (P : ImageFault → Type 0) → IsErrAnd r (λ e. e ≡ fault) → IsOfBytes disk P fault → IsErrOf r Disk → ⊥
  no_disk (Ok x) fault P same is of = absurd cc
  no_disk (Err e) fault P same is of = let one : e ≡ Disk = cc in subst (IsOfBytes disk P) (sym same ∙ one) is

  -- a fault of writing is that there is no room, or one of the disk or the memory
  pub write_refusal : (P : ImageFault → Type 0) (fault : Fault) → IsOfWriting fault → ((place : ℕ) → fault ≡ journal.Full place → P (Full place)) → IsOfCopyImage disk P (copy_mount_no disk fault)
  write_refusal P journal.Disk of full = tt
  write_refusal P (journal.Broken place) of full = absurd of
  write_refusal P (journal.Full place) of full = (refl, full place refl)
  write_refusal P journal.Memory of full = tt

  -- THE FIRST

  module _ (table : Table) (past : Past) (limit : ℕ) where
    pub first_fault : (first : List ℕ) (bodies rest : List (List ℕ)) → bodies ≡ first ∷ rest → (f : ImageFault) → IsFirstBad disk table past first f → IsCopyFault disk table past limit bodies f
    first_fault first bodies rest is (Broken place) bad = bad
    first_fault first bodies rest is (Grammar index) bad = (
      record { before = []; after = rest; item = first; split = is; size = bad.0; order = each_none (MayStand disk table past); breaks = bad.1 },
      λ other. absurd (other bad.0),
    )
    first_fault first bodies rest is (Full place) bad = absurd bad
    first_fault first bodies rest is (OtherTable kept asked) bad = (bad.0, bad.1, (λ none. let two : first ∷ rest ≡ [] = sym is ∙ none in absurd cc), subst (AreMadeFor disk kept) (sym is) bad.2)
    first_fault first bodies rest is (Epoch epoch) bad = bad

    pub later_fault : (bodies : List (List ℕ)) → AreMadeFor disk table bodies → (f : ImageFault) → IsLaterBad disk table past bodies f → IsCopyFault disk table past limit bodies f
    later_fault bodies made (Broken place) bad = bad
    later_fault bodies made (Grammar index) bad = (bad.1, λ other. made)
    later_fault bodies made (Full place) bad = absurd bad
    later_fault bodies made (OtherTable kept asked) bad = absurd bad
    later_fault bodies made (Epoch epoch) bad = bad
