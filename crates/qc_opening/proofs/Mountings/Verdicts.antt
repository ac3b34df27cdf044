-- A store's images have one verdict.
use Rattle.std.proofs.Common.{◌≡◌, ℕ, ◌+◌, List, [], ◌∷◌, subst, sym, ap, ◌∙◌, inl, inr}
use Rattle.std.specs.Prelude.{Bool, not, Some}
use Rattle.qc_codec.specs.Ledger.{past_in}
use Rattle.qc_codec.specs.declared.image.BadImage.{BadImage}
use Rattle.qc_codec.specs.declared.image.ImageFault.{ImageFault}
use Rattle.qc_codec.specs.declared.image.ImageFault.TheVariants.{Broken, Grammar, Full, Table as OtherTable, Epoch}
use Rattle.qc_codec.specs.declared.past.Past.{Past}
use Rattle.qc_event.specs.declared.table.Table.{Table}
use Rattle.qc_ledger.specs.Image.{AreMountableAsLedger, IsLedgerFault}
use Rattle.qc_ledger.specs.Pairs.{IsLedgerPairNo}
use Rattle.qc_ledger.proofs.Verdicts.{fault_or_none, one_fault}
use Rattle.qc_site.specs.Image.{AreMountableAsCopy, IsCopyFault}
use Rattle.qc_site.specs.Pairs.{IsCopyPairNo, IsRenewalNo}
use Rattle.qc_site.specs.Renewal.{AreMountableInPair, HasNoRoomToRenew, IsRenewalFault}
use Rattle.qc_site.proofs.PairRenewals.{one_renewal}
use Rattle.qc_opening.specs.Images.{AreSoundInPairs, IsCopiesFault, IsFirstInPairs, IsSoundCopy, IsSoundLedger}
use Rattle.qc_opening.specs.Numbered.{EachFrom}
use Rattle.qc_opening.proofs.Mountings.PairVerdicts.{both_told, fault_or_sound, one_active, one_of_pair, same_bad}
use Rattle.qc_pair.specs.Opening.{IsMountNo}
use Rattle.qc_pair.specs.Pair.{number_at}
use Rattle.qc_pair.specs.declared.fault.PairNo.TheVariants.{Image}
use Rattle.qc_pair.specs.declared.kind.Kind.TheVariants as kind

-- what `one_verdict` says of a copy's bodies
abbrev OneCopy : Type 0
OneCopy = (disk : ℕ) (table : Table) (past : Past) (limit : ℕ) (bodies : List (List ℕ)) (fault other : ImageFault) → IsCopyFault disk table past limit bodies fault → IsCopyFault disk table past limit bodies other → other ≡ fault

abbrev NotBothCopy : Type 0
NotBothCopy = (disk : ℕ) (table : Table) (past : Past) (limit : ℕ) (bodies : List (List ℕ)) (fault : ImageFault) → IsCopyFault disk table past limit bodies fault → AreMountableAsCopy disk table past limit bodies → ⊥

module _ (table : Table) (limit : ℕ) (one_copy : OneCopy) (not_both_copy : NotBothCopy) where
  -- ONE PAIR

  module _ (past : Past) (copy : ℕ) (images : List ℕ × List ℕ) where
    -- a fault of the active bodies comes before one of the disk into which they are folded
    fault_or_renewal : (bad other : BadImage) → IsMountNo kind.Copy (copy + 1) (Some images.0) (Some images.1) (λ disk bodies fault. IsCopyFault disk table past limit bodies fault) (Image bad)
        → IsRenewalNo copy table past limit (Some images.0) (Some images.1) (Image other) → ⊥
    fault_or_renewal bad other is full =
        fault_or_sound kind.Copy (copy + 1) images.0 images.1 (λ disk bodies fault. IsCopyFault disk table past limit bodies fault) (λ is_spare bodies. AreMountableAsCopy (number_at is_spare (copy + 1)) table past limit bodies)
        (λ is_spare bodies fault. not_both_copy (number_at is_spare (copy + 1)) table past limit bodies fault) bad is
        (record { is_spare = full.0; found = full.1; have = full.2; fine = full.3 (both_told kind.Copy (copy + 1) images.0 images.1 full.0) })

    -- which is one
    one_full : (bad other : BadImage) → IsRenewalNo copy table past limit (Some images.0) (Some images.1) (Image bad) → IsRenewalNo copy table past limit (Some images.0) (Some images.1) (Image other) → other ≡ bad
    one_full bad other one two =
        let same = one_active kind.Copy (copy + 1) images.0 images.1 one.0 two.0 one.1 two.1 one.2 two.2 in
        let at : other.disk ≡ bad.disk = two.4 ∙ ap (λ s. number_at (not s) (copy + 1)) same.0 ∙ sym one.4 in
        same_bad other bad at
        (one_renewal table past limit bad.disk one.1 bad.fault other.fault one.5
        (subst (λ n. IsRenewalFault table past limit n one.1 other.fault) at (subst (λ (l : List (List ℕ)). IsRenewalFault table past limit other.disk l other.fault) same.1 two.5)))

    one_of_copy : (bad other : BadImage) → IsCopyPairNo copy table past limit (Some images.0) (Some images.1) (Image bad) → IsCopyPairNo copy table past limit (Some images.0) (Some images.1) (Image other) → other ≡ bad
    one_of_copy bad other (inl one) (inl two) =
        one_of_pair kind.Copy (copy + 1) images.0 images.1 (λ disk bodies fault. IsCopyFault disk table past limit bodies fault) (λ disk bodies fault other. one_copy disk table past limit bodies fault other) bad other one two
    one_of_copy bad other (inl one) (inr two) = absurd (fault_or_renewal bad other one two)
    one_of_copy bad other (inr one) (inl two) = absurd (fault_or_renewal other bad two one)
    one_of_copy bad other (inr one) (inr two) = one_full bad other one two

    full_or_room : (disk : ℕ) (found : List (List ℕ)) (fault : ImageFault) → IsRenewalFault table past limit disk found fault → ((place : ℕ) → HasNoRoomToRenew table past limit found disk place → ⊥) → ⊥
    full_or_room disk found (Full place) full room = room place full
    full_or_room disk found (Broken place) full room = full
    full_or_room disk found (Grammar index) full room = full
    full_or_room disk found (OtherTable kept asked) full room = full
    full_or_room disk found (Epoch epoch) full room = full

    not_sound_copy : (bad : BadImage) → IsCopyPairNo copy table past limit (Some images.0) (Some images.1) (Image bad) → IsSoundCopy table limit past copy images → ⊥
    not_sound_copy bad (inl is) sound =
        fault_or_sound kind.Copy (copy + 1) images.0 images.1 (λ disk bodies fault. IsCopyFault disk table past limit bodies fault) (AreMountableInPair table past limit copy)
        (λ is_spare bodies fault has fine. not_both_copy (number_at is_spare (copy + 1)) table past limit bodies fault has fine.mountable) bad is sound
    not_sound_copy bad (inr full) sound =
        let same = one_active kind.Copy (copy + 1) images.0 images.1 full.0 sound.is_spare full.1 sound.found full.2 sound.have in
        full_or_room bad.disk full.1 bad.fault full.5
        (λ place none. sound.fine.room place
        (subst (λ (l : List (List ℕ)). HasNoRoomToRenew table past limit l (number_at (not sound.is_spare) (copy + 1)) place) (sym same.1)
        (subst (λ n. HasNoRoomToRenew table past limit full.1 n place) (full.4 ∙ ap (λ s. number_at (not s) (copy + 1)) (sym same.0)) none)))

  one_of_ledger : (images : List ℕ × List ℕ) (bad other : BadImage) → IsLedgerPairNo table limit (Some images.0) (Some images.1) (Image bad) → IsLedgerPairNo table limit (Some images.0) (Some images.1) (Image other) → other ≡ bad
  one_of_ledger images bad other one two =
      one_of_pair kind.Ledger 0 images.0 images.1 (λ disk bodies fault. IsLedgerFault disk table limit bodies fault) (λ disk bodies fault other. one_fault disk table limit bodies fault other) bad other one two

  not_sound_ledger : (Behind : Past → Type 0) (images : List ℕ × List ℕ) (bad : BadImage) → IsLedgerPairNo table limit (Some images.0) (Some images.1) (Image bad) → IsSoundLedger table limit Behind images → ⊥
  not_sound_ledger Behind images bad is sound =
      fault_or_sound kind.Ledger 0 images.0 images.1 (λ disk bodies fault. IsLedgerFault disk table limit bodies fault) (λ is_spare bodies. AreMountableAsLedger (number_at is_spare 0) table limit bodies × Behind (past_in bodies))
      (λ is_spare bodies fault has fine. fault_or_none (number_at is_spare 0) table limit bodies fault has fine.0) bad is sound

  -- the past that the ledger tells is one
  behind_too : (P Q : Past → Type 0) (images : List ℕ × List ℕ) (one : IsSoundLedger table limit P images) (two : IsSoundLedger table limit Q images) → Q (past_in one.found)
  behind_too P Q images one two =
      let same = one_active kind.Ledger 0 images.0 images.1 two.is_spare one.is_spare two.found one.found two.have one.have in
      subst (λ (l : List (List ℕ)). Q (past_in l)) (sym same.1) two.fine.1

  -- ALL

  one_of_copies : (past : Past) (bad other : BadImage) (copy : ℕ) (images : List (List ℕ × List ℕ)) → IsCopiesFault table limit past bad copy images → IsCopiesFault table limit past other copy images → other ≡ bad
  one_of_copies past bad other copy [] one two = absurd one
  one_of_copies past bad other copy (both ∷ images) (inl one) (inl two) = one_of_copy past copy both bad other one two
  one_of_copies past bad other copy (both ∷ images) (inl one) (inr two) = absurd (not_sound_copy past copy both bad one two.0)
  one_of_copies past bad other copy (both ∷ images) (inr one) (inl two) = absurd (not_sound_copy past copy both other two one.0)
  one_of_copies past bad other copy (both ∷ images) (inr one) (inr two) = one_of_copies past bad other (copy + 1) images one.1 two.1

  copies_fault_or_none : (past : Past) (bad : BadImage) (copy : ℕ) (images : List (List ℕ × List ℕ)) → IsCopiesFault table limit past bad copy images → EachFrom (IsSoundCopy table limit past) copy images → ⊥
  copies_fault_or_none past bad copy [] one sound = one
  copies_fault_or_none past bad copy (both ∷ images) (inl one) sound = not_sound_copy past copy both bad one sound.0
  copies_fault_or_none past bad copy (both ∷ images) (inr one) sound = copies_fault_or_none past bad (copy + 1) images one.1 sound.1

  pub one_of_pairs : (images : List (List ℕ × List ℕ)) (bad other : BadImage) → IsFirstInPairs table limit bad images → IsFirstInPairs table limit other images → other ≡ bad
  one_of_pairs [] bad other one two = absurd one
  one_of_pairs (both ∷ images) bad other (inl one) (inl two) = one_of_ledger both bad other one two
  one_of_pairs (both ∷ images) bad other (inl one) (inr two) = absurd (not_sound_ledger (λ past. IsCopiesFault table limit past other 0 images) both bad one two)
  one_of_pairs (both ∷ images) bad other (inr one) (inl two) = absurd (not_sound_ledger (λ past. IsCopiesFault table limit past bad 0 images) both other two one)
  one_of_pairs (both ∷ images) bad other (inr one) (inr two) =
      one_of_copies (past_in one.found) bad other 0 images one.fine.1 (behind_too (λ past. IsCopiesFault table limit past bad 0 images) (λ past. IsCopiesFault table limit past other 0 images) both one two)

  pub pairs_fault_or_none : (images : List (List ℕ × List ℕ)) (bad : BadImage) → IsFirstInPairs table limit bad images → AreSoundInPairs table limit images → ⊥
  pairs_fault_or_none [] bad one sound = one
  pairs_fault_or_none (both ∷ images) bad (inl one) sound = not_sound_ledger (λ past. EachFrom (IsSoundCopy table limit past) 0 images) both bad one sound
  pairs_fault_or_none (both ∷ images) bad (inr one) sound =
      copies_fault_or_none (past_in one.found) bad 0 images one.fine.1 (behind_too (λ past. IsCopiesFault table limit past bad 0 images) (λ past. EachFrom (IsSoundCopy table limit past) 0 images) both one sound)
