-- A pair's images have one verdict.
use Rattle.std.proofs.Common.{◌≡◌, ℕ, ◌+◌, ◌⊎◌, List, [], ◌∷◌, subst, sym, ap, refl, inl, inr, ◌∙◌, ap₂}
use Rattle.std.specs.Prelude.{Bool, true, false, Option, Some, IsSome, MatchOption}
use Rattle.qc_codec.specs.Bodies as body
use Rattle.qc_codec.specs.Form.{all_of}
use Rattle.qc_codec.specs.declared.image.BadImage.{BadImage}
use Rattle.qc_codec.specs.declared.image.ImageFault.{ImageFault}
use Rattle.qc_codec.specs.declared.image.ImageFault.TheVariants as image
use Rattle.qc_codec.specs.declared.record.Made.{Made}
use Rattle.qc_codec.specs.Base.{active, is_swapped}
use Rattle.qc_journal.specs.Image.{HasRecords, IsBroken}
use Rattle.qc_journal.proofs.Readings.{broken-same, records-same, records_not_broken}
use Rattle.qc_pair.specs.Front.{base_form, IsFrontFault, MayBegin, MayStandSecond}
use Rattle.qc_pair.specs.Opening.{active_told, HaveActive, HaveOneNumber, IsActiveNo, IsFirstMisplaced, IsImageNo, IsMountNo, TellWhich}
use Rattle.qc_pair.specs.Pair.{number_at}
use Rattle.qc_pair.specs.declared.fault.PairNo.TheVariants.{Image}
use Rattle.qc_pair.specs.declared.kind.Kind.{Kind}
use Rattle.qc_opening.specs.Images.{IsSoundPair}

bad_image : ℕ → ImageFault → BadImage
bad_image disk fault = record { disk = disk; fault = fault }

pub same_bad : (one two : BadImage) → one.disk ≡ two.disk → one.fault ≡ two.fault → one ≡ two
unfolding bad_image
same_bad one two d f = ap₂ bad_image d f

module _ (kind : Kind) where
  -- THE FIRST TWO BODIES

  made_begins : (who : ℕ) (P : Made → Type 0) (o : Option Made) → MatchOption o ⊥ (λ (made : Made). (made.who ≡ who) × P made) → MatchOption o ⊥ (λ (made : Made). (made.who ≡ who) × Unit {0})
  made_begins who P (Some made) begins = (begins.0, tt)
  made_begins who P o begins = absurd begins

  first_begins : (who : ℕ) (first second : List ℕ) (bodies : List (List ℕ)) → MayBegin kind who (first ∷ second ∷ bodies) → MayBegin kind who (first ∷ [])
  first_begins who first second bodies begins = made_begins who (λ made. MayStandSecond kind made second) (all_of body.made first) begins

  -- bodies that may begin a journal have no fault at its front
  pub front_or_begins : (who : ℕ) (bodies : List (List ℕ)) (index : ℕ) → IsFrontFault kind who bodies index → MayBegin kind who bodies → ⊥
  front_or_begins who [] index fault begins = fault
  front_or_begins who (first ∷ []) index fault begins = fault.1 begins
  front_or_begins who (first ∷ second ∷ bodies) index (inl fault) begins = fault.1 (first_begins who first second bodies begins)
  front_or_begins who (first ∷ second ∷ bodies) index (inr fault) begins = fault.2 begins

  one_front : (who : ℕ) (bodies : List (List ℕ)) (index other : ℕ) → IsFrontFault kind who bodies index → IsFrontFault kind who bodies other → other ≡ index
  one_front who [] index other one two = absurd one
  one_front who (first ∷ []) index other one two = two.0 ∙ sym one.0
  one_front who (first ∷ second ∷ bodies) index other (inl one) (inl two) = two.0 ∙ sym one.0
  one_front who (first ∷ second ∷ bodies) index other (inl one) (inr two) = absurd (one.1 two.1)
  one_front who (first ∷ second ∷ bodies) index other (inr one) (inl two) = absurd (two.1 one.1)
  one_front who (first ∷ second ∷ bodies) index other (inr one) (inr two) = two.0 ∙ sym one.0

  module _ (who : ℕ) where
    -- BODIES

    abbrev OfSpare : List (List ℕ) → List (List ℕ) → ℕ → Type 0
    OfSpare own spare index = IsFrontFault kind (who + 17) spare index ⊎ ((index ≡ 1) × MayBegin kind (who + 17) spare × HaveOneNumber kind who own spare)

    one_of_spare : (own spare : List (List ℕ)) (index other : ℕ) → OfSpare own spare index → OfSpare own spare other → other ≡ index
    one_of_spare own spare index other (inl one) (inl two) = one_front (who + 17) spare index other one two
    one_of_spare own spare index other (inl one) (inr two) = absurd (front_or_begins (who + 17) spare index one two.1)
    one_of_spare own spare index other (inr one) (inl two) = absurd (front_or_begins (who + 17) spare other two one.1)
    one_of_spare own spare index other (inr one) (inr two) = two.0 ∙ sym one.0

    one_misplaced : (own spare : List (List ℕ)) (disk disk' index index' : ℕ) → IsFirstMisplaced kind who own spare disk index → IsFirstMisplaced kind who own spare disk' index' → (disk' ≡ disk) × (index' ≡ index)
    one_misplaced own spare disk disk' index index' (inl one) (inl two) = (two.0 ∙ sym one.0, one_front who own index index' one.1 two.1)
    one_misplaced own spare disk disk' index index' (inl one) (inr two) = absurd (front_or_begins who own index one.1 two.1)
    one_misplaced own spare disk disk' index index' (inr one) (inl two) = absurd (front_or_begins who own index' two.1 one.1)
    one_misplaced own spare disk disk' index index' (inr one) (inr two) = (two.0 ∙ sym one.0, one_of_spare own spare index index' one.2 two.2)

    spare_or_told : (own spare : List (List ℕ)) (index : ℕ) → OfSpare own spare index → TellWhich kind who own spare → ⊥
    spare_or_told own spare index (inl one) tell = front_or_begins (who + 17) spare index one tell.spare_begins
    spare_or_told own spare index (inr one) tell = tell.differ one.2

    misplaced_or_told : (own spare : List (List ℕ)) (disk index : ℕ) → IsFirstMisplaced kind who own spare disk index → TellWhich kind who own spare → ⊥
    misplaced_or_told own spare disk index (inl one) tell = front_or_begins who own index one.1 tell.own_begins
    misplaced_or_told own spare disk index (inr one) tell = spare_or_told own spare index one.2 tell

    -- IMAGES

    module _ (own spare : List ℕ) where
      -- a fault of the images of a pair is that of one journal, or of the first bodies of both
      abbrev OwnBroken : ℕ → ImageFault → Type 0
      OwnBroken disk fault = (place : ℕ) × (fault ≡ image.Broken place) × (disk ≡ who) × IsBroken place own

      abbrev SpareBroken : ℕ → ImageFault → Type 0
      SpareBroken disk fault = (place : ℕ) × (fault ≡ image.Broken place) × (disk ≡ who + 17) × (bodies : List (List ℕ)) × HasRecords bodies own × IsBroken place spare

      abbrev Misplaced : ℕ → ImageFault → Type 0
      Misplaced disk fault = (index : ℕ) × (fault ≡ image.Grammar index) × (a : List (List ℕ)) × (b : List (List ℕ)) × HasRecords a own × HasRecords b spare × IsFirstMisplaced kind who a b disk index

      apart : (disk : ℕ) (fault : ImageFault) → IsImageNo kind who (Some own) (Some spare) disk fault → OwnBroken disk fault ⊎ (SpareBroken disk fault ⊎ Misplaced disk fault)
      apart disk (image.Broken place) (inl is) = inl (place, refl, is.0, is.1)
      apart disk (image.Broken place) (inr is) = inr (inl (place, refl, is.0, is.1.0, is.1.1, is.2))
      apart disk (image.Grammar index) is = inr (inr (index, refl, is.0, is.1, is.2, is.3, is.4))
      apart disk (image.Full place) is = absurd is
      apart disk (image.Table kept asked) is = absurd is
      apart disk (image.Epoch epoch) is = absurd is

      one_image : (disk disk' : ℕ) (fault fault' : ImageFault) → OwnBroken disk fault ⊎ (SpareBroken disk fault ⊎ Misplaced disk fault) → OwnBroken disk' fault' ⊎ (SpareBroken disk' fault' ⊎ Misplaced disk' fault') → (disk' ≡ disk) × (fault' ≡ fault)
      one_image disk disk' fault fault' (inl a) (inl b) = (b.2 ∙ sym a.2, b.1 ∙ ap image.Broken (broken-same own a.0 b.0 a.3 b.3) ∙ sym a.1)
      one_image disk disk' fault fault' (inl a) (inr (inl b)) = absurd (records_not_broken own b.3 a.0 b.4 a.3)
      one_image disk disk' fault fault' (inl a) (inr (inr b)) = absurd (records_not_broken own b.2 a.0 b.4 a.3)
      one_image disk disk' fault fault' (inr (inl a)) (inl b) = absurd (records_not_broken own a.3 b.0 a.4 b.3)
      one_image disk disk' fault fault' (inr (inl a)) (inr (inl b)) = (b.2 ∙ sym a.2, b.1 ∙ ap image.Broken (broken-same spare a.0 b.0 a.5 b.5) ∙ sym a.1)
      one_image disk disk' fault fault' (inr (inl a)) (inr (inr b)) = absurd (records_not_broken spare b.3 a.0 b.5 a.5)
      one_image disk disk' fault fault' (inr (inr a)) (inl b) = absurd (records_not_broken own a.2 b.0 a.4 b.3)
      one_image disk disk' fault fault' (inr (inr a)) (inr (inl b)) = absurd (records_not_broken spare a.3 b.0 a.5 b.5)
      one_image disk disk' fault fault' (inr (inr a)) (inr (inr b)) =
          let same = records-same own a.2 b.2 a.4 b.4 in
          let same' = records-same spare a.3 b.3 a.5 b.5 in
          let there : IsFirstMisplaced kind who a.2 a.3 disk' b.0 = subst (λ (l : List (List ℕ)). IsFirstMisplaced kind who l a.3 disk' b.0) same (subst (λ (l : List (List ℕ)). IsFirstMisplaced kind who b.2 l disk' b.0) same' b.6) in
          let both = one_misplaced a.2 a.3 disk disk' a.0 b.0 a.6 there in
          (both.0, b.1 ∙ ap image.Grammar both.1 ∙ sym a.1)

      -- where active bodies are told, no image is refused
      image_or_active : (disk : ℕ) (fault : ImageFault) (is_spare : Bool) (bodies : List (List ℕ)) → OwnBroken disk fault ⊎ (SpareBroken disk fault ⊎ Misplaced disk fault) → HaveActive kind who (Some own) (Some spare) is_spare bodies → ⊥
      image_or_active disk fault is_spare bodies (inl a) have = records_not_broken own have.own a.0 have.has_own a.3
      image_or_active disk fault is_spare bodies (inr (inl a)) have = records_not_broken spare have.spare a.0 have.has_spare a.5
      image_or_active disk fault is_spare bodies (inr (inr a)) have =
          let same = records-same own a.2 have.own a.4 have.has_own in
          let same' = records-same spare a.3 have.spare a.5 have.has_spare in
          misplaced_or_told a.2 a.3 disk a.0 a.6 (subst (λ (l : List (List ℕ)). TellWhich kind who l a.3) same (subst (λ (l : List (List ℕ)). TellWhich kind who have.own l) same' have.tell))

      -- the active bodies are one list, of one disk
      pub one_active : (is_spare is_spare' : Bool) (bodies bodies' : List (List ℕ)) → HaveActive kind who (Some own) (Some spare) is_spare bodies → HaveActive kind who (Some own) (Some spare) is_spare' bodies'
          → (is_spare' ≡ is_spare) × (bodies' ≡ bodies)
      one_active is_spare is_spare' bodies bodies' one two =
          let same = records-same own one.own two.own one.has_own two.has_own in
          let same' = records-same spare one.spare two.spare one.has_spare two.has_spare in (
            two.swapped_is ∙ (ap₂ (λ (a b : List (List ℕ)). is_swapped (base_form kind) a b) same same' ∙ sym one.swapped_is),
            two.are_active ∙ (ap₂ (λ (a b : List (List ℕ)). active (base_form kind) a b) same same' ∙ sym one.are_active),
          )

      -- both disks tell their bytes
      pub both_told : (is_spare : Bool) → IsSome (active_told kind who (Some own) (Some spare) is_spare)
      both_told true = refl
      both_told false = refl

      module _ (HasFault : ℕ → List (List ℕ) → ImageFault → Type 0) where
        active_no : (bad : BadImage) (is_spare : Bool) (bodies : List (List ℕ)) → IsActiveNo kind who (Some own) (Some spare) HasFault (Image bad) → HaveActive kind who (Some own) (Some spare) is_spare bodies
            → (bad.disk ≡ number_at is_spare who) × HasFault (number_at is_spare who) bodies bad.fault
        active_no bad is_spare bodies is have =
            let same = one_active is_spare is.0 bodies is.1 have is.2 in
            let at : bad.disk ≡ number_at is_spare who = is.3 ∙ ap (λ s. number_at s who) same.0 in
            (at, subst (λ n. HasFault n bodies bad.fault) at (subst (λ (l : List (List ℕ)). HasFault bad.disk l bad.fault) same.1 (is.4 (both_told is.0))))

        -- a pair has one fault
        pub one_of_pair : ((disk : ℕ) (bodies : List (List ℕ)) (fault other : ImageFault) → HasFault disk bodies fault → HasFault disk bodies other → other ≡ fault)
            → (bad other : BadImage) → IsMountNo kind who (Some own) (Some spare) HasFault (Image bad) → IsMountNo kind who (Some own) (Some spare) HasFault (Image other) → other ≡ bad
        one_of_pair only bad other (inl one) (inl two) = let same = one_image bad.disk other.disk bad.fault other.fault (apart bad.disk bad.fault one) (apart other.disk other.fault two) in same_bad other bad same.0 same.1
        one_of_pair only bad other (inl one) (inr two) = absurd (image_or_active bad.disk bad.fault two.0 two.1 (apart bad.disk bad.fault one) two.2)
        one_of_pair only bad other (inr one) (inl two) = absurd (image_or_active other.disk other.fault one.0 one.1 (apart other.disk other.fault two) one.2)
        one_of_pair only bad other (inr one) (inr two) =
            let here = active_no bad one.0 one.1 one one.2 in
            let there = active_no other one.0 one.1 two one.2 in
            same_bad other bad (there.0 ∙ sym here.0) (only (number_at one.0 who) one.1 bad.fault other.fault here.1 there.1)

        -- and none where its active bodies are fine
        pub fault_or_sound : (Fine : Bool → List (List ℕ) → Type 0) → ((is_spare : Bool) (bodies : List (List ℕ)) (fault : ImageFault) → HasFault (number_at is_spare who) bodies fault → Fine is_spare bodies → ⊥)
            → (bad : BadImage) → IsMountNo kind who (Some own) (Some spare) HasFault (Image bad) → IsSoundPair kind who Fine (own, spare) → ⊥
        fault_or_sound Fine none bad (inl one) sound = image_or_active bad.disk bad.fault sound.is_spare sound.found (apart bad.disk bad.fault one) sound.have
        fault_or_sound Fine none bad (inr one) sound =
            none sound.is_spare sound.found bad.fault (active_no bad sound.is_spare sound.found one sound.have).1 sound.fine
