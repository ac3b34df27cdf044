-- For which reasons mountings are refused.
use Rattle.std.proofs.Common.{◌≡◌, ℕ, ◌+◌, ◌-◌, ◌≤◌, ◌⊎◌, List, subst, sym, ap, refl, arith, inl, inr, ◌∙◌}
use Rattle.std.specs.Prelude.{Bool, true, false, not, nat_lt, if◌then◌else◌, Option}
use Rattle.std.proofs.lemmas.Bool.Decides.{nat_tests}
use Rattle.qc_codec.specs.declared.image.BadImage.{BadImage}
use Rattle.qc_codec.specs.declared.image.ImageFault.{ImageFault}
use Rattle.qc_codec.specs.declared.image.ImageFault.TheVariants as image
use Rattle.qc_codec.specs.declared.past.Past.{Past}
use Rattle.qc_event.specs.declared.table.Table.{Table}
use Rattle.qc_opening.specs.Refusing.{pair_of, FailedAt, IsAmong, IsBehind, IsReasonAmong}
use Rattle.qc_pair.specs.Opening.{IsFirstMisplaced, IsImageNo, IsMountNo}
use Rattle.qc_pair.specs.Pair.{number_at}
use Rattle.qc_pair.specs.declared.fault.PairNo.{PairNo}
use Rattle.qc_pair.specs.declared.fault.PairNo.TheVariants.{Disk, Image, Memory}
use Rattle.qc_pair.specs.declared.kind.Kind.{Kind}
use Rattle.qc_pair.specs.declared.kind.Kind.TheVariants as kind
use Rattle.qc_site.specs.Image.{IsCopyFault}
use Rattle.qc_site.specs.Pairs.{IsCopyPairNo}

-- OF ONE PAIR

-- the disk of this number is one of this pair's
abbrev pub IsOfPair : ℕ → ℕ → Type 0
IsOfPair pair number = (number ≡ pair) ⊎ (number ≡ pair + 17)

-- a refusal of this pair, where it is one of a disk
abbrev pub IsNoOfPair : ℕ → PairNo → Type 0
IsNoOfPair pair (Disk which) = IsOfPair pair which
IsNoOfPair pair (Image bad) = IsOfPair pair bad.disk
IsNoOfPair pair Memory = Unit {0}

number_of_pair : (is_spare : Bool) (pair number : ℕ) → number ≡ number_at is_spare pair → IsOfPair pair number
number_of_pair true pair number is = inr is
number_of_pair false pair number is = inl is

module _ (kind : Kind) (pair : ℕ) (told spare_told : Option (List ℕ)) where
  misplaced_of_pair : (own spare : List (List ℕ)) (disk index : ℕ) → IsFirstMisplaced kind pair own spare disk index → IsOfPair pair disk
  misplaced_of_pair own spare disk index (inl is) = inl is.0
  misplaced_of_pair own spare disk index (inr is) = inr is.0

  image_of_pair : (disk : ℕ) (fault : ImageFault) → IsImageNo kind pair told spare_told disk fault → IsOfPair pair disk
  image_of_pair disk (image.Broken place) (inl is) = inl is.0
  image_of_pair disk (image.Broken place) (inr is) = inr is.0
  image_of_pair disk (image.Grammar index) is = misplaced_of_pair is.0 is.1 disk index is.4
  image_of_pair disk (image.Full place) is = absurd is
  image_of_pair disk (image.Table kept asked) is = absurd is
  image_of_pair disk (image.Epoch epoch) is = absurd is

  -- the mounting of a pair is refused for a disk of its own
  pub no_of_pair : (HasFault : ℕ → List (List ℕ) → ImageFault → Type 0) (no' : PairNo) → IsMountNo kind pair told spare_told HasFault no' → IsNoOfPair pair no'
  no_of_pair HasFault (Disk which) (inl is) = is
  no_of_pair HasFault (Disk which) (inr is) = absurd is
  no_of_pair HasFault (Image bad) (inl is) = image_of_pair bad.disk bad.fault is
  no_of_pair HasFault (Image bad) (inr is) = number_of_pair is.0 pair bad.disk is.3
  no_of_pair HasFault Memory is = tt

-- so is that of a copy's
pub no_of_copy : (copy : ℕ) (table : Table) (past : Past) (limit : ℕ) (told spare_told : Option (List ℕ)) (no' : PairNo) → IsCopyPairNo copy table past limit told spare_told no' → IsNoOfPair (copy + 1) no'
no_of_copy copy table past limit told spare_told no' (inl is) = no_of_pair kind.Copy (copy + 1) told spare_told (λ disk bodies fault. IsCopyFault disk table past limit bodies fault) no' is
no_of_copy copy table past limit told spare_told (Disk which) (inr is) = absurd is
no_of_copy copy table past limit told spare_told (Image bad) (inr is) = number_of_pair (not is.0) (copy + 1) bad.disk is.4
no_of_copy copy table past limit told spare_told Memory (inr is) = absurd is

-- IN A STORE

pair_of_own : (number : ℕ) → number ≤ 16 → pair_of number ≡ number
pair_of_own number low = let test : nat_lt 16 number ≡ false = grind (arith, nat_tests) in ap (λ (b : Bool). if b then number - 17 else number) test

pair_of_spare : (number pair : ℕ) → number ≡ pair + 17 → pair_of number ≡ pair
pair_of_spare number pair is =
    let test : nat_lt 16 number ≡ true = grind (arith, nat_tests) in
    ap (λ (b : Bool). if b then number - 17 else number) test ∙ omega (arith, is)

-- the pair of one of its disks
pub pair_is : (pair number : ℕ) → pair ≤ 16 → IsOfPair pair number → pair_of number ≡ pair
pair_is pair number few (inl is) = pair_of_own number (omega (arith, is, few)) ∙ is
pair_is pair number few (inr is) = pair_of_spare number pair is

other_number : (pair other number : ℕ) → pair ≤ 16 → other ≤ 16 → (other ≡ pair → ⊥) → IsOfPair pair number → IsOfPair other number → ⊥
other_number pair other number few small apart (inl is) (inl also) = apart (omega (arith, is, also))
other_number pair other number few small apart (inl is) (inr also) = omega (arith, is, also, few)
other_number pair other number few small apart (inr is) (inl also) = omega (arith, is, also, small)
other_number pair other number few small apart (inr is) (inr also) = apart (omega (arith, is, also))

-- no disk of another pair failed
pub not_failed : (pair other number : ℕ) (reason : PairNo) → pair ≤ 16 → other ≤ 16 → (other ≡ pair → ⊥) → IsOfPair other number → IsNoOfPair pair reason → FailedAt reason number → ⊥
not_failed pair other number (Disk which) few small apart of is failed = other_number pair other number few small apart (subst (IsOfPair pair) (sym failed) is) of
not_failed pair other number (Image bad) few small apart of is failed = failed
not_failed pair other number Memory few small apart of is failed = failed

-- no pair up to that one was not reached
pub not_behind : (pair other : ℕ) (reason : PairNo) → pair ≤ 16 → other ≤ pair → IsNoOfPair pair reason → IsBehind reason other → ⊥
not_behind pair other (Disk which) few low is behind = omega (arith, low, behind, pair_is pair which few is)
not_behind pair other (Image bad) few low is behind = omega (arith, low, behind, pair_is pair bad.disk few is)
not_behind pair other Memory few low is behind = behind

-- AMONG PAIRS

of_among : (least most pair number : ℕ) → least ≤ pair → pair ≤ most → IsOfPair pair number → IsAmong least most number
of_among least most pair number low high (inl is) = inl (omega (arith, is, low), omega (arith, is, high))
of_among least most pair number low high (inr is) = inr (omega (arith, is, low), omega (arith, is, high))

-- of one pair, among some
pub among_of : (least most pair : ℕ) (Q : BadImage → Type 0) (reason : PairNo) → least ≤ pair → pair ≤ most → IsNoOfPair pair reason → ((bad : BadImage) → reason ≡ Image bad → Q bad) → IsReasonAmong least most Q reason
among_of least most pair Q (Disk which) low high is also = of_among least most pair which low high is
among_of least most pair Q (Image bad) low high is also = (of_among least most pair bad.disk low high is, also bad refl)
among_of least most pair Q Memory low high is also = tt

from_first : (most number : ℕ) → IsAmong 1 most number → IsAmong 0 most number
from_first most number (inl is) = inl (omega arith, is.1)
from_first most number (inr is) = inr (omega (arith, is.0), is.1)

-- among more pairs
pub among_more : (most : ℕ) (P Q : BadImage → Type 0) (reason : PairNo) → ((bad : BadImage) → P bad → Q bad) → IsReasonAmong 1 most P reason → IsReasonAmong 0 most Q reason
among_more most P Q (Disk which) also among = from_first most which among
among_more most P Q (Image bad) also among = (from_first most bad.disk among.0, also bad among.1)
among_more most P Q Memory also among = tt

-- pair 0 is none of the copies'
first_among : (most number : ℕ) → most ≤ 16 → IsOfPair 0 number → IsAmong 1 most number → ⊥
first_among most number few (inl is) (inl among) = omega (arith, is, among.0)
first_among most number few (inl is) (inr among) = omega (arith, is, among.0)
first_among most number few (inr is) (inl among) = omega (arith, is, among.1, few)
first_among most number few (inr is) (inr among) = omega (arith, is, among.0)

pub not_first_failed : (most number : ℕ) (P : BadImage → Type 0) (reason : PairNo) → most ≤ 16 → IsReasonAmong 1 most P reason → IsOfPair 0 number → FailedAt reason number → ⊥
not_first_failed most number P (Disk which) few among of failed = first_among most number few of (subst (IsAmong 1 most) (sym failed) among)
not_first_failed most number P (Image bad) few among of failed = failed
not_first_failed most number P Memory few among of failed = failed

pub not_behind_first : (reason : PairNo) → IsBehind reason 0 → ⊥
not_behind_first (Disk which) behind = omega (arith, behind)
not_behind_first (Image bad) behind = omega (arith, behind)
not_behind_first Memory behind = behind

-- what follows of each image that is refused
pub among_also : (least most : ℕ) (P Q : BadImage → Type 0) (reason : PairNo) → ((bad : BadImage) → P bad → Q bad) → IsReasonAmong least most P reason → IsReasonAmong least most Q reason
among_also least most P Q (Disk which) also among = among
among_also least most P Q (Image bad) also among = (among.0, also bad among.1)
among_also least most P Q Memory also among = among

-- A DISK THAT FAILED

pub failed_is : (reason : PairNo) (number : ℕ) → FailedAt reason number → reason ≡ Disk number
failed_is (Disk which) number failed = ap Disk (sym failed)
failed_is (Image bad) number failed = absurd failed
failed_is Memory number failed = absurd failed

pub is_failed : (reason : PairNo) (number : ℕ) → reason ≡ Disk number → FailedAt reason number
is_failed reason number is = subst (λ r. FailedAt r number) (sym is) refl
