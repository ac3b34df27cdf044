-- What becomes of the other disk of a pair, into which that may be folded once a run has ended.
use Rattle.std.specs.Prelude.{◌≡◌, ◌<◌, ◌⊎◌, ◌^◌, ℕ, zero, suc, true, List, [], ◌∷◌, All, length}
use Rattle.qc_codec.specs.Fields as field
use Rattle.qc_codec.specs.Fields.{current}
use Rattle.qc_config.specs.declared.tuple.Tuple.{Tuple}
use Rattle.qc_disk.specs.Disk.{DiskView as Disk, Rose}
use Rattle.qc_event.specs.Base.{Setting}
use Rattle.qc_event.specs.History.{Past}
use Rattle.qc_event.specs.Standing.{HasEnded}
use Rattle.qc_journal.specs.Image.{HasRecords}
use Rattle.qc_pair.specs.Folding.{HasNoRoom, next_base}
use Rattle.qc_desk.specs.Entries.{IsOlder}
use Rattle.qc_refine.specs.Folded.{seen_row}
use Rattle.qc_system.specs.Grown.{FoldedFrom, GrownFrom}
use Rattle.qc_system.specs.Parts.{Findings}

-- since a time that was seen, each top had its end
abbrev pub EndedSince : Past → Past → Type 0
EndedSince since past = (at : Past) → IsOlder since at → IsOlder at past → HasEnded at

-- with which tuples a pair is folded: a copy's with what it holds, the ledger's with none
abbrev pub held_at : Setting → ℕ → Past → List Tuple
held_at setting zero past = []
held_at setting (suc copy) past = seen_row setting past copy

module _ (setting : Setting) (found : Findings) where
  abbrev pub held_in : ℕ → Past → List Tuple
  held_in pair past = held_at setting pair past

  -- the body of the base to which a pair is folded
  abbrev pub base_in : ℕ → List Tuple → List ℕ
  base_in pair tuples = next_base (length setting.base) (found.number pair) found.epoch tuples

  -- Nothing was folded into the other disk of a pair: it has what was found there, where it tells its bytes, and had it at each moment since.
  pub record OtherKeeps (pair : ℕ) (disk : Disk) : Type 0 where
    pub kept : ∥ ((found.other pair).told ≡ true → (image : List ℕ) → disk.may_leave image → HasRecords (found.other pair).before image) ∥₁
    pub grown : ∥ ((found.other pair).told ≡ true → GrownFrom (found.other pair).first (found.other pair).before (λ more. more ≡ []) disk) ∥₁

  -- These tuples were folded into it, as far as the fold came: there was a next number, they fit the form of a base, and where it tells its bytes it had at each moment since what was found there, or what a fold leaves.
  pub record OtherFolds (pair : ℕ) (tuples : List Tuple) (disk : Disk) : Type 0 where
    pub next : found.number pair < 2 ^ 63
    pub fit : All (field.tuple (current (length setting.base))).fits tuples
    pub folds : ∥ ((found.other pair).told ≡ true → FoldedFrom (found.other pair).first (found.other pair).before (found.made pair) (base_in pair tuples) disk) ∥₁

  -- The fold came to its end: where it tells its bytes, each image has how the disk was made and the base, and no more.
  pub record IsFolded (pair : ℕ) (tuples : List Tuple) (disk : Disk) : Type 0 where
    pub next : found.number pair < 2 ^ 63
    pub fit : All (field.tuple (current (length setting.base))).fits tuples
    pub has : (found.other pair).told ≡ true → (image : List ℕ) → disk.may_leave image → HasRecords (found.made pair ∷ base_in pair tuples ∷ []) image

  -- Nothing bars a pair from being folded to these tuples: the active disk tells its bytes, neither disk has failed since its mounting, there is a next number, and room for both bodies.
  pub record IsFree (pair : ℕ) (tuples : List Tuple) (active other : Disk) : Type 0 where
    pub told : (found.active pair).told ≡ true
    pub sound : Rose (found.active pair).first.faults active.faults → ⊥
    pub sound_other : Rose (found.other pair).first.faults other.faults → ⊥
    pub room : (place : ℕ) → HasNoRoom (found.number pair) found.limit (found.made pair) (base_in pair tuples) place → ⊥

  -- A pair was folded by one who has seen this, to what it holds then, once each top had its end, which was seen since a time.
  pub record WasFolded (since : Past) (pair : ℕ) (disk : Disk) (past : Past) : Type 0 where
    pub by : Past
    pub later : IsOlder since by
    pub older : IsOlder by past
    pub ended : HasEnded by
    pub folds : OtherFolds pair (held_in pair past) disk

  -- what became of the other disk of a pair, by one who has seen this: it has what was found there, or was folded
  abbrev pub IsLeftBy : Past → ℕ → Disk → Past → Type 0
  IsLeftBy since pair disk past = OtherKeeps pair disk ⊎ WasFolded since pair disk past
