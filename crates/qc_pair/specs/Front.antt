-- Which two bodies may stand first in a journal of a pair.
use Rattle.std.specs.Prelude.{ℕ, ◌≡◌, ◌⊎◌, true, List, [], ◌∷◌, MatchOption, is_some}
use Rattle.qc_codec.specs.Base.{base_in, copy_base, current_copy_base, current_ledger_base, layout_of, ledger_base, number_of_base}
use Rattle.qc_codec.specs.Bodies as body
use Rattle.qc_codec.specs.Form.{Form, all_of}
use Rattle.qc_codec.specs.declared.image.ImageFault.{ImageFault}
use Rattle.qc_codec.specs.declared.image.ImageFault.TheVariants.{Grammar}
use Rattle.qc_codec.specs.declared.record.BaseRecord.{BaseRecord}
use Rattle.qc_codec.specs.declared.record.LedgerRecord.{LedgerRecord}
use Rattle.qc_codec.specs.declared.record.LedgerRecord.TheVariants as ledger_record
use Rattle.qc_codec.specs.declared.record.Made.{Made}
use Rattle.qc_event.specs.declared.table.Table.{Table}
use Rattle.qc_pair.specs.declared.fault.PairNo.{PairNo}
use Rattle.qc_pair.specs.declared.fault.PairNo.TheVariants.{Disk, Image, Memory}
use Rattle.qc_pair.specs.declared.kind.Kind.{Kind}
use Rattle.qc_pair.specs.declared.kind.Kind.TheVariants.{Ledger, Copy}

-- the base of a journal of this kind
abbrev pub base_form : Kind → Made → Form BaseRecord
base_form Ledger = ledger_base
base_form Copy = copy_base

-- the base of a store of this table in the current format
abbrev pub current_base : Kind → Table → Form BaseRecord
current_base Ledger = current_ledger_base
current_base Copy = current_copy_base

-- a record of the ledger that does not tell how it was made
abbrev pub IsEpochOrTop : LedgerRecord → Type 0
IsEpochOrTop (ledger_record.Made made) = ⊥
IsEpochOrTop _ = Unit {0}

-- bytes are a record of the kind: of the ledger an epoch or a top, of a copy what it granted where it was made so
abbrev pub IsRecord : Kind → Made → List ℕ → Type 0
IsRecord Ledger made bytes = MatchOption (all_of body.ledger bytes) ⊥ IsEpochOrTop
IsRecord Copy made bytes = is_some (all_of (body.grant (layout_of made)) bytes) ≡ true

module _ (kind : Kind) where
  -- bytes may stand behind a made record: they are a base or a record
  abbrev pub MayStandSecond : Made → List ℕ → Type 0
  MayStandSecond made bytes = (is_some (all_of (base_form kind made) bytes) ≡ true) ⊎ IsRecord kind made bytes

  -- so they may behind a first body that tells that the disk of a number was made
  abbrev pub IsMadeWith : ℕ → (Made → Type 0) → List ℕ → Type 0
  IsMadeWith who Behind first = MatchOption (all_of body.made first) ⊥ (λ (made : Made). (made.who ≡ who) × Behind made)

  -- these bodies may begin the journal of the disk of a number
  abbrev pub MayBegin : ℕ → List (List ℕ) → Type 0
  MayBegin who [] = Unit {0}
  MayBegin who (first ∷ []) = IsMadeWith who (λ made. Unit {0}) first
  MayBegin who (first ∷ second ∷ bodies) = IsMadeWith who (λ made. MayStandSecond made second) first

  -- of the first two bodies the one of this index is the first that may not stand where it does
  abbrev pub IsFrontFault : ℕ → List (List ℕ) → ℕ → Type 0
  IsFrontFault who [] index = ⊥
  IsFrontFault who (first ∷ []) index = (index ≡ 0) × (MayBegin who (first ∷ []) → ⊥)
  IsFrontFault who (first ∷ second ∷ bodies) index = ((index ≡ 0) × (MayBegin who (first ∷ []) → ⊥))
      ⊎ ((index ≡ 1) × MayBegin who (first ∷ []) × (MayBegin who (first ∷ second ∷ bodies) → ⊥))

  -- the number of the base of these bodies, 0 where there is none
  abbrev pub number_in : List (List ℕ) → ℕ
  number_in bodies = number_of_base (base_in (base_form kind) bodies)

-- a fault of the grammar, of whose index this holds; or of the memory
abbrev pub IsGrammar : (ℕ → Type 0) → ImageFault → Type 0
IsGrammar P (Grammar index) = P index
IsGrammar P _ = ⊥

-- the first two bodies of the disk of a number are refused, or memory was wanting
abbrev pub IsFrontNo : Kind → ℕ → List (List ℕ) → PairNo → Type 0
IsFrontNo kind who bodies (Disk n) = ⊥
IsFrontNo kind who bodies (Image bad) = (bad.disk ≡ who) × IsGrammar (IsFrontFault kind who bodies) bad.fault
IsFrontNo kind who bodies Memory = Unit {0}

-- bytes may not stand second, or memory was wanting
abbrev pub IsSecondNo : Kind → ℕ → Made → List ℕ → PairNo → Type 0
IsSecondNo kind who made bytes (Disk n) = ⊥
IsSecondNo kind who made bytes (Image bad) = (bad.disk ≡ who) × IsGrammar (λ index. (index ≡ 1) × (MayStandSecond kind made bytes → ⊥)) bad.fault
IsSecondNo kind who made bytes Memory = Unit {0}
