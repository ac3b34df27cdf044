-- What is known of the records that were read.
use Rattle.std.specs.Prelude.{ℕ, ◌≡◌, ◌≢◌, ◌↔◌, ◌++◌, ◌∷◌, [], List, All, Option, None, Some, false}
use Rattle.std.specs.Ordering.{nat_cmp}
use Rattle.std.specs.BTreeSet.{BTreeSet, contains}
use Rattle.qc_codec.specs.declared.past.Logged.{Logged}
use Rattle.qc_codec.specs.declared.past.Past.{Past}
use Rattle.qc_codec.specs.declared.record.BaseRecord.{BaseRecord}
use Rattle.qc_codec.specs.declared.record.LedgerRecord.{LedgerRecord}
use Rattle.qc_codec.specs.declared.record.LedgerRecord.TheVariants.{Made, Epoch, Top}
use Rattle.qc_ledger.specs.declared.seen.Seen.{Seen}

-- what was told
abbrev pub told_by : Seen → Past
told_by seen = record { epoch = seen.epoch; base = seen.base; tops = seen.tops.items }

-- numbers are those of tops
abbrev pub AreNumbers : BTreeSet ℕ → List Logged → Type 0
AreNumbers numbers tops = (n : ℕ) → (contains nat_cmp numbers n ≡ false) ↔ All (λ (l : Logged). l.top ≢ n ∷ []) tops

abbrev pub HasNumbers : Seen → Type 0
HasNumbers seen = AreNumbers seen.numbers seen.tops.items

-- what is told with one record more
abbrev pub with_record : Past → LedgerRecord → Past
with_record past (Made made) = past
with_record past (Epoch epoch) = record { epoch = epoch; base = past.base; tops = past.tops }
with_record past (Top top aborted) = record { epoch = past.epoch; base = past.base; tops = past.tops ++ record { top = top; aborted = aborted } ∷ [] }

-- what is told with what a body is, where it is a record
abbrev pub with_body : Past → Option LedgerRecord → Past
with_body past None = past
with_body past (Some next) = with_record past next

-- what is told with what a body is as a base, where it is one
abbrev pub with_base : Past → Option BaseRecord → Past
with_base past None = past
with_base past (Some base) = record { epoch = base.epoch; base = Some base.epoch; tops = past.tops }
