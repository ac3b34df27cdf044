-- What images of pairs restore that stand beside a legal history is sound for the values after it.
use Rattle.std.proofs.Common.{◌≡◌, ℕ, zero, suc, ◌+◌, ◌-◌, ◌<◌, ◌≤◌, inl, inr, ⊎_elim, List, [], ◌++◌, length, get_or, refl, sym, ap, ◌∙◌, subst, arith}
use Rattle.std.specs.Prelude.{Some}
use Rattle.std.proofs.lemmas.Bool.{cases_lt}
use Rattle.std.proofs.lemmas.List.{get_or_past}
use Rattle.std.proofs.lemmas.List.Elements.{All-cons, All-nil}
use Rattle.std.proofs.lemmas.List.FromFn.{length-map-range_with_len, get_or-map-range_with_len}
use Rattle.qc_config.specs.Val.{Datum}
use Rattle.qc_codec.specs.Base.{active, active_disk, base_in, copy_base, current_copy_base, tuples_of_base}
use Rattle.qc_codec.specs.Copy.{granted_in}
use Rattle.qc_codec.specs.Form.{Form}
use Rattle.qc_codec.specs.declared.record.BaseRecord.{BaseRecord}
use Rattle.qc_codec.specs.declared.record.Made.{Made}
use Rattle.qc_config.specs.declared.tuple.Tuple.{Tuple}
use Rattle.qc_event.specs.declared.table.Table.{Table}
use Rattle.qc_event.specs.History.{Past}
use Rattle.qc_event.specs.Legal.{Legal}
use Rattle.qc_event.specs.Sound.{IsSound}
use Rattle.qc_event.specs.Standing.{HasEnded}
use Rattle.qc_event.specs.Tables.{base_of, setting_of}
use Rattle.qc_journal.proofs.Readings.{records-same}
use Rattle.qc_journal.specs.Image.{HasRecords}
use Rattle.qc_refine.specs.Folded.{begins, seen_row, IsOpenPair, IsFoldedPair, AreFoldedPairs}
use Rattle.qc_refine.specs.Images.{CarryFinal, IsCopyBodies}
use Rattle.qc_refine.specs.Listed.{logged}
use Rattle.qc_refine.specs.Pairs.{AreFreshPairs, IsFoldedCopy, RestoreInPairs, StandInPairs, TellsCopy, TellsLedger, TellsPair, copy_bodies, first_in, kept_in_pairs, ledger_bodies}
use Rattle.qc_refine.specs.Restored.{granted_at, restored}
use Rattle.qc_refine.specs.Standing.{committed_too}
use Rattle.qc_refine.proofs.Restoring.ImageReadings.{copy_told, ledger_told}
use Rattle.qc_refine.proofs.Restoring.RestoredBases.{folded_carry, fresh_begins, fresh_beside, fresh_many}

-- WHAT IS READ

-- what a copy's bodies tell where its pair was folded: what it held, and no grant
pub folded_copy_told : (table : Table) (epoch : ℕ) (held : List Tuple) (disk : ℕ) (bodies : List (List ℕ)) → IsFoldedCopy table epoch held disk bodies → (granted_in table bodies ≡ []) × (tuples_of_base table (base_in copy_base bodies) ≡ held)
folded_copy_told table epoch held disk bodies is =
    copy_told table held [] disk bodies (record {
      base = Some is.base;
      begin_is = sym is.holds;
      made_fits = is.made_fits;
      base_fits = All-cons (current_copy_base table).fits is.base [] is.base_fits (All-nil _);
      grants_fit = All-nil _;
      are = is.are;
    })

-- READ AGAIN

-- whatever bodies are read of the images of a pair, the active ones tell what they do
pub tells_read : (form : Made → Form BaseRecord) (disk : ℕ) (Tells : ℕ → List (List ℕ) → Type 0) (image image' : List ℕ) (own spare : List (List ℕ)) → TellsPair form disk Tells image image' → HasRecords own image → HasRecords spare image'
    → Tells (active_disk form own spare disk) (active form own spare)
tells_read form disk Tells image image' own spare t has has_spare =
    subst (λ (a : List (List ℕ)). Tells (active_disk form a spare disk) (active form a spare)) (sym (records-same image t.own own t.has has))
    (subst (λ (b : List (List ℕ)). Tells (active_disk form t.own b disk) (active form t.own b)) (sym (records-same image' t.spare spare t.has_spare has_spare)) t.tells)

module _ (table : Table) (images : List (List ℕ)) (base : List (List Tuple)) (epoch : ℕ) (past : Past) (standing : StandInPairs table base epoch past images) (tuples : List (List Tuple)) (r : RestoreInPairs table images tuples) where
  abbrev first : List (List Tuple)
  first = standing.first

  -- THE COPIES

  begin_at : (copy : ℕ) → copy < table.copies → begins (first_in table r.bodies) copy ≡ tuples_of_base table (base_in copy_base (copy_bodies table r.bodies copy))
  begin_at copy there = get_or-map-range_with_len (λ c. tuples_of_base table (base_in copy_base (copy_bodies table r.bodies c))) 0 table.copies copy copy [] there (omega arith)

  granted_is : (copy : ℕ) → copy < table.copies → granted_at (kept_in_pairs table r.bodies) copy ≡ granted_in table (copy_bodies table r.bodies copy)
  granted_is copy there = get_or-map-range_with_len (λ c. granted_in table (copy_bodies table r.bodies c)) 0 table.copies copy copy [] there (omega arith)

  abbrev Open : ℕ → Type 0
  Open = IsOpenPair (setting_of table base) past first (first_in table r.bodies) standing.now (kept_in_pairs table r.bodies)

  abbrev Folded : ℕ → Type 0
  Folded = IsFoldedPair (setting_of table base) past first (first_in table r.bodies) standing.now (kept_in_pairs table r.bodies)

  folded_pair : (copy : ℕ) → copy < table.copies → HasEnded past
      → TellsPair copy_base (copy + 1) (IsFoldedCopy table epoch (seen_row (setting_of table base) past copy)) (get_or images (copy + 1) []) (get_or images (table.copies + 1 + (copy + 1)) []) → Folded copy
  folded_pair copy there ended t =
      let told = folded_copy_told table epoch (seen_row (setting_of table base) past copy) _ (copy_bodies table r.bodies copy) (tells_read _ _ _ _ _ (r.bodies (copy + 1)) (r.bodies (table.copies + 1 + (copy + 1))) t (r.has (copy + 1)) (r.has (table.copies + 1 + (copy + 1)))) in
      record { ended = ended; held = begin_at copy there ∙ told.1; no_grants = granted_is copy there ∙ told.0 }

  open_pair : (copy : ℕ) → copy < table.copies
      → TellsPair copy_base (copy + 1) (IsCopyBodies table (begins first copy) (granted_at standing.now copy)) (get_or images (copy + 1) []) (get_or images (table.copies + 1 + (copy + 1)) []) → Open copy
  open_pair copy there t =
      let told = copy_told table (begins first copy) (granted_at standing.now copy) _ (copy_bodies table r.bodies copy) (tells_read _ _ _ _ _ (r.bodies (copy + 1)) (r.bodies (table.copies + 1 + (copy + 1))) t (r.has (copy + 1)) (r.has (table.copies + 1 + (copy + 1)))) in
      record { same_begin = begin_at copy there ∙ told.1; same_grants = granted_is copy there ∙ told.0 }

  within : (copy : ℕ) → copy < length first → copy < table.copies
  within copy there = subst (λ n. copy < n) standing.many there

  -- ALL PAIRS

  pairs : AreFoldedPairs (setting_of table base) past first (first_in table r.bodies) standing.now (kept_in_pairs table r.bodies)
  pairs = record {
    many = length-map-range_with_len (λ c. tuples_of_base table (base_in copy_base (copy_bodies table r.bodies c))) 0 table.copies ∙ sym standing.many;
    copies = λ copy there. ⊎_elim
        (λ t. inl (open_pair copy (within copy there) t))
        (λ t. inr (folded_pair copy (within copy there) t.0 t.1))
        (standing.copies copy (within copy there));
    ledger = ⊎_elim
        (λ t. inl (ledger_told table epoch standing.before.tops (logged past ++ standing.beside.more) _ (ledger_bodies table r.bodies)
        (tells_read _ _ _ _ _ (r.bodies 0) (r.bodies (table.copies + 1 + 0)) t (r.has 0) (r.has (table.copies + 1 + 0)))
        ∙ sym standing.beside.tops))
        (λ t. inr (λ copy there. folded_pair copy (within copy there) t.0 (t.2 copy (within copy there))))
        standing.ledger;
  }

  module _ (values : List Datum) (legal : Legal (setting_of table base) past) (sound : IsSound (setting_of table base) values) where
    pub pairs_carry_final : CarryFinal table values (committed_too past standing.beside.more) tuples
    pairs_carry_final = folded_carry table base epoch past first standing.before standing.now standing.beside (first_in table r.bodies) (kept_in_pairs table r.bodies) pairs tuples r.same values legal sound

-- one base is restored
pub pairs_restore_one : (table : Table) (images : List (List ℕ)) (one two : List (List Tuple)) → RestoreInPairs table images one → RestoreInPairs table images two → one ≡ two
pairs_restore_one table images one two r s =
    let same : r.bodies ≡ s.bodies = λ i place. records-same (get_or images place []) (s.bodies place) (r.bodies place) (s.has place) (r.has place) i in
    r.same ∙ ap (λ bodies. restored (first_in table bodies) (length table.records) (kept_in_pairs table bodies)) same ∙ sym s.same

-- WHAT PAIRS TELL

-- what is told of the active bodies of a pair may be told otherwise
pub told_too : {form : Made → Form BaseRecord} {disk : ℕ} {image image' : List ℕ} (Tells Tells' : ℕ → List (List ℕ) → Type 0) → ((number : ℕ) (bodies : List (List ℕ)) → Tells number bodies → Tells' number bodies)
    → TellsPair form disk Tells image image' → TellsPair form disk Tells' image image'
told_too Tells Tells' follows t = record { own = t.own; spare = t.spare; has = t.has; has_spare = t.has_spare; tells = follows _ _ t.tells }

-- whatever bodies
abbrev pub AnyBodies : ℕ → List (List ℕ) → Type 0
AnyBodies number bodies = Unit {0}

pub some_told : {form : Made → Form BaseRecord} {disk : ℕ} {image image' : List ℕ} (Tells : ℕ → List (List ℕ) → Type 0) → TellsPair form disk Tells image image' → TellsPair form disk AnyBodies image image'
some_told Tells t = told_too Tells AnyBodies (λ number bodies is. tt) t

-- the image at a place has records
abbrev pub HasSome : List (List ℕ) → ℕ → Type 0
HasSome images place = (bodies : List (List ℕ)) × HasRecords bodies (get_or images place [])

-- what is read past the last image has none
pub none_past : (images : List (List ℕ)) (place : ℕ) → length images ≤ place → HasSome images place
none_past images place past_all = ([], inl (refl, omega (arith, ap length (get_or_past images place [] past_all))))

-- Where each pair has records, so has each image, and they restore something.
module _ (table : Table) (images : List (List ℕ)) (as_many : length images ≡ table.copies + 1 + (table.copies + 1))
    (ledger : TellsLedger table images AnyBodies) (copies : (copy : ℕ) → copy < table.copies → TellsCopy table images copy AnyBodies) where
  own_have : (number : ℕ) → number < table.copies + 1 → HasSome images number
  own_have zero there = (ledger.own, ledger.has)
  own_have (suc copy) there = let t = copies copy (omega (arith, there)) in subst (HasSome images) (omega arith) (t.own, t.has)

  spares_have : (number : ℕ) → number < table.copies + 1 → HasSome images (table.copies + 1 + number)
  spares_have zero there = (ledger.spare, ledger.has_spare)
  spares_have (suc copy) there = let t = copies copy (omega (arith, there)) in subst (HasSome images) (omega arith) (t.spare, t.has_spare)

  pub each_has : (place : ℕ) → HasSome images place
  each_has place = elim (cases_lt place (table.copies + 1)) [
    | inl own ↦ own_have place own
    | inr behind ↦ elim (cases_lt (place - (table.copies + 1)) (table.copies + 1)) [
      | inl spare ↦ subst (HasSome images) (omega (arith, behind)) (spares_have (place - (table.copies + 1)) spare)
      | inr none ↦ none_past images place (omega (arith, as_many, behind, none))
    ]
  ]

  pub each_restored : (tuples : List (List Tuple)) × RestoreInPairs table images tuples
  each_restored = (_, record { bodies = λ place. (each_has place).0; has = λ place. (each_has place).1; same = refl })

-- images that stand restore something
pub pairs_restore_some : (table : Table) (images : List (List ℕ)) (base : List (List Tuple)) (epoch : ℕ) (past : Past) → StandInPairs table base epoch past images → (tuples : List (List Tuple)) × RestoreInPairs table images tuples
pairs_restore_some table images base epoch past standing =
    each_restored table images standing.as_many
    (⊎_elim (λ t. some_told _ t) (λ t. some_told _ t.1) standing.ledger)
    (λ copy there. ⊎_elim (λ t. some_told _ t) (λ t. some_told _ t.1) (standing.copies copy there))

-- fresh images stand beside the empty history
pub fresh_pairs_stand : (table : Table) (images : List (List ℕ)) → AreFreshPairs table images → StandInPairs table (base_of table) 1 [] images
fresh_pairs_stand table images fresh = record {
  first = base_of table;
  before = record { tops = []; granted = [] };
  now = record { tops = []; granted = [] };
  beside = fresh_beside table;
  many = fresh_many table;
  as_many = fresh.as_many;
  ledger = inl fresh.ledger;
  copies = λ copy there. inl (told_too _ _ (λ number bodies is. subst (λ begin. IsCopyBodies table begin [] number bodies) (fresh_begins table copy there) is) (fresh.copies copy there));
}
