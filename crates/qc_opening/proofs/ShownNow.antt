-- What disks tell since the folds, where a shop told less than they did.
use Rattle.std.proofs.Common.{◌≡◌, ℕ, zero, suc, ◌+◌, ◌-◌, ◌<◌, ◌≤◌, inl, inr, true, List, refl, sym, ap, ◌∙◌, subst, arith}
use Rattle.std.specs.Prelude.{Bool, false, not, if◌then◌else◌, Option, None, Some, IsSome, is_some}
use Rattle.std.proofs.lemmas.Bool.{cases_lt}
use Rattle.qc_codec.specs.declared.past.Past.{Past}
use Rattle.qc_disk.specs.Disk.{Steps}
use Rattle.qc_disk.specs.Shop.{Tells}
use Rattle.qc_event.specs.declared.table.Table.{Table}
use Rattle.qc_opening.specs.Disks.{all_places}
use Rattle.qc_opening.specs.Pairs.{of_active, of_other}
use Rattle.qc_opening.specs.SinceFolds.{SinceFolds, TellSinceFolds}
use Rattle.qc_opening.specs.Stored.{AllTell}
use Rattle.qc_opening.proofs.Otherwise.{have_otherwise, own_tells, spare_tells, TellAsMuch}
use Rattle.qc_pair.specs.declared.kind.Kind.TheVariants as kind
use Rattle.qc_site.specs.Renewal.{IsOlderPair, TellsNow, WasRenewed}

-- ONE DISK

-- what a disk tells now, where its bytes were offered
abbrev pub shown : Option (List ℕ) → Option (List ℕ) → Option (List ℕ)
shown None now = None
shown (Some bytes) now = now

shown_tells : (offer now : Option (List ℕ)) → Tells (shown offer now) now
shown_tells None now = tt
shown_tells (Some bytes) None = tt
shown_tells (Some bytes) (Some image) = refl

-- what was offered, where it tells what it told
shown_same : (offer told now : Option (List ℕ)) → Tells offer told → now ≡ told → shown offer now ≡ offer
shown_same None told now tells same = refl
shown_same (Some bytes) told now tells same = same ∙ tells

shown_steps : (P : List ℕ → List ℕ → Type 0) (offer told now : Option (List ℕ)) → Tells offer told → Steps P told now → Steps P offer (shown offer now)
shown_steps P None told now tells steps = refl
shown_steps P (Some bytes) told now tells steps = subst (λ o. Steps P o now) tells steps

-- a disk that told its bytes tells some now
some_same : (told now : Option (List ℕ)) → now ≡ told → IsSome told → IsSome now
some_same told now same some = ap is_some same ∙ some

some_steps : (P : List ℕ → List ℕ → Type 0) (told now : Option (List ℕ)) → Steps P told now → IsSome told → IsSome now
some_steps P None now steps some = absurd cc
some_steps P (Some bytes) now steps some = ap is_some steps.1

-- and what tells its bytes now told some
back_same : (told now : Option (List ℕ)) → now ≡ told → IsSome now → IsSome told
back_same told now same some = ap is_some (sym same) ∙ some

back_steps : (P : List ℕ → List ℕ → Type 0) (told now : Option (List ℕ)) → Steps P told now → IsSome now → IsSome told
back_steps P None now steps some = ap is_some (sym steps) ∙ some
back_steps P (Some bytes) now steps some = refl

-- A COPY'S PAIR

module _ (copy : ℕ) (table : Table) (past : Past) (told spare_told now spare_now : Option (List ℕ)) where
  module _ (offer spare_offer : Option (List ℕ)) (tells : Tells offer told) (spare_tells : Tells spare_offer spare_told) where
    -- it was folded, where less was offered
    renewed_otherwise : WasRenewed copy table told spare_told past now spare_now → WasRenewed copy table offer spare_offer past (shown offer now) (shown spare_offer spare_now)
    renewed_otherwise was = record {
      is_spare = was.is_spare;
      found = was.found;
      pair = record { have = have_otherwise kind.Copy (copy + 1) offer told spare_offer spare_told was.is_spare was.found tells spare_tells was.pair.have; older = was.pair.older };
      fits = was.fits;
      same = same_by was.is_spare was.same;
      folded = folded_by was.is_spare _ was.folded;
    }
      where
        same_by : (s : Bool) → (if s then spare_now else now) ≡ (if s then spare_told else told) → (if s then shown spare_offer spare_now else shown offer now) ≡ (if s then spare_offer else offer)
        same_by true same = shown_same spare_offer spare_told spare_now spare_tells same
        same_by false same = shown_same offer told now tells same

        folded_by : (s : Bool) (P : List ℕ → List ℕ → Type 0) → Steps P (if s then told else spare_told) (if s then now else spare_now) → Steps P (if s then offer else spare_offer) (if s then shown offer now else shown spare_offer spare_now)
        folded_by true P steps = shown_steps P offer told now tells steps
        folded_by false P steps = shown_steps P spare_offer spare_told spare_now spare_tells steps

    pub copy_otherwise : TellsNow copy table told spare_told past now spare_now → TellsNow copy table offer spare_offer past (shown offer now) (shown spare_offer spare_now)
    copy_otherwise (inl same) = inl (shown_same offer told now tells same.0, shown_same spare_offer spare_told spare_now spare_tells same.1)
    copy_otherwise (inr was) = inr (renewed_otherwise was)

  -- both its disks go on telling
  both_tell : TellsNow copy table told spare_told past now spare_now → (IsSome told → IsSome now) × (IsSome spare_told → IsSome spare_now)
  both_tell (inl same) = (some_same told now same.0, some_same spare_told spare_now same.1)
  both_tell (inr was) = by was.is_spare was.same _ was.folded
    where
      by : (s : Bool) → (if s then spare_now else now) ≡ (if s then spare_told else told) → (P : List ℕ → List ℕ → Type 0) → Steps P (if s then told else spare_told) (if s then now else spare_now) → (IsSome told → IsSome now) × (IsSome spare_told → IsSome spare_now)
      by true same P steps = (some_steps P told now steps, some_same spare_told spare_now same)
      by false same P steps = (some_same told now same, some_steps P spare_told spare_now steps)

  -- and told before what they tell now
  both_told : TellsNow copy table told spare_told past now spare_now → (IsSome now → IsSome told) × (IsSome spare_now → IsSome spare_told)
  both_told (inl same) = (back_same told now same.0, back_same spare_told spare_now same.1)
  both_told (inr was) = by was.is_spare was.same _ was.folded
    where
      by : (s : Bool) → (if s then spare_now else now) ≡ (if s then spare_told else told) → (P : List ℕ → List ℕ → Type 0) → Steps P (if s then told else spare_told) (if s then now else spare_now) → (IsSome now → IsSome told) × (IsSome spare_now → IsSome spare_told)
      by true same P steps = (back_steps P told now steps, back_same spare_told spare_now same)
      by false same P steps = (back_same told now same, back_steps P spare_told spare_now steps)

-- ALL DISKS

-- what disks tell now of which this was offered
abbrev pub shown_now : (ℕ → Option (List ℕ)) → (ℕ → Option (List ℕ)) → ℕ → Option (List ℕ)
shown_now offers now place = shown (offers place) (now place)

pub shown_as_much : (table : Table) (offers now : ℕ → Option (List ℕ)) → TellAsMuch table (shown_now offers now) now
shown_as_much table offers now place low = shown_tells (offers place) (now place)

module _ (table : Table) (told now : ℕ → Option (List ℕ)) (since : TellSinceFolds table told now) where
  own_some : (pair : ℕ) → pair ≤ table.copies → IsSome (told pair) → IsSome (now pair)
  own_some zero low = some_same (told 0) (now 0) since.ledger
  own_some (suc copy) low =
      let next : copy + 1 ≡ suc copy = omega arith in
      subst (λ n. IsSome (told n) → IsSome (now n)) next (both_tell copy table since.past _ _ _ _ (since.copies copy (omega (arith, low)))).0

  spare_some : (pair : ℕ) → pair ≤ table.copies → IsSome (told (table.copies + 1 + pair)) → IsSome (now (table.copies + 1 + pair))
  spare_some zero low = some_same (told (table.copies + 1 + 0)) (now (table.copies + 1 + 0)) since.ledger_spare
  spare_some (suc copy) low =
      let next : copy + 1 ≡ suc copy = omega arith in
      subst (λ n. IsSome (told (table.copies + 1 + n)) → IsSome (now (table.copies + 1 + n))) next (both_tell copy table since.past _ _ _ _ (since.copies copy (omega (arith, low)))).1

  own_back : (pair : ℕ) → pair ≤ table.copies → IsSome (now pair) → IsSome (told pair)
  own_back zero low = back_same (told 0) (now 0) since.ledger
  own_back (suc copy) low =
      let next : copy + 1 ≡ suc copy = omega arith in
      subst (λ n. IsSome (now n) → IsSome (told n)) next (both_told copy table since.past _ _ _ _ (since.copies copy (omega (arith, low)))).0

  spare_back : (pair : ℕ) → pair ≤ table.copies → IsSome (now (table.copies + 1 + pair)) → IsSome (told (table.copies + 1 + pair))
  spare_back zero low = back_same (told (table.copies + 1 + 0)) (now (table.copies + 1 + 0)) since.ledger_spare
  spare_back (suc copy) low =
      let next : copy + 1 ≡ suc copy = omega arith in
      subst (λ n. IsSome (now (table.copies + 1 + n)) → IsSome (told (table.copies + 1 + n))) next (both_told copy table since.past _ _ _ _ (since.copies copy (omega (arith, low)))).1

  -- of each pair the active disk, and the other one, tell some where they did
  module _ (swapped : ℕ → Bool) (pair : ℕ) (low : pair ≤ table.copies) where
    one_of : (A B A' B' : Option (List ℕ)) (s : Bool) → (IsSome A → IsSome A') → (IsSome B → IsSome B') → IsSome (if s then B else A) → IsSome (if s then B' else A')
    one_of A B A' B' true own spare some = spare some
    one_of A B A' B' false own spare some = own some

    pub active_still : IsSome (of_active table swapped told pair) → IsSome (of_active table swapped now pair)
    active_still = one_of (told pair) (told (table.copies + 1 + pair)) (now pair) (now (table.copies + 1 + pair)) (swapped pair) (own_some pair low) (spare_some pair low)

    pub other_still : IsSome (of_other table swapped told pair) → IsSome (of_other table swapped now pair)
    other_still = one_of (told (table.copies + 1 + pair)) (told pair) (now (table.copies + 1 + pair)) (now pair) (swapped pair) (spare_some pair low) (own_some pair low)

    pub active_back : IsSome (of_active table swapped now pair) → IsSome (of_active table swapped told pair)
    active_back = one_of (now pair) (now (table.copies + 1 + pair)) (told pair) (told (table.copies + 1 + pair)) (swapped pair) (own_back pair low) (spare_back pair low)

    pub other_back : IsSome (of_other table swapped now pair) → IsSome (of_other table swapped told pair)
    other_back = one_of (now (table.copies + 1 + pair)) (now pair) (told (table.copies + 1 + pair)) (told pair) (swapped pair) (spare_back pair low) (own_back pair low)

  -- where each told its bytes, each tells some
  pub all_tell_now : AllTell table.copies told → AllTell table.copies now
  all_tell_now all place low = elim (cases_lt place (table.copies + 1)) [
    | inl own ↦ own_some place (omega (arith, own)) (all place low)
    | inr behind ↦
        let pair : ℕ = place - (table.copies + 1) in
        let there : table.copies + 1 + pair ≡ place = omega (arith, behind) in
        subst (λ n. IsSome (now n)) there (spare_some pair (omega (arith, low, behind)) (subst (λ n. IsSome (told n)) (sym there) (all place low)))
  ]

  -- what was offered, and what they tell now of that
  module _ (offers : ℕ → Option (List ℕ)) (tells : TellAsMuch table offers told) where
    pub since_otherwise : TellSinceFolds table offers (shown_now offers now)
    since_otherwise =
        let (is_spare, found, have, past_is) = since.tells in
        record {
          past = since.past;
          tells = (
            is_spare,
            found,
            have_otherwise kind.Ledger 0 (offers 0) (told 0) (offers (table.copies + 1 + 0)) (told (table.copies + 1 + 0)) is_spare found (own_tells table offers told tells 0 (omega arith)) (spare_tells table offers told tells 0 (omega arith)) have,
            past_is,
          );
          ledger = shown_same (offers 0) (told 0) (now 0) (own_tells table offers told tells 0 (omega arith)) since.ledger;
          ledger_spare = shown_same (offers (table.copies + 1 + 0)) (told (table.copies + 1 + 0)) (now (table.copies + 1 + 0)) (spare_tells table offers told tells 0 (omega arith)) since.ledger_spare;
          copies = λ copy there.
              copy_otherwise copy table since.past _ _ _ _ (offers (copy + 1)) (offers (table.copies + 1 + (copy + 1)))
              (own_tells table offers told tells (copy + 1) (omega (arith, there))) (spare_tells table offers told tells (copy + 1) (omega (arith, there))) (since.copies copy there);
        }

-- what holds of disks holds of what they tell now of what was offered
pub shown_since : (table : Table) (told offers : ℕ → Option (List ℕ)) → TellAsMuch table offers told → (Holds Then : (ℕ → Option (List ℕ)) → Type 0) → ((now : ℕ → Option (List ℕ)) → Holds now → Then (shown_now offers now)) → SinceFolds table told Holds → SinceFolds table offers Then
shown_since table told offers tells Holds Then follows (now, since, holds) = (shown_now offers now, since_otherwise table told now since offers tells, follows now holds)
