-- The mounting of disks that told more than a shop did.
use Rattle.std.proofs.Common.{◌≡◌, ℕ, ◌+◌, ◌<◌, ◌≤◌, true, List, sym, ap, subst, arith}
use mathlib.Core.Bool.{true≢false}
use Rattle.std.specs.Prelude.{Bool, false, if◌then◌else◌, Option, None, Some, IfSome, is_some}
use Rattle.qc_config.specs.declared.tuple.Tuple.{Tuple}
use Rattle.qc_disk.specs.Shop.{Tells}
use Rattle.qc_event.specs.declared.table.Table.{Table}
use Rattle.qc_opening.specs.Disks.{all_places}
use Rattle.qc_opening.specs.Mountings.{MountedOn}
use Rattle.qc_opening.specs.Pairs.{active_number, of_active, of_other, AreNumbers, AreOthers, MountedInPairs}
use Rattle.qc_pair.specs.Opening.{HaveActive}
use Rattle.qc_pair.specs.declared.kind.Kind.{Kind}
use Rattle.qc_pair.specs.declared.kind.Kind.TheVariants as kind

-- disks tell at least what was told otherwise of a table's, at each place
abbrev pub TellAsMuch : Table → (ℕ → Option (List ℕ)) → (ℕ → Option (List ℕ)) → Type 0
TellAsMuch table other told = (place : ℕ) → place < all_places table.copies → Tells (other place) (told place)

-- what holds of what is told holds of what was told otherwise
pub fine_too : (P : List ℕ → Type 0) (other told : Option (List ℕ)) → Tells other told → IfSome told P → IfSome other P
fine_too P None told tells has = tt
fine_too P (Some bytes) told tells has = subst (λ o. IfSome o P) tells has

pub some_too : (other told : Option (List ℕ)) → Tells other told → is_some other ≡ true → is_some told ≡ true
some_too None told tells some = absurd (true≢false (sym some))
some_too (Some bytes) told tells some = ap is_some tells

-- ONE OF EACH PAIR

-- one of two tells
one_tells : (other told other' told' : Option (List ℕ)) (is_spare : Bool) → Tells other told → Tells other' told' → Tells (if is_spare then other' else other) (if is_spare then told' else told)
one_tells other told other' told' true tells tells' = tells'
one_tells other told other' told' false tells tells' = tells

module _ (table : Table) (other told : ℕ → Option (List ℕ)) (tells : TellAsMuch table other told) where
  pub own_tells : (pair : ℕ) → pair ≤ table.copies → Tells (other pair) (told pair)
  own_tells pair low = tells pair (omega (arith, low))

  pub spare_tells : (pair : ℕ) → pair ≤ table.copies → Tells (other (table.copies + 1 + pair)) (told (table.copies + 1 + pair))
  spare_tells pair low = tells (table.copies + 1 + pair) (omega (arith, low))

  module _ (swapped : ℕ → Bool) (pair : ℕ) (low : pair ≤ table.copies) where
    pub active_tells : Tells (of_active table swapped other pair) (of_active table swapped told pair)
    active_tells = one_tells (other pair) (told pair) (other (table.copies + 1 + pair)) (told (table.copies + 1 + pair)) (swapped pair) (own_tells pair low) (spare_tells pair low)

    pub other_tells : Tells (of_other table swapped other pair) (of_other table swapped told pair)
    other_tells = one_tells (other (table.copies + 1 + pair)) (told (table.copies + 1 + pair)) (other pair) (told pair) (swapped pair) (spare_tells pair low) (own_tells pair low)

-- THE MOUNTING

-- of one disk of each pair
pub mounted_on : (disk : ℕ → ℕ) (table : Table) (other told : ℕ → Option (List ℕ)) (records : ℕ → List (List ℕ)) (epoch : ℕ) (base : List (List Tuple)) → ((pair : ℕ) → pair ≤ table.copies → Tells (other pair) (told pair)) → MountedOn disk table told records epoch base
    → MountedOn disk table other records epoch base
mounted_on disk table other told records epoch base tells m = record {
  past = m.past;
  limit = m.limit;
  proper = m.proper;
  small = m.small;
  bytes = m.bytes;
  ledger =
      let l = m.ledger in
      record { found = l.found; ledgers = l.ledgers; fine = fine_too _ (other 0) (told 0) (tells 0 (omega arith)) l.fine; past_is = l.past_is; next = l.next; all = l.all };
  copies = λ copy there.
      let c = m.copies copy there in
      record { found = c.found; format_is = c.format_is; granted = c.granted; fine = fine_too _ (other (copy + 1)) (told (copy + 1)) (tells (copy + 1) (omega (arith, there))) c.fine; all = c.all };
  as_many = m.as_many;
  starts = m.starts;
}

-- of a pair the same is active
pub have_otherwise : (form : Kind) (who : ℕ) (other told other' told' : Option (List ℕ)) (is_spare : Bool) (found : List (List ℕ)) → Tells other told → Tells other' told' → HaveActive form who told told' is_spare found → HaveActive form who other other' is_spare found
have_otherwise form who other told other' told' is_spare found tells tells' have = record {
  own = have.own;
  spare = have.spare;
  has_own = fine_too _ other told tells have.has_own;
  has_spare = fine_too _ other' told' tells' have.has_spare;
  tell = have.tell;
  are_active = have.are_active;
  swapped_is = have.swapped_is;
}

module _ (table : Table) (other told : ℕ → Option (List ℕ)) (records : ℕ → List (List ℕ)) (epoch : ℕ) (base : List (List Tuple)) (tells : TellAsMuch table other told) (m : MountedInPairs table told records epoch base) where
  unfoldable pub mounted_otherwise : MountedInPairs table other records epoch base
  unfolding mounted_on
  mounted_otherwise = record {
    swapped = m.swapped;
    mounted = mounted_on (active_number m.swapped) table (of_active table m.swapped other) (of_active table m.swapped told) records epoch base (active_tells table other told tells m.swapped) m.mounted;
    ledger = have_otherwise kind.Ledger 0 (other 0) (told 0) (other (table.copies + 1 + 0)) (told (table.copies + 1 + 0)) (m.swapped 0) m.mounted.ledger.found
        (own_tells table other told tells 0 (omega arith)) (spare_tells table other told tells 0 (omega arith)) m.ledger;
    copies = λ copy there.
        have_otherwise kind.Copy (copy + 1) (other (copy + 1)) (told (copy + 1)) (other (table.copies + 1 + (copy + 1))) (told (table.copies + 1 + (copy + 1))) (m.swapped (copy + 1)) (m.mounted.copies copy there).found
        (own_tells table other told tells (copy + 1) (omega (arith, there))) (spare_tells table other told tells (copy + 1) (omega (arith, there))) (m.copies copy there);
  }

  -- the other disks have the same bodies
  pub others_otherwise : (others : ℕ → List (List ℕ)) → AreOthers m others → AreOthers mounted_otherwise others
  unfolding mounted_otherwise have_otherwise
  others_otherwise others are = record { ledger = are.ledger; copies = are.copies }

  -- and the same numbers are those of the bases
  pub numbers_otherwise : (numbers : ℕ → ℕ) → AreNumbers m numbers → AreNumbers mounted_otherwise numbers
  unfolding mounted_otherwise mounted_on
  numbers_otherwise numbers are = record { ledger = are.ledger; copies = are.copies }
