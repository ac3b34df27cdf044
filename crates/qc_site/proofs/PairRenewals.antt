-- What the mounting of a pair gives, by what was found of it.
use Rattle.std.proofs.Common.{◌≡◌, ◌≢◌, arith, ℕ, ◌+◌, inl, inr, List, [], ◌∷◌, ◌++◌, refl, sym, ap, ◌∙◌, subst, append-nil}
use Rattle.std.specs.Prelude.{Bool, Option, Some, unwrap_or}
use Rattle.std.specs.Option.{option_map}
use Rattle.std.proofs.lemmas.List.Elements.{All-head}
use Rattle.std.proofs.lemmas.Option.{IfSome_then}
use Rattle.qc_codec.specs.Base.{format_in}
use Rattle.qc_codec.specs.Bodies as body
use Rattle.qc_codec.specs.Fields.{current_format}
use Rattle.qc_codec.specs.Form.{all_of}
use Rattle.qc_codec.specs.Ledger.{made_in}
use Rattle.qc_codec.specs.declared.past.Past.{Past}
use Rattle.qc_codec.specs.declared.record.Made.{Made}
use Rattle.qc_codec.specs.declared.image.ImageFault.{ImageFault}
use Rattle.qc_codec.specs.declared.image.ImageFault.TheVariants.{Broken, Grammar, Full, Table as OtherTable, Epoch}
use Rattle.qc_codec.proofs.Bases.{format_behind}
use Rattle.qc_codec.proofs.Bodies.{exact_made}
use Rattle.qc_codec.proofs.Exact.{all_takes}
use Rattle.qc_disk.specs.Disk.{DiskView}
use Rattle.qc_disk.specs.declared.disk.Disk.{Ghosts}
use Rattle.qc_event.specs.declared.table.Table.{Table}
use Rattle.qc_journal.proofs.Moments.{weakened}
use Rattle.qc_ledger.specs.Pairs.{MountsHalf}
use Rattle.qc_pair.specs.Fold.{swapped_in}
use Rattle.qc_pair.specs.Folding.{HasNoRoom, IsFullFold}
use Rattle.qc_pair.specs.Opening.{active_told}
use Rattle.qc_pair.specs.declared.fold.Fold.{Fold}
use Rattle.qc_pair.specs.declared.kind.Kind.TheVariants as kind
use Rattle.qc_site.specs.Image.{to_write, AreBytes, AreMadeFor, AreMadeIn}
use Rattle.qc_site.specs.Mounted.{MountsCopy}
use Rattle.qc_site.specs.Pairs.{FindsCopyPair, MountsCopyPair}
use Rattle.qc_site.specs.Renewal.{AreOlder, IsRenewalFault, MountsCopyHalf}
use Rattle.qc_site.specs.declared.mounted.Mounted.{Mounted}
use Rattle.qc_site.proofs.OfBytes.{Bytes, are_bytes}

-- IN THE CURRENT FORMAT

-- bodies in the current format are of no older one
pub not_older : (found : List (List ℕ)) → format_in found ≡ current_format → AreOlder found → ⊥
not_older [] now older = older
not_older (first ∷ rest) now (made, spells, other) = other (sym (ap (λ (b : List ℕ). format_in (b ∷ rest)) spells.0 ∙ format_behind made rest spells.1) ∙ now)

module _ (copy : ℕ) (table : Table) (told spare_told : Option (List ℕ)) where
  -- what was found so is mounted
  pub found_now : {D : Type 0} {g : Ghosts D} (past : Past) (limit format : ℕ) (mounted : Mounted D g) (fold : Fold D g) → FindsCopyPair copy table past limit format told spare_told mounted fold → format ≡ current_format
      → MountsCopyPair copy table past limit told spare_told mounted fold
  found_now past limit format mounted fold finds is = record {
    now = told;
    spare_now = spare_told;
    tells = inl (refl, refl);
    was = record {
      is_spare = swapped_in fold;
      found = finds.mounts.found;
      have = finds.opens.have;
      fine = IfSome_then (active_told kind.Copy (copy + 1) told spare_told (swapped_in fold)) finds.mounts.fine
          (λ bytes fine. record { mountable = fine.1; room = λ place full. not_older finds.mounts.found (finds.mounts.format_is ∙ is) full.0 });
    };
    finds = subst (λ (n : ℕ). FindsCopyPair copy table past limit n told spare_told mounted fold) is finds;
  }

  -- and its disks are left as they were found
  pub half_found : (Tells : Past → Type 0) (is_spare : Bool) {D : Type 0} (view : D → DiskView) (Failed : Type 0) (old new : D) → MountsHalf kind.Copy (copy + 1) told spare_told (λ number. to_write number table) is_spare view Failed old new
      → MountsCopyHalf copy table told spare_told Tells is_spare view Failed old new
  half_found Tells is_spare view Failed old new half = record {
    any_moment = λ some. weakened view old new _ _ (half.any_moment some) (λ image left. inl left);
    grows = λ some. inl (half.grows some);
    cause = half.cause;
    counts_once = half.counts_once;
  }

-- IN ANOTHER

-- what is found in another one tells so
told_older : (disk : ℕ) (table : Table) (format : ℕ) (found : List (List ℕ)) → AreBytes found → AreMadeFor disk table found → format_in found ≡ format → format ≢ current_format → AreOlder found
told_older disk table format [] bytes made is other = absurd (other (sym is))
told_older disk table format (first ∷ rest) bytes made is other =
    let spells = all_takes body.made exact_made first (made_in made.0 disk table) (are_bytes first (All-head Bytes first rest bytes)) made.1 in
    (made_in made.0 disk table, spells, λ now. other (sym is ∙ ap (λ (o : Option Made). unwrap_or (option_map (λ (m : Made). m.format) o) current_format) made.1 ∙ now))

pub found_older : (disk : ℕ) (table : Table) (past : Past) (limit format : ℕ) (told : Option (List ℕ)) (records : List (List ℕ)) (m : MountsCopy disk table past limit format told records) → AreBytes records → format ≢ current_format → AreOlder m.found
found_older disk table past limit format told records m bytes other = by m.found m.format_is m.granted.made (subst AreBytes m.all bytes)
  where
    by : (found : List (List ℕ)) → format_in found ≡ format → AreMadeFor disk table found → AreBytes (found ++ to_write disk table found) → AreOlder found
    by [] is made all = absurd (other (sym is))
    by (first ∷ rest) is made all = told_older disk table format (first ∷ rest) (subst AreBytes (append-nil (first ∷ rest)) all) made is other

-- bodies of a format tell that they were made in it
pub made_so : (disk : ℕ) (table : Table) (format : ℕ) (found : List (List ℕ)) → AreMadeFor disk table found → format_in found ≡ format → AreMadeIn disk table format found
made_so disk table format [] made is = tt
made_so disk table format (first ∷ rest) made is =
    subst (λ (n : ℕ). all_of body.made first ≡ Some (made_in n disk table)) (sym (ap (λ (o : Option Made). unwrap_or (option_map (λ (m : Made). m.format) o) current_format) made.1) ∙ is) made.1

-- nothing is written behind such
pub older_records : (disk : ℕ) (table : Table) (found : List (List ℕ)) → AreOlder found → found ++ to_write disk table found ≡ found
older_records disk table [] older = absurd older
older_records disk table (first ∷ rest) older = append-nil (first ∷ rest)

-- WHERE THERE IS NO ROOM

not_full : (limit : ℕ) (made base : List ℕ) (p q : ℕ) → IsFullFold limit made base p → IsFullFold limit made base q → q ≡ p
not_full limit made base p q (inl one) (inl two) = two.0 ∙ sym one.0
not_full limit made base p q (inl one) (inr two) = absurd (two.0 one.1)
not_full limit made base p q (inr one) (inl two) = absurd (one.0 two.1)
not_full limit made base p q (inr one) (inr two) = two.1.0 ∙ sym one.1.0

-- a fold has none at one place
one_place : (number limit : ℕ) (made base : List ℕ) (p q : ℕ) → HasNoRoom number limit made base p → HasNoRoom number limit made base q → q ≡ p
one_place number limit made base p q (inl one) (inl two) = two.0 ∙ sym one.0
one_place number limit made base p q (inl one) (inr two) = absurd (omega (arith, one.1, two.0))
one_place number limit made base p q (inr one) (inl two) = absurd (omega (arith, one.0, two.1))
one_place number limit made base p q (inr one) (inr two) = not_full limit made base p q one.1 two.1

-- so the disk into which bodies are folded has one fault
pub one_renewal : (table : Table) (past : Past) (limit disk : ℕ) (found : List (List ℕ)) (f other : ImageFault) → IsRenewalFault table past limit disk found f → IsRenewalFault table past limit disk found other → other ≡ f
one_renewal table past limit disk found (Full p) (Full q) one two = ap Full (one_place _ limit _ _ p q one.1 two.1)
one_renewal table past limit disk found (Full p) (Broken q) one two = absurd two
one_renewal table past limit disk found (Full p) (Grammar i) one two = absurd two
one_renewal table past limit disk found (Full p) (OtherTable kept asked) one two = absurd two
one_renewal table past limit disk found (Full p) (Epoch e) one two = absurd two
one_renewal table past limit disk found (Broken p) other one two = absurd one
one_renewal table past limit disk found (Grammar i) other one two = absurd one
one_renewal table past limit disk found (OtherTable kept asked) other one two = absurd one
one_renewal table past limit disk found (Epoch e) other one two = absurd one
