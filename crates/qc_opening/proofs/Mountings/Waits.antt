-- Rows of disks that wait.
use Rattle.std.proofs.Common.{◌≡◌, List, [], ◌∷◌, ◌++◌, length, reverse, sym, ap, ◌∙◌, append_assoc}
use Rattle.std.proofs.lemmas.List.{length-reverse, reverse-append, reverse-reverse}
use Rattle.qc_system.specs.Pairs.{in_pairs, own_then_spares}
use Rattle.qc_system.proofs.Pairings.{in_pairs-length, in_pairs-row}

module _ {A : Type 0} where
  both_reversed : (disks spares : List A) → length spares ≡ length disks → length (reverse spares) ≡ length (reverse disks)
  both_reversed disks spares many = length-reverse spares ∙ (many ∙ sym (length-reverse disks))

  -- as many pairs wait as there are disks
  pub wait_length : (disks spares : List A) → length spares ≡ length disks → length (in_pairs (reverse disks) (reverse spares)) ≡ length disks
  wait_length disks spares many = in_pairs-length (reverse disks) (reverse spares) (both_reversed disks spares many) ∙ length-reverse disks

  -- in one row they are the disks in their order, and then the spares in theirs
  pub wait_row : (disks spares : List A) → length spares ≡ length disks → own_then_spares (in_pairs (reverse disks) (reverse spares)) ≡ reverse disks ++ reverse spares
  wait_row disks spares many = in_pairs-row (reverse disks) (reverse spares) (both_reversed disks spares many)

  -- so are disks that are turned round
  pub turned_row : (disks turned spares : List A) → turned ≡ reverse disks → length spares ≡ length disks → own_then_spares (in_pairs (reverse turned) (reverse spares)) ≡ disks ++ reverse spares
  turned_row disks turned spares is many =
      wait_row turned spares (many ∙ sym (ap length is ∙ length-reverse disks)) ∙ ap (λ (l : List A). l ++ reverse spares) (ap reverse is ∙ reverse-reverse disks)

  -- the last of a row that is turned round comes first
  pub last_first : (disks rest : List A) (x : A) → (disks ++ x ∷ []) ++ reverse rest ≡ disks ++ reverse (rest ++ x ∷ [])
  last_first disks rest x = append_assoc disks (x ∷ []) (reverse rest) ∙ ap (λ (l : List A). disks ++ l) (sym (reverse-append rest (x ∷ [])))
