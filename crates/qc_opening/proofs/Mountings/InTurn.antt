-- Copies that are mounted one after another.
use Rattle.std.proofs.Common.{◌≡◌, ℕ, ◌+◌, ◌<◌, ◌≤◌, List, [], ◌∷◌, ◌++◌, length, map, subst, sym, ap, refl, arith, inl, inr, ◌∙◌}
use Rattle.std.specs.Prelude.{◌↔◌, Some}
use Rattle.std.proofs.lemmas.List.{append-nil, append_assoc, length-append, map-append}
use Rattle.qc_names.specs.Padded.{head_of, tail_of}
use Rattle.qc_codec.specs.declared.image.BadImage.{BadImage}
use Rattle.qc_codec.specs.declared.past.Past.{Past}
use Rattle.qc_disk.specs.declared.disk.Disk.{Ghosts}
use Rattle.qc_event.specs.declared.table.Table.{Table}
use Rattle.qc_site.specs.Renewal.{AreMountableInPair}
use Rattle.qc_site.specs.Pairs.{IsCopyPairNo}
use Rattle.qc_opening.specs.Disks.{IsPairLeft}
use Rattle.qc_opening.specs.Images.{IsCopiesFault, IsSoundCopy}
use Rattle.qc_opening.specs.Mounted.{copy_disks, AreCopies, AreTaken, IsCopy}
use Rattle.qc_opening.specs.Numbered.{EachFrom, PairsFrom}
use Rattle.qc_opening.specs.Refusing.{ArePairsLeft, FailedAt, IsBehind, IsReasonAmong, TellInPairs}
use Rattle.qc_opening.specs.Waiting.{GoesBack, IsTaken}
use Rattle.qc_opening.proofs.Mountings.Disks.{mounted_for, unreached_pairs}
use Rattle.qc_opening.proofs.Mountings.Numbered.{pairs_append, pairs_length, pairs_mapped, pairs_more, pairs_shifted}
use Rattle.qc_opening.proofs.Mountings.Reasons.{among_of, no_of_copy, not_behind, not_failed, IsNoOfPair}
use Rattle.qc_opening.proofs.Mountings.Sound.{sound_pair, told_fine}
use Rattle.qc_pair.specs.declared.fault.PairNo.{PairNo}
use Rattle.qc_pair.specs.declared.fault.PairNo.TheVariants.{Image}
use Rattle.qc_pair.specs.declared.kind.Kind.TheVariants as kind
use Rattle.qc_system.specs.declared.parts.CopyPair.{CopyPair}

module _ {D : Type 0} {g : Ghosts D} (table : Table) (past : Past) (epoch limit : ℕ) where
  -- IMAGES

  -- a copy was mounted from images without a fault
  sound_copy : (number : ℕ) (disks : D × D) (pair : CopyPair D g) (images : List ℕ × List ℕ) → IsCopy table past epoch limit number disks pair → (g.view disks.0).content ≡ Some images.0 → (g.view disks.1).content ≡ Some images.1
      → IsSoundCopy table limit past number images
  sound_copy number disks pair images is tells spare_tells =
      let was = is.mounts.was in
      sound_pair kind.Copy (number + 1) (g.view disks.0).content (g.view disks.1).content images.0 images.1 tells spare_tells was.is_spare was.found (AreMountableInPair table past limit number) was.have
      (told_fine kind.Copy (number + 1) (g.view disks.0).content (g.view disks.1).content images.0 images.1 tells spare_tells was.is_spare (λ bytes. AreMountableInPair table past limit number was.is_spare was.found) was.fine)

  pub sound_copies : (number : ℕ) (pairs : List (D × D)) (mounted : List (CopyPair D g)) (images : List (List ℕ × List ℕ)) → PairsFrom (IsCopy table past epoch limit) number pairs mounted → TellInPairs g.view pairs images
      → EachFrom (IsSoundCopy table limit past) number images
  sound_copies number [] [] [] copies tell = tt
  sound_copies number [] [] (both ∷ images) copies tell = absurd cc
  sound_copies number [] (m ∷ mounted) images copies tell = absurd copies
  sound_copies number (disks ∷ pairs) [] images copies tell = absurd copies
  sound_copies number (disks ∷ pairs) (m ∷ mounted) [] copies tell = absurd cc
  sound_copies number (disks ∷ pairs) (m ∷ mounted) (both ∷ images) copies tell =
      let here = head_of _ _ _ _ tell in
      (sound_copy number disks m both copies.0 (ap (λ o. o.0) here) (ap (λ o. o.1) here), sound_copies (number + 1) pairs mounted images copies.1 (tail_of _ _ _ _ tell))

  -- behind copies without a fault
  pub fault_behind : (number copy : ℕ) (taken : List (D × D)) (mounted : List (CopyPair D g)) (disks : D × D) (rest : List (D × D)) (images : List (List ℕ × List ℕ)) (bad : BadImage)
      → PairsFrom (IsCopy table past epoch limit) number taken mounted → number + length taken ≡ copy → TellInPairs g.view (taken ++ disks ∷ rest) images
      → IsCopyPairNo copy table past limit (g.view disks.0).content (g.view disks.1).content (Image bad) → IsCopiesFault table limit past bad number images
  fault_behind number copy [] [] disks rest [] bad copies is tell fault = absurd cc
  fault_behind number copy [] [] disks rest (both ∷ images) bad copies is tell fault =
      let same : copy ≡ number = omega (arith, is) in
      let here = head_of _ _ _ _ tell in
      inl (subst (λ n. IsCopyPairNo n table past limit (Some both.0) (Some both.1) (Image bad)) same
      (subst (λ o. IsCopyPairNo copy table past limit (Some both.0) o (Image bad)) (ap (λ o. o.1) here)
      (subst (λ o. IsCopyPairNo copy table past limit o (g.view disks.1).content (Image bad)) (ap (λ o. o.0) here) fault)))
  fault_behind number copy [] (m ∷ mounted) disks rest images bad copies is tell fault = absurd copies
  fault_behind number copy (t ∷ taken) [] disks rest images bad copies is tell fault = absurd copies
  fault_behind number copy (t ∷ taken) (m ∷ mounted) disks rest [] bad copies is tell fault = absurd cc
  fault_behind number copy (t ∷ taken) (m ∷ mounted) disks rest (both ∷ images) bad copies is tell fault =
      let here = head_of _ _ _ _ tell in
      inr (sound_copy number t m both copies.0 (ap (λ o. o.0) here) (ap (λ o. o.1) here), fault_behind (number + 1) copy taken mounted disks rest images bad copies.1 (omega (arith, is)) (tail_of _ _ _ _ tell) fault)

  -- ONE AFTER ANOTHER

  module _ (all waiting : List (D × D)) (mounted : List (CopyPair D g)) (so_far : AreTaken table past epoch limit all waiting mounted) where
    pub taken_length : length so_far.taken ≡ length mounted
    taken_length = sym (pairs_length (IsCopy table past epoch limit) 0 so_far.taken mounted so_far.copies_are)

    -- how many there are
    pub taken_size : length all ≡ length mounted + length waiting
    taken_size = ap length so_far.all_are ∙ (length-append so_far.taken waiting ∙ ap (λ n. n + length waiting) taken_length)

    -- one more
    pub taken_more : (after : List (D × D)) (m : CopyPair D g) (copy : ℕ) → length mounted ≡ copy → IsTaken (λ disks. IsCopy table past epoch limit copy disks m) waiting after → AreTaken table past epoch limit all after (mounted ++ m ∷ [])
    taken_more after m copy count next = record {
      taken = so_far.taken ++ next.first ∷ [];
      all_are = so_far.all_are ∙ (ap (λ (l : List (D × D)). so_far.taken ++ l) next.old_is ∙ sym (append_assoc so_far.taken (next.first ∷ []) after));
      copies_are = pairs_more (IsCopy table past epoch limit) 0 copy so_far.taken mounted next.first m so_far.copies_are (let size : length so_far.taken ≡ copy = taken_length ∙ count in omega (arith, size)) next.has;
    }

    -- none waits any more
    pub all_taken : waiting ≡ [] → AreCopies table past epoch limit all mounted
    all_taken none = subst (λ (l : List (D × D)). AreCopies table past epoch limit l mounted) (sym (so_far.all_are ∙ (ap (λ (l : List (D × D)). so_far.taken ++ l) none ∙ append-nil so_far.taken))) so_far.copies_are

    -- REFUSED

    module _ (copy : ℕ) (count : length mounted ≡ copy) (few : length all ≤ 16) (reason : PairNo) (after : List (D × D))
        (back : GoesBack (λ old new. IsPairLeft g.view table (λ p. p ≡ past) (FailedAt reason) (IsBehind reason) (copy + 1) old new × IsCopyPairNo copy table past limit (g.view old.0).content (g.view old.1).content reason) waiting after) where
      of_copy : IsNoOfPair (copy + 1) reason
      of_copy = no_of_copy copy table past limit (g.view back.before.0).content (g.view back.before.1).content reason back.became.1

      all_size : length all ≡ copy + 1 + length back.rest
      all_size = let waits : length waiting ≡ length back.rest + 1 = ap length back.old_is ∙ omega arith in omega (arith, taken_size, count, waits)

      none_failed : (other : ℕ) → other ≤ 16 → (other ≡ copy + 1 → ⊥) → (FailedAt reason other → ⊥) × (FailedAt reason (other + 17) → ⊥)
      none_failed other small apart =
          let most : copy + 1 ≤ 16 = omega (arith, few, all_size) in
          (not_failed (copy + 1) other other reason most small apart (inl refl) of_copy, not_failed (copy + 1) other (other + 17) reason most small apart (inr refl) of_copy)

      left_copy : (number : ℕ) (disks : D × D) (m : CopyPair D g) → number < copy → IsCopy table past epoch limit number disks m → IsPairLeft g.view table (λ p. p ≡ past) (FailedAt reason) (IsBehind reason) (number + 1) disks (copy_disks m)
      left_copy number disks m low is =
          let most : copy + 1 ≤ 16 = omega (arith, few, all_size) in
          let none = none_failed (number + 1) (omega (arith, low, most)) (λ same. omega (arith, low, same)) in
          record {
            own = mounted_for g.view table (λ p. p ≡ past) (λ p. p ≡ past) (number + 1) (g.view disks.0).content (g.view disks.1).content _ ⊥ (FailedAt reason (number + 1)) disks.0 (copy_disks m).0 none.0 (λ never. absurd never) (λ p is. is) is.left.own;
            spare = mounted_for g.view table (λ p. p ≡ past) (λ p. p ≡ past) (number + 1) (g.view disks.0).content (g.view disks.1).content _ ⊥ (FailedAt reason (number + 1 + 17)) disks.1 (copy_disks m).1 none.1 (λ never. absurd never) (λ p is. is) is.left.spare;
            behind = λ b. absurd (not_behind (copy + 1) (number + 1) reason most (omega (arith, low)) of_copy b);
          }

      -- those before it, it, and those behind it
      pub left_all : ((disk : D) (c : List ℕ) → (g.view disk).left_at (g.view disk).moment c ↔ (g.view disk).may_leave c) → ArePairsLeft g.view table (λ p. p ≡ past) reason 1 all (map copy_disks mounted ++ after)
      left_all here =
          let Left : ℕ → D × D → D × D → Type 0 = IsPairLeft g.view table (λ p. p ≡ past) (FailedAt reason) (IsBehind reason) in
          let before : PairsFrom Left 1 so_far.taken (map copy_disks mounted) = pairs_shifted Left 0 so_far.taken (map copy_disks mounted)
          (pairs_mapped (IsCopy table past epoch limit) (λ n. Left (n + 1)) copy_disks 0 so_far.taken mounted so_far.copies_are (λ n disks m low is. left_copy n disks m (omega (arith, low, taken_length, count)) is)) in
          let rest : PairsFrom Left (copy + 1 + 1) back.rest back.rest = unreached_pairs g.view here table (λ p. p ≡ past) reason (copy + 1 + 1) back.rest
          (λ n from low. none_failed n (omega (arith, low, few, all_size)) (λ same. omega (arith, from, same))) in
          let both : PairsFrom Left 1 (so_far.taken ++ back.before ∷ back.rest) (map copy_disks mounted ++ back.after ∷ back.rest) =
          pairs_append Left 1 (copy + 1) so_far.taken (map copy_disks mounted) (back.before ∷ back.rest) (back.after ∷ back.rest) before (omega (arith, taken_length, count)) (back.became.0, rest) in
          let olds : all ≡ so_far.taken ++ back.before ∷ back.rest = so_far.all_are ∙ ap (λ (l : List (D × D)). so_far.taken ++ l) back.old_is in
          let news : map copy_disks mounted ++ after ≡ map copy_disks mounted ++ back.after ∷ back.rest = ap (λ (l : List (D × D)). map copy_disks mounted ++ l) back.new_is in
          subst (λ (l : List (D × D)). PairsFrom Left 1 l (map copy_disks mounted ++ after)) (sym olds) (subst (λ (l : List (D × D)). PairsFrom Left 1 (so_far.taken ++ back.before ∷ back.rest) l) (sym news) both)

      -- the reason is the first fault of the images that are told, where it is one of an image
      pub reason_among : (most : ℕ) → copy < most → IsReasonAmong 1 most (λ bad. (images : List (List ℕ × List ℕ)) → TellInPairs g.view all images → IsCopiesFault table limit past bad 0 images) reason
      reason_among most low =
          among_of 1 most (copy + 1) (λ bad. (images : List (List ℕ × List ℕ)) → TellInPairs g.view all images → IsCopiesFault table limit past bad 0 images) reason (omega arith) (omega (arith, low)) of_copy
          (λ bad is images told. fault_behind 0 copy so_far.taken mounted back.before back.rest images bad so_far.copies_are (omega (arith, taken_length, count))
          (subst (λ (l : List (D × D)). TellInPairs g.view l images) (so_far.all_are ∙ ap (λ (l : List (D × D)). so_far.taken ++ l) back.old_is) told)
          (subst (λ r. IsCopyPairNo copy table past limit (g.view back.before.0).content (g.view back.before.1).content r) is back.became.1))

-- PUT BACK

module _ {D : Type 0} {g : Ghosts D} where
  -- the last of the copies is put back before those that wait
  pub one_back : (copies rest : List (CopyPair D g)) (m : CopyPair D g) (waiting after : List (D × D)) → copies ≡ rest ++ m ∷ [] → after ≡ copy_disks m ∷ waiting → map copy_disks rest ++ after ≡ map copy_disks copies ++ waiting
  one_back copies rest m waiting after is back =
      ap (λ (l : List (D × D)). map copy_disks rest ++ l) back
      ∙ (sym (append_assoc (map copy_disks rest) (copy_disks m ∷ []) waiting)
      ∙ (ap (λ (l : List (D × D)). l ++ waiting) (sym (map-append copy_disks rest (m ∷ []))) ∙ ap (λ (l : List (CopyPair D g)). map copy_disks l ++ waiting) (sym is)))
