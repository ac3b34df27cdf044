-- A store that is mounted, or refused.
use Rattle.std.proofs.Common.{◌≡◌, ℕ, ◌+◌, ◌≤◌, List, [], ◌∷◌, length, subst, sym, ap, ◌∙◌, refl, arith, inl, inr, suc}
use Rattle.std.specs.Prelude.{◌↔◌, Some, Result, Ok, Err, IfErr, IfOk}
use Rattle.std.specs.Result.{IsErrAnd}
use Rattle.qc_names.specs.Padded.{head_of, tail_of}
use Rattle.qc_codec.specs.Ledger.{past_in}
use Rattle.qc_codec.specs.declared.image.BadImage.{BadImage}
use Rattle.qc_codec.specs.declared.past.Past.{Past}
use Rattle.qc_disk.specs.declared.disk.Disk.{Ghosts}
use Rattle.qc_event.specs.declared.table.Table.{Table}
use Rattle.qc_journal.specs.Image.{HasRecords}
use Rattle.qc_ledger.specs.Image.{AreMountableAsLedger, IsLedgerFault}
use Rattle.qc_ledger.specs.Pairs.{IsLedgerPairNo}
use Rattle.qc_opening.specs.Disks.{all_places, FirstTells, IsPairLeft}
use Rattle.qc_opening.specs.Images.{images_in_pairs, AreSound, AreSoundInPairs, IsCopiesFault, IsFirstInPairs, IsSoundCopy, IsSoundLedger}
use Rattle.qc_opening.specs.Mounted.{ledger_disks, IsCopy, IsLedger, IsStoreOf}
use Rattle.qc_opening.specs.Numbered.{EachFrom}
use Rattle.qc_opening.specs.Refusing.{ArePairsLeft, FailedAt, IsBehind, IsReasonAmong, TellImages, TellInPairs}
use Rattle.qc_opening.specs.Waiting.{GoesBack, IsTaken}
use Rattle.qc_opening.specs.declared.parts.Parts.{Parts}
use Rattle.qc_opening.proofs.Mountings.Disks.{left_too, mounted_for, unreached_pairs}
use Rattle.qc_opening.proofs.Mountings.InTurn.{sound_copies}
use Rattle.qc_opening.proofs.Mountings.Numbered.{pairs_length}
use Rattle.qc_opening.proofs.Mountings.Reasons.{among_more, among_of, no_of_pair, not_behind_first, not_failed, not_first_failed, IsNoOfPair}
use Rattle.qc_opening.proofs.Mountings.Row.{row_length, tell_in_pairs}
use Rattle.qc_opening.proofs.Mountings.Sound.{sound_pair, told_fine}
use Rattle.qc_pair.specs.Fold.{swapped_in}
use Rattle.qc_pair.specs.Pair.{number_at}
use Rattle.qc_pair.specs.declared.fault.PairNo.{PairNo}
use Rattle.qc_pair.specs.declared.fault.PairNo.TheVariants.{Image}
use Rattle.qc_pair.specs.declared.kind.Kind.TheVariants as kind
use Rattle.qc_system.specs.Pairs.{own_then_spares}
use Rattle.qc_system.specs.declared.parts.LedgerPair.{LedgerPair}

-- what is answered with an error that was handed on
pub by_err : {T E : Type 0} (r : Result T E) (e : E) (P : E → Type 0) → IsErrAnd r (λ x. x ≡ e) → P e → IfErr r P
by_err (Ok x) e P is has = tt
by_err (Err x) e P is has = subst P (sym is) has

-- what follows of an answer, and of an error
pub if_ok : {T E : Type 0} (r : Result T E) (P Q : T → Type 0) → IfOk r P → ((x : T) → P x → Q x) → IfOk r Q
if_ok (Ok x) P Q has also = also x has
if_ok (Err e) P Q has also = tt

pub if_err : {T E : Type 0} (r : Result T E) (P Q R : E → Type 0) → IfErr r P → IfErr r Q → ((e : E) → P e → Q e → R e) → IfErr r R
if_err (Ok x) P Q R one two also = tt
if_err (Err e) P Q R one two also = also e one two

-- half as many pairs as disks
pub pairs_many : {D : Type 0} (disks : List D) (pairs : List (D × D)) (copies : ℕ) → own_then_spares pairs ≡ disks → length disks ≡ all_places copies → length pairs ≡ copies + 1
pairs_many disks pairs copies are size = omega (arith, row_length pairs, ap length are, size)

module _ {D : Type 0} {g : Ghosts D} (table : Table) (limit : ℕ) where
  -- THE LEDGER

  -- a ledger was mounted from images without a fault, and what holds behind the past that it told
  sound_ledger : (disks : D × D) (ledger : LedgerPair D g) (past : Past) (epoch : ℕ) (images : List ℕ × List ℕ) (Behind : Past → Type 0) → IsLedger table limit disks ledger past epoch
      → (g.view disks.0).content ≡ Some images.0 → (g.view disks.1).content ≡ Some images.1 → Behind past → IsSoundLedger table limit Behind images
  sound_ledger disks ledger past epoch images Behind is tells spare_tells behind =
      let found = is.mounts.mounts.found in
      let told = (g.view disks.0).content in
      let spare_told = (g.view disks.1).content in
      let fine = told_fine kind.Ledger 0 told spare_told images.0 images.1 tells spare_tells (swapped_in ledger.fold) _ is.mounts.mounts.fine in
      sound_pair kind.Ledger 0 told spare_told images.0 images.1 tells spare_tells (swapped_in ledger.fold) found (λ is_spare bodies. AreMountableAsLedger (number_at is_spare 0) table limit bodies × Behind (past_in bodies))
      is.mounts.opens.have (fine.1, subst Behind is.mounts.mounts.past_is behind)

  module _ (reason : PairNo) (old new : List (D × D)) (few : length old ≤ 17)
      (back : GoesBack (λ before after. IsPairLeft g.view table (FirstTells g.view old) (FailedAt reason) (IsBehind reason) 0 before after × IsLedgerPairNo table limit (g.view before.0).content (g.view before.1).content reason) old new) where
    of_ledger : IsNoOfPair 0 reason
    of_ledger = no_of_pair kind.Ledger 0 (g.view back.before.0).content (g.view back.before.1).content (λ disk bodies fault. IsLedgerFault disk table limit bodies fault) reason back.became.1

    pub left_at_ledger : ((disk : D) (c : List ℕ) → (g.view disk).left_at (g.view disk).moment c ↔ (g.view disk).may_leave c) → ArePairsLeft g.view table (FirstTells g.view old) reason 0 old new
    left_at_ledger here =
        let size : length old ≡ suc (length back.rest) = ap length back.old_is in
        let rest : ArePairsLeft g.view table (FirstTells g.view old) reason 1 back.rest back.rest = unreached_pairs g.view here table (FirstTells g.view old) reason 1 back.rest (λ n from low.
        let small : n ≤ 16 = omega (arith, low, size, few) in
        let apart : n ≡ 0 → ⊥ = (λ same. omega (arith, from, same)) in
        (not_failed 0 n n reason (omega arith) small apart (inl refl) of_ledger, not_failed 0 n (n + 17) reason (omega arith) small apart (inr refl) of_ledger)) in
        let both : ArePairsLeft g.view table (FirstTells g.view old) reason 0 (back.before ∷ back.rest) (back.after ∷ back.rest) = (back.became.0, rest) in
        subst (λ (l : List (D × D)). ArePairsLeft g.view table (FirstTells g.view old) reason 0 l new) (sym back.old_is) (subst (λ (l : List (D × D)). ArePairsLeft g.view table (FirstTells g.view old) reason 0 (back.before ∷ back.rest) l) (sym back.new_is) both)

    pub reason_of_ledger : (most : ℕ) → IsReasonAmong 0 most (λ bad. (images : List (List ℕ × List ℕ)) → TellInPairs g.view old images → IsFirstInPairs table limit bad images) reason
    reason_of_ledger most = among_of 0 most 0 (λ bad. (images : List (List ℕ × List ℕ)) → TellInPairs g.view old images → IsFirstInPairs table limit bad images) reason (omega arith) (omega arith) of_ledger
        (λ bad is images told. first_image images bad (subst (λ r. IsLedgerPairNo table limit (g.view back.before.0).content (g.view back.before.1).content r) is back.became.1)
        (subst (λ (l : List (D × D)). TellInPairs g.view l images) back.old_is told))
      where
        first_image : (images : List (List ℕ × List ℕ)) (bad : BadImage) → IsLedgerPairNo table limit (g.view back.before.0).content (g.view back.before.1).content (Image bad) → TellInPairs g.view (back.before ∷ back.rest) images → IsFirstInPairs table limit bad images
        first_image [] bad fault told = absurd cc
        first_image (both ∷ images) bad fault told =
            let here = head_of _ _ _ _ told in
            inl (subst (λ o. IsLedgerPairNo table limit (Some both.0) o (Image bad)) (ap (λ o. o.1) here)
            (subst (λ o. IsLedgerPairNo table limit o (g.view back.before.1).content (Image bad)) (ap (λ o. o.0) here) fault))

  -- THE COPIES BEHIND IT

  module _ (ledger : LedgerPair D g) (past : Past) (epoch : ℕ) (old mid : List (D × D)) (taken : IsTaken (λ disks. IsLedger table limit disks ledger past epoch) old mid) where
    module _ (most : ℕ) (few : most ≤ 16) (reason : PairNo) (among : IsReasonAmong 1 most (λ bad. (images : List (List ℕ × List ℕ)) → TellInPairs g.view mid images → IsCopiesFault table limit past bad 0 images) reason) where
      -- the past behind which the copies were mounted is told by the first pair
      told_first : (p : Past) → p ≡ past → FirstTells g.view old p
      told_first p is =
          let m = taken.has.mounts in
          subst (λ (l : List (D × D)). FirstTells g.view l p) (sym taken.old_is) (swapped_in ledger.fold, m.mounts.found, m.opens.have, is ∙ m.mounts.past_is)

      pub left_behind : (after new : List (D × D)) → ArePairsLeft g.view table (λ p. p ≡ past) reason 1 mid after → new ≡ ledger_disks ledger ∷ after → ArePairsLeft g.view table (FirstTells g.view old) reason 0 old new
      left_behind after new left is =
          let Told : Past → Type 0 = FirstTells g.view old in
          let disks : D × D = ledger_disks ledger in
          let it : IsPairLeft g.view table Told (FailedAt reason) (IsBehind reason) 0 taken.first disks = record {
            own = mounted_for g.view table (λ p. p ≡ past) Told 0 (g.view taken.first.0).content (g.view taken.first.1).content _ ⊥ (FailedAt reason 0) taken.first.0 disks.0 (not_first_failed most 0 _ reason few among (inl refl)) (λ never. absurd never) told_first taken.has.left.own;
            spare = mounted_for g.view table (λ p. p ≡ past) Told 0 (g.view taken.first.0).content (g.view taken.first.1).content _ ⊥ (FailedAt reason 17) taken.first.1 disks.1 (not_first_failed most 17 _ reason few among (inr refl)) (λ never. absurd never) told_first taken.has.left.spare;
            behind = λ b. absurd (not_behind_first reason b);
          } in
          let both : ArePairsLeft g.view table Told reason 0 (taken.first ∷ mid) (disks ∷ after) = (it, left_too g.view table (λ p. p ≡ past) Told reason 1 mid after told_first left) in
          subst (λ (l : List (D × D)). ArePairsLeft g.view table Told reason 0 l new) (sym taken.old_is) (subst (λ (l : List (D × D)). ArePairsLeft g.view table Told reason 0 (taken.first ∷ mid) l) (sym is) both)

      pub reason_behind : IsReasonAmong 0 most (λ bad. (images : List (List ℕ × List ℕ)) → TellInPairs g.view old images → IsFirstInPairs table limit bad images) reason
      reason_behind = among_more most _ (λ bad. (images : List (List ℕ × List ℕ)) → TellInPairs g.view old images → IsFirstInPairs table limit bad images) reason
          (λ bad fault images told. later_image images bad fault (subst (λ (l : List (D × D)). TellInPairs g.view l images) taken.old_is told)) among
        where
          later_image : (images : List (List ℕ × List ℕ)) (bad : BadImage) → ((behind : List (List ℕ × List ℕ)) → TellInPairs g.view mid behind → IsCopiesFault table limit past bad 0 behind) → TellInPairs g.view (taken.first ∷ mid) images → IsFirstInPairs table limit bad images
          later_image [] bad fault told = absurd cc
          later_image (both ∷ images) bad fault told =
              let here = head_of _ _ _ _ told in
              inr (sound_ledger taken.first ledger past epoch both (λ p. IsCopiesFault table limit p bad 0 images) taken.has (ap (λ o. o.0) here) (ap (λ o. o.1) here) (fault images (tail_of _ _ _ _ told)))

  -- THE STORE

  -- no image of a store that was mounted has a fault
  sound_in_pairs : (pairs : List (D × D)) (parts : Parts D g) (images : List (List ℕ × List ℕ)) → IsStoreOf table limit pairs parts → TellInPairs g.view pairs images → AreSoundInPairs table limit images
  sound_in_pairs pairs parts images store told = by images (subst (λ (l : List (D × D)). TellInPairs g.view l images) store.pairs_are told)
    where
      by : (images : List (List ℕ × List ℕ)) → TellInPairs g.view (store.ledger_pair ∷ store.copy_pairs) images → AreSoundInPairs table limit images
      by [] told = absurd cc
      by (both ∷ images) told =
          let here = head_of _ _ _ _ told in
          sound_ledger store.ledger_pair parts.ledger parts.past parts.epoch both (λ p. EachFrom (IsSoundCopy table limit p) 0 images) store.ledger_is (ap (λ o. o.0) here) (ap (λ o. o.1) here)
          (sound_copies table parts.past parts.epoch limit 0 store.copy_pairs parts.copies.items images store.copies_are (tail_of _ _ _ _ told))

  pub sound_store : (disks : List D) (pairs : List (D × D)) (parts : Parts D g) (images : List (List ℕ)) → own_then_spares pairs ≡ disks → length disks ≡ all_places table.copies → IsStoreOf table limit pairs parts → TellImages g.view disks images
      → AreSound table limit images
  sound_store disks pairs parts images are size store told =
      sound_in_pairs pairs parts (images_in_pairs table images) store (tell_in_pairs g.view table images pairs (pairs_many disks pairs table.copies are size) (subst (λ (l : List D). TellImages g.view l images) (sym are) told))

  -- as many copies as pairs behind the first
  pub store_size : (pairs : List (D × D)) (parts : Parts D g) (copies : ℕ) → IsStoreOf table limit pairs parts → length pairs ≡ copies + 1 → length parts.copies.items ≡ copies
  store_size pairs parts copies store size =
      let many : length parts.copies.items ≡ length store.copy_pairs = pairs_length (IsCopy table parts.past parts.epoch limit) 0 store.copy_pairs parts.copies.items store.copies_are in
      let all : length pairs ≡ suc (length store.copy_pairs) = ap length store.pairs_are in
      omega (arith, many, all, size)
