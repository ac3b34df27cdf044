-- What a shop offered, the disks that it gave told; and what follows of it.
use Rattle.std.proofs.Common.{◌≡◌, ℕ, zero, suc, ◌+◌, ◌<◌, ◌≤◌, true, List, [], ◌∷◌, length, map, get_or, refl, ap, ◌∙◌, subst, arith}
use Rattle.std.specs.Prelude.{◌↔◌, Bool, false, if◌then◌else◌, IsOk, Result, Ok, Err, IfOk, IfErr, Option, Some, is_some, slice_get}
use Rattle.std.specs.Result.{IsErrAnd}
use Rattle.std.proofs.Math.Logic.{∥∥₁_elim, ∥∥₁_prop}
use Rattle.std.proofs.lemmas.List.{length-reverse}
use Rattle.std.proofs.lemmas.Option.{slice_get_within}
use Rattle.qc_disk.specs.Disk.{DiskView, Rose}
use Rattle.qc_disk.specs.Shop.{Tells}
use Rattle.qc_event.specs.declared.table.Table.{Table}
use Rattle.qc_event.specs.History.{limit}
use Rattle.qc_event.specs.Standing.{HasEnded}
use Rattle.qc_event.specs.Tables.{base_of, setting_of}
use Rattle.qc_opening.specs.Disks.{all_places, by_place, told_by, AreCounted, AreOffered}
use Rattle.qc_opening.specs.Images.{Offers}
use Rattle.qc_opening.specs.Numbered.{EachFrom}
use Rattle.qc_opening.specs.Pairs.{made_other, of_active, of_other, HaveNoGrantsInPairs, MountedInPairs}
use Rattle.qc_opening.specs.Parts.{counted_by}
use Rattle.qc_opening.specs.Refusing.{disks_in, reason_in, AreLeft}
use Rattle.qc_opening.specs.SinceFolds.{SinceFolds, TellSinceFolds}
use Rattle.qc_opening.specs.Stored.{disks_of, past_of, returned, AllTell, AreImages, HasKept, HasRun, HavePaid, WasMounted, WereFolded}
use Rattle.qc_opening.specs.declared.mount_no.MountNo.{MountNo}
use Rattle.qc_opening.specs.declared.stored.Stored.{Stored}
use Rattle.qc_opening.proofs.Epochs.{of_epoch}
use Rattle.qc_opening.proofs.KeptDisks.KeptPairs.ImagesKept.{images_left}
use Rattle.qc_opening.proofs.KeptDisks.KeptPairs.NextMounting.{first_start}
use Rattle.qc_opening.proofs.KeptDisks.KeptPairs.PairsStand.{stand}
use Rattle.qc_opening.proofs.KeptDisks.KeptPairs.RenewedImages.{none_since, renewed_restore}
use Rattle.qc_opening.proofs.KeptOtherwise.{keep_otherwise}
use Rattle.qc_opening.proofs.KeptPlaces.{disks_many}
use Rattle.qc_opening.proofs.Otherwise.{active_tells, mounted_otherwise, numbers_otherwise, other_tells, others_otherwise, some_too, TellAsMuch}
use Rattle.qc_opening.proofs.Mountings.Refused.{left_length}
use Rattle.qc_opening.proofs.ShownNow.{all_tell_now, shown_as_much, shown_now, since_otherwise}
use Rattle.qc_refine.specs.Pairs.{RestoreInPairs, StandInPairsWithin}
use Rattle.qc_script.specs.Plan.{ScriptPlan}
use Rattle.qc_desk.specs.Entries.{entries_of}
use Rattle.qc_system.specs.Kept.{Pays, downs}

-- WHAT A SHOP OFFERED

-- from a place on
offered_from : {D : Type 0} (view : D → DiskView) (offers : ℕ → Option (List ℕ)) (place : ℕ) (disks : List D) → AreOffered view offers place disks → (i : ℕ) → i < length disks → Tells (offers (place + i)) (told_by (map (λ d. (view d).content) disks) i)
offered_from view offers place [] offered i low = absurd (omega (arith, low))
offered_from view offers place (d ∷ disks) offered zero low = subst (λ n. Tells (offers n) (view d).content) (omega arith) offered.0
offered_from view offers place (d ∷ disks) offered (suc i) low =
    subst (λ n. Tells (offers n) (told_by (map (λ x. (view x).content) disks) i)) (omega arith) (offered_from view offers (place + 1) disks offered.1 i (omega (arith, low)))

pub tell_offered : {D : Type 0} (view : D → DiskView) (table : Table) (offers : ℕ → Option (List ℕ)) (disks : List D) → AreOffered view offers 0 disks → length disks ≡ all_places table.copies → TellAsMuch table offers (told_by (map (λ d. (view d).content) disks))
tell_offered view table offers disks offered all place low = subst (λ n. Tells (offers n) (told_by (map (λ d. (view d).content) disks) place)) (omega arith) (offered_from view offers 0 disks offered place (omega (arith, low, all)))

-- as often as it told, from a place on
counted_from : {D : Type 0} (view : D → DiskView) (counts : ℕ → ℕ) (place : ℕ) (disks : List D) → AreCounted view counts place disks → (i : ℕ) → i < length disks → counted_by (map (λ d. (view d).faults) disks) i ≡ counts (place + i)
counted_from view counts place [] counted i low = absurd (omega (arith, low))
counted_from view counts place (d ∷ disks) counted zero low = subst (λ n. (view d).faults ≡ counts n) (omega arith) counted.0
counted_from view counts place (d ∷ disks) counted (suc i) low =
    subst (λ n. counted_by (map (λ x. (view x).faults) disks) i ≡ counts n) (omega arith) (counted_from view counts (place + 1) disks counted.1 i (omega (arith, low)))

pub counted_at : {D : Type 0} (view : D → DiskView) (table : Table) (counts : ℕ → ℕ) (disks : List D) → AreCounted view counts 0 disks → length disks ≡ all_places table.copies → (place : ℕ) → place < all_places table.copies → counted_by (map (λ d. (view d).faults) disks) place ≡ counts place
counted_at view table counts disks counted all place low = subst (λ n. counted_by (map (λ d. (view d).faults) disks) place ≡ counts n) (omega arith) (counted_from view counts 0 disks counted place (omega (arith, low, all)))

image_offered : (offers : ℕ → Option (List ℕ)) (place : ℕ) (images : List (List ℕ)) → EachFrom (λ n image. offers n ≡ Some image) place images → (i : ℕ) → i < length images → offers (place + i) ≡ Some (get_or images i [])
image_offered offers place [] each i low = absurd (omega (arith, low))
image_offered offers place (image ∷ images) each zero low = subst (λ n. offers n ≡ Some image) (omega arith) each.0
image_offered offers place (image ∷ images) each (suc i) low = subst (λ n. offers n ≡ Some (get_or images i [])) (omega arith) (image_offered offers (place + 1) images each.1 i (omega (arith, low)))

-- an offer that is this image
tells_image : (offer told : Option (List ℕ)) (image : List ℕ) → offer ≡ Some image → Tells offer told → Tells (Some image) told
tells_image offer told image is tells = subst (λ o. Tells o told) is tells

-- disks that tell at least what was offered tell images that were
tell_images : (table : Table) (offers : ℕ → Option (List ℕ)) (told : ℕ → Option (List ℕ)) (images : List (List ℕ)) → Offers table offers images → TellAsMuch table (by_place table.copies offers) told → TellAsMuch table (λ place. Some (get_or images place [])) told
tell_images table offers told images offered tells place low =
    tells_image (by_place table.copies offers place) (told place) (get_or images place [])
    (subst (λ n. by_place table.copies offers n ≡ Some (get_or images place [])) (omega arith) (image_offered (by_place table.copies offers) 0 images offered.each place (omega (arith, low, offered.all))))
    (tells place low)

-- THE MOUNTING

module _ {D : Type 0} (view : D → DiskView) (plan : ScriptPlan) (most : ℕ) (told : ℕ → Option (List ℕ)) (counts : ℕ → ℕ) (stored : Stored D) (since : SinceFolds plan.table told (λ now. HasRun view plan most now counts stored)) where
  -- where it was told what was offered, or images were, so it is since
  abbrev now : ℕ → Option (List ℕ)
  now = since.0

  abbrev run_since : HasRun view plan most now counts stored
  run_since = since.2

  mounted_since : (offers : ℕ → Option (List ℕ)) → MountedInPairs plan.table (shown_now offers now) run_since.kept.records stored.epoch stored.ended.start
  mounted_since offers = mounted_otherwise plan.table (shown_now offers now) now run_since.kept.records stored.epoch stored.ended.start (shown_as_much plan.table offers now) run_since.kept.mounted

  pub restored : (offers : ℕ → Option (List ℕ)) → TellAsMuch plan.table (by_place plan.table.copies offers) told → (images : List (List ℕ)) → Offers plan.table offers images → RestoreInPairs plan.table images stored.ended.start
  restored offers tells images offered =
      let Told : ℕ → Option (List ℕ) = λ place. Some (get_or images place []) in
      renewed_restore plan.table images (shown_now Told now) (since_otherwise plan.table told now since.1 Told (tell_images plan.table offers told images offered tells)) run_since.kept.records stored.epoch stored.ended.start (mounted_since Told) offered.all

  module _ (offers : ℕ → Option (List ℕ)) (tells : TellAsMuch plan.table offers told) where
    now_since : TellSinceFolds plan.table offers (shown_now offers now)
    now_since = since_otherwise plan.table told now since.1 offers tells

    pub first : HaveNoGrantsInPairs plan.table offers → stored.ended.start ≡ base_of plan.table
    first none =
        first_start plan.table (shown_now offers now) run_since.kept.records stored.epoch stored.ended.start (mounted_since offers) (none_since plan.table offers (shown_now offers now) now_since none)

    pub stands : ((disk : D) (c : List ℕ) → (view disk).left_at (view disk).moment c ↔ (view disk).may_leave c) → AllTell plan.table.copies offers → (images : List (List ℕ)) → AreImages view stored.ended.disks.items images
        → ∥ StandInPairsWithin 1 plan.table stored.ended.start stored.epoch (past_of stored) images ∥₁
    stands here all_tell images left =
        let k = run_since.kept in
        ∥∥₁_elim
        (images_left view plan.table now k.records stored.epoch stored.ended.start k.mounted k.others k.numbers k.numbers_are most (λ pair. view (k.firsts pair)) (λ pair. view (k.other_firsts pair)) (IsOk stored.ended.ran) stored.ended.disks.items (past_of stored) k.kept
        (λ place low. some_too (shown_now offers now place) (now place) (shown_as_much plan.table offers now place low) (all_tell_now plan.table offers (shown_now offers now) now_since all_tell place low)) images left k.others_are here)
        ∥∥₁_prop
        (λ left. stand plan.table now k.records stored.epoch stored.ended.start k.mounted (past_of stored) images run_since.legal bounded (of_epoch stored.epoch (past_of stored) bounded run_since.begins.numbers) left)
      where
        bounded : length (past_of stored) ≤ limit
        bounded = omega (arith, run_since.bounded, length-reverse stored.ended.trail)

module _ {D : Type 0} (view : D → DiskView) (plan : ScriptPlan) (most : ℕ) (told : ℕ → Option (List ℕ)) (counts : ℕ → ℕ) (stored : Stored D) (run : HasRun view plan most told counts stored) where
  module _ (offers : ℕ → Option (List ℕ)) (tells : TellAsMuch plan.table offers told) where
    mounted : MountedInPairs plan.table offers run.kept.records stored.epoch stored.ended.start
    mounted = mounted_otherwise plan.table offers told run.kept.records stored.epoch stored.ended.start tells run.kept.mounted

    -- KEEPING

    active_too : (pair : ℕ) → pair ≤ plan.table.copies → is_some (of_active plan.table run.kept.mounted.swapped offers pair) ≡ true → is_some (of_active plan.table run.kept.mounted.swapped told pair) ≡ true
    active_too pair low = some_too (of_active plan.table run.kept.mounted.swapped offers pair) (of_active plan.table run.kept.mounted.swapped told pair) (active_tells plan.table offers told tells run.kept.mounted.swapped pair low)

    other_too : (pair : ℕ) → pair ≤ plan.table.copies → is_some (of_other plan.table run.kept.mounted.swapped offers pair) ≡ true → is_some (of_other plan.table run.kept.mounted.swapped told pair) ≡ true
    other_too pair low = some_too (of_other plan.table run.kept.mounted.swapped offers pair) (of_other plan.table run.kept.mounted.swapped told pair) (other_tells plan.table offers told tells run.kept.mounted.swapped pair low)

    -- a disk of which less was told
    was_too : (disk : D) (records : List (List ℕ)) (less more : Option (List ℕ)) → (is_some less ≡ true → is_some more ≡ true) → WasMounted view disk records more → WasMounted view disk records less
    was_too disk records less more too was = record { tells = λ some. was.tells (too some); had = λ some. was.had (too some) }

    pub kept : HasKept view plan.table most offers stored
    unfolding mounted mounted_otherwise
    kept =
        let k = run.kept in
        let many = k.mounted.mounted.as_many in
        record {
          records = k.records;
          others = k.others;
          numbers = k.numbers;
          firsts = k.firsts;
          other_firsts = k.other_firsts;
          mounted = mounted;
          others_are = others_otherwise plan.table offers told k.records stored.epoch stored.ended.start tells k.mounted k.others k.others_are;
          numbers_are = numbers_otherwise plan.table offers told k.records stored.epoch stored.ended.start tells k.mounted k.numbers k.numbers_are;
          was = λ pair low. was_too (k.firsts pair) (k.records pair) (of_active plan.table k.mounted.swapped offers pair) (of_active plan.table k.mounted.swapped told pair) (active_too pair low) (k.was pair low);
          other_was = λ pair low. was_too (k.other_firsts pair) (k.others pair) (of_other plan.table k.mounted.swapped offers pair) (of_other plan.table k.mounted.swapped told pair) (other_too pair low) (k.other_was pair low);
          kept = keep_otherwise (setting_of plan.table stored.ended.start) k.mounted.swapped most stored.epoch k.records (λ pair. view (k.firsts pair)) (λ pair. view (k.other_firsts pair)) k.numbers (λ pair. made_other plan.table k.mounted.swapped pair)
              (λ pair. is_some (of_active plan.table k.mounted.swapped told pair)) (λ pair. is_some (of_active plan.table k.mounted.swapped offers pair))
              (λ pair. is_some (of_other plan.table k.mounted.swapped told pair)) (λ pair. is_some (of_other plan.table k.mounted.swapped offers pair)) k.others k.others
              (λ pair low. active_too pair (omega (arith, low, many))) (λ pair low. other_too pair (omega (arith, low, many))) (λ pair low some. refl)
              view (past_of stored) (IsOk stored.ended.ran) stored.ended.disks.items k.kept;
        }

    -- FOLDING

    all_told : AllTell plan.table.copies offers → AllTell plan.table.copies told
    all_told all_tell place low = some_too (offers place) (told place) (tells place low) (all_tell place low)

    -- what disks have counted since they were given, they have since the shop told of them
    pub paid : (shop : ℕ → ℕ) → ((place : ℕ) → place < all_places plan.table.copies → counts place ≡ shop place) → HavePaid view plan.table offers shop stored.epoch stored.ended.start (disks_of stored) (past_of stored)
    unfolding mounted_otherwise
    paid shop same =
        let p = run.paid in
        record {
          records = p.records;
          mounted = mounted_otherwise plan.table offers told p.records stored.epoch stored.ended.start tells p.mounted;
          paid = λ pair disk low is.
              subst (λ n. Pays n (downs (entries_of (pair + 1) (past_of stored))) (view disk).faults)
              (one_counted (p.mounted.swapped pair) (same pair (omega (arith, low))) (same (plan.table.copies + 1 + pair) (omega (arith, low)))) (p.paid pair disk low is);
        }
      where
        one_counted : {own spare own' spare' : ℕ} (is_spare : Bool) → own ≡ own' → spare ≡ spare' → (if is_spare then spare else own) ≡ (if is_spare then spare' else own')
        one_counted true is is_too = is_too
        one_counted false is is_too = is

    -- and so are they folded, where none has failed since the shop told of them
    pub folded : (shop : ℕ → ℕ) → ((place : ℕ) → place < all_places plan.table.copies → counts place ≡ shop place) → IsOk stored.ended.ran → HasEnded (past_of stored)
        → WereFolded view plan.table most offers shop stored.epoch stored.ended.start (disks_of stored) (past_of stored)
    unfolding mounted_otherwise
    folded shop same done ended =
        let f = run.folded done ended in
        record {
          records = f.records;
          numbers = f.numbers;
          mounted = mounted_otherwise plan.table offers told f.records stored.epoch stored.ended.start tells f.mounted;
          numbers_are = numbers_otherwise plan.table offers told f.records stored.epoch stored.ended.start tells f.mounted f.numbers f.numbers_are;
          folded = λ all_tell short sound room images left. f.folded (all_told all_tell) short
              (λ place disk is rose. sound place disk is (subst (λ n. Rose n (view disk).faults) (same place (within place disk is)) rose)) room images left;
        }
      where
        within : (place : ℕ) (disk : D) → slice_get (disks_of stored) place ≡ Some disk → place < all_places plan.table.copies
        within place disk is =
            let many = disks_many view (setting_of plan.table stored.ended.start) _ plan.table (IsOk stored.ended.ran) (disks_of stored) (past_of stored) run.kept.kept run.kept.mounted.mounted.as_many in
            let there : place < length (disks_of stored) = slice_get_within (disks_of stored) place disk is in
            omega (arith, many, there)

-- whatever the answer, all disks are handed back
pub all_returned : {D : Type 0} (view : D → DiskView) (plan : ScriptPlan) (most : ℕ) (told : ℕ → Option (List ℕ)) (counts : ℕ → ℕ) (disks : List D) (answer : Result (Stored D) (MountNo D)) → length disks ≡ all_places plan.table.copies → IfOk answer (λ stored. SinceFolds plan.table told (λ now. HasRun view plan most now counts stored))
    → IfErr answer (λ refused. AreLeft view plan.table (reason_in refused) disks (disks_in refused)) → returned answer ≡ all_places plan.table.copies
all_returned view plan most told counts disks (Ok stored) all since left =
    let k = since.2.kept in
    disks_many view (setting_of plan.table stored.ended.start) _ plan.table (IsOk stored.ended.ran) (disks_of stored) (past_of stored) k.kept k.mounted.mounted.as_many
all_returned view plan most told counts disks (Err refused) all ran left = left_length view plan.table (reason_in refused) disks (disks_in refused) left ∙ all

-- those of an error that was handed on are handed back
pub error_returned : {D : Type 0} (answer : Result (Stored D) (MountNo D)) (refused : MountNo D) → IsErrAnd answer (λ it. it ≡ refused) → returned answer ≡ length (disks_in refused)
error_returned (Ok stored) refused is = absurd is
error_returned (Err it) refused is = ap (λ r. length (disks_in r)) is
