-- The disks of a store in a row: those of all pairs, and behind them their spares.
use Rattle.std.proofs.Common.{◌≡◌, ℕ, zero, suc, ◌+◌, ◌<◌, ◌≤◌, List, [], ◌∷◌, ◌++◌, length, map, get_or, subst, refl, arith, sym, ap, ap₂, ◌∙◌}
use Rattle.std.specs.Prelude.{Bool, true, false, if◌then◌else◌, Option, Some, None, slice_get}
use Rattle.std.proofs.lemmas.Option.{slice_get_within}
use Rattle.std.proofs.lemmas.List.{get_or-append-add, get_or-map, length-append, length-map, map-append}
use Rattle.std.specs.List.{range_with_len}
use Rattle.qc_codec.specs.declared.past.Past.{Past}
use Rattle.qc_disk.specs.Disk.{DiskView}
use Rattle.qc_event.specs.declared.table.Table.{Table}
use Rattle.qc_opening.specs.Disks.{is_spare_at, number_of, pair_at, told_by, FirstTells, IsLeft, IsMounted, IsPairLeft, TellsPast}
use Rattle.qc_opening.specs.Images.{images_in_pairs}
use Rattle.qc_opening.specs.Numbered.{PairsFrom}
use Rattle.qc_opening.specs.Refusing.{AreLeft, ArePairsLeft, FailedAt, IsBehind, TellImages, TellInPairs}
use Rattle.qc_opening.proofs.Mountings.Disks.{mounted_for}
use Rattle.qc_opening.proofs.Mountings.Numbered.{pairs_append, pairs_placed}
use Rattle.qc_opening.proofs.Mountings.Places.{own_place, spare_place, IsPlaceOf}
use Rattle.qc_pair.specs.declared.fault.PairNo.{PairNo}
use Rattle.qc_refine.specs.Pairs.{image_of, spare_image}
use Rattle.qc_system.specs.Pairs.{own_then_spares}

-- WHAT IS TOLD OF THEM

module _ {A X : Type 0} (tell : A → X) (d : X) where
  own_told : (pairs : List (A × A)) (place : ℕ) (p : A × A) (behind : List A) → slice_get pairs place ≡ Some p → get_or (map tell (map (λ q. q.0) pairs ++ behind)) place d ≡ tell p.0
  own_told [] place p behind at = absurd cc
  own_told (q ∷ pairs) zero p behind at = let same : q ≡ p = cc in ap (λ (r : A × A). tell r.0) same
  own_told (q ∷ pairs) (suc place) p behind at = own_told pairs place p behind at

  seconds_told : (pairs : List (A × A)) (place : ℕ) (p : A × A) → slice_get pairs place ≡ Some p → get_or (map tell (map (λ q. q.1) pairs)) place d ≡ tell p.1
  seconds_told [] place p at = absurd cc
  seconds_told (q ∷ pairs) zero p at = let same : q ≡ p = cc in ap (λ (r : A × A). tell r.1) same
  seconds_told (q ∷ pairs) (suc place) p at = seconds_told pairs place p at

  -- the disk of a pair stands at the pair's place
  pub own_at : (pairs : List (A × A)) (place : ℕ) (p : A × A) → slice_get pairs place ≡ Some p → get_or (map tell (own_then_spares pairs)) place d ≡ tell p.0
  own_at pairs place p at = own_told pairs place p (map (λ q. q.1) pairs) at

  -- its spare stands behind the disks of all
  pub spare_at : (pairs : List (A × A)) (place many row : ℕ) (p : A × A) → slice_get pairs place ≡ Some p → length pairs ≡ many → row ≡ many + place → get_or (map tell (own_then_spares pairs)) row d ≡ tell p.1
  spare_at pairs place many row p at size is =
      let firsts : List X = map tell (map (λ (q : A × A). q.0) pairs) in
      let seconds : List X = map tell (map (λ (q : A × A). q.1) pairs) in
      let long : length firsts ≡ many = length-map (map (λ (q : A × A). q.0) pairs) tell ∙ (length-map pairs (λ (q : A × A). q.0) ∙ size) in
      let there : row ≡ length firsts + place = omega (arith, long, is) in
      ap (λ (l : List X). get_or l row d) (map-append tell (map (λ (q : A × A). q.0) pairs) (map (λ (q : A × A). q.1) pairs))
      ∙ (ap (λ n. get_or (firsts ++ seconds) n d) there ∙ (get_or-append-add firsts seconds place d ∙ seconds_told pairs place p at))

pub row_length : {A : Type 0} (pairs : List (A × A)) → length (own_then_spares pairs) ≡ length pairs + length pairs
row_length {A} pairs = length-append (map (λ (q : A × A). q.0) pairs) (map (λ (q : A × A). q.1) pairs) ∙ ap₂ (λ a b. a + b) (length-map pairs (λ (q : A × A). q.0)) (length-map pairs (λ (q : A × A). q.1))

module _ {D : Type 0} (view : D → DiskView) where
  -- WHAT IS LEFT OF THEM

  mounted_as : (table : Table) (Tells : Past → Type 0) (Failed : ℕ → Type 0) (pair pair' number number' : ℕ) (a a' b b' : Option (List ℕ)) (s s' : Bool) (old new : D) → pair' ≡ pair → number' ≡ number → a' ≡ a → b' ≡ b → s' ≡ s
      → IsMounted view table Tells pair a b s (Failed number) old new → IsMounted view table Tells pair' a' b' s' (Failed number') old new
  mounted_as table Tells Failed pair pair' number number' a a' b b' s s' old new same_pair same_number same_a same_b same_s is =
      subst (λ (z : Bool). IsMounted view table Tells pair' a' b' z (Failed number') old new) (sym same_s)
      (subst (λ (o : Option (List ℕ)). IsMounted view table Tells pair' a' o s (Failed number') old new) (sym same_b)
      (subst (λ (o : Option (List ℕ)). IsMounted view table Tells pair' o b s (Failed number') old new) (sym same_a)
      (subst (λ n. IsMounted view table Tells pair' a b s (Failed n) old new) (sym same_number)
      (subst (λ n. IsMounted view table Tells n a b s (Failed number) old new) (sym same_pair) is))))

  module _ (table : Table) (reason : PairNo) (pairs : List (D × D)) (size : length pairs ≡ table.copies + 1) where
    abbrev told : ℕ → Option (List ℕ)
    told = told_by (map (λ disk. (view disk).content) (own_then_spares pairs))

    abbrev Told : Past → Type 0
    Told = TellsPast (told 0) (told (table.copies + 1 + 0))

    -- the past that the first pair tells is told at its places
    first_told : (past : Past) → FirstTells view pairs past → Told past
    first_told past = by pairs (λ p at. (own_at (λ disk. (view disk).content) None pairs 0 p at, spare_at (λ disk. (view disk).content) None pairs 0 (table.copies + 1) (table.copies + 1 + 0) p at size refl))
      where
        by : (all : List (D × D)) → ((p : D × D) → slice_get all 0 ≡ Some p → (told 0 ≡ (view p.0).content) × (told (table.copies + 1 + 0) ≡ (view p.1).content)) → FirstTells view all past → Told past
        by [] at tells = absurd tells
        by (p ∷ more) at tells =
            let both = at p refl in
            subst (λ o. TellsPast o (told (table.copies + 1 + 0)) past) (sym both.0) (subst (λ o. TellsPast (view p.0).content o past) (sym both.1) tells)

    abbrev Left : ℕ → D → D → Type 0
    Left = IsLeft view table told (FailedAt reason) (IsBehind reason)

    -- both disks of a pair, by where they stand
    in_row : (pair place : ℕ) (is_spare : Bool) (old new : D × D) (mine its : D) → slice_get pairs pair ≡ Some old → IsPlaceOf table.copies is_spare pair place
        → IsMounted view table (FirstTells view pairs) pair (view old.0).content (view old.1).content is_spare (FailedAt reason (if is_spare then pair + 17 else pair)) mine its → (IsBehind reason pair → its ≡ mine) → Left place mine its
    in_row pair place is_spare old new mine its at is mounted left = record {
      mounted = mounted_as table Told (FailedAt reason) pair (pair_at table.copies place) (if is_spare then pair + 17 else pair) (number_of table.copies place)
          (view old.0).content (told (pair_at table.copies place)) (view old.1).content (told (table.copies + 1 + pair_at table.copies place)) is_spare (is_spare_at table.copies place) mine its
          is.of_pair is.number
          (ap told is.of_pair ∙ own_at (λ disk. (view disk).content) None pairs pair old at)
          (ap (λ n. told (table.copies + 1 + n)) is.of_pair ∙ spare_at (λ disk. (view disk).content) None pairs pair (table.copies + 1) (table.copies + 1 + pair) old at size refl)
          is.spare (mounted_for view table (FirstTells view pairs) Told pair (view old.0).content (view old.1).content is_spare _ _ mine its (λ failed. failed) (λ failed. failed) first_told mounted);
      behind = λ b. left (subst (IsBehind reason) is.of_pair b);
    }

    same_place : (place n : ℕ) (p : D × D) → n ≡ 0 + place → slice_get pairs place ≡ Some p → slice_get pairs n ≡ Some p
    same_place place n p is at = let same : place ≡ n = omega (arith, is) in subst (λ k. slice_get pairs k ≡ Some p) same at

    of_own : (place n m : ℕ) (p : D × D) → n ≡ 0 + place → m ≡ 0 + place → slice_get pairs place ≡ Some p → IsPlaceOf table.copies false n m
    of_own place n m p is there at =
        let low : place ≤ table.copies = omega (arith, slice_get_within pairs place p at, size) in
        let same : n ≡ m = omega (arith, is, there) in
        subst (λ k. IsPlaceOf table.copies false n k) same (own_place table.copies n (omega (arith, is, low)))

    -- what is left of pairs is left of their disks in a row
    pub left_in_row : (news : List (D × D)) → ArePairsLeft view table (FirstTells view pairs) reason 0 pairs news → AreLeft view table reason (own_then_spares pairs) (own_then_spares news)
    left_in_row news left =
        let PairLeft : ℕ → D × D → D × D → Type 0 = IsPairLeft view table (FirstTells view pairs) (FailedAt reason) (IsBehind reason) in
        let owns : PairsFrom Left 0 (map (λ p. p.0) pairs) (map (λ p. p.0) news) = pairs_placed PairLeft Left (λ p. p.0) (λ p. p.0) 0 0 pairs news left
        (λ place n m old new is there at has. in_row n m false old new old.0 new.0 (same_place place n old is at) (of_own place n m old is there at) has.own (λ b. ap (λ (p : D × D). p.0) (has.behind b))) in
        let spares : PairsFrom Left (table.copies + 1) (map (λ p. p.1) pairs) (map (λ p. p.1) news) = pairs_placed PairLeft Left (λ p. p.1) (λ p. p.1) 0 (table.copies + 1) pairs news left
        (λ place n m old new is there at has.
        in_row n m true old new old.1 new.1 (same_place place n old is at) (spare_place table.copies n m (omega (arith, is, there))) has.spare (λ b. ap (λ (p : D × D). p.1) (has.behind b))) in
        pairs_append Left 0 (table.copies + 1) (map (λ p. p.0) pairs) (map (λ p. p.0) news) (map (λ p. p.1) pairs) (map (λ p. p.1) news) owns (omega (arith, length-map pairs (λ (p : D × D). p.0), size)) spares

  -- WHAT THEY TELL

  abbrev TwoTold : Type 0
  TwoTold = Option (List ℕ) × Option (List ℕ)

  -- of each pair, by its number
  told_in_order : (table : Table) (images : List (List ℕ)) (pair : ℕ) (pairs : List (D × D))
      → ((place n : ℕ) (p : D × D) → n ≡ pair + place → slice_get pairs place ≡ Some p → ((view p.0).content ≡ Some (image_of table images n)) × ((view p.1).content ≡ Some (spare_image table images n)))
      → TellInPairs view pairs (map (λ n. (image_of table images n, spare_image table images n)) (range_with_len pair (length pairs)))
  told_in_order table images pair [] each = refl
  told_in_order table images pair (p ∷ pairs) each =
      let here = each zero pair p (omega arith) refl in
      ap₂ (λ (a : TwoTold) (l : List TwoTold). a ∷ l) (ap₂ (λ (a b : Option (List ℕ)). (a, b)) here.0 here.1)
      (told_in_order table images (pair + 1) pairs (λ place n q is at. each (suc place) n q (omega (arith, is)) at))

  -- images that are told in a row are told in pairs
  pub tell_in_pairs : (table : Table) (images : List (List ℕ)) (pairs : List (D × D)) → length pairs ≡ table.copies + 1 → TellImages view (own_then_spares pairs) images → TellInPairs view pairs (images_in_pairs table images)
  tell_in_pairs table images pairs size tell =
      subst (λ n. TellInPairs view pairs (map (λ pair. (image_of table images pair, spare_image table images pair)) (range_with_len 0 n))) size
      (told_in_order table images 0 pairs (λ place n p is at. (of_disk place n p is at, of_spare place n p is at)))
    where
      many : length images ≡ length pairs + length pairs
      many = sym (length-map images Some) ∙ (ap length (sym tell) ∙ (length-map (own_then_spares pairs) (λ disk. (view disk).content) ∙ row_length pairs))

      image_at : (n : ℕ) → n < length pairs + length pairs → get_or (map (λ disk. (view disk).content) (own_then_spares pairs)) n None ≡ Some (get_or images n [])
      image_at n low = ap (λ (l : List (Option (List ℕ))). get_or l n None) tell ∙ get_or-map Some images n [] None (omega (arith, low, many))

      of_disk : (place n : ℕ) (p : D × D) → n ≡ 0 + place → slice_get pairs place ≡ Some p → (view p.0).content ≡ Some (image_of table images n)
      of_disk place n p is at =
          let same : n ≡ place = omega (arith, is) in
          let low : place < length pairs = slice_get_within pairs place p at in
          sym (own_at (λ disk. (view disk).content) None pairs place p at) ∙ (image_at place (omega (arith, low)) ∙ ap (λ k. Some (image_of table images k)) (sym same))

      of_spare : (place n : ℕ) (p : D × D) → n ≡ 0 + place → slice_get pairs place ≡ Some p → (view p.1).content ≡ Some (spare_image table images n)
      of_spare place n p is at =
          let same : n ≡ place = omega (arith, is) in
          let low : place < length pairs = slice_get_within pairs place p at in
          sym (spare_at (λ disk. (view disk).content) None pairs place (table.copies + 1) (table.copies + 1 + place) p at size refl)
          ∙ (image_at (table.copies + 1 + place) (omega (arith, low, size)) ∙ ap (λ k. Some (spare_image table images k)) (sym same))
