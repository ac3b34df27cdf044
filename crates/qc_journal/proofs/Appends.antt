-- What each of the two writes of an append leaves, in the terms of a journal.
use Rattle.std.proofs.Common.{◌≡◌, ◌⊎◌, ⊎_elim, inl, inr, ℕ, ◌+◌, ◌-◌, List, [], ◌∷◌, ◌++◌, length, replicate, Option, Some, sym, ◌∙◌, ap, subst, arith}
use Rattle.std.specs.Prelude.{option_map, ◌↔◌}
use Rattle.qc_disk.specs.Disk.{written, Torn, Only, Steps, IsImage, LeavesOnly, Grows, ChangesOnce}
use Rattle.qc_disk.specs.declared.disk.Disk.{Ghosts}
use Rattle.qc_journal.specs.Device.{Touched}
use Rattle.qc_journal.specs.Image.{IsShort, EndsAt, HasRecords, HasAt, behind_gate}
use Rattle.qc_journal.specs.State.{IsUpState, hand_of, missing_at}
use Rattle.qc_journal.specs.Journal.{ImageStands, IsUp, Keeps}
use Rattle.qc_journal.specs.declared.journal.Journal.{Journal}
use Rattle.qc_journal.specs.declared.journal.State.{State}
use Rattle.qc_journal.specs.declared.journal.State.TheVariants.{Up, Down}
use Rattle.qc_journal.proofs.Moments.{continues, grows_once, grows_on}
use Rattle.qc_journal.proofs.Growing.{has_still}
use Rattle.qc_journal.proofs.Images.{Staged, torn_behind, written_behind, torn_gate, written_gate}

-- with nothing in hand
pub ends_up : (place : ℕ) (bodies : List (List ℕ)) (state : State) (image : List ℕ) → IsUpState state → ImageStands place bodies (hand_of state) image → EndsAt place bodies image
ends_up place bodies (Up missing) image up stands = stands
ends_up place bodies (Down held) image up stands = absurd up

-- a disk that tells goes on telling
pub tells_on : (step : List ℕ → List ℕ → Type 0) (told now : Option (List ℕ)) (bytes : List ℕ) → told ≡ Some bytes → Steps step told now → (c : List ℕ) × (now ≡ Some c)
tells_on step told now bytes is steps = let on = subst (λ t. Steps step t now) is steps in (on.0, on.1)

-- what is told is an image
pub told_image : (images : List ℕ → Type 0) (told : Option (List ℕ)) (bytes : List ℕ) → told ≡ Some bytes → IsImage told images → images bytes
told_image images told bytes is here = subst (λ t. IsImage t images) is here

as_records : (place place' : ℕ) (bodies bodies' : List (List ℕ)) (image : List ℕ) → EndsAt place bodies image ⊎ EndsAt place' bodies' image → HasRecords bodies image ⊎ HasRecords bodies' image
as_records place place' bodies bodies' image ends = ⊎_elim (λ e. inl (inr (place, e))) (λ e. inr (inr (place', e))) ends

-- One append to a journal that is up and keeps these records.
module _ {D : Type 0} {g : Ghosts D} (old : Journal D g) (bodies : List (List ℕ)) (body : List ℕ) (missing : ℕ) (up : IsUp old) (k : Keeps old bodies) (is : missing ≡ missing_at old.place old.state) where
  none : missing ≡ 0
  none = is ∙ k.whole up

  start : old.place + 1 - missing ≡ old.place + 1
  start = omega (arith, none)

  ends : (c : List ℕ) → (g.view old.disk).may_leave c → EndsAt old.place bodies c
  ends c left = ends_up old.place bodies old.state c up (k.each c left)

  -- the first write leaves the records
  pub behind : (n : ℕ) (image : List ℕ) → Touched (Torn (old.place + 1 - missing) n) (g.view old.disk).may_leave image → EndsAt old.place bodies image
  behind n image from = torn_behind old.place bodies n from.0 image (ends from.0 from.1) (subst (λ at. Torn at n from.0 image) start from.2)

  -- nor loses any
  pub behind_lost : (mid : D) (n : ℕ) → IsImage (g.view old.disk).content (g.view old.disk).may_leave → LeavesOnly g.view old.disk mid (Touched (Torn (old.place + 1 - missing) n) (g.view old.disk).may_leave) → ChangesOnce g.view old.disk mid
      → ((c : List ℕ) → (g.view old.disk).left_at (g.view old.disk).moment c ↔ (g.view old.disk).may_leave c) → (index : ℕ) (had : List ℕ) → Grows g.view old.disk mid (HasAt index had)
  behind_lost mid n here first one now index had =
      let left = told_image (g.view old.disk).may_leave _ k.bytes k.told here in
      grows_once g.view old.disk mid (HasAt index had) _ first one
      (λ all c from. has_still index had k.bytes c bodies body (inr (old.place, ends k.bytes left)) (all k.bytes ((now k.bytes).1 left)) (inl (inr (old.place, behind n c from))))

  module _ (mid : D) (block : List ℕ) (fits : IsShort body) (here : IsImage (g.view old.disk).content (g.view old.disk).may_leave) (block_is : block ≡ replicate missing 0 ++ behind_gate body)
      (wrote : (g.view mid).content ≡ option_map (written (old.place + 1 - missing) block) (g.view old.disk).content) (only : Only (g.view mid).content (g.view mid).may_leave) where
    -- what the disk then tells
    pub told_mid : (g.view mid).content ≡ Some (written (old.place + 1) (behind_gate body) k.bytes)
    told_mid =
        wrote
        ∙ ap (option_map (written (old.place + 1 - missing) block)) k.told
        ∙ ap (λ at. Some (written at block k.bytes)) start
        ∙ ap (λ (b : List ℕ). Some (written (old.place + 1) b k.bytes)) (block_is ∙ ap (λ n. replicate n 0 ++ behind_gate body) none)

    staged_bytes : Staged old.place bodies body (written (old.place + 1) (behind_gate body) k.bytes)
    staged_bytes = written_behind old.place bodies body k.bytes (ends k.bytes (told_image (g.view old.disk).may_leave _ k.bytes k.told here)) fits

    -- once it is synced, the record stands behind a closed gate
    staged : (c : List ℕ) → (g.view mid).may_leave c → Staged old.place bodies body c
    staged c left = subst (Staged old.place bodies body) (sym (subst (λ t. Only t (g.view mid).may_leave) told_mid only c left)) staged_bytes

    -- the second write leaves the records, with the new one or without
    pub gate : (image : List ℕ) → Touched (Torn old.place 1) (g.view mid).may_leave image → EndsAt old.place bodies image ⊎ EndsAt (old.place + 5 + length body) (bodies ++ body ∷ []) image
    gate image from = torn_gate old.place bodies body from.0 (staged from.0 from.1) image from.2

    -- once it is synced, the record counts
    pub opened : (now : Option (List ℕ)) (images : List ℕ → Type 0) → now ≡ option_map (written old.place (1 ∷ [])) (g.view mid).content → Only now images → (c : List ℕ) → images c → EndsAt (old.place + 5 + length body) (bodies ++ body ∷ []) c
    opened now images opens kept c left =
        let now_is = subst (λ t. Only t images) (opens ∙ ap (option_map (written old.place (1 ∷ []))) told_mid) kept c left in
        subst (EndsAt (old.place + 5 + length body) (bodies ++ body ∷ [])) (sym now_is) (written_gate old.place bodies body _ staged_bytes)

    -- at every moment of both the records stand, with the new one or without
    pub any_moment : (new : D) (n : ℕ) → LeavesOnly g.view old.disk mid (Touched (Torn (old.place + 1 - missing) n) (g.view old.disk).may_leave) → LeavesOnly g.view mid new (Touched (Torn old.place 1) (g.view mid).may_leave)
        → LeavesOnly g.view old.disk new (λ image. HasRecords bodies image ⊎ HasRecords (bodies ++ body ∷ []) image)
    any_moment new n first then =
        continues g.view old.disk mid new _ _ (λ image. HasRecords bodies image ⊎ HasRecords (bodies ++ body ∷ []) image) first then
        (λ image from. inl (inr (old.place, behind n image from))) (λ image from. as_records _ _ bodies _ image (gate image from))

    -- and no record is lost
    pub nothing_lost : (new : D) (n : ℕ) → LeavesOnly g.view old.disk mid (Touched (Torn (old.place + 1 - missing) n) (g.view old.disk).may_leave) → ChangesOnce g.view old.disk mid
        → LeavesOnly g.view mid new (Touched (Torn old.place 1) (g.view mid).may_leave) → ChangesOnce g.view mid new
        → ((c : List ℕ) → (g.view old.disk).left_at (g.view old.disk).moment c ↔ (g.view old.disk).may_leave c) → ((c : List ℕ) → (g.view mid).left_at (g.view mid).moment c ↔ (g.view mid).may_leave c)
        → IsImage (g.view mid).content (g.view mid).may_leave → ((c : List ℕ) → (g.view mid).may_leave c → Touched (Torn (old.place + 1 - missing) n) (g.view old.disk).may_leave c)
        → (index : ℕ) (had : List ℕ) → Grows g.view old.disk new (HasAt index had)
    nothing_lost new n first one then two now now_mid here_mid crash index had =
        let w = written (old.place + 1) (behind_gate body) k.bytes in
        let left : (g.view mid).may_leave w = told_image (g.view mid).may_leave _ w told_mid here_mid in
        let has : HasRecords bodies w = inr (old.place, behind n w (crash w left)) in
        grows_on g.view old.disk mid new (HasAt index had) _ first.later (behind_lost mid n here first one now index had) then
        (grows_once g.view mid new (HasAt index had) _ then two (λ all c from. has_still index had w c bodies body has (all w ((now_mid w).1 left)) (as_records _ _ bodies _ c (gate c from))))
