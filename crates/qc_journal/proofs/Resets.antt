-- What a reset leaves, in the terms of a journal.
use Rattle.std.proofs.Common.{◌≡◌, ◌≢◌, ◌<◌, ◌≤◌, ◌⊎◌, ⊎_elim, inl, inr, ℕ, List, [], ◌∷◌, length, drop, get_or, Some, Bool, true, false, refl, sym, ◌∙◌, ap, subst, arith}
use Rattle.std.specs.Prelude.{IsTrue, option_map, ◌↔◌}
use Rattle.std.proofs.lemmas.Bool.{cases_eq}
use Rattle.std.proofs.lemmas.List.{drop_more, ext_get_or}
use Rattle.std.proofs.lemmas.List.Elements.{All-nil}
use Rattle.qc_disk.specs.Disk.{written, Torn, Cut, IsImage, LeavesOnly, Grows, ChangesOnce}
use Rattle.qc_disk.specs.declared.disk.Disk.{Ghosts}
use Rattle.qc_journal.specs.Device.{Touched}
use Rattle.qc_journal.specs.Image.{IsShort, EndsAt, HasRecords}
use Rattle.qc_journal.specs.State.{missing_at}
use Rattle.qc_journal.specs.Journal.{IsUp, Keeps, KeepsOrNone}
use Rattle.qc_journal.specs.declared.journal.Journal.{Journal}
use Rattle.qc_journal.proofs.Appends.{ends_up, told_image}
use Rattle.qc_journal.proofs.Images.{place_within}
use Rattle.qc_journal.proofs.Moments.{continues, weakened, falls_none, grows_by_falls, grows_once, grows_on}
use Rattle.qc_journal.proofs.Readings.{records-same}

-- IMAGES

-- bytes whose first is no open gate
shut_front : (image : List ℕ) → 0 < length image → get_or image 0 0 ≢ 1 → EndsAt 0 [] image
shut_front image some shut = record { gate = get_or image 0 0; rest = drop 1 image; split = drop_more image 0 0 some; closed = shut; size = refl; short = All-nil IsShort }

front_shut : (image : List ℕ) → EndsAt 0 [] image → get_or image 0 0 ≢ 1
front_shut image ends is = ends.closed (sym (ap (λ (l : List ℕ). get_or l 0 0) ends.split) ∙ is)

-- at the front no record stands
none_there : (bodies : List (List ℕ)) (image : List ℕ) → EndsAt 0 bodies image → EndsAt 0 [] image
none_there [] image ends = ends
none_there (body ∷ bodies) image ends = absurd (omega (arith, ends.size))

-- where one stands the gate at the front is open
open_front : (place : ℕ) (bodies : List (List ℕ)) (image : List ℕ) → EndsAt place bodies image → 0 < place → get_or image 0 0 ≡ 1
open_front place [] image ends some = absurd (omega (arith, ends.size, some))
open_front place (body ∷ bodies) image ends some = ap (λ (l : List ℕ). get_or l 0 0) ends.split

-- whatever is left of a write over the gate at the front has all records, or none
torn_front : (place : ℕ) (bodies : List (List ℕ)) (old new : List ℕ) → EndsAt place bodies old → 0 < place → Torn 0 1 old new → EndsAt place bodies new ⊎ EndsAt 0 [] new
torn_front place bodies old new ends some torn =
    let within = place_within place bodies old ends in
    let size : length new ≡ length old = omega (arith, within, torn.no_shorter, torn.no_longer) in
    elim (cases_eq (get_or new 0 0) 1) [
      | inl still ↦ inl (subst (EndsAt place bodies) (sym (ext_get_or 0 new old size (λ i there. same i there (cases_eq i 0) still))) ends)
      | inr shut ↦ inr (shut_front new (omega (arith, within, size)) shut)
    ]
  where
    same : (i : ℕ) → i < length new → (i ≡ 0) ⊎ (i ≢ 0) → get_or new 0 0 ≡ 1 → get_or new i 0 ≡ get_or old i 0
    same i there (inl first) still = ap (λ k. get_or new k 0) first ∙ still ∙ sym (open_front place bodies old ends some) ∙ ap (λ k. get_or old k 0) (sym first)
    same i there (inr later) still = torn.after i (omega (arith, later)) (omega (arith, there, place_within place bodies old ends, torn.no_longer))

-- and behind a whole write none
pub written_front : (old : List ℕ) → EndsAt 0 [] (written 0 (0 ∷ []) old)
written_front old = record { gate = 0; rest = drop 1 old; split = refl; closed = omega arith; size = refl; short = All-nil IsShort }

-- nor does a cut behind a closed gate bring one back
cut_front : (old new : List ℕ) → EndsAt 0 [] old → Cut 1 old new → EndsAt 0 [] new
cut_front old new ends cut =
    let some : 0 < length new = omega (arith, place_within 0 [] old ends, cut.no_shorter) in
    shut_front new some (λ is. front_shut old ends (sym (cut.before 0 (omega arith) some) ∙ is))

-- nor is there one where no bodies stand at any place
front_of_none : (place : ℕ) (image : List ℕ) → EndsAt place [] image ⊎ EndsAt 0 [] image → EndsAt 0 [] image
front_of_none place image (inl ends) = record { gate = ends.gate; rest = ends.rest; split = ends.split; closed = ends.closed; size = refl; short = ends.short }
front_of_none place image (inr ends) = ends

-- where one stands there are some
not_none : (place : ℕ) (bodies : List (List ℕ)) (image : List ℕ) → EndsAt place bodies image → 0 < place → HasRecords [] image → ⊥
not_none place bodies image ends some none =
    let here = subst (λ (b : List (List ℕ)). EndsAt place b image) (sym (records-same image bodies [] (inr (place, ends)) none)) ends in
    absurd (omega (arith, here.size, some))

-- A JOURNAL

-- all records, or none
abbrev AllOrNone : List (List ℕ) → List ℕ → Type 0
AllOrNone bodies image = HasRecords bodies image ⊎ HasRecords [] image

module _ {D : Type 0} {g : Ghosts D} (old : Journal D g) (bodies : List (List ℕ)) (up : IsUp old) (k : Keeps old bodies) where
  ends : (c : List ℕ) → (g.view old.disk).may_leave c → EndsAt old.place bodies c
  ends c left = ends_up old.place bodies old.state c up (k.each c left)

  -- where there is no record
  pub bare : old.place ≡ 0 → (c : List ℕ) → (g.view old.disk).may_leave c → EndsAt 0 [] c
  bare front c left = none_there bodies c (subst (λ p. EndsAt p bodies c) front (ends c left))

  pub bare_moment : LeavesOnly g.view old.disk old.disk (g.view old.disk).may_leave → LeavesOnly g.view old.disk old.disk (AllOrNone bodies)
  bare_moment run = weakened g.view old.disk old.disk _ (AllOrNone bodies) run (λ c left. inl (inr (old.place, ends c left)))

  pub bare_stays : Grows g.view old.disk old.disk (HasRecords [])
  bare_stays = grows_by_falls g.view old.disk old.disk (HasRecords []) (falls_none g.view old.disk)

  -- and where there is one
  pub some_record : (is_bare : Bool) → (IsTrue is_bare ↔ ((old.place ≡ 0) × (missing_at old.place old.state ≡ 0))) → is_bare ≡ false → 0 < old.place
  some_record is_bare tells is = elim (cases_eq old.place 0) [
    | inl front ↦ let no : false ≡ true = sym is ∙ tells.1 (front, k.whole up) in absurd (cc)
    | inr behind ↦ omega (arith, behind)
  ]

  module _ (some : 0 < old.place) (mid : D) where
    pub wrote : (image : List ℕ) → Touched (Torn 0 1) (g.view old.disk).may_leave image → EndsAt old.place bodies image ⊎ EndsAt 0 [] image
    wrote image from = torn_front old.place bodies from.0 image (ends from.0 from.1) some from.2

    pub any_moment : LeavesOnly g.view old.disk mid (Touched (Torn 0 1) (g.view old.disk).may_leave) → LeavesOnly g.view old.disk mid (AllOrNone bodies)
    any_moment run = weakened g.view old.disk mid _ (AllOrNone bodies) run (λ image from. ⊎_elim (λ all. inl (inr (old.place, all))) (λ none. inr (inr (0, none))) (wrote image from))

    pub wrote_stays : IsImage (g.view old.disk).content (g.view old.disk).may_leave → LeavesOnly g.view old.disk mid (Touched (Torn 0 1) (g.view old.disk).may_leave) → ChangesOnce g.view old.disk mid
        → ((c : List ℕ) → (g.view old.disk).left_at (g.view old.disk).moment c ↔ (g.view old.disk).may_leave c) → Grows g.view old.disk mid (HasRecords [])
    wrote_stays here run once now =
        let left = told_image (g.view old.disk).may_leave _ k.bytes k.told here in
        grows_once g.view old.disk mid (HasRecords []) _ run once (λ all c from. absurd (not_none old.place bodies k.bytes (ends k.bytes left) some (all k.bytes ((now k.bytes).1 left))))

    pub told_shut : (g.view mid).content ≡ option_map (written 0 (0 ∷ [])) (g.view old.disk).content → (g.view mid).content ≡ Some (written 0 (0 ∷ []) k.bytes)
    told_shut is = is ∙ ap (option_map (written 0 (0 ∷ []))) k.told

-- behind a closed gate at the front a cut leaves it
module _ {D : Type 0} {g : Ghosts D} (mid : Journal D g) (shut : KeepsOrNone mid []) where
  pub still_shut : (image : List ℕ) → Touched (Cut 1) (g.view mid.disk).may_leave image → EndsAt 0 [] image
  still_shut image from = cut_front from.0 image (front_of_none mid.place from.0 (shut.each from.0 from.1)) from.2

  pub through_cut : (old new : D) (bodies : List (List ℕ)) → LeavesOnly g.view old mid.disk (AllOrNone bodies) → LeavesOnly g.view mid.disk new (Touched (Cut 1) (g.view mid.disk).may_leave)
      → LeavesOnly g.view old new (AllOrNone bodies)
  through_cut old new bodies first run = continues g.view old mid.disk new (AllOrNone bodies) _ (AllOrNone bodies) first run (λ c h. h) (λ c from. inr (inr (0, still_shut c from)))

  pub cut_stays : (old new : D) → (g.view old).moment ≤ (g.view mid.disk).moment → Grows g.view old mid.disk (HasRecords []) → LeavesOnly g.view mid.disk new (Touched (Cut 1) (g.view mid.disk).may_leave)
      → Grows g.view old new (HasRecords [])
  cut_stays old new later first run = grows_on g.view old mid.disk new (HasRecords []) _ later first run (record {
    from_before = λ t from last all c left. none c (run.each t c from last left);
    within = λ t u from order last all c left. none c (run.each u c (omega (arith, from, order)) last left);
  })
    where
      none : (image : List ℕ) → Touched (Cut 1) (g.view mid.disk).may_leave image → HasRecords [] image
      none image from = inr (0, still_shut image from)
