-- What a refused record leaves in hand.
use Rattle.std.proofs.Common.{◌≡◌, ◌⊎◌, inl, inr, ⊎_elim, ℕ, ◌+◌, List, length, sym, ap, ◌∙◌, subst, arith}
use Rattle.std.proofs.lemmas.Bool.{cases_lt}
use Rattle.std.specs.Prelude.{◌↔◌, ◌^◌, Option, None, Some, OnOk, Result, Ok, Err}
use Rattle.qc_disk.specs.Disk.{IsImage}
use Rattle.qc_disk.specs.declared.disk.Disk.{Ghosts}
use Rattle.qc_event.specs.History.{Name}
use Rattle.qc_journal.specs.Image.{HasAt, HasRecords}
use Rattle.qc_journal.specs.Journal.{AppendLeaves, IsDown, IsTooLong, IsUp, Keeps, ImageStands, TakesInHand, disk_of, in_hand, limit_of, place_of, with_hand}
use Rattle.qc_journal.specs.State.{IsUpState}
use Rattle.qc_journal.specs.declared.journal.State.{State}
use Rattle.qc_journal.specs.declared.journal.State.TheVariants.{Up, Down}
use Rattle.qc_journal.specs.declared.fault.Fault.{Fault}
use Rattle.qc_journal.specs.declared.fault.Fault.TheVariants.{Disk, Broken, Full, Memory}
use Rattle.qc_ledger.specs.Refusing.{log_no}
use Rattle.qc_journal.specs.declared.journal.Journal.{Journal}
use Rattle.qc_journal.proofs.Moments.{continues, grows_by_falls, grows_on, weakened}
use Rattle.qc_ledger.specs.Entered.{GrowsBy}
use Rattle.qc_ledger.specs.Runs.{Falls, HasOrMore, Leaves, LosesNone}
use Rattle.qc_ledger.proofs.Writing.{kept_has}
use Rattle.qc_ledger.specs.Shelf.{EndsWithin, IsIdle, IsUnsure, LogLeaves}
use Rattle.qc_ledger.specs.declared.shelf.Shelf.{Shelf}

module _ {D : Type 0} {g : Ghosts D} (old new : Shelf D g) (top : Name) (body : List ℕ) (up : IsUp old.journal) (none : old.hand ≡ None)
    (kept : IsUp new.journal → new.hand ≡ old.hand) (taken : IsDown new.journal → new.hand ≡ Some top) where
  unsure : TakesInHand old.journal new.journal body → IsUnsure new (place_of old.journal) top body
  unsure takes = record { down = takes.down; hand = taken takes.down; in_journal = takes.hand; at = takes.place }

  idle : new.journal ≡ old.journal → IsIdle new (place_of old.journal)
  idle same = let stays = subst IsUp (sym same) up in record { up = stays; none = kept stays ∙ none; at = ap place_of same }

  pub write_left : (fault : Fault) → AppendLeaves old.journal new.journal body fault → LogLeaves old new top body (log_no fault)
  write_left Disk left = unsure left
  write_left (Broken place) left = absurd left
  write_left (Full place) left = (left.0, left.1, kept (subst IsUp (sym left.1) up))
  write_left Memory left = ⊎_elim (λ same. inl (idle same)) (λ takes. inr (unsure takes)) left

-- a record that was written, and that would not have passed the limit
module _ {D : Type 0} {g : Ghosts D} (old new : Journal D g) (body : List ℕ) (limit : limit_of new ≡ limit_of old) where
  ends_within : place_of new ≡ place_of old + 5 + length body → (IsTooLong (place_of old) (limit_of old) body → ⊥) → EndsWithin new body
  ends_within place short = record {
    behind = omega (arith, place);
    within = elim (cases_lt (limit_of old) (place_of old + 6 + length body)) [ inl long ↦ absurd (short (inl long)) | inr room ↦ omega (arith, place, limit, room) ];
    sized = elim (cases_lt (length body) (2 ^ 32)) [ inl small ↦ small | inr large ↦ absurd (short (inr large)) ];
  }

  pub append_ends : {T : Type 0} (r : Result T Fault) → OnOk r (place_of new ≡ place_of old + 5 + length body)
      → (r ≡ Err (Full (place_of old))) ↔ IsTooLong (place_of old) (limit_of old) body → OnOk r (EndsWithin new body)
  append_ends (Ok x) place full = ends_within place (λ long. absurd (let never = full.1 long in cc))
  append_ends (Err fault) place full = tt

-- what is not down is up
pub up_by : (state : State) → ((IsUpState state → ⊥) → ⊥) → IsUpState state
up_by (Up missing) never = tt
up_by (Down held) never = absurd (never (λ up. up))

-- an image of a journal with this body in hand
pub stands_more : (place : ℕ) (bodies : List (List ℕ)) (hand : Option (List ℕ)) (body image : List ℕ) → hand ≡ Some body → ImageStands place bodies hand image → HasOrMore bodies body image
stands_more place bodies hand body image is stands = by (subst (λ h. ImageStands place bodies h image) is stands)
  where
    by : ImageStands place bodies (Some body) image → HasOrMore bodies body image
    by (inl ends) = inl (inr (place, ends))
    by (inr ends) = inr (inr (_, ends))

-- WHAT A CALL LEAVES AT EACH MOMENT

told_image : (content : Option (List ℕ)) (images : List ℕ → Type 0) (bytes : List ℕ) → content ≡ Some bytes → IsImage content images → images bytes
told_image content images bytes told is = subst (λ (o : Option (List ℕ)). IsImage o images) told is

stands_has : (place : ℕ) (bodies : List (List ℕ)) (hand : Option (List ℕ)) (c : List ℕ) → ImageStands place bodies hand c → HasRecords bodies c ⊎ HasRecords (with_hand bodies hand) c
stands_has place bodies None c ends = inl (inr (place, ends))
stands_has place bodies (Some body) c (inl ends) = inl (inr (place, ends))
stands_has place bodies (Some body) c (inr ends) = inr (inr (_, ends))

module _ {D : Type 0} {g : Ghosts D} where
  -- an image from before has grown by nothing
  pub not_grown : (old : Journal D g) (bodies : List (List ℕ)) (body image : List ℕ) → Keeps old bodies → (g.view (disk_of old)).may_leave image → GrowsBy body (g.view (disk_of old)).may_leave image
  not_grown old bodies body image k left = ⊎_elim
      (λ has. record { earlier = image; was_left = left; bodies = bodies; had = has; has = inl has })
      (λ has. record { earlier = image; was_left = left; bodies = with_hand bodies (in_hand old); had = has; has = inl has })
      (stands_has old.place bodies (in_hand old) image (k.each image left))

  -- one record more is written
  pub grew_by : (old new : Journal D g) (body : List ℕ) (found : List (List ℕ)) → Keeps old found → IsUp old → IsImage (g.view (disk_of old)).content (g.view (disk_of old)).may_leave
      → Leaves old new (HasOrMore found body) → Leaves old new (GrowsBy body (g.view (disk_of old)).may_leave)
  grew_by old new body found now up here run =
      let left = told_image (g.view (disk_of old)).content (g.view (disk_of old)).may_leave now.bytes now.told here in
      weakened g.view (disk_of old) (disk_of new) (HasOrMore found body) (GrowsBy body (g.view (disk_of old)).may_leave) run
      (λ image has. record { earlier = now.bytes; was_left = left; bodies = found; had = kept_has old found now.bytes up now left; has = has })

  -- at its moment a crash leaves of a disk what it may leave
  abbrev pub LeavesNow : Journal D g → Type 0
  LeavesNow journal = (c : List ℕ) → (g.view (disk_of journal)).left_at (g.view (disk_of journal)).moment c ↔ (g.view (disk_of journal)).may_leave c

  left_behind : (old mid : Journal D g) (P : List ℕ → Type 0) → LeavesNow mid → Leaves old mid P → (c : List ℕ) → (g.view (disk_of mid)).may_leave c → P c
  left_behind old mid P law first c left = first.each (g.view (disk_of mid)).moment c first.later (omega arith) ((law c).1 left)

  -- calls, and then some that leave nothing new
  pub then_none : (old mid new : Journal D g) (P : List ℕ → Type 0) → LeavesNow mid → Leaves old mid P → Leaves mid new (g.view (disk_of mid)).may_leave → Leaves old new P
  then_none old mid new P law first last = continues g.view (disk_of old) (disk_of mid) (disk_of new) P (g.view (disk_of mid)).may_leave P first last (λ c h. h) (left_behind old mid P law first)

  -- calls that leave nothing new, and then one record more
  pub then_grew : (old mid new : Journal D g) (body : List ℕ) (bodies : List (List ℕ)) → Keeps old bodies → LeavesNow mid → Leaves old mid (g.view (disk_of old)).may_leave
      → Leaves mid new (GrowsBy body (g.view (disk_of mid)).may_leave) → Leaves old new (GrowsBy body (g.view (disk_of old)).may_leave)
  then_grew old mid new body bodies k law first last =
      continues g.view (disk_of old) (disk_of mid) (disk_of new) (g.view (disk_of old)).may_leave (GrowsBy body (g.view (disk_of mid)).may_leave) (GrowsBy body (g.view (disk_of old)).may_leave) first last
      (λ c left. not_grown old bodies body c k left)
      (λ c grew. record { earlier = grew.earlier; was_left = left_behind old mid (g.view (disk_of old)).may_leave law first grew.earlier grew.was_left; bodies = grew.bodies; had = grew.had; has = grew.has })

  -- no record is lost over both
  pub loses_none_on : (old mid new : Journal D g) (P Q : List ℕ → Type 0) → Leaves old mid P → Leaves mid new Q → LosesNone old mid → LosesNone mid new → LosesNone old new
  loses_none_on old mid new P Q first last one two index had = grows_on g.view (disk_of old) (disk_of mid) (disk_of new) (HasAt index had) Q first.later (one index had) last (two index had)

  pub falls_grow : (old new : Journal D g) → Falls old new → LosesNone old new
  falls_grow old new falls index had = grows_by_falls g.view (disk_of old) (disk_of new) (HasAt index had) falls

  pub same_moments : (old mid : Journal D g) (body : List ℕ) (bodies : List (List ℕ)) → Keeps old bodies → Leaves old mid (g.view (disk_of old)).may_leave → Leaves old mid (GrowsBy body (g.view (disk_of old)).may_leave)
  same_moments old mid body bodies k first =
      weakened g.view (disk_of old) (disk_of mid) (g.view (disk_of old)).may_leave (GrowsBy body (g.view (disk_of old)).may_leave) first (λ image left. not_grown old bodies body image k left)
