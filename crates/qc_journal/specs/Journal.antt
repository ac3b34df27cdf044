-- The parts of a journal, and what its disk keeps.
use Rattle.std.specs.Prelude.{◌≡◌, ◌<◌, ◌≤◌, ◌⊎◌, ℕ, ◌+◌, ◌^◌, List, [], ◌∷◌, ◌++◌, length, Option, Some, None, Result, Ok, Err, Vec}
use Rattle.std.specs.declared.alloc.Global.{Global}
use Rattle.qc_disk.specs.declared.disk.Disk.{Ghosts}
use Rattle.qc_journal.specs.Image.{EndsAt}
use Rattle.qc_journal.specs.State.{IsUpState, missing_at, hand_of}
use Rattle.qc_journal.specs.declared.fault.Fault.{Fault}
use Rattle.qc_journal.specs.declared.fault.Fault.TheVariants.{Disk, Broken, Full, Memory}
use Rattle.qc_journal.specs.declared.journal.Journal.{Journal}

-- the disk
abbrev pub disk_of : {D : Type 0} {g : Ghosts D} → Journal D g → D
disk_of journal = journal.disk

-- where the next record goes
abbrev pub place_of : {D : Type 0} {g : Ghosts D} → Journal D g → ℕ
place_of journal = journal.place

-- the most bytes that it may come to
abbrev pub limit_of : {D : Type 0} {g : Ghosts D} → Journal D g → ℕ
limit_of journal = journal.limit

-- it is up
abbrev pub IsUp : {D : Type 0} {g : Ghosts D} → Journal D g → Type 0
IsUp journal = IsUpState journal.state

-- it is down
abbrev pub IsDown : {D : Type 0} {g : Ghosts D} → Journal D g → Type 0
IsDown journal = IsUp journal → ⊥

-- the body in hand, of one that is down
abbrev pub in_hand : {D : Type 0} {g : Ghosts D} → Journal D g → Option (List ℕ)
in_hand journal = hand_of journal.state

-- a body, behind the gate at a place, would pass the limit, or four bytes cannot say its length
abbrev pub IsTooLong : ℕ → ℕ → List ℕ → Type 0
IsTooLong place limit body = (limit < place + 6 + length body) ⊎ (2 ^ 32 ≤ length body)

-- these bodies, and the one in hand
abbrev pub with_hand : List (List ℕ) → Option (List ℕ) → List (List ℕ)
with_hand bodies None = bodies
with_hand bodies (Some body) = bodies ++ body ∷ []

-- where the gate behind the record in hand is
abbrev pub behind_hand : ℕ → Option (List ℕ) → ℕ
behind_hand place None = place
behind_hand place (Some body) = place + 5 + length body

-- an image has these records, or these and the one in hand
abbrev pub ImageStands : ℕ → List (List ℕ) → Option (List ℕ) → List ℕ → Type 0
ImageStands place bodies None image = EndsAt place bodies image
ImageStands place bodies (Some body) image = EndsAt place bodies image ⊎ EndsAt (place + 5 + length body) (bodies ++ body ∷ []) image

-- The disk tells its bytes, and whatever a crash may leave of it has these records, or these and the one in hand.
pub record Keeps {D : Type 0} {g : Ghosts D} (journal : Journal D g) (bodies : List (List ℕ)) : Type 0 where
  pub bytes : List ℕ
  pub told : (g.view journal.disk).content ≡ Some bytes
  pub each : (c : List ℕ) → (g.view journal.disk).may_leave c → ImageStands journal.place bodies (in_hand journal) c
  pub whole : IsUp journal → missing_at journal.place journal.state ≡ 0

-- The disk tells its bytes, and whatever a crash may leave of it has these records, or none.
pub record KeepsOrNone {D : Type 0} {g : Ghosts D} (journal : Journal D g) (bodies : List (List ℕ)) : Type 0 where
  pub bytes : List ℕ
  pub told : (g.view journal.disk).content ≡ Some bytes
  pub each : (c : List ℕ) → (g.view journal.disk).may_leave c → EndsAt journal.place bodies c ⊎ EndsAt 0 [] c

-- It is down, with this body in hand, at the same place.
pub record TakesInHand {D : Type 0} {g : Ghosts D} (old new : Journal D g) (body : List ℕ) : Type 0 where
  pub down : IsDown new
  pub hand : in_hand new ≡ Some body
  pub place : place_of new ≡ place_of old

-- what each fault of an append leaves
abbrev pub AppendLeaves : {D : Type 0} {g : Ghosts D} → Journal D g → Journal D g → List ℕ → Fault → Type 0
AppendLeaves old new body Disk = TakesInHand old new body
AppendLeaves old new body (Broken place) = ⊥
AppendLeaves old new body (Full place) = (place ≡ place_of old) × (new ≡ old)
AppendLeaves old new body Memory = (new ≡ old) ⊎ TakesInHand old new body

-- the disk of a journal that was mounted, or that was handed back
abbrev pub disk_after : {D : Type 0} {g : Ghosts D} → Result (Journal D g × Vec (Vec ℕ Global) Global) (D × Fault) → D
disk_after (Ok mounted) = mounted.0.disk
disk_after (Err refused) = refused.0
