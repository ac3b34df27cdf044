-- What a record of calls says of a disk: its content, and what a crash may leave of it.
use Rattle.std.specs.Prelude.{◌≡◌, ℕ, ◌+◌, List, [], ◌∷◌, length, take, Option, Some, None, Bool, if◌then◌else◌, ◌==◌}
use Rattle.qc_disk.specs.Disk.{written, Torn, Cut}
use Rattle.qc_disk.specs.declared.faults.FailAt.{FailAt}
use Rattle.qc_disk.specs.declared.tape.Deed.{Deed}
use Rattle.qc_disk.specs.declared.tape.Deed.TheVariants as deed

-- what a call did
pub data Act : Type 0 where
  nothing : Act
  wrote : ℕ → List ℕ → Act
  cut_to : ℕ → Act
  synced : Act

-- what a deed does, with the bytes that it writes
abbrev pub act_of : Deed → List ℕ → Act
act_of deed.Nothing bytes = nothing
act_of (deed.Write at) bytes = wrote at bytes
act_of (deed.Cut to) bytes = cut_to to
act_of deed.Sync bytes = synced

-- whether a call is listed, and whether it does its work then
abbrev pub fault_at : List FailAt → ℕ → Option Bool
fault_at [] call = None
fault_at (fail ∷ fails) call = if fail.call == call then Some fail.done else fault_at fails call

-- the content after an act
abbrev pub does : Act → List ℕ → List ℕ
does nothing now = now
does (wrote at bytes) now = written at bytes now
does (cut_to to) now = take to now
does synced now = now

-- what a crash may leave after an act, of a disk with a content and with images
abbrev pub leaves : Act → List ℕ → (List ℕ → Type 0) → List ℕ → Type 0
leaves nothing now images c = images c
leaves (wrote at bytes) now images c = (d : List ℕ) × images d × Torn at (length bytes) d c
leaves (cut_to to) now images c = (d : List ℕ) × images d × Cut to d c
leaves synced now images c = c ≡ now

-- the content after these acts, the oldest first
abbrev pub replayed : List ℕ → List Act → List ℕ
replayed now [] = now
replayed now (act ∷ acts) = replayed (does act now) acts

-- what is synced after an act, of a disk with a content
abbrev pub syncs : Act → List ℕ → List ℕ → List ℕ
syncs nothing now at_sync = at_sync
syncs (wrote at bytes) now at_sync = at_sync
syncs (cut_to to) now at_sync = at_sync
syncs synced now at_sync = now

-- what is synced after these acts
abbrev pub last_synced : List ℕ → List ℕ → List Act → List ℕ
last_synced at_sync now [] = at_sync
last_synced at_sync now (act ∷ acts) = last_synced (syncs act now at_sync) (does act now) acts

-- the content after these acts, or what was synced then, of a disk that was made with these bytes
abbrev pub image_after : List ℕ → List Act → Bool → List ℕ
image_after first acts done = if done then replayed first acts else last_synced first first acts

-- what a crash may leave after these acts
abbrev pub left_after : List ℕ → (List ℕ → Type 0) → List Act → List ℕ → Type 0
left_after now images [] c = images c
left_after now images (act ∷ acts) c = left_after (does act now) (leaves act now images) acts c

-- what a crash may leave of a disk that was made with these bytes, after these acts
abbrev pub images : List ℕ → List Act → List ℕ → Type 0
images first acts c = left_after first (λ d. d ≡ first) acts c

-- what a crash might have left after the first t acts
abbrev pub images_at : List ℕ → List Act → ℕ → List ℕ → Type 0
images_at first acts t c = images first (take t acts) c

-- how many of these acts are syncs
abbrev pub syncs_in : List Act → ℕ
syncs_in [] = 0
syncs_in (nothing ∷ acts) = syncs_in acts
syncs_in (wrote at bytes ∷ acts) = syncs_in acts
syncs_in (cut_to to ∷ acts) = syncs_in acts
syncs_in (synced ∷ acts) = syncs_in acts + 1
