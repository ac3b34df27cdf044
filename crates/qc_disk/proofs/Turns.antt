-- What a call of a disk in memory does, seen as a disk.
use Rattle.std.proofs.Common.{◌≡◌, ◌<◌, ◌^◌, ℕ, ◌+◌, List, [], ◌∷◌, ◌++◌, length, Bool, true, false, if◌then◌else◌, Some, Result, Ok, Err, refl, sym, ◌∙◌, ap, subst, arith}
use Rattle.std.specs.Result.{IsErrOf, OnOk}
use Rattle.qc_disk.specs.Disk.{DiskView, next, Rose, HasCause, CountsOnce, Torn, Cut, ImagesFollow, Within, Only, Steps, Elapses, Stays}
use Rattle.qc_disk.specs.Replay.{Act, nothing, wrote, cut_to, synced, does, leaves, replayed, images, syncs_in}
use Rattle.qc_disk.specs.Laws.{torn_same, torn-written, cut_same, cut-taken, image_now}
use Rattle.qc_disk.specs.Tape.{tape_first, tape_acts, tape_bytes, Applied, Untouched}
use Rattle.qc_disk.specs.declared.tape.Tape.{Tape}
use Rattle.qc_disk.specs.declared.disk.DiskNo.{DiskNo}
use Rattle.qc_disk.specs.declared.disk.DiskNo.TheVariants.{Failed, Memory}
use Rattle.qc_disk.specs.declared.memory.MemDisk.{MemDisk}
use Rattle.qc_disk.specs.MemDisk.{mem_first, mem_acts, mem_bytes, mem_faults, mem_syncs, mem_replays, mem_view, Turned, Failing, Unmade}
use Rattle.qc_disk.proofs.Moments.{Passes, elapses-applied, elapses-same, leaves-applied}

abbrev images_of : MemDisk → List ℕ → Type 0
images_of disk c = images (mem_first disk) (mem_acts disk) c

abbrev pub tape_images : Tape → List ℕ → Type 0
tape_images tape c = images (tape_first tape) (tape_acts tape) c

-- the images of a tape after an act
pub applied-left : (old new : Tape) (act : Act) → Applied old new act → tape_bytes old ≡ replayed (tape_first old) (tape_acts old) → (c : List ℕ) → tape_images new c → leaves act (tape_bytes old) (tape_images old) c
applied-left old new act applied is c left =
    let there = leaves-applied (tape_first old) (tape_first new) (tape_acts old) (tape_acts new) act applied.first applied.acts c left in
    subst (λ (b : List ℕ). leaves act b (tape_images old) c) (sym is) there

-- those of one that is not touched
pub untouched-left : (old new : Tape) → Untouched old new → (c : List ℕ) → tape_images new c → tape_images old c
untouched-left old new same c left =
    subst (λ (l : List Act). images (tape_first old) l c) same.acts (subst (λ (f : List ℕ). images f (tape_acts new) c) same.first left)

untouched-back : (old new : Tape) → Untouched old new → (c : List ℕ) → tape_images old c → tape_images new c
untouched-back old new same c left =
    subst (λ (f : List ℕ). images f (tape_acts new) c) (sym same.first) (subst (λ (l : List Act). images (tape_first old) l c) (sym same.acts) left)

-- the same answer, of another type of result
pub turned-err : (T U : Type 0) (old new : MemDisk) (act : Act) (e : DiskNo) → Turned {T = T} old new act (Err e) → Turned {T = U} old new act (Err e)
turned-err T U old new act Failed turned = turned
turned-err T U old new act Memory turned = turned

-- time goes on for a disk as it does for its record
pub elapsed : (before now : DiskView) → Passes before.moment now.moment before.left_at now.left_at before.may_leave now.may_leave → Elapses before now
elapsed before now time = record { later = time.later; earlier = time.earlier; inside = time.inside; until = time.until }

pub turn-time : {T : Type 0} (old new : MemDisk) (act : Act) (result : Result T DiskNo) → Turned old new act result
    → Elapses (mem_view old) (mem_view new)
turn-time old new act (Ok answer) turned = elapsed (mem_view old) (mem_view new) (elapses-applied _ _ _ _ _ turned.tape.first turned.tape.acts)
turn-time old new act (Err Failed) turned = elapsed (mem_view old) (mem_view new) (elapses-applied _ _ _ _ _ turned.tape.first turned.tape.acts)
turn-time old new act (Err Memory) turned = elapsed (mem_view old) (mem_view new) (elapses-same _ _ _ _ turned.tape.first turned.tape.acts)

-- a count that stays, or that rises
stays-cause : (before now : ℕ) (P : Type 0) → now ≡ before → (P → ⊥) → HasCause before now P
stays-cause before now P same never = record { later = omega arith; failed = λ failed. absurd (never failed) }

rises-cause : (before now : ℕ) (P : Type 0) → before < 2 ^ 64 → now ≡ next before → HasCause before now P
rises-cause before now P small rose = record { later = omega arith; failed = λ _. omega arith }

pub turn-cause : {T : Type 0} (old new : MemDisk) (act : Act) (result : Result T DiskNo) → mem_faults old < 2 ^ 64 → Turned old new act result → HasCause (mem_faults old) (mem_faults new) (IsErrOf result Failed)
turn-cause old new act (Ok answer) small turned = stays-cause _ _ _ turned.faults (λ is. cc)
turn-cause old new act (Err Failed) small turned = rises-cause _ _ _ small turned.faults
turn-cause old new act (Err Memory) small turned = stays-cause _ _ _ turned.faults (λ is. cc)

-- each of these rises once at most
stays-once : (before now : ℕ) (P : Type 0) → now ≡ before → CountsOnce before now P
stays-once before now P same = record { once = omega arith; spared = λ never. same }

rises-once : (before now : ℕ) (P : Type 0) → now ≡ next before → P → CountsOnce before now P
rises-once before now P rose failed = record { once = omega (arith, rose); spared = λ never. absurd (never failed) }

pub turn-once : {T : Type 0} (old new : MemDisk) (act : Act) (result : Result T DiskNo) → Turned old new act result → CountsOnce (mem_faults old) (mem_faults new) (IsErrOf result Failed)
turn-once old new act (Ok answer) turned = stays-once _ _ _ turned.faults
turn-once old new act (Err Failed) turned = rises-once _ _ _ turned.faults refl
turn-once old new act (Err Memory) turned = stays-once _ _ _ turned.faults

unmade-stays : (old new : MemDisk) → Unmade old new → Stays (mem_view old) (mem_view new)
unmade-stays old new unmade = record {
  content = ap Some unmade.tape.bytes;
  size = ap length unmade.tape.bytes;
  images = λ c. (untouched-left old.tape new.tape unmade.tape c, untouched-back old.tape new.tape unmade.tape c);
  faults = unmade.faults;
}

pub turn-memory : {T : Type 0} (old new : MemDisk) (act : Act) (result : Result T DiskNo) → Turned old new act result → IsErrOf result Memory
    → Stays (mem_view old) (mem_view new)
turn-memory old new act (Ok answer) turned is = absurd (cc)
turn-memory old new act (Err Failed) turned is = absurd (cc)
turn-memory old new act (Err Memory) turned is = unmade-stays old new turned

-- what a listed call leaves, by whether it did its work
failing-left : (old new : MemDisk) (act : Act) (step : List ℕ → List ℕ → Type 0) → ((c : List ℕ) → step c c) → ((c : List ℕ) → leaves act (mem_bytes old) (images_of old) c → (d : List ℕ) × images_of old d × step d c)
    → Failing old new act → ImagesFollow step (images_of old) (images_of new)
failing-left old new act step same acts failing c left =
    by failing.done (applied-left old.tape new.tape _ failing.tape (mem_replays old) c left)
  where
    by : (done : Bool) → leaves (if done then act else nothing) (mem_bytes old) (images_of old) c → (d : List ℕ) × images_of old d × step d c
    by true left = acts c left
    by false left = (c, left, same c)

pub turn-follows : {T : Type 0} (old new : MemDisk) (act : Act) (step : List ℕ → List ℕ → Type 0) (result : Result T DiskNo) → ((c : List ℕ) → step c c) → ((c : List ℕ) → leaves act (mem_bytes old) (images_of old) c → (d : List ℕ) × images_of old d × step d c)
    → Turned old new act result → ImagesFollow step (images_of old) (images_of new)
turn-follows old new act step (Ok answer) same acts turned = λ c left. acts c (applied-left old.tape new.tape act turned.tape (mem_replays old) c left)
turn-follows old new act step (Err Failed) same acts turned = failing-left old new act step same acts turned
turn-follows old new act step (Err Memory) same acts turned = λ c left. (c, untouched-left old.tape new.tape turned.tape c left, same c)

pub turn-torn : {T : Type 0} (old new : MemDisk) (at : ℕ) (bytes : List ℕ) (result : Result T DiskNo) → Turned old new (wrote at bytes) result → ImagesFollow (Torn at (length bytes)) (images_of old) (images_of new)
turn-torn old new at bytes result turned = turn-follows old new (wrote at bytes) (Torn at (length bytes)) result (torn_same at (length bytes)) (λ c left. left) turned

pub turn-cut : {T : Type 0} (old new : MemDisk) (to : ℕ) (result : Result T DiskNo) → Turned old new (cut_to to) result → ImagesFollow (Cut to) (images_of old) (images_of new)
turn-cut old new to result turned = turn-follows old new (cut_to to) (Cut to) result (cut_same to) (λ c left. left) turned

-- there are no images but the old ones
pub within : (before now : List ℕ → Type 0) → ImagesFollow (λ d c. c ≡ d) before now → Within before now
within before now follows c left = let from = follows c left in subst before (sym from.2) from.1

pub turn-still : {T : Type 0} (old new : MemDisk) (result : Result T DiskNo) → Turned old new nothing result → Within (images_of old) (images_of new)
turn-still old new result turned = within _ _ (turn-follows old new nothing (λ d c. c ≡ d) result (λ c. refl) (λ c left. (c, left, refl)) turned)

pub turn-sync : {T : Type 0} (old new : MemDisk) (result : Result T DiskNo) → Turned old new synced result → Within (images_of old) (images_of new)
turn-sync old new result turned =
    let here : images_of old (mem_bytes old) = image_now (mem_first old) (mem_acts old) (mem_bytes old) (mem_replays old) in
    within _ _ (turn-follows old new synced (λ d c. c ≡ d) result (λ c. refl) (λ c is. (mem_bytes old, here, is)) turned)

pub turn-durable : {T : Type 0} (old new : MemDisk) (result : Result T DiskNo) → Turned old new synced result → OnOk result (Only (Some (mem_bytes old)) (images_of new))
turn-durable old new (Ok answer) turned = λ c left. applied-left old.tape new.tape synced turned.tape (mem_replays old) c left
turn-durable old new (Err e) turned = tt

-- what a listed call makes of the bytes
failing-steps : (old new : MemDisk) (act : Act) (step : List ℕ → List ℕ → Type 0) → step (mem_bytes old) (mem_bytes old) → step (mem_bytes old) (does act (mem_bytes old)) → Failing old new act → Steps step (Some (mem_bytes old)) (Some (mem_bytes new))
failing-steps old new act step same acts failing = (mem_bytes new, refl, subst (step (mem_bytes old)) (sym failing.tape.bytes) (by failing.done))
  where
    by : (done : Bool) → step (mem_bytes old) (does (if done then act else nothing) (mem_bytes old))
    by true = acts
    by false = same

turn-steps : {T : Type 0} (old new : MemDisk) (act : Act) (step : List ℕ → List ℕ → Type 0) (result : Result T DiskNo) → step (mem_bytes old) (mem_bytes old) → step (mem_bytes old) (does act (mem_bytes old)) → Turned old new act result → IsErrOf result Failed → Steps step (Some (mem_bytes old)) (Some (mem_bytes new))
turn-steps old new act step (Ok answer) same acts turned is = absurd (cc)
turn-steps old new act step (Err Failed) same acts turned is = failing-steps old new act step same acts turned
turn-steps old new act step (Err Memory) same acts turned is = absurd (cc)

pub turn-written_failed : {T : Type 0} (old new : MemDisk) (at : ℕ) (bytes : List ℕ) (result : Result T DiskNo) → Turned old new (wrote at bytes) result → IsErrOf result Failed → Steps (Torn at (length bytes)) (Some (mem_bytes old)) (Some (mem_bytes new))
turn-written_failed old new at bytes result turned is = turn-steps old new (wrote at bytes) (Torn at (length bytes)) result (torn_same at (length bytes) (mem_bytes old)) (torn-written at bytes (mem_bytes old)) turned is

pub turn-cut_failed : {T : Type 0} (old new : MemDisk) (to : ℕ) (result : Result T DiskNo) → Turned old new (cut_to to) result → IsErrOf result Failed → Steps (Cut to) (Some (mem_bytes old)) (Some (mem_bytes new))
turn-cut_failed old new to result turned is = turn-steps old new (cut_to to) (Cut to) result (cut_same to (mem_bytes old)) (cut-taken to (mem_bytes old)) turned is

-- a call whose work changes no byte leaves them
failing-bytes : (old new : MemDisk) (act : Act) → does act (mem_bytes old) ≡ mem_bytes old → Failing old new act → mem_bytes new ≡ mem_bytes old
failing-bytes old new act same failing = failing.tape.bytes ∙ by failing.done
  where
    by : (done : Bool) → does (if done then act else nothing) (mem_bytes old) ≡ mem_bytes old
    by true = same
    by false = refl

pub turn-bytes : {T : Type 0} (old new : MemDisk) (act : Act) (result : Result T DiskNo) → does act (mem_bytes old) ≡ mem_bytes old → Turned old new act result → mem_bytes new ≡ mem_bytes old
turn-bytes old new act (Ok answer) same turned = turned.tape.bytes ∙ same
turn-bytes old new act (Err Failed) same turned = failing-bytes old new act same turned
turn-bytes old new act (Err Memory) same turned = turned.tape.bytes

-- one more sync in a record
pub syncs-push : (acts : List Act) → syncs_in (acts ++ synced ∷ []) ≡ syncs_in acts + 1
syncs-push [] = refl
syncs-push (nothing ∷ acts) = syncs-push acts
syncs-push (wrote at bytes ∷ acts) = syncs-push acts
syncs-push (cut_to to ∷ acts) = syncs-push acts
syncs-push (synced ∷ acts) = ap (λ n. n + 1) (syncs-push acts)

pub turn-counted : {T : Type 0} (old new : MemDisk) (result : Result T DiskNo) → Turned old new synced result → OnOk result (Rose (mem_syncs old) (mem_syncs new))
turn-counted old new (Ok answer) turned =
    let rose : mem_syncs new ≡ mem_syncs old + 1 = ap syncs_in turned.tape.acts ∙ syncs-push (mem_acts old) in
    omega (arith, rose)
turn-counted old new (Err e) turned = tt
