-- What a call of a disk that stops does, seen as a disk.
use Rattle.std.proofs.Common.{◌≡◌, ◌≤◌, ℕ, ◌+◌, List, length, Some, Result, Ok, Err, inl, refl, sym, ◌∙◌, ap, subst, arith}
use Rattle.std.proofs.lemmas.List.{take_all}
use Rattle.std.specs.Result.{OnOk}
use Rattle.qc_disk.specs.Disk.{Rose, Torn, Cut, ImagesFollow, Within, Only, Elapses}
use Rattle.qc_disk.specs.Replay.{Act, nothing, wrote, cut_to, synced, leaves, images, images_at, syncs_in}
use Rattle.qc_disk.specs.Laws.{torn_same, cut_same, image_now}
use Rattle.qc_disk.specs.Tape.{tape_first, tape_acts, Applied, Untouched}
use Rattle.qc_disk.specs.declared.tape.Tape.{Tape}
use Rattle.qc_disk.specs.declared.disk.DiskNo.{DiskNo}
use Rattle.qc_disk.specs.declared.disk.DiskNo.TheVariants.{Failed, Memory}
use Rattle.qc_disk.specs.declared.stop.StopDisk.{StopDisk}
use Rattle.qc_disk.specs.StopDisk.{stop_first, stop_acts, stop_bytes, stop_refused, stop_syncs, stop_images, stop_replays, stop_view, StopTurned}
use Rattle.qc_disk.proofs.Moments.{Passes, elapses-applied, elapses-same}
use Rattle.qc_disk.proofs.Turns.{applied-left, elapsed, syncs-push, tape_images, untouched-left, within}

-- the times of a record, counted from elsewhere
abbrev PassesOver : Tape → Tape → ℕ → ℕ → Type 0
PassesOver old new before now = Passes before now (images_at (tape_first old) (tape_acts old)) (images_at (tape_first new) (tape_acts new)) (tape_images old) (tape_images new)

recounted : (old new : Tape) (before now before' now' : ℕ) → before' ≡ before → now' ≡ now → PassesOver old new before now → PassesOver old new before' now'
recounted old new before now before' now' is are passes =
    subst (λ (n : ℕ). PassesOver old new before' n) (sym are) (subst (λ (b : ℕ). PassesOver old new b now) (sym is) passes)

-- once all acts are done a crash leaves the same at each moment
passes-late : (tape : Tape) (refused later : ℕ) → refused ≤ later → PassesOver tape tape (length (tape_acts tape) + refused) (length (tape_acts tape) + later)
passes-late tape refused later more = record {
  later = omega (arith, more);
  earlier = λ t c early. (λ left. left, λ left. left);
  inside = λ t c from last left. inl (subst (λ (l : List Act). images (tape_first tape) l c) (take_all t (tape_acts tape) (omega (arith, from))) left);
  until = λ t c from early left. subst (λ (l : List Act). images (tape_first tape) l c) (sym (take_all t (tape_acts tape) (omega (arith, from)))) left;
}

pub time_worked : (old new : StopDisk) (act : Act) → stop_refused old ≡ 0 → Applied old.tape new.tape act → stop_refused new ≡ 0 → Elapses (stop_view old) (stop_view new)
time_worked old new act running applied none =
    elapsed (stop_view old) (stop_view new)
    (recounted old.tape new.tape (length (stop_acts old)) (length (stop_acts new)) _ _ (omega (arith, running)) (omega (arith, none))
    (elapses-applied _ _ _ _ _ applied.first applied.acts))

pub time_unmade : (old new : StopDisk) → stop_refused old ≡ 0 → Untouched old.tape new.tape → stop_refused new ≡ 0 → Elapses (stop_view old) (stop_view new)
time_unmade old new running same none =
    elapsed (stop_view old) (stop_view new)
    (recounted old.tape new.tape (length (stop_acts old)) (length (stop_acts new)) _ _ (omega (arith, running)) (omega (arith, none))
    (elapses-same _ _ _ _ same.first same.acts))

pub time_refused : (old new : StopDisk) → new.tape ≡ old.tape → stop_refused old ≤ stop_refused new → Elapses (stop_view old) (stop_view new)
time_refused old new same more =
    elapsed (stop_view old) (stop_view new)
    (subst (λ (tape : Tape). PassesOver old.tape tape (length (stop_acts old) + stop_refused old) (length (tape_acts tape) + stop_refused new)) (sym same)
    (passes-late old.tape (stop_refused old) (stop_refused new) more))

-- what a call leaves is among what was left before, after a step
stop-follows : {T : Type 0} (old new : StopDisk) (act : Act) (step : List ℕ → List ℕ → Type 0) (result : Result T DiskNo) → ((c : List ℕ) → step c c)
    → ((c : List ℕ) → leaves act (stop_bytes old) (tape_images old.tape) c → (d : List ℕ) × tape_images old.tape d × step d c)
    → StopTurned old new act result → ImagesFollow step (stop_images old) (stop_images new)
stop-follows old new act step (Ok answer) same acts turned = λ c left. acts c (applied-left old.tape new.tape act turned.tape (stop_replays old) c left)
stop-follows old new act step (Err Failed) same acts turned = λ c left. (c, subst (λ (tape : Tape). tape_images tape c) turned.tape left, same c)
stop-follows old new act step (Err Memory) same acts turned = λ c left. (c, untouched-left old.tape new.tape turned.tape c left, same c)

pub stop-torn : {T : Type 0} (old new : StopDisk) (at : ℕ) (bytes : List ℕ) (result : Result T DiskNo) → StopTurned old new (wrote at bytes) result → ImagesFollow (Torn at (length bytes)) (stop_images old) (stop_images new)
stop-torn old new at bytes result turned = stop-follows old new (wrote at bytes) (Torn at (length bytes)) result (torn_same at (length bytes)) (λ c left. left) turned

pub stop-cut : {T : Type 0} (old new : StopDisk) (to : ℕ) (result : Result T DiskNo) → StopTurned old new (cut_to to) result → ImagesFollow (Cut to) (stop_images old) (stop_images new)
stop-cut old new to result turned = stop-follows old new (cut_to to) (Cut to) result (cut_same to) (λ c left. left) turned

pub stop-still : {T : Type 0} (old new : StopDisk) (result : Result T DiskNo) → StopTurned old new nothing result → Within (stop_images old) (stop_images new)
stop-still old new result turned = within _ _ (stop-follows old new nothing (λ d c. c ≡ d) result (λ c. refl) (λ c left. (c, left, refl)) turned)

pub stop-sync : {T : Type 0} (old new : StopDisk) (result : Result T DiskNo) → StopTurned old new synced result → Within (stop_images old) (stop_images new)
stop-sync old new result turned =
    let here : tape_images old.tape (stop_bytes old) = image_now (stop_first old) (stop_acts old) (stop_bytes old) (stop_replays old) in
    within _ _ (stop-follows old new synced (λ d c. c ≡ d) result (λ c. refl) (λ c is. (stop_bytes old, here, is)) turned)

pub stop-durable : {T : Type 0} (old new : StopDisk) (result : Result T DiskNo) → StopTurned old new synced result → OnOk result (Only (Some (stop_bytes old)) (stop_images new))
stop-durable old new (Ok answer) turned = λ c left. applied-left old.tape new.tape synced turned.tape (stop_replays old) c left
stop-durable old new (Err e) turned = tt

pub stop-counted : {T : Type 0} (old new : StopDisk) (result : Result T DiskNo) → StopTurned old new synced result → OnOk result (Rose (stop_syncs old) (stop_syncs new))
stop-counted old new (Ok answer) turned =
    let rose : stop_syncs new ≡ stop_syncs old + 1 = ap syncs_in turned.tape.acts ∙ syncs-push (stop_acts old) in
    omega (arith, rose)
stop-counted old new (Err e) turned = tt
