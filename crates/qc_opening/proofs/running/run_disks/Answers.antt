-- The disks in places of their own are mounted as they are themselves.
use Rattle.std.proofs.Common.{ℕ, ◌≡◌, List, map, length, refl, rules, sym, subst, arith, ◌∙◌}
use Rattle.qc_codec.specs.Bodies as body
use Rattle.qc_codec.specs.Fields.{current_format}
use Rattle.qc_codec.specs.declared.image.BadImage.{BadImage}
use Rattle.qc_opening.specs.Disks.{all_places, told_by}
use Rattle.qc_opening.specs.Images.{IsFirstFault}
use Rattle.qc_opening.specs.Parts.{counted_by, disks_held, pairs_held}
use Rattle.qc_opening.specs.Refusing.{disks_in, reason_in, AreLeft, IsReasonAmong, TellImages}
use Rattle.qc_opening.specs.SinceFolds.{SinceFolds}
use Rattle.qc_opening.specs.Stored.{HasRun}
use Rattle.qc_opening.specs.declared.mount_no.MountNo.TheVariants as no
use Rattle.qc_opening.proofs.Leaving.{pairs_unrun}
use Rattle.qc_opening.proofs.Mountings.Disks.{unreached}
use Rattle.qc_opening.proofs.Mountings.Reasons.{among_also}
use Rattle.qc_opening.proofs.Mountings.Refused.{left_length}
use Rattle.qc_opening.proofs.Mountings.Row.{left_in_row}
use Rattle.qc_opening.proofs.Mountings.Stores.{pairs_many, sound_store, store_size}
use Rattle.qc_opening.proofs.Unboxed.{boxed_length, boxed_view, contents_boxed, faults_boxed, left_of, store_over}
use Rattle.qc_script.specs.Reading.{IsProper}
use Rattle.qc_script.specs.Steps.{plan_of_script}
use Rattle.qc_opening.proofs.running.run_disks.Goals as goal

pub returns-in-Err-clause-left : goal.returns-in-Err-clause-left
returns-in-Err-clause-left g c =
    let none = no.Memory c.in-Err.disks in
    subst (λ (l : List g.row.D.Denot). AreLeft g.D.Disk.view c.args.script.now.table (reason_in none) c.args.disks.items l) (sym c.in-Err.ensures.back)
    (unreached g.D.Disk.view c.known_now.ensures c.args.script.now.table (reason_in none) c.args.disks.items (λ n low failed. failed))

pub run_mounted-requires : goal.run_mounted-requires
run_mounted-requires g c κs within =
    let table = c.args.script.now.table in
    let parts = c.in-Ok-mount_disks.parts in
    let boxed = c.in-Ok.boxed.items in
    let disks = c.args.disks.items in
    let proper : IsProper (plan_of_script c.args.script.now) = search rules in
    let spelled : (body.table current_format).fits table = search rules in
    let all : length disks ≡ all_places table.copies = search rules in
    let given : disks ≡ g.given = search rules in
    let view = g.D.Disk.view in
    let same = c.in-Ok.ensures.boxed ∙ given in
    let (pairs, are, mounted) = c.in-Ok-mount_disks.ensures.store in
    let store = store_over table c.args.limit (map (λ d. (view d).content) g.given) (map (λ d. (view d).faults) g.given) boxed pairs parts are mounted (contents_boxed view boxed g.given same) (faults_boxed view boxed g.given same) in
    let size = boxed_length view boxed disks c.in-Ok.ensures.boxed ∙ all in
    let many = store_size table c.args.limit pairs parts table.copies mounted (pairs_many boxed pairs table.copies are size) in
    (within.0, (within.1.0, (within.1.1, (search rules, (search rules, (search rules, (proper, (spelled, (store, many)))))))))

pub unbox_refusal-requires-clause-room : goal.unbox_refusal-requires-clause-room
unbox_refusal-requires-clause-room g c =
    let same = left_length (boxed_view g.D.Disk.view) c.args.script.now.table (reason_in c.in-Err-mount_disks.refused) c.in-Ok.boxed.items (disks_in c.in-Err-mount_disks.refused) c.in-Err-mount_disks.ensures.left in
    let proper : IsProper (plan_of_script c.args.script.now) = search rules in
    let all : length c.args.disks.items ≡ all_places c.args.script.now.table.copies = search rules in
    let size = boxed_length g.D.Disk.view c.in-Ok.boxed.items c.args.disks.items c.in-Ok.ensures.boxed in
    omega (arith, same, size, all, proper.few_copies)

pub returns-in-Ok-run_mounted-clause-ran : goal.returns-in-Ok-run_mounted-clause-ran
returns-in-Ok-run_mounted-clause-ran g c =
    let view = g.D.Disk.view in
    let told = told_by (map (λ d. (view d).content) g.given) in
    let counts = counted_by (map (λ d. (view d).faults) g.given) in
    subst (λ most. SinceFolds c.args.script.now.table told (λ now. HasRun view (plan_of_script c.args.script.now) most now counts c.in-Ok-run_mounted.stored)) c.in-Ok-mount_disks.ensures.store.2.ledger_is.limit_is c.in-Ok-run_mounted.ensures.ran

pub returns-in-Ok-run_mounted-clause-sound : goal.returns-in-Ok-run_mounted-clause-sound
returns-in-Ok-run_mounted-clause-sound g c = λ images told.
    let table = c.args.script.now.table in
    let view = g.D.Disk.view in
    let boxed = c.in-Ok.boxed.items in
    let disks = c.args.disks.items in
    let all : length disks ≡ all_places table.copies = search rules in
    let (pairs, are, mounted) = c.in-Ok-mount_disks.ensures.store in
    sound_store table c.args.limit boxed pairs c.in-Ok-mount_disks.parts images are (boxed_length view boxed disks c.in-Ok.ensures.boxed ∙ all) mounted (contents_boxed view boxed disks c.in-Ok.ensures.boxed ∙ told)

pub returns-in-Err-run_mounted-clause-left : goal.returns-in-Err-run_mounted-clause-left
returns-in-Err-run_mounted-clause-left g c =
    let table = c.args.script.now.table in
    let view = g.D.Disk.view in
    let boxed = c.in-Ok.boxed.items in
    let disks = c.args.disks.items in
    let parts = c.in-Ok-mount_disks.parts in
    let none = no.Memory c.in-Err-run_mounted.disks in
    let all : length disks ≡ all_places table.copies = search rules in
    let (pairs, are, mounted) = c.in-Ok-mount_disks.ensures.store in
    let size = pairs_many boxed pairs table.copies are (boxed_length view boxed disks c.in-Ok.ensures.boxed ∙ all) in
    let left = left_in_row (boxed_view view) table (reason_in none) pairs size (pairs_held parts) (pairs_unrun table c.args.limit pairs parts mounted) in
    left_of view none table none boxed (disks_held parts) disks c.in-Err-run_mounted.disks.items c.in-Ok.ensures.boxed c.in-Err-run_mounted.ensures.back refl
    (subst (λ l. AreLeft (boxed_view view) table (reason_in none) l (disks_held parts)) are left)

pub returns-in-Err-mount_disks-clause-left : goal.returns-in-Err-mount_disks-clause-left
returns-in-Err-mount_disks-clause-left g c =
    let refused = c.in-Err-mount_disks.refused in
    left_of g.D.Disk.view refused c.args.script.now.table c.unbox_refusal.result c.in-Ok.boxed.items (disks_in refused) c.args.disks.items (disks_in c.unbox_refusal.result) c.in-Ok.ensures.boxed c.unbox_refusal.ensures.disks c.unbox_refusal.ensures.reason
    c.in-Err-mount_disks.ensures.left

pub returns-in-Err-mount_disks-clause-reason : goal.returns-in-Err-mount_disks-clause-reason
returns-in-Err-mount_disks-clause-reason g c =
    let table = c.args.script.now.table in
    let refused = c.in-Err-mount_disks.refused in
    let boxed = c.in-Ok.boxed.items in
    let disks = c.args.disks.items in
    let same = contents_boxed g.D.Disk.view boxed disks c.in-Ok.ensures.boxed in
    let Of : BadImage → Type 0 = λ bad. (images : List (List ℕ)) → TellImages g.D.Disk.view disks images → IsFirstFault table c.args.limit bad images in
    let OfBoxed : BadImage → Type 0 = λ bad. (images : List (List ℕ)) → TellImages (boxed_view g.D.Disk.view) boxed images → IsFirstFault table c.args.limit bad images in
    subst (λ r. IsReasonAmong 0 table.copies Of r) (sym c.unbox_refusal.ensures.reason) (among_also 0 table.copies OfBoxed Of (reason_in refused) (λ bad fault images told. fault images (same ∙ told)) c.in-Err-mount_disks.ensures.reason)
