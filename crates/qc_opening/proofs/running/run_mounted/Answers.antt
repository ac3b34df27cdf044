-- The system is made of what was found on the disks.
use Rattle.std.proofs.Common.{◌≡◌, rules, ap, arith, length, map, ◌∙◌}
use Rattle.qc_codec.specs.Bodies as body
use Rattle.qc_codec.specs.Fields.{current_format}
use Rattle.qc_script.specs.Reading.{IsProper}
use Rattle.qc_script.specs.Steps.{plan_of_script}
use Rattle.qc_site.specs.Start.{start_of}
use Rattle.qc_opening.specs.Disks.{told_by}
use Rattle.qc_opening.specs.Pairs.{active_number, of_active}
use Rattle.qc_opening.specs.Parts.{counted_by, IsStoreOver}
use Rattle.qc_opening.proofs.Found.{active_found, bodies_found, epoch_found, limit_found, numbers_found, other_found, swapped_found}
use Rattle.qc_opening.proofs.MountedStore.{active_later, active_was, as_many, copies_found, epoch_is, kept_since, ledger_found, mounted_by, now, numbers_by, other_later, other_was, swapped_by, tell_since}
use Rattle.qc_opening.proofs.Proper.{setting_proper}
use Rattle.qc_opening.proofs.Ran.{run_from}
use Rattle.qc_opening.proofs.running.run_mounted.Goals as goal

pub blank_over-requires : goal.blank_over-requires
blank_over-requires g c =
    let told = map (λ disk. (g.D.Disk.view disk).content) g.given in
    let counts = map (λ disk. (g.D.Disk.view disk).faults) g.given in
    let store : IsStoreOver c.args.script.now.table told counts c.args.parts = search rules in
    omega (arith, store.mounted.ledger_is.mounts.mounts.next)

pub run_named-ended-requires-clause-setting : goal.run_named-ended-requires-clause-setting
run_named-ended-requires-clause-setting g c κs within =
    let told = map (λ disk. (g.D.Disk.view disk).content) g.given in
    let counts = map (λ disk. (g.D.Disk.view disk).faults) g.given in
    let table = c.args.script.now.table in
    let parts = c.args.parts in
    let proper : IsProper (plan_of_script c.args.script.now) = search rules in
    let spelled : (body.table current_format).fits table = search rules in
    let store : IsStoreOver table told counts parts = search rules in
    let all : length parts.copies.items ≡ table.copies = search rules in
    let rows = c.in-Ok.ensures.base ∙ ap (map (λ pair. start_of pair.copy)) c.as_slice-2.ensures.value in
    let m = mounted_by table told counts parts store all c.in-Ok.blank.base rows spelled c.known_range.ensures _ c.are_bytes.ensures c.records.ensures c.as_slice.result.now c.copies_are_of_bytes.ensures c.as_slice.ensures.value in
    setting_proper (plan_of_script c.args.script.now) proper (active_number m.swapped) (of_active table m.swapped (told_by (now table told counts parts store all))) (bodies_found parts.ledger parts.copies.items) parts.epoch c.in-Ok.blank.base m.mounted

pub run_named-ended-requires-clause-ledger : goal.run_named-ended-requires-clause-ledger
run_named-ended-requires-clause-ledger g c κs within =
    let told = map (λ disk. (g.D.Disk.view disk).content) g.given in
    let counts = map (λ disk. (g.D.Disk.view disk).faults) g.given in
    let table = c.args.script.now.table in
    let store : IsStoreOver table told counts c.args.parts = search rules in
    let all : length c.args.parts.copies.items ≡ table.copies = search rules in
    let rows = c.in-Ok.ensures.base ∙ ap (map (λ pair. start_of pair.copy)) c.as_slice-2.ensures.value in
    ledger_found table told counts c.args.parts store all (λ d. c.known_told.ensures d.disk.value) (length c.in-Ok.blank.base) (as_many table told counts c.args.parts store all c.in-Ok.blank.base rows)

pub run_named-ended-requires-clause-copies : goal.run_named-ended-requires-clause-copies
run_named-ended-requires-clause-copies g c κs within =
    let told = map (λ disk. (g.D.Disk.view disk).content) g.given in
    let counts = map (λ disk. (g.D.Disk.view disk).faults) g.given in
    let table = c.args.script.now.table in
    let parts = c.args.parts in
    let store : IsStoreOver table told counts parts = search rules in
    let all : length parts.copies.items ≡ table.copies = search rules in
    copies_found table told counts parts store all c.in-Ok.blank.base (c.in-Ok.ensures.base ∙ ap (map (λ pair. start_of pair.copy)) c.as_slice-2.ensures.value) (λ d. c.known_told.ensures d.disk.value)

pub returns-in-Ok-clause-ran : goal.returns-in-Ok-clause-ran
returns-in-Ok-clause-ran g c =
    let told = map (λ disk. (g.D.Disk.view disk).content) g.given in
    let counts = map (λ disk. (g.D.Disk.view disk).faults) g.given in
    let table = c.args.script.now.table in
    let parts = c.args.parts in
    let spelled : (body.table current_format).fits table = search rules in
    let store : IsStoreOver table told counts parts = search rules in
    let all : length parts.copies.items ≡ table.copies = search rules in
    let rows = c.in-Ok.ensures.base ∙ ap (map (λ pair. start_of pair.copy)) c.as_slice-2.ensures.value in
    let ran = c.run_named-ended.ensures in
    let tells = told_by (now table told counts parts store all) in (
      tells,
      tell_since table told counts parts store all,
      run_from g.D.Disk.view (plan_of_script c.args.script.now) (limit_found parts.ledger) tells (counted_by counts) (record { epoch = parts.epoch; ended = c.run_named-ended.result }) (bodies_found parts.ledger parts.copies.items)
          (numbers_found parts.ledger parts.copies.items)
          (λ pair. (active_found parts.ledger parts.copies.items pair).disk.value) (λ pair. (other_found parts.ledger parts.copies.items pair).disk.value) c.in-Ok.blank.base ran.start
          (mounted_by table told counts parts store all c.in-Ok.blank.base rows spelled c.known_range.ensures _ c.are_bytes.ensures c.records.ensures c.as_slice.result.now c.copies_are_of_bytes.ensures c.as_slice.ensures.value)
          (numbers_by table told counts parts store all c.in-Ok.blank.base rows spelled c.known_range.ensures _ c.are_bytes.ensures c.records.ensures c.as_slice.result.now c.copies_are_of_bytes.ensures c.as_slice.ensures.value)
          (swapped_found parts.ledger parts.copies.items)
          (swapped_by table told counts parts store all c.in-Ok.blank.base rows spelled c.known_range.ensures _ c.are_bytes.ensures c.records.ensures c.as_slice.result.now c.copies_are_of_bytes.ensures c.as_slice.ensures.value)
          (λ pair low. let w = active_was table told counts parts store all pair low in record { tells = w.tells; had = w.had })
          (λ pair low. let w = other_was table told counts parts store all pair low in record { tells = w.tells; had = w.had })
          (epoch_found parts.ledger) (epoch_is table told counts parts store all) (kept_since table told counts parts store all c.in-Ok.blank.base rows (λ d. c.known_told.ensures d.disk.value) g.D.Disk.view _ _ _ ran.disks) c.in-Ok.blank.epoch c.in-Ok.ensures.epoch
          (active_later table told counts parts store all, other_later table told counts parts store all)
          ran.legal ran.bounded ran.follows ran.begins ran.room,
    )
