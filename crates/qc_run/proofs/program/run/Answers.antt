use Rattle.std.proofs.Common.{refl, reverse, sym, subst, map, inl, inr}
use Rattle.std.specs.Prelude.{string_bytes}
use Rattle.qc_opening.specs.Images.{IsFirstFault, Offers}
use Rattle.qc_script.specs.Plan.{ScriptPlan}
use Rattle.qc_run.specs.Run.{journal_limit, BeganNothing, IsDiskFault, RanToEnd}
use Rattle.qc_run.specs.Words.{asked_as, place_of}
use Rattle.qc_run.proofs.Asking.{reads_no_trail}
use Rattle.qc_run.proofs.Clauses as clause
use Rattle.qc_run.proofs.Doubts.{tops_ended}
use Rattle.qc_run.proofs.Moments.{serial_orders}
use Rattle.qc_run.proofs.RunFacts.{serial_values, sound_from}
use Rattle.qc_run.proofs.Statuses.{ended_session, reported_ran, failed_ran, ran_read}
use Rattle.qc_run.proofs.Taken.{no_audit, none_was_run, proper_one, same_script, script_was_run, session_was_run, was_read}
use Rattle.qc_run.proofs.program.run.Goals as goal

pub returns-clause-legal_history : goal.returns-clause-legal_history
returns-clause-legal_history g c = clause.of_run _ g.H.Shop.view _ _ _ _ _ _ _ _ _ c.answer.ensures.answer (λ s it has. has.legal)

pub returns-clause-as_many : goal.returns-clause-as_many
returns-clause-as_many g c = clause.of_run _ g.H.Shop.view _ _ _ _ _ _ _ _ _ c.answer.ensures.answer (λ s it has. has.grown.2.mounted.mounted.as_many)

pub returns-clause-none_obtained : goal.returns-clause-none_obtained
returns-clause-none_obtained g c = clause.none_obtained _ g.H.Shop.view _ _ _ _ _ _ _ _ c.answer.ensures.answer

pub returns-clause-wanting : goal.returns-clause-wanting
returns-clause-wanting g c = clause.wanting _ g.H.Shop.view _ _ _ _ _ _ _ _ c.answer.ensures.answer

pub returns-clause-nothing_begun : goal.returns-clause-nothing_begun
returns-clause-nothing_begun g c = λ none. let it = clause.began_nothing _ g.H.Shop.view _ _ _ _ _ _ _ _ c.answer.ensures.answer none in (it.1, it.0)

pub returns-clause-serial_order : goal.returns-clause-serial_order
returns-clause-serial_order g c = clause.of_run _ g.H.Shop.view _ _ _ _ _ _ _ _ _ c.answer.ensures.answer (λ s it has. serial_orders s.table c.answer.result.start c.answer.result.trail has.legal)

pub returns-clause-last_values : goal.returns-clause-last_values
returns-clause-last_values g c = clause.of_run _ g.H.Shop.view _ _ _ _ _ _ _ _ _ c.answer.ensures.answer (λ s it has. serial_values s.table c.answer.result.start c.answer.result.trail has.legal)

pub returns-clause-begins_script : goal.returns-clause-begins_script
returns-clause-begins_script g c = clause.of_run _ g.H.Shop.view _ _ _ _ _ _ _ _ _ c.answer.ensures.answer (λ s it has. (has.epoch, has.begins))

pub returns-clause-follows_script : goal.returns-clause-follows_script
returns-clause-follows_script g c = λ ended. clause.by_run _ g.H.Shop.view _ _ _ _ _ _ _ _ _ c.answer.ensures.answer (ended_session _ ended) (λ s it wrote has. (has.epoch, has.follows ended))

pub returns-clause-started : goal.returns-clause-started
returns-clause-started g c = λ it. clause.by_script _ g.H.Shop.view _ _ _ _ _ _ _ _ _ c.answer.ensures.answer it (λ s it to. tt)

pub returns-clause-of_audit : goal.returns-clause-of_audit
returns-clause-of_audit g c = clause.of_audit _ g.H.Shop.view _ _ _ _ _ _ _ _ c.answer.ensures.answer

pub returns-clause-in_doubt : goal.returns-clause-in_doubt
returns-clause-in_doubt g c = clause.in_doubt _ g.H.Shop.view _ _ _ _ _ _ _ _ c.answer.ensures.answer

pub returns-clause-none_in_doubt : goal.returns-clause-none_in_doubt
returns-clause-none_in_doubt g c = clause.none_in_doubt _ g.H.Shop.view _ _ _ _ _ _ _ _ c.answer.ensures.answer

pub returns-clause-all_ended : goal.returns-clause-all_ended
returns-clause-all_ended g c = clause.all_have_ended _ g.H.Shop.view _ _ _ _ _ _ _ _ c.answer.ensures.answer

pub returns-clause-restores : goal.returns-clause-restores
returns-clause-restores g c = clause.of_run _ g.H.Shop.view _ _ _ _ _ _ _ _ _ c.answer.ensures.answer (λ s it has. clause.as_asked (map string_bytes c.args.words.now) it.asked _ it.is_command has.restores)

pub returns-clause-first_start : goal.returns-clause-first_start
returns-clause-first_start g c = clause.of_run _ g.H.Shop.view _ _ _ _ _ _ _ _ _ c.answer.ensures.answer (λ s it has. clause.as_asked (map string_bytes c.args.words.now) it.asked _ it.is_command has.first)

pub returns-clause-sound_start : goal.returns-clause-sound_start
returns-clause-sound_start g c =
    clause.of_run _ g.H.Shop.view _ _ _ _ _ _ _ _ _ c.answer.ensures.answer (λ s it has. clause.as_asked (map string_bytes c.args.words.now) it.asked _ it.is_command (λ none. sound_from s c.answer.result.start (proper_one (g.S.Source.view c.args.source.now).left (g.S.Source.view c.answer.new.source).left s it.asked it.is_script) (has.first none)))

pub returns-clause-images_stand : goal.returns-clause-images_stand
returns-clause-images_stand g c = clause.of_run _ g.H.Shop.view _ _ _ _ _ _ _ _ _ c.answer.ensures.answer (λ s it has. (has.epoch, has.begins, clause.as_asked (map string_bytes c.args.words.now) it.asked _ it.is_command has.stands))

pub returns-clause-images_grow : goal.returns-clause-images_grow
returns-clause-images_grow g c = clause.of_run _ g.H.Shop.view _ _ _ _ _ _ _ _ _ c.answer.ensures.answer (λ s it has. (has.epoch, has.begins, clause.as_asked (map string_bytes c.args.words.now) it.asked _ it.is_command has.grown))

pub returns-clause-come_back : goal.returns-clause-come_back
returns-clause-come_back g c = clause.came_back _ g.H.Shop.view _ _ _ _ _ _ _ _ c.answer.ensures.answer

pub returns-clause-disks : goal.returns-clause-disks
returns-clause-disks g c = clause.given _ g.H.Shop.view _ _ _ _ _ _ _ _ c.answer.ensures.answer

pub returns-clause-offers : goal.returns-clause-offers
returns-clause-offers g c = clause.others _ g.H.Shop.view _ _ _ _ _ _ _ _ c.answer.ensures.answer

pub returns-clause-paid : goal.returns-clause-paid
returns-clause-paid g c = clause.of_run _ g.H.Shop.view _ _ _ _ _ _ _ _ _ c.answer.ensures.answer (λ s it has. (has.epoch, has.begins, clause.as_asked (map string_bytes c.args.words.now) it.asked _ it.is_command has.paid))

pub returns-clause-pairs_folded : goal.returns-clause-pairs_folded
returns-clause-pairs_folded g c = λ done.
    let ended = tops_ended (reverse c.answer.result.trail) (clause.all_have_ended _ g.H.Shop.view _ _ _ _ _ _ _ _ c.answer.ensures.answer done) in
    clause.of_run _ g.H.Shop.view _ _ _ _ _ _ _ _ _ c.answer.ensures.answer (λ s it has. (has.epoch, has.begins, clause.as_asked (map string_bytes c.args.words.now) it.asked _ it.is_command (has.folded (subst RanToEnd (sym done) tt) ended)))

pub returns-clause-unable : goal.returns-clause-unable
returns-clause-unable g c = clause.of_run _ g.H.Shop.view _ _ _ _ _ _ _ _ _ c.answer.ensures.answer (λ s it has. (has.epoch, has.begins, clause.as_asked (map string_bytes c.args.words.now) it.asked _ it.is_command has.unable))

pub returns-clause-output : goal.returns-clause-output
returns-clause-output g c = λ reported. clause.by_run _ g.H.Shop.view _ _ _ _ _ _ _ _ _ c.answer.ensures.answer (reported_ran _ reported) (λ s it wrote has. clause.as_asked (map string_bytes c.args.words.now) it.asked _ it.is_command (wrote.whole reported))

pub returns-clause-output_front : goal.returns-clause-output_front
returns-clause-output_front g c = λ failed. clause.by_run _ g.H.Shop.view _ _ _ _ _ _ _ _ _ c.answer.ensures.answer (failed_ran _ failed) (λ s it wrote has. clause.as_asked (map string_bytes c.args.words.now) it.asked _ it.is_command (wrote.front failed))

pub returns-clause-output_line : goal.returns-clause-output_line
returns-clause-output_line g c = clause.told _ g.H.Shop.view _ _ _ _ _ _ _ _ c.answer.ensures.answer

pub returns-clause-output_none : goal.returns-clause-output_none
returns-clause-output_none g c = clause.kept _ g.H.Shop.view _ _ _ _ _ _ _ _ c.answer.ensures.answer

pub returns-clause-saved : goal.returns-clause-saved
returns-clause-saved g c = λ reported. clause.by_script _ g.H.Shop.view _ _ _ _ _ _ _ _ _ c.answer.ensures.answer (ran_read _ (reported_ran _ reported)) (λ s it to. clause.as_asked (map string_bytes c.args.words.now) it.asked _ it.is_command (to.saved reported))

pub returns-clause-audited : goal.returns-clause-audited
returns-clause-audited g c = λ audit. (c.answer.ensures.audited audit).0.said

pub returns-clause-audit_alone : goal.returns-clause-audit_alone
returns-clause-audit_alone g c = λ audit. let it = c.answer.ensures.audited audit in (it.0.none, it.0.no_disks, it.1)

pub returns-clause-usage : goal.returns-clause-usage
returns-clause-usage g c = clause.usage _ g.H.Shop.view _ _ _ _ _ _ _ _ c.answer.ensures.answer

pub returns-clause-script_fault : goal.returns-clause-script_fault
returns-clause-script_fault g c = clause.script_fault _ g.H.Shop.view _ _ _ _ _ _ _ _ c.answer.ensures.answer

pub returns-clause-no_script : goal.returns-clause-no_script
returns-clause-no_script g c = λ reading.
    let words = map string_bytes c.args.words.now in
    let before = (g.S.Source.view c.args.source.now).left in
    let now = (g.S.Source.view c.answer.new.source).left in
    none_was_run before now c.answer.result.status
    (λ is. clause.usage _ g.H.Shop.view _ _ _ _ _ _ _ _ c.answer.ensures.answer is (asked_as reading.0) (reading.0, reading.1, refl))
    (λ of. reads_no_trail words reading (clause.of_audit _ g.H.Shop.view _ _ _ _ _ _ _ _ c.answer.ensures.answer of))
    (λ had. elim (clause.by_script _ g.H.Shop.view _ _ _ _ _ _ _ _ (λ _. Unit {0}) c.answer.ensures.answer had (λ s it to. tt)) [
      | inl audit ↦ absurd (reads_no_trail words reading audit)
      | inr run ↦ (run.0, was_read words before now run.0 run.1.asked reading run.1.is_command run.1.is_script)
    ])

pub returns-clause-read_fault : goal.returns-clause-read_fault
returns-clause-read_fault g c = clause.read_failed _ g.H.Shop.view _ _ _ _ _ _ _ _ c.answer.ensures.answer

pub returns-clause-write_fault : goal.returns-clause-write_fault
returns-clause-write_fault g c = clause.write_failed _ g.H.Shop.view _ _ _ _ _ _ _ _ c.answer.ensures.answer

pub returns-clause-disk_fault : goal.returns-clause-disk_fault
returns-clause-disk_fault g c = clause.disk_failed _ g.H.Shop.view _ _ _ _ _ _ _ _ c.answer.ensures.answer

pub returns-clause-image_fault : goal.returns-clause-image_fault
returns-clause-image_fault g c = clause.image_failed _ g.H.Shop.view _ _ _ _ _ _ _ _ c.answer.ensures.answer

pub returns-clause-sound_images : goal.returns-clause-sound_images
returns-clause-sound_images g c = λ s images asks asked is offered sound bad fault.
    let found = clause.image_failed _ g.H.Shop.view _ _ _ _ _ _ _ _ c.answer.ensures.answer bad fault in
    let same = same_script (map string_bytes c.args.words.now) (g.S.Source.view c.args.source.now).left (g.S.Source.view c.answer.new.source).left s found.0 asks found.1 in
    let offers = (g.H.Shop.view c.args.shop.now).offers (place_of asked) in
    let first = subst (λ (t : ScriptPlan). Offers t.table offers images → IsFirstFault t.table journal_limit bad images) (sym same) (found.2 asked is images) offered in
    c.one_verdict.ensures.not_both s.table journal_limit images bad first sound

pub returns-clause-mounted_images : goal.returns-clause-mounted_images
returns-clause-mounted_images g c = λ had. clause.by_run _ g.H.Shop.view _ _ _ _ _ _ _ _ _ c.answer.ensures.answer had (λ s it wrote has. clause.as_asked (map string_bytes c.args.words.now) it.asked _ it.is_command has.sound)

pub returns-clause-room : goal.returns-clause-room
returns-clause-room g c = clause.room _ g.H.Shop.view _ _ _ _ _ _ _ _ c.answer.ensures.answer

pub returns-clause-sink_faults : goal.returns-clause-sink_faults
returns-clause-sink_faults g c = clause.sink_later _ g.H.Shop.view _ _ _ _ _ _ _ _ c.answer.ensures.answer

pub returns-clause-completes : goal.returns-clause-completes
returns-clause-completes g c = λ s asks read_well wrote_well.
    let words = map string_bytes c.args.words.now in
    let before = (g.S.Source.view c.args.source.now).left in
    script_was_run words before s c.answer.result.status _ _ asks
    (clause.script_fault _ g.H.Shop.view _ _ _ _ _ _ _ _ c.answer.ensures.answer)
    (λ of. no_audit words before s asks (clause.of_audit _ g.H.Shop.view _ _ _ _ _ _ _ _ c.answer.ensures.answer of))
    (λ usage. clause.usage _ g.H.Shop.view _ _ _ _ _ _ _ _ c.answer.ensures.answer usage asks.asked asks.is_command)
    (λ failed. (clause.read_failed _ g.H.Shop.view _ _ _ _ _ _ _ _ c.answer.ensures.answer failed).1) (clause.write_failed _ g.H.Shop.view _ _ _ _ _ _ _ _ c.answer.ensures.answer) read_well wrote_well

pub returns-clause-completes_over_disks : goal.returns-clause-completes_over_disks
returns-clause-completes_over_disks g c = λ s images asks asked is read_well wrote_well disks_well offered sound.
    session_was_run c.answer.result.status (returns-clause-completes g c s asks read_well wrote_well)
    (λ which fault.
    let found = clause.disk_failed _ g.H.Shop.view _ _ _ _ _ _ _ _ c.answer.ensures.answer which fault in
    let same = same_script (map string_bytes c.args.words.now) (g.S.Source.view c.args.source.now).left (g.S.Source.view c.answer.new.source).left s found.0 asks found.1 in
    let before = g.H.Shop.view c.args.shop.now in
    let failed = subst (λ (t : ScriptPlan). IsDiskFault g.H.D.Disk.view t.table.copies before.faults (g.H.Shop.view c.answer.new.shop).faults (before.counts (place_of asked)) c.answer.result.disks.items which) (sym same) (found.2 asked is) in
    disks_well (returns-clause-nothing_begun g c (subst BeganNothing (sym fault) tt)).1 which failed)
    (returns-clause-sound_images g c s images asks asked is offered sound)
