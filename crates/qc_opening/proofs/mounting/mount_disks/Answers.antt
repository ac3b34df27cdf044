-- All pairs wait, in their order.
use Rattle.std.proofs.Common.{◌≡◌, ℕ, ◌+◌, List, length, subst, sym, arith, ◌∙◌}
use Rattle.qc_codec.proofs.Fits.{table_sized}
use Rattle.qc_codec.specs.Fields.{current_format}
use Rattle.qc_opening.specs.Disks.{FirstTells, IsPairLeft}
use Rattle.qc_opening.specs.Images.{images_in_pairs, IsFirstFault, IsFirstInPairs}
use Rattle.qc_opening.specs.Refusing.{disks_in, AreLeft, FailedAt, IsBehind, IsReasonAmong, TellImages, TellInPairs}
use Rattle.qc_opening.specs.Waiting.{waiting_in}
use Rattle.qc_opening.proofs.Mountings.Disks.{unreached}
use Rattle.qc_opening.proofs.Mountings.Numbered.{pairs_length}
use Rattle.qc_opening.proofs.Mountings.Reasons.{among_also}
use Rattle.qc_opening.proofs.Mountings.Row.{left_in_row, tell_in_pairs}
use Rattle.qc_opening.proofs.mounting.mount_disks.Goals as goal
use Rattle.qc_pair.specs.declared.fault.PairNo.{PairNo}
use Rattle.qc_pair.specs.declared.fault.PairNo.TheVariants.{Memory}
use Rattle.qc_system.specs.Pairs.{own_then_spares}

many : {room from copies : ℕ} → room ≡ from + 1 → from ≡ copies → room ≡ copies + 1
many exact is = omega (arith, exact, is)

pub new-waiting-requires : goal.new-waiting-requires
new-waiting-requires g c κs within =
    let exact = c.in-Ok.ensures.exact in
    let all = c.requires.all in
    (within, (c.in-Ok.ensures.items, (omega (arith, all, exact, c.from.ensures), omega arith)))

pub mount_all-requires-clause-all : goal.mount_all-requires-clause-all
mount_all-requires-clause-all g c = c.new-waiting.ensures.all ∙ many c.in-Ok.ensures.exact c.from.ensures

pub into_disks-requires : goal.into_disks-requires
into_disks-requires g c =
    let reason = c.in-Err.no in
    let old = waiting_in c.new-waiting.result in
    let new = waiting_in c.mount_all.new.waiting in
    let size : length new ≡ length old = pairs_length (IsPairLeft g.D.Disk.view c.args.table.now (FirstTells g.D.Disk.view old) (FailedAt reason) (IsBehind reason)) 0 old new c.in-Err.ensures.left in
    let fresh = c.new-waiting.ensures.room in
    let all = c.new-waiting.ensures.all in
    let room = c.mount_all.ensures.room (length old) (omega (arith, fresh.0, all), omega (arith, fresh.1, all)) in
    (omega (arith, size, room.0), omega (arith, size, room.1))

pub mount_all-requires-clause-few : goal.mount_all-requires-clause-few
mount_all-requires-clause-few g c = (table_sized current_format c.args.table.now c.requires.proper).copies

pub returns-in_default-clause-left : goal.returns-in_default-clause-left
returns-in_default-clause-left g c = unreached g.D.Disk.view g.met.D.Disk.leaves_now c.args.table.now Memory c.args.disks.items (λ n low failed. failed)

pub returns-in-Err-clause-left : goal.returns-in-Err-clause-left
returns-in-Err-clause-left g c =
    let view = g.D.Disk.view in
    let table = c.args.table.now in
    let old = waiting_in c.new-waiting.result in
    let new = waiting_in c.mount_all.new.waiting in
    let left : AreLeft view table c.in-Err.no (own_then_spares old) (own_then_spares new) = left_in_row view table c.in-Err.no old (c.new-waiting.ensures.all ∙ many c.in-Ok.ensures.exact c.from.ensures) new c.in-Err.ensures.left in
    let here : AreLeft view table c.in-Err.no c.args.disks.items (own_then_spares new) = subst (λ (l : List g.row.D.Denot). AreLeft view table c.in-Err.no l (own_then_spares new)) c.new-waiting.ensures.disks left in
    subst (λ (r : PairNo). AreLeft view table r c.args.disks.items (disks_in c.new.result)) (sym c.new.ensures.reason)
    (subst (λ (l : List g.row.D.Denot). AreLeft view table c.in-Err.no c.args.disks.items l) (sym (c.new.ensures.disks ∙ c.into_disks.ensures)) here)

pub returns-in-Err-clause-reason : goal.returns-in-Err-clause-reason
returns-in-Err-clause-reason g c =
    let view = g.D.Disk.view in
    let table = c.args.table.now in
    let limit = c.args.limit in
    let old = waiting_in c.new-waiting.result in
    let Among : PairNo → Type 0 = IsReasonAmong 0 table.copies (λ bad. (images : List (List ℕ)) → TellImages view c.args.disks.items images → IsFirstFault table limit bad images) in
    subst Among (sym c.new.ensures.reason)
    (among_also 0 table.copies (λ bad. (images : List (List ℕ × List ℕ)) → TellInPairs view old images → IsFirstInPairs table limit bad images)
    (λ bad. (images : List (List ℕ)) → TellImages view c.args.disks.items images → IsFirstFault table limit bad images) c.in-Err.no
    (λ bad fault images told. fault (images_in_pairs table images) (tell_in_pairs view table images old (c.new-waiting.ensures.all ∙ many c.in-Ok.ensures.exact c.from.ensures) (subst (λ (l : List g.row.D.Denot). TellImages view l images) (sym c.new-waiting.ensures.disks) told)))
    c.in-Err.ensures.reason)
