-- The ledger, and the copies behind it.
use Rattle.std.proofs.Common.{◌≡◌, ℕ, List, ◌∷◌, length, ap, ap₂, arith, ◌∙◌}
use Rattle.qc_opening.specs.Disks.{FirstTells, IsPairLeft}
use Rattle.qc_opening.specs.Images.{IsFirstInPairs}
use Rattle.qc_opening.specs.Refusing.{ArePairsLeft, FailedAt, IsBehind, IsReasonAmong, TellInPairs}
use Rattle.qc_opening.specs.Waiting.{waiting_in}
use Rattle.qc_opening.proofs.Mountings.Numbered.{pairs_length}
use Rattle.qc_opening.proofs.Mountings.Stores.{by_err, left_at_ledger, left_behind, reason_behind, reason_of_ledger}
use Rattle.qc_opening.proofs.mounting.mount_all.Goals as goal

pub returns-in_err-ledger-clause-left : goal.returns-in_err-ledger-clause-left
returns-in_err-ledger-clause-left g c =
    let old = waiting_in c.args.waiting.now in
    let new = waiting_in c.mount_ledger.new.waiting in
    let reason = c.in_err-ledger.field-0.0 in
    by_err c.from_residual.result reason (λ r. ArePairsLeft g.D.Disk.view c.args.table.now (FirstTells g.D.Disk.view old) r 0 old new) c.from_residual.ensures.1
    (left_at_ledger c.args.table.now c.args.limit reason old new (omega (arith, c.requires.all, c.requires.few)) c.in_err-ledger.ensures.refused g.met.D.Disk.leaves_now)

pub returns-in_err-ledger-clause-reason : goal.returns-in_err-ledger-clause-reason
returns-in_err-ledger-clause-reason g c =
    let old = waiting_in c.args.waiting.now in
    let new = waiting_in c.mount_ledger.new.waiting in
    let reason = c.in_err-ledger.field-0.0 in
    let most = c.args.table.now.copies in
    by_err c.from_residual.result reason (IsReasonAmong 0 most (λ bad. (images : List (List ℕ × List ℕ)) → TellInPairs g.D.Disk.view old images → IsFirstInPairs c.args.table.now c.args.limit bad images)) c.from_residual.ensures.1
    (reason_of_ledger c.args.table.now c.args.limit reason old new (omega (arith, c.requires.all, c.requires.few)) c.in_err-ledger.ensures.refused most)

pub mount_copies-requires-clause-all : goal.mount_copies-requires-clause-all
mount_copies-requires-clause-all g c = omega (arith, ap length c.in_ok-ledger.ensures.mounted.old_is, c.requires.all)

pub mount_copies-requires-clause-room : goal.mount_copies-requires-clause-room
mount_copies-requires-clause-room g c =
    let room = c.mount_ledger.ensures.room (length (waiting_in c.args.waiting.now)) c.requires.room in
    let size = ap length c.in_ok-ledger.ensures.mounted.old_is in
    (omega (arith, room.0, size), omega (arith, room.1, size))

pub put_back-requires : goal.put_back-requires
put_back-requires g c =
    let reason = c.in-Err.no in
    let taken = c.in_ok-ledger.ensures.mounted in
    let many = pairs_length (IsPairLeft g.D.Disk.view c.args.table.now (λ p. p ≡ c.in_ok-ledger.past) (FailedAt reason) (IsBehind reason)) 1 (waiting_in c.mount_ledger.new.waiting) (waiting_in c.mount_copies.new.waiting) c.in-Err.ensures.left in
    let room = c.mount_copies.ensures.room (length (waiting_in c.args.waiting.now)) (c.mount_ledger.ensures.room (length (waiting_in c.args.waiting.now)) c.requires.room) in
    let size = ap length taken.old_is in
    (omega (arith, room.0, size, many), omega (arith, room.1, size, many))

pub returns-in-Ok-clause-store : goal.returns-in-Ok-clause-store
returns-in-Ok-clause-store g c =
    let taken = c.in_ok-ledger.ensures.mounted in
    record {
      ledger_pair = taken.first;
      copy_pairs = waiting_in c.mount_ledger.new.waiting;
      pairs_are = taken.old_is;
      ledger_is = taken.has;
      copies_are = c.in-Ok.ensures.copies;
    }

pub returns-in-Err-clause-left : goal.returns-in-Err-clause-left
returns-in-Err-clause-left g c =
    let after = waiting_in c.mount_copies.new.waiting in
    left_behind c.args.table.now c.args.limit c.in_ok-ledger.ledger c.in_ok-ledger.past c.in_ok-ledger.epoch (waiting_in c.args.waiting.now) (waiting_in c.mount_ledger.new.waiting) c.in_ok-ledger.ensures.mounted
    c.args.table.now.copies c.requires.few c.in-Err.no c.in-Err.ensures.reason after (waiting_in c.put_back.new.self) c.in-Err.ensures.left
    (c.put_back.ensures.pairs ∙ ap₂ (λ (a b : g.row.D.Denot). (a, b) ∷ after) c.into_disks-disk.ensures.own c.into_disks-disk.ensures.spare)

pub returns-in-Err-clause-reason : goal.returns-in-Err-clause-reason
returns-in-Err-clause-reason g c =
    reason_behind c.args.table.now c.args.limit c.in_ok-ledger.ledger c.in_ok-ledger.past c.in_ok-ledger.epoch (waiting_in c.args.waiting.now) (waiting_in c.mount_ledger.new.waiting) c.in_ok-ledger.ensures.mounted
    c.args.table.now.copies c.requires.few c.in-Err.no c.in-Err.ensures.reason

pub returns-in-Ok-clause-room : goal.returns-in-Ok-clause-room
returns-in-Ok-clause-room g c = λ pairs room. c.mount_copies.ensures.room pairs (c.mount_ledger.ensures.room pairs room)

pub returns-in-Err-clause-room : goal.returns-in-Err-clause-room
returns-in-Err-clause-room g c = λ pairs room. c.put_back.ensures.room pairs (c.mount_copies.ensures.room pairs (c.mount_ledger.ensures.room pairs room))
