-- One copy after another.
use Rattle.std.proofs.Common.{◌≡◌, ◌∷◌, [], List, length, subst, sym, ap, refl, arith, ◌∙◌}
use Rattle.std.proofs.lemmas.List.{length-append, nil_from_length}
use Rattle.qc_opening.specs.Mounted.{AreTaken}
use Rattle.qc_opening.specs.Refusing.{ArePairsLeft}
use Rattle.qc_opening.specs.Waiting.{waiting_in}
use Rattle.qc_opening.proofs.Mountings.Disks.{unreached_pairs}
use Rattle.qc_opening.proofs.Mountings.InTurn.{all_taken, left_all, reason_among, taken_more, taken_size}
use Rattle.qc_opening.proofs.copies.mount_copies.Goals as goal
use Rattle.qc_pair.specs.declared.fault.PairNo.TheVariants.{Memory}
use Rattle.qc_system.specs.declared.parts.CopyPair.{CopyPair}

pub returns-in_default-clause-left : goal.returns-in_default-clause-left
returns-in_default-clause-left g c = unreached_pairs g.D.Disk.view g.met.D.Disk.leaves_now c.args.table.now (λ p. p ≡ c.args.past.now) Memory 1 (waiting_in c.args.waiting.now) (λ n from low. (λ failed. failed, λ failed. failed))

pub loop-copy-init : goal.loop-copy-init
loop-copy-init g c =
    let none = c.in-Ok.ensures.items in
    record {
      so_far = subst (λ (l : List (CopyPair g.row.D.Denot g.D.Disk)). AreTaken c.args.table.now c.args.past.now c.args.epoch c.args.limit (waiting_in c.args.waiting.now) (waiting_in c.args.waiting.now) l) (sym {A = List (CopyPair g.row.D.Denot g.D.Disk)} none)
          (record { taken = []; all_are = refl; copies_are = tt });
      count = ap length none;
      capacity = omega (arith, c.in-Ok.ensures.exact, c.from.ensures);
      room = λ pairs room. room;
    }

pub mount_copy-requires-clause-some : goal.mount_copy-requires-clause-some
mount_copy-requires-clause-some g c =
    let kept = c.loop-copy.invariant in
    let size = taken_size c.args.table.now c.args.past.now c.args.epoch c.args.limit (waiting_in c.args.waiting.now) (waiting_in c.loop-copy.waiting) c.loop-copy.copies.items kept.so_far in
    omega (arith, size, c.requires.all, kept.count, c.loop-copy-test.true)

pub mount_copy-requires-clause-room : goal.mount_copy-requires-clause-room
mount_copy-requires-clause-room g c =
    let kept = c.loop-copy.invariant in
    let size = taken_size c.args.table.now c.args.past.now c.args.epoch c.args.limit (waiting_in c.args.waiting.now) (waiting_in c.loop-copy.waiting) c.loop-copy.copies.items kept.so_far in
    let room = kept.room (length (waiting_in c.args.waiting.now)) c.requires.room in
    (omega (arith, size, room.0), omega (arith, size, room.1))

pub push_reserved-requires : goal.push_reserved-requires
push_reserved-requires g c = omega (arith, c.loop-copy.copies.ok.0, c.loop-copy.invariant.count, c.loop-copy.invariant.capacity, c.loop-copy-test.true)

pub put_back_all-requires : goal.put_back_all-requires
put_back_all-requires g c =
    let kept = c.loop-copy.invariant in
    let back = c.in-Err.ensures.refused in
    let size = taken_size c.args.table.now c.args.past.now c.args.epoch c.args.limit (waiting_in c.args.waiting.now) (waiting_in c.loop-copy.waiting) c.loop-copy.copies.items kept.so_far in
    let room = c.mount_copy.ensures.room (length (waiting_in c.args.waiting.now)) (kept.room (length (waiting_in c.args.waiting.now)) c.requires.room) in
    record { room = (omega (arith, size, ap length back.old_is, ap length back.new_is, room.0), omega (arith, size, ap length back.old_is, ap length back.new_is, room.1)) }

pub returns-in-Err-clause-left : goal.returns-in-Err-clause-left
returns-in-Err-clause-left g c =
    let kept = c.loop-copy.invariant in
    let all = waiting_in c.args.waiting.now in
    subst (λ (l : List (g.row.D.Denot × g.row.D.Denot)). ArePairsLeft g.D.Disk.view c.args.table.now (λ p. p ≡ c.args.past.now) c.in-Err.no 1 all l) (sym {A = List (g.row.D.Denot × g.row.D.Denot)} c.put_back_all.ensures.pairs)
    (left_all c.args.table.now c.args.past.now c.args.epoch c.args.limit all (waiting_in c.loop-copy.waiting) c.loop-copy.copies.items kept.so_far c.loop-copy.copy kept.count (omega (arith, c.requires.all, c.requires.few)) c.in-Err.no
    (waiting_in c.mount_copy.new.waiting) c.in-Err.ensures.refused g.met.D.Disk.leaves_now)

pub returns-in-Err-clause-reason : goal.returns-in-Err-clause-reason
returns-in-Err-clause-reason g c =
    let kept = c.loop-copy.invariant in
    reason_among c.args.table.now c.args.past.now c.args.epoch c.args.limit (waiting_in c.args.waiting.now) (waiting_in c.loop-copy.waiting) c.loop-copy.copies.items kept.so_far c.loop-copy.copy kept.count (omega (arith, c.requires.all, c.requires.few))
    c.in-Err.no (waiting_in c.mount_copy.new.waiting) c.in-Err.ensures.refused c.args.table.now.copies c.loop-copy-test.true

pub loop-copy-preserved : goal.loop-copy-preserved
loop-copy-preserved g c =
    let kept = c.loop-copy.invariant in
    let more = c.push_reserved.ensures.items in
    record {
      so_far = subst (λ (l : List (CopyPair g.row.D.Denot g.D.Disk)). AreTaken c.args.table.now c.args.past.now c.args.epoch c.args.limit (waiting_in c.args.waiting.now) (waiting_in c.mount_copy.new.waiting) l) (sym {A = List (CopyPair g.row.D.Denot g.D.Disk)} more)
          (taken_more c.args.table.now c.args.past.now c.args.epoch c.args.limit (waiting_in c.args.waiting.now) (waiting_in c.loop-copy.waiting) c.loop-copy.copies.items kept.so_far (waiting_in c.mount_copy.new.waiting)
          c.in-Ok-mount_copy.mounted c.loop-copy.copy kept.count c.in-Ok-mount_copy.ensures.mounted);
      count = omega (arith, ap length more, length-append c.loop-copy.copies.items (c.in-Ok-mount_copy.mounted ∷ []), kept.count);
      capacity = c.push_reserved.ensures.capacity ∙ kept.capacity;
      room = λ pairs room. c.mount_copy.ensures.room pairs (kept.room pairs room);
    }

pub returns-clause-none : goal.returns-clause-none
returns-clause-none g c =
    let kept = c.loop-copy.invariant in
    let size = taken_size c.args.table.now c.args.past.now c.args.epoch c.args.limit (waiting_in c.args.waiting.now) (waiting_in c.loop-copy.waiting) c.loop-copy.copies.items kept.so_far in
    nil_from_length (waiting_in c.loop-copy.waiting) (omega (arith, size, c.requires.all, kept.count, c.loop-copy-test.false))

pub returns-clause-copies : goal.returns-clause-copies
returns-clause-copies g c =
    let kept = c.loop-copy.invariant in
    let size = taken_size c.args.table.now c.args.past.now c.args.epoch c.args.limit (waiting_in c.args.waiting.now) (waiting_in c.loop-copy.waiting) c.loop-copy.copies.items kept.so_far in
    all_taken c.args.table.now c.args.past.now c.args.epoch c.args.limit (waiting_in c.args.waiting.now) (waiting_in c.loop-copy.waiting) c.loop-copy.copies.items kept.so_far
    (nil_from_length (waiting_in c.loop-copy.waiting) (omega (arith, size, c.requires.all, kept.count, c.loop-copy-test.false)))

pub returns-in-Err-clause-room : goal.returns-in-Err-clause-room
returns-in-Err-clause-room g c = λ pairs room. c.put_back_all.ensures.room pairs (c.mount_copy.ensures.room pairs (c.loop-copy.invariant.room pairs room))
