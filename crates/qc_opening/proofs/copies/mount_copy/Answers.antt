-- What the mounting of a copy says of the next pair.
use Rattle.std.proofs.Common.{◌≡◌, ◌+◌, ap, arith, length}
use Rattle.qc_codec.specs.declared.past.Past.{Past}
use Rattle.qc_opening.specs.Waiting.{waiting_in}
use Rattle.qc_opening.proofs.Mountings.Disks.{mounted_for}
use Rattle.qc_opening.proofs.Mountings.Reasons.{failed_is, is_failed, no_of_copy, not_behind}
use Rattle.qc_opening.proofs.Mountings.Sound.{copy_half}
use Rattle.qc_opening.proofs.copies.mount_copy.Goals as goal

pub put_back-requires : goal.put_back-requires
put_back-requires g c =
    let room = c.take-disk.ensures.room (length (waiting_in c.args.waiting.now)) c.requires.room in
    let size = ap length c.take-disk.ensures.pairs in
    (omega (arith, room.0, size), omega (arith, room.1, size))

pub returns-in-Ok-clause-mounted : goal.returns-in-Ok-clause-mounted
returns-in-Ok-clause-mounted g c =
    let told = c.in-Ok.ensures in
    let view = g.D.Disk.view in
    let before = c.take-disk.result in
    let own = (view before.0).content in
    let spare = (view before.1).content in
    let half = copy_half view c.args.table.now (λ p. p ≡ c.args.past.now) c.args.copy own spare in
    record {
      first = before;
      old_is = c.take-disk.ensures.pairs;
      has = record {
        mounts = told.mounts;
        number_is = told.copy.0;
        copies = told.copy.1;
        limit_is = told.limit;
        up = told.up;
        start = told.start;
        folds = told.fold;
        left = record { own = half _ _ _ _ told.own; spare = half _ _ _ _ told.spare };
      };
    }

pub returns-in-Err-clause-refused : goal.returns-in-Err-clause-refused
returns-in-Err-clause-refused g c =
    let told = c.in-Err.ensures in
    let view = g.D.Disk.view in
    let table = c.args.table.now in
    let copy = c.args.copy in
    let before = c.take-disk.result in
    let own = (view before.0).content in
    let spare = (view before.1).content in
    let reason = c.in-Err.no in
    let of = no_of_copy copy table c.args.past.now c.args.limit own spare reason told.refused in
    let Tells : Past → Type 0 = λ p. p ≡ c.args.past.now in
    record {
      before = before;
      after = (c.in-Err.disk, c.in-Err.spare);
      rest = waiting_in c.take-disk.new.self;
      old_is = c.take-disk.ensures.pairs;
      new_is = c.put_back.ensures.pairs;
      became = (
        record {
          own = mounted_for view table Tells Tells (copy + 1) own spare _ _ _ before.0 c.in-Err.disk (failed_is reason (copy + 1)) (is_failed reason (copy + 1)) (λ p is. is) (copy_half view table Tells copy own spare _ _ before.0 c.in-Err.disk told.own);
          spare = mounted_for view table Tells Tells (copy + 1) own spare _ _ _ before.1 c.in-Err.spare (failed_is reason (copy + 1 + 17)) (is_failed reason (copy + 1 + 17)) (λ p is. is) (copy_half view table Tells copy own spare _ _ before.1 c.in-Err.spare told.spare);
          behind = λ b. absurd (not_behind (copy + 1) (copy + 1) reason (omega (arith, c.requires.copy, c.requires.few)) (omega arith) of b);
        },
        told.refused,
      );
    }

pub returns-in-Err-clause-room : goal.returns-in-Err-clause-room
returns-in-Err-clause-room g c = λ pairs room. c.put_back.ensures.room pairs (c.take-disk.ensures.room pairs room)
