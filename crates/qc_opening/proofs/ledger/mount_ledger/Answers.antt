-- What the mounting of the ledger says of the next pair.
use Rattle.std.proofs.Common.{ap, arith, length}
use Rattle.qc_opening.specs.Disks.{FirstTells}
use Rattle.qc_opening.specs.Waiting.{waiting_in}
use Rattle.qc_opening.proofs.Mountings.Disks.{mounted_for}
use Rattle.qc_opening.proofs.Mountings.Reasons.{failed_is, is_failed, not_behind_first}
use Rattle.qc_opening.proofs.ledger.mount_ledger.Goals as goal

pub put_back-requires : goal.put_back-requires
put_back-requires g c =
    let room = c.take-disk.ensures.room (length (waiting_in c.args.waiting.now)) c.requires.room in
    let size = ap length c.take-disk.ensures.pairs in
    (omega (arith, room.0, size), omega (arith, room.1, size))

pub returns-in-Ok-clause-mounted : goal.returns-in-Ok-clause-mounted
returns-in-Ok-clause-mounted g c =
    let told = c.in-Ok.ensures in
    record {
      first = c.take-disk.result;
      old_is = c.take-disk.ensures.pairs;
      has = record {
        mounts = told.mounts;
        limit_is = told.limit;
        folds = told.fold;
        left = record { own = told.own; spare = told.spare };
      };
    }

pub returns-in-Err-clause-refused : goal.returns-in-Err-clause-refused
returns-in-Err-clause-refused g c =
    let told = c.in-Err.ensures in
    let table = c.args.table.now in
    let before = c.take-disk.result in
    let own = (g.D.Disk.view before.0).content in
    let spare = (g.D.Disk.view before.1).content in
    let Tells = FirstTells g.D.Disk.view (waiting_in c.args.waiting.now) in
    record {
      before = before;
      after = (c.in-Err.disk, c.in-Err.spare);
      rest = waiting_in c.take-disk.new.self;
      old_is = c.take-disk.ensures.pairs;
      new_is = c.put_back.ensures.pairs;
      became = (
        record {
          own = mounted_for g.D.Disk.view table Tells Tells 0 own spare _ _ _ before.0 c.in-Err.disk (failed_is c.in-Err.no 0) (is_failed c.in-Err.no 0) (λ p is. is) told.own;
          spare = mounted_for g.D.Disk.view table Tells Tells 0 own spare _ _ _ before.1 c.in-Err.spare (failed_is c.in-Err.no 17) (is_failed c.in-Err.no 17) (λ p is. is) told.spare;
          behind = λ b. absurd (not_behind_first c.in-Err.no b);
        },
        told.refused,
      );
    }

pub returns-in-Err-clause-room : goal.returns-in-Err-clause-room
returns-in-Err-clause-room g c = λ pairs room. c.put_back.ensures.room pairs (c.take-disk.ensures.room pairs room)
