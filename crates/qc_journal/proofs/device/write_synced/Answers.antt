-- What a crash leaves of a write goes on through the sync.
use Rattle.std.proofs.Common.{◌≡◌, ℕ, List, length, Option, Some, None, ◌∙◌}
use Rattle.std.specs.Prelude.{option_map}
use Rattle.qc_disk.specs.Disk.{Torn, Steps, written}
use Rattle.qc_disk.specs.Laws.{torn_same, torn-written}
use Rattle.qc_journal.specs.Device.{Touched}
use Rattle.qc_journal.proofs.Moments.{started, goes_on, once_on, falls_none, falls_by_call}
use Rattle.qc_journal.proofs.device.write_synced.Goals as goal

pub returns-in_err-write_at-clause-any_moment : goal.returns-in_err-write_at-clause-any_moment
returns-in_err-write_at-clause-any_moment g c =
    let P = Touched (Torn c.args.at (length c.args.bytes.now)) (g.D.Disk.view c.args.disk.now).may_leave in
    let at_start = started g.D.Disk.view c.args.disk.now P (λ d left. (d, (g.met.D.Disk.leaves_now c.args.disk.now d).0 left, torn_same _ _ d)) in
    goes_on g.D.Disk.view c.args.disk.now c.args.disk.now c.write_at.new.self P at_start c.write_at.ensures.time (λ d now. (d, now, torn_same _ _ d)) (λ d now. c.write_at.ensures.crash d now)

pub returns-in_err-write_at-clause-once : goal.returns-in_err-write_at-clause-once
returns-in_err-write_at-clause-once g c =
    let new = c.write_at.new.self in
    once_on g.D.Disk.view c.args.disk.now new new ((g.D.Disk.view new).left_at (g.D.Disk.view new).moment) (g.met.D.Disk.leaves_now c.args.disk.now) c.write_at.ensures.time
    (started g.D.Disk.view new _ (λ d left. left)) (falls_none g.D.Disk.view new)

steps_written : (at : ℕ) (bytes : List ℕ) (told now : Option (List ℕ)) → now ≡ option_map (written at bytes) told → Steps (Torn at (length bytes)) told now
steps_written at bytes None now is = is
steps_written at bytes (Some old) now is = (written at bytes old, is, torn-written at bytes old)

pub returns-clause-torn : goal.returns-clause-torn
returns-clause-torn g c = steps_written c.args.at c.args.bytes.now _ _ (c.sync.ensures.content ∙ c.in_ok-write_at.ensures.written)

pub returns-clause-any_moment : goal.returns-clause-any_moment
returns-clause-any_moment g c =
    let P = Touched (Torn c.args.at (length c.args.bytes.now)) (g.D.Disk.view c.args.disk.now).may_leave in
    let at_start = started g.D.Disk.view c.args.disk.now P (λ d left. (d, (g.met.D.Disk.leaves_now c.args.disk.now d).0 left, torn_same _ _ d)) in
    let wrote = goes_on g.D.Disk.view c.args.disk.now c.args.disk.now c.write_at.new.self P at_start c.write_at.ensures.time (λ d now. (d, now, torn_same _ _ d)) (λ d now. c.write_at.ensures.crash d now) in
    goes_on g.D.Disk.view c.args.disk.now c.write_at.new.self c.sync.new.self P wrote c.sync.ensures.time (λ d now. c.write_at.ensures.crash d now) (λ d now. c.write_at.ensures.crash d (c.sync.ensures.crash d now))

pub returns-clause-once : goal.returns-clause-once
returns-clause-once g c =
    let mid = c.write_at.new.self in
    let new = c.sync.new.self in
    let Q = (g.D.Disk.view mid).may_leave in
    let at_mid = started g.D.Disk.view mid Q (λ d left. (g.met.D.Disk.leaves_now mid d).0 left) in
    let run = goes_on g.D.Disk.view mid mid new Q at_mid c.sync.ensures.time (λ d now. now) (λ d now. c.sync.ensures.crash d now) in
    once_on g.D.Disk.view c.args.disk.now mid new Q (g.met.D.Disk.leaves_now c.args.disk.now) c.write_at.ensures.time run
    (falls_by_call g.D.Disk.view mid new (g.met.D.Disk.leaves_now mid) c.sync.ensures.time c.sync.ensures.crash)
