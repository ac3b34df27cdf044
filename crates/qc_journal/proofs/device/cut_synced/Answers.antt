-- What a crash leaves of a cut goes on through the sync.
use Rattle.std.proofs.Common.{◌≡◌, ℕ, List, Option, Some, None, ◌∙◌}
use Rattle.std.specs.Prelude.{option_map, take}
use Rattle.qc_disk.specs.Disk.{Cut, Steps}
use Rattle.qc_disk.specs.Laws.{cut_same, cut-taken}
use Rattle.qc_journal.specs.Device.{Touched}
use Rattle.qc_journal.proofs.Moments.{started, goes_on}
use Rattle.qc_journal.proofs.device.cut_synced.Goals as goal

pub returns-in_err-cut-clause-any_moment : goal.returns-in_err-cut-clause-any_moment
returns-in_err-cut-clause-any_moment g c =
    let P = Touched (Cut c.args.to) (g.D.Disk.view c.args.disk.now).may_leave in
    let at_start = started g.D.Disk.view c.args.disk.now P (λ d left. (d, (g.met.D.Disk.leaves_now c.args.disk.now d).0 left, cut_same _ d)) in
    goes_on g.D.Disk.view c.args.disk.now c.args.disk.now c.cut.new.self P at_start c.cut.ensures.time (λ d now. (d, now, cut_same _ d)) (λ d now. c.cut.ensures.crash d now)

steps_cut : (to : ℕ) (told now : Option (List ℕ)) → now ≡ option_map (take to) told → Steps (Cut to) told now
steps_cut to None now is = is
steps_cut to (Some old) now is = (take to old, is, cut-taken to old)

pub returns-clause-shorter : goal.returns-clause-shorter
returns-clause-shorter g c = steps_cut c.args.to _ _ (c.sync.ensures.content ∙ c.in_ok-cut.ensures.cut)

pub returns-clause-any_moment : goal.returns-clause-any_moment
returns-clause-any_moment g c =
    let P = Touched (Cut c.args.to) (g.D.Disk.view c.args.disk.now).may_leave in
    let at_start = started g.D.Disk.view c.args.disk.now P (λ d left. (d, (g.met.D.Disk.leaves_now c.args.disk.now d).0 left, cut_same _ d)) in
    let cut = goes_on g.D.Disk.view c.args.disk.now c.args.disk.now c.cut.new.self P at_start c.cut.ensures.time (λ d now. (d, now, cut_same _ d)) (λ d now. c.cut.ensures.crash d now) in
    goes_on g.D.Disk.view c.args.disk.now c.cut.new.self c.sync.new.self P cut c.sync.ensures.time (λ d now. c.cut.ensures.crash d now) (λ d now. c.cut.ensures.crash d (c.sync.ensures.crash d now))
