-- What is done, and what was synced last, are what a crash may leave.
use Rattle.std.proofs.Common.{◌≡◌, ℕ, List, length, take, Bool, Result, Ok, Err, sym, ◌∙◌, ap, subst, arith, Vec, Global}
use Rattle.std.proofs.lemmas.List.{take_all}
use Rattle.std.specs.Result.{IfOk}
use Rattle.qc_disk.specs.Replay.{Act, images, image_after}
use Rattle.qc_disk.specs.Laws.{image_left}
use Rattle.qc_disk.specs.StopDisk.{stop_first, stop_acts}
use Rattle.qc_disk.proofs.stop.StopDisk.left.Goals as goal

left : {E : Type 0} (first : List ℕ) (acts : List Act) (n : ℕ) (done : Bool) (result : Result (Vec ℕ Global) E) → n ≡ length acts
    → IfOk result (λ bytes. bytes.items ≡ image_after first (take n acts) done) → IfOk result (λ bytes. images first acts bytes.items)
left first acts n done (Ok bytes) all is =
    let same = ap (λ (l : List Act). image_after first l done) (take_all n acts (omega (arith, all))) in
    subst (images first acts) (sym (is ∙ same)) (image_left first acts done)
left first acts n done (Err e) all is = tt

pub returns-clause-left : goal.returns-clause-left
returns-clause-left c = left (stop_first c.args.self.now) (stop_acts c.args.self.now) c.count.result c.args.done c.image_at.result c.count.ensures.count c.image_at.ensures
