-- What a crash then leaves is what it left at that moment.
use Rattle.std.proofs.Common.{◌≡◌, ◌-◌, ℕ, List, take, Bool, Result, Ok, Err, sym, subst, rules, Vec, Global}
use Rattle.std.specs.Result.{IfOk}
use Rattle.qc_disk.specs.Replay.{Act, images, images_at, image_after}
use Rattle.qc_disk.specs.Laws.{image_left}
use Rattle.qc_disk.specs.MemDisk.{mem_first, mem_acts}
use Rattle.qc_disk.proofs.memory.MemDisk.image_at.Goals as goal

left : {E : Type 0} (first : List ℕ) (acts : List Act) (n : ℕ) (done : Bool) (result : Result (Vec ℕ Global) E) → IfOk result (λ bytes. bytes.items ≡ image_after first (take n acts) done) → IfOk result (λ bytes. images_at first acts n bytes.items)
left first acts n done (Ok bytes) is = subst (images first (take n acts)) (sym is) (image_left first (take n acts) done)
left first acts n done (Err e) is = tt

pub returns-clause-left : goal.returns-clause-left
returns-clause-left c = left (mem_first c.args.self.now) (mem_acts c.args.self.now) (c.args.call - 1) c.args.done c.image_at.result (search rules)
