-- It is written, or nothing is.
use Rattle.std.proofs.Common.{ℕ, List, ap, sym, ◌∙◌, subst}
use Rattle.std.specs.Prelude.{◌==◌, OnOk}
use Rattle.qc_journal.specs.Image.{bodies_of}
use Rattle.qc_journal.specs.Journal.{Keeps, disk_of, limit_of}
use Rattle.qc_journal.proofs.Moments.{started}
use Rattle.qc_ledger.specs.Image.{IsFull, made_where_none}
use Rattle.qc_ledger.specs.Mounted.{HasSome}
use Rattle.qc_ledger.proofs.Writing.{kept_has, none_made, some_of_none}
use Rattle.qc_ledger.proofs.mounting.make.Goals as goal

pub returns-then-is_empty-clause-room : goal.returns-then-is_empty-clause-room
returns-then-is_empty-clause-room g c =
    let bodies = bodies_of c.args.bodies.now.items in
    subst (λ (more : List (List ℕ)). OnOk c.write.result (Keeps c.args.journal.now bodies → (place : ℕ) → IsFull (limit_of c.args.journal.now) bodies more place → ⊥))
    (sym (none_made c.args.made.items c.args.bodies.now.items (ap (λ n. n == 0) (sym c.args.bodies.now.ok.0) ∙ sym c.is_empty.ensures ∙ c.if-is_empty.true))) c.write.ensures.room

pub returns-clause-any_moment : goal.returns-clause-any_moment
returns-clause-any_moment g c = λ k.
    let disk = disk_of c.args.journal.now in
    let bodies = bodies_of c.args.bodies.now.items in
    started g.D.Disk.view disk (HasSome bodies (made_where_none c.args.made.items bodies))
    (λ image left. some_of_none bodies (made_where_none c.args.made.items bodies) image (kept_has c.args.journal.now bodies image c.requires.up k ((g.met.D.Disk.leaves_now disk image).0 left)))
