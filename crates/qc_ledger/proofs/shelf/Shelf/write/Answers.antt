-- The journal is as the record left it, and its top is in hand where it is down.
use Rattle.std.proofs.Common.{◌≡◌, sym, ap, ◌∙◌, subst}
use mathlib.Core.Bool.{true≢false}
use Rattle.qc_disk.specs.Disk.{Grows, LeavesOnly}
use Rattle.qc_journal.specs.Image.{HasAt}
use Rattle.qc_journal.specs.Journal.{AppendLeaves, IsUp, disk_of}
use Rattle.qc_ledger.specs.Runs.{HasOrMore}
use Rattle.qc_ledger.specs.Shelf.{LogLeaves, journal_in}
use Rattle.qc_ledger.specs.declared.shelf.Shelf.{Shelf}
use Rattle.qc_ledger.proofs.Logging.{write_left}
use Rattle.qc_ledger.proofs.shelf.Shelf.write.Goals as goal
use Rattle.qc_ledger.proofs.shelf.Shelf.write.Goals.{then-not-is_up, else-not-is_up}

pub returns-after-not-is_up-clause-left : goal.returns-after-not-is_up-clause-left
returns-after-not-is_up-clause-left g c =
    let new = c.if-not-is_up.self in
    let same : new.journal ≡ c.append.new.self = elim c.if-not-is_up.branch [
      | then-not-is_up w ↦ ap (λ (s : Shelf g.row.D.Denot g.D.Disk). s.journal) w.self-is
      | else-not-is_up w ↦ ap (λ (s : Shelf g.row.D.Denot g.D.Disk). s.journal) w.self-is
    ] in
    subst (LogLeaves c.args.self.now new c.args.top.now c.args.bytes.now) (sym c.log_no.ensures)
    (write_left c.args.self.now new c.args.top.now c.args.bytes.now c.requires.up c.requires.none
    (λ up. elim c.if-not-is_up.branch [
      | then-not-is_up w ↦ absurd (true≢false (sym (c.is_up.ensures.1 (subst IsUp same up)) ∙ w.if-not-is_up.true))
      | else-not-is_up w ↦ ap (λ (s : Shelf g.row.D.Denot g.D.Disk). s.hand) w.self-is
    ])
    (λ down. elim c.if-not-is_up.branch [
      | then-not-is_up w ↦ ap (λ (s : Shelf g.row.D.Denot g.D.Disk). s.hand) w.self-is
      | else-not-is_up w ↦ absurd (down (subst IsUp (sym same) (c.is_up.ensures.0 w.if-not-is_up.false)))
    ])
    c.in-Err.fault (subst (λ j. AppendLeaves c.args.self.now.journal j c.args.bytes.now c.in-Err.fault) (sym same) c.in-Err.ensures.left))

pub returns-after-not-is_up-clause-any_moment : goal.returns-after-not-is_up-clause-any_moment
returns-after-not-is_up-clause-any_moment g c = λ bodies k.
    let same : c.if-not-is_up.self.journal ≡ c.append.new.self = elim c.if-not-is_up.branch [
      | then-not-is_up w ↦ ap (λ (s : Shelf g.row.D.Denot g.D.Disk). s.journal) w.self-is
      | else-not-is_up w ↦ ap (λ (s : Shelf g.row.D.Denot g.D.Disk). s.journal) w.self-is
    ] in
    subst (λ j. LeavesOnly g.D.Disk.view (disk_of (journal_in c.args.self.now)) (disk_of j) (HasOrMore bodies c.args.bytes.now)) (sym same) (c.append.ensures.any_moment bodies k)

pub returns-after-not-is_up-clause-grows : goal.returns-after-not-is_up-clause-grows
returns-after-not-is_up-clause-grows g c = λ bodies k index had.
    let same : c.if-not-is_up.self.journal ≡ c.append.new.self = elim c.if-not-is_up.branch [
      | then-not-is_up w ↦ ap (λ (s : Shelf g.row.D.Denot g.D.Disk). s.journal) w.self-is
      | else-not-is_up w ↦ ap (λ (s : Shelf g.row.D.Denot g.D.Disk). s.journal) w.self-is
    ] in
    subst (λ j. Grows g.D.Disk.view (disk_of (journal_in c.args.self.now)) (disk_of j) (HasAt index had)) (sym same) (c.append.ensures.grows bodies k index had)
