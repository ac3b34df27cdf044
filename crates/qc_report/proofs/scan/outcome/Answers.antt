use Rattle.std.proofs.Common.{◌≡◌, ap, refl, sym, ◌∙◌, false}
use Rattle.std.specs.Prelude.{Some, None, if◌then◌else◌}
use Rattle.qc_event.specs.declared.event.Entry.{Entry}
use Rattle.qc_event.specs.declared.event.Event.{Event}
use Rattle.qc_event.specs.declared.event.Event.TheVariants.{End}
use Rattle.qc_event.specs.declared.event.How.{How}
use Rattle.qc_event.specs.History.{Name, end_in, same}
use Rattle.qc_event.specs.Dead.{outcome_of}
use Rattle.qc_event.proofs.Histories.{earliest_more, end_at}
use Rattle.std.proofs.lemmas.Option.{slice_get_within}
use Rattle.qc_report.proofs.Further.{read_there}
use Rattle.qc_report.proofs.scan.outcome.Goals as goal
use Rattle.qc_report.proofs.scan.outcome.Goals.{in-End+else-eq, in_default}

pub returns-in-Commit : goal.returns-in-Commit
returns-in-Commit c =
    let found = end_at c.args.trail.now c.args.n.now c.loop-at.at c.at-entry.result c.in-End.name c.in-End.how (slice_get_within c.args.trail.now c.loop-at.at c.at-entry.result c.at-entry.ensures) c.loop-at.invariant (read_there c.args.trail.now c.loop-at.at c.at-entry.result c.at-entry.ensures) c.in-End.is (sym c.eq.ensures ∙ c.if-eq.true) in
    sym (ap outcome_of (found ∙ ap Some c.in-Commit.is))

pub returns-in-Abort : goal.returns-in-Abort
returns-in-Abort c =
    let found = end_at c.args.trail.now c.args.n.now c.loop-at.at c.at-entry.result c.in-End.name c.in-End.how (slice_get_within c.args.trail.now c.loop-at.at c.at-entry.result c.at-entry.ensures) c.loop-at.invariant (read_there c.args.trail.now c.loop-at.at c.at-entry.result c.at-entry.ensures) c.in-End.is (sym c.eq.ensures ∙ c.if-eq.true) in
    sym (ap outcome_of (found ∙ ap Some c.in-Abort.is))

passes : (event : Event) (n m : Name) (how : How) → event ≡ End m how → same m n ≡ false → end_in n event ≡ None
passes event n m how is un = ap (end_in n) is ∙ ap (λ b. if b then Some how else None) un

no_end : (event : Event) (n : Name) → ((m : Name) → (how : How) → event ≡ End m how → ⊥) → end_in n event ≡ None
no_end (End m how) n other = absurd (other m how refl)
no_end _ n other = refl

pub loop-at-preserved : goal.loop-at-preserved
loop-at-preserved c =
    let h = c.args.trail.now in
    let i = c.loop-at.at in
    let e = c.at-entry.result in
    let reads = (λ (x : Entry). end_in c.args.n.now x.event) in
    earliest_more reads h i e (slice_get_within h i e c.at-entry.ensures) c.loop-at.invariant
    (ap reads (sym (read_there h i e c.at-entry.ensures))
    ∙ elim c.match-entry.branch [
      | in-End+else-eq w ↦ passes e.event c.args.n.now w.in-End.name w.in-End.how w.in-End.is (sym w.eq.ensures ∙ w.if-eq.false)
      | in_default w ↦ no_end e.event c.args.n.now w.in_default.not-End
    ])
