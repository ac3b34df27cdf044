use Rattle.std.proofs.Common.{◌≡◌, ℕ, ap, refl, sym, ◌∙◌, Bool, true, false}
use Rattle.std.specs.Prelude.{Some, None, if◌then◌else◌}
use Rattle.std.specs.Option.{option_map}
use Rattle.qc_event.specs.declared.event.Entry.{Entry}
use Rattle.qc_event.specs.declared.event.Event.{Event}
use Rattle.qc_event.specs.declared.event.Event.TheVariants.{Start}
use Rattle.qc_event.specs.declared.event.Kind.{Kind}
use Rattle.qc_event.specs.History.{Name, Begun, start_in, same}
use Rattle.qc_event.proofs.Histories.{earliest_at, earliest_more}
use Rattle.std.proofs.lemmas.Option.{slice_get_within}
use Rattle.qc_report.proofs.Further.{read_there}
use Rattle.qc_report.proofs.scan.kind.Goals as goal
use Rattle.qc_report.proofs.scan.kind.Goals.{in-Start+else-eq, in_default}

read_of : (e : Entry) (n m : Name) (k : Kind) (b : Bool) → e.event ≡ Start m k → same m n ≡ b → start_in n e.seat e.event ≡ (if b then Some (record { seat = e.seat; kind = k }) else None)
read_of e n m k b is eq = ap (start_in n e.seat) is ∙ ap (λ (x : Bool). if x then Some (record { seat = e.seat; kind = k }) else None) eq

pub returns-then-eq : goal.returns-then-eq
returns-then-eq c =
    let e = c.at-entry.result in
    sym (ap (option_map (λ (b : Begun). b.kind))
    (earliest_at (λ (x : Entry). start_in c.args.n.now x.seat x.event) c.args.trail.now c.loop-at.at e (record { seat = e.seat; kind = c.in-Start.kind }) (slice_get_within c.args.trail.now c.loop-at.at c.at-entry.result c.at-entry.ensures) c.loop-at.invariant
    (ap (λ (x : Entry). start_in c.args.n.now x.seat x.event) (sym (read_there c.args.trail.now c.loop-at.at c.at-entry.result c.at-entry.ensures)) ∙ read_of e c.args.n.now c.in-Start.name c.in-Start.kind true c.in-Start.is (sym c.eq.ensures ∙ c.if-eq.true))))

no_start : (seat : ℕ) (event : Event) (n : Name) → ((m : Name) → (k : Kind) → event ≡ Start m k → ⊥) → start_in n seat event ≡ None
no_start seat (Start m k) n other = absurd (other m k refl)
no_start seat _ n other = refl

pub loop-at-preserved : goal.loop-at-preserved
loop-at-preserved c =
    let h = c.args.trail.now in
    let i = c.loop-at.at in
    let e = c.at-entry.result in
    let reads = (λ (x : Entry). start_in c.args.n.now x.seat x.event) in
    earliest_more reads h i e (slice_get_within h i e c.at-entry.ensures) c.loop-at.invariant
    (ap reads (sym (read_there h i e c.at-entry.ensures))
    ∙ elim c.match-entry.branch [
      | in-Start+else-eq w ↦ read_of e c.args.n.now w.in-Start.name w.in-Start.kind false w.in-Start.is (sym w.eq.ensures ∙ w.if-eq.false)
      | in_default w ↦ no_start e.seat e.event c.args.n.now w.in_default.not-Start
    ])
