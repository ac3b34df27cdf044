-- A manager that has just started runs, and has asked nothing.
use Rattle.std.proofs.Common.{◌≡◌, ℕ, ◌+◌, ◌<◌, [], ◌∷◌, ◌++◌, length, refl, sym, ap, ◌∙◌, subst, arith}
use Rattle.std.specs.Prelude.{None, Some, find, is_none, option_to_list, if◌then◌else◌}
use Rattle.std.specs.Option.{option_or}
use Rattle.qc_event.specs.Base.{Setting}
use Rattle.qc_event.specs.declared.event.Event.TheVariants as event
use Rattle.qc_event.specs.declared.event.Kind.{Kind}
use Rattle.qc_event.specs.History.{Past, Name, start, start_in, end, is_child, children}
use Rattle.qc_event.specs.Legal.{Legal}
use Rattle.qc_event.proofs.Absent.{same_itself}
use Rattle.qc_event.proofs.LastNumber.{no_child_length}
use Rattle.qc_event.proofs.Lawful.{lawful}
use Rattle.qc_event.proofs.LegalOrderly.{legal_orderly}
use Rattle.qc_event.proofs.Lineage.{IsFresh, fresh_child}
use Rattle.qc_managers.specs.Carrying.{IsRunning, entry}
use Rattle.qc_desk.specs.declared.view.View.{View}
use Rattle.qc_session.specs.Managing.{HasStarted}

-- THE NEXT CHILD

module _ (setting : Setting) (seat : ℕ) (old : Past) (of : Name) (k : ℕ) (kd : Kind) (legal : Legal setting old) (nonroot : 0 < length of) (next : length (children old of) + 1 ≡ k) where
  abbrev n : Name
  n = of ++ k ∷ []

  abbrev first : Past
  first = entry seat (event.Start n kd) ∷ old

  fresh : IsFresh old n
  fresh = fresh_child old of k [] (lawful old (legal_orderly setting old legal)) nonroot (omega (arith, next))

  begun : start first n ≡ Some (record { seat = seat; kind = kd })
  begun = ap (λ o. option_or o (start_in n seat (event.Start n kd))) fresh.no_start ∙ ap (λ b. if b then Some (record { seat = seat; kind = kd }) else None) (same_itself n)

  childless : children first n ≡ []
  childless = ap (λ cs. cs ++ option_to_list (if is_child n n then Some n else None)) fresh.no_children ∙ ap (λ b. option_to_list (if b then Some n else None)) (no_child_length n n (λ e. omega (arith, e)))

  running : IsRunning seat first n kd
  running = record { started = begun; not_ended = ap (λ o. option_or o None) fresh.no_end; children_ended = ap (find (λ x. is_none (end first x))) childless }

-- WHO HAS STARTED

module _ (setting : Setting) (v w : View) (of n : Name) (kd : Kind) (h : HasStarted v w of n kd) (legal : Legal setting w.seen) (nonroot : 0 < length of) where
  seen_is : w.seen ≡ entry v.number (event.Start n kd) ∷ h.before
  seen_is = ap (λ (x : View). x.seen) h.grown

  legal_before : Legal setting h.before
  legal_before = (subst (Legal setting) seen_is legal).0

  pub runs_now : IsRunning w.number w.seen n kd × (children w.seen n ≡ [])
  runs_now =
      let number : w.number ≡ v.number = ap (λ (x : View). x.number) h.grown in
      subst (λ s. IsRunning s w.seen n kd × (children w.seen n ≡ [])) (sym number)
      (subst (λ p. IsRunning v.number p n kd × (children p n ≡ [])) (sym seen_is)
      (subst (λ m. IsRunning v.number (entry v.number (event.Start m kd) ∷ h.before) m kd × (children (entry v.number (event.Start m kd) ∷ h.before) m ≡ [])) (sym h.named)
      (running setting v.number h.before of (length (children h.before of) + 1) kd legal_before nonroot refl, childless setting v.number h.before of (length (children h.before of) + 1) kd legal_before nonroot refl)))
