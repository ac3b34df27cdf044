use Rattle.std.proofs.Common.{ℕ, ◌<◌, Bool, true, false, List, length, get_or, reverse, refl, rules, tests, sym, arith, subst}
use Rattle.std.specs.Prelude.{MatchBool, IsTrue}
use Rattle.std.specs.List.{HoldsAt, AllWithin}
use Rattle.std.proofs.lemmas.Iterator.{YieldsList-from_slice, cases_from_any}
use Rattle.qc_event.specs.declared.event.Cause.{Cause}
use Rattle.qc_event.specs.declared.event.Entry.{Entry}
use Rattle.qc_event.specs.declared.event.Event.{Event}
use Rattle.qc_event.specs.declared.event.Event.TheVariants as event
use Rattle.qc_event.specs.declared.event.How.TheVariants.{Abort}
use Rattle.qc_event.specs.History.{Name}
use Rattle.qc_event.specs.Users.{ChildAborted}
use Rattle.qc_scan.specs.Children.{IsAborted, AbortsChild}
use Rattle.qc_scan.proofs.Stands.{an_entry, end_stands}
use Rattle.qc_scan.proofs.told.is_child_aborted.Goals as goal

module _ (h : List Entry) (n : Name) (cause : Cause) where
  abbrev Tells : Entry → Type 0
  Tells e = AbortsChild (reverse h) n cause e.event

  told : (ev : Event) → AbortsChild (reverse h) n cause ev → ChildAborted (reverse h) n cause
  told (event.End child how) is = record { child = child; is_one = is.is_one; manages = is.manages; ended = is.ended }
  told _ is = absurd is

  somewhere : ChildAborted (reverse h) n cause → (j : ℕ) × (j < length h) × ((d : Entry) → Tells (get_or h j d))
  somewhere is =
      let at = end_stands h is.child (Abort cause) is.ended in
      let one : IsAborted (reverse h) n cause is.child = record { is_one = is.is_one; manages = is.manages; ended = is.ended } in
      (at.0, at.1, λ d. subst (AbortsChild (reverse h) n cause) (sym (at.2 d)) one)

  both : (r : Bool) → MatchBool r ((k : ℕ) × (k < length h) × HoldsAt Tells h k) (AllWithin (λ e. Tells e → ⊥) h 0 (length h)) → (IsTrue r → ChildAborted (reverse h) n cause) × (ChildAborted (reverse h) n cause → IsTrue r)
  both true cases = (λ _. told (get_or h cases.0 (an_entry h cases.0 cases.1)).event (cases.2 (an_entry h cases.0 cases.1)), λ _. refl)
  both false cases = (λ t. absurd cc, λ is. let at = somewhere is in let d = an_entry h at.0 at.1 in absurd (cases at.0 d (omega arith) at.1 (at.2 d)))

pub returns : goal.returns
returns c =
    both c.args.h.now c.args.n.now c.args.cause.now c.any.result
    (cases_from_any _ _ c.any.result (Tells c.args.h.now c.args.n.now c.args.cause.now) (λ e. Tells c.args.h.now c.args.n.now c.args.cause.now e → ⊥) c.any.ensures.ran (YieldsList-from_slice c.args.h.now cc) (λ x q k. search (rules, tests)) (λ x q k. search (rules, tests)))
