-- At and below a name the same stands by two choices among the entries of one history, where what only the wider one keeps
-- tells nothing of names there.
use Rattle.std.proofs.Common.{◌≡◌, ℕ, Bool, true, false, refl, sym, ap, ◌∙◌, filter}
use mathlib.Core.Bool.{true≢false}
use Rattle.std.specs.Prelude.{option_map}
use Rattle.std.specs.List.{AllByRecursion}
use Rattle.std.proofs.lemmas.Bool.{false_from_ne_true}
use Rattle.qc_event.specs.declared.event.Entry.{Entry}
use Rattle.qc_event.specs.declared.event.Event.{Event}
use Rattle.qc_event.specs.declared.event.Event.TheVariants as event
use Rattle.qc_event.specs.History.{Past, Name, Begun, same}
use Rattle.qc_event.proofs.Absent.{same_is}
use Rattle.qc_names.specs.Name as name
use Rattle.qc_interp.specs.Rows.{starts}
use Rattle.qc_interp.proofs.Following.Alike.{AgreesBelow, AreInOrder, below_child}
use Rattle.qc_interp.proofs.Following.Behind.{TellsNothing, order_alike}
use Rattle.qc_interp.proofs.Scopes.Beside.{opens_agree}
use Rattle.qc_interp.proofs.Rows.SameDeeds.{all_map}
use Rattle.qc_interp.proofs.Rows.Agrees.{tells, tells_of, KeepsMore, end_quiet, ready_quiet, deed_quiet, start_agrees, end_agrees, ready_agrees, deeds_agree}

module _ (narrow wide : ℕ → Bool) (wider : (seat : ℕ) → narrow seat ≡ true → wide seat ≡ true) (t : Name) where
  abbrev few : Entry → Bool
  few e = narrow e.seat

  abbrev many : Entry → Bool
  many e = wide e.seat

  starts_quiet : (z : Name) → name.is_ancestor t z ≡ true → (ev : Event) → tells_of t ev ≡ false → starts z ev ≡ false
  starts_quiet z low (event.Start m k) quiet = false_from_ne_true (same m z) (λ h. true≢false (sym (ap (name.is_ancestor t) (same_is m z h) ∙ low) ∙ quiet))
  starts_quiet z low _ quiet = refl

  module _ (past : Past) (all : AllByRecursion (KeepsMore (λ e. narrow e.seat) (λ e. wide e.seat) t) past) where
    order_agrees : (x : Name) → name.is_ancestor t x ≡ true → AreInOrder (filter few past) (filter many past) x
    order_agrees x low y z first second =
        let same = order_alike few many y z past (all_map _ _ (λ e more. more.0) past all) (all_map _ _ (λ e more kept out. nothing e (more.1 kept out)) past all) in
        (λ h. sym same.0 ∙ h, λ h. sym same.1 ∙ h)
      where
        nothing : (e : Entry) → tells t e ≡ false → TellsNothing y z e.event
        nothing e quiet = (
          end_quiet t y (below_child t x y low first) e.event quiet,
          ready_quiet t y (below_child t x y low first) e.event quiet,
          starts_quiet z (below_child t x z low second) e.event quiet,
          λ h. deed_quiet t y (below_child t x y low first) h e.event quiet,
        )

    pub agrees_below : AgreesBelow (filter (λ e. narrow e.seat) past) (filter (λ e. wide e.seat) past) t
    agrees_below x low = record {
      kind = ap (option_map (λ (b : Begun). b.kind)) (start_agrees few many t x low past all);
      ended = end_agrees few many t x low past all;
      ready = ready_agrees few many t x low past all;
      seat = ap (option_map (λ (b : Begun). b.seat)) (start_agrees few many t x low past all);
      opens = opens_agree narrow wide wider past x (start_agrees few many t x low past all);
      order = order_agrees x low;
      deeds = deeds_agree few many t x low past all;
    }
