-- What stands of a name by two choices among the entries of one history, where what only the wider one keeps tells nothing
-- of names at or below it.
use Rattle.std.proofs.Common.{◌≡◌, ℕ, Bool, true, false, [], ◌∷◌, ◌++◌, refl, sym, ap, ◌∙◌, filter, append-nil}
use mathlib.Core.Bool.{true≢false}
use Rattle.std.specs.Prelude.{Option, None, Some, is_some, not, ◌&&◌, ◌||◌, if◌then◌else◌, option_to_list}
use Rattle.std.specs.List.{AllByRecursion}
use Rattle.std.specs.Option.{option_or, option_map_or}
use Rattle.std.proofs.lemmas.Bool.{false_from_ne_true}
use Rattle.qc_event.specs.declared.event.Entry.{Entry}
use Rattle.qc_event.specs.declared.event.Event.{Event}
use Rattle.qc_event.specs.declared.event.Event.TheVariants as event
use Rattle.qc_event.specs.History.{Past, Name, earliest, start, start_in, end, end_in, is_ready, ready_in, is_child, same}
use Rattle.qc_event.proofs.Absent.{if_not, same_is}
use Rattle.qc_event.proofs.LastNumber.{child_last, below_more}
use Rattle.qc_names.specs.Name as name
use Rattle.qc_script.specs.Client.{about}
use Rattle.qc_interp.specs.Deeds.{Deed, deeds, deed_in}
use Rattle.qc_interp.specs.Turns.{is_done}
use Rattle.qc_interp.proofs.Scopes.Kept.{kept_again, earliest_kept}
use Rattle.qc_interp.proofs.Rows.SameDeeds.{all_map, all_both, all_among, among_pass}

-- whether an event is about a name at or below another
abbrev pub tells_of : Name → Event → Bool
tells_of t ev = option_map_or (λ n. name.is_ancestor t n) (about ev) false

abbrev pub tells : Name → Entry → Bool
tells t e = tells_of t e.event

-- AN ENTRY THAT TELLS NOTHING

module _ (t x : Name) (low : name.is_ancestor t x ≡ true) where
  other : (m : Name) → name.is_ancestor t m ≡ false → same m x ≡ false
  other m quiet = false_from_ne_true (same m x) (λ h. true≢false (sym (ap (name.is_ancestor t) (same_is m x h) ∙ low) ∙ quiet))

  pub start_quiet : (seat : ℕ) (ev : Event) → tells_of t ev ≡ false → start_in x seat ev ≡ None
  start_quiet seat (event.Start m k) quiet = if_not (same m x) _ (other m quiet)
  start_quiet seat _ quiet = refl

  pub end_quiet : (ev : Event) → tells_of t ev ≡ false → end_in x ev ≡ None
  end_quiet (event.End m how) quiet = if_not (same m x) _ (other m quiet)
  end_quiet _ quiet = refl

  pub ready_quiet : (ev : Event) → tells_of t ev ≡ false → ready_in x ev ≡ None
  ready_quiet (event.Ready m) quiet = if_not (same m x) _ (other m quiet)
  ready_quiet _ quiet = refl

  pub deed_quiet : (past : Past) (ev : Event) → tells_of t ev ≡ false → deed_in past x ev ≡ None
  deed_quiet past (event.Start m k) quiet = if_not (is_child x m) _ (false_from_ne_true (is_child x m) (λ child. let l = child_last x m child in true≢false (sym (ap (name.is_ancestor t) l.1 ∙ below_more t x (l.0 ∷ []) low) ∙ quiet)))
  deed_quiet past (event.Mark m session) quiet = ap (λ b. if b && not (is_done past x) then Some (Deed.mark session) else None) (other m quiet)
  deed_quiet past _ quiet = refl

-- who is done alike does alike
pub deed_alike : (a b : Past) (x : Name) → is_done a x ≡ is_done b x → (ev : Event) → deed_in a x ev ≡ deed_in b x ev
deed_alike a b x done (event.Mark m session) = ap (λ y. if same m x && not y then Some (Deed.mark session) else None) done
deed_alike a b x done _ = refl

-- TWO CHOICES

-- All that the narrow one keeps the wide one keeps, and what else that keeps tells nothing of names at or below one.
abbrev pub KeepsMore : (Entry → Bool) → (Entry → Bool) → Name → Entry → Type 0
KeepsMore narrow wide t e = (narrow e ≡ true → wide e ≡ true) × (wide e ≡ true → narrow e ≡ false → tells t e ≡ false)

module _ (narrow wide : Entry → Bool) (t : Name) where
  abbrev Wider : Past → Type 0
  Wider past = AllByRecursion (KeepsMore narrow wide t) past

  pub earliest_agrees : {Y : Type 0} (f : Entry → Option Y) → ((e : Entry) → tells t e ≡ false → f e ≡ None) → (past : Past) → AllByRecursion (KeepsMore narrow wide t) past → earliest f (filter narrow past) ≡ earliest f (filter wide past)
  earliest_agrees f quiet past all =
      ap (earliest f) (sym (kept_again narrow wide past (all_map _ _ (λ e more. more.0) past all)))
      ∙ earliest_kept narrow f (filter wide past) (all_both _ _ _ (λ e kept more out. quiet e (more.1 kept out)) (filter wide past) (among_pass wide past) (all_among wide _ past all))

  module _ (x : Name) (low : name.is_ancestor t x ≡ true) (past : Past) (all : AllByRecursion (KeepsMore narrow wide t) past) where
    pub start_agrees : start (filter narrow past) x ≡ start (filter wide past) x
    start_agrees = earliest_agrees (λ e. start_in x e.seat e.event) (λ e. start_quiet t x low e.seat e.event) past all

    pub end_agrees : end (filter narrow past) x ≡ end (filter wide past) x
    end_agrees = earliest_agrees (λ e. end_in x e.event) (λ e. end_quiet t x low e.event) past all

    pub ready_agrees : is_ready (filter narrow past) x ≡ is_ready (filter wide past) x
    ready_agrees = ap is_some (earliest_agrees (λ e. ready_in x e.event) (λ e. ready_quiet t x low e.event) past all)

    pub done_agrees : is_done (filter narrow past) x ≡ is_done (filter wide past) x
    done_agrees = ap (λ o. is_some o || is_ready (filter narrow past) x) end_agrees ∙ ap (λ b. is_some (end (filter wide past) x) || b) ready_agrees

  pub deeds_agree : (x : Name) → name.is_ancestor t x ≡ true → (past : Past) → AllByRecursion (KeepsMore narrow wide t) past → deeds (filter narrow past) x ≡ deeds (filter wide past) x
  deeds_agree x low [] all = refl
  deeds_agree x low (e ∷ past) all = by_tests (narrow e) (wide e) refl refl (deeds_agree x low past all.1)
    where
      by_tests : (a b : Bool) → narrow e ≡ a → wide e ≡ b → deeds (filter narrow past) x ≡ deeds (filter wide past) x
          → deeds (if a then e ∷ filter narrow past else filter narrow past) x ≡ deeds (if b then e ∷ filter wide past else filter wide past) x
      by_tests true true is also before =
          ap (λ l. l ++ option_to_list (deed_in (filter narrow past) x e.event)) before
          ∙ ap (λ o. deeds (filter wide past) x ++ option_to_list o) (deed_alike (filter narrow past) (filter wide past) x (done_agrees x low past all.1) e.event)
      by_tests true false is also before = absurd (true≢false (sym (all.0.0 is) ∙ also))
      by_tests false true is also before =
          before ∙ sym (ap (λ o. deeds (filter wide past) x ++ option_to_list o) (deed_quiet t x low (filter wide past) e.event (all.0.1 also is)) ∙ append-nil _)
      by_tests false false is also before = before
