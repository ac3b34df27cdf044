-- Where the accesses of managers asked, one entry after another.
use Rattle.std.proofs.Common.{◌≡◌, ℕ, ◌<◌, Bool, true, false, List, [], ◌∷◌, ◌++◌, length, reverse, refl, sym, ap, ◌∙◌, subst, arith, append-nil, ◌⊎◌, inl, inr, Vec, Global}
use Rattle.std.specs.Prelude.{Option, None, Some, is_some, option_to_list, slice_get, if◌then◌else◌}
use Rattle.std.specs.Option.{option_map}
use Rattle.std.proofs.lemmas.List.{length-reverse, reverse-reverse}
use Rattle.std.proofs.lemmas.Option.{none-some, same_Some, slice_get-get_or, slice_get_cases}
use Rattle.qc_names.specs.Name as name
use Rattle.qc_event.specs.declared.event.Ask.{Ask}
use Rattle.qc_event.specs.declared.event.Entry.{Entry}
use Rattle.qc_event.specs.declared.event.Event.{Event}
use Rattle.qc_event.specs.declared.event.Event.TheVariants as event
use Rattle.qc_event.specs.Base.{Setting}
use Rattle.qc_event.specs.History.{Past, Name, ask_below, asks, is_child, start}
use Rattle.qc_event.specs.Legal.{Legal, MayHappen}
use Rattle.qc_event.specs.Requests.{MayAsk}
use Rattle.qc_event.proofs.LastNumber.{EndsIn, ends_in, front_last, is_child-last, child_front}
use Rattle.qc_event.proofs.Lawful.{lawful, nonroot, started_some}
use Rattle.qc_event.proofs.LegalOrderly.{legal_orderly}
use Rattle.qc_event.proofs.OneEntry.{none_before, some_or_none, start_stays}
use Rattle.qc_history.specs.Places.{starts_in, place}
use Rattle.qc_history.proofs.Beside.{place_stays}
use Rattle.qc_history.proofs.GrantPlaces.{Answers, answers_there, as_many}
use Rattle.qc_history.proofs.Looking.{unstarted}
use Rattle.qc_history.proofs.Placing.{place_step, place_once, place_within}
use Rattle.qc_history.proofs.Spots.{one_of}
use Rattle.qc_looks.specs.Asks.{AreAsksOf, ask_of, asked_at, listed, manager_of}

-- ONE ENTRY

-- an entry by which no access of a manager asks, and one by which one does
asks_stay : (e : Entry) (past : Past) (m : Name) → ask_below m e.event ≡ None → asked_at past m ≡ asked_at (e ∷ past) m
asks_stay e past m none = sym (append-nil (asked_at past m)) ∙ ap (λ o. asked_at past m ++ option_to_list (option_map (λ _. length past) o)) (sym none)

asks_grow : (e : Entry) (past : Past) (m : Name) (ask : Ask) → ask_below m e.event ≡ Some ask → asked_at past m ++ length past ∷ [] ≡ asked_at (e ∷ past) m
asks_grow e past m ask some = ap (λ o. asked_at past m ++ option_to_list (option_map (λ _. length past) o)) (sym some)

pub silent : (m : Name) (ev : Event) → manager_of ev ≡ None → ask_below m ev ≡ None
silent m (event.Ask ask) is = absurd cc
silent m _ is = refl

pub other_manager : (m p : Name) (ev : Event) → manager_of ev ≡ Some p → (m ≡ p → ⊥) → ask_below m ev ≡ None
other_manager m p (event.Ask ask) is other = by_test (is_child m ask.access) refl
  where
    by_test : (b : Bool) → is_child m ask.access ≡ b → (if b then Some ask else None) ≡ None
    by_test true child = absurd (other (sym (child_front m ask.access child) ∙ same_Some (name.front ask.access) p is))
    by_test false child = refl
other_manager m p _ is other = refl

pub no_start : (p : Name) (ev : Event) → manager_of ev ≡ Some p → starts_in ev ≡ 0
no_start p (event.Start n k) is = absurd cc
no_start p _ is = refl

module _ (setting : Setting) where
  -- whose access asks was started
  pub manager_started : (past : Past) (p : Name) (seat : ℕ) (ev : Event) → MayHappen setting past seat ev → manager_of ev ≡ Some p → is_some (start past p) ≡ true
  manager_started past p seat (event.Ask ask) may is =
      ap (λ m. is_some (start past m)) (sym (same_Some (name.front ask.access) p is)) ∙ started_some _ (start past (name.front ask.access)) may.manager_started
  manager_started past p seat _ may is = absurd cc

  -- it is its own access that asks
  pub own_access : (past : Past) (p : Name) (seat : ℕ) (ev : Event) → Legal setting past → MayHappen setting past seat ev → manager_of ev ≡ Some p → (ask : Ask) × (ask_below p ev ≡ Some ask)
  own_access past p seat (event.Ask ask) legal may is =
      (ask, ap (λ (b : Bool). if b then Some ask else None) (ap (λ m. is_child m ask.access) (sym (same_Some (name.front ask.access) p is)) ∙ child (ends_in ask.access)))
    where
      child : (ask.access ≡ []) ⊎ EndsIn ask.access → is_child (name.front ask.access) ask.access ≡ true
      child (inl root) =
          let long = nonroot past ask.access (lawful past (legal_orderly setting past legal)) (started_some _ (start past ask.access) may.started) in
          absurd (omega (arith, long, ap length root))
      child (inr last) =
          subst (λ n. is_child (name.front n) n ≡ true) (sym last.2) (ap (λ p. is_child p (last.0 ++ last.1 ∷ [])) (front_last last.0 last.1) ∙ is_child-last last.0 last.1)
  own_access past p seat _ legal may is = absurd cc

  -- below what was not started none asked
  pub none_asked : (past : Past) (m : Name) → Legal setting past → start past m ≡ None → asked_at past m ≡ []
  none_asked [] m legal none = refl
  none_asked (e ∷ past) m legal none =
      let before : start past m ≡ None = (none_before (start past m) _ none).0 in
      sym (asks_stay e past m (by_event e.event legal.1 before)) ∙ none_asked past m legal.0 before
    where
      by_test : (ask : Ask) (b : Bool) → is_child m ask.access ≡ b → MayAsk setting past e.seat ask → start past m ≡ None → (if b then Some ask else None) ≡ None
      by_test ask true child may before =
          absurd (some_or_none (start past m) (ap (λ p. is_some (start past p)) (sym (child_front m ask.access child)) ∙ started_some _ (start past (name.front ask.access)) may.manager_started) before)
      by_test ask false child may before = refl

      by_event : (ev : Event) → MayHappen setting past e.seat ev → start past m ≡ None → ask_below m ev ≡ None
      by_event (event.Ask ask) may before = by_test ask (is_child m ask.access) refl may before
      by_event _ may before = refl

  -- ONE ENTRY AFTER ANOTHER

  module _ (e : Entry) (past : Past) (lists : List (Vec ℕ Global)) (was : AreAsksOf past lists) (legal : Legal setting (e ∷ past)) where
    pub none_more : manager_of e.event ≡ None → AreAsksOf (e ∷ past) lists
    none_more none = record {
      at_place = λ m i is. elim (place_step e past m i is) [
        | inl old ↦ was.at_place m i old ∙ asks_stay e past m (silent m e.event none)
        | inr new ↦ was.beyond i (omega (arith, new.2)) ∙ sym (none_asked past m legal.0 (unstarted past m new.0)) ∙ asks_stay e past m (silent m e.event none)
      ];
      beyond = λ i more. was.beyond i (omega (arith, more));
    }

    module _ (p : Name) (is : manager_of e.event ≡ Some p) where
      pub placed_before : (at : ℕ) → place (e ∷ past) p ≡ Some at → place past p ≡ Some at
      placed_before at here = place_stays e past p at (no_start p e.event is) here

      pub has_place : place (e ∷ past) p ≡ None → ⊥
      has_place none = some_or_none (start (e ∷ past) p) (start_stays e past p (manager_started past p e.seat e.event legal.1 is)) (unstarted (e ∷ past) p none)

      pub one_more : (at : ℕ) (later : List (Vec ℕ Global)) → place past p ≡ Some at → listed later at ≡ listed lists at ++ length past ∷ [] → ((i : ℕ) → (i ≡ at → ⊥) → listed later i ≡ listed lists i) → AreAsksOf (e ∷ past) later
      one_more at later here more others = record {
        at_place = λ m i placed. let old = place_stays e past m i (no_start p e.event is) placed in elim (one_of i at) [
          | inl there ↦
              let this : m ≡ p = place_once past m p i old (here ∙ ap (λ k. Some k) (sym there)) in
              let own = own_access past p e.seat e.event legal.0 legal.1 is in
              ap (listed later) there ∙ more ∙ ap (λ xs. xs ++ length past ∷ []) (was.at_place p at here) ∙ asks_grow e past p own.0 own.1 ∙ ap (asked_at (e ∷ past)) (sym this)
          | inr other ↦
              others i other ∙ was.at_place m i old
              ∙ asks_stay e past m (other_manager m p e.event is (λ this. other (same_Some i at (sym old ∙ ap (place past) this ∙ here))))
        ];
        beyond = λ i over.
            let calm = no_start p e.event is in
            others i (λ there. let within = place_within past p at here in absurd (omega (arith, within, over, there, calm))) ∙ was.beyond i (omega (arith, over));
      }

-- READING

told_ask : (m : Name) (ev : Event) (ask : Ask) → ask_below m ev ≡ Some ask → ask_of ev ≡ Some ask
told_ask m (event.Ask own) ask is = by_test (is_child m own.access) is
  where
    by_test : (b : Bool) → (if b then Some own else None) ≡ Some ask → Some own ≡ Some ask
    by_test true same = same
    by_test false same = absurd cc
told_ask m _ ask is = absurd cc

module _ (entries : List Entry) (m : Name) (k : ℕ) (less : k < length (asks (reverse entries) m)) where
  abbrev below : Entry → Option Ask
  below e = ask_below m e.event

  pub is_listed : slice_get (asked_at (reverse entries) m) k ≡ None → ⊥
  is_listed none =
      none-some _ (sym none ∙ slice_get-get_or (asked_at (reverse entries) m) k 0 (omega (arith, less, as_many below (reverse entries))))

  -- The entry at the place that is listed here is the request.
  pub record IsThere (at : ℕ) : Type 0 where
    pub within : at < length entries
    pub request : (e : Entry) → slice_get entries at ≡ Some e → (ask : Ask) × (ask_of e.event ≡ Some ask) × (slice_get (asks (reverse entries) m) k ≡ Some ask)

  pub is_there : (at : ℕ) → slice_get (asked_at (reverse entries) m) k ≡ Some at → IsThere at
  is_there at here =
      let found : Answers below (reverse entries) k at = answers_there below (reverse entries) k at here in
      record {
        within = omega (arith, found.within, length-reverse entries);
        request = λ e is. elim (slice_get_cases (asks (reverse entries) m) k).1 [
          | inl item ↦ (item.0, told_ask m e.event item.0 (found.there e (ap (λ es. slice_get es at) (reverse-reverse entries) ∙ is) ∙ item.2), item.2)
          | inr over ↦ absurd (omega (arith, over.0, less))
        ];
      }
