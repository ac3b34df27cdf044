-- Events that keep to the machine's stack are refused for their values alone.
use Rattle.std.proofs.Common.{◌≡◌, ℕ, zero, suc, ◌+◌, ◌<◌, ◌≤◌, Bool, true, false, ◌&&◌, List, [], ◌∷◌, length, drop, get_or, refl, sym, ap, ◌∙◌, arith}
use Rattle.std.specs.Prelude.{Option, None, Some, nat_lt, if◌then◌else◌}
use Rattle.std.specs.Option.{option_map}
use Rattle.std.proofs.lemmas.List.{drop_more, drop_all}
use Rattle.qc_config.specs.Val.{Datum}
use Rattle.qc_serial.specs.declared.event.SerialEvent.{SerialEvent}
use Rattle.qc_serial.specs.declared.event.SerialEvent.TheVariants.{Read, Write}
use Rattle.qc_serial.specs.Machine.{State, has_value, next, first_refused}
use Rattle.qc_serial.specs.Shape.{Shaped, finds, kept, first_unfound}

pub refused_unfound : (m : State) (es : List SerialEvent) → Shaped m es → first_refused m es ≡ first_unfound m.values es
refused_unfound m [] shaped = refl
refused_unfound m (Read n rec value ∷ es) shaped =
    ap (λ b. if (b && has_value m.values rec value) then option_map (λ k. suc k) (first_refused (next m (Read n rec value)) es) else Some 0) shaped.0
    ∙ ap (λ o. if has_value m.values rec value then option_map (λ k. suc k) o else Some 0) (refused_unfound (next m (Read n rec value)) es shaped.1)
refused_unfound m (Write n rec value ∷ es) shaped =
    ap (λ b. if (b && nat_lt rec (length m.values)) then option_map (λ k. suc k) (first_refused (next m (Write n rec value)) es) else Some 0) shaped.0
    ∙ ap (λ o. if nat_lt rec (length m.values) then option_map (λ k. suc k) o else Some 0) (refused_unfound (next m (Write n rec value)) es shaped.1)
refused_unfound m (e ∷ es) shaped =
    ap (λ b. if b then option_map (λ k. suc k) (first_refused (next m e) es) else Some 0) shaped.0
    ∙ ap (option_map (λ k. suc k)) (refused_unfound (next m e) es shaped.1)

-- ONE EVENT AFTER ANOTHER

-- the first of the events that is not found, where none so far is
abbrev pub IsMidway : List Datum → List SerialEvent → ℕ → List Datum → Type 0
IsMidway start events i values = first_unfound start events ≡ option_map (λ k. i + k) (first_unfound values (drop i events))

pub at_first : (start : List Datum) (events : List SerialEvent) → IsMidway start events 0 start
at_first start events = by (first_unfound start events)
  where
    by : (o : Option ℕ) → o ≡ option_map (λ k. 0 + k) o
    by None = refl
    by (Some k) = let e : k ≡ 0 + k = omega arith in ap Some e

module _ (start : List Datum) (events : List SerialEvent) (i : ℕ) (values : List Datum) (midway : IsMidway start events i values) where
  module _ (e : SerialEvent) (less : i < length events) (item : e ≡ get_or events i e) where
    rest : drop i events ≡ e ∷ drop (i + 1) events
    rest = drop_more events i e less ∙ ap (λ x. x ∷ drop (i + 1) events) (sym item)

    further : first_unfound start events ≡ option_map (λ k. i + k) (first_unfound values (e ∷ drop (i + 1) events))
    further = midway ∙ ap (λ es. option_map (λ k. i + k) (first_unfound values es)) rest

    pub one_more : finds values e ≡ true → IsMidway start events (i + 1) (kept values e)
    one_more found =
        further
        ∙ ap (λ b. option_map (λ k. i + k) (if b then option_map (λ k. suc k) (first_unfound (kept values e) (drop (i + 1) events)) else Some 0)) found
        ∙ by (first_unfound (kept values e) (drop (i + 1) events))
      where
        by : (o : Option ℕ) → option_map (λ k. i + k) (option_map (λ k. suc k) o) ≡ option_map (λ k. (i + 1) + k) o
        by None = refl
        by (Some k) = let e : i + suc k ≡ (i + 1) + k = omega arith in ap Some e

    pub unfound_here : finds values e ≡ false → Some i ≡ first_unfound start events
    unfound_here unfound =
        sym (further ∙ ap (λ b. option_map (λ k. i + k) (if b then option_map (λ k. suc k) (first_unfound (kept values e) (drop (i + 1) events)) else Some 0)) unfound
        ∙ (let here : i + 0 ≡ i = omega arith in ap Some here))

  pub all_found : length events ≤ i → None ≡ first_unfound start events
  all_found over = sym (midway ∙ ap (λ es. option_map (λ k. i + k) (first_unfound values es)) (drop_all i events over))
