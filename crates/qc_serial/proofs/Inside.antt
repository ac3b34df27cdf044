-- A user child that is entered, walked through and left keeps to the machine's stack.
use Rattle.std.proofs.Common.{◌≡◌, ℕ, ◌-◌, ◌<◌, arith, true, false, ◌⊎◌, inl, inr, List, [], ◌∷◌, ◌++◌, length, take, sym, ap, ◌∙◌, subst, IsTrue}
use mathlib.Core.Bool.{true≢false}
use Rattle.std.specs.Prelude.{None, Some, is_some}
use Rattle.std.specs.Option.{option_map_or}
use Rattle.std.proofs.lemmas.Bool.{false_from_ne_true}
use Rattle.qc_serial.specs.declared.event.SerialEvent.{SerialEvent}
use Rattle.qc_serial.specs.declared.event.SerialEvent.TheVariants.{Enter, Leave}
use Rattle.qc_serial.specs.Machine as machine
use Rattle.qc_serial.specs.Machine.{State, top, next, run}
use Rattle.qc_serial.specs.Shape.{Shaped}
use Rattle.qc_serial.proofs.Runs.{run-append}
use Rattle.qc_serial.proofs.Shape.{shaped-append}
use Rattle.qc_serial.proofs.Known.{Known, known, touched, known_other, known_touched}
use Rattle.qc_serial.proofs.Steps.{top_last, rest_of_stack, waiting, waits, leaves}
use Rattle.qc_event.specs.History.{Past, Name, same, start, end, is_child}
use Rattle.qc_event.proofs.Absent.{same_is}
use Rattle.qc_event.proofs.LastNumber.{EndsIn, ends_in, length_last, child_last, append_next}
use Rattle.qc_serial.proofs.Outside.{outside_itself, parent_last, parent_of}
use Rattle.qc_serial.proofs.Stage.{nothing, stage, stage_closed, stage_started}
use Rattle.qc_serial.proofs.Kept.{Clean, Kept, Walked, Adds}

-- what is known of a user transaction that was entered and left
abbrev pub finished : Known
finished = record { used = true; started = true; entered = true; closed = true }

-- the machine's children are a name and one number more
machine_child : (c x : Name) → machine.is_child c x ≡ true → (k : ℕ) × (x ≡ c ++ k ∷ [])
machine_child c x is = by_parent (ends_in x)
  where
    by_parent : (x ≡ []) ⊎ EndsIn x → (k : ℕ) × (x ≡ c ++ k ∷ [])
    by_parent (inl none) = absurd (true≢false (sym is ∙ ap (machine.is_child c) none))
    by_parent (inr (p, k, e)) =
        let on : same p c ≡ true = ap (λ o. option_map_or (λ q. same q c) o false) (sym (parent_last p k)) ∙ ap (machine.is_child c) (sym e) ∙ is in
        (k, e ∙ ap (λ q. q ++ k ∷ []) (same_is p c on))

pub not_below : (c : Name) (j : ℕ) (rest : Name) → same c (c ++ j ∷ rest) ≡ false
not_below c j rest = false_from_ne_true _ (λ h. outside_itself c j rest (same_is c (c ++ j ∷ rest) h))

-- nothing is known below an open child
below_open : (past : Past) (n c : Name) (m after : State) → Kept past n m after → is_child n c ≡ true → end past c ≡ None → (j : ℕ) (rest : Name) → known after (c ++ j ∷ rest) ≡ nothing
below_open past n c m after kept is going j rest =
    let (i, e) = child_last n c is in
    ap (λ x. known after (x ++ j ∷ rest)) e ∙ ap (known after) (sym (append_next n i (j ∷ rest)))
    ∙ kept.deeper i j rest (ap (end past) (sym e) ∙ going)

-- so once it is entered the machine is clean
pub clean_inside : (past : Past) (n c : Name) (m after : State) → Kept past n m after → is_child n c ≡ true → end past c ≡ None → Clean c (next after (Enter c))
clean_inside past n c m after kept is going = record {
  on_top = top_last after.stack c;
  unknown = λ j rest. known_other after (Enter c) (c ++ j ∷ rest) (not_below c j rest) ∙ below_open past n c m after kept is going j rest;
}

pub longer_than_root : (n c : Name) → is_child n c ≡ true → 0 < length c
longer_than_root n c is = let (j, e) = child_last n c is in omega (arith, ap length e, length_last n j)

not_root : (n c : Name) → is_child n c ≡ true → same c [] ≡ false
not_root n c is = false_from_ne_true _ (λ h. omega (arith, longer_than_root n c is, ap length (same_is c [] h)))

module _ (past later : Past) (n c : Name) (m : State) (inner : List SerialEvent) (is : is_child n c ≡ true) (on : top m.stack ≡ Some n) (waits_here : known m c ≡ waiting) (walked : Walked past c (next m (Enter c)) inner) (closed : (k : ℕ) → is_some (start past (c ++ k ∷ [])) ≡ true → is_some (end past (c ++ k ∷ [])) ≡ true) where
  abbrev entered : State
  entered = next m (Enter c)

  abbrev walked_through : State
  walked_through = run entered inner

  child_closed : (x : Name) → machine.is_child c x ≡ true → (known walked_through x).started ≡ true → (known walked_through x).closed ≡ true
  child_closed x child started =
      let (k, e) = machine_child c x child in
      let is_stage : known walked_through x ≡ stage past x = subst (λ y. known walked_through y ≡ stage past y) (sym e) (walked.1.child k) in
      let begun : (stage past x).started ≡ true = ap (λ (k : Known). k.started) (sym is_stage) ∙ started in
      let ended : is_some (end past x) ≡ true = subst (λ y. is_some (start past y) ≡ true → is_some (end past y) ≡ true) (sym e) (closed k) (stage_started past x begun) in
      ap (λ (k : Known). k.closed) is_stage ∙ stage_closed past x begun ended

  may_leave : IsTrue (machine.allows walked_through (Leave c))
  may_leave = leaves walked_through c (ap top walked.1.stack ∙ top_last m.stack c) (not_root n c is) child_closed

  pub inside_shaped : Shaped m (Enter c ∷ inner ++ Leave c ∷ [])
  inside_shaped = (waits m n c on (parent_of n c is) waits_here, shaped-append entered inner (Leave c ∷ []) walked.0 (may_leave, tt))

  is_finished : known (next walked_through (Leave c)) c ≡ finished
  is_finished =
      known_touched walked_through (Leave c)
      ∙ ap (touched (Leave c)) (walked.1.outside c (outside_itself c) ∙ known_touched m (Enter c) ∙ ap (touched (Enter c)) waits_here)

  left : stage later c ≡ finished → (end later c ≡ None → ⊥) → Adds later c m (next walked_through (Leave c))
  left done ended = record {
    stack = ap (λ s. take (length s - 1) s) walked.1.stack ∙ rest_of_stack m.stack c;
    here = is_finished ∙ sym done;
    elsewhere = λ x other out. known_other walked_through (Leave c) x other ∙ walked.1.outside x out ∙ known_other m (Enter c) x other;
    still = λ going. absurd (ended going);
  }

  pub inside_adds : stage later c ≡ finished → (end later c ≡ None → ⊥) → Adds later c m (run m (Enter c ∷ inner ++ Leave c ∷ []))
  inside_adds done ended = subst (Adds later c m) (sym (run-append entered inner (Leave c ∷ []))) (left done ended)
