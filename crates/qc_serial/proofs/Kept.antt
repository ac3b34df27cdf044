-- What a machine keeps to while it walks through a name, and how what one entry adds keeps to it.
use Rattle.std.proofs.Common.{◌≡◌, ℕ, Bool, true, false, List, [], ◌∷◌, ◌++◌, refl, sym, ap, ◌∙◌, subst, append-nil}
use Rattle.std.specs.Prelude.{None, Some}
use Rattle.qc_serial.specs.declared.event.SerialEvent.{SerialEvent}
use Rattle.qc_serial.specs.Machine.{State, top, next, run}
use Rattle.qc_serial.specs.Shape.{Shaped}
use Rattle.qc_serial.proofs.Runs.{run-append}
use Rattle.qc_serial.proofs.Shape.{shaped-append}
use Rattle.qc_serial.proofs.Known.{known, name_of, touched, known_other, known_touched}
use Rattle.qc_event.specs.History.{Past, Name, same, end, is_child}
use Rattle.qc_event.proofs.Absent.{same_is}
use Rattle.qc_event.proofs.LastNumber.{child_last}
use Rattle.qc_serial.proofs.Outside.{Outside, sibling_outside, deeper_outside, outside_child, outside_not_child, deeper_not_child, other_child}
use Rattle.qc_serial.proofs.Stage.{nothing, stage}

-- a machine with a name on top that knows nothing below it
pub record Clean (n : Name) (m : State) : Type 0 where
  pub on_top : top m.stack ≡ Some n
  pub unknown : (j : ℕ) (rest : Name) → known m (n ++ j ∷ rest) ≡ nothing

-- the machine after a walk from a clean one: it knows of the name's children what the history says,
-- of those below an open child nothing, and of others what it knew
pub record Kept (past : Past) (n : Name) (m after : State) : Type 0 where
  pub stack : after.stack ≡ m.stack
  pub child : (j : ℕ) → known after (n ++ j ∷ []) ≡ stage past (n ++ j ∷ [])
  pub deeper : (j i : ℕ) (rest : Name) → end past (n ++ j ∷ []) ≡ None → known after (n ++ j ∷ i ∷ rest) ≡ nothing
  pub outside : (x : Name) → Outside n x → known after x ≡ known m x

abbrev pub Walked : Past → Name → State → List SerialEvent → Type 0
Walked past n m es = Shaped m es × Kept past n m (run m es)

-- what an entry about one name makes of the machine
pub record Adds (later : Past) (c : Name) (m after : State) : Type 0 where
  pub stack : after.stack ≡ m.stack
  pub here : known after c ≡ stage later c
  pub elsewhere : (x : Name) → same c x ≡ false → Outside c x → known after x ≡ known m x
  pub still : end later c ≡ None → (x : Name) → same c x ≡ false → known after x ≡ known m x

-- how one history goes on to another, but for one name
pub record GoesOn (past later : Past) (c : Name) : Type 0 where
  pub open_before : (x : Name) → end later x ≡ None → end past x ≡ None
  pub same_stage : (x : Name) → same c x ≡ false → stage later x ≡ stage past x

pub kept_at_first : (n : Name) (m : State) → Clean n m → Kept [] n m m
kept_at_first n m clean = record { stack = refl; child = λ j. clean.unknown j []; deeper = λ j i rest h. clean.unknown j (i ∷ rest); outside = λ x out. refl }

kept_more : (past later : Past) (n : Name) (j : ℕ) (m before after : State) → GoesOn past later (n ++ j ∷ []) → Kept past n m before → Adds later (n ++ j ∷ []) before after → Kept later n m after
kept_more past later n j m before after on kept adds = record {
  stack = adds.stack ∙ kept.stack;
  child = λ k. child k (same (n ++ j ∷ []) (n ++ k ∷ [])) refl;
  deeper = λ k i rest going. deeper k i rest going (same (n ++ j ∷ []) (n ++ k ∷ [])) refl;
  outside = λ x out. adds.elsewhere x (outside_not_child n j x out) (outside_child n j x out) ∙ kept.outside x out;
}
  where
    child : (k : ℕ) (b : Bool) → same (n ++ j ∷ []) (n ++ k ∷ []) ≡ b → known after (n ++ k ∷ []) ≡ stage later (n ++ k ∷ [])
    child k true is = subst (λ x. known after x ≡ stage later x) (same_is (n ++ j ∷ []) (n ++ k ∷ []) is) adds.here
    child k false is = adds.elsewhere (n ++ k ∷ []) is (sibling_outside n j k) ∙ kept.child k ∙ sym (on.same_stage (n ++ k ∷ []) is)

    deeper : (k i : ℕ) (rest : Name) → end later (n ++ k ∷ []) ≡ None → (b : Bool) → same (n ++ j ∷ []) (n ++ k ∷ []) ≡ b → known after (n ++ k ∷ i ∷ rest) ≡ nothing
    deeper k i rest going true is =
        adds.still (ap (end later) (same_is (n ++ j ∷ []) (n ++ k ∷ []) is) ∙ going) (n ++ k ∷ i ∷ rest) (deeper_not_child n j k i rest)
        ∙ kept.deeper k i rest (on.open_before (n ++ k ∷ []) going)
    deeper k i rest going false is =
        adds.elsewhere (n ++ k ∷ i ∷ rest) (deeper_not_child n j k i rest) (deeper_outside n j k i rest (other_child n j k is))
        ∙ kept.deeper k i rest (on.open_before (n ++ k ∷ []) going)

-- a walk goes on by what an entry about a child adds
pub grows : (past later : Past) (n c : Name) (m : State) (es more : List SerialEvent) → is_child n c ≡ true → GoesOn past later c → Walked past n m es → Shaped (run m es) more → Adds later c (run m es) (run (run m es) more) → Walked later n m (es ++ more)
grows past later n c m es more is on walked shaped adds =
    let (j, e) = child_last n c is in (
      shaped-append m es more walked.0 shaped,
      subst (Kept later n m) (sym (run-append m es more))
          (kept_more past later n j m (run m es) (run (run m es) more) (subst (GoesOn past later) e on) walked.1 (subst (λ x. Adds later x (run m es) (run (run m es) more)) e adds)),
    )

-- or by nothing, at an entry that leaves the children's stages
pub stays : (past later : Past) (n : Name) (m : State) (es : List SerialEvent) → ((x : Name) → end later x ≡ None → end past x ≡ None) → ((j : ℕ) → stage later (n ++ j ∷ []) ≡ stage past (n ++ j ∷ [])) → Walked past n m es → Walked later n m (es ++ [])
stays past later n m es open_before same_stage walked =
    subst (Walked later n m) (sym (append-nil es)) (
      walked.0,
      record {
        stack = walked.1.stack;
        child = λ j. walked.1.child j ∙ sym (same_stage j);
        deeper = λ j i rest going. walked.1.deeper j i rest (open_before (n ++ j ∷ []) going);
        outside = walked.1.outside;
      },
    )

pub child_known : (past : Past) (n c : Name) (m after : State) → Kept past n m after → is_child n c ≡ true → known after c ≡ stage past c
child_known past n c m after kept is = let (j, e) = child_last n c is in subst (λ x. known after x ≡ stage past x) (sym e) (kept.child j)

-- one event about the name
pub one_adds : (later : Past) (m : State) (e : SerialEvent) → (next m e).stack ≡ m.stack → touched e (known m (name_of e)) ≡ stage later (name_of e) → Adds later (name_of e) m (next m e)
one_adds later m e stack here = record {
  stack = stack;
  here = known_touched m e ∙ here;
  elsewhere = λ x other out. known_other m e x other;
  still = λ going x other. known_other m e x other;
}

pub none_adds : (later : Past) (c : Name) (m : State) → known m c ≡ stage later c → Adds later c m m
none_adds later c m here = record { stack = refl; here = here; elsewhere = λ x other out. refl; still = λ going x other. refl }
