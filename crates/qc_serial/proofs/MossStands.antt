-- The outcomes and the dead of a history, and what is shown in it, are those of its moves.
use Rattle.std.proofs.Common.{◌≡◌, ◌||◌, ◌&&◌, Bool, true, false, cond, [], ◌∷◌, ◌++◌, reverse, refl, sym, ap, ap₂, ◌∙◌}
use Rattle.std.specs.Prelude.{Option, None, Some, is_some, if◌then◌else◌}
use Rattle.std.specs.List.{list_all}
use Rattle.std.specs.Option.{option_or}
use Rattle.std.proofs.lemmas.List.Folds.{list_all-append}
use Rattle.qc_names.specs.Name.{is_ancestor}
use Rattle.qc_event.specs.declared.event.Entry.{Entry}
use Rattle.qc_event.specs.declared.event.Event.{Event}
use Rattle.qc_event.specs.declared.event.Event.TheVariants as event
use Rattle.qc_event.specs.declared.event.How.{How}
use Rattle.qc_event.specs.declared.event.How.TheVariants as how
use Rattle.qc_event.specs.declared.event.Outcome.{Outcome}
use Rattle.qc_event.specs.declared.event.Outcome.TheVariants.{Live}
use Rattle.qc_event.specs.History.{Past, Name, same, start, end, end_in}
use Rattle.qc_event.specs.Dead.{outcome, outcome_of, is_aborted, is_committed, ancestors, dead}
use Rattle.qc_event.proofs.Absent.{same_is}
use Rattle.qc_event.proofs.Histories.{or_none}
use Rattle.qc_event.proofs.LastNumber.{ancestors-last}
use Rattle.qc_event.proofs.OneEntry.{some_or_none}
use Rattle.qc_event.proofs.Orderly.{Orderly, KeepsOrder}
use Rattle.qc_event.proofs.Lawful.{Lawful, lawful, ends_open}
use Rattle.qc_event.proofs.Lineage.{dead_last}
use Rattle.qc_serial.proofs.MossNames.{Line, is_above}
use Rattle.qc_serial.proofs.MossMoves as moss
use Rattle.qc_serial.proofs.MossMoves.{Granted, Commit, Abort, is_dead, is_shown}
use Rattle.qc_serial.proofs.MossPast.{end_move, move_in, moves}
use Rattle.qc_serial.proofs.MossTurned.{turn_last, turn_back, same_turned, above_turned}
use Rattle.qc_event.proofs.Booleans.{and_true}

-- OUTCOMES

or_other : (o : Option How) (now : Outcome) → now ≡ outcome_of o → now ≡ outcome_of (option_or o None)
or_other o now is = is ∙ ap outcome_of (or_none o)

-- an end decides where there was none
ended : (b : Bool) (o : Option How) (h : How) (now : Outcome) → (b ≡ true → o ≡ None) → now ≡ outcome_of o → cond b (outcome_of (Some h)) now ≡ outcome_of (option_or o (if b then Some h else None))
ended true o h now none is = ap (λ x. outcome_of (option_or x (Some h))) (sym (none refl))
ended false o h now none is = or_other o now is

end_decides : (past : Past) (n : Name) (h : How) (d m : Line) → reverse n ≡ m → end past n ≡ None → (n ≡ [] → ⊥) → moss.outcome (moves past) d ≡ outcome past (reverse d)
    → moss.outcome (end_move m h ++ moves past) d ≡ outcome_of (option_or (end past (reverse d)) (if same n (reverse d) then Some h else None))
end_decides past n h d [] is going rooted ih = absurd (rooted (turn_back n [] is))
end_decides past n h d (k ∷ p) is going rooted ih =
    by_how h ∙ ap (λ b. outcome_of (option_or (end past (reverse d)) (if b then Some h else None))) (ap (λ m. same m d) (sym is) ∙ sym (same_turned n d))
  where
    none : same (k ∷ p) d ≡ true → end past (reverse d) ≡ None
    none s = ap (end past) (ap reverse (sym (same_is (k ∷ p) d s)) ∙ sym (turn_back n (k ∷ p) is)) ∙ going

    by_how : (h : How) → moss.outcome (end_move (k ∷ p) h ++ moves past) d ≡ outcome_of (option_or (end past (reverse d)) (if same (k ∷ p) d then Some h else None))
    by_how (how.Commit answer) = ended (same (k ∷ p) d) (end past (reverse d)) (how.Commit answer) (moss.outcome (moves past) d) none ih
    by_how (how.Abort cause) = ended (same (k ∷ p) d) (end past (reverse d)) (how.Abort cause) (moss.outcome (moves past) d) none ih

entry_decides : (past : Past) (e : Entry) (d : Line) (ev : Event) → e.event ≡ ev → Lawful past → KeepsOrder past e.event → moss.outcome (moves past) d ≡ outcome past (reverse d)
    → moss.outcome (move_in ev ++ moves past) d ≡ outcome_of (option_or (end past (reverse d)) (end_in (reverse d) ev))
entry_decides past e d (event.End n h) is law keeps ih =
    let open_before = ends_open past e n h is keeps in
    end_decides past n h d (reverse n) refl open_before.not_ended (λ root. some_or_none (start past n) open_before.started (ap (start past) root ∙ law.no_root_start)) ih
entry_decides past e d (event.Granted copy grant) is law keeps ih = or_other (end past (reverse d)) _ ih
entry_decides past e d _ is law keeps ih = or_other (end past (reverse d)) _ ih

pub outcome_moves : (past : Past) → Orderly past → (d : Line) → moss.outcome (moves past) d ≡ outcome past (reverse d)
outcome_moves [] orderly d = refl
outcome_moves (e ∷ past) orderly d = entry_decides past e d e.event refl (lawful past orderly.0) orderly.1 (outcome_moves past orderly.0 d)

pub live_moves : (past : Past) → Orderly past → (d : Line) → end past (reverse d) ≡ None → moss.outcome (moves past) d ≡ Live
live_moves past orderly d none = outcome_moves past orderly d ∙ ap outcome_of none

pub live_open : (past : Past) → Orderly past → (d : Line) → moss.outcome (moves past) d ≡ Live → end past (reverse d) ≡ None
live_open past orderly d live = by_end (end past (reverse d)) (sym (outcome_moves past orderly d) ∙ live)
  where
    by_end : (o : Option How) → outcome_of o ≡ Live → o ≡ None
    by_end None is = refl
    by_end (Some (how.Commit answer)) is = absurd cc
    by_end (Some (how.Abort cause)) is = absurd cc

-- THE DEAD

is_some_or : (o : Option Name) (b : Bool) (n : Name) → is_some (option_or o (if b then Some n else None)) ≡ (b || is_some o)
is_some_or None true n = refl
is_some_or None false n = refl
is_some_or (Some x) true n = refl
is_some_or (Some x) false n = refl

root_dead : (b : Bool) → is_some {T = Name} (cond b (Some []) None) ≡ b
root_dead true = refl
root_dead false = refl

pub dead_moves : (past : Past) → Orderly past → (d : Line) → is_dead (moves past) d ≡ is_some (dead past (reverse d))
dead_moves past orderly [] = ap is_aborted (outcome_moves past orderly []) ∙ sym (root_dead (is_aborted (outcome past [])))
dead_moves past orderly (k ∷ p) =
    ap₂ (λ x b. is_aborted x || b) (outcome_moves past orderly (k ∷ p) ∙ ap (outcome past) (turn_last k p)) (dead_moves past orderly p)
    ∙ sym (is_some_or (dead past (reverse p)) (is_aborted (outcome past (reverse p ++ k ∷ []))) (reverse p ++ k ∷ []))
    ∙ ap is_some (sym (dead_last past (reverse p) k) ∙ ap (dead past) (sym (turn_last k p)))

-- WHAT IS SHOWN

or_swap : (a b : Bool) → (a || b) ≡ (b || a)
or_swap true true = refl
or_swap true false = refl
or_swap false true = refl
or_swap false false = refl

and_last : (a b : Bool) → (a && b) ≡ (b && (a && true))
and_last true true = refl
and_last true false = refl
and_last false true = refl
and_last false false = refl

abbrev pub shown_in : Past → Name → Name → Bool
shown_in past b a = list_all (λ c. is_ancestor c a || is_committed (outcome past c)) (ancestors b)

one_shown : (past : Past) → Orderly past → (m a : Line) → (is_committed (moss.outcome (moves past) m) || is_above m a) ≡ (is_ancestor (reverse m) (reverse a) || is_committed (outcome past (reverse m)))
one_shown past orderly m a =
    ap₂ (λ x b. is_committed x || b) (outcome_moves past orderly m) (sym (above_turned m a))
    ∙ or_swap (is_committed (outcome past (reverse m))) (is_ancestor (reverse m) (reverse a))

pub shown_moves : (past : Past) → Orderly past → (b a : Line) → is_shown (moves past) b a ≡ shown_in past (reverse b) (reverse a)
shown_moves past orderly [] a = one_shown past orderly [] a ∙ and_true _
shown_moves past orderly (k ∷ p) a =
    ap₂ (λ x y. x && y) (one_shown past orderly (k ∷ p) a ∙ ap (λ c. is_ancestor c (reverse a) || is_committed (outcome past c)) (turn_last k p)) (shown_moves past orderly p a)
    ∙ and_last (is_ancestor (reverse p ++ k ∷ []) (reverse a) || is_committed (outcome past (reverse p ++ k ∷ []))) (shown_in past (reverse p) (reverse a))
    ∙ sym (list_all-append (λ c. is_ancestor c (reverse a) || is_committed (outcome past c)) (ancestors (reverse p)) ((reverse p ++ k ∷ []) ∷ []))
    ∙ ap (list_all (λ c. is_ancestor c (reverse a) || is_committed (outcome past c))) (sym (ancestors-last (reverse p) k) ∙ ap ancestors (sym (turn_last k p)))
