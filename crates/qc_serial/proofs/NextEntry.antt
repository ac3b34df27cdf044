-- What the next entry of an orderly history adds to a walk keeps to the machine's stack.
use Rattle.std.proofs.Common.{◌≡◌, ℕ, ◌+◌, ◌<◌, Bool, true, false, [], ◌∷◌, ◌++◌, length, refl, sym, ap, ◌∙◌, subst, arith}
use Rattle.std.specs.Prelude.{Option, None, Some, is_some, if◌then◌else◌}
use Rattle.qc_names.specs.Name as name
use Rattle.qc_event.specs.declared.event.Answer.{Answer}
use Rattle.qc_event.specs.declared.event.Answer.TheVariants as answer
use Rattle.qc_event.specs.declared.event.Entry.{Entry}
use Rattle.qc_event.specs.declared.event.Event.{Event}
use Rattle.qc_event.specs.declared.event.Event.TheVariants as event
use Rattle.qc_event.specs.declared.event.How.{How}
use Rattle.qc_event.specs.declared.event.How.TheVariants.{Commit, Abort}
use Rattle.qc_event.specs.declared.event.Kind.{Kind}
use Rattle.qc_event.specs.declared.event.Kind.TheVariants as kind
use Rattle.qc_serial.specs.declared.event.SerialEvent.{SerialEvent}
use Rattle.qc_serial.specs.declared.event.SerialEvent.TheVariants.{Start, Enter, Read, Write, Skip}
use Rattle.qc_serial.specs.Machine.{State, top, next, run}
use Rattle.qc_serial.specs.Shape.{Shaped}
use Rattle.qc_serial.proofs.Known.{Known, known, touched}
use Rattle.qc_serial.proofs.Steps.{waiting, begins, waits}
use Rattle.qc_event.specs.History.{Past, Name, start, end, is_child, kind_of, children, start_in, end_in}
use Rattle.qc_event.specs.declared.event.Cause.{Cause}
use Rattle.qc_event.specs.Dead.{outcome_of, is_committed}
use Rattle.qc_event.proofs.Orderly.{Begins, KeepsOrder}
use Rattle.qc_event.proofs.Absent.{if_not}
use Rattle.qc_event.proofs.LastNumber.{length_last}
use Rattle.qc_event.proofs.OneEntry.{some_or_none, not_some, start_stays, open_before}
use Rattle.qc_event.proofs.Lawful.{Lawful, ends_open}
use Rattle.qc_event.proofs.Lineage.{IsFresh, fresh_child}
use Rattle.qc_serial.specs.Walk.{walk, added, ended}
use Rattle.qc_serial.proofs.Outside.{no_child, parent_of}
use Rattle.qc_serial.proofs.Stage.{nothing, stage, stage_of, same_stage, stage_unstarted, stage_at_start, end_there, end_elsewhere, stage_open, stage_at_end}
use Rattle.qc_serial.proofs.Kept.{Clean, Walked, Adds, GoesOn, grows, stays, child_known, one_adds, none_adds}
use Rattle.qc_serial.proofs.Inside.{not_below, longer_than_root, clean_inside, inside_shaped, inside_adds}

-- who starts has neither started nor ended
pub record IsNew (past : Past) (c : Name) : Type 0 where
  pub no_start : start past c ≡ None
  pub no_end : end past c ≡ None

starts_new : (past : Past) (c : Name) (k : Kind) → Lawful past → Begins past c k → IsNew past c
starts_new past [] k law may = absurd may
starts_new past (x ∷ []) k law may = record {
  no_start = may.fresh;
  no_end = not_some (end past (x ∷ [])) (λ h. some_or_none (start past (x ∷ [])) (law.end_has_start (x ∷ []) h) may.fresh);
}
starts_new past (x ∷ y ∷ r) k law may =
    let pos : 0 < length (name.front (x ∷ y ∷ r)) = omega (arith, ap length may.next_child, length_last (name.front (x ∷ y ∷ r)) (length (children past (name.front (x ∷ y ∷ r))) + 1)) in
    let fresh = subst (IsFresh past) (sym may.next_child) (fresh_child past (name.front (x ∷ y ∷ r)) (length (children past (name.front (x ∷ y ∷ r))) + 1) [] law pos (omega arith)) in
    record { no_start = fresh.no_start; no_end = fresh.no_end }

abbrev with_entry : Past → ℕ → Event → Past
with_entry past seat ev = record { seat = seat; event = ev } ∷ past

start_goes_on : (past : Past) (seat : ℕ) (c : Name) (k : Kind) → GoesOn past (with_entry past seat (event.Start c k)) c
start_goes_on past seat c k = record {
  open_before = open_before (record { seat = seat; event = event.Start c k }) past;
  same_stage = λ x other. same_stage (record { seat = seat; event = event.Start c k }) past x (if_not _ _ other) refl;
}

end_goes_on : (past : Past) (seat : ℕ) (c : Name) (how : How) → GoesOn past (with_entry past seat (event.End c how)) c
end_goes_on past seat c how = record {
  open_before = open_before (record { seat = seat; event = event.End c how }) past;
  same_stage = λ x other. same_stage (record { seat = seat; event = event.End c how }) past x refl (if_not _ _ other);
}

-- what commits has no open child
commits_closed : (past : Past) (seat : ℕ) (c : Name) (given : Answer) → Lawful (with_entry past seat (event.End c (Commit given))) → end past c ≡ None → 0 < length c → (k : ℕ) → is_some (start past (c ++ k ∷ [])) ≡ true → is_some (end past (c ++ k ∷ [])) ≡ true
commits_closed past seat c given law going pos k h =
    ap is_some (sym (end_elsewhere past seat c (c ++ k ∷ []) (Commit given) (not_below c k [])))
    ∙ law.committed_closed c k pos (ap (λ o. is_committed (outcome_of o)) (end_there past seat c (Commit given) going)) (start_stays (record { seat = seat; event = event.End c (Commit given) }) past (c ++ k ∷ []) h)

module _ (past : Past) (n : Name) (m : State) (on_top : top m.stack ≡ Some n) (before : Walked past n m (walk past n)) where
  abbrev now : State
  now = run m (walk past n)

  top_now : top now.stack ≡ Some n
  top_now = ap top before.1.stack ∙ on_top

  -- an entry about a name that is no child of the name
  elsewhere : (later : Past) (c : Name) → GoesOn past later c → is_child n c ≡ false → Walked later n m (walk past n ++ [])
  elsewhere later c on not = stays past later n m (walk past n) on.open_before (λ j. on.same_stage (n ++ j ∷ []) (no_child n c j not)) before

  -- STARTS

  unknown_yet : (c : Name) → IsNew past c → is_child n c ≡ true → known now c ≡ nothing
  unknown_yet c new is = child_known past n c m now before.1 is ∙ stage_unstarted past c new.no_start new.no_end

  user_start : (seat : ℕ) (c : Name) (session body : ℕ) → IsNew past c → (b : Bool) → is_child n c ≡ b → Walked (with_entry past seat (event.Start c (kind.User session body))) n m (walk past n ++ (if b then Start c ∷ [] else []))
  user_start seat c session body new true is =
      let unknown = unknown_yet c new is in
      let later = with_entry past seat (event.Start c (kind.User session body)) in
      grows past later n c m (walk past n) (Start c ∷ []) is (start_goes_on past seat c (kind.User session body)) before
      (begins now n c top_now (parent_of n c is) (ap (λ (k : Known). k.used) unknown), tt)
      (one_adds later now (Start c) refl (ap (touched (Start c)) unknown ∙ sym (stage_at_start past seat c (kind.User session body) new.no_start new.no_end)))
  user_start seat c session body new false is = elsewhere _ c (start_goes_on past seat c (kind.User session body)) is

  -- a manager's start adds nothing
  other_start : (seat : ℕ) (c : Name) (k : Kind) → IsNew past c → stage_of (Some k) None ≡ nothing → (b : Bool) → is_child n c ≡ b → Walked (with_entry past seat (event.Start c k)) n m (walk past n ++ [])
  other_start seat c k new no_user true is =
      grows past _ n c m (walk past n) [] is (start_goes_on past seat c k) before tt
      (none_adds _ c now (unknown_yet c new is ∙ sym (stage_at_start past seat c k new.no_start new.no_end ∙ no_user)))
  other_start seat c k new no_user false is = elsewhere _ c (start_goes_on past seat c k) is

  -- ENDS

  module _ (seat : ℕ) (c : Name) (going : end past c ≡ None) (is : is_child n c ≡ true) (walks : (s : State) → Clean c s → Walked past c s (walk past c)) where
    abbrev Ended : Option Kind → How → Type 0
    Ended o how = Shaped now (ended o (walk past c) c how) × Adds (with_entry past seat (event.End c how)) c now (run now (ended o (walk past c) c how))

    known_open : (o : Option Kind) → kind_of past c ≡ o → known now c ≡ stage_of o None
    known_open o has = child_known past n c m now before.1 is ∙ stage_open past c o has going

    -- one event about the child, which makes of the stage before the end the stage after it
    one_event : (o : Option Kind) (how : How) (e : SerialEvent) → kind_of past c ≡ o → touched e (stage_of o None) ≡ stage_of o (Some how) → touched e (known now c) ≡ stage (with_entry past seat (event.End c how)) c
    one_event o how e has makes = ap (touched e) (known_open o has) ∙ makes ∙ sym (stage_at_end past seat c how o has going)

    no_event : (o : Option Kind) (how : How) → kind_of past c ≡ o → stage_of o None ≡ stage_of o (Some how) → Adds (with_entry past seat (event.End c how)) c now now
    no_event o how has same = none_adds _ c now (known_open o has ∙ same ∙ sym (stage_at_end past seat c how o has going))

    still_unused : (o : Option Kind) → kind_of past c ≡ o → (stage_of o None).used ≡ false → (known now c).used ≡ false
    still_unused o has unused = ap (λ (k : Known). k.used) (known_open o has) ∙ unused

    committed : (given : Answer) (o : Option Kind) → kind_of past c ≡ o → ((k : ℕ) → is_some (start past (c ++ k ∷ [])) ≡ true → is_some (end past (c ++ k ∷ [])) ≡ true) → Ended o (Commit given)
    committed given (Some (kind.User session body)) has closed =
        let later = with_entry past seat (event.End c (Commit given)) in
        let waits_here : known now c ≡ waiting = known_open _ has in
        let inner = walks (next now (Enter c)) (clean_inside past n c m now before.1 is going) in (
          inside_shaped past later n c now (walk past c) is top_now waits_here inner closed,
          inside_adds past later n c now (walk past c) is top_now waits_here inner closed
              (stage_at_end past seat c (Commit given) _ has going)
              (λ open_still. some_or_none (end later c) (ap is_some (end_there past seat c (Commit given) going)) open_still),
        )
    committed (answer.Value value) (Some (kind.Read rec)) has closed =
        ((begins now n c top_now (parent_of n c is) (still_unused _ has refl), tt), one_adds _ now (Read c rec value) refl (one_event _ (Commit (answer.Value value)) (Read c rec value) has refl))
    committed given (Some (kind.Write rec value)) has closed =
        ((begins now n c top_now (parent_of n c is) (still_unused _ has refl), tt), one_adds _ now (Write c rec value) refl (one_event _ (Commit given) (Write c rec value) has refl))
    committed _ _ has closed = (tt, no_event _ _ has refl)

    aborted : (o : Option Kind) (cause : Cause) → kind_of past c ≡ o → Ended o (Abort cause)
    aborted (Some (kind.User session body)) cause has =
        ((waits now n c top_now (parent_of n c is) (known_open _ has), tt), one_adds _ now (Skip c) refl (one_event _ (Abort cause) (Skip c) has refl))
    aborted _ cause has = (tt, no_event _ (Abort cause) has refl)

    ending : (how : How) → Lawful (with_entry past seat (event.End c how)) → Ended (kind_of past c) how
    ending (Commit given) law = committed given (kind_of past c) refl (commits_closed past seat c given law going (longer_than_root n c is))
    ending (Abort cause) law = aborted (kind_of past c) cause refl

  some_end : (seat : ℕ) (c : Name) (how : How) → end past c ≡ None → Lawful (with_entry past seat (event.End c how)) → ((s : State) → Clean c s → Walked past c s (walk past c)) → (b : Bool) → is_child n c ≡ b → Walked (with_entry past seat (event.End c how)) n m (walk past n ++ (if b then ended (kind_of past c) (walk past c) c how else []))
  some_end seat c how going law walks true is =
      let ends = ending seat c going is walks how law in
      grows past _ n c m (walk past n) (ended (kind_of past c) (walk past c) c how) is (end_goes_on past seat c how) before ends.0 ends.1
  some_end seat c how going law walks false is = elsewhere _ c (end_goes_on past seat c how) is

-- an entry that neither starts nor ends a name
other_entry : (past : Past) (e : Entry) (n : Name) (m : State) → ((x : Name) → start_in x e.seat e.event ≡ None) → ((x : Name) → end_in x e.event ≡ None) → Walked past n m (walk past n) → Walked (e ∷ past) n m (walk past n ++ [])
other_entry past e n m no_start no_end before = stays past (e ∷ past) n m (walk past n) (open_before e past) (λ j. same_stage e past (n ++ j ∷ []) (no_start (n ++ j ∷ [])) (no_end (n ++ j ∷ []))) before

pub next_entry : (past : Past) (seat : ℕ) (ev : Event) (n : Name) (m : State) → Lawful past → Lawful (record { seat = seat; event = ev } ∷ past) → KeepsOrder past ev → top m.stack ≡ Some n → Walked past n m (walk past n) → ((c : Name) (s : State) → Clean c s → Walked past c s (walk past c)) → Walked (record { seat = seat; event = ev } ∷ past) n m (walk past n ++ added past (walk past) n ev)
next_entry past seat (event.Start c (kind.User session body)) n m law later may on_top before walks =
    user_start past n m on_top before seat c session body (starts_new past c (kind.User session body) law may) (is_child n c) refl
next_entry past seat (event.Start c (kind.Read rec)) n m law later may on_top before walks =
    other_start past n m on_top before seat c (kind.Read rec) (starts_new past c (kind.Read rec) law may) refl (is_child n c) refl
next_entry past seat (event.Start c (kind.Write rec value)) n m law later may on_top before walks =
    other_start past n m on_top before seat c (kind.Write rec value) (starts_new past c (kind.Write rec value) law may) refl (is_child n c) refl
next_entry past seat (event.Start c (kind.Reconf rec config)) n m law later may on_top before walks =
    other_start past n m on_top before seat c (kind.Reconf rec config) (starts_new past c (kind.Reconf rec config) law may) refl (is_child n c) refl
next_entry past seat (event.Start c kind.Access) n m law later may on_top before walks =
    other_start past n m on_top before seat c kind.Access (starts_new past c kind.Access law may) refl (is_child n c) refl
next_entry past seat (event.End c how) n m law later may on_top before walks =
    some_end past n m on_top before seat c how (ends_open past (record { seat = seat; event = event.End c how }) c how refl may).not_ended later (walks c) (is_child n c) refl
next_entry past seat ev n m law later may on_top before walks =
    other_entry past (record { seat = seat; event = ev }) n m (λ x. refl) (λ x. refl) before
