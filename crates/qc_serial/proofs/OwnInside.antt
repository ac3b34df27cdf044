-- The walk of a name has what a transaction below it did once all between them have committed, and nothing before.
use Rattle.std.proofs.Common.{◌≡◌, ℕ, ◌+◌, ◌<◌, ◌≤◌, Bool, true, false, List, [], ◌∷◌, ◌++◌, length, refl, sym, ap, ◌∙◌, subst, arith, append-nil}
use mathlib.Core.Bool.{true≢false}
use Rattle.std.specs.Prelude.{Option, None, Some, is_some, ◌&&◌, if◌then◌else◌}
use Rattle.std.specs.Option.{option_or}
use Rattle.std.proofs.lemmas.List.Elements.{filter-append}
use Rattle.std.proofs.lemmas.List.{length-append}
use Rattle.std.proofs.lemmas.Bool.{and_parts, false_from_ne_true}
use Rattle.qc_event.specs.declared.event.Entry.{Entry}
use Rattle.qc_event.specs.declared.event.How.{How}
use Rattle.qc_event.specs.declared.event.How.TheVariants.{Commit, Abort}
use Rattle.qc_event.specs.declared.event.Kind.{Kind}
use Rattle.qc_event.specs.declared.event.Kind.TheVariants as kind
use Rattle.qc_event.specs.declared.event.Answer.{Answer}
use Rattle.qc_event.specs.declared.event.Cause.{Cause}
use Rattle.qc_event.specs.History.{Past, Name, end, end_in, same, is_child, kind_of}
use Rattle.qc_event.specs.Dead.{outcome, outcome_of, is_committed}
use Rattle.qc_event.proofs.Orderly.{KeepsOrder, Orderly}
use Rattle.qc_event.proofs.Absent.{same_is}
use Rattle.qc_event.proofs.Histories.{or_none}
use Rattle.qc_event.proofs.LastNumber.{length_last, same_rest, last_longer, is_child-last, child_last, rest_of, append_next}
use Rattle.qc_event.proofs.OneEntry.{Ending, some_or_none, unless_some, ending, end_now, start_or_end}
use Rattle.qc_event.proofs.Lawful.{Lawful, lawful, ends_open}
use Rattle.qc_event.proofs.SameEvents.{same_end}
use Rattle.qc_serial.specs.declared.event.SerialEvent.{SerialEvent}
use Rattle.qc_serial.specs.Walk.{walk, added, ended}
use Rattle.qc_serial.specs.Own.{is_own, own, own_past, own_in}
use Rattle.qc_serial.proofs.OwnOrder.{own_walk}
use Rattle.qc_serial.proofs.OwnElsewhere.{enters, own_ended_elsewhere, own_added_elsewhere, own_outside, own_in_elsewhere, own_in_committed, own_manager, no_longer}

-- every name below the first, down the rest, is committed
abbrev pub all_committed : Past → Name → Name → Bool
all_committed past a [] = true
all_committed past a (x ∷ r) = is_committed (outcome past (a ++ x ∷ [])) && all_committed past (a ++ x ∷ []) r

-- the last of them too
all_last : (past : Past) (a : Name) (x : ℕ) (r : Name) → all_committed past a (x ∷ r) ≡ true → is_committed (outcome past (a ++ x ∷ r)) ≡ true
all_last past a x [] all = (and_parts (is_committed (outcome past (a ++ x ∷ []))) true all).0
all_last past a x (y ∷ r) all =
    ap (λ n. is_committed (outcome past n)) (append_next a x (y ∷ r))
    ∙ all_last past (a ++ x ∷ []) y r (and_parts (is_committed (outcome past (a ++ x ∷ []))) (all_committed past (a ++ x ∷ []) (y ∷ r)) all).1

-- the walk of a name has the events of a transaction below it where all between them have committed
abbrev pub Inside : Past → Name → Name → Name → Type 0
Inside past t a r = own t (walk past a) ≡ (if all_committed past a r then own_past t past else [])

and_same : (b x y : Bool) → (b ≡ true → x ≡ y) → (b && x) ≡ (b && y)
and_same true x y h = h refl
and_same false x y h = refl

enters_abort : (k : Option Kind) (cause : Cause) → enters k (Abort cause) ≡ false
enters_abort (Some (kind.User session body)) cause = refl
enters_abort _ cause = refl

-- what the end of the child on the line adds
settle : (k : Option Kind) (how : How) (b : Bool) (mine : List SerialEvent) → ((given : Answer) → enters k (Commit given) ≡ false → mine ≡ []) → (if enters k how then (if b then mine else []) else []) ≡ (if is_committed (outcome_of (Some how)) && b then mine else [])
settle k (Abort cause) b mine none = ap (λ (c : Bool). if c then (if b then mine else []) else []) (enters_abort k cause)
settle k (Commit given) b mine none = by_test (enters k (Commit given)) refl
  where
    empty : (c : Bool) → mine ≡ [] → [] ≡ (if c then mine else [])
    empty true nil = sym nil
    empty false nil = refl

    by_test : (c : Bool) → enters k (Commit given) ≡ c → (if enters k (Commit given) then (if b then mine else []) else []) ≡ (if b then mine else [])
    by_test true is = ap (λ (c : Bool). if c then (if b then mine else []) else []) is
    by_test false is = ap (λ (c : Bool). if c then (if b then mine else []) else []) is ∙ empty b (none given is)

module _ (e : Entry) (past : Past) (law : Lawful past) (keeps : KeepsOrder past e.event) where
  same_outcome : (n : Name) → end_in n e.event ≡ None → outcome (e ∷ past) n ≡ outcome past n
  same_outcome n none = ap outcome_of (ap (option_or (end past n)) none ∙ sym (or_none (end past n)))

  same_next : (n : Name) (y : ℕ) (r : Name) → end_in (n ++ y ∷ []) e.event ≡ None → (is_committed (outcome past (n ++ y ∷ [])) ≡ true → all_committed (e ∷ past) (n ++ y ∷ []) r ≡ all_committed past (n ++ y ∷ []) r) → all_committed (e ∷ past) n (y ∷ r) ≡ all_committed past n (y ∷ r)
  same_next n y r none below =
      ap (λ o. is_committed o && all_committed (e ∷ past) (n ++ y ∷ []) r) (same_outcome (n ++ y ∷ []) none)
      ∙ and_same (is_committed (outcome past (n ++ y ∷ []))) _ _ below

  -- below a committed name no end comes
  no_end_below : (n : Name) (y : ℕ) → 0 < length n → is_committed (outcome past n) ≡ true → end_in (n ++ y ∷ []) e.event ≡ None
  no_end_below n y pos committed = unless_some (end_in (n ++ y ∷ []) e.event) (λ how is.
      let going = ends_open past e (n ++ y ∷ []) how (ending (n ++ y ∷ []) e.event how is) keeps in
      some_or_none (end past (n ++ y ∷ [])) (law.committed_closed n y pos committed going.started) going.not_ended)

  same_below : (n r : Name) → 0 < length n → is_committed (outcome past n) ≡ true → all_committed (e ∷ past) n r ≡ all_committed past n r
  same_below n [] pos committed = refl
  same_below n (y ∷ r) pos committed = same_next n y r (no_end_below n y pos committed) (λ next. same_below (n ++ y ∷ []) r (omega (arith, length_last n y)) next)

  -- the end of a name changes nothing about those below it, nor does what ends none of them
  same_all : (n : Name) (y : ℕ) (r : Name) → end_in (n ++ y ∷ []) e.event ≡ None → all_committed (e ∷ past) n (y ∷ r) ≡ all_committed past n (y ∷ r)
  same_all n y r none = same_next n y r none (λ next. same_below (n ++ y ∷ []) r (omega (arith, length_last n y)) next)

  module _ (a : Name) (x : ℕ) (r t : Name) (whole : t ≡ a ++ x ∷ r) where
    abbrev lower : Name
    lower = a ++ x ∷ []

    size : length t ≡ length a + 1 + length r
    size = ap length whole ∙ length-append a (x ∷ r) ∙ (let e : length a + length (x ∷ r) ≡ length a + 1 + length r = omega arith in e)

    -- no child of the upper name is one of the transaction
    not_own_child : (c : Name) → is_child a c ≡ true → is_child t c ≡ false
    not_own_child c is = no_longer t c (below (child_last a c is))
      where
        below : (j : ℕ) × (c ≡ a ++ j ∷ []) → length c ≤ length t
        below (j, last) = omega (arith, size, ap length last, length_last a j)

    line : is_child a lower ≡ true
    line = is_child-last a x

    -- the other children of the upper name did nothing for the transaction
    other_child : (c : Name) → (c ≡ lower → ⊥) → is_child a c ≡ true → own t (walk past c) ≡ []
    other_child c other is = own_outside past c t (false_from_ne_true _ (λ h. apart (child_last a c is) (rest_of c t h)))
      where
        apart : (j : ℕ) × (c ≡ a ++ j ∷ []) → (s : Name) × (t ≡ c ++ s) → ⊥
        apart (j, last) (s, rest) =
            let rests : x ∷ r ≡ j ∷ s = same_rest a (x ∷ r) (j ∷ s) (sym whole ∙ rest ∙ ap (λ d. d ++ s) last ∙ sym (append_next a j s)) in
            let number : j ≡ x = cc in
            other (last ∙ ap (λ k. a ++ k ∷ []) number)

    ends_itself : (c : Name) (how : How) → Ending c e.event how → c ≡ lower → end_in lower e.event ≡ None → ⊥
    ends_itself c how ending is none =
        some_or_none (end_in lower e.event) (ap is_some (end_now lower e.event how (subst (λ d. Ending d e.event how) is ending))) none

    adds_nothing : end_in lower e.event ≡ None → own t (added past (walk past) a e.event) ≡ []
    adds_nothing none = own_added_elsewhere past (walk past) t a e.event not_own_child
        (λ c how ending is. other_child c (λ itself. ends_itself c how ending itself none) is)

    pad : (b : Bool) (old new : List SerialEvent) → (b ≡ true → new ≡ []) → (if b then old else []) ++ [] ≡ (if b then old ++ new else [])
    pad true old new h = ap (λ es. old ++ es) (sym (h refl))
    pad false old new h = refl

    -- what the walk has with the entry
    abbrev Onward : Type 0
    Onward = own t (walk past a) ++ own t (added past (walk past) a e.event) ≡ (if all_committed (e ∷ past) a (x ∷ r) then own_past t (e ∷ past) else [])

    -- where the child on the line does not end
    goes_on : Inside past t a (x ∷ r) → end_in lower e.event ≡ None → Onward
    goes_on before none =
        ap (λ es. es ++ own t (added past (walk past) a e.event)) before
        ∙ ap (λ es. (if all_committed past a (x ∷ r) then own_past t past else []) ++ es) (adds_nothing none)
        ∙ pad (all_committed past a (x ∷ r)) (own_past t past) (own_in past t e.event) (λ all.
        own_in_committed past e t law keeps (omega (arith, size)) (ap (λ n. is_committed (outcome past n)) whole ∙ all_last past a x r all))
        ∙ ap (λ (b : Bool). if b then own_past t past ++ own_in past t e.event else []) (sym (same_all a x r none))

    same_mine : (how : How) → Ending lower e.event how → own_past t (e ∷ past) ≡ own_past t past
    same_mine how here = ap (λ es. own_past t past ++ es) (own_in_elsewhere past t e.event
        (λ c starting is. start_or_end c lower starting.0 how (sym starting.1 ∙ here))
        (λ c other ending is. true≢false (sym is ∙ ap (is_child t) (same_end c lower other how (sym ending ∙ here)) ∙ not_own_child lower line))) ∙ append-nil (own_past t past)

    same_rest_committed : (how : How) → Ending lower e.event how → (s : Name) → all_committed (e ∷ past) lower s ≡ all_committed past lower s
    same_rest_committed how here [] = refl
    same_rest_committed how here (y ∷ s) = same_all lower y s
        (ap (end_in (lower ++ y ∷ [])) here ∙ ap (λ (b : Bool). if b then Some how else None)
        (false_from_ne_true (same lower (lower ++ y ∷ [])) (λ h. last_longer lower y (sym (same_is lower (lower ++ y ∷ []) h)))))

    now_committed : (how : How) → Ending lower e.event how → all_committed (e ∷ past) a (x ∷ r) ≡ (is_committed (outcome_of (Some how)) && all_committed past lower r)
    now_committed how here =
        let going = ends_open past e lower how here keeps in
        ap (λ o. is_committed (outcome_of (option_or o (end_in lower e.event))) && all_committed (e ∷ past) lower r) going.not_ended
        ∙ ap (λ o. is_committed (outcome_of o) && all_committed (e ∷ past) lower r) (end_now lower e.event how here)
        ∙ ap (λ b. is_committed (outcome_of (Some how)) && b) (same_rest_committed how here r)

    own_here : (how : How) → Ending lower e.event how → own t (added past (walk past) a e.event) ≡ (if enters (kind_of past lower) how then own t (walk past lower) else [])
    own_here how here =
        ap (λ ev. own t (added past (walk past) a ev)) here
        ∙ ap (λ (b : Bool). own t (if b then ended (kind_of past lower) (walk past lower) lower how else [])) line
        ∙ own_ended_elsewhere t lower (kind_of past lower) (walk past lower) how (not_own_child lower line)

    -- where it does, nothing was there before
    ends_here : Orderly past → Inside past t a (x ∷ r) → Inside past t lower r → (how : How) → Ending lower e.event how → Onward
    ends_here orderly before inner how here =
        let going = ends_open past e lower how here keeps in
        ap (λ es. es ++ own t (added past (walk past) a e.event)) (before ∙ ap (λ o. if is_committed (outcome_of o) && all_committed past lower r then own_past t past else []) going.not_ended)
        ∙ own_here how here
        ∙ ap (λ es. if enters (kind_of past lower) how then es else []) inner
        ∙ settle (kind_of past lower) how (all_committed past lower r) (own_past t past) (λ given manages.
        own_manager past lower r t given orderly (omega (arith, length_last a x)) (whole ∙ append_next a x r) manages)
        ∙ ap (λ (b : Bool). if b then own_past t past else []) (sym (now_committed how here))
        ∙ ap (λ es. if all_committed (e ∷ past) a (x ∷ r) then es else []) (sym (same_mine how here))

    either_way : Orderly past → Inside past t a (x ∷ r) → Inside past t lower r → (o : Option How) → end_in lower e.event ≡ o → Onward
    either_way orderly before inner None is = goes_on before is
    either_way orderly before inner (Some how) is = ends_here orderly before inner how (ending lower e.event how is)

pub own_inside : (past : Past) → Orderly past → (a r t : Name) → t ≡ a ++ r → Inside past t a r
own_inside past orderly a [] t whole = ap (λ n. own t (walk past n)) (sym (whole ∙ append-nil a)) ∙ own_walk t past
own_inside [] orderly a (x ∷ r) t whole = refl
own_inside (e ∷ past) orderly a (x ∷ r) t whole =
    filter-append (is_own t) (walk past a) (added past (walk past) a e.event)
    ∙ either_way e past (lawful past orderly.0) orderly.1 a x r t whole orderly.0
    (own_inside past orderly.0 a (x ∷ r) t whole)
    (own_inside past orderly.0 (a ++ x ∷ []) r t (whole ∙ append_next a x r))
    (end_in (a ++ x ∷ []) e.event) refl
