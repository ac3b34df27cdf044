-- Where a walk or an entry has nothing of a transaction's own.
use Rattle.std.proofs.Common.{◌≡◌, ℕ, ◌<◌, ◌≤◌, Bool, true, false, List, [], ◌∷◌, ◌++◌, length, refl, sym, ap, ◌∙◌, subst, arith, append-nil}
use mathlib.Core.Bool.{true≢false}
use Rattle.std.specs.Prelude.{Option, None, Some, is_some, MatchOption, cond, if◌then◌else◌}
use Rattle.std.specs.Option.{option_map}
use Rattle.std.proofs.lemmas.List.{length-append}
use Rattle.std.proofs.lemmas.List.Elements.{filter-append}
use Rattle.std.proofs.lemmas.Bool.{false_from_ne_true}
use Rattle.qc_names.specs.Name as name
use Rattle.qc_event.specs.declared.event.Answer.{Answer}
use Rattle.qc_event.specs.declared.event.Answer.TheVariants as answer
use Rattle.qc_event.specs.declared.event.Entry.{Entry}
use Rattle.qc_event.specs.declared.event.Event.{Event}
use Rattle.qc_event.specs.declared.event.Event.TheVariants as event
use Rattle.qc_event.specs.declared.event.How.{How}
use Rattle.qc_event.specs.declared.event.How.TheVariants.{Commit, Abort}
use Rattle.qc_event.specs.declared.event.Kind.{Kind}
use Rattle.qc_event.specs.declared.event.Kind.TheVariants as kind
use Rattle.qc_event.specs.History.{Past, Name, Begun, IsOpen, start, end, is_child, kind_of}
use Rattle.qc_event.specs.Dead.{outcome, is_committed}
use Rattle.qc_event.specs.Standing.{IsUser, Started}
use Rattle.qc_event.proofs.Orderly.{Belongs, KeepsOrder, Orderly}
use Rattle.qc_event.proofs.LastNumber.{same_last, child_last, rest_of, append_next, is_ancestor-append, child_longer}
use Rattle.qc_event.proofs.OneEntry.{Starting, Ending, some_or_none, started_stays}
use Rattle.qc_event.proofs.Lawful.{Lawful, lawful, child_starts, ends_open, committed_is}
use Rattle.qc_event.proofs.Lineage.{above_user}
use Rattle.qc_serial.specs.declared.event.SerialEvent.{SerialEvent}
use Rattle.qc_serial.specs.declared.event.SerialEvent.TheVariants.{Start, Read, Write, Leave, Skip}
use Rattle.qc_serial.specs.Walk.{walk, added, ended}
use Rattle.qc_serial.specs.Own.{is_own, own, own_past, own_in, own_end}

-- what ends so is entered and left
abbrev pub enters : Option Kind → How → Bool
enters (Some (kind.User session body)) (Commit given) = true
enters _ _ = false

-- an event that is another's is dropped
dropped : (t : Name) (e : SerialEvent) → is_own t e ≡ false → own t (e ∷ []) ≡ []
dropped t e h = ap (λ b. cond b (e ∷ []) []) h

-- of the end of another's child only what the child did may be the transaction's own
pub own_ended_elsewhere : (t c : Name) (k : Option Kind) (inner : List SerialEvent) (how : How) → is_child t c ≡ false → own t (ended k inner c how) ≡ (if enters k how then own t inner else [])
own_ended_elsewhere t c (Some (kind.User session body)) inner (Commit given) out =
    filter-append (is_own t) inner (Leave c ∷ []) ∙ ap (λ es. own t inner ++ es) (dropped t (Leave c) out) ∙ append-nil (own t inner)
own_ended_elsewhere t c (Some (kind.User session body)) inner (Abort cause) out = dropped t (Skip c) out
own_ended_elsewhere t c (Some (kind.Read rec)) inner (Commit (answer.Value value)) out = dropped t (Read c rec value) out
own_ended_elsewhere t c (Some (kind.Write rec value)) inner (Commit given) out = dropped t (Write c rec value) out
own_ended_elsewhere t c _ inner _ out = refl

nothing_if : (t : Name) (b : Bool) (es : List SerialEvent) → (b ≡ true → own t es ≡ []) → own t (if b then es else []) ≡ []
nothing_if t true es h = h refl
nothing_if t false es h = refl

nothing_either : (t : Name) (b : Bool) (es : List SerialEvent) → own t es ≡ [] → (if b then own t es else []) ≡ []
nothing_either t true es h = h
nothing_either t false es h = refl

-- an entry adds nothing of the transaction's own to the walk of another, whose children did nothing for it
pub own_added_elsewhere : (past : Past) (did : Name → List SerialEvent) (t n : Name) (ev : Event) → ((c : Name) → is_child n c ≡ true → is_child t c ≡ false) → ((c : Name) (how : How) → Ending c ev how → is_child n c ≡ true → own t (did c) ≡ []) → own t (added past did n ev) ≡ []
own_added_elsewhere past did t n (event.Start c (kind.User session body)) out inside = nothing_if t (is_child n c) (Start c ∷ []) (λ is. dropped t (Start c) (out c is))
own_added_elsewhere past did t n (event.End c how) out inside =
    nothing_if t (is_child n c) (ended (kind_of past c) (did c) c how)
    (λ is. own_ended_elsewhere t c (kind_of past c) (did c) how (out c is) ∙ nothing_either t (enters (kind_of past c) how) (did c) (inside c how refl is))
own_added_elsewhere past did t n _ out inside = refl

-- a name no longer than another is no child of it
pub no_longer : (t c : Name) → length c ≤ length t → is_child t c ≡ false
no_longer t c short = false_from_ne_true _ (λ is. absurd (omega (arith, child_longer t c is)))

-- the child of a name outside the transaction's line is outside it too
beside : (m t c : Name) → name.is_ancestor m t ≡ false → is_child m c ≡ true → name.is_ancestor c t ≡ false
beside m t c out is = false_from_ne_true _ (λ h. through (child_last m c is) (rest_of c t h))
  where
    through : (j : ℕ) × (c ≡ m ++ j ∷ []) → (r : Name) × (t ≡ c ++ r) → ⊥
    through (j, last) (r, rest) =
        let whole : t ≡ m ++ j ∷ r = rest ∙ ap (λ d. d ++ r) last ∙ sym (append_next m j r) in
        true≢false (sym (is_ancestor-append m (j ∷ r)) ∙ sym (ap (name.is_ancestor m) whole) ∙ out)

-- and is no child of it
not_beside : (m t c : Name) → name.is_ancestor m t ≡ false → is_child m c ≡ true → is_child t c ≡ false
not_beside m t c out is = false_from_ne_true _ (λ other. both (child_last m c is) (child_last t c other))
  where
    both : (j : ℕ) × (c ≡ m ++ j ∷ []) → (k : ℕ) × (c ≡ t ++ k ∷ []) → ⊥
    both (j, last) (k, also) =
        let one : m ≡ t = (same_last m t j k (sym last ∙ also)).0 in
        true≢false (sym (is_ancestor-append m []) ∙ ap (name.is_ancestor m) (append-nil m ∙ one) ∙ out)

-- the walk of a name outside the transaction's line has nothing of its own
pub own_outside : (past : Past) (m t : Name) → name.is_ancestor m t ≡ false → own t (walk past m) ≡ []
own_outside [] m t out = refl
own_outside (e ∷ past) m t out =
    filter-append (is_own t) (walk past m) (added past (walk past) m e.event)
    ∙ ap (λ es. es ++ own t (added past (walk past) m e.event)) (own_outside past m t out)
    ∙ own_added_elsewhere past (walk past) t m e.event (λ c is. not_beside m t c out is) (λ c how ending is. own_outside past c t (beside m t c out is))

-- ENTRIES

none_if : (b : Bool) (es : List SerialEvent) → (b ≡ true → ⊥) → (if b then es else []) ≡ []
none_if true es h = absurd (h refl)
none_if false es h = refl

-- an entry that starts and ends no child of the transaction is nothing to it
pub own_in_elsewhere : (past : Past) (t : Name) (ev : Event) → ((c : Name) → Starting c ev → is_child t c ≡ true → ⊥) → ((c : Name) (how : How) → Ending c ev how → is_child t c ≡ true → ⊥) → own_in past t ev ≡ []
own_in_elsewhere past t (event.Start c (kind.User session body)) starts ends = none_if (is_child t c) (Start c ∷ []) (starts c (kind.User session body, refl))
own_in_elsewhere past t (event.End c how) starts ends = none_if (is_child t c) _ (ends c how refl)
own_in_elsewhere past t _ starts ends = refl

-- no entry is anything to a transaction that has committed
pub own_in_committed : (past : Past) (e : Entry) (t : Name) → Lawful past → KeepsOrder past e.event → 0 < length t → is_committed (outcome past t) ≡ true → own_in past t e.event ≡ []
own_in_committed past e t law keeps pos committed = own_in_elsewhere past t e.event
    (λ c starting is. starts c starting (child_last t c is))
    (λ c how ending is. ends c (ends_open past e c how ending keeps) (child_last t c is))
  where
    starts : (c : Name) → Starting c e.event → (j : ℕ) × (c ≡ t ++ j ∷ []) → ⊥
    starts c starting (j, last) =
        let child = child_starts past e t j pos (subst (λ d. Starting d e.event) last starting) keeps in
        some_or_none (end past t) (ap is_some (committed_is (end past t) committed).1) child.going.is_open.not_ended

    ends : (c : Name) → IsOpen past c → (j : ℕ) × (c ≡ t ++ j ∷ []) → ⊥
    ends c going (j, last) =
        let here : IsOpen past (t ++ j ∷ []) = subst (IsOpen past) last going in
        some_or_none (end past (t ++ j ∷ [])) (law.committed_closed t j pos committed here.started) here.not_ended

-- WHO HAS NOTHING OF ITS OWN

abbrev NoUser : Past → Name → Type 0
NoUser past t = Started past t (λ b. IsUser b.kind) → ⊥

-- where no user transaction stands above, only accesses stand below
end_below : (past : Past) (t c : Name) (how : How) → NoUser past t → (o : Option Begun) → MatchOption o (Unit {0}) (λ b. Started past t (λ p. Belongs p b.kind)) → own_end (option_map (λ (b : Begun). b.kind) o) c how ≡ []
end_below past t c how not_user None under = refl
end_below past t c how not_user (Some b) under = by_kind b.kind under
  where
    by_kind : (k : Kind) → Started past t (λ p. Belongs p k) → own_end (Some k) c how ≡ []
    by_kind kind.Access under = refl
    by_kind (kind.User session body) under = absurd (not_user under)
    by_kind (kind.Read rec) under = absurd (not_user under)
    by_kind (kind.Write rec value) under = absurd (not_user under)
    by_kind (kind.Reconf rec config) under = absurd (not_user under)

-- what stands below a started child's parent, where there is a start
child_belongs : (past : Past) (t c : Name) → Lawful past → 0 < length t → is_child t c ≡ true → MatchOption (start past c) (Unit {0}) (λ b. Started past t (λ p. Belongs p b.kind))
child_belongs past t c law pos is = by_child (child_last t c is)
  where
    either : (o : Option Begun) → (is_some o ≡ true → MatchOption o ⊥ (λ b. Started past t (λ p. Belongs p b.kind))) → MatchOption o (Unit {0}) (λ b. Started past t (λ p. Belongs p b.kind))
    either None under = tt
    either (Some b) under = under refl

    by_child : (j : ℕ) × (c ≡ t ++ j ∷ []) → MatchOption (start past c) (Unit {0}) (λ b. Started past t (λ p. Belongs p b.kind))
    by_child (j, last) = subst (λ d. MatchOption (start past d) (Unit {0}) (λ b. Started past t (λ p. Belongs p b.kind))) (sym last) (either (start past (t ++ j ∷ [])) (law.under t j pos))

-- so no entry is anything to a name that is no user transaction
own_in_no_user : (past : Past) (e : Entry) (t : Name) (ev : Event) → Lawful past → KeepsOrder past ev → e.event ≡ ev → 0 < length t → NoUser past t → own_in past t ev ≡ []
own_in_no_user past e t (event.Start c (kind.User session body)) law keeps here pos not_user = none_if (is_child t c) (Start c ∷ []) (λ is. starts (child_last t c is))
  where
    starts : (j : ℕ) × (c ≡ t ++ j ∷ []) → ⊥
    starts (j, last) = not_user (child_starts past e t j pos (kind.User session body, here ∙ ap (λ d. event.Start d (kind.User session body)) last) (subst (KeepsOrder past) (sym here) keeps)).belongs
own_in_no_user past e t (event.End c how) law keeps here pos not_user = by_test (is_child t c) refl
  where
    by_test : (b : Bool) → is_child t c ≡ b → (if b then own_end (kind_of past c) c how else []) ≡ []
    by_test true is = end_below past t c how not_user (start past c) (child_belongs past t c law pos is)
    by_test false is = refl
own_in_no_user past e t _ law keeps here pos not_user = refl

-- and it has nothing of its own
own_no_user : (past : Past) (t : Name) → Orderly past → 0 < length t → NoUser past t → own_past t past ≡ []
own_no_user [] t orderly pos not_user = refl
own_no_user (e ∷ past) t orderly pos not_user =
    ap (λ es. es ++ own_in past t e.event) (own_no_user past t orderly.0 pos before)
    ∙ own_in_no_user past e t e.event (lawful past orderly.0) orderly.1 refl pos before
  where
    before : NoUser past t
    before user = not_user (started_stays e past t (λ b. IsUser b.kind) user)

user_enters : (o : Option Begun) (given : Answer) → MatchOption o ⊥ (λ b. IsUser b.kind) → enters (option_map (λ (b : Begun). b.kind) o) (Commit given) ≡ true
user_enters None given h = absurd h
user_enters (Some b) given h = by_kind b.kind h
  where
    by_kind : (k : Kind) → IsUser k → enters (Some k) (Commit given) ≡ true
    by_kind (kind.User session body) h = refl
    by_kind (kind.Read rec) h = absurd h
    by_kind (kind.Write rec value) h = absurd h
    by_kind (kind.Reconf rec config) h = absurd h
    by_kind kind.Access h = absurd h

-- at and below a name that is no user transaction there is nothing of anyone's own
pub own_manager : (past : Past) (c r t : Name) (given : Answer) → Orderly past → 0 < length c → t ≡ c ++ r → enters (kind_of past c) (Commit given) ≡ false → own_past t past ≡ []
own_manager past c r t given orderly pos whole manages =
    own_no_user past t orderly (omega (arith, ap length whole, length-append c r)) (λ user.
    let above = above_user past c r (lawful past orderly) pos (subst (λ m. Started past m (λ b. IsUser b.kind)) whole user) in
    true≢false (sym (user_enters (start past c) given above) ∙ manages))
