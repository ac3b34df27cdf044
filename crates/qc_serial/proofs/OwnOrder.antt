-- A walk has exactly the own events of the transaction that it walks through.
use Rattle.std.proofs.Common.{◌≡◌, ℕ, ◌+◌, Bool, true, false, List, [], ◌∷◌, ◌++◌, length, refl, ap, ◌∙◌, arith}
use Rattle.std.specs.Prelude.{Option, Some, ◌&&◌, ◌==◌, cond, nat_lt, if◌then◌else◌}
use Rattle.std.specs.List.{list_all}
use Rattle.std.proofs.lemmas.List.Elements.{filter-append}
use Rattle.std.proofs.lemmas.List.Folds.{list_all-append}
use Rattle.std.proofs.lemmas.Bool.Decides.{nat_tests}
use Rattle.std.proofs.lemmas.Bool.{and_parts}
use Rattle.qc_names.specs.Name as name
use Rattle.qc_event.specs.declared.event.Answer.TheVariants as answer
use Rattle.qc_event.specs.declared.event.Event.{Event}
use Rattle.qc_event.specs.declared.event.Event.TheVariants as event
use Rattle.qc_event.specs.declared.event.How.{How}
use Rattle.qc_event.specs.declared.event.How.TheVariants.{Commit, Abort}
use Rattle.qc_event.specs.declared.event.Kind.{Kind}
use Rattle.qc_event.specs.declared.event.Kind.TheVariants as kind
use Rattle.qc_serial.specs.declared.event.SerialEvent.{SerialEvent}
use Rattle.qc_serial.specs.declared.event.SerialEvent.TheVariants.{Start, Enter, Read, Write, Leave, Skip}
use Rattle.qc_serial.proofs.Known.{name_of}
use Rattle.qc_event.specs.History.{Past, Name, is_child, kind_of}
use Rattle.qc_event.proofs.LastNumber.{child_longer}
use Rattle.qc_serial.specs.Walk.{walk, added, ended}
use Rattle.qc_serial.specs.Own.{is_own, own, own_past, own_end, own_in}

-- an event is below a depth
abbrev pub deeper : ℕ → SerialEvent → Bool
deeper depth e = nat_lt depth (length (name_of e))

-- the laws of a list that stands under a test
all_if : {X : Type 0} (p : X → Bool) (b : Bool) (xs : List X) → (b ≡ true → list_all p xs ≡ true) → list_all p (if b then xs else []) ≡ true
all_if p true xs h = h refl
all_if p false xs h = refl

all_both : {X : Type 0} (p : X → Bool) (xs ys : List X) → list_all p xs ≡ true → list_all p ys ≡ true → list_all p (xs ++ ys) ≡ true
all_both p xs ys a b = list_all-append p xs ys ∙ ap (λ t. t && list_all p ys) a ∙ b

child_deeper : (n c : Name) (e : SerialEvent) → is_child n c ≡ true → name_of e ≡ c → deeper (length n) e ≡ true
child_deeper n c e h is = let l : length (name_of e) ≡ length n + 1 = ap length is ∙ child_longer n c h in grind (arith, nat_tests)

one_deeper : (n c : Name) (e : SerialEvent) → is_child n c ≡ true → name_of e ≡ c → list_all (deeper (length n)) (e ∷ []) ≡ true
one_deeper n c e h is = ap (λ b. b && true) (child_deeper n c e h is)

still_deeper : (n c : Name) (e : SerialEvent) → is_child n c ≡ true → deeper (length c) e ≡ true → deeper (length n) e ≡ true
still_deeper n c e h d = let l = child_longer n c h in grind (arith, nat_tests)

less_deep : (n c : Name) (es : List SerialEvent) → is_child n c ≡ true → list_all (deeper (length c)) es ≡ true → list_all (deeper (length n)) es ≡ true
less_deep n c [] h all = refl
less_deep n c (e ∷ es) h all =
    let parts = and_parts (deeper (length c) e) (list_all (deeper (length c)) es) all in
    ap (λ b. b && list_all (deeper (length n)) es) (still_deeper n c e h parts.0) ∙ less_deep n c es h parts.1

-- what a child's end adds is deeper than its parent
ended_deeper : (n c : Name) (k : Option Kind) (inner : List SerialEvent) (how : How) → is_child n c ≡ true → list_all (deeper (length c)) inner ≡ true → list_all (deeper (length n)) (ended k inner c how) ≡ true
ended_deeper n c (Some (kind.User session body)) inner (Commit given) h all =
    ap (λ b. b && list_all (deeper (length n)) (inner ++ Leave c ∷ [])) (child_deeper n c (Enter c) h refl)
    ∙ all_both (deeper (length n)) inner (Leave c ∷ []) (less_deep n c inner h all) (one_deeper n c (Leave c) h refl)
ended_deeper n c (Some (kind.User session body)) inner (Abort cause) h all = one_deeper n c (Skip c) h refl
ended_deeper n c (Some (kind.Read rec)) inner (Commit (answer.Value value)) h all = one_deeper n c (Read c rec value) h refl
ended_deeper n c (Some (kind.Write rec value)) inner (Commit given) h all = one_deeper n c (Write c rec value) h refl
ended_deeper n c _ inner _ h all = refl

added_deeper : (past : Past) (did : Name → List SerialEvent) (n : Name) (ev : Event) → ((c : Name) → list_all (deeper (length c)) (did c) ≡ true) → list_all (deeper (length n)) (added past did n ev) ≡ true
added_deeper past did n (event.Start c (kind.User session body)) inside = all_if _ (is_child n c) (Start c ∷ []) (λ h. one_deeper n c (Start c) h refl)
added_deeper past did n (event.End c how) inside = all_if _ (is_child n c) _ (λ h. ended_deeper n c (kind_of past c) (did c) how h (inside c))
added_deeper past did n _ inside = refl

-- each event of a walk is about a name below
pub walk_deeper : (past : Past) (n : Name) → list_all (deeper (length n)) (walk past n) ≡ true
walk_deeper [] n = refl
walk_deeper (e ∷ past) n = all_both _ (walk past n) _ (walk_deeper past n) (added_deeper past (walk past) n e.event (walk_deeper past))

no_child : (t c n : Name) → is_child t c ≡ true → nat_lt (length c) (length n) ≡ true → is_child t n ≡ false
no_child t c n h d = let l = child_longer t c h in ap (λ b. b && name.is_ancestor t n) (let e : (length n == length t + 1) ≡ false = grind (arith, nat_tests) in e)

not_own : (t c : Name) (e : SerialEvent) → is_child t c ≡ true → deeper (length c) e ≡ true → is_own t e ≡ false
not_own t c (Start n) h d = no_child t c n h d
not_own t c (Enter n) h d = refl
not_own t c (Read n rec value) h d = no_child t c n h d
not_own t c (Write n rec value) h d = no_child t c n h d
not_own t c (Leave n) h d = no_child t c n h d
not_own t c (Skip n) h d = no_child t c n h d

own_deeper : (t c : Name) (es : List SerialEvent) → is_child t c ≡ true → list_all (deeper (length c)) es ≡ true → own t es ≡ []
own_deeper t c [] h all = refl
own_deeper t c (e ∷ es) h all =
    let parts = and_parts (deeper (length c) e) (list_all (deeper (length c)) es) all in
    ap (λ b. cond b (e ∷ own t es) (own t es)) (not_own t c e h parts.0) ∙ own_deeper t c es h parts.1

-- an event that is the transaction's own is kept
kept : (t : Name) (e : SerialEvent) → is_own t e ≡ true → own t (e ∷ []) ≡ e ∷ []
kept t e h = ap (λ b. cond b (e ∷ []) []) h

own_ended : (t c : Name) (k : Option Kind) (inner : List SerialEvent) (how : How) → is_child t c ≡ true → list_all (deeper (length c)) inner ≡ true → own t (ended k inner c how) ≡ own_end k c how
own_ended t c (Some (kind.User session body)) inner (Commit given) h all =
    filter-append (is_own t) inner (Leave c ∷ []) ∙ ap (λ es. es ++ own t (Leave c ∷ [])) (own_deeper t c inner h all) ∙ kept t (Leave c) h
own_ended t c (Some (kind.User session body)) inner (Abort cause) h all = kept t (Skip c) h
own_ended t c (Some (kind.Read rec)) inner (Commit (answer.Value value)) h all = kept t (Read c rec value) h
own_ended t c (Some (kind.Write rec value)) inner (Commit given) h all = kept t (Write c rec value) h
own_ended t c _ inner _ h all = refl

own_if : (t : Name) (b : Bool) (xs ys : List SerialEvent) → (b ≡ true → own t xs ≡ ys) → own t (if b then xs else []) ≡ (if b then ys else [])
own_if t true xs ys h = h refl
own_if t false xs ys h = refl

own_added : (past : Past) (did : Name → List SerialEvent) (t : Name) (ev : Event) → ((c : Name) → list_all (deeper (length c)) (did c) ≡ true) → own t (added past did t ev) ≡ own_in past t ev
own_added past did t (event.Start c (kind.User session body)) inside = own_if t (is_child t c) (Start c ∷ []) (Start c ∷ []) (λ h. kept t (Start c) h)
own_added past did t (event.End c how) inside = own_if t (is_child t c) _ _ (λ h. own_ended t c (kind_of past c) (did c) how h (inside c))
own_added past did t _ inside = refl

-- A walk has exactly the transaction's own starts, ends and answers, in their order.
pub own_walk : (t : Name) (past : Past) → own t (walk past t) ≡ own_past t past
own_walk t [] = refl
own_walk t (e ∷ past) =
    filter-append (is_own t) (walk past t) (added past (walk past) t e.event)
    ∙ ap (λ es. es ++ own t (added past (walk past) t e.event)) (own_walk t past)
    ∙ ap (λ es. own_past t past ++ es) (own_added past (walk past) t e.event (walk_deeper past))
