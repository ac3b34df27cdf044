-- What one entry more changes in a history: what stood still stands, and what is new the entry says.
use Rattle.std.proofs.Common.{◌≡◌, ℕ, ◌≤◌, arith, ◌⊎◌, inl, inr, Bool, true, false, List, [], ◌∷◌, ◌++◌, length, refl, sym, ap, ◌∙◌}
use mathlib.Core.Bool.{true≢false}
use Rattle.std.specs.Prelude.{Option, None, Some, is_some, is_none, MatchOption, if◌then◌else◌, option_to_list, find}
use Rattle.std.specs.List.{AllByRecursion}
use Rattle.std.specs.Option.{option_or}
use Rattle.std.proofs.lemmas.List.{length-append}
use Rattle.std.proofs.lemmas.List.Folds.{find-append}
use Rattle.qc_event.specs.declared.event.Entry.{Entry}
use Rattle.qc_event.specs.declared.event.Event.{Event}
use Rattle.qc_event.specs.declared.event.Event.TheVariants as event
use Rattle.qc_event.specs.declared.event.How.{How}
use Rattle.qc_event.specs.declared.event.Kind.{Kind}
use Rattle.qc_event.specs.History.{Past, Name, Begun, same, start, start_in, end, end_in, ready_in, is_ready, is_child, child_in, children}
use Rattle.qc_event.specs.Standing.{Started}
use Rattle.qc_event.proofs.Absent.{same_is, same_itself}

-- the entry starts the name, with this kind
abbrev pub Starting : Name → Event → Type 0
Starting n ev = (k : Kind) × (ev ≡ event.Start n k)

-- the entry ends the name so
abbrev pub Ending : Name → Event → How → Type 0
Ending n ev how = ev ≡ event.End n how

pub if_some : {Y : Type 0} (b : Bool) (y : Y) → is_some (if b then Some y else None) ≡ true → b ≡ true
if_some true y h = refl
if_some false y h = absurd (true≢false (sym h))

pub if_is : {Y : Type 0} (b : Bool) (x y : Y) → (if b then Some x else None) ≡ Some y → (b ≡ true) × (x ≡ y)
if_is true x y h = (refl, cc)
if_is false x y h = absurd cc

-- an answer is an old one, or the new one where there was none
pub first_some : {Y : Type 0} (old new : Option Y) → is_some (option_or old new) ≡ true → (is_some old ≡ true) ⊎ ((old ≡ None) × (is_some new ≡ true))
first_some None new h = inr (refl, h)
first_some (Some y) new h = inl refl

pub first_is : {Y : Type 0} (old new : Option Y) (y : Y) → option_or old new ≡ Some y → (old ≡ Some y) ⊎ ((old ≡ None) × (new ≡ Some y))
first_is None new y h = inr (refl, h)
first_is (Some x) new y h = inl h

pub stays_some : {Y : Type 0} (old new : Option Y) → is_some old ≡ true → is_some (option_or old new) ≡ true
stays_some None new h = absurd (true≢false (sym h))
stays_some (Some y) new h = refl

pub not_some : {Y : Type 0} (o : Option Y) → (is_some o ≡ true → ⊥) → o ≡ None
not_some None h = refl
not_some (Some y) h = absurd (h refl)

pub unless_some : {Y : Type 0} (o : Option Y) → ((y : Y) → o ≡ Some y → ⊥) → o ≡ None
unless_some None h = refl
unless_some (Some y) h = absurd (h y refl)

pub some_or_none : {Y : Type 0} (o : Option Y) → is_some o ≡ true → o ≡ None → ⊥
some_or_none o h none = true≢false (sym h ∙ ap is_some none)

pub no_some : {Y : Type 0} (o : Option Y) → is_some o ≡ false → o ≡ None
no_some None h = refl
no_some (Some y) h = absurd (true≢false h)

pub some_not_none : {Y : Type 0} (o : Option Y) → is_some o ≡ true → is_none o ≡ false
some_not_none None h = absurd (true≢false (sym h))
some_not_none (Some y) h = refl

pub some_if_not_none : {Y : Type 0} (o : Option Y) → is_none o ≡ false → is_some o ≡ true
some_if_not_none None h = absurd (true≢false h)
some_if_not_none (Some y) h = refl

pub none_before : {Y : Type 0} (old new : Option Y) → option_or old new ≡ None → (old ≡ None) × (new ≡ None)
none_before None new h = (refl, h)
none_before (Some y) new h = absurd cc

pub both_empty : {Y : Type 0} (xs ys : List Y) → xs ++ ys ≡ [] → (xs ≡ []) × (ys ≡ [])
both_empty [] ys h = (refl, h)
both_empty (x ∷ xs) ys h = absurd cc

pub at_most_one : {Y : Type 0} (o : Option Y) → length (option_to_list o) ≤ 1
at_most_one None = omega arith
at_most_one (Some y) = omega arith

-- STARTS

pub starting : (n : Name) (seat : ℕ) (ev : Event) → is_some (start_in n seat ev) ≡ true → Starting n ev
starting n seat (event.Start m k) h = (k, ap (λ x. event.Start x k) (same_is m n (if_some (same m n) _ h)))
starting n seat _ h = absurd (true≢false (sym h))

pub start_step : (e : Entry) (past : Past) (n : Name) → is_some (start (e ∷ past) n) ≡ true → (is_some (start past n) ≡ true) ⊎ ((start past n ≡ None) × Starting n e.event)
start_step e past n h = elim (first_some (start past n) (start_in n e.seat e.event) h) [
  | inl old ↦ inl old
  | inr new ↦ inr (new.0, starting n e.seat e.event new.1)
]

pub start_stays : (e : Entry) (past : Past) (n : Name) → is_some (start past n) ≡ true → is_some (start (e ∷ past) n) ≡ true
start_stays e past n h = stays_some (start past n) (start_in n e.seat e.event) h

starts_some : (n : Name) (seat : ℕ) (ev : Event) → Starting n ev → is_some (start_in n seat ev) ≡ true
starts_some n seat ev (k, is) = ap (λ x. is_some (start_in n seat x)) is ∙ ap (λ (b : Bool). is_some {T = Begun} (if b then Some (record { seat = seat; kind = k }) else None)) (same_itself n)

pub here_some : {Y : Type 0} (o new : Option Y) → is_some new ≡ true → is_some (option_or o new) ≡ true
here_some None new h = h
here_some (Some y) new h = refl

-- what an entry starts is started then
pub start_now : (e : Entry) (past : Past) (n : Name) → Starting n e.event → is_some (start (e ∷ past) n) ≡ true
start_now e past n starting = here_some (start past n) (start_in n e.seat e.event) (starts_some n e.seat e.event starting)

-- and its start is the entry's, where it had none
pub start_is : (e : Entry) (past : Past) (n : Name) (k : Kind) → start past n ≡ None → e.event ≡ event.Start n k → start (e ∷ past) n ≡ Some (record { seat = e.seat; kind = k })
start_is e past n k none is =
    ap (λ o. option_or o (start_in n e.seat e.event)) none
    ∙ ap (start_in n e.seat) is
    ∙ ap (λ (b : Bool). if b then Some (record { seat = e.seat; kind = k }) else None) (same_itself n)

pub started_stays : (e : Entry) (past : Past) (n : Name) (P : Begun → Type 0) → Started past n P → Started (e ∷ past) n P
started_stays e past n P h = same_start (start past n) (start_in n e.seat e.event) h
  where
    same_start : (old new : Option Begun) → MatchOption old ⊥ P → MatchOption (option_or old new) ⊥ P
    same_start None new h = absurd h
    same_start (Some b) new h = h

-- ENDS

pub ending : (n : Name) (ev : Event) (how : How) → end_in n ev ≡ Some how → Ending n ev how
ending n (event.End m h) how is =
    let parts = if_is (same m n) h how is in
    ap (λ x. event.End x h) (same_is m n parts.0) ∙ ap (λ x. event.End n x) parts.1
ending n _ how is = absurd cc

pub end_now : (n : Name) (ev : Event) (how : How) → Ending n ev how → end_in n ev ≡ Some how
end_now n ev how is = ap (end_in n) is ∙ ap (λ (b : Bool). if b then Some how else None) (same_itself n)

pub start_or_end : (m n : Name) (k : Kind) (how : How) → event.Start m k ≡ event.End n how → ⊥
start_or_end m n k how is = cc

pub end_step : (e : Entry) (past : Past) (n : Name) (how : How) → end (e ∷ past) n ≡ Some how → (end past n ≡ Some how) ⊎ ((end past n ≡ None) × Ending n e.event how)
end_step e past n how is = elim (first_is (end past n) (end_in n e.event) how is) [
  | inl old ↦ inl old
  | inr new ↦ inr (new.0, ending n e.event how new.1)
]

pub end_stays : (e : Entry) (past : Past) (n : Name) → is_some (end past n) ≡ true → is_some (end (e ∷ past) n) ≡ true
end_stays e past n h = stays_some (end past n) (end_in n e.event) h

pub open_before : (e : Entry) (past : Past) (n : Name) → end (e ∷ past) n ≡ None → end past n ≡ None
open_before e past n h = (none_before (end past n) (end_in n e.event) h).0

-- READY MARKS

pub marking : (n : Name) (ev : Event) → is_some (ready_in n ev) ≡ true → ev ≡ event.Ready n
marking n (event.Ready m) h = ap (λ x. event.Ready x) (same_is m n (if_some (same m n) tt h))
marking n _ h = absurd (true≢false (sym h))

pub ready_step : (e : Entry) (past : Past) (n : Name) → is_ready (e ∷ past) n ≡ true → (is_ready past n ≡ true) ⊎ (e.event ≡ event.Ready n)
ready_step e past n h = elim (first_some _ (ready_in n e.event) h) [
  | inl old ↦ inl old
  | inr new ↦ inr (marking n e.event new.1)
]

-- CHILDREN

pub children_longer : (e : Entry) (past : Past) (n : Name) (j : ℕ) → j ≤ length (children past n) → j ≤ length (children (e ∷ past) n)
children_longer e past n j h = omega (arith, length-append (children past n) (option_to_list (child_in n e.event)))

pub child_added : (e : Entry) (past : Past) (n c : Name) (k : Kind) → e.event ≡ event.Start c k → is_child n c ≡ true → children (e ∷ past) n ≡ children past n ++ c ∷ []
child_added e past n c k is h = ap (λ ev. children past n ++ option_to_list (child_in n ev)) is ∙ ap (λ (b : Bool). children past n ++ option_to_list (if b then Some c else None)) h

-- what is asked of no child that is listed is asked of no child that was started
pub no_child_passes : (test : Name → Bool) (past : Past) (n c : Name) → is_child n c ≡ true → is_some (start past c) ≡ true → find test (children past n) ≡ None → test c ≡ false
no_child_passes test [] n c is h none = absurd (true≢false (sym h))
no_child_passes test (e ∷ past) n c is h none = elim (start_step e past c h) [
  | inl old ↦ no_child_passes test past n c is old (none_before (find test (children past n)) _ (sym (find-append test (children past n) (option_to_list (child_in n e.event))) ∙ none)).0
  | inr new ↦ last (children past n) (sym (ap (find test) (child_added e past n c new.1.0 new.1.1 is)) ∙ none)
]
  where
    alone : (b : Bool) → (if b then Some c else None) ≡ None → b ≡ false
    alone true h = absurd cc
    alone false h = refl

    last : (cs : List Name) → find test (cs ++ c ∷ []) ≡ None → test c ≡ false
    last cs h = alone (test c) (none_before (find test cs) _ (sym (find-append test cs (c ∷ [])) ∙ h)).1

-- a name none of whose children has started has no children
pub childless : (past : Past) (n : Name) → ((c : Name) → is_child n c ≡ true → start past c ≡ None) → children past n ≡ []
childless [] n none = refl
childless (e ∷ past) n none =
    ap (λ cs. cs ++ option_to_list (child_in n e.event)) (childless past n (λ c is. not_some (start past c) (λ h. some_or_none (start (e ∷ past) c) (start_stays e past c h) (none c is))))
    ∙ ap option_to_list (adds_none e.event none)
  where
    if_child : (b : Bool) (m : Name) → (b ≡ true → ⊥) → (if b then Some m else None) ≡ None
    if_child true m h = absurd (h refl)
    if_child false m h = refl

    adds_none : (ev : Event) → ((c : Name) → is_child n c ≡ true → option_or (start past c) (start_in c e.seat ev) ≡ None) → child_in n ev ≡ None
    adds_none (event.Start m k) out = if_child (is_child n m) m (λ is. some_or_none _ (here_some (start past m) (start_in m e.seat (event.Start m k)) (starts_some m e.seat (event.Start m k) (k, refl))) (out m is))
    adds_none _ out = refl

-- the children are children
pub all_children : (h : Past) (n : Name) → AllByRecursion (λ c. is_child n c ≡ true) (children h n)
all_children [] n = tt
all_children (e ∷ h) n = by_event e.event (children h n) (all_children h n)
  where
    by_child : (c : Name) (b : Bool) → is_child n c ≡ b → (cs : List Name) → AllByRecursion (λ x. is_child n x ≡ true) cs → AllByRecursion (λ x. is_child n x ≡ true) (cs ++ option_to_list (if b then Some c else None))
    by_child c true is [] all = (is, tt)
    by_child c true is (x ∷ cs) all = (all.0, by_child c true is cs all.1)
    by_child c false is [] all = tt
    by_child c false is (x ∷ cs) all = (all.0, by_child c false is cs all.1)

    none : (cs : List Name) → AllByRecursion (λ x. is_child n x ≡ true) cs → AllByRecursion (λ x. is_child n x ≡ true) (cs ++ [])
    none [] all = tt
    none (x ∷ cs) all = (all.0, none cs all.1)

    by_event : (ev : Event) (cs : List Name) → AllByRecursion (λ x. is_child n x ≡ true) cs → AllByRecursion (λ x. is_child n x ≡ true) (cs ++ option_to_list (child_in n ev))
    by_event (event.Start c k) cs all = by_child c (is_child n c) refl cs all
    by_event (event.Ask ask) cs all = none cs all
    by_event (event.Gone m why) cs all = none cs all
    by_event (event.Granted copy grant) cs all = none cs all
    by_event (event.Refused m copy refusal) cs all = none cs all
    by_event (event.Unable m why) cs all = none cs all
    by_event (event.Mark m session) cs all = none cs all
    by_event (event.Ready m) cs all = none cs all
    by_event (event.End m how) cs all = none cs all
