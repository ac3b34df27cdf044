-- Where each read among the managers that are done answers its record's value, so does each in the serial order,
-- and both leave the same values.
use Rattle.std.proofs.Common.{◌≡◌, ℕ, ◌<◌, ◌≤◌, Bool, true, false, List, [], ◌∷◌, ◌++◌, length, refl, sym, ap, ◌∙◌, subst, arith}
use Rattle.std.specs.Prelude.{All, Option, None, Some, slice_get, filter, if◌then◌else◌}
use Rattle.std.specs.Option.{option_map_or}
use Rattle.std.specs.List.{flat_map}
use Rattle.std.proofs.lemmas.Bool.{lt-ltb}
use Rattle.std.proofs.lemmas.List.{length-set}
use Rattle.std.proofs.lemmas.List.Elements.{All-nil, All-cons, All-head, All-tail}
use Rattle.qc_config.specs.Same.{same_decides}
use Rattle.qc_config.specs.Val as val
use Rattle.qc_config.specs.Val.{Datum}
use Rattle.qc_event.specs.declared.event.Answer.{Answer}
use Rattle.qc_event.specs.declared.event.Answer.TheVariants as answer
use Rattle.qc_event.specs.declared.event.Cause.{Cause}
use Rattle.qc_event.specs.declared.event.Event.{Event}
use Rattle.qc_event.specs.declared.event.Event.TheVariants as event
use Rattle.qc_event.specs.declared.event.How.TheVariants.{Commit, Abort}
use Rattle.qc_event.specs.declared.event.Kind.{Kind}
use Rattle.qc_event.specs.declared.event.Kind.TheVariants as kind
use Rattle.qc_event.specs.Dead.{ancestors}
use Rattle.qc_event.specs.Manager.{record_of}
use Rattle.qc_event.specs.History.{Past, Name, Given, is_child, kind_of}
use Rattle.qc_serial.specs.declared.event.SerialEvent.{SerialEvent}
use Rattle.qc_serial.specs.declared.event.SerialEvent.TheVariants.{Start, Enter, Leave}
use Rattle.qc_serial.specs.Machine.{has_value}
use Rattle.qc_serial.specs.Shape.{Reads, after}
use Rattle.qc_serial.proofs.Shape.{after-append, reads-append}
use Rattle.qc_serial.specs.Visible.{served}
use Rattle.qc_serial.specs.Walk.{walk, added, ended, entering, is_open_or_root, serialise}
use Rattle.qc_refine.specs.InTurn.{Done, AnswerValues, values_by, values_after}
use Rattle.qc_refine.specs.Turns.{done_by, done_in, dones, dones_order}

-- LISTS

pub all_front : {X : Type 0} (P : X → Type 0) (xs ys : List X) → All P (xs ++ ys) → All P xs
all_front P [] ys h = All-nil P
all_front P (x ∷ xs) ys h = All-cons P x xs (All-head P x (xs ++ ys) h) (all_front P xs ys (All-tail P x (xs ++ ys) h))

pub all_back : {X : Type 0} (P : X → Type 0) (xs ys : List X) → All P (xs ++ ys) → All P ys
all_back P [] ys h = h
all_back P (x ∷ xs) ys h = all_back P xs ys (All-tail P x (xs ++ ys) h)

answers_front : (values : List Datum) (xs ys : List Done) → AnswerValues values (xs ++ ys) → AnswerValues values xs
answers_front values [] ys h = tt
answers_front values (d ∷ xs) ys h = (h.0, answers_front (values_by values d.kind) xs ys h.1)

answers_back : (values : List Datum) (xs ys : List Done) → AnswerValues values (xs ++ ys) → AnswerValues (values_after values xs) ys
answers_back values [] ys h = h
answers_back values (d ∷ xs) ys h = answers_back (values_by values d.kind) xs ys h.1

values-append : (values : List Datum) (xs ys : List Done) → values_after values (xs ++ ys) ≡ values_after (values_after values xs) ys
values-append values [] ys = refl
values-append values (d ∷ xs) ys = values-append (values_by values d.kind) xs ys

by_length : (values : List Datum) (k : Kind) → length (values_by values k) ≡ length values
by_length values (kind.Write rec value) = length-set values rec value
by_length values (kind.User session body) = refl
by_length values (kind.Read rec) = refl
by_length values (kind.Reconf rec config) = refl
by_length values kind.Access = refl

pub after_length : (values : List Datum) (ds : List Done) → length (values_after values ds) ≡ length values
after_length values [] = refl
after_length values (d ∷ ds) = after_length (values_by values d.kind) ds ∙ by_length values d.kind

-- FOLLOWING

-- a manager's record is below a number
abbrev pub Below : ℕ → Done → Type 0
Below n d = record_of d.kind < n

-- each read of events finds its value, and they leave the values that managers leave
pub record DonesFollow (values : List Datum) (es : List SerialEvent) (ds : List Done) : Type 0 where
  pub reads : Reads values es
  pub leaves : after values es ≡ values_after values ds

-- events follow managers from any values on, of all the records, at which those answer
abbrev pub Follow : ℕ → List SerialEvent → List Done → Type 0
Follow n es ds = (values : List Datum) → n ≤ length values → All (Below n) ds → AnswerValues values ds → DonesFollow values es ds

nothing : (n : ℕ) → Follow n [] []
nothing n values long below told = record { reads = tt; leaves = refl }

both : (n : ℕ) (es fs : List SerialEvent) (ds gs : List Done) → Follow n es ds → Follow n fs gs → Follow n (es ++ fs) (ds ++ gs)
both n es fs ds gs front back values long below told =
    let a = front values long (all_front (Below n) ds gs below) (answers_front values ds gs told) in
    let longer : n ≤ length (values_after values ds) = omega (arith, after_length values ds) in
    let b = back (values_after values ds) longer (all_back (Below n) ds gs below) (answers_back values ds gs told) in
    record {
      reads = reads-append values es fs a.reads (subst (λ vs. Reads vs fs) (sym a.leaves) b.reads);
      leaves = after-append values es fs ∙ ap (λ vs. after vs fs) a.leaves ∙ b.leaves ∙ sym (values-append values ds gs);
    }

has_its_value : (values : List Datum) (rec : ℕ) (value : Datum) → slice_get values rec ≡ Some value → has_value values rec value ≡ true
has_its_value values rec value is = ap (λ o. option_map_or (λ v. val.same v value) o false) is ∙ (same_decides value value).1 refl

-- a user child that commits is entered, follows, and is left
entered : (n : ℕ) (c : Name) (inner : List SerialEvent) (ds : List Done) → Follow n inner ds → Follow n (Enter c ∷ inner ++ Leave c ∷ []) ds
entered n c inner ds follow values long below told =
    let f = follow values long below told in
    record {
      reads = reads-append values inner (Leave c ∷ []) f.reads tt;
      leaves = after-append values inner (Leave c ∷ []) ∙ f.leaves;
    }

-- what the commit of a child adds
commits : (n : ℕ) (o : Option Kind) (c : Name) (given : Answer) (gs : List Given) (inner : List SerialEvent) (ds : List Done) → Follow n inner ds → Follow n (ended o inner c (Commit given)) (done_by o given gs ds)
commits n (Some (kind.User session body)) c given gs inner ds follow = entered n c inner ds follow
commits n (Some (kind.Read rec)) c (answer.Value value) gs inner ds follow = λ values long below told.
    record { reads = (has_its_value values rec value told.0, tt); leaves = refl }
commits n (Some (kind.Read rec)) c answer.Nothing gs inner ds follow = λ values long below told. absurd told.0
commits n (Some (kind.Read rec)) c (answer.Generation generation) gs inner ds follow = λ values long below told. absurd told.0
commits n (Some (kind.Read rec)) c (answer.Reply tuple) gs inner ds follow = λ values long below told. absurd told.0
commits n (Some (kind.Write rec value)) c given gs inner ds follow = λ values long below told.
    let there : rec < n = All-head (Below n) _ [] below in
    let inside : rec < length values = omega arith in
    record { reads = (lt-ltb rec (length values) inside, tt); leaves = refl }
commits n (Some (kind.Reconf rec config)) c given gs inner ds follow = λ values long below told. record { reads = tt; leaves = refl }
commits n (Some kind.Access) c given gs inner ds follow = nothing n
commits n None c given gs inner ds follow = nothing n

-- and its abort
aborts : (n : ℕ) (o : Option Kind) (c : Name) (cause : Cause) (inner : List SerialEvent) → Follow n (ended o inner c (Abort cause)) []
aborts n (Some (kind.User session body)) c cause inner = λ values long below told. record { reads = tt; leaves = refl }
aborts n (Some (kind.Read rec)) c cause inner = nothing n
aborts n (Some (kind.Write rec value)) c cause inner = nothing n
aborts n (Some (kind.Reconf rec config)) c cause inner = nothing n
aborts n (Some kind.Access) c cause inner = nothing n
aborts n None c cause inner = nothing n

if_follow : (n : ℕ) (b : Bool) (es : List SerialEvent) (ds : List Done) → Follow n es ds → Follow n (if b then es else []) (if b then ds else [])
if_follow n true es ds follow = follow
if_follow n false es ds follow = nothing n

if_more : (n : ℕ) (b : Bool) (es : List SerialEvent) → Follow n es [] → Follow n (if b then es else []) []
if_more n true es follow = follow
if_more n false es follow = nothing n

-- what an entry adds
adds : (n : ℕ) (past : Past) (a : Name) (ev : Event) → ((c : Name) → Follow n (walk past c) (dones past c)) → Follow n (added past (walk past) a ev) (done_in past (dones past) a ev)
adds n past a (event.Start c (kind.User session body)) below = if_more n (is_child a c) (Start c ∷ []) (λ values long b told. record { reads = tt; leaves = refl })
adds n past a (event.Start c (kind.Read rec)) below = nothing n
adds n past a (event.Start c (kind.Write rec value)) below = nothing n
adds n past a (event.Start c (kind.Reconf rec config)) below = nothing n
adds n past a (event.Start c kind.Access) below = nothing n
adds n past a (event.End c (Commit given)) below =
    if_follow n (is_child a c) (ended (kind_of past c) (walk past c) c (Commit given)) (done_by (kind_of past c) given (served past c) (dones past c))
    (commits n (kind_of past c) c given (served past c) (walk past c) (dones past c) (below c))
adds n past a (event.End c (Abort cause)) below = if_more n (is_child a c) (ended (kind_of past c) (walk past c) c (Abort cause)) (aborts n (kind_of past c) c cause (walk past c))
adds n past a _ below = nothing n

-- the walk of a name follows the managers done below it
pub walk_follows : (n : ℕ) (past : Past) (a : Name) → Follow n (walk past a) (dones past a)
walk_follows n [] a = nothing n
walk_follows n (e ∷ past) a =
    both n (walk past a) (added past (walk past) a e.event) (dones past a) (done_in past (dones past) a e.event)
    (walk_follows n past a)
    (adds n past a e.event (walk_follows n past))

enters : (n : ℕ) (a : Name) → Follow n (entering a) []
enters n [] = nothing n
enters n (x ∷ a) = λ values long below told. record { reads = tt; leaves = refl }

visits_follow : (n : ℕ) (past : Past) (names : List Name) → Follow n (flat_map (λ a. entering a ++ walk past a) names) (flat_map (dones past) names)
visits_follow n past [] = nothing n
visits_follow n past (a ∷ names) =
    both n (entering a ++ walk past a) (flat_map (λ b. entering b ++ walk past b) names) (dones past a) (flat_map (dones past) names)
    (both n (entering a) (walk past a) [] (dones past a) (enters n a) (walk_follows n past a))
    (visits_follow n past names)

-- and so does the serial order of a transaction
pub order_follows : (n : ℕ) (past : Past) (t : Name) → Follow n (serialise past t) (dones_order past t)
order_follows n past t = visits_follow n past (filter (is_open_or_root past) (ancestors t))
