-- What a manager has learnt by its accesses is what it was told.
use Rattle.std.proofs.Common.{◌≡◌, ℕ, Bool, true, false, List, [], ◌∷◌, refl, sym, ap, ◌∙◌}
use Rattle.std.specs.Prelude.{◌&&◌, not, nat_lt, cond, fold, map, find, filter_map, is_some, is_none, Option, None, Some, IsSome}
use Rattle.std.proofs.lemmas.List.Elements.{All-filter, filter_agree, recursion_from_All}
use Rattle.qc_config.specs.Config.{Voting, votes_of}
use Rattle.qc_event.specs.declared.event.Ask.{Ask}
use Rattle.qc_event.specs.declared.event.How.{How}
use Rattle.qc_event.specs.declared.event.Phase.{Phase}
use Rattle.qc_event.specs.declared.event.Phase.TheVariants.{Collect}
use Rattle.qc_event.specs.declared.event.Refusal.{Refusal}
use Rattle.qc_event.specs.declared.event.Why.{Why}
use Rattle.qc_event.specs.Clear.{is_get}
use Rattle.qc_event.specs.History.{Past, Name, asks, end}
use Rattle.qc_event.specs.Manager.{Stage, result, result_by, reply_of, replies, newer, newest, greatest, greatest_among, is_phase, phase_of, asks_in, ask_at, all_copies, has_replied, replied, missing_at, first_blocked, next_copy, waiting}
use Rattle.qc_event.proofs.OfPhases.{get_collects}
use Rattle.qc_managers.specs.Told.{replies_in, newest_in, greatest_in, was_asked, replied_by, replied_in, missing_in, blocked_in, next_in}
use Rattle.qc_managers.specs.Answered.{told_in, EachTold}
use Rattle.qc_managers.proofs.Lists.{EachHas, SameBlocked, filter_map-told, replied_by-told, was_asked-told, missing_in-told, blocked_in-told}

pub map_agree : {X Y : Type 0} (f g : X → Y) → ((x : X) → f x ≡ g x) → (xs : List X) → map f xs ≡ map g xs
map_agree f g same [] = refl
map_agree f g same (x ∷ xs) = ap (λ y. y ∷ map f xs) (same x) ∙ ap (λ ys. g x ∷ ys) (map_agree f g same xs)

pub find_agree : {X : Type 0} (p q : X → Bool) → ((x : X) → p x ≡ q x) → (xs : List X) → find p xs ≡ find q xs
find_agree p q same [] = refl
find_agree p q same (x ∷ xs) = ap (λ b. cond b (Some x) (find p xs)) (same x) ∙ ap (λ o. cond (q x) (Some x) o) (find_agree p q same xs)

-- WHAT WAS COLLECTED

pub replies-told : (past : Past) (m : Name) → replies past m ≡ replies_in (told_in past m Collect)
unfolding told_in
replies-told past m =
    ap (filter_map (λ (ask : Ask). reply_of (result past ask.access))) (filter_agree (λ (ask : Ask). is_get ask.op) (λ (ask : Ask). is_phase Collect (phase_of ask.op)) (λ ask. get_collects ask.op) (asks past m))
    ∙ sym (filter_map-told (result past) (asks_in past m Collect))

pub newest-told : (past : Past) (first : Voting) (m : Name) → newest past first m ≡ newest_in first (told_in past m Collect)
newest-told past first m = ap (fold newer (record { generation = 0; config = first })) (replies-told past m)

pub greatest-told : (past : Past) (m : Name) → greatest past m ≡ greatest_in (told_in past m Collect)
greatest-told past m = ap greatest_among (replies-told past m)

-- COPIES

pub has_replied-told : (past : Past) (m : Name) (phase : Phase) (copy : ℕ) → has_replied past m phase copy ≡ replied_by (told_in past m phase) copy
unfolding told_in
has_replied-told past m phase copy = sym (replied_by-told (result past) copy (asks_in past m phase))

pub replied-told : (past : Past) (m : Name) (phase : Phase) → replied past m phase ≡ replied_in (told_in past m phase)
replied-told past m phase = map_agree (has_replied past m phase) (replied_by (told_in past m phase)) (has_replied-told past m phase) all_copies

has_results : (past : Past) (m : Name) (phase : Phase) → EachTold past m → EachHas (result past) (asks_in past m phase)
unfolding EachTold
has_results past m phase each =
    recursion_from_All (λ (ask : Ask). IsSome (result past ask.access)) (asks_in past m phase) (All-filter (λ (ask : Ask). is_phase phase (phase_of ask.op)) (λ (ask : Ask). IsSome (result past ask.access)) (asks past m) each)

pub missing-told : (past : Past) (m : Name) (phase : Phase) (copy : ℕ) → EachTold past m → missing_at past m phase copy ≡ missing_in (told_in past m phase) copy
unfolding told_in
missing-told past m phase copy each = sym (missing_in-told (result past) copy (asks_in past m phase) (has_results past m phase each))

none_not_some : {X : Type 0} (o : Option X) → is_none o ≡ not (is_some o)
none_not_some None = refl
none_not_some (Some x) = refl

pub asked-told : (past : Past) (m : Name) (phase : Phase) (copy : ℕ) → EachTold past m → is_none (ask_at past m phase copy) ≡ not (was_asked (told_in past m phase) copy)
unfolding told_in
asked-told past m phase copy each =
    none_not_some (ask_at past m phase copy) ∙ ap not (sym (was_asked-told (result past) copy (asks_in past m phase) (has_results past m phase each)))

pub next_copy-told : (past : Past) (m : Name) (s : Stage) → EachTold past m → next_copy past m s ≡ next_in s.config (told_in past m s.phase)
next_copy-told past m s each =
    find_agree (λ copy. nat_lt 0 (votes_of s.config copy) && is_none (ask_at past m s.phase copy)) (λ copy. nat_lt 0 (votes_of s.config copy) && not (was_asked (told_in past m s.phase) copy)) (λ copy. ap (λ b. nat_lt 0 (votes_of s.config copy) && b) (asked-told past m s.phase copy each)) all_copies

pub blocked-told : (past : Past) (m : Name) (phase : Phase) → SameBlocked (result past) (blocked_in (told_in past m phase)) (first_blocked past m phase)
unfolding told_in
blocked-told past m phase = blocked_in-told (result past) (asks_in past m phase)

-- NOTHING OPEN

result_ends : (how : Option How) (why : Option Why) (refusal : Option Refusal) → is_some (result_by how why refusal) ≡ true → is_none how ≡ false
result_ends None why refusal some = absurd cc
result_ends (Some how) why refusal some = refl

none_waits : (past : Past) (asks : List Ask) → EachHas (result past) asks → find (λ (ask : Ask). is_none (end past ask.access)) asks ≡ None
none_waits past [] has = refl
none_waits past (ask ∷ asks) has =
    ap (λ b. cond b (Some ask) (find (λ (a : Ask). is_none (end past a.access)) asks)) (result_ends (end past ask.access) _ _ has.0) ∙ none_waits past asks has.1

-- where each request has a result, none is open
pub waiting-told : (past : Past) (m : Name) → EachTold past m → waiting past m ≡ None
unfolding EachTold
waiting-told past m each = none_waits past (asks past m) (recursion_from_All (λ (ask : Ask). IsSome (result past ask.access)) (asks past m) each)
