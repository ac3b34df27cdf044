-- A name of which no entry of a history speaks has no start, no end and no children there.
use Rattle.std.proofs.Common.{◌≡◌, ℕ, Bool, true, false, List, [], ◌∷◌, ◌++◌, length, refl, sym, ap, ◌∙◌}
use mathlib.Core.Bool.{true≢false}
use Rattle.std.specs.Prelude.{Option, None, Some, is_some, if◌then◌else◌, option_to_list, find}
use Rattle.std.specs.Option.{option_or}
use Rattle.std.proofs.lemmas.Bool.{false_from_ne_true}
use Rattle.std.proofs.lemmas.Slice.Eq.{bytes_eq-Decides}
use Rattle.qc_event.specs.declared.event.Event.{Event}
use Rattle.qc_event.specs.declared.event.Event.TheVariants as event
use Rattle.qc_event.specs.declared.event.How.{How}
use Rattle.qc_event.specs.declared.event.How.TheVariants.{Commit, Abort}
use Rattle.qc_event.specs.History.{Past, Name, same, start, start_in, end, end_in, ready_in, is_ready, is_child, child_in, children, earliest}
use Rattle.qc_event.specs.Dead.{outcome, outcome_of, is_aborted, ancestors, dead}

-- the name of which an entry speaks
abbrev pub name_in : Event → Name
name_in (event.Start n k) = n
name_in (event.End n how) = n
name_in (event.Ready n) = n
name_in _ = []

-- each entry speaks of a name that passes a test
abbrev pub AllNames : (Name → Bool) → Past → Type 0
AllNames test [] = Unit {0}
AllNames test (e ∷ past) = (test (name_in e.event) ≡ true) × AllNames test past

pub same_is : (m n : Name) → same m n ≡ true → m ≡ n
same_is m n h = (bytes_eq-Decides m n).0 h

pub same_itself : (n : Name) → same n n ≡ true
same_itself n = (bytes_eq-Decides n n).1 refl

-- names that a test tells apart are not the same
pub told_apart : (test : Name → Bool) (m n : Name) → test m ≡ true → test n ≡ false → same m n ≡ false
told_apart test m n here out = false_from_ne_true (same m n) (λ h. true≢false (sym here ∙ ap test (same_is m n h) ∙ out))

-- names of different lengths are not the same
pub other_length : (m n : Name) → (length m ≡ length n → ⊥) → same m n ≡ false
other_length m n differ = false_from_ne_true (same m n) (λ h. differ (ap length (same_is m n h)))

pub both_none : {Y : Type 0} (a b : Option Y) → a ≡ None → b ≡ None → option_or a b ≡ None
both_none a b p q = ap (λ o. option_or o b) p ∙ q

pub if_not : {Y : Type 0} (b : Bool) (o : Option Y) → b ≡ false → (if b then o else None) ≡ None
if_not b o h = ap (λ c. if c then o else None) h

start_in_absent : (test : Name → Bool) (n : Name) (seat : ℕ) (ev : Event) → test (name_in ev) ≡ true → test n ≡ false → start_in n seat ev ≡ None
start_in_absent test n seat (event.Start m k) here out = if_not (same m n) _ (told_apart test m n here out)
start_in_absent test n seat _ here out = refl

pub start_absent : (test : Name → Bool) (past : Past) (n : Name) → AllNames test past → test n ≡ false → start past n ≡ None
start_absent test [] n all out = refl
start_absent test (e ∷ past) n all out = both_none (start past n) (start_in n e.seat e.event) (start_absent test past n all.1 out) (start_in_absent test n e.seat e.event all.0 out)

end_in_absent : (test : Name → Bool) (n : Name) (ev : Event) → test (name_in ev) ≡ true → test n ≡ false → end_in n ev ≡ None
end_in_absent test n (event.End m how) here out = if_not (same m n) _ (told_apart test m n here out)
end_in_absent test n _ here out = refl

pub end_absent : (test : Name → Bool) (past : Past) (n : Name) → AllNames test past → test n ≡ false → end past n ≡ None
end_absent test [] n all out = refl
end_absent test (e ∷ past) n all out = both_none (end past n) (end_in n e.event) (end_absent test past n all.1 out) (end_in_absent test n e.event all.0 out)

ready_in_absent : (test : Name → Bool) (n : Name) (ev : Event) → test (name_in ev) ≡ true → test n ≡ false → ready_in n ev ≡ None
ready_in_absent test n (event.Ready m) here out = if_not (same m n) _ (told_apart test m n here out)
ready_in_absent test n _ here out = refl

first_ready_absent : (test : Name → Bool) (past : Past) (n : Name) → AllNames test past → test n ≡ false → earliest (λ e. ready_in n e.event) past ≡ None
first_ready_absent test [] n all out = refl
first_ready_absent test (e ∷ past) n all out = both_none (earliest (λ e. ready_in n e.event) past) (ready_in n e.event) (first_ready_absent test past n all.1 out) (ready_in_absent test n e.event all.0 out)

pub ready_absent : (test : Name → Bool) (past : Past) (n : Name) → AllNames test past → test n ≡ false → is_ready past n ≡ false
ready_absent test past n all out = ap is_some (first_ready_absent test past n all out)

child_in_absent : (test : Name → Bool) (n : Name) (ev : Event) → test (name_in ev) ≡ true → ((c : Name) → is_child n c ≡ true → test c ≡ false) → child_in n ev ≡ None
child_in_absent test n (event.Start m k) here out = if_not (is_child n m) _ (false_from_ne_true (is_child n m) (λ h. true≢false (sym here ∙ out m h)))
child_in_absent test n _ here out = refl

pub children_absent : (test : Name → Bool) (past : Past) (n : Name) → AllNames test past → ((c : Name) → is_child n c ≡ true → test c ≡ false) → children past n ≡ []
children_absent test [] n all out = refl
children_absent test (e ∷ past) n all out =
    ap (λ cs. cs ++ option_to_list (child_in n e.event)) (children_absent test past n all.1 out)
    ∙ ap option_to_list (child_in_absent test n e.event all.0 out)

-- names that pass one test pass a wider one
pub all_names_wider : (narrow wide : Name → Bool) (past : Past) → ((n : Name) → narrow n ≡ true → wide n ≡ true) → AllNames narrow past → AllNames wide past
all_names_wider narrow wide [] wider all = tt
all_names_wider narrow wide (e ∷ past) wider all = (wider (name_in e.event) all.0, all_names_wider narrow wide past wider all.1)

-- an entry that aborts nothing
abbrev pub IsCalm : Event → Type 0
IsCalm (event.End n (Abort cause)) = ⊥
IsCalm _ = Unit {0}

abbrev pub AllCalm : Past → Type 0
AllCalm [] = Unit {0}
AllCalm (e ∷ past) = IsCalm e.event × AllCalm past

calm_if : (b : Bool) (how : How) (o : Option How) → is_aborted (outcome_of o) ≡ false → is_aborted (outcome_of (Some how)) ≡ false → is_aborted (outcome_of (option_or o (if b then Some how else None))) ≡ false
calm_if b how (Some h) old new = old
calm_if true how None old new = new
calm_if false how None old new = old

or_nothing : (o : Option How) → is_aborted (outcome_of o) ≡ false → is_aborted (outcome_of (option_or o None)) ≡ false
or_nothing None h = h
or_nothing (Some how) h = h

calm_entry : (ev : Event) (n : Name) (o : Option How) → IsCalm ev → is_aborted (outcome_of o) ≡ false → is_aborted (outcome_of (option_or o (end_in n ev))) ≡ false
calm_entry (event.End m (Commit given)) n o calm h = calm_if (same m n) (Commit given) o h refl
calm_entry (event.End m (Abort cause)) n o calm h = absurd calm
calm_entry _ n o calm h = or_nothing o h

-- where nothing was aborted, no name is
pub calm_outcome : (past : Past) (n : Name) → AllCalm past → is_aborted (outcome past n) ≡ false
calm_outcome [] n calm = refl
calm_outcome (e ∷ past) n calm = calm_entry e.event n (end past n) calm.0 (calm_outcome past n calm.1)

found_none : (p : Name → Bool) (ns : List Name) → ((n : Name) → p n ≡ false) → find p ns ≡ None
found_none p [] h = refl
found_none p (n ∷ ns) h = ap (λ b. if b then Some n else find p ns) (h n) ∙ found_none p ns h

-- and none is dead
pub calm_dead : (past : Past) (n : Name) → AllCalm past → dead past n ≡ None
calm_dead past n calm = found_none (λ a. is_aborted (outcome past a)) (ancestors n) (λ a. calm_outcome past a calm)
