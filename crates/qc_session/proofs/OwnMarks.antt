-- What a client that knows its marks finds at the board.
use Rattle.std.proofs.Common.{◌≡◌, ℕ, ◌<◌, ◌≤◌, ◌==◌, ◌%◌, ◌^◌, zero, suc, Bool, true, false, cond, List, [], ◌∷◌, ◌++◌, refl, sym, ap, ◌∙◌, subst, arith, inl, inr, IsBitSet, eqb-true, eq-eqb}
use mathlib.Core.Bool.{true≢false}
use native.Mathlib.Numerals.{unary_clauses}
use Rattle.std.specs.Prelude.{◌||◌, ◌&&◌, nat_le, not, filter, is_some, bit_and}
use Rattle.std.specs.List.{AllByRecursion, list_any}
use Rattle.std.specs.Option.{option_map_or}
use Rattle.std.proofs.Math.Nat.{zero-mod}
use Rattle.std.proofs.lemmas.Bool.{and_parts, false_from_ne_true}
use Rattle.std.proofs.lemmas.Bool.Decides.{nat_tests}
use Rattle.std.proofs.lemmas.List.Elements.{filter-append}
use Rattle.std.proofs.lemmas.List.Folds.{list_any-append}
use Rattle.qc_board.specs.Boards.{Mark}
use Rattle.qc_board.specs.Marks.{Has, IsBound}
use Rattle.qc_event.specs.declared.event.Entry.{Entry}
use Rattle.qc_event.specs.declared.event.Event.{Event}
use Rattle.qc_event.specs.declared.event.Event.TheVariants as event
use Rattle.qc_event.specs.declared.event.Kind.{Kind}
use Rattle.qc_names.specs.Name as name
use Rattle.qc_event.specs.Base.{Setting}
use Rattle.qc_event.specs.History.{Past, Name, start}
use Rattle.qc_event.specs.Legal.{Legal, MayHappen}
use Rattle.qc_event.specs.Starts.{Starts}
use Rattle.qc_event.specs.Users.{is_marked, mark_of, top_number}
use Rattle.qc_event.proofs.OneEntry.{start_step}
use Rattle.qc_managers.specs.Carrying.{entry}
use Rattle.qc_desk.specs.Entries.{AreOthers, entries_of}
use Rattle.qc_desk.proofs.Since.{others_where_none}
use Rattle.qc_session.specs.Marking.{KnowsMark, KnowsMarks, made_under}

-- WHAT IT KNOWS AS IT GOES ON

-- a mark of each of these entries that marks a session is among these
abbrev pub AreKnown : List Mark → Past → Type 0
AreKnown marks made = AllByRecursion (λ (e : Entry). KnowsMark marks e.event) made

pub known_both : (marks : List Mark) (xs ys : Past) → AreKnown marks xs → AreKnown marks ys → AreKnown marks (xs ++ ys)
known_both marks [] ys first second = second
known_both marks (x ∷ xs) ys first second = (first.0, known_both marks xs ys first.1 second)

-- what was known before these entries, and of these, is known of all
pub known_on : (numbers : List ℕ) (marks : List Mark) (newer before now made : Past) → now ≡ newer ++ before → made_under numbers newer ≡ made → AreKnown marks made → KnowsMarks numbers before marks → KnowsMarks numbers now marks
known_on numbers marks newer before now made grown own new was =
    subst (AreKnown marks)
    (sym (ap (made_under numbers) grown ∙ filter-append (λ (e : Entry). list_any (λ k. k == e.seat) numbers) newer before ∙ ap (λ x. x ++ made_under numbers before) own))
    (known_both marks made (made_under numbers before) new was)

-- who made nothing knows of all
pub none_known : (numbers : List ℕ) (marks : List Mark) (seen : Past) → made_under numbers seen ≡ [] → KnowsMarks numbers seen marks
none_known numbers marks seen none = subst (AreKnown marks) (sym none) tt

-- so does a number under which nothing was made
pub one_known : (number : ℕ) (marks : List Mark) (seen : Past) → entries_of number seen ≡ [] → KnowsMarks (number ∷ []) seen marks
one_known number marks seen none = by_others seen (others_where_none number seen none)
  where
    by_others : (past : Past) → AreOthers number past → KnowsMarks (number ∷ []) past marks
    by_others [] others = tt
    by_others (e ∷ past) others =
        subst (λ (b : Bool). AreKnown marks (cond (b || false) (e ∷ made_under (number ∷ []) past) (made_under (number ∷ []) past))) (sym (false_from_ne_true (number == e.seat) (λ is. others.0 (sym (eqb-true number e.seat is))))) (by_others past others.1)

event_more : (marks more : List Mark) → ((m : Mark) → Has marks m → Has more m) → (ev : Event) → KnowsMark marks ev → KnowsMark more ev
event_more marks more wider (event.Mark by s) k = (k.0, wider (s, k.0) k.1, k.2)
event_more marks more wider (event.Start n kd) known = tt
event_more marks more wider (event.Ask ask) known = tt
event_more marks more wider (event.Gone n why) known = tt
event_more marks more wider (event.Granted copy grant) known = tt
event_more marks more wider (event.Refused n copy refusal) known = tt
event_more marks more wider (event.Unable n why) known = tt
event_more marks more wider (event.Ready n) known = tt
event_more marks more wider (event.End n how) known = tt

-- who knows more marks knows what it knew
pub known_wider : (marks more : List Mark) (made : Past) → ((m : Mark) → Has marks m → Has more m) → AreKnown marks made → AreKnown more made
known_wider marks more [] wider known = tt
known_wider marks more (e ∷ made) wider known = (event_more marks more wider e.event known.0, known_wider marks more made wider known.1)

pub known_more : (m : Mark) (marks : List Mark) (made : Past) → AreKnown marks made → AreKnown (m ∷ marks) made
known_more m marks made known = known_wider marks (m ∷ marks) made (λ x h. (suc h.0, h.1)) known

-- a mark is known that was made at the board
pub mark_known : (number s upto : ℕ) (by : Name) (marks : List Mark) → upto ≡ top_number by → AreKnown ((s, upto) ∷ marks) (entry number (event.Mark by s) ∷ [])
mark_known number s upto by marks same = ((upto, (0, refl), omega (arith, same)), tt)

-- who knows the marks of two knows those of both
pub known_joined : (xs ys : List ℕ) (marks : List Mark) (seen : Past) → KnowsMarks xs seen marks → KnowsMarks ys seen marks → KnowsMarks (xs ++ ys) seen marks
known_joined xs ys marks [] first second = tt
known_joined xs ys marks (e ∷ seen) first second =
    by_tests (list_any (λ k. k == e.seat) xs) (list_any (λ k. k == e.seat) ys) (list_any (λ k. k == e.seat) (xs ++ ys)) (list_any-append (λ k. k == e.seat) xs ys) first second (λ a b. known_joined xs ys marks seen a b)
  where
    by_tests : (x y b : Bool) → b ≡ (x || y) → AreKnown marks (cond x (e ∷ made_under xs seen) (made_under xs seen)) → AreKnown marks (cond y (e ∷ made_under ys seen) (made_under ys seen))
        → (KnowsMarks xs seen marks → KnowsMarks ys seen marks → KnowsMarks (xs ++ ys) seen marks) → AreKnown marks (cond b (e ∷ made_under (xs ++ ys) seen) (made_under (xs ++ ys) seen))
    by_tests true true true is a b rest = (a.0, rest a.1 b.1)
    by_tests true false true is a b rest = (a.0, rest a.1 b)
    by_tests false true true is a b rest = (b.0, rest a b.1)
    by_tests false false false is a b rest = rest a b
    by_tests true true false is a b rest = absurd (true≢false (sym is))
    by_tests true false false is a b rest = absurd (true≢false (sym is))
    by_tests false true false is a b rest = absurd (true≢false (sym is))
    by_tests false false true is a b rest = absurd (true≢false is)

-- WHAT THE BOARD TELLS

-- whether an event is a mark of a session by a top with at least this number
abbrev marks_it : ℕ → ℕ → Event → Bool
marks_it session top ev = option_map_or (λ m. (m.1 == session) && nat_le top (top_number m.0)) (mark_of ev) false

module _ (session top word may : ℕ) (marks : List Mark) (bound : IsBound may marks session word) (low : nat_le top word ≡ false) where
  event_unmarked : (ev : Event) → KnowsMark marks ev → marks_it session top ev ≡ false
  event_unmarked (event.Mark by s) known = by_session (s == session) refl
    where
      by_session : (b : Bool) → (s == session) ≡ b → (b && nat_le top (top_number by)) ≡ false
      by_session false other = refl
      by_session true is =
          let k : (upto : ℕ) × Has marks (session, upto) × (top_number by ≤ upto) = subst (λ (n : ℕ). (upto : ℕ) × Has marks (n, upto) × (top_number by ≤ upto)) (eqb-true s session is) known in
          let few : k.0 ≤ word = bound.0 k.0 k.1 in
          let most : top_number by ≤ k.0 = k.2 in
          grind (arith, nat_tests)
  event_unmarked _ known = refl

  -- a session that its word does not mark up to a top is not marked so by the entries whose marks are known
  pub none_marks : (made : Past) → AreKnown marks made → is_marked made session top ≡ false
  none_marks [] known = refl
  none_marks (e ∷ made) known = ap (λ b. b || is_marked made session top) (event_unmarked e.event known.0) ∙ none_marks made known.1

either_false : (a b : Bool) → (a || b) ≡ false → (a ≡ false) × (b ≡ false)
either_false true b none = absurd (true≢false none)
either_false false b none = (refl, none)

-- where no entry marks, none of some of them does
pub some_unmarked : (session top : ℕ) (test : Entry → Bool) (past : Past) → is_marked past session top ≡ false → is_marked (filter test past) session top ≡ false
some_unmarked session top test [] none = refl
some_unmarked session top test (e ∷ past) none =
    let both = either_false (marks_it session top e.event) (is_marked past session top) none in
    by_test (test e) both.0 (some_unmarked session top test past both.1)
  where
    by_test : (b : Bool) → marks_it session top e.event ≡ false → is_marked (filter test past) session top ≡ false → is_marked (cond b (e ∷ filter test past) (filter test past)) session top ≡ false
    by_test true here rest = ap (λ x. x || is_marked (filter test past) session top) here ∙ rest
    by_test false here rest = rest

-- NUMBERS

-- a transaction that was started stands below a top with a number
pub top_some : (setting : Setting) (past : Past) (n : Name) → Legal setting past → is_some (start past n) ≡ true → 1 ≤ top_number n
top_some setting [] n legal began = absurd (true≢false (sym began))
top_some setting (e ∷ past) n legal began = elim (start_step e past n began) [
  | inl old ↦ top_some setting past n legal.0 old
  | inr new ↦ by_name n new.1.0 (subst (MayHappen setting past e.seat) new.1.1 legal.1) (λ m above. top_some setting past m legal.0 above)
]
  where
    some : (number : ℕ) → nat_le 1 (number % 2 ^ 32) ≡ true → 1 ≤ number
    some zero place = absurd (true≢false (sym place ∙ ap (nat_le 1) (zero-mod (2 ^ 32))))
    some (suc number) place = omega arith

    by_name : (m : Name) (k : Kind) → Starts setting past e.seat m k → ((p : Name) → is_some (start past p) ≡ true → 1 ≤ top_number p) → 1 ≤ top_number m
    by_name [] k may above = absurd may
    by_name (x ∷ []) k may above = some x may.place
    by_name (x ∷ y ∷ r) k may above = simp unary_clauses at (above (name.front (x ∷ y ∷ r)) may.parent_going.is_open.started)

-- a test holds of each number below this one
abbrev all_below : (ℕ → Bool) → ℕ → Bool
all_below test zero = true
all_below test (suc n) = test n && all_below test n

at_below : (test : ℕ → Bool) (n k : ℕ) → all_below test n ≡ true → k < n → test k ≡ true
at_below test zero k all low = absurd (omega (arith, low))
at_below test (suc n) k all low = by_last (k == n) refl (λ lower. at_below test n k both.1 lower)
  where
    both : (test n ≡ true) × (all_below test n ≡ true)
    both = and_parts (test n) (all_below test n) all

    by_last : (b : Bool) → (k == n) ≡ b → (k < n → test k ≡ true) → test k ≡ true
    by_last true is rest = ap test (eqb-true k n is) ∙ both.0
    by_last false other rest = rest (let apart : k ≡ n → ⊥ = λ same. true≢false (sym (eq-eqb k n same) ∙ other) in omega (arith, low, apart))

-- each of sixteen sessions may be marked
pub may_mark : (session : ℕ) → session < 16 → IsBitSet 65535 session
may_mark session low = λ none. true≢false (sym (at_below is_set 16 session refl low) ∙ ap not (eq-eqb (bit_and 65535 (2 ^ session)) 0 none))
  where
    is_set : ℕ → Bool
    is_set k = not (bit_and 65535 (2 ^ k) == 0)
