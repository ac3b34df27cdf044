-- How many tops have no end, one entry after another.
use Rattle.std.proofs.Common.{◌≡◌, ℕ, ◌+◌, ◌≤◌, Bool, true, false, List, [], ◌∷◌, ◌++◌, length, refl, sym, ap, ◌∙◌, subst, arith, cond, append-nil}
use mathlib.Core.Bool.{true≢false}
use Rattle.std.specs.Prelude.{Option, None, Some, is_some, is_none, find, count_by, ◌&&◌, ◌==◌, option_to_list, if◌then◌else◌}
use Rattle.std.specs.Option.{option_or}
use Rattle.std.proofs.lemmas.List.Sums.{sum_by-cons, sum_by-append, count_by-le-length}
use Rattle.std.proofs.lemmas.Bool.{eqb-true, false_from_ne_true}
use Rattle.std.proofs.lemmas.Option.{none-some}
use Rattle.qc_event.specs.declared.event.Entry.{Entry}
use Rattle.qc_event.specs.declared.event.Event.{Event}
use Rattle.qc_event.specs.declared.event.Event.TheVariants as event
use Rattle.qc_event.specs.declared.event.How.{How}
use Rattle.qc_event.specs.declared.event.Kind.{Kind}
use Rattle.qc_event.specs.History.{Past, Name, Begun, same, start, start_in, end, end_in, is_child, child_in, children}
use Rattle.qc_event.proofs.Absent.{same_is, same_itself}
use Rattle.qc_event.proofs.FewerChildren.{fewer}
use Rattle.qc_event.proofs.OneEntry.{some_or_none, not_some}
use Rattle.qc_event.proofs.Options.{still}
use Rattle.qc_event.proofs.Orderly.{KeepsOrder, Orderly, IsNewTop}
use Rattle.qc_event.proofs.Lawful.{lawful, ends_open}
use Rattle.qc_history.specs.Opens.{open_tops, ends_top}

-- COUNTS

abbrev flag : Bool → ℕ
flag b = cond b 1 0

count_cons : {X : Type 0} (p : X → Bool) (x : X) (xs : List X) → count_by p (x ∷ xs) ≡ cond (p x) 1 0 + count_by p xs
count_cons p x xs = sum_by-cons (λ x. cond (p x) 1 0) x xs

count_append : {X : Type 0} (p : X → Bool) (xs ys : List X) → count_by p (xs ++ ys) ≡ count_by p xs + count_by p ys
count_append p xs ys = sum_by-append (λ x. cond (p x) 1 0) xs ys

-- none is counted just where none is found
pub none_found : {X : Type 0} (p : X → Bool) (xs : List X) → is_none (find p xs) ≡ (count_by p xs == 0)
none_found p [] = refl
none_found {X} p (x ∷ xs) = by_test (p x) (none_found p xs) ∙ ap (λ n. n == 0) (sym (count_cons p x xs))
  where
    by_test : (b : Bool) → is_none (find p xs) ≡ (count_by p xs == 0) → is_none (if b then Some x else find p xs) ≡ ((cond b 1 0 + count_by p xs) == 0)
    by_test true h = sym (false_from_ne_true (1 + count_by p xs == 0) (λ zero. absurd (omega (arith, eqb-true (1 + count_by p xs) 0 zero))))
    by_test false h = h ∙ ap (λ n. n == 0) (omega arith)

-- as many pass tests that agree
same_count : {X : Type 0} (p q : X → Bool) (xs : List X) → ((x : X) → p x ≡ q x) → count_by p xs ≡ count_by q xs
same_count p q [] h = refl
same_count p q (x ∷ xs) h =
    count_cons p x xs
    ∙ ap (λ (b : Bool). cond b 1 0 + count_by p xs) (h x)
    ∙ ap (λ n. cond (q x) 1 0 + n) (same_count p q xs h)
    ∙ sym (count_cons q x xs)

-- a top that ends is no longer counted
ended_less : (ends : Name → Option How) (m : Name) (how : How) (cs : List Name) → ends m ≡ None
    → count_by (λ c. is_none (ends c)) cs ≡ count_by (λ c. is_none (option_or (ends c) (if same m c then Some how else None))) cs + count_by (same m) cs
ended_less ends m how [] none = refl
ended_less ends m how (c ∷ cs) none =
    let more = ended_less ends m how cs none in
    let here = one (same m c) (ends c) (λ h. ap ends (sym (same_is m c h)) ∙ none) in
    omega (
      arith,
      more,
      here,
      count_cons (λ c. is_none (ends c)) c cs,
      count_cons (λ c. is_none (option_or (ends c) (if same m c then Some how else None))) c cs,
      count_cons (same m) c cs,
    )
  where
    one : (b : Bool) (o : Option How) → (b ≡ true → o ≡ None) → cond (is_none o) 1 0 ≡ cond (is_none (option_or o (if b then Some how else None))) 1 0 + cond b 1 0
    one true None h = refl
    one true (Some x) h = absurd (none-some x (sym (h refl)))
    one false None h = refl
    one false (Some x) h = refl

-- TOPS AMONG THE CHILDREN OF THE ROOT

-- whether a name is a top
top_is : (m : Name) → (length m == 1) ≡ true → (x : ℕ) × (m ≡ x ∷ [])
top_is [] h = absurd (true≢false (sym h))
top_is (x ∷ []) h = (x, refl)
top_is (x ∷ y ∷ r) h = absurd (omega (arith, eqb-true (length (x ∷ y ∷ r)) 1 h))

child_of_root : (m : Name) → is_child [] m ≡ (length m == 1)
child_of_root m = by_test (length m == 1)
  where
    by_test : (b : Bool) → (b && true) ≡ b
    by_test true = refl
    by_test false = refl

count_last : {X : Type 0} (p : X → Bool) (xs : List X) (x : X) → count_by p (xs ++ x ∷ []) ≡ count_by p xs + cond (p x) 1 0
count_last p xs x = let h = count_append p xs (x ∷ []) in omega (arith, h)

-- what the event makes of how often a name stands among the tops
module _ (past : Past) (m : Name) where
  count_child : (ev : Event) → count_by (same m) (children past [] ++ option_to_list (child_in [] ev)) ≡ count_by (same m) (children past []) + count_by (same m) (option_to_list (child_in [] ev))
  count_child ev = count_append (same m) (children past []) (option_to_list (child_in [] ev))

-- no name of another length stands there
pub no_top : (past : Past) (m : Name) → (length m == 1) ≡ false → count_by (same m) (children past []) ≡ 0
no_top [] m long = refl
no_top (e ∷ past) m long =
    let before = no_top past m long in
    let now = here e.event in
    let both = count_child past m e.event in
    omega (arith, before, now, both)
  where
    if_top : (n : Name) (b : Bool) → is_child [] n ≡ b → count_by (same m) (option_to_list (if b then Some n else None)) ≡ 0
    if_top n false child = refl
    if_top n true child = ap (λ (b : Bool). 0 + cond b 1 0) (false_from_ne_true (same m n) (λ h. true≢false (sym child ∙ child_of_root n ∙ ap (λ x. length x == 1) (sym (same_is m n h)) ∙ long)))

    here : (ev : Event) → count_by (same m) (option_to_list (child_in [] ev)) ≡ 0
    here (event.Start n k) = if_top n (is_child [] n) refl
    here _ = refl

-- a top stands there once from its start on
pub one_top : (past : Past) (x : ℕ) → Orderly past → count_by (same (x ∷ [])) (children past []) ≡ flag (is_some (start past (x ∷ [])))
one_top [] x orderly = refl
one_top (e ∷ past) x orderly = count_child past (x ∷ []) e.event ∙ step e.event refl (one_top past x orderly.0)
  where
    m : Name
    m = x ∷ []

    After : Event → Type 0
    After ev = count_by (same (x ∷ [])) (children past []) + count_by (same (x ∷ [])) (option_to_list (child_in [] ev)) ≡ flag (is_some (option_or (start past (x ∷ [])) (start_in (x ∷ []) e.seat ev)))

    unchanged : (ev : Event) → count_by (same (x ∷ [])) (option_to_list (child_in [] ev)) ≡ 0 → start_in (x ∷ []) e.seat ev ≡ None
        → count_by (same (x ∷ [])) (children past []) ≡ flag (is_some (start past (x ∷ []))) → After ev
    unchanged ev adds none before =
        let same_start = ap (λ o. flag (is_some (option_or (start past (x ∷ [])) o))) none in
        let kept = ap (λ o. flag (is_some o)) (still (start past (x ∷ []))) in
        omega (arith, before, adds, same_start, kept)

    starts : (n : Name) (k : Kind) (s : Bool) → same n (x ∷ []) ≡ s → e.event ≡ event.Start n k → count_by (same (x ∷ [])) (children past []) ≡ flag (is_some (start past (x ∷ []))) → After (event.Start n k)
    starts n k true is ev before =
        let this : n ≡ x ∷ [] = same_is n (x ∷ []) is in
        let new : IsNewTop past x k = subst (KeepsOrder past) (ev ∙ ap (λ y. event.Start y k) this) orderly.1 in
        let none = new.fresh in
        let zero : count_by (same (x ∷ [])) (children past []) ≡ 0 = before ∙ ap (λ o. flag (is_some o)) none in
        let added : count_by (same (x ∷ [])) (option_to_list (child_in [] (event.Start n k))) ≡ 1 =
        ap (λ y. count_by (same (x ∷ [])) (option_to_list (child_in [] (event.Start y k)))) this ∙ ap (λ (b : Bool). 0 + cond b 1 0) (same_itself (x ∷ [])) in
        let now : flag (is_some (option_or (start past (x ∷ [])) (start_in (x ∷ []) e.seat (event.Start n k)))) ≡ 1 =
        ap (λ o. flag (is_some (option_or o (start_in (x ∷ []) e.seat (event.Start n k))))) none ∙ started (same n (x ∷ [])) is in
        omega (arith, zero, added, now)
      where
        started : (b : Bool) → b ≡ true → flag (is_some {T = Begun} (if b then Some (record { seat = e.seat; kind = k }) else None)) ≡ 1
        started true h = refl
        started false h = absurd (true≢false (sym h))
    starts n k false is ev before =
        unchanged (event.Start n k) (if_top (is_child [] n)) (ap (λ (b : Bool). if b then Some (let s : Begun = record { seat = e.seat; kind = k } in s) else None) is) before
      where
        if_top : (c : Bool) → count_by (same (x ∷ [])) (option_to_list (if c then Some n else None)) ≡ 0
        if_top false = refl
        if_top true = ap (λ (b : Bool). 0 + cond b 1 0) (false_from_ne_true (same (x ∷ []) n) (λ h. true≢false (sym (same_itself (x ∷ [])) ∙ ap (λ y. same y (x ∷ [])) (same_is (x ∷ []) n h) ∙ is)))

    step : (ev : Event) → e.event ≡ ev → count_by (same (x ∷ [])) (children past []) ≡ flag (is_some (start past (x ∷ []))) → After ev
    step (event.Start n k) ev before = starts n k (same n (x ∷ [])) refl ev before
    step ev is before = unchanged ev refl refl before

-- ONE ENTRY AFTER ANOTHER

-- fewer tops are open than there are entries
pub open_few : (past : Past) → open_tops past ≤ length past
open_few past =
    let some = count_by-le-length (λ c. is_none (end past c)) (children past []) in
    let all = fewer past [] in
    omega (arith, some, all)

no_end_more : (past : Past) (c : Name) → is_none (option_or (end past c) None) ≡ is_none (end past c)
no_end_more past c = ap is_none (still (end past c))

module _ (e : Entry) (past : Past) where
  -- an entry that ends nothing adds what it starts
  calm : (ends_nothing : (c : Name) → end_in c e.event ≡ None) → open_tops (e ∷ past) ≡ open_tops past + count_by (λ c. is_none (end past c)) (option_to_list (child_in [] e.event))
  calm ends_nothing =
      same_count (λ c. is_none (end (e ∷ past) c)) (λ c. is_none (end past c)) (children (e ∷ past) []) (λ c. ap (λ o. is_none (option_or (end past c) o)) (ends_nothing c) ∙ no_end_more past c)
      ∙ count_append (λ c. is_none (end past c)) (children past []) (option_to_list (child_in [] e.event))

  -- an entry that starts a top adds one
  pub top_started : Orderly (e ∷ past) → is_some (child_in [] e.event) ≡ true → open_tops (e ∷ past) ≡ open_tops past + 1
  top_started orderly h = by_event e.event refl h
    where
      by_name : (n : Name) (k : Kind) → e.event ≡ event.Start n k → (b : Bool) → is_child [] n ≡ b → is_some (if b then Some n else None) ≡ true → open_tops (e ∷ past) ≡ open_tops past + 1
      by_name n k is false child some = absurd (true≢false (sym some))
      by_name n k is true child some =
          let top = top_is n (sym (child_of_root n) ∙ child) in
          let new : IsNewTop past top.0 k = subst (KeepsOrder past) (is ∙ ap (λ y. event.Start y k) top.1) orderly.1 in
          let none : end past n ≡ None = not_some (end past n) (λ ended. some_or_none (start past n) ((lawful past orderly.0).end_has_start n ended) (ap (start past) top.1 ∙ new.fresh)) in
          let more : open_tops (e ∷ past) ≡ open_tops past + count_by (λ c. is_none (end past c)) (option_to_list (child_in [] e.event)) = calm (λ c. ap (end_in c) is) in
          let one : count_by (λ c. is_none (end past c)) (option_to_list (child_in [] e.event)) ≡ 1 =
          ap (λ ev. count_by (λ c. is_none (end past c)) (option_to_list (child_in [] ev))) is
          ∙ ap (λ (b : Bool). count_by (λ c. is_none (end past c)) (option_to_list (if b then Some n else None))) child
          ∙ ap (λ o. 0 + cond (is_none o) 1 0) none in
          omega (arith, more, one)

      by_event : (ev : Event) → e.event ≡ ev → is_some (child_in [] ev) ≡ true → open_tops (e ∷ past) ≡ open_tops past + 1
      by_event (event.Start n k) is some = by_name n k is (is_child [] n) refl some
      by_event ev is some = absurd (true≢false (sym some))

  -- an end takes away as often as the name stands among the tops
  ended_now : (n : Name) (how : How) → e.event ≡ event.End n how → Orderly (e ∷ past) → open_tops past ≡ open_tops (e ∷ past) + count_by (same n) (children past [])
  ended_now n how is orderly =
      let none = (ends_open past e n how is orderly.1).not_ended in
      let less = ended_less (end past) n how (children past []) none in
      let now : open_tops (e ∷ past) ≡ count_by (λ c. is_none (option_or (end past c) (if same n c then Some how else None))) (children past []) =
      ap (λ ev. count_by (λ c. is_none (option_or (end past c) (end_in c ev))) (children past [] ++ option_to_list (child_in [] ev))) is
      ∙ ap (count_by (λ c. is_none (option_or (end past c) (if same n c then Some how else None)))) (append-nil (children past [])) in
      omega (arith, less, now)

  -- an entry that ends a top takes away one
  pub top_ended : Orderly (e ∷ past) → ends_top e.event ≡ true → open_tops past ≡ open_tops (e ∷ past) + 1
  top_ended orderly h = by_event e.event refl h
    where
      by_event : (ev : Event) → e.event ≡ ev → ends_top ev ≡ true → open_tops past ≡ open_tops (e ∷ past) + 1
      by_event (event.End n how) is top =
          let number = top_is n top in
          let once : count_by (same n) (children past []) ≡ 1 =
          ap (λ y. count_by (same y) (children past [])) number.1
          ∙ one_top past number.0 orderly.0
          ∙ ap (λ (b : Bool). cond b 1 0) (sym (ap (λ y. is_some (start past y)) number.1) ∙ (ends_open past e n how is orderly.1).started) in
          let less = ended_now n how is orderly in
          omega (arith, once, less)
      by_event ev is top = absurd (true≢false (sym top))

  -- another entry leaves as many
  pub tops_stay : Orderly (e ∷ past) → is_some (child_in [] e.event) ≡ false → ends_top e.event ≡ false → open_tops past ≡ open_tops (e ∷ past)
  tops_stay orderly no_start no_end = by_event e.event refl no_start no_end
    where
      none_of : (o : Option Name) → is_some o ≡ false → count_by (λ c. is_none (end past c)) (option_to_list o) ≡ 0
      none_of None h = refl
      none_of (Some c) h = absurd (true≢false h)

      calm_entry : ((c : Name) → end_in c e.event ≡ None) → open_tops past ≡ open_tops (e ∷ past)
      calm_entry ends_nothing =
          let more = calm ends_nothing in
          let zero = none_of (child_in [] e.event) no_start in
          omega (arith, more, zero)

      by_event : (ev : Event) → e.event ≡ ev → is_some (child_in [] ev) ≡ false → ends_top ev ≡ false → open_tops past ≡ open_tops (e ∷ past)
      by_event (event.End n how) is none other =
          let zero = no_top past n other in
          let less = ended_now n how is orderly in
          omega (arith, zero, less)
      by_event ev is none other = calm_entry (λ c. ap (end_in c) is)
