-- The places of entries that answer, and the grants that stand there.
use Rattle.std.proofs.Common.{◌≡◌, ℕ, zero, suc, ◌+◌, ◌<◌, ◌≤◌, inl, inr, Bool, true, false, List, [], ◌∷◌, ◌++◌, length, take, reverse, refl, sym, ap, ◌∙◌, arith, append-nil}
use Rattle.std.specs.Prelude.{Option, None, Some, ◌==◌, if◌then◌else◌, option_to_list, slice_get, slice_index, slice_set, vec_len, vec_capacity}
use Rattle.std.specs.Option.{option_map}
use Rattle.std.proofs.lemmas.List.{length-append, length-reverse, reverse-append, reverse-reverse}
use Rattle.std.proofs.lemmas.Option.{same_Some, slice_get-get_or, slice_get_cases}
use Rattle.qc_event.specs.declared.event.Entry.{Entry}
use Rattle.qc_event.specs.declared.event.Event.{Event}
use Rattle.qc_event.specs.declared.event.Event.TheVariants as event
use Rattle.qc_event.specs.declared.event.Grant.{Grant}
use Rattle.qc_event.specs.History.{Past, every, grants, grant_at}
use Rattle.qc_event.proofs.Lists.{get_last}
use Rattle.qc_history.proofs.Placing.{get_other}
use Rattle.qc_history.proofs.Spots.{one_of}
use Rattle.qc_history.specs.Grants.{AreListed, HasSpare, granted_at, grant_of, listed, places_of}
use Rattle.qc_history.specs.declared.grants.Places.{Places}

-- LISTS

-- one item further
pub take_one : {X : Type 0} (xs : List X) (n : ℕ) (x : X) → slice_get xs n ≡ Some x → take (n + 1) xs ≡ take n xs ++ x ∷ []
take_one [] n x is = absurd cc
take_one (y ∷ xs) zero x is = ap (λ z. z ∷ []) (same_Some y x is)
take_one (y ∷ xs) (suc n) x is = let next : suc n + 1 ≡ suc (n + 1) = omega arith in ap (λ k. take k (y ∷ xs)) next ∙ ap (λ zs. y ∷ zs) (take_one xs n x is)

pub take_whole : {X : Type 0} (xs : List X) (n : ℕ) → length xs ≤ n → take n xs ≡ xs
take_whole [] zero more = refl
take_whole [] (suc n) more = refl
take_whole (x ∷ xs) zero more = absurd (omega (arith, more))
take_whole (x ∷ xs) (suc n) more = ap (λ ys. x ∷ ys) (take_whole xs n (omega (arith, more)))

-- THE PLACES OF ENTRIES THAT ANSWER

module _ {Y : Type 0} (f : Entry → Option Y) where
  pub as_many : (past : Past) → length (places_of f past) ≡ length (every f past)
  as_many [] = refl
  as_many (e ∷ past) =
      length-append (places_of f past) (option_to_list (option_map (λ _. length past) (f e)))
      ∙ both (f e) (as_many past)
      ∙ sym (length-append (every f past) (option_to_list (f e)))
    where
      both : (o : Option Y) → length (places_of f past) ≡ length (every f past) → length (places_of f past) + length (option_to_list (option_map (λ _. length past) o)) ≡ length (every f past) + length (option_to_list o)
      both None same = ap (λ n. n + 0) same
      both (Some y) same = ap (λ n. n + 1) same

  -- The entry at a place answers what is listed there.
  pub record Answers (past : Past) (j i : ℕ) : Type 0 where
    pub within : i < length past
    pub there : (e : Entry) → slice_get (reverse past) i ≡ Some e → f e ≡ slice_get (every f past) j

  older : (x : Entry) (past : Past) (i : ℕ) → i < length past → slice_get (reverse (x ∷ past)) i ≡ slice_get (reverse past) i
  older x past i less = ap (λ xs. slice_get xs i) (reverse-append (x ∷ []) past) ∙ get_other (reverse past) x i (λ last. omega (arith, last, less, length-reverse past))

  newest : (x e : Entry) (past : Past) (i : ℕ) → i ≡ length past → slice_get (reverse (x ∷ past)) i ≡ Some e → x ≡ e
  newest x e past i last is = same_Some x e (sym (ap (λ xs. slice_get xs i) (reverse-append (x ∷ []) past) ∙ get_last (reverse past) x i (omega (arith, last, length-reverse past))) ∙ is)

  pub answers_there : (past : Past) (j i : ℕ) → slice_get (places_of f past) j ≡ Some i → Answers past j i
  answers_there [] j i is = absurd cc
  answers_there (x ∷ past) j i is = by_answer (answers_there past j i) (f x) refl
    where
      before : (slice_get (places_of f past) j ≡ Some i → Answers past j i) → slice_get (places_of f past) j ≡ Some i → slice_get (every f (x ∷ past)) j ≡ slice_get (every f past) j → Answers (x ∷ past) j i
      before known old same =
          let was = known old in
          record {
            within = omega (arith, was.within);
            there = λ e at. was.there e (sym (older x past i was.within) ∙ at) ∙ sym same;
          }

      by_place : (slice_get (places_of f past) j ≡ Some i → Answers past j i) → (y : Y) → f x ≡ Some y → slice_get (places_of f past ++ length past ∷ []) j ≡ Some i → Answers (x ∷ past) j i
      by_place known y now here = elim (one_of j (length (places_of f past))) [
        | inl last ↦
            let place : length past ≡ i = same_Some (length past) i (sym (get_last (places_of f past) (length past) j last) ∙ here) in
            record {
              within = omega (arith, place);
              there = λ e at.
                  ap f (sym (newest x e past i (sym place) at)) ∙ now ∙ sym (get_last (every f past) y j (last ∙ as_many past))
                  ∙ ap (λ o. slice_get (every f past ++ option_to_list o) j) (sym now);
            }
        | inr other ↦ before known (sym (get_other (places_of f past) (length past) j other) ∙ here)
            (ap (λ o. slice_get (every f past ++ option_to_list o) j) now ∙ get_other (every f past) y j (λ last. other (last ∙ sym (as_many past))))
      ]

      by_answer : (slice_get (places_of f past) j ≡ Some i → Answers past j i) → (o : Option Y) → f x ≡ o → Answers (x ∷ past) j i
      by_answer known None none =
          before known
          (ap (λ xs. slice_get xs j) (sym (append-nil (places_of f past))) ∙ ap (λ o. slice_get (places_of f past ++ option_to_list (option_map (λ _. length past) o)) j) (sym none) ∙ is)
          (ap (λ o. slice_get (every f past ++ option_to_list o) j) none ∙ ap (λ ys. slice_get ys j) (append-nil (every f past)))
      by_answer known (Some y) now = by_place known y now (ap (λ o. slice_get (places_of f past ++ option_to_list (option_map (λ _. length past) o)) j) (sym now) ∙ is)

-- GRANTS AND THEIR COPIES

told_grant : (copy : ℕ) (ev : Event) (g : Grant) → grant_at copy ev ≡ Some g → grant_of ev ≡ Some g
told_grant copy (event.Granted c h) g is = by_test (c == copy) is
  where
    by_test : (b : Bool) → (if b then Some h else None) ≡ Some g → Some h ≡ Some g
    by_test true same = same
    by_test false same = absurd cc
told_grant copy _ g is = absurd cc

-- ROOM

there_now : (lists : List Places) (copy : ℕ) (p : Places) → copy < length lists → slice_get (slice_set lists copy p) copy ≡ Some p
there_now [] copy p less = absurd (omega (arith, less))
there_now (q ∷ lists) zero p less = refl
there_now (q ∷ lists) (suc c) p less = there_now lists c p (omega (arith, less))

-- a list with room is the one that the event's copy needs
pub spare_here : (ev : Event) (lists : List Places) (p : Places) (copy : ℕ) → granted_at ev ≡ Some copy → copy < length lists → vec_len p.places < vec_capacity p.places → HasSpare ev (slice_set lists copy p)
spare_here ev lists p copy is less spare = λ c also. (p, ap (slice_get (slice_set lists copy p)) (same_Some c copy (sym also ∙ is)) ∙ there_now lists copy p less, spare)

-- READING

module _ (entries : List Entry) (lists : List Places) (was : AreListed (reverse entries) lists) (copy : ℕ) (places : List ℕ) (all : places ≡ listed lists copy) where
  pub all_listed : length places ≡ length (grants (reverse entries) copy)
  all_listed = ap length all ∙ ap length (was.each copy) ∙ as_many (λ e. grant_at copy e.event) (reverse entries)

  -- The entry at the place that is listed here is the grant.
  pub record Reads (j : ℕ) : Type 0 where
    pub within : slice_index places j < length entries
    pub grant : (e : Entry) → slice_get entries (slice_index places j) ≡ Some e → (g : Grant) × (grant_of e.event ≡ Some g) × (slice_get (grants (reverse entries) copy) j ≡ Some g)

  pub reads : (j : ℕ) → j < length places → Reads j
  reads j less =
      let i = slice_index places j in
      let here : slice_get (places_of (λ (e : Entry). grant_at copy e.event) (reverse entries)) j ≡ Some i = ap (λ xs. slice_get xs j) (sym (all ∙ was.each copy)) ∙ slice_get-get_or places j 0 less in
      let found : Answers (λ e. grant_at copy e.event) (reverse entries) j i = answers_there (λ e. grant_at copy e.event) (reverse entries) j i here in
      let within : i < length entries = omega (arith, found.within, length-reverse entries) in
      let there : (e : Entry) → slice_get entries i ≡ Some e → slice_get (reverse (reverse entries)) i ≡ Some e = λ e at. ap (λ es. slice_get es i) (reverse-reverse entries) ∙ at in
      record {
        within = within;
        grant = λ e at. elim (slice_get_cases (grants (reverse entries) copy) j).1 [
          | inl item ↦ (item.0, told_grant copy e.event item.0 (found.there e (there e at) ∙ item.2), item.2)
          | inr over ↦ absurd (omega (arith, over.0, less, all_listed))
        ];
      }

-- one grant further, where both lists have it
pub same_further : (given theirs : List Grant) (n : ℕ) (g : Grant) → take n given ≡ take n theirs → slice_get given n ≡ Some g → slice_get theirs n ≡ Some g → take (n + 1) given ≡ take (n + 1) theirs
same_further given theirs n g same here there = take_one given n g here ∙ ap (λ gs. gs ++ g ∷ []) same ∙ sym (take_one theirs n g there)
