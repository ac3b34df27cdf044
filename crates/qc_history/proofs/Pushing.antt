-- An entry more: what becomes of an index.
use Rattle.std.proofs.Common.{◌≡◌, ℕ, ◌+◌, ◌-◌, ◌<◌, ◌⊎◌, inl, inr, Bool, true, false, cond, List, [], ◌∷◌, ◌++◌, length, refl, sym, ap, ◌∙◌, subst, arith, append-nil}
use mathlib.Core.Bool.{true≢false}
use Rattle.std.specs.Prelude.{None, Some, is_some, slice_get, option_to_list, if◌then◌else◌, IsTrue, not}
use Rattle.std.specs.Option.{option_or, option_map}
use Rattle.std.specs.Ordering.{nat_cmp, is_eq}
use Rattle.std.specs.declared.cmp.Ordering.{Ordering}
use Rattle.std.specs.declared.cmp.Ordering.TheVariants.{Less, Equal, Greater}
use Rattle.std.proofs.lemmas.Map.Lookups.{exact_unsigned}
use Rattle.std.specs.BTreeMap.{is_at}
use Rattle.std.proofs.lemmas.List.{length-append, length-take-le}
use Rattle.std.proofs.lemmas.Option.{slice_get_within, get_or_from_slice_get, same_Some}
use Rattle.qc_names.specs.Name as name
use Rattle.qc_event.specs.declared.event.Entry.{Entry}
use Rattle.qc_event.specs.declared.event.Event.{Event}
use Rattle.qc_event.specs.declared.event.Event.TheVariants as event
use Rattle.qc_event.specs.declared.event.How.{How}
use Rattle.qc_event.specs.declared.event.Kind.{Kind}
use Rattle.qc_event.specs.History.{Past, Name, Begun, same, start, start_in, end_in, ready_in, is_ready, is_child, child_in, children}
use Rattle.qc_event.specs.Dead.{outcome_of}
use Rattle.qc_event.proofs.Absent.{same_is, same_itself}
use Rattle.qc_event.proofs.LastNumber.{child_last, same_last, length_last, front_last, EndsIn, ends_in}
use Rattle.qc_event.proofs.Lineage.{IsFresh, fresh_below, fresh_child}
use Rattle.qc_event.proofs.Lists.{get_first, get_last}
use Rattle.qc_event.proofs.Numbers.{is_at_itself}
use Rattle.qc_event.proofs.OneEntry.{some_or_none, child_added}
use Rattle.qc_event.proofs.Orderly.{KeepsOrder, Orderly, BecomesReady, IsNewTop}
use Rattle.qc_event.proofs.Lawful.{lawful, child_starts, ends_open, nonroot}
use Rattle.qc_history.specs.Spots.{Spot, new_spot, at, changed, with_child, with_end, with_ready}
use Rattle.qc_history.specs.Places.{starts_in, started, place, spot_of}
use Rattle.qc_history.specs.Index.{Shape, IsIndexOf, top_at}
use Rattle.qc_history.proofs.Changing.{if_not, spot_stays, other_stays, new_is_new, only_new, not_new, child_spot, end_spot, ready_spot}
use Rattle.qc_history.proofs.Placing.{or_nothing, count_stays, placed, no_place, has_start, place_step, place_once}
use Rattle.qc_history.proofs.Spots.{length_changed, get_changed, get_unchanged, length_last_spot, one_of}

-- CHILDREN OF THE ROOT

-- an entry that starts no top leaves as many
tops_stay : (e : Entry) (past : Past) → child_in [] e.event ≡ None → length (children past []) ≡ length (children (e ∷ past) [])
tops_stay e past none = ap length (sym (append-nil (children past []))) ∙ ap (λ o. length (children past [] ++ option_to_list o)) (sym none)

-- A NEW TOP

is_at_same : (t q : ℕ) → is_at (nat_cmp t) q ≡ true → t ≡ q
is_at_same t q h = exact_unsigned t q (equal (nat_cmp t q) h)
  where
    equal : (o : Ordering) → is_eq o ≡ true → o ≡ Equal
    equal Less h = absurd (true≢false (sym h))
    equal Equal h = refl
    equal Greater h = absurd (true≢false (sym h))

top_no_child : (n : Name) (t : ℕ) → 0 < length n → is_child n (t ∷ []) ≡ true → ⊥
top_no_child n t pos h = let last = child_last n (t ∷ []) h in omega (arith, ap length last.1, length_last n last.0)

top_other : (t q : ℕ) → same (t ∷ []) (q ∷ []) ≡ true → t ≡ q
top_other t q h = let is = same_is (t ∷ []) (q ∷ []) h in cc

-- a number of a top that starts now is not among the tops
pub top_is_new : (e : Entry) (past : Past) (t : ℕ) (k : Kind) (index : Shape) → e.event ≡ event.Start (t ∷ []) k → KeepsOrder past e.event → IsIndexOf past index → top_at index.tops t ≡ None
top_is_new e past t k index is keeps was =
    let may : IsNewTop past t k = subst (KeepsOrder past) is keeps in
    was.by_number t ∙ no_place past (t ∷ []) may.fresh

pub top_started : (e : Entry) (past : Past) (t : ℕ) (k : Kind) (index : Shape) (tops : List (ℕ × ℕ)) → e.event ≡ event.Start (t ∷ []) k → Orderly past → KeepsOrder past e.event → IsIndexOf past index
    → ((q : ℕ) → top_at tops q ≡ cond (is_at (nat_cmp t) q) (Some (length index.spots)) (top_at index.tops q))
    → length tops ≡ length index.tops + 1
    → IsIndexOf (e ∷ past) (record { tops = tops; spots = index.spots ++ new_spot (Some index.count) ∷ []; count = index.count + 1 })
top_started e past t k index tops is orderly keeps was adds longer = record {
  counted = omega (arith, was.counted);
  as_many = length_last_spot index.spots (new_spot (Some index.count)) ∙ ap (λ n. n + 1) was.as_many ∙ ap (λ n. started past + n) (sym (ap starts_in is));
  all_tops = longer ∙ ap (λ n. n + 1) was.all_tops ∙ sym (length-append (children past []) ((t ∷ []) ∷ [])) ∙ ap length (sym (child_added e past [] (t ∷ []) k is refl));
  at_place = λ n i here. elim (place_step e past n i here) [
    | inl old ↦ get_first index.spots (new_spot (Some index.count) ∷ []) i _ (was.at_place n i old)
        ∙ ap Some (let h = has_start past n i old in
        other_stays e past (t ∷ []) k is fresh orderly n (not_new e past (t ∷ []) k is fresh orderly n h) (top_no_child n t (nonroot past n (lawful past orderly) h)))
    | inr new ↦
        let same_name = only_new e past (t ∷ []) k is fresh orderly n new.1 in
        get_last index.spots (new_spot (Some index.count)) i (new.2 ∙ sym was.as_many)
        ∙ ap (λ c. Some (new_spot (Some c))) was.counted
        ∙ ap Some (new_is_new e past (t ∷ []) k is fresh orderly ∙ ap (spot_of (e ∷ past)) (sym same_name))
  ];
  by_number = λ q. adds q ∙ by_test q (is_at (nat_cmp t) q) refl;
}
  where
    may : IsNewTop past t k
    may = subst (KeepsOrder past) is keeps

    fresh : IsFresh past (t ∷ [])
    fresh = fresh_below past (t ∷ []) [] (lawful past orderly) (omega arith) may.fresh

    after : (q : ℕ) → place (e ∷ past) (q ∷ []) ≡ option_or (place past (q ∷ [])) (option_map (λ _. started past) (if same (t ∷ []) (q ∷ []) then Some (let b : Begun = record { seat = e.seat; kind = k } in b) else None))
    after q = ap (λ ev. option_or (place past (q ∷ [])) (option_map (λ _. started past) (start_in (q ∷ []) e.seat ev))) is

    by_test : (q : ℕ) (b : Bool) → is_at (nat_cmp t) q ≡ b → cond b (Some (length index.spots)) (top_at index.tops q) ≡ place (e ∷ past) (q ∷ [])
    by_test q true here =
        let same_number : t ≡ q = is_at_same t q here in
        ap Some was.as_many
        ∙ ap (λ (b : Bool). option_map (λ _. started past) (if b then Some (let b : Begun = record { seat = e.seat; kind = k } in b) else None)) (sym (same_itself (t ∷ [])))
        ∙ ap (λ o. option_or o (option_map (λ _. started past) (if same (t ∷ []) (t ∷ []) then Some (let b : Begun = record { seat = e.seat; kind = k } in b) else None))) (sym (no_place past (t ∷ []) may.fresh))
        ∙ sym (after t)
        ∙ ap (λ x. place (e ∷ past) (x ∷ [])) same_number
    by_test q false other =
        was.by_number q
        ∙ sym (or_nothing (place past (q ∷ [])) (λ _. started past) _ (if_not (same (t ∷ []) (q ∷ [])) _ (λ h. true≢false (sym (is_at_itself t) ∙ ap (is_at (nat_cmp t)) (top_other t q h) ∙ other))))
        ∙ sym (after q)

-- A NEXT CHILD

-- the spot that is changed, and those that are not
pub spot_changed : (past : Past) (index : Shape) (m : Name) (i : ℕ) (f : Spot → Spot) → IsIndexOf past index → place past m ≡ Some i
    → (n : Name) (j : ℕ) → place past n ≡ Some j → ((n ≡ m) × (slice_get (changed index.spots i f) j ≡ Some (f (spot_of past m)))) ⊎ ((n ≡ m → ⊥) × (slice_get (changed index.spots i f) j ≡ Some (spot_of past n)))
spot_changed past index m i f was here n j there = elim (one_of i j) [
  | inl equal ↦ inl (
    place_once past n m i (there ∙ ap Some (sym equal)) here,
    get_changed index.spots i j (f (at index.spots i)) equal (slice_get_within index.spots i _ (was.at_place m i here))
        ∙ ap (λ s. Some (f s)) (get_or_from_slice_get index.spots i _ (new_spot None) (was.at_place m i here)),
  )
  | inr other ↦ inr (
    (λ h. other (same_Some i j (sym here ∙ ap (place past) (sym h) ∙ there))),
    get_unchanged index.spots i j (f (at index.spots i)) other ∙ was.at_place n j there,
  )
]

pub child_started : (e : Entry) (past : Past) (p : Name) (j : ℕ) (k : Kind) (index : Shape) (i : ℕ) → e.event ≡ event.Start (p ++ j ∷ []) k → 0 < length p → Orderly past → KeepsOrder past e.event → IsIndexOf past index → place past p ≡ Some i
    → IsIndexOf (e ∷ past) (record { tops = index.tops; spots = changed index.spots i (with_child (length index.spots)) ++ new_spot (Some index.count) ∷ []; count = index.count + 1 })
child_started e past p j k index i is pos orderly keeps was here = record {
  counted = omega (arith, was.counted);
  as_many = length_last_spot mid (new_spot (Some index.count)) ∙ ap (λ n. n + 1) long ∙ ap (λ n. started past + n) (sym (ap starts_in is));
  all_tops = was.all_tops ∙ tops_stay e past (ap (child_in []) is ∙ if_not (is_child [] (p ++ j ∷ [])) _ (λ h. let last = child_last [] (p ++ j ∷ []) h in omega (arith, pos, ap length last.1, length_last p j)));
  at_place = λ n l there. elim (place_step e past n l there) [
    | inl old ↦ get_first mid (new_spot (Some index.count) ∷ []) l _ (elim (spot_changed past index p i (with_child (length index.spots)) was here n l old) [
      | inl changes ↦ changes.1 ∙ ap (λ c. Some (with_child c (spot_of past p))) was.as_many ∙ ap Some (child_spot e past p j k is ∙ ap (spot_of (e ∷ past)) (sym changes.0))
      | inr stays ↦ stays.1 ∙ ap Some (other_stays e past (p ++ j ∷ []) k is fresh orderly n (not_new e past (p ++ j ∷ []) k is fresh orderly n (has_start past n l old))
          (λ h. stays.0 (sym (same_last p n j (child_last n (p ++ j ∷ []) h).0 (child_last n (p ++ j ∷ []) h).1).0)))
    ])
    | inr new ↦
        let same_name = only_new e past (p ++ j ∷ []) k is fresh orderly n new.1 in
        get_last mid (new_spot (Some index.count)) l (new.2 ∙ sym long)
        ∙ ap (λ c. Some (new_spot (Some c))) was.counted
        ∙ ap Some (new_is_new e past (p ++ j ∷ []) k is fresh orderly ∙ ap (spot_of (e ∷ past)) (sym same_name))
  ];
  by_number = λ q. was.by_number q ∙ sym (or_nothing (place past (q ∷ [])) (λ _. started past) (start_in (q ∷ []) e.seat e.event)
      (ap (start_in (q ∷ []) e.seat) is ∙ if_not (same (p ++ j ∷ []) (q ∷ [])) _ (λ h. let equal = ap length (same_is (p ++ j ∷ []) (q ∷ []) h) in omega (arith, equal, length_last p j))));
}
  where
    mid : List Spot
    mid = changed index.spots i (with_child (length index.spots))

    long : length mid ≡ started past
    long = length_changed index.spots i (with_child (length index.spots) (at index.spots i)) ∙ was.as_many

    fresh : IsFresh past (p ++ j ∷ [])
    fresh = let next = (child_starts past e p j pos (k, is) keeps).next in fresh_child past p j [] (lawful past orderly) pos (omega (arith, next))

-- NO START

no_start_place : (e : Entry) (past : Past) (n : Name) → ((m : Name) → start_in m e.seat e.event ≡ None) → place past n ≡ place (e ∷ past) n
no_start_place e past n none = count_stays started (λ e. start_in n e.seat e.event) e past (none n)

pub ended_now : (e : Entry) (past : Past) (m : Name) (how : How) (index : Shape) (i : ℕ) → e.event ≡ event.End m how → KeepsOrder past e.event → IsIndexOf past index → place past m ≡ Some i
    → IsIndexOf (e ∷ past) (record { tops = index.tops; spots = changed index.spots i (with_end (outcome_of (Some how)) index.count); count = index.count + 1 })
ended_now e past m how index i is keeps was here = record {
  counted = omega (arith, was.counted);
  as_many = length_changed index.spots i _ ∙ was.as_many ∙ (let none_more : starts_in e.event ≡ 0 = ap starts_in is in omega (arith, none_more));
  all_tops = was.all_tops ∙ tops_stay e past (ap (child_in []) is);
  at_place = λ n l there. elim (spot_changed past index m i (with_end (outcome_of (Some how)) index.count) was here n l (no_start_place e past n none ∙ there)) [
    | inl changes ↦ changes.1 ∙ ap (λ c. Some (with_end (outcome_of (Some how)) c (spot_of past m))) was.counted ∙ ap Some (end_spot e past m how is (ends_open past e m how is keeps).not_ended ∙ ap (spot_of (e ∷ past)) (sym changes.0))
    | inr stays ↦ stays.1 ∙ ap Some (spot_stays e past n (none n) (ap (end_in n) is ∙ if_not (same m n) how (λ h. stays.0 (sym (same_is m n h)))) (ap (ready_in n) is) (ap (child_in n) is))
  ];
  by_number = λ q. was.by_number q ∙ no_start_place e past (q ∷ []) none;
}
  where
    none : (n : Name) → start_in n e.seat e.event ≡ None
    none n = ap (start_in n e.seat) is

is_not : (b : Bool) → IsTrue (not b) → b ≡ false
is_not true h = absurd (true≢false (sym h))
is_not false h = refl

pub ready_now : (e : Entry) (past : Past) (m : Name) (index : Shape) (i : ℕ) → e.event ≡ event.Ready m → KeepsOrder past e.event → IsIndexOf past index → place past m ≡ Some i
    → IsIndexOf (e ∷ past) (record { tops = index.tops; spots = changed index.spots i (with_ready index.count); count = index.count + 1 })
ready_now e past m index i is keeps was here = record {
  counted = omega (arith, was.counted);
  as_many = length_changed index.spots i _ ∙ was.as_many ∙ (let none_more : starts_in e.event ≡ 0 = ap starts_in is in omega (arith, none_more));
  all_tops = was.all_tops ∙ tops_stay e past (ap (child_in []) is);
  at_place = λ n l there. elim (spot_changed past index m i (with_ready index.count) was here n l (no_start_place e past n none ∙ there)) [
    | inl changes ↦ changes.1 ∙ ap (λ c. Some (with_ready c (spot_of past m))) was.counted ∙ ap Some (ready_spot e past m is not_yet ∙ ap (spot_of (e ∷ past)) (sym changes.0))
    | inr stays ↦ stays.1 ∙ ap Some (spot_stays e past n (none n) (ap (end_in n) is) (ap (ready_in n) is ∙ if_not (same m n) tt (λ h. stays.0 (sym (same_is m n h)))) (ap (child_in n) is))
  ];
  by_number = λ q. was.by_number q ∙ no_start_place e past (q ∷ []) none;
}
  where
    none : (n : Name) → start_in n e.seat e.event ≡ None
    none n = ap (start_in n e.seat) is

    not_yet : is_ready past m ≡ false
    not_yet = let may : BecomesReady past m = subst (KeepsOrder past) is keeps in is_not (is_ready past m) may.not_ready

-- an event that neither starts nor ends a name, nor makes one ready
pub record IsQuiet (ev : Event) : Type 0 where
  pub no_start : (n : Name) (seat : ℕ) → start_in n seat ev ≡ None
  pub no_end : (n : Name) → end_in n ev ≡ None
  pub no_ready : (n : Name) → ready_in n ev ≡ None
  pub no_child : (n : Name) → child_in n ev ≡ None
  pub no_more : starts_in ev ≡ 0

pub quiet_now : (e : Entry) (past : Past) (index : Shape) → IsQuiet e.event → IsIndexOf past index → IsIndexOf (e ∷ past) (record { tops = index.tops; spots = index.spots; count = index.count + 1 })
quiet_now e past index quiet was = record {
  counted = omega (arith, was.counted);
  as_many = was.as_many ∙ omega (arith, quiet.no_more);
  all_tops = was.all_tops ∙ tops_stay e past (quiet.no_child []);
  at_place = λ n l there. was.at_place n l (no_start_place e past n none ∙ there) ∙ ap Some (spot_stays e past n (none n) (quiet.no_end n) (quiet.no_ready n) (quiet.no_child n));
  by_number = λ q. was.by_number q ∙ no_start_place e past (q ∷ []) none;
}
  where
    none : (n : Name) → start_in n e.seat e.event ≡ None
    none n = quiet.no_start n e.seat

-- NAMES BY THEIR PARTS

pub one_number : (n : Name) (t : ℕ) → slice_get n 0 ≡ Some t → length n ≡ 1 → n ≡ t ∷ []
one_number [] t h one = absurd cc
one_number (x ∷ []) t h one = ap (λ y. y ∷ []) (same_Some x t h)
one_number (x ∷ y ∷ n) t h one = absurd (omega arith)

pub in_parts : (n : Name) → 1 < length n → (j : ℕ) × (n ≡ name.front n ++ j ∷ [])
in_parts n long = by_end (ends_in n)
  where
    by_end : (n ≡ []) ⊎ EndsIn n → (j : ℕ) × (n ≡ name.front n ++ j ∷ [])
    by_end (inl root) = absurd (omega (arith, ap length root))
    by_end (inr (p, j, is)) = (j, is ∙ ap (λ q. q ++ j ∷ []) (sym (ap name.front is ∙ front_last p j)))

pub front_shorter : (n : Name) → 1 < length n → 0 < length (name.front n)
front_shorter n long = omega (arith, length-take-le (length n - 1) n (omega arith))

pub has_place : (past : Past) (n : Name) → is_some (start past n) ≡ true → place past n ≡ None → ⊥
has_place past n h none = some_or_none (place past n) (placed past n ∙ h) none

-- the parent of what starts has a place
pub parent_placed : (e : Entry) (past : Past) (n : Name) (k : Kind) → Orderly past → KeepsOrder past e.event → e.event ≡ event.Start n k → 1 < length n → place past (name.front n) ≡ None → ⊥
parent_placed e past n k orderly keeps is long none =
    let parts = in_parts n long in
    has_place past (name.front n) (child_starts past e (name.front n) parts.0 (front_shorter n long) (k, is ∙ ap (λ m. event.Start m k) parts.1) keeps).going.is_open.started none
