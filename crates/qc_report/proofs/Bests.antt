-- The greatest version of each record, one tuple after another.
use Rattle.std.proofs.Common.{◌≡◌, ℕ, ◌+◌, ◌<◌, List, [], ◌∷◌, ◌++◌, map, length, take, reverse, get_or, refl, ap, sym, ◌∙◌, subst, arith, append_assoc, append-nil}
use Rattle.std.specs.Prelude.{option_to_list, Option, None, Some}
use Rattle.std.specs.List.{range_with_len}
use Rattle.std.proofs.lemmas.List.{length-map, get_or-map}
use Rattle.std.proofs.lemmas.List.FromFn.{fill_by_all, length-map-range_with_len, get_or-map-range_with_len, map-range_with_len_more}
use Rattle.std.proofs.lemmas.List.Sums.{fold-append}
use Rattle.qc_config.specs.Val.{Datum, Number}
use Rattle.qc_config.specs.declared.tuple.Tuple.{Tuple}
use Rattle.qc_event.specs.declared.event.Entry.{Entry}
use Rattle.qc_event.specs.Base.{start_tuple, no_tuple}
use Rattle.qc_event.specs.History.{Past, every}
use Rattle.qc_event.specs.Manager.{Greatest, greater, greatest_among}
use Rattle.qc_event.specs.Sound.{column}
use Rattle.qc_event.proofs.Histories.{reverse-take_more}
use Rattle.qc_refine.specs.Final.{final_value, put_for_good}
use Rattle.qc_report.specs.LastValues.{AreBest, best, best_of, raised, value_of, values_by_version, with_put}

-- OF TUPLES

best_more : (ts : List Tuple) (t : Tuple) → best_of (ts ++ t ∷ []) ≡ raised (best_of ts) t
best_more [] t = refl
best_more (first ∷ ts) t = ap (λ (b : Greatest). Some b) (fold-append greater (best first) ts (t ∷ []))

value_is : (ts : List Tuple) → value_of (best_of ts) ≡ (greatest_among ts).value
value_is [] = refl
value_is (t ∷ ts) = refl

-- OF THE START

-- a record's start tuples at the first copies
abbrev pub starts : List (List Tuple) → ℕ → ℕ → List Tuple
starts base rec n = map (λ copy. start_tuple base copy rec) (range_with_len 0 n)

-- a record's start tuples, copy by copy
pub column_is : (base : List (List Tuple)) (rec : ℕ) → column base rec ≡ starts base rec (length base)
column_is base rec =
    fill_by_all (λ copy. start_tuple base copy rec) (column base rec) (length base) no_tuple
    (length-map base (λ row. get_or row rec no_tuple))
    (λ copy lt. get_or-map (λ row. get_or row rec no_tuple) base copy [] no_tuple lt)

-- the best of one copy more
pub start_more : (base : List (List Tuple)) (rec n : ℕ) (before now : Option Greatest) (t : Tuple) → before ≡ best_of (starts base rec n) → t ≡ start_tuple base n rec → now ≡ raised before t → now ≡ best_of (starts base rec (n + 1))
start_more base rec n before now t is told grown =
    grown
    ∙ ap (λ b. raised b t) is
    ∙ sym (best_more (starts base rec n) t)
    ∙ ap (λ x. best_of (starts base rec n ++ x ∷ [])) told
    ∙ ap best_of (sym (map-range_with_len_more (λ copy. start_tuple base copy rec) 0 n n (omega arith)))

-- the best of one record more
pub records_more : (base : List (List Tuple)) (n : ℕ) (bests : List (Option Greatest)) (b : Option Greatest) → bests ≡ map (λ rec. best_of (column base rec)) (range_with_len 0 n) → b ≡ best_of (column base n) → bests ++ b ∷ [] ≡ map (λ rec. best_of (column base rec)) (range_with_len 0 (n + 1))
records_more base n bests b before is =
    ap (λ bs. bs ++ b ∷ []) before
    ∙ ap (λ x. map (λ rec. best_of (column base rec)) (range_with_len 0 n) ++ x ∷ []) is
    ∙ sym (map-range_with_len_more (λ rec. best_of (column base rec)) 0 n n (omega arith))

-- OF THE ENTRIES

-- the start tuples of a record, and those that some entries left for good
abbrev pub tuples_of : List (List Tuple) → Past → List Entry → ℕ → List Tuple
tuples_of base past entries rec = column base rec ++ every (λ (e : Entry). put_for_good past rec e.event) (reverse entries)

pub no_entries : (base : List (List Tuple)) (past : Past) (n : ℕ) (bests : List (Option Greatest)) → bests ≡ map (λ rec. best_of (column base rec)) (range_with_len 0 n) → (length bests ≡ n) × AreBest (tuples_of base past []) bests
no_entries base past n bests is =
    let as_many : length bests ≡ n = ap length is ∙ length-map-range_with_len (λ rec. best_of (column base rec)) 0 n in (
      as_many,
      λ rec lt.
          ap (λ bs. get_or bs rec None) is
          ∙ get_or-map-range_with_len (λ r. best_of (column base r)) 0 n rec rec None (subst (λ m. rec < m) as_many lt) (omega arith)
          ∙ ap best_of (sym (append-nil (column base rec))),
    )

pub entries_more : (base : List (List Tuple)) (past : Past) (entries : List Entry) (i : ℕ) (e : Entry) (bests : List (Option Greatest)) → i < length entries → e ≡ get_or entries i e → AreBest (with_put past e.event (tuples_of base past (take i entries))) bests → AreBest (tuples_of base past (take (i + 1) entries)) bests
entries_more base past entries i e bests lt item are = λ rec within. are rec within ∙ ap best_of (same rec)
  where
    same : (rec : ℕ) → with_put past e.event (tuples_of base past (take i entries)) rec ≡ tuples_of base past (take (i + 1) entries) rec
    same rec =
        let left = λ (x : Entry). put_for_good past rec x.event in
        append_assoc (column base rec) (every left (reverse (take i entries))) (option_to_list (left e))
        ∙ ap (λ (x : Entry). column base rec ++ every left (x ∷ reverse (take i entries))) item
        ∙ ap (λ es. column base rec ++ every left es) (sym (reverse-take_more entries i e lt))

pub values_are : (base : List (List Tuple)) (entries : List Entry) (n : ℕ) (bests : List (Option Greatest)) (values : List Datum) → length bests ≡ n → AreBest (tuples_of base (reverse entries) entries) bests → values ≡ map value_of bests → values ≡ values_by_version base (reverse entries) n
values_are base entries n bests values as_many are is =
    is
    ∙ fill_by_all (final_value base (reverse entries)) (map value_of bests) n (Number 0)
    (length-map bests value_of ∙ as_many)
    (λ rec lt.
    let within : rec < length bests = subst (λ m. rec < m) (sym as_many) lt in
    get_or-map value_of bests rec None (Number 0) within ∙ ap value_of (are rec within) ∙ value_is (tuples_of base (reverse entries) entries rec))
