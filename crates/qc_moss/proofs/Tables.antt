-- A table goes on to follow a history: where an entry is added, and where an access is granted.
use Rattle.std.proofs.Common.{◌≡◌, ℕ, ◌<◌, Bool, All, true, false, List, [], ◌∷◌, ◌++◌, length, get_or, refl, sym, ap, ◌∙◌, subst, inl, inr, cond, append-nil, get_or-set_same, get_or-set_other}
use mathlib.Core.Bool.{true≢false}
use Rattle.std.specs.Prelude.{◌==◌, filter, slice_set, if◌then◌else◌}
use Rattle.std.proofs.lemmas.Bool.{cases_Bool, eqb-true, eq-eqb}
use Rattle.std.proofs.lemmas.List.Elements.{filter-append, All-tail}
use Rattle.std.proofs.Math.ListN.{get_or-map}
use Rattle.qc_config.specs.declared.tuple.Tuple.{Tuple}
use Rattle.qc_event.specs.Base.{no_tuple}
use Rattle.qc_event.specs.declared.event.Entry.{Entry}
use Rattle.qc_event.specs.declared.event.Grant.{Grant}
use Rattle.qc_event.specs.History.{Past, Name}
use Rattle.qc_moss.specs.declared.holder.Holder.{Holder}
use Rattle.qc_moss.specs.Locks.{Table, unheld, holders_of, start_of, base_of, granted_to, alone, joined, effect, is_root, unfolded, folded_into}
use Rattle.qc_moss.proofs.Answering.{both_effects}
use Rattle.qc_moss.specs.Follows.{AreOf, AreFolded, TableFollows, Becomes, HoldsStill}
use Rattle.qc_moss.specs.Follows.AreOf.{none}
use Rattle.qc_moss.specs.Follows.AreFolded.{nothing, folded}
use Rattle.qc_moss.proofs.Following.{are_on, are_last, join_one}

none_held : (start : List Tuple) (rec : ℕ) → holders_of (unheld start) rec ≡ []
none_held start rec = get_or-map (λ (t : Tuple). let none : List Holder = [] in none) start rec no_tuple

pub starts : (past : Past) (start : List Tuple) → TableFollows past [] (unheld start)
starts past start = λ rec. nothing refl (subst (AreOf past [] []) (sym (none_held start rec)) (none []))

pub folded_on : (e : Entry) (past : Past) (given : List Grant) (start base : Tuple) (held : List Holder) → AreFolded past given start base held → AreFolded (e ∷ past) given start base held
folded_on e past given start base held (nothing is are) = nothing is (are_on e past [] given held are)
folded_on e past given start base held (folded h root is are) = folded h root is (are_on e past [] given (h ∷ held) are)

pub grows : (past : Past) (e : Entry) (given : List Grant) (table : Table) → TableFollows past given table → TableFollows (e ∷ past) given table
grows past e given table follows = λ rec. folded_on e past _ _ _ _ (follows rec)

folded_last : (past : Past) (g : Grant) (given : List Grant) (start base : Tuple) (held : List Holder) → AreFolded past given start base held → AreFolded past (given ++ g ∷ []) start base (held ++ alone g.access g.access g.op ∷ [])
folded_last past g given start base held (nothing is are) = nothing is (are_last past g [] given held are)
folded_last past g given start base held (folded h root is are) = folded h root is (are_last past g [] given (h ∷ held) are)

pub granted : (past : Past) (given : List Grant) (table : Table) (g : Grant) → g.rec < length table.held → TableFollows past given table
    → TableFollows past (given ++ g ∷ []) (granted_to table g.access g.rec g.op)
granted past given table g within follows = λ rec. elim (cases_Bool (g.rec == rec)) [
  | inl here ↦ subst (λ gs. AreFolded past gs (start_of table rec) (base_of table rec) (holders_of (granted_to table g.access g.rec g.op) rec)) (sym (filter-append (λ (x : Grant). x.rec == rec) given (g ∷ []) ∙ ap (λ b. filter (λ (x : Grant). x.rec == rec) given ++ cond b (g ∷ []) []) here))
      (subst (AreFolded past (filter (λ (x : Grant). x.rec == rec) given ++ g ∷ []) (start_of table rec) (base_of table rec)) (sym (there rec (eqb-true g.rec rec here))) (folded_last past g _ _ _ _ (follows rec)))
  | inr other ↦ subst (λ gs. AreFolded past gs (start_of table rec) (base_of table rec) (holders_of (granted_to table g.access g.rec g.op) rec)) (sym (filter-append (λ (x : Grant). x.rec == rec) given (g ∷ []) ∙ ap (λ b. filter (λ (x : Grant). x.rec == rec) given ++ cond b (g ∷ []) []) other ∙ append-nil (filter (λ (x : Grant). x.rec == rec) given)))
      (subst (AreFolded past (filter (λ (x : Grant). x.rec == rec) given) (start_of table rec) (base_of table rec)) (sym (elsewhere rec (λ is. true≢false (sym (eq-eqb g.rec rec is) ∙ other)))) (follows rec))
]
  where
    one : Holder
    one = alone g.access g.access g.op

    there : (rec : ℕ) → g.rec ≡ rec → holders_of (granted_to table g.access g.rec g.op) rec ≡ holders_of table rec ++ one ∷ []
    there rec is = subst (λ r. get_or (slice_set table.held g.rec (get_or table.held g.rec [] ++ one ∷ [])) r [] ≡ get_or table.held r [] ++ one ∷ []) is (get_or-set_same table.held g.rec (get_or table.held g.rec [] ++ one ∷ []) [] within)

    elsewhere : (rec : ℕ) → (g.rec ≡ rec → ⊥) → holders_of (granted_to table g.access g.rec g.op) rec ≡ holders_of table rec
    elsewhere rec other = get_or-set_other table.held g.rec rec (get_or table.held g.rec [] ++ one ∷ []) [] (λ is. other (sym is))

-- A RECORD THAT IS SETTLED

is_root_is : (n : Name) → is_root n ≡ true → n ≡ []
is_root_is [] h = refl
is_root_is (x ∷ n) h = absurd (true≢false (sym h))

folded_becomes : (past : Past) (given : List Grant) (start base : Tuple) (old mid : List Holder) → Becomes past old mid → AreFolded past given start base old → AreFolded past given start base mid
folded_becomes past given start base old mid turns (nothing is are) = nothing is (turns given [] are)
folded_becomes past given start base old mid turns (folded h root is are) = folded h root is (turns given (h ∷ []) are)

folds_first : (past : Past) (given : List Grant) (start base : Tuple) (mid : List Holder) → AreFolded past given start base mid → AreFolded past given start (folded_into base mid) (unfolded mid)
folds_first past given start base [] are = are
folds_first past given start base (m ∷ rest) are = by_test (is_root m.at) refl are
  where
    by_test : (b : Bool) → is_root m.at ≡ b → AreFolded past given start base (m ∷ rest) → AreFolded past given start (if b then effect base m else base) (if b then rest else m ∷ rest)
    by_test false is are' = are'
    by_test true is (nothing same are') = folded m (is_root_is m.at is) (ap (λ t. effect t m) same) are'
    by_test true is (folded h root same are') =
        folded (joined h m) root (ap (λ t. effect t m) same ∙ sym (both_effects start h m)) (join_one past [] rest h m (root ∙ sym (is_root_is m.at is)) given [] are')

pub settled_record : (past : Past) (given : List Grant) (start base : Tuple) (old mid : List Holder) → Becomes past old mid → AreFolded past given start base old → AreFolded past given start (folded_into base mid) (unfolded mid)
settled_record past given start base old mid turns are = folds_first past given start base mid (folded_becomes past given start base old mid turns are)

pub still_unfolded : (past : Past) (mid : List Holder) → All (HoldsStill past) mid → All (HoldsStill past) (unfolded mid)
still_unfolded past [] all = all
still_unfolded past (m ∷ rest) all = by_test (is_root m.at)
  where
    by_test : (b : Bool) → All (HoldsStill past) (if b then rest else m ∷ rest)
    by_test true = All-tail (HoldsStill past) m rest all
    by_test false = all

-- the table with one record's tuple and locks written
pub settles : (past : Past) (given : List Grant) (table : Table) (rec : ℕ) (base : Tuple) (held : List Holder) → rec < length table.base → rec < length table.held
    → ((gs : List Grant) → AreFolded past gs (start_of table rec) (base_of table rec) (holders_of table rec) → AreFolded past gs (start_of table rec) base held)
    → TableFollows past given table → TableFollows past given (record table { base = slice_set table.base rec base; held = slice_set table.held rec held })
settles past given table rec base held within_base within_held turns follows = λ r. elim (cases_Bool (rec == r)) [
  | inl here ↦ at_rec r (eqb-true rec r here)
  | inr other ↦ elsewhere r (λ is. true≢false (sym (eq-eqb rec r is) ∙ other))
]
  where
    at_rec : (r : ℕ) → rec ≡ r → AreFolded past (filter (λ (g : Grant). g.rec == r) given) (start_of table r) (get_or (slice_set table.base rec base) r no_tuple) (get_or (slice_set table.held rec held) r [])
    at_rec r is = subst (λ n. AreFolded past (filter (λ (g : Grant). g.rec == n) given) (start_of table n) (get_or (slice_set table.base rec base) n no_tuple) (get_or (slice_set table.held rec held) n [])) is
        (subst (λ b. AreFolded past (filter (λ (g : Grant). g.rec == rec) given) (start_of table rec) b (get_or (slice_set table.held rec held) rec [])) (sym (get_or-set_same table.base rec base no_tuple within_base))
        (subst (λ h. AreFolded past (filter (λ (g : Grant). g.rec == rec) given) (start_of table rec) base h) (sym (get_or-set_same table.held rec held [] within_held))
        (turns (filter (λ (g : Grant). g.rec == rec) given) (follows rec))))

    elsewhere : (r : ℕ) → (rec ≡ r → ⊥) → AreFolded past (filter (λ (g : Grant). g.rec == r) given) (start_of table r) (get_or (slice_set table.base rec base) r no_tuple) (get_or (slice_set table.held rec held) r [])
    elsewhere r other =
        subst (λ b. AreFolded past (filter (λ (g : Grant). g.rec == r) given) (start_of table r) b (get_or (slice_set table.held rec held) r [])) (sym (get_or-set_other table.base rec r base no_tuple (λ is. other (sym is))))
        (subst (λ h. AreFolded past (filter (λ (g : Grant). g.rec == r) given) (start_of table r) (base_of table r) h) (sym (get_or-set_other table.held rec r held [] (λ is. other (sym is)))) (follows r))
