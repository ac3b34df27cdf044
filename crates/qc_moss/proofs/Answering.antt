-- What a settled record's locks answer is what the definitions on histories say of its grants.
use Rattle.std.proofs.Common.{◌≡◌, ℕ, ◌⊎◌, Bool, true, false, List, [], ◌∷◌, refl, sym, ap, ◌∙◌, inl, inr, All, cond, subst}
use mathlib.Core.Bool.{true≢false}
use Rattle.std.specs.Prelude.{◌==◌, ◌&&◌, ◌||◌, not, Option, None, Some, is_some, is_none, find, filter, fold, if◌then◌else◌}
use Rattle.std.specs.Option.{option_map, option_or}
use Rattle.std.specs.List.{list_all}
use Rattle.std.proofs.lemmas.Bool.{cases_Bool, or_left, or_right, or_from, and_right}
use Rattle.std.proofs.lemmas.List.Elements.{All-head, All-tail, All-cons}
use Rattle.qc_names.specs.Name as name
use Rattle.qc_config.specs.declared.tuple.Tuple.{Tuple}
use Rattle.qc_config.specs.declared.tuple.Op.{Op}
use Rattle.qc_config.specs.declared.tuple.Op.TheVariants.{Get, PutData, PutConfig}
use Rattle.qc_config.specs.Tuple.{after}
use Rattle.qc_event.specs.declared.event.Grant.{Grant}
use Rattle.qc_event.specs.History.{Past, Name}
use Rattle.qc_event.specs.Clear.{clear, conflict, is_get}
use Rattle.qc_event.specs.Dead.{dead, outcome, is_committed, ancestors}
use Rattle.qc_event.specs.Seen.{changed_by, is_in_way, is_live_at}
use Rattle.qc_event.proofs.Histories.{or_first}
use Rattle.qc_moss.specs.declared.holder.Holder.{Holder}
use Rattle.qc_moss.specs.declared.holder.Put.{Put}
use Rattle.qc_moss.specs.declared.holder.Change.{Change}
use Rattle.qc_moss.specs.Locks.{Table, alone, joined, effect, with_put, with_change, in_way, first_in_way, holders_of, test_of, test_by, tuple_of, start_of, base_of}
use Rattle.qc_moss.specs.Follows.{IsAmong, IsInherited, AreOf, AreFolded, TableFollows, IsStill, HoldsStill, IsSettled}
use Rattle.qc_moss.specs.Follows.AreOf.{none, gone, kept, more, read}
use Rattle.qc_moss.specs.Follows.AreFolded.{nothing, folded}
use Rattle.qc_moss.proofs.Ancestry.{all_above, not_all_above, alive_if, alive_at, committed_lives}
use Rattle.qc_event.proofs.LastNumber.{ancestor_further}

-- whose holder lives is not dead
inherited_lives : (past : Past) (n at : Name) → IsInherited past n at → dead past at ≡ None → dead past n ≡ None
inherited_lives past n at inherited alive = alive_if past n (λ a up. elim (cases_Bool (name.is_ancestor a at)) [
  | inl above ↦ alive_at past a at above alive
  | inr below ↦ committed_lives (outcome past a) (inherited.committed a up below)
])

-- IN THE WAY

-- what an ancestor of a clear access is
abbrev out_of_way : Past → Name → Name → Bool
out_of_way past access c = name.is_ancestor c access || is_committed (outcome past c)

out_below : (past : Past) (n at access c : Name) → IsInherited past n at → name.is_ancestor at access ≡ true → name.is_ancestor c n ≡ true → out_of_way past access c ≡ true
out_below past n at access c inherited below up = elim (cases_Bool (name.is_ancestor c at)) [
  | inl above ↦ or_left _ _ (ancestor_further c at access above below)
  | inr under ↦ or_right _ _ (inherited.committed c up under)
]

holder_in_way : (past : Past) (at access : Name) → (at ≡ []) ⊎ (is_committed (outcome past at) ≡ false) → name.is_ancestor at access ≡ false → out_of_way past access at ≡ false
holder_in_way past at access (inl root) beside = absurd (true≢false (sym (ap (λ a. name.is_ancestor a access) root) ∙ beside))
holder_in_way past at access (inr open_) beside = or_from _ _ beside open_

-- an access is clear for whoever is below the lock's holder, and for nobody else
clear_by : (past : Past) (n at access : Name) → IsInherited past n at → IsStill past at → clear past n access ≡ name.is_ancestor at access
clear_by past n at access inherited still =
    ap (λ o. is_some o || list_all (out_of_way past access) (ancestors n)) (inherited_lives past n at inherited still.alive)
    ∙ elim (cases_Bool (name.is_ancestor at access)) [
      | inl below ↦ all_above (out_of_way past access) n (λ c up. out_below past n at access c inherited below up) ∙ sym below
      | inr beside ↦ not_all_above (out_of_way past access) n at inherited.above (holder_in_way past at access still.not_committed beside) ∙ sym beside
    ]

-- whether a grant is in the way, among those of the record
abbrev bars : Past → Op → Name → Grant → Bool
bars past op access g = conflict g.op op && not (clear past g.access access)

dead_out : (past : Past) (g : Grant) (op : Op) (access : Name) → is_some (dead past g.access) ≡ true → bars past op access g ≡ false
dead_out past g op access dies = and_right _ _ (ap not (or_left (is_some (dead past g.access)) _ dies))

-- the lock of one grant is in the way where the grant is
one_way : (past : Past) (g : Grant) (at access : Name) (op : Op) → clear past g.access access ≡ name.is_ancestor at access
    → in_way access (not (is_get op)) (alone g.access at g.op) ≡ cond (bars past op access g) (Some g.access) None
one_way past g at access op is = by_test (is_get g.op) (is_get op) (name.is_ancestor at access) ∙ ap (λ b. cond (conflict g.op op && not b) (Some g.access) None) (sym is)
  where
    by_test : (reads asks below : Bool) → (if below then None else if not asks then Some g.access else (if reads then None else Some g.access)) ≡ cond (not (reads && asks) && not below) (Some g.access) None
    by_test true true true = refl
    by_test true true false = refl
    by_test true false true = refl
    by_test true false false = refl
    by_test false true true = refl
    by_test false true false = refl
    by_test false false true = refl
    by_test false false false = refl

-- the first in the way under two locks that are one
both_ways : (access : Name) (write : Bool) (a b : Holder) → a.at ≡ b.at → in_way access write (joined a b) ≡ option_or (in_way access write a) (in_way access write b)
both_ways access write a b same = by_test (name.is_ancestor a.at access) write ∙ ap (λ n. option_or (in_way access write a) (if name.is_ancestor n access then None else if write then Some b.first else b.writer)) same
  where
    by_test : (below asks : Bool) → (if below then None else if asks then Some a.first else option_or a.writer b.writer) ≡ option_or (if below then None else if asks then Some a.first else a.writer) (if below then None else if asks then Some b.first else b.writer)
    by_test true asks = refl
    by_test false true = refl
    by_test false false = refl

-- who holds a lock before is in no write's way, and holds still
record AreAbove (past : Past) (op : Op) (access : Name) (before : List Name) : Type 0 where
  pub still : (n : Name) → IsAmong n before → IsStill past n
  pub above : is_get op ≡ false → (n : Name) → IsAmong n before → name.is_ancestor n access ≡ true

one_above : (past : Past) (op : Op) (access at : Name) (before : List Name) → IsStill past at → (is_get op ≡ false → name.is_ancestor at access ≡ true) → AreAbove past op access before → AreAbove past op access (at ∷ before)
one_above past op access at before still above all = record {
  still = λ n there. first_still n there;
  above = λ writes n there. first_above writes n there;
}
  where
    first_still : (n : Name) → (n ≡ at) ⊎ IsAmong n before → IsStill past n
    first_still n (inl is) = subst (IsStill past) (sym is) still
    first_still n (inr there) = all.still n there

    first_above : is_get op ≡ false → (n : Name) → (n ≡ at) ⊎ IsAmong n before → name.is_ancestor n access ≡ true
    first_above writes n (inl is) = ap (λ x. name.is_ancestor x access) is ∙ above writes
    first_above writes n (inr there) = all.above writes n there

-- a lock that is in the way, or the first of the others where it is not
found_or : (past : Past) (op : Op) (g : Grant) (at access : Name) (o : Option Name) (p : Option Grant) → clear past g.access access ≡ name.is_ancestor at access
    → ((is_get op ≡ false → name.is_ancestor at access ≡ true) → o ≡ option_map (λ (x : Grant). x.access) p)
    → option_or (in_way access (not (is_get op)) (alone g.access at g.op)) o ≡ option_map (λ (x : Grant). x.access) (cond (bars past op access g) (Some g) p)
found_or past op g at access o p is rest =
    ap (λ x. option_or x o) (one_way past g at access op is)
    ∙ subst (λ c. option_or (cond (conflict g.op op && not c) (Some g.access) None) o ≡ option_map (λ (x : Grant). x.access) (cond (conflict g.op op && not c) (Some g) p)) (sym is)
    (by_test (is_get g.op) (is_get op) (name.is_ancestor at access) rest)
  where
    by_test : (reads asks below : Bool) → ((asks ≡ false → below ≡ true) → o ≡ option_map (λ (x : Grant). x.access) p)
        → option_or (cond (not (reads && asks) && not below) (Some g.access) None) o ≡ option_map (λ (x : Grant). x.access) (cond (not (reads && asks) && not below) (Some g) p)
    by_test true true true others = others (λ _. refl)
    by_test true true false others = others (λ no. absurd (true≢false no))
    by_test true false true others = others (λ _. refl)
    by_test true false false others = refl
    by_test false true true others = others (λ _. refl)
    by_test false true false others = refl
    by_test false false true others = others (λ _. refl)
    by_test false false false others = refl

-- a read that is under a lock from before is in the way of no one whom that lock lets pass
read_passes : (past : Past) (op : Op) (g : Grant) (at access : Name) → is_get g.op ≡ true → clear past g.access access ≡ name.is_ancestor at access → (is_get op ≡ false → name.is_ancestor at access ≡ true) → bars past op access g ≡ false
read_passes past op g at access gets is above = by_test (is_get op) refl
  where
    by_test : (asks : Bool) → is_get op ≡ asks → bars past op access g ≡ false
    by_test true reads = ap (λ r. not (r && is_get op) && not (clear past g.access access)) gets ∙ ap (λ r. not r && not (clear past g.access access)) reads
    by_test false writes = and_right _ _ (ap not (is ∙ above writes))

same_first : (past : Past) (op : Op) (access : Name) (before : List Name) (given : List Grant) (held : List Holder) → AreOf past before given held → AreAbove past op access before → All (HoldsStill past) held
    → first_in_way access (not (is_get op)) held ≡ option_map (λ (g : Grant). g.access) (find (bars past op access) given)
same_first past op access _ _ _ (none before) above still = refl
same_first past op access _ _ _ (gone before g given held dies rest) above still =
    same_first past op access before given held rest above still
    ∙ ap (λ b. option_map (λ (x : Grant). x.access) (cond b (Some g) (find (bars past op access) given))) (sym (dead_out past g op access dies))
same_first past op access _ _ _ (kept before g at given held i rest) above still =
    let head : IsStill past at = All-head (HoldsStill past) (alone g.access at g.op) held still in
    found_or past op g at access _ _ (clear_by past g.access at access i head) (λ passes.
    same_first past op access (at ∷ before) given held rest (one_above past op access at before head passes above) (All-tail (HoldsStill past) (alone g.access at g.op) held still))
same_first past op access _ _ _ (more before g h given held i rest) above still =
    let one = alone g.access h.at g.op in
    let head : IsStill past h.at = All-head (HoldsStill past) (joined one h) held still in
    ap (λ o. option_or o (first_in_way access (not (is_get op)) held)) (both_ways access (not (is_get op)) one h refl)
    ∙ or_first (in_way access (not (is_get op)) one) (in_way access (not (is_get op)) h) (first_in_way access (not (is_get op)) held)
    ∙ found_or past op g h.at access (first_in_way access (not (is_get op)) (h ∷ held)) _ (clear_by past g.access h.at access i head) (λ passes.
    same_first past op access (h.at ∷ before) given (h ∷ held) rest (one_above past op access h.at before head passes above) (All-cons (HoldsStill past) h held head (All-tail (HoldsStill past) (joined one h) held still)))
same_first past op access _ _ _ (read before g at given held gets among i rest) above still =
    same_first past op access before given held rest above still
    ∙ ap (λ b. option_map (λ (x : Grant). x.access) (cond b (Some g) (find (bars past op access) given)))
    (sym (read_passes past op g at access gets (clear_by past g.access at access i (above.still at among)) (λ writes. above.above writes at among)))

find-filter : {X : Type 0} (p q both : X → Bool) → ((x : X) → both x ≡ (q x && p x)) → (xs : List X) → find p (filter q xs) ≡ find both xs
find-filter p q both says [] = refl
find-filter p q both says (x ∷ xs) = by_test (q x) (find-filter p q both says xs) ∙ ap (λ b. cond b (Some x) (find both xs)) (sym (says x))
  where
    by_test : (b : Bool) → find p (filter q xs) ≡ find both xs → find p (cond b (x ∷ filter q xs) (filter q xs)) ≡ cond (b && p x) (Some x) (find both xs)
    by_test true rest = ap (λ o. cond (p x) (Some x) o) rest
    by_test false rest = rest

grouped : (a b c : Bool) → ((a && b) && c) ≡ (a && (b && c))
grouped true b c = refl
grouped false b c = refl

-- nobody holds one before
nobody : (past : Past) (op : Op) (access : Name) → AreAbove past op access []
nobody past op access = record { still = λ n no. absurd no; above = λ writes n no. absurd no }

-- a folded lock holds still where the root lives
root_still : (past : Past) (h : Holder) → h.at ≡ [] → dead past [] ≡ None → HoldsStill past h
root_still past h root alive = record { alive = ap (dead past) root ∙ alive; not_committed = inl root }

folded_first : (past : Past) (op : Op) (access : Name) (given : List Grant) (start base : Tuple) (held : List Holder) → AreFolded past given start base held → All (HoldsStill past) held → dead past [] ≡ None
    → first_in_way access (not (is_get op)) held ≡ option_map (λ (g : Grant). g.access) (find (bars past op access) given)
folded_first past op access given start base held (nothing is are) still alive = same_first past op access [] given held are (nobody past op access) still
folded_first past op access given start base held (folded h root is are) still alive =
    ap (λ n. option_or (if name.is_ancestor n access then None else if not (is_get op) then Some h.first else h.writer) (first_in_way access (not (is_get op)) held)) (sym root)
    ∙ same_first past op access [] given (h ∷ held) are (nobody past op access) (All-cons (HoldsStill past) h held (root_still past h root alive) still)

pub free : (past : Past) (given : List Grant) (table : Table) (access : Name) (rec : ℕ) (op : Op) → TableFollows past given table → IsSettled past table rec → dead past [] ≡ None
    → test_of table access rec (not (is_get op)) ≡ test_by (option_map (λ (g : Grant). g.access) (find (is_in_way past rec op access) given))
free past given table access rec op follows settled alive =
    let here : Grant → Bool = λ g. g.rec == rec in
    ap test_by (folded_first past op access (filter here given) (start_of table rec) (base_of table rec) (holders_of table rec) (follows rec) settled alive
    ∙ ap (option_map (λ (g : Grant). g.access)) (find-filter (bars past op access) here (is_in_way past rec op access) (λ g. grouped (g.rec == rec) (conflict g.op op) (not (clear past g.access access))) given))

-- WHAT THE COPY HOLDS

abbrev lives : Past → Grant → Bool
lives past g = is_none (dead past g.access)

one_effect : (t : Tuple) (access at : Name) (op : Op) → effect t (alone access at op) ≡ after t op
one_effect t access at Get = refl
one_effect t access at (PutData version value) = refl
one_effect t access at (PutConfig generation config) = refl

pub both_effects : (t : Tuple) (a b : Holder) → effect t (joined a b) ≡ effect (effect t a) b
both_effects t a b = by_case a.put b.put a.change b.change
  where
    by_case : (p q : Option Put) (c d : Option Change) → with_change (option_or d c) (with_put (option_or q p) t) ≡ with_change d (with_put q (with_change c (with_put p t)))
    by_case None None None None = refl
    by_case None None None (Some d) = refl
    by_case None None (Some c) None = refl
    by_case None None (Some c) (Some d) = refl
    by_case None (Some q) None None = refl
    by_case None (Some q) None (Some d) = refl
    by_case None (Some q) (Some c) None = refl
    by_case None (Some q) (Some c) (Some d) = refl
    by_case (Some p) None None None = refl
    by_case (Some p) None None (Some d) = refl
    by_case (Some p) None (Some c) None = refl
    by_case (Some p) None (Some c) (Some d) = refl
    by_case (Some p) (Some q) None None = refl
    by_case (Some p) (Some q) None (Some d) = refl
    by_case (Some p) (Some q) (Some c) None = refl
    by_case (Some p) (Some q) (Some c) (Some d) = refl

pub after_read : (t : Tuple) (op : Op) → is_get op ≡ true → after t op ≡ t
after_read t Get gets = refl
after_read t (PutData version value) gets = absurd (true≢false (sym gets))
after_read t (PutConfig generation config) gets = absurd (true≢false (sym gets))

changed_same : (past : Past) (tuple : Tuple) (before : List Name) (given : List Grant) (held : List Holder) → AreOf past before given held → All (HoldsStill past) held
    → fold effect tuple held ≡ changed_by tuple (filter (lives past) given)
changed_same past tuple _ _ _ (none before) still = refl
changed_same past tuple _ _ _ (gone before g given held dies rest) still =
    changed_same past tuple before given held rest still
    ∙ ap (λ b. changed_by tuple (cond b (g ∷ filter (lives past) given) (filter (lives past) given))) (sym (none_lives (dead past g.access) dies))
  where
    none_lives : (o : Option Name) → is_some o ≡ true → is_none o ≡ false
    none_lives None h = absurd (true≢false (sym h))
    none_lives (Some x) h = refl
changed_same past tuple _ _ _ (kept before g at given held i rest) still =
    let head : IsStill past at = All-head (HoldsStill past) (alone g.access at g.op) held still in
    changed_same past (effect tuple (alone g.access at g.op)) (at ∷ before) given held rest (All-tail (HoldsStill past) (alone g.access at g.op) held still)
    ∙ ap (λ t. changed_by t (filter (lives past) given)) (one_effect tuple g.access at g.op)
    ∙ ap (λ o. changed_by tuple (cond (is_none o) (g ∷ filter (lives past) given) (filter (lives past) given))) (sym (inherited_lives past g.access at i head.alive))
changed_same past tuple _ _ _ (more before g h given held i rest) still =
    let one = alone g.access h.at g.op in
    let head : IsStill past h.at = All-head (HoldsStill past) (joined one h) held still in
    ap (λ t. fold effect t held) (both_effects tuple one h)
    ∙ changed_same past (effect tuple one) (h.at ∷ before) given (h ∷ held) rest (All-cons (HoldsStill past) h held head (All-tail (HoldsStill past) (joined one h) held still))
    ∙ ap (λ t. changed_by t (filter (lives past) given)) (one_effect tuple g.access h.at g.op)
    ∙ ap (λ o. changed_by tuple (cond (is_none o) (g ∷ filter (lives past) given) (filter (lives past) given))) (sym (inherited_lives past g.access h.at i head.alive))
changed_same past tuple _ _ _ (read before g at given held gets among i rest) still =
    changed_same past tuple before given held rest still ∙ by_live (lives past g)
  where
    by_live : (b : Bool) → changed_by tuple (filter (lives past) given) ≡ changed_by tuple (cond b (g ∷ filter (lives past) given) (filter (lives past) given))
    by_live true = ap (λ t. changed_by t (filter (lives past) given)) (sym (after_read tuple g.op gets))
    by_live false = refl

filter-filter : {X : Type 0} (p q : X → Bool) (xs : List X) → filter p (filter q xs) ≡ filter (λ x. q x && p x) xs
filter-filter p q [] = refl
filter-filter p q (x ∷ xs) = by_test (q x) (filter-filter p q xs)
  where
    by_test : (b : Bool) → filter p (filter q xs) ≡ filter (λ y. q y && p y) xs → filter p (cond b (x ∷ filter q xs) (filter q xs)) ≡ cond (b && p x) (x ∷ filter (λ y. q y && p y) xs) (filter (λ y. q y && p y) xs)
    by_test true rest = ap (λ ys. cond (p x) (x ∷ ys) ys) rest
    by_test false rest = rest

folded_same : (past : Past) (given : List Grant) (start base : Tuple) (held : List Holder) → AreFolded past given start base held → All (HoldsStill past) held → dead past [] ≡ None
    → fold effect base held ≡ changed_by start (filter (lives past) given)
folded_same past given start base held (nothing is are) still alive = ap (λ t. fold effect t held) is ∙ changed_same past start [] given held are still
folded_same past given start base held (folded h root is are) still alive = ap (λ t. fold effect t held) is ∙ changed_same past start [] given (h ∷ held) are (All-cons (HoldsStill past) h held (root_still past h root alive) still)

pub tuple : (past : Past) (given : List Grant) (table : Table) (rec : ℕ) → TableFollows past given table → IsSettled past table rec → dead past [] ≡ None
    → tuple_of table rec ≡ changed_by (start_of table rec) (filter (is_live_at past rec) given)
tuple past given table rec follows settled alive =
    folded_same past (filter (λ (g : Grant). g.rec == rec) given) (start_of table rec) (base_of table rec) (holders_of table rec) (follows rec) settled alive
    ∙ ap (changed_by (start_of table rec)) (filter-filter (lives past) (λ (g : Grant). g.rec == rec) given)
