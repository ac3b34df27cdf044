-- Each step keeps the rule of the desk.
use Rattle.std.proofs.Common.{◌≡◌, ◌≢◌, ◌⊎◌, ℕ, zero, suc, ◌+◌, ◌<◌, ◌≤◌, ◌==◌, Bool, true, false, List, [], ◌∷◌, ◌++◌, length, set, Some, None, Option, refl, sym, ap, ◌∙◌, subst, inl, inr, ⊎_elim, true≢false, arith, eq-eqb}
use Rattle.std.specs.Prelude.{slice_index, slice_set}
use mathlib.Core.Option.{some, none, some-ne-none, some-injective}
use lib.ListN.{get_elem?}
use prog.Atomic.{either}
use Rattle.atomic_table.specs.Table.{step, keeps, Allows, Splits, Joins}
use Rattle.atomic_table.proofs.Lists.{at_set, at_longer, set_again}
use Rattle.qc_event.specs.declared.event.Entry.{Entry}
use Rattle.qc_event.specs.Seats.{client_seat}
use Rattle.qc_desk.specs.declared.view.View.{View}
use Rattle.qc_desk.specs.Entries.{entries_of, IsOlder}
use Rattle.qc_desk.specs.Rules.{Role, nobody_yet, held, kin_of, ruler, note, spent, with_right, first_of_all, lent, returned, right_of, looked, posted, taken, noted, Has, IsHolder, IsKinHolder, Fits, Kept, Posts, Takes, Looks}
use Rattle.qc_desk.proofs.Apart.{one_apart}
use Rattle.qc_desk.proofs.Having.{has_none}
use Rattle.qc_desk.proofs.Lists.{prefix_self, prefix_nil, prefix_more, entries_here, entries_else}

abbrev pub Eq : (A : Type 0) → A → A → Type 0
Eq A x y = x ≡ y

pub off : false ≡ true → ⊥
off e = true≢false (sym e)

pub no_some : (x : ℕ) → Eq (Option ℕ) None (Some x) → ⊥
no_some x e = absurd (cc (e))

pub apart : (i j : ℕ) → held i ≡ held j → i ≡ j
apart i j e = cc (e)

-- a property of each view, after one changed
pub set_each : (P Q : ℕ → View → Type 0) (views : List View) (id : ℕ) (w : View) → ((by : ℕ) (v : View) → get_elem? views by ≡ some v → P by v)
    → ((by : ℕ) (v : View) → by ≢ id → get_elem? views by ≡ some v → P by v → Q by v) → Q id w → (by : ℕ) (v : View) → get_elem? (set views id w) by ≡ some v → Q by v
set_each P Q views id w all others here by v e =
    ⊎_elim
    (λ (t : (by ≡ id) × (w ≡ v)). subst (λ (x : ℕ × View). Q x.0 x.1) (λ i. (sym t.0 i, t.1 i)) here)
    (λ (t : (by ≢ id) × (get_elem? views by ≡ some v)). others by v t.0 t.1 (all by v t.1))
    (at_set views id by w v e)

-- where a new view stands
pub snoc_at : (views : List View) (w v : View) (by : ℕ) → get_elem? (views ++ w ∷ []) by ≡ some v → ((get_elem? views by ≡ some v) × (by < length views)) ⊎ ((by ≡ length views) × (w ≡ v))
snoc_at [] w v zero e = inr (refl, some-injective w v e)
snoc_at [] w v (suc by) e = absurd (some-ne-none v (sym e))
snoc_at (x ∷ xs) w v zero e = inl (e, omega arith)
snoc_at (x ∷ xs) w v (suc by) e = ⊎_elim (λ t. inl (t.0, omega (arith, t.1))) (λ t. inr (omega (arith, t.0), t.1)) (snoc_at xs w v by e)

pub snoc_each : (Q : ℕ → View → Type 0) (views : List View) (w : View) → ((by : ℕ) (v : View) → get_elem? views by ≡ some v → Q by v) → Q (length views) w → (by : ℕ) (v : View) → get_elem? (views ++ w ∷ []) by ≡ some v → Q by v
snoc_each Q views w all here by v e =
    ⊎_elim (λ t. all by v t.0) (λ (t : (by ≡ length views) × (w ≡ v)). subst (λ (x : ℕ × View). Q x.0 x.1) (λ i. (sym t.0 i, t.1 i)) here) (snoc_at views w v by e)

-- a view stays, or it was the one that changed
pub at_kept : {A : Type 0} (views : List A) (id by : ℕ) (v w u : A) → get_elem? views id ≡ some v → get_elem? views by ≡ some u
    → (u' : A) × (get_elem? (set views id w) by ≡ some u') × (((u' ≡ w) × (u ≡ v)) ⊎ (u' ≡ u))
at_kept [] id by v w u e f = absurd (some-ne-none v (sym e))
at_kept (x ∷ xs) zero zero v w u e f = (w, refl, inl (refl, sym (some-injective x u f) ∙ some-injective x v e))
at_kept (x ∷ xs) zero (suc by) v w u e f = (u, f, inr refl)
at_kept (x ∷ xs) (suc id) zero v w u e f = (x, refl, inr (some-injective x u f))
at_kept (x ∷ xs) (suc id) (suc by) v w u e f = at_kept xs id by v w u e f

abbrev pub More : View → View → Type 0
More u w = (w.live ≡ true) × (w.number ≡ u.number) × ((k : ℕ) → Has u.out k → Has w.out k) × ((x : ℕ × List Entry) → Has u.kin x → Has w.kin x)

-- the view w has the number of v, and more out and more kin
abbrev pub Grows : View → View → Type 0
Grows v w = v.live ≡ true → More v w

-- what becomes of a live view where one view grows
pub grown : (views : List View) (id : ℕ) (v w : View) → get_elem? views id ≡ some v → Grows v w → (by : ℕ) (u : View) → get_elem? views by ≡ some u → u.live ≡ true
    → (u' : View) × (get_elem? (set views id w) by ≡ some u') × More u u'
grown views id v w at grows by u e live =
    let k = at_kept views id by v w u at e in (
      k.0,
      k.1,
      ⊎_elim
          (λ (p : (k.0 ≡ w) × (u ≡ v)). subst (λ (x : View × View). More x.1 x.0) (λ i. (sym p.0 i, sym p.1 i)) (grows (ap (λ (x : View). x.live) (sym p.1) ∙ live)))
          (λ (p : k.0 ≡ u). subst (λ (x : View). More u x) (sym p) (live, refl, (λ n h. h), λ y h. h))
          k.2,
    )

pub holder_set : (views : List View) (id : ℕ) (v w : View) (k by : ℕ) → get_elem? views id ≡ some v → Grows v w → IsHolder views k by → IsHolder (set views id w) k by
holder_set views id v w k by at grows h =
    let g = grown views id v w at grows by h.0 h.1 h.2 in (
      g.0,
      g.1,
      g.2.0,
      g.2.1 ∙ h.3,
      λ l. let p = h.4 l in let q = grown views id v w at grows p.0 p.1 p.2 p.3 in (p.0, q.0, q.1, q.2.0, subst (λ (n : ℕ). n < k) (sym q.2.1) p.4, q.2.2 k p.5),
    )

pub kin_set : (views : List View) (id : ℕ) (v w : View) (k by : ℕ) → get_elem? views id ≡ some v → Grows v w → IsKinHolder views k by → IsKinHolder (set views id w) k by
kin_set views id v w k by at grows h = let g = grown views id v w at grows by h.0 h.1 h.2 in (g.0, g.1, g.2.0, h.3, g.2.3 (k, h.3) h.4)

pub holder_snoc : (views : List View) (w : View) (k by : ℕ) → IsHolder views k by → IsHolder (views ++ w ∷ []) k by
holder_snoc views w k by h = (h.0, at_longer views (w ∷ []) by h.0 h.1, h.2, h.3, λ l. let p = h.4 l in (p.0, p.1, at_longer views (w ∷ []) p.0 p.1 p.2, p.3, p.4, p.5))

pub kin_snoc : (views : List View) (w : View) (k by : ℕ) → IsKinHolder views k by → IsKinHolder (views ++ w ∷ []) k by
kin_snoc views w k by h = (h.0, at_longer views (w ∷ []) by h.0 h.1, h.2, h.3, h.4)

pub fits_spent : (log : List Entry) (role : ℕ → Role) (by : ℕ) → Fits log role by spent
fits_spent log role by = record { prefix = prefix_nil log; whole = λ e. absurd (off e); holds = λ e. absurd (off e); mine = λ e. absurd (off e); landed = λ _. refl; draws = λ k e. absurd (no_some k e); kin = λ k m h. absurd (has_none (k, m) h); low = λ e. absurd (off e); count = λ e. absurd (off e); apart = λ e. absurd (off e); out = λ k h. absurd (has_none k h) }

pub fits_note : (log seen : List Entry) (role : ℕ → Role) (by : ℕ) → IsOlder seen log → Fits log role by (note seen)
fits_note log seen role by p = record { prefix = p; whole = λ e. absurd (off e); holds = λ e. absurd (off e); mine = λ e. absurd (off e); landed = λ _. refl; draws = λ k e. absurd (no_some k e); kin = λ k m h. absurd (has_none (k, m) h); low = λ e. absurd (off e); count = λ e. absurd (off e); apart = λ e. absurd (off e); out = λ k h. absurd (has_none k h) }

pub fits_ruler : (log : List Entry) (role : ℕ → Role) (by : ℕ) → Fits log role by (ruler log)
fits_ruler log role by = record { prefix = prefix_nil log; whole = λ _. refl; holds = λ e. absurd (off e); mine = λ e. absurd (off e); landed = λ _. refl; draws = λ k e. absurd (no_some k e); kin = λ k m h. absurd (has_none (k, m) h); low = λ e. absurd (off e); count = λ e. absurd (off e); apart = λ e. absurd (off e); out = λ k h. absurd (has_none k h) }

-- the right may change
pub fits_right : (log all : List Entry) (role : ℕ → Role) (by : ℕ) (rules : Bool) (v : View) → (rules ≡ true → all ≡ log) → (rules ≡ false → v.flight ≡ []) → Fits log role by v → Fits log role by (with_right rules all v)
fits_right log all role by rules v q n f = record { prefix = f.prefix; whole = q; holds = f.holds; mine = f.mine; landed = n; draws = f.draws; kin = f.kin; low = f.low; count = f.count; apart = f.apart; out = f.out }

pub begins : Kept record { words = 0 ∷ client_seat ∷ []; homes = []; views = first_of_all ∷ [] }
begins = ([], role, 0, client_seat, record { cells = refl; each = one; one = only; quiet = λ k e. refl; undrawn = λ k by e. refl; holder = holders; kin_holder = kins; fresh = fresh; high = omega arith })
  where
    role : ℕ → Role
    role zero = held 0
    role (suc k) = nobody_yet

    fresh : (k : ℕ) → client_seat ≤ k → 17 < k → role k ≡ nobody_yet
    fresh zero h l = absurd (omega arith)
    fresh (suc k) h l = refl

    counts : (k : ℕ) → 0 < k → k ≤ 17 → role k ≡ nobody_yet
    counts zero h l = absurd (omega arith)
    counts (suc k) h l = refl

    one : (by : ℕ) (v : View) → get_elem? (first_of_all ∷ []) by ≡ some v → Fits [] role by v
    one zero v e = subst (Fits [] role 0) (some-injective first_of_all v e) record { prefix = prefix_nil []; whole = λ _. refl; holds = λ _. refl; mine = λ _. refl; landed = λ _. refl; draws = λ k d. absurd (no_some k d); kin = λ k m h. absurd (has_none (k, m) h); low = λ _ l. absurd (omega arith); count = λ _ _ k. counts k; apart = λ _. one_apart 0; out = λ k h. absurd (has_none k h) }
    one (suc by) v e = absurd (some-ne-none v (sym e))

    holders : (k by : ℕ) → role k ≡ held by → IsHolder (first_of_all ∷ []) k by
    holders zero by e = subst (IsHolder (first_of_all ∷ []) 0) (apart 0 by e) (first_of_all, refl, refl, refl, λ h. absurd (omega arith))
    holders (suc k) by e = absurd (cc (e))

    kins : (k by : ℕ) → role k ≡ kin_of by → IsKinHolder (first_of_all ∷ []) k by
    kins zero by e = absurd (cc (e))
    kins (suc k) by e = absurd (cc (e))

    only : (by : ℕ) (v : View) → get_elem? (first_of_all ∷ []) by ≡ some v → v.rules ≡ true → by ≡ 0
    only zero v e r = refl
    only (suc by) v e r = absurd (some-ne-none v (sym e))

-- the pass with the right appends an entry under its number
pub posts : (slots id : ℕ) (v : View) (c : List (ℕ × Entry)) (e : Entry) → v.rules ≡ true → v.live ≡ true → e.seat ≡ v.number
    → Allows Kept slots id (v, c) 0 (λ n. either (n == length v.all) (length v.all + 1) n) (Posts (step slots 0 (length v.all) (length v.all + 1) (some e)) (v, c))
posts slots id v c e rules live is s h few at range =
    let log = h.0 in
    let role = h.1 in
    let k = h.4 in
    let mine = k.each id v at in
    let whole = mine.whole rules in
    let w = posted e v in
    let log' = e ∷ log in
    let ours : role e.seat ≡ held id = ap role is ∙ mine.holds live in
    let other : (n : ℕ) → (role n ≡ held id → ⊥) → entries_of n log' ≡ entries_of n log = λ n no. entries_else n e log (λ same. no (ap role (sym same) ∙ ours)) in
    let cells : slice_set s.words 0 (either (slice_index s.words 0 == length v.all) (length v.all + 1) (slice_index s.words 0)) ≡ length log' ∷ h.3 ∷ [] = counted_up s.words log v.all h.3 e k.cells whole in (
      w,
      keeps,
      tt,
      (
        log',
        role,
        h.2,
        h.3,
        record {
          cells = cells;
          each = set_each (Fits log role) (Fits log' role) s.views id w k.each
              (λ by u ne there f. record {
                prefix = prefix_more u.seen log e f.prefix;
                whole = λ r. absurd (ne (k.one by u there r ∙ sym (k.one id v at rules)));
                holds = f.holds;
                mine = λ l. other u.number (λ x. ne (apart by id (sym (f.holds l) ∙ x))) ∙ f.mine l;
                landed = f.landed;
                draws = f.draws;
                kin = λ n m x. ((f.kin n m x).0, other n (λ y. absurd (cc ((f.kin n m x).0, y))) ∙ (f.kin n m x).1);
                low = f.low;
                count = f.count;
                apart = f.apart;
                out = f.out;
              })
              record {
                prefix = prefix_more v.seen log e mine.prefix;
                whole = λ _. ap (λ (x : List Entry). e ∷ x) whole;
                holds = mine.holds;
                mine = λ l. ap (λ n. entries_of n log') (sym is) ∙ entries_here e log ∙ ap (λ n. e ∷ entries_of n log) is ∙ ap (λ (x : List Entry). e ∷ x) (mine.mine l);
                landed = λ x. absurd (off (sym x ∙ rules));
                draws = mine.draws;
                kin = λ n m x. ((mine.kin n m x).0, other n (λ y. absurd (cc ((mine.kin n m x).0, y))) ∙ (mine.kin n m x).1);
                low = mine.low;
                count = mine.count;
                apart = mine.apart;
                out = mine.out;
              };
          one = set_each (λ by u. u.rules ≡ true → by ≡ h.2) (λ by u. u.rules ≡ true → by ≡ h.2) s.views id w k.one (λ by u ne there f. f) (λ _. k.one id v at rules);
          quiet = λ n q. other n (λ x. absurd (cc (q, x))) ∙ k.quiet n q;
          undrawn = λ n by q. other n (λ x. absurd (cc (q, x))) ∙ k.undrawn n by q;
          holder = λ n by q. holder_set s.views id v w n by at (λ l. (l, refl, (λ x o. o), λ x o. o)) (k.holder n by q);
          kin_holder = λ n by q. kin_set s.views id v w n by at (λ l. (l, refl, (λ x o. o), λ x o. o)) (k.kin_holder n by q);
          fresh = k.fresh;
          high = k.high;
        },
      ),
      (e, refl, refl),
    )
  where
    counted_up : (ws : List ℕ) (log seen : List Entry) (next : ℕ) (e : Entry) → ws ≡ length log ∷ next ∷ [] → seen ≡ log
        → slice_set ws 0 (either (slice_index ws 0 == length seen) (length seen + 1) (slice_index ws 0)) ≡ length (e ∷ log) ∷ next ∷ []
    counted_up ws log seen next e cells same =
        let hit : (length log == length seen) ≡ true = eq-eqb (length log) (length seen) (ap length (sym same)) in
        let grown : length seen + 1 ≡ length (e ∷ log) = omega (arith, ap length same) in
        rw cells (rw hit (ap (λ (n : ℕ). n ∷ next ∷ []) grown))

-- the right is cut off from the seat that had it
pub cuts : (id : ℕ) (log : List Entry) → Splits Kept id (ruler log) spent (ruler log)
cuts id log s h at =
    let k = h.4 in
    let mine = k.each id (ruler log) at in
    let whole : log ≡ h.0 = mine.whole refl in
    let views = set s.views id spent in (
      h.0,
      h.1,
      length views,
      h.3,
      record {
        cells = k.cells;
        each = snoc_each (Fits h.0 h.1) views (ruler log) (set_each (Fits h.0 h.1) (Fits h.0 h.1) s.views id spent k.each (λ by u ne there f. f) (fits_spent h.0 h.1 id))
            (subst (λ (x : List Entry). Fits h.0 h.1 (length views) (ruler x)) (sym whole) (fits_ruler h.0 h.1 (length views)));
        one = snoc_each (λ by u. u.rules ≡ true → by ≡ length views) views (ruler log)
            (set_each (λ by u. u.rules ≡ true → by ≡ h.2) (λ by u. u.rules ≡ true → by ≡ length views) s.views id spent k.one (λ by u ne there f r. absurd (ne (f r ∙ sym (k.one id (ruler log) at refl)))) (λ e. absurd (off e)))
            (λ _. refl);
        quiet = k.quiet;
        undrawn = k.undrawn;
        holder = λ n by q. holder_snoc views (ruler log) n by (holder_set s.views id (ruler log) spent n by at (λ l. absurd (off l)) (k.holder n by q));
        kin_holder = λ n by q. kin_snoc views (ruler log) n by (kin_set s.views id (ruler log) spent n by at (λ l. absurd (off l)) (k.kin_holder n by q));
        fresh = k.fresh;
        high = k.high;
      },
    )

-- a pass is lent the right
pub lends : (id : ℕ) (v : View) (other : ℕ) (log : List Entry) → Joins Kept id v other (ruler log) (lent v (ruler log)) spent
lends id v other log s h at ne there =
    let k = h.4 in
    let both = lent v (ruler log) in
    let was : get_elem? s.views other ≡ some (ruler log) = ⊎_elim (λ (t : (other ≡ id) × (both ≡ ruler log)). absurd (ne t.0)) (λ (t : (other ≢ id) × (get_elem? s.views other ≡ some (ruler log))). t.1) (at_set s.views id other both (ruler log) there) in
    let mine = k.each id v at in
    let whole : log ≡ h.0 = (k.each other (ruler log) was).whole refl in (
      h.0,
      h.1,
      id,
      h.3,
      record {
        cells = k.cells;
        each = set_each (Fits h.0 h.1) (Fits h.0 h.1) (set s.views id both) other spent
            (set_each (Fits h.0 h.1) (Fits h.0 h.1) s.views id both k.each (λ by u _ _ f. f)
            (fits_right h.0 log h.1 id true v (λ _. whole) (λ e. absurd (off (sym e))) mine))
            (λ by u _ _ f. f) (fits_spent h.0 h.1 other);
        one = set_each (λ by u. u.rules ≡ true → (by ≡ id) ⊎ (by ≡ other)) (λ by u. u.rules ≡ true → by ≡ id) (set s.views id both) other spent
            (set_each (λ by u. u.rules ≡ true → by ≡ h.2) (λ by u. u.rules ≡ true → (by ≡ id) ⊎ (by ≡ other)) s.views id both k.one (λ by u _ _ f r. inr (f r ∙ sym (k.one other (ruler log) was refl))) (λ _. inl refl))
            (λ by u no _ f r. ⊎_elim (λ x. x) (λ x. absurd (no x)) (f r)) (λ e. absurd (off e));
        quiet = k.quiet;
        undrawn = k.undrawn;
        holder = λ n by q. holder_set (set s.views id both) other (ruler log) spent n by there (λ l. absurd (off l)) (holder_set s.views id v both n by at (λ l. (l, refl, (λ x o. o), λ x o. o)) (k.holder n by q));
        kin_holder = λ n by q. kin_set (set s.views id both) other (ruler log) spent n by there (λ l. absurd (off l)) (kin_set s.views id v both n by at (λ l. (l, refl, (λ x o. o), λ x o. o)) (k.kin_holder n by q));
        fresh = k.fresh;
        high = k.high;
      },
    )

-- the right is given back
pub returns : (id : ℕ) (v : View) → v.rules ≡ true → v.flight ≡ [] → Splits Kept id v (returned v) (right_of v)
returns id v rules nothing s h at =
    let k = h.4 in
    let mine = k.each id v at in
    let whole = mine.whole rules in
    let left = returned v in
    let views = set s.views id left in (
      h.0,
      h.1,
      length views,
      h.3,
      record {
        cells = k.cells;
        each = snoc_each (Fits h.0 h.1) views (right_of v) (set_each (Fits h.0 h.1) (Fits h.0 h.1) s.views id left k.each (λ by u ne there f. f) (fits_right h.0 [] h.1 id false v (λ e. absurd (off e)) (λ _. nothing) mine))
            (subst (λ (x : List Entry). Fits h.0 h.1 (length views) (ruler x)) (sym whole) (fits_ruler h.0 h.1 (length views)));
        one = snoc_each (λ by u. u.rules ≡ true → by ≡ length views) views (right_of v)
            (set_each (λ by u. u.rules ≡ true → by ≡ h.2) (λ by u. u.rules ≡ true → by ≡ length views) s.views id left k.one (λ by u ne there f r. absurd (ne (f r ∙ sym (k.one id v at rules)))) (λ e. absurd (off e)))
            (λ _. refl);
        quiet = k.quiet;
        undrawn = k.undrawn;
        holder = λ n by q. holder_snoc views (right_of v) n by (holder_set s.views id v left n by at (λ l. (l, refl, (λ x o. o), λ x o. o)) (k.holder n by q));
        kin_holder = λ n by q. kin_snoc views (right_of v) n by (kin_set s.views id v left n by at (λ l. (l, refl, (λ x o. o), λ x o. o)) (k.kin_holder n by q));
        fresh = k.fresh;
        high = k.high;
      },
    )

-- a note is split off
pub notes : (id : ℕ) (v : View) → Splits Kept id v v (noted v)
notes id v s h at =
    let k = h.4 in
    let same : s.views ≡ set s.views id v = sym (set_again s.views id v at) in
    let views = set s.views id v in (
      h.0,
      h.1,
      h.2,
      h.3,
      record {
        cells = k.cells;
        each = snoc_each (Fits h.0 h.1) views (noted v) (subst (λ (x : List View). (by : ℕ) (u : View) → get_elem? x by ≡ some u → Fits h.0 h.1 by u) same k.each) (fits_note h.0 v.seen h.1 (length views) (k.each id v at).prefix);
        one = snoc_each (λ by u. u.rules ≡ true → by ≡ h.2) views (noted v) (subst (λ (x : List View). (by : ℕ) (u : View) → get_elem? x by ≡ some u → u.rules ≡ true → by ≡ h.2) same k.one) (λ e. absurd (off e));
        quiet = k.quiet;
        undrawn = k.undrawn;
        holder = λ n by q. holder_snoc views (noted v) n by (holder_set s.views id v v n by at (λ l. (l, refl, (λ x o. o), λ x o. o)) (k.holder n by q));
        kin_holder = λ n by q. kin_snoc views (noted v) n by (kin_set s.views id v v n by at (λ l. (l, refl, (λ x o. o), λ x o. o)) (k.kin_holder n by q));
        fresh = k.fresh;
        high = k.high;
      },
    )

same_cells : (ws : List ℕ) (n next : ℕ) → ws ≡ n ∷ next ∷ [] → slice_set ws 0 (slice_index ws 0) ≡ n ∷ next ∷ []
same_cells ws n next cells = rw cells refl

-- the pass with the right looks at the history
pub looks : (slots id : ℕ) (v : View) (c : List (ℕ × Entry)) → v.rules ≡ true → Allows Kept slots id (v, c) 0 (λ n. n) (Looks (step slots 0 0 0 none) (v, c))
looks slots id v c rules s h few at range =
    let k = h.4 in
    let mine = k.each id v at in
    let whole = mine.whole rules in
    let w = looked v in (
      w,
      keeps,
      tt,
      (
        h.0,
        h.1,
        h.2,
        h.3,
        record {
          cells = same_cells s.words (length h.0) h.3 k.cells;
          each = set_each (Fits h.0 h.1) (Fits h.0 h.1) s.views id w k.each (λ by u _ _ f. f) record { prefix = subst (λ (x : List Entry). IsOlder x h.0) (sym whole) (prefix_self h.0); whole = mine.whole; holds = mine.holds; mine = mine.mine; landed = mine.landed; draws = mine.draws; kin = mine.kin; low = mine.low; count = mine.count; apart = mine.apart; out = mine.out };
          one = set_each (λ by u. u.rules ≡ true → by ≡ h.2) (λ by u. u.rules ≡ true → by ≡ h.2) s.views id w k.one (λ by u ne there f. f) (λ _. k.one id v at rules);
          quiet = k.quiet;
          undrawn = k.undrawn;
          holder = λ n by q. holder_set s.views id v w n by at (λ l. (l, refl, (λ x o. o), λ x o. o)) (k.holder n by q);
          kin_holder = λ n by q. kin_set s.views id v w n by at (λ l. (l, refl, (λ x o. o), λ x o. o)) (k.kin_holder n by q);
          fresh = k.fresh;
          high = k.high;
        },
      ),
      (refl, subst (λ (x : List Entry). IsOlder v.seen x) (sym whole) mine.prefix, (λ l. ap (entries_of v.number) whole ∙ mine.mine l), (λ n m e. ap (entries_of n) whole ∙ (mine.kin n m e).1), mine.apart),
    )

-- the moves, at a view that is known
pub cuts_as : (id : ℕ) (v : View) (log : List Entry) → v ≡ ruler log → Splits Kept id v spent v
cuts_as id v log is = subst (λ (u : View). Splits Kept id u spent u) (sym is) (cuts id log)

pub lends_as : (id : ℕ) (v : View) (other : ℕ) (u : View) (log : List Entry) → u ≡ ruler log → Joins Kept id v other u (lent v u) spent
lends_as id v other u log is = subst (λ (x : View). Joins Kept id v other x (lent v x) spent) (sym is) (lends id v other log)

pub posts_as : (slots id : ℕ) (v : View) (c : List (ℕ × Entry)) (e : Entry) (count : ℕ) → v.rules ≡ true → v.live ≡ true → e.seat ≡ v.number → length v.all ≡ count
    → Allows Kept slots id (v, c) 0 (λ n. either (n == count) (count + 1) n) (Posts (step slots 0 count (count + 1) (some e)) (v, c))
posts_as slots id v c e count rules live is len = subst (λ (k : ℕ). Allows Kept slots id (v, c) 0 (λ n. either (n == k) (k + 1) n) (Posts (step slots 0 k (k + 1) (some e)) (v, c))) len (posts slots id v c e rules live is)

-- the pass with the right takes the entry in flight
pub takes : (slots id : ℕ) (v : View) (c : List (ℕ × Entry)) → v.rules ≡ true → Allows Kept slots id (v, c) 0 (λ n. n) (Takes (step slots 0 0 0 none) (v, c))
takes slots id v c rules s h few at range =
    let k = h.4 in
    let mine = k.each id v at in
    let whole = mine.whole rules in
    let w = taken v in (
      w,
      keeps,
      tt,
      (
        h.0,
        h.1,
        h.2,
        h.3,
        record {
          cells = same_cells s.words (length h.0) h.3 k.cells;
          each = set_each (Fits h.0 h.1) (Fits h.0 h.1) s.views id w k.each (λ by u _ _ f. f) record { prefix = subst (λ (x : List Entry). IsOlder x h.0) (sym whole) (prefix_self h.0); whole = mine.whole; holds = mine.holds; mine = mine.mine; landed = λ _. refl; draws = mine.draws; kin = mine.kin; low = mine.low; count = mine.count; apart = mine.apart; out = mine.out };
          one = set_each (λ by u. u.rules ≡ true → by ≡ h.2) (λ by u. u.rules ≡ true → by ≡ h.2) s.views id w k.one (λ by u ne there f. f) (λ _. k.one id v at rules);
          quiet = k.quiet;
          undrawn = k.undrawn;
          holder = λ n by q. holder_set s.views id v w n by at (λ l. (l, refl, (λ x o. o), λ x o. o)) (k.holder n by q);
          kin_holder = λ n by q. kin_set s.views id v w n by at (λ l. (l, refl, (λ x o. o), λ x o. o)) (k.kin_holder n by q);
          fresh = k.fresh;
          high = k.high;
        },
      ),
      refl,
    )
