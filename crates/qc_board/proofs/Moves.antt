-- Each step keeps the rule of the board.
use Rattle.std.proofs.Common.{◌≡◌, ◌≢◌, ◌⊎◌, ℕ, zero, suc, ◌<◌, ◌≤◌, max, List, [], ◌∷◌, ◌++◌, length, set, true, refl, sym, ap, ◌∙◌, subst, inl, inr, ⊎_elim, true≢false, arith, IsBitSet, le_refl, le_trans, length-set}
use Rattle.std.specs.Prelude.{slice_index, slice_set}
use mathlib.Core.Option.{some, none, some-ne-none, some-injective}
use lib.ListN.{get_elem?}
use Rattle.atomic_table.specs.Table.{step, keeps, Allows, Splits, Joins}
use Rattle.atomic_table.proofs.Lists.{at_set, at_snoc, at_longer, set_again, set_else}
use Rattle.qc_board.specs.declared.view.Known.{Known}
use Rattle.qc_board.specs.Boards.{Mark}
use Rattle.qc_board.specs.Marks.{Has, AllReach, IsMark, IsBoard, known, nobody, Dooms, Looks, both_marks}

-- what was written stands at its place
at_here : {A : Type 0} (views : List A) (id : ℕ) (v w : A) → get_elem? views id ≡ some v → get_elem? (set views id w) id ≡ some w
at_here [] id v w e = absurd (some-ne-none v (sym e))
at_here (x ∷ xs) zero v w e = refl
at_here (x ∷ xs) (suc id) v w e = at_here xs id v w e

-- a view stays, or it was the one that changed
pub at_kept : {A : Type 0} (views : List A) (id by : ℕ) (v w u : A) → get_elem? views id ≡ some v → get_elem? views by ≡ some u
    → (u' : A) × (get_elem? (set views id w) by ≡ some u') × (((u' ≡ w) × (u ≡ v)) ⊎ (u' ≡ u))
at_kept [] id by v w u e f = absurd (some-ne-none v (sym e))
at_kept (x ∷ xs) zero zero v w u e f = (w, refl, inl (refl, sym (some-injective x u f) ∙ some-injective x v e))
at_kept (x ∷ xs) zero (suc by) v w u e f = (u, f, inr refl)
at_kept (x ∷ xs) (suc id) zero v w u e f = (x, refl, inr (some-injective x u f))
at_kept (x ∷ xs) (suc id) (suc by) v w u e f = at_kept xs id by v w u e f

pub index_set : (ws : List ℕ) (i j x : ℕ) → i < length ws → ((j ≡ i) × (slice_index (slice_set ws i x) j ≡ x)) ⊎ ((j ≢ i) × (slice_index (slice_set ws i x) j ≡ slice_index ws j))
index_set [] i j x h = absurd (omega arith)
index_set (y ∷ ws) zero zero x h = inl (refl, refl)
index_set (y ∷ ws) zero (suc j) x h = inr ((λ e. omega arith), refl)
index_set (y ∷ ws) (suc i) zero x h = inr ((λ e. omega arith), refl)
index_set (y ∷ ws) (suc i) (suc j) x h = ⊎_elim (λ t. inl (ap suc t.0, t.1)) (λ t. let n = t.0 in inr ((λ e. n (omega arith)), t.1)) (index_set ws i j x (omega arith))

pub index_same : (ws : List ℕ) (i : ℕ) → slice_set ws i (slice_index ws i) ≡ ws
index_same [] i = refl
index_same (y ∷ ws) zero = refl
index_same (y ∷ ws) (suc i) = ap (λ (xs : List ℕ). y ∷ xs) (index_same ws i)

has_none : (mark : Mark) → Has [] mark → ⊥
has_none mark h = some-ne-none mark (sym h.1)

has_head : (m mark : Mark) (ms : List Mark) (k : ℕ) → get_elem? (m ∷ ms) k ≡ some mark → (m ≡ mark) ⊎ Has ms mark
has_head m mark ms zero e = inl (some-injective m mark e)
has_head m mark ms (suc k) e = inr (k, e)

has_both : (xs ys : List Mark) (mark : Mark) (k : ℕ) → get_elem? (xs ++ ys) k ≡ some mark → Has xs mark ⊎ Has ys mark
has_both [] ys mark k e = inr (k, e)
has_both (x ∷ xs) ys mark zero e = inl (0, e)
has_both (x ∷ xs) ys mark (suc k) e = ⊎_elim (λ (t : Has xs mark). inl (suc t.0, t.1)) (λ (t : Has ys mark). inr t) (has_both xs ys mark k e)

has_left : (xs ys : List Mark) (mark : Mark) → Has xs mark → Has (xs ++ ys) mark
has_left xs ys mark h = (h.0, at_longer xs ys h.0 mark h.1)

has_right : (xs ys : List Mark) (mark : Mark) → Has ys mark → Has (xs ++ ys) mark
has_right [] ys mark h = h
has_right (x ∷ xs) ys mark h = (let r = has_right xs ys mark h in suc r.0, (has_right xs ys mark h).1)

abbrev Fits : ℕ → List ℕ → Known → Type 0
Fits may words v = (v.live ≡ true → v.may ≡ may) × AllReach may words v.marks

reaches : (may : ℕ) (ws ws' : List ℕ) (v : Known) → ((i : ℕ) → slice_index ws i ≤ slice_index ws' i) → Fits may ws v → Fits may ws' v
reaches may ws ws' v up f = (f.0, λ mark h. ((f.1 mark h).0, le_trans (f.1 mark h).1 (up mark.0)))

fit_set : (may : ℕ) (ws ws' : List ℕ) (views : List Known) (id : ℕ) (w : Known) → ((i : ℕ) → slice_index ws i ≤ slice_index ws' i) → ((by : ℕ) (v : Known) → get_elem? views by ≡ some v → Fits may ws v) → Fits may ws' w
    → (by : ℕ) (v : Known) → get_elem? (set views id w) by ≡ some v → Fits may ws' v
fit_set may ws ws' views id w up all fits by v e =
    ⊎_elim
    (λ (t : (by ≡ id) × (w ≡ v)). subst (Fits may ws') t.1 fits)
    (λ (t : (by ≢ id) × (get_elem? views by ≡ some v)). reaches may ws ws' v up (all by v t.1))
    (at_set views id by w v e)

-- a mark of a view stays a mark where no view loses one
mark_set : (views : List Known) (id : ℕ) (v w : Known) (session word : ℕ) → get_elem? views id ≡ some v → (Has v.marks (session, word) → Has w.marks (session, word)) → IsMark views session word → IsMark (set views id w) session word
mark_set views id v w session word at more is =
    ⊎_elim
    (λ (z : word ≡ 0). inl z)
    (λ (t : (by : ℕ) × (u : Known) × (get_elem? views by ≡ some u) × Has u.marks (session, word)).
    let k = at_kept views id t.0 v w t.1 at t.2 in
    inr (t.0, k.0, k.1, ⊎_elim (λ (p : (k.0 ≡ w) × (t.1 ≡ v)). subst (λ (x : Known). Has x.marks (session, word)) (sym p.0) (more (subst (λ (x : Known). Has x.marks (session, word)) p.1 t.3))) (λ (p : k.0 ≡ t.1). subst (λ (x : Known). Has x.marks (session, word)) (sym p) t.3) k.2))
    is

mark_snoc : (views : List Known) (w : Known) (session word : ℕ) → IsMark views session word → IsMark (views ++ w ∷ []) session word
mark_snoc views w session word is =
    ⊎_elim (λ (z : word ≡ 0). inl z) (λ (t : (by : ℕ) × (u : Known) × (get_elem? views by ≡ some u) × Has u.marks (session, word)). inr (t.0, t.1, at_longer views (w ∷ []) t.0 t.1 t.2, t.3)) is

max_left : (m n : ℕ) → m ≤ max m n
max_left m n = omega arith

max_right : (m n : ℕ) → n ≤ max m n
max_right m n = omega arith

max_cases : (m n : ℕ) → (max m n ≡ m) ⊎ (max m n ≡ n)
max_cases m n = grind arith

pub begins : (may : ℕ) → IsBoard may record { words = 0 ∷ 0 ∷ 0 ∷ 0 ∷ 0 ∷ 0 ∷ 0 ∷ 0 ∷ 0 ∷ 0 ∷ 0 ∷ 0 ∷ 0 ∷ 0 ∷ 0 ∷ 0 ∷ []; homes = []; views = known may [] ∷ [] }
begins may = (refl, one, λ session h. inl (zeros session h))
  where
    one : (by : ℕ) (v : Known) → get_elem? (known may [] ∷ []) by ≡ some v → Fits may (0 ∷ 0 ∷ 0 ∷ 0 ∷ 0 ∷ 0 ∷ 0 ∷ 0 ∷ 0 ∷ 0 ∷ 0 ∷ 0 ∷ 0 ∷ 0 ∷ 0 ∷ 0 ∷ []) v
    one zero v e = subst (Fits may (0 ∷ 0 ∷ 0 ∷ 0 ∷ 0 ∷ 0 ∷ 0 ∷ 0 ∷ 0 ∷ 0 ∷ 0 ∷ 0 ∷ 0 ∷ 0 ∷ 0 ∷ 0 ∷ [])) (some-injective (known may []) v e) ((λ _. refl), λ mark h. absurd (has_none mark h))
    one (suc by) v e = absurd (some-ne-none v (sym e))

    all_zero : (n session : ℕ) → slice_index (Rattle.std.specs.Prelude.replicate n 0) session ≡ 0
    all_zero zero session = refl
    all_zero (suc n) zero = refl
    all_zero (suc n) (suc session) = all_zero n session

    zeros : (session : ℕ) → session < 16 → slice_index (0 ∷ 0 ∷ 0 ∷ 0 ∷ 0 ∷ 0 ∷ 0 ∷ 0 ∷ 0 ∷ 0 ∷ 0 ∷ 0 ∷ 0 ∷ 0 ∷ 0 ∷ 0 ∷ []) session ≡ 0
    zeros session h = all_zero 16 session

pub dooms : (may slots id : ℕ) (v : Known) (c : List (ℕ × ℕ)) (session upto : ℕ) → session < 16 → v.live ≡ true → IsBitSet v.may session
    → Allows (IsBoard may) slots id (v, c) session (λ n. max n upto) (Dooms (step slots session upto 0 none) (v, c))
dooms may slots id v c session upto low live may_be s h few at range =
    let w = known v.may ((session, upto) ∷ v.marks) in
    let word = slice_index s.words session in
    let now = slice_set s.words session (max word upto) in
    let mine : Fits may s.words v = h.1 id v at in
    let inside : session < length s.words = omega (arith, h.0) in
    let up : (i : ℕ) → slice_index s.words i ≤ slice_index now i = λ i. ⊎_elim
    (λ (t : (i ≡ session) × (slice_index now i ≡ max word upto)). subst (λ k. slice_index s.words i ≤ k) (sym t.1) (subst (λ k. slice_index s.words k ≤ max word upto) (sym t.0) (max_left word upto)))
    (λ (t : (i ≢ session) × (slice_index now i ≡ slice_index s.words i)). le_of t.1)
    (index_set s.words session i (max word upto) inside) in
    let here : slice_index now session ≡ max word upto = ⊎_elim
    (λ (t : (session ≡ session) × (slice_index now session ≡ max word upto)). t.1)
    (λ (t : (session ≢ session) × (slice_index now session ≡ slice_index s.words session)). absurd (t.0 refl))
    (index_set s.words session session (max word upto) inside) in
    let fits : Fits may now w = (
      (λ _. mine.0 live),
      λ mark k. ⊎_elim
          (λ (e : (session, upto) ≡ mark). subst (λ (m : Mark). IsBitSet may m.0 × (m.1 ≤ slice_index now m.0)) e (subst (λ b. IsBitSet b session) (mine.0 live) may_be, subst (λ n. upto ≤ n) (sym here) (max_right word upto)))
          (λ (t : Has v.marks mark). ((mine.1 mark t).0, le_trans (mine.1 mark t).1 (up mark.0)))
          (has_head (session, upto) mark v.marks k.0 k.1),
    ) in (
      w,
      keeps,
      tt,
      (
        length-set s.words session (max word upto) ∙ h.0,
        fit_set may s.words now s.views id w up h.1 fits,
        λ i l. ⊎_elim
            (λ (t : (i ≡ session) × (slice_index now i ≡ max word upto)). ⊎_elim
            (λ (e : max word upto ≡ word). subst (IsMark (set s.views id w) i) (sym (t.1 ∙ e)) (mark_set s.views id v w i word at (λ k. (suc k.0, k.1)) (subst (λ n. IsMark s.views i n) (ap (slice_index s.words) t.0) (h.2 i l))))
            (λ (e : max word upto ≡ upto). subst (IsMark (set s.views id w) i) (sym (t.1 ∙ e)) (inr (id, w, at_here s.views id v w at, (0, ap (λ (n : ℕ). some (n, upto)) (sym t.0)))))
            (max_cases word upto))
            (λ (t : (i ≢ session) × (slice_index now i ≡ slice_index s.words i)). subst (IsMark (set s.views id w) i) (sym t.1) (mark_set s.views id v w i (slice_index s.words i) at (λ k. (suc k.0, k.1)) (h.2 i l)))
            (index_set s.words session i (max word upto) inside),
      ),
      refl,
    )
  where
    le_of : {m n : ℕ} → m ≡ n → n ≤ m
    le_of e = omega (arith, e)

pub looks : (may slots id : ℕ) (v : Known) (c : List (ℕ × ℕ)) (session : ℕ) → session < 16 → v.live ≡ true
    → Allows (IsBoard may) slots id (v, c) session (λ n. n) (Looks (step slots session 0 0 none) (v, c))
looks may slots id v c session low live s h few at range =
    let mine : Fits may s.words v = h.1 id v at in
    let word = slice_index s.words session in
    let same : (s.words, s.views) ≡ (slice_set s.words session word, set s.views id v) = λ i. (sym (index_same s.words session) i, sym (set_again s.views id v at) i) in (
      v,
      keeps,
      tt,
      subst (λ (x : List ℕ × List Known). IsBoard may record { words = x.0; homes = s.homes; views = x.1 }) same h,
      (
        refl,
        (
          (λ upto k. (mine.1 (session, upto) k).1),
          λ not. ⊎_elim
              (λ (z : word ≡ 0). z)
              (λ (t : (by : ℕ) × (u : Known) × (get_elem? s.views by ≡ some u) × Has u.marks (session, word)). absurd (not (subst (λ b. IsBitSet b session) (sym (mine.0 live)) ((h.1 t.0 t.1 t.2).1 (session, word) t.3).0)))
              (h.2 session low),
        ),
      ),
    )

pub splits : (may id : ℕ) (v : Known) → Splits (IsBoard may) id v v v
splits may id v s h at =
    let same : s.views ≡ set s.views id v = sym (set_again s.views id v at) in (
      h.0,
      λ by u e. ⊎_elim
          (λ was. h.1 by u (subst (λ l. get_elem? l by ≡ some u) (sym same) was))
          (λ (new : v ≡ u). subst (Fits may s.words) new (h.1 id v at))
          (at_snoc (set s.views id v) v u by e),
      λ session l. subst (λ (x : List Known). IsMark (x ++ v ∷ []) session (slice_index s.words session)) same (mark_snoc s.views v session (slice_index s.words session) (h.2 session l)),
    )

pub joins : (may id : ℕ) (v : Known) (other : ℕ) (w : Known) → v.live ≡ true → Joins (IsBoard may) id v other w (both_marks v w) nobody
joins may id v other w live s h at apart there =
    let both = both_marks v w in
    let stays : (i : ℕ) → slice_index s.words i ≤ slice_index s.words i = λ i. le_refl (slice_index s.words i) in
    let mine = h.1 id v at in
    let was : get_elem? s.views other ≡ some w = ⊎_elim (λ (t : (other ≡ id) × (both ≡ w)). absurd (apart t.0)) (λ (t : (other ≢ id) × (get_elem? s.views other ≡ some w)). t.1) (at_set s.views id other both w there) in
    let theirs = h.1 other w was in
    let fits : Fits may s.words both = ((λ _. mine.0 live), λ mark k. ⊎_elim (λ (t : Has v.marks mark). mine.1 mark t) (λ (t : Has w.marks mark). theirs.1 mark t) (has_both v.marks w.marks mark k.0 k.1)) in (
      h.0,
      fit_set may s.words s.words (set s.views id both) other nobody stays (fit_set may s.words s.words s.views id both stays h.1 fits) ((λ e. absurd (true≢false (sym e))), λ mark k. absurd (has_none mark k)),
      λ session l. ⊎_elim
          (λ (z : slice_index s.words session ≡ 0). inl z)
          (λ (t : (by : ℕ) × (u : Known) × (get_elem? s.views by ≡ some u) × Has u.marks (session, slice_index s.words session)). moved s.views id v other w at apart there session (slice_index s.words session) t.0 t.1 t.2 t.3)
          (h.2 session l),
    )
  where
    -- the joined seat has the mark if one of the two had it
    moved : (views : List Known) (id : ℕ) (v : Known) (other : ℕ) (w : Known) → get_elem? views id ≡ some v → ¬ (other ≡ id) → get_elem? (set views id (both_marks v w)) other ≡ some w
        → (session word by : ℕ) (u : Known) → get_elem? views by ≡ some u → Has u.marks (session, word) → IsMark (set (set views id (both_marks v w)) other nobody) session word
    moved views id v other w at apart there session word by u e has =
        let both = both_marks v w in
        let kept = at_kept (set views id both) other id w nobody both there (at_here views id v both at) in
        let stays : get_elem? (set (set views id both) other nobody) id ≡ some both = set_else (set views id both) other id nobody (λ e. apart (sym e)) ∙ at_here views id v both at in
        let k = at_kept views id by v both u at e in
        ⊎_elim
        (λ (p : (k.0 ≡ both) × (u ≡ v)). inr (id, both, stays, has_left v.marks w.marks (session, word) (subst (λ (x : Known). Has x.marks (session, word)) p.1 has)))
        (λ (p : k.0 ≡ u).
        let m = at_kept (set views id both) other by w nobody k.0 there k.1 in
        ⊎_elim
        (λ (q : (m.0 ≡ nobody) × (k.0 ≡ w)). inr (id, both, stays, has_right v.marks w.marks (session, word) (subst (λ (x : Known). Has x.marks (session, word)) (sym p ∙ q.1) has)))
        (λ (q : m.0 ≡ k.0). inr (by, m.0, m.1, subst (λ (x : Known). Has x.marks (session, word)) (sym (q ∙ p)) has))
        m.2)
        k.2
