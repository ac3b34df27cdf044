-- The steps that change who has a number keep the rule of the desk.
use Rattle.std.proofs.Common.{◌≡◌, ◌≢◌, ◌⊎◌, ℕ, zero, suc, ◌+◌, ◌<◌, ◌≤◌, ◌==◌, Bool, true, false, cond, nat_lt, List, [], ◌∷◌, ◌++◌, length, set, Some, None, Option, MatchBool, refl, sym, ap, ◌∙◌, subst, inl, inr, ⊎_elim, arith, eq-eqb, ne_eqb, lt_of_not-le, eqb-true}
use Rattle.std.specs.Prelude.{slice_index, slice_set}
use mathlib.Core.Option.{some, none, some-ne-none, some-injective}
use native.Mathlib.Decide.{ℕ_discrete, dec_le}
use mathlib.Core.Logic.{dite}
use lib.ListN.{get_elem?}
use prog.Atomic.{either}
use Rattle.atomic_table.specs.Table.{State, Me, step, keeps, Allows, Splits, Joins}
use Rattle.atomic_table.proofs.Lists.{at_set, at_last, at_longer, set_again, set_else}
use Rattle.qc_event.specs.declared.event.Entry.{Entry}
use Rattle.qc_desk.specs.declared.view.View.{View}
use Rattle.qc_desk.specs.Entries.{entries_of, IsOlder}
use Rattle.qc_desk.specs.Rules.{Role, nobody_yet, held, drawn_by, kin_of, spent, pass, sees, with_drawn, gave, given, counted, next_of, longer, without, told, joined, Has, IsHolder, IsKinHolder, Fits, IsKept, Kept, Draws, IsSettled, Settles, Counting, Knows, IsNewTo, numbers}
use Rattle.std.proofs.lemmas.List.{map-append}
use Rattle.qc_desk.proofs.Apart.{Apart, both_apart, kin_of_number, none_is, one_apart}
use Rattle.qc_desk.proofs.Lists.{entries_append}
use Rattle.qc_desk.proofs.Having.{has_both, has_cons, has_left, has_none, has_right}
use Rattle.qc_desk.proofs.Moves.{Eq, off, no_some, apart, set_each, snoc_each, Grows, holder_set, kin_set, holder_snoc, kin_snoc, fits_spent}

-- a number gets another role
abbrev put : ℕ → Role → (ℕ → Role) → ℕ → Role
put n r role k = cond (k == n) r (role k)

put_here : (n : ℕ) (r : Role) (role : ℕ → Role) → put n r role n ≡ r
put_here n r role = ap (λ b. cond b r (role n)) (eq-eqb n n refl)

put_else : (n : ℕ) (r : Role) (role : ℕ → Role) (k : ℕ) → k ≢ n → put n r role k ≡ role k
put_else n r role k ne = ap (λ b. cond b r (role k)) (ne_eqb k n ne)

-- of a number that has a role now, it has it as before, or it is the one that changed
put_cases : (n : ℕ) (r : Role) (role : ℕ → Role) (k : ℕ) → ((k ≡ n) × (put n r role k ≡ r)) ⊎ ((k ≢ n) × (put n r role k ≡ role k))
put_cases n r role k = dite (ℕ_discrete k n) (λ e. inl (e, subst (λ j. put n r role j ≡ r) (sym e) (put_here n r role))) (λ ne. inr (ne, put_else n r role k ne))

-- a number that has another role than the new one had it before
put_old : (n : ℕ) (r : Role) (role : ℕ → Role) (k : ℕ) (x : Role) → put n r role k ≡ x → (r ≡ x → ⊥) → (k ≢ n) × (role k ≡ x)
put_old n r role k x e not = ⊎_elim (λ (t : (k ≡ n) × (put n r role k ≡ r)). absurd (not (sym t.1 ∙ e))) (λ (t : (k ≢ n) × (put n r role k ≡ role k)). (t.0, sym t.1 ∙ e)) (put_cases n r role k)

-- a number that a view has out is somebody's still
out_put : (log : List Entry) (role : ℕ → Role) (n : ℕ) (r : Role) (by : ℕ) (u : View) → (r ≡ nobody_yet → ⊥) → Fits log role by u → (k : ℕ) → Has u.out k → put n r role k ≡ nobody_yet → ⊥
out_put log role n r by u given f k h e = f.out k h (put_old n r role k nobody_yet e given).1

-- another view keeps what it has where a number that is nobody's or drawn gets a new role
fits_put : (log : List Entry) (role : ℕ → Role) (n : ℕ) (r : Role) (by : ℕ) (u : View) → ((k : ℕ) → role k ≡ held by → k ≢ n) → ((k : ℕ) → role k ≡ drawn_by by → k ≢ n) → ((k : ℕ) → role k ≡ kin_of by → k ≢ n)
    → ((k : ℕ) → role k ≡ nobody_yet → (u.live ≡ true) → (u.number ≡ 0) → u.count < k → k ≤ 17 → k ≢ n) → (r ≡ nobody_yet → ⊥) → Fits log role by u → Fits log (put n r role) by u
fits_put log role n r by u h d c z given f = record {
  prefix = f.prefix;
  whole = f.whole;
  holds = λ l. put_else n r role u.number (h u.number (f.holds l)) ∙ f.holds l;
  mine = f.mine;
  landed = f.landed;
  draws = λ k e. let x = f.draws k e in (put_else n r role k (d k x.0) ∙ x.0, x.1, x.2, x.3);
  kin = λ k m e. let x = f.kin k m e in (put_else n r role k (c k x.0) ∙ x.0, x.1);
  low = f.low;
  count = λ l q k a b. put_else n r role k (z k (f.count l q k a b) l q a b) ∙ f.count l q k a b;
  apart = f.apart;
  out = out_put log role n r by u given f;
}

role_ne : (role : ℕ → Role) {a b : Role} (k n : ℕ) → role k ≡ a → role n ≡ b → (a ≡ b → ⊥) → k ≢ n
role_ne role k n p q ne e = ne (sym p ∙ ap role e ∙ q)

-- the number that changed, or one that has its role as before
put_either : (n : ℕ) (r : Role) (role : ℕ → Role) (k : ℕ) (x : Role) → put n r role k ≡ x → ((k ≡ n) × (r ≡ x)) ⊎ ((k ≢ n) × (role k ≡ x))
put_either n r role k x e = ⊎_elim (λ (t : (k ≡ n) × (put n r role k ≡ r)). inl (t.0, sym t.1 ∙ e)) (λ (t : (k ≢ n) × (put n r role k ≡ role k)). inr (t.0, sym t.1 ∙ e)) (put_cases n r role k)

same_more : (v w : View) → w.live ≡ v.live → w.number ≡ v.number → w.out ≡ v.out → w.kin ≡ v.kin → Grows v w
same_more v w a b c d l = (a ∙ l, b, (λ k h. subst (λ (o : List ℕ). Has o k) (sym c) h), λ x h. subst (λ (o : List (ℕ × List Entry)). Has o x) (sym d) h)

some_is : (n k : ℕ) → Eq (Option ℕ) (Some n) (Some k) → n ≡ k
some_is n k e = cc (e)

abbrev IsMe : Me Entry View → Me Entry View → Type 0
IsMe x y = x ≡ y

-- a number with no entry has none in a beginning
entries_none : (n : ℕ) (xs ys : List Entry) → IsOlder xs ys → entries_of n ys ≡ [] → entries_of n xs ≡ []
entries_none n xs ys p e = back_nil (entries_of n p.0) (entries_of n xs) (sym (entries_append n p.0 xs) ∙ ap (entries_of n) (sym p.1) ∙ e)
  where
    back_nil : (xs ys : List Entry) → xs ++ ys ≡ [] → ys ≡ []
    back_nil [] ys e = e
    back_nil (a ∷ xs) ys e = absurd (cc (e))

-- each of a pass's numbers is its own or its kin's
whose : (log : List Entry) (role : ℕ → Role) (by : ℕ) (v : View) → v.live ≡ true → Fits log role by v → (k : ℕ) → Has (numbers v) k → (role k ≡ held by) ⊎ (role k ≡ kin_of by)
whose log role by v live f k (zero, at) = inl (subst (λ (n : ℕ). role n ≡ held by) (some-injective v.number k at) (f.holds live))
whose log role by v live f k (suc i, at) = let m = kin_of_number v.kin k i at in inr (f.kin k m.0 m.1).0

-- a number that is nobody's is new to it
new_to : (log : List Entry) (role : ℕ → Role) (by : ℕ) (v : View) (n : ℕ) → v.live ≡ true → Fits log role by v → role n ≡ nobody_yet → IsNewTo v n
new_to log role by v n live f free = (
  none_is n (numbers v) (λ k h same. elim (whose log role by v live f k h) [
    | inl own ↦ role_ne role k n own free (λ x. absurd (cc (x))) same
    | inr kin ↦ role_ne role k n kin free (λ x. absurd (cc (x))) same
  ]),
  none_is n v.out (λ k h same. f.out k h (ap role same ∙ free)),
)

-- a pass draws a number, or another was faster
pub draws : (slots id : ℕ) (v : View) (c : List (ℕ × Entry)) (n : ℕ) → v.live ≡ true
    → Allows Kept slots id (v, c) 1 (λ k. either (k == n) (n + 1) k) (Draws (step slots 1 n (n + 1) none) (v, c))
draws slots id v c n live s h few at range = go (slice_index s.words 1 == n) refl
  where
    go : (b : Bool) → (slice_index s.words 1 == n) ≡ b
        → (w : View) × (a : Rattle.atomic_table.specs.Table.Act Entry) × Rattle.atomic_table.specs.Table.Valid s.homes c a
        × Kept (Rattle.atomic_table.specs.Table.stepped s 1 (either b (n + 1) (slice_index s.words 1)) id c w a)
        × MatchBool b (IsMe (w, Rattle.atomic_table.specs.Table.carried_after c a) (with_drawn (Some n) v, c) × (17 < n) × (entries_of n v.seen ≡ []) × IsNewTo v n) (IsMe (w, Rattle.atomic_table.specs.Table.carried_after c a) (v, c))
    go true is =
        let k = h.4 in
        let log = h.0 in
        let role = h.1 in
        let mine = k.each id v at in
        let w = with_drawn (Some n) v in
        let next_is : h.3 ≡ n = ap (λ (ws : List ℕ). slice_index ws 1) (sym k.cells) ∙ eqb-true (slice_index s.words 1) n is in
        let high : 17 < n = omega (arith, k.high, next_is) in
        let free : role n ≡ nobody_yet = k.fresh n (omega (arith, next_is)) high in
        let below : v.number < n = dite (dec_le n v.number) (λ le. absurd (cc (k.fresh v.number (omega (arith, le, next_is)) (omega (arith, le, high)), mine.holds live))) (λ not. lt_of_not-le not) in
        let own : Fits log (put n (drawn_by id) role) id v = fits_put log role n (drawn_by id) id v (λ j e. role_ne role j n e free (λ x. absurd (cc (x)))) (λ j e. role_ne role j n e free (λ x. absurd (cc (x)))) (λ j e. role_ne role j n e free (λ x. absurd (cc (x)))) (λ j e l q a b x. absurd (omega (arith, x, b, high))) (λ x. absurd (cc (x))) mine in (
          w,
          keeps,
          tt,
          (
            log,
            put n (drawn_by id) role,
            h.2,
            n + 1,
            record {
              cells = set_next s.words (length log) h.3 n k.cells;
              each = set_each (Fits log role) (Fits log (put n (drawn_by id) role)) s.views id w k.each
                  (λ by u ne there f. fits_put log role n (drawn_by id) by u (λ j e. role_ne role j n e free (λ x. absurd (cc (x)))) (λ j e. role_ne role j n e free (λ x. absurd (cc (x)))) (λ j e. role_ne role j n e free (λ x. absurd (cc (x)))) (λ j e l q a b x. absurd (omega (arith, x, b, high))) (λ x. absurd (cc (x))) f)
                  record { prefix = own.prefix; whole = own.whole; holds = own.holds; mine = own.mine; landed = own.landed; draws = λ j e. subst (λ (x : ℕ). (put n (drawn_by id) role x ≡ drawn_by id) × (v.number < x) × (17 < x) × (v.live ≡ true)) (some_is n j e) (put_here n (drawn_by id) role, below, high, live); kin = own.kin; low = own.low; count = own.count; apart = own.apart; out = own.out };
              one = set_each (λ by u. u.rules ≡ true → by ≡ h.2) (λ by u. u.rules ≡ true → by ≡ h.2) s.views id w k.one (λ by u ne there f. f) (λ r. k.one id v at r);
              quiet = λ j e. k.quiet j (put_old n (drawn_by id) role j nobody_yet e (λ x. absurd (cc (x)))).1;
              undrawn = λ j by e. ⊎_elim (λ (t : (j ≡ n) × (drawn_by id ≡ drawn_by by)). subst (λ (x : ℕ). entries_of x log ≡ []) (sym t.0) (k.quiet n free)) (λ (t : (j ≢ n) × (role j ≡ drawn_by by)). k.undrawn j by t.1) (put_either n (drawn_by id) role j (drawn_by by) e);
              holder = λ j by e. holder_set s.views id v w j by at (same_more v w refl refl refl refl) (k.holder j by (put_old n (drawn_by id) role j (held by) e (λ x. absurd (cc (x)))).1);
              kin_holder = λ j by e. kin_set s.views id v w j by at (same_more v w refl refl refl refl) (k.kin_holder j by (put_old n (drawn_by id) role j (kin_of by) e (λ x. absurd (cc (x)))).1);
              fresh = λ j a b. put_else n (drawn_by id) role j (λ x. absurd (omega (arith, x, a))) ∙ k.fresh j (omega (arith, a, next_is)) b;
              high = omega (arith, high);
            },
          ),
          (refl, high, entries_none n v.seen log mine.prefix (k.quiet n free), new_to log role id v n live mine free),
        )
      where
        set_next : (ws : List ℕ) (m next n : ℕ) → ws ≡ m ∷ next ∷ [] → slice_set ws 1 (n + 1) ≡ m ∷ (n + 1) ∷ []
        set_next ws m next n cells = rw cells refl
    go false is =
        let k = h.4 in
        let words : slice_set s.words 1 (slice_index s.words 1) ≡ s.words = kept_next s.words (length h.0) h.3 k.cells in
        let views : set s.views id v ≡ s.views = set_again s.views id v at in (
          v,
          keeps,
          tt,
          (h.0, h.1, h.2, h.3, subst (λ (x : List ℕ × List View). IsKept x.0 x.1 h.0 h.1 h.2 h.3) (λ i. (sym words i, sym views i)) k),
          refl,
        )
      where
        kept_next : (ws : List ℕ) (m next : ℕ) → ws ≡ m ∷ next ∷ [] → slice_set ws 1 (slice_index ws 1) ≡ ws
        kept_next ws m next cells = rw cells refl

here_set : (views : List View) (id : ℕ) (v w : View) → get_elem? views id ≡ some v → get_elem? (set views id w) id ≡ some w
here_set [] id v w e = absurd (some-ne-none v (sym e))
here_set (x ∷ xs) zero v w e = refl
here_set (x ∷ xs) (suc id) v w e = here_set xs id v w e

drawn_is : (i j : ℕ) → drawn_by i ≡ drawn_by j → i ≡ j
drawn_is i j e = cc (e)

kin_is : (i j : ℕ) → kin_of i ≡ kin_of j → i ≡ j
kin_is i j e = cc (e)

gave_at : ℕ → View → View
gave_at n v = record { live = v.live; rules = v.rules; number = v.number; seen = v.seen; all = v.all; mine = v.mine; flight = v.flight; out = n ∷ v.out; kin = v.kin; count = v.count; drawn = None }

-- a number that was drawn is given to a new pass
pub gives : (id : ℕ) (v : View) (n : ℕ) → v.live ≡ true → v.drawn ≡ Some n → (1 ≤ v.number → 17 < v.number) → Splits Kept id v (gave v) (given v)
gives id v n live drew client s h at =
    let k = h.4 in
    let log = h.0 in
    let role = h.1 in
    let mine = k.each id v at in
    let d = mine.draws n drew in
    let left : View = record { live = v.live; rules = v.rules; number = v.number; seen = v.seen; all = v.all; mine = v.mine; flight = v.flight; out = n ∷ v.out; kin = v.kin; count = v.count; drawn = None } in
    let right = pass n v.seen in
    let views = set s.views id left in
    let L = length views in
    let grows : Grows v left = λ l. (l, refl, (λ j o. (suc o.0, o.1)), λ x o. o) in
    let here : get_elem? views id ≡ some left = here_set s.views id v left at in
    subst (λ (x : View × View). Kept record { words = s.words; homes = s.homes; views = set s.views id x.0 ++ x.1 ∷ [] }) (λ i. (gave (with_drawn (sym drew i) v), given (with_drawn (sym drew i) v))) (
      log,
      put n (held L) role,
      h.2,
      h.3,
      record {
        cells = k.cells;
        each = snoc_each (Fits log (put n (held L) role)) views right
            (set_each (Fits log role) (Fits log (put n (held L) role)) s.views id left k.each
            (λ by u ne there f. fits_put log role n (held L) by u (λ j e. role_ne role j n e d.0 (λ x. absurd (cc (x)))) (λ j e. role_ne role j n e d.0 (λ x. ne (drawn_is by id x))) (λ j e. role_ne role j n e d.0 (λ x. absurd (cc (x)))) (λ j e l q a b x. absurd (omega (arith, x, b, d.2))) (λ x. absurd (cc (x))) f)
            record {
              prefix = mine.prefix;
              whole = mine.whole;
              holds = λ l. put_else n (held L) role v.number (role_ne role v.number n (mine.holds l) d.0 (λ x. absurd (cc (x)))) ∙ mine.holds l;
              mine = mine.mine;
              landed = mine.landed;
              draws = λ j e. absurd (no_some j e);
              kin = λ j m e. let x = mine.kin j m e in (put_else n (held L) role j (role_ne role j n x.0 d.0 (λ y. absurd (cc (y)))) ∙ x.0, x.1);
              low = λ l a b. absurd (omega (arith, client a, b));
              count = λ l q j a b. put_else n (held L) role j (λ x. absurd (omega (arith, x, b, d.2))) ∙ mine.count l q j a b;
              apart = mine.apart;
              out = λ j o e. elim (has_cons n j v.out o.0 o.1) [
                | inl is ↦ absurd (cc (sym (put_here n (held L) role) ∙ ap (put n (held L) role) is ∙ e))
                | inr old ↦ out_put log role n (held L) id v (λ x. absurd (cc (x))) mine j old e
              ];
            })
            record {
              prefix = mine.prefix;
              whole = λ e. absurd (off e);
              holds = λ _. put_here n (held L) role;
              mine = λ _. k.undrawn n id d.0;
              landed = λ _. refl;
              draws = λ j e. absurd (no_some j e);
              kin = λ j m e. absurd (has_none (j, m) e);
              low = λ _ a b. absurd (omega (arith, b, d.2));
              count = λ _ q. absurd (omega (arith, q, d.2));
              apart = λ _. one_apart n;
              out = λ j o. absurd (has_none j o);
            };
        one = snoc_each (λ by u. u.rules ≡ true → by ≡ h.2) views right (set_each (λ by u. u.rules ≡ true → by ≡ h.2) (λ by u. u.rules ≡ true → by ≡ h.2) s.views id left k.one (λ by u ne there f. f) (λ r. k.one id v at r)) (λ e. absurd (off e));
        quiet = λ j e. k.quiet j (put_old n (held L) role j nobody_yet e (λ x. absurd (cc (x)))).1;
        undrawn = λ j by e. k.undrawn j by (put_old n (held L) role j (drawn_by by) e (λ x. absurd (cc (x)))).1;
        holder = λ j by e. ⊎_elim
            (λ (t : (j ≡ n) × (held L ≡ held by)). subst (λ (x : ℕ × ℕ). IsHolder (views ++ right ∷ []) x.0 x.1) (λ i. (sym t.0 i, apart L by t.1 i)) (right, at_last views right L refl, refl, refl, λ _. (id, left, at_longer views (right ∷ []) id left here, live, d.1, (0, refl))))
            (λ (t : (j ≢ n) × (role j ≡ held by)). holder_snoc views right j by (holder_set s.views id v left j by at grows (k.holder j by t.1)))
            (put_either n (held L) role j (held by) e);
        kin_holder = λ j by e. kin_snoc views right j by (kin_set s.views id v left j by at grows (k.kin_holder j by (put_old n (held L) role j (kin_of by) e (λ x. absurd (cc (x)))).1));
        fresh = λ j a b. put_else n (held L) role j (role_ne role j n (k.fresh j a b) d.0 (λ x. absurd (cc (x)))) ∙ k.fresh j a b;
        high = k.high;
      },
    )

-- a first split of the first pass
pub counts : (id : ℕ) (v : View) → v.live ≡ true → v.number ≡ 0 → v.count < 17 → Splits Kept id v (counted v) (next_of v)
counts id v live zero_is few s h at =
    let k = h.4 in
    let log = h.0 in
    let role = h.1 in
    let mine = k.each id v at in
    let n = v.count + 1 in
    let free : role n ≡ nobody_yet = mine.count live zero_is n (omega arith) (omega (arith, few)) in
    let left = counted v in
    let right = pass n v.seen in
    let views = set s.views id left in
    let L = length views in
    let grows : Grows v left = same_more v left refl refl refl refl in (
      log,
      put n (held L) role,
      h.2,
      h.3,
      record {
        cells = k.cells;
        each = snoc_each (Fits log (put n (held L) role)) views right
            (set_each (Fits log role) (Fits log (put n (held L) role)) s.views id left k.each
            (λ by u ne there f. fits_put log role n (held L) by u (λ j e. role_ne role j n e free (λ x. absurd (cc (x)))) (λ j e. role_ne role j n e free (λ x. absurd (cc (x)))) (λ j e. role_ne role j n e free (λ x. absurd (cc (x))))
            (λ j e l q a b. absurd (ne (apart by id (sym (f.holds l) ∙ ap role (q ∙ sym zero_is) ∙ mine.holds live)))) (λ x. absurd (cc (x))) f)
            record {
              prefix = mine.prefix;
              whole = mine.whole;
              holds = λ l. put_else n (held L) role v.number (role_ne role v.number n (mine.holds l) free (λ x. absurd (cc (x)))) ∙ mine.holds l;
              mine = mine.mine;
              landed = mine.landed;
              draws = λ j e. let x = mine.draws j e in (put_else n (held L) role j (role_ne role j n x.0 free (λ y. absurd (cc (y)))) ∙ x.0, x.1, x.2, x.3);
              kin = λ j m e. let x = mine.kin j m e in (put_else n (held L) role j (role_ne role j n x.0 free (λ y. absurd (cc (y)))) ∙ x.0, x.1);
              low = mine.low;
              count = λ l q j a b. put_else n (held L) role j (λ x. absurd (omega (arith, x, a))) ∙ mine.count l q j (omega (arith, a)) b;
              apart = mine.apart;
              out = out_put log role n (held L) id v (λ x. absurd (cc (x))) mine;
            })
            record {
              prefix = mine.prefix;
              whole = λ e. absurd (off e);
              holds = λ _. put_here n (held L) role;
              mine = λ _. k.quiet n free;
              landed = λ _. refl;
              draws = λ j e. absurd (no_some j e);
              kin = λ j m e. absurd (has_none (j, m) e);
              low = λ _ a b. (refl, refl);
              count = λ _ q. absurd (omega (arith, q));
              apart = λ _. one_apart n;
              out = λ j o. absurd (has_none j o);
            };
        one = snoc_each (λ by u. u.rules ≡ true → by ≡ h.2) views right (set_each (λ by u. u.rules ≡ true → by ≡ h.2) (λ by u. u.rules ≡ true → by ≡ h.2) s.views id left k.one (λ by u ne there f. f) (λ r. k.one id v at r)) (λ e. absurd (off e));
        quiet = λ j e. k.quiet j (put_old n (held L) role j nobody_yet e (λ x. absurd (cc (x)))).1;
        undrawn = λ j by e. k.undrawn j by (put_old n (held L) role j (drawn_by by) e (λ x. absurd (cc (x)))).1;
        holder = λ j by e. ⊎_elim
            (λ (t : (j ≡ n) × (held L ≡ held by)). subst (λ (x : ℕ × ℕ). IsHolder (views ++ right ∷ []) x.0 x.1) (λ i. (sym t.0 i, apart L by t.1 i)) (right, at_last views right L refl, refl, refl, λ l. absurd (omega (arith, l, few))))
            (λ (t : (j ≢ n) × (role j ≡ held by)). holder_snoc views right j by (holder_set s.views id v left j by at grows (k.holder j by t.1)))
            (put_either n (held L) role j (held by) e);
        kin_holder = λ j by e. kin_snoc views right j by (kin_set s.views id v left j by at grows (k.kin_holder j by (put_old n (held L) role j (kin_of by) e (λ x. absurd (cc (x)))).1));
        fresh = λ j a b. put_else n (held L) role j (λ x. absurd (omega (arith, x, b, few))) ∙ k.fresh j a b;
        high = k.high;
      },
    )

prefix_longer : (xs ys log : List Entry) → IsOlder xs log → IsOlder ys log → IsOlder (longer xs ys) log
prefix_longer xs ys log p q = go (nat_lt (length xs) (length ys))
  where
    go : (b : Bool) → IsOlder (cond b ys xs) log
    go true = q
    go false = p

fits_told : (log seen : List Entry) (role : ℕ → Role) (by : ℕ) (v : View) → IsOlder seen log → Fits log role by v → Fits log role by (sees seen v)
fits_told log seen role by v p f = record { prefix = p; whole = f.whole; holds = f.holds; mine = f.mine; landed = f.landed; draws = f.draws; kin = f.kin; low = f.low; count = f.count; apart = f.apart; out = f.out }

-- a note is joined into a pass
pub tells : (id : ℕ) (v : View) (other : ℕ) (w : View) → w.live ≡ false → Joins Kept id v other w (told v w) spent
tells id v other w dead s h at ne there =
    let k = h.4 in
    let both = told v w in
    let was : get_elem? s.views other ≡ some w = ⊎_elim (λ (t : (other ≡ id) × (both ≡ w)). absurd (ne t.0)) (λ (t : (other ≢ id) × (get_elem? s.views other ≡ some w)). t.1) (at_set s.views id other both w there) in
    let fewer : Grows w spent = λ l. absurd (off (sym dead ∙ l)) in
    let same : Grows v both = same_more v both refl refl refl refl in (
      h.0,
      h.1,
      h.2,
      h.3,
      record {
        cells = k.cells;
        each = set_each (Fits h.0 h.1) (Fits h.0 h.1) (set s.views id both) other spent
            (set_each (Fits h.0 h.1) (Fits h.0 h.1) s.views id both k.each (λ by u _ _ f. f) (fits_told h.0 (longer v.seen w.seen) h.1 id v (prefix_longer v.seen w.seen h.0 (k.each id v at).prefix (k.each other w was).prefix) (k.each id v at)))
            (λ by u _ _ f. f) (fits_spent h.0 h.1 other);
        one = set_each (λ by u. u.rules ≡ true → by ≡ h.2) (λ by u. u.rules ≡ true → by ≡ h.2) (set s.views id both) other spent
            (set_each (λ by u. u.rules ≡ true → by ≡ h.2) (λ by u. u.rules ≡ true → by ≡ h.2) s.views id both k.one (λ by u _ _ f. f) (λ r. k.one id v at r))
            (λ by u _ _ f. f) (λ e. absurd (off e));
        quiet = k.quiet;
        undrawn = k.undrawn;
        holder = λ j by e. holder_set (set s.views id both) other w spent j by there fewer (holder_set s.views id v both j by at same (k.holder j by e));
        kin_holder = λ j by e. kin_set (set s.views id both) other w spent j by there fewer (kin_set s.views id v both j by at same (k.kin_holder j by e));
        fresh = k.fresh;
        high = k.high;
      },
    )

pos : (x : ℕ) → x ≢ 0 → 1 ≤ x
pos zero nz = absurd (nz refl)
pos (suc x) nz = omega arith

-- no live pass has a number above 17, where the first one has nothing out
none_out : (log : List Entry) (role : ℕ → Role) (views : List View) (words : List ℕ) (at next id : ℕ) (v : View) → IsKept words views log role at next → get_elem? views id ≡ some v → v.live ≡ true → v.number ≡ 0 → v.out ≡ []
    → (bound n : ℕ) → n ≤ bound → 17 < n → (by : ℕ) → role n ≡ held by → ⊥
none_out log role views words at next id v k here live zero_is out zero n le l by e = absurd (omega arith)
none_out log role views words at next id v k here live zero_is out (suc m) n le l by e =
    let p = (k.holder n by e).4 l in
    let u = p.1 in
    let f = k.each p.0 u p.2 in
    let deeper = none_out log role views words at next id v k here live zero_is out m u.number (omega (arith, le, p.4)) in
    dite (dec_le u.number 17)
    (λ (low : u.number ≤ 17). dite (ℕ_discrete u.number 0)
    (λ (z : u.number ≡ 0).
    let same : p.0 ≡ id = apart p.0 id (sym (f.holds p.3) ∙ ap role (z ∙ sym zero_is) ∙ (k.each id v here).holds live) in
    let is : u ≡ v = some-injective u v (sym p.2 ∙ ap (get_elem? views) same ∙ here) in
    has_none n (subst (λ (o : List ℕ). Has o n) (ap (λ (x : View). x.out) is ∙ out) p.5))
    (λ (nz : u.number ≢ 0). has_none n (subst (λ (o : List ℕ). Has o n) (f.low p.3 (pos u.number nz) low).0 p.5)))
    (λ (high : ¬ (u.number ≤ 17)). deeper (lt_of_not-le high) p.0 (f.holds p.3))

-- what the first pass then knows
pub settled : (s : State Entry View) (id : ℕ) (v : View) → Kept s → get_elem? s.views id ≡ some v → v.rules ≡ true → v.live ≡ true → v.number ≡ 0 → v.out ≡ [] → v.flight ≡ [] → IsSettled v.all v
settled s id v h at rules live zero_is out clear =
    let k = h.4 in
    let log = h.0 in
    let role = h.1 in
    let mine = k.each id v at in
    let whole = mine.whole rules in (
      ap (entries_of 0) whole ∙ ap (λ n. entries_of n log) (sym zero_is) ∙ mine.mine live ∙ ap (λ (l : List Entry). l ++ v.mine) clear,
      (λ n m e. ap (entries_of n) whole ∙ (mine.kin n m e).1),
      λ n l. subst (λ (x : List Entry). (entries_of n x ≡ []) ⊎ Has v.kin (n, entries_of n x)) (sym whole) (by_role n l (role n) refl),
    )
  where
    by_role : (n : ℕ) → 17 < n → (r : Role) → h.1 n ≡ r → (entries_of n h.0 ≡ []) ⊎ Has v.kin (n, entries_of n h.0)
    by_role n l nobody_yet e = inl (h.4.quiet n e)
    by_role n l (drawn_by by) e = inl (h.4.undrawn n by e)
    by_role n l (held by) e = absurd (none_out h.0 h.1 s.views s.words h.2 h.3 id v h.4 at live zero_is out n n (omega arith) l by e)
    by_role n l (kin_of by) e =
        let g = h.4.kin_holder n by e in
        let u = g.0 in
        let f = h.4.each by u g.1 in
        let deeper = none_out h.0 h.1 s.views s.words h.2 h.3 id v h.4 at live zero_is out u.number u.number (omega arith) in
        dite (dec_le u.number 17)
        (λ (low : u.number ≤ 17). dite (ℕ_discrete u.number 0)
        (λ (z : u.number ≡ 0).
        let same : by ≡ id = apart by id (sym (f.holds g.2) ∙ ap h.1 (z ∙ sym zero_is) ∙ (h.4.each id v at).holds live) in
        let is : u ≡ v = some-injective u v (sym g.1 ∙ ap (get_elem? s.views) same ∙ at) in
        inr (subst (λ (m : List Entry). Has v.kin (n, m)) (sym (f.kin n g.3 g.4).1) (subst (λ (x : View). Has x.kin (n, g.3)) is g.4)))
        (λ (nz : u.number ≢ 0). absurd (has_none (n, g.3) (subst (λ (o : List (ℕ × List Entry)). Has o (n, g.3)) (f.low g.2 (pos u.number nz) low).1 g.4))))
        (λ (high : ¬ (u.number ≤ 17)). absurd (deeper (lt_of_not-le high) by (f.holds g.2)))

kept_length : (ws : List ℕ) (m next : ℕ) → ws ≡ m ∷ next ∷ [] → slice_set ws 0 (slice_index ws 0) ≡ ws
kept_length ws m next cells = rw cells refl

pub settles : (slots id : ℕ) (v : View) (c : List (ℕ × Entry)) → v.rules ≡ true → v.live ≡ true → v.number ≡ 0 → v.out ≡ [] → v.flight ≡ [] → Allows Kept slots id (v, c) 0 (λ n. n) (Settles (step slots 0 0 0 none) (v, c))
settles slots id v c rules live zero_is out clear s h few at range =
    let k = h.4 in
    let words : slice_set s.words 0 (slice_index s.words 0) ≡ s.words = kept_length s.words (length h.0) h.3 k.cells in
    let views : set s.views id v ≡ s.views = set_again s.views id v at in (
      v,
      keeps,
      tt,
      (h.0, h.1, h.2, h.3, subst (λ (x : List ℕ × List View). IsKept x.0 x.1 h.0 h.1 h.2 h.3) (λ i. (sym words i, sym views i)) k),
      (refl, settled s id v h at rules live zero_is out clear),
    )

-- a pass learns that its numbers are apart
pub learns : (slots id : ℕ) (v : View) (c : List (ℕ × Entry)) → Allows Kept slots id (v, c) 0 (λ n. n) (Knows (step slots 0 0 0 none) (v, c))
learns slots id v c s h few at range =
    let k = h.4 in
    let words : slice_set s.words 0 (slice_index s.words 0) ≡ s.words = kept_length s.words (length h.0) h.3 k.cells in
    let views : set s.views id v ≡ s.views = set_again s.views id v at in (
      v,
      keeps,
      tt,
      (h.0, h.1, h.2, h.3, subst (λ (x : List ℕ × List View). IsKept x.0 x.1 h.0 h.1 h.2 h.3) (λ i. (sym words i, sym views i)) k),
      (refl, (k.each id v at).apart),
    )

-- the kin of one pass become another's
abbrev redirect : ℕ → ℕ → Role → Role
redirect other id nobody_yet = nobody_yet
redirect other id (held by) = held by
redirect other id (drawn_by by) = drawn_by by
redirect other id (kin_of by) = kin_of (cond (by == other) id by)

redirect_nobody : (other id : ℕ) (r : Role) → redirect other id r ≡ nobody_yet → r ≡ nobody_yet
redirect_nobody other id nobody_yet e = refl
redirect_nobody other id (held by) e = absurd (cc (e))
redirect_nobody other id (drawn_by by) e = absurd (cc (e))
redirect_nobody other id (kin_of by) e = absurd (cc (e))

redirect_held : (other id by : ℕ) (r : Role) → redirect other id r ≡ held by → r ≡ held by
redirect_held other id by nobody_yet e = absurd (cc (e))
redirect_held other id by (held b) e = e
redirect_held other id by (drawn_by b) e = absurd (cc (e))
redirect_held other id by (kin_of b) e = absurd (cc (e))

redirect_drawn : (other id by : ℕ) (r : Role) → redirect other id r ≡ drawn_by by → r ≡ drawn_by by
redirect_drawn other id by nobody_yet e = absurd (cc (e))
redirect_drawn other id by (held b) e = absurd (cc (e))
redirect_drawn other id by (drawn_by b) e = e
redirect_drawn other id by (kin_of b) e = absurd (cc (e))

redirect_kin : (other id by : ℕ) (r : Role) → redirect other id r ≡ kin_of by → ((r ≡ kin_of other) × (by ≡ id)) ⊎ ((r ≡ kin_of by) × (by ≢ other))
redirect_kin other id by nobody_yet e = absurd (cc (e))
redirect_kin other id by (held b) e = absurd (cc (e))
redirect_kin other id by (drawn_by b) e = absurd (cc (e))
redirect_kin other id by (kin_of b) e = dite (ℕ_discrete b other)
    (λ (same : b ≡ other). inl (ap kin_of same, sym (kin_is (cond (b == other) id b) by e) ∙ ap (λ t. cond t id b) (eq-eqb b other same)))
    (λ (ne : b ≢ other). let is : b ≡ by = sym (ap (λ t. cond t id b) (ne_eqb b other ne)) ∙ kin_is (cond (b == other) id b) by e in inr (ap kin_of is, λ x. ne (is ∙ x)))

redirect_else : (other id by : ℕ) → by ≢ other → redirect other id (kin_of by) ≡ kin_of by
redirect_else other id by ne = ap (λ t. kin_of (cond t id by)) (ne_eqb by other ne)

redirect_here : (other id : ℕ) → redirect other id (kin_of other) ≡ kin_of id
redirect_here other id = ap (λ t. kin_of (cond t id other)) (eq-eqb other other refl)

has_without : (n k : ℕ) (xs : List ℕ) (i : ℕ) → k ≢ n → get_elem? xs i ≡ some k → Has (without n xs) k
has_without n k [] i ne e = absurd (some-ne-none k (sym e))
has_without n k (x ∷ xs) zero ne e = subst (λ b. Has (cond b (without n xs) (x ∷ without n xs)) k) (sym (ne_eqb x n (λ y. ne (sym (some-injective x k e) ∙ y)))) (0, e)
has_without n k (x ∷ xs) (suc i) ne e = go (x == n) (has_without n k xs i ne e)
  where
    go : (b : Bool) → Has (without n xs) k → Has (cond b (without n xs) (x ∷ without n xs)) k
    go true h = h
    go false h = (suc h.0, h.1)

-- what is left without a number was there
without_has : (n k : ℕ) (xs : List ℕ) (i : ℕ) → get_elem? (without n xs) i ≡ some k → Has xs k
without_has n k [] i e = absurd (some-ne-none k (sym e))
without_has n k (x ∷ xs) i e = go (x == n) i e (λ j f. without_has n k xs j f)
  where
    go : (b : Bool) (i : ℕ) → get_elem? (cond b (without n xs) (x ∷ without n xs)) i ≡ some k → ((j : ℕ) → get_elem? (without n xs) j ≡ some k → Has xs k) → Has (x ∷ xs) k
    go true i e rest = let h = rest i e in (suc h.0, h.1)
    go false zero e rest = (0, e)
    go false (suc i) e rest = let h = rest i e in (suc h.0, h.1)

-- the numbers of two passes are apart
joined_apart : (log : List Entry) (role : ℕ → Role) (id other : ℕ) (v w : View) → other ≢ id → v.live ≡ true → w.live ≡ true → Fits log role id v → Fits log role other w → Apart (numbers (joined v w))
joined_apart log role id other v w ne live lives mine theirs =
    subst Apart (ap (λ ks. v.number ∷ ks) (sym (map-append (λ (p : ℕ × List Entry). p.0) v.kin ((w.number, w.mine) ∷ w.kin))))
    (both_apart (numbers v) (numbers w) (mine.apart live) (theirs.apart lives)
    (λ k h t. by_roles k (whose log role id v live mine k h) (whose log role other w lives theirs k t)))
  where
    by_roles : (k : ℕ) → (role k ≡ held id) ⊎ (role k ≡ kin_of id) → (role k ≡ held other) ⊎ (role k ≡ kin_of other) → ⊥
    by_roles k (inl a) (inl b) = ne (apart other id (sym b ∙ a))
    by_roles k (inl a) (inr b) = absurd (cc (a, b))
    by_roles k (inr a) (inl b) = absurd (cc (a, b))
    by_roles k (inr a) (inr b) = ne (kin_is other id (sym b ∙ a))

-- a live view that is neither of two stays where both change
stays : (views : List View) (id other by : ℕ) (b c u : View) → get_elem? views by ≡ some u → by ≢ id → by ≢ other → get_elem? (set (set views id b) other c) by ≡ some u
stays views id other by b c u e p q = set_else (set views id b) other by c q ∙ set_else views id by b p ∙ e

-- a pass with nothing out is joined into a pass
pub joins : (id : ℕ) (v : View) (other : ℕ) (w : View) → v.live ≡ true → (1 ≤ v.number → 17 < v.number) → w.live ≡ true → w.out ≡ [] → w.flight ≡ [] → Joins Kept id v other w (joined v w) spent
joins id v other w live client lives nothing clear s h at ne there =
    let k = h.4 in
    let log = h.0 in
    let role = h.1 in
    let n = w.number in
    let both = joined v w in
    let was : get_elem? s.views other ≡ some w = ⊎_elim (λ (t : (other ≡ id) × (both ≡ w)). absurd (ne t.0)) (λ (t : (other ≢ id) × (get_elem? s.views other ≡ some w)). t.1) (at_set s.views id other both w there) in
    let mine = k.each id v at in
    let theirs = k.each other w was in
    let ours : role n ≡ held other = theirs.holds lives in
    let role' = put n (kin_of id) (λ j. redirect other id (role j)) in
    let views = set (set s.views id both) other spent in
    let else_is : (j : ℕ) → j ≢ n → role' j ≡ redirect other id (role j) = λ j no. put_else n (kin_of id) (λ x. redirect other id (role x)) j no in
    let here : get_elem? views id ≡ some both = set_else (set s.views id both) other id spent (λ x. ne (sym x)) ∙ here_set s.views id v both at in
    let nobody' : (j : ℕ) → role j ≡ nobody_yet → role' j ≡ nobody_yet = λ j e. else_is j (role_ne role j n e ours (λ x. absurd (cc (x)))) ∙ ap (redirect other id) e in
    let held' : (j by : ℕ) → by ≢ other → role j ≡ held by → role' j ≡ held by = λ j by no e. else_is j (role_ne role j n e ours (λ x. no (apart by other x))) ∙ ap (redirect other id) e in
    let drawn' : (j by : ℕ) → role j ≡ drawn_by by → role' j ≡ drawn_by by = λ j by e. else_is j (role_ne role j n e ours (λ x. absurd (cc (x)))) ∙ ap (redirect other id) e in
    let kin' : (j by : ℕ) → by ≢ other → role j ≡ kin_of by → role' j ≡ kin_of by = λ j by no e. else_is j (role_ne role j n e ours (λ x. absurd (cc (x)))) ∙ ap (redirect other id) e ∙ redirect_else other id by no in
    let theirs' : (j : ℕ) → role j ≡ kin_of other → role' j ≡ kin_of id = λ j e. else_is j (role_ne role j n e ours (λ x. absurd (cc (x)))) ∙ ap (redirect other id) e ∙ redirect_here other id in
    let was_nobody : (j : ℕ) → role' j ≡ nobody_yet → role j ≡ nobody_yet = λ j e. redirect_nobody other id (role j) (put_old n (kin_of id) (λ y. redirect other id (role y)) j nobody_yet e (λ y. absurd (cc (y)))).1 in
    let not_other : id ≢ other = λ x. ne (sym x) in (
      log,
      role',
      h.2,
      h.3,
      record {
        cells = k.cells;
        each = set_each (λ by u. (by ≢ other) → Fits log role' by u) (Fits log role') (set s.views id both) other spent
            (set_each (Fits log role) (λ by u. (by ≢ other) → Fits log role' by u) s.views id both k.each
            (λ by u no _ f far. record {
              prefix = f.prefix;
              whole = f.whole;
              holds = λ l. held' u.number by far (f.holds l);
              mine = f.mine;
              landed = f.landed;
              draws = λ j e. let x = f.draws j e in (drawn' j by x.0, x.1, x.2, x.3);
              kin = λ j m e. let x = f.kin j m e in (kin' j by far x.0, x.1);
              low = f.low;
              count = λ l q j a b. nobody' j (f.count l q j a b);
              apart = f.apart;
              out = λ j o e. f.out j o (was_nobody j e);
            })
            (λ far. record {
              prefix = prefix_longer v.seen w.seen log mine.prefix theirs.prefix;
              whole = mine.whole;
              holds = λ l. held' v.number id not_other (mine.holds l);
              mine = mine.mine;
              landed = mine.landed;
              draws = λ j e. let x = mine.draws j e in (drawn' j id x.0, x.1, x.2, x.3);
              kin = λ j m e. ⊎_elim
                  (λ (t : Has v.kin (j, m)). let x = mine.kin j m t in (kin' j id not_other x.0, x.1))
                  (λ (t : Has ((n, w.mine) ∷ w.kin) (j, m)). ⊎_elim
                  (λ (q : (n, w.mine) ≡ (j, m)). subst (λ (x : ℕ × List Entry). (role' x.0 ≡ kin_of id) × (entries_of x.0 log ≡ x.1)) q (put_here n (kin_of id) (λ x. redirect other id (role x)), theirs.mine lives ∙ ap (λ (l : List Entry). l ++ w.mine) clear))
                  (λ (q : Has w.kin (j, m)). let x = theirs.kin j m q in (theirs' j x.0, x.1))
                  (has_cons (n, w.mine) (j, m) w.kin t.0 t.1))
                  (has_both v.kin ((n, w.mine) ∷ w.kin) (j, m) e.0 e.1);
              low = λ l a b. absurd (omega (arith, client a, b));
              count = λ l q j a b. nobody' j (mine.count l q j a b);
              apart = λ _. joined_apart log role id other v w ne live lives mine theirs;
              out = λ j o e. mine.out j (without_has n j v.out o.0 o.1) (was_nobody j e);
            }))
            (λ by u no _ f. f no) (fits_spent log role' other);
        one = set_each (λ by u. u.rules ≡ true → by ≡ h.2) (λ by u. u.rules ≡ true → by ≡ h.2) (set s.views id both) other spent
            (set_each (λ by u. u.rules ≡ true → by ≡ h.2) (λ by u. u.rules ≡ true → by ≡ h.2) s.views id both k.one (λ by u _ _ f. f) (λ r. k.one id v at r))
            (λ by u _ _ f. f) (λ e. absurd (off e));
        quiet = λ j e. let x = put_old n (kin_of id) (λ y. redirect other id (role y)) j nobody_yet e (λ y. absurd (cc (y))) in k.quiet j (redirect_nobody other id (role j) x.1);
        undrawn = λ j by e. let x = put_old n (kin_of id) (λ y. redirect other id (role y)) j (drawn_by by) e (λ y. absurd (cc (y))) in k.undrawn j by (redirect_drawn other id by (role j) x.1);
        holder = λ j by e.
            let x = put_old n (kin_of id) (λ y. redirect other id (role y)) j (held by) e (λ y. absurd (cc (y))) in
            let was_held : role j ≡ held by = redirect_held other id by (role j) x.1 in
            let g = k.holder j by was_held in
            let far : by ≢ other = λ (y : by ≡ other). x.0 (sym g.3 ∙ ap (λ (z : View). z.number) (some-injective g.0 w (sym g.1 ∙ ap (get_elem? s.views) y ∙ was))) in
            let up : (17 < j → (a : ℕ) × (u : View) × (get_elem? views a ≡ some u) × (u.live ≡ true) × (u.number < j) × Has u.out j) = λ l.
            let p = g.4 l in
            dite (ℕ_discrete p.0 id)
            (λ (y : p.0 ≡ id). let is : p.1 ≡ v = some-injective p.1 v (sym p.2 ∙ ap (get_elem? s.views) y ∙ at) in
            let out : Has v.out j = subst (λ (z : View). Has z.out j) is p.5 in
            (id, both, here, live, subst (λ (z : View). z.number < j) is p.4, has_without n j v.out out.0 x.0 out.1))
            (λ (y : p.0 ≢ id). dite (ℕ_discrete p.0 other)
            (λ (z : p.0 ≡ other). absurd (has_none j (subst (λ (o : List ℕ). Has o j) (ap (λ (a : View). a.out) (some-injective p.1 w (sym p.2 ∙ ap (get_elem? s.views) z ∙ was)) ∙ nothing) p.5)))
            (λ (z : p.0 ≢ other). (p.0, p.1, stays s.views id other p.0 both spent p.1 p.2 y z, p.3, p.4, p.5))) in
            dite (ℕ_discrete by id)
            (λ (y : by ≡ id). let is : g.0 ≡ v = some-injective g.0 v (sym g.1 ∙ ap (get_elem? s.views) y ∙ at) in
            (both, ap (get_elem? views) y ∙ here, live, sym (ap (λ (z : View). z.number) is) ∙ g.3, up))
            (λ (y : by ≢ id). (g.0, stays s.views id other by both spent g.0 g.1 y far, g.2, g.3, up));
        kin_holder = λ j by e. ⊎_elim
            (λ (t : (j ≡ n) × (kin_of id ≡ kin_of by)). subst (λ (x : ℕ × ℕ). IsKinHolder views x.0 x.1) (λ i. (sym t.0 i, kin_is id by t.1 i)) (both, here, live, w.mine, has_right v.kin ((n, w.mine) ∷ w.kin) (n, w.mine) (0, refl)))
            (λ (t : (j ≢ n) × (redirect other id (role j) ≡ kin_of by)). ⊎_elim
            (λ (q : (role j ≡ kin_of other) × (by ≡ id)).
            let g = k.kin_holder j other q.0 in
            let is : g.0 ≡ w = some-injective g.0 w (sym g.1 ∙ was) in
            let kin : Has w.kin (j, g.3) = subst (λ (z : View). Has z.kin (j, g.3)) is g.4 in
            subst (IsKinHolder views j) (sym q.1) (both, here, live, g.3, has_right v.kin ((n, w.mine) ∷ w.kin) (j, g.3) (suc kin.0, kin.1)))
            (λ (q : (role j ≡ kin_of by) × (by ≢ other)).
            let g = k.kin_holder j by q.0 in
            dite (ℕ_discrete by id)
            (λ (y : by ≡ id). let is : g.0 ≡ v = some-injective g.0 v (sym g.1 ∙ ap (get_elem? s.views) y ∙ at) in
            (both, ap (get_elem? views) y ∙ here, live, g.3, has_left v.kin ((n, w.mine) ∷ w.kin) (j, g.3) (subst (λ (z : View). Has z.kin (j, g.3)) is g.4)))
            (λ (y : by ≢ id). (g.0, stays s.views id other by both spent g.0 g.1 y q.1, g.2, g.3, g.4)))
            (redirect_kin other id by (role j) t.1))
            (put_either n (kin_of id) (λ y. redirect other id (role y)) j (kin_of by) e);
        fresh = λ j a b. nobody' j (k.fresh j a b);
        high = k.high;
      },
    )

pub unused : (slots id : ℕ) (v : View) (c : List (ℕ × Entry)) → v.live ≡ true → v.number ≡ 0 → v.count < 17 → Allows Kept slots id (v, c) 0 (λ n. n) (Counting (step slots 0 0 0 none) (v, c))
unused slots id v c live zero_is less s h few at range =
    let k = h.4 in
    let words : slice_set s.words 0 (slice_index s.words 0) ≡ s.words = kept_length s.words (length h.0) h.3 k.cells in
    let views : set s.views id v ≡ s.views = set_again s.views id v at in
    let mine = k.each id v at in (
      v,
      keeps,
      tt,
      (h.0, h.1, h.2, h.3, subst (λ (x : List ℕ × List View). IsKept x.0 x.1 h.0 h.1 h.2 h.3) (λ i. (sym words i, sym views i)) k),
      (
        refl,
        entries_none (v.count + 1) v.seen h.0 mine.prefix (k.quiet (v.count + 1) (mine.count live zero_is (v.count + 1) (omega arith) (omega (arith, less)))),
        new_to h.0 h.1 id v (v.count + 1) live mine (mine.count live zero_is (v.count + 1) (omega arith) (omega (arith, less))),
      ),
    )
