-- Each step keeps the rule of the queue.
use Rattle.std.proofs.Common.{◌≡◌, ◌≢◌, ◌⊎◌, ℕ, zero, suc, ◌+◌, ◌≤◌, true, false, ◌==◌, cond, List, [], ◌∷◌, ◌++◌, length, map, flat_map, set, refl, sym, ap, ◌∙◌, subst, inl, inr, ⊎_elim, true≢false, arith, append_assoc, length-append}
use mathlib.Core.Option.{Option, some, none, some-ne-none, some-injective}
use lib.ListN.{get_elem?}
use Rattle.std.proofs.lemmas.Bool.{eq-eqb}
use Rattle.std.proofs.lemmas.List.Elements.{filter-append}
use Rattle.std.proofs.lemmas.List.{flat_map_more, append-nil}
use Rattle.crossbeam_queue.specs.Fifo.{Pushes, Pops, Forks, Merges, Learns}
use Rattle.crossbeam_queue.proofs.Lists.{at_set, set_again}
use Rattle.qc_event.specs.declared.event.Ask.{Ask}
use Rattle.qc_lane.specs.declared.lane.Lane.{Lane}
use Rattle.qc_lane.specs.declared.lane.Request.{Request}
use Rattle.qc_lane.specs.Lanes.{of, request, numbered, taker, putter, spent, seated, with_put, with_got, last_from, noted, told, closed, freed, reopened, Fits, Kept, Puts, Takes, Balances, IsBounded}

-- REQUESTS

of_own : (s k : ℕ) (asks : List Ask) → of s (numbered s k asks) ≡ numbered s k asks
of_own s k [] = refl
of_own s k (a ∷ more) = rw (eq-eqb s s refl) (ap (λ (l : List Request). request s k a ∷ l) (of_own s (k + 1) more))

of_other : (s t k : ℕ) (asks : List Ask) → (t == s) ≡ false → of s (numbered t k asks) ≡ []
of_other s t k [] e = refl
of_other s t k (a ∷ more) e = rw e (of_other s t (k + 1) more e)

numbered_append : (s k : ℕ) (xs ys : List Ask) (n : ℕ) → n ≡ k + length xs → numbered s k xs ++ numbered s n ys ≡ numbered s k (xs ++ ys)
numbered_append s k [] ys n e = ap (λ (i : ℕ). numbered s i ys) (omega (arith, e))
numbered_append s k (x ∷ xs) ys n e = ap (λ (l : List Request). request s k x ∷ l) (numbered_append s (k + 1) xs ys n (omega (arith, e)))

pub length_numbered : (s k : ℕ) (asks : List Ask) → length (numbered s k asks) ≡ length asks
length_numbered s k [] = refl
length_numbered s k (a ∷ more) = ap suc (length_numbered s (k + 1) more)

-- the request at a place has the number of the place
number_at : (s k : ℕ) (xs : List Request) (r : Request) (ys : List Request) (asks : List Ask) → xs ++ r ∷ ys ≡ numbered s k asks → r.number ≡ k + length xs
number_at s k [] r ys [] e = absurd (some-ne-none r (ap (λ (l : List Request). get_elem? l 0) e))
number_at s k [] r ys (a ∷ more) e = ap (λ (q : Request). q.number) (some-injective r (request s k a) (ap (λ (l : List Request). get_elem? l 0) e)) ∙ omega arith
number_at s k (x ∷ xs) r ys [] e = absurd (some-ne-none x (ap (λ (l : List Request). get_elem? l 0) e))
number_at s k (x ∷ xs) r ys (a ∷ more) e = number_at s (k + 1) xs r ys more (ap tail e) ∙ omega arith
  where
    tail : List Request → List Request
    tail [] = []
    tail (y ∷ l) = l

-- VIEWS

abbrev All : (ℕ → Lane → Type 0) → List Lane → Type 0
All F views = (pass : ℕ) (v : Lane) → get_elem? views pass ≡ some v → F pass v

all_set : (F : ℕ → Lane → Type 0) (views : List Lane) (pass : ℕ) (w : Lane) → F pass w → ((j : ℕ) (u : Lane) → j ≢ pass → get_elem? views j ≡ some u → F j u) → All F (set views pass w)
all_set F views pass w mine others j u e = ⊎_elim (λ (x : (j ≡ pass) × (w ≡ u)). subst (λ (y : ℕ × Lane). F y.0 y.1) (λ i. (sym x.0 i, x.1 i)) mine)
    (λ (x : (j ≢ pass) × (get_elem? views j ≡ some u)). others j u x.0 x.1) (at_set views pass j w u e)

at_new : (l : List Lane) (a b : Lane) (j : ℕ) → get_elem? (l ++ a ∷ []) j ≡ some b → (get_elem? l j ≡ some b) ⊎ ((a ≡ b) × (j ≡ length l))
at_new [] a b zero e = inr (some-injective a b e, refl)
at_new [] a b (suc j) e = absurd (some-ne-none b (sym e))
at_new (x ∷ xs) a b zero e = inl e
at_new (x ∷ xs) a b (suc j) e = ⊎_elim (λ t. inl t) (λ (t : (a ≡ b) × (j ≡ length xs)). inr (t.0, ap suc t.1)) (at_new xs a b j e)

all_new : (F : ℕ → Lane → Type 0) (views : List Lane) (w : Lane) → F (length views) w → All F views → All F (views ++ w ∷ [])
all_new F views w mine others j u e = ⊎_elim (λ t. others j u t) (λ (t : (w ≡ u) × (j ≡ length views)). subst (λ (y : ℕ × Lane). F y.0 y.1) (λ i. (sym t.1 i, t.0 i)) mine) (at_new views w u j e)

longer : (s : ℕ) (xs ys : List Request) (k : ℕ) → k ≤ length (of s xs) → k ≤ length (of s (xs ++ ys))
longer s xs ys k h = rw (filter-append (λ (r : Request). r.from == s) xs ys) (omega (arith, h, length-append (of s xs) (of s ys)))

-- what is written at one number
at_one : {A : Type 0} (f : ℕ → A) (n : ℕ) (x : A) (s : ℕ) → ((s ≡ n) × (cond (s == n) x (f s) ≡ x)) ⊎ ((s ≢ n) × (cond (s == n) x (f s) ≡ f s) × ((n == s) ≡ false))
at_one f n x s = grind arith

-- a session that had no writer, and sent nothing, has none where another one's is changed
none_still : (writer : ℕ → Option ℕ) (sent : ℕ → List Ask) (from to holder : ℕ) → writer from ≡ some holder → (s : ℕ) → (writer s ≡ none) × (sent s ≡ []) → (cond (s == from) (some to) (writer s) ≡ none) × (sent s ≡ [])
none_still writer sent from to holder held s f = (
  ⊎_elim
      (λ (t : (s ≡ from) × (cond (s == from) (some to) (writer s) ≡ some to)). absurd (some-ne-none holder (sym held ∙ ap writer (sym t.0) ∙ f.0)))
      (λ (t : (s ≢ from) × (cond (s == from) (some to) (writer s) ≡ writer s) × ((from == s) ≡ false)). t.1 ∙ f.0)
      (at_one writer from (some to) s),
  f.1,
)

-- the request of a session is among those of the session
pub kept : (r : Request) (l : List Request) → of r.from (r ∷ l) ≡ r ∷ of r.from l
kept r l = rw (eq-eqb r.from r.from refl) refl

-- the number that a note of one's own session tells, and else one's own
told_known : (s t k n a b : ℕ) → (s ≡ t → a ≡ b) → k ≤ a → n ≤ b → cond (s == t) k n ≤ b
told_known s t k n a b same h l = grind (arith, same)

-- STEPS

module _ {T : Type 0} (requests : T → List Request) where
  abbrev asks : T → List Ask
  asks x = map (λ (r : Request). r.ask) (requests x)

  pub begins : Kept requests [] (taker ∷ [])
  begins = ((λ s. none), 0, (λ s. []), [], (λ s. refl), one)
    where
      one : (pass : ℕ) (v : Lane) → get_elem? (taker ∷ []) pass ≡ some v → Fits (λ s. none) 0 (λ s. []) [] pass v
      one zero v e = subst (Fits (λ s. none) 0 (λ s. []) [] 0) (some-injective taker v e)
          record { puts = λ p. absurd (true≢false (sym p)); takes = λ _. (refl, refl, λ s _. (refl, refl)); known = omega arith }
      one (suc pass) v e = absurd (some-ne-none v (sym e))

  -- what is of each session behind a further item
  of_more : (s : ℕ) (got : List Request) (items : List T) (x : T) → of s (got ++ flat_map requests (items ++ x ∷ [])) ≡ of s (got ++ flat_map requests items) ++ of s (requests x)
  of_more s got items x = ap (of s) (sym (flat_map_more requests got items x)) ∙ filter-append (λ (r : Request). r.from == s) (got ++ flat_map requests items) (requests x)

  pub puts : (n pass : ℕ) (v : Lane) (x : T) → v.puts ≡ true → requests x ≡ numbered v.from (length v.put) (map (λ (r : Request). r.ask) (requests x)) → Pushes (Kept requests) n pass v x (Puts requests v x)
  puts n pass v x may is items views room h at = (w, (h.0, h.1, sent, h.3, balance, all_set (Fits h.0 h.1 sent h.3) views pass w here others), refl)
    where
      put : List Ask
      put = v.put ++ asks x

      w : Lane
      w = with_put put v

      mine : Fits h.0 h.1 h.2 h.3 pass v
      mine = h.5 pass v at

      sent : ℕ → List Ask
      sent s = cond (s == v.from) put (h.2 s)

      sent_at : (s : ℕ) → ((s ≡ v.from) × (sent s ≡ put)) ⊎ ((s ≢ v.from) × (sent s ≡ h.2 s) × ((v.from == s) ≡ false))
      sent_at s = at_one h.2 v.from put s

      own : sent v.from ≡ put
      own = ⊎_elim (λ (t : (v.from ≡ v.from) × (sent v.from ≡ put)). t.1) (λ (t : (v.from ≢ v.from) × (sent v.from ≡ h.2 v.from) × ((v.from == v.from) ≡ false)). absurd (t.0 refl)) (sent_at v.from)

      own_balance : of v.from (h.3 ++ flat_map requests (items ++ x ∷ [])) ≡ numbered v.from 0 put
      own_balance = of_more v.from h.3 items x
          ∙ ap (λ (l : List Request). l ++ of v.from (requests x)) (h.4 v.from ∙ ap (numbered v.from 0) (sym (mine.puts may).1))
          ∙ ap (λ (l : List Request). numbered v.from 0 v.put ++ l) (ap (of v.from) is ∙ of_own v.from (length v.put) (asks x))
          ∙ numbered_append v.from 0 v.put (asks x) (length v.put) (omega arith)

      balance : (s : ℕ) → of s (h.3 ++ flat_map requests (items ++ x ∷ [])) ≡ numbered s 0 (sent s)
      balance s = ⊎_elim
          (λ (t : (s ≡ v.from) × (sent s ≡ put)). subst (λ k. of k (h.3 ++ flat_map requests (items ++ x ∷ [])) ≡ numbered k 0 put) (sym t.0) own_balance ∙ ap (numbered s 0) (sym t.1))
          (λ (t : (s ≢ v.from) × (sent s ≡ h.2 s) × ((v.from == s) ≡ false)).
          of_more s h.3 items x
          ∙ ap (λ (l : List Request). of s (h.3 ++ flat_map requests items) ++ l) (ap (of s) is ∙ of_other s v.from (length v.put) (asks x) t.2)
          ∙ append-nil (of s (h.3 ++ flat_map requests items))
          ∙ h.4 s ∙ ap (numbered s 0) (sym t.1))
          (sent_at s)

      late : (s : ℕ) → (h.0 s ≡ none) × (h.2 s ≡ []) → (h.0 s ≡ none) × (sent s ≡ [])
      late s f = (
        f.0,
        ⊎_elim
            (λ (t : (s ≡ v.from) × (sent s ≡ put)). absurd (some-ne-none pass (sym (mine.puts may).0 ∙ ap h.0 (sym t.0) ∙ f.0)))
            (λ (t : (s ≢ v.from) × (sent s ≡ h.2 s) × ((v.from == s) ≡ false)). t.1 ∙ f.1)
            (sent_at s),
      )

      here : Fits h.0 h.1 sent h.3 pass w
      here = record {
        puts = λ p. ((mine.puts p).0, sym own);
        takes = λ p. let t = mine.takes p in (t.0, t.1, λ s low. late s (t.2 s low));
        known = mine.known;
      }

      others : (j : ℕ) (u : Lane) → j ≢ pass → get_elem? views j ≡ some u → Fits h.0 h.1 sent h.3 j u
      others j u apart e = let theirs = h.5 j u e in record {
        puts = λ p. (
          (theirs.puts p).0,
          (theirs.puts p).1 ∙ sym (⊎_elim
              (λ (t : (u.from ≡ v.from) × (sent u.from ≡ put)). absurd (apart (some-injective j pass (sym (theirs.puts p).0 ∙ ap h.0 t.0 ∙ (mine.puts may).0))))
              (λ (t : (u.from ≢ v.from) × (sent u.from ≡ h.2 u.from) × ((v.from == u.from) ≡ false)). t.1)
              (sent_at u.from)),
        );
        takes = λ p. let t = theirs.takes p in (t.0, t.1, λ s low. late s (t.2 s low));
        known = theirs.known;
      }

  pub takes : (pass : ℕ) (v : Lane) → v.takes ≡ true → Pops (Kept requests) pass v (Takes requests v)
  takes pass v may x items views h at = (w, (h.0, h.1, h.2, got, balance, all_set (Fits h.0 h.1 h.2 got) views pass w here others), (refl, number))
    where
      mine : Fits h.0 h.1 h.2 h.3 pass v
      mine = h.5 pass v at

      got : List Request
      got = h.3 ++ requests x

      w : Lane
      w = with_got (v.got ++ requests x) v

      same_got : v.got ≡ h.3
      same_got = (mine.takes may).1

      balance : (s : ℕ) → of s (got ++ flat_map requests items) ≡ numbered s 0 (h.2 s)
      balance s = ap (of s) (append_assoc h.3 (requests x) (flat_map requests items)) ∙ h.4 s

      here : Fits h.0 h.1 h.2 got pass w
      here = record {
        puts = mine.puts;
        takes = λ p. ((mine.takes p).0, ap (λ (l : List Request). l ++ requests x) same_got, (mine.takes p).2);
        known = longer v.from h.3 (requests x) v.known mine.known;
      }

      others : (j : ℕ) (u : Lane) → j ≢ pass → get_elem? views j ≡ some u → Fits h.0 h.1 h.2 got j u
      others j u apart e = let theirs = h.5 j u e in record {
        puts = theirs.puts;
        takes = λ p. absurd (apart ((theirs.takes p).0 ∙ sym (mine.takes may).0));
        known = longer u.from h.3 (requests x) u.known theirs.known;
      }

      number : (r : Request) → requests x ≡ r ∷ [] → r.number ≡ length (of r.from v.got)
      number r is =
          let f = λ (q : Request). q.from == r.from in
          let there : of r.from h.3 ++ r ∷ of r.from (flat_map requests items) ≡ numbered r.from 0 (h.2 r.from) =
          ap (λ (l : List Request). of r.from h.3 ++ l) (sym (kept r (flat_map requests items)))
          ∙ sym (filter-append f h.3 (r ∷ flat_map requests items))
          ∙ ap (λ (l : List Request). of r.from (h.3 ++ (l ++ flat_map requests items))) (sym is)
          ∙ h.4 r.from in
          let n : r.number ≡ 0 + length (of r.from h.3) = number_at r.from 0 (of r.from h.3) r (of r.from (flat_map requests items)) (h.2 r.from) there in
          omega (arith, n, ap (λ (l : List Request). length (of r.from l)) same_got)

  pub seats : (pass : ℕ) (v : Lane) → v.takes ≡ true → Forks (Kept requests) pass v (seated v) (putter v.made)
  seats pass v may items views h at = (writer, h.1, h.2, h.3, h.4, all_new F (set views pass (seated v)) (putter v.made) new (all_set F views pass (seated v) here others))
    where
      mine : Fits h.0 h.1 h.2 h.3 pass v
      mine = h.5 pass v at

      next : ℕ
      next = length (set views pass (seated v))

      writer : ℕ → Option ℕ
      writer s = cond (s == v.made) (some next) (h.0 s)

      F : ℕ → Lane → Type 0
      F = Fits writer h.1 h.2 h.3

      writer_at : (s : ℕ) → ((s ≡ v.made) × (writer s ≡ some next)) ⊎ ((s ≢ v.made) × (writer s ≡ h.0 s) × ((v.made == s) ≡ false))
      writer_at s = at_one h.0 v.made (some next) s

      fresh : (h.0 v.made ≡ none) × (h.2 v.made ≡ [])
      fresh = (mine.takes may).2 v.made (omega arith)

      stays : (s k : ℕ) → h.0 s ≡ some k → writer s ≡ some k
      stays s k e = ⊎_elim
          (λ (t : (s ≡ v.made) × (writer s ≡ some next)). absurd (some-ne-none k (sym e ∙ ap h.0 t.0 ∙ fresh.0)))
          (λ (t : (s ≢ v.made) × (writer s ≡ h.0 s) × ((v.made == s) ≡ false)). t.1 ∙ e)
          (writer_at s)

      later : (s : ℕ) → v.made + 1 ≤ s → (writer s ≡ none) × (h.2 s ≡ [])
      later s low = let f = (mine.takes may).2 s (omega (arith, low)) in (
        ⊎_elim
            (λ (t : (s ≡ v.made) × (writer s ≡ some next)). absurd (omega (arith, low, t.0)))
            (λ (t : (s ≢ v.made) × (writer s ≡ h.0 s) × ((v.made == s) ≡ false)). t.1 ∙ f.0)
            (writer_at s),
        f.1,
      )

      new : F next (putter v.made)
      new = record {
        puts = λ p. (⊎_elim (λ (t : (v.made ≡ v.made) × (writer v.made ≡ some next)). t.1) (λ (t : (v.made ≢ v.made) × (writer v.made ≡ h.0 v.made) × ((v.made == v.made) ≡ false)). absurd (t.0 refl)) (writer_at v.made), sym fresh.1);
        takes = λ p. absurd (true≢false (sym p));
        known = omega arith;
      }

      here : F pass (seated v)
      here = record {
        puts = λ p. (stays v.from pass (mine.puts p).0, (mine.puts p).1);
        takes = λ p. ((mine.takes p).0, (mine.takes p).1, later);
        known = mine.known;
      }

      others : (j : ℕ) (u : Lane) → j ≢ pass → get_elem? views j ≡ some u → F j u
      others j u apart e = let theirs = h.5 j u e in record {
        puts = λ p. (stays u.from j (theirs.puts p).0, (theirs.puts p).1);
        takes = λ p. absurd (apart ((theirs.takes p).0 ∙ sym (mine.takes may).0));
        known = theirs.known;
      }

  pub notes : (pass : ℕ) (v : Lane) → v.takes ≡ true → Forks (Kept requests) pass v v (noted v)
  notes pass v may items views h at = (h.0, h.1, h.2, h.3, h.4, all_new F (set views pass v) (noted v) new (subst (λ (l : List Lane). All F l) (sym (set_again views pass v at)) h.5))
    where
      F : ℕ → Lane → Type 0
      F = Fits h.0 h.1 h.2 h.3

      new : F (length (set views pass v)) (noted v)
      new = record {
        puts = λ p. absurd (true≢false (sym p));
        takes = λ p. absurd (true≢false (sym p));
        known = let same : v.got ≡ h.3 = ((h.5 pass v at).takes may).1 in omega (arith, ap (λ (l : List Request). length (of (last_from v.got) l)) same);
      }

  pub tells : (pass : ℕ) (v : Lane) (other : ℕ) (u : Lane) → Merges (Kept requests) pass v other u (told v u) spent
  tells pass v other u items views h at apart at' = (h.0, h.1, h.2, h.3, h.4, all_set F (set views pass (told v u)) other spent none_left (λ j y away e. all_set F views pass (told v u) here (λ k y' _ e'. h.5 k y' e') j y e))
    where
      F : ℕ → Lane → Type 0
      F = Fits h.0 h.1 h.2 h.3

      none_left : F other spent
      none_left = record {
        puts = λ p. absurd (true≢false (sym p));
        takes = λ p. absurd (true≢false (sym p));
        known = omega arith;
      }

      was : get_elem? views other ≡ some u
      was = ⊎_elim (λ (t : (other ≡ pass) × (told v u ≡ u)). absurd (apart t.0)) (λ (t : (other ≢ pass) × (get_elem? views other ≡ some u)). t.1) (at_set views pass other (told v u) u at')

      here : F pass (told v u)
      here = let mine = h.5 pass v at in record {
        puts = mine.puts;
        takes = mine.takes;
        known = told_known u.from v.from u.known v.known (length (of u.from h.3)) (length (of v.from h.3)) (λ e. ap (λ s. length (of s h.3)) e) (h.5 other u was).known mine.known;
      }

  pub closes : (pass : ℕ) (v : Lane) (other : ℕ) (u : Lane) → v.takes ≡ true → u.puts ≡ true → Merges (Kept requests) pass v other u (closed v u) spent
  closes pass v other u may puts items views h at apart at' = (writer, h.1, h.2, h.3, h.4, all_set F (set views pass (closed v u)) other spent none_left (λ j y away e. all_set (λ k z. k ≢ other → F k z) views pass (closed v u) (λ _. here) (λ k z aside e' off. others k z aside off e') j y e away))
    where
      was : get_elem? views other ≡ some u
      was = ⊎_elim (λ (t : (other ≡ pass) × (closed v u ≡ u)). absurd (apart t.0)) (λ (t : (other ≢ pass) × (get_elem? views other ≡ some u)). t.1) (at_set views pass other (closed v u) u at')

      mine : Fits h.0 h.1 h.2 h.3 pass v
      mine = h.5 pass v at

      theirs : Fits h.0 h.1 h.2 h.3 other u
      theirs = h.5 other u was

      writer : ℕ → Option ℕ
      writer s = cond (s == u.from) (some pass) (h.0 s)

      F : ℕ → Lane → Type 0
      F = Fits writer h.1 h.2 h.3

      writer_at : (s : ℕ) → ((s ≡ u.from) × (writer s ≡ some pass)) ⊎ ((s ≢ u.from) × (writer s ≡ h.0 s) × ((u.from == s) ≡ false))
      writer_at s = at_one h.0 u.from (some pass) s

      none_left : F other spent
      none_left = record {
        puts = λ p. absurd (true≢false (sym p));
        takes = λ p. absurd (true≢false (sym p));
        known = omega arith;
      }

      here : F pass (closed v u)
      here = record {
        puts = λ p. (⊎_elim (λ (t : (u.from ≡ u.from) × (writer u.from ≡ some pass)). t.1) (λ (t : (u.from ≢ u.from) × (writer u.from ≡ h.0 u.from) × ((u.from == u.from) ≡ false)). absurd (t.0 refl)) (writer_at u.from), (theirs.puts puts).1);
        takes = λ p. ((mine.takes p).0, (mine.takes p).1, λ s low. none_still h.0 h.2 u.from pass other (theirs.puts puts).0 s ((mine.takes p).2 s low));
        known = theirs.known;
      }

      others : (j : ℕ) (y : Lane) → j ≢ pass → j ≢ other → get_elem? views j ≡ some y → F j y
      others j y aside off e = let its = h.5 j y e in record {
        puts = λ p. (
          ⊎_elim
              (λ (t : (y.from ≡ u.from) × (writer y.from ≡ some pass)). absurd (off (some-injective j other (sym (its.puts p).0 ∙ ap h.0 t.0 ∙ (theirs.puts puts).0))))
              (λ (t : (y.from ≢ u.from) × (writer y.from ≡ h.0 y.from) × ((u.from == y.from) ≡ false)). t.1 ∙ (its.puts p).0)
              (writer_at y.from),
          (its.puts p).1,
        );
        takes = λ p. absurd (aside ((its.takes p).0 ∙ sym (mine.takes may).0));
        known = its.known;
      }

  pub reopens : (pass : ℕ) (v : Lane) → v.takes ≡ true → v.puts ≡ true → Forks (Kept requests) pass v (freed v) (reopened v)
  reopens pass v may puts items views h at = (writer, h.1, h.2, h.3, h.4, all_new F (set views pass (freed v)) (reopened v) new (all_set F views pass (freed v) here others))
    where
      mine : Fits h.0 h.1 h.2 h.3 pass v
      mine = h.5 pass v at

      next : ℕ
      next = length (set views pass (freed v))

      writer : ℕ → Option ℕ
      writer s = cond (s == v.from) (some next) (h.0 s)

      F : ℕ → Lane → Type 0
      F = Fits writer h.1 h.2 h.3

      writer_at : (s : ℕ) → ((s ≡ v.from) × (writer s ≡ some next)) ⊎ ((s ≢ v.from) × (writer s ≡ h.0 s) × ((v.from == s) ≡ false))
      writer_at s = at_one h.0 v.from (some next) s

      new : F next (reopened v)
      new = record {
        puts = λ p. (⊎_elim (λ (t : (v.from ≡ v.from) × (writer v.from ≡ some next)). t.1) (λ (t : (v.from ≢ v.from) × (writer v.from ≡ h.0 v.from) × ((v.from == v.from) ≡ false)). absurd (t.0 refl)) (writer_at v.from), (mine.puts puts).1);
        takes = λ p. absurd (true≢false (sym p));
        known = mine.known;
      }

      here : F pass (freed v)
      here = record {
        puts = λ p. absurd (true≢false (sym p));
        takes = λ p. ((mine.takes p).0, (mine.takes p).1, λ s low. none_still h.0 h.2 v.from next pass (mine.puts puts).0 s ((mine.takes p).2 s low));
        known = omega arith;
      }

      others : (j : ℕ) (y : Lane) → j ≢ pass → get_elem? views j ≡ some y → F j y
      others j y apart e = let its = h.5 j y e in record {
        puts = λ p. (
          ⊎_elim
              (λ (t : (y.from ≡ v.from) × (writer y.from ≡ some next)). absurd (apart (some-injective j pass (sym (its.puts p).0 ∙ ap h.0 t.0 ∙ (mine.puts puts).0))))
              (λ (t : (y.from ≢ v.from) × (writer y.from ≡ h.0 y.from) × ((v.from == y.from) ≡ false)). t.1 ∙ (its.puts p).0)
              (writer_at y.from),
          (its.puts p).1,
        );
        takes = λ p. absurd (apart ((its.takes p).0 ∙ sym (mine.takes may).0));
        known = its.known;
      }

  pub balances : (pass : ℕ) (v : Lane) → v.takes ≡ true → v.puts ≡ true → Learns (Kept requests) pass v (Balances requests v)
  balances pass v a b items views h at =
      let mine = h.5 pass v at in
      let same : v.got ≡ h.3 = (mine.takes a).1 in (
        sym (filter-append (λ (r : Request). r.from == v.from) v.got (flat_map requests items))
            ∙ ap (λ (l : List Request). of v.from (l ++ flat_map requests items)) same
            ∙ h.4 v.from ∙ ap (numbered v.from 0) (sym (mine.puts b).1),
        subst (λ (l : List Request). v.known ≤ length (of v.from l)) (sym same) mine.known,
      )

  pub bounds : (pass : ℕ) (v : Lane) → v.puts ≡ true → Learns (Kept requests) pass v (λ items. IsBounded v)
  bounds pass v b items views h at =
      let mine = h.5 pass v at in
      let whole : length (of v.from h.3) + length (of v.from (flat_map requests items)) ≡ length v.put =
      sym (length-append (of v.from h.3) (of v.from (flat_map requests items)))
      ∙ ap length (sym (filter-append (λ (r : Request). r.from == v.from) h.3 (flat_map requests items)) ∙ h.4 v.from)
      ∙ length_numbered v.from 0 (h.2 v.from) ∙ ap length (sym (mine.puts b).1) in
      omega (arith, whole, mine.known)
