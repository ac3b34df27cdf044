-- The numbers of branches that are out, as they were made and are merged.
use Rattle.std.proofs.Common.{◌≡◌, ℕ, Bool, true, false, List, [], ◌∷◌, map, refl, sym, ap, ◌∙◌, subst}
use mathlib.Core.Bool.{true≢false}
use Rattle.std.specs.Prelude.{Option, ◌||◌, not, ◌==◌, if◌then◌else◌}
use Rattle.std.specs.List.{AllByRecursion, list_any}
use Rattle.std.proofs.lemmas.Bool.{eq-eqb, ne_eqb, or_right}
use Rattle.qc_net.specs.Messages.{Net}
use Rattle.qc_script.specs.Calls.{MeetsLink}
use Rattle.qc_interp.specs.AtOnce.{StandingBranch, AreOut}
use Rattle.qc_interp.proofs.Branching.MadeBy.{without, left_out}

abbrev pub is_in : List ℕ → ℕ → Bool
is_in l n = list_any (λ k. k == n) l

-- what is out once these numbers more are, the latest first
abbrev pub out_with : List ℕ → List ℕ → List ℕ
out_with [] out = out
out_with (n ∷ ns) out = out_with ns (n ∷ out)

-- none of them was out before it was made
abbrev pub AreFresh : List ℕ → List ℕ → Type 0
AreFresh [] out = Unit {0}
AreFresh (n ∷ ns) out = (is_in out n ≡ false) × AreFresh ns (n ∷ out)

fresh_fewer : (ns out less : List ℕ) → ((k : ℕ) → is_in out k ≡ false → is_in less k ≡ false) → AreFresh ns out → AreFresh ns less
fresh_fewer [] out less step h = tt
fresh_fewer (n ∷ ns) out less step h = (step n h.0, fresh_fewer ns (n ∷ out) (n ∷ less) (λ k. by_test (n == k) k (step k)) h.1)
  where
    by_test : (b : Bool) (k : ℕ) → (is_in out k ≡ false → is_in less k ≡ false) → (b || is_in out k) ≡ false → (b || is_in less k) ≡ false
    by_test true k step h = h
    by_test false k step h = step h

pub fresh_rest : (n : ℕ) (ns out : List ℕ) → AreFresh (n ∷ ns) out → AreFresh ns out
fresh_rest n ns out h = fresh_fewer ns (n ∷ out) out (λ k. by_test (n == k) k) h.1
  where
    by_test : (b : Bool) (k : ℕ) → (b || is_in out k) ≡ false → is_in out k ≡ false
    by_test true k h = absurd (true≢false h)
    by_test false k h = h

first_in : (n : ℕ) (l : List ℕ) → is_in (n ∷ l) n ≡ true
first_in n l = ap (λ b. b || is_in l n) (eq-eqb n n refl)

pub still_in : (n : ℕ) (ns out : List ℕ) → is_in out n ≡ true → is_in (out_with ns out) n ≡ true
still_in n [] out h = h
still_in n (m ∷ ns) out h = still_in n ns (m ∷ out) (or_right (m == n) (is_in out n) h)

without_more : (n : ℕ) (ns out less : List ℕ) → is_in out n ≡ true → AreFresh ns out → without n out ≡ less → without n (out_with ns out) ≡ out_with ns less
without_more n [] out less there fresh is = is
without_more n (m ∷ ns) out less there fresh is =
    without_more n ns (m ∷ out) (m ∷ less) (or_right (m == n) (is_in out n) there) fresh.1
    (ap (λ b. if not b then m ∷ without n out else without n out) (ne_eqb m n (λ same. true≢false (sym there ∙ (ap (is_in out) (sym same) ∙ fresh.0)))) ∙ ap (λ l. m ∷ l) is)

-- the first of them taken out
pub first_out : (n : ℕ) (ns out : List ℕ) → AreFresh (n ∷ ns) out → without n (out_with (n ∷ ns) out) ≡ out_with ns out
first_out n ns out fresh = without_more n ns (n ∷ out) out (first_in n out) fresh.1 (left_out n out fresh.0)

abbrev pub number_of : StandingBranch → ℕ
number_of b = b.view.client.number

-- a branch that can be merged by a client of this link
abbrev pub CanMerge : Option Net → StandingBranch → Type 0
CanMerge net b = (b.view.client.out ≡ []) × (b.view.client.net ≡ net) × MeetsLink b.view

pub are_out : (net : Option Net) (bs : List StandingBranch) (out : List ℕ) → AreFresh (map number_of bs) out → AllByRecursion (CanMerge net) bs → AreOut (out_with (map number_of bs) out) net bs
are_out net [] out fresh can = tt
are_out net (b ∷ bs) out fresh can = (
  still_in (number_of b) (map number_of bs) (number_of b ∷ out) (first_in (number_of b) out),
  can.0.0,
  can.0.1,
  can.0.2,
  subst (λ l. AreOut l net bs) (sym (first_out (number_of b) (map number_of bs) out fresh)) (are_out net bs out (fresh_rest (number_of b) (map number_of bs) out fresh) can.1),
)

-- what is out once they are merged
abbrev pub merged_out : List StandingBranch → List ℕ → List ℕ
merged_out [] out = out
merged_out (b ∷ bs) out = merged_out bs (without (number_of b) out)

pub all_merged : (bs : List StandingBranch) (out : List ℕ) → AreFresh (map number_of bs) out → merged_out bs (out_with (map number_of bs) out) ≡ out
all_merged [] out fresh = refl
all_merged (b ∷ bs) out fresh = ap (merged_out bs) (first_out (number_of b) (map number_of bs) out fresh) ∙ all_merged bs out (fresh_rest (number_of b) (map number_of bs) out fresh)
