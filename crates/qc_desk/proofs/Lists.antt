-- What a history was before, and entries under a number.
use Rattle.std.proofs.Common.{◌≡◌, ◌≢◌, ℕ, ◌==◌, cond, Bool, true, false, [], ◌∷◌, ◌++◌, refl, ap, sym, append-nil, eq-eqb, ne_eqb}
use Rattle.std.proofs.Math.Logic.{∥∥₁_map}
use Rattle.qc_event.specs.Base.{Setting}
use Rattle.qc_event.specs.declared.event.Entry.{Entry}
use Rattle.qc_event.specs.History.{Past}
use Rattle.qc_event.specs.Legal.{Allowed}
use Rattle.qc_desk.specs.Entries.{entries_of, IsLegal, IsOlder}

pub prefix_self : (xs : Past) → IsOlder xs xs
prefix_self xs = ([], refl)

pub prefix_nil : (xs : Past) → IsOlder [] xs
prefix_nil xs = (xs, sym (append-nil xs))

pub prefix_more : (xs ys : Past) (e : Entry) → IsOlder xs ys → IsOlder xs (e ∷ ys)
prefix_more xs ys e p = (e ∷ p.0, ap (λ w. e ∷ w) p.1)

pub entries_append : (n : ℕ) (xs ys : Past) → entries_of n (xs ++ ys) ≡ entries_of n xs ++ entries_of n ys
entries_append n [] ys = refl
entries_append n (x ∷ xs) ys = cases (x.seat == n) (entries_append n xs ys)
  where
    cases : (b : Bool) → entries_of n (xs ++ ys) ≡ entries_of n xs ++ entries_of n ys → cond b (x ∷ entries_of n (xs ++ ys)) (entries_of n (xs ++ ys)) ≡ cond b (x ∷ entries_of n xs) (entries_of n xs) ++ entries_of n ys
    cases true e = ap (λ (l : Past). x ∷ l) e
    cases false e = e

pub entries_here : (e : Entry) (xs : Past) → entries_of e.seat (e ∷ xs) ≡ e ∷ entries_of e.seat xs
entries_here e xs = ap (λ (b : Bool). cond b (e ∷ entries_of e.seat xs) (entries_of e.seat xs)) (eq-eqb e.seat e.seat refl)

pub entries_else : (n : ℕ) (e : Entry) (xs : Past) → e.seat ≢ n → entries_of n (e ∷ xs) ≡ entries_of n xs
entries_else n e xs ne = ap (λ (b : Bool). cond b (e ∷ entries_of n xs) (entries_of n xs)) (ne_eqb e.seat n ne)

-- a legal history with an allowed entry more is legal
pub legal_snoc : (setting : Setting) (log : Past) (e : Entry) → IsLegal setting log → Allowed setting log e → IsLegal setting (e ∷ log)
legal_snoc setting log e legal may = ∥∥₁_map legal (λ h. (h, may))
