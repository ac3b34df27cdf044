-- A configuration is legal exactly where it has no fault.
use Rattle.std.proofs.Common.{◌≡◌, ℕ, ◌+◌, ◌<◌, ◌≤◌, Bool, true, false, cond, List, [], ◌∷◌, length, refl, ◌∙◌, inl, inr, arith}
use Rattle.std.specs.Prelude.{Option, None, Some, ◌==◌, ◌||◌, nat_lt, nat_le, sum}
use Rattle.std.proofs.lemmas.Bool.{cond-false, eqb-true, eqb-false, leb-true, leb-false, ltb-true, ltb-false, or_parts, or_cases, false_from_ne_true}
use Rattle.qc_config.specs.Config.{Voting, IsLegal, fault}
use Rattle.qc_config.specs.declared.config.BadConfig.{BadConfig}

not_first : (b : Bool) (e : BadConfig) (o : Option BadConfig) → cond b (Some e) o ≡ None → (b ≡ false) × (o ≡ None)
not_first true e o h = absurd cc
not_first false e o h = (refl, h)

possible : (n total : ℕ) → ((n == 0) || nat_lt total n) ≡ false → (0 < n) × (n ≤ total)
possible n total h =
    let parts = or_parts (n == 0) (nat_lt total n) h in
    let some = eqb-false n 0 parts.0 in
    (omega arith, ltb-false total n parts.1)

pub legal_unless_fault : (votes : List ℕ) (read write : ℕ) → fault votes read write ≡ None → IsLegal (record { votes = votes; read = read; write = write })
legal_unless_fault votes read write h =
    let a = not_first _ _ _ h in
    let b = not_first _ _ _ a.1 in
    let c = not_first _ _ _ b.1 in
    let d = not_first _ _ _ c.1 in
    let e = not_first _ _ _ d.1 in
    let some = eqb-false (sum votes) 0 b.0 in
    let r = possible read (sum votes) c.0 in
    let w = possible write (sum votes) d.0 in
    record { some_votes = omega arith; some_read = r.0; read_possible = r.1; some_write = w.0; write_possible = w.1; overlap = leb-false (read + write) (sum votes) e.0 }

neither : (a b : Bool) → (a ≡ true → ⊥) → (b ≡ true → ⊥) → (a || b) ≡ false
neither a b no_a no_b = false_from_ne_true (a || b) (λ h. elim (or_cases a b h) [
  | inl is ↦ no_a is
  | inr is ↦ no_b is
])

some_votes : (votes : List ℕ) → 0 < sum votes → length votes ≡ 0 → ⊥
some_votes [] some none = omega arith
some_votes (v ∷ votes) some none = omega arith

pub legal_faultless : (c : Voting) → IsLegal c → fault c.votes c.read c.write ≡ None
legal_faultless c legal =
    let some = legal.some_votes in
    let some_read = legal.some_read in
    let read_possible = legal.read_possible in
    let some_write = legal.some_write in
    let write_possible = legal.write_possible in
    let overlap = legal.overlap in
    cond-false _ _ _ (false_from_ne_true (length c.votes == 0) (λ h. some_votes c.votes some (eqb-true (length c.votes) 0 h)))
    ∙ cond-false _ _ _ (false_from_ne_true (sum c.votes == 0) (λ h. omega (arith, eqb-true (sum c.votes) 0 h)))
    ∙ cond-false _ _ _ (neither (c.read == 0) (nat_lt (sum c.votes) c.read) (λ h. omega (arith, eqb-true c.read 0 h)) (λ h. omega (arith, ltb-true (sum c.votes) c.read h)))
    ∙ cond-false _ _ _ (neither (c.write == 0) (nat_lt (sum c.votes) c.write) (λ h. omega (arith, eqb-true c.write 0 h)) (λ h. omega (arith, ltb-true (sum c.votes) c.write h)))
    ∙ cond-false _ _ _ (false_from_ne_true (nat_le (c.read + c.write) (sum c.votes)) (λ h. omega (arith, leb-true (c.read + c.write) (sum c.votes) h)))
