-- Where each copy with votes replied, those that replied hold each quorum of a legal configuration.
use Rattle.std.proofs.Common.{◌≡◌, ℕ, zero, suc, ◌+◌, ◌<◌, ◌≤◌, Bool, true, false, List, [], ◌∷◌, length, refl, sym, ap, ◌∙◌, arith, inl, inr, sum}
use Rattle.std.specs.Prelude.{◌&&◌, ◌||◌, not, nat_lt, find, is_some, slice_index_or, None, if◌then◌else◌}
use Rattle.std.specs.List.{range_with_len}
use Rattle.std.proofs.lemmas.Bool.{true≢false, and_cases, not-false, cases_eq, lt-ltb, le-leb}
use Rattle.std.proofs.lemmas.List.FromFn.{length-map-range_with_len}
use Rattle.std.proofs.lemmas.List.Sums.{sum_by-cons}
use Rattle.qc_config.specs.Config.{Voting, IsLegal, votes_of, weight, holds_read, holds_write}
use Rattle.qc_config.specs.Copies.{has}
use Rattle.qc_managers.specs.Told.{Told, was_asked, replied_by, replied_in, missing_in, blocked_in, next_in}
use Rattle.qc_managers.proofs.Rows.{row_at}
use Rattle.qc_managers.proofs.Short.{found_none, known_in}

-- THE WHOLE TOTAL

-- a set with each copy that has votes has them all
weight_all : (votes : List ℕ) (marks : List Bool) → length votes ≤ length marks → ((k : ℕ) → k < length votes → 0 < slice_index_or votes k 0 → has marks k ≡ true) → weight votes marks ≡ sum votes
weight_all [] marks long each = refl
weight_all (v ∷ votes) [] long each = absurd (omega arith)
weight_all (v ∷ votes) (true ∷ marks) long each =
    let below = weight_all votes marks (omega arith) (λ k lt pos. each (suc k) (omega arith) pos) in
    omega (arith, below, sum_by-cons (λ x. x) v votes)
weight_all (zero ∷ votes) (false ∷ marks) long each =
    let below = weight_all votes marks (omega arith) (λ k lt pos. each (suc k) (omega arith) pos) in
    omega (arith, below, sum_by-cons (λ x. x) 0 votes)
weight_all (suc v ∷ votes) (false ∷ marks) long each = absurd (true≢false (sym (each 0 (omega arith) (omega arith))))

-- EACH COPY REPLIED

-- where none of a range is found, none passes
none_of_range : (p : ℕ → Bool) (a n k : ℕ) → find p (range_with_len a n) ≡ None → a ≤ k → k < a + n → p k ≡ false
none_of_range p a zero k none from within = absurd (omega arith)
none_of_range p a (suc n) k none from within =
    let parts = found_none (p a) a (find p (range_with_len (a + 1) n)) none in
    elim (cases_eq a k) [
      | inl here ↦ ap p (sym here) ∙ parts.0
      | inr other ↦ none_of_range p (a + 1) n k parts.1 (omega arith) (omega arith)
    ]

module _ (config : Voting) (told : List Told) (none : next_in config told ≡ None) (free : blocked_in told ≡ None) (here : (copy : ℕ) → missing_in told copy ≡ None) where
  asked : (copy : ℕ) → copy < 16 → 0 < votes_of config copy → was_asked told copy ≡ true
  asked copy within pos = elim (and_cases (nat_lt 0 (votes_of config copy)) (not (was_asked told copy)) (none_of_range (λ c. nat_lt 0 (votes_of config c) && not (was_asked told c)) 0 16 copy none (omega arith) (omega arith))) [
    | inl no_votes ↦ absurd (true≢false (sym (lt-ltb 0 (votes_of config copy) pos) ∙ no_votes))
    | inr was ↦ not-false (was_asked told copy) was
  ]

  replied_or : (b c : Bool) → (b || c) ≡ true → c ≡ false → b ≡ true
  replied_or true c h out = refl
  replied_or false c h out = absurd (true≢false (sym h ∙ out))

  each_replied : (copy : ℕ) → copy < 16 → 0 < votes_of config copy → replied_by told copy ≡ true
  each_replied copy within pos =
      replied_or (replied_by told copy) (is_some (missing_in told copy)) (known_in told copy free (asked copy within pos)) (ap is_some (here copy))

  hold_all : length config.votes ≤ 16 → weight config.votes (replied_in told) ≡ sum config.votes
  hold_all few =
      let long : length (replied_in told) ≡ 16 = length-map-range_with_len (replied_by told) 0 16 in
      weight_all config.votes (replied_in told) (omega arith) (λ k lt pos. row_at (replied_by told) 16 k false (omega arith) ∙ each_replied k (omega arith) pos)

  -- those that replied hold a write quorum and a read quorum
  pub hold_quorums : (writes : Bool) → length config.votes ≤ 16 → IsLegal config → (if writes then holds_write config (replied_in told) else holds_read config (replied_in told)) ≡ true
  hold_quorums true few legal = let all = hold_all few in le-leb config.write (weight config.votes (replied_in told)) (omega (arith, legal.write_possible))
  hold_quorums false few legal = let all = hold_all few in le-leb config.read (weight config.votes (replied_in told)) (omega (arith, legal.read_possible))
