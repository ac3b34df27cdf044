-- Two quorums that pass all votes together share a copy, and marks that are more have as many votes.
use mathlib.Core.Bool.{true≢false}
use Rattle.std.proofs.Common.{◌≡◌, ℕ, zero, suc, ◌+◌, ◌<◌, ◌≤◌, Bool, true, false, List, [], ◌∷◌, length, refl, sym, ◌∙◌, arith, sum, map, get_or}
use Rattle.std.proofs.lemmas.Bool.{leb-true, le-leb}
use Rattle.std.proofs.lemmas.List.{get_or-map}
use Rattle.qc_config.specs.Config.{Voting, IsLegal, weight, holds_read, holds_write}
use Rattle.qc_config.specs.Copies.{has}
use Rattle.qc_config.proofs.Weights.{weight_most, nothing_held, sum-cons}

-- a copy in both sets
pub record Shared (r w : List Bool) : Type 0 where
  pub copy : ℕ
  pub left : has r copy ≡ true
  pub right : has w copy ≡ true

further : (a b : Bool) (r w : List Bool) → Shared r w → Shared (a ∷ r) (b ∷ w)
further a b r w s = record { copy = suc s.copy; left = s.left; right = s.right }

shared : (votes : List ℕ) (r w : List Bool) → sum votes < weight votes r + weight votes w → Shared r w
shared [] r w h = absurd (omega arith)
shared (v ∷ votes) [] w h = absurd (omega (arith, weight_most (v ∷ votes) w))
shared (v ∷ votes) (a ∷ r) [] h = absurd (omega (arith, weight_most (v ∷ votes) (a ∷ r)))
shared (v ∷ votes) (true ∷ r) (true ∷ w) h = record { copy = 0; left = refl; right = refl }
shared (v ∷ votes) (true ∷ r) (false ∷ w) h = further true false r w (shared votes r w (omega (arith, sum-cons v votes)))
shared (v ∷ votes) (false ∷ r) (true ∷ w) h = further false true r w (shared votes r w (omega (arith, sum-cons v votes)))
shared (v ∷ votes) (false ∷ r) (false ∷ w) h = further false false r w (shared votes r w (omega (arith, sum-cons v votes)))

-- a read quorum and a write quorum share a copy
pub quorums_meet : (config : Voting) (r w : List Bool) → IsLegal config → holds_read config r ≡ true → holds_write config w ≡ true → Shared r w
quorums_meet config r w legal reads writes =
    let a = leb-true config.read (weight config.votes r) reads in
    let b = leb-true config.write (weight config.votes w) writes in
    let o = legal.overlap in
    shared config.votes r w (omega arith)

-- a set that has votes has a copy
pub record Held (held : List Bool) : Type 0 where
  pub copy : ℕ
  pub here : has held copy ≡ true

held_by : (votes : List ℕ) (held : List Bool) → 0 < weight votes held → Held held
held_by [] held h = absurd (omega arith)
held_by (v ∷ votes) [] h = absurd (omega arith)
held_by (v ∷ votes) (true ∷ held) h = record { copy = 0; here = refl }
held_by (v ∷ votes) (false ∷ held) h = let s = held_by votes held (omega arith) in record { copy = suc s.copy; here = s.here }

pub writer_holds : (config : Voting) (held : List Bool) → IsLegal config → holds_write config held ≡ true → Held held
writer_holds config held legal writes =
    let a = leb-true config.write (weight config.votes held) writes in
    let o = legal.some_write in
    held_by config.votes held (omega arith)

more_weight : (votes : List ℕ) (a b : List Bool) → ((c : ℕ) → has a c ≡ true → has b c ≡ true) → weight votes a ≤ weight votes b
more_weight [] a b more = omega arith
more_weight (v ∷ votes) [] b more = omega arith
more_weight (v ∷ votes) (true ∷ a) [] more = absurd (true≢false (sym (more 0 refl)))
more_weight (v ∷ votes) (true ∷ a) (true ∷ b) more = omega (arith, more_weight votes a b (λ c h. more (suc c) h))
more_weight (v ∷ votes) (true ∷ a) (false ∷ b) more = absurd (true≢false (sym (more 0 refl)))
more_weight (v ∷ votes) (false ∷ a) [] more = omega (arith, more_weight votes a [] (λ c h. more (suc c) h), nothing_held votes)
more_weight (v ∷ votes) (false ∷ a) (true ∷ b) more = omega (arith, more_weight votes a b (λ c h. more (suc c) h))
more_weight (v ∷ votes) (false ∷ a) (false ∷ b) more = omega (arith, more_weight votes a b (λ c h. more (suc c) h))

-- a set with each copy of a write quorum is one
pub more_writes : (config : Voting) (a b : List Bool) → holds_write config a ≡ true → ((c : ℕ) → has a c ≡ true → has b c ≡ true) → holds_write config b ≡ true
more_writes config a b writes more =
    let h = leb-true config.write (weight config.votes a) writes in
    let w = more_weight config.votes a b more in
    le-leb config.write (weight config.votes b) (omega arith)

-- what a mark by a test says
pub record Passed {X : Type 0} (f : X → Bool) (xs : List X) (d : X) (c : ℕ) : Type 0 where
  pub within : c < length xs
  pub passes : f (get_or xs c d) ≡ true

pub marked : {X : Type 0} (f : X → Bool) (xs : List X) (d : X) (c : ℕ) → has (map f xs) c ≡ true → Passed f xs d c
marked f [] d c h = absurd (true≢false (sym h))
marked f (x ∷ xs) d zero h = record { within = omega arith; passes = h }
marked f (x ∷ xs) d (suc c) h = let p = marked f xs d c h in let l = p.within in record { within = omega arith; passes = p.passes }

pub marks : {X : Type 0} (f : X → Bool) (xs : List X) (d : X) (c : ℕ) → c < length xs → f (get_or xs c d) ≡ true → has (map f xs) c ≡ true
marks f xs d c within passes = get_or-map f xs c d false within ∙ passes
