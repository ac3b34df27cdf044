-- Pairs of disks: each disk stands beside its spare.
use Rattle.std.specs.Prelude.{List, [], ◌∷◌, ◌++◌, map}
use Rattle.qc_system.specs.declared.returns.Returns.{Returns}

-- each of these beside the one of the others that has its place
abbrev pub in_pairs : {A : Type 0} → List A → List A → List (A × A)
in_pairs [] _ = []
in_pairs (own ∷ owns) [] = []
in_pairs (own ∷ owns) (spare ∷ spares) = (own, spare) ∷ in_pairs owns spares

-- the first of each pair, and then the second of each
abbrev pub own_then_spares : {A : Type 0} → List (A × A) → List A
own_then_spares pairs = map (λ p. p.0) pairs ++ map (λ p. p.1) pairs

-- the pairs of disks that were put where they are handed back
abbrev pub pairs_in : {D : Type 0} → Returns D → List (D × D)
pairs_in returns = in_pairs returns.disks.items returns.spares.items
