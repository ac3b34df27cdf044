-- Disks in places of their own in memory.
use Rattle.std.specs.Prelude.{List, map}
use Rattle.qc_system.specs.declared.boxed.Boxed.{Boxed}

-- the disks themselves
abbrev pub unboxed : {D : Type 0} → List (Boxed D) → List D
unboxed boxed = map (λ b. b.disk.value) boxed

-- so of pairs
abbrev pub unboxed_pairs : {D : Type 0} → List (Boxed D × Boxed D) → List (D × D)
unboxed_pairs pairs = map (λ p. (p.0.disk.value, p.1.disk.value)) pairs
