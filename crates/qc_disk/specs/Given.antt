-- The disks that a shop gave, as pairs.
use Rattle.std.specs.Prelude.{ℕ, List, map, string_bytes}
use Rattle.qc_disk.specs.declared.shop.given.Given.{Given}

-- the place and the number of each, the first one first
abbrev pub given_list : Given → List (List ℕ × ℕ)
given_list given = map (λ disk. (string_bytes disk.place, disk.which)) given.disks.items
