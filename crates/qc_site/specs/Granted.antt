-- What is known of the grants that were read.
use Rattle.std.specs.Prelude.{◌≡◌, ◌≢◌, ◌↔◌, List, All, false}
use Rattle.std.specs.BTreeSet.{BTreeSet, contains}
use Rattle.std.specs.Cmp.Lexicographic.{slice_cmp}
use Rattle.std.specs.Ordering.{nat_cmp}
use Rattle.qc_event.specs.declared.event.Grant.{Grant}
use Rattle.qc_event.specs.History.{Name}
use Rattle.qc_site.specs.declared.granted.Granted.{Granted}

-- the grants
abbrev pub given_by : Granted → List Grant
given_by granted = granted.grants.items

-- names are those of the accesses of grants
abbrev pub AreAccesses : BTreeSet Name → List Grant → Type 0
AreAccesses names grants = (n : Name) → (contains (slice_cmp nat_cmp) names n ≡ false) ↔ All (λ (g : Grant). g.access ≢ n) grants

abbrev pub HasAccesses : Granted → Type 0
HasAccesses granted = AreAccesses granted.accesses granted.grants.items
