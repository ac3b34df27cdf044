use Rattle.std.proofs.Common.{◌≡◌, drop}
use Rattle.std.specs.List.{list_any}
use Rattle.qc_event.specs.History.{Name}
use Rattle.qc_names.specs.Name as name
use Rattle.qc_site.proofs.tops.are_above.Given as goal

abbrev pub invariant-loop-name : goal.invariant-loop-name
invariant-loop-name l = list_any (λ (n : Name). name.is_ancestor n l.access) (drop l.name-index l.names) ≡ list_any (λ (n : Name). name.is_ancestor n l.access) l.names
