-- Which names begin a name.
use Rattle.std.proofs.Common.{◌≡◌, ◌≤◌, true, ◌++◌, length, ap, ◌∙◌, arith}
use Rattle.std.proofs.lemmas.List.{length-append}
use Rattle.qc_names.specs.Name as name
use Rattle.qc_event.specs.History.{Name}
use Rattle.qc_event.proofs.LastNumber.{is_ancestor-append}

pub begins_short : (of p r : Name) → of ≡ p ++ r → length p ≤ length of
begins_short of p r is = omega (arith, ap length is, length-append p r)

pub begins_ancestor : (of p r : Name) → of ≡ p ++ r → name.is_ancestor p of ≡ true
begins_ancestor of p r is = ap (name.is_ancestor p) is ∙ is_ancestor-append p r
