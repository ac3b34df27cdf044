use Rattle.std.proofs.Common.{◌≡◌, drop}
use Rattle.std.specs.List.{list_any}
use Rattle.qc_codec.specs.Restored.{keeps}
use Rattle.qc_site.proofs.tops.is_kept_by_one.Given as goal

abbrev pub invariant-loop-logged : goal.invariant-loop-logged
invariant-loop-logged l = list_any (keeps l.access) (drop l.logged-index l.tops) ≡ list_any (keeps l.access) l.tops
