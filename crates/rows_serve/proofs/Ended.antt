-- Where no child of the root is open each top has its end.
use Rattle.std.proofs.Common.{◌≡◌, Bool, true, false, [], refl}
use mathlib.Core.Bool.{true≢false}
use Rattle.std.specs.Prelude.{Option, None, Some, is_none}
use Rattle.std.specs.Bool.{OnTrue}
use Rattle.qc_event.specs.History.{Past, Name}
use Rattle.qc_event.specs.Standing.{HasEnded, open_child}
use Rattle.qc_event.proofs.Lawful.{no_open_child}

pub if_settled : (past : Past) (b : Bool) → b ≡ is_none (open_child past []) → OnTrue b (HasEnded past)
if_settled past b told = by_child (open_child past []) refl b told
  where
    by_child : (o : Option Name) → open_child past [] ≡ o → (b : Bool) → b ≡ is_none o → OnTrue b (HasEnded past)
    by_child None none true is = λ number began. no_open_child past [] number none began
    by_child None none false is = tt
    by_child (Some n) some true is = absurd (true≢false is)
    by_child (Some n) some false is = tt
