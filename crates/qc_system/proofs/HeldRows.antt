-- What a copy's desk says that it holds, by what it has seen, is what the copy holds then.
use Rattle.std.proofs.Common.{◌≡◌, ℕ, ◌+◌, ◌<◌, [], length, map, sym, ap, ◌∙◌}
use Rattle.std.specs.Prelude.{slice_index_or}
use Rattle.std.specs.List.{range_with_len}
use Rattle.qc_event.specs.Base.{Setting, IsProper}
use Rattle.qc_event.specs.History.{Past}
use Rattle.qc_event.specs.Seen.{seen}
use Rattle.qc_desk.specs.Held.{held_row}
use Rattle.qc_system.specs.Folds.{held_in}
use Rattle.qc_system.specs.Parts.{Findings}
use Rattle.qc_system.proofs.Folds.{held_copy}

pub row_held : (setting : Setting) (found : Findings) (copy : ℕ) (past : Past) → IsProper setting → copy < length setting.base
    → held_row (slice_index_or setting.base copy []) past copy ≡ held_in setting found (copy + 1) past
row_held setting found copy past proper is_copy =
    ap (λ n. map (seen setting.base past copy) (range_with_len 0 n)) (proper.base.rows copy [] is_copy).same_records
    ∙ sym (held_copy setting found copy past)
