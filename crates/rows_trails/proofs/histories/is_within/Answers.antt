-- The row that is read is that of the copy, which is there.
use Rattle.std.proofs.Common.{rules, [], ◌≡◌, Some}
use Rattle.std.specs.Prelude.{slice_get, slice_index_or}
use Rattle.std.proofs.lemmas.Option.{slice_get-get_or}
use Rattle.rows_trails.proofs.histories.is_within.Goals as goal

pub returns-then-from-copies : goal.returns-then-from-copies
returns-then-from-copies c =
    let there : slice_get c.args.base.now c.args.copy ≡ Some (slice_index_or c.args.base.now c.args.copy []) = slice_get-get_or c.args.base.now c.args.copy [] (search rules) in
    rw there (search rules)
