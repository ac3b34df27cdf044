-- A worked legal history of two children that read side by side: what each is served, by computation.
use Rattle.std.proofs.Common.{◌≡◌, List, [], ◌∷◌, ◌++◌, reverse, refl, rules}
use Rattle.qc_config.specs.Val.{Number}
use Rattle.qc_config.specs.declared.tuple.Op.TheVariants.{Get}
use Rattle.qc_event.specs.declared.event.Answer.TheVariants as answer
use Rattle.qc_event.specs.declared.event.Entry.{Entry}
use Rattle.qc_event.specs.declared.event.Kind.TheVariants as kind
use Rattle.qc_event.specs.History.{Name, Given}
use Rattle.qc_event.specs.Seats.{number_in}
use Rattle.qc_event.specs.Legal.{Legal}
use Rattle.qc_event.proofs.Worked.{setting, tuple, start, commit, get}
use Rattle.qc_serial.specs.Visible.{served_order}

abbrev top : Name
top = number_in 1 1 ∷ []

abbrev first : Name
first = number_in 1 1 ∷ 1 ∷ []

abbrev second : Name
second = number_in 1 1 ∷ 2 ∷ []

-- the grant of the read that a child's manager makes
abbrev read_of : Name → Given
read_of child = record { copy = 0; grant = record { access = child ++ 1 ∷ 1 ∷ []; rec = 0; op = Get; tuple = tuple 0 0 } }

-- the first child reads before the second, which ends before
abbrev side_by_side : List Entry
side_by_side =
    start top (kind.User 0 0)
    ∷ start first (kind.User 0 0)
    ∷ start (number_in 1 1 ∷ 1 ∷ 1 ∷ []) (kind.Read 0)
    ∷ get (number_in 1 1 ∷ 1 ∷ 1 ∷ 1 ∷ []) (tuple 0 0)
    ++ start second (kind.User 0 0)
    ∷ start (number_in 1 1 ∷ 2 ∷ 1 ∷ []) (kind.Read 0)
    ∷ get (number_in 1 1 ∷ 2 ∷ 1 ∷ 1 ∷ []) (tuple 0 0)
    ++ commit (number_in 1 1 ∷ 2 ∷ 1 ∷ []) (answer.Value (Number 0))
    ∷ commit second answer.Nothing
    ∷ commit (number_in 1 1 ∷ 1 ∷ 1 ∷ []) (answer.Value (Number 0))
    ∷ []

abbrev both_ended : List Entry
both_ended = side_by_side ++ commit first answer.Nothing ∷ []

legal_ended : Legal setting (reverse both_ended)
legal_ended = search rules

-- the parent is served what the second child read, and the first child its own read after it
served_parent : served_order (reverse side_by_side) top ≡ read_of second ∷ []
served_parent = refl

served_first : served_order (reverse side_by_side) first ≡ read_of second ∷ read_of first ∷ []
served_first = refl

-- and in this order the parent is served both once both have ended
served_both : served_order (reverse both_ended) top ≡ read_of second ∷ read_of first ∷ []
served_both = refl

-- outside the top nothing is seen of it
served_root : served_order (reverse both_ended) [] ≡ []
served_root = refl
