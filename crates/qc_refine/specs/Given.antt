-- Lists of grants: their phases, their tuples and their copies.
use Rattle.std.specs.Prelude.{◌≡◌, Bool, ◌==◌, List, [], ◌∷◌, map, filter}
use Rattle.std.specs.List.{list_any}
use Rattle.qc_config.specs.declared.tuple.Op.{Op}
use Rattle.qc_config.specs.declared.tuple.Tuple.{Tuple}
use Rattle.qc_event.specs.declared.event.Phase.{Phase}
use Rattle.qc_event.specs.History.{Given}
use Rattle.qc_event.specs.Manager.{phase_of, is_phase, all_copies}

-- the grants that were asked for in a phase
abbrev pub in_phase : Phase → List Given → List Given
in_phase phase given = filter (λ (g : Given). is_phase phase (phase_of g.grant.op)) given

-- the tuples of grants
abbrev pub tuples_of : List Given → List Tuple
tuples_of given = map (λ (g : Given). g.grant.tuple) given

-- for each copy whether a grant is from there
abbrev pub marks_of : List Given → List Bool
marks_of given = map (λ copy. list_any (λ (g : Given). g.copy == copy) given) all_copies

-- each grant is of one operation
abbrev pub AllDo : Op → List Given → Type 0
AllDo op [] = Unit {0}
AllDo op (g ∷ given) = (g.grant.op ≡ op) × AllDo op given
