-- Nodes as spots: what is known of a started name, and where a child's node is.
use Rattle.std.specs.Prelude.{ℕ, ◌≡◌, ◌<◌, List, [], ◌∷◌, ◌++◌, map, length, Option, None, Some, slice_get, slice_set, slice_index_or, zero, suc}
use Rattle.qc_event.specs.declared.event.Outcome.{Outcome}
use Rattle.qc_event.specs.declared.event.Outcome.TheVariants.{Live}
use Rattle.qc_history.specs.declared.nodes.Node.{Node}

-- What is known of a started name: how it stands, the places of its start, its end and its ready entry among the
-- entries, and the places of its children among the nodes.
pub record Spot : Type 0 where
  pub start : Option ℕ
  pub outcome : Outcome
  pub end : Option ℕ
  pub ready : Option ℕ
  pub children : List ℕ

-- a node, as a spot
abbrev pub spot : Node → Spot
spot n = record { start = Some n.start; outcome = n.outcome; end = n.end; ready = n.ready; children = n.children.items }

-- the nodes, as spots
abbrev pub spots : List Node → List Spot
spots nodes = map spot nodes

-- a name that has just started
abbrev pub new_spot : Option ℕ → Spot
new_spot start = record { start = start; outcome = Live; end = None; ready = None; children = [] }

-- the place of the child with a number: children are numbered from 1
abbrev pub child_at : List ℕ → ℕ → Option ℕ
child_at children zero = None
child_at children (suc j) = slice_get children j

-- the spot at a place
abbrev pub at : List Spot → ℕ → Spot
at all i = slice_index_or all i (new_spot None)

-- one child more
abbrev pub with_child : ℕ → Spot → Spot
with_child c s = record s { children = s.children ++ c ∷ [] }

-- its end
abbrev pub with_end : Outcome → ℕ → Spot → Spot
with_end outcome i s = record s { outcome = outcome; end = Some i }

-- its ready entry
abbrev pub with_ready : ℕ → Spot → Spot
with_ready i s = record s { ready = Some i }

-- the spots, of which one is changed
abbrev pub changed : List Spot → ℕ → (Spot → Spot) → List Spot
changed all i f = slice_set all i (f (at all i))

-- each child's place is the place of a spot
abbrev pub AreWithin : List Spot → Type 0
AreWithin all = (i : ℕ) (s : Spot) (j c : ℕ) → slice_get all i ≡ Some s → slice_get s.children j ≡ Some c → c < length all

-- no spot has as many children as there are spots
abbrev pub AreFewer : List Spot → Type 0
AreFewer all = (i : ℕ) (s : Spot) → slice_get all i ≡ Some s → length s.children < length all
