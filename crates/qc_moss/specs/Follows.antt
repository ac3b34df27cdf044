-- When a lock table is one of the grants of a copy, at some moment of a history.
use Rattle.std.specs.Prelude.{ℕ, ◌≡◌, ◌==◌, ◌⊎◌, true, false, List, [], ◌∷◌, ◌++◌, filter, is_some, None, All}
use Rattle.qc_names.specs.Name as name
use Rattle.qc_config.specs.declared.tuple.Tuple.{Tuple}
use Rattle.qc_event.specs.declared.event.Grant.{Grant}
use Rattle.qc_event.specs.History.{Past, Name}
use Rattle.qc_event.specs.Dead.{dead, outcome, is_committed}
use Rattle.qc_moss.specs.declared.holder.Holder.{Holder}
use Rattle.qc_event.specs.Clear.{is_get}
use Rattle.qc_moss.specs.Locks.{Table, holders_of, start_of, base_of, alone, joined, effect}

-- A transaction inherited what was done at another: each ancestor of the one below that is none of the one above
-- is committed.
pub record IsInherited (past : Past) (below at : Name) : Type 0 where
  pub above : name.is_ancestor at below ≡ true
  pub committed : (a : Name) → name.is_ancestor a below ≡ true → name.is_ancestor a at ≡ false → is_committed (outcome past a) ≡ true

-- a name is one of these
abbrev pub IsAmong : Name → List Name → Type 0
IsAmong n [] = ⊥
IsAmong n (m ∷ names) = (n ≡ m) ⊎ IsAmong n names

-- The locks are those of the grants, in order, but for some whose access is dead. Neighbours that one transaction
-- holds may be one lock, and a read may be under any lock that its transaction holds before; those that hold
-- one before the list are named.
pub data AreOf (past : Past) : List Name → List Grant → List Holder → Type 0 where
  none : (before : List Name) → AreOf past before [] []
  gone : (before : List Name) (g : Grant) (given : List Grant) (held : List Holder) → is_some (dead past g.access) ≡ true → AreOf past before given held → AreOf past before (g ∷ given) held
  kept : (before : List Name) (g : Grant) (at : Name) (given : List Grant) (held : List Holder) → IsInherited past g.access at → AreOf past (at ∷ before) given held → AreOf past before (g ∷ given) (alone g.access at g.op ∷ held)
  more : (before : List Name) (g : Grant) (h : Holder) (given : List Grant) (held : List Holder) → IsInherited past g.access h.at → AreOf past (h.at ∷ before) given (h ∷ held) → AreOf past before (g ∷ given) (joined (alone g.access h.at g.op) h ∷ held)
  read : (before : List Name) (g : Grant) (at : Name) (given : List Grant) (held : List Holder) → is_get g.op ≡ true → IsAmong at before → IsInherited past g.access at → AreOf past before given held → AreOf past before (g ∷ given) held

-- a record's tuple and locks: nothing was folded, or a lock at the root was
pub data AreFolded (past : Past) (given : List Grant) (start base : Tuple) (held : List Holder) : Type 0 where
  nothing : base ≡ start → AreOf past [] given held → AreFolded past given start base held
  folded : (h : Holder) → h.at ≡ [] → base ≡ effect start h → AreOf past [] given (h ∷ held) → AreFolded past given start base held

-- A table follows a history with the grants of its copy: the locks of each record are those of its grants.
-- What the history settled may be settled there or not.
abbrev pub TableFollows : Past → List Grant → Table → Type 0
TableFollows past given table = (rec : ℕ) → AreFolded past (filter (λ (g : Grant). g.rec == rec) given) (start_of table rec) (base_of table rec) (holders_of table rec)

-- Nothing is left to settle of who holds a lock: it is not dead, and not committed unless it is the root.
pub record IsStill (past : Past) (at : Name) : Type 0 where
  pub alive : dead past at ≡ None
  pub not_committed : (at ≡ []) ⊎ (is_committed (outcome past at) ≡ false)

abbrev pub HoldsStill : Past → Holder → Type 0
HoldsStill past h = IsStill past h.at

-- nothing is left to settle of a record's locks
abbrev pub IsSettled : Past → Table → ℕ → Type 0
IsSettled past table rec = All (HoldsStill past) (holders_of table rec)

-- a lock that went up
pub record HasMoved (past : Past) (h moved : Holder) : Type 0 where
  pub same : moved ≡ record h { at = moved.at }
  pub up : IsInherited past h.at moved.at

-- whatever grants the one list is of, with locks before them, so is the other
abbrev pub Becomes : Past → List Holder → List Holder → Type 0
Becomes past old new = (given : List Grant) (front : List Holder) → AreOf past [] given (front ++ old) → AreOf past [] given (front ++ new)
