-- The lock table of one copy, and what becomes of it (Moss).
use Rattle.std.specs.Prelude.{ℕ, ◌≡◌, Bool, true, false, not, if◌then◌else◌, List, [], ◌∷◌, ◌++◌, map, fold, slice_index_or, slice_set, Option, None, Some, ◌<◌, vec_len, vec_capacity, Vec, is_none, ◌&&◌, ◌||◌}
use Rattle.std.specs.declared.alloc.Global.{Global}
use Rattle.std.specs.Option.{option_or}
use Rattle.qc_names.specs.Name as name
use Rattle.qc_config.specs.declared.tuple.Tuple.{Tuple}
use Rattle.qc_config.specs.declared.tuple.Op.{Op}
use Rattle.qc_config.specs.declared.tuple.Op.TheVariants.{Get, PutData, PutConfig}
use Rattle.qc_event.specs.Base.{no_tuple}
use Rattle.qc_event.specs.Clear.{is_get}
use Rattle.qc_event.specs.History.{Name, same}
use Rattle.qc_moss.specs.declared.holder.Holder.{Holder}
use Rattle.qc_moss.specs.declared.holder.Put.{Put}
use Rattle.qc_moss.specs.declared.holder.Change.{Change}
use Rattle.qc_moss.specs.declared.locks.Test.{Test}
use Rattle.qc_moss.specs.declared.locks.Test.TheVariants.{Free, Held}

-- A lock table: the tuple with which each record starts, the tuple with what was folded into it, its locks in
-- order of their first grants, and whether there is room for one more.
pub record Table : Type 0 where
  pub start : List Tuple
  pub base : List Tuple
  pub held : List (List Holder)
  pub reserved : Bool

-- a list of locks that takes one more without memory
abbrev pub HoldersHaveRoom : Vec Holder Global → Type 0
HoldersHaveRoom held = vec_len held < vec_capacity held

-- the lists in vectors
abbrev pub lists : List (Vec Holder Global) → List (List Holder)
lists held = map (λ (h : Vec Holder Global). h.items) held

-- the table without locks
abbrev pub unheld : List Tuple → Table
unheld start = record { start = start; base = start; held = map (λ _. []) start; reserved = false }

-- the locks of a record
abbrev pub holders_of : Table → ℕ → List Holder
holders_of table rec = slice_index_or table.held rec []

-- the tuple with which a record starts
abbrev pub start_of : Table → ℕ → Tuple
start_of table rec = slice_index_or table.start rec no_tuple

-- the tuple of a record with what was folded into it
abbrev pub base_of : Table → ℕ → Tuple
base_of table rec = slice_index_or table.base rec no_tuple

-- WHAT A LOCK IS

-- what an operation puts
abbrev pub put_of : Op → Option Put
put_of Get = None
put_of (PutData version value) = Some (record { version = version; value = value })
put_of (PutConfig generation config) = None

abbrev pub change_of : Op → Option Change
change_of Get = None
change_of (PutData version value) = None
change_of (PutConfig generation config) = Some (record { generation = generation; config = config })

-- who writes by an operation
abbrev pub writer_of : Name → Op → Option Name
writer_of access op = if is_get op then None else Some access

-- the lock of one grant, held there
abbrev pub alone : Name → Name → Op → Holder
alone access at op = record { first = access; at = at; writer = writer_of access op; put = put_of op; change = change_of op }

-- the lock of two neighbours that one transaction holds
abbrev pub joined : Holder → Holder → Holder
joined a b = record a { writer = option_or a.writer b.writer; put = option_or b.put a.put; change = option_or b.change a.change }

-- a tuple after puts of put
abbrev pub with_put : Option Put → Tuple → Tuple
with_put None t = t
with_put (Some d) t = record t { version = d.version; value = d.value }

abbrev pub with_change : Option Change → Tuple → Tuple
with_change None t = t
with_change (Some c) t = record t { generation = c.generation; config = c.config }

-- a tuple after all that was done under a lock
abbrev pub effect : Tuple → Holder → Tuple
effect t h = with_change h.change (with_put h.put t)

-- the first access under a lock that is in the way of a read, or of a write: none where who holds it is an
-- ancestor
abbrev pub in_way : Name → Bool → Holder → Option Name
in_way access write h = if name.is_ancestor h.at access then None else if write then Some h.first else h.writer

abbrev pub first_in_way : Name → Bool → List Holder → Option Name
first_in_way access write [] = None
first_in_way access write (h ∷ held) = option_or (in_way access write h) (first_in_way access write held)

-- the answer where this access is the first one in the way
abbrev pub test_by : Option Name → Test
test_by None = Free
test_by (Some first) = Held first

-- whether an access may read or write a record
abbrev pub test_of : Table → Name → ℕ → Bool → Test
test_of table access rec write = test_by (first_in_way access write (holders_of table rec))

-- what a record's locks leave
abbrev pub tuple_of : Table → ℕ → Tuple
tuple_of table rec = fold effect (base_of table rec) (holders_of table rec)

-- the table with one lock more, which the access itself holds
abbrev pub granted_to : Table → Name → ℕ → Op → Table
granted_to table access rec op = record table {
  held = slice_set table.held rec (holders_of table rec ++ alone access access op ∷ []);
  reserved = false;
}

-- whether the root holds a lock
abbrev pub is_root : Name → Bool
is_root [] = true
is_root (x ∷ n) = false

-- the locks without a first one that the root holds
abbrev pub unfolded : List Holder → List Holder
unfolded [] = []
unfolded (h ∷ held) = if is_root h.at then held else h ∷ held

-- a tuple with a first lock that the root holds
abbrev pub folded_into : Tuple → List Holder → Tuple
folded_into t [] = t
folded_into t (h ∷ held) = if is_root h.at then effect t h else t

-- whether nothing was put under a lock
abbrev pub is_read : Holder → Bool
is_read h = is_none h.writer && (is_none h.put && is_none h.change)

-- whether a transaction holds one of the locks
abbrev pub is_held : List Holder → Name → Bool
is_held [] at = false
is_held (h ∷ held) at = same h.at at || is_held held at

-- the locks with a next one after them: where one transaction holds it and the last one, they are one lock
abbrev pub with_neighbour : List Holder → Holder → List Holder
with_neighbour [] h = h ∷ []
with_neighbour (k ∷ []) h = if same k.at h.at then joined k h ∷ [] else k ∷ h ∷ []
with_neighbour (k ∷ l ∷ ks) h = k ∷ with_neighbour (l ∷ ks) h

-- The locks with a next one. One under which nothing was put is one with any that its transaction holds before,
-- so that transactions which read in turns have one lock each.
abbrev pub with_next : List Holder → Holder → List Holder
with_next held h = if is_read h && is_held held h.at then held else with_neighbour held h

-- whether no read among the locks could be one with a lock before them
abbrev pub none_joins : Holder → List Holder → Bool
none_joins k [] = true
none_joins k (h ∷ held) = not (is_read h && same k.at h.at) && none_joins k held

-- Whether no two locks could be one: neighbours are held by two, and a read by one who holds none before.
abbrev pub is_short : List Holder → Bool
is_short [] = true
is_short (k ∷ []) = true
is_short (k ∷ l ∷ held) = not (same k.at l.at) && (none_joins k held && is_short (l ∷ held))

-- whether the root holds the first lock
abbrev pub is_first_root : List Holder → Bool
is_first_root [] = false
is_first_root (h ∷ held) = is_root h.at

-- a record has the locks and the tuple that it had
pub record StaysAt (old new : Table) (rec : ℕ) : Type 0 where
  pub same_holders : holders_of new rec ≡ holders_of old rec
  pub same_base : base_of new rec ≡ base_of old rec

-- a lock that another transaction holds
abbrev pub held_at : Holder → Name → Holder
held_at h at = record h { at = at }
