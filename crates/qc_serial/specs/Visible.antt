-- What a transaction sees of what the copies granted, in the order that completion gives.
use Rattle.std.specs.Prelude.{ℕ, ◌≡◌, ◌==◌, Bool, ◌&&◌, ◌||◌, if◌then◌else◌, IsTrue, List, [], ◌∷◌, ◌++◌, map, filter, flat_map, None, Some}
use Rattle.std.specs.List.{list_all}
use Rattle.qc_names.specs.Name as name
use Rattle.qc_config.specs.declared.tuple.Tuple.{Tuple}
use Rattle.qc_config.specs.Tuple.{after}
use Rattle.qc_event.specs.declared.event.Event.{Event}
use Rattle.qc_event.specs.declared.event.Event.TheVariants as event
use Rattle.qc_event.specs.declared.event.How.TheVariants.{Commit}
use Rattle.qc_event.specs.Base.{start_tuple}
use Rattle.qc_event.specs.History.{Past, Name, Given, same, is_child, granted}
use Rattle.qc_event.specs.Dead.{outcome, is_committed, ancestors}
use Rattle.qc_event.specs.Seen.{changed_by}
use Rattle.qc_serial.specs.Walk.{is_open_or_root}

-- What an entry gives a name: a grant to its access, and the commit of a child to the parent what the
-- child was given before.
abbrev pub given_in : (Name → List Given) → Name → Event → List Given
given_in before n (event.Granted copy grant) = if same grant.access n then record { copy = copy; grant = grant } ∷ [] else []
given_in before n (event.End c (Commit answer)) = if is_child n c then before c else []
given_in before n _ = []

-- what a name was given, in order
abbrev pub served : Past → Name → List Given
served [] n = []
served (e ∷ past) n = served past n ++ given_in (served past) n e.event

-- what the root was given, and then each open ancestor of the transaction in turn
abbrev pub served_order : Past → Name → List Given
served_order past t = flat_map (served past) (filter (is_open_or_root past) (ancestors t))

-- whether a grant is of a copy and a record
abbrev pub is_at : ℕ → ℕ → Given → Bool
is_at copy rec g = (g.copy == copy) && (g.grant.rec == rec)

-- the tuple that grants leave at a copy and a record: the start tuple, changed in order by each grant there
abbrev pub left_at : List (List Tuple) → List Given → ℕ → ℕ → Tuple
left_at base given copy rec = changed_by (start_tuple base copy rec) (map (λ (g : Given). g.grant) (filter (is_at copy rec) given))

-- Each grant's tuple is what the earlier ones leave at its copy and record, after its operation.
abbrev pub Finds : List (List Tuple) → List Given → Type 0
Finds base given = (earlier later : List Given) (g : Given) → given ≡ earlier ++ g ∷ later → g.grant.tuple ≡ after (left_at base earlier g.copy g.grant.rec) g.grant.op

-- Whether a transaction sees an access: each ancestor of the access is committed, or is an ancestor of
-- the transaction that is open; the root counts as open.
abbrev pub is_visible : Past → Name → Name → Bool
is_visible past access t = list_all (λ a. is_committed (outcome past a) || (name.is_ancestor a t && is_open_or_root past a)) (ancestors access)

-- A transaction sees a grant: the grant was given, its access and the access's manager are committed, and
-- the transaction sees the access.
pub record IsVisible (past : Past) (g : Given) (t : Name) : Type 0 where
  pub was_granted : granted past g.grant.access ≡ Some g
  pub access_committed : IsTrue (is_committed (outcome past g.grant.access))
  pub manager_committed : IsTrue (is_committed (outcome past (name.front g.grant.access)))
  pub seen_by : IsTrue (is_visible past g.grant.access t)

-- One grant was given before another: at some moment the one had been given and the other had not.
pub record IsGivenBefore (past : Past) (g h : Given) : Type 0 where
  pub newer : Past
  pub older : Past
  pub parts : past ≡ newer ++ older
  pub given : granted older g.grant.access ≡ Some g
  pub not_yet : granted older h.grant.access ≡ None

-- Grants to accesses of one manager stand in the order in which they were given, each at most once.
abbrev pub KeepsTurns : Past → List Given → Type 0
KeepsTurns past given = (earlier between later : List Given) (g h : Given) → given ≡ earlier ++ g ∷ (between ++ h ∷ later) → name.front g.grant.access ≡ name.front h.grant.access → IsGivenBefore past g h
