-- What a body does: its steps one after another; and what sessions and a script are.
use Rattle.std.specs.Prelude.{ℕ, Bool, false, ◌+◌, ◌-◌, ◌%◌, ◌^◌, ◌<◌, ◌≤◌, ◌==◌, nat_le, if◌then◌else◌, List, [], ◌∷◌, length, Option, None, Some}
use Rattle.std.specs.List.{AllByRecursion, IsDistinct}
use Rattle.qc_config.specs.Val.{Number, number_of}
use Rattle.qc_event.specs.declared.event.Answer.{Answer}
use Rattle.qc_event.specs.declared.event.Answer.TheVariants as answer
use Rattle.qc_event.specs.Base.{Setting, IsConfigFor}
use Rattle.qc_event.specs.declared.event.Kind.{Kind}
use Rattle.qc_event.specs.declared.event.Kind.TheVariants as kind
use Rattle.qc_event.specs.declared.table.Table.{Table}
use Rattle.qc_net.specs.declared.link.Fate.{Fate}

-- A plan is what a body does, one thing before the plan of what follows. A manager of a kind reads, sets or gives a
-- record another configuration, and what follows may go by its answer. The body of a child has a number, how often it is
-- tried at most, whether it must commit for what follows, and a plan of its own. Children at once are told by a plan that
-- is a row of them. A copy that crashes and a session that is marked to be killed are told by their numbers.
pub data Plan : Type 0 where
  done : Plan
  manage_by : Kind → (Answer → Plan) → Plan
  child_then : ℕ → ℕ → Bool → Plan → Plan → Plan
  par_then : Plan → Plan → Plan
  abort_then : ℕ → Plan → Plan
  crash_then : ℕ → Plan → Plan
  kill_then : ℕ → Plan → Plan

-- whatever the manager answers
abbrev pub manage_then : Kind → Plan → Plan
manage_then k rest = Plan.manage_by k (λ given. rest)

-- the number that a read answered; none where it answered a text
abbrev pub number_in : Answer → Option ℕ
number_in (answer.Value value) = number_of value
number_in _ = None

-- numbers are changed modulo 2 ^ 64
abbrev pub plus : ℕ → ℕ → ℕ
plus value n = (value + n) % 2 ^ 64

abbrev pub minus : ℕ → ℕ → ℕ
minus value n = (value + (2 ^ 64 - n)) % 2 ^ 64

-- a number is written as it is then changed; where there is none, the transaction aborts itself
abbrev pub write_changed : ℕ → (ℕ → ℕ) → Plan → Option ℕ → Plan
write_changed rec changed rest None = Plan.abort_then 0 rest
write_changed rec changed rest (Some n) = manage_then (kind.Write rec (Number (changed n))) rest

-- a record is read, and its number is written changed; where it has a text, the transaction aborts itself
abbrev pub change_then : ℕ → (ℕ → ℕ) → Plan → Plan
change_then rec changed rest = Plan.manage_by (kind.Read rec) (λ given. write_changed rec changed rest (number_in given))

-- whether a read answered a number that is at least this one
abbrev pub is_enough : ℕ → Answer → Bool
is_enough least given = elim (number_in given) [ None ↦ false | Some n ↦ nat_le least n ]

-- a record is read, and the transaction aborts itself where that is not enough
abbrev pub need_then : ℕ → ℕ → Plan → Plan
need_then rec least rest = Plan.manage_by (kind.Read rec) (λ given. if is_enough least given then rest else Plan.abort_then 0 rest)

-- A body: its number, how often it is tried at most, whether it must commit as a child, and its plan.
pub record Numbered : Type 0 where
  pub number : ℕ
  pub tries : ℕ
  pub must : Bool
  pub plan : Plan

-- a row of bodies, as the plan of children one after another
abbrev pub row_of : List Numbered → Plan
row_of [] = Plan.done
row_of (b ∷ bodies) = Plan.child_then b.number b.tries b.must b.plan (row_of bodies)

-- A session: the fates of its requests, after how many due steps a held one is delivered, and the bodies of its tops.
pub record SessionPlan : Type 0 where
  pub fates : List Fate
  pub hold : ℕ
  pub tops : List Numbered

-- A script: its table, how many due steps a sender waits, and its sessions in order.
pub record ScriptPlan : Type 0 where
  pub table : Table
  pub patience : ℕ
  pub sessions : List SessionPlan

-- a body is tried once or more
abbrev pub IsTried : ℕ → Type 0
IsTried tries = (1 ≤ tries) × (tries ≤ 16)

-- a manager is of one of so many records, and a configuration that it brings is for so many copies
abbrev pub KindWithin : ℕ → ℕ → Kind → Type 0
KindWithin copies records (kind.Read rec) = rec < records
KindWithin copies records (kind.Write rec value) = rec < records
KindWithin copies records (kind.Reconf rec config) = (rec < records) × IsConfigFor copies config
KindWithin copies records _ = ⊥

-- a plan of nothing but children
abbrev pub IsRow : Plan → Type 0
IsRow Plan.done = Unit {0}
IsRow (Plan.child_then number tries must inner rest) = IsRow rest
IsRow _ = ⊥

-- how many children stand in a row
abbrev pub row_length : Plan → ℕ
row_length (Plan.child_then number tries must inner rest) = row_length rest + 1
row_length _ = 0

-- the numbers of the bodies in a row
abbrev pub row_numbers : Plan → List ℕ
row_numbers (Plan.child_then number tries must inner rest) = number ∷ row_numbers rest
row_numbers _ = []

-- Each step of a body of this depth is about one of so many records at so many copies, its configurations are
-- for these copies, its bodies are no deeper than 16 and tried, those that run at once are a row of 1 to 8
-- with different numbers, what it aborts is the transaction itself or an ancestor below the root, what crashes is one of
-- the copies, and what it marks is one of sixteen sessions.
abbrev pub PlanWithin : ℕ → ℕ → ℕ → Plan → Type 0
PlanWithin copies records depth Plan.done = Unit {0}
PlanWithin copies records depth (Plan.manage_by k next) = KindWithin copies records k × ((given : Answer) → PlanWithin copies records depth (next given))
PlanWithin copies records depth (Plan.child_then number tries must inner rest) =
    (depth < 16) × IsTried tries × PlanWithin copies records (depth + 1) inner × PlanWithin copies records depth rest
PlanWithin copies records depth (Plan.par_then branches rest) =
    IsRow branches × (1 ≤ row_length branches) × (row_length branches ≤ 8) × PlanWithin copies records depth branches × PlanWithin copies records depth rest
    × IsDistinct ◌==◌ (row_numbers branches)
PlanWithin copies records depth (Plan.abort_then levels rest) = (levels < depth) × PlanWithin copies records depth rest
PlanWithin copies records depth (Plan.crash_then copy rest) = (copy < copies) × PlanWithin copies records depth rest
PlanWithin copies records depth (Plan.kill_then session rest) = (session < 16) × PlanWithin copies records depth rest

abbrev pub TopsWithin : ℕ → ℕ → List Numbered → Type 0
TopsWithin copies records [] = Unit {0}
TopsWithin copies records (b ∷ bodies) = IsTried b.tries × PlanWithin copies records 1 b.plan × TopsWithin copies records bodies

-- a session with at most 64 fates and a hold of 1 to 64, whose tops are about so many records at so many copies
pub record SessionWithin (copies records : ℕ) (s : SessionPlan) : Type 0 where
  pub few_fates : length s.fates ≤ 64
  pub some_hold : 0 < s.hold
  pub short_hold : s.hold ≤ 64
  pub tops : TopsWithin copies records s.tops

abbrev pub SessionsWithin : ℕ → ℕ → List SessionPlan → Type 0
SessionsWithin copies records sessions = AllByRecursion (SessionWithin copies records) sessions

-- what may be asked for over the records and copies of a setting
abbrev pub KindFits : Setting → Kind → Type 0
KindFits setting k = KindWithin (length setting.base) (length setting.firsts) k

abbrev pub CopyFits : Setting → ℕ → Type 0
CopyFits setting copy = copy < length setting.base

abbrev pub PlanFits : Setting → ℕ → Plan → Type 0
PlanFits setting depth plan = PlanWithin (length setting.base) (length setting.firsts) depth plan

abbrev pub BodiesFit : Setting → List Numbered → Type 0
BodiesFit setting bodies = TopsWithin (length setting.base) (length setting.firsts) bodies

abbrev pub SessionsFit : Setting → List SessionPlan → Type 0
SessionsFit setting sessions = SessionsWithin (length setting.base) (length setting.firsts) sessions
