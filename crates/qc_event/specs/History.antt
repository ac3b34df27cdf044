-- Histories, and the entries that stand in them.
use Rattle.std.specs.Prelude.{ℕ, ◌==◌, ◌+◌, ◌≡◌, Bool, true, ◌&&◌, if◌then◌else◌, List, [], ◌∷◌, ◌++◌, length, Option, None, Some, is_some, option_to_list}
use Rattle.std.specs.Option.{option_or, option_map}
use Rattle.std.specs.Cmp.Lexicographic.{pointwise}
use Rattle.qc_names.specs.Name as name
use Rattle.qc_event.specs.declared.event.Entry.{Entry}
use Rattle.qc_event.specs.declared.event.Event.{Event}
use Rattle.qc_event.specs.declared.event.Event.TheVariants as event
use Rattle.qc_event.specs.declared.event.Ask.{Ask}
use Rattle.qc_event.specs.declared.event.Grant.{Grant}
use Rattle.qc_event.specs.declared.event.Kind.{Kind}
use Rattle.qc_event.specs.declared.event.How.{How}
use Rattle.qc_event.specs.declared.event.Refusal.{Refusal}
use Rattle.qc_event.specs.declared.event.Why.{Why}

-- A history as the definitions read it: the latest entry stands first.
abbrev pub Past : Type 0
Past = List Entry

-- the most entries that a history takes
abbrev pub limit : ℕ
limit = 4294967295

-- a name: the numbers from the root down
abbrev pub Name : Type 0
Name = List ℕ

-- whether two names are the same
abbrev pub same : Name → Name → Bool
same = pointwise ◌==◌

-- the first answer, in the order of the history
abbrev pub earliest : {Y : Type 0} → (Entry → Option Y) → Past → Option Y
earliest f [] = None
earliest f (e ∷ past) = option_or (earliest f past) (f e)

-- every answer, in the order of the history
abbrev pub every : {Y : Type 0} → (Entry → Option Y) → Past → List Y
every f [] = []
every f (e ∷ past) = every f past ++ option_to_list (f e)

-- a start: the seat under which it was made, and the kind
pub record Begun : Type 0 where
  pub seat : ℕ
  pub kind : Kind

-- the start of a name, where the event is it
abbrev pub start_in : Name → ℕ → Event → Option Begun
start_in n seat (event.Start m kind) = if same m n then Some (record { seat = seat; kind = kind }) else None
start_in n seat _ = None

-- the end of a name, where the event is it
abbrev pub end_in : Name → Event → Option How
end_in n (event.End m how) = if same m n then Some how else None
end_in n _ = None

-- whether the event makes a name ready
abbrev pub ready_in : Name → Event → Option (Unit {0})
ready_in n (event.Ready m) = if same m n then Some tt else None
ready_in n _ = None

-- the start of a name
abbrev pub start : Past → Name → Option Begun
start past n = earliest (λ e. start_in n e.seat e.event) past

-- what a name was started for
abbrev pub kind_of : Past → Name → Option Kind
kind_of past n = option_map (λ (b : Begun). b.kind) (start past n)

-- how a name ended
abbrev pub end : Past → Name → Option How
end past n = earliest (λ e. end_in n e.event) past

-- whether a name is ready
abbrev pub is_ready : Past → Name → Bool
is_ready past n = is_some (earliest (λ e. ready_in n e.event) past)

-- A name is open where its start stands and its end does not.
pub record IsOpen (past : Past) (n : Name) : Type 0 where
  pub started : is_some (start past n) ≡ true
  pub not_ended : end past n ≡ None

-- whether a name is one number longer than another and begins with it
abbrev pub is_child : Name → Name → Bool
is_child parent n = (length n == length parent + 1) && name.is_ancestor parent n

-- the child of a name that the event starts
abbrev pub child_in : Name → Event → Option Name
child_in n (event.Start m kind) = if is_child n m then Some m else None
child_in n _ = None

-- the started children of a name, in the order of their starts
abbrev pub children : Past → Name → List Name
children past n = every (λ e. child_in n e.event) past

-- ACCESSES AND COPIES

-- a request, and the seat under which it was made
pub record Asked : Type 0 where
  pub seat : ℕ
  pub ask : Ask

-- a grant, and the copy that gave it
pub record Given : Type 0 where
  pub copy : ℕ
  pub grant : Grant

-- the request of an access, where the event is it
abbrev pub ask_in : Name → ℕ → Event → Option Asked
ask_in n seat (event.Ask ask) = if same ask.access n then Some (record { seat = seat; ask = ask }) else None
ask_in n seat _ = None

-- why an access got no answer, where the event says so
abbrev pub gone_in : Name → Event → Option Why
gone_in n (event.Gone m why) = if same m n then Some why else None
gone_in n _ = None

-- the grant of an access, where the event is it
abbrev pub grant_in : Name → Event → Option Given
grant_in n (event.Granted copy grant) = if same grant.access n then Some (record { copy = copy; grant = grant }) else None
grant_in n _ = None

-- the refusal of an access, where the event is it
abbrev pub refusal_in : Name → Event → Option Refusal
refusal_in n (event.Refused m copy refusal) = if same m n then Some refusal else None
refusal_in n _ = None

-- the request of an access
abbrev pub asked : Past → Name → Option Asked
asked past n = earliest (λ e. ask_in n e.seat e.event) past

-- why an access first got no answer
abbrev pub gone : Past → Name → Option Why
gone past n = earliest (λ e. gone_in n e.event) past

-- the grant of an access
abbrev pub granted : Past → Name → Option Given
granted past n = earliest (λ e. grant_in n e.event) past

-- the first refusal of an access
abbrev pub refused : Past → Name → Option Refusal
refused past n = earliest (λ e. refusal_in n e.event) past

-- the grant of a copy, where the event is one
abbrev pub grant_at : ℕ → Event → Option Grant
grant_at copy (event.Granted c grant) = if c == copy then Some grant else None
grant_at copy _ = None

-- what a copy granted, in order
abbrev pub grants : Past → ℕ → List Grant
grants past copy = every (λ e. grant_at copy e.event) past

-- the request of a manager's access, where the event is one
abbrev pub ask_below : Name → Event → Option Ask
ask_below m (event.Ask ask) = if is_child m ask.access then Some ask else None
ask_below m _ = None

-- what a manager's accesses asked, in order
abbrev pub asks : Past → Name → List Ask
asks past m = every (λ e. ask_below m e.event) past
