-- What a script is, as a function on a JSON value: its parts from outside in, and the first refusal.
use Rattle.std.specs.Prelude.{ℕ, ◌+◌, ◌-◌, ◌*◌, ◌==◌, ◌||◌, Bool, false, not, nat_lt, if◌then◌else◌, List, [], ◌∷◌, ◌++◌, length, map, codes, None, Some, is_some, ok_or, Ok, Err}
use Rattle.std.proofs.Common.{zero, suc}
use Rattle.std.specs.Char.{is_ascii_alphanumeric}
use Rattle.std.specs.List.{list_all, list_any, position}
use Rattle.std.specs.Result.{is_ok}
use Rattle.std.specs.Str.{bytes_eq}
use Rattle.serde_json.specs.Data.{Data}
use Rattle.serde_json.specs.Find.{as_str, as_object, as_bool}
use Rattle.qc_config.specs.Val.{Datum, longest}
use Rattle.qc_config.specs.Val as val
use Rattle.qc_event.specs.declared.event.Kind.TheVariants as kind
use Rattle.qc_config.specs.Config.{Voting, fault}
use Rattle.qc_event.specs.declared.table.Row.{Row}
use Rattle.qc_event.specs.declared.table.Table.{Table}
use Rattle.qc_net.specs.declared.link.Fate.{Fate}
use Rattle.qc_net.specs.declared.link.Fate.TheVariants.{Deliver, LoseAsk, LoseReply, Hold, Twice as TwoTimes}
use Rattle.qc_script.specs.declared.bad_script.BadScript.TheVariants.{Shape, Limit, Config, Unknown, Twice}
use Rattle.qc_script.specs.declared.bad_script.Member.{Member}
use Rattle.qc_script.specs.declared.bad_script.Member.TheVariants as part
use Rattle.qc_script.specs.Plan.{Plan, Numbered, SessionPlan, ScriptPlan, manage_then, change_then, need_then, plus, minus, row_of as row_of_bodies}
use Rattle.qc_script.specs.JsonText.{Text, Read, ◌>>=◌, must, each, object_of, list_of, digits_of, member_at, number_at, text_at, list_at, within, limited, member_or}

-- RECORDS

-- The form of a record's name: 1 to 16 ASCII letters and digits.
abbrev pub form_of_name : Text → Read (Unit {0})
form_of_name text = do
  _ ← must (list_all is_ascii_alphanumeric text) (Shape part.Name)
  within part.Name 1 16 (length text)

-- the names of records, each at its record's number
abbrev pub names_of : List Row → List Text
names_of rows = map (λ row. row.name) rows

-- a name that is none of these
abbrev pub fresh : List Text → Text → Read (Unit {0})
fresh names name = must (not (list_any (bytes_eq name) names)) (Twice name)

abbrev pub name_of : List Text → Data → Read Text
name_of names d = do
  name ← text_at (codes "name") part.Name d
  _ ← form_of_name name
  _ ← fresh names name
  Ok name

abbrev pub vote_of : Data → Read ℕ
vote_of d = limited part.Votes 0 255 d

-- a configuration, or its first fault
abbrev pub configured : List ℕ → ℕ → ℕ → Read Voting
configured votes read write = elim (fault votes read write) [ None ↦ Ok (record { votes = votes; read = read; write = write }) | Some e ↦ Err (Config e) ]

abbrev pub config_of : ℕ → Data → Read Voting
config_of copies d = do
  _ ← object_of part.Config (codes "votes" ∷ codes "read" ∷ codes "write" ∷ []) [] d
  votes ← list_at (codes "votes") part.Votes d
  _ ← must (length votes == copies) (Limit part.Votes (length votes))
  votes ← each vote_of votes
  read ← number_at (codes "read") part.Read d
  write ← number_at (codes "write") part.Write d
  configured votes read write

-- a number in digits, or a text
abbrev pub is_value : Data → Bool
is_value d = is_some (digits_of d) || is_some (as_str d)

-- a text that is not too long; the words are for another type, and for a text that is longer
abbrev pub text_of : Member → Member → Data → Read Datum
text_of word long d = do
  text ← ok_or (as_str d) (Shape word)
  _ ← within long 0 longest (length text)
  Ok (val.Text text)

-- a value: a number in digits, or such a text
abbrev pub value_of : Member → Member → Data → Read Datum
value_of word long d = elim (digits_of d) [ None ↦ text_of word long d | Some n ↦ Ok (val.Number n) ]

-- a record, behind those of these names
abbrev pub row_of : ℕ → List Text → Data → Read Row
row_of copies names d = do
  _ ← object_of part.RecordRow (codes "name" ∷ codes "start" ∷ codes "config" ∷ []) [] d
  name ← name_of names d
  start ← member_at (codes "start") part.Start d
  start ← value_of part.Start part.Start start
  config ← member_at (codes "config") part.Config d
  config ← config_of copies config
  Ok (record { name = name; start = start; config = config })

-- the rows, and one more for each of the elements
abbrev pub rows_of : ℕ → List Row → List Data → Read (List Row)
rows_of copies rows [] = Ok rows
rows_of copies rows (d ∷ ds) = row_of copies (names_of rows) d >>= λ row. rows_of copies (rows ++ row ∷ []) ds

-- NETS

abbrev pub is_letter : Text → ℕ → Bool
is_letter text letter = bytes_eq text (letter ∷ [])

-- the fate that a letter stands for
abbrev pub fate_of : ℕ → Read Fate
fate_of letter =
    if is_letter (codes "d") letter then Ok Deliver
    else if is_letter (codes "a") letter then Ok LoseAsk
    else if is_letter (codes "r") letter then Ok LoseReply
    else if is_letter (codes "h") letter then Ok Hold
    else if is_letter (codes "t") letter then Ok TwoTimes
    else Err (Shape part.Fates)

-- at most 64 fates, as their letters
abbrev pub fates_of : Data → Read (List Fate)
fates_of d = do
  text ← ok_or (as_str d) (Shape part.Fates)
  fates ← each fate_of text
  _ ← within part.Fates 0 64 (length text)
  Ok fates

-- the fates of requests, and after how many due steps a held one is delivered
abbrev pub Net : Type 0
Net = List Fate × ℕ

abbrev pub net_of : Data → Read Net
net_of d = do
  _ ← object_of part.Net [] (codes "fates" ∷ codes "hold" ∷ []) d
  fates ← member_or (codes "fates") [] fates_of d
  hold ← member_or (codes "hold") 1 (limited part.Hold 1 64) d
  Ok (fates, hold)

-- BODIES

abbrev pub is_word : Text → Data → Bool
is_word word d = elim (as_str d) [ None ↦ false | Some text ↦ bytes_eq text word ]

-- a text of the form of a record's name
abbrev pub step_name : Data → Read Text
step_name d = do
  name ← ok_or (as_str d) (Shape part.Step)
  _ ← must (is_ok (form_of_name name)) (Shape part.Step)
  Ok name

-- the number of the record of a name
abbrev pub number_of : Table → Text → Read ℕ
number_of table name = ok_or (position (bytes_eq name) (names_of table.records)) (Unknown name)

-- A step, as what it makes of the plan of the steps after it.
abbrev pub Front : Type 0
Front = Plan → Plan

-- what is read, and the number of the body that begins next
abbrev pub Counted : Type 0 → Type 0
Counted A = Read (A × ℕ)

-- each element of a list, in order, where the numbers of bodies go on from one element to the next
abbrev pub each_counted : {A : Type 0} → (ℕ → Data → Counted A) → ℕ → List Data → Counted (List A)
each_counted f next [] = Ok ([], next)
each_counted f next (d ∷ ds) = f next d >>= λ x. each_counted f x.1 ds >>= λ rest. Ok (x.0 ∷ rest.0, rest.1)

-- what steps may speak of: the records and copies of a table, and so many sessions
pub record Scope : Type 0 where
  pub table : Table
  pub sessions : ℕ

-- a step, or a part of one, that is a list
abbrev pub list_in_step : Data → Read (List Data)
list_in_step d = ok_or (list_of d) (Shape part.Step)

-- ["read", R]
abbrev pub read_of : Table → ℕ → Data → Counted Front
read_of table next rec = do
  name ← step_name rec
  i ← number_of table name
  Ok (manage_then (kind.Read i), next)

-- a record's number, and a number
abbrev pub amount_of : Table → Data → Data → Read (ℕ × ℕ)
amount_of table rec value = do
  name ← step_name rec
  n ← ok_or (digits_of value) (Shape part.Step)
  i ← number_of table name
  Ok (i, n)

-- ["set", R, v]
abbrev pub set_of : Table → ℕ → Data → Data → Counted Front
set_of table next rec value = do
  name ← step_name rec
  _ ← must (is_value value) (Shape part.Step)
  i ← number_of table name
  v ← value_of part.Step part.Value value
  Ok (manage_then (kind.Write i v), next)

-- ["add", R, n]
abbrev pub add_of : Table → ℕ → Data → Data → Counted Front
add_of table next rec value = amount_of table rec value >>= λ a. Ok (change_then a.0 (λ old. plus old a.1), next)

-- ["sub", R, n]
abbrev pub sub_of : Table → ℕ → Data → Data → Counted Front
sub_of table next rec value = amount_of table rec value >>= λ a. Ok (change_then a.0 (λ old. minus old a.1), next)

-- ["need", R, n]
abbrev pub need_of : Table → ℕ → Data → Data → Counted Front
need_of table next rec value = amount_of table rec value >>= λ a. Ok (need_then a.0 a.1, next)

-- ["reconf", R, config]
abbrev pub reconf_of : Table → ℕ → Data → Data → Counted Front
reconf_of table next rec config = do
  name ← step_name rec
  _ ← must (is_some (as_object config)) (Shape part.Step)
  i ← number_of table name
  c ← config_of table.copies config
  Ok (manage_then (kind.Reconf i c), next)

-- ["child", body], where the body is read so
abbrev pub child_of : (ℕ → Data → Counted Numbered) → ℕ → Data → Counted Front
child_of body next d = do
  _ ← must (is_some (as_object d)) (Shape part.Step)
  inner ← body next d
  Ok (Plan.child_then inner.0.number inner.0.tries inner.0.must inner.0.plan, inner.1)

-- the elements of a list of 1 to 8 branches
abbrev pub branches_of : Data → Read (List Data)
branches_of d = do
  branches ← list_in_step d
  _ ← within part.Branches 1 8 (length branches)
  Ok branches

-- ["par", [body, ..]], where each body is read so
abbrev pub par_of : (ℕ → Data → Counted Numbered) → ℕ → Data → Counted Front
par_of body next d = do
  branches ← branches_of d
  bodies ← each_counted body next branches
  Ok (Plan.par_then (row_of_bodies bodies.0), bodies.1)

-- ["abort", k], in a body of this depth
abbrev pub abort_of : ℕ → ℕ → Data → Counted Front
abort_of depth next levels = do
  k ← ok_or (digits_of levels) (Shape part.Step)
  _ ← must (nat_lt k depth) (Limit part.Levels k)
  Ok (Plan.abort_then k, next)

-- ["crash", c], at so many copies
abbrev pub crash_of : ℕ → ℕ → Data → Counted Front
crash_of copies next copy = do
  c ← ok_or (digits_of copy) (Shape part.Step)
  _ ← must (nat_lt c copies) (Limit part.Copy c)
  Ok (Plan.crash_then c, next)

-- ["kill", s], of so many sessions
abbrev pub kill_of : ℕ → ℕ → Data → Counted Front
kill_of sessions next session = do
  s ← ok_or (digits_of session) (Shape part.Step)
  _ ← must (nat_lt s sessions) (Limit part.Session s)
  Ok (Plan.kill_then s, next)

-- a step of two elements
abbrev pub two_of : (ℕ → Data → Counted Numbered) → ℕ → Scope → ℕ → Data → Data → Counted Front
two_of body depth scope next word d =
    if is_word (codes "read") word then read_of scope.table next d
    else if is_word (codes "child") word then child_of body next d
    else if is_word (codes "par") word then par_of body next d
    else if is_word (codes "abort") word then abort_of depth next d
    else if is_word (codes "crash") word then crash_of scope.table.copies next d
    else if is_word (codes "kill") word then kill_of scope.sessions next d
    else Err (Shape part.Step)

-- a step of three elements
abbrev pub three_of : Table → ℕ → Data → Data → Data → Counted Front
three_of table next word rec value =
    if is_word (codes "set") word then set_of table next rec value
    else if is_word (codes "add") word then add_of table next rec value
    else if is_word (codes "sub") word then sub_of table next rec value
    else if is_word (codes "need") word then need_of table next rec value
    else if is_word (codes "reconf") word then reconf_of table next rec value
    else Err (Shape part.Step)

-- the elements of a step
abbrev pub step_in : (ℕ → Data → Counted Numbered) → ℕ → Scope → ℕ → List Data → Counted Front
step_in body depth scope next (word ∷ d ∷ []) = two_of body depth scope next word d
step_in body depth scope next (word ∷ rec ∷ value ∷ []) = three_of scope.table next word rec value
step_in body depth scope next _ = Err (Shape part.Step)

-- a step of a body of this depth, where bodies in it are read so
abbrev pub step_of : (ℕ → Data → Counted Numbered) → ℕ → Scope → ℕ → Data → Counted Front
step_of body depth scope next d = list_in_step d >>= step_in body depth scope next

abbrev pub steps_of : (ℕ → Data → Counted Numbered) → ℕ → Scope → ℕ → List Data → Counted Plan
steps_of body depth scope next [] = Ok (Plan.done, next)
steps_of body depth scope next (d ∷ ds) =
    step_of body depth scope next d >>= λ first. steps_of body depth scope first.1 ds >>= λ rest. Ok (first.0 rest.0, rest.1)

abbrev pub body_object : Data → Read (Unit {0})
body_object d = object_of part.Body (codes "steps" ∷ []) (codes "tries" ∷ codes "must" ∷ []) d

-- How often a body is tried at most. With the tries of the bodies around it, whose product this is, it is 256
-- times at most.
abbrev pub tries_of : ℕ → Data → Read ℕ
tries_of around d = do
  tries ← member_or (codes "tries") 1 (limited part.Tries 1 16) d
  _ ← within part.Tries 0 256 (around * tries)
  Ok tries

-- whether a body must commit, as a child: true or false
abbrev pub must_of : Data → Read Bool
must_of d = member_or (codes "must") false (λ value. ok_or (as_bool value) (Shape part.Must)) d

-- A body that may have so many levels of bodies, itself among them, with this number, where the tries of the
-- bodies around it have this product. The depth of a top's body is 1, and no body is deeper than 16.
abbrev pub body_of : ℕ → ℕ → Scope → ℕ → Data → Counted Numbered
body_of zero around scope next d = body_object d >>= λ _. Err (Limit part.Body 17)
body_of (suc below) around scope next d = do
  _ ← body_object d
  tries ← tries_of around d
  needed ← must_of d
  steps ← list_at (codes "steps") part.Steps d
  plan ← steps_of (body_of below (around * tries) scope) (16 - below) scope (next + 1) steps
  Ok (record { number = next; tries = tries; must = needed; plan = plan.0 }, plan.1)

-- the bodies of tops, the first of them with this number
abbrev pub bodies_of : Scope → ℕ → List Data → Counted (List Numbered)
bodies_of scope next ds = each_counted (body_of 16 1 scope) next ds

-- SESSIONS

-- a session, whose first body has this number; without a net every request is delivered
abbrev pub session_of : Scope → ℕ → Data → Counted SessionPlan
session_of scope next d = do
  _ ← object_of part.Session (codes "tops" ∷ []) (codes "net" ∷ []) d
  net ← member_or (codes "net") ([], 1) net_of d
  tops ← list_at (codes "tops") part.Tops d
  bodies ← bodies_of scope next tops
  Ok (record { fates = net.0; hold = net.1; tops = bodies.0 }, bodies.1)

-- sessions in order, through all of which bodies are numbered from 0 on
abbrev pub sessions_of : Scope → List Data → Read (List SessionPlan)
sessions_of scope ds = each_counted (session_of scope) 0 ds >>= λ sessions. Ok sessions.0

-- SCRIPTS

abbrev pub copies_of : Data → Read ℕ
copies_of d = do
  copies ← number_at (codes "copies") part.Copies d
  _ ← within part.Copies 1 16 copies
  Ok copies

abbrev pub records_of : ℕ → Data → Read Table
records_of copies d = do
  records ← list_at (codes "records") part.Records d
  _ ← within part.Records 1 64 (length records)
  rows ← rows_of copies [] records
  Ok (record { copies = copies; records = rows })

abbrev pub sessions_at : Table → Data → Read (List SessionPlan)
sessions_at table d = do
  sessions ← list_at (codes "sessions") part.Sessions d
  _ ← within part.Sessions 1 16 (length sessions)
  sessions_of (record { table = table; sessions = length sessions }) sessions

abbrev pub script_of : Data → Read ScriptPlan
script_of d = do
  _ ← object_of part.Script (codes "copies" ∷ codes "records" ∷ codes "sessions" ∷ []) (codes "patience" ∷ []) d
  copies ← copies_of d
  patience ← member_or (codes "patience") 4 (limited part.Patience 1 64) d
  table ← records_of copies d
  sessions ← sessions_at table d
  Ok (record { table = table; patience = patience; sessions = sessions })
