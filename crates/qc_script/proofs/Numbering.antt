-- Bodies that are read are numbered on, so those of one row have different numbers.
use Rattle.std.proofs.Common.{◌≡◌, ℕ, zero, suc, ◌+◌, ◌-◌, ◌*◌, ◌<◌, ◌≤◌, Bool, true, false, List, [], ◌∷◌, length, Option, None, Some, Ok, Err, refl, sym, ap, ◌∙◌, subst, arith}
use Rattle.std.specs.Prelude.{◌==◌, IfOk, if◌then◌else◌, codes}
use Rattle.std.specs.List.{AllByRecursion, IsDistinct}
use Rattle.std.proofs.lemmas.Bool.{ne_eqb}
use Rattle.std.proofs.lemmas.Map.Keys.{IsDistinct-cons}
use Rattle.std.proofs.lemmas.Result.{IfOk-at_ok}
use Rattle.serde_json.specs.Data.{Data}
use Rattle.qc_event.specs.declared.event.Answer.TheVariants as answer
use Rattle.qc_event.specs.declared.table.Table.{Table}
use Rattle.qc_script.specs.Plan.{Plan, Numbered, SessionPlan, is_enough, minus, number_in, plus, row_of, row_numbers, write_changed}
use Rattle.qc_script.specs.BodyNumbers.{NumberedOn, SessionsNumberedOn}
use Rattle.qc_script.specs.declared.bad_script.BadScript.TheVariants.{Shape}
use Rattle.qc_script.specs.declared.bad_script.Member.TheVariants as part
use Rattle.qc_script.specs.ScriptText.{Front, Counted, Scope, each_counted, is_word, read_of, set_of, add_of, sub_of, need_of, reconf_of, child_of, par_of, abort_of, crash_of, kill_of, step_in, step_of, steps_of, body_of, session_of}
use Rattle.qc_script.proofs.Following.{then_ok}

-- ---- plans

-- numbers only grow
pub no_less : (next after : ℕ) (plan : Plan) → NumberedOn next after plan → next ≤ after
no_less next after Plan.done h = omega arith
no_less next after (Plan.manage_by k rest) h = no_less next after (rest answer.Nothing) (h answer.Nothing)
no_less next after (Plan.child_then number tries must inner rest) h =
    let a = no_less (next + 1) h.1.0 inner h.1.1 in
    let b = no_less h.1.0 after rest h.1.2 in
    omega arith
no_less next after (Plan.par_then branches rest) h =
    let a = no_less next h.0 branches h.1 in
    let b = no_less h.0 after rest h.2 in
    omega arith
no_less next after (Plan.abort_then levels rest) h = no_less next after rest h
no_less next after (Plan.crash_then copy rest) h = no_less next after rest h
no_less next after (Plan.kill_then session rest) h = no_less next after rest h

-- a number is none of those that come after it
row_apart : (number next after : ℕ) (row : Plan) → number < next → NumberedOn next after row → AllByRecursion (λ n. (number == n) ≡ false) (row_numbers row)
row_apart number next after Plan.done low h = tt
row_apart number next after (Plan.manage_by k rest) low h = tt
row_apart number next after (Plan.child_then one tries must inner rest) low h =
    let first = h.0 in
    let a = no_less (next + 1) h.1.0 inner h.1.1 in
    (ne_eqb number one (λ same. omega arith), row_apart number h.1.0 after rest (omega arith) h.1.2)
row_apart number next after (Plan.par_then branches rest) low h = tt
row_apart number next after (Plan.abort_then levels rest) low h = tt
row_apart number next after (Plan.crash_then copy rest) low h = tt
row_apart number next after (Plan.kill_then session rest) low h = tt

-- the bodies of a row have different numbers
pub row_distinct : (next after : ℕ) (row : Plan) → NumberedOn next after row → IsDistinct ◌==◌ (row_numbers row)
unfolding IsDistinct
row_distinct next after Plan.done h = tt
row_distinct next after (Plan.manage_by k rest) h = tt
row_distinct next after (Plan.child_then number tries must inner rest) h =
    let first = h.0 in
    let a = no_less (next + 1) h.1.0 inner h.1.1 in
    (row_apart number h.1.0 after rest (omega arith) h.1.2, row_distinct h.1.0 after rest h.1.2)
row_distinct next after (Plan.par_then branches rest) h = tt
row_distinct next after (Plan.abort_then levels rest) h = tt
row_distinct next after (Plan.crash_then copy rest) h = tt
row_distinct next after (Plan.kill_then session rest) h = tt

-- ---- what is read

-- a step whose bodies are numbered from here on, before a plan whose bodies are numbered on
abbrev KeepsOn : ℕ → Front × ℕ → Type 0
KeepsOn next p = (after : ℕ) (rest : Plan) → NumberedOn p.1 after rest → NumberedOn next after (p.0 rest)

-- a body with this number, whose bodies are numbered on
abbrev IsNumberedOn : ℕ → Numbered × ℕ → Type 0
IsNumberedOn next p = (p.0.number ≡ next) × NumberedOn (next + 1) p.1 p.0.plan

-- what is read so is numbered on
abbrev pub ReadsOn : (ℕ → Data → Counted Numbered) → Type 0
ReadsOn body = (next : ℕ) (d : Data) → IfOk (body next d) (IsNumberedOn next)

-- bodies that are numbered on
abbrev pub AreNumberedOn : ℕ → List Numbered × ℕ → Type 0
AreNumberedOn next p = NumberedOn next p.1 (row_of p.0)

pub list_numbered : (body : ℕ → Data → Counted Numbered) (next : ℕ) (ds : List Data) → ReadsOn body → IfOk (each_counted body next ds) (AreNumberedOn next)
list_numbered body next [] on = refl
list_numbered body next (d ∷ ds) on =
    then_ok _ _ _ λ b h. then_ok _ _ _ λ rest hs.
    let one = IfOk-at_ok (IsNumberedOn next) h (on next d) in
    (one.0, (b.1, one.1, IfOk-at_ok (AreNumberedOn b.1) hs (list_numbered body b.1 ds on)))

-- whether there was a number or not
pub changed_on : (next after rec : ℕ) (changed : ℕ → ℕ) (rest : Plan) (o : Option ℕ) → NumberedOn next after rest → NumberedOn next after (write_changed rec changed rest o)
changed_on next after rec changed rest None h = h
changed_on next after rec changed rest (Some n) h = λ done. h

-- whether a value was enough or not
either_on : (next after : ℕ) (rest : Plan) (enough : Bool) → NumberedOn next after rest → NumberedOn next after (if enough then rest else Plan.abort_then 0 rest)
either_on next after rest true h = h
either_on next after rest false h = h

read_on : (table : Table) (next : ℕ) (rec : Data) → IfOk (read_of table next rec) (KeepsOn next)
read_on table next rec = then_ok _ _ _ λ name _. then_ok _ _ _ λ i _ after rest h given. h

set_on : (table : Table) (next : ℕ) (rec value : Data) → IfOk (set_of table next rec value) (KeepsOn next)
set_on table next rec value = then_ok _ _ _ λ name _. then_ok _ _ _ λ _ _. then_ok _ _ _ λ i _. then_ok _ _ _ λ v _ after rest h given. h

add_on : (table : Table) (next : ℕ) (rec value : Data) → IfOk (add_of table next rec value) (KeepsOn next)
add_on table next rec value = then_ok _ _ _ λ a _ after rest h given. changed_on next after a.0 (λ old. plus old a.1) rest (number_in given) h

sub_on : (table : Table) (next : ℕ) (rec value : Data) → IfOk (sub_of table next rec value) (KeepsOn next)
sub_on table next rec value = then_ok _ _ _ λ a _ after rest h given. changed_on next after a.0 (λ old. minus old a.1) rest (number_in given) h

need_on : (table : Table) (next : ℕ) (rec value : Data) → IfOk (need_of table next rec value) (KeepsOn next)
need_on table next rec value = then_ok _ _ _ λ a _ after rest h given. either_on next after rest (is_enough a.1 given) h

reconf_on : (table : Table) (next : ℕ) (rec config : Data) → IfOk (reconf_of table next rec config) (KeepsOn next)
reconf_on table next rec config = then_ok _ _ _ λ name _. then_ok _ _ _ λ _ _. then_ok _ _ _ λ i _. then_ok _ _ _ λ c _ after rest h given. h

abort_on : (depth next : ℕ) (d : Data) → IfOk (abort_of depth next d) (KeepsOn next)
abort_on depth next d = then_ok _ _ _ λ k _. then_ok _ _ _ λ t _ after rest h. h

crash_on : (copies next : ℕ) (d : Data) → IfOk (crash_of copies next d) (KeepsOn next)
crash_on copies next d = then_ok _ _ _ λ copy _. then_ok _ _ _ λ t _ after rest h. h

kill_on : (sessions next : ℕ) (d : Data) → IfOk (kill_of sessions next d) (KeepsOn next)
kill_on sessions next d = then_ok _ _ _ λ session _. then_ok _ _ _ λ t _ after rest h. h

child_on : (body : ℕ → Data → Counted Numbered) (next : ℕ) (d : Data) → ReadsOn body → IfOk (child_of body next d) (KeepsOn next)
child_on body next d on =
    then_ok _ _ _ λ _ _. then_ok _ _ _ λ b h after rest others.
    let one = IfOk-at_ok (IsNumberedOn next) h (on next d) in (one.0, (b.1, one.1, others))

par_on : (body : ℕ → Data → Counted Numbered) (next : ℕ) (d : Data) → ReadsOn body → IfOk (par_of body next d) (KeepsOn next)
par_on body next d on =
    then_ok _ _ _ λ ds _. then_ok _ _ _ λ bodies h after rest others.
    (bodies.1, IfOk-at_ok (AreNumberedOn next) h (list_numbered body next ds on), others)

-- by what the word of a step is
two_on : (scope : Scope) (depth : ℕ) (body : ℕ → Data → Counted Numbered) (next : ℕ) (d : Data) (read child par abort crash kill : Bool)
    → ReadsOn body
    → IfOk (
    if read then read_of scope.table next d
    else if child then child_of body next d
    else if par then par_of body next d
    else if abort then abort_of depth next d
    else if crash then crash_of scope.table.copies next d
    else if kill then kill_of scope.sessions next d
    else Err (Shape part.Step)
    ) (KeepsOn next)
two_on scope depth body next d true child par abort crash kill on = read_on scope.table next d
two_on scope depth body next d false true par abort crash kill on = child_on body next d on
two_on scope depth body next d false false true abort crash kill on = par_on body next d on
two_on scope depth body next d false false false true crash kill on = abort_on depth next d
two_on scope depth body next d false false false false true kill on = crash_on scope.table.copies next d
two_on scope depth body next d false false false false false true on = kill_on scope.sessions next d
two_on scope depth body next d false false false false false false on = tt

three_on : (table : Table) (next : ℕ) (rec value : Data) (set add sub need reconf : Bool)
    → IfOk (
    if set then set_of table next rec value
    else if add then add_of table next rec value
    else if sub then sub_of table next rec value
    else if need then need_of table next rec value
    else if reconf then reconf_of table next rec value
    else Err (Shape part.Step)
    ) (KeepsOn next)
three_on table next rec value true add sub need reconf = set_on table next rec value
three_on table next rec value false true sub need reconf = add_on table next rec value
three_on table next rec value false false true need reconf = sub_on table next rec value
three_on table next rec value false false false true reconf = need_on table next rec value
three_on table next rec value false false false false true = reconf_on table next rec value
three_on table next rec value false false false false false = tt

parts_on : (scope : Scope) (depth : ℕ) (body : ℕ → Data → Counted Numbered) (next : ℕ) (parts : List Data) → ReadsOn body → IfOk (step_in body depth scope next parts) (KeepsOn next)
parts_on scope depth body next [] on = tt
parts_on scope depth body next (word ∷ []) on = tt
parts_on scope depth body next (word ∷ d ∷ []) on = two_on scope depth body next d (is_word (codes "read") word) (is_word (codes "child") word) (is_word (codes "par") word) (is_word (codes "abort") word) (is_word (codes "crash") word) (is_word (codes "kill") word) on
parts_on scope depth body next (word ∷ rec ∷ value ∷ []) on = three_on scope.table next rec value (is_word (codes "set") word) (is_word (codes "add") word) (is_word (codes "sub") word) (is_word (codes "need") word) (is_word (codes "reconf") word)
parts_on scope depth body next (word ∷ rec ∷ value ∷ more ∷ others) on = tt

step_on : (scope : Scope) (depth : ℕ) (body : ℕ → Data → Counted Numbered) (next : ℕ) (d : Data) → ReadsOn body → IfOk (step_of body depth scope next d) (KeepsOn next)
step_on scope depth body next d on = then_ok _ _ _ λ parts _. parts_on scope depth body next parts on

-- the plan of steps that are read
abbrev IsPlanOn : ℕ → Plan × ℕ → Type 0
IsPlanOn next p = NumberedOn next p.1 p.0

steps_on : (scope : Scope) (depth : ℕ) (body : ℕ → Data → Counted Numbered) (next : ℕ) (ds : List Data) → ReadsOn body → IfOk (steps_of body depth scope next ds) (IsPlanOn next)
steps_on scope depth body next [] on = refl
steps_on scope depth body next (d ∷ ds) on =
    then_ok _ _ _ λ first h. then_ok _ _ _ λ rest hs.
    IfOk-at_ok (KeepsOn next) h (step_on scope depth body next d on) rest.1 rest.0
    (IfOk-at_ok (IsPlanOn first.1) hs (steps_on scope depth body first.1 ds on))

pub body_numbered : (scope : Scope) (levels around : ℕ) → ReadsOn (body_of levels around scope)
body_numbered scope zero around next d = then_ok _ _ _ λ _ _. tt
body_numbered scope (suc below) around next d =
    then_ok _ _ _ λ _ _. then_ok _ _ _ λ tries _. then_ok _ _ _ λ _ _. then_ok _ _ _ λ list _. then_ok _ _ _ λ steps h.
    (refl, IfOk-at_ok (IsPlanOn (next + 1)) h (steps_on scope (16 - below) (body_of below (around * tries) scope) (next + 1) list (body_numbered scope below (around * tries))))

-- ---- sessions

-- a session whose bodies are numbered on
abbrev IsSessionOn : ℕ → SessionPlan × ℕ → Type 0
IsSessionOn next p = NumberedOn next p.1 (row_of p.0.tops)

session_numbered : (scope : Scope) (next : ℕ) (d : Data) → IfOk (session_of scope next d) (IsSessionOn next)
session_numbered scope next d =
    then_ok _ _ _ λ _ _. then_ok _ _ _ λ net _. then_ok _ _ _ λ list _. then_ok _ _ _ λ tops h.
    IfOk-at_ok (AreNumberedOn next) h (list_numbered (body_of 16 1 scope) next list (body_numbered scope 16 1))

-- sessions whose bodies are numbered on
abbrev pub AreSessionsOn : ℕ → List SessionPlan × ℕ → Type 0
AreSessionsOn next p = SessionsNumberedOn next p.0

pub sessions_numbered : (scope : Scope) (next : ℕ) (ds : List Data) → IfOk (each_counted (session_of scope) next ds) (AreSessionsOn next)
sessions_numbered scope next [] = tt
sessions_numbered scope next (d ∷ ds) =
    then_ok _ _ _ λ s h. then_ok _ _ _ λ rest hs.
    (s.1, IfOk-at_ok (IsSessionOn next) h (session_numbered scope next d), IfOk-at_ok (AreSessionsOn s.1) hs (sessions_numbered scope s.1 ds))
