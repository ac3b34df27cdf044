-- A script that is read is proper: it has so many copies, records and sessions, and each session is about these.
use Rattle.std.proofs.Common.{◌≡◌, ℕ, suc, ◌+◌, ◌<◌, ◌≤◌, List, [], ◌∷◌, length, Result, Ok, Err, refl, sym, ap, subst, arith}
use Rattle.std.specs.Prelude.{IfOk, codes}
use Rattle.std.specs.List.{AllByRecursion}
use Rattle.std.proofs.lemmas.Result.{IfOk-at_ok}
use Rattle.serde_json.specs.Data.{Data}
use Rattle.qc_event.specs.declared.table.Row.{Row}
use Rattle.qc_event.specs.declared.table.Table.{Table}
use Rattle.qc_net.specs.declared.link.Fate.{Fate}
use Rattle.qc_script.specs.Plan.{ScriptPlan, SessionPlan, SessionWithin, SessionsWithin}
use Rattle.qc_script.specs.BodyNumbers.{SessionsNumberedOn}
use Rattle.qc_script.specs.Steps.{plan_of_script}
use Rattle.qc_script.specs.declared.bad_script.BadScript.{BadScript}
use Rattle.qc_script.specs.declared.bad_script.Member.TheVariants as part
use Rattle.qc_script.specs.declared.script.Script.{Script}
use Rattle.qc_script.specs.ScriptText.{Net, Scope, rows_of, fate_of, fates_of, net_of, each_counted, session_of, copies_of, records_of, sessions_at, script_of}
use Rattle.qc_script.specs.Reading.{Gives, IsScript, IsProperRow, IsProper}
use Rattle.qc_script.proofs.Proper.{then_ok, must_true, within_limits, given_or, IsFew, few_or, length-each, rows_proper, length-rows_of, AreTops, bodies_within}
use Rattle.qc_script.proofs.Numbering.{AreSessionsOn, sessions_numbered}

-- ---- sessions

fates_few : (d : Data) → IfOk (fates_of d) (λ fates. length fates ≤ 64)
fates_few d =
    then_ok _ _ _ λ text _. then_ok _ _ _ λ fates h. then_ok _ _ _ λ t limited.
    let counted = IfOk-at_ok (λ (ys : List Fate). length ys ≡ length text) h (length-each fate_of text) in
    let few = within_limits 0 64 (length text) (must_true _ _ t limited) in
    omega arith

-- few fates, and a hold within its limits
abbrev IsProperNet : Net → Type 0
IsProperNet net = (length net.0 ≤ 64) × IsFew net.1

net_proper : (d : Data) → IfOk (net_of d) IsProperNet
net_proper d =
    then_ok _ _ _ λ _ _. then_ok _ _ _ λ fates f. then_ok _ _ _ λ hold h. (
      IfOk-at_ok (λ (fs : List Fate). length fs ≤ 64) f (given_or (λ fs. length fs ≤ 64) (codes "fates") [] fates_of d (omega arith) fates_few),
      IfOk-at_ok IsFew h (few_or part.Hold (codes "hold") 1 d (omega arith, omega arith)),
    )

-- a session over the records of a table
abbrev IsProperSession : Table → SessionPlan × ℕ → Type 0
IsProperSession table p = SessionWithin table.copies (length table.records) p.0

session_proper : (scope : Scope) (next : ℕ) (d : Data) → scope.sessions ≤ 16 → IfOk (session_of scope next d) (IsProperSession scope.table)
session_proper scope next d few =
    then_ok _ _ _ λ _ _. then_ok _ _ _ λ net n. then_ok _ _ _ λ list _. then_ok _ _ _ λ tops t.
    let proper = IfOk-at_ok IsProperNet n (given_or IsProperNet (codes "net") ([], 1) net_of d (omega arith, (omega arith, omega arith)) net_proper) in
    record { few_fates = proper.0; some_hold = omega arith; short_hold = proper.1.1; tops = IfOk-at_ok (AreTops scope.table) t (bodies_within scope next list few) }

-- so many sessions over the records of a table
abbrev AreSessions : Table → ℕ → List SessionPlan × ℕ → Type 0
AreSessions table many p = (length p.0 ≡ many) × SessionsWithin table.copies (length table.records) p.0

each_session : (scope : Scope) (next : ℕ) (ds : List Data) → scope.sessions ≤ 16 → IfOk (each_counted (session_of scope) next ds) (AreSessions scope.table (length ds))
each_session scope next [] few = (refl, tt)
each_session scope next (d ∷ ds) few =
    then_ok _ _ _ λ s h. then_ok _ _ _ λ rest hs.
    let others = IfOk-at_ok (AreSessions scope.table (length ds)) hs (each_session scope s.1 ds few) in
    (ap suc others.0, (IfOk-at_ok (IsProperSession scope.table) h (session_proper scope next d few), others.1))

-- 1 to 16 sessions over the records of a table, whose bodies are numbered from 0 on
record AreFewSessions (table : Table) (sessions : List SessionPlan) : Type 0 where
  some : 0 < length sessions
  few : length sessions ≤ 16
  each_one : SessionsWithin table.copies (length table.records) sessions
  numbered : SessionsNumberedOn 0 sessions

sessions_proper : (table : Table) (d : Data) → IfOk (sessions_at table d) (AreFewSessions table)
sessions_proper table d =
    then_ok _ _ _ λ list _. then_ok _ _ _ λ t limited. then_ok _ _ _ λ sessions h.
    let limits = within_limits 1 16 (length list) (must_true _ _ t limited) in
    let scope : Scope = record { table = table; sessions = length list } in
    let all = IfOk-at_ok (AreSessions table (length list)) h (each_session scope 0 list limits.1) in
    let many = all.0 in
    let numbered = IfOk-at_ok (AreSessionsOn 0) h (sessions_numbered scope 0 list) in
    record { some = omega arith; few = omega arith; each_one = all.1; numbered = numbered }

-- ---- scripts

some_copies : (d : Data) → IfOk (copies_of d) (λ copies. (1 ≤ copies) × (copies ≤ 16))
some_copies d = then_ok _ _ _ λ copies _. then_ok _ _ _ λ t limited. within_limits 1 16 copies (must_true _ _ t limited)

-- a table of 1 to 64 proper records at so many copies
record IsProperTable (copies : ℕ) (table : Table) : Type 0 where
  at_copies : table.copies ≡ copies
  some : 0 < length table.records
  few : length table.records ≤ 64
  each_one : AllByRecursion (IsProperRow copies) table.records

all_proper : (copies : ℕ) (list : List Data) (rows : List Row) → rows_of copies [] list ≡ Ok rows → IsFew (length list) → IsProperTable copies (record { copies = copies; records = rows })
all_proper copies list rows h l =
    let counted : length rows ≡ 0 + length list = IfOk-at_ok (λ (all : List Row). length all ≡ 0 + length list) h (length-rows_of copies [] list) in
    record { at_copies = refl; some = omega arith; few = omega arith; each_one = IfOk-at_ok (AllByRecursion (IsProperRow copies)) h (rows_proper copies [] list tt) }

records_proper : (copies : ℕ) (d : Data) → IfOk (records_of copies d) (IsProperTable copies)
records_proper copies d =
    then_ok _ _ _ λ list _. then_ok _ _ _ λ t limited. then_ok _ _ _ λ rows h.
    all_proper copies list rows h (within_limits 1 64 (length list) (must_true _ _ t limited))

-- what is a script is proper
pub script_proper : (d : Data) → IfOk (script_of d) IsProper
script_proper d =
    then_ok _ _ _ λ _ _. then_ok _ _ _ λ copies c. then_ok _ _ _ λ patience w. then_ok _ _ _ λ table r. then_ok _ _ _ λ sessions s.
    let limits = IfOk-at_ok (λ n. (1 ≤ n) × (n ≤ 16)) c (some_copies d) in
    let patient = IfOk-at_ok IsFew w (few_or part.Patience (codes "patience") 4 d (omega arith, omega arith)) in
    let records = IfOk-at_ok (IsProperTable copies) r (records_proper copies d) in
    let all = IfOk-at_ok (AreFewSessions table) s (sessions_proper table d) in
    record {
      some_copy = omega arith;
      few_copies = omega arith;
      some_patience = omega arith;
      little_patience = patient.1;
      some_records = records.some;
      few_records = records.few;
      rows = subst (λ n. AllByRecursion (IsProperRow n) table.records) (sym records.at_copies) records.each_one;
      some_sessions = all.some;
      few_sessions = all.few;
      sessions = all.each_one;
      numbered = all.numbered;
    }

-- so is what bytes are
pub proper_script : (bytes : List ℕ) (s : ScriptPlan) → IsScript bytes s → IsProper s
proper_script bytes s is = subst (λ r. IfOk r IsProper) is.reads (script_proper is.value)

-- so is what a reader gives as what the value is
pub gives_proper : (d : Data) (r : Result Script BadScript) → Gives plan_of_script r (script_of d) → IfOk r (λ s. IsProper (plan_of_script s))
gives_proper d (Ok s) h = IfOk-at_ok IsProper h (script_proper d)
gives_proper d (Err e) h = tt
