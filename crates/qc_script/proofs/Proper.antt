-- Parts of a script that are read are proper: numbers are within their limits, records have legal configurations, and
-- steps are about these records.
use Rattle.std.proofs.Common.{◌≡◌, ℕ, zero, suc, ◌+◌, ◌-◌, ◌*◌, ◌<◌, ◌≤◌, Bool, true, false, List, [], ◌∷◌, ◌++◌, length, Option, Some, None, Ok, Err, refl, ap, ◌∙◌, subst, arith}
use Rattle.std.specs.Prelude.{◌&&◌, nat_le, IfOk, IfSome, ok_or, if◌then◌else◌, codes}
use Rattle.std.specs.List.{AllByRecursion, position}
use Rattle.std.specs.Str.{bytes_eq}
use Rattle.std.proofs.lemmas.Bool.{eqb-true, leb-true, ltb-true, and_parts}
use Rattle.std.proofs.lemmas.List.{length-map}
use Rattle.std.proofs.lemmas.List.Quantifiers.{position-Some}
use Rattle.std.proofs.lemmas.Result.{IfOk-at_ok, IfOk-weaker}
use Rattle.serde_json.specs.Data.{Data}
use Rattle.serde_json.specs.Find.{get}
use Rattle.qc_event.specs.Base.{IsConfigFor}
use Rattle.qc_config.proofs.Faults.{legal_unless_fault}
use Rattle.qc_config.specs.Config.{fault}
use Rattle.qc_config.specs.declared.config.BadConfig.{BadConfig}
use Rattle.qc_event.specs.declared.table.Row.{Row}
use Rattle.qc_event.specs.declared.table.Table.{Table}
use Rattle.qc_script.specs.Plan.{Plan, Numbered, IsTried, PlanWithin, TopsWithin, is_enough, minus, number_in, plus, write_changed, row_of as row_of_bodies}
use Rattle.qc_script.specs.declared.bad_script.BadScript.{BadScript}
use Rattle.qc_script.specs.declared.bad_script.BadScript.TheVariants.{Shape, Config, Unknown}
use Rattle.qc_script.specs.declared.bad_script.Member.{Member}
use Rattle.qc_script.specs.declared.bad_script.Member.TheVariants as part
use Rattle.qc_script.specs.JsonText.{Read, Text, followed, ◌>>=◌, must, each, limited, member_or}
use Rattle.qc_script.specs.ScriptText.{Front, Counted, Scope, config_of, row_of, names_of, rows_of, number_of, is_word, read_of, amount_of, set_of, add_of, sub_of, need_of, reconf_of, child_of, branches_of, par_of, each_counted, abort_of, crash_of, kill_of, step_in, step_of, steps_of, tries_of, body_of, bodies_of}
use Rattle.qc_script.specs.Reading.{IsProperRow}
pub use Rattle.qc_script.proofs.Following.{then_ok, must_true}
use Rattle.qc_script.proofs.Following.{ok_or_some}
use Rattle.qc_script.proofs.Rows.{is_row, row_length-row_of}
use Rattle.qc_script.proofs.Numbering.{ReadsOn, AreNumberedOn, body_numbered, list_numbered, row_distinct}

-- ---- limits

pub within_limits : (low high n : ℕ) → (nat_le low n && nat_le n high) ≡ true → (low ≤ n) × (n ≤ high)
within_limits low high n h = let p = and_parts (nat_le low n) (nat_le n high) h in (leb-true low n p.0, leb-true n high p.1)

limited_within : (word : Member) (low high : ℕ) (d : Data) → IfOk (limited word low high d) (λ n. (low ≤ n) × (n ≤ high))
limited_within word low high d = then_ok _ _ _ λ n _. then_ok _ _ _ λ t h. within_limits low high n (must_true _ _ t h)

found_or : {A : Type 0} (P : A → Type 0) (default : A) (read : Data → Read A) (o : Option Data) → P default → ((d : Data) → IfOk (read d) P) → IfOk (elim o [ None ↦ Ok default | Some d ↦ read d ]) P
found_or P default read None p h = p
found_or P default read (Some d) p h = h d

-- what holds of the default and of what is read
pub given_or : {A : Type 0} (P : A → Type 0) (name : Text) (default : A) (read : Data → Read A) (d : Data) → P default → ((d : Data) → IfOk (read d) P) → IfOk (member_or name default read d) P
given_or P name default read d p h = found_or P default read (get name d) p h

-- a number of 1 to 64
abbrev pub IsFew : ℕ → Type 0
IsFew n = (1 ≤ n) × (n ≤ 64)

pub few_or : (word : Member) (name : Text) (default : ℕ) (d : Data) → IsFew default → IfOk (member_or name default (limited word 1 64) d) IsFew
few_or word name default d few = given_or IsFew name default (limited word 1 64) d few (limited_within word 1 64)

-- ---- configurations

no_fault : {A : Type 0} (P : A → Type 0) (o : Option BadConfig) (x : A) → (o ≡ None → P x) → IfOk (elim o [ None ↦ Ok x | Some e ↦ Err (Config e) ]) P
no_fault P None x h = h refl
no_fault P (Some e) x h = tt

pub length-each : {A B : Type 0} (f : A → Read B) (xs : List A) → IfOk (each f xs) (λ ys. length ys ≡ length xs)
length-each f [] = refl
length-each f (x ∷ xs) = then_ok _ _ _ λ y _. then_ok _ _ _ λ ys h. ap suc (IfOk-at_ok (λ zs. length zs ≡ length xs) h (length-each f xs))

config_proper : (copies : ℕ) (d : Data) → IfOk (config_of copies d) (IsConfigFor copies)
config_proper copies d =
    then_ok _ _ _ λ _ _. then_ok _ _ _ λ list _. then_ok _ _ _ λ t counted. then_ok _ _ _ λ votes v. then_ok _ _ _ λ read _. then_ok _ _ _ λ write _.
    no_fault (IsConfigFor copies) (fault votes read write) _ (λ h. record {
      legal = legal_unless_fault votes read write h;
      for_copies = IfOk-at_ok (λ ys. length ys ≡ length list) v (length-each _ list) ∙ eqb-true (length list) copies (must_true _ _ t counted);
    })

-- ---- records

row_proper : (copies : ℕ) (names : List Text) (d : Data) → IfOk (row_of copies names d) (IsProperRow copies)
row_proper copies names d =
    then_ok _ _ _ λ _ _. then_ok _ _ _ λ name _. then_ok _ _ _ λ given _. then_ok _ _ _ λ start _. then_ok _ _ _ λ value _. then_ok _ _ _ λ config h.
    let proper = IfOk-at_ok (IsConfigFor copies) h (config_proper copies value) in
    record { legal = proper.legal; for_copies = proper.for_copies }

All-push : {A : Type 0} (P : A → Type 0) (xs : List A) (y : A) → AllByRecursion P xs → P y → AllByRecursion P (xs ++ y ∷ [])
All-push P [] y all h = (h, tt)
All-push P (x ∷ xs) y all h = (all.0, All-push P xs y all.1 h)

pub rows_proper : (copies : ℕ) (rows : List Row) (ds : List Data) → AllByRecursion (IsProperRow copies) rows → IfOk (rows_of copies rows ds) (AllByRecursion (IsProperRow copies))
rows_proper copies rows [] all = all
rows_proper copies rows (d ∷ ds) all = then_ok _ _ _ λ row h. rows_proper copies (rows ++ row ∷ []) ds (All-push (IsProperRow copies) rows row all (IfOk-at_ok (IsProperRow copies) h (row_proper copies (names_of rows) d)))

length_push : (rows : List Row) (row : Row) (n : ℕ) → length (rows ++ row ∷ []) + n ≡ length rows + suc n
length_push [] row n = omega arith
length_push (r ∷ rows) row n = let h = length_push rows row n in omega arith

pub length-rows_of : (copies : ℕ) (rows : List Row) (ds : List Data) → IfOk (rows_of copies rows ds) (λ all. length all ≡ length rows + length ds)
length-rows_of copies rows [] = omega arith
length-rows_of copies rows (d ∷ ds) =
    then_ok _ _ _ λ row _. IfOk-weaker (rows_of copies (rows ++ row ∷ []) ds) _ _ (λ all h. h ∙ length_push rows row (length ds)) (length-rows_of copies (rows ++ row ∷ []) ds)

-- ---- steps

place_within : {A : Type 0} (test : A → Bool) (xs : List A) (o : Option ℕ) → position test xs ≡ o → IfSome o (λ i. i < length xs)
place_within test xs None h = tt
place_within test [] (Some i) h = absurd cc
place_within test (x ∷ xs) (Some i) h = (position-Some test (x ∷ xs) i x h).0

number_within : (table : Table) (name : Text) → IfOk (number_of table name) (λ i. i < length table.records)
number_within table name =
    let place = position (bytes_eq name) (names_of table.records) in
    ok_or_some (λ i. i < length table.records) place (Unknown name)
    (subst (λ n. IfSome place (λ i. i < n)) (length-map table.records (λ row. row.name)) (place_within (bytes_eq name) (names_of table.records) place refl))

-- a plan of this depth over the records of a table
abbrev Within : Table → ℕ → Plan → Type 0
Within table depth plan = PlanWithin table.copies (length table.records) depth plan

-- a step, in a body below the root, before a plan within bounds
abbrev KeepsWithin : Table → ℕ → Front × ℕ → Type 0
KeepsWithin table depth p = 0 < depth → (rest : Plan) → Within table depth rest → Within table depth (p.0 rest)

-- a body in a body of this depth
abbrev IsInner : Table → ℕ → Numbered × ℕ → Type 0
IsInner table depth p = (depth < 16) × IsTried p.0.tries × Within table (depth + 1) p.0.plan

read_within : (table : Table) (depth next : ℕ) (rec : Data) → IfOk (read_of table next rec) (KeepsWithin table depth)
read_within table depth next rec =
    then_ok _ _ _ λ name _. then_ok _ _ _ λ i h some rest within. (IfOk-at_ok (λ k. k < length table.records) h (number_within table name), λ given. within)

-- of a record of the table
abbrev IsAmount : Table → ℕ × ℕ → Type 0
IsAmount table a = a.0 < length table.records

amount_within : (table : Table) (rec value : Data) → IfOk (amount_of table rec value) (IsAmount table)
amount_within table rec value =
    then_ok _ _ _ λ name _. then_ok _ _ _ λ n _. then_ok _ _ _ λ i h. IfOk-at_ok (λ k. k < length table.records) h (number_within table name)

set_within : (table : Table) (depth next : ℕ) (rec value : Data) → IfOk (set_of table next rec value) (KeepsWithin table depth)
set_within table depth next rec value =
    then_ok _ _ _ λ name _. then_ok _ _ _ λ _ _. then_ok _ _ _ λ i h. then_ok _ _ _ λ v _ some rest within. (IfOk-at_ok (λ k. k < length table.records) h (number_within table name), λ given. within)

-- whether there was a number or not
pub changed_within : (copies records depth rec : ℕ) (changed : ℕ → ℕ) (rest : Plan) (o : Option ℕ) → 0 < depth → rec < records → PlanWithin copies records depth rest → PlanWithin copies records depth (write_changed rec changed rest o)
changed_within copies records depth rec changed rest None some there within = (some, within)
changed_within copies records depth rec changed rest (Some n) some there within = (there, λ done. within)

add_within : (table : Table) (depth next : ℕ) (rec value : Data) → IfOk (add_of table next rec value) (KeepsWithin table depth)
add_within table depth next rec value =
    then_ok _ _ _ λ a h some rest within.
    let there = IfOk-at_ok (IsAmount table) h (amount_within table rec value) in
    (there, λ given. changed_within table.copies (length table.records) depth a.0 (λ old. plus old a.1) rest (number_in given) some there within)

sub_within : (table : Table) (depth next : ℕ) (rec value : Data) → IfOk (sub_of table next rec value) (KeepsWithin table depth)
sub_within table depth next rec value =
    then_ok _ _ _ λ a h some rest within.
    let there = IfOk-at_ok (IsAmount table) h (amount_within table rec value) in
    (there, λ given. changed_within table.copies (length table.records) depth a.0 (λ old. minus old a.1) rest (number_in given) some there within)

-- whether the value was enough or not
either_within : (table : Table) (depth : ℕ) (rest : Plan) (enough : Bool) → 0 < depth → Within table depth rest → Within table depth (if enough then rest else Plan.abort_then 0 rest)
either_within table depth rest true some within = within
either_within table depth rest false some within = (some, within)

need_within : (table : Table) (depth next : ℕ) (rec value : Data) → IfOk (need_of table next rec value) (KeepsWithin table depth)
need_within table depth next rec value =
    then_ok _ _ _ λ a h some rest within. (
      IfOk-at_ok (IsAmount table) h (amount_within table rec value),
      λ given. either_within table depth rest (is_enough a.1 given) some within,
    )

reconf_within : (table : Table) (depth next : ℕ) (rec config : Data) → IfOk (reconf_of table next rec config) (KeepsWithin table depth)
reconf_within table depth next rec config =
    then_ok _ _ _ λ name _. then_ok _ _ _ λ _ _. then_ok _ _ _ λ i h. then_ok _ _ _ λ c hc some rest within. (
      (IfOk-at_ok (λ k. k < length table.records) h (number_within table name), IfOk-at_ok (IsConfigFor table.copies) hc (config_proper table.copies config)),
      λ given. within,
    )

abort_within : (table : Table) (depth next : ℕ) (d : Data) → IfOk (abort_of depth next d) (KeepsWithin table depth)
abort_within table depth next d = then_ok _ _ _ λ k _. then_ok _ _ _ λ t h some rest within. (ltb-true k depth (must_true _ _ t h), within)

crash_within : (table : Table) (depth next : ℕ) (d : Data) → IfOk (crash_of table.copies next d) (KeepsWithin table depth)
crash_within table depth next d = then_ok _ _ _ λ copy _. then_ok _ _ _ λ t h some rest within. (ltb-true copy table.copies (must_true _ _ t h), within)

kill_within : (table : Table) (depth sessions next : ℕ) (d : Data) → sessions ≤ 16 → IfOk (kill_of sessions next d) (KeepsWithin table depth)
kill_within table depth sessions next d few =
    then_ok _ _ _ λ session _. then_ok _ _ _ λ t h some rest within.
    let there = ltb-true session sessions (must_true _ _ t h) in
    (omega arith, within)

-- what is read so is a body in a body of this depth, and is numbered on
abbrev ReadsInner : Table → ℕ → (ℕ → Data → Counted Numbered) → Type 0
ReadsInner table depth body = ((next : ℕ) (d : Data) → IfOk (body next d) (IsInner table depth)) × ReadsOn body

child_within : (table : Table) (depth : ℕ) (body : ℕ → Data → Counted Numbered) (next : ℕ) (d : Data) → ReadsInner table depth body → IfOk (child_of body next d) (KeepsWithin table depth)
child_within table depth body next d inner =
    then_ok _ _ _ λ _ _. then_ok _ _ _ λ b h some rest within. let p = IfOk-at_ok (IsInner table depth) h (inner.0 next d) in (p.0, p.1, p.2, within)

-- branches, in a body of this depth
abbrev AreInner : Table → ℕ → ℕ → List Numbered × ℕ → Type 0
AreInner table depth many p = (length p.0 ≡ many) × Within table depth (row_of_bodies p.0)

branches_within : (table : Table) (depth : ℕ) (body : ℕ → Data → Counted Numbered) (next : ℕ) (ds : List Data) → ReadsInner table depth body → IfOk (each_counted body next ds) (AreInner table depth (length ds))
branches_within table depth body next [] inner = (refl, tt)
branches_within table depth body next (d ∷ ds) inner =
    then_ok _ _ _ λ b h. then_ok _ _ _ λ rest hs.
    let p = IfOk-at_ok (IsInner table depth) h (inner.0 next d) in
    let others = IfOk-at_ok (AreInner table depth (length ds)) hs (branches_within table depth body b.1 ds inner) in
    (ap suc others.0, (p.0, p.1, p.2, others.1))

branches_few : (d : Data) → IfOk (branches_of d) (λ ds. (1 ≤ length ds) × (length ds ≤ 8))
branches_few d = then_ok _ _ _ λ ds _. then_ok _ _ _ λ t h. within_limits 1 8 (length ds) (must_true _ _ t h)

par_within : (table : Table) (depth : ℕ) (body : ℕ → Data → Counted Numbered) (next : ℕ) (d : Data) → ReadsInner table depth body → IfOk (par_of body next d) (KeepsWithin table depth)
par_within table depth body next d inner =
    then_ok _ _ _ λ ds few. then_ok _ _ _ λ bodies h some rest within.
    let limits = IfOk-at_ok (λ (xs : List Data). (1 ≤ length xs) × (length xs ≤ 8)) few (branches_few d) in
    let all = IfOk-at_ok (AreInner table depth (length ds)) h (branches_within table depth body next ds inner) in
    let numbered = IfOk-at_ok (AreNumberedOn next) h (list_numbered body next ds inner.1) in
    let many = all.0 in
    let counted = row_length-row_of bodies.0 in
    (is_row bodies.0, omega arith, omega arith, all.1, within, row_distinct next bodies.1 (row_of_bodies bodies.0) numbered)

-- by what the word of a step is
two_within : (scope : Scope) (depth : ℕ) (body : ℕ → Data → Counted Numbered) (next : ℕ) (d : Data) (read child par abort crash kill : Bool)
    → scope.sessions ≤ 16 → ReadsInner scope.table depth body
    → IfOk (
    if read then read_of scope.table next d
    else if child then child_of body next d
    else if par then par_of body next d
    else if abort then abort_of depth next d
    else if crash then crash_of scope.table.copies next d
    else if kill then kill_of scope.sessions next d
    else Err (Shape part.Step)
    ) (KeepsWithin scope.table depth)
two_within scope depth body next d true child par abort crash kill few inner = read_within scope.table depth next d
two_within scope depth body next d false true par abort crash kill few inner = child_within scope.table depth body next d inner
two_within scope depth body next d false false true abort crash kill few inner = par_within scope.table depth body next d inner
two_within scope depth body next d false false false true crash kill few inner = abort_within scope.table depth next d
two_within scope depth body next d false false false false true kill few inner = crash_within scope.table depth next d
two_within scope depth body next d false false false false false true few inner = kill_within scope.table depth scope.sessions next d few
two_within scope depth body next d false false false false false false few inner = tt

three_within : (table : Table) (depth next : ℕ) (rec value : Data) (set add sub need reconf : Bool)
    → IfOk (
    if set then set_of table next rec value
    else if add then add_of table next rec value
    else if sub then sub_of table next rec value
    else if need then need_of table next rec value
    else if reconf then reconf_of table next rec value
    else Err (Shape part.Step)
    ) (KeepsWithin table depth)
three_within table depth next rec value true add sub need reconf = set_within table depth next rec value
three_within table depth next rec value false true sub need reconf = add_within table depth next rec value
three_within table depth next rec value false false true need reconf = sub_within table depth next rec value
three_within table depth next rec value false false false true reconf = need_within table depth next rec value
three_within table depth next rec value false false false false true = reconf_within table depth next rec value
three_within table depth next rec value false false false false false = tt

parts_within : (scope : Scope) (depth : ℕ) (body : ℕ → Data → Counted Numbered) (next : ℕ) (parts : List Data) → scope.sessions ≤ 16 → ReadsInner scope.table depth body → IfOk (step_in body depth scope next parts) (KeepsWithin scope.table depth)
parts_within scope depth body next [] few inner = tt
parts_within scope depth body next (word ∷ []) few inner = tt
parts_within scope depth body next (word ∷ d ∷ []) few inner = two_within scope depth body next d (is_word (codes "read") word) (is_word (codes "child") word) (is_word (codes "par") word) (is_word (codes "abort") word) (is_word (codes "crash") word) (is_word (codes "kill") word) few inner
parts_within scope depth body next (word ∷ rec ∷ value ∷ []) few inner = three_within scope.table depth next rec value (is_word (codes "set") word) (is_word (codes "add") word) (is_word (codes "sub") word) (is_word (codes "need") word) (is_word (codes "reconf") word)
parts_within scope depth body next (word ∷ rec ∷ value ∷ more ∷ others) few inner = tt

step_within : (scope : Scope) (depth : ℕ) (body : ℕ → Data → Counted Numbered) (next : ℕ) (d : Data) → scope.sessions ≤ 16 → ReadsInner scope.table depth body → IfOk (step_of body depth scope next d) (KeepsWithin scope.table depth)
step_within scope depth body next d few inner = then_ok _ _ _ λ parts _. parts_within scope depth body next parts few inner

steps_within : (scope : Scope) (depth : ℕ) (body : ℕ → Data → Counted Numbered) (next : ℕ) (ds : List Data) → 0 < depth → scope.sessions ≤ 16 → ReadsInner scope.table depth body → IfOk (steps_of body depth scope next ds) (λ p. Within scope.table depth p.0)
steps_within scope depth body next [] some few inner = tt
steps_within scope depth body next (d ∷ ds) some few inner =
    then_ok _ _ _ λ first h. then_ok _ _ _ λ rest hs.
    IfOk-at_ok (KeepsWithin scope.table depth) h (step_within scope depth body next d few inner) some rest.0
    (IfOk-at_ok (λ (p : Plan × ℕ). Within scope.table depth p.0) hs (steps_within scope depth body first.1 ds some few inner))

tried : (around : ℕ) (d : Data) → IfOk (tries_of around d) IsTried
tried around d =
    then_ok _ _ _ λ tries h. then_ok _ _ _ λ _ _.
    IfOk-at_ok IsTried h (given_or IsTried (codes "tries") 1 (limited part.Tries 1 16) d (omega arith, omega arith) (limited_within part.Tries 1 16))

-- a body of this depth
abbrev IsBody : Table → ℕ → Numbered × ℕ → Type 0
IsBody table depth p = IsTried p.0.tries × Within table depth p.0.plan

-- a body that may have so many levels, in the body above it
inner_within : (scope : Scope) (levels around next : ℕ) (d : Data) → levels ≤ 15 → IfOk (body_of levels around scope next d) (IsBody scope.table (17 - levels)) → IfOk (body_of levels around scope next d) (IsInner scope.table (16 - levels))
inner_within scope zero around next d low h = then_ok _ _ _ λ _ _. tt
inner_within scope (suc below) around next d low h =
    IfOk-weaker (body_of (suc below) around scope next d) _ _ (λ p within.
    let depth : 17 - suc below ≡ 16 - suc below + 1 = omega arith in
    let P : ℕ → Type 0 = λ n. Within scope.table n p.0.plan in
    (omega arith, within.0, subst P depth within.1)) h

body_within : (scope : Scope) (levels around next : ℕ) (d : Data) → levels ≤ 16 → scope.sessions ≤ 16 → IfOk (body_of levels around scope next d) (IsBody scope.table (17 - levels))
body_within scope zero around next d low few = then_ok _ _ _ λ _ _. tt
body_within scope (suc below) around next d low few =
    then_ok _ _ _ λ _ _. then_ok _ _ _ λ tries t. then_ok _ _ _ λ _ _. then_ok _ _ _ λ list _. then_ok _ _ _ λ steps h.
    let depth : 16 - below ≡ 17 - suc below = omega arith in
    let P : ℕ → Type 0 = λ n. Within scope.table n steps.0 in (
      IfOk-at_ok IsTried t (tried around d),
      subst P depth (
          IfOk-at_ok (λ (p : Plan × ℕ). Within scope.table (16 - below) p.0) h
          (steps_within scope (16 - below) (body_of below (around * tries) scope) (next + 1) list (omega arith) few
          (λ n x. inner_within scope below (around * tries) n x (omega arith) (body_within scope below (around * tries) n x (omega arith) few), body_numbered scope below (around * tries)))),
    )

-- bodies of tops over the records of a table
abbrev pub AreTops : Table → List Numbered × ℕ → Type 0
AreTops table p = TopsWithin table.copies (length table.records) p.0

pub bodies_within : (scope : Scope) (next : ℕ) (ds : List Data) → scope.sessions ≤ 16 → IfOk (bodies_of scope next ds) (AreTops scope.table)
bodies_within scope next [] few = tt
bodies_within scope next (d ∷ ds) few =
    then_ok _ _ _ λ b h. then_ok _ _ _ λ rest hs.
    let top = IfOk-at_ok (IsBody scope.table 1) h (body_within scope 16 1 next d (omega arith) few) in
    (top.0, top.1, IfOk-at_ok (AreTops scope.table) hs (bodies_within scope b.1 ds few))
