-- The table of a script is spelled: its names differ and have 1 to 16 letters and digits, and its numbers have their sizes.
use Rattle.std.proofs.Common.{◌≡◌, ℕ, ◌<◌, ◌≤◌, ◌*◌, Bool, true, false, List, [], ◌∷◌, ◌++◌, length, Option, Some, None, Ok, Err, refl, ap, ◌∙◌, subst, inl, inr, arith}
use Rattle.std.specs.Prelude.{All, ◌&&◌, ◌||◌, not, nat_le, sum, is_none, IfOk}
use Rattle.std.specs.List.{AllByRecursion, list_all, list_any}
use Rattle.std.specs.Char.{is_ascii_alphanumeric}
use Rattle.std.specs.Int.{is_in_range}
use Rattle.std.specs.Str.{bytes_eq}
use Rattle.std.proofs.lemmas.Bool.{leb-true, le-leb, and_parts, and_from, not-true, or_cases, or_from, or_parts}
use Rattle.std.proofs.lemmas.List.Elements.{All-nil, All-cons, All-head, All-tail, All-push}
use Rattle.std.proofs.lemmas.List.Folds.{list_any-append}
use Rattle.std.proofs.lemmas.List.Sums.{sum_by-cons}
use Rattle.std.proofs.lemmas.Result.{IfOk-at_ok}
use Rattle.serde_json.specs.Data.{Data}
use Rattle.qc_codec.specs.Bodies.{are_distinct, is_between, label, row, table}
use Rattle.qc_codec.specs.Fields.{config, current, current_format, datum, half}
use Rattle.qc_config.specs.Config.{Voting, fault}
use Rattle.qc_config.specs.declared.config.BadConfig.{BadConfig}
use Rattle.qc_event.specs.Base.{IsConfigFor}
use Rattle.qc_event.specs.declared.table.Row.{Row}
use Rattle.qc_event.specs.declared.table.Table.{Table}
use Rattle.qc_script.specs.Plan.{ScriptPlan}
use Rattle.qc_script.proofs.Proper.{then_ok, must_true, within_limits}
use Rattle.qc_script.specs.Reading.{IsProper, IsScript}
use Rattle.qc_script.specs.JsonText.{Text, must, each}
use Rattle.qc_script.specs.ScriptText.{config_of, form_of_name, name_of, names_of, records_of, row_of, rows_of, script_of, vote_of}
use Rattle.qc_script.specs.declared.bad_script.BadScript.TheVariants.{Config, Limit}
use Rattle.qc_script.specs.declared.bad_script.Member.TheVariants as part

-- NAMES

-- a name of 1 to 16 letters and digits
pub record IsLabel (name : Text) : Type 0 where
  pub plain : list_all is_ascii_alphanumeric name ≡ true
  pub some : 1 ≤ length name
  pub few : length name ≤ 16

form_label : (name : Text) → IfOk (form_of_name name) (λ _. IsLabel name)
form_label name =
    then_ok _ _ _ λ t plain. by_limits (must_true _ _ t plain) (nat_le 1 (length name) && nat_le (length name) 16) refl
  where
    by_limits : list_all is_ascii_alphanumeric name ≡ true → (b : Bool) → (nat_le 1 (length name) && nat_le (length name) 16) ≡ b → IfOk (must b (Limit part.Name (length name))) (λ _. IsLabel name)
    by_limits plain true is = let l = within_limits 1 16 (length name) is in record { plain = plain; some = l.0; few = l.1 }
    by_limits plain false is = tt

-- behind these names, none of which it is
record IsNewLabel (names : List Text) (name : Text) : Type 0 where
  label : IsLabel name
  new : list_any (bytes_eq name) names ≡ false

name_new : (names : List Text) (d : Data) → IfOk (name_of names d) (IsNewLabel names)
name_new names d =
    then_ok _ _ _ λ name _. then_ok _ _ _ λ t form. then_ok _ _ _ λ u new. record {
      label = IfOk-at_ok (λ _. IsLabel name) form (form_label name);
      new = not-true _ (must_true _ _ u new);
    }

-- CONFIGURATIONS

is_byte : (d : Data) → IfOk (vote_of d) (λ n. n ≤ 255)
is_byte d = then_ok _ _ _ λ n _. then_ok _ _ _ λ t h. (within_limits 0 255 n (must_true _ _ t h)).1

all_bytes : (ds : List Data) → IfOk (each vote_of ds) (AllByRecursion (λ n. n ≤ 255))
all_bytes [] = tt
all_bytes (d ∷ ds) = then_ok _ _ _ λ n h. then_ok _ _ _ λ ns hs. (IfOk-at_ok (λ n. n ≤ 255) h (is_byte d), IfOk-at_ok (AllByRecursion (λ n. n ≤ 255)) hs (all_bytes ds))

-- votes of a byte each, and no fault
pub record IsFaultless (c : Voting) : Type 0 where
  pub votes : AllByRecursion (λ n. n ≤ 255) c.votes
  pub none : fault c.votes c.read c.write ≡ None

faultless : (copies : ℕ) (d : Data) → IfOk (config_of copies d) IsFaultless
faultless copies d =
    then_ok _ _ _ λ _ _. then_ok _ _ _ λ list _. then_ok _ _ _ λ _ _. then_ok _ _ _ λ votes v. then_ok _ _ _ λ read _. then_ok _ _ _ λ write _.
    by_fault votes read write (IfOk-at_ok (AllByRecursion (λ n. n ≤ 255)) v (all_bytes list)) (fault votes read write) refl
  where
    by_fault : (votes : List ℕ) (read write : ℕ) → AllByRecursion (λ n. n ≤ 255) votes → (o : Option BadConfig) → fault votes read write ≡ o
        → IfOk (elim o [ None ↦ Ok (record { votes = votes; read = read; write = write }) | Some e ↦ Err (Config e) ]) IsFaultless
    by_fault votes read write all None is = record { votes = all; none = is }
    by_fault votes read write all (Some e) is = tt

-- ROWS

-- behind rows of these names
record IsSpelledRow (names : List Text) (row : Row) : Type 0 where
  name : IsNewLabel names row.name
  config : IsFaultless row.config

row_spelled : (copies : ℕ) (names : List Text) (d : Data) → IfOk (row_of copies names d) (IsSpelledRow names)
row_spelled copies names d =
    then_ok _ _ _ λ _ _. then_ok _ _ _ λ name n. then_ok _ _ _ λ given _. then_ok _ _ _ λ start _. then_ok _ _ _ λ value _. then_ok _ _ _ λ config c. record {
      name = IfOk-at_ok (IsNewLabel names) n (name_new names d);
      config = IfOk-at_ok IsFaultless c (faultless copies value);
    }

-- whatever came before, its own name and configuration
pub record IsSpelledAlone (row : Row) : Type 0 where
  pub name : IsLabel row.name
  pub config : IsFaultless row.config

-- rows of names that differ, each spelled
pub record AreSpelled (rows : List Row) : Type 0 where
  pub distinct : are_distinct rows ≡ true
  pub each_one : All IsSpelledAlone rows

any_pushed : (p : Row → Bool) (rows : List Row) (row : Row) → list_any p rows ≡ false → p row ≡ false → list_any p (rows ++ row ∷ []) ≡ false
any_pushed p rows row before here = list_any-append p rows (row ∷ []) ∙ or_from (list_any p rows) (p row || false) before (or_from (p row) false here refl)

distinct_pushed : (rows : List Row) (row : Row) → are_distinct rows ≡ true → list_any (bytes_eq row.name) (names_of rows) ≡ false → are_distinct (rows ++ row ∷ []) ≡ true
distinct_pushed [] row distinct new = refl
distinct_pushed (r ∷ rows) row distinct new =
    let both = and_parts (not (list_any (λ (q : Row). bytes_eq q.name r.name) rows)) (are_distinct rows) distinct in
    let news = or_parts (bytes_eq row.name r.name) (list_any (bytes_eq row.name) (names_of rows)) new in
    and_from (not (list_any (λ (q : Row). bytes_eq q.name r.name) (rows ++ row ∷ []))) (are_distinct (rows ++ row ∷ []))
    (ap not (any_pushed (λ (q : Row). bytes_eq q.name r.name) rows row (not-true _ both.0) news.0))
    (distinct_pushed rows row both.1 news.1)

pushed : (rows : List Row) (row : Row) → AreSpelled rows → IsSpelledRow (names_of rows) row → AreSpelled (rows ++ row ∷ [])
pushed rows row are is = record {
  distinct = distinct_pushed rows row are.distinct is.name.new;
  each_one = All-push IsSpelledAlone rows row are.each_one (record { name = is.name.label; config = is.config });
}

rows_spelled : (copies : ℕ) (rows : List Row) (ds : List Data) → AreSpelled rows → IfOk (rows_of copies rows ds) AreSpelled
rows_spelled copies rows [] are = are
rows_spelled copies rows (d ∷ ds) are = then_ok _ _ _ λ row h. rows_spelled copies (rows ++ row ∷ []) ds (pushed rows row are (IfOk-at_ok (IsSpelledRow (names_of rows)) h (row_spelled copies (names_of rows) d)))

records_spelled : (copies : ℕ) (d : Data) → IfOk (records_of copies d) (λ t. AreSpelled t.records)
records_spelled copies d = then_ok _ _ _ λ list _. then_ok _ _ _ λ _ _. then_ok _ _ _ λ rows h. IfOk-at_ok AreSpelled h (rows_spelled copies [] list (record { distinct = refl; each_one = All-nil IsSpelledAlone }))

script_spelled : (d : Data) → IfOk (script_of d) (λ s. AreSpelled s.table.records)
script_spelled d = then_ok _ _ _ λ _ _. then_ok _ _ _ λ copies _. then_ok _ _ _ λ _ _. then_ok _ _ _ λ table h. then_ok _ _ _ λ _ _. IfOk-at_ok (λ (t : Table). AreSpelled t.records) h (records_spelled copies d)

-- HOW THEY ARE SPELLED

all_small : (n m : ℕ) (xs : List ℕ) → n < m → AllByRecursion (λ x. x ≤ n) xs → All (λ x. x < m) xs
all_small n m [] less all = All-nil (λ x. x < m)
all_small n m (x ∷ xs) less all = All-cons (λ y. y < m) x xs (let here = all.0 in omega arith) (all_small n m xs less all.1)

most_votes : (xs : List ℕ) → AllByRecursion (λ x. x ≤ 255) xs → sum xs ≤ 255 * length xs
most_votes [] all = omega arith
most_votes (x ∷ xs) all =
    let first = sum_by-cons (λ y. y) x xs in
    let rest = most_votes xs all.1 in
    let here = all.0 in
    omega arith

plain_byte : (x : ℕ) → is_ascii_alphanumeric x ≡ true → x < 256
plain_byte x plain = elim (or_cases (is_in_range 48 57 x || is_in_range 65 90 x) (is_in_range 97 122 x) plain) [
  | inl low ↦ elim (or_cases (is_in_range 48 57 x) (is_in_range 65 90 x) low) [
    | inl digit ↦ let most = leb-true x 57 (and_parts (nat_le 48 x) (nat_le x 57) digit).1 in omega arith
    | inr large ↦ let most = leb-true x 90 (and_parts (nat_le 65 x) (nat_le x 90) large).1 in omega arith
  ]
  | inr small ↦ let most = leb-true x 122 (and_parts (nat_le 97 x) (nat_le x 122) small).1 in omega arith
]

plain_bytes : (name : Text) → list_all is_ascii_alphanumeric name ≡ true → All (λ x. x < 256) name
plain_bytes [] plain = All-nil (λ x. x < 256)
plain_bytes (x ∷ name) plain =
    let both = and_parts (is_ascii_alphanumeric x) (list_all is_ascii_alphanumeric name) plain in
    All-cons (λ y. y < 256) x name (plain_byte x both.0) (plain_bytes name both.1)

between : (least most n : ℕ) → least ≤ n → n ≤ most → is_between least most n ≡ true
between least most n low high = and_from (nat_le least n) (nat_le n most) (le-leb least n low) (le-leb n most high)

label_fits : (name : Text) → IsLabel name → label.fits name
unfolding label
label_fits name is =
    let few = is.few in
    (((((omega arith, between 1 16 (length name) is.some is.few)), (refl, plain_bytes name is.plain)), tt), is.plain)

config_fits : (copies : ℕ) (c : Voting) → copies ≤ 16 → IsConfigFor copies c → IsFaultless c → (config (current copies)).fits c
unfolding config half
config_fits copies c few proper is =
    let most = most_votes c.votes is.votes in
    let many = proper.for_copies in
    let read = proper.legal.read_possible in
    let write = proper.legal.write_possible in
    ((((proper.for_copies, all_small 255 256 c.votes (omega arith) is.votes), (omega arith, omega arith)), tt), ap is_none is.none)

row_fits : (copies : ℕ) (r : Row) → copies ≤ 16 → IsConfigFor copies r.config → IsSpelledAlone r → (datum current_format).fits r.start → (row (current copies)).fits r
unfolding row
row_fits copies r few proper is small = ((label_fits r.name is.name, (small, config_fits copies r.config few proper is.config)), tt)

rows_fit : (copies : ℕ) (rows : List Row) → copies ≤ 16 → AllByRecursion (λ (r : Row). IsConfigFor copies r.config) rows → All IsSpelledAlone rows → All (λ (r : Row). (datum current_format).fits r.start) rows → All (row (current copies)).fits rows
rows_fit copies [] few proper spelled small = All-nil (row (current copies)).fits
rows_fit copies (r ∷ rows) few proper spelled small =
    All-cons (row (current copies)).fits r rows
    (row_fits copies r few proper.0 (All-head IsSpelledAlone r rows spelled) (All-head (λ (q : Row). (datum current_format).fits q.start) r rows small))
    (rows_fit copies rows few proper.1 (All-tail IsSpelledAlone r rows spelled) (All-tail (λ (q : Row). (datum current_format).fits q.start) r rows small))

pub table_fits : (s : ScriptPlan) → IsProper s → AreSpelled s.table.records → All (λ (r : Row). (datum current_format).fits r.start) s.table.records → (table current_format).fits s.table
unfolding table
table_fits s proper spelled small =
    let some_copy = proper.some_copy in
    let few_copies = proper.few_copies in
    let some = proper.some_records in
    let few = proper.few_records in
    ((((omega arith, between 1 16 s.table.copies (omega arith) (omega arith)), (((omega arith, between 1 64 (length s.table.records) (omega arith) (omega arith)), (refl, rows_fit s.table.copies s.table.records few_copies proper.rows spelled.each_one small)), tt)), tt), spelled.distinct)

-- the table of the script that bytes are is spelled, where its start values are
pub spelled : (bytes : List ℕ) (s : ScriptPlan) → IsScript bytes s → IsProper s → All (λ (r : Row). (datum current_format).fits r.start) s.table.records → (table current_format).fits s.table
spelled bytes s is proper small =
    table_fits s proper (subst (λ r. IfOk r (λ (p : ScriptPlan). AreSpelled p.table.records)) is.reads (script_spelled is.value)) small
