-- What fits a form has the lengths that its writer wants, and what is in the range of its types fits.
use mathlib.Core.Bool.{true≢false}
use Rattle.std.proofs.Common.{◌≡◌, ℕ, suc, ◌/◌, ◌%◌, ◌^◌, ◌<◌, ◌≤◌, Bool, true, false, List, [], ◌∷◌, length, refl, sym, subst, ap, arith}
use Rattle.std.specs.Prelude.{◌==◌, Option, None, Some, nat_le, nat_lt, is_none, slice_index}
use Rattle.std.specs.List.{All}
use Rattle.std.proofs.lemmas.Bool.{and_parts, and_from, leb-true, ltb-true, le-leb, lt-ltb}
use Rattle.std.proofs.lemmas.List.Elements.{All-nil, All-cons, All-head, All-tail, All-from_get_or}
use Rattle.qc_names.specs.Name.{longest}
use Rattle.qc_config.proofs.Faults.{legal_unless_fault}
use Rattle.qc_config.specs.Config.{Voting, IsLegal, fault, votes_of}
use Rattle.qc_config.specs.Val.{Datum, Number, Text, IsPossible, longest as longest_text}
use Rattle.qc_config.specs.declared.config.BadConfig.{BadConfig}
use Rattle.qc_config.specs.declared.tuple.Op.{Op}
use Rattle.qc_config.specs.declared.tuple.Op.TheVariants.{Get, PutData, PutConfig}
use Rattle.qc_config.specs.declared.tuple.Tuple.{Tuple}
use Rattle.qc_event.specs.declared.event.Grant.{Grant}
use Rattle.qc_event.specs.declared.table.Row.{Row}
use Rattle.qc_event.specs.declared.table.Table.{Table}
use Rattle.qc_event.specs.Grants.{Sets}
use Rattle.qc_event.specs.History.{Name}
use Rattle.qc_codec.specs.declared.record.BaseRecord.{BaseRecord}
use Rattle.qc_codec.specs.declared.record.Made.{Made}
use Rattle.qc_codec.specs.declared.record.LedgerRecord.TheVariants as ledger_record
use Rattle.qc_codec.specs.Form.{byte, only}
use Rattle.qc_codec.specs.Fields.{config, current, current_format, datum, datum_by, half, is_length, is_top, layout, long, name, number_datum, some_number, text_datum, tuple, word, Layout, IsNumbered}
use Rattle.qc_codec.specs.Ledger.{made_for}
use Rattle.qc_codec.specs.Bodies.{HasLengths, is_between, is_code, code_of, label, row, table, making, made, granted, grant, folded, base, below, top, ledger}

pub config_votes : (layout : Layout) (c : Voting) → (config layout).fits c → length c.votes ≡ layout.copies
unfolding config
config_votes layout c fits = fits.0.0.0.0

pub tuple_votes : (layout : Layout) (t : Tuple) → (tuple layout).fits t → length t.config.votes ≡ layout.copies
unfolding tuple
tuple_votes layout t fits = config_votes layout t.config fits.0.1.1.1

pub name_some : (least : ℕ) (n : Name) → (name least).fits n → 0 < length n
unfolding name
name_some least [] fits = absurd (true≢false (sym fits.0.0.1))
name_some least (x ∷ n) fits = omega arith

-- each number of a name that fits is some
pub name_numbered : (least : ℕ) (n : Name) → (name least).fits n → IsNumbered n
unfolding name word
name_numbered least [] fits = absurd (true≢false (sym fits.0.0.1))
name_numbered least (top ∷ rest) fits =
    let halves = and_parts (nat_lt 0 (top / 2 ^ 32)) _ fits.0.1.0.1 in
    (ltb-true 0 (top / 2 ^ 32) halves.0, ltb-true 0 (top % 2 ^ 32) halves.1, λ k d lt. ltb-true 0 _ (fits.0.1.1.1 k d lt).1)

none_of : (o : Option BadConfig) → is_none o ≡ true → o ≡ None
none_of None is = refl
none_of (Some e) is = absurd cc

-- a configuration that fits is legal
pub config_legal : (layout : Layout) (c : Voting) → (config layout).fits c → IsLegal c
unfolding config
config_legal layout c fits = legal_unless_fault c.votes c.read c.write (none_of (fault c.votes c.read c.write) fits.1)

pub tuple_legal : (layout : Layout) (t : Tuple) → (tuple layout).fits t → IsLegal t.config
unfolding tuple
tuple_legal layout t fits = config_legal layout t.config fits.0.1.1.1

label_short : (l : List ℕ) → label.fits l → length l < 256
unfolding label
label_short l fits = fits.0.0.0.0

row_lengths : (layout : Layout) (r : Row) → (row layout).fits r → HasLengths layout.copies r
unfolding row
row_lengths layout r fits = record { short = label_short r.name fits.0.0; votes = config_votes layout r.config fits.0.1.1 }

pub most : (n : ℕ) → is_between 1 16 n ≡ true → n ≤ 16
most n is = leb-true n 16 (and_parts (nat_le 1 n) _ is).1

-- what a table that fits has
pub record IsSized (t : Table) : Type 0 where
  pub copies : t.copies ≤ 16
  pub records : length t.records < 256
  pub rows : All (HasLengths t.copies) t.records

pub table_sized : (format : ℕ) (t : Table) → (table format).fits t → IsSized t
unfolding table
table_sized format t fits = record {
  copies = most t.copies fits.0.0.0.1;
  records = fits.0.0.1.0.0.0;
  rows = λ k d lt. row_lengths (layout t.copies format) _ (fits.0.0.1.0.1.1 k d lt);
}

pub making_sized : (m : Made) → making.fits m → IsSized m.table
unfolding making
making_sized m fits = table_sized m.format m.table fits.0.1.1

pub made_sized : (m : Made) → made.fits m → IsSized m.table
unfolding made
made_sized m fits = making_sized m fits

-- A FORMAT BEHIND ANOTHER

-- what fits in any format fits in the current one
number_renewed : (v : Datum) → number_datum.fits v → (datum_by false).fits v
unfolding number_datum
number_renewed (Number n) fits = fits
number_renewed (Text bytes) fits = absurd fits

datum_renewed : (f : ℕ) (v : Datum) → (datum f).fits v → (datum current_format).fits v
unfolding datum
datum_renewed f v = by (f == 1)
  where
    by : (b : Bool) → (datum_by b).fits v → (datum_by false).fits v
    by true fits = number_renewed v fits
    by false fits = fits

config_renewed : (copies f : ℕ) (c : Voting) → (config (layout copies f)).fits c → (config (current copies)).fits c
unfolding config
config_renewed copies f c fits = fits

pub tuple_renewed : (copies f : ℕ) (t : Tuple) → (tuple (layout copies f)).fits t → (tuple (current copies)).fits t
unfolding tuple
tuple_renewed copies f t fits = ((fits.0.0, (datum_renewed f t.value fits.0.1.0, (fits.0.1.1.0, config_renewed copies f t.config fits.0.1.1.1))), fits.1)

row_renewed : (copies f : ℕ) (r : Row) → (row (layout copies f)).fits r → (row (current copies)).fits r
unfolding row
row_renewed copies f r fits = ((fits.0.0, (datum_renewed f r.start fits.0.1.0, config_renewed copies f r.config fits.0.1.1)), fits.1)

-- a table of any format fits the current one
pub table_renewed : (m : Made) → made.fits m → (table current_format).fits m.table
unfolding made making table
table_renewed m fits =
    let t = fits.0.1.1 in
    (((t.0.0.0, ((t.0.0.1.0.0, (t.0.0.1.0.1.0, λ k d lt. row_renewed m.table.copies m.format _ (t.0.0.1.0.1.1 k d lt))), t.0.0.1.1)), t.0.1), t.1)

pub made_renewed : (m : Made) → made.fits m → made.fits (made_for m.who m.table)
unfolding made making
made_renewed m fits = (((omega arith, refl), (fits.0.1.0, table_renewed m fits)), tt)

-- a proper table has a made record
pub made_proper : (disk : ℕ) (t : Table) → disk < 256 → (table current_format).fits t → made.fits (made_for disk t)
unfolding made making
made_proper disk t small fits = (((omega arith, refl), (small, fits)), tt)

-- GRANTS

pub granted_name : (least : ℕ) (layout : Layout) (g : Grant) → (granted least layout).fits g → 0 < length g.access
unfolding granted
granted_name least layout g fits = name_some least g.access fits.0.0

pub granted_votes : (least : ℕ) (layout : Layout) (g : Grant) → (granted least layout).fits g → length g.tuple.config.votes ≡ layout.copies
unfolding granted
granted_votes least layout g fits = tuple_votes layout g.tuple fits.0.1.1.1

pub grant_granted : (layout : Layout) (g : Grant) → (grant layout).fits g → (granted 3 layout).fits g
unfolding grant
grant_granted layout g fits = fits

pub grant_renewed : (copies f : ℕ) (g : Grant) → (grant (layout copies f)).fits g → (grant (current copies)).fits g
unfolding grant granted
grant_renewed copies f g fits = ((fits.0.0, (fits.0.1.0, (fits.0.1.1.0, tuple_renewed copies f g.tuple fits.0.1.1.1))), fits.1)

-- any name's spelling is the same, whatever its least length
pub same_spelling : (least : ℕ) → (name 1).spell ≡ (name least).spell
unfolding name
same_spelling least = refl

pub below_spelling : (number : ℕ) → (name 1).spell ≡ (below number).spell
unfolding name below
below_spelling number = refl

pub granted_spelling : (least : ℕ) (layout : Layout) → (granted 1 layout).spell ≡ (granted least layout).spell
unfolding name granted
granted_spelling least layout = refl

pub grant_spelled : (layout : Layout) (g : Grant) → (grant layout).spell g ≡ 2 ∷ (granted 1 layout).spell g
unfolding name granted grant
grant_spelled layout g = refl

-- BASE RECORDS

pub base_votes : (layout : Layout) (records : ℕ) (b : BaseRecord) → (base layout records).fits b → All (λ (t : Tuple). length t.config.votes ≡ layout.copies) b.tuples
unfolding base folded
base_votes layout records b fits k d lt = tuple_votes layout _ (fits.0.1.1.1 k d lt)

-- THE LEDGER'S RECORDS

pub made_fits : (m : Made) → ledger.fits (ledger_record.Made m) → making.fits m
unfolding ledger
made_fits m fits = fits

pub top_names : (number : ℕ) (names : List Name) → top.fits (number, names) → All (λ n. 0 < length n) names
unfolding top below
top_names number names fits k d lt = name_some 2 _ (fits.1.0.1.1 k d lt).0

pub top_count : (number : ℕ) (names : List Name) → top.fits (number, names) → length names < 4294967296
unfolding top word
top_count number names fits = fits.1.0.0

-- a top's name has one number
pub record IsOneTop (t : Name) (names : List Name) : Type 0 where
  pub some : 0 < length t
  pub fits : top.fits (slice_index t 0, names)
  pub spelled : ledger.spell (ledger_record.Top t names) ≡ 3 ∷ top.spell (slice_index t 0, names)

pub top_alone : (t : Name) (names : List Name) → ledger.fits (ledger_record.Top t names) → IsOneTop t names
unfolding ledger
top_alone [] names fits = absurd fits
top_alone (n ∷ []) names fits = record { some = omega arith; fits = fits; spelled = refl }
top_alone (n ∷ k ∷ rest) names fits = absurd fits

-- WHAT TYPES SAY

-- the numbers of a name are in range
pub record IsNameInRange (n : Name) : Type 0 where
  pub short : length n ≤ longest
  pub first : slice_index n 0 < 2 ^ 64
  pub rest : (k : ℕ) → 0 < k → slice_index n k < 2 ^ 32

rest_fits : (rest : List ℕ) → All (λ n. 0 < n) rest → ((k : ℕ) → slice_index rest k < 2 ^ 32) → All some_number.fits rest
unfolding word
rest_fits [] some small = All-nil some_number.fits
rest_fits (n ∷ rest) some small =
    All-cons some_number.fits n rest (small 0, lt-ltb 0 n (All-head (λ k. 0 < k) n rest some))
    (rest_fits rest (All-tail (λ k. 0 < k) n rest some) (λ k. small (suc k)))

pub numbered_some : (n : Name) → IsNumbered n → 1 ≤ length n
numbered_some [] numbered = absurd numbered
numbered_some (top ∷ rest) numbered = omega arith

pub name_fits : (least : ℕ) (n : Name) → least ≤ length n → IsNameInRange n → IsNumbered n → (name least).fits n
unfolding name long
name_fits least [] long range numbered = absurd numbered
name_fits least (top ∷ rest) long range numbered =
    let short = range.short in
    let few : length (top ∷ rest) < 256 = omega arith in
    let between : is_length least (length (top ∷ rest)) ≡ true =
    and_from (nat_lt 0 (length (top ∷ rest))) _ (lt-ltb 0 (length (top ∷ rest)) (omega arith))
    (and_from (nat_le least (length (top ∷ rest))) _ (le-leb least (length (top ∷ rest)) long) (le-leb (length (top ∷ rest)) longest short)) in
    let halves : is_top top ≡ true = and_from (nat_lt 0 (top / 2 ^ 32)) _ (lt-ltb 0 (top / 2 ^ 32) numbered.0) (lt-ltb 0 (top % 2 ^ 32) numbered.1) in
    (((few, between), ((range.first, halves), (omega arith, rest_fits rest numbered.2 (λ k. range.rest (suc k) (omega arith))))), tt)

-- those of a configuration are
pub record IsConfigInRange (c : Voting) : Type 0 where
  pub votes : (k : ℕ) → k < length c.votes → votes_of c k < 256
  pub read : c.read < 2 ^ 16
  pub write : c.write < 2 ^ 16

pub config_fits : (l : Layout) (c : Voting) → length c.votes ≡ l.copies → fault c.votes c.read c.write ≡ None → IsConfigInRange c → (config l).fits c
unfolding config half
config_fits l c same none range = ((((same, All-from_get_or (λ v. v < 256) c.votes 0 range.votes), (range.read, range.write)), tt), ap is_none none)

-- each value that can be has a spelling
pub value_fits : (v : Datum) → IsPossible v → (datum current_format).fits v
unfolding datum number_datum text_datum long half
value_fits (Number n) small = small
value_fits (Text bytes) text = (((omega (arith, text.0), le-leb (length bytes) longest_text text.0), (refl, text.1)), tt)

pub tuple_fits : (l : Layout) (t : Tuple) → t.version < 2 ^ 64 → (datum l.format).fits t.value → t.generation < 2 ^ 64 → (config l).fits t.config → (tuple l).fits t
unfolding tuple long
tuple_fits l t version value generation fits = ((version, (value, (generation, fits))), tt)

pub code_fits : (op : Op) → (only is_code byte).fits (code_of op)
code_fits Get = (omega arith, refl)
code_fits (PutData version value) = (omega arith, refl)
code_fits (PutConfig generation config) = (omega arith, refl)

pub granted_fits : (least : ℕ) (l : Layout) (g : Grant) → (name least).fits g.access → g.rec < 256 → (tuple l).fits g.tuple → Sets g.op g.tuple
    → (granted least l).fits g
unfolding granted
granted_fits least l g named small fits sets = ((named, (small, (code_fits g.op, fits))), sets)
