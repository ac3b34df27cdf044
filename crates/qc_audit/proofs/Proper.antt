-- A saved trail begins from a proper setting, and has no more entries than it has bytes.
use Rattle.std.proofs.Common.{◌≡◌, ℕ, ◌≤◌, ◌^◌, true, List, [], ◌∷◌, ◌++◌, length, map, refl, sym, ap, ◌∙◌, subst, arith}
use Rattle.std.specs.Prelude.{All, slice_index_or, nat_le, flat_map}
use Rattle.std.proofs.lemmas.Bool.{and_parts, leb-true}
use Rattle.std.proofs.lemmas.List.{length-append, length-map}
use Rattle.std.proofs.lemmas.List.Elements.{All-map}
use Rattle.qc_config.specs.Config.{Voting}
use Rattle.qc_config.specs.declared.tuple.Tuple.{Tuple}
use Rattle.qc_event.specs.declared.event.Entry.{Entry}
use Rattle.qc_event.specs.declared.table.Row.{Row}
use Rattle.qc_event.specs.declared.table.Table.{Table}
use Rattle.qc_event.specs.Base.{IsConfigFor, IsProper}
use Rattle.qc_event.specs.History.{limit}
use Rattle.qc_event.specs.Tables.{setting_of}
use Rattle.qc_codec.specs.Bodies.{is_between, making, made, row, table}
use Rattle.qc_codec.specs.Fields.{config, tuple, word, Layout}
use Rattle.qc_codec.specs.Gives.{Spells}
use Rattle.qc_codec.specs.Ledger.{made_in}
use Rattle.qc_codec.proofs.Fits.{config_legal, config_votes}
use Rattle.qc_trail_codec.specs.Events.{entry}
use Rattle.qc_trail_codec.specs.Trail.{base, trail, layout_of}
use Rattle.qc_trail_codec.specs.declared.record.SavedTrail.{SavedTrail}
use Rattle.qc_audit.specs.Saved.{HasSizes, IsSaved}

-- CONFIGURATIONS

-- what fits the form of configurations for so many copies is a legal one for them
config_for : (layout : Layout) (c : Voting) → (config layout).fits c → IsConfigFor layout.copies c
config_for layout c fits = record { legal = config_legal layout c fits; for_copies = config_votes layout c fits }

tuple_for : (layout : Layout) (t : Tuple) → (tuple layout).fits t → IsConfigFor layout.copies t.config
unfolding tuple
tuple_for layout t fits = config_for layout t.config fits.0.1.1.1

row_for : (layout : Layout) (r : Row) → (row layout).fits r → IsConfigFor layout.copies r.config
unfolding row
row_for layout r fits = config_for layout r.config fits.0.1.1

-- TABLES AND BASES

between : (least most n : ℕ) → is_between least most n ≡ true → (least ≤ n) × (n ≤ most)
between least most n is = let p = and_parts (nat_le least n) (nat_le n most) is in (leb-true least n p.0, leb-true n most p.1)

-- what a table that fits has
record IsTable (t : Table) : Type 0 where
  some_record : 1 ≤ length t.records
  most_records : length t.records ≤ 64
  configs : All (λ (r : Row). IsConfigFor t.copies r.config) t.records

is_table : (format : ℕ) (t : Table) → (table format).fits t → IsTable t
unfolding table
is_table format t fits =
    let records = between 1 64 (length t.records) fits.0.0.1.0.0.1 in
    record { some_record = records.0; most_records = records.1; configs = λ k d lt. row_for (layout_of format t.copies) _ (fits.0.0.1.0.1.1 k d lt) }

made_table : (format who : ℕ) (t : Table) → made.fits (made_in format who t) → (table format).fits t
unfolding made making
made_table format who t fits = fits.0.1.1

-- what a base that fits has
record IsBase (b : List (List Tuple)) : Type 0 where
  some_copy : 1 ≤ length b
  most_copies : length b ≤ 16
  configs : All (λ (r : List Tuple). All (λ (t : Tuple). IsConfigFor (length b) t.config) r) b

is_base : (format : ℕ) (b : List (List Tuple)) → (base format).fits b → IsBase b
unfolding base
is_base format b fits =
    let copies = between 1 16 (length b) fits.0.0.1 in
    record { some_copy = copies.0; most_copies = copies.1; configs = λ k d lt j t less. tuple_for (layout_of format (length b)) _ ((fits.0.1.1.1 k d lt).1 j t less) }

trail_base : (format : ℕ) (t : SavedTrail) → (trail format).fits t → (base format).fits t.base
unfolding trail
trail_base format t fits = fits.0.0

pub proper : (t : Table) (saved : SavedTrail) (bytes : List ℕ) → IsSaved t saved bytes → IsProper (setting_of t saved.base)
proper t saved bytes s =
    let rows = is_table s.format t (made_table s.format 0 t s.made.1) in
    let is = is_base s.format saved.base (trail_base s.format saved s.rest.1) in
    let many : length (map (λ (r : Row). r.config) t.records) ≡ length t.records = length-map t.records (λ (r : Row). r.config) in
    let some = rows.some_record in
    let most = rows.most_records in
    record {
      base = record {
        some_copy = is.some_copy;
        most_copies = is.most_copies;
        some_record = omega (arith, many, some);
        most_records = omega (arith, many, most);
        rows = λ k d lt. record { same_records = s.sizes.records k d lt ∙ sym many; configs = is.configs k d lt };
      };
      firsts = subst (λ n. All (IsConfigFor n) (map (λ (r : Row). r.config) t.records)) (sym s.sizes.copies) (All-map (IsConfigFor t.copies) (λ (r : Row). r.config) t.records rows.configs);
    }

-- WHAT BYTES TELL OF SIZES

width : SavedTrail → ℕ
width t = length (slice_index_or t.base 0 [])

-- a trail's bytes begin with how many copies and records there are
begins : (format : ℕ) (t : SavedTrail) → (rest : List ℕ) × ((trail format).spell t ≡ length t.base ∷ width t ∷ rest)
unfolding trail base width
begins format t = (_, refl)

same_sizes : (format : ℕ) (bytes : List ℕ) (t u : SavedTrail) → Spells (trail format) bytes t → Spells (trail format) bytes u → (length t.base ≡ length u.base) × (width t ≡ width u)
same_sizes format bytes t u first second =
    let one = begins format t in
    let two = begins format u in
    let same : length t.base ∷ width t ∷ one.0 ≡ length u.base ∷ width u ∷ two.0 = sym one.1 ∙ sym first.0 ∙ second.0 ∙ two.1 in
    (cc, cc)

-- each copy has as many records as the first
alike : (format : ℕ) (t : SavedTrail) → (trail format).fits t → All (λ (row : List Tuple). length row ≡ width t) t.base
unfolding trail base width
alike format t fits k d lt = (fits.0.0.0.1.1.1 k d lt).0

-- trails of the same bytes have the same sizes
pub sizes_told : (format : ℕ) (table : Table) (bytes : List ℕ) (t u : SavedTrail) → Spells (trail format) bytes t → Spells (trail format) bytes u → HasSizes table u.base → HasSizes table t.base
unfolding width
sizes_told format table bytes t u first second sizes =
    let same = same_sizes format bytes t u first second in
    let some = (is_base format u.base (trail_base format u second.1)).some_copy in
    record { copies = same.0 ∙ sizes.copies; records = λ k d lt. alike format t first.1 k d lt ∙ same.1 ∙ sizes.records 0 [] (omega (arith, some)) }

-- HOW MANY ENTRIES THERE ARE

some_bytes : (layout : Layout) (e : Entry) → 1 ≤ length ((entry layout).spell e)
unfolding entry word
some_bytes layout e = omega arith

as_many : {A : Type 0} (spell : A → List ℕ) (xs : List A) → ((x : A) → 1 ≤ length (spell x)) → length xs ≤ length (flat_map spell xs)
as_many spell [] some = omega arith
as_many spell (x ∷ xs) some = omega (arith, some x, as_many spell xs some, length-append (spell x) (flat_map spell xs))

entries_fewer : (format : ℕ) (t : SavedTrail) → length t.entries ≤ length ((trail format).spell t)
unfolding trail
entries_fewer format t =
    let layout = layout_of format (length t.base) in
    let head = (base format).spell t.base in
    omega (arith, as_many (entry layout).spell t.entries (some_bytes layout), length-append {A = ℕ})

pub few : (t : Table) (saved : SavedTrail) (bytes : List ℕ) → IsSaved t saved bytes → length bytes ≤ 2 ^ 24 → length saved.entries ≤ limit
few t saved bytes s short =
    let entries = entries_fewer s.format saved in
    let back = ap length s.rest.0 in
    let whole = ap length s.parts.joined in
    omega (arith, entries, back, whole, short, length-append (word.spell (length s.front)) (s.front ++ s.back), length-append s.front s.back)
