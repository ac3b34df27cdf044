-- The made record of a spelled table is short: its length is a number of four bytes.
use Rattle.std.proofs.Common.{◌≡◌, ℕ, true, ◌++◌, ◌*◌, ◌<◌, ◌≤◌, ◌^◌, List, [], ◌∷◌, length, arith}
use Rattle.std.specs.Prelude.{◌&&◌, nat_le, flat_map}
use Rattle.std.specs.List.{All}
use Rattle.std.proofs.lemmas.Bool.{and_parts, leb-true}
use Rattle.std.proofs.lemmas.List.{length-append}
use Rattle.std.proofs.lemmas.List.Elements.{All-head, All-tail}
use Rattle.qc_codec.specs.Bodies.{label, row, table, making, made}
use Rattle.qc_codec.specs.Fields.{config, current, current_format, datum, half, long, number_datum, text_datum}
use Rattle.qc_codec.specs.Ledger.{made_for}
use Rattle.qc_codec.proofs.Fits.{config_votes}
use Rattle.qc_config.specs.Val.{Datum, Number, Text, longest}
use Rattle.qc_event.specs.declared.table.Row.{Row}
use Rattle.qc_event.specs.declared.table.Table.{Table}

most_between : (least most n : ℕ) → (nat_le least n && nat_le n most) ≡ true → n ≤ most
most_between least most n is = leb-true n most (and_parts (nat_le least n) (nat_le n most) is).1

datum_short : (v : Datum) → (datum current_format).fits v → length ((datum current_format).spell v) ≤ 1027
unfolding datum number_datum text_datum long half
datum_short (Number n) fits = omega arith
datum_short (Text bytes) fits =
    let short = leb-true (length bytes) longest fits.0.0.1 in
    omega (arith, short, length-append (half.spell (length bytes)) bytes)

row_short : (copies : ℕ) (r : Row) → copies ≤ 16 → (row (current copies)).fits r → length ((row (current copies)).spell r) ≤ 1065
unfolding row label half config
row_short copies r few fits =
    let name = most_between 1 16 (length r.name) fits.0.0.0.0.0.1 in
    let start = datum_short r.start fits.0.1.0 in
    let votes : length r.config.votes ≡ copies = config_votes (current copies) r.config fits.0.1.1 in
    omega (
      arith,
      length-append (label.spell r.name) ((datum current_format).spell r.start ++ (config (current copies)).spell r.config),
      length-append ((datum current_format).spell r.start) ((config (current copies)).spell r.config),
      length-append r.config.votes (half.spell r.config.read ++ half.spell r.config.write),
    )

rows_short : (copies : ℕ) (rows : List Row) → copies ≤ 16 → All (row (current copies)).fits rows → length (flat_map (row (current copies)).spell rows) ≤ 1065 * length rows
rows_short copies [] few fits = omega arith
rows_short copies (r ∷ rows) few fits =
    let here = row_short copies r few (All-head (row (current copies)).fits r rows fits) in
    let rest = rows_short copies rows few (All-tail (row (current copies)).fits r rows fits) in
    omega (arith, length-append ((row (current copies)).spell r) (flat_map (row (current copies)).spell rows))

pub front_short : (t : Table) → (table current_format).fits t → length (made.spell (made_for 0 t)) < 2 ^ 32
unfolding made making table
front_short t fits =
    let copies = most_between 1 16 t.copies fits.0.0.0.1 in
    let many = most_between 1 64 (length t.records) fits.0.0.1.0.0.1 in
    let rows = rows_short t.copies t.records copies fits.0.0.1.0.1.1 in
    omega arith
