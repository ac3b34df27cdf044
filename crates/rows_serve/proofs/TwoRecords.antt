-- Over two records at one copy the setting is proper, and each record starts with the one vote.
use Rattle.std.proofs.Common.{◌≡◌, ℕ, zero, suc, ◌<◌, List, [], ◌∷◌, refl, sym, subst, arith}
use Rattle.std.specs.Prelude.{IsTrue, length, nat_lt, slice_index_or}
use Rattle.std.proofs.lemmas.Bool.{lt-ltb}
use Rattle.qc_config.specs.Config.{Voting, IsLegal}
use Rattle.qc_config.specs.declared.tuple.Tuple.{Tuple}
use Rattle.qc_event.specs.Base.{IsProper, IsConfigFor, IsRowFor, first_of}
use Rattle.qc_event.specs.declared.table.Table.{Table}
use Rattle.qc_event.specs.Tables.{first_configs, setting_of}
use Rattle.rows_serve.specs.TwoRecords.{config, table, IsOver}

config_fits : IsConfigFor 1 config
config_fits = record { legal = legal; for_copies = refl }
  where
    legal : IsLegal config
    legal = record { some_votes = omega arith; some_read = omega arith; read_possible = omega arith; some_write = omega arith; write_possible = omega arith; overlap = omega arith }

two_proper : (x y : Tuple) → x.config ≡ config → y.config ≡ config → IsProper (setting_of table ((x ∷ y ∷ []) ∷ []))
two_proper x y x_config y_config = record {
  base = record {
    some_copy = omega arith;
    most_copies = omega arith;
    some_record = omega arith;
    most_records = omega arith;
    rows = λ n d less. row n d less;
  };
  firsts = λ n d less. first n d less;
}
  where
    first : (n : ℕ) (d : Voting) → n < 2 → IsConfigFor 1 (slice_index_or (config ∷ config ∷ []) n d)
    first zero d less = config_fits
    first (suc zero) d less = config_fits
    first (suc (suc n)) d less = absurd (omega (arith, less))

    tuple : (n : ℕ) (d : Tuple) → n < 2 → IsConfigFor 1 (slice_index_or (x ∷ y ∷ []) n d).config
    tuple zero d less = subst (IsConfigFor 1) (sym x_config) config_fits
    tuple (suc zero) d less = subst (IsConfigFor 1) (sym y_config) config_fits
    tuple (suc (suc n)) d less = absurd (omega (arith, less))

    row : (n : ℕ) (d : List Tuple) → n < 1 → IsRowFor 1 2 (slice_index_or ((x ∷ y ∷ []) ∷ []) n d)
    row zero d less = record { same_records = refl; configs = λ i t small. tuple i t small }
    row (suc n) d less = absurd (omega (arith, less))

pub proper : (over : Table) (base : List (List Tuple)) → IsOver over base → IsProper (setting_of over base)
proper over base o =
    let r = o.is_row in
    subst IsProper (λ i. setting_of (sym o.same_table i) (sym o.one_copy i))
    (subst (λ ts. IsProper (setting_of table (ts ∷ []))) (sym r.both) (two_proper r.x r.y r.x_config r.y_config))

-- a record of the table
pub is_record : (over : Table) (base : List (List Tuple)) (rec : ℕ) → IsOver over base → rec < 2 → IsTrue (nat_lt rec (length (setting_of over base).firsts))
is_record over base rec o less = subst (λ (t : Table). IsTrue (nat_lt rec (length (first_configs t)))) (sym o.same_table) (lt-ltb rec 2 less)

first_by : (base : List (List Tuple)) (rec : ℕ) → rec < 2 → first_of (setting_of table base) rec ≡ config
first_by base zero less = refl
first_by base (suc zero) less = refl
first_by base (suc (suc n)) less = absurd (omega (arith, less))

pub first_is : (over : Table) (base : List (List Tuple)) (rec : ℕ) → IsOver over base → rec < 2 → first_of (setting_of over base) rec ≡ config
first_is over base rec o less = subst (λ (t : Table). first_of (setting_of t base) rec ≡ config) (sym o.same_table) (first_by base rec less)
