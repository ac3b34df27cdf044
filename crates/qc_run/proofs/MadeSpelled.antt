-- The table of a script that is made of a number is spelled.
use Rattle.std.proofs.Common.{◌≡◌, ℕ, Bool, true, List, [], ◌∷◌, length, map, refl, sym, subst, arith}
use Rattle.std.specs.Prelude.{All, ◌&&◌, nat_le}
use Rattle.std.specs.Char.{is_ascii_alphanumeric}
use Rattle.std.specs.List.{list_all, range_with_len}
use Rattle.std.proofs.lemmas.Bool.{and_parts, leb-true}
use Rattle.std.proofs.lemmas.List.Elements.{All-nil, All-cons}
use Rattle.std.specs.Fmt.{digits}
use Rattle.qc_config.specs.Val.{Number}
use Rattle.qc_codec.proofs.Fits.{value_fits}
use Rattle.qc_codec.specs.Bodies.{are_distinct, table}
use Rattle.qc_codec.specs.Fields.{current_format, datum}
use Rattle.qc_event.specs.declared.table.Row.{Row}
use Rattle.qc_script.specs.MadePlan.{one_each, made_row, made_plan}
use Rattle.qc_script.specs.Plan.{ScriptPlan}
use Rattle.qc_script.specs.JsonText.{Text}
use Rattle.qc_script.proofs.ProperMade.{made_proper}
use Rattle.qc_run.proofs.Spelled.{IsLabel, IsFaultless, IsSpelledAlone, table_fits}

is_label : Text → Bool
is_label name = list_all is_ascii_alphanumeric name && (nat_le 1 (length name) && nat_le (length name) 16)

label_of : (name : Text) → is_label name ≡ true → IsLabel name
unfolding is_label
label_of name is =
    let both = and_parts (list_all is_ascii_alphanumeric name) (nat_le 1 (length name) && nat_le (length name) 16) is in
    let sizes = and_parts (nat_le 1 (length name)) (nat_le (length name) 16) both.1 in
    record { plain = both.0; some = leb-true 1 (length name) sizes.0; few = leb-true (length name) 16 sizes.1 }

faultless : IsFaultless one_each
faultless = record { votes = (omega arith, (omega arith, (omega arith, (omega arith, (omega arith, tt))))); none = refl }

each_spelled : (recs : List ℕ) → list_all (λ rec. is_label (made_row rec).name) recs ≡ true → All IsSpelledAlone (map made_row recs)
each_spelled [] all = All-nil IsSpelledAlone
each_spelled (rec ∷ recs) all =
    let both = and_parts (is_label (made_row rec).name) (list_all (λ r. is_label (made_row r).name) recs) all in
    All-cons IsSpelledAlone (made_row rec) (map made_row recs) (record { name = label_of (made_row rec).name both.0; config = faultless }) (each_spelled recs both.1)

each_small : (recs : List ℕ) → All (λ (r : Row). (datum current_format).fits r.start) (map made_row recs)
each_small [] = All-nil (λ (r : Row). (datum current_format).fits r.start)
each_small (rec ∷ recs) = All-cons (λ (r : Row). (datum current_format).fits r.start) (made_row rec) (map made_row recs) (value_fits (Number 0) (omega arith)) (each_small recs)

labels : list_all (λ rec. is_label (made_row rec).name) (range_with_len 0 8) ≡ true
unfolding is_label digits
labels = refl

distinct : are_distinct (map made_row (range_with_len 0 8)) ≡ true
unfolding digits
distinct = refl

made_fits : (n : ℕ) → (table current_format).fits (made_plan n).table
unfolding made_plan
made_fits n = table_fits (made_plan n) (made_proper n) (record { distinct = distinct; each_one = each_spelled (range_with_len 0 8) labels }) (each_small (range_with_len 0 8))

pub made_spelled : (s : ScriptPlan) (n : ℕ) → s ≡ made_plan n → (table current_format).fits s.table
made_spelled s n made = subst (λ (p : ScriptPlan). (table current_format).fits p.table) (sym made) (made_fits n)
