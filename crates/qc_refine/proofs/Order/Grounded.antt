-- What sound start tuples give whatever their values are: copies, first configurations that are legal, and
-- generation 0 for none but those.
use mathlib.Core.Bool.{true≢false}
use Rattle.std.proofs.Common.{◌≡◌, ℕ, ◌<◌, ◌==◌, List, [], ◌∷◌, length, sym, ap, ◌∙◌, subst, arith, map, get_or}
use Rattle.std.specs.Prelude.{All, Option, None, Some, MatchOption, slice_get}
use Rattle.std.specs.List.{last_or}
use Rattle.std.proofs.lemmas.List.{length-map, get_or-map}
use Rattle.std.proofs.lemmas.List.Elements.{All-get_or}
use Rattle.std.proofs.lemmas.Option.{same_Some}
use Rattle.qc_config.specs.Config.{Voting, IsLegal}
use Rattle.qc_config.specs.Val.{Datum}
use Rattle.qc_config.specs.declared.tuple.Tuple.{Tuple}
use Rattle.qc_event.specs.Base.{Setting, first_of, no_tuple, start_tuple}
use Rattle.qc_event.specs.Sound.{Carries, IsSound, column, greatest_version}
use Rattle.qc_refine.proofs.Copies.Configs.{last_at, legal_at}
use Rattle.qc_refine.proofs.Copies.Meet.{Held, writer_holds}

-- the configuration of generation 0 is the first one
abbrev pub OfFirst : Voting → Tuple → Type 0
OfFirst first t = t.generation ≡ 0 → t.config ≡ first

pub record IsGrounded (setting : Setting) : Type 0 where
  pub some_copy : (rec : ℕ) → rec < length setting.firsts → 0 < length setting.base
  pub some_read : (rec : ℕ) → rec < length setting.firsts → 0 < (first_of setting rec).read
  pub starts : (rec copy : ℕ) → rec < length setting.firsts → copy < length setting.base → OfFirst (first_of setting rec) (start_tuple setting.base copy rec)

pub legal_last : (configs : List Voting) (newest : Voting) → All IsLegal configs → last_or None configs ≡ Some newest → IsLegal newest
legal_last [] newest legal is = absurd cc
legal_last (c ∷ configs) newest legal is =
    legal_at (c ∷ configs) (length configs) newest legal (sym (last_at None (c ∷ configs) (length configs) (omega arith)) ∙ is)

held_copy : (base : List (List Tuple)) (rec version : ℕ) → Held (map (λ (t : Tuple). t.version == version) (column base rec)) → 0 < length base
held_copy [] rec version held = absurd (true≢false (sym held.here))
held_copy (row ∷ base) rec version held = omega arith

module _ (first : Voting) (base : List (List Tuple)) (rec : ℕ) (value : Datum) (carried : Carries first (column base rec) value) where
  carried_copy : 0 < length base
  carried_copy = held_copy base rec (greatest_version (column base rec)) (writer_holds carried.newest _ (legal_last carried.configs carried.newest carried.legal carried.ends) carried.version_held)

  carried_read : 0 < first.read
  carried_read = (legal_at carried.configs 0 first carried.legal carried.begins).some_read

  carried_start : (copy : ℕ) → copy < length base → OfFirst first (start_tuple base copy rec)
  carried_start copy lt zeroth =
      let at : get_or (column base rec) copy no_tuple ≡ start_tuple base copy rec = get_or-map (λ row. get_or row rec no_tuple) base copy [] no_tuple lt in
      let inside : copy < length (column base rec) = let l = length-map base (λ row. get_or row rec no_tuple) in omega (arith, l, lt) in
      let listed = All-get_or (λ (t : Tuple). slice_get carried.configs t.generation ≡ Some t.config) (column base rec) copy no_tuple inside carried.each_listed in
      let here : slice_get carried.configs (start_tuple base copy rec).generation ≡ Some (start_tuple base copy rec).config =
      subst (λ t. slice_get carried.configs t.generation ≡ Some t.config) at listed in
      same_Some (start_tuple base copy rec).config first (sym here ∙ ap (slice_get carried.configs) zeroth ∙ carried.begins)

pub grounded : (setting : Setting) (values : List Datum) → IsSound setting values → IsGrounded setting
grounded setting values sound = record {
  some_copy = λ rec there. by_value (0 < length setting.base) (slice_get values rec) rec (λ value. carried_copy (first_of setting rec) setting.base rec value) (sound rec there);
  some_read = λ rec there. by_value (0 < (first_of setting rec).read) (slice_get values rec) rec (λ value. carried_read (first_of setting rec) setting.base rec value) (sound rec there);
  starts = λ rec copy there lt. by_value (OfFirst (first_of setting rec) (start_tuple setting.base copy rec)) (slice_get values rec) rec
      (λ value carried. carried_start (first_of setting rec) setting.base rec value carried copy lt) (sound rec there);
}
  where
    by_value : (P : Type 0) (o : Option Datum) (rec : ℕ) → ((value : Datum) → Carries (first_of setting rec) (column setting.base rec) value → P) → MatchOption o ⊥ (Carries (first_of setting rec) (column setting.base rec)) → P
    by_value P None rec given carried = absurd carried
    by_value P (Some value) rec given carried = given value carried
