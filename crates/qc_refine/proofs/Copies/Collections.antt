-- A collection that is enough has seen the newest configuration and the value.
use mathlib.Core.Bool.{true≢false}
use Rattle.std.proofs.Common.{◌≡◌, ℕ, ◌+◌, ◌<◌, ◌≤◌, ◌==◌, Bool, true, List, [], ◌∷◌, length, sym, ◌∙◌, subst, inl, inr, arith, map}
use Rattle.std.specs.Prelude.{slice_get, nat_lt, None, Some}
use Rattle.std.proofs.lemmas.Bool.{cases_lt, ltb-true, eqb-true}
use Rattle.std.proofs.lemmas.Option.{slice_get_within}
use Rattle.qc_config.specs.Config.{Voting, IsLegal, holds_write}
use Rattle.qc_config.specs.Val.{Datum}
use Rattle.qc_config.specs.declared.tuple.Tuple.{Tuple}
use Rattle.qc_event.specs.Base.{no_tuple}
use Rattle.qc_event.specs.History.{Given}
use Rattle.qc_event.specs.Manager.{Newest, Greatest}
use Rattle.qc_event.specs.Sound.{Carries, greatest_version}
use Rattle.qc_refine.specs.Completed.{FindsThere, Within, replies, has_given, marks_of, newest_of, greatest_of, Collected, tuple_at}
use Rattle.qc_refine.proofs.Copies.Meet.{Shared, quorums_meet, marked}
use Rattle.qc_refine.proofs.Copies.Grants.{marked_given, replies_are, replied_is}
use Rattle.qc_refine.proofs.Copies.Folds.{newest_among, newest_above, greatest_one, greatest_above}
use Rattle.qc_refine.proofs.Copies.Fits.{carried_fit}
use Rattle.qc_refine.proofs.Copies.Configs.{last_at, config_at, legal_at}

-- what a collection has seen of copies that carry a value
pub record Seen (first : Voting) (tuples : List Tuple) (value : Datum) (gets : List Given) (carried : Carries first tuples value) : Type 0 where
  pub place : (newest_of first gets).generation + 1 ≡ length carried.configs
  pub newest : (newest_of first gets).config ≡ carried.newest
  pub at : slice_get carried.configs (newest_of first gets).generation ≡ Some (newest_of first gets).config
  pub legal : IsLegal (newest_of first gets).config
  pub version : (greatest_of gets).version ≡ greatest_version tuples
  pub value_is : (greatest_of gets).value ≡ value

abbrev ListedIn : List Voting → Tuple → Type 0
ListedIn configs t = slice_get configs t.generation ≡ Some t.config

abbrev UpTo : ℕ → Tuple → Type 0
UpTo n t = t.generation ≤ n

abbrev VersionUpTo : ℕ → Tuple → Type 0
VersionUpTo n t = t.version ≤ n

some_given : (gets : List Given) (c : ℕ) → has_given gets c ≡ true → 0 < length (replies gets)
some_given [] c h = absurd (true≢false (sym h))
some_given (g ∷ gets) c h = omega arith

newest_listed : (first : Voting) (tuples : List Tuple) (value : Datum) (gets : List Given) → (carried : Carries first tuples value) → Collected first gets → Within (length tuples) gets → FindsThere tuples gets → slice_get carried.configs (newest_of first gets).generation ≡ Some (newest_of first gets).config
newest_listed first tuples value gets carried collected within finds =
    newest_among (λ best. slice_get carried.configs best.generation ≡ Some best.config) (record { generation = 0; config = first }) (replies gets)
    carried.begins
    (replies_are (ListedIn carried.configs) tuples gets collected.reads within finds carried.each_listed)

-- the newest was not passed on: a copy that replied would have a greater generation
not_passed : (first : Voting) (tuples : List Tuple) (value : Datum) (gets : List Given) → (carried : Carries first tuples value) → Collected first gets → Within (length tuples) gets → FindsThere tuples gets → (newest_of first gets).generation + 1 < length carried.configs → ⊥
not_passed first tuples value gets carried collected within finds earlier =
    let best = newest_of first gets in
    let at = newest_listed first tuples value gets carried collected within finds in
    let beyond = λ (t : Tuple). nat_lt best.generation t.generation in
    let passed : holds_write best.config (map beyond tuples) ≡ true = subst (λ g. holds_write g (map beyond tuples) ≡ true) (config_at carried.configs best.generation best.config at) (carried.passed_on best.generation earlier) in
    let both = quorums_meet best.config (marks_of gets) (map beyond tuples) (legal_at carried.configs best.generation best.config carried.legal at) collected.enough passed in
    let newer = marked beyond tuples no_tuple both.copy both.right in
    let above = ltb-true best.generation (tuple_at tuples both.copy).generation newer.passes in
    let below = replied_is (UpTo best.generation) tuples gets both.copy collected.reads finds (newest_above (record { generation = 0; config = first }) (replies gets)) (marked_given gets both.copy both.left) in
    omega (arith, above, below)

-- the value and the greatest version, where the configuration is the newest
record Found (tuples : List Tuple) (value : Datum) (gets : List Given) : Type 0 where
  version : (greatest_of gets).version ≡ greatest_version tuples
  value_is : (greatest_of gets).value ≡ value

found : (first : Voting) (tuples : List Tuple) (value : Datum) (gets : List Given) → (carried : Carries first tuples value) → Collected first gets → Within (length tuples) gets → FindsThere tuples gets → IsLegal (newest_of first gets).config → (newest_of first gets).config ≡ carried.newest → Found tuples value gets
found first tuples value gets carried collected within finds legal newest = record { version = version; value_is = best.1 version }
  where
    now : Voting
    now = (newest_of first gets).config

    top : ℕ
    top = greatest_version tuples

    has_top : Tuple → Bool
    has_top t = t.version == top

    held : holds_write now (map has_top tuples) ≡ true
    held = subst (λ g. holds_write g (map has_top tuples) ≡ true) (sym newest) carried.version_held

    both : Shared (marks_of gets) (map has_top tuples)
    both = quorums_meet now (marks_of gets) (map has_top tuples) legal collected.enough held

    given : has_given gets both.copy ≡ true
    given = marked_given gets both.copy both.left

    Good : Greatest → Type 0
    Good g = (g.version ≤ top) × (g.version ≡ top → g.value ≡ value)

    best : Good (greatest_of gets)
    best = greatest_one Good (replies gets) (some_given gets both.copy given) (replies_are (λ (t : Tuple). Good (record { version = t.version; value = t.value })) tuples gets collected.reads within finds (carried_fit first tuples value carried))

    version : (greatest_of gets).version ≡ top
    version =
        let low = replied_is (VersionUpTo (greatest_of gets).version) tuples gets both.copy collected.reads finds (greatest_above (replies gets)) given in
        let here = eqb-true (tuple_at tuples both.copy).version top (marked has_top tuples no_tuple both.copy both.right).passes in
        let high = best.0 in
        omega (arith, low, here, high)

pub sees : (first : Voting) (tuples : List Tuple) (value : Datum) (gets : List Given) → (carried : Carries first tuples value) → Collected first gets → Within (length tuples) gets → FindsThere tuples gets → Seen first tuples value gets carried
sees first tuples value gets carried collected within finds = record {
  place = place;
  newest = newest;
  at = at;
  legal = legal;
  version = seen.version;
  value_is = seen.value_is;
}
  where
    best : Newest
    best = newest_of first gets

    at : slice_get carried.configs best.generation ≡ Some best.config
    at = newest_listed first tuples value gets carried collected within finds

    legal : IsLegal best.config
    legal = legal_at carried.configs best.generation best.config carried.legal at

    place : best.generation + 1 ≡ length carried.configs
    place = elim (cases_lt (best.generation + 1) (length carried.configs)) [
      | inl earlier ↦ absurd (not_passed first tuples value gets carried collected within finds earlier)
      | inr last ↦ let inside = slice_get_within carried.configs best.generation best.config at in omega (arith, last, inside)
    ]

    newest : best.config ≡ carried.newest
    newest = let e = sym at ∙ sym (last_at None carried.configs best.generation place) ∙ carried.ends in cc

    seen : Found tuples value gets
    seen = found first tuples value gets carried collected within finds legal newest
