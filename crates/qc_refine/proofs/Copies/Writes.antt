-- A complete read finds the value and changes nothing; after a complete write the copies carry what it wrote.
use Rattle.std.proofs.Common.{◌≡◌, ℕ, ◌+◌, ◌<◌, ◌≤◌, ◌==◌, Bool, true, false, List, ◌++◌, length, refl, sym, ap, ◌∙◌, subst, inl, inr, arith, get_or, map}
use Rattle.std.specs.Prelude.{slice_get, nat_lt, Some}
use Rattle.std.proofs.lemmas.Bool.{cases_Bool, ltb-true, lt-ltb, eq-eqb}
use Rattle.std.proofs.lemmas.List.Elements.{All-get_or, All-from_get_or}
use Rattle.std.proofs.lemmas.List.Sums.{fold-append}
use Rattle.qc_config.specs.Config.{Voting, IsLegal, holds_write, no_config}
use Rattle.qc_config.specs.Copies.{has}
use Rattle.qc_config.specs.Val.{Datum}
use Rattle.qc_config.specs.declared.tuple.Op.{Op}
use Rattle.qc_config.specs.declared.tuple.Op.TheVariants.{PutData}
use Rattle.qc_config.specs.declared.tuple.Tuple.{Tuple}
use Rattle.qc_event.specs.Base.{no_tuple}
use Rattle.qc_event.specs.History.{Given}
use Rattle.qc_event.specs.Sound.{Carries, HasValue, IsPassedOn, greatest_version}
use Rattle.qc_refine.specs.Completed.{FindsThere, Within, has_given, marks_of, newest_of, greatest_of, Collected, Stored, ReadDone, WriteDone, tuple_at, after_one, after_all}
use Rattle.qc_refine.proofs.Copies.Meet.{writer_holds, more_writes, marked, marks}
use Rattle.qc_refine.proofs.Copies.Grants.{marked_given, given_within, reads_keep, finds_front, front_within, back_within, Changed, puts_change, field_stays}
use Rattle.qc_refine.proofs.Copies.Folds.{version_bounds, version_is}
use Rattle.qc_refine.proofs.Copies.Collections.{Seen, sees}

pub read_answers : (first : Voting) (tuples : List Tuple) (value answer : Datum) (gs : List Given) → Carries first tuples value → Within (length tuples) gs → FindsThere tuples gs → ReadDone first answer gs → answer ≡ value
read_answers first tuples value answer gs carried within finds done = done.answered ∙ (sees first tuples value gs carried done.collected within finds).value_is

pub read_leaves : (first : Voting) (tuples : List Tuple) (answer : Datum) (gs : List Given) → ReadDone first answer gs → after_all tuples gs ≡ tuples
read_leaves first tuples answer gs done = reads_keep tuples gs done.collected.reads

-- a configuration stays passed on where no generation that was greater falls back
pub still_passed : (tuples later : List Tuple) (configs : List Voting) (g : ℕ) → length later ≡ length tuples → ((c : ℕ) → c < length tuples → g < (tuple_at tuples c).generation → g < (tuple_at later c).generation) → IsPassedOn tuples configs g → IsPassedOn later configs g
still_passed tuples later configs g same keeps passed = more_writes (get_or configs g no_config) (map beyond tuples) (map beyond later) passed stay
  where
    beyond : Tuple → Bool
    beyond t = nat_lt g t.generation

    stay : (c : ℕ) → has (map beyond tuples) c ≡ true → has (map beyond later) c ≡ true
    stay c h =
        let was = marked beyond tuples no_tuple c h in
        let within = was.within in
        let above = keeps c within (ltb-true g (tuple_at tuples c).generation was.passes) in
        marks beyond later no_tuple c (omega (arith, within, same)) (lt-ltb g (tuple_at later c).generation above)

-- the copies that a put reached hold a write quorum with the version that it put
pub put_holds : (config : Voting) (puts : List Given) (tuples later : List Tuple) (n : ℕ) → length later ≡ length tuples → Within (length tuples) puts → holds_write config (marks_of puts) ≡ true → ((c : ℕ) → c < length tuples → has_given puts c ≡ true → (tuple_at later c).version ≡ n) → holds_write config (map (λ (t : Tuple). t.version == n) later) ≡ true
put_holds config puts tuples later n same within enough is = more_writes config (marks_of puts) (map has_it later) enough stay
  where
    has_it : Tuple → Bool
    has_it t = t.version == n

    stay : (c : ℕ) → has (marks_of puts) c ≡ true → has (map has_it later) c ≡ true
    stay c h =
        let given = marked_given puts c h in
        let lt = given_within puts (length tuples) c within given in
        marks has_it later no_tuple c (omega (arith, lt, same)) (eq-eqb (tuple_at later c).version n (is c lt given))

-- a put of a version that no copy is above makes it the greatest
pub put_greatest : (config : Voting) (puts : List Given) (tuples later : List Tuple) (n : ℕ) → IsLegal config → length later ≡ length tuples → Within (length tuples) puts → holds_write config (marks_of puts) ≡ true → ((c : ℕ) → c < length tuples → has_given puts c ≡ true → (tuple_at later c).version ≡ n) → ((c : ℕ) → c < length tuples → (tuple_at later c).version ≤ n) → greatest_version later ≡ n
put_greatest config puts tuples later n legal same within enough is most =
    let one = writer_holds config (marks_of puts) legal enough in
    let given = marked_given puts one.copy one.here in
    let lt = given_within puts (length tuples) one.copy within given in
    version_is later n one.copy (λ k below. most k (omega (arith, below, same))) (omega (arith, lt, same)) (is one.copy lt given)

-- puts of the newest version at a write quorum of the newest configuration
put_carries : (first : Voting) (tuples later : List Tuple) (value new : Datum) (gets puts : List Given) → (carried : Carries first tuples value) → Seen first tuples value gets carried → Within (length tuples) puts → Stored (newest_of first gets).config (PutData ((greatest_of gets).version + 1) new) puts → Changed (PutData ((greatest_of gets).version + 1) new) puts tuples later → Carries first later new
put_carries first tuples later value new gets puts carried seen within stored changed = record {
  configs = carried.configs;
  newest = carried.newest;
  begins = carried.begins;
  ends = carried.ends;
  legal = carried.legal;
  each_listed = All-from_get_or (λ (t : Tuple). slice_get carried.configs t.generation ≡ Some t.config) later no_tuple (λ c lt. listed c (omega (arith, lt, same)));
  passed_on = λ g earlier. still_passed tuples later carried.configs g same (λ c lt above. let e = generation c lt in omega (arith, above, e)) (carried.passed_on g earlier);
  version_held = subst (λ n. holds_write carried.newest (map (λ (t : Tuple). t.version == n) later) ≡ true) (sym greatest_is) (subst (λ g. holds_write g (map (λ (t : Tuple). t.version == now) later) ≡ true) seen.newest held);
  values = All-from_get_or (HasValue (greatest_version later) new) later no_tuple (λ c lt is. told c (omega (arith, lt, same)) (is ∙ greatest_is));
}
  where
    now : ℕ
    now = (greatest_of gets).version + 1

    op : Op
    op = PutData now new

    same : length later ≡ length tuples
    same = changed.same_length

    generation : (c : ℕ) → c < length tuples → (tuple_at later c).generation ≡ (tuple_at tuples c).generation
    generation c lt = field_stays (λ t. t.generation) op puts tuples later changed (λ t. refl) c lt

    listed : (c : ℕ) → c < length tuples → slice_get carried.configs (tuple_at later c).generation ≡ Some (tuple_at later c).config
    listed c lt =
        ap (slice_get carried.configs) (generation c lt)
        ∙ All-get_or (λ (t : Tuple). slice_get carried.configs t.generation ≡ Some t.config) tuples c no_tuple lt carried.each_listed
        ∙ ap (λ g. Some g) (sym (field_stays (λ t. t.config) op puts tuples later changed (λ t. refl) c lt))

    put : (c : ℕ) → c < length tuples → has_given puts c ≡ true → (tuple_at later c).version ≡ now
    put c lt h = ap (λ (t : Tuple). t.version) (changed.inside c lt h)

    low : (c : ℕ) → c < length tuples → has_given puts c ≡ false → (tuple_at later c).version < now
    low c lt none =
        let e = ap (λ (t : Tuple). t.version) (changed.outside c none) in
        let b = version_bounds tuples c lt in
        let v = seen.version in
        omega (arith, e, b, v)

    most : (c : ℕ) → c < length tuples → (tuple_at later c).version ≤ now
    most c lt = elim (cases_Bool (has_given puts c)) [
      | inl h ↦ let e = put c lt h in omega (arith, e)
      | inr none ↦ let e = low c lt none in omega (arith, e)
    ]

    held : holds_write (newest_of first gets).config (map (λ (t : Tuple). t.version == now) later) ≡ true
    held = put_holds (newest_of first gets).config puts tuples later now same within stored.enough put

    greatest_is : greatest_version later ≡ now
    greatest_is = put_greatest (newest_of first gets).config puts tuples later now seen.legal same within stored.enough put most

    told : (c : ℕ) → c < length tuples → (tuple_at later c).version ≡ now → (tuple_at later c).value ≡ new
    told c lt is = elim (cases_Bool (has_given puts c)) [
      | inl h ↦ ap (λ (t : Tuple). t.value) (changed.inside c lt h)
      | inr none ↦ let e = low c lt none in absurd (omega (arith, e, is))
    ]

-- what is left after a collection and what follows it
pub collected_first : (first : Voting) (tuples : List Tuple) (gets rest : List Given) → Collected first gets → after_all tuples (gets ++ rest) ≡ after_all tuples rest
collected_first first tuples gets rest collected = fold-append after_one tuples gets rest ∙ ap (λ ts. after_all ts rest) (reads_keep tuples gets collected.reads)

-- what a collection saw that others follow
pub sees_first : (first : Voting) (tuples : List Tuple) (value : Datum) (gets rest : List Given) → (carried : Carries first tuples value) → Collected first gets → Within (length tuples) (gets ++ rest) → FindsThere tuples (gets ++ rest) → Seen first tuples value gets carried
sees_first first tuples value gets rest carried collected within finds =
    sees first tuples value gets carried collected (front_within (length tuples) gets rest within) (finds_front tuples gets rest finds)

pub write_carries : (first : Voting) (tuples : List Tuple) (value new : Datum) (gs : List Given) → Carries first tuples value → Within (length tuples) gs → FindsThere tuples gs → WriteDone first new gs → Carries first (after_all tuples gs) new
write_carries first tuples value new gs carried within finds done =
    let inside = subst (Within (length tuples)) done.parts within in
    let there = subst (FindsThere tuples) done.parts finds in
    let seen = sees_first first tuples value done.gets done.puts carried done.collected inside there in
    let changed = puts_change (PutData ((greatest_of done.gets).version + 1) new) done.puts tuples (λ t. refl) done.stored.stores in
    let left = ap (after_all tuples) done.parts ∙ collected_first first tuples done.gets done.puts done.collected in
    subst (λ later. Carries first later new) (sym left)
    (put_carries first tuples (after_all tuples done.puts) value new done.gets done.puts carried seen (back_within (length tuples) done.gets done.puts inside) done.stored changed)
