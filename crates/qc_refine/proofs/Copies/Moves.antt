-- After a complete reconfiguration the copies carry the same value, with its configuration as the newest.
use Rattle.std.proofs.Common.{◌≡◌, ℕ, ◌+◌, ◌<◌, ◌≤◌, ◌==◌, Bool, true, false, List, [], ◌∷◌, ◌++◌, length, refl, sym, ap, ◌∙◌, subst, inl, inr, arith, get_or, map}
use Rattle.std.specs.Prelude.{All, slice_get, nat_lt, None, Some}
use Rattle.std.proofs.lemmas.Bool.{cases_Bool, cases_lt, lt-ltb, eqb-true, eq-eqb}
use Rattle.std.proofs.lemmas.List.{length-append, get_or_append_left}
use Rattle.std.proofs.lemmas.List.Elements.{All-get_or, All-from_get_or, All-push}
use Rattle.std.proofs.lemmas.List.Sums.{fold-append}
use Rattle.qc_config.specs.Config.{Voting, IsLegal, holds_write, no_config}
use Rattle.qc_config.specs.Copies as copies
use Rattle.qc_config.specs.Val.{Datum}
use Rattle.qc_config.specs.declared.tuple.Op.{Op}
use Rattle.qc_config.specs.declared.tuple.Op.TheVariants.{PutData, PutConfig}
use Rattle.qc_config.specs.declared.tuple.Tuple.{Tuple}
use Rattle.qc_event.specs.Base.{no_tuple}
use Rattle.qc_event.specs.History.{Given}
use Rattle.qc_event.specs.Sound.{Carries, HasValue, IsPassedOn, greatest_version}
use Rattle.qc_event.proofs.Lists.{get_first, get_last, last_push}
use Rattle.qc_refine.specs.Completed.{FindsThere, Within, has_given, marks_of, newest_of, greatest_of, Stored, MoveDone, CarriesMore, tuple_at, after_one, after_all}
use Rattle.qc_refine.proofs.Copies.Meet.{writer_holds, more_writes, marked, marks}
use Rattle.qc_refine.proofs.Copies.Grants.{marked_given, given_within, back_within, front_within, Changed, puts_change, field_stays}
use Rattle.qc_refine.proofs.Copies.Folds.{version_bounds, version_is}
use Rattle.qc_refine.proofs.Copies.Configs.{config_at}
use Rattle.qc_refine.proofs.Copies.Collections.{Seen}
use Rattle.qc_refine.proofs.Copies.Writes.{still_passed, put_holds, put_greatest, collected_first, sees_first}

-- PUTS OF THE VALUE

-- what puts of the newest version and its value leave
record Copied (config : Voting) (tuples middle : List Tuple) (value : Datum) : Type 0 where
  same_length : length middle ≡ length tuples
  greatest_is : greatest_version middle ≡ greatest_version tuples
  held : holds_write config (map (λ (t : Tuple). t.version == greatest_version middle) middle) ≡ true
  values : All (HasValue (greatest_version middle) value) middle
  generation : (c : ℕ) → c < length tuples → (tuple_at middle c).generation ≡ (tuple_at tuples c).generation
  listed : (configs : List Voting) (c : ℕ) → c < length tuples → slice_get configs (tuple_at tuples c).generation ≡ Some (tuple_at tuples c).config → slice_get configs (tuple_at middle c).generation ≡ Some (tuple_at middle c).config

copied : (first config : Voting) (tuples middle : List Tuple) (value : Datum) (gets puts : List Given) → (carried : Carries first tuples value) → Seen first tuples value gets carried → IsLegal config → Within (length tuples) puts → Stored config (PutData (greatest_of gets).version (greatest_of gets).value) puts → Changed (PutData (greatest_of gets).version (greatest_of gets).value) puts tuples middle → Copied config tuples middle value
copied first config tuples middle value gets puts carried seen legal within stored changed = record {
  same_length = changed.same_length;
  greatest_is = greatest_is ∙ seen.version;
  held = subst (λ n. holds_write config (map (λ (t : Tuple). t.version == n) middle) ≡ true) (sym greatest_is) (put_holds config puts tuples middle now changed.same_length within stored.enough put);
  values = All-from_get_or (HasValue (greatest_version middle) value) middle no_tuple (λ c lt is. told c (let e = changed.same_length in omega (arith, lt, e)) (is ∙ greatest_is));
  generation = generation;
  listed = λ configs c lt was. ap (slice_get configs) (generation c lt) ∙ was ∙ ap (λ g. Some g) (sym (field_stays (λ t. t.config) op puts tuples middle changed (λ t. refl) c lt));
}
  where
    now : ℕ
    now = (greatest_of gets).version

    op : Op
    op = PutData now (greatest_of gets).value

    generation : (c : ℕ) → c < length tuples → (tuple_at middle c).generation ≡ (tuple_at tuples c).generation
    generation c lt = field_stays (λ t. t.generation) op puts tuples middle changed (λ t. refl) c lt

    put : (c : ℕ) → c < length tuples → has_given puts c ≡ true → (tuple_at middle c).version ≡ now
    put c lt h = ap (λ (t : Tuple). t.version) (changed.inside c lt h)

    most : (c : ℕ) → c < length tuples → (tuple_at middle c).version ≤ now
    most c lt = elim (cases_Bool (has_given puts c)) [
      | inl h ↦ let e = put c lt h in omega (arith, e)
      | inr none ↦
          let e = ap (λ (t : Tuple). t.version) (changed.outside c none) in
          let b = version_bounds tuples c lt in
          let v = seen.version in
          omega (arith, e, b, v)
    ]

    greatest_is : greatest_version middle ≡ now
    greatest_is = put_greatest config puts tuples middle now legal changed.same_length within stored.enough put most

    told : (c : ℕ) → c < length tuples → (tuple_at middle c).version ≡ now → (tuple_at middle c).value ≡ value
    told c lt is = elim (cases_Bool (has_given puts c)) [
      | inl h ↦ ap (λ (t : Tuple). t.value) (changed.inside c lt h) ∙ seen.value_is
      | inr none ↦
          ap (λ (t : Tuple). t.value) (changed.outside c none)
          ∙ All-get_or (HasValue (greatest_version tuples) value) tuples c no_tuple lt carried.values (sym (ap (λ (t : Tuple). t.version) (changed.outside c none)) ∙ is ∙ seen.version)
    ]

-- PUTS OF THE CONFIGURATION

-- what these keep of the versions and values
record Kept (config : Voting) (value : Datum) (later : List Tuple) : Type 0 where
  held : holds_write config (map (λ (t : Tuple). t.version == greatest_version later) later) ≡ true
  values : All (HasValue (greatest_version later) value) later

kept : (config : Voting) (value : Datum) (middle later : List Tuple) → IsLegal config → length later ≡ length middle → ((c : ℕ) → c < length middle → (tuple_at later c).version ≡ (tuple_at middle c).version) → ((c : ℕ) → c < length middle → (tuple_at later c).value ≡ (tuple_at middle c).value) → holds_write config (map (λ (t : Tuple). t.version == greatest_version middle) middle) ≡ true → All (HasValue (greatest_version middle) value) middle → Kept config value later
kept config value middle later legal same versions values held has = record {
  held = subst (λ n. holds_write config (map (λ (t : Tuple). t.version == n) later) ≡ true) (sym greatest_is) (more_writes config (map has_top middle) (map has_top later) held stay);
  values = All-from_get_or (HasValue (greatest_version later) value) later no_tuple (λ c lt is. told c (omega (arith, lt, same)) (is ∙ greatest_is));
}
  where
    top : ℕ
    top = greatest_version middle

    has_top : Tuple → Bool
    has_top t = t.version == top

    stay : (c : ℕ) → copies.has (map has_top middle) c ≡ true → copies.has (map has_top later) c ≡ true
    stay c h =
        let was = marked has_top middle no_tuple c h in
        let lt = was.within in
        marks has_top later no_tuple c (omega (arith, lt, same)) (eq-eqb (tuple_at later c).version top (versions c lt ∙ eqb-true (tuple_at middle c).version top was.passes))

    greatest_is : greatest_version later ≡ top
    greatest_is =
        let one = writer_holds config (map has_top middle) legal held in
        let was = marked has_top middle no_tuple one.copy one.here in
        let lt = was.within in
        version_is later top one.copy
        (λ k below. let short = same in let inside : k < length middle = omega (arith, below, short) in let e = versions k inside in let b = version_bounds middle k inside in omega (arith, e, b))
        (omega (arith, lt, same))
        (versions one.copy lt ∙ eqb-true (tuple_at middle one.copy).version top was.passes)

    told : (c : ℕ) → c < length middle → (tuple_at later c).version ≡ top → (tuple_at later c).value ≡ value
    told c lt is = values c lt ∙ All-get_or (HasValue top value) middle c no_tuple lt has (sym (versions c lt) ∙ is)

-- puts of a configuration with the next generation at a write quorum of the newest one
move_on : (first config : Voting) (tuples middle later : List Tuple) (value : Datum) (gets moves : List Given) → (carried : Carries first tuples value) → Seen first tuples value gets carried → IsLegal config → Copied config tuples middle value → Within (length tuples) moves → Stored (newest_of first gets).config (PutConfig ((newest_of first gets).generation + 1) config) moves → Changed (PutConfig ((newest_of first gets).generation + 1) config) moves middle later → CarriesMore config later carried
move_on first config tuples middle later value gets moves carried seen legal copy within stored changed = (
  record {
    configs = configs;
    newest = config;
    begins = get_first carried.configs (config ∷ []) 0 first carried.begins;
    ends = last_push None carried.configs config;
    legal = All-push IsLegal carried.configs config carried.legal legal;
    each_listed = All-from_get_or (λ (t : Tuple). slice_get configs t.generation ≡ Some t.config) later no_tuple (λ c lt. listed c (omega (arith, lt, same)));
    passed_on = passed;
    version_held = rest.held;
    values = rest.values;
  },
  refl,
)
  where
    configs : List Voting
    configs = carried.configs ++ config ∷ []

    next : ℕ
    next = (newest_of first gets).generation + 1

    op : Op
    op = PutConfig next config

    same : length later ≡ length tuples
    same = changed.same_length ∙ copy.same_length

    longer : (c : ℕ) → c < length tuples → c < length middle
    longer c lt = let e = copy.same_length in omega (arith, lt, e)

    shorter : (c : ℕ) → c < length middle → c < length tuples
    shorter c lt = let e = copy.same_length in omega (arith, lt, e)

    rest : Kept config value later
    rest =
        kept config value middle later legal changed.same_length
        (λ c lt. field_stays (λ t. t.version) op moves middle later changed (λ t. refl) c lt)
        (λ c lt. field_stays (λ t. t.value) op moves middle later changed (λ t. refl) c lt)
        copy.held copy.values

    was_listed : (c : ℕ) → c < length tuples → slice_get carried.configs (tuple_at tuples c).generation ≡ Some (tuple_at tuples c).config
    was_listed c lt = All-get_or (λ (t : Tuple). slice_get carried.configs t.generation ≡ Some t.config) tuples c no_tuple lt carried.each_listed

    moved : (c : ℕ) → c < length tuples → has_given moves c ≡ true → (tuple_at later c).generation ≡ length carried.configs
    moved c lt h = ap (λ (t : Tuple). t.generation) (changed.inside c (longer c lt) h) ∙ seen.place

    stayed : (c : ℕ) → c < length tuples → has_given moves c ≡ false → (tuple_at later c).generation ≡ (tuple_at tuples c).generation
    stayed c lt none = ap (λ (t : Tuple). t.generation) (changed.outside c none) ∙ copy.generation c lt

    listed : (c : ℕ) → c < length tuples → slice_get configs (tuple_at later c).generation ≡ Some (tuple_at later c).config
    listed c lt = elim (cases_Bool (has_given moves c)) [
      | inl h ↦
          ap (slice_get configs) (moved c lt h)
          ∙ get_last carried.configs config (length carried.configs) refl
          ∙ ap (λ g. Some g) (sym (ap (λ (t : Tuple). t.config) (changed.inside c (longer c lt) h)))
      | inr none ↦
          subst (λ (t : Tuple). slice_get configs t.generation ≡ Some t.config) (sym (changed.outside c none))
          (get_first carried.configs (config ∷ []) (tuple_at middle c).generation (tuple_at middle c).config (copy.listed carried.configs c lt (was_listed c lt)))
    ]

    grows : (c : ℕ) → c < length tuples → (g : ℕ) → g < length carried.configs → g < (tuple_at tuples c).generation → g < (tuple_at later c).generation
    grows c lt g inside above = elim (cases_Bool (has_given moves c)) [
      | inl h ↦ let e = moved c lt h in omega (arith, e, inside)
      | inr none ↦ let e = stayed c lt none in omega (arith, e, above)
    ]

    old_config : (g : ℕ) → g < length carried.configs → get_or configs g no_config ≡ get_or carried.configs g no_config
    old_config g inside = get_or_append_left carried.configs (config ∷ []) no_config g inside

    newest_passed : (g : ℕ) → g ≡ (newest_of first gets).generation → IsPassedOn later carried.configs g
    newest_passed g is =
        let now : get_or carried.configs g no_config ≡ (newest_of first gets).config = ap (λ k. get_or carried.configs k no_config) is ∙ config_at carried.configs (newest_of first gets).generation (newest_of first gets).config seen.at in
        let beyond = λ (t : Tuple). nat_lt g t.generation in
        subst (λ x. holds_write x (map beyond later) ≡ true) (sym now)
        (more_writes (newest_of first gets).config (marks_of moves) (map beyond later) stored.enough (λ c h.
        let given = marked_given moves c h in
        let lt = given_within moves (length tuples) c within given in
        let e = moved c lt given in
        let place = seen.place in
        marks beyond later no_tuple c (omega (arith, lt, same)) (lt-ltb g (tuple_at later c).generation (omega (arith, e, place, is)))))

    passed : (g : ℕ) → g + 1 < length configs → IsPassedOn later configs g
    passed g earlier =
        let long : length configs ≡ length carried.configs + 1 = length-append carried.configs (config ∷ []) in
        let inside : g < length carried.configs = omega (arith, earlier, long) in
        subst (λ x. holds_write x (map (λ (t : Tuple). nat_lt g t.generation) later) ≡ true) (sym (old_config g inside))
        (elim (cases_lt (g + 1) (length carried.configs)) [
          | inl before ↦ still_passed tuples later carried.configs g same (λ c lt above. grows c lt g inside above) (carried.passed_on g before)
          | inr last ↦ newest_passed g (let place = seen.place in omega (arith, last, inside, place))
        ])

pub move_carries : (first config : Voting) (tuples : List Tuple) (value : Datum) (answer : ℕ) (gs : List Given) → (carried : Carries first tuples value) → Within (length tuples) gs → FindsThere tuples gs → MoveDone first config answer gs → CarriesMore config (after_all tuples gs) carried
move_carries first config tuples value answer gs carried within finds done =
    subst (λ later. CarriesMore config later carried) (sym left)
    (move_on first config tuples middle (after_all middle done.moves) value done.gets done.moves carried seen done.legal copy
    (back_within (length tuples) done.puts done.moves puts_within) done.moved
    (puts_change (PutConfig ((newest_of first done.gets).generation + 1) config) done.moves middle (λ t. refl) done.moved.stores))
  where
    middle : List Tuple
    middle = after_all tuples done.puts

    inside : Within (length tuples) (done.gets ++ (done.puts ++ done.moves))
    inside = subst (Within (length tuples)) done.parts within

    seen : Seen first tuples value done.gets carried
    seen = sees_first first tuples value done.gets (done.puts ++ done.moves) carried done.collected inside (subst (FindsThere tuples) done.parts finds)

    puts_within : Within (length tuples) (done.puts ++ done.moves)
    puts_within = back_within (length tuples) done.gets (done.puts ++ done.moves) inside

    copy : Copied config tuples middle value
    copy =
        copied first config tuples middle value done.gets done.puts carried seen done.legal (front_within (length tuples) done.puts done.moves puts_within) done.stored
        (puts_change (PutData (greatest_of done.gets).version (greatest_of done.gets).value) done.puts tuples (λ t. refl) done.stored.stores)

    left : after_all tuples gs ≡ after_all middle done.moves
    left =
        ap (after_all tuples) done.parts
        ∙ collected_first first tuples done.gets (done.puts ++ done.moves) done.collected
        ∙ fold-append after_one tuples done.puts done.moves
