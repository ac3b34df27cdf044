-- After a complete manager no tuple of its record that ever was is above the copies, and those at their version have the value.
use Rattle.std.proofs.Common.{◌≡◌, ℕ, ◌+◌, ◌<◌, ◌==◌, true, List, ◌++◌, length, refl, sym, ap, ◌∙◌, subst, arith, map}
use Rattle.std.specs.Prelude.{All}
use Rattle.std.proofs.lemmas.Bool.{eqb-true}
use Rattle.std.proofs.lemmas.List.Elements.{All-append, All-get_or, All-weaker}
use Rattle.qc_config.specs.Config.{Voting}
use Rattle.qc_config.specs.Val.{Datum}
use Rattle.qc_config.specs.declared.tuple.Op.{Op}
use Rattle.qc_config.specs.declared.tuple.Op.TheVariants.{Get, PutData}
use Rattle.qc_config.specs.declared.tuple.Tuple.{Tuple}
use Rattle.qc_event.specs.Base.{no_tuple}
use Rattle.qc_event.specs.History.{Given}
use Rattle.qc_event.specs.Sound.{Carries, greatest_version}
use Rattle.qc_refine.specs.Completed.{FindsThere, Within, has_given, marks_of, Each, newest_of, greatest_of, ReadDone, WriteDone, MoveDone, tuple_at, after_all}
use Rattle.qc_refine.proofs.Copies.Collections.{Seen}
use Rattle.qc_refine.proofs.Copies.Fits.{Fits, Suits, get_suits, put_suits, move_suits, AllSuit, given_fit, left_fit, copy_stays, carried_fit}
use Rattle.qc_refine.proofs.Copies.Folds.{version_is}
use Rattle.qc_refine.proofs.Copies.Grants.{marked_given, given_within, back_within, puts_change}
use Rattle.qc_refine.proofs.Order.Grounded.{legal_last}
use Rattle.qc_refine.proofs.Copies.Meet.{Held, writer_holds, marked}
use Rattle.qc_refine.proofs.Copies.Writes.{collected_first, sees_first}

-- a copy at the greatest version
pub record Top (tuples : List Tuple) : Type 0 where
  pub copy : ℕ
  pub within : copy < length tuples
  pub is : (tuple_at tuples copy).version ≡ greatest_version tuples

pub top_copy : (first : Voting) (tuples : List Tuple) (value : Datum) → Carries first tuples value → Top tuples
top_copy first tuples value carried =
    let has_top = λ (t : Tuple). t.version == greatest_version tuples in
    let one = writer_holds carried.newest (map has_top tuples) (legal_last carried.configs carried.newest carried.legal carried.ends) carried.version_held in
    let was = marked has_top tuples no_tuple one.copy one.here in
    record { copy = one.copy; within = was.within; is = eqb-true (tuple_at tuples one.copy).version (greatest_version tuples) was.passes }

-- What fits the copies before grants fits them after, and so does each tuple that was granted.
pub record Grown (tuples : List Tuple) (gs : List Given) (value new : Datum) : Type 0 where
  pub older : (t : Tuple) → Fits (greatest_version tuples) value t → Fits (greatest_version (after_all tuples gs)) new t
  pub given : All (λ (g : Given). Fits (greatest_version (after_all tuples gs)) new g.grant.tuple) gs

-- it does where each operation suits a version that a copy then has
grown_to : (tuples : List Tuple) (gs : List Given) (value new : Datum) (n c : ℕ) → Within (length tuples) gs → FindsThere tuples gs → All (Fits (greatest_version tuples) value) tuples → ((t : Tuple) → Fits (greatest_version tuples) value t → Fits n new t) → AllSuit n new gs → c < length (after_all tuples gs) → (tuple_at (after_all tuples gs) c).version ≡ n → Grown tuples gs value new
grown_to tuples gs value new n c within finds all older suits there at = record {
  older = λ t fit. subst (λ v. Fits v new t) (sym greatest_is) (older t fit);
  given = subst (λ v. All (λ (g : Given). Fits v new g.grant.tuple) gs) (sym greatest_is) (given_fit n new tuples gs within finds suits before);
}
  where
    before : All (Fits n new) tuples
    before = All-weaker (Fits (greatest_version tuples) value) (Fits n new) older tuples all

    greatest_is : greatest_version (after_all tuples gs) ≡ n
    greatest_is =
        version_is (after_all tuples gs) n c
        (λ k lt. (All-get_or (Fits n new) (after_all tuples gs) k no_tuple lt (left_fit n new tuples gs within suits before)).0)
        there at

-- grants of one operation that suits
each_suits : (version : ℕ) (value : Datum) (op : Op) (gs : List Given) → Suits version value op → Each op gs → AllSuit version value gs
each_suits version value op gs suits each =
    All-weaker (λ (g : Given). g.grant.op ≡ op) (λ (g : Given). Suits version value g.grant.op) (λ g is. subst (Suits version value) (sym is) suits) gs each

abbrev SuitsOne : ℕ → Datum → Given → Type 0
SuitsOne version value g = Suits version value g.grant.op

module _ (first : Voting) (tuples : List Tuple) (value : Datum) (gs : List Given) (carried : Carries first tuples value) (within : Within (length tuples) gs) (finds : FindsThere tuples gs) where
  abbrev top : ℕ
  top = greatest_version tuples

  -- where each operation suits what is there
  level : AllSuit top value gs → length (after_all tuples gs) ≡ length tuples → Grown tuples gs value value
  level suits same =
      let one = top_copy first tuples value carried in
      grown_to tuples gs value value top one.copy within finds (carried_fit first tuples value carried) (λ t fit. fit) suits
      (let lt = one.within in omega (arith, lt, same))
      (copy_stays top value tuples gs one.copy one.within suits one.is)

  pub read_grown : (answer : Datum) → ReadDone first answer gs → length (after_all tuples gs) ≡ length tuples → Grown tuples gs value value
  read_grown answer done same = level (each_suits top value Get gs (get_suits top value) done.collected.reads) same

  pub move_grown : (config : Voting) (answer : ℕ) → MoveDone first config answer gs → length (after_all tuples gs) ≡ length tuples → Grown tuples gs value value
  move_grown config answer done same = level (subst (AllSuit top value) (sym done.parts) (
      All-append (SuitsOne top value) done.gets (done.puts ++ done.moves)
      (each_suits top value Get done.gets (get_suits top value) done.collected.reads)
      (All-append (SuitsOne top value) done.puts done.moves
      (each_suits top value _ done.puts (subst (Suits top value) (sym put_is) (put_suits top value)) done.stored.stores)
      (each_suits top value _ done.moves (move_suits top value _ config) done.moved.stores))
      )) same
    where
      seen : Seen first tuples value done.gets carried
      seen = sees_first first tuples value done.gets (done.puts ++ done.moves) carried done.collected (subst (Within (length tuples)) done.parts within) (subst (FindsThere tuples) done.parts finds)

      put_is : PutData (greatest_of done.gets).version (greatest_of done.gets).value ≡ PutData top value
      put_is = ap (λ n. PutData n (greatest_of done.gets).value) seen.version ∙ ap (λ v. PutData top v) seen.value_is

  pub write_grown : (new : Datum) → WriteDone first new gs → length (after_all tuples gs) ≡ length tuples → Grown tuples gs value new
  write_grown new done same =
      grown_to tuples gs value new now one.copy within finds (carried_fit first tuples value carried) older
      (subst (AllSuit now new) (sym done.parts) (
      All-append (SuitsOne now new) done.gets done.puts
      (each_suits now new Get done.gets (get_suits now new) done.collected.reads)
      (each_suits now new _ done.puts (put_suits now new) done.stored.stores)
      ))
      (omega (arith, there, same))
      (ap (λ ts. (tuple_at ts one.copy).version) left ∙ ap (λ (t : Tuple). t.version) ((puts_change (PutData now new) done.puts tuples (λ t. refl) done.stored.stores).inside one.copy there put))
    where
      now : ℕ
      now = (greatest_of done.gets).version + 1

      inside : Within (length tuples) (done.gets ++ done.puts)
      inside = subst (Within (length tuples)) done.parts within

      seen : Seen first tuples value done.gets carried
      seen = sees_first first tuples value done.gets done.puts carried done.collected inside (subst (FindsThere tuples) done.parts finds)

      older : (t : Tuple) → Fits top value t → Fits now new t
      older t fit = let v = seen.version in let low = fit.0 in (omega (arith, v, low), λ at. absurd (omega (arith, v, low, at)))

      one : Held (marks_of done.puts)
      one = writer_holds (newest_of first done.gets).config (marks_of done.puts) seen.legal done.stored.enough

      put : has_given done.puts one.copy ≡ true
      put = marked_given done.puts one.copy one.here

      there : one.copy < length tuples
      there = given_within done.puts (length tuples) one.copy (back_within (length tuples) done.gets done.puts inside) put

      left : after_all tuples gs ≡ after_all tuples done.puts
      left = ap (after_all tuples) done.parts ∙ collected_first first tuples done.gets done.puts done.collected
