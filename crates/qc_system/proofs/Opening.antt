-- How the first pass gives its passes away, one after another, and the copies are entered.
use Rattle.std.proofs.Common.{◌≡◌, ℕ, ◌+◌, ◌<◌, ◌≤◌, ◌==◌, Bool, true, false, List, [], ◌∷◌, ◌++◌, length, refl, sym, ap, ap₂, ◌∙◌, subst, arith}
use mathlib.Core.Bool.{true≢false}
use Rattle.std.specs.Prelude.{slice_index_or, MatchBool, nat_lt, ◌&&◌}
use Rattle.std.proofs.Math.Nat.{min-eq_left, min-eq_right}
use Rattle.std.proofs.lemmas.List.{length-append}
use Rattle.std.specs.List.{remove}
use Rattle.std.proofs.lemmas.Bool.Decides.{nat_tests}
use Rattle.qc_disk.specs.declared.disk.Disk.{Ghosts}
use Rattle.qc_desk.specs.declared.view.View.{View}
use Rattle.qc_desk.specs.Rules.{IsSplit, counted, pass}
use Rattle.qc_config.specs.declared.tuple.Tuple.{Tuple}
use Rattle.qc_pair.specs.declared.fold.Fold.{Fold}
use Rattle.qc_system.specs.Parts.{AreKeptBack, AreOthers, AreWaiting, Findings, HaveEntered, IsCopy, IsMounted, IsOpening, IsOther}
use Rattle.qc_system.specs.declared.parts.CopyPair.{CopyPair}

-- the first pass gives its next pass away, under the next number
pub given_next : (v w new : View) (n : ℕ) → IsOpening v n → n < 17 → IsSplit v w new → (w ≡ counted v) × (new ≡ pass (n + 1) v.seen)
given_next v w new n opening small split =
    let low : ((v.number == 0) && nat_lt v.count 17) ≡ true = ap₂ (λ (a b : ℕ). (a == 0) && nat_lt b 17) opening.number opening.given ∙ below n small in
    let both = by_test _ ((v.number == 0) && nat_lt v.count 17) low split in
    (both.0, both.1 ∙ ap (λ k. pass (k + 1) v.seen) opening.given)
  where
    by_test : (No : Type 0) (b : Bool) → b ≡ true → MatchBool b ((w ≡ counted v) × (new ≡ pass (v.count + 1) v.seen)) No → (w ≡ counted v) × (new ≡ pass (v.count + 1) v.seen)
    by_test No true is h = h
    by_test No false is h = absurd (true≢false (sym is))

    below : (k : ℕ) → k < 17 → nat_lt k 17 ≡ true
    below k lt = by_less (nat_lt k 17) refl
      where
        by_less : (b : Bool) → nat_lt k 17 ≡ b → nat_lt k 17 ≡ true
        by_less true is = is
        by_less false is = absurd (grind (arith, nat_tests))

pub opens_next : (v w : View) (n : ℕ) → IsOpening v n → w ≡ counted v → IsOpening w (n + 1)
opens_next v w n opening is = subst (λ x. IsOpening x (n + 1)) (sym is) (record {
  live = opening.live;
  number = opening.number;
  given = ap (λ k. k + 1) opening.given;
  out = opening.out;
  mine = opening.mine;
  kin = opening.kin;
  seen = opening.seen;
})

-- where no copy waits, none does behind
pub none_waits : {D : Type 0} {g : Ghosts D} (base : List (List Tuple)) (found : Findings) (c : ℕ) (ms : List (CopyPair D g)) → length ms ≡ 0 → AreWaiting base found c ms → AreWaiting base found (c + 1) ms
none_waits base found c [] none waiting = (omega (arith, waiting.0), tt)
none_waits base found c (m ∷ ms) none waiting = absurd (omega (arith, none))

-- of those that wait the first is the next copy
pub first_waits : {D : Type 0} {g : Ghosts D} (base : List (List Tuple)) (found : Findings) (c : ℕ) (ms : List (CopyPair D g)) (d : CopyPair D g) → 0 < length ms → AreWaiting base found c ms → IsMounted base found c (slice_index_or ms 0 d)
first_waits base found c [] d some waiting = absurd (omega (arith, some))
first_waits base found c (m ∷ ms) d some waiting = waiting.1.0

-- a copy that waits is one of the store's
pub waits_below : {D : Type 0} {g : Ghosts D} (base : List (List Tuple)) (found : Findings) (c : ℕ) (ms : List (CopyPair D g)) → 0 < length ms → AreWaiting base found c ms → c < length base
waits_below base found c ms some waiting = omega (arith, some, waiting.0)

-- a pass that was just named has given nothing away
pub named_opens : (v : View) → v ≡ pass 0 [] → IsOpening v 0
named_opens v is = subst (λ x. IsOpening x 0) (sym is) (record { live = refl; number = refl; given = refl; out = refl; mine = refl; kin = refl; seen = refl })

-- the journal of a pair that was mounted was
pub copy_of_pair : {D : Type 0} {g : Ghosts D} (base : List (List Tuple)) (found : Findings) (c : ℕ) (p : CopyPair D g) → IsMounted base found c p → IsCopy base found c p.copy
copy_of_pair base found c p m = m.active

-- OTHER JOURNALS

module _ {D : Type 0} {g : Ghosts D} (copies : ℕ) (found : Findings) where
  -- one more behind others
  others_more : (pair : ℕ) (fs : List (Fold D g)) (f : Fold D g) → AreOthers copies found pair fs → IsOther copies found (pair + length fs) f → AreOthers copies found pair (fs ++ f ∷ [])
  others_more pair [] f are is = (subst (λ n. IsOther copies found n f) (omega arith) is, tt)
  others_more pair (x ∷ fs) f are is = (are.0, others_more (pair + 1) fs f are.1 (subst (λ n. IsOther copies found n f) (omega arith) is))

  -- of those that are there the first is the next pair's
  pub first_other : (pair : ℕ) (fs : List (Fold D g)) (f : Fold D g) → 0 < length fs → f ≡ slice_index_or fs 0 f → AreOthers copies found pair fs → IsOther copies found pair f
  first_other pair [] f some is are = absurd (omega (arith, some))
  first_other pair (x ∷ fs) f some is are = subst (IsOther copies found pair) (sym is) are.0

  -- and then come the others
  pub rest_others : (pair : ℕ) (fs : List (Fold D g)) → 0 < length fs → AreOthers copies found pair fs → AreOthers copies found (pair + 1) (remove fs 0)
  rest_others pair [] some are = absurd (omega (arith, some))
  rest_others pair (x ∷ fs) some are = are.1

  pub less_one : (fs : List (Fold D g)) → 0 < length fs → length (remove fs 0) + 1 ≡ length fs
  less_one [] some = absurd (omega (arith, some))
  less_one (x ∷ fs) some = omega arith

  -- where none is there, each that is is so
  pub no_others : (pair : ℕ) (fs : List (Fold D g)) → length fs ≡ 0 → AreOthers copies found pair fs
  no_others pair [] none = tt
  no_others pair (x ∷ fs) none = absurd (omega (arith, none))

  -- the next one is taken from those that are kept back
  pub taken_back : (copy : ℕ) (fs rest : List (Fold D g)) → copy < copies → rest ≡ remove fs 0 → AreKeptBack copies found copy fs → AreKeptBack copies found (copy + 1) rest
  taken_back copy fs rest lt is h =
      let some : 0 < length fs = omega (arith, h.0, lt) in
      subst (AreKeptBack copies found (copy + 1)) (sym is) (omega (arith, less_one fs some, h.0), rest_others (copy + 1) fs some h.1)

module _ {D : Type 0} {g : Ghosts D} (found : Findings) where
  -- the ledger is entered first
  pub ledger_entered : (base : List (List Tuple)) (none : List (Fold D g)) (f : Fold D g) → none ≡ [] → IsOther (length base) found 0 f → HaveEntered base found 0 (none ++ f ∷ [])
  ledger_entered base none f is other = subst (λ fs. HaveEntered base found 0 (fs ++ f ∷ [])) (sym is) (omega (arith, min-eq_left {n = 0} {m = length base} (omega arith)), (other, tt))

  -- one more copy
  pub copy_entered : (base : List (List Tuple)) (c : ℕ) (fs : List (Fold D g)) (f : Fold D g) → c < length base → HaveEntered base found c fs → IsOther (length base) found (c + 1) f → HaveEntered base found (c + 1) (fs ++ f ∷ [])
  copy_entered base c fs f lt h other =
      let here : length fs ≡ c + 1 = omega (arith, h.0, min-eq_left {n = c} {m = length base} (omega (arith, lt))) in
      (omega (arith, length-append fs (f ∷ []), here, min-eq_left {n = c + 1} {m = length base} (omega (arith, lt))), others_more (length base) found 0 fs f h.1 (subst (λ n. IsOther (length base) found n f) (omega (arith, here)) other))

  -- there is room for that
  pub room_for : (base : List (List Tuple)) (c : ℕ) (fs : List (Fold D g)) → c < length base → HaveEntered base found c fs → length fs < length base + 1
  room_for base c fs lt h = omega (arith, lt, h.0, min-eq_left {n = c} {m = length base} (omega (arith, lt)))

  -- no more copies
  pub none_entered : (base : List (List Tuple)) (c : ℕ) (fs : List (Fold D g)) → length base ≤ c → HaveEntered base found c fs → HaveEntered base found (c + 1) fs
  none_entered base c fs past h = (omega (arith, h.0, min-eq_right {n = length base} {m = c} past, min-eq_right {n = length base} {m = c + 1} (omega (arith, past))), h.1)

  -- all are
  pub all_entered : (base : List (List Tuple)) (fs : List (Fold D g)) → length base ≤ 16 → HaveEntered base found 16 fs → length fs ≡ length base + 1
  all_entered base fs few h = omega (arith, h.0, min-eq_right {n = length base} {m = 16} few)
