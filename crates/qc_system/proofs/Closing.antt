-- How the copies leave, one after another, and what the closed history has of each.
use Rattle.std.proofs.Common.{◌≡◌, ℕ, zero, suc, ◌+◌, ◌<◌, ◌≤◌, Bool, true, false, List, [], ◌∷◌, ◌++◌, length, refl, sym, ap, ◌∙◌, arith, subst, inl, inr}
use Rattle.std.proofs.lemmas.Bool.Decides.{nat_tests}
use Rattle.std.specs.Prelude.{◌⊎◌, nat_lt, Some, slice_get}
use Rattle.std.proofs.Math.Logic.{∥∥₁_map}
use Rattle.std.proofs.Math.Nat.{min-eq_left, min-eq_right}
use Rattle.std.proofs.lemmas.List.{length-append}
use Rattle.qc_disk.specs.Disk.{DiskView as Disk}
use Rattle.qc_event.specs.Base.{Setting}
use Rattle.qc_event.specs.History.{Past, limit}
use Rattle.qc_event.specs.Standing.{HasEnded}
use Rattle.qc_event.specs.Legal.{Legal}
use Rattle.qc_event.specs.Listed.{listed}
use Rattle.qc_event.specs.Seats.{copy_seat, ledger_seat}
use Rattle.qc_desk.specs.declared.view.View.{View}
use Rattle.qc_desk.specs.Entries.{IsOlder, entries_of}
use Rattle.qc_desk.specs.Rules.{Has, joined, knows, without}
use Rattle.qc_desk.proofs.Having.{has_left}
use Rattle.qc_desk.proofs.Seers.{older_trans}
use Rattle.qc_system.specs.Closing.{active_of, other_of, CopyKeeps, CopyLeft, HaveLeft, IsFreeSince, Keeping, LedgerKeeps, WasLeft}
use Rattle.qc_system.specs.Folds.{held_in, EndedSince, IsFolded, IsFree, IsLeftBy, WasFolded}
use Rattle.qc_system.specs.Kept.{CopyHadNoRoom, HadNoRoom, NoneStrange, Pays, downs}
use Rattle.qc_system.specs.Parts.{Findings, IsClosing, IsThere}
use Rattle.qc_ledger.specs.Since.{AreTopsBy}
use Rattle.qc_site.specs.Since.{AreGrantsBy}
use Rattle.qc_site.proofs.Since.{grants_later}
use Rattle.qc_system.proofs.Grown.{from_more}
use Rattle.qc_system.proofs.Left.{keeps_grants_later, keeps_tops_later}
use Rattle.qc_system.proofs.Listed.{tops_told_later}
use Rattle.qc_system.proofs.Room.{room_retold}
use Rattle.qc_system.proofs.Unable.{room_later}
use Rattle.qc_event.proofs.Numbers.{before_or_at}

module _ {A : Type 0} where
  get_left : (xs ys : List A) (i : ℕ) (x : A) → slice_get xs i ≡ Some x → slice_get (xs ++ ys) i ≡ Some x
  get_left [] ys i x h = absurd cc
  get_left (y ∷ xs) ys zero x h = h
  get_left (y ∷ xs) ys (suc i) x h = get_left xs ys i x h

  get_last : (xs : List A) (x : A) → slice_get (xs ++ x ∷ []) (length xs) ≡ Some x
  get_last [] x = refl
  get_last (y ∷ xs) x = get_last xs x

  has_next : (xs ys : List A) (x : A) → Has (xs ++ x ∷ ys) x
  has_next [] ys x = (0, refl)
  has_next (y ∷ xs) ys x = let r = has_next xs ys x in (suc r.0, r.1)

-- what an active disk keeps of what its pass has seen, it keeps of the closed history
module _ (setting : Setting) (found : Findings) where
  pub ledger_later : (seen log : Past) → IsOlder seen log → Legal setting log → Legal setting seen → entries_of ledger_seat log ≡ entries_of ledger_seat seen → (disk : Disk) → LedgerKeeps setting found disk seen → LedgerKeeps setting found disk log
  ledger_later seen log since legal was_legal own disk was =
      let before = (found.active 0).before in
      let first = (found.active 0).first in
      record {
        kept = ∥∥₁_map was.kept (λ k told. keeps_tops_later setting seen log since legal was_legal own before disk.may_leave (k told));
        grown = ∥∥₁_map was.grown (λ k told. from_more first before (AreTopsBy (listed seen) seen) (AreTopsBy (listed log) log) disk (λ bodies are. tops_told_later setting seen log since legal was_legal bodies are) (k told));
        paid = subst (λ p. Pays first.faults (downs p) disk.faults) (sym own) was.paid;
        full = λ told. subst (HadNoRoom (listed log) before found.limit) (sym own) (room_retold setting seen log since legal was_legal before found.limit (was.full told));
      }

  pub copy_later : (k : ℕ) (seen log : Past) → IsOlder seen log → Legal setting log → entries_of (copy_seat k) log ≡ entries_of (copy_seat k) seen → (disk : Disk) → CopyKeeps setting found k disk seen → CopyKeeps setting found k disk log
  copy_later k seen log since legal own disk was =
      let before = (found.active (k + 1)).before in
      let first = (found.active (k + 1)).first in
      record {
        kept = ∥∥₁_map was.kept (λ kept told. keeps_grants_later setting k seen log since legal own (length setting.base) before disk.may_leave (kept told));
        grown = ∥∥₁_map was.grown (λ kept told. from_more first before (AreGrantsBy setting k seen) (AreGrantsBy setting k log) disk (λ bodies are. grants_later setting k seen log bodies since are) (kept told));
        paid = subst (λ p. Pays first.faults (downs p) disk.faults) (sym own) was.paid;
        full = ∥∥₁_map was.full (λ had told.
            subst (λ p. CopyHadNoRoom setting k before found.limit log p) (sym own) (room_later setting k before found.limit seen log (entries_of (copy_seat k) seen) since (had told)));
        plain = λ told. subst NoneStrange (sym own) (was.plain told);
      }

module _ (setting : Setting) (found : Findings) {D : Type 0} (view : D → Disk) where
  abbrev all : ℕ
  all = length setting.base

  -- what was left by a copy's pass
  abbrev CopyWas : View → ℕ → D → D → Type 0
  CopyWas v k own spare = WasLeft setting found v (copy_seat k) (CopyKeeps setting found k) (active_of setting found (k + 1) (view own) (view spare))

  -- what was left is left when one more leaves
  left_on : (since : Past) (whole whole' : Bool) (pairs : List (D × D)) (x : D × D) (old new : View) (more : List (ℕ × Past)) (k : ℕ) → (whole' ≡ true → whole ≡ true) → IsOlder old.seen new.seen → new.kin ≡ old.kin ++ more
      → CopyLeft setting found view since whole pairs old k → CopyLeft setting found view since whole' (pairs ++ x ∷ []) new k
  left_on since whole whole' pairs x old new more k was_whole older kin was = record {
    own = was.own;
    spare = was.spare;
    there = get_left pairs (x ∷ []) k (was.own, was.spare) was.there;
    left = record {
      seen = was.left.seen;
      older = older_trans was.left.seen old.seen new.seen was.left.older older;
      legal = was.left.legal;
      joined = subst (λ l. Has l (copy_seat k, entries_of (copy_seat k) was.left.seen)) (sym kin) (has_left old.kin more (copy_seat k, entries_of (copy_seat k) was.left.seen) was.left.joined);
      kept = was.left.kept;
    };
    other = was.other;
    folded = λ is. was.folded (was_whole is);
  }

  -- it is among those that were joined
  pub joined_now : (kin more : List (ℕ × Past)) (new : View) (seen mine : Past) (number : ℕ) → mine ≡ entries_of number seen → new.kin ≡ kin ++ (number, mine) ∷ more → Has new.kin (number, entries_of number seen)
  joined_now kin more new seen mine number entered is =
      subst (λ l. Has l (number, entries_of number seen)) (sym is) (subst (λ m. Has (kin ++ (number, m) ∷ more) (number, entries_of number seen)) (sym entered) (has_next kin more (number, entries_of number seen)))

  -- a pass that was joined left what its disk keeps
  pub left_now : (kin more : List (ℕ × Past)) (new : View) (seen mine : Past) (number : ℕ) (keeps : Keeping) (active : Disk) → IsOlder seen new.seen → Legal setting seen → mine ≡ entries_of number seen → new.kin ≡ kin ++ (number, mine) ∷ more
      → keeps active seen → WasLeft setting found new number keeps active
  left_now kin more new seen mine number keeps active older legal entered is kept = record {
    seen = seen;
    older = older;
    legal = legal;
    joined = joined_now kin more new seen mine number entered is;
    kept = kept;
  }

  -- a copy's pair leaves
  pub copy_now : (since : Past) (whole : Bool) (pairs : List (D × D)) (own spare : D) (kin more : List (ℕ × Past)) (new : View) (seen mine : Past) (k : ℕ) → length pairs ≡ k → IsOlder seen new.seen → Legal setting seen → mine ≡ entries_of (copy_seat k) seen
      → new.kin ≡ kin ++ (copy_seat k, mine) ∷ more → CopyKeeps setting found k (active_of setting found (k + 1) (view own) (view spare)) seen
      → IsLeftBy setting found since (k + 1) (other_of setting found (k + 1) (view own) (view spare)) seen
      → (whole ≡ true → WasFolded setting found since (k + 1) (other_of setting found (k + 1) (view own) (view spare)) seen
      × IsFolded setting found (k + 1) (held_in setting found (k + 1) seen) (other_of setting found (k + 1) (view own) (view spare)))
      → CopyLeft setting found view since whole (pairs ++ (own, spare) ∷ []) new k
  copy_now since whole pairs own spare kin more new seen mine k size older legal entered is kept other folded = record {
    own = own;
    spare = spare;
    there = subst (λ i. slice_get (pairs ++ (own, spare) ∷ []) i ≡ Some (own, spare)) size (get_last pairs (own, spare));
    left = record {
      seen = seen;
      older = older;
      legal = legal;
      joined = joined_now kin more new seen mine (copy_seat k) entered is;
      kept = kept;
    };
    other = other;
    folded = folded;
  }

  -- each top had its end up to a later time, so up to an earlier one
  ended_less : (since old new : Past) → IsOlder old new → EndedSince since new → EndedSince since old
  ended_less since old new older ended = λ at before after. ended at before (older_trans at old new after older)

  -- what bars nobody at a later time barred nobody below
  free_less : (since : Past) (pairs : List (D × D)) (x : D × D) (old new : View) (more : List (ℕ × Past)) (k : ℕ) → IsOlder old.seen new.seen → new.kin ≡ old.kin ++ more
      → IsFreeSince setting found view since (pairs ++ x ∷ []) new k → IsFreeSince setting found view since pairs old k
  free_less since pairs x old new more k older kin free = λ own spare seen there before after joined.
      free own spare seen (get_left pairs (x ∷ []) k (own, spare) there) before (older_trans seen old.seen new.seen after older)
      (subst (λ l. Has l (copy_seat k, entries_of (copy_seat k) seen)) (sym kin) (has_left old.kin more (copy_seat k, entries_of (copy_seat k) seen) joined))

  -- what is older is no longer
  pub shorter : (old new : Past) → IsOlder old new → length new < limit → length old < limit
  shorter old new older room = omega (arith, ap length older.1, length-append older.0 old, room)

  -- one more copy has left
  pub one_more : (since : Past) (c : ℕ) (whole whole' wanting wanting' : Bool) (pairs pairs' : List (D × D)) (own spare : D) (old new : View) (more : List (ℕ × Past)) (seen mine : Past) → c < all → IsOlder old.seen new.seen → IsOlder seen new.seen → Legal setting seen
      → mine ≡ entries_of (copy_seat c) seen → new.kin ≡ old.kin ++ (copy_seat c, mine) ∷ more → pairs' ≡ pairs ++ (own, spare) ∷ [] → CopyKeeps setting found c (active_of setting found (c + 1) (view own) (view spare)) seen
      → IsLeftBy setting found since (c + 1) (other_of setting found (c + 1) (view own) (view spare)) seen
      → (whole' ≡ true → (whole ≡ true) × WasFolded setting found since (c + 1) (other_of setting found (c + 1) (view own) (view spare)) seen
      × IsFolded setting found (c + 1) (held_in setting found (c + 1) seen) (other_of setting found (c + 1) (view own) (view spare)))
      → (wanting' ≡ false → wanting ≡ false)
      → (wanting' ≡ false → EndedSince since new.seen → length new.seen < limit → whole ≡ true
      → (IsOlder since seen → IsFree setting found (c + 1) (held_in setting found (c + 1) seen) (active_of setting found (c + 1) (view own) (view spare)) (other_of setting found (c + 1) (view own) (view spare))) → whole' ≡ true)
      → HaveLeft setting found view since c whole wanting pairs old → HaveLeft setting found view since (c + 1) whole' wanting' pairs' new
  one_more since c whole whole' wanting wanting' pairs pairs' own spare old new more seen mine lt older own_older legal entered is now kept other folded wants free h =
      subst (λ ps. HaveLeft setting found view since (c + 1) whole' wanting' ps new) (sym now) (record {
        many = omega (arith, length-append pairs ((own, spare) ∷ []), h.many, min-eq_left {n = c} {m = all} (omega (arith, lt)), min-eq_left {n = c + 1} {m = all} (omega (arith, lt)));
        copies = λ k below there. by_case k there (before_or_at k c below);
        free = λ fine ended room each.
            free fine ended room
            (h.free (wants fine) (ended_less since old.seen new.seen older ended) (shorter old.seen new.seen older room)
            (λ k below there. free_less since pairs (own, spare) old new ((copy_seat c, mine) ∷ more) k older is (each k (omega (arith, below)) there)))
            (λ before. each c (omega arith) lt own spare seen (subst (λ i. slice_get (pairs ++ (own, spare) ∷ []) i ≡ Some (own, spare)) size (get_last pairs (own, spare))) before own_older
            (joined_now old.kin more new seen mine (copy_seat c) entered is));
      })
    where
      size : length pairs ≡ c
      size = omega (arith, h.many, lt, min-eq_left {n = c} {m = all} (omega (arith, lt)))

      by_case : (k : ℕ) → k < all → (k < c) ⊎ (k ≡ c) → CopyLeft setting found view since whole' (pairs ++ (own, spare) ∷ []) new k
      by_case k there (inl before) = left_on since whole whole' pairs (own, spare) old new ((copy_seat c, mine) ∷ more) k (λ w. (folded w).0) older is (h.copies k before there)
      by_case k there (inr same) = subst (CopyLeft setting found view since whole' (pairs ++ (own, spare) ∷ []) new) (sym same)
          (copy_now since whole' pairs own spare old.kin more new seen mine c size own_older legal entered is kept other (λ w. ((folded w).1, (folded w).2)))

  -- none has left yet
  pub none_left : (since : Past) (whole wanting : Bool) (pairs : List (D × D)) (v : View) → pairs ≡ [] → IsOlder since v.seen → (wanting ≡ false → HasEnded since → whole ≡ true) → HaveLeft setting found view since 0 whole wanting pairs v
  none_left since whole wanting pairs v none older free = record {
    many = ap length none ∙ omega (arith, min-eq_left {n = 0} {m = all} (omega arith));
    copies = λ k lt there. absurd (omega (arith, lt));
    free = λ fine ended room each. free fine (ended since ([], refl) older);
  }

  -- a copy that is not there leaves nothing
  pub no_more : (since : Past) (c : ℕ) (whole wanting : Bool) (pairs : List (D × D)) (v : View) → all ≤ c → HaveLeft setting found view since c whole wanting pairs v → HaveLeft setting found view since (c + 1) whole wanting pairs v
  no_more since c whole wanting pairs v le h = record {
    many = omega (arith, h.many, le, min-eq_right {n = all} {m = c} le, min-eq_right {n = all} {m = c + 1} (omega (arith, le)));
    copies = λ k below there. h.copies k (omega (arith, below, there, le)) there;
    free = λ fine ended room each. h.free fine ended room (λ k below there. each k (omega (arith, below)) there);
  }

  -- what a first pass has seen more, or joined, changes nothing of those that left
  pub still_left : (since : Past) (c : ℕ) (whole wanting : Bool) (pairs : List (D × D)) (old new : View) (more : List (ℕ × Past)) → IsOlder old.seen new.seen → new.kin ≡ old.kin ++ more
      → HaveLeft setting found view since c whole wanting pairs old → HaveLeft setting found view since c whole wanting pairs new
  still_left since c whole wanting pairs old new more older kin h = record {
    many = h.many;
    copies = λ k below there.
        let was = h.copies k below there in
        record {
          own = was.own;
          spare = was.spare;
          there = was.there;
          left = record {
            seen = was.left.seen;
            older = older_trans was.left.seen old.seen new.seen was.left.older older;
            legal = was.left.legal;
            joined = subst (λ l. Has l (copy_seat k, entries_of (copy_seat k) was.left.seen)) (sym kin) (has_left old.kin more (copy_seat k, entries_of (copy_seat k) was.left.seen) was.left.joined);
            kept = was.left.kept;
          };
          other = was.other;
          folded = was.folded;
        };
    free = λ fine ended room each.
        h.free fine (ended_less since old.seen new.seen older ended) (shorter old.seen new.seen older room)
        (λ k below there own spare seen at before after joined. each k below there own spare seen at before (older_trans seen old.seen new.seen after older)
        (subst (λ l. Has l (copy_seat k, entries_of (copy_seat k) seen)) (sym kin) (has_left old.kin more (copy_seat k, entries_of (copy_seat k) seen) joined)));
  }

-- WHICH COPIES ARE THERE

pub is_below : (c all : ℕ) (b : Bool) → b ≡ true → IsThere c all b → c < all
is_below c all b is h = by_test (nat_lt c all) refl
  where
    by_test : (t : Bool) → nat_lt c all ≡ t → c < all
    by_test true t = grind (arith, nat_tests)
    by_test false t = absurd (cc (sym is ∙ h.1 (grind (arith, nat_tests))))

pub is_past : (c all : ℕ) (b : Bool) → b ≡ false → IsThere c all b → all ≤ c
is_past c all b is h = by_test (nat_lt c all) refl
  where
    by_test : (t : Bool) → nat_lt c all ≡ t → all ≤ c
    by_test true t = absurd (cc (sym is ∙ h.0 (grind (arith, nat_tests))))
    by_test false t = grind (arith, nat_tests)

-- a pass that another was joined into is closing still
pub closing_still : (v other w : View) → IsClosing v → w ≡ knows w.seen (joined v other) → IsClosing w
closing_still v other w closing is = (
  ap (λ (x : View). x.live) is ∙ closing.0,
  ap (λ (x : View). x.number) is ∙ closing.1,
  ap (λ (x : View). x.out) is ∙ ap (without other.number) closing.2,
)
