-- What all pairs keep of the closed history, and which of them were folded.
use Rattle.std.proofs.Common.{◌≡◌, ℕ, zero, suc, ◌+◌, ◌<◌, ◌≤◌, ◌⊎◌, inl, inr, Bool, true, false, List, [], ◌∷◌, ◌++◌, ◌||◌, ◌==◌, length, refl, sym, ap, ◌∙◌, subst, arith, eqb-true}
use Rattle.std.specs.Prelude.{Option, Some, nat_lt, slice_get}
use Rattle.std.proofs.Math.Nat.{min-eq_right}
use Rattle.std.proofs.lemmas.Bool.Decides.{nat_tests}
use Rattle.std.proofs.lemmas.List.{length-append, nil_from_length}
use Rattle.qc_disk.specs.Disk.{DiskView as Disk}
use Rattle.qc_event.specs.Base.{Setting}
use Rattle.qc_event.specs.History.{Past, limit}
use Rattle.qc_event.specs.Legal.{Legal}
use Rattle.qc_event.proofs.Later.{earlier_legal}
use Rattle.qc_event.specs.Seats.{copy_seat, is_client, ledger_seat}
use Rattle.qc_event.specs.Standing.{HasEnded}
use Rattle.qc_desk.specs.declared.view.View.{View}
use Rattle.qc_desk.specs.Entries.{IsOlder, entries_of}
use Rattle.qc_desk.specs.Known.{IsKnown}
use Rattle.qc_desk.specs.Rules.{Has, IsSettled}
use Rattle.qc_desk.proofs.Lists.{entries_append}
use Rattle.qc_desk.proofs.Seers.{older_trans}
use Rattle.qc_system.specs.Closing.{active_of, other_of, AllKeep, AllLeft, AreFolded, AreFree, CopyKeeps, CopyLeft, DisksKeep, LedgerKeeps}
use Rattle.qc_system.specs.Folds.{held_in, IsFolded, IsFree, IsLeftBy, OtherFolds, OtherKeeps, WasFolded}
use Rattle.qc_system.specs.Pairs.{own_then_spares}
use Rattle.qc_system.specs.Parts.{Findings, IsClosing}
use Rattle.qc_system.proofs.Closing.{copy_later, ledger_later}
use Rattle.qc_system.proofs.Folds.{IsQuiet, ended_now, ended_then, held_still, none_between}

-- WHO ENTERS NOTHING MORE

-- Where the first pass had seen a time, with all clients joined, no client has entered something since. The ledger's pass had then
-- seen all that it entered.
pub quiet_since : (setting : Setting) (first : View) (log : Past) → IsClosing first → IsKnown setting first → IsOlder first.seen log → IsSettled log first
    → (was : Past) → IsOlder was first.seen → entries_of ledger_seat log ≡ entries_of ledger_seat was → IsQuiet first.seen log
quiet_since setting first log closing known older settled was knew own = record {
  older = older;
  clients = λ n client. by_number n client;
  ledger = between ledger_seat was first.seen knew older own;
}
  where
    -- what was entered by a time and not later was entered at each time between
    between : (n : ℕ) (was mid : Past) → IsOlder was mid → IsOlder mid log → entries_of n log ≡ entries_of n was → entries_of n mid ≡ entries_of n log
    between n was mid since newer same =
        sym (ap (entries_of n) newer.1 ∙ entries_append n newer.0 mid ∙ ap (λ l. l ++ entries_of n mid) (none_between n was mid log since newer (sym same)))

    -- who has entered nothing in the end had not
    none_before : (n : ℕ) → entries_of n log ≡ [] → entries_of n first.seen ≡ entries_of n log
    none_before n none =
        let parts = ap (entries_of n) older.1 ∙ entries_append n older.0 first.seen in
        nil_from_length (entries_of n first.seen) (omega (arith, ap length parts, length-append (entries_of n older.0) (entries_of n first.seen), ap length none)) ∙ sym none

    two : (a b : Bool) → (a || b) ≡ true → (a ≡ true) ⊎ (b ≡ true)
    two true b is = inl refl
    two false b is = inr is

    by_kin : (n : ℕ) → (entries_of n log ≡ []) ⊎ Has first.kin (n, entries_of n log) → entries_of n first.seen ≡ entries_of n log
    by_kin n (inl none) = none_before n none
    by_kin n (inr has) = known.kin n (entries_of n log) has

    above : (n : ℕ) → nat_lt 17 n ≡ true → 17 < n
    above n is = grind (arith, nat_tests)

    by_half : (n : ℕ) → ((n == 0) ≡ true) ⊎ (nat_lt 17 n ≡ true) → entries_of n first.seen ≡ entries_of n log
    by_half n (inl zero_is) = subst (λ k. entries_of k first.seen ≡ entries_of k log) (sym (eqb-true n 0 zero_is))
        (sym (settled.0 ∙ known.mine closing.0 ∙ ap (λ k. entries_of k first.seen) closing.1))
    by_half n (inr high) = by_kin n (settled.2 n (above n high))

    by_number : (n : ℕ) → is_client n ≡ true → entries_of n first.seen ≡ entries_of n log
    by_number n client = by_half n (two (n == 0) (nat_lt 17 n) client)

-- WHAT EACH PAIR KEEPS

-- who is at a place is within the list
at_below : {A : Type 0} (xs : List A) (i : ℕ) (x : A) → slice_get xs i ≡ Some x → i < length xs
at_below [] i x is = absurd cc
at_below (y ∷ xs) zero x is = omega arith
at_below (y ∷ xs) (suc i) x is = omega (arith, at_below xs i x is)

-- two at one place are one
same_at : {A : Type 0} (o : Option A) (x y : A) → o ≡ Some x → o ≡ Some y → x ≡ y
same_at o x y first second = cc

module _ (setting : Setting) (found : Findings) {D : Type 0} (view : D → Disk) (since : Past) (whole wanting : Bool) (pairs : List (D × D)) (v : View) (log : Past) (older : IsOlder v.seen log) (legal : Legal setting log) (settled : IsSettled log v)
    (quiet : IsQuiet since log) (left : AllLeft setting found view since whole wanting pairs v) where
  abbrev all : ℕ
  all = length setting.base

  own_of : (number : ℕ) (seen : Past) → Has v.kin (number, entries_of number seen) → entries_of number log ≡ entries_of number seen
  own_of number seen joined = settled.1 number (entries_of number seen) joined

  -- once each top has its end, a copy's pass held what it holds in the end
  held_same : (k : ℕ) (seen : Past) → Legal setting seen → IsOlder since seen → IsOlder seen v.seen → Has v.kin (copy_seat k, entries_of (copy_seat k) seen) → HasEnded log → held_in setting found (k + 1) log ≡ held_in setting found (k + 1) seen
  held_same k seen was_legal before after joined ended =
      let newer = older_trans seen v.seen log after older in
      held_still setting found k seen log was_legal legal newer (ended_then setting since log legal quiet seen before newer ended) (own_of (copy_seat k) seen joined)

  -- where a pair was folded, each top has its end
  fold_ended : (pair : ℕ) (disk : Disk) (seen : Past) → IsOlder seen v.seen → WasFolded setting found since pair disk seen → HasEnded log
  fold_ended pair disk seen after w = ended_now setting since log legal quiet w.by w.later (older_trans w.by v.seen log (older_trans w.by seen v.seen w.older after) older) w.ended

  module _ (w : Bool) (rest : List (D × D)) (k : ℕ) (c : CopyLeft setting found view since w rest v k) where
    abbrev copy_other : Disk
    copy_other = other_of setting found (k + 1) (view c.own) (view c.spare)

    copy_other_now : IsLeftBy setting found since (k + 1) copy_other c.left.seen → OtherKeeps setting found (k + 1) copy_other ⊎ (HasEnded log × OtherFolds setting found (k + 1) (held_in setting found (k + 1) log) copy_other)
    copy_other_now (inl kept) = inl kept
    copy_other_now (inr f) =
        let ended = fold_ended (k + 1) copy_other c.left.seen c.left.older f in
        inr (ended, subst (λ ts. OtherFolds setting found (k + 1) ts copy_other) (sym (held_same k c.left.seen c.left.legal (older_trans since f.by c.left.seen f.later f.older) c.left.older c.left.joined ended)) f.folds)

    copy_keeps : (ledger : D × D) → pairs ≡ ledger ∷ rest → DisksKeep setting found view pairs (k + 1) (CopyKeeps setting found k) log
    copy_keeps ledger are = record {
      own = c.own;
      spare = c.spare;
      there =
          let next : suc k ≡ k + 1 = omega arith in
          subst (λ n. slice_get pairs n ≡ Some (c.own, c.spare)) next (subst (λ (ps : List (D × D)). slice_get ps (suc k) ≡ Some (c.own, c.spare)) (sym are) c.there);
      kept = record {
        active = copy_later setting found k c.left.seen log (older_trans c.left.seen v.seen log c.left.older older) legal (own_of (copy_seat k) c.left.seen c.left.joined) (active_of setting found (k + 1) (view c.own) (view c.spare)) c.left.kept;
        other = copy_other_now c.other;
      };
    }

    -- a copy's pair that was folded was so to what it holds in the end
    copy_folded : w ≡ true → IsFolded setting found (k + 1) (held_in setting found (k + 1) log) copy_other
    copy_folded is =
        let (f, done) = c.folded is in
        let ended = fold_ended (k + 1) copy_other c.left.seen c.left.older f in
        subst (λ ts. IsFolded setting found (k + 1) ts copy_other) (sym (held_same k c.left.seen c.left.legal (older_trans since f.by c.left.seen f.later f.older) c.left.older c.left.joined ended)) done

  ledger_keeps : DisksKeep setting found view pairs 0 (LedgerKeeps setting found) log
  ledger_keeps = record {
    own = left.own;
    spare = left.spare;
    there = ap (λ (ps : List (D × D)). slice_get ps 0) left.pairs_are;
    kept = record {
      active = ledger_later setting found left.ledger.seen log (older_trans left.ledger.seen v.seen log left.ledger.older older) legal left.ledger.legal (own_of ledger_seat left.ledger.seen left.ledger.joined)
          (active_of setting found 0 (view left.own) (view left.spare)) left.ledger.kept;
      other = ledger_other_now left.other;
    };
  }
    where
      ledger_other_now : OtherKeeps setting found 0 (other_of setting found 0 (view left.own) (view left.spare)) ⊎ ((left.copies_whole ≡ true) × WasFolded setting found since 0 (other_of setting found 0 (view left.own) (view left.spare)) v.seen)
          → OtherKeeps setting found 0 (other_of setting found 0 (view left.own) (view left.spare)) ⊎ (HasEnded log × OtherFolds setting found 0 [] (other_of setting found 0 (view left.own) (view left.spare)))
      ledger_other_now (inl kept) = inl kept
      ledger_other_now (inr both) = inr (fold_ended 0 (other_of setting found 0 (view left.own) (view left.spare)) v.seen ([], refl) both.1, both.1.folds)

  -- WHICH WERE FOLDED

  module _ (few : all ≤ 16) where
    rest_many : length left.rest ≡ all
    rest_many = omega (arith, left.copies.many, few, min-eq_right {n = all} {m = 16} few)

    the_copy : (k : ℕ) → k < all → CopyLeft setting found view since left.copies_whole left.rest v k
    the_copy k there = left.copies.copies k (omega (arith, there, few)) there

    -- of a pair behind the ledger's
    copy_at : (k : ℕ) (own spare : D) → slice_get pairs (suc k) ≡ Some (own, spare) → slice_get left.rest k ≡ Some (own, spare)
    copy_at k own spare is = subst (λ (ps : List (D × D)). slice_get ps (suc k) ≡ Some (own, spare)) left.pairs_are is

    copies_folded : left.copies_whole ≡ true → AreFolded setting found view 1 pairs log
    copies_folded is zero own spare some at = absurd (omega (arith, some))
    copies_folded is (suc k) own spare some at =
        let there : k < all = omega (arith, at_below left.rest k (own, spare) (copy_at k own spare at), rest_many) in
        let c = the_copy k there in
        let next : k + 1 ≡ suc k = omega arith in
        let one : (c.own, c.spare) ≡ (own, spare) = same_at (slice_get left.rest k) (c.own, c.spare) (own, spare) c.there (copy_at k own spare at) in
        subst (λ n. IsFolded setting found n (held_in setting found n log) (other_of setting found n (view own) (view spare))) next
        (subst (λ (p : D × D). IsFolded setting found (k + 1) (held_in setting found (k + 1) log) (other_of setting found (k + 1) (view p.0) (view p.1))) one
        (copy_folded left.copies_whole left.rest k c is))

    last_by : OtherKeeps setting found 0 (other_of setting found 0 (view left.own) (view left.spare)) ⊎ ((left.copies_whole ≡ true) × WasFolded setting found since 0 (other_of setting found 0 (view left.own) (view left.spare)) v.seen)
        → OtherKeeps setting found 0 (other_of setting found 0 (view left.own) (view left.spare)) ⊎ AreFolded setting found view 1 pairs log
    last_by (inl kept) = inl kept
    last_by (inr both) = inr (copies_folded both.0)

    -- the ledger's pair, and then the others
    all_folded : (left.copies_whole ≡ true) × IsFolded setting found 0 [] (other_of setting found 0 (view left.own) (view left.spare)) → AreFolded setting found view 0 pairs log
    all_folded both zero own spare some at =
        let one : (left.own, left.spare) ≡ (own, spare) = same_at (slice_get pairs 0) (left.own, left.spare) (own, spare) (ap (λ (ps : List (D × D)). slice_get ps 0) left.pairs_are) at in
        subst (λ (p : D × D). IsFolded setting found 0 [] (other_of setting found 0 (view p.0) (view p.1))) one both.1
    all_folded both (suc k) own spare some at = copies_folded both.0 (suc k) own spare (omega arith) at

    module _ (fine : wanting ≡ false) (free : AreFree setting found view pairs log) where
      shorter : length v.seen < limit
      shorter = omega (arith, ap length older.1, length-append older.0 v.seen, free.room)

      copy_free : (k : ℕ) → k < all → (own spare : D) (seen : Past) → slice_get left.rest k ≡ Some (own, spare) → IsOlder since seen → IsOlder seen v.seen → Has v.kin (copy_seat k, entries_of (copy_seat k) seen)
          → IsFree setting found (k + 1) (held_in setting found (k + 1) seen) (active_of setting found (k + 1) (view own) (view spare)) (other_of setting found (k + 1) (view own) (view spare))
      copy_free k there own spare seen at before after joined =
          let next : suc k ≡ k + 1 = omega arith in
          let is = subst (λ n. slice_get pairs n ≡ Some (own, spare)) next (subst (λ (ps : List (D × D)). slice_get ps (suc k) ≡ Some (own, spare)) (sym left.pairs_are) at) in
          let newer = older_trans seen v.seen log after older in
          subst (λ ts. IsFree setting found (k + 1) ts (active_of setting found (k + 1) (view own) (view spare)) (other_of setting found (k + 1) (view own) (view spare)))
          (held_same k seen (earlier_legal setting newer.0 seen (subst (Legal setting) newer.1 legal)) before after joined free.ended)
          (free.each (k + 1) own spare is)

      ended_each : (at : Past) → IsOlder since at → IsOlder at v.seen → HasEnded at
      ended_each at before after = ended_then setting since log legal quiet at before (older_trans at v.seen log after older) free.ended

      all_free : whole ≡ true
      all_free =
          let copies = left.copies.free (left.wants fine) ended_each shorter (λ k below there. copy_free k there) in
          left.free fine ended_each copies (free.each 0 left.own left.spare (ap (λ (ps : List (D × D)). slice_get ps 0) left.pairs_are))

      pub done : AreFolded setting found view 0 pairs log
      done = all_folded (left.folded all_free)

    pub all_left : (disks : List D) → disks ≡ own_then_spares pairs → AllKeep setting found view (wanting ≡ false) disks log
    unfolding ledger_keeps
    all_left disks are = record {
      pairs = pairs;
      disks_are = are;
      many = ap length left.pairs_are ∙ omega (arith, rest_many);
      ledger = ledger_keeps;
      copies = λ k there. copy_keeps left.copies_whole left.rest k (the_copy k there) (left.own, left.spare) left.pairs_are;
      last = last_by left.other;
      done = done;
    }

-- what is done where all is done is so where more is
pub kept_where : (setting : Setting) (found : Findings) {D : Type 0} (view : D → Disk) (disks : List D) (log : Past) (Done More : Type 0) → (More → Done) → AllKeep setting found view Done disks log → AllKeep setting found view More disks log
kept_where setting found view disks log Done More so all = record {
  pairs = all.pairs;
  disks_are = all.disks_are;
  many = all.many;
  ledger = all.ledger;
  copies = all.copies;
  last = all.last;
  done = λ more free. all.done (so more) free;
}
