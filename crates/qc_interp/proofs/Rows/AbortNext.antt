-- First tries that a client aborts where another branch was refused to begin, one after another: each abort is grounded, and
-- where it is refused the try has ended.
use Rattle.std.proofs.Common.{◌≡◌, inl, inr, ℕ, ◌+◌, ◌<◌, List, [], length, true, refl, sym, ap, ◌∙◌, subst}
use Rattle.std.specs.Prelude.{Some, is_some, slice_get}
use Rattle.std.specs.List.{AllByRecursion}
use Rattle.qc_event.specs.declared.event.Cause.TheVariants as cause
use Rattle.qc_event.specs.Dead.{outcome, is_committed}
use Rattle.qc_event.specs.History.{Past, Name, end}
use Rattle.qc_event.specs.Legal.{Legal}
use Rattle.qc_event.specs.declared.short.Short.{Short}
use Rattle.qc_script.specs.declared.tx.TxNo.{TxNo}
use Rattle.qc_script.specs.declared.tx.TxNo.TheVariants as tx_no
use Rattle.qc_script.specs.Calls.{IsGrounded, NotAborted}
use Rattle.qc_script.specs.Client.{Client, Made}
use Rattle.qc_interp.specs.AtOnce.{RefusedSo, IsFirst, TurnedOne, TurnedSome, TurnedAll}
use Rattle.qc_interp.proofs.Listing.Places.{at_place}
use Rattle.qc_interp.proofs.Rows.Aborts.{refused_by, first_grounded, first_later, first_refused, refused_still, refused_further}
use Rattle.qc_interp.proofs.Rows.Aborting.{AbortedTo, aborted_next, aborted_passed, aborted_all}

-- who is at or above the transaction that has ended
pub record IsBy (of : Name) (why : TxNo) (above : Name) : Type 0 where
  pub is : above ≡ refused_by of why
  pub other : why ≡ tx_no.Ready → ⊥

pub by_orphan : (of : Name) (why : TxNo) (above a : Name) → above ≡ a → why ≡ tx_no.Orphan a → IsBy of why above
by_orphan of why above a same is = record { is = same ∙ ap (refused_by of) (sym is); other = λ e. let z : tx_no.Orphan a ≡ tx_no.Ready = sym is ∙ e in cc }

pub by_ended : (of : Name) (why : TxNo) (above : Name) → above ≡ of → why ≡ tx_no.Ended → IsBy of why above
by_ended of why above same is = record { is = same ∙ ap (refused_by of) (sym is); other = λ e. let z : tx_no.Ended ≡ tx_no.Ready = sym is ∙ e in cc }

none_made : (c : Client) (n a : Name) (before now : Past) (w : TxNo) → NotAborted c n (cause.Orphan a) before now w → Made c [] before now
none_made c n a before now (tx_no.Short s) h = h.0
none_made c n a before now tx_no.Ended h = h.0
none_made c n a before now tx_no.Ready h = h.0
none_made c n a before now (tx_no.Orphan b) h = h.0
none_made c n a before now (tx_no.ChildrenOpen child) h = absurd h
none_made c n a before now (tx_no.Conflict copy holder) h = absurd h
none_made c n a before now (tx_no.NoQuorum lack) h = absurd h
none_made c n a before now tx_no.Last h = absurd h
none_made c n a before now tx_no.Ledger h = absurd h

-- where the transaction is not ready
turned_all : (c : Client) (why : TxNo) (ns : List Name) (before now : Past) → (why ≡ tx_no.Ready → ⊥) → TurnedSome c ns before now × AllByRecursion (λ n. is_some (end now n) ≡ true) ns → TurnedAll c why ns before now
turned_all c tx_no.Ready ns before now other h = absurd (other refl)
turned_all c (tx_no.Short s) ns before now other h = h
turned_all c tx_no.Ended ns before now other h = h
turned_all c (tx_no.Orphan b) ns before now other h = h
turned_all c (tx_no.ChildrenOpen child) ns before now other h = h
turned_all c (tx_no.Conflict copy holder) ns before now other h = h
turned_all c (tx_no.NoQuorum lack) ns before now other h = h
turned_all c tx_no.Last ns before now other h = h
turned_all c tx_no.Ledger ns before now other h = h

module _ (c : Client) (of : Name) (why : TxNo) (ns : List Name) (before : Past) (nonroot : 0 < length of) (refused : RefusedSo before of why) (firsts : AllByRecursion (IsFirst of before) ns) (other : why ≡ tx_no.Ready → ⊥) where
  module _ (count : ℕ) (now : Past) (so_far : AbortedTo c ns before count now) (n : Name) (at : slice_get ns count ≡ Some n) where
    pub next_first : IsFirst of now n
    next_first = subst (λ h. IsFirst of h n) (sym so_far.made.grown) (first_later of so_far.made.newer before n (at_place (IsFirst of before) ns count n firsts at))

    refused_now : RefusedSo now of why
    refused_now = subst (λ h. RefusedSo h of why) (sym so_far.made.grown) (refused_still so_far.made.newer before of why refused)

    pub next_grounded : IsGrounded now n (cause.Orphan (refused_by of why))
    next_grounded = first_grounded now of n next_first why refused_now other

    -- where it was refused it has ended
    passed : (next : Past) (w : TxNo) → NotAborted c n (cause.Orphan (refused_by of why)) now next w → ((s : Short) → w ≡ tx_no.Short s → ⊥) → Made c [] now next × (is_some (end next n) ≡ true)
    passed next w h not_short =
        let m = none_made c n (refused_by of why) now next w h in
        let back = sym m.grown in
        let further = refused_further m.newer now of why refused_now other c.setting (subst (Legal c.setting) m.grown m.legal) nonroot n (first_later of m.newer now n next_first) in
        first_refused c of n (refused_by of why) now next w nonroot (subst (λ x. IsFirst of x n) back (first_later of m.newer now n next_first))
        (subst (λ x. is_committed (outcome x (refused_by of why)) ≡ true → is_some (end x n) ≡ true) back further) h not_short

    pub next_turned : (next : Past) → TurnedOne c n (refused_by of why) now next → AbortedTo c ns before (count + 1) next
    next_turned next (inl made) = aborted_next c ns before count now next n (refused_by of why) so_far at made
    next_turned next (inr none) = let p = passed next none.0 none.1 none.2 in aborted_passed c ns before count now next n so_far at p.0 p.1

  -- all of them
  pub last_turned : (count : ℕ) (now : Past) → AbortedTo c ns before count now → length ns ≡ count → TurnedAll c why ns before now
  last_turned count now so_far long = turned_all c why ns before now other (aborted_all c ns before count now so_far long)
