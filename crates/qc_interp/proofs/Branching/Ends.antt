-- What the tries of a branch come to.
use Rattle.std.proofs.Common.{◌≡◌, ℕ, suc, zero, ◌+◌, ◌-◌, ◌<◌, arith, length, true, false, [], ◌∷◌, map, refl, sym, ap, ◌∙◌, subst, append-nil}
use Rattle.std.specs.Prelude.{Option, None}
use Rattle.std.specs.List.{list_all}
use Rattle.qc_event.specs.declared.event.Event.TheVariants as event
use Rattle.qc_event.specs.declared.event.Kind.TheVariants as kind
use Rattle.qc_event.specs.History.{Past, Name, end, is_ready, is_child, children}
use Rattle.qc_script.specs.declared.tx.TxNo.{TxNo}
use Rattle.qc_script.specs.declared.tx.TxNo.TheVariants as tx_no
use Rattle.qc_script.specs.Calls.{by_client, Refuses, WasRefused}
use Rattle.qc_event.specs.declared.event.How.{How}
use Rattle.qc_event.specs.Legal.{Legal}
use Rattle.qc_event.specs.Standing.{Started, IsUser}
use Rattle.qc_event.proofs.Later.{started_still}
use Rattle.qc_event.specs.declared.short.Short.{Short}
use Rattle.qc_script.specs.Client.{Client, ClientView, mine, Made, IsLater, HasJoined}
use Rattle.qc_script.specs.Plan.{Numbered}
use Rattle.qc_interp.specs.AtOnce.{MayRun, at_first, IsCallRefusal, TriesEnd, came_at_last}
use Rattle.qc_interp.specs.Branches.{RanTries, AreTriesOurs, stays_with, tries_by}
use Rattle.qc_interp.specs.Deeds.{Deed}
use Rattle.qc_interp.specs.Rows.{was_tried}
use Rattle.qc_interp.specs.Follows.{IsUnended, StopsEarly}
use Rattle.qc_interp.specs.Reach.{Reach, AtTheEnd}
use Rattle.qc_interp.specs.Running.{WhyStop, StopsBy}
use Rattle.qc_interp.specs.Tries.{is_again}
use Rattle.qc_interp.specs.declared.stops.Finish.{Finish}
use Rattle.qc_interp.specs.declared.stops.Finish.TheVariants as finish
use Rattle.qc_interp.proofs.Branching.Tries.{TriesAt, TriedOne, CutOne, tries_trans}
use Rattle.qc_interp.proofs.Branching.Left.{EndsBranch, BranchLeft, TryRuns, first_runs, branch_last, branch_cut, branch_stops, last_committed, made_it, ran_tries, each_due, try_starts}
use Rattle.qc_interp.proofs.Rows.Came.{ran_stopped}
use Rattle.qc_interp.proofs.Stepping.Ending.{user_is}
use Rattle.qc_interp.proofs.Scopes.Growth.{made_is, made_later, later_trans}
use Rattle.qc_interp.proofs.Branching.Joined.{joined_itself, joined_trans, joined_setting, joined_root}
use Rattle.qc_interp.proofs.Stepping.StepsLeave.{orphan_early}
use Rattle.qc_interp.proofs.Stepping.Stopping.{asked_early}
use Rattle.qc_interp.proofs.Following.Turning.{InTurn, Alone}

-- nothing was made
pub quiet_tries : (reach : Reach) (c : Client) (a b : Past) → Made c [] a b → TriesAt reach c a b
quiet_tries reach c a b m =
    let own = made_is c [] a b m in
    record {
      later = made_later c [] a b m;
      made = [];
      more = ap (λ h. children h c.root) own ∙ sym (append-nil _);
      inside = ap (list_all (stays_with [])) m.made;
      seats = refl;
      above = λ p r is. (subst (λ h. IsUnended p (end (mine c a) p) → IsUnended p (end h p)) (sym own) (λ was. was), ap (λ h. is_ready h p) own);
      turns = λ ours turns alone. (subst InTurn (sym own) turns, by_reach reach (subst (λ h. Alone h c.root) (sym own) alone));
    }
  where
    by_reach : (r : Reach) → Alone (mine c b) c.root → AtTheEnd r (Alone (mine c b) c.root)
    by_reach Reach.to_the_end h = h
    by_reach Reach.cut_off h = tt

module _ (c : Client) (body : Numbered) (start : Past) (n : Name) (now next : Past) (left : ℕ) (t : TryRuns c body start n now left) where
  -- a try was the last
  pub tries_end : (to : Finish) → IsLater c now next → TriedOne c body n t.prior next to → (is_again to ≡ true → left ≡ zero) → TriesEnd c body next (came_at_last to n)
  tries_end to since one out = by_finish to one (ran_tries Reach.to_the_end false c body start next t.so_far.none (tries_trans c start t.prior next t.so_far.leaves one.leaves)
      (t.so_far.front Reach.to_the_end false c next (joined_itself c t.prior) one.leaves.later (branch_last c body n t.prior next to one t.last left out)))
    where
      user : Started next n (λ e. IsUser e.kind)
      user = subst (λ h. Started h n (λ e. IsUser e.kind)) (sym since.grown) (started_still since.newer now n _ (user_is c.session now n (try_starts c body start n now left t).user))

      by_finish : (to : Finish) → TriedOne c body n t.prior next to → RanTries Reach.to_the_end ⊥ c body next → TriesEnd c body next (came_at_last to n)
      by_finish finish.Committed one ran = (ran, (tries_by c t.prior, n, made_it c body n t.prior next finish.Committed one, last_committed c body n t.prior next finish.Committed one))
      by_finish (finish.Stopped again) one ran = (ran, (tries_by c t.prior, made_it c body n t.prior next (finish.Stopped again) one), user, last_committed c body n t.prior next (finish.Stopped again) one)

  -- it was cut off
  pub tries_cut_off : CutOne c body n t.prior next → RanTries Reach.cut_off (Unit {0}) c body next
  tries_cut_off cut =
      ran_stopped c body next Reach.cut_off ⊥ (Unit {0}) (λ none. tt)
      (ran_tries Reach.cut_off false c body start next t.so_far.none (tries_trans c start t.prior next t.so_far.leaves cut.leaves)
      (t.so_far.front Reach.cut_off false c next (joined_itself c t.prior) cut.leaves.later (branch_cut c body n t.prior next cut t.last left)))

-- a further try was not begun
module _ (c : Client) (body : Numbered) (start now next : Past) (last : Option Name) (left : ℕ) (l : BranchLeft c body start now last (suc left)) (m : Made c [] now next) where
  stops_there : (reach : Reach) → EndsBranch reach true c start next body None body.tries
  stops_there reach = l.front reach true c next (joined_itself c now) (made_later c [] now next m) (branch_stops reach c body now next m last left)

  pub tries_stop : (reach : Reach) → RanTries reach (Unit {0}) c body next
  tries_stop reach = ran_tries reach true c body start next l.none (tries_trans c start now next l.leaves (quiet_tries reach c now next m)) (stops_there reach)

  pub try_was_due : AreTriesOurs c next → was_tried (mine c next) false body.tries (map Deed.child (tries_by c next)) ≡ false
  try_was_due = each_due Reach.to_the_end true c body start next l.none (tries_trans c start now next l.leaves (quiet_tries Reach.to_the_end c now next m)) (stops_there Reach.to_the_end)

-- a further try began
pub next_runs : (c : Client) (body : Numbered) (start : Past) (n : Name) (now next : Past) (last : Option Name) (left : ℕ) → BranchLeft c body start now last (suc left) → is_child c.root n ≡ true → Made c (by_client c (event.Start n (kind.User c.session body.number)) ∷ []) now next
    → TryRuns c body start n next left
next_runs c body start n now next last left l child m = record { prior = now; last = last; so_far = l; child = child; begun = m }

-- what `one less is left` is in numbers
pub one_less : (tries counter : ℕ) → counter < tries → tries - counter ≡ suc (tries - (counter + 1))
one_less tries counter few = omega (arith, few)

-- a branch that may run runs its first try
pub may_start : (of : Name) (v : ClientView) (body : Numbered) (first : Name) → MayRun of (at_first v body first) → (start : Past) × TryRuns v.client body start first v.seen (body.tries - 1)
may_start of v body first may =
    first_runs v.client body first v.seen (body.tries - 1) (let some = may.tried in let e : body.tries ≡ suc (body.tries - 1) = omega (arith, some) in e) may.legal
    (subst (λ r. 0 < length r) (sym may.root) may.nonroot) (ap (λ r. is_child r first) may.root ∙ may.is_one) may.made

-- Since then the client has merged branches, and its root is still this transaction.
pub record GoesOn (c : Client) (before : Past) (of : Name) (d : Client) (now : Past) : Type 0 where
  pub joined : HasJoined c before d
  pub later : IsLater c before now
  pub parent : Started now of (λ e. IsUser e.kind)
  pub root : d.root ≡ of

pub goes_on : (c : Client) (before : Past) (of : Name) (d e : Client) (now next : Past) → GoesOn c before of d now → HasJoined d now e → IsLater e now next → GoesOn c before of e next
goes_on c before of d e now next g joined later =
    let same = joined_setting d e now joined ∙ joined_setting c d before g.joined in
    let since : IsLater c now next = record { newer = later.newer; grown = later.grown; legal = subst (λ s. Legal s next) same later.legal } in
    record {
      joined = joined_trans c d e before now g.joined (record { newer = g.later.newer; grown = g.later.grown; legal = subst (λ s. Legal s now) (sym (joined_setting c d before g.joined)) g.later.legal }) joined;
      later = later_trans c before now next g.later since;
      parent = subst (λ h. Started h of (λ e. IsUser e.kind)) (sym later.grown) (started_still later.newer now of _ g.parent);
      root = joined_root d e now joined ∙ g.root;
    }

-- why it was refused to begin, where that is not want of memory or room
pub why_refused : (c : Client) (of : Name) (now mid : Past) (why : TxNo) → WasRefused c of now mid why → ((s : Short) → why ≡ tx_no.Short s → ⊥) → Refuses mid of why × IsCallRefusal why
why_refused c of now mid (tx_no.Short s) refused other = absurd (other s refl)
why_refused c of now mid (tx_no.Orphan a) refused other = (refused.1, tt)
why_refused c of now mid tx_no.Ended refused other = (refused.1, tt)
why_refused c of now mid tx_no.Ready refused other = (refused.1, tt)
why_refused c of now mid (tx_no.ChildrenOpen child) refused other = absurd refused
why_refused c of now mid (tx_no.Conflict copy holder) refused other = absurd refused.1
why_refused c of now mid (tx_no.NoQuorum lack) refused other = absurd refused.1
why_refused c of now mid tx_no.Last refused other = absurd refused.1
why_refused c of now mid tx_no.Ledger refused other = absurd refused.1

-- it is then why a transaction stops
pub refusal_stops : (c : Client) (of : Name) (now : Past) (why : TxNo) → Refuses now of why × IsCallRefusal why → WhyStop c now of why
refusal_stops c of now (tx_no.Orphan a) h = h.0
refusal_stops c of now tx_no.Ended h = h.0
refusal_stops c of now tx_no.Ready h = h.0
refusal_stops c of now (tx_no.Short s) h = absurd h.1
refusal_stops c of now (tx_no.ChildrenOpen child) h = absurd h.1
refusal_stops c of now (tx_no.Conflict copy holder) h = absurd h.1
refusal_stops c of now (tx_no.NoQuorum lack) h = absurd h.1
refusal_stops c of now tx_no.Last h = absurd h.1
refusal_stops c of now tx_no.Ledger h = absurd h.1

-- so it stops early
pub refusal_early : (c : Client) (of : Name) (why : TxNo) (how : Option How) → IsCallRefusal why → StopsBy of why how → StopsEarly of how
refusal_early c of (tx_no.Orphan a) how is h = orphan_early c of a how h
refusal_early c of tx_no.Ended how is h = asked_early of how h
refusal_early c of tx_no.Ready how is h = asked_early of how h
refusal_early c of (tx_no.Short s) how is h = absurd is
refusal_early c of (tx_no.ChildrenOpen child) how is h = absurd is
refusal_early c of (tx_no.Conflict copy holder) how is h = absurd is
refusal_early c of (tx_no.NoQuorum lack) how is h = absurd is
refusal_early c of tx_no.Last how is h = absurd is
refusal_early c of tx_no.Ledger how is h = absurd is
