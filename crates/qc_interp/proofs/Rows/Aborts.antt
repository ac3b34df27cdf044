-- First tries of branches that a client aborts as orphans, where another branch was refused to begin: each abort is grounded, and
-- where it is refused the try has ended already.
use Rattle.std.proofs.Common.{◌≡◌, inl, inr, ◌<◌, true, false, List, [], ◌∷◌, ◌++◌, length, map, refl, sym, ap, ◌∙◌, subst, arith}
use mathlib.Core.Bool.{true≢false}
use Rattle.std.specs.Prelude.{Option, None, Some, MatchOption, not, is_some}
use Rattle.std.specs.List.{AllByRecursion}
use Rattle.std.proofs.lemmas.Bool.{false_from_ne_true}
use Rattle.qc_event.specs.declared.event.Cause.TheVariants as cause
use Rattle.qc_event.specs.declared.event.Event.TheVariants as event
use Rattle.qc_event.specs.declared.event.How.{How}
use Rattle.qc_event.specs.declared.event.How.TheVariants.{Commit, Abort}
use Rattle.qc_event.specs.Base.{Setting}
use Rattle.qc_event.specs.Dead.{outcome, outcome_of, is_committed}
use Rattle.qc_event.specs.History.{Past, Name, end, is_child, is_ready, same, start, end_in, ready_in}
use Rattle.qc_event.specs.Legal.{Legal}
use Rattle.qc_event.specs.Standing.{IsUser, IsAbort}
use Rattle.qc_event.proofs.Absent.{same_is}
use Rattle.qc_event.proofs.LastNumber.{child_last, child_longer, is_ancestor-append, ancestor_further}
use Rattle.qc_event.proofs.Lawful.{lawful, started_some}
use Rattle.qc_event.proofs.Later.{started_still}
use Rattle.qc_event.proofs.LegalOrderly.{legal_orderly, ready_top}
use Rattle.qc_names.specs.Name as name
use Rattle.qc_script.specs.declared.tx.TxNo.{TxNo}
use Rattle.qc_script.specs.declared.tx.TxNo.TheVariants as tx_no
use Rattle.qc_script.specs.Calls.{by_client, IsGrounded, NotAborted}
use Rattle.qc_script.specs.Client.{Client, Made}
use Rattle.qc_interp.specs.AtOnce.{StandingBranch, branch_in, RefusedSo, IsFirst, aborts_of, TurnedSome, TurnedAll}
use Rattle.qc_interp.specs.Branches.{Branch}
use Rattle.qc_event.proofs.StillTold.{some_stays}
use Rattle.qc_event.specs.declared.short.Short.{Short}
use Rattle.qc_interp.proofs.Scopes.Growth.{ended_still, made_itself}
use Rattle.qc_interp.proofs.Rows.Back.{turns_back, none_back}
use Rattle.qc_interp.proofs.Rows.Leaves.{not_shorter}
use Rattle.qc_interp.proofs.Following.Turning.{itself}

-- OF WHOM THEY ARE ORPHANS

-- the one at or above the transaction that has ended, by which a call to begin was refused
abbrev pub refused_by : Name → TxNo → Name
refused_by of (tx_no.Orphan a) = a
refused_by of why = of

abort_some : (o : Option How) → MatchOption o ⊥ IsAbort → is_some o ≡ true
abort_some None h = absurd h
abort_some (Some how) h = refl

not_committed : (o : Option How) → MatchOption o ⊥ IsAbort → is_committed (outcome_of o) ≡ true → ⊥
not_committed None h committed = h
not_committed (Some (Commit given)) h committed = h
not_committed (Some (Abort x)) h committed = true≢false (sym committed)

child_above : (of n : Name) → is_child of n ≡ true → name.is_ancestor of n ≡ true
child_above of n child = let l = child_last of n child in ap (name.is_ancestor of) l.1 ∙ is_ancestor-append of (l.0 ∷ [])

first_started : (of : Name) (past : Past) (n : Name) → IsFirst of past n → is_some (start past n) ≡ true
first_started of past n first = started_some (λ e. IsUser e.kind) (start past n) first.1

pub first_later : (of : Name) (newer past : Past) (n : Name) → IsFirst of past n → IsFirst of (newer ++ past) n
first_later of newer past n first = (first.0, started_still newer past n _ first.1)

module _ (seen : Past) (of n : Name) (first : IsFirst of seen n) where
  grounded_by : (a : Name) → name.is_ancestor a of ≡ true → is_some (end seen a) ≡ true → IsGrounded seen n (cause.Orphan a)
  grounded_by a above ended = (ancestor_further a of n above (child_above of n first.0), ap not other, ended)
    where
      other : same a n ≡ false
      other = false_from_ne_true (same a n) (λ is.
          let l = ap length (same_is a n is) in
          let short = not_shorter a of above in
          let long = child_longer of n first.0 in
          let z : ⊥ = omega (arith, l, short, long) in z)

  -- so the abort is grounded
  pub first_grounded : (why : TxNo) → RefusedSo seen of why → (why ≡ tx_no.Ready → ⊥) → IsGrounded seen n (cause.Orphan (refused_by of why))
  first_grounded (tx_no.Orphan a) refused other = grounded_by a refused.0.0 (abort_some (end seen a) refused.0.1)
  first_grounded tx_no.Ended refused other = grounded_by of (itself of) refused.0
  first_grounded tx_no.Ready refused other = absurd (other refl)
  first_grounded (tx_no.Short s) refused other = absurd refused.1
  first_grounded (tx_no.ChildrenOpen child) refused other = absurd refused.1
  first_grounded (tx_no.Conflict copy holder) refused other = absurd refused.1
  first_grounded (tx_no.NoQuorum lack) refused other = absurd refused.1
  first_grounded tx_no.Last refused other = absurd refused.1
  first_grounded tx_no.Ledger refused other = absurd refused.1

-- IN A LEGAL HISTORY

module _ (setting : Setting) (past : Past) (legal : Legal setting past) (of : Name) (nonroot : 0 < length of) (n : Name) (first : IsFirst of past n) where
  -- the children of who has committed, or is ready, have ended
  closed_by : (is_some (end past (of ++ (child_last of n first.0).0 ∷ [])) ≡ true) → is_some (end past n) ≡ true
  closed_by ended = ap (λ m. is_some (end past m)) (child_last of n first.0).1 ∙ ended

  began_as : is_some (start past (of ++ (child_last of n first.0).0 ∷ [])) ≡ true
  began_as = ap (λ m. is_some (start past m)) (sym (child_last of n first.0).1) ∙ first_started of past n first

  pub committed_ended : is_committed (outcome past of) ≡ true → is_some (end past n) ≡ true
  committed_ended committed = closed_by ((lawful past (legal_orderly setting past legal)).committed_closed of (child_last of n first.0).0 nonroot committed began_as)

  pub ready_ended : is_ready past of ≡ true → is_some (end past n) ≡ true
  ready_ended ready = closed_by ((lawful past (legal_orderly setting past legal)).ready_closed of (child_last of n first.0).0 nonroot ready began_as)

  pub first_unready : is_ready past n ≡ true → ⊥
  first_unready ready = let one = ready_top setting past n legal ready in let long = child_longer of n first.0 in omega (arith, one, long, nonroot)

-- WHERE AN ABORT IS REFUSED

-- a refusal to begin stands later
pub refused_still : (newer seen : Past) (of : Name) (why : TxNo) → RefusedSo seen of why → RefusedSo (newer ++ seen) of why
refused_still newer seen of (tx_no.Orphan a) h = ((h.0.0, ended_still newer seen a IsAbort h.0.1), tt)
refused_still newer seen of tx_no.Ended h = (some_stays (λ e. end_in of e.event) newer seen h.0, tt)
refused_still newer seen of tx_no.Ready h = (some_stays (λ e. ready_in of e.event) newer seen h.0, tt)
refused_still newer seen of (tx_no.Short s) h = absurd h.1
refused_still newer seen of (tx_no.ChildrenOpen child) h = absurd h.1
refused_still newer seen of (tx_no.Conflict copy holder) h = absurd h.1
refused_still newer seen of (tx_no.NoQuorum lack) h = absurd h.1
refused_still newer seen of tx_no.Last h = absurd h.1
refused_still newer seen of tx_no.Ledger h = absurd h.1

-- it stands so later
pub refused_further : (newer seen : Past) (of : Name) (why : TxNo) → RefusedSo seen of why → (why ≡ tx_no.Ready → ⊥) → (setting : Setting) → Legal setting (newer ++ seen) → 0 < length of → (n : Name) → IsFirst of (newer ++ seen) n
    → is_committed (outcome (newer ++ seen) (refused_by of why)) ≡ true → is_some (end (newer ++ seen) n) ≡ true
refused_further newer seen of (tx_no.Orphan a) refused other setting legal nonroot n first committed = absurd (not_committed (end (newer ++ seen) a) (ended_still newer seen a IsAbort refused.0.1) committed)
refused_further newer seen of tx_no.Ended refused other setting legal nonroot n first committed = committed_ended setting (newer ++ seen) legal of nonroot n first committed
refused_further newer seen of tx_no.Ready refused other setting legal nonroot n first committed = absurd (other refl)
refused_further newer seen of (tx_no.Short s) refused other setting legal nonroot n first committed = absurd refused.1
refused_further newer seen of (tx_no.ChildrenOpen child) refused other setting legal nonroot n first committed = absurd refused.1
refused_further newer seen of (tx_no.Conflict copy holder) refused other setting legal nonroot n first committed = absurd refused.1
refused_further newer seen of (tx_no.NoQuorum lack) refused other setting legal nonroot n first committed = absurd refused.1
refused_further newer seen of tx_no.Last refused other setting legal nonroot n first committed = absurd refused.1
refused_further newer seen of tx_no.Ledger refused other setting legal nonroot n first committed = absurd refused.1

-- the abort made nothing, and the try has ended
pub first_refused : (c : Client) (of n above : Name) (before now : Past) (why : TxNo) → 0 < length of → IsFirst of now n → (is_committed (outcome now above) ≡ true → is_some (end now n) ≡ true)
    → NotAborted c n (cause.Orphan above) before now why → ((s : Short) → why ≡ tx_no.Short s → ⊥) → Made c [] before now × (is_some (end now n) ≡ true)
first_refused c of n above before now (tx_no.Short s) nonroot first committed h other = absurd (other s refl)
first_refused c of n above before now tx_no.Ended nonroot first committed h other = (
  h.0,
  elim h.1 [
    | inl ended ↦ ended
    | inr none ↦ committed none
  ],
)
first_refused c of n above before now tx_no.Ready nonroot first committed h other = absurd (first_unready c.setting now h.0.legal of nonroot n first h.1)
first_refused c of n above before now (tx_no.Orphan a) nonroot first committed h other = absurd h.1
first_refused c of n above before now (tx_no.ChildrenOpen child) nonroot first committed h other = absurd h
first_refused c of n above before now (tx_no.Conflict copy holder) nonroot first committed h other = absurd h
first_refused c of n above before now (tx_no.NoQuorum lack) nonroot first committed h other = absurd h
first_refused c of n above before now tx_no.Last nonroot first committed h other = absurd h
first_refused c of n above before now tx_no.Ledger nonroot first committed h other = absurd h

-- AS THEY ARE TOLD OF BRANCHES

pub firsts_back : (c : Client) (bs : List StandingBranch) (above : List (Option Name)) → aborts_of c (map (λ (b : StandingBranch). b.first) bs) above ≡ turns_back c (map branch_in bs) above
firsts_back c [] above = refl
firsts_back c (b ∷ bs) [] = refl
firsts_back c (b ∷ bs) (Some a ∷ above) = ap (λ l. l ++ by_client c (event.End b.first (Abort (cause.Orphan a))) ∷ []) (firsts_back c bs above)
firsts_back c (b ∷ bs) (None ∷ above) = firsts_back c bs above

pub firsts_ended : (past : Past) (bs : List StandingBranch) → AllByRecursion (λ n. is_some (end past n) ≡ true) (map (λ (b : StandingBranch). b.first) bs) → AllByRecursion (λ (b : Branch). is_some (end past b.first) ≡ true) (map branch_in bs)
firsts_ended past [] all = tt
firsts_ended past (b ∷ bs) all = (all.0, firsts_ended past bs all.1)

-- what some aborts are, and all of them
abbrev pub Back : Client → List StandingBranch → Past → Past → Type 0
Back c bs before now = (above : List (Option Name)) × Made c (turns_back c (map branch_in bs) above) before now

pub back_some : (c : Client) (bs : List StandingBranch) (before now : Past) → TurnedSome c (map (λ (b : StandingBranch). b.first) bs) before now → Back c bs before now
back_some c bs before now turned = (turned.0, subst (λ es. Made c es before now) (firsts_back c bs turned.0) turned.1)

pub back_all : (c : Client) (of : Name) (bs : List StandingBranch) (before now : Past) (why : TxNo) → Legal c.setting before → 0 < length of → RefusedSo before of why → AllByRecursion (IsFirst of before) (map (λ (b : StandingBranch). b.first) bs)
    → TurnedAll c why (map (λ (b : StandingBranch). b.first) bs) before now → Back c bs before now × AllByRecursion (λ (b : Branch). is_some (end now b.first) ≡ true) (map branch_in bs)
back_all c of bs before now tx_no.Ready legal nonroot refused firsts turned =
    ready_all now turned
  where
    each : (l : List Name) → AllByRecursion (IsFirst of before) l → AllByRecursion (λ n. is_some (end before n) ≡ true) l
    each [] all = tt
    each (n ∷ l) all = (ready_ended c.setting before legal of nonroot n all.0 refused.0, each l all.1)

    ready_all : (x : Past) → x ≡ before → Back c bs before x × AllByRecursion (λ (b : Branch). is_some (end x b.first) ≡ true) (map branch_in bs)
    ready_all x is = subst (λ y. Back c bs before y × AllByRecursion (λ (b : Branch). is_some (end y b.first) ≡ true) (map branch_in bs)) (sym is)
        (([], subst (λ es. Made c es before before) (sym (none_back c (map branch_in bs))) (made_itself c before legal)), firsts_ended before bs (each (map (λ (b : StandingBranch). b.first) bs) firsts))
back_all c of bs before now (tx_no.Orphan a) legal nonroot refused firsts turned = (back_some c bs before now turned.0, firsts_ended now bs turned.1)
back_all c of bs before now tx_no.Ended legal nonroot refused firsts turned = (back_some c bs before now turned.0, firsts_ended now bs turned.1)
back_all c of bs before now (tx_no.Short s) legal nonroot refused firsts turned = absurd refused.1
back_all c of bs before now (tx_no.ChildrenOpen child) legal nonroot refused firsts turned = absurd refused.1
back_all c of bs before now (tx_no.Conflict copy holder) legal nonroot refused firsts turned = absurd refused.1
back_all c of bs before now (tx_no.NoQuorum lack) legal nonroot refused firsts turned = absurd refused.1
back_all c of bs before now tx_no.Last legal nonroot refused firsts turned = absurd refused.1
back_all c of bs before now tx_no.Ledger legal nonroot refused firsts turned = absurd refused.1
