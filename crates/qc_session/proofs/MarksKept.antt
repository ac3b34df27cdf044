-- What a client that calls made: no mark that it does not know, so it knows of its marks what it knew.
use Rattle.std.proofs.Common.{◌≡◌, ◌⊎◌, ⊎_elim, List, [], ◌∷◌, sym, subst}
use Rattle.std.proofs.Math.Logic.{∥∥₁_map}
use Rattle.std.specs.Prelude.{Result, Ok, Err, IfOk, IfErr, OnOk}
use Rattle.qc_board.specs.Boards.{Mark}
use Rattle.qc_event.specs.declared.event.Answer.{Answer}
use Rattle.qc_event.specs.declared.event.Cause.{Cause}
use Rattle.qc_event.specs.declared.event.Cause.TheVariants as cause
use Rattle.qc_event.specs.declared.event.Event.{Event}
use Rattle.qc_event.specs.declared.event.Event.TheVariants as event
use Rattle.qc_event.specs.declared.event.How.{How}
use Rattle.qc_event.specs.declared.event.How.TheVariants.{Abort, Commit}
use Rattle.qc_event.specs.declared.event.Kind.{Kind}
use Rattle.qc_event.specs.History.{Past, Name}
use Rattle.qc_desk.specs.declared.view.View.{View as Pass}
use Rattle.qc_desk.specs.Entries.{IsOlder}
use Rattle.qc_desk.specs.Rules.{numbers}
use Rattle.qc_script.specs.Calls.{AreOfAccesses, by_client, Committed, GaveNone, IsOfAccess, MadeReady, NotAborted, NotCommitted, Ran, WasCut, WasNotStarted, WasRefused}
use Rattle.qc_script.specs.Client.{Client, Made}
use Rattle.qc_script.specs.declared.tx.TxNo.{TxNo}
use Rattle.qc_script.specs.declared.tx.TxNo.TheVariants as tx_no
use Rattle.qc_session.specs.Marking.{KnowsMark, KnowsMarks}
use Rattle.qc_session.proofs.OwnMarks.{AreKnown, known_both, known_on}
use Rattle.qc_session.proofs.Walks.{same_numbers}

of_access : (marks : List Mark) (m : Name) (ev : Event) → IsOfAccess m ev → KnowsMark marks ev
of_access marks m (event.Mark by s) does = absurd does
of_access marks m _ does = tt

of_accesses : (marks : List Mark) (m : Name) (made : Past) → AreOfAccesses m made → AreKnown marks made
of_accesses marks m [] each = tt
of_accesses marks m (e ∷ made) each = (of_access marks m e.event each.0, of_accesses marks m made each.1)

module _ (c : Client) (marks : List Mark) (before now : Past) where
  -- it made entries of which each mark is among these
  abbrev pub Did : Type 0
  Did = (made : Past) × AreKnown marks made × Made c made before now

  pub did_made : (made : Past) → AreKnown marks made → Made c made before now → Did
  did_made made known m = (made, known, m)

  pub did_none : Made c [] before now → Did
  did_none m = did_made [] tt m

  did_run : (of : Name) (k : Kind) (how : How) → Ran c of k how before now → Did
  did_run of k how r = did_made _ (tt, known_both marks r.inner _ (of_accesses marks r.manager r.inner r.of_accesses) (tt, tt)) r.made

  did_cut : (of : Name) (k : Kind) → WasCut c of k before now → Did
  did_cut of k r = did_made _ (known_both marks r.inner _ (of_accesses marks r.manager r.inner r.of_accesses) (tt, tt)) r.made

  did_refused : (of : Name) (why : TxNo) → WasRefused c of before now why → Did
  did_refused of (tx_no.ChildrenOpen child) h = absurd h
  did_refused of _ h = did_none h.0

  did_not_start : (of : Name) (why : TxNo) → WasNotStarted c of before now why → Did
  did_not_start of why h = did_none h.0

  did_gave_none : (of : Name) (k : Kind) (why : TxNo) → GaveNone c of k before now why → Did
  did_gave_none of k (tx_no.Orphan a) h = ⊎_elim (did_not_start of (tx_no.Orphan a)) (did_run of k (Abort (cause.Orphan a))) h.2
  did_gave_none of k (tx_no.Conflict copy holder) h = did_run of k (Abort (cause.Conflict copy holder)) h
  did_gave_none of k (tx_no.NoQuorum lack) h = did_run of k (Abort (cause.NoQuorum lack)) h
  did_gave_none of k tx_no.Last h = did_run of k (Abort cause.Last) h
  did_gave_none of k (tx_no.Short s) h = ⊎_elim (did_not_start of (tx_no.Short s)) (did_cut of k) h.0
  did_gave_none of k tx_no.Ended h = did_none h.0
  did_gave_none of k tx_no.Ready h = did_none h.0
  did_gave_none of k tx_no.Ledger h = did_none h.0
  did_gave_none of k (tx_no.ChildrenOpen child) h = absurd h.2

  did_not_aborted : (of : Name) (why : Cause) (no : TxNo) → NotAborted c of why before now no → Did
  did_not_aborted of why (tx_no.Short s) h = did_none h.0
  did_not_aborted of why tx_no.Ended h = did_none h.0
  did_not_aborted of why tx_no.Ready h = did_none h.0
  did_not_aborted of why (tx_no.Orphan a) h = did_none h.0
  did_not_aborted of why _ h = absurd h

  did_committed : (of : Name) → Committed c of before now → Did
  did_committed [] h = did_made _ (tt, tt) h
  did_committed (number ∷ []) h = did_made _ (tt, tt) h.0
  did_committed (number ∷ x ∷ rest) h = did_made _ (tt, tt) h

  did_ready : (of : Name) → Made c [] before now ⊎ MadeReady c of before now → Did
  did_ready of h = ⊎_elim did_none (λ (ready : MadeReady c of before now). did_made _ (tt, tt) ready.1) h

  did_not_committed : (of : Name) (no : TxNo) → NotCommitted c of before now no → Did
  did_not_committed of tx_no.Ledger h = did_made _ (tt, tt) h.1
  did_not_committed of (tx_no.Short s) h = did_ready of h.0
  did_not_committed of _ h = did_none h.0

  -- a manager ran for its client, or gave none
  pub did_manager : (r : Result Answer TxNo) (of : Name) (k : Kind) → IfOk r (λ given. Ran c of k (Commit given) before now) → IfErr r (GaveNone c of k before now) → Did
  did_manager (Ok given) of k ok err = did_run of k (Commit given) ok
  did_manager (Err why) of k ok err = did_gave_none of k why err

  -- a user transaction was started, or refused
  pub did_begun : (r : Result Name TxNo) (of : Name) (k : Kind) → IfOk r (λ n. Made c (by_client c (event.Start n k) ∷ []) before now) → IfErr r (WasRefused c of before now) → Did
  did_begun (Ok n) of k ok err = did_made _ (tt, tt) ok
  did_begun (Err why) of k ok err = did_refused of why err

  -- one was aborted, or not
  pub did_aborted : (r : Result (Unit {0}) TxNo) (of : Name) (why : Cause) → OnOk r (Made c (by_client c (event.End of (Abort why)) ∷ []) before now) → IfErr r (NotAborted c of why before now) → Did
  did_aborted (Ok done) of why ok err = did_made _ (tt, tt) ok
  did_aborted (Err e) of why ok err = did_not_aborted of why e err

  -- one committed, or not
  pub did_ended : (r : Result (Unit {0}) TxNo) (of : Name) → OnOk r (Committed c of before now) → IfErr r (NotCommitted c of before now) → Did
  did_ended (Ok done) of ok err = did_committed of ok
  did_ended (Err e) of ok err = did_not_committed of e err

  -- what it knew of its marks, it knows still
  pub kept : Did → KnowsMarks (c.number ∷ c.kin) before marks → KnowsMarks (c.number ∷ c.kin) now marks
  kept did was = known_on (c.number ∷ c.kin) marks did.2.newer before now did.0 did.2.grown did.2.made did.1 was

  pub grown_by : Did → IsOlder before now
  grown_by did = (did.2.newer, did.2.grown)

-- what a client keeps, by the numbers that its pass has then
pub still_known : (v w : Pass) (marks marks' : List Mark) → w.number ≡ v.number → w.kin ≡ v.kin → (KnowsMarks (numbers v) v.seen marks → KnowsMarks (numbers v) w.seen marks') → ∥ KnowsMarks (numbers v) v.seen marks ∥₁ → ∥ KnowsMarks (numbers w) w.seen marks' ∥₁
still_known v w marks marks' number kin kept was = subst (λ ns. ∥ KnowsMarks ns w.seen marks' ∥₁) (sym (same_numbers v w number kin)) (∥∥₁_map was kept)
