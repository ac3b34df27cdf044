-- Locks go on to follow a copy's grants once it has granted.
use Rattle.std.proofs.Common.{◌≡◌, ◌<◌, true, List, ◌∷◌, length, sym, ap, subst}
use Rattle.std.specs.Prelude.{Result, Ok, Err, OnOk, OnErr}
use Rattle.qc_event.specs.declared.event.Event.TheVariants as event
use Rattle.qc_event.specs.declared.event.Grant.{Grant}
use Rattle.qc_event.specs.Base.{Setting}
use Rattle.qc_event.specs.History.{Past, grants}
use Rattle.qc_event.specs.Legal.{Legal}
use Rattle.qc_moss.specs.Follows.{TableFollows}
use Rattle.qc_moss.specs.Locks.{Table, granted_to}
use Rattle.qc_moss.proofs.Tables.{granted, grows}
use Rattle.qc_desk.specs.declared.view.View.{View}
use Rattle.qc_desk.specs.Calling.{Entered}
use Rattle.qc_desk.specs.Entries.{IsSince, entry}
use Rattle.qc_desk.specs.Refusing.{against_nothing}
use Rattle.qc_desk.proofs.Consulting.{follows_since}

-- room that is made, or not, changes no lock
pub reserved_follows : {T E : Type 0} (r : Result T E) (past : Past) (given : List Grant) (old new : Table) → OnOk r (new ≡ record old { reserved = true }) → OnErr r (new ≡ old) → TableFollows past given old → TableFollows past given new
reserved_follows (Ok x) past given old new ok err follows = subst (TableFollows past given) (sym ok) follows
reserved_follows (Err e) past given old new ok err follows = subst (TableFollows past given) (sym err) follows

pub reserved_start : {T E : Type 0} (r : Result T E) (old new : Table) → OnOk r (new ≡ record old { reserved = true }) → OnErr r (new ≡ old) → new.start ≡ old.start
reserved_start (Ok x) old new ok err = ap (λ (t : Table). t.start) ok
reserved_start (Err e) old new ok err = ap (λ (t : Table). t.start) err

-- a grant that was entered
pub follows_granted : (setting : Setting) (v w : View) (g : Grant) (table : Table) → v.number ≡ 2 → g.rec < length table.held → Entered against_nothing (event.Granted 0 g) v w → Legal setting w.seen → TableFollows v.seen (grants v.seen 0) table
    → TableFollows w.seen (grants w.seen 0) (granted_to table g.access g.rec g.op)
follows_granted setting v w g table number within (before, since, none, same) legal follows =
    subst (λ p. TableFollows p (grants p 0) (granted_to table g.access g.rec g.op)) (sym seen)
    (granted (entry v.number (event.Granted 0 g) ∷ before) (grants before 0) table g within (grows before (entry v.number (event.Granted 0 g)) (grants before 0) table then))
  where
    seen : w.seen ≡ entry v.number (event.Granted 0 g) ∷ before
    seen = ap (λ (x : View). x.seen) same

    then : TableFollows before (grants before 0) table
    then = follows_since setting v.seen before 0 table (subst (Legal setting) seen legal).0 (subst (λ n. IsSince n v.seen before) number since) follows
