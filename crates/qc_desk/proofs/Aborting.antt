-- What was licensed by what was seen still is after all that others entered, so the abort is allowed.
use Rattle.std.proofs.Common.{◌≡◌, ℕ, ◌++◌, refl, sym, ap, ◌∙◌, subst}
use Rattle.std.specs.Prelude.{None, Some, MatchOption, IsTrue, not, is_some}
use Rattle.qc_names.specs.Name as name
use Rattle.qc_event.specs.declared.event.Cause.{Cause}
use Rattle.qc_event.specs.declared.event.Event.TheVariants as event
use Rattle.qc_event.specs.declared.event.How.TheVariants.{Abort}
use Rattle.qc_event.specs.declared.event.Kind.{Kind}
use Rattle.qc_event.specs.declared.event.Kind.TheVariants as kind
use Rattle.qc_event.specs.Aborts.{Licensed, ManagerCause}
use Rattle.qc_event.specs.Base.{Setting}
use Rattle.qc_event.specs.History.{Past, Name, Begun, start, start_in}
use Rattle.qc_event.specs.Legal.{Legal, Allowed, MayEnd}
use Rattle.qc_event.specs.Seats.{is_client}
use Rattle.qc_event.specs.Standing.{Started, IsManager}
use Rattle.qc_event.specs.Users.{MayAbort}
use Rattle.qc_desk.specs.Entries.{AreOthers, IsSince, entry}
use Rattle.qc_desk.specs.Refusing.{if_ended, if_ready, against_abort}
use Rattle.qc_event.proofs.Later.{started_still}
use Rattle.qc_event.proofs.OneEntry.{none_before}
use Rattle.qc_event.proofs.Options.{some_there}
use Rattle.qc_event.proofs.StillTold.{is_stays}
use Rattle.qc_desk.proofs.Entering.{not_ended, unready}
use Rattle.qc_desk.proofs.Lasting.{access_cause_stays, user_cause_stays}
use Rattle.qc_desk.proofs.OwnFailing.{cause_stays}

-- what was licensed still is
licence_stays : (setting : Setting) (past newer : Past) (seat : ℕ) (n : Name) (b : Begun) (c : Cause) → Legal setting (newer ++ past) → AreOthers seat newer → start past n ≡ Some b
    → Licensed setting past seat n b b.kind c → Licensed setting (newer ++ past) seat n b b.kind c
licence_stays setting past newer seat n b c legal all begun licensed = by_kind b.kind refl licensed
  where
    manager : (k : Kind) → b.kind ≡ k → IsManager k → ManagerCause setting past n k c × (seat ≡ b.seat) → ManagerCause setting (newer ++ past) n k c × (seat ≡ b.seat)
    manager k of manages h = (
      cause_stays setting past newer seat n (subst (λ o. MatchOption o ⊥ (λ (x : Begun). IsManager x.kind × (x.seat ≡ seat))) (sym begun) (subst IsManager (sym of) manages, sym h.1)) legal all k c h.0,
      h.1,
    )

    by_kind : (k : Kind) → b.kind ≡ k → Licensed setting past seat n b k c → Licensed setting (newer ++ past) seat n b k c
    by_kind (kind.User session body) of h = user_cause_stays newer past n session c h
    by_kind kind.Access of h = (access_cause_stays newer past n c h.0, started_still newer past (name.front n) (λ m. seat ≡ m.seat) h.1)
    by_kind (kind.Read rec) of h = manager (kind.Read rec) of tt h
    by_kind (kind.Write rec value) of h = manager (kind.Write rec value) of tt h
    by_kind (kind.Reconf rec config) of h = manager (kind.Reconf rec config) of tt h

pub abort_allowed : (setting : Setting) (seat : ℕ) (seen now : Past) (n : Name) (c : Cause) → Legal setting now → IsSince seat seen now → IsTrue (is_client seat) → Started seen n (λ b. Licensed setting seen seat n b b.kind c)
    → against_abort n now ≡ None → Allowed setting now (entry seat (event.End n (Abort c)))
abort_allowed setting seat seen now n c legal s client licensed none =
    subst (λ o. MatchOption o ⊥ (MayEnd setting now seat n (Abort c))) (sym begun) may
  where
    there : (b : Begun) × (start seen n ≡ Some b) × Licensed setting seen seat n b b.kind c
    there = some_there (start seen n) (λ b. Licensed setting seen seat n b b.kind c) licensed

    begun : start now n ≡ Some there.0
    begun = ap (λ p. start p n) s.1 ∙ is_stays (λ e. start_in n e.seat e.event) s.0 seen there.0 there.1

    tests : (if_ended now n ≡ None) × (if_ready now n ≡ None)
    tests = none_before (if_ended now n) (if_ready now n) none

    may : MayAbort (Licensed setting now seat n there.0 there.0.kind c) now seat n
    may = record {
      by_client = client;
      is_open = record { started = ap is_some begun; not_ended = not_ended now n tests.0 };
      not_ready = ap not (unready now n tests.1);
      licensed = subst (λ p. Licensed setting p seat n there.0 there.0.kind c) (sym s.1) (licence_stays setting seen s.0 seat n there.0 c (subst (Legal setting) s.1 legal) s.2 there.1 there.2);
    }
