-- What a pass and a seer know while the history goes on.
use Rattle.std.proofs.Common.{◌≡◌, ℕ, true, [], ◌∷◌, ◌++◌, sym, ap, ◌∙◌, append_assoc, subst, inl, inr}
use Rattle.qc_event.specs.Base.{Setting}
use Rattle.qc_event.specs.declared.event.Event.TheVariants as event
use Rattle.qc_event.specs.declared.event.Grant.{Grant}
use Rattle.qc_event.specs.declared.event.Why.{Why}
use Rattle.qc_event.specs.Grants.{MayGrant}
use Rattle.qc_event.specs.History.{Past, Name, ask_in, ready_in}
use Rattle.qc_event.specs.Legal.{Legal, Allowed}
use Rattle.qc_event.specs.Requests.{MayBeUnable}
use Rattle.qc_desk.specs.declared.view.View.{View}
use Rattle.qc_desk.specs.Calling.{IsLook, Shown}
use Rattle.qc_desk.specs.Entries.{AreOthers, IsOlder, IsSince, entry}
use Rattle.qc_desk.specs.Rules.{knows}
use Rattle.qc_desk.proofs.NoGrants.{grant_still_allowed, others_grant_none}
use Rattle.qc_event.proofs.StillTold.{match_stays, some_stays}

pub older_trans : (a b c : Past) → IsOlder a b → IsOlder b c → IsOlder a c
older_trans a b c p q = (q.0 ++ p.0, q.1 ∙ ap (λ x. q.0 ++ x) p.1 ∙ sym (append_assoc q.0 p.0 a))

others_append : (seat : ℕ) (xs ys : Past) → AreOthers seat xs → AreOthers seat ys → AreOthers seat (xs ++ ys)
others_append seat [] ys a b = b
others_append seat (x ∷ xs) ys a b = (a.0, others_append seat xs ys a.1 b)

pub since_trans : (seat : ℕ) (a b c : Past) → IsSince seat a b → IsSince seat b c → IsSince seat a c
since_trans seat a b c p q = (q.0 ++ p.0, q.1 ∙ ap (λ x. q.0 ++ x) p.1 ∙ sym (append_assoc q.0 p.0 a), others_append seat q.0 p.0 q.2 p.2)

-- a seer that looked at one history and then at a later one was shown the later one
pub shown_twice : (v u w : View) (old old' now now' : Past) → IsOlder v.seen old → (v.live ≡ true → IsSince v.number v.seen old) → IsLook old old' v u
    → IsOlder u.seen now → (u.live ≡ true → IsSince u.number u.seen now) → IsLook now now' u w → Shown v w
shown_twice v u w old old' now now' p s l q t k =
    let mid : u.seen ≡ old = ap (λ (x : View). x.seen) l.1 in
    let is : w ≡ knows now v = k.1 ∙ ap (λ x. knows now x) l.1 in
    let seen : w.seen ≡ now = ap (λ (x : View). x.seen) is in (
      subst (IsOlder v.seen) (sym seen) (older_trans v.seen old now p (subst (λ x. IsOlder x now) mid q)),
      is ∙ ap (λ x. knows x v) (sym seen),
      λ live. subst (IsSince v.number v.seen) (sym seen) (since_trans v.number v.seen old now (s live)
          (subst (λ (x : ℕ × Past). IsSince x.0 x.1 now) (λ i. ((l.1 i).number, mid i)) (t (ap (λ (x : View). x.live) l.1 ∙ live)))),
    )

-- WHAT COPIES, THE LEDGER AND CLIENTS ENTER BY WHAT A SEER SAW

pub unable_later : (seen now : Past) (seat : ℕ) (n : Name) (why : Why) → IsOlder seen now → MayBeUnable seen seat n why → MayBeUnable now seat n why
unable_later seen now seat n why older may = subst (λ p. MayBeUnable p seat n why) (sym older.1) (by_who may)
  where
    by_who : MayBeUnable seen seat n why → MayBeUnable (older.0 ++ seen) seat n why
    by_who (inl copy) = inl record { asked_there = match_stays (λ e. ask_in n e.seat e.event) older.0 seen _ copy.asked_there; fault = copy.fault }
    by_who (inr ledger) = inr record { ledger = ledger.ledger; is_top = ledger.is_top; ready = some_stays (λ e. ready_in n e.event) older.0 seen ledger.ready; fault = ledger.fault }

pub grant_enters : (setting : Setting) (seat copy : ℕ) (seen now : Past) (grant : Grant) → Legal setting now → IsSince seat seen now → MayGrant setting seen seat copy grant → Allowed setting now (entry seat (event.Granted copy grant))
grant_enters setting seat copy seen now grant legal s may =
    let here = subst (Legal setting) s.1 legal in
    subst (λ p. MayGrant setting p seat copy grant) (sym s.1)
    (grant_still_allowed setting seen s.0 seat copy grant here (others_grant_none setting seen copy s.0 here (subst (λ n. AreOthers n s.0) may.by_copy s.2)) may)
