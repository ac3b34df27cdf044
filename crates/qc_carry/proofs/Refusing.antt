-- What a desk's refusal of a call tells, by the tests of the call.
use Rattle.std.proofs.Common.{◌≡◌, Bool, true, false, inl, inr}
use Rattle.std.specs.Prelude.{Option, None, Some, if◌then◌else◌}
use Rattle.std.specs.Option.{option_or, option_map}
use Rattle.qc_event.specs.Dead.{dead, outcome, is_live, is_committed}
use Rattle.qc_event.specs.History.{Past, Name, is_ready}
use Rattle.qc_event.specs.Wants.{IsWant}
use Rattle.qc_event.specs.declared.short.Short.{Short}
use Rattle.qc_event.proofs.Wanting.{want_of}
use Rattle.qc_desk.specs.declared.refusal.DeskNo.{DeskNo}
use Rattle.qc_desk.specs.declared.refusal.DeskNo.TheVariants as no
use Rattle.qc_desk.specs.declared.view.View.{View}
use Rattle.qc_desk.specs.Calling.{Refused}
use Rattle.qc_desk.specs.Refusing.{against_child, against_access, against_abort, Refuses}
use Rattle.qc_carry.specs.Access.{IsShort, no_of}
use Rattle.qc_carry.proofs.Walking as walking

same_orphan : (x a : Name) → Some (no.Orphan x) ≡ Some (no.Orphan a) → Some x ≡ Some a
same_orphan x a h = cc

-- a child is refused as an orphan where its parent is dead
child_orphan : (b : Bool) (o : Option Name) (r : Bool) (a : Name) → option_or (if b then Some no.Ended else None) (option_or (option_map (λ x. no.Orphan x) o) (if r then Some no.Ready else None)) ≡ Some (no.Orphan a) → o ≡ Some a
child_orphan true o r a h = absurd cc
child_orphan false (Some x) r a h = same_orphan x a h
child_orphan false None true a h = absurd cc
child_orphan false None false a h = absurd cc

child_short : (b : Bool) (o : Option Name) (r : Bool) (s : Short) → option_or (if b then Some no.Ended else None) (option_or (option_map (λ x. no.Orphan x) o) (if r then Some no.Ready else None)) ≡ Some (no.Short s) → ⊥
child_short true o r s h = cc
child_short false (Some x) r s h = cc
child_short false None true s h = cc
child_short false None false s h = cc

pub child_dead : (past : Past) (m a : Name) → Refuses (against_child m) past (no.Orphan a) → dead past m ≡ Some a
child_dead past m a (inl told) = child_orphan (is_committed (outcome past m)) (dead past m) (is_ready past m) a told
child_dead past m a (inr want) = absurd want.1

pub child_want : (past : Past) (m : Name) (s : Short) → Refuses (against_child m) past (no.Short s) → IsWant past s
child_want past m s (inl told) = absurd (child_short (is_committed (outcome past m)) (dead past m) (is_ready past m) s told)
child_want past m s (inr want) = want_of past s want.1

-- an access is refused as an orphan where it is dead
access_orphan : (o : Option Name) (a : Name) → option_map (λ x. no.Orphan x) o ≡ Some (no.Orphan a) → o ≡ Some a
access_orphan (Some x) a h = same_orphan x a h
access_orphan None a h = absurd cc

access_short : (o : Option Name) (s : Short) → option_map (λ x. no.Orphan x) o ≡ Some (no.Short s) → ⊥
access_short (Some x) s h = cc
access_short None s h = cc

pub access_dead : (past : Past) (n a : Name) → Refuses (against_access n) past (no.Orphan a) → dead past n ≡ Some a
access_dead past n a (inl told) = access_orphan (dead past n) a told
access_dead past n a (inr want) = absurd want.1

pub access_want : (past : Past) (n : Name) (s : Short) → Refuses (against_access n) past (no.Short s) → IsWant past s
access_want past n s (inl told) = absurd (access_short (dead past n) s told)
access_want past n s (inr want) = want_of past s want.1

-- WHAT IS NOT REFUSED BUT FOR MEMORY AND ROOM

abort_orphan : (live ready : Bool) (a : Name) → option_or (if live then None else Some no.Ended) (if ready then Some no.Ready else None) ≡ Some (no.Orphan a) → ⊥
abort_orphan false ready a h = cc
abort_orphan true true a h = cc
abort_orphan true false a h = cc

abort_wants : (live ready : Bool) (s : Short) → option_or (if live then None else Some no.Ended) (if ready then Some no.Ready else None) ≡ Some (no.Short s) → ⊥
abort_wants false ready s h = cc
abort_wants true true s h = cc
abort_wants true false s h = cc

pub abort_short : (n : Name) (v w : View) (why : DeskNo) → Refused (against_abort n) v w why → IsShort v w (no_of why)
abort_short n v w (no.Orphan a) (l, inl told) = absurd (abort_orphan (is_live (outcome w.seen n)) (is_ready w.seen n) a told)
abort_short n v w (no.Orphan a) (l, inr want) = absurd want.1
abort_short n v w (no.Short s) (l, inl told) = absurd (abort_wants (is_live (outcome w.seen n)) (is_ready w.seen n) s told)
abort_short n v w (no.Short s) (l, inr want) = (walking.of_looked v w l, want_of w.seen s want.1)
abort_short n v w no.Ended (l, h) = (walking.of_looked v w l, tt)
abort_short n v w no.Ready (l, h) = (walking.of_looked v w l, tt)
abort_short n v w (no.ChildrenOpen c) (l, h) = (walking.of_looked v w l, tt)
