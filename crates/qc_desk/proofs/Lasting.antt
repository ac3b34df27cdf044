-- Licences that stand once they were seen.
use Rattle.std.proofs.Common.{ℕ, false, ◌++◌, inl, inr}
use Rattle.std.specs.Prelude.{is_some, ◌&&◌, ◌==◌, nat_le}
use Rattle.std.specs.Option.{option_map_or}
use Rattle.std.proofs.lemmas.Bool.{or_cases, or_left, or_right}
use Rattle.qc_event.specs.declared.event.Cause.{Cause}
use Rattle.qc_event.specs.declared.event.Cause.TheVariants as cause
use Rattle.qc_event.specs.declared.event.Entry.{Entry}
use Rattle.qc_event.specs.declared.event.How.TheVariants.{Abort}
use Rattle.qc_event.specs.Aborts.{AccessCause}
use Rattle.qc_event.specs.History.{Past, Name, gone, refused}
use Rattle.qc_event.specs.Standing.{IsAbort, IsUser, IsManager, IsOrphanOf}
use Rattle.qc_event.specs.Users.{ChildAborted, UserCause, mark_of, top_number}
use Rattle.qc_event.proofs.Booleans.{any_right}
use Rattle.qc_event.proofs.Later.{started_still}
use Rattle.qc_event.proofs.StillTold.{match_stays, some_stays, is_stays}

pub orphan_stays : (newer past : Past) (n a : Name) → IsOrphanOf past n a → IsOrphanOf (newer ++ past) n a
orphan_stays newer past n a o = record { above = o.above; not_itself = o.not_itself; aborted = match_stays _ newer past IsAbort o.aborted }

pub access_cause_stays : (newer past : Past) (n : Name) (c : Cause) → AccessCause past n c → AccessCause (newer ++ past) n c
access_cause_stays newer past n cause.Missed h = elim (or_cases (is_some (gone past n)) (is_some (refused past n)) h) [
  | inl was ↦ or_left (is_some (gone (newer ++ past) n)) (is_some (refused (newer ++ past) n)) (some_stays _ newer past was)
  | inr was ↦ or_right (is_some (gone (newer ++ past) n)) (is_some (refused (newer ++ past) n)) (some_stays _ newer past was)
]
access_cause_stays newer past n (cause.Orphan a) h = orphan_stays newer past n a h
access_cause_stays newer past n (cause.Conflict c x) h = absurd h
access_cause_stays newer past n (cause.NoQuorum l) h = absurd h
access_cause_stays newer past n cause.Last h = absurd h
access_cause_stays newer past n (cause.Asked x) h = absurd h
access_cause_stays newer past n cause.Killed h = absurd h
access_cause_stays newer past n (cause.Child x) h = absurd h

child_stays : (newer past : Past) (n : Name) (c : Cause) → ChildAborted past n c → ChildAborted (newer ++ past) n c
child_stays newer past n c a = record {
  child = a.child;
  is_one = a.is_one;
  manages = started_still newer past a.child (λ b. IsManager b.kind) a.manages;
  ended = is_stays _ newer past (Abort c) a.ended;
}

pub user_cause_stays : (newer past : Past) (n : Name) (session : ℕ) (c : Cause) → UserCause past n session c → UserCause (newer ++ past) n session c
user_cause_stays newer past n session (cause.Asked by) h = (started_still newer past by (λ b. IsUser b.kind) h.0, h.1)
user_cause_stays newer past n session (cause.Orphan a) h = orphan_stays newer past n a h
user_cause_stays newer past n session cause.Killed h = any_right (λ (e : Entry). option_map_or (λ m. (m.1 == session) && nat_le (top_number n) (top_number m.0)) (mark_of e.event) false) newer past h
user_cause_stays newer past n session (cause.Child c) h = (h.0, started_still newer past c (λ b. IsUser b.kind) h.1, match_stays _ newer past IsAbort h.2)
user_cause_stays newer past n session cause.Missed h = absurd h
user_cause_stays newer past n session (cause.Conflict copy x) h = child_stays newer past n (cause.Conflict copy x) h
user_cause_stays newer past n session (cause.NoQuorum lack) h = child_stays newer past n (cause.NoQuorum lack) h
user_cause_stays newer past n session cause.Last h = child_stays newer past n cause.Last h
