-- For which causes managers and accesses may be aborted.
use Rattle.std.specs.Prelude.{ℕ, ◌≡◌, ◌==◌, Bool, ◌||◌, IsTrue, map, is_some, None, Some, MatchOption}
use Rattle.std.specs.List.{list_all}
use Rattle.qc_config.specs.Config.{votes_of}
use Rattle.qc_names.specs.Name as name
use Rattle.qc_event.specs.Base.{Setting}
use Rattle.qc_event.specs.declared.event.Ask.{Ask}
use Rattle.qc_event.specs.declared.event.Cause.{Cause}
use Rattle.qc_event.specs.declared.event.Cause.TheVariants as cause
use Rattle.qc_event.specs.declared.event.Kind.{Kind}
use Rattle.qc_event.specs.declared.event.Kind.TheVariants as kind
use Rattle.qc_event.specs.declared.event.Lack.{Lack}
use Rattle.qc_event.specs.History.{Past, Name, Begun, gone, refused}
use Rattle.qc_event.specs.Manager.{Stage, HasFailed, AtStage, at_last_number, first_for, first_blocked, blocked_by, has_replied, replied, missing_at, all_copies}
use Rattle.qc_event.specs.Standing.{Started, IsOrphanOf}
use Rattle.qc_event.specs.Users.{UserCause}

-- the request was to this copy, and its access is blocked by this holder
pub record IsBlockedThere (past : Past) (copy : ℕ) (h : Name) (ask : Ask) : Type 0 where
  pub there : ask.copy ≡ copy
  pub holder : blocked_by past ask.access ≡ Some h

-- A manager failed by a conflict: it names the first copy asked at its stage that is blocked, and the holder there.
pub record FailedByConflict (past : Past) (m : Name) (copy : ℕ) (h : Name) (s : Stage) : Type 0 where
  pub failed : HasFailed past m s
  pub first : MatchOption (first_blocked past m s.phase) ⊥ (IsBlockedThere past copy h)

-- whether a copy has no votes at a stage, replied there, or is missing there
abbrev pub is_known : Past → Name → Stage → ℕ → Bool
is_known past m s copy = (votes_of s.config copy == 0) || has_replied past m s.phase copy || is_some (missing_at past m s.phase copy)

-- A manager failed for want of a quorum: no copy is blocked at its stage, and each with votes there replied
-- or is missing. It tells who replied and why others are missing.
pub record FailedByLack (past : Past) (m : Name) (lack : Lack) (s : Stage) : Type 0 where
  pub failed : HasFailed past m s
  pub none_blocked : first_blocked past m s.phase ≡ None
  pub each_known : IsTrue (list_all (is_known past m s) all_copies)
  pub same_phase : lack.phase ≡ s.phase
  pub who_replied : lack.replied ≡ replied past m s.phase
  pub who_is_missing : lack.missing ≡ map (missing_at past m s.phase) all_copies

-- the causes for which a manager of a kind may be aborted
abbrev pub ManagerCause : Setting → Past → Name → Kind → Cause → Type 0
ManagerCause setting past m k (cause.Conflict copy h) = AtStage setting past m k (FailedByConflict past m copy h)
ManagerCause setting past m k (cause.NoQuorum lack) = AtStage setting past m k (FailedByLack past m lack)
ManagerCause setting past m k cause.Last = IsTrue (at_last_number past (first_for setting k) m k)
ManagerCause setting past m k (cause.Orphan a) = IsOrphanOf past m a
ManagerCause setting past m k _ = ⊥

-- the causes for which an access may be aborted: it was given up or refused, or is an orphan
abbrev pub AccessCause : Past → Name → Cause → Type 0
AccessCause past n cause.Missed = IsTrue (is_some (gone past n) || is_some (refused past n))
AccessCause past n (cause.Orphan a) = IsOrphanOf past n a
AccessCause past n _ = ⊥

-- Whether a cause is licensed, by the kind. A manager and its accesses end under the manager's seat.
abbrev pub Licensed : Setting → Past → ℕ → Name → Begun → Kind → Cause → Type 0
Licensed setting past seat n b (kind.User session body) c = UserCause past n session c
Licensed setting past seat n b kind.Access c = AccessCause past n c × Started past (name.front n) (λ m. seat ≡ m.seat)
Licensed setting past seat n b k c = ManagerCause setting past n k c × (seat ≡ b.seat)
