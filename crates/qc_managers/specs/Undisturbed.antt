-- When a manager meets no trouble, and why its accesses are missing.
use Rattle.std.specs.Prelude.{ℕ, ◌≡◌, Bool, false, IsTrue, All, None, MatchOption}
use Rattle.std.specs.List.{list_any}
use Rattle.qc_config.specs.Config.{IsLegal}
use Rattle.qc_event.specs.Base.{Setting}
use Rattle.qc_event.specs.Counts.{Rose}
use Rattle.qc_event.specs.Dead.{dead}
use Rattle.qc_event.specs.declared.event.Ask.{Ask}
use Rattle.qc_event.specs.declared.event.Kind.{Kind}
use Rattle.qc_event.specs.declared.event.Why.{Why}
use Rattle.qc_event.specs.declared.event.Why.TheVariants.{Lost, Late}
use Rattle.qc_event.specs.History.{Past, Name, asks}
use Rattle.qc_event.specs.Manager.{Stage, blocked_by, at_last_number, stage, first_for}
use Rattle.qc_event.specs.Requests.{is_fault, was_unable}
use Rattle.qc_managers.specs.Told.{Told, why_in}
use Rattle.qc_managers.specs.declared.no.MgrNo.{MgrNo}
use Rattle.qc_managers.specs.declared.no.MgrNo.TheVariants as no

-- whether a copy was unable, for a reason, to serve an access of a manager
abbrev pub any_unable : Past → Name → Why → Bool
any_unable past m why = list_any (λ (ask : Ask). was_unable past ask.access why) (asks past m)

-- what a reason for no answer stands on: a trouble of the link, or a copy's own word
abbrev pub StandsOn : Past → Name → Type 0 → Why → Type 0
StandsOn past m Trouble Lost = Trouble
StandsOn past m Trouble Late = Trouble
StandsOn past m Trouble why = IsTrue (any_unable past m why)

-- Where what a manager was told is that an access is missing, its reason stands on something.
abbrev pub TellHasCause : Past → Name → Type 0 → Told → Type 0
TellHasCause past m Trouble t = MatchOption (why_in t) (Unit {0}) (StandsOn past m Trouble)

-- No copy was unable to serve an access: it was not down or full, nor in a strange state.
abbrev pub IsAble : Past → Ask → Type 0
IsAble past ask = (why : Why) → IsTrue (is_fault why) → was_unable past ask.access why ≡ false

-- A manager was not disturbed while the count of troubles went from one number to another: the link gave no
-- trouble, no copy was unable to serve an access of the manager, no access of it is blocked, no ancestor of it
-- and not itself is aborted, its number is not the last one, and the configuration of its stage is legal.
pub record IsUndisturbed (setting : Setting) (past : Past) (m : Name) (k : Kind) (before now : ℕ) : Type 0 where
  pub quiet : Rose before now → ⊥
  pub able : All (IsAble past) (asks past m)
  pub free : All (λ (ask : Ask). blocked_by past ask.access ≡ None) (asks past m)
  pub alive : dead past m ≡ None
  pub not_last : at_last_number past (first_for setting k) m k ≡ false
  pub legal : MatchOption (stage past (first_for setting k) m k) (Unit {0}) (λ (s : Stage). IsLegal s.config)

-- memory or room was wanting
abbrev pub IsShortage : MgrNo → Type 0
IsShortage (no.Short short) = Unit {0}
IsShortage _ = ⊥
