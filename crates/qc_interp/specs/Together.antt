-- What clients ran together, each its own session.
use Rattle.std.specs.Prelude.{ℕ, ◌≡◌, ◌+◌, true, List, [], ◌∷◌}
use Rattle.std.specs.List.{AllByRecursion, list_all, list_any}
use Rattle.qc_event.specs.declared.event.Entry.{Entry}
use Rattle.qc_event.specs.Base.{Setting}
use Rattle.qc_event.specs.History.{Past}
use Rattle.qc_event.specs.Seats.{is_client}
use Rattle.qc_net.specs.Messages.{meets_fates}
use Rattle.qc_script.specs.Client.{Client, is_own}
use Rattle.qc_script.specs.Plan.{SessionPlan}
use Rattle.qc_interp.specs.FollowsScript.{net_of}
use Rattle.qc_interp.specs.Reach.{Reach}
use Rattle.qc_interp.specs.Session.{EndsTopsAt, InTurnAt}

-- a client below no transaction, whose number and whose merged branches' are clients' seats
pub record IsWhole (c : Client) : Type 0 where
  pub rootless : c.root ≡ []
  pub clients : list_all is_client (c.number ∷ c.kin) ≡ true

-- A client ran its session: what it made is tops that are tries of the session's bodies, made in turn; and its requests
-- meet the fates of the session's link.
pub record HasRun (reach : Reach) (setting : Setting) (session epoch patience : ℕ) (c : Client) (plan : SessionPlan) (past : Past) : Type 0 where
  pub session_is : c.session ≡ session
  pub epoch_is : c.epoch ≡ epoch
  pub setting_is : c.setting ≡ setting
  pub whole : IsWhole c
  pub ends : EndsTopsAt reach c [] past plan.tops
  pub in_turn : InTurnAt reach c [] past
  pub met : list_all (λ seat. meets_fates seat (net_of patience plan) past) (c.number ∷ c.kin) ≡ true

-- as many clients as sessions, numbered from this one on: each ran its own
abbrev pub EachHasRun : Reach → Setting → ℕ → ℕ → ℕ → List Client → List SessionPlan → Past → Type 0
EachHasRun reach setting session epoch patience [] [] past = Unit {0}
EachHasRun reach setting session epoch patience (c ∷ clients) (s ∷ sessions) past =
    HasRun reach setting session epoch patience c s past × EachHasRun reach setting (session + 1) epoch patience clients sessions past
EachHasRun reach setting session epoch patience [] (s ∷ sessions) past = ⊥
EachHasRun reach setting session epoch patience (c ∷ clients) [] past = ⊥

-- each entry under a client's seat is of one of some clients
abbrev pub AreOf : List Client → Past → Type 0
AreOf clients past = AllByRecursion (λ (e : Entry). is_client e.seat ≡ true → list_any (λ c. is_own c e.seat) clients ≡ true) past
