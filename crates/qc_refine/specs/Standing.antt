-- When disks stand beside a history: what they tell is what they told before it, and what it tells.
use Rattle.std.specs.Prelude.{ℕ, ◌≡◌, ◌<◌, true, is_some, List, [], ◌∷◌, ◌++◌, length, All, None, MatchOption}
use Rattle.qc_codec.specs.Ledger.{IsOld, commit_of, epoch_in}
use Rattle.qc_codec.specs.declared.past.Logged.{Logged}
use Rattle.qc_config.specs.declared.tuple.Tuple.{Tuple}
use Rattle.qc_event.specs.declared.event.Grant.{Grant}
use Rattle.qc_event.specs.Base.{Setting}
use Rattle.qc_event.specs.History.{Past, start, is_ready, asked, granted, grants, IsOpen}
use Rattle.qc_refine.specs.Restored.{Kept, granted_at, restored}
use Rattle.qc_event.specs.Listed.{listed}
use Rattle.qc_refine.specs.Listed.{logged}

-- WHAT THE HISTORY DOES NOT TELL YET

-- A record that the ledger wrote and the history does not tell yet: of a top that is ready and open.
pub record IsNext (past : Past) (l : Logged) : Type 0 where
  pub number : ℕ
  pub is_top : l.top ≡ number ∷ []
  pub is_open : IsOpen past l.top
  pub ready : is_ready past l.top ≡ true
  pub same_list : l.aborted ≡ listed past l.top

-- so are these records, one after another
abbrev pub AreNext : Past → List Logged → Type 0
AreNext past [] = Unit {0}
AreNext past (l ∷ ls) = IsNext past l × AreNext (commit_of l.top ∷ past) ls

-- the history in which these tops are committed
abbrev pub committed_too : Past → List Logged → Past
committed_too past [] = past
committed_too past (l ∷ ls) = committed_too (commit_of l.top ∷ past) ls

-- A grant that a copy wrote and the history does not tell yet: of an access that asked and was granted nothing.
pub record IsUntold (past : Past) (g : Grant) : Type 0 where
  pub asked : is_some (asked past g.access) ≡ true
  pub not_granted : granted past g.access ≡ None

-- A grant is what its access asked of this copy.
abbrev pub IsAskedOf : Past → ℕ → Grant → Type 0
IsAskedOf past copy g = MatchOption (asked past g.access) ⊥ (λ a. a.ask ≡ record { access = g.access; copy = copy; rec = g.rec; op = g.op })

-- EPOCHS

-- each top of the history is of this epoch
abbrev pub IsOfEpoch : ℕ → Past → Type 0
IsOfEpoch epoch past = (number : ℕ) → is_some (start past (number ∷ [])) ≡ true → epoch_in number ≡ epoch

-- STANDING

-- Disks, whose copies once started with some tuples, stand beside a history of an epoch. It starts from what they
-- restored before it. They have what they had then, the tops and grants of the history, and what it does not tell yet.
pub record StandBeside (first : List (List Tuple)) (epoch : ℕ) (setting : Setting) (before now : Kept) (past : Past) : Type 0 where
  pub starts : setting.base ≡ restored first (length setting.firsts) before
  pub old_tops : All (λ (l : Logged). IsOld epoch l.top) before.tops
  pub old_grants : (copy : ℕ) → copy < length first → All (λ (g : Grant). IsOld epoch g.access) (granted_at before copy)
  pub of_epoch : IsOfEpoch epoch past
  pub more : List Logged
  pub next : AreNext past more
  pub tops : now.tops ≡ before.tops ++ (logged past ++ more)
  pub untold : ℕ → List Grant
  pub are_untold : (copy : ℕ) → copy < length first → All (IsUntold past) (untold copy)
  pub granted : (copy : ℕ) → copy < length first → granted_at now copy ≡ granted_at before copy ++ (grants past copy ++ untold copy)
