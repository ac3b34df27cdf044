-- What a copy may grant, and how it may refuse.
use Rattle.std.specs.Prelude.{ℕ, ◌≡◌, length, None, Some, IfNone, MatchOption}
use Rattle.qc_config.specs.declared.tuple.Op.{Op}
use Rattle.qc_config.specs.declared.tuple.Op.TheVariants.{Get, PutData, PutConfig}
use Rattle.qc_config.specs.declared.tuple.Tuple.{Tuple}
use Rattle.qc_config.specs.Tuple.{after}
use Rattle.qc_event.specs.Base.{Setting}
use Rattle.qc_event.specs.declared.event.Ask.{Ask}
use Rattle.qc_event.specs.declared.event.Grant.{Grant}
use Rattle.qc_event.specs.declared.event.Refusal.{Refusal}
use Rattle.qc_event.specs.declared.event.Refusal.TheVariants.{Blocked, Dead}
use Rattle.qc_event.specs.History.{Past, Name, asked, granted}
use Rattle.qc_event.specs.Dead.{dead}
use Rattle.qc_event.specs.Seats.{copy_seat}
use Rattle.qc_event.specs.Seen.{seen, holder}

-- the grant of a request, with a tuple
abbrev pub grant_with : Ask → Tuple → Grant
grant_with ask tuple = record { access = ask.access; rec = ask.rec; op = ask.op; tuple = tuple }

-- the tuple has the operation's values in the fields that the operation sets
abbrev pub Sets : Op → Tuple → Type 0
Sets Get tuple = Unit {0}
Sets (PutData version value) tuple = (tuple.version ≡ version) × (tuple.value ≡ value)
Sets (PutConfig generation config) tuple = (tuple.generation ≡ generation) × (tuple.config ≡ config)

-- A live access is served where no conflicting grant is in its way, with the tuple there after its operation.
pub record IsServed (setting : Setting) (past : Past) (copy : ℕ) (grant : Grant) : Type 0 where
  pub free : holder past copy grant.rec grant.op grant.access ≡ None
  pub tuple : grant.tuple ≡ after (seen setting.base past copy grant.rec) grant.op

-- A copy grants, once, what an access asked of it. What it tells a dead access is of no account.
pub record MayGrant (setting : Setting) (past : Past) (seat copy : ℕ) (grant : Grant) : Type 0 where
  pub by_copy : seat ≡ copy_seat copy
  pub request : MatchOption (asked past grant.access) ⊥ (λ a. a.ask ≡ record { access = grant.access; copy = copy; rec = grant.rec; op = grant.op })
  pub first_time : granted past grant.access ≡ None
  pub sets : Sets grant.op grant.tuple
  pub for_copies : length grant.tuple.config.votes ≡ length setting.base
  pub served : IfNone (dead past grant.access) (IsServed setting past copy grant)

-- A copy may refuse a dead access, naming the shortest aborted ancestor, and a live one for the first
-- grant in its way, naming the grant's access.
abbrev pub IsRefusal : Past → Ask → Refusal → Type 0
IsRefusal past ask (Dead a) = dead past ask.access ≡ Some a
IsRefusal past ask (Blocked h) = (dead past ask.access ≡ None) × (holder past ask.copy ask.rec ask.op ask.access ≡ Some h)

-- A copy may refuse an access that asked it.
pub record MayRefuse (past : Past) (seat : ℕ) (access : Name) (copy : ℕ) (refusal : Refusal) : Type 0 where
  pub by_copy : seat ≡ copy_seat copy
  pub request : MatchOption (asked past access) ⊥ (λ a. a.ask.copy ≡ copy)
  pub reason : MatchOption (asked past access) ⊥ (λ a. IsRefusal past a.ask refusal)
