-- What a client knows of its request.
use Rattle.std.specs.Prelude.{ℕ, ◌≡◌, ◌<◌, ◌+◌, ◌^◌, true, [], ◌∷◌, Some, IfSome, MatchOption}
use Rattle.qc_config.specs.Val.{Datum}
use Rattle.qc_config.specs.declared.tuple.Op.TheVariants.{Get, PutData}
use Rattle.qc_config.specs.declared.tuple.Tuple.{Tuple}
use Rattle.qc_event.specs.Grants.{grant_with}
use Rattle.qc_event.specs.declared.event.Answer.TheVariants.{Reply}
use Rattle.qc_event.specs.declared.event.Ask.{Ask}
use Rattle.qc_event.specs.declared.event.How.TheVariants.{Commit}
use Rattle.qc_event.specs.declared.event.Kind.TheVariants as kind
use Rattle.qc_event.specs.History.{Past, Name, start, end, asked, asks, is_child}
use Rattle.qc_event.specs.Standing.{Started, IsUser}
use Rattle.qc_desk.specs.Consulting.{HasAsked}
use Rattle.qc_desk.specs.Own.{IsOwnAccess}
use Rattle.qc_desk.specs.Answers.{IsGranted}
use Rattle.rows_serve.specs.declared.client.Client.{Client}
use Rattle.rows_serve.specs.declared.client.Request.{Request}

-- Its user transaction was started, it stands in the history, and what the copy granted it.
pub record RequestStands (past : Past) (r : Request) : Type 0 where
  pub begun : Started past r.user (λ b. IsUser b.kind)
  pub asked : HasAsked past r.ask
  pub to_copy : r.ask.copy ≡ 0
  pub granted : IfSome r.granted (λ tuple. IsGranted 0 past (grant_with r.ask tuple))

-- It is the one request so far of a manager that writes a value, and its access is open.
pub record IsFirst (past : Past) (seat : ℕ) (ask : Ask) (manager : Name) (value : Datum) : Type 0 where
  pub begun : start past manager ≡ Some (record { seat = seat; kind = kind.Write ask.rec value })
  pub within : ask.rec < 2
  pub gets : ask.op ≡ Get
  pub to_copy : ask.copy ≡ 0
  pub one : asks past manager ≡ ask ∷ []
  pub child : is_child manager ask.access ≡ true
  pub own : IsOwnAccess past seat ask.access
  pub asked_here : MatchOption (asked past ask.access) ⊥ (λ a. a.seat ≡ seat)

-- a manager that was told this tuple of the first configuration may put the next version
pub record MayPut (tuple : Tuple) : Type 0 where
  pub first : tuple.generation ≡ 0
  pub small : tuple.version + 1 < 2 ^ 64

-- It is the second request of a manager that writes a value, which puts it, and its access is open. The first was told
-- the tuple.
pub record IsPut (past : Past) (seat : ℕ) (ask : Ask) (manager : Name) (value : Datum) : Type 0 where
  pub first : Ask
  pub tuple : Tuple
  pub begun : start past manager ≡ Some (record { seat = seat; kind = kind.Write ask.rec value })
  pub within : ask.rec < 2
  pub gets : first.op ≡ Get
  pub from_copy : first.copy ≡ 0
  pub first_child : is_child manager first.access ≡ true
  pub told : end past first.access ≡ Some (Commit (Reply tuple))
  pub may : MayPut tuple
  pub puts : ask.op ≡ PutData (tuple.version + 1) value
  pub to_copy : ask.copy ≡ 0
  pub two : asks past manager ≡ first ∷ ask ∷ []
  pub child : is_child manager ask.access ≡ true
  pub own : IsOwnAccess past seat ask.access
  pub asked_here : MatchOption (asked past ask.access) ⊥ (λ a. a.seat ≡ seat)

-- the first request, where its manager is told
abbrev pub IsFirstOf : Past → ℕ → Request → Type 0
IsFirstOf past seat r = IfSome r.writer (λ w. IsFirst past seat r.ask w.manager w.value)

-- the second one, where its manager is told
abbrev pub IsPutOf : Past → ℕ → Request → Type 0
IsPutOf past seat r = IfSome r.putter (λ w. IsPut past seat r.ask w.manager w.value)

-- the client's request, and the one before
pub record Knows (past : Past) (seat : ℕ) (client : Client) : Type 0 where
  pub now : IfSome client.now (λ r. RequestStands past r × IsFirstOf past seat r × IsPutOf past seat r)
  pub before : IfSome client.before (RequestStands past)
