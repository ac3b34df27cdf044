-- What a legal history keeps of accesses: who asked was started, who was granted had asked, once, and who
-- committed was granted.
use Rattle.std.proofs.Common.{ℕ, ◌≡◌, Bool, true, [], ◌∷◌, refl, sym, ap, ◌∙◌, subst, inl, inr, ◌⊎◌}
use mathlib.Core.Bool.{true≢false}
use Rattle.std.specs.Prelude.{Option, None, Some, is_some, MatchOption, if◌then◌else◌}
use Rattle.std.specs.Option.{option_or}
use Rattle.qc_names.specs.Name as name
use Rattle.qc_event.specs.declared.event.Answer.{Answer}
use Rattle.qc_event.specs.declared.event.Ask.{Ask}
use Rattle.qc_event.specs.declared.event.Entry.{Entry}
use Rattle.qc_event.specs.declared.event.Event.{Event}
use Rattle.qc_event.specs.declared.event.Event.TheVariants as event
use Rattle.qc_event.specs.declared.event.Grant.{Grant}
use Rattle.qc_event.specs.declared.event.How.{How}
use Rattle.qc_event.specs.declared.event.How.TheVariants.{Commit}
use Rattle.qc_event.specs.declared.event.Kind.{Kind}
use Rattle.qc_event.specs.declared.event.Kind.TheVariants as kind
use Rattle.qc_event.specs.Base.{Setting}
use Rattle.qc_event.specs.History.{Past, Name, Begun, Given, same, start, end, asked, ask_in, granted, grant_in}
use Rattle.qc_event.specs.Dead.{outcome, outcome_of, is_committed}
use Rattle.qc_event.specs.Standing.{Started}
use Rattle.qc_event.specs.Requests.{MayAsk}
use Rattle.qc_event.specs.Grants.{MayGrant}
use Rattle.qc_event.specs.Commits.{MayCommit}
use Rattle.qc_event.specs.Legal.{Legal, Allowed, MayHappen, MayEnd}
use Rattle.qc_event.proofs.Absent.{same_is, same_itself}
use Rattle.qc_event.proofs.OneEntry.{if_some, if_is, first_some, first_is, stays_some, some_or_none, start_stays, started_stays, end_step}
use Rattle.qc_event.proofs.Lawful.{started_wider, started_some, committed_is}
use Rattle.qc_event.proofs.Options.{some_match}

-- REQUESTS

-- the entry is a request of the access
abbrev pub Asking : Name → Event → Type 0
Asking n ev = (ask : Ask) × (ev ≡ event.Ask ask) × (ask.access ≡ n)

asking : (n : Name) (seat : ℕ) (ev : Event) → is_some (ask_in n seat ev) ≡ true → Asking n ev
asking n seat (event.Ask ask) h = (ask, refl, same_is ask.access n (if_some (same ask.access n) _ h))
asking n seat _ h = absurd (true≢false (sym h))

pub asked_step : (e : Entry) (past : Past) (n : Name) → is_some (asked (e ∷ past) n) ≡ true → (is_some (asked past n) ≡ true) ⊎ Asking n e.event
asked_step e past n h = elim (first_some (asked past n) (ask_in n e.seat e.event) h) [
  | inl old ↦ inl old
  | inr new ↦ inr (asking n e.seat e.event new.1)
]

pub asked_stays : (e : Entry) (past : Past) (n : Name) → is_some (asked past n) ≡ true → is_some (asked (e ∷ past) n) ≡ true
asked_stays e past n h = stays_some (asked past n) (ask_in n e.seat e.event) h

pub may_ask : (setting : Setting) (past : Past) (e : Entry) (n : Name) (asks : Asking n e.event) → Allowed setting past e → MayAsk setting past e.seat asks.0
may_ask setting past e n asks allowed = subst (MayHappen setting past e.seat) asks.1 allowed

-- an access that was started, and whose manager was
pub record IsAccess (past : Past) (n : Name) : Type 0 where
  pub started : Started past n (λ b. b.kind ≡ kind.Access)
  pub manager : is_some (start past (name.front n)) ≡ true

access_stays : (e : Entry) (past : Past) (n : Name) → IsAccess past n → IsAccess (e ∷ past) n
access_stays e past n access = record {
  started = started_stays e past n (λ b. b.kind ≡ kind.Access) access.started;
  manager = start_stays e past (name.front n) access.manager;
}

pub asked_access : (setting : Setting) (past : Past) (n : Name) → Legal setting past → is_some (asked past n) ≡ true → IsAccess past n
asked_access setting [] n legal h = absurd (true≢false (sym h))
asked_access setting (e ∷ past) n legal h = access_stays e past n (elim (asked_step e past n h) [
  | inl old ↦ asked_access setting past n legal.0 old
  | inr new ↦ let may = may_ask setting past e n new legal.1 in subst (IsAccess past) new.2 (record {
    started = started_wider _ _ (start past new.0.access) (λ b both. both.1) may.started;
    manager = started_some _ (start past (name.front new.0.access)) may.manager_started;
  })
])

-- GRANTS

granting : (n : Name) (ev : Event) (g : Given) → grant_in n ev ≡ Some g → (ev ≡ event.Granted g.copy g.grant) × (g.grant.access ≡ n)
granting n (event.Granted copy grant) g h =
    let parts = if_is (same grant.access n) (record { copy = copy; grant = grant }) g h in
    (ap (λ (x : Given). event.Granted x.copy x.grant) parts.1, ap (λ (x : Given). x.grant.access) (sym parts.1) ∙ same_is grant.access n parts.0)
granting n _ g h = absurd cc

pub granted_step : (e : Entry) (past : Past) (n : Name) (g : Given) → granted (e ∷ past) n ≡ Some g → (granted past n ≡ Some g) ⊎ ((e.event ≡ event.Granted g.copy g.grant) × (g.grant.access ≡ n))
granted_step e past n g h = elim (first_is (granted past n) (grant_in n e.event) g h) [
  | inl old ↦ inl old
  | inr new ↦ inr (granting n e.event g new.1)
]

pub granted_stays : (e : Entry) (past : Past) (n : Name) → is_some (granted past n) ≡ true → is_some (granted (e ∷ past) n) ≡ true
granted_stays e past n h = stays_some (granted past n) (grant_in n e.event) h

-- a grant keeps being its access's
pub grant_stays : (e : Entry) (past : Past) (n : Name) (g : Given) → granted past n ≡ Some g → granted (e ∷ past) n ≡ Some g
grant_stays e past n g is = ap (λ o. option_or o (grant_in n e.event)) is

-- and is where its access had none
pub grant_now : (e : Entry) (past : Past) (g : Given) → e.event ≡ event.Granted g.copy g.grant → granted past g.grant.access ≡ None → granted (e ∷ past) g.grant.access ≡ Some g
grant_now e past g is none =
    ap (λ o. option_or o (grant_in g.grant.access e.event)) none
    ∙ ap (grant_in g.grant.access) is
    ∙ ap (λ (b : Bool). if b then Some g else None) (same_itself g.grant.access)

-- who is granted had asked
pub grant_asked : (setting : Setting) (past : Past) (seat copy : ℕ) (g : Grant) → MayGrant setting past seat copy g → is_some (asked past g.access) ≡ true
grant_asked setting past seat copy g may = some_match (asked past g.access) _ may.request

pub granted_asked : (setting : Setting) (past : Past) (n : Name) (g : Given) → Legal setting past → granted past n ≡ Some g → is_some (asked past n) ≡ true
granted_asked setting [] n g legal h = absurd cc
granted_asked setting (e ∷ past) n g legal h = asked_stays e past n (elim (granted_step e past n g h) [
  | inl old ↦ granted_asked setting past n g legal.0 old
  | inr new ↦
      let may : MayGrant setting past e.seat g.copy g.grant = subst (MayHappen setting past e.seat) new.0 legal.1 in
      subst (λ m. is_some (asked past m) ≡ true) new.1 (grant_asked setting past e.seat g.copy g.grant may)
])

-- COMMITS

commit_granted : (setting : Setting) (past : Past) (seat : ℕ) (n : Name) (b : Begun) (given : Answer) (k : Kind) → k ≡ kind.Access → MayCommit setting past seat n b given k → is_some (granted past n) ≡ true
commit_granted setting past seat n b given kind.Access is may = some_match (granted past n) _ may.reply
commit_granted setting past seat n b given (kind.User session body) is may = absurd cc
commit_granted setting past seat n b given (kind.Read rec) is may = absurd cc
commit_granted setting past seat n b given (kind.Write rec value) is may = absurd cc
commit_granted setting past seat n b given (kind.Reconf rec config) is may = absurd cc

end_granted : (setting : Setting) (past : Past) (seat : ℕ) (n : Name) (given : Answer) (o : Option Begun) → MatchOption o ⊥ (λ b. b.kind ≡ kind.Access) → MatchOption o ⊥ (MayEnd setting past seat n (Commit given)) → is_some (granted past n) ≡ true
end_granted setting past seat n given None access may = absurd may
end_granted setting past seat n given (Some b) access may = commit_granted setting past seat n b given b.kind access may

ask_or_end : (ask : Ask) (n : Name) (h : How) → event.Ask ask ≡ event.End n h → ⊥
ask_or_end ask n h is = cc

-- an access that committed was granted
pub committed_granted : (setting : Setting) (past : Past) (n : Name) → Legal setting past → is_some (asked past n) ≡ true → is_committed (outcome past n) ≡ true → is_some (granted past n) ≡ true
committed_granted setting [] n legal h done = absurd (true≢false (sym h))
committed_granted setting (e ∷ past) n legal h done =
    let is = committed_is (end (e ∷ past) n) done in
    granted_stays e past n (elim (end_step e past n (Commit is.0) is.1) [
      | inl old ↦ elim (asked_step e past n h) [
        | inl before ↦ committed_granted setting past n legal.0 before (ap (λ o. is_committed (outcome_of o)) old)
        | inr now ↦ absurd (some_or_none (end past n) (ap is_some old) (subst (λ m. end past m ≡ None) now.2 (may_ask setting past e n now legal.1).going.is_open.not_ended))
      ]
      | inr now ↦ elim (asked_step e past n h) [
        | inl before ↦ end_granted setting past e.seat n is.0 (start past n) (asked_access setting past n legal.0 before).started (subst (MayHappen setting past e.seat) now.1 legal.1)
        | inr asks ↦ absurd (ask_or_end _ _ _ (sym asks.1 ∙ now.1))
      ]
    ])
