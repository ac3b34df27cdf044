-- What an entry gives a manager: the grant of a child that commits, as the child asked for it, or nothing.
use Rattle.std.proofs.Common.{◌≡◌, ℕ, ◌<◌, true, [], ◌∷◌, length, refl, sym, ap, ◌∙◌, subst, inl, inr, ◌⊎◌}
use mathlib.Core.Bool.{true≢false}
use Rattle.std.specs.Prelude.{Option, None, Some, is_some, MatchOption, if◌then◌else◌}
use Rattle.std.proofs.lemmas.Bool.{cases_Bool}
use Rattle.qc_event.specs.declared.event.Answer.{Answer}
use Rattle.qc_event.specs.declared.event.Answer.TheVariants as answer
use Rattle.qc_event.specs.declared.event.Ask.{Ask}
use Rattle.qc_event.specs.declared.event.Entry.{Entry}
use Rattle.qc_event.specs.declared.event.Event.{Event}
use Rattle.qc_event.specs.declared.event.Event.TheVariants as event
use Rattle.qc_event.specs.declared.event.Grant.{Grant}
use Rattle.qc_event.specs.declared.event.How.TheVariants.{Commit, Abort}
use Rattle.qc_event.specs.declared.event.Kind.{Kind}
use Rattle.qc_event.specs.declared.event.Kind.TheVariants as kind
use Rattle.qc_event.specs.Base.{Setting}
use Rattle.qc_event.specs.History.{Past, Name, Begun, Given, start, end, asked, ask_in, granted, is_child, same}
use Rattle.qc_event.specs.Standing.{IsManager, Started}
use Rattle.qc_event.specs.Grants.{MayGrant}
use Rattle.qc_event.specs.Commits.{MayCommit, MayCommitAccess}
use Rattle.qc_event.specs.Legal.{Legal, MayHappen, MayEnd}
use Rattle.qc_event.proofs.Absent.{same_is}
use Rattle.qc_event.proofs.Lawful.{lawful}
use Rattle.qc_event.proofs.LegalOrderly.{legal_orderly}
use Rattle.qc_event.proofs.Options.{still_matches}
use Rattle.qc_serial.specs.Visible.{given_in, served}
use Rattle.qc_serial.proofs.Accesses.{granted_step, grant_asked, asked_access}
use Rattle.qc_refine.proofs.Managers.KindsBelow.{HasKind, child_access}
use Rattle.qc_refine.proofs.Managers.AloneServed.{commits_started}

-- the request that a grant answers
abbrev pub ask_of : Given → Ask
ask_of g = record { access = g.grant.access; copy = g.copy; rec = g.grant.rec; op = g.grant.op }

-- a name asked for just this grant
abbrev pub AskedFor : Past → Name → Given → Type 0
AskedFor past n g = MatchOption (asked past n) ⊥ (λ a. a.ask ≡ ask_of g)

pub asked_for_still : (e : Entry) (past : Past) (n : Name) (g : Given) → AskedFor past n g → AskedFor (e ∷ past) n g
asked_for_still e past n g h = still_matches (asked past n) (ask_in n e.seat e.event) (λ a. a.ask ≡ ask_of g) h

-- a grant is its access's, and was asked for as it is
pub granted_as : (setting : Setting) (past : Past) (n : Name) (g : Given) → Legal setting past → granted past n ≡ Some g → (g.grant.access ≡ n) × AskedFor past n g
granted_as setting [] n g legal is = absurd cc
granted_as setting (e ∷ past) n g legal is = elim (granted_step e past n g is) [
  | inl old ↦ let before = granted_as setting past n g legal.0 old in (before.0, asked_for_still e past n g before.1)
  | inr new ↦
      let may : MayGrant setting past e.seat g.copy g.grant = subst (MayHappen setting past e.seat) new.0 legal.1 in
      (new.1, asked_for_still e past n g (subst (λ x. AskedFor past x g) new.1 may.request))
]

-- a child of a manager commits, with the grant that it had
pub record Delivers (past : Past) (m : Name) (ev : Event) : Type 0 where
  pub access : Name
  pub g : Given
  pub is : ev ≡ event.End access (Commit (answer.Reply g.grant.tuple))
  pub child : is_child m access ≡ true
  pub going : end past access ≡ None
  pub was_granted : granted past access ≡ Some g
  pub asked_for : AskedFor past access g
  pub gives : given_in (served past) m ev ≡ served past access

-- the entry gives a manager nothing, and no child commits
pub record IsQuiet (past : Past) (m : Name) (ev : Event) : Type 0 where
  pub nothing : given_in (served past) m ev ≡ []
  pub no_commit : (c : Name) (given : Answer) → ev ≡ event.End c (Commit given) → is_child m c ≡ true → ⊥

access_commits : (setting : Setting) (past : Past) (seat : ℕ) (c : Name) (given : Answer) → HasKind past c kind.Access → Started past c (MayEnd setting past seat c (Commit given)) → MayCommitAccess past seat c given
access_commits setting past seat c given has may = by_start (start past c) refl may
  where
    by_start : (o : Option Begun) → start past c ≡ o → MatchOption o ⊥ (MayEnd setting past seat c (Commit given)) → MayCommitAccess past seat c given
    by_start None is may = absurd may
    by_start (Some b) is may = subst (MayCommit setting past seat c b given) (has b is) may

module _ (setting : Setting) (past : Past) (e : Entry) (m : Name) (k : Kind) (legal : Legal setting (e ∷ past)) (pos : 0 < length m) (has : HasKind past m k) (manager : IsManager k) where
  delivers : (c : Name) (given : Answer) → e.event ≡ event.End c (Commit given) → is_child m c ≡ true → Delivers past m e.event
  delivers c given is child =
      let law = lawful past (legal_orderly setting past legal.0) in
      let access = child_access past m c k law pos has manager child (commits_started setting past e c given legal is) in
      let may = access_commits setting past e.seat c given access (subst (MayHappen setting past e.seat) is legal.1) in
      by_grant may (granted past c) refl may.reply
    where
      by_grant : MayCommitAccess past e.seat c given → (o : Option Given) → granted past c ≡ o → MatchOption o ⊥ (λ g. given ≡ answer.Reply g.grant.tuple) → Delivers past m e.event
      by_grant may None at reply = absurd reply
      by_grant may (Some g) at reply = record {
        access = c;
        g = g;
        is = is ∙ ap (λ a. event.End c (Commit a)) reply;
        child = child;
        going = may.going.is_open.not_ended;
        was_granted = at;
        asked_for = (granted_as setting past c g legal.0 at).1;
        gives = ap (given_in (served past) m) is ∙ ap (λ b. if b then served past c else []) child;
      }

  -- no copy grants a manager anything
  no_grant : (copy : ℕ) (grant : Grant) → e.event ≡ event.Granted copy grant → same grant.access m ≡ true → ⊥
  no_grant copy grant is here =
      let may : MayGrant setting past e.seat copy grant = subst (MayHappen setting past e.seat) is legal.1 in
      let asks = ap (λ n. is_some (asked past n)) (sym (same_is grant.access m here)) ∙ grant_asked setting past e.seat copy grant may in
      by_start (start past m) refl (asked_access setting past m legal.0 asks).started
    where
      by_start : (o : Option Begun) → start past m ≡ o → MatchOption o ⊥ (λ b. b.kind ≡ kind.Access) → ⊥
      by_start None at access = access
      by_start (Some b) at access = subst IsManager (sym (has b at) ∙ access) manager

  pub delivers_or_not : Delivers past m e.event ⊎ IsQuiet past m e.event
  delivers_or_not = by_event e.event refl
    where
      quiet : (ev : Event) → e.event ≡ ev → given_in (served past) m ev ≡ [] → ((c : Name) (given : Answer) → ev ≡ event.End c (Commit given) → is_child m c ≡ true → ⊥) → Delivers past m e.event ⊎ IsQuiet past m e.event
      quiet ev is nothing none = inr (record { nothing = ap (given_in (served past) m) is ∙ nothing; no_commit = λ c given at child. none c given (sym is ∙ at) child })

      by_event : (ev : Event) → e.event ≡ ev → Delivers past m e.event ⊎ IsQuiet past m e.event
      by_event (event.Granted copy grant) is = elim (cases_Bool (same grant.access m)) [
        | inl here ↦ absurd (no_grant copy grant is here)
        | inr other ↦ quiet (event.Granted copy grant) is (ap (λ b. if b then record { copy = copy; grant = grant } ∷ [] else []) other) (λ c given at child. cc)
      ]
      by_event (event.End c (Commit given)) is = elim (cases_Bool (is_child m c)) [
        | inl child ↦ inl (delivers c given is child)
        | inr other ↦ quiet (event.End c (Commit given)) is (ap (λ b. if b then served past c else []) other)
            (λ d a at child. let same : c ≡ d = cc in true≢false (sym child ∙ ap (is_child m) (sym same) ∙ other))
      ]
      by_event (event.End c (Abort cause)) is = quiet (event.End c (Abort cause)) is refl (λ d a at child. cc)
      by_event (event.Start n x) is = quiet (event.Start n x) is refl (λ d a at child. cc)
      by_event (event.Ask ask) is = quiet (event.Ask ask) is refl (λ d a at child. cc)
      by_event (event.Gone n why) is = quiet (event.Gone n why) is refl (λ d a at child. cc)
      by_event (event.Refused n copy refusal) is = quiet (event.Refused n copy refusal) is refl (λ d a at child. cc)
      by_event (event.Unable n why) is = quiet (event.Unable n why) is refl (λ d a at child. cc)
      by_event (event.Mark n session) is = quiet (event.Mark n session) is refl (λ d a at child. cc)
      by_event (event.Ready n) is = quiet (event.Ready n) is refl (λ d a at child. cc)
