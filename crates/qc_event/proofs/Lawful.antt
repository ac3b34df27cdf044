-- What every orderly history keeps about its tree of names: who stands under whom, and what has ended.
use Rattle.std.proofs.Common.{◌≡◌, ℕ, ◌+◌, ◌<◌, ◌≤◌, ◌⊎◌, inl, inr, true, [], ◌∷◌, ◌++◌, length, refl, sym, ap, ◌∙◌, subst, arith}
use mathlib.Core.Bool.{true≢false}
use Rattle.std.specs.Prelude.{Option, None, Some, is_some, is_none, MatchOption, IsTrue, not}
use Rattle.std.proofs.lemmas.List.{length-append}
use Rattle.qc_names.specs.Name as name
use Rattle.qc_event.specs.declared.event.Entry.{Entry}
use Rattle.qc_event.specs.declared.event.Answer.{Answer}
use Rattle.qc_event.specs.declared.event.Event.TheVariants as event
use Rattle.qc_event.specs.declared.event.How.{How}
use Rattle.qc_event.specs.declared.event.How.TheVariants.{Commit, Abort}
use Rattle.qc_event.specs.declared.event.Kind.{Kind}
use Rattle.qc_event.specs.declared.event.Kind.TheVariants as kind
use Rattle.qc_event.specs.History.{Past, Name, Begun, start, end, is_ready, IsOpen, children}
use Rattle.qc_event.specs.Dead.{outcome, outcome_of, is_committed}
use Rattle.qc_event.specs.Standing.{IsUser, Started, open_child, IsGoing}
use Rattle.qc_event.proofs.Orderly.{Belongs, IsNextChild, Begins, Commits, BecomesReady, KeepsOrder, Orderly}
use Rattle.qc_event.proofs.Booleans.{not_both}
use Rattle.qc_event.proofs.LastNumber.{length_last, front_last, same_last, is_child-last}
use Rattle.qc_event.proofs.OneEntry.{Starting, Ending, some_or_none, not_some, unless_some, start_or_end, start_is, start_step, start_stays, started_stays, end_step, end_stays, ready_step, some_if_not_none, child_added, children_longer, no_child_passes}

pub record Lawful (past : Past) : Type 0 where
  pub no_root_start : start past [] ≡ None
  pub no_root_end : end past [] ≡ None
  pub end_has_start : (n : Name) → is_some (end past n) ≡ true → is_some (start past n) ≡ true
  pub under : (p : Name) (j : ℕ) → 0 < length p → is_some (start past (p ++ j ∷ [])) ≡ true → Started past (p ++ j ∷ []) (λ c. Started past p (λ b. Belongs b c.kind))
  pub number : (p : Name) (j : ℕ) → 0 < length p → is_some (start past (p ++ j ∷ [])) ≡ true → (1 ≤ j) × (j ≤ length (children past p))
  pub committed_closed : (p : Name) (j : ℕ) → 0 < length p → is_committed (outcome past p) ≡ true → is_some (start past (p ++ j ∷ [])) ≡ true → is_some (end past (p ++ j ∷ [])) ≡ true
  pub ready_closed : (p : Name) (j : ℕ) → 0 < length p → is_ready past p ≡ true → is_some (start past (p ++ j ∷ [])) ≡ true → is_some (end past (p ++ j ∷ [])) ≡ true

-- WHAT THE RULES SAY OF THE NEXT ENTRY

below_top : (past : Past) (n : Name) (k : Kind) → 1 < length n → Begins past n k → IsNextChild past n k
below_top past [] k long h = absurd h
below_top past (x ∷ []) k long h = absurd (omega arith)
below_top past (x ∷ y ∷ r) k long h = h

-- what holds of a start is weakened
pub started_wider : (P Q : Begun → Type 0) (o : Option Begun) → ((b : Begun) → P b → Q b) → MatchOption o ⊥ P → MatchOption o ⊥ Q
started_wider P Q None wider h = absurd h
started_wider P Q (Some b) wider h = wider b h

pub started_some : (P : Begun → Type 0) (o : Option Begun) → MatchOption o ⊥ P → is_some o ≡ true
started_some P None h = absurd h
started_some P (Some b) h = refl

-- what the start of a child tells
pub record ChildStart (past : Past) (p : Name) (j : ℕ) (k : Kind) : Type 0 where
  pub going : IsGoing past p
  pub not_ready : is_ready past p ≡ true → ⊥
  pub next : j ≡ length (children past p) + 1
  pub belongs : Started past p (λ b. Belongs b k)

pub child_starts : (past : Past) (e : Entry) (p : Name) (j : ℕ) → 0 < length p → (starting : Starting (p ++ j ∷ []) e.event) → KeepsOrder past e.event → ChildStart past p j starting.0
child_starts past e p j pos starting keeps =
    let may : IsNextChild past (p ++ j ∷ []) starting.0 = below_top past (p ++ j ∷ []) starting.0 (omega (arith, length_last p j)) (subst (KeepsOrder past) starting.1 keeps) in
    let parent : name.front (p ++ j ∷ []) ≡ p = front_last p j in
    record {
      going = subst (IsGoing past) parent may.parent_going;
      not_ready = not_both (is_ready past p) (subst (λ q. IsTrue (not (is_ready past q))) parent may.parent_not_ready);
      next = (same_last p p j _ (may.next_child ∙ ap (λ q. q ++ (length (children past q) + 1) ∷ []) parent)).1;
      belongs = subst (λ q. Started past q (λ b. Belongs b starting.0)) parent may.belongs;
    }

-- what ends was open
pub ends_open : (past : Past) (e : Entry) (n : Name) (how : How) → Ending n e.event how → KeepsOrder past e.event → IsOpen past n
ends_open past e n (Commit given) ending keeps = let commits : Commits past n = subst (KeepsOrder past) ending keeps in commits.is_open
ends_open past e n (Abort c) ending keeps = subst (KeepsOrder past) ending keeps

-- what commits has no open child, or is ready
pub commits_closed : (past : Past) (e : Entry) (n : Name) (given : Answer) → Ending n e.event (Commit given) → KeepsOrder past e.event → (open_child past n ≡ None) ⊎ (is_ready past n ≡ true)
commits_closed past e n given ending keeps = let commits : Commits past n = subst (KeepsOrder past) ending keeps in commits.closed

-- ONE ENTRY AFTER ANOTHER

pub committed_is : (o : Option How) → is_committed (outcome_of o) ≡ true → (given : Answer) × (o ≡ Some (Commit given))
committed_is None h = absurd (true≢false (sym h))
committed_is (Some (Commit given)) h = (given, refl)
committed_is (Some (Abort c)) h = absurd (true≢false (sym h))

-- where no child is open, each that was started has ended
pub no_open_child : (past : Past) (p : Name) (j : ℕ) → open_child past p ≡ None → is_some (start past (p ++ j ∷ [])) ≡ true → is_some (end past (p ++ j ∷ [])) ≡ true
no_open_child past p j none h = some_if_not_none (end past (p ++ j ∷ [])) (no_child_passes (λ c. is_none (end past c)) past p (p ++ j ∷ []) (is_child-last p j) h none)

pub some_how : (o : Option How) → is_some o ≡ true → (how : How) × (o ≡ Some how)
some_how None h = absurd (true≢false (sym h))
some_how (Some how) h = (how, refl)

start_or_ready : (m n : Name) (k : Kind) → event.Start m k ≡ event.Ready n → ⊥
start_or_ready m n k is = cc

marks_closed : (past : Past) (e : Entry) (p : Name) → e.event ≡ event.Ready p → KeepsOrder past e.event → open_child past p ≡ None
marks_closed past e p is keeps = let ready : BecomesReady past p = subst (KeepsOrder past) is keeps in ready.children_ended

module _ (e : Entry) (past : Past) (law : Lawful past) (keeps : KeepsOrder past e.event) where
  no_root_start : start (e ∷ past) [] ≡ None
  no_root_start = not_some (start (e ∷ past) []) (λ h. elim (start_step e past [] h) [
    | inl old ↦ some_or_none (start past []) old law.no_root_start
    | inr new ↦ subst (KeepsOrder past) new.1.1 keeps
  ])

  no_root_end : end (e ∷ past) [] ≡ None
  no_root_end = unless_some (end (e ∷ past) []) (λ how is. elim (end_step e past [] how is) [
    | inl old ↦ some_or_none (end past []) (ap is_some old) law.no_root_end
    | inr new ↦ some_or_none (start past []) (ends_open past e [] how new.1 keeps).started law.no_root_start
  ])

  end_has_start : (n : Name) → is_some (end (e ∷ past) n) ≡ true → is_some (start (e ∷ past) n) ≡ true
  end_has_start n h = let ended = some_how (end (e ∷ past) n) h in start_stays e past n (elim (end_step e past n ended.0 ended.1) [
    | inl old ↦ law.end_has_start n (ap is_some old)
    | inr new ↦ (ends_open past e n ended.0 new.1 keeps).started
  ])

  parent_stays : (p : Name) (k : Kind) → Started past p (λ b. Belongs b k) → Started (e ∷ past) p (λ b. Belongs b k)
  parent_stays p k h = started_stays e past p (λ b. Belongs b k) h

  under : (p : Name) (j : ℕ) → 0 < length p → is_some (start (e ∷ past) (p ++ j ∷ [])) ≡ true → Started (e ∷ past) (p ++ j ∷ []) (λ c. Started (e ∷ past) p (λ b. Belongs b c.kind))
  under p j pos h = elim (start_step e past (p ++ j ∷ []) h) [
    | inl old ↦ started_wider _ _ (start (e ∷ past) (p ++ j ∷ [])) (λ c. parent_stays p c.kind)
        (started_stays e past (p ++ j ∷ []) (λ c. Started past p (λ b. Belongs b c.kind)) (law.under p j pos old))
    | inr new ↦ subst (λ o. MatchOption o ⊥ (λ (c : Begun). Started (e ∷ past) p (λ b. Belongs b c.kind))) (sym (start_is e past (p ++ j ∷ []) new.1.0 new.0 new.1.1))
        (parent_stays p new.1.0 (child_starts past e p j pos new.1 keeps).belongs)
  ]

  number : (p : Name) (j : ℕ) → 0 < length p → is_some (start (e ∷ past) (p ++ j ∷ [])) ≡ true → (1 ≤ j) × (j ≤ length (children (e ∷ past) p))
  number p j pos h = elim (start_step e past (p ++ j ∷ []) h) [
    | inl old ↦ let n = law.number p j pos old in (n.0, children_longer e past p j n.1)
    | inr new ↦
        let next : j ≡ length (children past p) + 1 = (child_starts past e p j pos new.1 keeps).next in
        let more = ap length (child_added e past p (p ++ j ∷ []) new.1.0 new.1.1 (is_child-last p j)) in
        (omega arith, omega (arith, more, length-append (children past p) ((p ++ j ∷ []) ∷ [])))
  ]

  committed_closed : (p : Name) (j : ℕ) → 0 < length p → is_committed (outcome (e ∷ past) p) ≡ true → is_some (start (e ∷ past) (p ++ j ∷ [])) ≡ true → is_some (end (e ∷ past) (p ++ j ∷ [])) ≡ true
  committed_closed p j pos committed h = let is = committed_is (end (e ∷ past) p) committed in end_stays e past (p ++ j ∷ [])
      (elim (end_step e past p (Commit is.0) is.1) [
        | inl old ↦ elim (start_step e past (p ++ j ∷ []) h) [
          | inl began ↦ law.committed_closed p j pos (ap (λ o. is_committed (outcome_of o)) old) began
          | inr new ↦ absurd (some_or_none (end past p) (ap is_some old) (child_starts past e p j pos new.1 keeps).going.is_open.not_ended)
        ]
        | inr now ↦ elim (start_step e past (p ++ j ∷ []) h) [
          | inl began ↦ elim (commits_closed past e p is.0 now.1 keeps) [
            | inl none ↦ no_open_child past p j none began
            | inr ready ↦ law.ready_closed p j pos ready began
          ]
          | inr new ↦ absurd (start_or_end _ _ _ _ (sym new.1.1 ∙ now.1))
        ]
      ])

  ready_closed : (p : Name) (j : ℕ) → 0 < length p → is_ready (e ∷ past) p ≡ true → is_some (start (e ∷ past) (p ++ j ∷ [])) ≡ true → is_some (end (e ∷ past) (p ++ j ∷ [])) ≡ true
  ready_closed p j pos ready h = end_stays e past (p ++ j ∷ []) (elim (ready_step e past p ready) [
    | inl old ↦ elim (start_step e past (p ++ j ∷ []) h) [
      | inl began ↦ law.ready_closed p j pos old began
      | inr new ↦ absurd ((child_starts past e p j pos new.1 keeps).not_ready old)
    ]
    | inr now ↦ elim (start_step e past (p ++ j ∷ []) h) [
      | inl began ↦ no_open_child past p j (marks_closed past e p now keeps) began
      | inr new ↦ absurd (start_or_ready _ _ _ (sym new.1.1 ∙ now))
    ]
  ])

  one_more : Lawful (e ∷ past)
  one_more = record { no_root_start = no_root_start; no_root_end = no_root_end; end_has_start = end_has_start; under = under; number = number; committed_closed = committed_closed; ready_closed = ready_closed }

nothing : Lawful []
nothing = record {
  no_root_start = refl;
  no_root_end = refl;
  end_has_start = λ n h. absurd (true≢false (sym h));
  under = λ p j pos h. absurd (true≢false (sym h));
  number = λ p j pos h. absurd (true≢false (sym h));
  committed_closed = λ p j pos committed h. absurd (true≢false (sym h));
  ready_closed = λ p j pos ready h. absurd (true≢false (sym h));
}

pub lawful : (past : Past) → Orderly past → Lawful past
lawful [] orderly = nothing
lawful (e ∷ past) orderly = one_more e past (lawful past orderly.0) orderly.1

-- WHO STANDS ABOVE

-- who was started is not the root
pub nonroot : (past : Past) (n : Name) → Lawful past → is_some (start past n) ≡ true → 0 < length n
nonroot past [] law began = absurd (some_or_none (start past []) began law.no_root_start)
nonroot past (x ∷ n) law began = omega arith

-- a started child has a started parent
pub parent_started : (past : Past) (p : Name) (j : ℕ) → Lawful past → 0 < length p → is_some (start past (p ++ j ∷ [])) ≡ true → is_some (start past p) ≡ true
parent_started past p j law pos h = by_start (start past (p ++ j ∷ [])) (law.under p j pos h)
  where
    by_start : (o : Option Begun) → MatchOption o ⊥ (λ c. Started past p (λ b. Belongs b c.kind)) → is_some (start past p) ≡ true
    by_start None under = absurd under
    by_start (Some c) under = started_some (λ b. Belongs b c.kind) (start past p) under

-- and of a user transaction it is a user transaction
pub user_parent : (past : Past) (p : Name) (j : ℕ) → Lawful past → 0 < length p → Started past (p ++ j ∷ []) (λ b. IsUser b.kind) → Started past p (λ b. IsUser b.kind)
user_parent past p j law pos user = by_start (start past (p ++ j ∷ [])) user (law.under p j pos (started_some (λ b. IsUser b.kind) (start past (p ++ j ∷ [])) user))
  where
    by_kind : (k : Kind) → IsUser k → Started past p (λ b. Belongs b k) → Started past p (λ b. IsUser b.kind)
    by_kind (kind.User session body) is under = under
    by_kind (kind.Read rec) is under = absurd is
    by_kind (kind.Write rec value) is under = absurd is
    by_kind (kind.Reconf rec config) is under = absurd is
    by_kind kind.Access is under = absurd is

    by_start : (o : Option Begun) → MatchOption o ⊥ (λ b. IsUser b.kind) → MatchOption o ⊥ (λ c. Started past p (λ b. Belongs b c.kind)) → Started past p (λ b. IsUser b.kind)
    by_start None is under = absurd is
    by_start (Some c) is under = by_kind c.kind is under
