-- Legal histories are orderly.
use Rattle.std.proofs.Common.{◌≡◌, ℕ, inl, inr, true, [], ◌∷◌, ◌++◌, length, refl, sym, ap, ◌∙◌, subst, arith}
use mathlib.Core.Bool.{true≢false}
use Rattle.std.specs.Prelude.{Option, None, Some, is_some, is_none, find, MatchOption}
use Rattle.qc_names.specs.Name as name
use Rattle.qc_event.specs.Base.{Setting}
use Rattle.qc_event.specs.declared.event.Answer.{Answer}
use Rattle.qc_event.specs.declared.event.Event.{Event}
use Rattle.qc_event.specs.declared.event.Event.TheVariants as event
use Rattle.qc_event.specs.declared.event.How.{How}
use Rattle.qc_event.specs.declared.event.How.TheVariants.{Commit, Abort}
use Rattle.qc_event.specs.declared.event.Kind.{Kind}
use Rattle.qc_event.specs.declared.event.Kind.TheVariants as kind
use Rattle.qc_event.specs.History.{Past, Name, Begun, start, end, is_ready}
use Rattle.qc_event.specs.Standing.{IsUser, IsManager, Started, open_child, IsGoing}
use Rattle.qc_event.specs.Users.{MayStartTop, MayStartNext, MayReady, MayCommitUserOrTop}
use Rattle.qc_event.specs.Starts.{Stands}
use Rattle.qc_event.specs.Commits.{MayCommit}
use Rattle.qc_event.specs.Starts as starts
use Rattle.qc_event.specs.Legal as legal
use Rattle.qc_event.specs.Legal.{Legal}
use Rattle.qc_event.proofs.Orderly.{Belongs, IsNewTop, IsNextChild, Begins, BecomesReady, Commits, Ends, KeepsOrder, Orderly}
use Rattle.qc_event.proofs.LastNumber.{child_last}
use Rattle.qc_event.proofs.OneEntry.{not_some, ready_step, childless}
use Rattle.qc_event.proofs.Lawful.{Lawful, lawful, started_some, started_wider, nonroot}

new_top : (past : Past) (seat number : ℕ) (k : Kind) → MayStartTop past seat number k → IsNewTop past number k
new_top past seat number k may = record { user = may.user; fresh = may.fresh }

next_child : (Under : Begun → Type 0) (past : Past) (seat : ℕ) (n : Name) (k : Kind) → ((b : Begun) → Under b → Belongs b k) → MayStartNext Under past seat n → IsNextChild past n k
next_child Under past seat n k belongs may = record {
  parent_going = may.parent_going;
  parent_not_ready = may.parent_not_ready;
  next_child = may.next_child;
  belongs = started_wider Under (λ b. Belongs b k) (start past (name.front n)) belongs may.stands;
}

becomes_ready : (past : Past) (seat : ℕ) (top : Name) → MayReady past seat top → BecomesReady past top
becomes_ready past seat top may = record { is_top = may.is_top; is_open = may.is_open; not_ready = may.not_ready; children_ended = may.children_ended }

-- who goes on and has no open child may commit
going_commits : (past : Past) (n : Name) → IsGoing past n → open_child past n ≡ None → Commits past n
going_commits past n going closed = record { is_open = going.is_open; closed = inl closed; alive = λ long. going.alive }

user_commits : (past : Past) (seat : ℕ) (n : Name) (given : Answer) → MayCommitUserOrTop past seat n given → Commits past n
user_commits past seat [] given may = going_commits past [] may.going may.children_ended
user_commits past seat (x ∷ []) given may = record { is_open = may.is_open; closed = inr may.ready; alive = λ long. absurd (omega arith) }
user_commits past seat (x ∷ y ∷ r) given may = going_commits past (x ∷ y ∷ r) may.going may.children_ended

stands_belongs : (setting : Setting) (seat : ℕ) (b : Begun) (depth : ℕ) (k : Kind) → Stands setting seat b depth k → Belongs b k
stands_belongs setting seat b depth (kind.User session body) h = h.0
stands_belongs setting seat b depth (kind.Read rec) h = h.0
stands_belongs setting seat b depth (kind.Write rec value) h = h.0
stands_belongs setting seat b depth (kind.Reconf rec config) h = h.0
stands_belongs setting seat b depth kind.Access h = h.0

begins : (setting : Setting) (past : Past) (seat : ℕ) (n : Name) (k : Kind) → starts.Starts setting past seat n k → Begins past n k
begins setting past seat [] k may = absurd may
begins setting past seat (x ∷ []) k may = new_top past seat x k may
begins setting past seat (x ∷ y ∷ r) k may = next_child _ past seat (x ∷ y ∷ r) k (λ b. stands_belongs setting seat b _ k) may

none_belongs : (b : Begun) (k : Kind) → b.kind ≡ kind.Access → Belongs b k → ⊥
none_belongs b kind.Access is under = subst IsManager is under
none_belongs b (kind.User session body) is under = subst IsUser is under
none_belongs b (kind.Read rec) is under = subst IsUser is under
none_belongs b (kind.Write rec value) is under = subst IsUser is under
none_belongs b (kind.Reconf rec config) is under = subst IsUser is under

-- nothing stands under an access
under_access : (past : Past) (n : Name) → Lawful past → Started past n (λ b. b.kind ≡ kind.Access) → open_child past n ≡ None
under_access past n law access = ap (find (λ c. is_none (end past c))) (childless past n (λ c is. not_some (start past c) (unstarted c (child_last n c is))))
  where
    by_parent : (k : Kind) (o : Option Begun) → MatchOption o ⊥ (λ b. b.kind ≡ kind.Access) → MatchOption o ⊥ (λ b. Belongs b k) → ⊥
    by_parent k None is under = is
    by_parent k (Some b) is under = none_belongs b k is under

    by_child : (o : Option Begun) → MatchOption o ⊥ (λ c. Started past n (λ b. Belongs b c.kind)) → ⊥
    by_child None under = under
    by_child (Some c) under = by_parent c.kind (start past n) access under

    unstarted : (c : Name) → (j : ℕ) × (c ≡ n ++ j ∷ []) → is_some (start past c) ≡ true → ⊥
    unstarted c (j, is) h = by_child (start past (n ++ j ∷ []))
        (law.under n j (nonroot past n law (started_some (λ b. b.kind ≡ kind.Access) (start past n) access)) (ap (λ m. is_some (start past m)) (sym is) ∙ h))

commits : (setting : Setting) (past : Past) (seat : ℕ) (n : Name) (b : Begun) (given : Answer) (k : Kind) → Lawful past → start past n ≡ Some b → b.kind ≡ k → MayCommit setting past seat n b given k → Commits past n
commits setting past seat n b given (kind.User session body) law is of may = user_commits past seat n given may
commits setting past seat n b given (kind.Read rec) law is of may = going_commits past n may.going may.children_ended
commits setting past seat n b given (kind.Write rec value) law is of may = going_commits past n may.going may.children_ended
commits setting past seat n b given (kind.Reconf rec config) law is of may = going_commits past n may.going may.children_ended
commits setting past seat n b given kind.Access law is of may =
    going_commits past n may.going (under_access past n law (subst (λ o. MatchOption o ⊥ (λ (x : Begun). x.kind ≡ kind.Access)) (sym is) of))

ends : (setting : Setting) (past : Past) (seat : ℕ) (n : Name) (how : How) → Lawful past → (o : Option Begun) → start past n ≡ o → MatchOption o ⊥ (legal.MayEnd setting past seat n how) → Ends past n how
ends setting past seat n how law None is may = absurd may
ends setting past seat n (Commit given) law (Some b) is may = commits setting past seat n b given b.kind law is refl may
ends setting past seat n (Abort c) law (Some b) is may = may.is_open

keeps : (setting : Setting) (past : Past) (seat : ℕ) (ev : Event) → Lawful past → legal.MayHappen setting past seat ev → KeepsOrder past ev
keeps setting past seat (event.Start n k) law may = begins setting past seat n k may
keeps setting past seat (event.End n how) law may = ends setting past seat n how law (start past n) refl may
keeps setting past seat (event.Ready top) law may = becomes_ready past seat top may
keeps setting past seat _ law may = tt

pub legal_orderly : (setting : Setting) (past : Past) → Legal setting past → Orderly past
legal_orderly setting [] h = tt
legal_orderly setting (e ∷ past) h =
    let before = legal_orderly setting past h.0 in
    (before, keeps setting past e.seat e.event (lawful past before) h.1)

-- only tops are ready
pub ready_top : (setting : Setting) (past : Past) (n : Name) → Legal setting past → is_ready past n ≡ true → length n ≡ 1
ready_top setting [] n h ready = absurd (true≢false (sym ready))
ready_top setting (e ∷ past) n h ready = elim (ready_step e past n ready) [
  | inl old ↦ ready_top setting past n h.0 old
  | inr is ↦ (subst (KeepsOrder past) is (legal_orderly setting (e ∷ past) h).1).is_top
]
