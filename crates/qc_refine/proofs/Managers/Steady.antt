-- A manager that committed was complete, and stays as it was then.
use Rattle.std.proofs.Common.{◌≡◌, ℕ, ◌<◌, Bool, true, List, [], ◌∷◌, ◌++◌, length, refl, sym, ap, ap₂, ◌∙◌, subst, inl, inr}
use mathlib.Core.Bool.{true≢false}
use Rattle.std.specs.Prelude.{Option, None, Some, is_some, is_none, MatchOption, IsTrue, not, ◌&&◌, ◌+◌}
use Rattle.std.specs.List.{list_all}
use Rattle.std.specs.Option.{option_or}
use Rattle.std.proofs.Math.Path.{fun_ext}
use Rattle.qc_config.specs.Config.{Voting}
use Rattle.qc_config.specs.declared.tuple.Tuple.{Tuple}
use Rattle.qc_event.specs.declared.event.Answer.{Answer}
use Rattle.qc_event.specs.declared.event.Answer.TheVariants as answer
use Rattle.qc_event.specs.declared.event.Entry.{Entry}
use Rattle.qc_event.specs.declared.event.How.TheVariants.{Commit}
use Rattle.qc_event.specs.declared.event.Kind.{Kind}
use Rattle.qc_event.specs.declared.event.Kind.TheVariants as kind
use Rattle.qc_event.specs.declared.event.Phase.{Phase}
use Rattle.qc_event.specs.declared.event.Phase.TheVariants.{Collect}
use Rattle.qc_event.specs.Base.{Setting}
use Rattle.qc_event.specs.Commits.{MayCommit, MayCommitManager, manager_answer}
use Rattle.qc_event.specs.Dead.{outcome_of, is_committed}
use Rattle.qc_event.specs.History.{Past, Name, Begun, start, end, end_in, is_child}
use Rattle.qc_event.specs.Standing.{IsManager, open_child}
use Rattle.qc_event.specs.Manager.{replies, replied, greatest_among, collecting, stages_by, is_last, is_complete, first_for}
use Rattle.qc_event.specs.Legal.{Legal, MayHappen, MayEnd}
use Rattle.qc_event.proofs.LastNumber.{child_last}
use Rattle.qc_event.proofs.Lawful.{lawful}
use Rattle.qc_event.proofs.LegalOrderly.{legal_orderly}
use Rattle.qc_event.proofs.OneEntry.{end_step, no_child_passes, some_or_none}
use Rattle.qc_serial.specs.Visible.{served}
use Rattle.qc_refine.specs.Given.{in_phase, tuples_of, marks_of}
use Rattle.qc_refine.proofs.Managers.KindsBelow.{HasKind, kind_before}
use Rattle.qc_refine.proofs.Managers.AloneServed.{commits_started}
use Rattle.qc_refine.proofs.Managers.Delivers.{delivers_or_not}
use Rattle.qc_refine.proofs.Managers.ServedAsked.{served_same}
use Rattle.qc_refine.proofs.Managers.Gathered.{replies_served, replied_served}
use Rattle.qc_refine.proofs.Managers.Stages.{newest_among, is_enough_by}

-- whether a manager is complete, and what it answers, by the tuples and the copies that replied
abbrev pub is_complete_by : Voting → Kind → List Tuple → (Phase → List Bool) → Bool
is_complete_by first k tuples marks =
    not (is_enough_by marks (collecting (newest_among first tuples)) && is_last k (newest_among first tuples) (greatest_among tuples))
    && list_all (is_enough_by marks) (stages_by k (newest_among first tuples) (greatest_among tuples))

abbrev pub answer_by : Voting → Kind → List Tuple → Answer
answer_by first (kind.Read rec) tuples = answer.Value (greatest_among tuples).value
answer_by first (kind.Reconf rec config) tuples = answer.Generation ((newest_among first tuples).generation + 1)
answer_by first _ tuples = answer.Nothing

answer_is : (past : Past) (first : Voting) (m : Name) (k : Kind) → manager_answer past first m k ≡ answer_by first k (replies past m)
answer_is past first m (kind.Read rec) = refl
answer_is past first m (kind.Write rec value) = refl
answer_is past first m (kind.Reconf rec config) = refl
answer_is past first m (kind.User session body) = refl
answer_is past first m kind.Access = refl

-- a manager is complete, and this is its answer
pub record IsThrough (past : Past) (first : Voting) (m : Name) (k : Kind) (given : Answer) : Type 0 where
  pub complete : IsTrue (is_complete past first m k)
  pub answers : given ≡ manager_answer past first m k

-- all children of a name have ended
abbrev pub IsClosed : Past → Name → Type 0
IsClosed past m = (c : Name) → is_child m c ≡ true → is_some (start past c) ≡ true → end past c ≡ None → ⊥

pub committed_closed : (setting : Setting) (past : Past) (m : Name) (given : Answer) → Legal setting past → 0 < length m → end past m ≡ Some (Commit given) → IsClosed past m
committed_closed setting past m given legal pos is c child began going = at_last (child_last m c child)
  where
    at_last : (j : ℕ) × (c ≡ m ++ j ∷ []) → ⊥
    at_last (j, last) =
        some_or_none (end past (m ++ j ∷ []))
        ((lawful past (legal_orderly setting past legal)).committed_closed m j pos (ap (λ o. is_committed (outcome_of o)) is) (ap (λ x. is_some (start past x)) (sym last) ∙ began))
        (ap (end past) (sym last) ∙ going)

pub none_closed : (past : Past) (m : Name) → open_child past m ≡ None → IsClosed past m
none_closed past m none c child began going = true≢false (sym (ap is_none going) ∙ no_child_passes (λ x. is_none (end past x)) past m c child began none)

module _ (setting : Setting) (past : Past) (e : Entry) (m : Name) (k : Kind) (legal : Legal setting (e ∷ past)) (pos : 0 < length m) (has : HasKind (e ∷ past) m k) (manager : IsManager k) (closed : IsClosed past m) where
  had : HasKind past m k
  had = kind_before e past m k has

  pub served_steady : served (e ∷ past) m ≡ served past m
  served_steady = elim (delivers_or_not setting past e m k legal pos had manager) [
    | inl d ↦ absurd (closed d.access d.child (commits_started setting past e d.access _ legal d.is) d.going)
    | inr quiet ↦ served_same setting past e m k legal pos had manager quiet
  ]

  replies_steady : replies (e ∷ past) m ≡ replies past m
  replies_steady = replies_served setting (e ∷ past) m k legal pos has manager ∙ ap (λ gs. tuples_of (in_phase Collect gs)) served_steady ∙ sym (replies_served setting past m k legal.0 pos had manager)

  replied_steady : replied (e ∷ past) m ≡ replied past m
  replied_steady = fun_ext (λ phase. replied_served setting (e ∷ past) m k legal pos has manager phase ∙ ap (λ gs. marks_of (in_phase phase gs)) served_steady ∙ sym (replied_served setting past m k legal.0 pos had manager phase))

  pub through_steady : (first : Voting) (given : Answer) → IsThrough past first m k given → IsThrough (e ∷ past) first m k given
  through_steady first given through = record {
    complete = ap₂ (λ ts marks. is_complete_by first k ts marks) replies_steady replied_steady ∙ through.complete;
    answers = through.answers ∙ answer_is past first m k ∙ ap (answer_by first k) (sym replies_steady) ∙ sym (answer_is (e ∷ past) first m k);
  }

-- WHAT A COMMIT TELLS

commits_manager : (setting : Setting) (past : Past) (seat : ℕ) (m : Name) (b : Begun) (given : Answer) (k : Kind) → IsManager k → MayCommit setting past seat m b given k → MayCommitManager setting past seat m b given
commits_manager setting past seat m b given (kind.Read rec) manager may = may
commits_manager setting past seat m b given (kind.Write rec value) manager may = may
commits_manager setting past seat m b given (kind.Reconf rec config) manager may = may
commits_manager setting past seat m b given (kind.User session body) manager may = absurd manager
commits_manager setting past seat m b given kind.Access manager may = absurd manager

-- what holds at a commit
record AtCommit (past : Past) (first : Voting) (m : Name) (k : Kind) (given : Answer) : Type 0 where
  through : IsThrough past first m k given
  closed : IsClosed past m

at_commit : (setting : Setting) (past : Past) (seat : ℕ) (m : Name) (k : Kind) (given : Answer) (o : Option Begun) → ((b : Begun) → o ≡ Some b → b.kind ≡ k) → IsManager k → MatchOption o ⊥ (MayEnd setting past seat m (Commit given)) → AtCommit past (first_for setting k) m k given
at_commit setting past seat m k given None has manager may = absurd may
at_commit setting past seat m k given (Some b) has manager may =
    let is : b.kind ≡ k = has b refl in
    let commits : MayCommitManager setting past seat m b given = commits_manager setting past seat m b given k manager (subst (MayCommit setting past seat m b given) is may) in
    record {
      through = subst (λ x. IsThrough past (first_for setting x) m x given) is (record { complete = commits.complete; answers = commits.answers });
      closed = none_closed past m commits.children_ended;
    }

-- who committed is complete
pub through : (setting : Setting) (past : Past) (m : Name) (k : Kind) (given : Answer) → Legal setting past → 0 < length m → HasKind past m k → IsManager k → end past m ≡ Some (Commit given) → IsThrough past (first_for setting k) m k given
through setting [] m k given legal pos has manager is = absurd cc
through setting (e ∷ past) m k given legal pos has manager is =
    let had = kind_before e past m k has in
    elim (end_step e past m (Commit given) is) [
      | inl old ↦ through_steady setting past e m k legal pos has manager (committed_closed setting past m given legal.0 pos old) (first_for setting k) given (through setting past m k given legal.0 pos had manager old)
      | inr now ↦
          let at = at_commit setting past e.seat m k given (start past m) had manager (subst (MayHappen setting past e.seat) now.1 legal.1) in
          through_steady setting past e m k legal pos has manager at.closed (first_for setting k) given at.through
    ]

-- and was given then all that it ever is
pub served_settled : (setting : Setting) (newer older : Past) (m : Name) (k : Kind) (given : Answer) → Legal setting (newer ++ older) → 0 < length m → HasKind (newer ++ older) m k → IsManager k → end older m ≡ Some (Commit given) → served (newer ++ older) m ≡ served older m
served_settled setting [] older m k given legal pos has manager is = refl
served_settled setting (e ∷ newer) older m k given legal pos has manager is =
    let had = kind_before e (newer ++ older) m k has in
    served_steady setting (newer ++ older) e m k legal pos has manager (committed_closed setting (newer ++ older) m given legal.0 pos (ended_later newer older is))
    ∙ served_settled setting newer older m k given legal.0 pos had manager is
  where
    ended_later : (later past : Past) → end past m ≡ Some (Commit given) → end (later ++ past) m ≡ Some (Commit given)
    ended_later [] past at = at
    ended_later (x ∷ later) past at = ap (λ o. option_or o (end_in m x.event)) (ended_later later past at)
