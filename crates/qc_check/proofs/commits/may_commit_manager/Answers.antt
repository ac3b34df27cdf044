use Rattle.std.proofs.Common.{◌≡◌, ℕ, sym, ◌∙◌, subst}
use Rattle.std.specs.Prelude.{IsTrue}
use Rattle.qc_event.specs.declared.event.Answer.{Answer}
use Rattle.qc_event.specs.declared.event.Kind.{Kind}
use Rattle.qc_event.specs.Base.{Setting}
use Rattle.qc_event.specs.Commits.{MayCommitManager, manager_answer}
use Rattle.qc_event.specs.History.{Past, Name, Begun}
use Rattle.qc_event.specs.Manager.{first_for, is_complete}
use Rattle.qc_check.specs.Parts.{IsFreeToCommit}
use Rattle.qc_check.proofs.commits.may_commit_manager.Goals as goal

module _ (setting : Setting) (past : Past) (seat : ℕ) (n : Name) (m : Begun) (given : Answer) where
  abbrev IsComplete : Kind → Type 0
  IsComplete k = IsTrue (is_complete past (first_for setting k) n k)

  abbrev Answers : Kind → Type 0
  Answers k = given ≡ manager_answer past (first_for setting k) n k

  free : MayCommitManager setting past seat n m given → IsFreeToCommit past seat n m
  free may = record { by_client = may.by_client; own_seat = may.own_seat; going = may.going; children_ended = may.children_ended }

  whole : IsFreeToCommit past seat n m → IsComplete m.kind → Answers m.kind → MayCommitManager setting past seat n m given
  whole free complete answers = record {
    by_client = free.by_client;
    own_seat = free.own_seat;
    going = free.going;
    complete = complete;
    children_ended = free.children_ended;
    answers = answers;
  }

pub returns-then-not-is_free_to_commit : goal.returns-then-not-is_free_to_commit
returns-then-not-is_free_to_commit g c = (
  λ e. absurd cc,
  λ may. sym c.if-not-is_free_to_commit.true ∙ c.is_free_to_commit.ensures.1 (free c.args.setting.now (g.H.Looks.past c.args.h.now) c.args.seat c.args.n.now c.args.begun.now c.args.given.now may),
)

pub returns-then-not-is_done : goal.returns-then-not-is_done
returns-then-not-is_done g c =
    let complete = IsComplete c.args.setting.now (g.H.Looks.past c.args.h.now) c.args.seat c.args.n.now c.args.begun.now c.args.given.now in (
      λ e. absurd cc,
      λ may. sym c.if-not-is_done.true ∙ c.is_done.ensures ∙ subst complete (sym c.kind-kind.ensures) may.complete,
    )

pub returns : goal.returns
returns g c =
    let setting = c.args.setting.now in
    let past = g.H.Looks.past c.args.h.now in
    let n = c.args.n.now in
    let m = c.args.begun.now in
    let given = c.args.given.now in
    let answers = Answers setting past c.args.seat n m given in
    let complete = IsComplete setting past c.args.seat n m given in (
      λ e. whole setting past c.args.seat n m given (c.is_free_to_commit.ensures.0 c.if-not-is_free_to_commit.false)
          (subst complete c.kind-kind.ensures (sym c.is_done.ensures ∙ c.if-not-is_done.false))
          (subst answers c.kind-kind.ensures (c.gives_answer.ensures.0 e)),
      λ may. c.gives_answer.ensures.1 (subst answers (sym c.kind-kind.ensures) may.answers),
    )
