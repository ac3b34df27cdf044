-- A started user transaction below a top may commit.
use Rattle.std.proofs.Common.{◌≤◌, length, refl}
use Rattle.qc_event.specs.declared.event.Answer.TheVariants as answer
use Rattle.qc_event.specs.declared.event.Kind.{Kind}
use Rattle.qc_event.specs.declared.event.Kind.TheVariants as kind
use Rattle.qc_event.specs.Base.{Setting}
use Rattle.qc_event.specs.History.{Name, Begun, start}
use Rattle.qc_event.specs.Standing.{IsUser, Started}
use Rattle.qc_event.proofs.Options.{match_wider}
use Rattle.qc_desk.specs.declared.view.View.{View}
use Rattle.qc_desk.specs.Own.{CommitsOwn, MayCommitOwn}

pub user_commits : (setting : Setting) (user : Name) (v : View) → Started v.seen user (λ b. IsUser b.kind) → 2 ≤ length user → MayCommitOwn setting v user answer.Nothing
user_commits setting user v began deep =
    match_wider (start v.seen user) (λ b. IsUser b.kind) (λ b. CommitsOwn setting v.seen v.number user answer.Nothing b b.kind) (λ b is. by_kind b b.kind is) began
  where
    by_kind : (b : Begun) (k : Kind) → IsUser k → CommitsOwn setting v.seen v.number user answer.Nothing b k
    by_kind b (kind.User session body) is = (deep, refl)
    by_kind b (kind.Read rec) is = absurd is
    by_kind b (kind.Write rec value) is = absurd is
    by_kind b (kind.Reconf rec config) is = absurd is
    by_kind b kind.Access is = absurd is
