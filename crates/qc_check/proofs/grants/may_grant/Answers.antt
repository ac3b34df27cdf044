use Rattle.std.proofs.Common.{ℕ, sym, ◌∙◌, subst}
use Rattle.std.specs.Prelude.{IfNone}
use Rattle.qc_event.specs.declared.event.Grant.{Grant}
use Rattle.qc_event.specs.Base.{Setting}
use Rattle.qc_event.specs.Dead.{dead}
use Rattle.qc_event.specs.Grants.{MayGrant, IsServed}
use Rattle.qc_event.specs.History.{Past}
use Rattle.qc_check.specs.Parts.{IsDue}
use Rattle.qc_check.proofs.grants.may_grant.Goals as goal

module _ (setting : Setting) (past : Past) (seat copy : ℕ) (given : Grant) where
  due : MayGrant setting past seat copy given → IsDue setting past seat copy given
  due may = record {
    by_copy = may.by_copy;
    request = may.request;
    first_time = may.first_time;
    sets = may.sets;
    for_copies = may.for_copies;
  }

  whole : IsDue setting past seat copy given → IfNone (dead past given.access) (IsServed setting past copy given) → MayGrant setting past seat copy given
  whole is served = record {
    by_copy = is.by_copy;
    request = is.request;
    first_time = is.first_time;
    sets = is.sets;
    for_copies = is.for_copies;
    served = served;
  }

pub returns-then-not-is_due-clause-may : goal.returns-then-not-is_due-clause-may
returns-then-not-is_due-clause-may g c =
    let past = g.H.Looks.past c.args.h.now in (
      λ e. absurd cc,
      λ may. sym c.if-not-is_due.true ∙ c.is_due.ensures.1 (due c.args.setting.now past c.args.seat c.args.copy c.args.grant.now may),
    )

pub returns-clause-may : goal.returns-clause-may
returns-clause-may g c =
    let past = g.H.Looks.past c.args.h.now in (
      λ e. whole c.args.setting.now past c.args.seat c.args.copy c.args.grant.now (c.is_due.ensures.0 c.if-not-is_due.false) (c.is_served_or_dead.ensures.served.0 e),
      λ may. c.is_served_or_dead.ensures.served.1 may.served,
    )
