use Rattle.std.proofs.Common.{List, ◌∙◌, subst}
use Rattle.qc_config.specs.Config.{Voting}
use Rattle.qc_event.specs.Tables.{setting_of}
use Rattle.qc_audit.specs.Illegal.{IsFirstIllegal}
use Rattle.qc_audit.proofs.Trails.{not_legal}
use Rattle.qc_audit.proofs.illegal.first_illegal.Goals as goal

pub returns-in-Err-Illegal-clause-none : goal.returns-in-Err-Illegal-clause-none
returns-in-Err-Illegal-clause-none c =
    let trail = c.args.trail.now in
    let place = c.in-Err-Illegal.place in
    let stop = rw c.in-Err-Illegal.field-0-is at c.in-Err-Illegal.ensures.stop in
    let first = subst (λ (firsts : List Voting). IsFirstIllegal (record { firsts = firsts; base = c.args.base.now }) trail place) (c.as_slice.ensures.value ∙ c.in_ok-firsts.ensures) stop in
    (λ is. absurd cc, λ legal. absurd (not_legal (setting_of c.args.table.now c.args.base.now) trail place first legal))
