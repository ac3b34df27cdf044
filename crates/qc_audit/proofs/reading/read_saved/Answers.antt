use Rattle.std.proofs.Common.{◌≡◌, true, false, sym, ◌∙◌}
use Rattle.std.proofs.lemmas.Result.{err_from_is_err_and}
use Rattle.qc_audit.proofs.Parts.{made_there, sizes_there, still_bad, trail_there}
use Rattle.qc_audit.proofs.reading.read_saved.Goals as goal

pub returns-in_err-format-clause-bad : goal.returns-in_err-format-clause-bad
returns-in_err-format-clause-bad c =
    let p = err_from_is_err_and c.from_residual-in_err-format.result c.from_residual-in_err-format.ensures.1 in
    let parts = c.in_ok-parts.parts in
    rw (p.1, p.2) (λ is table trail s. c.in_err-format.ensures.bad (still_bad c.in_err-format.field-0.0 is) s.format table (made_there c.args.bytes.now parts.made.now parts.trail.now c.in_ok-parts.ensures.found table trail s))

pub returns-in_err-trail-clause-bad : goal.returns-in_err-trail-clause-bad
returns-in_err-trail-clause-bad c =
    let p = err_from_is_err_and c.from_residual-in_err-trail.result c.from_residual-in_err-trail.ensures.1 in
    let parts = c.in_ok-parts.parts in
    let made = c.in_ok-format.field-0 in
    rw (p.1, p.2) (λ is table trail s. c.in_err-trail.ensures.bad (still_bad c.in_err-trail.field-0.0 is) trail (trail_there c.args.bytes.now parts.made.now parts.trail.now c.in_ok-parts.ensures.found table trail s made.format made.table c.in_ok-format.ensures.found))

pub returns-then-not-has_sizes-clause-bad : goal.returns-then-not-has_sizes-clause-bad
returns-then-not-has_sizes-clause-bad c = λ is table trail s.
    let parts = c.in_ok-parts.parts in
    let made = c.in_ok-format.field-0 in
    let told = c.has_sizes.ensures.1 (sizes_there c.args.bytes.now parts.made.now parts.trail.now c.in_ok-parts.ensures.found table trail s made.format made.table c.in_ok-format.ensures.found c.in_ok-trail.trail c.in_ok-trail.ensures.found) in
    let clash : false ≡ true = sym c.if-not-has_sizes.true ∙ told in
    absurd cc
