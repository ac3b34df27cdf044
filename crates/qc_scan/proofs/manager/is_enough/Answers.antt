use Rattle.std.proofs.Common.{◌≡◌, sym, ap, ◌∙◌, subst}
use Rattle.std.specs.Prelude.{if◌then◌else◌}
use Rattle.qc_config.specs.Config.{holds_read, holds_write}
use Rattle.qc_event.specs.Manager as words
use Rattle.qc_event.proofs.Booleans.{same_truth}
use Rattle.qc_scan.proofs.manager.is_enough.Goals as goal

pub returns-then-stage : goal.returns-then-stage
returns-then-stage g c =
    let past = g.H.Looks.past c.args.h.now in
    let m = c.args.m.now in
    let s = c.stage.inside in
    let copies = words.replied past m s.phase in
    subst (λ (now : words.Stage). c.has_write.result ≡ words.is_enough past m now) c.stage.view_is
    (same_truth c.has_write.result _ c.has_write.ensures ∙ ap (holds_write s.config) c.replied-copies.ensures
    ∙ sym (ap (λ b. if b then holds_write s.config copies else holds_read s.config copies) c.if-stage.true))

pub returns-else-stage : goal.returns-else-stage
returns-else-stage g c =
    let past = g.H.Looks.past c.args.h.now in
    let m = c.args.m.now in
    let s = c.stage.inside in
    let copies = words.replied past m s.phase in
    subst (λ (now : words.Stage). c.has_read.result ≡ words.is_enough past m now) c.stage.view_is
    (same_truth c.has_read.result _ c.has_read.ensures ∙ ap (holds_read s.config) c.replied-copies.ensures
    ∙ sym (ap (λ b. if b then holds_write s.config copies else holds_read s.config copies) c.if-stage.false))
