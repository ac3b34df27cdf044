-- What stands behind the older records.
use Rattle.std.proofs.Common.{Ok, List, ap, sym, subst, ◌∙◌}
use Rattle.std.specs.Prelude.{slice_get}
use Rattle.qc_event.specs.declared.event.Grant.{Grant}
use Rattle.qc_journal.specs.Image.{bodies_of}
use Rattle.qc_site.specs.Back.{Stand}
use Rattle.qc_site.proofs.Backs.{says_apart, says_stands, says_unread, stand_there}
use Rattle.qc_site.proofs.back.said.Goals as goal

pub returns-in-Err-clause-says : goal.returns-in-Err-clause-says
returns-in-Err-clause-says c =
    says_unread c.args.copies c.args.old c.args.given.now c.args.hand.now c.args.found.now c.split_at.result.1.now c.split_at.ensures.back c.if-found-old.false c.in_ok-grants.field-0 c.in-Err.index c.in-Err.is c.in_ok-grants.ensures.unread

pub returns-in-Ok-compare-clause-says : goal.returns-in-Ok-compare-clause-says
returns-in-Ok-compare-clause-says c =
    let stand = stand_there c.args.copies c.args.old c.args.given.now c.args.hand.now c.args.found.now c.split_at.result.1.now c.split_at.ensures.back c.if-found-old.false c.in_ok-grants.field-0 c.in-Ok.grants c.in-Ok.is c.in_ok-grants.ensures.grants in
    says_stands c.args.copies c.args.old c.args.given.now c.args.hand.now (bodies_of c.args.found.now) c.deref.result.now
    (subst (Stand c.args.copies c.args.old c.args.given.now c.args.hand.now (bodies_of c.args.found.now)) (sym c.deref.ensures.value) stand)
    c.in-Ok-compare.stands
    (λ ok same is. c.in-Ok-compare.ensures.with (ap Ok (same ∙ is)))
    (λ ok same is. c.in-Ok-compare.ensures.without (ap Ok (same ∙ is)))

pub returns-clause-says : goal.returns-clause-says
returns-clause-says c =
    let stand = stand_there c.args.copies c.args.old c.args.given.now c.args.hand.now c.args.found.now c.split_at.result.1.now c.split_at.ensures.back c.if-found-old.false c.in_ok-grants.field-0 c.in-Ok.grants c.in-Ok.is c.in_ok-grants.ensures.grants in
    let index = c.in-Err-compare.index in
    says_apart c.args.copies c.args.old c.args.given.now c.args.hand.now (bodies_of c.args.found.now) c.deref.result.now
    (subst (Stand c.args.copies c.args.old c.args.given.now c.args.hand.now (bodies_of c.args.found.now)) (sym c.deref.ensures.value) stand)
    index c.grant_at.result c.grant_at-in-Err-compare.result c.in-Err-compare.ensures.apart
    (c.grant_at.ensures ∙ ap (λ (gs : List Grant). slice_get gs index) (c.deref-in-Err-compare.ensures.value ∙ sym c.deref.ensures.value))
    c.grant_at-in-Err-compare.ensures c.in-Err-compare.ensures.neither
