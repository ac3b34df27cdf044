use Rattle.std.proofs.Common.{◌∙◌, sym, ap, Some}
use Rattle.std.specs.Prelude.{slice_set}
use Rattle.qc_config.specs.Copies.{with}
use Rattle.qc_managers.specs.declared.heard.Heard.{Heard}
use Rattle.qc_managers.proofs.HeardMore.{heard_miss, heard_miss_again, asked_at}
use Rattle.qc_managers.proofs.heard.Heard.miss.Goals as goal

pub returns-then-not-was_asked : goal.returns-then-not-was_asked
returns-then-not-was_asked c = λ told is.
    let copy = c.args.copy in
    let first = asked_at told c.args.self.now copy is c.requires ∙ sym c.has-was_asked.ensures ∙ c.if-not-was_asked.true in
    rw c.with-self.ensures
    (ap (λ (h : Heard). record h { asked = with h.asked copy; missing = slice_set h.missing copy (Some c.args.why) }) is ∙ sym (heard_miss told copy c.args.why c.requires first))

pub returns-else-not-was_asked : goal.returns-else-not-was_asked
returns-else-not-was_asked c = λ told is.
    let copy = c.args.copy in
    let again = asked_at told c.args.self.now copy is c.requires ∙ sym c.has-was_asked.ensures ∙ c.if-not-was_asked.false in
    rw c.with-self.ensures
    (ap (λ (h : Heard). record h { asked = with h.asked copy }) is ∙ sym (heard_miss_again told copy c.args.why c.requires again))
