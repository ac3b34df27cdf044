use Rattle.std.proofs.Common.{◌∙◌, sym, ap}
use Rattle.qc_config.specs.Copies.{with}
use Rattle.qc_managers.specs.declared.heard.Heard.{Heard}
use Rattle.qc_managers.proofs.HeardMore.{heard_reply}
use Rattle.qc_managers.proofs.heard.Heard.add.Goals as goal

pub returns : goal.returns
returns c = λ tuple told is.
    rw (c.with-self.ensures, c.with-self-2.ensures)
    (ap (λ (h : Heard). record h { asked = with h.asked c.args.copy; replied = with h.replied c.args.copy }) is ∙ sym (heard_reply told c.args.copy tuple c.requires))
