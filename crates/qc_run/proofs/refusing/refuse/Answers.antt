use Rattle.std.proofs.Common.{sym, ap, subst, ◌∙◌}
use Rattle.qc_run.specs.Left.{Wrote}
use Rattle.qc_run.proofs.refusing.refuse.Goals as goal

pub returns-clause-refusal : goal.returns-clause-refusal
returns-clause-refusal g c = record {
  none = c.nothing.ensures.none;
  wrote = λ text. subst (λ a. Wrote (g.K.Sink.view c.args.sink.now) (g.K.Sink.view c.tell-status.new.sink) a text) (sym c.nothing.ensures.status) (c.tell-status.ensures.wrote text);
}

pub returns-clause-early : goal.returns-clause-early
returns-clause-early g c = λ none. record {
  refusal = returns-clause-refusal g c;
  no_disks = ap (λ disks. disks.items) c.nothing.ensures.disks ∙ none;
}
