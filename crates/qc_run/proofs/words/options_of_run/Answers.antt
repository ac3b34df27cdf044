use Rattle.std.proofs.Common.{◌≡◌, sym, subst, map, Some}
use Rattle.std.specs.Prelude.{◌↔◌, string_bytes}
use Rattle.qc_run.specs.Words.{IsRunAs}
use Rattle.qc_run.proofs.Choices.{choices_of_run}
use Rattle.qc_run.proofs.words.options_of_run.Goals as goal

pub returns : goal.returns
returns c = λ chosen. subst (λ o. (o ≡ Some chosen) ↔ IsRunAs (map string_bytes c.args.words.now) chosen) (sym c.run_options.ensures) (choices_of_run (map string_bytes c.args.words.now) chosen)
