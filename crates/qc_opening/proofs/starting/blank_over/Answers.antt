-- The desk is over the rows of the copies.
use Rattle.std.proofs.Common.{◌≡◌, map, ◌∙◌}
use Rattle.qc_desk.specs.declared.desk.Blank.{Blank}
use Rattle.qc_site.specs.Start.{start_of}
use Rattle.qc_opening.proofs.Mountings.Stores.{if_ok}
use Rattle.qc_opening.proofs.starting.blank_over.Goals as goal

pub returns-clause-base : goal.returns-clause-base
returns-clause-base g c =
    let Over : Blank → Type 0 = λ blank. (blank.base ≡ c.new.result) × (blank.epoch ≡ c.args.epoch) in
    let Of : Blank → Type 0 = λ blank. blank.base ≡ map (λ pair. start_of pair.copy) c.args.copies.now in
    if_ok c.new-2.result Over Of c.new-2.ensures (λ blank is. is.0 ∙ (c.new.ensures ∙ c.in_ok-rows_of.ensures))

pub returns-clause-epoch : goal.returns-clause-epoch
returns-clause-epoch g c =
    let Over : Blank → Type 0 = λ blank. (blank.base ≡ c.new.result) × (blank.epoch ≡ c.args.epoch) in
    let Of : Blank → Type 0 = λ blank. blank.epoch ≡ c.args.epoch in
    if_ok c.new-2.result Over Of c.new-2.ensures (λ blank is. is.1)
