-- A top's number joins those of the tops.
use Rattle.std.proofs.Common.{List, sym, ◌∙◌, subst}
use Rattle.qc_codec.specs.declared.past.Logged.{Logged}
use Rattle.qc_ledger.specs.Seen.{AreNumbers}
use Rattle.qc_ledger.proofs.Numbers.{alone, numbers_more}
use Rattle.qc_ledger.proofs.seen.Seen.take_top.Goals as goal

pub returns-clause-numbers : goal.returns-clause-numbers
returns-clause-numbers c =
    let l : Logged = record { top = c.args.top; aborted = c.args.aborted } in
    let n = c.in-1-Some.number in
    let top = alone c.args.top n (sym c.len.ensures.length ∙ c.in-1-Some.is-0) (sym c.number.ensures ∙ c.in-1-Some.is-1) in
    subst (λ (tops : List Logged). AreNumbers c.insert.new.self tops) (sym c.in_ok-append_moved.ensures.ok)
    (numbers_more c.args.self.now.numbers c.insert.new.self c.args.self.now.tops.items n l top c.in_ok-insert.ensures.updates c.requires)
