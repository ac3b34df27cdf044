-- A top more, whose number is new.
use Rattle.std.proofs.Common.{◌∙◌, ap, sym}
use Rattle.qc_codec.specs.declared.past.Logged.{Logged}
use Rattle.qc_ledger.proofs.Numbers.{alone}
use Rattle.qc_event.proofs.OneEntry.{no_some}
use Rattle.qc_site.proofs.Places.{places_next}
use Rattle.qc_site.proofs.tops.places_of.Goals as goal

pub loop-index-preserved : goal.loop-index-preserved
loop-index-preserved c =
    let n = c.in-1-Some.number in
    places_next c.loop-index.places c.insert.new.self c.args.tops.now c.loop-index.index c.index-tops-index.result n c.loop-index-test.true c.index-tops-index.is
    (ap (λ (l : Logged). l.top) c.index-tops-index.is ∙ alone _ n (sym c.len.ensures.length ∙ c.in-1-Some.is-0) (sym c.number.ensures ∙ c.in-1-Some.is-1))
    (sym c.in_ok-insert.ensures.old ∙ no_some c.in_ok-insert.field-0 (sym c.is_some.ensures ∙ c.if-is_some.false))
    c.in_ok-insert.ensures.updates c.loop-index.invariant
