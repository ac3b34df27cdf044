use Rattle.std.proofs.Common.{◌∷◌, List, ap, ◌∙◌, sym, subst}
use Rattle.std.specs.Prelude.{slice_index}
use Rattle.qc_event.specs.History.{Name}
use Rattle.qc_codec.specs.declared.record.LedgerRecord.{LedgerRecord}
use Rattle.qc_codec.specs.Bodies.{HasCurrentFormat, ledger, top}
use Rattle.qc_codec.proofs.Fits.{made_fits, top_alone}
use Rattle.qc_codec.proofs.Puts.{on_ok, behind_tag}
use Rattle.qc_codec.proofs.ledger.put_ledger.Goals as goal

pub put_making-requires-clause-fits : goal.put_making-requires-clause-fits
put_making-requires-clause-fits c = made_fits c.in-Made.made (subst (λ (r : LedgerRecord). ledger.fits r) c.in-Made.is c.requires.fits)

pub put_making-requires-clause-current : goal.put_making-requires-clause-current
put_making-requires-clause-current c = subst HasCurrentFormat c.in-Made.is c.requires.current

pub put_top-requires-clause-fits : goal.put_top-requires-clause-fits
put_top-requires-clause-fits c = rw c.as_slice.ensures ((top_alone c.in-Top.top c.in-Top.aborted (subst (λ (r : LedgerRecord). ledger.fits r) c.in-Top.is c.requires.fits)).fits)

pub put_top-requires-clause-some : goal.put_top-requires-clause-some
put_top-requires-clause-some c = (top_alone c.in-Top.top c.in-Top.aborted (subst (λ (r : LedgerRecord). ledger.fits r) c.in-Top.is c.requires.fits)).some

pub returns-in_ok-push-in-Top : goal.returns-in_ok-push-in-Top
returns-in_ok-push-in-Top c =
    let alone = top_alone c.in-Top.top c.in-Top.aborted (subst (λ (r : LedgerRecord). ledger.fits r) c.in-Top.is c.requires.fits) in
    on_ok c.put_top.result
    (behind_tag c.args.out.now.items c.push-in-Top.new.self.items c.put_top.new.out.items 3 (top.spell (slice_index c.in-Top.top 0, c.as_slice.result.now)) (ledger.spell c.args.logged.now)
    c.in_ok-push-in-Top.ensures.items
    (ap ledger.spell c.in-Top.is ∙ alone.spelled ∙ ap (λ (names : List Name). 3 ∷ top.spell (slice_index c.in-Top.top 0, names)) (sym c.as_slice.ensures)))
    c.put_top.ensures
