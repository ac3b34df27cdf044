use Rattle.std.proofs.Common.{◌≡◌, ◌∙◌, sym, true, false}
use Rattle.qc_event.specs.Tables.{setting_of}
use Rattle.qc_journal.specs.Journal.{disk_of}
use Rattle.qc_site.specs.Calls.{site_state}
use Rattle.qc_site.specs.Log.{log_journal}
use Rattle.qc_site.proofs.Calls.{entered_or_kept, nothing_written, ready_by}
use Rattle.qc_site.proofs.Refusals.{want_says}
use Rattle.qc_site.proofs.site.Site.rise.Goals as goal

pub returns-then-is_up-clause-ready : goal.returns-then-is_up-clause-ready
returns-then-is_up-clause-ready g c = ready_by c.enter_hand.result c.enter_hand.new.self.replica (c.enter_hand.ensures.up ∙ sym c.is_up.ensures ∙ c.if-is_up.true) c.enter_hand.ensures.none

pub returns-then-is_up-clause-refused : goal.returns-then-is_up-clause-refused
returns-then-is_up-clause-refused g c = want_says (site_state c.enter_hand.new.self) c.enter_hand.result c.enter_hand.ensures.refused

pub returns-then-is_up-clause-idle : goal.returns-then-is_up-clause-idle
returns-then-is_up-clause-idle g c = λ ready. let still = c.enter_hand.ensures.idle ready.none in (c.enter_hand.ensures.calm ready.none, still.0, still.1)

pub returns-else-is_up-clause-idle : goal.returns-else-is_up-clause-idle
returns-else-is_up-clause-idle g c = λ ready. let never : true ≡ false = sym ready.up ∙ sym c.is_up.ensures ∙ c.if-is_up.false in absurd cc

pub returns-then-is_up-clause-wrote_none : goal.returns-then-is_up-clause-wrote_none
returns-then-is_up-clause-wrote_none g c =
    nothing_written (setting_of g.N.Store.table g.N.Store.base) g.row.C _ _ (g.met.D.Disk.leaves_now (disk_of (log_journal c.args.self.now.log))) c.enter_hand.ensures.log c.enter_hand.ensures.became.seen

pub returns-then-is_up-clause-hand : goal.returns-then-is_up-clause-hand
returns-then-is_up-clause-hand g c = entered_or_kept c.enter_hand.result c.args.self.now.replica.hand c.enter_hand.new.self.replica.hand c.enter_hand.ensures.none c.enter_hand.ensures.keeps
