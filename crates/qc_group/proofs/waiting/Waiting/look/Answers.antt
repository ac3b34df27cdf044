-- What was ready stays so, with the same names listed.
use Rattle.std.proofs.Common.{ap, sym, ◌∙◌}
use Rattle.qc_event.specs.Tables.{setting_of}
use Rattle.qc_desk.specs.declared.view.View.{View}
use Rattle.qc_desk.proofs.Listed.{listed_stays, ready_stays}
use Rattle.qc_group.proofs.waiting.Waiting.look.Goals as goal

pub invariant_of-shown : goal.invariant_of-shown
invariant_of-shown g c =
    let it = c.args.self in
    let looked = c.ended.ensures.looked in
    record {
      note = ap (λ (v : View). v.live) looked.1 ∙ it.note;
      is_top = it.is_top;
      ready = ready_stays it.pass.seen c.ended.new.pass.seen it.top looked.0 it.ready;
      listed = it.listed ∙ sym (listed_stays (setting_of g.N.Store.table g.N.Store.base) it.pass.seen c.ended.new.pass.seen it.top looked.0 c.ended.ensures.known.legal it.ready);
    }
