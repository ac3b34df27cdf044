use Rattle.std.proofs.Common.{List, length, subst, sym, inl, inr}
use Rattle.std.proofs.lemmas.Bool.{true≢false}
use Rattle.std.specs.Prelude.{Result, Ok, Err, OnOk, IsOk}
use Rattle.qc_script.specs.Steps.{plan_of_script}
use Rattle.qc_run.specs.Left.{HasGiven}
use Rattle.qc_run.proofs.Statuses.{reported_ran, unmounted_not_ran}
use Rattle.qc_run.proofs.Refusals.{why}
use Rattle.qc_run.proofs.RunFacts.{proper_start}
use Rattle.qc_run.proofs.performing.perform.Goals as goal

on_ok : {T E : Type 0} (r : Result T E) (P : Type 0) → IsOk r → OnOk r P → P
on_ok (Ok x) P is has = has
on_ok (Err e) P is has = absurd (true≢false (sym is))

pub finish-status-requires-clause-proper : goal.finish-status-requires-clause-proper
finish-status-requires-clause-proper g c = proper_start (plan_of_script c.args.script.now) _ c.in-Ok.ensures.grown.2.records c.in-Ok.stored.epoch c.in-Ok.stored.ended.start c.requires.proper c.in-Ok.ensures.grown.2.mounted

pub finish-status-requires-clause-as_many : goal.finish-status-requires-clause-as_many
finish-status-requires-clause-as_many g c = c.in-Ok.ensures.grown.2.mounted.mounted.as_many

pub returns-in-Ok-clause-answer : goal.returns-in-Ok-clause-answer
returns-in-Ok-clause-answer g c =
    let ended = c.in-Ok.stored.ended in
    let has = c.in-Ok.ensures in
    let tells = c.finish-status.ensures in
    let answer = c.finish-status.result in
    record {
      wrote = tells.wrote;
      saved = tells.saved;
      came = inr (record {
        answer = tells.answer;
        epoch = c.in-Ok.stored.epoch;
        legal = has.legal;
        begins = has.begins;
        follows = λ end. on_ok ended.ran _ (tells.ran end) has.follows;
        room = λ full. has.room (tells.room full);
        doubt = tells.doubt;
        sound = has.sound;
        restores = has.restores;
        first = has.first;
        stands = has.stands;
        grown = has.grown;
        paid = has.paid;
        unable = has.unable;
        folded = λ end each. has.folded (tells.ran end) each;
      });
      given = record { gave = has.gave; others = has.others };
    }

pub returns-in-Err-clause-answer : goal.returns-in-Err-clause-answer
returns-in-Err-clause-answer g c =
    let s = plan_of_script c.args.script.now in
    let shop = g.H.Shop.view c.args.shop.now in
    let shop_now = g.H.Shop.view c.run_stored.new.shop in
    let disks = c.unmounted.result.disks.items in
    let status = c.unmounted.result.status in
    let has = c.in-Err.ensures in
    let cause = why g.H.D.Disk.view s shop c.args.place.now shop_now.faults c.in-Err.refused disks status c.unmounted.ensures.disks c.unmounted.ensures.answer has.refused has.disks has.image in
    record {
      wrote = c.unmounted.ensures.refusal.wrote _;
      saved = λ reported. absurd (unmounted_not_ran g.H.D.Disk.view s shop c.args.place.now shop_now.faults disks status cause (reported_ran status reported));
      came = inl (record {
        none = c.unmounted.ensures.refusal.none;
        why = cause;
        back = (c.in-Err.refused, sym c.unmounted.ensures.disks, has.disks);
      });
      given = subst (λ (back : List _). HasGiven s.table.copies c.args.place.now shop shop_now (length back)) (sym c.unmounted.ensures.disks) (record { gave = has.gave; others = has.others });
    }
