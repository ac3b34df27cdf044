use Rattle.std.proofs.Common.{◌≡◌, inl, inr, [], refl, sym, ap, ◌∙◌, subst, true, false}
use Rattle.std.specs.Prelude.{Err, None, Some, IfSome, is_some}
use Rattle.qc_event.specs.Grants.{MayGrant}
use Rattle.qc_event.specs.History.{grants}
use Rattle.qc_event.specs.Seats.{copy_seat}
use Rattle.qc_event.specs.Tables.{setting_of}
use Rattle.qc_journal.specs.Journal.{IsTooLong, disk_of, limit_of, place_of}
use Rattle.qc_ledger.specs.Shelf.{EndsWithin}
use Rattle.qc_ledger.proofs.Logging.{up_by}
use Rattle.qc_desk.specs.declared.view.View.{View}
use Rattle.qc_desk.specs.Entries.{IsOlder}
use Rattle.qc_site.specs.Calls.{site_state, SiteState}
use Rattle.qc_site.specs.Back.{grant_body}
use Rattle.qc_site.specs.Log.{copies_of, log_journal}
use Rattle.qc_site.proofs.Calls.{wrote}
use Rattle.qc_site.proofs.Logs.{same_over}
use Rattle.qc_site.proofs.Refusals.{down_is_disk, fault_is_down, write_full, write_says, write_untouched}
use Rattle.qc_site.proofs.site.Site.write.Goals as goal

pub invariant_of-self-in-Err : goal.invariant_of-self-in-Err
invariant_of-self-in-Err g c = record {
  journal = λ up down. elim c.fall.ensures.either [
    | inl u ↦ down u.0
    | inr d ↦ let never : true ≡ false = sym up ∙ d.2 in absurd cc
  ];
  sound = λ strange. absurd (let never = sym (c.args.self.now.sound strange) ∙ c.requires.up in cc);
  copies = c.write.ensures.copies ∙ c.args.self.now.copies;
}

pub returns-in-Ok-clause-became : goal.returns-in-Ok-clause-became
returns-in-Ok-clause-became g c =
    let old = c.args.self.now in
    let disk = disk_of (log_journal old.log) in
    wrote (setting_of g.N.Store.table g.N.Store.base) g.row.C c.args.ask.now c.args.tuple.now c.grant_of.result c.grant_of.ensures (site_state old) _
    (g.met.D.Disk.reads_as_image disk) (up_by (log_journal old.log).state (old.journal c.requires.up)) old.copies (subst (λ o. IfSome o (MayGrant (setting_of g.N.Store.table g.N.Store.base) old.replica.pass.seen (copy_seat g.row.C) g.row.C)) (c.requires.hand ∙ ap (λ x. Some x) (sym c.grant_of.ensures)) c.requires.may)
    c.write.ensures.any_moment c.write.ensures.grows refl refl c.write.ensures.limit
    (λ before k. same_over before c.write.new.self _ _ _ _ refl (c.requires.hand ∙ ap (λ x. Some x) (sym c.grant_of.ensures)) (c.in-Ok.ensures.over before _ k))

pub returns-in-Err-clause-became : goal.returns-in-Err-clause-became
returns-in-Err-clause-became g c =
    let old = c.args.self.now in
    let disk = disk_of (log_journal old.log) in
    let same = ap (λ (v : View). grants v.seen g.row.C) c.fall.ensures.pass in
    wrote (setting_of g.N.Store.table g.N.Store.base) g.row.C c.args.ask.now c.args.tuple.now c.grant_of.result c.grant_of.ensures (site_state old) _
    (g.met.D.Disk.reads_as_image disk) (up_by (log_journal old.log).state (old.journal c.requires.up)) old.copies (subst (λ o. IfSome o (MayGrant (setting_of g.N.Store.table g.N.Store.base) old.replica.pass.seen (copy_seat g.row.C) g.row.C)) (c.requires.hand ∙ ap (λ x. Some x) (sym c.grant_of.ensures)) c.requires.may)
    c.write.ensures.any_moment c.write.ensures.grows refl c.fall.ensures.pass c.write.ensures.limit
    (λ before k. elim c.fall.ensures.either [
      | inl u ↦ same_over before c.write.new.self _ _ None _ same u.1 (c.in-Err.ensures.idle u.0 before _ k)
      | inr d ↦ same_over before c.write.new.self _ _ _ _ same (d.1 ∙ c.requires.hand ∙ ap (λ x. Some x) (sym c.grant_of.ensures)) (c.in-Err.ensures.unsure d.0 before _ k)
    ])

pub returns-in-Err-clause-cause : goal.returns-in-Err-clause-cause
returns-in-Err-clause-cause g c = record {
  later = c.in-Err.ensures.cause.later;
  failed = λ failed. c.in-Err.ensures.cause.failed (down_is_disk c.args.self.now.log c.write.new.self c.in-Err.fault c.of_fault.result c.in-Err.ensures.left c.of_fault.ensures failed);
}

pub returns-in-Err-clause-refused : goal.returns-in-Err-clause-refused
returns-in-Err-clause-refused g c =
    let old = c.args.self.now in
    let new : SiteState g.D.Disk = record { log = c.write.new.self; replica = c.fall.new.replica; strange = is_some old.strange } in
    write_says old.log new old.replica c.in-Err.fault c.of_fault.result c.in-Err.ensures.left c.of_fault.ensures
    (up_by (log_journal old.log).state (old.journal c.requires.up)) c.requires.up c.fall.ensures.either

pub returns-in-Err-clause-full : goal.returns-in-Err-clause-full
returns-in-Err-clause-full g c = λ failed.
    let setting = setting_of g.N.Store.table g.N.Store.base in
    let old = c.args.self.now in
    record {
      tuple = c.args.tuple.now;
      earlier = old.replica.pass.seen;
      older = subst (λ (v : View). IsOlder old.replica.pass.seen v.seen) (sym c.fall.ensures.pass) ([], refl);
      may = subst (λ o. IfSome o (MayGrant setting old.replica.pass.seen (copy_seat g.row.C) g.row.C)) c.requires.hand c.requires.may;
      alive = c.requires.alive;
      given = ap (λ (v : View). grants v.seen g.row.C) c.fall.ensures.pass;
      too_long = write_full old.log c.write.new.self c.in-Err.fault c.of_fault.result c.args.ask.now c.args.tuple.now c.grant_of.result c.in-Err.ensures.left c.of_fault.ensures
          (λ place is. c.in-Err.ensures.full place (ap (λ x. Err x) is)) c.write.ensures.copies c.grant_of.ensures failed;
    }

pub returns-in-Err-clause-counts_once : goal.returns-in-Err-clause-counts_once
returns-in-Err-clause-counts_once g c = record {
  once = c.in-Err.ensures.counts_once.once;
  spared = λ never. c.in-Err.ensures.counts_once.spared (λ failed. never (fault_is_down c.in-Err.fault c.of_fault.result c.of_fault.ensures failed));
}

pub returns-in-Ok-clause-counts_once : goal.returns-in-Ok-clause-counts_once
returns-in-Ok-clause-counts_once g c = record { once = c.in-Ok.ensures.counts_once.once; spared = λ never. c.in-Ok.ensures.counts_once.spared (λ failed. absurd cc) }

pub returns-in-Ok-clause-fits : goal.returns-in-Ok-clause-fits
returns-in-Ok-clause-fits g c = λ long.
    let log = c.args.self.now.log in
    c.in-Ok.ensures.fits (subst (λ x. IsTooLong (place_of (log_journal log)) (limit_of (log_journal log)) (grant_body (copies_of log) x)) (sym c.grant_of.ensures) long)

pub returns-in-Ok-clause-cause : goal.returns-in-Ok-clause-cause
returns-in-Ok-clause-cause g c = record { later = c.in-Ok.ensures.cause.later; failed = λ failed. absurd cc }

pub returns-in-Err-clause-untouched : goal.returns-in-Err-clause-untouched
returns-in-Err-clause-untouched g c = λ full. write_untouched c.args.self.now.log c.write.new.self c.in-Err.fault c.of_fault.result c.in-Err.ensures.left c.of_fault.ensures full

pub returns-in-Ok-clause-kept : goal.returns-in-Ok-clause-kept
returns-in-Ok-clause-kept g c = inr (inr (c.args.tuple.now, c.requires.hand))

pub returns-in-Err-clause-kept : goal.returns-in-Err-clause-kept
returns-in-Err-clause-kept g c = elim c.fall.ensures.either [ inl u ↦ inl u.1 | inr d ↦ inr (inr (c.args.tuple.now, d.1 ∙ c.requires.hand)) ]

pub returns-in-Ok-clause-within : goal.returns-in-Ok-clause-within
returns-in-Ok-clause-within g c =
    let journal = log_journal c.write.new.self in
    subst (λ x. EndsWithin journal (grant_body (copies_of c.write.new.self) x)) c.grant_of.ensures
    (subst (λ n. EndsWithin journal (grant_body n c.grant_of.result)) (sym c.write.ensures.copies) c.in-Ok.ensures.within)
