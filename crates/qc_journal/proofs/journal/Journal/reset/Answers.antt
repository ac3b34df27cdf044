-- Behind a closed gate at the front no record stands, and a cut brings none back.
use Rattle.std.proofs.Common.{inr, refl}
use Rattle.std.proofs.lemmas.Result.{err_from_is_err_and}
use Rattle.qc_journal.specs.Journal.{disk_of}
use Rattle.qc_journal.proofs.Appends.{tells_on}
use Rattle.qc_journal.proofs.Resets.{still_shut, through_cut, cut_stays}
use Rattle.qc_journal.proofs.journal.Journal.reset.Goals as goal

pub returns-in_err-cut_synced-clause-kept : goal.returns-in_err-cut_synced-clause-kept
returns-in_err-cut_synced-clause-kept g c =
    let p = err_from_is_err_and c.from_residual-in_err-cut_synced.result c.from_residual-in_err-cut_synced.ensures.1 in
    rw (p.1) (λ bodies k.
    let shut = c.in_ok-shut_front.ensures.shut bodies k in
    let now = tells_on _ _ _ shut.bytes shut.told c.cut_synced.ensures.shorter in
    record {
      bytes = now.0;
      told = now.1;
      each = λ image left. inr (still_shut c.shut_front.new.self shut image (c.cut_synced.ensures.crash image left));
    })

pub returns-in_err-cut_synced-clause-any_moment : goal.returns-in_err-cut_synced-clause-any_moment
returns-in_err-cut_synced-clause-any_moment g c = λ bodies k.
    through_cut c.shut_front.new.self (c.in_ok-shut_front.ensures.shut bodies k) (disk_of c.args.self.now) c.cut_synced.new.disk bodies (c.shut_front.ensures.any_moment bodies k) c.cut_synced.ensures.any_moment

pub returns-clause-emptied : goal.returns-clause-emptied
returns-clause-emptied g c = λ bodies k.
    let shut = c.in_ok-shut_front.ensures.shut bodies k in
    let now = tells_on _ _ _ shut.bytes shut.told c.cut_synced.ensures.shorter in
    record {
      bytes = now.0;
      told = now.1;
      each = λ image left. still_shut c.shut_front.new.self shut image (c.cut_synced.ensures.crash image left);
      whole = λ up. refl {a = 0};
    }

pub returns-clause-any_moment : goal.returns-clause-any_moment
returns-clause-any_moment g c = λ bodies k.
    through_cut c.shut_front.new.self (c.in_ok-shut_front.ensures.shut bodies k) (disk_of c.args.self.now) c.cut_synced.new.disk bodies (c.shut_front.ensures.any_moment bodies k) c.cut_synced.ensures.any_moment

pub returns-in_err-cut_synced-clause-stays_empty : goal.returns-in_err-cut_synced-clause-stays_empty
returns-in_err-cut_synced-clause-stays_empty g c = λ bodies k.
    cut_stays c.shut_front.new.self (c.in_ok-shut_front.ensures.shut bodies k) (disk_of c.args.self.now) c.cut_synced.new.disk (c.shut_front.ensures.any_moment bodies k).later (c.shut_front.ensures.stays_empty bodies k) c.cut_synced.ensures.any_moment

pub returns-clause-stays_empty : goal.returns-clause-stays_empty
returns-clause-stays_empty g c = λ bodies k.
    cut_stays c.shut_front.new.self (c.in_ok-shut_front.ensures.shut bodies k) (disk_of c.args.self.now) c.cut_synced.new.disk (c.shut_front.ensures.any_moment bodies k).later (c.shut_front.ensures.stays_empty bodies k) c.cut_synced.ensures.any_moment
