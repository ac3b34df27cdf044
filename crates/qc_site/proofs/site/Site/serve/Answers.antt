-- That a copy was unable comes behind what was tried.
use Rattle.std.proofs.Common.{◌≡◌, refl, sym, ap, ◌∙◌, subst}
use Rattle.std.specs.Prelude.{Err, Ok, Some, is_some}
use Rattle.qc_disk.specs.Disk.{CountsOnce}
use Rattle.qc_event.specs.declared.event.Answered.TheVariants.{Down, Full, Granted}
use Rattle.qc_event.specs.Tables.{setting_of}
use Rattle.qc_event.specs.Grants.{grant_with}
use Rattle.qc_journal.specs.Journal.{disk_of, limit_of, place_of, IsTooLong}
use Rattle.qc_ledger.proofs.Passes.{sees_on}
use Rattle.qc_desk.proofs.Seers.{older_trans}
use Rattle.qc_site.specs.Calls.{site_state, IsUnwrittenNo, ServeSays, SiteWroteNone}
use Rattle.qc_site.specs.Sites.{IsByLocks, IsLeftBy}
use Rattle.qc_site.specs.Back.{grant_body}
use Rattle.qc_site.specs.Log.{copies_of, log_journal}
use Rattle.qc_site.proofs.Calls.{became_last, by_locks_none, none_on}
use Rattle.qc_site.proofs.site.Site.serve.Goals as goal

-- DOWN

pub returns-in_ok-unable-in-Err-Down-clause-served : goal.returns-in_ok-unable-in-Err-Down-clause-served
returns-in_ok-unable-in-Err-Down-clause-served g c =
    let still = c.unable.ensures.still in
    let says = subst (ServeSays (site_state c.try_serve.new.self)) c.in-Err-Down.field-0-is c.in-Err-Down.ensures.refused in
    record {
      enters = record { mid = c.try_serve.new.self.replica.pass.mine; first_of_all = c.in-Err-Down.ensures.err; all = c.in_ok-unable-in-Err-Down.ensures.enters };
      rests = still.3 ∙ says;
      shown = c.unable.ensures.same;
    }

pub returns-in_ok-unable-in-Err-Down-clause-became : goal.returns-in_ok-unable-in-Err-Down-clause-became
returns-in_ok-unable-in-Err-Down-clause-became g c =
    let tried = c.try_serve.new.self in
    became_last (setting_of g.N.Store.table g.N.Store.base) g.row.C (Some c.args.ask.now) (site_state c.args.self.now) (site_state tried) (site_state c.unable.new.self) (g.met.D.Disk.leaves_now (disk_of (log_journal tried.log))) c.try_serve.ensures.became c.unable.ensures.became

pub returns-in_ok-unable-in-Err-Down-clause-seer : goal.returns-in_ok-unable-in-Err-Down-clause-seer
returns-in_ok-unable-in-Err-Down-clause-seer g c = sees_on c.args.seer.now c.try_serve.new.seer c.unable.new.seer c.try_serve.ensures.seer c.unable.ensures.seer

pub returns-in_err-unable-in-Err-Down-clause-became : goal.returns-in_err-unable-in-Err-Down-clause-became
returns-in_err-unable-in-Err-Down-clause-became g c =
    let tried = c.try_serve.new.self in
    became_last (setting_of g.N.Store.table g.N.Store.base) g.row.C (Some c.args.ask.now) (site_state c.args.self.now) (site_state tried) (site_state c.unable.new.self) (g.met.D.Disk.leaves_now (disk_of (log_journal tried.log))) c.try_serve.ensures.became c.unable.ensures.became

pub returns-in_err-unable-in-Err-Down-clause-seer : goal.returns-in_err-unable-in-Err-Down-clause-seer
returns-in_err-unable-in-Err-Down-clause-seer g c = sees_on c.args.seer.now c.try_serve.new.seer c.unable.new.seer c.try_serve.ensures.seer c.unable.ensures.seer

-- FULL

pub returns-in_ok-unable-in-Err-Full-clause-served : goal.returns-in_ok-unable-in-Err-Full-clause-served
returns-in_ok-unable-in-Err-Full-clause-served g c =
    let still = c.unable-in-Err-Full.ensures.still in
    let says = subst (ServeSays (site_state c.try_serve.new.self)) c.in-Err-Full.field-0-is c.in-Err-Full.ensures.refused in
    record {
      enters = record { mid = c.try_serve.new.self.replica.pass.mine; first_of_all = c.in-Err-Full.ensures.err; all = c.in_ok-unable-in-Err-Full.ensures.enters };
      rests = record { up = still.3 ∙ says.up; none = still.2 ∙ says.none };
      shown = c.unable-in-Err-Full.ensures.same;
    }

pub returns-in_ok-unable-in-Err-Full-clause-became : goal.returns-in_ok-unable-in-Err-Full-clause-became
returns-in_ok-unable-in-Err-Full-clause-became g c =
    let tried = c.try_serve.new.self in
    became_last (setting_of g.N.Store.table g.N.Store.base) g.row.C (Some c.args.ask.now) (site_state c.args.self.now) (site_state tried) (site_state c.unable-in-Err-Full.new.self) (g.met.D.Disk.leaves_now (disk_of (log_journal tried.log))) c.try_serve.ensures.became c.unable-in-Err-Full.ensures.became

pub returns-in_ok-unable-in-Err-Full-clause-seer : goal.returns-in_ok-unable-in-Err-Full-clause-seer
returns-in_ok-unable-in-Err-Full-clause-seer g c = sees_on c.args.seer.now c.try_serve.new.seer c.unable-in-Err-Full.new.seer c.try_serve.ensures.seer c.unable-in-Err-Full.ensures.seer

pub returns-in_err-unable-in-Err-Full-clause-became : goal.returns-in_err-unable-in-Err-Full-clause-became
returns-in_err-unable-in-Err-Full-clause-became g c =
    let tried = c.try_serve.new.self in
    became_last (setting_of g.N.Store.table g.N.Store.base) g.row.C (Some c.args.ask.now) (site_state c.args.self.now) (site_state tried) (site_state c.unable-in-Err-Full.new.self) (g.met.D.Disk.leaves_now (disk_of (log_journal tried.log))) c.try_serve.ensures.became c.unable-in-Err-Full.ensures.became

pub returns-in_err-unable-in-Err-Full-clause-seer : goal.returns-in_err-unable-in-Err-Full-clause-seer
returns-in_err-unable-in-Err-Full-clause-seer g c = sees_on c.args.seer.now c.try_serve.new.seer c.unable-in-Err-Full.new.seer c.try_serve.ensures.seer c.unable-in-Err-Full.ensures.seer

pub returns-in_ok-unable-in-Err-Full-clause-full : goal.returns-in_ok-unable-in-Err-Full-clause-full
returns-in_ok-unable-in-Err-Full-clause-full g c = λ is.
    let tried = c.try_serve.new.self in
    let new = c.unable-in-Err-Full.new.self in
    let still = c.unable-in-Err-Full.ensures.still in
    let full = c.in-Err-Full.ensures.full (ap (λ x. Err x) c.in-Err-Full.field-0-is) in
    record {
      tuple = full.tuple;
      earlier = full.earlier;
      older = older_trans full.earlier tried.replica.pass.seen new.replica.pass.seen full.older c.unable-in-Err-Full.ensures.became.seen;
      may = full.may;
      alive = full.alive;
      given = c.unable-in-Err-Full.ensures.grants ∙ full.given;
      too_long = subst (λ l. IsTooLong (place_of (log_journal l)) (limit_of (log_journal l)) (grant_body (copies_of l) (grant_with c.args.ask.now full.tuple))) (sym still.0) full.too_long;
    }

-- STRANGE

pub returns-in_ok-unable-in-Err-Strange-clause-served : goal.returns-in_ok-unable-in-Err-Strange-clause-served
returns-in_ok-unable-in-Err-Strange-clause-served g c =
    let still = c.unable-in-Err-Strange.ensures.still in
    let says = subst (ServeSays (site_state c.try_serve.new.self)) c.in-Err-Strange.field-0-is c.in-Err-Strange.ensures.refused in
    record {
      enters = record { mid = c.try_serve.new.self.replica.pass.mine; first_of_all = c.in-Err-Strange.ensures.err; all = c.in_ok-unable-in-Err-Strange.ensures.enters };
      rests = ap is_some still.1 ∙ says;
      shown = c.unable-in-Err-Strange.ensures.same;
    }

pub returns-in_ok-unable-in-Err-Strange-clause-became : goal.returns-in_ok-unable-in-Err-Strange-clause-became
returns-in_ok-unable-in-Err-Strange-clause-became g c =
    let tried = c.try_serve.new.self in
    became_last (setting_of g.N.Store.table g.N.Store.base) g.row.C (Some c.args.ask.now) (site_state c.args.self.now) (site_state tried) (site_state c.unable-in-Err-Strange.new.self) (g.met.D.Disk.leaves_now (disk_of (log_journal tried.log))) c.try_serve.ensures.became c.unable-in-Err-Strange.ensures.became

pub returns-in_ok-unable-in-Err-Strange-clause-seer : goal.returns-in_ok-unable-in-Err-Strange-clause-seer
returns-in_ok-unable-in-Err-Strange-clause-seer g c = sees_on c.args.seer.now c.try_serve.new.seer c.unable-in-Err-Strange.new.seer c.try_serve.ensures.seer c.unable-in-Err-Strange.ensures.seer

pub returns-in_err-unable-in-Err-Strange-clause-became : goal.returns-in_err-unable-in-Err-Strange-clause-became
returns-in_err-unable-in-Err-Strange-clause-became g c =
    let tried = c.try_serve.new.self in
    became_last (setting_of g.N.Store.table g.N.Store.base) g.row.C (Some c.args.ask.now) (site_state c.args.self.now) (site_state tried) (site_state c.unable-in-Err-Strange.new.self) (g.met.D.Disk.leaves_now (disk_of (log_journal tried.log))) c.try_serve.ensures.became c.unable-in-Err-Strange.ensures.became

pub returns-in_err-unable-in-Err-Strange-clause-seer : goal.returns-in_err-unable-in-Err-Strange-clause-seer
returns-in_err-unable-in-Err-Strange-clause-seer g c = sees_on c.args.seer.now c.try_serve.new.seer c.unable-in-Err-Strange.new.seer c.try_serve.ensures.seer c.unable-in-Err-Strange.ensures.seer

-- ROOM

pub returns-in-Ok-clause-fits : goal.returns-in-Ok-clause-fits
returns-in-Ok-clause-fits g c = λ tuple ready is.
    let same : c.in-Ok.answered ≡ Granted tuple = cc in
    c.try_serve.ensures.fits tuple ready (c.in-Ok.is ∙ ap (λ x. Ok x) same)

pub returns-in_ok-unable-in-Err-Full-clause-counts_once : goal.returns-in_ok-unable-in-Err-Full-clause-counts_once
returns-in_ok-unable-in-Err-Full-clause-counts_once g c =
    let still = c.unable-in-Err-Full.ensures.still in
    let was = c.in-Err-Full.ensures.counts_once in
    subst (λ l. CountsOnce (g.D.Disk.view (disk_of (log_journal c.args.self.now.log))).faults (g.D.Disk.view (disk_of (log_journal l))).faults (Ok Full ≡ Ok Down)) (sym still.0)
    (record { once = was.once; spared = λ never. was.spared (λ down. absurd cc) })

pub returns-in_ok-unable-in-Err-Down-clause-hand : goal.returns-in_ok-unable-in-Err-Down-clause-hand
returns-in_ok-unable-in-Err-Down-clause-hand g c = subst (IsLeftBy c.args.ask.now c.args.self.now.replica.hand) (sym c.unable.ensures.still.2) c.try_serve.ensures.hand

pub returns-in_err-unable-in-Err-Down-clause-hand : goal.returns-in_err-unable-in-Err-Down-clause-hand
returns-in_err-unable-in-Err-Down-clause-hand g c = subst (IsLeftBy c.args.ask.now c.args.self.now.replica.hand) (sym c.unable.ensures.still.2) c.try_serve.ensures.hand

pub returns-in_ok-unable-in-Err-Full-clause-hand : goal.returns-in_ok-unable-in-Err-Full-clause-hand
returns-in_ok-unable-in-Err-Full-clause-hand g c = subst (IsLeftBy c.args.ask.now c.args.self.now.replica.hand) (sym c.unable-in-Err-Full.ensures.still.2) c.try_serve.ensures.hand

pub returns-in_err-unable-in-Err-Full-clause-hand : goal.returns-in_err-unable-in-Err-Full-clause-hand
returns-in_err-unable-in-Err-Full-clause-hand g c = subst (IsLeftBy c.args.ask.now c.args.self.now.replica.hand) (sym c.unable-in-Err-Full.ensures.still.2) c.try_serve.ensures.hand

pub returns-in_ok-unable-in-Err-Strange-clause-hand : goal.returns-in_ok-unable-in-Err-Strange-clause-hand
returns-in_ok-unable-in-Err-Strange-clause-hand g c = subst (IsLeftBy c.args.ask.now c.args.self.now.replica.hand) (sym c.unable-in-Err-Strange.ensures.still.2) c.try_serve.ensures.hand

pub returns-in_err-unable-in-Err-Strange-clause-hand : goal.returns-in_err-unable-in-Err-Strange-clause-hand
returns-in_err-unable-in-Err-Strange-clause-hand g c = subst (IsLeftBy c.args.ask.now c.args.self.now.replica.hand) (sym c.unable-in-Err-Strange.ensures.still.2) c.try_serve.ensures.hand

pub returns-in-Ok-clause-within : goal.returns-in-Ok-clause-within
returns-in-Ok-clause-within g c = λ tuple is.
    let same : c.in-Ok.answered ≡ Granted tuple = cc in
    c.try_serve.ensures.within tuple (c.in-Ok.is ∙ ap (λ x. Ok x) same)

-- WHAT WRITES NOTHING

pub returns-in-Ok-clause-wrote_none : goal.returns-in-Ok-clause-wrote_none
returns-in-Ok-clause-wrote_none g c = λ none. c.in-Ok.ensures.wrote_none (by_locks_none c.in-Ok.answered c.in-Ok.ensures.by_locks none)

pub returns-in_ok-unable-in-Err-Full-clause-wrote_none : goal.returns-in_ok-unable-in-Err-Full-clause-wrote_none
returns-in_ok-unable-in-Err-Full-clause-wrote_none g c = λ none.
    none_on (setting_of g.N.Store.table g.N.Store.base) g.row.C (site_state c.args.self.now) (site_state c.try_serve.new.self) (site_state c.unable-in-Err-Full.new.self)
    (subst (λ refusal. IsUnwrittenNo refusal → SiteWroteNone (setting_of g.N.Store.table g.N.Store.base) g.row.C (site_state c.args.self.now) (site_state c.try_serve.new.self)) c.in-Err-Full.field-0-is c.in-Err-Full.ensures.stays tt)
    (ap (λ l. log_journal l) c.unable-in-Err-Full.ensures.still.0) c.unable-in-Err-Full.ensures.became.seen

pub returns-in_ok-unable-in-Err-Strange-clause-wrote_none : goal.returns-in_ok-unable-in-Err-Strange-clause-wrote_none
returns-in_ok-unable-in-Err-Strange-clause-wrote_none g c = λ none.
    none_on (setting_of g.N.Store.table g.N.Store.base) g.row.C (site_state c.args.self.now) (site_state c.try_serve.new.self) (site_state c.unable-in-Err-Strange.new.self)
    (subst (λ refusal. IsUnwrittenNo refusal → SiteWroteNone (setting_of g.N.Store.table g.N.Store.base) g.row.C (site_state c.args.self.now) (site_state c.try_serve.new.self)) c.in-Err-Strange.field-0-is c.in-Err-Strange.ensures.stays tt)
    (ap (λ l. log_journal l) c.unable-in-Err-Strange.ensures.still.0) c.unable-in-Err-Strange.ensures.became.seen

-- WHETHER IT IS STRANGE

pub returns-in-Ok-clause-strange : goal.returns-in-Ok-clause-strange
returns-in-Ok-clause-strange g c = (
  λ is. absurd (subst IsByLocks is c.in-Ok.ensures.by_locks),
  λ strange. absurd (let never = c.try_serve.ensures.strange.1 strange in cc),
)

pub returns-in_ok-unable-in-Err-Down-clause-strange : goal.returns-in_ok-unable-in-Err-Down-clause-strange
returns-in_ok-unable-in-Err-Down-clause-strange g c = (
  λ is. absurd cc,
  λ strange. absurd (let never = c.try_serve.ensures.strange.1 (sym (ap is_some c.unable.ensures.still.1) ∙ strange) in cc),
)

pub returns-in_ok-unable-in-Err-Full-clause-strange : goal.returns-in_ok-unable-in-Err-Full-clause-strange
returns-in_ok-unable-in-Err-Full-clause-strange g c = (
  λ is. absurd cc,
  λ strange. absurd (let never = c.try_serve.ensures.strange.1 (sym (ap is_some c.unable-in-Err-Full.ensures.still.1) ∙ strange) in cc),
)

pub returns-in_ok-unable-in-Err-Strange-clause-strange : goal.returns-in_ok-unable-in-Err-Strange-clause-strange
returns-in_ok-unable-in-Err-Strange-clause-strange g c = (
  λ is. ap is_some c.unable-in-Err-Strange.ensures.still.1 ∙ subst (ServeSays (site_state c.try_serve.new.self)) c.in-Err-Strange.field-0-is c.in-Err-Strange.ensures.refused,
  λ strange. refl,
)
