-- What the ledger logs its disk keeps, as it is listed, and pays for; what it does not for want of room would not fit; and
-- what it answers stands.
use Rattle.std.proofs.Common.{◌≡◌, sym, ap, ◌∙◌, subst}
use Rattle.qc_event.specs.Legal.{Legal}
use Rattle.qc_event.specs.Listed.{listed}
use Rattle.qc_event.specs.Seats.{ledger_seat}
use Rattle.qc_event.specs.Tables.{setting_of}
use Rattle.qc_journal.specs.Journal.{IsTooLong, disk_of, limit_of}
use Rattle.qc_ledger.specs.Calls.{ledger_state}
use Rattle.qc_ledger.specs.Entered.{GrowsBy, KeepsLogged, told_body, tops_of}
use Rattle.qc_ledger.specs.Runs.{Leaves}
use Rattle.qc_ledger.specs.Shelf.{journal_in, top_body, top_in}
use Rattle.qc_ledger.specs.Since.{AreTopsBy, TopsGrow}
use Rattle.qc_ledger.proofs.Calls.{logged_enters, logged_stands}
use Rattle.qc_ledger.proofs.Passes.{sees_on}
use Rattle.qc_ledger.proofs.Since.{grown_more, tops_on}
use Rattle.qc_desk.specs.Entries.{IsOlder, entries_of}
use Rattle.qc_desk.proofs.Known.{known_again}
use Rattle.qc_desk.proofs.Seers.{older_trans}
use Rattle.qc_system.specs.Kept.{HadNoRoom, Pays, downs}
use Rattle.qc_desk.proofs.Listed.{listed_stays}
use Rattle.qc_system.proofs.Listed.{over_seen, tops_retold}
use Rattle.qc_system.proofs.Paying.{log_pays}
use Rattle.qc_system.proofs.Room.{idle_place, log_room, room_retold}
use Rattle.qc_system.proofs.Standing.{ended_still, refused_still}
use Rattle.qc_system.proofs.held_ledger.log_listed.Goals as goal

pub returns-clause-keeps : goal.returns-clause-keeps
returns-clause-keeps g c = λ before over.
    let setting = setting_of g.N.Store.table g.N.Store.base in
    let first = c.args.ledger.now in
    let mid = c.log-answer.new.self in
    let last = c.show.new.self in
    let top = c.args.top.now in
    let legal : Legal setting last.pass.seen = (known_again setting last.pass last.known).legal in
    let seen : IsOlder first.pass.seen last.pass.seen = older_trans first.pass.seen mid.pass.seen last.pass.seen c.log-answer.ensures.became.seen c.show.ensures.seen in
    let asked : IsOlder c.args.seer.now.seen last.pass.seen = subst (λ p. IsOlder c.args.seer.now.seen p) c.show.ensures.same (sees_on c.args.seer.now c.log-answer.new.seer c.show.new.seer c.log-answer.ensures.seer c.show.ensures.seer).older in
    let told : c.args.aborted.now ≡ listed last.pass.seen top = c.requires.listed ∙ sym (listed_stays setting c.args.seer.now.seen last.pass.seen top asked legal c.requires.ready) in
    let own : first.pass.mine ≡ entries_of ledger_seat first.pass.seen = (known_again setting first.pass first.known).mine first.live ∙ ap (λ n. entries_of n first.pass.seen) first.number in
    let f = listed last.pass.seen in
    let was = over_seen setting first.pass last.pass.seen before first.shelf seen legal (known_again setting first.pass first.known).legal own first.may over in
    let now : KeepsLogged f before mid.shelf (tops_of mid.pass.mine) = c.log-answer.ensures.became.kept f before told was in
    subst (λ s. KeepsLogged f before s (tops_of last.pass.mine)) (sym c.show.ensures.shelf) (subst (λ p. KeepsLogged f before mid.shelf (tops_of p)) (sym c.show.ensures.mine) now)

pub returns-clause-grown : goal.returns-clause-grown
returns-clause-grown g c = λ before since over grown.
    let setting = setting_of g.N.Store.table g.N.Store.base in
    let first = c.args.ledger.now in
    let mid = c.log-answer.new.self in
    let last = c.show.new.self in
    let top = c.args.top.now in
    let legal : Legal setting last.pass.seen = (known_again setting last.pass last.known).legal in
    let seen : IsOlder first.pass.seen last.pass.seen = older_trans first.pass.seen mid.pass.seen last.pass.seen c.log-answer.ensures.became.seen c.show.ensures.seen in
    let asked : IsOlder c.args.seer.now.seen last.pass.seen = subst (λ p. IsOlder c.args.seer.now.seen p) c.show.ensures.same (sees_on c.args.seer.now c.log-answer.new.seer c.show.new.seer c.log-answer.ensures.seer c.show.ensures.seer).older in
    let told : c.args.aborted.now ≡ listed last.pass.seen top = c.requires.listed ∙ sym (listed_stays setting c.args.seer.now.seen last.pass.seen top asked legal c.requires.ready) in
    let own : first.pass.mine ≡ entries_of ledger_seat first.pass.seen = (known_again setting first.pass first.known).mine first.live ∙ ap (λ n. entries_of n first.pass.seen) first.number in
    let f = listed last.pass.seen in
    let was = over_seen setting first.pass last.pass.seen before first.shelf seen legal (known_again setting first.pass first.known).legal own first.may over in
    let had = grown_more since before (AreTopsBy (listed first.pass.seen) first.pass.seen) (AreTopsBy f first.pass.seen) (g.D.Disk.view first.shelf.journal.disk)
    (λ bodies are. tops_retold setting first.pass.seen last.pass.seen seen legal (known_again setting first.pass first.known).legal bodies are) grown in
    let now : TopsGrow f before since mid.shelf mid.pass.seen = c.log-answer.ensures.became.grown f before since told was had in
    tops_on f before since mid.shelf last.shelf mid.pass.seen last.pass.seen (ap journal_in c.show.ensures.shelf) c.show.ensures.seen now

pub returns-clause-any_moment : goal.returns-clause-any_moment
returns-clause-any_moment g c = λ before over.
    let old = c.args.ledger.now.shelf in
    let left = c.log-answer.ensures.became.moments (listed c.args.ledger.now.pass.seen) before over in
    subst (λ s. Leaves (journal_in old) (journal_in s) (GrowsBy (top_body c.args.top.now c.args.aborted.now) (g.D.Disk.view (disk_of (journal_in old))).may_leave)) (sym c.show.ensures.shelf) left

pub returns-clause-pays : goal.returns-clause-pays
returns-clause-pays g c = λ first pays.
    let mid = c.log-answer.new.self in
    let last = c.show.new.self in
    let now = log_pays _ c.args.top.now c.args.ledger.now.pass.mine mid.pass.mine first _ _ c.log-answer.result (logged_enters c.log-answer.result c.args.top.now (ledger_state c.args.ledger.now) (ledger_state c.log-answer.new.self) c.log-answer.ensures.logged) c.log-answer.ensures.refused c.log-answer.ensures.cause pays in
    subst (λ s. Pays first (downs last.pass.mine) (g.D.Disk.view s.journal.disk).faults) (sym c.show.ensures.shelf) (subst (λ p. Pays first (downs p) (g.D.Disk.view mid.shelf.journal.disk).faults) (sym c.show.ensures.mine) now)

pub returns-clause-full : goal.returns-clause-full
returns-clause-full g c = λ before over had.
    let setting = setting_of g.N.Store.table g.N.Store.base in
    let first = c.args.ledger.now in
    let mid = c.log-answer.new.self in
    let last = c.show.new.self in
    let top = c.args.top.now in
    let legal : Legal setting last.pass.seen = (known_again setting last.pass last.known).legal in
    let seen : IsOlder first.pass.seen last.pass.seen = older_trans first.pass.seen mid.pass.seen last.pass.seen c.log-answer.ensures.became.seen c.show.ensures.seen in
    let asked : IsOlder c.args.seer.now.seen last.pass.seen = subst (λ p. IsOlder c.args.seer.now.seen p) c.show.ensures.same (sees_on c.args.seer.now c.log-answer.new.seer c.show.new.seer c.log-answer.ensures.seer c.show.ensures.seer).older in
    let told : c.args.aborted.now ≡ listed last.pass.seen top = c.requires.listed ∙ sym (listed_stays setting c.args.seer.now.seen last.pass.seen top asked legal c.requires.ready) in
    let own : first.pass.mine ≡ entries_of ledger_seat first.pass.seen = (known_again setting first.pass first.known).mine first.live ∙ ap (λ n. entries_of n first.pass.seen) first.number in
    let f = listed last.pass.seen in
    let most = limit_of (journal_in first.shelf) in
    let was : HadNoRoom f before most first.pass.mine = subst (HadNoRoom f before most) (sym own)
    (room_retold setting first.pass.seen last.pass.seen seen legal (known_again setting first.pass first.known).legal before most (subst (HadNoRoom (listed first.pass.seen) before most) own had)) in
    let kept : KeepsLogged f before mid.shelf (tops_of mid.pass.mine) = c.log-answer.ensures.became.kept f before told
    (over_seen setting first.pass last.pass.seen before first.shelf seen legal (known_again setting first.pass first.known).legal own first.may over) in
    let now : HadNoRoom f before most mid.pass.mine = log_room f before most (top_in first.shelf) top first.pass.mine mid.pass.mine was c.log-answer.result (logged_enters c.log-answer.result c.args.top.now (ledger_state c.args.ledger.now) (ledger_state c.log-answer.new.self) c.log-answer.ensures.logged) c.log-answer.ensures.refused
    (λ at is. let full = c.log-answer.ensures.full at is in
    subst (λ n. IsTooLong n most (told_body f top)) (idle_place mid.shelf at f before (tops_of mid.pass.mine) full.0 kept (g.met.D.Disk.reads_as_image (disk_of (journal_in mid.shelf)))) (subst (λ l. IsTooLong at most (top_body top l)) told full.1)) in
    subst (λ s. HadNoRoom f before (limit_of (journal_in s)) last.pass.mine) (sym c.show.ensures.shelf)
    (subst (λ m. HadNoRoom f before m last.pass.mine) (sym c.log-answer.ensures.became.limit) (subst (HadNoRoom f before most) (sym c.show.ensures.mine) now))

pub returns-clause-ended : goal.returns-clause-ended
returns-clause-ended g c = ended_still c.log-answer.result c.log-answer.new.self.pass.seen c.show.new.seer.seen c.args.top.now (subst (λ p. IsOlder c.log-answer.new.self.pass.seen p) (sym c.show.ensures.same) c.show.ensures.seen) (logged_stands c.log-answer.result c.args.top.now (ledger_state c.args.ledger.now) (ledger_state c.log-answer.new.self) c.log-answer.ensures.logged)

pub returns-clause-refused : goal.returns-clause-refused
returns-clause-refused g c =
    let mid = c.log-answer.new.self.pass in
    refused_still c.log-answer.result mid.seen c.show.new.seer.seen mid.mine c.args.ledger.now.pass.mine _ c.args.top.now
    ((known_again (setting_of g.N.Store.table g.N.Store.base) mid c.log-answer.new.self.known).mine c.log-answer.new.self.live ∙ ap (λ n. entries_of n mid.seen) c.log-answer.new.self.number)
    (subst (λ p. IsOlder mid.seen p) (sym c.show.ensures.same) c.show.ensures.seen) c.show.ensures.bounded c.log-answer.ensures.room c.log-answer.ensures.refused

pub returns-clause-seer : goal.returns-clause-seer
returns-clause-seer g c = sees_on c.args.seer.now c.log-answer.new.seer c.show.new.seer c.log-answer.ensures.seer c.show.ensures.seer
