-- What the ledger's pass has seen is noted, and the first pass has seen it.
use Rattle.std.proofs.Common.{◌≡◌, Bool, true, false, [], ◌&&◌, refl, sym, ap, ◌∙◌, subst}
use mathlib.Core.Bool.{true≢false}
use Rattle.std.specs.Prelude.{not}
use Rattle.qc_event.specs.Seats.{ledger_seat}
use Rattle.qc_event.specs.Standing.{HasEnded}
use Rattle.qc_event.specs.Tables.{setting_of}
use Rattle.qc_desk.specs.Calling.{SeesMore}
use Rattle.qc_ledger.specs.Entered.{MayFinish}
use Rattle.qc_ledger.proofs.Passes.{sees_on}
use Rattle.qc_ledger.specs.Shelf.{journal_in}
use Rattle.qc_desk.specs.declared.view.View.{View}
use Rattle.qc_desk.specs.Entries.{IsOlder}
use Rattle.qc_desk.specs.Known.{IsKnown}
use Rattle.qc_desk.proofs.Seers.{older_trans}
use Rattle.qc_journal.specs.Journal.{disk_of}
use Rattle.qc_system.specs.Kept.{NoRoomForTops, Pays, TopsSince, downs}
use Rattle.qc_site.proofs.Replicas.{shown_sees}
use Rattle.qc_system.proofs.Ended.{told_open}
use Rattle.qc_system.proofs.held_ledger.HeldLedger.begin.Goals as goal

pub invariant_of-self : goal.invariant_of-self
invariant_of-self g c =
    let held = c.args.self.now in
    let ledger = held.ledger in
    let first = (g.N.Mounting.found.active 0).first in
    let is = sym c.note-known.ensures.1 in (
      (
        subst (λ (v : View). v.live ≡ true) is ledger.live,
        (
          subst (λ (v : View). v.number ≡ ledger_seat) is ledger.number,
          (
            subst (λ (v : View). v.out ≡ []) is ledger.out,
            (
              subst (λ (v : View). v.kin ≡ []) is ledger.kin,
              (
                subst (λ (v : View). ∥ IsKnown (setting_of g.N.Store.table g.N.Store.base) v ∥₁) is ledger.known,
                ((λ top some. subst (λ (v : View). MayFinish v top) is (ledger.may top some)), tt),
              ),
            ),
          ),
        ),
      ),
      (
        subst (λ (v : View). ∥ TopsSince (g.N.Mounting.found.active 0) ledger.shelf v ∥₁) is held.keeps,
        (
          subst (λ (v : View). Pays first.faults (downs v.mine) (g.D.Disk.view (disk_of (journal_in ledger.shelf)).disk.value).faults) is held.pays,
          (held.limit, (subst (λ (v : View). ∥ NoRoomForTops (g.N.Mounting.found.active 0) g.N.Mounting.found.limit v ∥₁) is held.full, tt)),
        ),
      ),
    )

pub returns-clause-first : goal.returns-clause-first
returns-clause-first g c =
    subst (SeesMore c.args.first.now) (sym c.note-since.ensures.1)
    (sees_on c.args.first.now c.show.new.pass c.settled-ended.new.pass (shown_sees c.args.first.now c.show.new.pass c.show.ensures.pass) (shown_sees c.show.new.pass c.settled-ended.new.pass c.settled-ended.ensures.looked))

pub returns-clause-older : goal.returns-clause-older
returns-clause-older g c =
    let noted = ap (λ (v : View). v.seen) c.note-known.ensures.0 ∙ sym (ap (λ (v : View). v.seen) c.note-known.ensures.1) in
    let shown = subst (λ p. IsOlder p c.show.new.seer.seen) noted c.show.ensures.seer.0 in
    subst (λ (v : View). IsOlder c.note-known.new.pass.seen v.seen) (sym c.note-since.ensures.1)
    (older_trans c.note-known.new.pass.seen c.show.new.pass.seen c.settled-ended.new.pass.seen (subst (IsOlder c.note-known.new.pass.seen) c.show.ensures.same shown) c.settled-ended.ensures.looked.0)

-- where it is not wanted that the ledger is up, it is, or a top has no end
all_ended : (ended up : Bool) → (ended ≡ false → ⊥) → (ended && not up) ≡ false → (ended && up) ≡ true
all_ended true true had wants = refl
all_ended true false had wants = absurd (true≢false wants)
all_ended false up had wants = absurd (had refl)

pub returns-clause-free : goal.returns-clause-free
returns-clause-free g c = λ wants ended.
    c.new.ensures.whole ∙ all_ended c.settled-ended.result c.is_up.result
    (λ not_ended. told_open c.settled-ended.new.pass.seen c.settled-ended.result c.settled-ended.ensures.settled not_ended (subst (λ (v : View). HasEnded v.seen) c.note-since.ensures.1 ended))
    (sym c.new.ensures.wanting ∙ wants)
