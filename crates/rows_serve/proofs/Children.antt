-- A child that has just started under a number; and a manager whose next access may ask.
use Rattle.std.proofs.Common.{◌≡◌, ℕ, ◌+◌, true, length, refl, sym, ap, subst}
use Rattle.std.specs.Prelude.{None, Some, IsTrue, is_some}
use Rattle.qc_names.specs.Name as name
use Rattle.qc_config.specs.Val.{Datum}
use Rattle.qc_event.specs.declared.event.Ask.{Ask}
use Rattle.qc_event.specs.declared.event.Kind.{Kind}
use Rattle.qc_event.specs.declared.event.Kind.TheVariants as kind
use Rattle.qc_event.specs.Base.{Setting}
use Rattle.qc_event.specs.History.{Past, Name, start, end, asked, is_child}
use Rattle.qc_event.specs.Manager.{AtStage, waiting}
use Rattle.qc_event.specs.Requests.{IsNextAsk}
use Rattle.qc_event.specs.Seats.{is_client}
use Rattle.qc_event.specs.Standing.{Started, IsManager}
use Rattle.qc_event.specs.Starts.{Stands}
use Rattle.qc_event.proofs.LastNumber.{child_front}
use Rattle.qc_event.proofs.Options.{match_some}
use Rattle.qc_desk.specs.declared.view.View.{View}
use Rattle.qc_desk.specs.Calling.{StartsChild}
use Rattle.qc_desk.specs.Entries.{IsOlder}
use Rattle.qc_desk.specs.Own.{IsMine, MayAskOwn}
use Rattle.qc_desk.specs.Refusing.{against_child}
use Rattle.qc_desk.proofs.AskedTops.{entered_as_later}
use Rattle.qc_desk.proofs.NewChild.{IsNext}

-- A NEW CHILD

pub same_number : (p : Name) (k : Kind) (n : Name) (v w : View) → StartsChild p k n v w → w.number ≡ v.number
same_number p k n v w s = ap (λ (x : View). x.number) s.5

pub later : (p : Name) (k : Kind) (n : Name) (v w : View) → StartsChild p k n v w → IsOlder v.seen w.seen
later p k n v w s = entered_as_later (against_child p) (IsNext p k n) v w s

-- A MANAGER THAT WRITES

module _ (setting : Setting) (seat : ℕ) (m : Name) (rec : ℕ) (value : Datum) (past : Past) (begun_m : start past m ≡ Some (record { seat = seat; kind = kind.Write rec value })) where
  pub mine : IsMine past seat m
  mine = match_some (start past m) (λ b. IsManager b.kind × (b.seat ≡ seat)) _ begun_m (tt, refl)

  -- an access may stand below it
  pub may_stand : Started past m (λ p. Stands setting seat p (length m + 1) kind.Access)
  may_stand = match_some (start past m) (λ p. Stands setting seat p (length m + 1) kind.Access) _ begun_m (tt, refl)

  -- what an access may ask that has just started
  pub may_ask : (ask : Ask) → IsTrue (is_client seat) → is_child m ask.access ≡ true → start past ask.access ≡ Some (record { seat = seat; kind = kind.Access }) → end past ask.access ≡ None → asked past ask.access ≡ None
      → waiting past m ≡ None → AtStage setting past m (kind.Write rec value) (IsNextAsk past m (kind.Write rec value) ask) → MayAskOwn setting past seat (name.front ask.access) ask
  may_ask ask client child started going unasked waits stage = subst (λ x. MayAskOwn setting past seat x ask) (sym (child_front m ask.access child)) (record {
    by_client = client;
    child = child;
    mine = mine;
    started = match_some (start past ask.access) (λ a. (a.seat ≡ seat) × (a.kind ≡ kind.Access)) _ started (refl, refl);
    is_open = record { started = ap is_some started; not_ended = going };
    not_asked = unasked;
    nothing_open = waits;
    of_stage = match_some (start past m) (λ b. AtStage setting past m b.kind (IsNextAsk past m b.kind ask)) _ begun_m stage;
  })
