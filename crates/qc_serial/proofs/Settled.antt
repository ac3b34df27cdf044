-- What the children of a committed transaction did is settled: its walk at its commit is its walk through the
-- whole history.
use Rattle.std.proofs.Common.{◌≡◌, ◌<◌, true, [], ◌∷◌, ◌++◌, refl, sym, ap, ◌∙◌, append-nil}
use Rattle.std.specs.Prelude.{is_some, if◌then◌else◌, length}
use Rattle.std.proofs.lemmas.Bool.{false_from_ne_true}
use Rattle.qc_event.specs.declared.event.Entry.{Entry}
use Rattle.qc_event.specs.declared.event.Event.{Event}
use Rattle.qc_event.specs.declared.event.Event.TheVariants as event
use Rattle.qc_event.specs.declared.event.Kind.TheVariants as kind
use Rattle.qc_event.specs.Dead.{outcome, is_committed}
use Rattle.qc_event.specs.History.{Past, Name, start, end, is_child, kind_of}
use Rattle.qc_event.proofs.LastNumber.{child_last}
use Rattle.qc_event.proofs.Lawful.{lawful, child_starts, ends_open, committed_is}
use Rattle.qc_event.proofs.OneEntry.{some_or_none}
use Rattle.qc_event.proofs.Orderly.{Orderly, KeepsOrder}
use Rattle.qc_event.proofs.Later.{committed_still}
use Rattle.qc_serial.specs.declared.event.SerialEvent.TheVariants.{Start}
use Rattle.qc_serial.specs.Walk.{walk, added, ended}

has_ended : (past : Past) (c : Name) → is_committed (outcome past c) ≡ true → is_some (end past c) ≡ true
has_ended past c done = ap is_some (committed_is (end past c) done).1

-- no entry after its commit is about a child of it
adds_none : (past : Past) (e : Entry) (c : Name) → 0 < length c → Orderly past → KeepsOrder past e.event → is_committed (outcome past c) ≡ true → added past (walk past) c e.event ≡ []
adds_none past e c pos orderly keeps done = by_event e.event refl
  where
    by_event : (ev : Event) → e.event ≡ ev → added past (walk past) c ev ≡ []
    by_event (event.Start m (kind.User session body)) is = ap (λ t. if t then Start m ∷ [] else []) (false_from_ne_true (is_child c m) (λ child.
        let last = child_last c m child in
        some_or_none (end past c) (has_ended past c done)
        (child_starts past e c last.0 pos (kind.User session body, is ∙ ap (λ n. event.Start n (kind.User session body)) last.1) keeps).going.is_open.not_ended))
    by_event (event.End m how) is = ap (λ t. if t then ended (kind_of past m) (walk past m) m how else []) (false_from_ne_true (is_child c m) (λ child.
        let last = child_last c m child in
        let still_open = ends_open past e m how is keeps in
        some_or_none (end past m)
        (ap (λ n. is_some (end past n)) last.1 ∙ (lawful past orderly).committed_closed c last.0 pos done (sym (ap (λ n. is_some (start past n)) last.1) ∙ still_open.started))
        still_open.not_ended))
    by_event _ is = refl

pub walk_settled : (later past : Past) (c : Name) → 0 < length c → Orderly (later ++ past) → is_committed (outcome past c) ≡ true → walk (later ++ past) c ≡ walk past c
walk_settled [] past c pos orderly done = refl
walk_settled (e ∷ later) past c pos orderly done =
    ap (λ es. walk (later ++ past) c ++ es) (adds_none (later ++ past) e c pos orderly.0 orderly.1 (committed_still later past c done))
    ∙ append-nil (walk (later ++ past) c)
    ∙ walk_settled later past c pos orderly.0 done
