-- A child that has just started under a number; what was not started has not asked, and what has not asked was granted nothing.
use Rattle.std.proofs.Common.{◌≡◌, ℕ, ◌+◌, ◌<◌, true, List, [], ◌∷◌, ◌++◌, length, refl, sym, ap, ap₂, ◌∙◌, subst, arith, append-nil}
use Rattle.std.specs.Prelude.{Option, None, Some, MatchOption, is_some}
use Rattle.std.specs.List.{AllByRecursion}
use Rattle.std.specs.Option.{option_or}
use Rattle.std.proofs.lemmas.Bool.{false_from_ne_true}
use Rattle.qc_event.specs.declared.event.Ask.{Ask}
use Rattle.qc_event.specs.declared.event.Event.{Event}
use Rattle.qc_event.specs.declared.event.Event.TheVariants as event
use Rattle.qc_event.specs.declared.event.Kind.{Kind}
use Rattle.qc_event.specs.Base.{Setting}
use Rattle.qc_event.specs.History.{Past, Name, Asked, same, start, start_in, end, asked, ask_in, asks, granted, grant_in, children, is_child}
use Rattle.qc_event.specs.Legal.{Legal, MayHappen}
use Rattle.qc_event.proofs.Absent.{same_is, if_not}
use Rattle.qc_event.proofs.LastNumber.{child_last, is_child-last, length_last}
use Rattle.qc_event.proofs.Lawful.{lawful, started_some}
use Rattle.qc_event.proofs.LegalOrderly.{legal_orderly}
use Rattle.qc_event.proofs.Lineage.{IsFresh, fresh_child, fresh_below}
use Rattle.qc_event.proofs.OneEntry.{none_before, some_or_none, start_is}
use Rattle.qc_event.proofs.Options.{some_match}
use Rattle.qc_event.proofs.OwnRequests.{IsOwn, asks_own}
use Rattle.qc_desk.specs.declared.refusal.DeskNo.{DeskNo}
use Rattle.qc_desk.specs.declared.view.View.{View}
use Rattle.qc_desk.specs.Calling.{EnteredAs}
use Rattle.qc_desk.specs.Entries.{IsSince, entry}
use Rattle.qc_desk.specs.Own.{IsMine}
use Rattle.qc_desk.proofs.OwnSince.{asks_same}

-- WHAT WAS NOT STARTED

pub asked_none : (setting : Setting) (past : Past) (n : Name) → Legal setting past → start past n ≡ None → asked past n ≡ None
asked_none setting [] n legal none = refl
asked_none setting (e ∷ past) n legal none = ap₂ option_or (asked_none setting past n legal.0 was) (by_event e.event legal.1)
  where
    was : start past n ≡ None
    was = (none_before (start past n) (start_in n e.seat e.event) none).0

    by_event : (ev : Event) → MayHappen setting past e.seat ev → ask_in n e.seat ev ≡ None
    by_event (event.Ask ask) h = if_not (same ask.access n) _ (false_from_ne_true (same ask.access n) (λ is. some_or_none (start past n) (subst (λ x. is_some (start past x) ≡ true) (same_is ask.access n is) (started_some _ (start past ask.access) h.started)) was))
    by_event _ h = refl

pub granted_none : (setting : Setting) (past : Past) (n : Name) → Legal setting past → asked past n ≡ None → granted past n ≡ None
granted_none setting [] n legal none = refl
granted_none setting (e ∷ past) n legal none = ap₂ option_or (granted_none setting past n legal.0 was) (by_event e.event legal.1)
  where
    was : asked past n ≡ None
    was = (none_before (asked past n) (ask_in n e.seat e.event) none).0

    by_event : (ev : Event) → MayHappen setting past e.seat ev → grant_in n ev ≡ None
    by_event (event.Granted c g) h = if_not (same g.access n) _ (false_from_ne_true (same g.access n) (λ is. some_or_none (asked past n) (some_match (asked past n) _ (subst (λ x. MatchOption (asked past x) ⊥ (λ (a : Asked). a.ask ≡ record { access = g.access; copy = c; rec = g.rec; op = g.op })) (same_is g.access n is) h.request)) was))
    by_event _ h = refl

none_asked : (past : Past) (m : Name) (requests : List Ask) → AllByRecursion (IsOwn past m) requests → ((c : Name) → is_child m c ≡ true → start past c ≡ None) → requests ≡ []
none_asked past m [] own none = refl
none_asked past m (a ∷ rest) own none = absurd (some_or_none (start past a.access) own.0.started (none a.access own.0.child))

-- A NEW CHILD

-- A pass under this number has started this child.
pub record IsChild (setting : Setting) (seat : ℕ) (p : Name) (k : Kind) (v w : View) (n : Name) : Type 0 where
  pub before : Past
  pub place : ℕ
  pub named : n ≡ p ++ place ∷ []
  pub since : IsSince seat v.seen before
  pub seen : w.seen ≡ entry seat (event.Start n k) ∷ before
  pub legal : Legal setting (entry seat (event.Start n k) ∷ before)
  pub fresh : IsFresh before n

-- the child is the next of its parent, and the entry starts it
abbrev pub IsNext : Name → Kind → Name → Past → Event → Type 0
IsNext p k n past ev = (n ≡ p ++ (length (children past p) + 1) ∷ []) × (ev ≡ event.Start n k)

pub child_of : (setting : Setting) (against : Past → Option DeskNo) (seat : ℕ) (p : Name) (k : Kind) (v w : View) (n : Name) → EnteredAs against (IsNext p k n) v w → Legal setting w.seen → v.number ≡ seat → 0 < length p → IsChild setting seat p k v w n
child_of setting against seat p k v w n (before, ev, (named, is), since, none, same) legal number long = record {
  before = before;
  place = length (children before p) + 1;
  named = named;
  since = subst (λ s. IsSince s v.seen before) number since;
  seen = seen;
  legal = here;
  fresh = subst (IsFresh before) (sym named) (fresh_child before p (length (children before p) + 1) [] (lawful before (legal_orderly setting before here.0)) long (omega arith));
}
  where
    seen : w.seen ≡ entry seat (event.Start n k) ∷ before
    seen = ap (λ (x : View). x.seen) same ∙ (λ i. entry (number i) (is i) ∷ before)

    here : Legal setting (entry seat (event.Start n k) ∷ before)
    here = subst (Legal setting) seen legal

module _ (setting : Setting) (seat : ℕ) (p : Name) (k : Kind) (v w : View) (n : Name) (c : IsChild setting seat p k v w n) where
  pub begun : start w.seen n ≡ Some (record { seat = seat; kind = k })
  begun = ap (λ past. start past n) c.seen ∙ start_is (entry seat (event.Start n k)) c.before n k c.fresh.no_start refl

  pub is_child_of : is_child p n ≡ true
  is_child_of = ap (is_child p) c.named ∙ is_child-last p c.place

  pub long : 0 < length n
  long = omega (arith, ap length c.named, length_last p c.place)

  pub still_open : end w.seen n ≡ None
  still_open = ap (λ past. end past n) c.seen ∙ ap (λ o. option_or o None) c.fresh.no_end

  pub not_asked : asked w.seen n ≡ None
  not_asked = ap (λ past. asked past n) c.seen ∙ ap (λ o. option_or o None) (asked_none setting c.before n c.legal.0 c.fresh.no_start)

  -- it has asked nothing
  pub no_asks : asks w.seen n ≡ []
  no_asks = ap (λ past. asks past n) c.seen ∙ append-nil (asks c.before n) ∙ none_asked c.before n (asks c.before n) (asks_own setting c.before n c.legal.0) unstarted
    where
      unstarted : (x : Name) → is_child n x ≡ true → start c.before x ≡ None
      unstarted x is =
          let l = child_last n x is in
          ap (start c.before) l.1 ∙ (fresh_below c.before n (l.0 ∷ []) (lawful c.before (legal_orderly setting c.before c.legal.0)) long c.fresh.no_start).no_start

  -- its parent has asked nothing meanwhile
  pub same_asks : IsMine v.seen seat p → asks w.seen p ≡ asks v.seen p
  same_asks mine =
      ap (λ past. asks past p) c.seen ∙ append-nil (asks c.before p) ∙ ap (λ past. asks past p) c.since.1
      ∙ asks_same setting v.seen seat p mine c.since.0 (subst (Legal setting) c.since.1 c.legal.0) c.since.2
