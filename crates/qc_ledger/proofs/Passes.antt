-- What the ledger's pass goes on to know.
use Rattle.std.proofs.Common.{◌≡◌, ℕ, [], ◌∷◌, Bool, true, false, refl, sym, ap, ap₂, ◌∙◌, cond}
use Rattle.std.specs.Prelude.{IsTrue, is_some, Option, None, Result, Ok, Err, OnOk, IfErr, ◌==◌, length}
use Rattle.std.specs.Bool.{OnFalse}
use Rattle.std.specs.Option.{option_or}
use Rattle.qc_event.specs.declared.event.Entry.{Entry}
use Rattle.qc_event.specs.declared.event.Event.TheVariants as event
use Rattle.qc_event.specs.declared.event.Why.{Why}
use Rattle.qc_event.specs.History.{Name, Past, earliest, end, end_in, is_ready}
use Rattle.qc_event.specs.declared.short.Short.{Short}
use Rattle.qc_desk.specs.declared.view.View.{View}
use Rattle.qc_desk.specs.Calling.{Entered, Shown, Wanted, SeesMore}
use Rattle.qc_desk.specs.Entries.{IsOlder, entries_of, entry}
use Rattle.qc_desk.specs.Refusing.{against_nothing}
use Rattle.qc_event.specs.Base.{Setting}
use Rattle.qc_event.specs.Legal.{Legal}
use Rattle.qc_event.specs.Seats.{ledger_seat}
use Rattle.qc_event.proofs.OneEntry.{no_some, none_before, not_some, some_or_none}
use Rattle.qc_event.proofs.RootAndTops.{ready_started}
use Rattle.qc_desk.proofs.Finishing.{ended_by_ledger}
use Rattle.qc_desk.proofs.Listed.{ready_stays}
use Rattle.qc_desk.proofs.Seers.{older_trans}
use Rattle.qc_ledger.specs.Entered.{MayFinish}
use Rattle.qc_ledger.specs.Since.{IsNext}

-- a pass that has seen more, and ended no more
pub may_still : (old new : View) (top : Name) → new.mine ≡ old.mine → IsOlder old.seen new.seen → MayFinish old top → MayFinish new top
may_still old new top same older may = record {
  is_top = may.is_top;
  ready = ready_stays old.seen new.seen top older may.ready;
  first = ap (λ (p : Past). end p top) same ∙ may.first;
}

-- What a pass keeps over a call that ends nothing.
pub record IsKept (old new : View) : Type 0 where
  pub live : new.live ≡ old.live
  pub number : new.number ≡ old.number
  pub out : new.out ≡ old.out
  pub kin : new.kin ≡ old.kin
  pub older : IsOlder old.seen new.seen
  pub still : (top : Name) → MayFinish old top → MayFinish new top

pub kept_on : (a b c : View) → IsKept a b → IsKept b c → IsKept a c
kept_on a b c one two = record {
  live = two.live ∙ one.live;
  number = two.number ∙ one.number;
  out = two.out ∙ one.out;
  kin = two.kin ∙ one.kin;
  older = older_trans a.seen b.seen c.seen one.older two.older;
  still = λ top may. two.still top (one.still top may);
}

-- it looked
pub shown_kept : (old new : View) → Shown old new → IsKept old new
shown_kept old new shown =
    let older : IsOlder old.seen new.seen = (shown.0.0, shown.0.1) in
    record {
      live = ap (λ (v : View). v.live) shown.1;
      number = ap (λ (v : View). v.number) shown.1;
      out = ap (λ (v : View). v.out) shown.1;
      kin = ap (λ (v : View). v.kin) shown.1;
      older = older;
      still = λ top may. may_still old new top (ap (λ (v : View). v.mine) shown.1) older may;
    }

-- it entered that a top was not logged
pub unable_kept : {T : Type 0} (r : Result T Short) (old new : View) (top : Name) (why : Why) → OnOk r (Entered against_nothing (event.Unable top why) old new) → IfErr r (Wanted old new) → IsKept old new
unable_kept (Ok x) old new top why ok err =
    let is = ok.3 in
    let e = entry old.number (event.Unable top why) in
    let older : IsOlder old.seen new.seen = (e ∷ ok.1.0, ap (λ (v : View). v.seen) is ∙ ap (λ (l : Past). e ∷ l) ok.1.1) in
    record {
      live = ap (λ (v : View). v.live) is;
      number = ap (λ (v : View). v.number) is;
      out = ap (λ (v : View). v.out) is;
      kin = ap (λ (v : View). v.kin) is;
      older = older;
      still = λ t may. record {
        is_top = may.is_top;
        ready = ready_stays old.seen new.seen t older may.ready;
        first = ap (λ (v : View). end v.mine t) is ∙ ap (λ o. option_or o None) may.first;
      };
    }
unable_kept (Err refused) old new top why ok err =
    let older : IsOlder old.seen new.seen = (err.0.0.0, err.0.0.1) in
    record {
      live = ap (λ (v : View). v.live) err.0.1;
      number = ap (λ (v : View). v.number) err.0.1;
      out = ap (λ (v : View). v.out) err.0.1;
      kin = ap (λ (v : View). v.kin) err.0.1;
      older = older;
      still = λ t may. may_still old new t (ap (λ (v : View). v.mine) err.0.1) older may;
    }

-- what no entry ends, no entry of one pass ends
none_of : {Y : Type 0} (f : Entry → Option Y) (n : ℕ) (past : Past) → earliest f past ≡ None → earliest f (entries_of n past) ≡ None
none_of f n [] none = refl
none_of {Y} f n (e ∷ past) none =
    let parts = none_before (earliest f past) (f e) none in
    by (e.seat == n) (none_of f n past parts.0) parts.1
  where
    by : (b : Bool) → earliest f (entries_of n past) ≡ None → f e ≡ None → earliest f (cond b (e ∷ entries_of n past) (entries_of n past)) ≡ None
    by true rest here = ap₂ (λ (x y : Option Y). option_or x y) rest here
    by false rest here = rest

pub may_first : (view : View) (top : Name) (b : Bool) → length top ≡ 1 → IsTrue (is_ready view.seen top) → view.mine ≡ entries_of view.number view.seen → b ≡ is_some (end view.seen top) → OnFalse b (MayFinish view top)
may_first view top true is_top ready mine is = tt
may_first view top false is_top ready mine is = record {
  is_top = is_top;
  ready = ready;
  first = ap (λ (p : Past). end p top) mine ∙ none_of (λ e. end_in top e.event) view.number view.seen (no_some (end view.seen top) (sym is));
}

-- a pass has seen more, twice
pub sees_on : (a b c : View) → SeesMore a b → SeesMore b c → SeesMore a c
sees_on a b c one two = record {
  older = older_trans a.seen b.seen c.seen one.older two.older;
  mine = two.mine ∙ one.mine;
  number = two.number ∙ one.number;
  live = two.live ∙ one.live;
  out = two.out ∙ one.out;
  kin = two.kin ∙ one.kin;
}

-- a top that may be finished may be committed next
pub may_be_next : (setting : Setting) (pass : View) (top : Name) → Legal setting pass.seen → pass.mine ≡ entries_of ledger_seat pass.seen → MayFinish pass top → IsNext pass.seen top
may_be_next setting pass top legal own may = record {
  is_top = may.is_top;
  ready = may.ready;
  is_open = record {
    started = ready_started setting pass.seen top legal may.ready;
    not_ended = not_some (end pass.seen top) (λ ended.
        some_or_none (end (entries_of ledger_seat pass.seen) top) (ended_by_ledger setting pass.seen top legal may.ready ended) (ap (λ p. end p top) (sym own) ∙ may.first));
  };
}

-- what may be finished where it had not ended may be committed next
pub may_next : (setting : Setting) (pass : View) (top : Name) (b : Bool) → Legal setting pass.seen → pass.mine ≡ entries_of ledger_seat pass.seen → OnFalse b (MayFinish pass top) → OnFalse b (IsNext pass.seen top)
may_next setting pass top true legal own may = tt
may_next setting pass top false legal own may = may_be_next setting pass top legal own may
