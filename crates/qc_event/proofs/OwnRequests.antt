-- Each request of a manager is of a started child.
use Rattle.std.proofs.Common.{◌≡◌, Bool, true, false, List, [], ◌∷◌, ◌++◌, refl}
use Rattle.std.specs.Prelude.{None, Some, if◌then◌else◌, is_some, option_to_list}
use Rattle.std.specs.List.{AllByRecursion}
use Rattle.qc_event.specs.declared.event.Ask.{Ask}
use Rattle.qc_event.specs.declared.event.Entry.{Entry}
use Rattle.qc_event.specs.declared.event.Event.{Event}
use Rattle.qc_event.specs.declared.event.Event.TheVariants as event
use Rattle.qc_event.specs.Base.{Setting}
use Rattle.qc_event.specs.History.{Past, Name, start, is_child, asks, ask_below}
use Rattle.qc_event.specs.Legal.{Legal, MayHappen}
use Rattle.qc_event.proofs.Lawful.{started_some}
use Rattle.qc_event.proofs.OneEntry.{start_stays}

-- a request is of a started child
pub record IsOwn (past : Past) (m : Name) (ask : Ask) : Type 0 where
  pub child : is_child m ask.access ≡ true
  pub started : is_some (start past ask.access) ≡ true

own_still : (e : Entry) (past : Past) (m : Name) (requests : List Ask) → AllByRecursion (IsOwn past m) requests → AllByRecursion (IsOwn (e ∷ past) m) requests
own_still e past m [] all = tt
own_still e past m (a ∷ rest) all = (record { child = all.0.child; started = start_stays e past a.access all.0.started }, own_still e past m rest all.1)

own_more : (past : Past) (m : Name) (requests more : List Ask) → AllByRecursion (IsOwn past m) requests → AllByRecursion (IsOwn past m) more → AllByRecursion (IsOwn past m) (requests ++ more)
own_more past m [] more all here = here
own_more past m (a ∷ rest) more all here = (all.0, own_more past m rest more all.1 here)

-- each request of a manager is a started child's
pub asks_own : (setting : Setting) (past : Past) (m : Name) → Legal setting past → AllByRecursion (IsOwn past m) (asks past m)
asks_own setting [] m legal = tt
asks_own setting (e ∷ past) m legal = own_more (e ∷ past) m (asks past m) _ (own_still e past m (asks past m) (asks_own setting past m legal.0)) (by_event e.event legal.1)
  where
    by_test : (ask : Ask) (b : Bool) → is_child m ask.access ≡ b → is_some (start past ask.access) ≡ true → AllByRecursion (IsOwn (e ∷ past) m) (option_to_list (if b then Some ask else None))
    by_test ask true child began = (record { child = child; started = start_stays e past ask.access began }, tt)
    by_test ask false child began = tt

    by_event : (ev : Event) → MayHappen setting past e.seat ev → AllByRecursion (IsOwn (e ∷ past) m) (option_to_list (ask_below m ev))
    by_event (event.Ask ask) may = by_test ask (is_child m ask.access) refl (started_some _ (start past ask.access) may.started)
    by_event _ may = tt
