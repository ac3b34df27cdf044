-- What a manager hears of one access that was carried, and of one that was not.
use Rattle.std.proofs.Common.{◌≡◌, ℕ, Bool, true, List, [], ◌∷◌, ◌++◌, refl, sym, ap, ◌∙◌, subst, append-nil}
use Rattle.std.specs.Prelude.{is_some, filter, filter_map, cond, IsSome, All, Option, None, Some}
use Rattle.std.specs.List.{AllByRecursion, cons_option}
use Rattle.std.specs.Option.{option_or, option_map}
use Rattle.std.proofs.lemmas.List.Elements.{All-append, All-filter, All-from_recursion, recursion_from_All, filter-append, filter_map-append}
use Rattle.qc_event.specs.Base.{Setting}
use Rattle.qc_event.specs.Dead.{WasDead}
use Rattle.qc_event.specs.declared.event.Ask.{Ask}
use Rattle.qc_event.specs.declared.event.Entry.{Entry}
use Rattle.qc_event.specs.declared.event.Kind.{Kind}
use Rattle.qc_event.specs.declared.event.Phase.{Phase}
use Rattle.qc_event.specs.declared.event.Phase.TheVariants.{Collect, Values, Configs}
use Rattle.qc_event.specs.History.{Past, Name, Begun, start, start_in, end, asks, is_child, earliest}
use Rattle.qc_event.specs.Standing.{IsOrphanOf, open_child}
use Rattle.qc_event.specs.Manager.{Result, result, is_phase, phase_of, asks_in}
use Rattle.qc_event.proofs.Histories.{earliest-append}
use Rattle.qc_managers.specs.Carrying.{IsRunning, HasGrown, IsTold, Carriage, own_before, own_now, WasCarried, WasNotCarried, access_entries}
use Rattle.qc_managers.specs.declared.carrier.CarryNo.{CarryNo}
use Rattle.qc_managers.specs.declared.carrier.CarryNo.TheVariants as carry
use Rattle.qc_managers.specs.Answered.{told_of, told_in, EachTold}
use Rattle.qc_managers.specs.Managed.{mgr_no, ManagerIsRefused}
use Rattle.qc_managers.specs.Going.{SameElsewhere, HasHeard, HasMade}
use Rattle.qc_managers.proofs.Served.{carried_by, stopped_by, begun_by}

pub same_phase : (p : Phase) → is_phase p p ≡ true
same_phase Collect = refl
same_phase Values = refl
same_phase Configs = refl

-- A START STANDS

stands : (o new : Option Begun) (b : Begun) → o ≡ Some b → option_or o new ≡ Some b
stands o new b is = ap (λ x. option_or x new) is

pub start_stands : (others : Entry → Bool) (Names : Name → Type 0) (before now : Past) (n : Name) (b : Begun) → HasGrown others Names before now → start before n ≡ Some b → start now n ≡ Some b
start_stands others Names before now n b h is =
    ap (λ p. start p n) h.grown
    ∙ earliest-append (λ (e : Entry). start_in n e.seat e.event) h.newer before
    ∙ stands (start before n) (earliest (λ (e : Entry). start_in n e.seat e.event) h.newer) b is

-- ONE MORE REQUEST

told_as_before : (of before : Name → Option Result) (asks : List Ask) → AllByRecursion (λ (a : Ask). of a.access ≡ before a.access) asks → filter_map (told_of of) asks ≡ filter_map (told_of before) asks
told_as_before of before [] same = refl
told_as_before of before (ask ∷ asks) same =
    ap (λ r. cons_option (option_map (λ (x : Result). record { copy = ask.copy; result = x }) r) (filter_map (told_of of) asks)) same.0
    ∙ ap (cons_option (told_of before ask)) (told_as_before of before asks same.1)

module _ (before now : Past) (m : Name) (ask : Ask) (r : Result) (h : IsTold before now m ask r) where
  old_told : (p : Phase) → filter_map (told_of (result now)) (asks_in before m p) ≡ told_in before m p
  unfolding told_in
  old_told p =
      told_as_before (result now) (result before) (asks_in before m p) (recursion_from_All (λ (a : Ask). result now a.access ≡ result before a.access) (asks_in before m p) (All-filter (λ (a : Ask). is_phase p (phase_of a.op)) (λ (a : Ask). result now a.access ≡ result before a.access) (asks before m) h.as_before))

  told_with : (p : Phase) → told_in now m p ≡ told_in before m p ++ filter_map (told_of (result now)) (filter (λ (a : Ask). is_phase p (phase_of a.op)) (ask ∷ []))
  unfolding told_in
  told_with p =
      ap (λ xs. filter_map (told_of (result now)) (filter (λ (a : Ask). is_phase p (phase_of a.op)) xs)) h.asked
      ∙ ap (filter_map (told_of (result now))) (filter-append (λ (a : Ask). is_phase p (phase_of a.op)) (asks before m) (ask ∷ []))
      ∙ filter_map-append (told_of (result now)) (asks_in before m p) (filter (λ (a : Ask). is_phase p (phase_of a.op)) (ask ∷ []))
      ∙ ap (λ ts. ts ++ filter_map (told_of (result now)) (filter (λ (a : Ask). is_phase p (phase_of a.op)) (ask ∷ []))) (old_told p)

  one_told : (b : Bool) → b ≡ true → filter_map (told_of (result now)) (cond b (ask ∷ []) []) ≡ record { copy = ask.copy; result = r } ∷ []
  one_told b is = ap (λ c. filter_map (told_of (result now)) (cond c (ask ∷ []) [])) is ∙ ap (λ o. cons_option (option_map (λ (x : Result). record { copy = ask.copy; result = x }) o) []) h.newest

  pub told_here : told_in now m (phase_of ask.op) ≡ told_in before m (phase_of ask.op) ++ record { copy = ask.copy; result = r } ∷ []
  told_here = told_with (phase_of ask.op) ∙ ap (λ ts. told_in before m (phase_of ask.op) ++ ts) (one_told (is_phase (phase_of ask.op) (phase_of ask.op)) (same_phase (phase_of ask.op)))

  pub told_elsewhere : SameElsewhere before now m (phase_of ask.op)
  told_elsewhere p other =
      told_with p
      ∙ ap (λ b. told_in before m p ++ filter_map (told_of (result now)) (cond b (ask ∷ []) [])) other
      ∙ append-nil (told_in before m p)

  each_as_before : (xs : List Ask) → AllByRecursion (λ (a : Ask). result now a.access ≡ result before a.access) xs → AllByRecursion (λ (a : Ask). IsSome (result before a.access)) xs → AllByRecursion (λ (a : Ask). IsSome (result now a.access)) xs
  each_as_before [] same some = tt
  each_as_before (a ∷ xs) same some = (ap is_some same.0 ∙ some.0, each_as_before xs same.1 some.1)

  pub each_told : EachTold before m → EachTold now m
  unfolding EachTold
  each_told each =
      let P : Ask → Type 0 = λ (a : Ask). IsSome (result now a.access) in
      let old : All P (asks before m) = All-from_recursion P (asks before m) (each_as_before (asks before m) (recursion_from_All (λ (a : Ask). result now a.access ≡ result before a.access) (asks before m) h.as_before) (recursion_from_All (λ (a : Ask). IsSome (result before a.access)) (asks before m) each)) in
      subst (All P) (sym h.asked) (All-append P (asks before m) (ask ∷ []) old (All-from_recursion P (ask ∷ []) (ap is_some h.newest, tt)))

-- AN ACCESS

-- one access of a manager of a kind
pub record OneAccess (others : Entry → Bool) (Names : Name → Type 0) (seat : ℕ) (m : Name) (k : Kind) (way : Carriage) : Type 0 where
  pub grown : HasGrown others Names way.before way.now
  pub running : IsRunning seat way.before m k
  pub each_told : EachTold way.before m
  pub its : way.manager ≡ m

pub heard_of : (others : Entry → Bool) (Names : Name → Type 0) (seat : ℕ) (m : Name) (k : Kind) (way : Carriage) (r : Result) → OneAccess others Names seat m k way → WasCarried way r → HasHeard seat way.before way.now m k (phase_of way.ask.op) (record { copy = way.ask.copy; result = r } ∷ [])
heard_of others Names seat m k way r one carried =
    let told : IsTold way.before way.now m way.ask r = subst (λ n. IsTold way.before way.now n way.ask r) one.its carried.told in
    record {
      goes_on = record {
        running = record {
          started = start_stands others Names way.before way.now m _ one.grown one.running.started;
          not_ended = subst (λ n. end way.now n ≡ None) one.its carried.not_ended;
          children_ended = subst (λ n. open_child way.now n ≡ None) one.its carried.children_ended;
        };
        each_told = each_told way.before way.now m way.ask r told one.each_told;
      };
      here = told_here way.before way.now m way.ask r told;
      elsewhere = told_elsewhere way.before way.now m way.ask r told;
    }

pub refused_of : (setting : Setting) (others : Entry → Bool) (Names : Name → Type 0) (seat : ℕ) (m : Name) (k : Kind) (way : Carriage) (why : CarryNo) → OneAccess others Names seat m k way → WasNotCarried way why → ManagerIsRefused setting seat way.now m k (mgr_no why)
refused_of setting others Names seat m k way (carry.Orphan a) one stopped =
    record {
      running = record {
        started = start_stands others Names way.before way.now m _ one.grown one.running.started;
        not_ended = subst (λ n. end way.now n ≡ None) one.its stopped.not_ended;
        children_ended = subst (λ n. open_child way.now n ≡ None) one.its stopped.children_ended;
      };
      licensed = subst (λ n. IsOrphanOf way.now n a) one.its stopped.orphan.orphan;
      shortest = subst (λ n. WasDead way.now n a) one.its stopped.orphan.shortest;
    }
refused_of setting others Names seat m k way (carry.Short short) one cut = cut.1

-- what a carrier made for an access that was carried, and for one that was not
pub made_carried : (m : Name) (way : Carriage) (r : Result) → is_child m way.ask.access ≡ true → WasCarried way r → HasMade m (own_before way) (own_now way)
made_carried m way r child carried = record { made = access_entries way.seat way.ask r; added = carried.made; each = carried_by m way.seat way.ask child r }

pub made_not_carried : (m : Name) (way : Carriage) (why : CarryNo) → is_child m way.ask.access ≡ true → WasNotCarried way why → HasMade m (own_before way) (own_now way)
made_not_carried m way (carry.Orphan a) child stopped = record { made = stopped.made; added = stopped.added; each = stopped_by m way.seat way.ask child a stopped.made stopped.stopped }
made_not_carried m way (carry.Short short) child cut = record { made = cut.0.made; added = cut.0.added; each = begun_by m way.seat way.ask child cut.0.made cut.0.part }
