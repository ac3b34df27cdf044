-- A client's requests are of accesses of managers that it started.
use Rattle.std.proofs.Common.{◌≡◌, ◌⊎◌, ℕ, ◌<◌, Bool, true, false, List, [], ◌∷◌, ◌++◌, length, inl, inr, eqb-true, refl, sym, ap, ◌∙◌, subst, arith}
use Rattle.std.specs.Prelude.{Option, None, Some, MatchOption, ◌==◌, is_some, if◌then◌else◌, option_map, option_to_list}
use Rattle.std.specs.List.{AllByRecursion}
use Rattle.qc_names.specs.Name as name
use Rattle.qc_event.specs.declared.event.Ask.{Ask}
use Rattle.qc_event.specs.declared.event.Entry.{Entry}
use Rattle.qc_event.specs.declared.event.Event.{Event}
use Rattle.qc_event.specs.declared.event.Event.TheVariants as event
use Rattle.qc_event.specs.declared.event.Kind.TheVariants as kind
use Rattle.qc_event.specs.Base.{Setting}
use Rattle.qc_event.specs.History.{Past, Name, Begun, start, start_in, kind_of, is_child}
use Rattle.qc_event.specs.Legal.{Legal, MayHappen}
use Rattle.qc_event.specs.Requests.{MayAsk}
use Rattle.qc_event.specs.Standing.{IsManager}
use Rattle.qc_event.proofs.LastNumber.{ends_in, front_last, is_child-last, EndsIn}
use Rattle.qc_event.proofs.OneEntry.{started_stays}
use Rattle.qc_event.proofs.Options.{some_there, still_mapped}
use Rattle.qc_event.proofs.Starting.{access_managed}
use Rattle.qc_net.specs.Messages.{ask_of, ask_under, asked_under}
use Rattle.qc_desk.specs.Own.{IsMine}
use Rattle.qc_desk.proofs.Begun.{not_root}

-- the request is of a started access of a manager that was started under a seat
pub record IsOwnRequest (past : Past) (seat : ℕ) (ask : Ask) : Type 0 where
  pub manager : Name
  pub child : is_child manager ask.access ≡ true
  pub mine : IsMine past seat manager
  pub access : kind_of past ask.access ≡ Some kind.Access

-- it has started
pub own_started : (past : Past) (seat : ℕ) (ask : Ask) → IsOwnRequest past seat ask → is_some (start past ask.access) ≡ true
own_started past seat ask own = there (start past ask.access) own.access
  where
    there : (o : Option Begun) → option_map (λ (b : Begun). b.kind) o ≡ Some kind.Access → is_some o ≡ true
    there (Some b) is = refl
    there None is = absurd cc

own_still : (e : Entry) (past : Past) (seat : ℕ) (requests : List Ask) → AllByRecursion (IsOwnRequest past seat) requests → AllByRecursion (IsOwnRequest (e ∷ past) seat) requests
own_still e past seat [] all = tt
own_still e past seat (a ∷ rest) all = (
  record {
    manager = all.0.manager;
    child = all.0.child;
    mine = started_stays e past all.0.manager (λ b. IsManager b.kind × (b.seat ≡ seat)) all.0.mine;
    access = still_mapped (λ (b : Begun). b.kind) (start past a.access) (start_in a.access e.seat e.event) kind.Access all.0.access;
  },
  own_still e past seat rest all.1,
)

own_more : (past : Past) (seat : ℕ) (requests more : List Ask) → AllByRecursion (IsOwnRequest past seat) requests → AllByRecursion (IsOwnRequest past seat) more → AllByRecursion (IsOwnRequest past seat) (requests ++ more)
own_more past seat [] more all here = here
own_more past seat (a ∷ rest) more all here = (all.0, own_more past seat rest more all.1 here)

-- a name below the root is a child of what stands before its last number
front_child : (n : Name) → 0 < length n → (n ≡ []) ⊎ EndsIn n → is_child (name.front n) n ≡ true
front_child n long (inl none) = absurd (omega (arith, long, ap length none))
front_child n long (inr last) = subst (λ x. is_child (name.front x) x ≡ true) (sym last.2) (ap (λ p. is_child p (last.0 ++ last.1 ∷ [])) (front_last last.0 last.1) ∙ is_child-last last.0 last.1)

both : (o : Option Begun) (seat : ℕ) → MatchOption o ⊥ (λ b. b.seat ≡ seat) → MatchOption o ⊥ (λ b. IsManager b.kind) → MatchOption o ⊥ (λ b. IsManager b.kind × (b.seat ≡ seat))
both None seat p q = absurd p
both (Some b) seat p q = (q, p)

own_ask : (setting : Setting) (past : Past) (seat : ℕ) (ask : Ask) → Legal setting past → MayAsk setting past seat ask → IsOwnRequest past seat ask
own_ask setting past seat ask legal may =
    let there = some_there (start past ask.access) (λ a. (a.seat ≡ seat) × (a.kind ≡ kind.Access)) may.started in
    record {
      manager = name.front ask.access;
      child = front_child ask.access (not_root setting past ask.access there.0 legal there.1) (ends_in ask.access);
      mine = both (start past (name.front ask.access)) seat may.manager_started (access_managed setting past ask.access there.0 legal there.1 there.2.1);
      access = ap (option_map (λ (b : Begun). b.kind)) there.1 ∙ ap (λ k. Some k) there.2.1;
    }

pub asks_own : (setting : Setting) (past : Past) (seat : ℕ) → Legal setting past → AllByRecursion (IsOwnRequest past seat) (asked_under seat past)
asks_own setting [] seat legal = tt
asks_own setting (e ∷ past) seat legal =
    own_more (e ∷ past) seat (asked_under seat past) (option_to_list (ask_under seat e)) (own_still e past seat (asked_under seat past) (asks_own setting past seat legal.0)) (by_seat (e.seat == seat) refl)
  where
    by_event : (ev : Event) → e.seat ≡ seat → MayHappen setting past e.seat ev → AllByRecursion (IsOwnRequest (e ∷ past) seat) (option_to_list (ask_of ev))
    by_event (event.Ask ask) is may = own_still e past seat (ask ∷ []) (own_ask setting past seat ask legal.0 (subst (λ s. MayAsk setting past s ask) is may), tt)
    by_event _ is may = tt

    by_seat : (b : Bool) → (e.seat == seat) ≡ b → AllByRecursion (IsOwnRequest (e ∷ past) seat) (option_to_list (if b then ask_of e.event else None))
    by_seat true is = by_event e.event (eqb-true e.seat seat is) legal.1
    by_seat false is = tt
