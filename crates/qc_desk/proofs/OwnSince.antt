-- What a manager and its accesses are by their own client's entries, whatever others entered since.
use Rattle.std.proofs.Common.{◌≡◌, ℕ, Bool, true, false, List, [], ◌∷◌, ◌++◌, refl, sym, ap, ap₂, ◌∙◌, append-nil}
use Rattle.std.proofs.Math.Path.{fun_ext}
use Rattle.std.specs.Prelude.{Option, None, Some, cond, find, filter, filter_map, fold, map, not, ◌&&◌, ◌||◌, ◌==◌, if◌then◌else◌, is_some, is_none, option_to_list}
use Rattle.std.specs.List.{AllByRecursion, list_any, cons_option}
use Rattle.std.specs.Option.{option_or}
use Rattle.qc_config.specs.Config.{Voting, holds_read, holds_write}
use Rattle.qc_config.specs.declared.tuple.Tuple.{Tuple}
use Rattle.qc_event.specs.declared.event.Ask.{Ask}
use Rattle.qc_event.specs.declared.event.Entry.{Entry}
use Rattle.qc_event.specs.declared.event.How.{How}
use Rattle.qc_event.specs.declared.event.Kind.{Kind}
use Rattle.qc_event.specs.declared.event.Phase.{Phase}
use Rattle.qc_event.specs.Base.{Setting}
use Rattle.qc_event.specs.Clear.{is_get}
use Rattle.qc_event.specs.History.{Past, Name, earliest, every, end, end_in, children, child_in, asks, ask_below, asked, ask_in, gone, gone_in, refused, is_child}
use Rattle.qc_event.specs.Legal.{Legal, Allowed}
use Rattle.qc_event.specs.Manager.{Result, result, result_by, reply_of, Stage, Newest, newer as newer_of, greatest_among, collecting, stages_by, is_last, is_phase, phase_of, all_copies, waiting}
use Rattle.qc_event.specs.Standing.{IsManager}
use Rattle.qc_event.proofs.Later.{started_still}
use Rattle.qc_event.proofs.Options.{still}
use Rattle.qc_event.proofs.OwnRequests.{IsOwn, asks_own}
use Rattle.qc_desk.specs.Entries.{AreOthers}
use Rattle.qc_desk.specs.Own.{IsMine}
use Rattle.qc_desk.proofs.Others as others

pub find_same : {X : Type 0} (p q : X → Bool) (xs : List X) → AllByRecursion (λ x. p x ≡ q x) xs → find p xs ≡ find q xs
find_same p q [] all = refl
find_same p q (x ∷ xs) all = ap₂ (λ (b : Bool) (o : Option _). cond b (Some x) o) all.0 (find_same p q xs all.1)

module _ (setting : Setting) (past : Past) (seat : ℕ) (m : Name) (mine : IsMine past seat m) where
  -- what no entry of another tells of is as it was
  earliest_since : {Y : Type 0} (f : Entry → Option Y)
      → ((e : Entry) (before : Past) → (e.seat ≡ seat → ⊥) → Legal setting before → Allowed setting before e → IsMine before seat m → f e ≡ None)
      → (newer : Past) → Legal setting (newer ++ past) → AreOthers seat newer → earliest f (newer ++ past) ≡ earliest f past
  earliest_since f none [] legal all = refl
  earliest_since f none (e ∷ newer) legal all =
      ap (option_or (earliest f (newer ++ past))) (none e (newer ++ past) all.0 legal.0 legal.1 (started_still newer past m (λ b. IsManager b.kind × (b.seat ≡ seat)) mine))
      ∙ still (earliest f (newer ++ past)) ∙ earliest_since f none newer legal.0 all.1

  every_since : {Y : Type 0} (f : Entry → Option Y)
      → ((e : Entry) (before : Past) → (e.seat ≡ seat → ⊥) → Legal setting before → Allowed setting before e → IsMine before seat m → f e ≡ None)
      → (newer : Past) → Legal setting (newer ++ past) → AreOthers seat newer → every f (newer ++ past) ≡ every f past
  every_since f none [] legal all = refl
  every_since f none (e ∷ newer) legal all =
      ap (λ o. every f (newer ++ past) ++ option_to_list o) (none e (newer ++ past) all.0 legal.0 legal.1 (started_still newer past m (λ b. IsManager b.kind × (b.seat ≡ seat)) mine))
      ∙ append-nil (every f (newer ++ past)) ∙ every_since f none newer legal.0 all.1

  module _ (newer : Past) (legal : Legal setting (newer ++ past)) (all : AreOthers seat newer) where
    pub still_mine : IsMine (newer ++ past) seat m
    still_mine = started_still newer past m (λ b. IsManager b.kind × (b.seat ≡ seat)) mine

    pub end_same : end (newer ++ past) m ≡ end past m
    end_same = earliest_since (λ e. end_in m e.event) (λ e before other law may own. others.no_end setting e before seat m other law may own) newer legal all

    pub children_same : children (newer ++ past) m ≡ children past m
    children_same = every_since (λ e. child_in m e.event) (λ e before other law may own. others.no_child setting e before seat m other law may own) newer legal all

    pub asks_same : asks (newer ++ past) m ≡ asks past m
    asks_same = every_since (λ e. ask_below m e.event) (λ e before other law may own. others.no_ask setting e before seat m other law may own) newer legal all

    module _ (c : Name) (child : is_child m c ≡ true) where
      pub access_end_same : end (newer ++ past) c ≡ end past c
      access_end_same = earliest_since (λ e. end_in c e.event) (λ e before other law may own. others.no_access_end setting e before seat m other law may own c child) newer legal all

      pub asked_same : asked (newer ++ past) c ≡ asked past c
      asked_same = earliest_since (λ e. ask_in c e.seat e.event) (λ e before other law may own. others.no_request setting e before seat m other law may own c child) newer legal all

      pub gone_same : gone (newer ++ past) c ≡ gone past c
      gone_same = earliest_since (λ e. gone_in c e.event) (λ e before other law may own. others.no_giving_up setting e before seat m other law may own c child) newer legal all

  -- the result of an access stays, and what is open has none
  pub result_same : (newer : Past) → Legal setting (newer ++ past) → AreOthers seat newer → (c : Name) → is_child m c ≡ true → result (newer ++ past) c ≡ result past c
  result_same [] legal all c child = refl
  result_same (e ∷ newer) legal all c child = by_end (end (newer ++ past) c) refl ∙ result_same newer legal.0 all.1 c child
    where
      still_own : IsMine (newer ++ past) seat m
      still_own = started_still newer past m (λ b. IsManager b.kind × (b.seat ≡ seat)) mine

      by_end : (o : Option How) → end (newer ++ past) c ≡ o → result (e ∷ newer ++ past) c ≡ result (newer ++ past) c
      by_end (Some how) is = others.result_stays setting e (newer ++ past) seat m all.0 legal.0 legal.1 still_own c child (ap is_some is)
      by_end None is =
          let none = ap (λ o. option_or o (end_in c e.event)) is ∙ others.no_access_end setting e (newer ++ past) seat m all.0 legal.0 legal.1 still_own c child in
          ap (λ o. result_by o (gone (e ∷ newer ++ past) c) (refused (e ∷ newer ++ past) c)) none
          ∙ sym (ap (λ o. result_by o (gone (newer ++ past) c) (refused (newer ++ past) c)) is)

  -- WHAT A MANAGER WAITS FOR

  pub older : (newer : Past) → Legal setting (newer ++ past) → Legal setting past
  older [] legal = legal
  older (e ∷ newer) legal = older newer legal.0

  module _ (newer : Past) (legal : Legal setting (newer ++ past)) (all : AreOthers seat newer) where
    open_same : (requests : List Ask) → AllByRecursion (IsOwn past m) requests → AllByRecursion (λ (ask : Ask). is_none (end (newer ++ past) ask.access) ≡ is_none (end past ask.access)) requests
    open_same [] own = tt
    open_same (a ∷ rest) own = (ap is_none (access_end_same newer legal all a.access own.0.child), open_same rest own.1)

    pub waiting_same : waiting (newer ++ past) m ≡ waiting past m
    waiting_same =
        ap (find (λ (ask : Ask). is_none (end (newer ++ past) ask.access))) (asks_same newer legal all)
        ∙ find_same (λ (ask : Ask). is_none (end (newer ++ past) ask.access)) (λ (ask : Ask). is_none (end past ask.access)) (asks past m) (open_same (asks past m) (asks_own setting past m (older newer legal)))

    -- the results of its requests are as they were
    results_of : (requests : List Ask) → AllByRecursion (IsOwn past m) requests → AllByRecursion (λ (ask : Ask). result (newer ++ past) ask.access ≡ result past ask.access) requests
    results_of [] own = tt
    results_of (a ∷ rest) own = (result_same newer legal all a.access own.0.child, results_of rest own.1)

    pub results_same : AllByRecursion (λ (ask : Ask). result (newer ++ past) ask.access ≡ result past ask.access) (asks past m)
    results_same = results_of (asks past m) (asks_own setting past m (older newer legal))

-- THE STAGE BY REQUESTS AND RESULTS

module _ (requests : List Ask) (results : Name → Option Result) where
  abbrev pub replies_by : List Tuple
  replies_by = filter_map (λ (ask : Ask). reply_of (results ask.access)) (filter (λ (ask : Ask). is_get ask.op) requests)

  abbrev pub has_by : Phase → ℕ → Bool
  has_by phase copy = list_any (λ (ask : Ask). (ask.copy == copy) && is_some (reply_of (results ask.access))) (filter (λ (ask : Ask). is_phase phase (phase_of ask.op)) requests)

-- the stage by the replies to its reads, and by who replied in each phase
abbrev pub enough_of : (Phase → ℕ → Bool) → Stage → Bool
enough_of has s = if s.writes then holds_write s.config (map (has s.phase) all_copies) else holds_read s.config (map (has s.phase) all_copies)

abbrev pub newest_of : List Tuple → Voting → Newest
newest_of tuples first = fold newer_of (record { generation = 0; config = first }) tuples

abbrev pub stage_of : List Tuple → (Phase → ℕ → Bool) → Voting → Kind → Option Stage
stage_of tuples has first k =
    if enough_of has (collecting (newest_of tuples first)) && is_last k (newest_of tuples first) (greatest_among tuples) then None
    else find (λ s. not (enough_of has s)) (stages_by k (newest_of tuples first) (greatest_among tuples))

module _ (r q : Name → Option Result) where
  abbrev pub Agree : List Ask → Type 0
  Agree requests = AllByRecursion (λ (ask : Ask). r ask.access ≡ q ask.access) requests

  pub kept : (p : Ask → Bool) (requests : List Ask) → Agree requests → Agree (filter p requests)
  kept p [] all = tt
  kept p (a ∷ rest) all = by_test (p a) (all.0, kept p rest all.1)
    where
      by_test : (b : Bool) → Agree (a ∷ filter p rest) → Agree (cond b (a ∷ filter p rest) (filter p rest))
      by_test true h = h
      by_test false h = h.1

  mapped : (requests : List Ask) → Agree requests → filter_map (λ (ask : Ask). reply_of (r ask.access)) requests ≡ filter_map (λ (ask : Ask). reply_of (q ask.access)) requests
  mapped [] all = refl
  mapped (a ∷ rest) all = ap₂ cons_option (ap reply_of all.0) (mapped rest all.1)

  any_same : (copy : ℕ) (requests : List Ask) → Agree requests
      → list_any (λ (ask : Ask). (ask.copy == copy) && is_some (reply_of (r ask.access))) requests ≡ list_any (λ (ask : Ask). (ask.copy == copy) && is_some (reply_of (q ask.access))) requests
  any_same copy [] all = refl
  any_same copy (a ∷ rest) all = ap₂ (λ (o : Option Result) (b : Bool). ((a.copy == copy) && is_some (reply_of o)) || b) all.0 (any_same copy rest all.1)

  pub replies_agree : (requests : List Ask) → Agree requests → replies_by requests r ≡ replies_by requests q
  replies_agree requests all = mapped (filter (λ (ask : Ask). is_get ask.op) requests) (kept (λ (ask : Ask). is_get ask.op) requests all)

  pub has_agree : (requests : List Ask) → Agree requests → (phase : Phase) (copy : ℕ) → has_by requests r phase copy ≡ has_by requests q phase copy
  has_agree requests all phase copy = any_same copy (filter (λ (ask : Ask). is_phase phase (phase_of ask.op)) requests) (kept (λ (ask : Ask). is_phase phase (phase_of ask.op)) requests all)

-- WHAT A MANAGER HAS LEARNT

module _ (setting : Setting) (past newer : Past) (seat : ℕ) (m : Name) (mine : IsMine past seat m) (legal : Legal setting (newer ++ past)) (all : AreOthers seat newer) where
  abbrev now : Past
  now = newer ++ past

  pub tuples_same : replies_by (asks now m) (result now) ≡ replies_by (asks past m) (result past)
  tuples_same = ap (λ requests. replies_by requests (result now)) (asks_same setting past seat m mine newer legal all) ∙ replies_agree (result now) (result past) (asks past m) (results_same setting past seat m mine newer legal all)

  pub has_same : has_by (asks now m) (result now) ≡ has_by (asks past m) (result past)
  has_same = ap (λ requests. has_by requests (result now)) (asks_same setting past seat m mine newer legal all)
      ∙ fun_ext (λ phase. fun_ext (λ copy. has_agree (result now) (result past) (asks past m) (results_same setting past seat m mine newer legal all) phase copy))
