-- Once a manager's next access has started, it may ask by its client's own entries, whatever others entered before the start.
use Rattle.std.proofs.Common.{◌≡◌, ℕ, ◌+◌, Bool, true, false, List, [], ◌∷◌, ◌++◌, ◌<◌, length, arith, refl, sym, ap, ◌∙◌, subst, append-nil}
use Rattle.std.specs.Prelude.{None, Some, IsTrue, cond, is_some, is_none, find, if◌then◌else◌}
use Rattle.std.specs.List.{AllByRecursion}
use Rattle.std.specs.Option.{option_or}
use Rattle.qc_config.specs.declared.tuple.Op.{Op}
use Rattle.qc_names.specs.Name as name
use Rattle.qc_event.specs.declared.event.Ask.{Ask}
use Rattle.qc_event.specs.declared.event.Event.TheVariants as event
use Rattle.qc_event.specs.declared.event.Kind.TheVariants as kind
use Rattle.qc_event.specs.Base.{Setting}
use Rattle.qc_event.specs.History.{Past, Name, same, start, end, asked, gone, refused, asks, children, is_child}
use Rattle.qc_event.specs.Legal.{Legal}
use Rattle.qc_event.specs.Manager.{result, AtStage, waiting}
use Rattle.qc_event.specs.Requests.{IsNextAsk}
use Rattle.qc_event.specs.Seats.{is_client}
use Rattle.qc_event.specs.Standing.{IsManager, open_child}
use Rattle.qc_event.proofs.Absent.{same_itself}
use Rattle.qc_event.proofs.LastNumber.{front_last, is_child-last}
use Rattle.qc_event.proofs.Later.{earlier_legal, started_still}
use Rattle.qc_event.proofs.Lawful.{Lawful, lawful}
use Rattle.qc_event.proofs.LegalOrderly.{legal_orderly}
use Rattle.qc_event.proofs.Lineage.{IsFresh, fresh_child}
use Rattle.qc_event.proofs.OneEntry.{no_child_passes}
use Rattle.qc_event.proofs.Options.{match_some, still}
use Rattle.qc_event.proofs.OwnRequests.{IsOwn, asks_own}
use Rattle.qc_managers.specs.Carrying.{MayCarry, next_ask, entry}
use Rattle.qc_event.proofs.Starting.{manager_name}
use Rattle.qc_desk.specs.Entries.{AreOthers}
use Rattle.qc_desk.specs.Own.{IsMine, MayAskOwn}
use Rattle.qc_desk.proofs.OwnAsking.{at_stage_same}
use Rattle.qc_desk.proofs.OwnSince as since
use Rattle.qc_carry.proofs.Unheard as unheard
use Rattle.qc_carry.proofs.Walks as walks

-- REQUESTS

none_found : {X : Type 0} (p : X → Bool) (xs : List X) → AllByRecursion (λ x. p x ≡ false) xs → find p xs ≡ None
none_found p [] all = refl
none_found p (x ∷ xs) all = ap (λ b. cond b (Some x) (find p xs)) all.0 ∙ none_found p xs all.1

-- a manager without an open child waits for nothing
waits_for_none : (setting : Setting) (past : Past) (m : Name) → Legal setting past → open_child past m ≡ None → waiting past m ≡ None
waits_for_none setting past m legal closed = none_found (λ (ask : Ask). is_none (end past ask.access)) (asks past m) (each_ended (asks past m) (asks_own setting past m legal))
  where
    each_ended : (requests : List Ask) → AllByRecursion (IsOwn past m) requests → AllByRecursion (λ (ask : Ask). is_none (end past ask.access) ≡ false) requests
    each_ended [] all = tt
    each_ended (a ∷ rest) all = (no_child_passes (λ c. is_none (end past c)) past m a.access all.0.child all.0.started closed, each_ended rest all.1)

-- WHAT MAY BE CARRIED

module _ (setting : Setting) (seat : ℕ) (seen : Past) (m : Name) (copy rec : ℕ) (op : Op) (client : IsTrue (is_client seat)) (may : MayCarry setting seat seen m copy rec op) where
  pub mine : IsMine seen seat m
  mine = match_some (start seen m) (λ b. IsManager b.kind × (b.seat ≡ seat)) _ may.running.started (may.manages, refl)

  module _ (newer : Past) (legal : Legal setting (newer ++ seen)) (all : AreOthers seat newer) where
    abbrev q : Ask
    q = next_ask seen m copy rec op

    abbrev before : Past
    before = newer ++ seen

    abbrev begun : Past
    begun = entry seat (event.Start q.access kind.Access) ∷ before

    law : Lawful before
    law = lawful before (legal_orderly setting before legal)

    seen_legal : Legal setting seen
    seen_legal = earlier_legal setting newer seen legal

    pos : 0 < length m
    pos = let named = manager_name setting seen m _ seen_legal may.running.started may.manages in let two = named.below_a_top in omega (arith, two)

    -- its next child is the same
    pub same_next : m ++ (length (children before m) + 1) ∷ [] ≡ q.access
    same_next = ap (λ (cs : List Name). m ++ (length cs + 1) ∷ []) (since.children_same setting seen seat m mine newer legal all)

    fresh : IsFresh before q.access
    fresh = fresh_child before m (length (children seen m) + 1) [] law pos
        (let cs = since.children_same setting seen seat m mine newer legal all in omega (arith, ap length cs))

    front : name.front q.access ≡ m
    front = front_last m (length (children seen m) + 1)

    child : is_child m q.access ≡ true
    child = is_child-last m (length (children seen m) + 1)

    still_mine : IsMine begun seat m
    still_mine = started_still (entry seat (event.Start q.access kind.Access) ∷ newer) seen m (λ b. IsManager b.kind × (b.seat ≡ seat)) mine

    access_started : start begun q.access ≡ Some (record { seat = seat; kind = kind.Access })
    access_started = ap (λ o. option_or o (if same q.access q.access then Some (record { seat = seat; kind = kind.Access }) else None)) fresh.no_start
        ∙ ap (λ (b : Bool). if b then Some (record { seat = seat; kind = kind.Access }) else None) (same_itself q.access)

    asks_begun : asks begun m ≡ asks seen m
    asks_begun = append-nil (asks before m) ∙ since.asks_same setting seen seat m mine newer legal all

    results_begun : (cs : List Ask) → AllByRecursion (λ (a : Ask). result before a.access ≡ result seen a.access) cs → AllByRecursion (λ (a : Ask). result begun a.access ≡ result seen a.access) cs
    results_begun [] h = tt
    results_begun (a ∷ cs) h = (
      walks.result_same before begun a.access (still (end before a.access)) (still (gone before a.access)) (still (refused before a.access)) ∙ h.0,
      results_begun cs h.1,
    )

    waiting_begun : waiting begun m ≡ None
    waiting_begun =
        ap (find (λ (a : Ask). is_none (end begun a.access))) (append-nil (asks before m))
        ∙ since.find_same (λ (a : Ask). is_none (end begun a.access)) (λ (a : Ask). is_none (end before a.access)) (asks before m) (each (asks before m))
        ∙ since.waiting_same setting seen seat m mine newer legal all
        ∙ waits_for_none setting seen m seen_legal may.running.children_ended
      where
        each : (cs : List Ask) → AllByRecursion (λ (a : Ask). is_none (end begun a.access) ≡ is_none (end before a.access)) cs
        each [] = tt
        each (a ∷ cs) = (ap is_none (still (end before a.access)), each cs)

    pub may_ask : MayAskOwn setting begun seat (name.front q.access) q
    may_ask = subst (λ x. MayAskOwn setting begun seat x q) (sym front) (record {
      by_client = client;
      child = child;
      mine = still_mine;
      started = match_some (start begun q.access) (λ a. (a.seat ≡ seat) × (a.kind ≡ kind.Access)) _ access_started (refl, refl);
      is_open = record { started = ap is_some access_started; not_ended = still (end before q.access) ∙ fresh.no_end };
      not_asked = still (asked before q.access) ∙ unheard.not_asked setting q.access before legal fresh.no_start;
      nothing_open = waiting_begun;
      of_stage = started_still (entry seat (event.Start q.access kind.Access) ∷ newer) seen m (λ b. AtStage setting begun m b.kind (IsNextAsk begun m b.kind q))
          (match_some (start seen m) (λ b. AtStage setting begun m b.kind (IsNextAsk begun m b.kind q)) _ may.running.started
          (at_stage_same setting seen begun m may.kind q asks_begun (results_begun (asks seen m) (since.results_same setting seen seat m mine newer legal all)) may.of_stage));
    })
