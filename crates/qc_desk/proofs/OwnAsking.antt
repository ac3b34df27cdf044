-- What an access may ask by its client's own entries, it may ask after all that others entered, unless it is dead.
use Rattle.std.proofs.Common.{◌≡◌, ℕ, Bool, List, ◌++◌, sym, ap, ap₂, ◌∙◌, subst}
use Rattle.std.proofs.Math.Path.{fun_ext}
use Rattle.std.specs.Prelude.{Option, None, MatchOption, ◌&&◌, ◌==◌, nat_lt, find, filter, is_none}
use Rattle.std.specs.List.{AllByRecursion}
use Rattle.qc_config.specs.Config.{votes_of}
use Rattle.qc_config.specs.declared.tuple.Tuple.{Tuple}
use Rattle.qc_names.specs.Name as name
use Rattle.qc_event.specs.declared.event.Ask.{Ask}
use Rattle.qc_event.specs.declared.event.Event.TheVariants as event
use Rattle.qc_event.specs.declared.event.Kind.{Kind}
use Rattle.qc_event.specs.declared.event.Kind.TheVariants as kind
use Rattle.qc_event.specs.declared.event.Phase.{Phase}
use Rattle.qc_event.specs.Base.{Setting}
use Rattle.qc_event.specs.Dead.{dead}
use Rattle.qc_event.specs.History.{Past, Name, start, asks}
use Rattle.qc_event.specs.Legal.{Legal, Allowed}
use Rattle.qc_event.specs.Manager.{result, Stage, is_phase, phase_of, all_copies, stage, first_for, AtStage, waiting}
use Rattle.qc_event.specs.Requests.{IsNextAsk, MayAsk}
use Rattle.qc_event.specs.Standing.{IsManager, Started}
use Rattle.qc_event.proofs.LastNumber.{child_last, front_last}
use Rattle.qc_event.proofs.Later.{started_still}
use Rattle.qc_event.proofs.Lawful.{started_wider, started_some}
use Rattle.qc_event.proofs.Options.{match_wider}
use Rattle.qc_desk.specs.Entries.{AreOthers, entry}
use Rattle.qc_desk.specs.Own.{MayAskOwn}
use Rattle.qc_desk.proofs.OwnSince as since
use Rattle.qc_desk.proofs.OwnSince.{stage_of, replies_by, has_by, replies_agree, has_agree}

abbrev next_by : List Ask → Stage → Option ℕ
next_by requests s = find (λ copy. nat_lt 0 (votes_of s.config copy) && is_none (find (λ (ask : Ask). ask.copy == copy) (filter (λ (ask : Ask). is_phase s.phase (phase_of ask.op)) requests))) all_copies

-- a manager whose requests are the same, with the same results, asks the same next
pub at_stage_same : (setting : Setting) (before now : Past) (m : Name) (k : Kind) (ask : Ask) → asks now m ≡ asks before m
    → AllByRecursion (λ (a : Ask). result now a.access ≡ result before a.access) (asks before m)
    → AtStage setting before m k (IsNextAsk before m k ask) → AtStage setting now m k (IsNextAsk now m k ask)
at_stage_same setting before now m k ask same results at =
    let tuples : replies_by (asks now m) (result now) ≡ replies_by (asks before m) (result before) =
    ap (λ requests. replies_by requests (result now)) same ∙ replies_agree (result now) (result before) (asks before m) results in
    let has : has_by (asks now m) (result now) ≡ has_by (asks before m) (result before) =
    ap (λ requests. has_by requests (result now)) same ∙ fun_ext (λ phase. fun_ext (λ copy. has_agree (result now) (result before) (asks before m) results phase copy)) in
    let stages : stage now (first_for setting k) m k ≡ stage before (first_for setting k) m k =
    ap₂ (λ (t : List Tuple) (h : Phase → ℕ → Bool). stage_of t h (first_for setting k) k) tuples has in
    subst (λ o. MatchOption o ⊥ (IsNextAsk now m k ask)) (sym stages)
    (match_wider (stage before (first_for setting k) m k) (IsNextAsk before m k ask) (IsNextAsk now m k ask)
    (λ s next. record { next = ap (λ requests. next_by requests s) same ∙ next.next; same_record = next.same_record; same_op = next.same_op }) at)

module _ (setting : Setting) (past newer : Past) (seat : ℕ) (legal : Legal setting (newer ++ past)) (all : AreOthers seat newer) where
  abbrev now : Past
  now = newer ++ past

  -- THE REQUEST OF AN ACCESS: by its own entries, but for its death

  pub access_may_ask : (m : Name) (ask : Ask) → MayAskOwn setting past seat m ask → dead now ask.access ≡ None → Allowed setting now (entry seat (event.Ask ask))
  access_may_ask m ask may alive = asks_so
    where
      front : name.front ask.access ≡ m
      front = let l = child_last m ask.access may.child in ap name.front l.1 ∙ front_last m l.0

      asks_so : MayAsk setting now seat ask
      asks_so = record {
        by_client = may.by_client;
        started = started_still newer past ask.access (λ a. (a.seat ≡ seat) × (a.kind ≡ kind.Access)) may.started;
        manager_started = subst (λ x. Started now x (λ p. p.seat ≡ seat)) (sym front) (started_still newer past m (λ p. p.seat ≡ seat) (started_wider (λ p. IsManager p.kind × (p.seat ≡ seat)) (λ p. p.seat ≡ seat) (start past m) (λ p h. h.1) may.mine));
        going = record {
          is_open = record {
            started = started_some (λ a. (a.seat ≡ seat) × (a.kind ≡ kind.Access)) (start now ask.access) (started_still newer past ask.access (λ a. (a.seat ≡ seat) × (a.kind ≡ kind.Access)) may.started);
            not_ended = since.access_end_same setting past seat m may.mine newer legal all ask.access may.child ∙ may.is_open.not_ended;
          };
          alive = alive;
        };
        not_asked = since.asked_same setting past seat m may.mine newer legal all ask.access may.child ∙ may.not_asked;
        nothing_open = ap (waiting now) front ∙ since.waiting_same setting past seat m may.mine newer legal all ∙ may.nothing_open;
        of_stage = subst (λ x. Started now x (λ p. AtStage setting now x p.kind (IsNextAsk now x p.kind ask))) (sym front)
            (started_still newer past m (λ p. AtStage setting now m p.kind (IsNextAsk now m p.kind ask))
            (match_wider (start past m) (λ p. AtStage setting past m p.kind (IsNextAsk past m p.kind ask)) (λ p. AtStage setting now m p.kind (IsNextAsk now m p.kind ask))
            (λ p h. at_stage_same setting past now m p.kind ask (since.asks_same setting past seat m may.mine newer legal all) (since.results_same setting past seat m may.mine newer legal all) h) may.of_stage));
      }
