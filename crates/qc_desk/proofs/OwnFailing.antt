-- For what a manager may be aborted by what was seen, it may be aborted after all that others entered.
use Rattle.std.proofs.Common.{◌≡◌, ℕ, Bool, true, false, List, [], ◌∷◌, ◌++◌, refl, sym, ap, ap₂, ◌∙◌, subst}
use Rattle.std.proofs.Math.Path.{fun_ext}
use Rattle.std.specs.Prelude.{Option, Some, MatchOption, ◌==◌, ◌||◌, ◌&&◌, nat_lt, cond, find, filter, map, is_some, is_none}
use Rattle.std.specs.List.{AllByRecursion, list_all}
use Rattle.std.specs.Option.{option_and_then}
use Rattle.qc_config.specs.Config.{votes_of}
use Rattle.qc_config.specs.declared.tuple.Tuple.{Tuple}
use Rattle.qc_event.specs.declared.event.Ask.{Ask}
use Rattle.qc_event.specs.declared.event.Cause.{Cause}
use Rattle.qc_event.specs.declared.event.Cause.TheVariants as cause
use Rattle.qc_event.specs.declared.event.Kind.{Kind}
use Rattle.qc_event.specs.declared.event.Lack.{Lack}
use Rattle.qc_event.specs.declared.event.Phase.{Phase}
use Rattle.qc_event.specs.declared.event.Why.{Why}
use Rattle.qc_event.specs.Aborts.{ManagerCause, FailedByConflict, FailedByLack, IsBlockedThere}
use Rattle.qc_event.specs.Base.{Setting}
use Rattle.qc_event.specs.History.{Past, Name, asks}
use Rattle.qc_event.specs.Legal.{Legal}
use Rattle.qc_event.specs.Manager.{Result, result, Stage, HasFailed, AtStage, stage, collecting, is_last, greatest_among, at_last_number, first_for, first_blocked, holder_of, why_of, is_phase, phase_of, all_copies}
use Rattle.qc_desk.specs.Entries.{AreOthers}
use Rattle.qc_desk.specs.Own.{IsMine}
use Rattle.qc_event.proofs.Options.{match_wider}
use Rattle.qc_desk.proofs.Lasting.{orphan_stays}
use Rattle.qc_desk.proofs.OwnSince as since
use Rattle.qc_desk.proofs.OwnSince.{Agree, kept, find_same, stage_of, enough_of, newest_of}

-- BY REQUESTS AND RESULTS

abbrev of_phase : Phase → List Ask → List Ask
of_phase phase requests = filter (λ (ask : Ask). is_phase phase (phase_of ask.op)) requests

abbrev next_by : List Ask → Stage → Option ℕ
next_by requests s = find (λ copy. nat_lt 0 (votes_of s.config copy) && is_none (find (λ (ask : Ask). ask.copy == copy) (of_phase s.phase requests))) all_copies

abbrev missing_by : List Ask → (Name → Option Result) → Phase → ℕ → Option Why
missing_by requests results phase copy = option_and_then (λ (ask : Ask). why_of (results ask.access)) (find (λ (ask : Ask). ask.copy == copy) (of_phase phase requests))

abbrev blocked_by_results : List Ask → (Name → Option Result) → Phase → Option Ask
blocked_by_results requests results phase = find (λ (ask : Ask). is_some (holder_of (results ask.access))) (of_phase phase requests)

abbrev known_by : (Phase → ℕ → Bool) → (Phase → ℕ → Option Why) → Stage → Bool
known_by has missing s = list_all (λ copy. (votes_of s.config copy == 0) || has s.phase copy || is_some (missing s.phase copy)) all_copies

module _ (r q : Name → Option Result) where
  missing_found : (p : Ask → Bool) (requests : List Ask) → Agree r q requests → option_and_then (λ (ask : Ask). why_of (r ask.access)) (find p requests) ≡ option_and_then (λ (ask : Ask). why_of (q ask.access)) (find p requests)
  missing_found p [] all = refl
  missing_found p (a ∷ rest) all = by_test (p a) (missing_found p rest all.1)
    where
      by_test : (b : Bool) → option_and_then (λ (ask : Ask). why_of (r ask.access)) (find p rest) ≡ option_and_then (λ (ask : Ask). why_of (q ask.access)) (find p rest)
          → option_and_then (λ (ask : Ask). why_of (r ask.access)) (cond b (Some a) (find p rest)) ≡ option_and_then (λ (ask : Ask). why_of (q ask.access)) (cond b (Some a) (find p rest))
      by_test true below = ap why_of all.0
      by_test false below = below

  tests_alike : (requests : List Ask) → Agree r q requests → AllByRecursion (λ (ask : Ask). is_some (holder_of (r ask.access)) ≡ is_some (holder_of (q ask.access))) requests
  tests_alike [] all = tt
  tests_alike (a ∷ rest) all = (ap (λ o. is_some (holder_of o)) all.0, tests_alike rest all.1)

  -- what holds of the one that is found, where the results are the same
  found_there : (copy : ℕ) (h : Name) (p : Ask → Bool) (requests : List Ask) → Agree r q requests → MatchOption (find p requests) ⊥ (λ (ask : Ask). (ask.copy ≡ copy) × (holder_of (q ask.access) ≡ Some h))
      → MatchOption (find p requests) ⊥ (λ (ask : Ask). (ask.copy ≡ copy) × (holder_of (r ask.access) ≡ Some h))
  found_there copy h p [] all there = there
  found_there copy h p (a ∷ rest) all there = by_test (p a) (found_there copy h p rest all.1) there
    where
      by_test : (b : Bool) → (MatchOption (find p rest) ⊥ (λ (ask : Ask). (ask.copy ≡ copy) × (holder_of (q ask.access) ≡ Some h)) → MatchOption (find p rest) ⊥ (λ (ask : Ask). (ask.copy ≡ copy) × (holder_of (r ask.access) ≡ Some h)))
          → MatchOption (cond b (Some a) (find p rest)) ⊥ (λ (ask : Ask). (ask.copy ≡ copy) × (holder_of (q ask.access) ≡ Some h))
          → MatchOption (cond b (Some a) (find p rest)) ⊥ (λ (ask : Ask). (ask.copy ≡ copy) × (holder_of (r ask.access) ≡ Some h))
      by_test true below here = (here.0, ap holder_of all.0 ∙ here.1)
      by_test false below here = below here

-- A MANAGER OF ONE'S OWN

module _ (setting : Setting) (past newer : Past) (seat : ℕ) (m : Name) (mine : IsMine past seat m) (legal : Legal setting (newer ++ past)) (all : AreOthers seat newer) where
  abbrev now : Past
  now = newer ++ past

  asks_same : asks now m ≡ asks past m
  asks_same = since.asks_same setting past seat m mine newer legal all

  agree : (phase : Phase) → Agree (result now) (result past) (of_phase phase (asks past m))
  agree phase = kept (result now) (result past) (λ (ask : Ask). is_phase phase (phase_of ask.op)) (asks past m) (since.results_same setting past seat m mine newer legal all)

  stage_same : (k : Kind) → stage now (first_for setting k) m k ≡ stage past (first_for setting k) m k
  stage_same k = ap₂ (λ (t : List Tuple) (h : Phase → ℕ → Bool). stage_of t h (first_for setting k) k) (since.tuples_same setting past newer seat m mine legal all) (since.has_same setting past newer seat m mine legal all)

  last_same : (k : Kind) → at_last_number now (first_for setting k) m k ≡ at_last_number past (first_for setting k) m k
  last_same k = ap₂ (λ (t : List Tuple) (h : Phase → ℕ → Bool). enough_of h (collecting (newest_of t (first_for setting k))) && is_last k (newest_of t (first_for setting k)) (greatest_among t))
      (since.tuples_same setting past newer seat m mine legal all) (since.has_same setting past newer seat m mine legal all)

  first_same : (phase : Phase) → first_blocked now m phase ≡ first_blocked past m phase
  first_same phase = ap (λ requests. blocked_by_results requests (result now) phase) asks_same
      ∙ find_same _ _ (of_phase phase (asks past m)) (tests_alike (result now) (result past) (of_phase phase (asks past m)) (agree phase))

  missing_same : missing_by (asks now m) (result now) ≡ missing_by (asks past m) (result past)
  missing_same = ap (λ requests. missing_by requests (result now)) asks_same
      ∙ fun_ext (λ phase. fun_ext (λ copy. missing_found (result now) (result past) (λ (ask : Ask). ask.copy == copy) (of_phase phase (asks past m)) (agree phase)))

  failed_still : (s : Stage) → HasFailed past m s → HasFailed now m s
  failed_still s h = record { no_copy = ap (λ requests. next_by requests s) asks_same ∙ h.no_copy; nothing_open = since.waiting_same setting past seat m mine newer legal all ∙ h.nothing_open }

  conflict_still : (copy : ℕ) (h : Name) (s : Stage) → FailedByConflict past m copy h s → FailedByConflict now m copy h s
  conflict_still copy h s f = record { failed = failed_still s f.failed; first = subst (λ o. MatchOption o ⊥ (IsBlockedThere now copy h)) (sym (first_same s.phase)) there }
    where
      pairs : MatchOption (first_blocked past m s.phase) ⊥ (λ (ask : Ask). (ask.copy ≡ copy) × (holder_of (result past ask.access) ≡ Some h))
      pairs = match_wider (first_blocked past m s.phase) (IsBlockedThere past copy h) (λ (ask : Ask). (ask.copy ≡ copy) × (holder_of (result past ask.access) ≡ Some h)) (λ ask b. (b.there, b.holder)) f.first

      there : MatchOption (first_blocked past m s.phase) ⊥ (IsBlockedThere now copy h)
      there = match_wider (first_blocked past m s.phase) (λ (ask : Ask). (ask.copy ≡ copy) × (holder_of (result now ask.access) ≡ Some h)) (IsBlockedThere now copy h) (λ ask b. record { there = b.0; holder = b.1 })
          (found_there (result now) (result past) copy h (λ (ask : Ask). is_some (holder_of (result past ask.access))) (of_phase s.phase (asks past m)) (agree s.phase) pairs)

  lack_still : (lack : Lack) (s : Stage) → FailedByLack past m lack s → FailedByLack now m lack s
  lack_still lack s f = record {
    failed = failed_still s f.failed;
    none_blocked = first_same s.phase ∙ f.none_blocked;
    each_known = ap₂ (λ (h : Phase → ℕ → Bool) (w : Phase → ℕ → Option Why). known_by h w s) (since.has_same setting past newer seat m mine legal all) missing_same ∙ f.each_known;
    same_phase = f.same_phase;
    who_replied = f.who_replied ∙ sym (ap (λ (h : Phase → ℕ → Bool). map (h s.phase) all_copies) (since.has_same setting past newer seat m mine legal all));
    who_is_missing = f.who_is_missing ∙ sym (ap (λ (w : Phase → ℕ → Option Why). map (w s.phase) all_copies) missing_same);
  }

  at_stage : (k : Kind) (P Q : Stage → Type 0) → ((s : Stage) → P s → Q s) → AtStage setting past m k P → AtStage setting now m k Q
  at_stage k P Q step h = subst (λ o. MatchOption o ⊥ Q) (sym (stage_same k)) (match_wider (stage past (first_for setting k) m k) P Q step h)

  pub cause_stays : (k : Kind) (c : Cause) → ManagerCause setting past m k c → ManagerCause setting now m k c
  cause_stays k (cause.Conflict copy h) licensed = at_stage k (FailedByConflict past m copy h) (FailedByConflict now m copy h) (conflict_still copy h) licensed
  cause_stays k (cause.NoQuorum lack) licensed = at_stage k (FailedByLack past m lack) (FailedByLack now m lack) (lack_still lack) licensed
  cause_stays k cause.Last licensed = last_same k ∙ licensed
  cause_stays k (cause.Orphan a) licensed = orphan_stays newer past m a licensed
  cause_stays k (cause.Asked by) licensed = absurd licensed
  cause_stays k cause.Killed licensed = absurd licensed
  cause_stays k (cause.Child x) licensed = absurd licensed
  cause_stays k cause.Missed licensed = absurd licensed
