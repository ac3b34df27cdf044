-- A manager after its collection: it comes from stage to stage, and after the last it may commit.
use Rattle.std.proofs.Common.{◌≡◌, ℕ, true, false, List, [], ◌∷◌, ◌++◌, refl, sym, ap, ◌∙◌, subst, append_assoc}
use Rattle.std.specs.Prelude.{not, All, IsTrue}
use Rattle.std.specs.List.{list_all}
use Rattle.std.proofs.lemmas.Bool.{and_right, and_from}
use Rattle.std.proofs.lemmas.List.Elements.{All-append, All-from_recursion}
use Rattle.std.proofs.lemmas.List.Sums.{list_all-from_AllPass}
use Rattle.qc_config.specs.Config.{Voting}
use Rattle.qc_event.specs.Commits.{manager_answer}
use Rattle.qc_event.specs.declared.event.Answer.{Answer}
use Rattle.qc_event.specs.declared.event.Kind.{Kind}
use Rattle.qc_event.specs.declared.event.Phase.{Phase}
use Rattle.qc_event.specs.declared.event.Phase.TheVariants.{Collect, Values, Configs}
use Rattle.qc_event.specs.History.{Past, Name, children, asks}
use Rattle.qc_event.specs.Legal.{Legal}
use Rattle.qc_event.specs.Manager.{Stage, collecting, newest, greatest, is_enough, is_last, is_phase, phase_of, at_last_number, stages, record_of, first_for}
use Rattle.qc_event.specs.Standing.{IsManager}
use Rattle.qc_managers.specs.Carrying.{CarrierView, IsRunning}
use Rattle.qc_managers.specs.Gathered.{Gathered}
use Rattle.qc_managers.specs.declared.no.MgrNo.{MgrNo}
use Rattle.qc_managers.specs.declared.no.MgrNo.TheVariants as mgr
use Rattle.qc_managers.specs.Answered.{told_in}
use Rattle.qc_managers.specs.Going.{HasServed, HasCollected, MayPut, HasPut}
use Rattle.qc_managers.specs.Managed.{IsAnswered, ManagerIsRefused}
use Rattle.qc_managers.specs.Undisturbed.{IsUndisturbed, IsShortage}
use Rattle.qc_managers.proofs.Answered.{kind_or, kind_at, nothing_asked, nothing_told}
use Rattle.qc_managers.proofs.Served.{served_further}
use Rattle.qc_managers.proofs.Stages.{each_enough_stays, stages_stay, last_stays}
use Rattle.qc_managers.proofs.Undisturbed.{undisturbed_since}

-- the kind of a manager that runs is that with which it was started
pub kind_is : (seat : ℕ) (past : Past) (m : Name) (k : Kind) → IsRunning seat past m k → kind_at past m ≡ k
kind_is seat past m k running = ap kind_or running.started

-- AFTER THE COLLECTION

-- a manager that has collected, between the carrier where it began and the carrier now
pub record HasGathered (a now : CarrierView) (m : Name) (k : Kind) (kept : Gathered) : Type 0 where
  pub manages : IsManager k
  pub served : HasServed m a now
  pub collected : HasCollected a.seat a.seen now.seen m k (first_for a.setting k) kept
  pub nothing_asked : asks a.seen m ≡ []

-- what was collected by a first configuration is so by its equal
pub collected_by : (seat : ℕ) (before now : Past) (m : Name) (k : Kind) (f first : Voting) (kept : Gathered) → f ≡ first → HasCollected seat before now m k f kept → HasCollected seat before now m k first kept
collected_by seat before now m k f first kept by h = subst (λ x. HasCollected seat before now m k x kept) by h

-- what was collected for the kind with which it was started, by the first configuration that it was given
pub has_gathered : (a now : CarrierView) (m : Name) (k : Kind) (f : Voting) (kept : Gathered) → Legal a.setting a.seen → IsManager k → IsRunning a.seat a.seen m k → children a.seen m ≡ [] → f ≡ first_for a.setting k → HasServed m a now → HasCollected a.seat a.seen now.seen m (kind_at a.seen m) f kept → HasGathered a now m k kept
has_gathered a now m k f kept legal manages running none by served h =
    record {
      manages = manages;
      served = served;
      collected = collected_by a.seat a.seen now.seen m k f (first_for a.setting k) kept by (subst (λ x. HasCollected a.seat a.seen now.seen m x f kept) (kind_is a.seat a.seen m k running) h);
      nothing_asked = nothing_asked a.setting a.seen m legal none;
    }

-- A manager has come to a stage, with these before it and these after.
pub record IsAtStage (a now : CarrierView) (m : Name) (k : Kind) (earlier : List Stage) (s : Stage) (later : List Stage) : Type 0 where
  pub served : HasServed m a now
  pub may : MayPut a.setting a.seat now.seen m k (record_of k) s
  pub before_it : may.reached.earlier ≡ earlier
  pub after_it : may.reached.later ≡ later

apart_back : (p : Phase) → is_phase Collect p ≡ false → is_phase p Collect ≡ false
apart_back Collect apart = apart
apart_back Values apart = refl
apart_back Configs apart = refl

module _ (a now : CarrierView) (m : Name) (k : Kind) (kept : Gathered) (h : HasGathered a now m k kept) where
  abbrev first : Voting
  first = first_for a.setting k

  abbrev here : Stage
  here = collecting (newest now.seen first m)

  -- its number is at the last one
  pub at_last : is_last k (newest now.seen first m) (greatest now.seen m) ≡ true → ManagerIsRefused a.setting a.seat now.seen m k mgr.Last
  at_last last = record { running = h.collected.goes_on.running; licensed = and_from (is_enough now.seen m here) _ h.collected.enough last; shortest = tt }

  -- the stage after the collection
  pub at_first : (s : Stage) (later : List Stage) → is_last k (newest now.seen first m) (greatest now.seen m) ≡ false → stages now.seen first m k ≡ here ∷ s ∷ later → is_phase Collect s.phase ≡ false → s.phase ≡ phase_of s.op → IsAtStage a now m k (here ∷ []) s later
  at_first s later not_last among after of_phase =
      record {
        served = h.served;
        may = record {
          manages = h.manages;
          goes_on = h.collected.goes_on;
          same_record = refl;
          reached = record {
            earlier = here ∷ [];
            later = later;
            among = among;
            enough = All-from_recursion (λ e. IsTrue (is_enough now.seen m e)) (here ∷ []) (h.collected.enough, tt);
            apart = All-from_recursion (λ (e : Stage). is_phase e.phase s.phase ≡ false) (here ∷ []) (after, tt);
            not_last = and_right (is_enough now.seen m here) _ not_last;
          };
          after = after;
          of_phase = of_phase;
          nothing_told = h.collected.elsewhere s.phase (apart_back s.phase after) ∙ nothing_told a.seen m s.phase h.nothing_asked;
        };
        before_it = refl;
        after_it = refl;
      }

-- FROM STAGE TO STAGE

module _ (a now : CarrierView) (m : Name) (k : Kind) (earlier : List Stage) (s : Stage) (later : List Stage) (h : IsAtStage a now m k earlier s later) where
  -- it may put there, for the kind with which it was started
  pub may_put : MayPut now.setting now.seat now.seen m (kind_at now.seen m) (record_of k) s
  may_put =
      subst (λ x. MayPut x now.seat now.seen m (kind_at now.seen m) (record_of k) s) (sym h.served.setting)
      (subst (λ x. MayPut a.setting x now.seen m (kind_at now.seen m) (record_of k) s) (sym h.served.seat)
      (subst (λ x. MayPut a.setting a.seat now.seen m x (record_of k) s) (sym (kind_is a.seat now.seen m k h.may.goes_on.running)) h.may))

  -- where it is refused there, it is so by the carrier where it began
  pub refused_there : (past : Past) (why : MgrNo) → ManagerIsRefused now.setting now.seat past m (kind_at now.seen m) why → ManagerIsRefused a.setting a.seat past m k why
  refused_there past why refused =
      subst (λ x. ManagerIsRefused x a.seat past m k why) h.served.setting
      (subst (λ x. ManagerIsRefused now.setting x past m k why) h.served.seat
      (subst (λ x. ManagerIsRefused now.setting now.seat past m x why) (kind_is a.seat now.seen m k h.may.goes_on.running) refused))

  -- where it came to no answer there, and nothing disturbed it, memory or room was wanting
  pub complete_there : (past : Past) (troubles : ℕ) (why : MgrNo) → (IsUndisturbed now.setting past m (kind_at now.seen m) now.troubles troubles → IsShortage why) → IsUndisturbed a.setting past m k a.troubles troubles → IsShortage why
  complete_there past troubles why complete u =
      complete (subst (λ x. IsUndisturbed now.setting past m x now.troubles troubles) (sym (kind_is a.seat now.seen m k h.may.goes_on.running))
      (undisturbed_since a.setting now.setting past m k a.troubles now.troubles troubles h.served.setting h.served.later u))

  -- it has put enough there
  module _ (then : CarrierView) (did : HasPut now.seat now.seen then.seen m (kind_at now.seen m) s) where
    put : HasPut a.seat now.seen then.seen m k s
    put =
        subst (λ x. HasPut x now.seen then.seen m k s) h.served.seat
        (subst (λ x. HasPut now.seat now.seen then.seen m x s) (kind_is a.seat now.seen m k h.may.goes_on.running) did)

    among : stages then.seen (first_for a.setting k) m k ≡ h.may.reached.earlier ++ s ∷ h.may.reached.later
    among = stages_stay now.seen then.seen m s.phase put.elsewhere (first_for a.setting k) k h.may.after ∙ h.may.reached.among

    enough : All (λ e. IsTrue (is_enough then.seen m e)) (h.may.reached.earlier ++ s ∷ [])
    enough =
        All-append (λ e. IsTrue (is_enough then.seen m e)) h.may.reached.earlier (s ∷ [])
        (each_enough_stays now.seen then.seen m s.phase put.elsewhere h.may.reached.earlier h.may.reached.enough h.may.reached.apart)
        (All-from_recursion (λ e. IsTrue (is_enough then.seen m e)) (s ∷ []) (put.enough, tt))

    not_last : at_last_number then.seen (first_for a.setting k) m k ≡ false
    not_last = last_stays now.seen then.seen m s.phase put.elsewhere (first_for a.setting k) k h.may.after ∙ h.may.reached.not_last

    -- it comes to the next stage
    pub at_next : HasServed m now then → (t : Stage) (rest : List Stage) → later ≡ t ∷ rest → is_phase Collect t.phase ≡ false → t.phase ≡ phase_of t.op → All (λ (e : Stage). is_phase e.phase t.phase ≡ false) (earlier ++ s ∷ []) → told_in then.seen m t.phase ≡ [] → IsAtStage a then m k (earlier ++ s ∷ []) t rest
    at_next served t rest next after of_phase apart untold =
        record {
          served = served_further m a now then h.served served;
          may = record {
            manages = h.may.manages;
            goes_on = put.goes_on;
            same_record = refl;
            reached = record {
              earlier = h.may.reached.earlier ++ s ∷ [];
              later = rest;
              among = among ∙ ap (λ xs. h.may.reached.earlier ++ s ∷ xs) (h.after_it ∙ next) ∙ sym (append_assoc h.may.reached.earlier (s ∷ []) (t ∷ rest));
              enough = enough;
              apart = subst (λ xs. All (λ (e : Stage). is_phase e.phase t.phase ≡ false) (xs ++ s ∷ [])) (sym h.before_it) apart;
              not_last = not_last;
            };
            after = after;
            of_phase = of_phase;
            nothing_told = untold;
          };
          before_it = ap (λ xs. xs ++ s ∷ []) h.before_it;
          after_it = refl;
        }

    -- after the last stage it may commit
    pub may_commit : later ≡ [] → (given : Answer) → given ≡ manager_answer then.seen (first_for a.setting k) m k → IsAnswered a.setting a.seat then.seen m k given
    may_commit none given is =
        record {
          running = put.goes_on.running;
          complete = and_from (not (at_last_number then.seen (first_for a.setting k) m k)) (list_all (is_enough then.seen m) (stages then.seen (first_for a.setting k) m k)) (ap not not_last)
              (ap (list_all (is_enough then.seen m)) (among ∙ ap (λ xs. h.may.reached.earlier ++ s ∷ xs) (h.after_it ∙ none)) ∙ list_all-from_AllPass (is_enough then.seen m) (h.may.reached.earlier ++ s ∷ []) enough);
          answers = is;
        }
