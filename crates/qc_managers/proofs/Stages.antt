-- The stage at which a manager is, and what it asks there.
use Rattle.std.proofs.Common.{◌≡◌, ℕ, Bool, true, false, List, [], ◌∷◌, ◌++◌, refl, sym, ap, ◌∙◌, subst}
use Rattle.std.specs.Prelude.{cond, not, ◌&&◌, find, All, IsTrue, if◌then◌else◌, Option, None, Some, MatchOption}
use Rattle.std.specs.List.{AllByRecursion}
use Rattle.std.proofs.lemmas.List.Elements.{recursion_from_All, All-from_recursion}
use Rattle.qc_config.specs.Config.{Voting, holds_read, holds_write}
use Rattle.qc_event.specs.Base.{Setting}
use Rattle.qc_event.specs.declared.event.Kind.{Kind}
use Rattle.qc_event.specs.declared.event.Kind.TheVariants as kind
use Rattle.qc_event.specs.declared.event.Phase.{Phase}
use Rattle.qc_event.specs.declared.event.Phase.TheVariants.{Collect}
use Rattle.qc_event.specs.History.{Past, Name}
use Rattle.qc_event.specs.Manager.{Stage, collecting, newest, greatest, is_phase, is_enough, is_last, stages_by, stages, stage, at_last_number, record_of, first_for}
use Rattle.qc_event.specs.Standing.{IsManager}
use Rattle.qc_managers.specs.Carrying.{MayCarry}
use Rattle.qc_managers.specs.Told.{newest_in, greatest_in, replied_in, next_in}
use Rattle.qc_managers.specs.Answered.{told_in}
use Rattle.qc_managers.specs.Going.{MayGoOn, SameElsewhere, HasReached}
use Rattle.qc_managers.proofs.Known.{newest-told, greatest-told, replied-told, next_copy-told}

-- whether copies hold a stage's quorum
abbrev pub enough_by : Stage → List Bool → Bool
enough_by s copies = if s.writes then holds_write s.config copies else holds_read s.config copies

pub is_enough-told : (past : Past) (m : Name) (s : Stage) → is_enough past m s ≡ enough_by s (replied_in (told_in past m s.phase))
is_enough-told past m s = ap (enough_by s) (replied-told past m s.phase)

-- WHAT STAYS

module _ (before now : Past) (m : Name) (phase : Phase) (same : SameElsewhere before now m phase) where
  pub enough_stays : (s : Stage) → is_phase s.phase phase ≡ false → is_enough now m s ≡ is_enough before m s
  enough_stays s apart = is_enough-told now m s ∙ ap (λ told. enough_by s (replied_in told)) (same s.phase apart) ∙ sym (is_enough-told before m s)

  module _ (first : Voting) (k : Kind) (after : is_phase Collect phase ≡ false) where
    pub newest_stays : newest now first m ≡ newest before first m
    newest_stays = newest-told now first m ∙ ap (newest_in first) (same Collect after) ∙ sym (newest-told before first m)

    pub greatest_stays : greatest now m ≡ greatest before m
    greatest_stays = greatest-told now m ∙ ap greatest_in (same Collect after) ∙ sym (greatest-told before m)

    pub stages_stay : stages now first m k ≡ stages before first m k
    stages_stay = ap (λ n. stages_by k n (greatest now m)) newest_stays ∙ ap (stages_by k (newest before first m)) greatest_stays

    pub last_stays : at_last_number now first m k ≡ at_last_number before first m k
    last_stays =
        ap (λ b. b && is_last k (newest now first m) (greatest now m)) (enough_stays (collecting (newest now first m)) after)
        ∙ ap (λ n. is_enough before m (collecting n) && is_last k n (greatest now m)) newest_stays
        ∙ ap (λ g. is_enough before m (collecting (newest before first m)) && is_last k (newest before first m) g) greatest_stays

-- what is true of each of two lists of stages at once
each_stays : (P Q R : Stage → Type 0) → ((s : Stage) → P s → Q s → R s) → (xs : List Stage) → AllByRecursion P xs → AllByRecursion Q xs → AllByRecursion R xs
each_stays P Q R step [] ps qs = tt
each_stays P Q R step (x ∷ xs) ps qs = (step x ps.0 qs.0, each_stays P Q R step xs ps.1 qs.1)

all_stays : (P Q R : Stage → Type 0) → ((s : Stage) → P s → Q s → R s) → (xs : List Stage) → All P xs → All Q xs → All R xs
all_stays P Q R step xs ps qs = All-from_recursion R xs (each_stays P Q R step xs (recursion_from_All P xs ps) (recursion_from_All Q xs qs))

-- stages in other phases that were enough are so
pub each_enough_stays : (before now : Past) (m : Name) (phase : Phase) → SameElsewhere before now m phase → (xs : List Stage) → All (λ e. IsTrue (is_enough before m e)) xs → All (λ (e : Stage). is_phase e.phase phase ≡ false) xs → All (λ e. IsTrue (is_enough now m e)) xs
each_enough_stays before now m phase same =
    all_stays (λ e. IsTrue (is_enough before m e)) (λ (e : Stage). is_phase e.phase phase ≡ false) (λ e. IsTrue (is_enough now m e)) (λ e enough apart. enough_stays before now m phase same e apart ∙ enough)

-- a stage that is reached stays so while its manager is told more in its phase
pub reached_stays : (before now : Past) (first : Voting) (m : Name) (k : Kind) (s : Stage) → SameElsewhere before now m s.phase → is_phase Collect s.phase ≡ false → HasReached before first m k s → HasReached now first m k s
reached_stays before now first m k s same after h =
    record {
      earlier = h.earlier;
      later = h.later;
      among = stages_stay before now m s.phase same first k after ∙ h.among;
      enough = each_enough_stays before now m s.phase same h.earlier h.enough h.apart;
      apart = h.apart;
      not_last = last_stays before now m s.phase same first k after ∙ h.not_last;
    }

-- THE STAGE

find_first : (p : Stage → Bool) (earlier : List Stage) (s : Stage) (later : List Stage) → AllByRecursion (λ e. p e ≡ false) earlier → p s ≡ true → find p (earlier ++ s ∷ later) ≡ Some s
find_first p [] s later none here = ap (λ b. cond b (Some s) (find p later)) here
find_first p (e ∷ earlier) s later none here = ap (λ b. cond b (Some e) (find p (earlier ++ s ∷ later))) none.0 ∙ find_first p earlier s later none.1 here

each_not : (past : Past) (m : Name) (xs : List Stage) → AllByRecursion (λ e. IsTrue (is_enough past m e)) xs → AllByRecursion (λ e. not (is_enough past m e) ≡ false) xs
each_not past m [] h = tt
each_not past m (x ∷ xs) h = (ap not h.0, each_not past m xs h.1)

-- a stage that is reached, and is not enough, is the manager's
pub stage_at : (past : Past) (first : Voting) (m : Name) (k : Kind) (s : Stage) → HasReached past first m k s → is_enough past m s ≡ false → stage past first m k ≡ Some s
stage_at past first m k s h short =
    ap (λ b. if b then None else find (λ e. not (is_enough past m e)) (stages past first m k)) h.not_last
    ∙ ap (find (λ e. not (is_enough past m e))) h.among
    ∙ find_first (λ e. not (is_enough past m e)) h.earlier s h.later (each_not past m h.earlier (recursion_from_All (λ e. IsTrue (is_enough past m e)) h.earlier h.enough)) (ap not short)

short_first : (b l : Bool) (s : Stage) (rest : Option Stage) → b ≡ false → (if b && l then None else cond (not b) (Some s) rest) ≡ Some s
short_first b l s rest short = ap (λ c. if c && l then None else cond (not c) (Some s) rest) short

-- a manager that has not collected enough is collecting
pub collects : (past : Past) (first : Voting) (m : Name) (k : Kind) → IsManager k → is_enough past m (collecting (newest past first m)) ≡ false → stage past first m k ≡ Some (collecting (newest past first m))
collects past first m (kind.Read rec) manages short = short_first (is_enough past m (collecting (newest past first m))) _ _ _ short
collects past first m (kind.Write rec value) manages short = short_first (is_enough past m (collecting (newest past first m))) _ _ _ short
collects past first m (kind.Reconf rec config) manages short = short_first (is_enough past m (collecting (newest past first m))) _ _ _ short
collects past first m _ manages short = absurd manages

-- what holds at a manager's stage
pub at_stage : (o : Option Stage) (s : Stage) (P : Stage → Type 0) → o ≡ Some s → P s → MatchOption o ⊥ P
at_stage o s P is h = subst (λ x. MatchOption x ⊥ P) (sym is) h

-- what is asked next at its stage may be carried
pub may_carry : (setting : Setting) (seat : ℕ) (past : Past) (m : Name) (k : Kind) (s : Stage) (copy : ℕ) → IsManager k → MayGoOn seat past m k → stage past (first_for setting k) m k ≡ Some s → next_in s.config (told_in past m s.phase) ≡ Some copy → MayCarry setting seat past m copy (record_of k) s.op
may_carry setting seat past m k s copy manages goes is next =
    record {
      kind = k;
      manages = manages;
      running = goes.running;
      of_stage = at_stage (stage past (first_for setting k) m k) s _ is (record { next = next_copy-told past m s goes.each_told ∙ next; same_record = refl; same_op = refl });
    }
