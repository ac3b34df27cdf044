-- What a manager asks next goes to a copy that there is, for a record of the table, and puts a configuration for
-- as many copies.
use Rattle.std.proofs.Common.{◌≡◌, ℕ, ◌<◌, Bool, true, false, [], length, refl, sym, subst, arith}
use Rattle.std.specs.Prelude.{Option, None, Some, MatchOption, if◌then◌else◌, not, ◌&&◌, nat_lt, is_none}
use Rattle.std.specs.List.{AllByRecursion}
use Rattle.std.proofs.lemmas.Bool.{and_parts, ltb-true}
use Rattle.qc_config.specs.Config.{Voting, votes_of, no_config}
use Rattle.qc_event.specs.declared.event.Ask.{Ask}
use Rattle.qc_event.specs.declared.event.Kind.{Kind}
use Rattle.qc_event.specs.declared.event.Kind.TheVariants as kind
use Rattle.qc_event.specs.Base.{Setting, start_tuple, no_tuple, first_of, IsProper}
use Rattle.qc_event.specs.History.{Past, Name}
use Rattle.qc_event.specs.Legal.{Legal}
use Rattle.qc_event.specs.Manager.{Stage, Newest, Greatest, stages_by, stages, stage, is_enough, at_last_number, newest, greatest, ask_at, first_for, AtStage}
use Rattle.qc_event.specs.Requests.{IsNextAsk}
use Rattle.qc_event.specs.Standing.{IsManager}
use Rattle.qc_event.proofs.Found.{found_holds, found_range, has_place}
use Rattle.qc_event.proofs.KindFits.{KindFits, record_fits}
use Rattle.qc_event.proofs.SizedConfigs.{IsSized, OpSized, newest_sized}

-- STAGES

-- what a stage counts and asks is for this many copies
abbrev StageSized : ℕ → Stage → Type 0
StageSized size s = (length s.config.votes ≡ size) × OpSized size s.op

stages_sized : (setting : Setting) (k : Kind) (now : Newest) (best : Greatest) → KindFits setting k → length now.config.votes ≡ length setting.base → AllByRecursion (StageSized (length setting.base)) (stages_by k now best)
stages_sized setting (kind.Read rec) now best fits here = ((here, tt), tt)
stages_sized setting (kind.Write rec value) now best fits here = ((here, tt), ((here, tt), tt))
stages_sized setting (kind.Reconf rec config) now best fits here = ((here, tt), ((fits.1, tt), ((here, fits.1), tt)))
stages_sized setting (kind.User session body) now best fits here = tt
stages_sized setting kind.Access now best fits here = tt

not_last : {X : Type 0} (b : Bool) (o : Option X) (x : X) → (if b then None else o) ≡ Some x → o ≡ Some x
not_last true o x is = absurd cc
not_last false o x is = is

-- what holds of each stage of a manager holds of the one at which it is
pub stage_holds : (P : Stage → Type 0) (past : Past) (first : Voting) (m : Name) (k : Kind) (s : Stage) → AllByRecursion P (stages past first m k) → stage past first m k ≡ Some s → P s
stage_holds P past first m k s all is = found_holds P (λ x. not (is_enough past m x)) (stages past first m k) s all (not_last (at_last_number past first m k) _ s is)

stage_sized : (setting : Setting) (past : Past) (m : Name) (k : Kind) (s : Stage) → Legal setting past → KindFits setting k → length (first_for setting k).votes ≡ length setting.base → stage past (first_for setting k) m k ≡ Some s → StageSized (length setting.base) s
stage_sized setting past m k s legal fits here =
    stage_holds (StageSized (length setting.base)) past (first_for setting k) m k s
    (stages_sized setting k (newest past (first_for setting k) m) (greatest past m) fits (newest_sized setting past (first_for setting k) m legal here))

-- A request fits the table.
pub record AskFits (setting : Setting) (ask : Ask) : Type 0 where
  pub below : ask.copy < 16
  pub is_copy : ask.copy < length setting.base
  pub is_record : ask.rec < length setting.firsts
  pub sized : OpSized (length setting.base) ask.op

-- the copy that is asked next is one of sixteen
pub ask_below : (setting : Setting) (past : Past) (m : Name) (k : Kind) (ask : Ask) → AtStage setting past m k (IsNextAsk past m k ask) → ask.copy < 16
ask_below setting past m k ask at = by_stage (stage past (first_for setting k) m k) at
  where
    by_stage : (o : Option Stage) → MatchOption o ⊥ (IsNextAsk past m k ask) → ask.copy < 16
    by_stage None next = absurd next
    by_stage (Some s) next = omega (arith, (found_range (λ copy. nat_lt 0 (votes_of s.config copy) && is_none (ask_at past m s.phase copy)) 0 16 ask.copy next.next).0)

pub ask_fits : (setting : Setting) (past : Past) (m : Name) (k : Kind) (ask : Ask) → Legal setting past → IsManager k → KindFits setting k → length (first_for setting k).votes ≡ length setting.base → AtStage setting past m k (IsNextAsk past m k ask) → AskFits setting ask
ask_fits setting past m k ask legal manager fits here at = by_stage (stage past (first_for setting k) m k) refl at
  where
    by_stage : (o : Option Stage) → stage past (first_for setting k) m k ≡ o → MatchOption o ⊥ (IsNextAsk past m k ask) → AskFits setting ask
    by_stage None is next = absurd next
    by_stage (Some s) is next =
        let sized = stage_sized setting past m k s legal fits here is in
        let within = found_range (λ copy. nat_lt 0 (votes_of s.config copy) && is_none (ask_at past m s.phase copy)) 0 16 ask.copy next.next in
        let place = has_place s.config.votes ask.copy (ltb-true 0 (votes_of s.config ask.copy) (and_parts _ _ within.1).0) in
        record {
          below = omega (arith, within.0);
          is_copy = omega (arith, place, sized.0);
          is_record = subst (λ r. r < length setting.firsts) (sym next.same_record) (record_fits setting k manager fits);
          sized = subst (OpSized (length setting.base)) (sym next.same_op) sized.1;
        }

-- PROPER SETTINGS

module _ (setting : Setting) (proper : IsProper setting) where
  -- the start tuple of a copy and a record is for as many copies
  pub start_sized : (copy rec : ℕ) → copy < length setting.base → rec < length setting.firsts → IsSized (length setting.base) (start_tuple setting.base copy rec)
  start_sized copy rec is_copy is_record =
      let row = proper.base.rows copy [] is_copy in
      (row.configs rec no_tuple (omega (arith, row.same_records))).for_copies

  -- and so is a record's first configuration
  pub first_sized : (rec : ℕ) → rec < length setting.firsts → length (first_of setting rec).votes ≡ length setting.base
  first_sized rec is_record = (proper.firsts rec no_config is_record).for_copies
