-- Why a manager fails at its stage, by what it was told there.
use Rattle.std.proofs.Common.{◌≡◌, ℕ, Bool, true, false, List, [], ◌∷◌, refl, sym, ap, ◌∙◌, arith, inl, inr}
use Rattle.std.specs.Prelude.{◌==◌, ◌&&◌, ◌||◌, not, nat_lt, cond, find, is_some, unwrap_or, Option, None, Some, MatchOption}
use Rattle.std.specs.List.{list_all}
use Rattle.std.specs.Option.{option_map, option_and_then}
use Rattle.std.proofs.lemmas.Bool.{and_cases, and_from, or_left, or_right, ltb-false, eq-eqb, not-false}
use Rattle.qc_config.specs.Config.{Voting, votes_of}
use Rattle.qc_event.specs.Aborts.{FailedByConflict, FailedByLack, IsBlockedThere, is_known}
use Rattle.qc_event.specs.Base.{Setting}
use Rattle.qc_event.specs.declared.event.Ask.{Ask}
use Rattle.qc_event.specs.declared.event.Kind.{Kind}
use Rattle.qc_event.specs.History.{Past, Name}
use Rattle.qc_event.specs.Manager.{Result, Replied, Missing, BlockedBy, Stage, HasFailed, result, reply_of, holder_of, missing_at, first_blocked, all_copies, stage, first_for}
use Rattle.qc_event.proofs.OneEntry.{some_or_none}
use Rattle.qc_event.proofs.Found.{found_passes}
use Rattle.qc_managers.specs.Told.{Told, holder_in, why_in, was_asked, replied_by, missing_in, blocked_in, next_in, lack_in}
use Rattle.qc_managers.specs.declared.shortage.Shortage.{Shortage}
use Rattle.qc_managers.specs.declared.shortage.Shortage.TheVariants as shortage
use Rattle.qc_managers.specs.Heard.{block_in, conflict, shortage_in}
use Rattle.qc_managers.specs.Answered.{told_in, EachTold}
use Rattle.qc_managers.specs.Managed.{ManagerIsRefused, no_of}
use Rattle.qc_managers.specs.Going.{MayGoOn}
use Rattle.qc_managers.proofs.Lists.{SameBlocked}
use Rattle.qc_managers.proofs.Known.{map_agree, has_replied-told, replied-told, missing-told, next_copy-told, blocked-told, waiting-told}
use Rattle.qc_managers.proofs.Stages.{at_stage}

-- EACH COPY IS KNOWN

-- where none is blocked, a copy that was asked replied or is missing
pub known_in : (told : List Told) (copy : ℕ) → blocked_in told ≡ None → was_asked told copy ≡ true → (replied_by told copy || is_some (missing_in told copy)) ≡ true
known_in [] copy free asked = absurd cc
known_in (t ∷ told) copy free asked = step t.result (t.copy == copy) free asked (known_in told copy)
  where
    step : (r : Result) (b : Bool) → cond (is_some (holder_of (Some r))) (Some t) (blocked_in told) ≡ None → (b || was_asked told copy) ≡ true → (blocked_in told ≡ None → was_asked told copy ≡ true → (replied_by told copy || is_some (missing_in told copy)) ≡ true) → ((b && is_some (reply_of (Some r)) || replied_by told copy) || is_some (option_and_then why_in (cond b (Some (record { copy = t.copy; result = r })) (find (λ (u : Told). u.copy == copy) told)))) ≡ true
    step (Replied tuple) true free asked below = refl
    step (Replied tuple) false free asked below = below free asked
    step (Missing why) true free asked below = or_right (replied_by told copy) true refl
    step (Missing why) false free asked below = below free asked
    step (BlockedBy holder) b free asked below = absurd cc

pub found_none : (b : Bool) (x : ℕ) (rest : Option ℕ) → cond b (Some x) rest ≡ None → (b ≡ false) × (rest ≡ None)
found_none true x rest is = absurd cc
found_none false x rest is = (refl, is)

-- where none of a list passes a test, all pass another
none_passes : (p q : ℕ → Bool) → ((x : ℕ) → p x ≡ false → q x ≡ true) → (xs : List ℕ) → find p xs ≡ None → list_all q xs ≡ true
none_passes p q so [] is = refl
none_passes p q so (x ∷ xs) is =
    let parts = found_none (p x) x (find p xs) is in
    and_from (q x) (list_all q xs) (so x parts.0) (none_passes p q so xs parts.1)

known_copy : (config : Voting) (told : List Told) (copy : ℕ) → blocked_in told ≡ None → (nat_lt 0 (votes_of config copy) && not (was_asked told copy)) ≡ false → ((votes_of config copy == 0) || replied_by told copy || is_some (missing_in told copy)) ≡ true
known_copy config told copy free out = elim (and_cases (nat_lt 0 (votes_of config copy)) (not (was_asked told copy)) out) [
  | inl none ↦ let zero : votes_of config copy ≡ 0 = omega (arith, ltb-false 0 (votes_of config copy) none) in or_left _ _ (or_left _ _ (eq-eqb (votes_of config copy) 0 zero))
  | inr asked ↦ either (votes_of config copy == 0) (replied_by told copy) (is_some (missing_in told copy)) (known_in told copy free (not-false (was_asked told copy) asked))
]
  where
    either : (a b c : Bool) → (b || c) ≡ true → (a || b || c) ≡ true
    either true b c h = refl
    either false b c h = h

all_known : (past : Past) (m : Name) (s : Stage) → EachTold past m → blocked_in (told_in past m s.phase) ≡ None → next_in s.config (told_in past m s.phase) ≡ None → list_all (is_known past m s) all_copies ≡ true
all_known past m s each free none =
    none_passes (λ copy. nat_lt 0 (votes_of s.config copy) && not (was_asked (told_in past m s.phase) copy)) (is_known past m s) (λ copy out.
    ap (λ b. (votes_of s.config copy == 0) || b || is_some (missing_at past m s.phase copy)) (has_replied-told past m s.phase copy)
    ∙ ap (λ o. (votes_of s.config copy == 0) || replied_by (told_in past m s.phase) copy || is_some o) (missing-told past m s.phase copy each)
    ∙ known_copy s.config (told_in past m s.phase) copy free out) all_copies none

-- THE CAUSE

module _ (past : Past) (m : Name) (s : Stage) (each : EachTold past m) (none : next_in s.config (told_in past m s.phase) ≡ None) where
  failed : HasFailed past m s
  failed = record { no_copy = next_copy-told past m s each ∙ none; nothing_open = waiting-told past m each }

  -- the cause that a shortage names
  abbrev pub FailedBy : Shortage → Type 0
  FailedBy (shortage.Conflict copy holder) = FailedByConflict past m copy holder s
  FailedBy (shortage.NoQuorum lack) = FailedByLack past m lack s

  there : (t : Told) (holder : Name) (asked : Option Ask) → holder_in t ≡ Some holder → SameBlocked (result past) (Some t) asked → MatchOption asked ⊥ (IsBlockedThere past t.copy holder)
  there t holder None is same = absurd same
  there t holder (Some ask) is same = record { there = same.0; holder = same.1 ∙ is }

  by_first : (first : Option Told) → blocked_in (told_in past m s.phase) ≡ first → SameBlocked (result past) first (first_blocked past m s.phase) → FailedBy (unwrap_or (option_map conflict (option_and_then block_in first)) (shortage.NoQuorum (lack_in s.phase (told_in past m s.phase))))
  by_first None is same =
      record {
        failed = failed;
        none_blocked = same;
        each_known = all_known past m s each is none;
        same_phase = refl;
        who_replied = sym (replied-told past m s.phase);
        who_is_missing = map_agree (missing_in (told_in past m s.phase)) (missing_at past m s.phase) (λ copy. sym (missing-told past m s.phase copy each)) all_copies;
      }
  by_first (Some t) is same = by_holder (holder_in t) refl
    where
      by_holder : (o : Option Name) → holder_in t ≡ o → FailedBy (unwrap_or (option_map conflict (option_map (λ holder. (t.copy, holder)) o)) (shortage.NoQuorum (lack_in s.phase (told_in past m s.phase))))
      by_holder None none_there = absurd (some_or_none (holder_in t) (found_passes (λ (u : Told). is_some (holder_in u)) (told_in past m s.phase) t is) none_there)
      by_holder (Some holder) here = record { failed = failed; first = there t holder (first_blocked past m s.phase) here same }

-- A manager that is short at its stage may end for the cause that is named.
pub refused_short : (setting : Setting) (seat : ℕ) (past : Past) (m : Name) (k : Kind) (s : Stage) → MayGoOn seat past m k → stage past (first_for setting k) m k ≡ Some s → next_in s.config (told_in past m s.phase) ≡ None → ManagerIsRefused setting seat past m k (no_of (shortage_in s.phase (told_in past m s.phase)))
refused_short setting seat past m k s goes at none =
    by_cause (shortage_in s.phase (told_in past m s.phase)) (by_first past m s goes.each_told none (blocked_in (told_in past m s.phase)) refl (blocked-told past m s.phase))
  where
    by_cause : (short : Shortage) → FailedBy past m s goes.each_told none short → ManagerIsRefused setting seat past m k (no_of short)
    by_cause (shortage.Conflict copy holder) h = record { running = goes.running; licensed = at_stage (stage past (first_for setting k) m k) s (FailedByConflict past m copy holder) at h; shortest = tt }
    by_cause (shortage.NoQuorum lack) h = record { running = goes.running; licensed = at_stage (stage past (first_for setting k) m k) s (FailedByLack past m lack) at h; shortest = tt }
