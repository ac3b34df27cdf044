-- What stands in a history still stands in a later one.
use Rattle.std.proofs.Common.{◌≡◌, Bool, true, false, List, [], ◌∷◌, ◌++◌, refl, sym, ap, ◌∙◌, subst}
use mathlib.Core.Bool.{true≢false}
use Rattle.std.specs.Prelude.{Option, None, Some, MatchOption, cond, find}
use Rattle.std.specs.Option.{option_or}
use Rattle.qc_event.specs.Base.{Setting}
use Rattle.qc_event.specs.Dead.{ancestors, dead, outcome, outcome_of, is_aborted, is_committed}
use Rattle.qc_event.specs.History.{Past, Name, Begun, start, end, end_in}
use Rattle.qc_event.specs.Legal.{Legal}
use Rattle.qc_event.specs.Standing.{Started}
use Rattle.qc_event.specs.declared.event.Entry.{Entry}
use Rattle.qc_event.specs.declared.event.How.{How}
use Rattle.qc_event.proofs.Histories.{earliest-append}

-- what came before in a legal history is legal
pub earlier_legal : (setting : Setting) (later past : Past) → Legal setting (later ++ past) → Legal setting past
earlier_legal setting [] past legal = legal
earlier_legal setting (e ∷ later) past legal = earlier_legal setting later past legal.0

-- STARTS

pub start_still : (newer past : Past) (n : Name) (b : Begun) → start past n ≡ Some b → start (newer ++ past) n ≡ Some b
start_still newer past n b is = earliest-append _ newer past ∙ ap (λ o. option_or o (start newer n)) is

pub started_still : (newer past : Past) (n : Name) (P : Begun → Type 0) → Started past n P → Started (newer ++ past) n P
started_still newer past n P h = by_start (start past n) refl h
  where
    by_start : (o : Option Begun) → start past n ≡ o → MatchOption o ⊥ P → Started (newer ++ past) n P
    by_start None is h = absurd h
    by_start (Some b) is h = subst (λ o. MatchOption o ⊥ P) (sym (start_still newer past n b is)) h

-- OUTCOMES

-- of two ends what stands first counts
pub committed_first : (old new : Option How) → is_committed (outcome_of old) ≡ true → is_committed (outcome_of (option_or old new)) ≡ true
committed_first None new h = absurd (true≢false (sym h))
committed_first (Some how) new h = h

pub aborted_first : (old new : Option How) → is_aborted (outcome_of (option_or old new)) ≡ false → is_aborted (outcome_of old) ≡ false
aborted_first None new h = refl
aborted_first (Some how) new h = h

pub committed_stays : (e : Entry) (past : Past) (n : Name) → is_committed (outcome past n) ≡ true → is_committed (outcome (e ∷ past) n) ≡ true
committed_stays e past n h = committed_first (end past n) (end_in n e.event) h

pub committed_still : (later past : Past) (n : Name) → is_committed (outcome past n) ≡ true → is_committed (outcome (later ++ past) n) ≡ true
committed_still [] past n h = h
committed_still (e ∷ later) past n h = committed_stays e (later ++ past) n (committed_still later past n h)

-- who lives has lived before
pub alive_before : (later past : Past) (n : Name) → dead (later ++ past) n ≡ None → dead past n ≡ None
alive_before later past n = none_found (ancestors n)
  where
    before : (a : Name) → is_aborted (outcome (later ++ past) a) ≡ false → is_aborted (outcome past a) ≡ false
    before a h = aborted_first (end past a) _ (sym (ap (λ o. is_aborted (outcome_of o)) (earliest-append _ later past)) ∙ h)

    by_tests : (a : Name) (rest known : Option Name) (b c : Bool) → (b ≡ false → c ≡ false) → (rest ≡ None → known ≡ None) → cond b (Some a) rest ≡ None → cond c (Some a) known ≡ None
    by_tests a rest known true c step more none = absurd cc
    by_tests a rest known false true step more none = absurd (true≢false (step refl))
    by_tests a rest known false false step more none = more none

    none_found : (ns : List Name) → find (λ a. is_aborted (outcome (later ++ past) a)) ns ≡ None → find (λ a. is_aborted (outcome past a)) ns ≡ None
    none_found [] none = refl
    none_found (a ∷ ns) none = by_tests a _ _ (is_aborted (outcome (later ++ past) a)) (is_aborted (outcome past a)) (before a) (none_found ns) none
