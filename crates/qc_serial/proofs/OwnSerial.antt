-- In the serial order of a live transaction its own events are those of the history.
use Rattle.std.proofs.Common.{◌≡◌, ℕ, ◌<◌, Bool, true, false, [], ◌∷◌, ◌++◌, length, refl, sym, ap, ◌∙◌, arith, append-nil}
use mathlib.Core.Bool.{true≢false}
use Rattle.std.specs.Prelude.{Option, None, Some, is_some, is_none, ◌&&◌, cond, if◌then◌else◌, flat_map}
use Rattle.std.proofs.lemmas.List.Elements.{filter-append}
use Rattle.qc_event.specs.declared.event.How.{How}
use Rattle.qc_event.specs.declared.event.How.TheVariants.{Commit, Abort}
use Rattle.qc_event.specs.History.{Past, Name, start, end}
use Rattle.qc_event.specs.Dead.{outcome_of, is_committed, is_aborted, ancestors, dead}
use Rattle.qc_event.proofs.Orderly.{Orderly}
use Rattle.qc_event.proofs.LastNumber.{length_last, ancestors-last, append_next, by_last}
use Rattle.qc_event.proofs.Lawful.{lawful, started_some, parent_started}
use Rattle.qc_event.proofs.Lineage.{dead_parent, alive_not_aborted}
use Rattle.qc_serial.specs.Walk.{walk, entering, is_open_or_root, visits, serialise}
use Rattle.qc_serial.specs.Own.{is_own, own, own_past}
use Rattle.qc_serial.specs.Serial.{IsUserOf}
use Rattle.qc_serial.proofs.Ancestors.{visits_more}
use Rattle.qc_serial.proofs.OwnInside.{all_committed, own_inside}

-- the order of a child is its parent's, and then what the child does so far
pub serialise-last : (past : Past) (p : Name) (j : ℕ) → serialise past (p ++ j ∷ []) ≡ serialise past p ++ visits past ((p ++ j ∷ []) ∷ [])
serialise-last past p j = ap (visits past) (ancestors-last p j) ∙ visits_more past (ancestors p) (p ++ j ∷ [])

visit_if : (past : Past) (n : Name) (b : Bool) → is_open_or_root past n ≡ b → visits past (n ∷ []) ≡ (if b then entering n ++ walk past n else [])
visit_if past n true is = ap (λ c. flat_map (λ a. entering a ++ walk past a) (cond c (n ∷ []) [])) is ∙ append-nil (entering n ++ walk past n)
visit_if past n false is = ap (λ c. flat_map (λ a. entering a ++ walk past a) (cond c (n ∷ []) [])) is

open_test : (past : Past) (n : Name) → 0 < length n → is_open_or_root past n ≡ (is_some (start past n) && is_none (end past n))
open_test past [] pos = absurd (omega arith)
open_test past (x ∷ n) pos = refl

own_entering : (t n : Name) → own t (entering n) ≡ []
own_entering t [] = refl
own_entering t (x ∷ n) = refl

-- a name that has not ended is visited
pub visit_open : (past : Past) (n : Name) → 0 < length n → is_some (start past n) ≡ true → end past n ≡ None → visits past (n ∷ []) ≡ entering n ++ walk past n
visit_open past n pos began going = visit_if past n true (open_test past n pos ∙ ap (λ b. b && is_none (end past n)) began ∙ ap is_none going)

-- one that has is not
pub visit_ended : (past : Past) (n : Name) (how : How) → 0 < length n → is_some (start past n) ≡ true → end past n ≡ Some how → visits past (n ∷ []) ≡ []
visit_ended past n how pos began gone = visit_if past n false (open_test past n pos ∙ ap (λ b. b && is_none (end past n)) began ∙ ap is_none gone)

-- the order of a live name above the transaction has its own events where all between them have committed
abbrev HasOwn : Past → Name → Type 0
HasOwn past n = (r t : Name) → t ≡ n ++ r → (0 < length n → is_some (start past n) ≡ true) → dead past n ≡ None → own t (serialise past n) ≡ (if all_committed past n r then own_past t past else [])

module _ (past : Past) (orderly : Orderly past) where
  at_root : HasOwn past []
  at_root r t whole began alive = ap (own t) (append-nil (walk past [])) ∙ own_inside past orderly [] r t whole

  one_lower : (p : Name) (j : ℕ) → HasOwn past p → HasOwn past (p ++ j ∷ [])
  one_lower p j above r t whole began alive =
      ap (own t) (serialise-last past p j)
      ∙ filter-append (is_own t) (serialise past p) (visits past ((p ++ j ∷ []) ∷ []))
      ∙ ap (λ es. es ++ own t (visits past ((p ++ j ∷ []) ∷ []))) (above (j ∷ r) t (whole ∙ sym (append_next p j r)) parent_began (dead_parent past p j alive))
      ∙ by_end (end past (p ++ j ∷ [])) refl
    where
      here : is_some (start past (p ++ j ∷ [])) ≡ true
      here = began (omega (arith, length_last p j))

      parent_began : 0 < length p → is_some (start past p) ≡ true
      parent_began pos = parent_started past p j (lawful past orderly) pos here

      by_end : (o : Option How) → end past (p ++ j ∷ []) ≡ o → (if all_committed past p (j ∷ r) then own_past t past else []) ++ own t (visits past ((p ++ j ∷ []) ∷ [])) ≡ (if all_committed past (p ++ j ∷ []) r then own_past t past else [])
      by_end None is =
          ap (λ o. (if is_committed (outcome_of o) && all_committed past (p ++ j ∷ []) r then own_past t past else []) ++ own t (visits past ((p ++ j ∷ []) ∷ []))) is
          ∙ ap (own t) (visit_open past (p ++ j ∷ []) (omega (arith, length_last p j)) here is)
          ∙ filter-append (is_own t) (entering (p ++ j ∷ [])) (walk past (p ++ j ∷ []))
          ∙ ap (λ es. es ++ own t (walk past (p ++ j ∷ []))) (own_entering t (p ++ j ∷ []))
          ∙ own_inside past orderly (p ++ j ∷ []) r t whole
      by_end (Some (Commit given)) is =
          ap (λ es. (if all_committed past p (j ∷ r) then own_past t past else []) ++ own t es) (visit_ended past (p ++ j ∷ []) (Commit given) (omega (arith, length_last p j)) here is)
          ∙ append-nil (if all_committed past p (j ∷ r) then own_past t past else [])
          ∙ ap (λ o. if is_committed (outcome_of o) && all_committed past (p ++ j ∷ []) r then own_past t past else []) is
      by_end (Some (Abort cause)) is = absurd (true≢false (sym (ap (λ o. is_aborted (outcome_of o)) is) ∙ alive_not_aborted past (p ++ j ∷ []) alive))

  own_above : (n : Name) → HasOwn past n
  own_above n = by_last (HasOwn past) at_root one_lower n

-- so in the order of a started name that is not dead
pub own_started : (past : Past) (t : Name) → Orderly past → (0 < length t → is_some (start past t) ≡ true) → dead past t ≡ None → own t (serialise past t) ≡ own_past t past
own_started past t orderly began alive = own_above past orderly t [] t (sym (append-nil t)) began alive

user_started : (past : Past) (t : Name) → IsUserOf past t → 0 < length t → is_some (start past t) ≡ true
user_started past [] user pos = absurd (omega arith)
user_started past (x ∷ t) user pos = started_some _ (start past (x ∷ t)) user

pub own_serial : (past : Past) (t : Name) → Orderly past → IsUserOf past t → dead past t ≡ None → own t (serialise past t) ≡ own_past t past
own_serial past t orderly user alive = own_started past t orderly (user_started past t user) alive
