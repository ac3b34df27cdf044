-- What a client ran that had made nothing before is all that it made, and who made nothing has begun any script.
use Rattle.std.proofs.Common.{◌≡◌, ℕ, ◌+◌, true, List, [], ◌∷◌, ◌++◌, refl, sym, ap, ◌∙◌, subst, append-nil}
use Rattle.std.specs.List.{list_all}
use Rattle.std.proofs.lemmas.List.Elements.{filter-append}
use Rattle.qc_event.specs.declared.event.Entry.{Entry}
use Rattle.qc_event.specs.History.{Past, children}
use Rattle.qc_script.specs.Client.{Client, mine, is_own}
use Rattle.qc_script.specs.Numbers.{each, own_next}
use Rattle.qc_script.specs.Calls.{is_over}
use Rattle.qc_script.specs.Plan.{Numbered, SessionPlan}
use Rattle.qc_interp.specs.Adding.{is_of_one, own_after, starts_for, stays_in, AllStayIn}
use Rattle.qc_interp.specs.Reach.{Reach}
use Rattle.qc_interp.specs.Session.{tops, AreUnderIts, EndsTopsAt, InTurnAt}
use Rattle.qc_interp.specs.Turns.{is_alone, is_under, takes_turn}
use Rattle.qc_interp.specs.FollowsScript.{EachRuns, BeginsScript}
use Rattle.qc_interp.proofs.Sessions.TopsRun.{none_begun}
use Rattle.qc_interp.proofs.Scopes.Adding.{after_stay, numbers_stay}

module _ (c : Client) (before now : Past) (none : mine c before ≡ []) where
  tops_none : tops c before ≡ []
  tops_none = ap (λ h. children h []) none

  pub ends_from_start : (reach : Reach) (bodies : List Numbered) → EndsTopsAt reach c before now bodies → EndsTopsAt reach c [] now bodies
  ends_from_start reach bodies ends = λ ours.
      let e = ends ours in
      (e.0, e.1 ∙ ap (λ l. l ++ e.0) tops_none, e.2, (e.3.0, e.3.1 ∙ ap (λ h. e.3.0 ++ h) none, e.3.2))

  stay : AllStayIn c [] before
  stay = ap (list_all (stays_in [])) none

  pub turns_from_start : (reach : Reach) → InTurnAt reach c before now → InTurnAt reach c [] now
  turns_from_start reach ran = record {
    made = ran.made;
    more = ran.more ∙ ap (λ l. l ++ ran.made) tops_none;
    later = record { newer = now; grown = sym (append-nil now); legal = ran.later.legal };
    inside = ap (list_all (is_of_one ran.made)) all_mine ∙ ran.inside;
    of_session = ap (list_all (starts_for c.session)) all_mine ∙ ran.of_session;
    numbers = λ was. ran.numbers (subst (λ h. each (own_next c) h ≡ true) (append-nil before) (numbers_stay c [] before [] stay refl));
    order = λ ours was over. ran.order ours (subst (λ h. each (own_after c) h ≡ true) (append-nil before) (after_stay c [] before [] stay refl)) (ap (list_all (is_over before)) tops_none);
    seats = λ was. ran.seats under;
    turns = λ ours unders was alone. ran.turns ours under (ap (λ h. each takes_turn h) none) (ap (λ h. is_alone h []) none);
  }
    where
      under : AreUnderIts c before
      under = ap (list_all (is_under (mine c before) c.number)) tops_none

      all_mine : mine c now ≡ mine c ran.later.newer
      all_mine = ap (mine c) ran.later.grown ∙ filter-append (λ (e : Entry). is_own c e.seat) ran.later.newer before ∙ ap (λ h. mine c ran.later.newer ++ h) none ∙ append-nil (mine c ran.later.newer)

-- WHERE NO ONE MADE ANYTHING

each_begins : (session patience : ℕ) (sessions : List SessionPlan) → EachRuns Reach.cut_off session patience sessions []
each_begins session patience [] = tt
each_begins session patience (s ∷ sessions) = (
  record { bodies_run = none_begun session [] s.tops; in_turn = record { turns = refl; in_order = refl }; messages = refl },
  each_begins (session + 1) patience sessions,
)

-- The empty history is a beginning of any script.
pub begins_none : (epoch patience : ℕ) (sessions : List SessionPlan) → BeginsScript epoch patience sessions []
begins_none epoch patience sessions = record {
  only = refl;
  each_runs = each_begins 0 patience sessions;
  own_seats = refl;
  numbers = refl;
  as_asked = λ n by is. absurd cc;
  each_settled = tt;
}
