-- What a test for tops in doubt says of a history, and what follows where there is none.
use Rattle.std.proofs.Common.{◌≡◌, Bool, true, false, List, [], ◌∷◌, reverse, Option, None, Some, refl, sym, ap, ◌∙◌, subst, inl, inr}
use Rattle.std.specs.Prelude.{◌⊎◌, ◌&&◌, ◌||◌, is_some, if◌then◌else◌, IsTrue, option_to_list}
use Rattle.std.specs.List.{list_all, list_any}
use Rattle.std.proofs.lemmas.Bool.{and_parts, and_from, or_cases, or_left, or_right, true≢false}
use Rattle.std.proofs.lemmas.List.{reverse-append, reverse-reverse}
use Rattle.std.proofs.lemmas.List.Folds.{list_all-append, list_any-append}
use Rattle.qc_event.proofs.Absent.{same_itself}
use Rattle.qc_event.proofs.OneEntry.{here_some, ready_step, start_step, stays_some}
use Rattle.qc_event.specs.Dead.{outcome_of}
use Rattle.qc_event.specs.History.{Past, Name, earliest, end, is_ready, ready_in, start}
use Rattle.qc_event.specs.Standing.{HasEnded}
use Rattle.qc_event.specs.declared.event.Entry.{Entry}
use Rattle.qc_event.specs.declared.event.Event.{Event}
use Rattle.qc_event.specs.declared.event.Event.TheVariants as event
use Rattle.qc_event.specs.declared.event.How.{How}
use Rattle.qc_event.specs.declared.event.How.TheVariants.{Commit, Abort}
use Rattle.qc_interp.specs.FollowsScript.{started, started_in}
use Rattle.qc_interp.specs.Sessions.{is_settled}
use Rattle.qc_script.specs.Calls.{is_over}
use Rattle.qc_report.specs.Report.{has_doubt, in_doubt, is_live}
use Rattle.qc_run.specs.Run.{AllEnded, IsInDoubt}

-- ALL HAVE ENDED

settled_ended : (past : Past) (n : Name) → ((top : Name) → IsInDoubt past top → ⊥) → (o : Option How) → end past n ≡ o → (is_some o || (is_ready past n && is_over past n)) ≡ true → is_some o ≡ true
settled_ended past n none (Some how) e settled = refl
settled_ended past n none None e settled = absurd (none n (record { ready = (and_parts (is_ready past n) (is_over past n) settled).0; not_ended = e }))

-- where each is settled and no top is in doubt, each has ended
each_ended : (past : Past) (names : List Name) → ((top : Name) → IsInDoubt past top → ⊥) → list_all (is_settled past) names ≡ true → list_all (λ n. is_some (end past n)) names ≡ true
each_ended past [] none settled = refl
each_ended past (n ∷ names) none settled =
    let both = and_parts (is_settled past n) (list_all (is_settled past) names) settled in
    and_from (is_some (end past n)) (list_all (λ m. is_some (end past m)) names) (settled_ended past n none (end past n) refl both.0) (each_ended past names none both.1)

pub all_ended : (past : Past) → IsTrue (list_all (is_settled past) (started past)) → ((top : Name) → IsInDoubt past top → ⊥) → AllEnded past
all_ended past settled none = each_ended past (started past) none settled

-- what is so of each name that was started is so of one
all_of : (p : Name → Bool) (past : Past) (n : Name) → is_some (start past n) ≡ true → list_all p (started past) ≡ true → p n ≡ true
all_of p [] n began all = absurd cc
all_of p (e ∷ past) n began all =
    let both = and_parts (list_all p (started past)) (list_all p (option_to_list (started_in e.event))) (sym (list_all-append p (started past) (option_to_list (started_in e.event))) ∙ all) in
    elim (start_step e past n began) [
      | inl old ↦ all_of p past n old both.0
      | inr new ↦ (and_parts (p n) true (subst (λ (ev : Event). list_all p (option_to_list (started_in ev)) ≡ true) new.1.1 both.1)).0
    ]

-- so each top has its end
pub tops_ended : (past : Past) → AllEnded past → HasEnded past
tops_ended past all number began = all_of (λ n. is_some (end past n)) past (number ∷ []) began all

-- WHAT THE TEST SAYS

last_or_before : {A : Type 0} (p : A → Bool) (x : A) (xs ys : List A) → (list_any p xs ≡ true → list_any p ys ≡ true) → (p x ≡ true) ⊎ (list_any p xs ≡ true) → (list_any p ys || list_any p (x ∷ [])) ≡ true
last_or_before p x xs ys before (inl here) = or_right (list_any p ys) (list_any p (x ∷ [])) (or_left (p x) false here)
last_or_before p x xs ys before (inr there) = or_left (list_any p ys) (list_any p (x ∷ [])) (before there)

-- a list turned around has the same
any_reversed : {A : Type 0} (p : A → Bool) (xs : List A) → list_any p xs ≡ true → list_any p (reverse xs) ≡ true
any_reversed p [] e = e
any_reversed p (x ∷ xs) e = ap (list_any p) (reverse-append (x ∷ []) xs) ∙ list_any-append p (reverse xs) (x ∷ []) ∙ last_or_before p x xs (reverse xs) (any_reversed p xs) (or_cases (p x) (list_any p xs) e)

still_live : (o : Option How) → is_live (outcome_of o) ≡ true → o ≡ None
still_live None e = refl
still_live (Some (Commit given)) e = absurd cc
still_live (Some (Abort cause)) e = absurd cc

-- who is ready, and has no end in the whole
record IsFound (trail : List Entry) (past : Past) : Type 0 where
  top : Name
  ready : is_ready past top ≡ true
  unended : end (reverse trail) top ≡ None

module _ (trail : List Entry) where
  abbrev Tests : Entry → Bool
  Tests e = in_doubt trail e.event

  passes_now : (e : Entry) (past : Past) (top : Name) → end (reverse trail) top ≡ None → (is_ready past top ≡ true → list_any Tests past ≡ true) → (is_ready past top ≡ true) ⊎ (e.event ≡ event.Ready top) → (in_doubt trail e.event || list_any Tests past) ≡ true
  passes_now e past top unended before (inl old) = or_right (in_doubt trail e.event) (list_any Tests past) (before old)
  passes_now e past top unended before (inr is) = or_left (in_doubt trail e.event) (list_any Tests past) (ap (in_doubt trail) is ∙ ap (λ o. is_live (outcome_of o)) unended)

  -- who is ready and has not ended passes the test
  ready_passes : (past : Past) (top : Name) → is_ready past top ≡ true → end (reverse trail) top ≡ None → list_any Tests past ≡ true
  ready_passes [] top ready unended = absurd (true≢false (sym ready))
  ready_passes (e ∷ past) top ready unended = passes_now e past top unended (λ old. ready_passes past top old unended) (ready_step e past top ready)

  found_now : (e : Entry) (past : Past) (ev : Event) → e.event ≡ ev → in_doubt trail ev ≡ true → IsFound trail (e ∷ past)
  found_now e past (event.Ready top) is passes = record {
    top = top;
    ready = here_some (earliest (λ f. ready_in top f.event) past) (ready_in top e.event) (ap (λ x. is_some (ready_in top x)) is ∙ ap (λ (b : Bool). is_some {T = Unit {0}} (if b then Some tt else None)) (same_itself top));
    unended = still_live (end (reverse trail) top) passes;
  }
  found_now e past _ is passes = absurd (true≢false (sym passes))

  found_before : (e : Entry) (past : Past) → IsFound trail past → IsFound trail (e ∷ past)
  found_before e past it = record { top = it.top; ready = stays_some (earliest (λ f. ready_in it.top f.event) past) (ready_in it.top e.event) it.ready; unended = it.unended }

  -- whoever passes the test is in doubt
  passes_found : (past : Past) → list_any Tests past ≡ true → IsFound trail past
  passes_found [] passes = absurd cc
  passes_found (e ∷ past) passes = elim (or_cases (in_doubt trail e.event) (list_any Tests past) passes) [
    | inl here ↦ found_now e past e.event refl here
    | inr there ↦ found_before e past (passes_found past there)
  ]

  pub doubt_found : has_doubt trail ≡ true → (top : Name) × IsInDoubt (reverse trail) top
  doubt_found doubt =
      let it = passes_found (reverse trail) (any_reversed Tests trail doubt) in
      (it.top, record { ready = it.ready; not_ended = it.unended })

  pub no_doubt : has_doubt trail ≡ false → (top : Name) → IsInDoubt (reverse trail) top → ⊥
  no_doubt none top is =
      let passes : list_any Tests (reverse trail) ≡ true = ready_passes (reverse trail) top is.ready is.not_ended in
      true≢false (sym (subst (λ l. list_any Tests l ≡ true) (reverse-reverse trail) (any_reversed Tests (reverse trail) passes)) ∙ none)
