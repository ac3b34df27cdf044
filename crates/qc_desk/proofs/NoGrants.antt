-- A grant that was free by what its copy has seen is allowed as long as the copy granted nothing since.
use mathlib.Core.Bool.{true≢false}
use Rattle.std.proofs.Common.{◌≡◌, ℕ, Bool, true, false, [], ◌∷◌, ◌++◌, refl, sym, ap, ap₂, ◌∙◌, subst, append-nil}
use Rattle.std.specs.Prelude.{Option, None, Some, MatchOption, IfNone, ◌==◌, cond, find, filter, option_to_list}
use Rattle.std.specs.List.{AllByRecursion}
use Rattle.std.specs.Option.{option_or, option_map}
use Rattle.std.proofs.lemmas.Bool.{false_from_ne_true, eqb-true, eq-eqb}
use Rattle.qc_config.specs.Tuple.{after}
use Rattle.qc_event.specs.declared.event.Ask.{Ask}
use Rattle.qc_event.specs.declared.event.Entry.{Entry}
use Rattle.qc_event.specs.declared.event.Event.{Event}
use Rattle.qc_event.specs.declared.event.Event.TheVariants as event
use Rattle.qc_event.specs.declared.event.Grant.{Grant}
use Rattle.qc_event.specs.Base.{Setting, start_tuple}
use Rattle.qc_event.specs.Dead.{dead}
use Rattle.qc_event.specs.Grants.{MayGrant, IsServed}
use Rattle.qc_event.specs.History.{Past, Name, Asked, same, asked, granted, grant_in, grants, grant_at}
use Rattle.qc_event.specs.Legal.{Legal, Allowed, MayHappen}
use Rattle.qc_event.specs.Seats.{copy_seat}
use Rattle.qc_event.specs.Seen.{is_in_way, is_live_at, changed_by}
use Rattle.qc_event.proofs.Absent.{same_is, if_not}
use Rattle.qc_event.proofs.Later.{alive_before}
use Rattle.qc_desk.specs.Entries.{AreOthers, entries_of}
use Rattle.qc_event.proofs.Options.{some_there}
use Rattle.qc_desk.proofs.Granting.{asked_stays, free_parts, free_again, none_in_way, changed_same}

-- none of these entries is a grant of the copy
abbrev pub AreNoGrants : ℕ → Past → Type 0
AreNoGrants copy newer = AllByRecursion (λ (e : Entry). grant_at copy e.event ≡ None) newer

module _ (setting : Setting) (past : Past) (copy : ℕ) where
  none_here : (e : Entry) (before : Past) → (e.seat ≡ copy_seat copy → ⊥) → Allowed setting before e → grant_at copy e.event ≡ None
  none_here e before other may = by_event e.event may
    where
      by_event : (ev : Event) → MayHappen setting before e.seat ev → grant_at copy ev ≡ None
      by_event (event.Granted c g) h = if_not (c == copy) (Some g) (false_from_ne_true (c == copy) (λ is. other (h.by_copy ∙ ap copy_seat (eqb-true c copy is))))
      by_event _ h = refl

  -- what others enter is none
  pub others_grant_none : (newer : Past) → Legal setting (newer ++ past) → AreOthers (copy_seat copy) newer → AreNoGrants copy newer
  others_grant_none [] legal all = tt
  others_grant_none (e ∷ newer) legal all = (none_here e (newer ++ past) all.0 legal.1, others_grant_none newer legal.0 all.1)

  -- the copy's grants are then what they were
  pub grants_kept : (newer : Past) → AreNoGrants copy newer → grants (newer ++ past) copy ≡ grants past copy
  grants_kept [] all = refl
  grants_kept (e ∷ newer) all =
      ap (λ o. grants (newer ++ past) copy ++ option_to_list o) all.0 ∙ append-nil (grants (newer ++ past) copy) ∙ grants_kept newer all.1

  -- and an access that asked it was granted nothing elsewhere
  pub ungranted : (newer : Past) (n : Name) (a : Asked) → asked past n ≡ Some a → a.ask.copy ≡ copy → granted past n ≡ None → Legal setting (newer ++ past) → AreNoGrants copy newer → granted (newer ++ past) n ≡ None
  ungranted [] n a is at none legal all = none
  ungranted (e ∷ newer) n a is at none legal all =
      ap₂ option_or (ungranted newer n a is at none legal.0 all.1) (by_event e.event all.0 legal.1)
    where
      of_copy : (c : ℕ) (g : Grant) → MayGrant setting (newer ++ past) e.seat c g → same g.access n ≡ true → c ≡ copy
      of_copy c g h here =
          let there = some_there (asked (newer ++ past) g.access) _ h.request in
          let one : Some there.0 ≡ Some a = sym there.1 ∙ ap (asked (newer ++ past)) (same_is g.access n here) ∙ asked_stays newer past n a is in
          let same_ask : there.0 ≡ a = cc in
          ap (λ (x : Ask). x.copy) (sym there.2) ∙ ap (λ (x : Asked). x.ask.copy) same_ask ∙ at

      clash : (c : ℕ) (g : Grant) → c ≡ copy → grant_at copy (event.Granted c g) ≡ None → ⊥
      clash c g is h = let there : cond (c == copy) (Some g) None ≡ Some g = ap (λ b. cond b (Some g) None) (eq-eqb c copy is) in cc

      by_event : (ev : Event) → grant_at copy ev ≡ None → MayHappen setting (newer ++ past) e.seat ev → grant_in n ev ≡ None
      by_event (event.Granted c g) none h = if_not (same g.access n) _ (false_from_ne_true (same g.access n) (λ here. clash c g (of_copy c g h here) none))
      by_event _ none h = refl

-- a grant that might be made still may be
pub grant_still_allowed : (setting : Setting) (past newer : Past) (seat copy : ℕ) (grant : Grant) → Legal setting (newer ++ past) → AreNoGrants copy newer
    → MayGrant setting past seat copy grant → MayGrant setting (newer ++ past) seat copy grant
grant_still_allowed setting past newer seat copy grant legal all may =
    record {
      by_copy = may.by_copy;
      request = subst (λ o. MatchOption o ⊥ (λ (a : Asked). a.ask ≡ record { access = grant.access; copy = copy; rec = grant.rec; op = grant.op })) (sym (asked_stays newer past grant.access there.0 there.1)) there.2;
      first_time = ungranted setting past copy newer grant.access there.0 there.1 (ap (λ (x : Ask). x.copy) there.2) may.first_time legal all;
      sets = may.sets;
      for_copies = may.for_copies;
      served = by_death (dead (newer ++ past) grant.access) refl;
    }
  where
    there : (a : Asked) × (asked past grant.access ≡ Some a) × (a.ask ≡ record { access = grant.access; copy = copy; rec = grant.rec; op = grant.op })
    there = some_there (asked past grant.access) (λ a. a.ask ≡ record { access = grant.access; copy = copy; rec = grant.rec; op = grant.op }) may.request

    served_now : dead (newer ++ past) grant.access ≡ None → IsServed setting (newer ++ past) copy grant
    served_now lives =
        let was_served : IsServed setting past copy grant = subst (λ o. IfNone o (IsServed setting past copy grant)) (alive_before newer past grant.access lives) may.served in
        let free : AllByRecursion (λ g. is_in_way past grant.rec grant.op grant.access g ≡ false) (grants past copy) = free_parts (is_in_way past grant.rec grant.op grant.access) (grants past copy) was_served.free in
        record {
          free = ap (λ gs. option_map (λ (g : Grant). g.access) (find (is_in_way (newer ++ past) grant.rec grant.op grant.access) gs)) (grants_kept setting past copy newer all)
              ∙ free_again (is_in_way (newer ++ past) grant.rec grant.op grant.access) (grants past copy) (none_in_way newer past grant.rec grant.op grant.access (grants past copy) free);
          tuple = was_served.tuple ∙ ap (λ t. after t grant.op) (sym (
              ap (λ gs. changed_by (start_tuple setting.base copy grant.rec) (filter (is_live_at (newer ++ past) grant.rec) gs)) (grants_kept setting past copy newer all)
              ∙ changed_same newer past grant.rec grant.op grant.access lives (start_tuple setting.base copy grant.rec) (grants past copy) free));
        }

    by_death : (o : Option Name) → dead (newer ++ past) grant.access ≡ o → IfNone (dead (newer ++ past) grant.access) (IsServed setting (newer ++ past) copy grant)
    by_death None is = subst (λ o. IfNone o (IsServed setting (newer ++ past) copy grant)) (sym is) (served_now is)
    by_death (Some x) is = subst (λ o. IfNone o (IsServed setting (newer ++ past) copy grant)) (sym is) tt

-- the copy's own entries have all that it granted
pub own_grants : (setting : Setting) (copy : ℕ) (past : Past) → Legal setting past → grants (entries_of (copy_seat copy) past) copy ≡ grants past copy
own_grants setting copy [] legal = refl
own_grants setting copy (e ∷ past) legal = by_seat (own_grants setting copy past legal.0) (e.seat == copy_seat copy) refl
  where
    by_seat : grants (entries_of (copy_seat copy) past) copy ≡ grants past copy → (b : Bool) → (e.seat == copy_seat copy) ≡ b → grants (cond b (e ∷ entries_of (copy_seat copy) past) (entries_of (copy_seat copy) past)) copy ≡ grants (e ∷ past) copy
    by_seat before true is = ap (λ gs. gs ++ option_to_list (grant_at copy e.event)) before
    by_seat before false is =
        let other : grant_at copy e.event ≡ None = none_here setting past copy e past (λ here. true≢false (sym (eq-eqb e.seat (copy_seat copy) here) ∙ is)) legal.1 in
        before ∙ sym (ap (λ o. grants past copy ++ option_to_list o) other ∙ append-nil (grants past copy))
