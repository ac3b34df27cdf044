-- What a client has seen grows, by its own entries and others'.
use Rattle.std.proofs.Common.{◌≡◌, Bool, true, false, [], ◌∷◌, ◌++◌, refl, sym, ap, ◌∙◌, subst, append_assoc}
use mathlib.Core.Bool.{true≢false}
use Rattle.std.specs.Prelude.{Option, None, Some, MatchOption, not, ◌||◌, if◌then◌else◌}
use Rattle.std.specs.Option.{option_or}
use Rattle.std.proofs.lemmas.List.Elements.{filter-append}
use Rattle.std.proofs.lemmas.List.Folds.{list_all-append}
use Rattle.std.proofs.lemmas.Bool.{and_parts}
use Rattle.qc_event.specs.declared.event.Entry.{Entry}
use Rattle.qc_event.specs.History.{Past, Name, earliest, end}
use Rattle.qc_event.specs.Legal.{Legal}
use Rattle.qc_event.proofs.Histories.{earliest-append}
use Rattle.qc_event.proofs.OneEntry.{some_or_none, not_some}
use Rattle.qc_script.specs.Client.{Client, mine, is_own, scope, concerns, Made, IsLater, AreOurs, all_ours}
use Rattle.qc_interp.proofs.Scopes.Mine.{kept_some}

pub implied : (a b : Bool) → (not a || b) ≡ true → a ≡ true → b ≡ true
implied true b h is = h
implied false b h is = absurd (true≢false (sym is))

module _ (c : Client) where
  pub made_is : (es before now : Past) → Made c es before now → mine c now ≡ es ++ mine c before
  made_is es before now m = ap (mine c) m.grown ∙ filter-append _ m.newer before ∙ ap (λ x. x ++ mine c before) m.made

  abbrev pub made_later : (es before now : Past) → Made c es before now → IsLater c before now
  made_later es before now m = record { newer = m.newer; grown = m.grown; legal = m.legal }

  pub made_itself : (now : Past) → Legal c.setting now → Made c [] now now
  made_itself now legal = record { newer = []; grown = refl; made = refl; legal = legal }

  -- these were made, and then nothing
  pub made_after : (es a b d : Past) → Made c es a b → Made c [] b d → Made c es a d
  made_after es a b d m n = record {
    newer = n.newer ++ m.newer;
    grown = n.grown ∙ ap (λ x. n.newer ++ x) m.grown ∙ sym (append_assoc n.newer m.newer a);
    made = filter-append _ n.newer m.newer ∙ ap (λ x. x ++ mine c m.newer) n.made ∙ m.made;
    legal = n.legal;
  }

  pub made_both : (a b d : Past) → Made c [] a b → Made c [] b d → Made c [] a d
  made_both a b d m n = made_after [] a b d m n

  abbrev pub later_itself : (now : Past) → Legal c.setting now → IsLater c now now
  later_itself now legal = record { newer = []; grown = refl; legal = legal }

  abbrev pub later_trans : (a b d : Past) → IsLater c a b → IsLater c b d → IsLater c a d
  later_trans a b d p q = record { newer = q.newer ++ p.newer; grown = q.grown ∙ ap (λ x. q.newer ++ x) p.grown ∙ sym (append_assoc q.newer p.newer a); legal = q.legal }

  pub ours_before : (n : Name) (before now : Past) → IsLater c before now → AreOurs c n now → AreOurs c n before
  ours_before n before now p ours =
      (and_parts _ _ (sym (list_all-append _ p.newer before) ∙ ap (all_ours c n) (sym p.grown) ∙ ours)).1

  -- what all is one's own about a name is found among one's own
  pub own_found : {Y : Type 0} (f : Entry → Option Y) (y : Y) (n : Name) (past : Past) → ((e : Entry) → f e ≡ Some y → concerns (scope c n) e.event ≡ true) → AreOurs c n past → earliest f past ≡ Some y → earliest f (mine c past) ≡ Some y
  own_found f y n [] about ours is = absurd cc
  own_found {Y = Y} f y n (e ∷ past) about ours is =
      let both = and_parts (not (concerns (scope c n) e.event) || is_own c e.seat) _ ours in
      by_old (earliest f past) refl (own_found f y n past about both.1) (implied (concerns (scope c n) e.event) (is_own c e.seat) both.0) is
    where
      found : Past → Type 0
      found h = earliest f h ≡ Some y

      by_old : (o : Option Y) → earliest f past ≡ o → (earliest f past ≡ Some y → earliest f (mine c past) ≡ Some y) → (concerns (scope c n) e.event ≡ true → is_own c e.seat ≡ true) → option_or o (f e) ≡ Some y → found (if is_own c e.seat then e ∷ mine c past else mine c past)
      by_old (Some x) was before own is = by_test (is_own c e.seat) (before (was ∙ is))
        where
          by_test : (b : Bool) → earliest f (mine c past) ≡ Some y → found (if b then e ∷ mine c past else mine c past)
          by_test false h = h
          by_test true h = ap (λ o. option_or o (f e)) h
      by_old None was before own is =
          subst (λ b. found (if b then e ∷ mine c past else mine c past)) (sym (own (about e is)))
          (ap (λ o. option_or o (f e)) (not_some (earliest f (mine c past)) (λ h. some_or_none (earliest f past) (kept_some (λ (x : Entry). is_own c x.seat) f past h) was)) ∙ is)

  -- the latest entry that was made meanwhile, and what was before it
  pub record FirstMade (e : Entry) (es newer : Past) : Type 0 where
    pub after : Past
    pub mid : Past
    pub is : newer ≡ after ++ e ∷ mid
    pub made : mine c mid ≡ es

  pub first_made : (e : Entry) (es newer : Past) → mine c newer ≡ e ∷ es → FirstMade e es newer
  first_made e es [] h = absurd cc
  first_made e es (x ∷ newer) h = by_test (is_own c x.seat) h (first_made e es newer)
    where
      by_test : (b : Bool) → (if b then x ∷ mine c newer else mine c newer) ≡ e ∷ es → (mine c newer ≡ e ∷ es → FirstMade e es newer) → FirstMade e es (x ∷ newer)
      by_test true is more =
          let heads : x ≡ e = cc in
          let tails : mine c newer ≡ es = cc in
          record { after = []; mid = newer; is = ap (λ y. y ∷ newer) heads; made = tails }
      by_test false is more = let f = more is in record { after = x ∷ f.after; mid = f.mid; is = ap (λ l. x ∷ l) f.is; made = f.made }

-- WHO IS STARTED STAYS SO

pub ended_still : (newer past : Past) (n : Name) (P : Rattle.qc_event.specs.declared.event.How.How → Type 0) → MatchOption (end past n) ⊥ P → MatchOption (end (newer ++ past) n) ⊥ P
ended_still newer past n P h = by_end (end past n) refl h
  where
    by_end : (o : Option Rattle.qc_event.specs.declared.event.How.How) → end past n ≡ o → MatchOption o ⊥ P → MatchOption (end (newer ++ past) n) ⊥ P
    by_end None is h = absurd h
    by_end (Some how) is h = subst (λ o. MatchOption o ⊥ P) (sym (earliest-append _ newer past ∙ ap (λ o. option_or o (end newer n)) is)) h
