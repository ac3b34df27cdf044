-- One offer more goes where it belongs.
use Rattle.std.proofs.Common.{◌≡◌, ◌≤◌, ◌<◌, ◌⊎◌, inl, inr, ℕ, Bool, true, false, List, [], ◌∷◌, ◌++◌, length, refl, sym, ap, ◌∙◌, subst, arith}
use mathlib.Core.Bool.{true≢false}
use Rattle.std.specs.Prelude.{IsTrue, ◌||◌, Option, None, Some, is_some}
use Rattle.std.specs.List.{All, IsDistinct, list_any}
use Rattle.std.proofs.lemmas.Cmp.{nat_eq_equiv, lists_equiv}
use Rattle.std.proofs.lemmas.List.{length-append, map-append}
use Rattle.std.proofs.lemmas.List.Elements.{All-nil, All-cons, All-push, All-weaker}
use Rattle.std.proofs.lemmas.List.Folds.{list_any-append}
use Rattle.std.proofs.lemmas.Bool.{or_left}
use Rattle.std.proofs.lemmas.Map.Keys.{IsDistinct-push}
use Rattle.qc_event.specs.declared.event.How.{How}
use Rattle.qc_event.specs.History.{Name, end, same}
use Rattle.qc_desk.specs.declared.store.Store.{Ghosts}
use Rattle.qc_group.specs.declared.waiting.Waiting.{Waiting}
use Rattle.qc_group.specs.Draws.{IsDraw}
use Rattle.qc_group.specs.Offers.{AreDivided, IsEndedOffer, IsLater, IsOpenOffer, StayFor, is_taken, tops}
use Rattle.qc_group.specs.Offers.AreDivided.{none, draws, keeps, drops}

module _ {N : Type 0} {g : Ghosts N} where
  -- WHERE THEY WENT

  drawn_last : (v w : Waiting N g) (offers taken left : List (Waiting N g)) → IsLater v w → IsOpenOffer w → AreDivided offers taken left → AreDivided (offers ++ v ∷ []) (taken ++ w ∷ []) left
  drawn_last v w _ _ _ later is_open none = draws v w [] [] [] later is_open none
  drawn_last v w _ _ _ later is_open (draws a b offers taken left l o rest) = draws a b (offers ++ v ∷ []) (taken ++ w ∷ []) left l o (drawn_last v w offers taken left later is_open rest)
  drawn_last v w _ _ _ later is_open (keeps a b offers taken left l o rest) = keeps a b (offers ++ v ∷ []) (taken ++ w ∷ []) left l o (drawn_last v w offers taken left later is_open rest)
  drawn_last v w _ _ _ later is_open (drops a b offers taken left l o rest) = drops a b (offers ++ v ∷ []) (taken ++ w ∷ []) left l o (drawn_last v w offers taken left later is_open rest)

  kept_last : (v w : Waiting N g) (offers taken left : List (Waiting N g)) → IsLater v w → IsOpenOffer w → AreDivided offers taken left → AreDivided (offers ++ v ∷ []) taken (left ++ w ∷ [])
  kept_last v w _ _ _ later is_open none = keeps v w [] [] [] later is_open none
  kept_last v w _ _ _ later is_open (draws a b offers taken left l o rest) = draws a b (offers ++ v ∷ []) taken (left ++ w ∷ []) l o (kept_last v w offers taken left later is_open rest)
  kept_last v w _ _ _ later is_open (keeps a b offers taken left l o rest) = keeps a b (offers ++ v ∷ []) taken (left ++ w ∷ []) l o (kept_last v w offers taken left later is_open rest)
  kept_last v w _ _ _ later is_open (drops a b offers taken left l o rest) = drops a b (offers ++ v ∷ []) taken (left ++ w ∷ []) l o (kept_last v w offers taken left later is_open rest)

  dropped_last : (v w : Waiting N g) (offers taken left : List (Waiting N g)) → IsLater v w → IsEndedOffer w → AreDivided offers taken left → AreDivided (offers ++ v ∷ []) taken left
  dropped_last v w _ _ _ later ended none = drops v w [] [] [] later ended none
  dropped_last v w _ _ _ later ended (draws a b offers taken left l o rest) = draws a b (offers ++ v ∷ []) taken left l o (dropped_last v w offers taken left later ended rest)
  dropped_last v w _ _ _ later ended (keeps a b offers taken left l o rest) = keeps a b (offers ++ v ∷ []) taken left l o (dropped_last v w offers taken left later ended rest)
  dropped_last v w _ _ _ later ended (drops a b offers taken left l o rest) = drops a b (offers ++ v ∷ []) taken left l o (dropped_last v w offers taken left later ended rest)

  -- each that was drawn had no end
  pub all_open : (offers taken left : List (Waiting N g)) → AreDivided offers taken left → All IsOpenOffer taken
  all_open _ _ _ none = All-nil IsOpenOffer
  all_open _ _ _ (draws v w offers taken left later is_open rest) = All-cons IsOpenOffer w taken is_open (all_open offers taken left rest)
  all_open _ _ _ (keeps v w offers taken left later is_open rest) = all_open offers taken left rest
  all_open _ _ _ (drops v w offers taken left later ended rest) = all_open offers taken left rest

  -- where the end is none, the offer is open
  pub is_open_offer : (w : Waiting N g) → is_some (end w.pass.seen w.top) ≡ false → IsOpenOffer w
  is_open_offer w ended = none_of (end w.pass.seen w.top) ended
    where
      none_of : (o : Option How) → is_some o ≡ false → o ≡ None
      none_of None _ = refl
      none_of (Some how) ended = absurd (true≢false ended)

  -- a test of tops
  pub any_top : (top : Name) (ws : List (Waiting N g)) → list_any (λ w. same top w.top) ws ≡ list_any (same top) (tops ws)
  any_top top [] = refl
  any_top top (w ∷ ws) = ap (λ (b : Bool). same top w.top || b) (any_top top ws)

  -- THE STEPS OF A DRAW

  tops_more : (own : Name) (taken : List (Waiting N g)) (w : Waiting N g) → own ∷ tops (taken ++ w ∷ []) ≡ (own ∷ tops taken) ++ w.top ∷ []
  tops_more own taken w = ap (λ (ts : List Name). own ∷ ts) (map-append (λ (x : Waiting N g). x.top) taken (w ∷ []))

  still_taken : (own : Name) (taken : List (Waiting N g)) (w : Waiting N g) (top : Name) → IsTrue (is_taken own taken top) → IsTrue (is_taken own (taken ++ w ∷ []) top)
  still_taken own taken w top was = ap (list_any (same top)) (tops_more own taken w) ∙ (list_any-append (same top) (own ∷ tops taken) (w.top ∷ []) ∙ or_left _ _ was)

  pub no_draw : (own : Name) (most : ℕ) → IsDraw {N = N} {g = g} own most [] [] []
  unfolding IsDistinct
  no_draw own most = record { divided = none; few = omega arith; others = (tt, tt); stay = inr (All-nil (λ (w : Waiting N g). IsTrue (is_taken {N = N} {g = g} own [] w.top))) }

  pub draws_on : (own : Name) (most : ℕ) (v w : Waiting N g) (offers taken left : List (Waiting N g)) → IsLater v w → IsOpenOffer w → length taken < most → is_taken own taken w.top ≡ false → IsDraw own most offers taken left → IsDraw own most (offers ++ v ∷ []) (taken ++ w ∷ []) left
  draws_on own most v w offers taken left later is_open less other draw = record {
    divided = drawn_last v w offers taken left later is_open draw.divided;
    few = omega (arith, less, length-append taken (w ∷ []));
    others = subst (IsDistinct same) (sym (tops_more own taken w)) (IsDistinct-push (lists_equiv nat_eq_equiv) (own ∷ tops taken) w.top draw.others other);
    stay = inr (onward draw.stay);
  }
    where
      onward : StayFor own most taken left → All (λ (x : Waiting N g). IsTrue (is_taken own (taken ++ w ∷ []) x.top)) left
      onward (inl full) = absurd (omega (arith, full, less))
      onward (inr all) = All-weaker (λ (x : Waiting N g). IsTrue (is_taken own taken x.top)) (λ (x : Waiting N g). IsTrue (is_taken own (taken ++ w ∷ []) x.top)) (λ x was. still_taken own taken w x.top was) left all

  pub keeps_on : (own : Name) (most : ℕ) (v w : Waiting N g) (offers taken left : List (Waiting N g)) → IsLater v w → IsOpenOffer w → (most ≤ length taken) ⊎ (is_taken own taken w.top ≡ true) → IsDraw own most offers taken left → IsDraw own most (offers ++ v ∷ []) taken (left ++ w ∷ [])
  keeps_on own most v w offers taken left later is_open why draw = record {
    divided = kept_last v w offers taken left later is_open draw.divided;
    few = draw.few;
    others = draw.others;
    stay = onward why draw.stay;
  }
    where
      onward : (most ≤ length taken) ⊎ (is_taken own taken w.top ≡ true) → StayFor own most taken left → StayFor own most taken (left ++ w ∷ [])
      onward (inl full) before = inl (let few : length taken ≤ most = draw.few in omega (arith, full, few))
      onward (inr is) (inl full) = inl full
      onward (inr is) (inr all) = inr (All-push (λ (x : Waiting N g). IsTrue (is_taken own taken x.top)) left w all is)

  pub drops_on : (own : Name) (most : ℕ) (v w : Waiting N g) (offers taken left : List (Waiting N g)) → IsLater v w → IsEndedOffer w → IsDraw own most offers taken left → IsDraw own most (offers ++ v ∷ []) taken left
  drops_on own most v w offers taken left later ended draw = record {
    divided = dropped_last v w offers taken left later ended draw.divided;
    few = draw.few;
    others = draw.others;
    stay = draw.stay;
  }
