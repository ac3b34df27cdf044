-- Under which seats names were started, as a history grows and among what a client made.
use Rattle.std.proofs.Common.{◌≡◌, inl, inr, ℕ, Bool, true, false, [], ◌∷◌, ◌++◌, refl, sym, ap, ◌∙◌, subst}
use Rattle.std.specs.Prelude.{Option, None, Some, ◌==◌, ◌||◌, if◌then◌else◌}
use Rattle.std.specs.List.{list_any}
use Rattle.std.specs.Option.{option_or, option_map, option_map_or}
use Rattle.std.proofs.lemmas.Bool.{eq-eqb}
use Rattle.qc_event.specs.declared.event.Entry.{Entry}
use Rattle.qc_event.specs.declared.event.Kind.{Kind}
use Rattle.qc_event.specs.History.{Past, Name, Begun, start, start_in}
use Rattle.qc_event.proofs.OneEntry.{first_is, some_or_none, not_some}
use Rattle.qc_script.specs.Client.{Client, mine, is_own, IsLater}
use Rattle.qc_interp.specs.Turns.{seat_of, is_under, is_beside}
use Rattle.qc_interp.proofs.Scopes.Beside.{seat_later}
use Rattle.qc_interp.proofs.Scopes.Mine.{kept_some, kept_append}
use Rattle.qc_interp.proofs.Listing.Places.{some_same}
use Rattle.qc_interp.proofs.Scopes.Starts.{start_seat}

-- WHO WAS STARTED

pub seat_start : (h : Past) (n : Name) (seat : ℕ) → seat_of h n ≡ Some seat → (b : Begun) × (start h n ≡ Some b) × (b.seat ≡ seat)
seat_start h n seat is = by_start (start h n) refl is
  where
    by_start : (o : Option Begun) → start h n ≡ o → option_map (λ (b : Begun). b.seat) o ≡ Some seat → (b : Begun) × (start h n ≡ Some b) × (b.seat ≡ seat)
    by_start None at is = absurd cc
    by_start (Some b) at is = (b, at, some_same b.seat seat is)

pub start_under : (h : Past) (n : Name) (seat : ℕ) (k : Kind) → start h n ≡ Some (record { seat = seat; kind = k }) → seat_of h n ≡ Some seat
start_under h n seat k is = ap (option_map (λ (b : Begun). b.seat)) is

pub under_is : (h : Past) (seat : ℕ) (n : Name) → seat_of h n ≡ Some seat → is_under h seat n ≡ true
under_is h seat n is = ap (λ o. option_map_or (λ s. s == seat) o false) is ∙ eq-eqb seat seat refl

pub beside_is : (h : Past) (seat : ℕ) (a b : Name) → seat_of h a ≡ Some seat → seat_of h b ≡ Some seat → is_beside h a b ≡ true
beside_is h seat a b is also = ap (λ o. option_map_or (λ s. is_under h s b) o false) is ∙ under_is h seat b also

-- AS A HISTORY GROWS

pub under_stays : (newer past : Past) (seat : ℕ) (n : Name) → is_under past seat n ≡ true → is_under (newer ++ past) seat n ≡ true
under_stays newer past seat n under = by_seat (seat_of past n) refl under
  where
    by_seat : (o : Option ℕ) → seat_of past n ≡ o → option_map_or (λ s. s == seat) o false ≡ true → is_under (newer ++ past) seat n ≡ true
    by_seat None at under = absurd cc
    by_seat (Some s) at under = ap (λ o. option_map_or (λ x. x == seat) o false) (seat_later newer past n s at) ∙ under

-- AMONG WHAT A CLIENT MADE

-- what a client started stands there
pub own_start : (c : Client) (past : Past) (n : Name) (b : Begun) → start past n ≡ Some b → is_own c b.seat ≡ true → start (mine c past) n ≡ Some b
own_start c [] n b is own = absurd cc
own_start c (e ∷ past) n b is own = elim (first_is (start past n) (start_in n e.seat e.event) b is) [
  | inl old ↦ by_test (is_own c e.seat) (own_start c past n b old own)
  | inr new ↦ subst (λ x. start (if x then e ∷ mine c past else mine c past) n ≡ Some b) (sym (ap (is_own c) (start_seat n e.seat e.event b new.1) ∙ own))
      (ap (λ o. option_or o (start_in n e.seat e.event)) (not_some (start (mine c past) n) (λ h. some_or_none (start past n) (kept_some (λ (x : Entry). is_own c x.seat) (λ x. start_in n x.seat x.event) past h) new.0)) ∙ new.1)
]
  where
    by_test : (x : Bool) → start (mine c past) n ≡ Some b → start (if x then e ∷ mine c past else mine c past) n ≡ Some b
    by_test false h = h
    by_test true h = ap (λ o. option_or o (start_in n e.seat e.event)) h

-- its number is its own
pub number_own : (c : Client) → is_own c c.number ≡ true
number_own c = ap (λ b. b || list_any (λ k. k == c.number) c.kin) (eq-eqb c.number c.number refl)

module _ (c : Client) where
  pub own_seat : (past : Past) (n : Name) → seat_of past n ≡ Some c.number → seat_of (mine c past) n ≡ Some c.number
  own_seat past n is =
      let s = seat_start past n c.number is in
      ap (option_map (λ (b : Begun). b.seat)) (own_start c past n s.0 s.1 (ap (is_own c) s.2 ∙ number_own c)) ∙ ap (λ seat. Some seat) s.2

  pub own_under : (past : Past) (n : Name) → seat_of past n ≡ Some c.number → is_under (mine c past) c.number n ≡ true
  own_under past n is = under_is (mine c past) c.number n (own_seat past n is)

  pub later_seat : (a b : Past) → IsLater c a b → (n : Name) (seat : ℕ) → seat_of a n ≡ Some seat → seat_of b n ≡ Some seat
  later_seat a b later n seat is = ap (λ h. seat_of h n) later.grown ∙ seat_later later.newer a n seat is

  pub later_under : (a b : Past) → IsLater c a b → (seat : ℕ) (n : Name) → is_under (mine c a) seat n ≡ true → is_under (mine c b) seat n ≡ true
  later_under a b later seat n under =
      ap (λ h. is_under (mine c h) seat n) later.grown ∙ ap (λ h. is_under h seat n) (kept_append (λ (e : Entry). is_own c e.seat) later.newer a)
      ∙ under_stays (mine c later.newer) (mine c a) seat n under

  -- two that started under its number stand beside each other
  pub later_beside : (a b : Past) → IsLater c a b → (n m : Name) → seat_of a n ≡ Some c.number → seat_of a m ≡ Some c.number → is_beside (mine c b) n m ≡ true
  later_beside a b later n m is also = beside_is (mine c b) c.number n m (own_seat b n (later_seat a b later n c.number is)) (own_seat b m (later_seat a b later m c.number also))
