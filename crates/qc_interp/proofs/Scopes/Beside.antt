-- Under which seats names stand: by two lists of entries, as a history grows, and by those of some seats.
use Rattle.std.proofs.Common.{◌≡◌, inl, inr, ℕ, Bool, true, false, List, [], ◌∷◌, ◌++◌, refl, sym, ap, ◌∙◌, subst, filter}
use mathlib.Core.Bool.{true≢false}
use Rattle.std.specs.Prelude.{◌==◌, ◌&&◌, Option, None, Some, is_some, if◌then◌else◌}
use Rattle.std.specs.List.{AllByRecursion, list_all}
use Rattle.std.specs.Option.{option_map, option_map_or, option_or}
use Rattle.std.proofs.lemmas.Bool.{eqb-true, eq-eqb}
use Rattle.qc_event.specs.declared.event.Entry.{Entry}
use Rattle.qc_event.specs.declared.event.Event.{Event}
use Rattle.qc_event.specs.declared.event.Kind.{Kind}
use Rattle.qc_event.specs.History.{Past, Name, Begun, same, start, start_in, kind_of}
use Rattle.qc_event.proofs.Histories.{earliest-append}
use Rattle.qc_event.proofs.OneEntry.{first_is, here_some, stays_some}
use Rattle.qc_event.proofs.Options.{still_mapped}
use Rattle.qc_script.specs.Plan.{Plan}
use Rattle.qc_interp.specs.Deeds.{Deed}
use Rattle.qc_interp.specs.Rows.{is_try, tries_among, each_own_seat, keeps_own_seat, is_child_beside, first_under, starts, opens_seat}
use Rattle.qc_interp.specs.Turns.{seat_of, is_under, is_beside}
use Rattle.qc_interp.proofs.Scopes.Starts.{start_seat}
use Rattle.qc_interp.proofs.Scopes.Kept.{Answers, earliest_kept, kept_again}
use Rattle.qc_interp.proofs.Scopes.Mine.{some_is}
use Rattle.qc_interp.proofs.Rows.SameDeeds.{IsSameTry, all_among, all_each, among_alike}

-- BY TWO LISTS OF ENTRIES

-- what stands beside by one list stands so by another that tells each seat of the first
pub beside_by : (p q : Past) → ((x : Name) (seat : ℕ) → seat_of p x ≡ Some seat → seat_of q x ≡ Some seat) → (a b : Name) → is_beside p a b ≡ true → is_beside q a b ≡ true
beside_by p q step a b h = by_first (seat_of p a) refl h
  where
    by_second : (seat : ℕ) (o : Option ℕ) → seat_of p b ≡ o → option_map_or (λ s. s == seat) o false ≡ true → is_under q seat b ≡ true
    by_second seat None is g = absurd (true≢false (sym g))
    by_second seat (Some t) is g = ap (λ o. option_map_or (λ s. s == seat) o false) (step b t is) ∙ g

    by_first : (o : Option ℕ) → seat_of p a ≡ o → option_map_or (λ seat. is_under p seat b) o false ≡ true → is_beside q a b ≡ true
    by_first None is g = absurd (true≢false (sym g))
    by_first (Some seat) is g = ap (λ o. option_map_or (λ t. is_under q t b) o false) (step a seat is) ∙ by_second seat (seat_of p b) refl g

-- a child stands under the same seat, and opens it or not
abbrev pub IsSameSeat : Past → Past → Deed → Type 0
IsSameSeat p q (Deed.child x) = (seat_of p x ≡ seat_of q x) × (opens_seat p x ≡ opens_seat q x)
IsSameSeat p q (Deed.mark session) = Unit {0}

module _ (p q : Past) where
  pub beside_alike : (a b : Name) → seat_of p a ≡ seat_of q a → seat_of p b ≡ seat_of q b → is_beside p a b ≡ is_beside q a b
  beside_alike a b first second =
      ap (λ o. option_map_or (λ seat. is_under p seat b) o false) first
      ∙ ap (λ o. option_map_or (λ seat. option_map_or (λ s. s == seat) o false) (seat_of q a) false) second

  all_beside_alike : (t : Name) → seat_of p t ≡ seat_of q t → (ds : List Deed) → AllByRecursion (IsSameSeat p q) ds → list_all (is_child_beside p t) ds ≡ list_all (is_child_beside q t) ds
  all_beside_alike t same [] all = refl
  all_beside_alike t same (Deed.child x ∷ ds) all =
      ap (λ b. b && list_all (is_child_beside p t) ds) (beside_alike t x same all.0.0) ∙ ap (λ b. is_beside q t x && b) (all_beside_alike t same ds all.1)
  all_beside_alike t same (Deed.mark session ∷ ds) all = refl

  keeps_alike : (ds : List Deed) → AllByRecursion (IsSameSeat p q) ds → keeps_own_seat p ds ≡ keeps_own_seat q ds
  keeps_alike [] all = refl
  keeps_alike (Deed.child t ∷ ds) all =
      ap (λ b. b && list_all (is_child_beside p t) ds) all.0.1 ∙ ap (λ b. opens_seat q t && b) (all_beside_alike t all.0.0 ds all.1)
  keeps_alike (Deed.mark session ∷ ds) all = refl

  pub own_seat_alike : (branches : Plan) (ds : List Deed) → AllByRecursion (IsSameTry p q) ds → AllByRecursion (IsSameSeat p q) ds → each_own_seat p branches ds ≡ each_own_seat q branches ds
  own_seat_alike (Plan.child_then number tries must inner others) ds all seats =
      ap (λ b. b && each_own_seat p others ds) (keeps_alike (tries_among p number ds) (all_among (is_try p number) (IsSameSeat p q) ds seats) ∙ ap (keeps_own_seat q) (among_alike p q number ds all))
      ∙ ap (λ b. keeps_own_seat q (tries_among q number ds) && b) (own_seat_alike others ds all seats)
  own_seat_alike _ ds all seats = refl

-- AS A HISTORY GROWS

-- something stands under the seat of who was started
some_under : (past : Past) (n : Name) (b : Begun) → start past n ≡ Some b → is_some (first_under b.seat past) ≡ true
some_under [] n b is = absurd cc
some_under (e ∷ past) n b is = elim (first_is (start past n) (start_in n e.seat e.event) b is) [
  | inl old ↦ stays_some (first_under b.seat past) (if e.seat == b.seat then Some e.event else None) (some_under past n b old)
  | inr new ↦
      here_some (first_under b.seat past) (if e.seat == b.seat then Some e.event else None)
      (ap (λ (t : Bool). is_some {T = Event} (if t then Some e.event else None)) (eq-eqb e.seat b.seat (start_seat n e.seat e.event b new.1)))
]

pub start_of_kind : (past : Past) (n : Name) (k : Kind) → kind_of past n ≡ Some k → (b : Begun) × (start past n ≡ Some b)
start_of_kind past n k is = by_start (start past n) refl is
  where
    by_start : (o : Option Begun) → start past n ≡ o → option_map (λ (b : Begun). b.kind) o ≡ Some k → (b : Begun) × (start past n ≡ Some b)
    by_start None at h = absurd cc
    by_start (Some b) at h = (b, at)

module _ (newer old : Past) where
  pub seat_later : (n : Name) (seat : ℕ) → seat_of old n ≡ Some seat → seat_of (newer ++ old) n ≡ Some seat
  seat_later n seat is = ap (option_map (λ (b : Begun). b.seat)) (earliest-append _ newer old) ∙ still_mapped (λ (b : Begun). b.seat) (start old n) (start newer n) seat is

  pub beside_later : (a b : Name) → is_beside old a b ≡ true → is_beside (newer ++ old) a b ≡ true
  beside_later a b h = beside_by old (newer ++ old) seat_later a b h

  -- who was started stands under its seat, and has opened it or not
  pub seats_later : (n : Name) (k : Kind) → kind_of old n ≡ Some k → IsSameSeat old (newer ++ old) (Deed.child n)
  seats_later n k is =
      let at = start_of_kind old n k is in
      let seat : seat_of old n ≡ Some at.0.seat = ap (option_map (λ (b : Begun). b.seat)) at.1 in
      let later : seat_of (newer ++ old) n ≡ Some at.0.seat = seat_later n at.0.seat seat in
      let first = some_is (first_under at.0.seat old) (some_under old n at.0 at.1) in
      let first_later : first_under at.0.seat (newer ++ old) ≡ Some first.0 = earliest-append _ newer old ∙ ap (λ o. option_or o (first_under at.0.seat newer)) first.1 in (
        seat ∙ sym later,
        ap (opened old) seat ∙ ap starts_here (first.1 ∙ sym first_later) ∙ sym (ap (opened (newer ++ old)) later),
      )
    where
      starts_here : Option Event → Bool
      starts_here o = option_map_or (starts n) o false

      opened : Past → Option ℕ → Bool
      opened past o = option_map_or (λ seat. option_map_or (starts n) (first_under seat past) false) o false

-- BY THE ENTRIES OF SOME SEATS

module _ (own : ℕ → Bool) where
  abbrev pub of_seats : Past → Past
  of_seats h = filter (λ (e : Entry). own e.seat) h

  -- who was started by them was started under one of the seats
  seat_own : (h : Past) (n : Name) (b : Begun) → start (of_seats h) n ≡ Some b → own b.seat ≡ true
  seat_own [] n b is = absurd cc
  seat_own (e ∷ h) n b is = by_test (own e.seat) refl (seat_own h n b) is
    where
      by_test : (t : Bool) → own e.seat ≡ t → (start (of_seats h) n ≡ Some b → own b.seat ≡ true) → start (if t then e ∷ of_seats h else of_seats h) n ≡ Some b → own b.seat ≡ true
      by_test false at before g = before g
      by_test true at before g = elim (first_is (start (of_seats h) n) (start_in n e.seat e.event) b g) [
        | inl old ↦ before old
        | inr new ↦ ap own (sym (start_seat n e.seat e.event b new.1)) ∙ at
      ]

  first_kept : (h : Past) (seat : ℕ) → own seat ≡ true → first_under seat (of_seats h) ≡ first_under seat h
  first_kept h seat is = earliest_kept (λ (e : Entry). own e.seat) _ h (all h)
    where
      other : (e : Entry) (b : Bool) → (e.seat == seat) ≡ b → own e.seat ≡ false → (if b then Some e.event else None) ≡ None
      other e false at out = refl
      other e true at out = absurd (true≢false (sym is ∙ ap own (sym (eqb-true e.seat seat at)) ∙ out))

      all : (x : Past) → Answers (λ (e : Entry). own e.seat) (λ (e : Entry). if e.seat == seat then Some e.event else None) x
      all [] = tt
      all (e ∷ x) = ((λ out. other e (e.seat == seat) refl out), all x)

  -- whose start is among them opens its seat by them where it does by all
  pub opens_kept : (h : Past) (n : Name) → start (of_seats h) n ≡ start h n → opens_seat (of_seats h) n ≡ opens_seat h n
  opens_kept h n same = by_start (start (of_seats h) n) refl
    where
      opened : Past → Option Begun → Bool
      opened past o = option_map_or (λ seat. option_map_or (starts n) (first_under seat past) false) (option_map (λ (b : Begun). b.seat) o) false

      by_start : (o : Option Begun) → start (of_seats h) n ≡ o → opens_seat (of_seats h) n ≡ opens_seat h n
      by_start None is = ap (opened (of_seats h)) is ∙ sym (ap (opened h) (sym same ∙ is))
      by_start (Some b) is =
          ap (opened (of_seats h)) is
          ∙ ap (λ o. option_map_or (starts n) o false) (first_kept h b.seat (seat_own h n b is))
          ∙ sym (ap (opened h) (sym same ∙ is))

-- and so by some of the entries and by more of them
pub opens_agree : (own wide : ℕ → Bool) → ((seat : ℕ) → own seat ≡ true → wide seat ≡ true) → (h : Past) (n : Name) → start (of_seats own h) n ≡ start (of_seats wide h) n → opens_seat (of_seats own h) n ≡ opens_seat (of_seats wide h) n
opens_agree own wide wider h n same = subst (λ few. opens_seat few n ≡ opens_seat (of_seats wide h) n) again (opens_kept own (of_seats wide h) n (ap (λ few. start few n) again ∙ same))
  where
    again : of_seats own (of_seats wide h) ≡ of_seats own h
    again = kept_again (λ (e : Entry). own e.seat) (λ (e : Entry). wide e.seat) h (all_each _ (λ e. wider e.seat) h)
