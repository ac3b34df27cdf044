-- Names that a client aborts as orphans, one after another: as far as it came, and all of them.
use Rattle.std.proofs.Common.{◌≡◌, ◌⊎◌, inl, inr, ℕ, zero, suc, ◌+◌, ◌<◌, Bool, true, List, [], ◌∷◌, ◌++◌, length, slice_index_or, refl, sym, ap, ◌∙◌, subst, arith, length-append, append_assoc}
use Rattle.std.specs.Prelude.{Option, None, Some, is_some, slice_get, if◌then◌else◌}
use Rattle.std.specs.List.{AllByRecursion}
use Rattle.std.specs.Option.{option_or}
use Rattle.std.proofs.lemmas.List.Elements.{filter-append}
use Rattle.qc_event.specs.declared.event.Cause.TheVariants as cause
use Rattle.qc_event.specs.declared.event.Entry.{Entry}
use Rattle.qc_event.specs.declared.event.Event.TheVariants as event
use Rattle.qc_event.specs.declared.event.How.{How}
use Rattle.qc_event.specs.declared.event.How.TheVariants.{Abort}
use Rattle.qc_event.specs.History.{Past, Name, end, end_in, same}
use Rattle.qc_event.specs.Legal.{Legal}
use Rattle.qc_event.proofs.Absent.{same_itself}
use Rattle.qc_event.proofs.Histories.{earliest-append}
use Rattle.qc_event.proofs.OneEntry.{stays_some}
use Rattle.qc_script.specs.Calls.{by_client}
use Rattle.qc_script.specs.Client.{Client, mine, is_own, Made}
use Rattle.qc_interp.specs.AtOnce.{aborts_of, TurnedSome}
use Rattle.qc_interp.proofs.Scopes.Growth.{made_is, made_itself, made_after}
use Rattle.qc_interp.proofs.Scopes.Mine.{kept_some}
use Rattle.qc_interp.proofs.Listing.Places.{each_place, some_same}
use Rattle.qc_event.proofs.Numbers.{before_or_at}

-- WHAT THEY ARE

none_aborted : (c : Client) (ns : List Name) → aborts_of c ns [] ≡ []
none_aborted c [] = refl
none_aborted c (n ∷ ns) = refl

next_aborted : (c : Client) (ns : List Name) (above : List (Option Name)) (n a : Name) → slice_get ns (length above) ≡ Some n → aborts_of c ns (above ++ Some a ∷ []) ≡ by_client c (event.End n (Abort (cause.Orphan a))) ∷ aborts_of c ns above
next_aborted c [] above n a at = absurd cc
next_aborted c (m ∷ ns) [] n a at = ap (λ l. l ++ by_client c (event.End m (Abort (cause.Orphan a))) ∷ []) (none_aborted c ns) ∙ ap (λ y. by_client c (event.End y (Abort (cause.Orphan a))) ∷ []) (some_same m n at)
next_aborted c (m ∷ ns) (Some b ∷ above) n a at = ap (λ l. l ++ by_client c (event.End m (Abort (cause.Orphan b))) ∷ []) (next_aborted c ns above n a at)
next_aborted c (m ∷ ns) (None ∷ above) n a at = next_aborted c ns above n a at

next_passed : (c : Client) (ns : List Name) (above : List (Option Name)) → aborts_of c ns (above ++ None ∷ []) ≡ aborts_of c ns above
next_passed c [] above = refl
next_passed c (m ∷ ns) [] = none_aborted c ns
next_passed c (m ∷ ns) (Some b ∷ above) = ap (λ l. l ++ by_client c (event.End m (Abort (cause.Orphan b))) ∷ []) (next_passed c ns above)
next_passed c (m ∷ ns) (None ∷ above) = next_passed c ns above

-- what stands at an index
pub at_index : {A : Type 0} (xs : List A) (i : ℕ) (d : A) → i < length xs → slice_get xs i ≡ Some (slice_index_or xs i d)
at_index [] i d below = let z : ⊥ = omega (arith, below) in absurd z
at_index (x ∷ xs) zero d below = refl
at_index (x ∷ xs) (suc i) d below = at_index xs i d (omega (arith, below))

-- WHO HAS ENDED

-- who has ended still has
pub ended_later : (newer past : Past) (n : Name) → is_some (end past n) ≡ true → is_some (end (newer ++ past) n) ≡ true
ended_later newer past n h = ap is_some (earliest-append (λ e. end_in n e.event) newer past) ∙ stays_some (end past n) (end newer n) h

-- who was just aborted has
pub aborted_ended : (c : Client) (n a : Name) (before now : Past) → Made c (by_client c (event.End n (Abort (cause.Orphan a))) ∷ []) before now → is_some (end now n) ≡ true
aborted_ended c n a before now m =
    kept_some (λ (e : Entry). is_own c e.seat) (λ e. end_in n e.event) now
    (ap (λ h. is_some (end h n)) (made_is c _ before now m) ∙ by_old (end (mine c before) n))
  where
    by_old : (o : Option How) → is_some (option_or o (end_in n (event.End n (Abort (cause.Orphan a))))) ≡ true
    by_old None = ap (λ (b : Bool). is_some (if b then Some (Abort (cause.Orphan a)) else None)) (same_itself n)
    by_old (Some how) = refl

-- ONE AFTER ANOTHER

-- So many of them have ended, whoever ended them.
pub record AbortedTo (c : Client) (ns : List Name) (before : Past) (count : ℕ) (now : Past) : Type 0 where
  pub above : List (Option Name)
  pub long : length above ≡ count
  pub made : Made c (aborts_of c ns above) before now
  pub ended : (i : ℕ) (n : Name) → i < count → slice_get ns i ≡ Some n → is_some (end now n) ≡ true

module _ (c : Client) (ns : List Name) (before : Past) where
  pub aborted_none : Legal c.setting before → AbortedTo c ns before 0 before
  aborted_none legal = record {
    above = [];
    long = refl;
    made = subst (λ es. Made c es before before) (sym (none_aborted c ns)) (made_itself c before legal);
    ended = λ i n few at. let z : ⊥ = omega (arith, few) in absurd z;
  }

  -- one more, of the entries that were made for it
  one_more : (count : ℕ) (now next : Past) (n : Name) (told : Option Name) (es : Past) → AbortedTo c ns before count now → slice_get ns count ≡ Some n → Made c es now next → is_some (end next n) ≡ true
      → ((above : List (Option Name)) → length above ≡ count → aborts_of c ns (above ++ told ∷ []) ≡ es ++ aborts_of c ns above) → AbortedTo c ns before (count + 1) next
  one_more count now next n told es so_far at m ended are = record {
    above = so_far.above ++ told ∷ [];
    long = length-append so_far.above (told ∷ []) ∙ ap (λ k. k + 1) so_far.long;
    made = subst (λ l. Made c l before next) (sym (are so_far.above so_far.long)) (record {
      newer = m.newer ++ so_far.made.newer;
      grown = m.grown ∙ ap (λ l. m.newer ++ l) so_far.made.grown ∙ sym (append_assoc m.newer so_far.made.newer before);
      made = filter-append _ m.newer so_far.made.newer ∙ ap (λ l. l ++ mine c so_far.made.newer) m.made ∙ ap (λ l. es ++ l) so_far.made.made;
      legal = m.legal;
    });
    ended = λ i y few is. by_place i y is (before_or_at i count few);
  }
    where
      by_place : (i : ℕ) (y : Name) → slice_get ns i ≡ Some y → (i < count) ⊎ (i ≡ count) → is_some (end next y) ≡ true
      by_place i y is (inl few) = subst (λ h. is_some (end h y) ≡ true) (sym m.grown) (ended_later m.newer now y (so_far.ended i y few is))
      by_place i y is (inr here) = subst (λ z. is_some (end next z) ≡ true) (some_same n y (sym at ∙ ap (slice_get ns) (sym here) ∙ is)) ended

  -- it was aborted
  pub aborted_next : (count : ℕ) (now next : Past) (n a : Name) → AbortedTo c ns before count now → slice_get ns count ≡ Some n → Made c (by_client c (event.End n (Abort (cause.Orphan a))) ∷ []) now next → AbortedTo c ns before (count + 1) next
  aborted_next count now next n a so_far at m =
      one_more count now next n (Some a) (by_client c (event.End n (Abort (cause.Orphan a))) ∷ []) so_far at m (aborted_ended c n a now next m)
      (λ above long. next_aborted c ns above n a (ap (slice_get ns) long ∙ at))

  -- it had ended
  pub aborted_passed : (count : ℕ) (now next : Past) (n : Name) → AbortedTo c ns before count now → slice_get ns count ≡ Some n → Made c [] now next → is_some (end next n) ≡ true → AbortedTo c ns before (count + 1) next
  aborted_passed count now next n so_far at m ended = one_more count now next n None [] so_far at m ended (λ above long. next_passed c ns above)

  -- it was cut off there
  pub aborted_cut : (count : ℕ) (now next : Past) → AbortedTo c ns before count now → Made c [] now next → TurnedSome c ns before next
  aborted_cut count now next so_far m = (so_far.above, made_after c (aborts_of c ns so_far.above) before now next so_far.made m)

  pub aborted_all : (count : ℕ) (now : Past) → AbortedTo c ns before count now → length ns ≡ count → TurnedSome c ns before now × AllByRecursion (λ n. is_some (end now n) ≡ true) ns
  aborted_all count now so_far long = ((so_far.above, so_far.made), each_place (λ n. is_some (end now n) ≡ true) ns (λ i n at. so_far.ended i n (subst (λ k. i < k) long (within ns i n at)) at))
    where
      within : (xs : List Name) (i : ℕ) (n : Name) → slice_get xs i ≡ Some n → i < length xs
      within [] i n at = absurd cc
      within (x ∷ xs) zero n at = omega arith
      within (x ∷ xs) (suc i) n at = let h = within xs i n at in omega (arith, h)
