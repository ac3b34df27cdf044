-- Who was aborted below a top, one entry after another, and all of them one after another.
use Rattle.std.proofs.Common.{◌≡◌, ℕ, ◌+◌, ◌<◌, ◌≤◌, Bool, true, false, List, [], ◌∷◌, ◌++◌, length, reverse, refl, sym, ap, ◌∙◌, subst, arith, append-nil, append_assoc}
use mathlib.Core.Bool.{true≢false}
use Rattle.std.specs.Prelude.{Option, None, Some, is_some, ◌==◌, ◌&&◌, not, if◌then◌else◌, option_to_list, slice_get, slice_index, slice_set}
use Rattle.std.specs.Option.{option_map}
use Rattle.std.proofs.lemmas.Bool.{eqb-true, false_from_ne_true}
use Rattle.std.proofs.lemmas.List.{reverse-append, length-reverse}
use Rattle.std.proofs.lemmas.Option.{none-some, same_Some, slice_get_within}
use Rattle.qc_names.specs.Name as name
use Rattle.qc_event.specs.Base.{Setting}
use Rattle.qc_event.specs.declared.event.Entry.{Entry}
use Rattle.qc_event.specs.declared.event.Event.{Event}
use Rattle.qc_event.specs.declared.event.Event.TheVariants as event
use Rattle.qc_event.specs.declared.event.How.TheVariants.{Abort}
use Rattle.qc_event.specs.Dead.{outcome, is_aborted}
use Rattle.qc_event.specs.History.{Past, Name, start, every}
use Rattle.qc_event.specs.Legal.{Legal}
use Rattle.qc_event.specs.Listed.{aborted_in, aborted_below}
use Rattle.qc_event.proofs.LegalOrderly.{legal_orderly}
use Rattle.qc_event.proofs.Lawful.{lawful, ends_open}
use Rattle.qc_event.proofs.Lineage.{above_started}
use Rattle.qc_event.proofs.OneEntry.{Starting, not_some, some_or_none, start_stays}
use Rattle.qc_history.specs.Places.{starts_in, place}
use Rattle.qc_history.proofs.Looking.{unstarted}
use Rattle.qc_history.specs.Chains.{last_of, AreLinked}
use Rattle.qc_history.specs.Aborts.{AreAbortsOf, HaveRoomFor, abort_top, last_abort}
use Rattle.qc_history.proofs.Beside.{beside_stays, beside_set, place_stays}
use Rattle.qc_history.proofs.Linking.{entry_there, last_here, last_stays, last_few, linked_stays, linked_set, none_left, one_back, link_back, Step}

-- TOPS

abort_no_start : (ev : Event) (x : ℕ) → abort_top ev ≡ Some x → starts_in ev ≡ 0
abort_no_start (event.Start n k) x is = absurd cc
abort_no_start _ x is = refl

-- the top of whom an entry aborts was started
pub abort_started : (setting : Setting) (past : Past) (e : Entry) (x : ℕ) → Legal setting (e ∷ past) → abort_top e.event ≡ Some x → is_some (start past (x ∷ [])) ≡ true
abort_started setting past e x legal is = by_event e.event refl is
  where
    by_event : (ev : Event) → e.event ≡ ev → abort_top ev ≡ Some x → is_some (start past (x ∷ [])) ≡ true
    by_event (event.End (y ∷ z ∷ r) (Abort c)) ev top =
        let orderly = legal_orderly setting (e ∷ past) legal in
        let began = (ends_open past e (y ∷ z ∷ r) (Abort c) ev orderly.1).started in
        ap (λ n. is_some (start past (n ∷ []))) (sym (same_Some y x top)) ∙ above_started past (y ∷ []) (z ∷ r) (lawful past orderly.0) (omega arith) began
    by_event _ ev top = absurd cc

-- below who was not started no one was aborted
pub none_below : (setting : Setting) (past : Past) (x : ℕ) → Legal setting past → start past (x ∷ []) ≡ None → last_of abort_top x past ≡ 0
none_below setting [] x legal none = refl
none_below setting (e ∷ past) x legal none =
    let before : start past (x ∷ []) ≡ None = not_some (start past (x ∷ [])) (λ h. some_or_none (start (e ∷ past) (x ∷ [])) (start_stays e past (x ∷ []) h) none) in
    sym (last_stays abort_top e past x (λ is. some_or_none (start past (x ∷ [])) (abort_started setting past e x legal is) before))
    ∙ none_below setting past x legal.0 before

-- THE LAST ABORT

-- below a top whose number is another than the entry's the last stays
abort_stays : (e : Entry) (past : Past) (n : Name) → ((x : ℕ) → n ≡ x ∷ [] → abort_top e.event ≡ Some x → ⊥) → last_abort past n ≡ last_abort (e ∷ past) n
abort_stays e past [] other = refl
abort_stays e past (x ∷ []) other = last_stays abort_top e past x (other x refl)
abort_stays e past (x ∷ y ∷ r) other = refl

pub unplaced_none : (setting : Setting) (past : Past) (n : Name) → Legal setting past → place past n ≡ None → last_abort past n ≡ 0
unplaced_none setting past [] legal none = refl
unplaced_none setting past (x ∷ []) legal none = none_below setting past x legal (unstarted past (x ∷ []) none)
unplaced_none setting past (x ∷ y ∷ r) legal none = refl

no_key : (ev : Event) (n : Name) (x : ℕ) → Starting n ev → abort_top ev ≡ Some x → ⊥
no_key ev n x s is = none-some x (sym (ap abort_top s.1) ∙ is)

module _ (setting : Setting) (e : Entry) (past : Past) (lasts before : List ℕ) (was : AreAbortsOf past lasts before) (legal : Legal setting (e ∷ past)) where
  -- no one is aborted below a top
  pub none_aborted : abort_top e.event ≡ None → AreAbortsOf (e ∷ past) lasts before
  none_aborted none = record {
    last = beside_stays last_abort e past lasts was.last
        (λ n began. abort_stays e past n (λ x is top. none-some x (sym none ∙ top)))
        (λ n unplaced starting. sym (abort_stays e past n (λ x is top. none-some x (sym none ∙ top))) ∙ unplaced_none setting past n legal.0 unplaced);
    linked = linked_stays abort_top e past before none was.linked;
  }

  module _ (x : ℕ) (is : abort_top e.event ≡ Some x) where
    pub top_before : (at : ℕ) → place (e ∷ past) (x ∷ []) ≡ Some at → place past (x ∷ []) ≡ Some at
    top_before at here = place_stays e past (x ∷ []) at (abort_no_start e.event x is) here

    pub top_placed : place (e ∷ past) (x ∷ []) ≡ None → ⊥
    top_placed none = some_or_none (start (e ∷ past) (x ∷ [])) (start_stays e past (x ∷ []) (abort_started setting past e x legal is)) (unstarted (e ∷ past) (x ∷ []) none)

    -- one is
    pub one_aborted : (at now : ℕ) → place past (x ∷ []) ≡ Some at → now ≡ length past → HaveRoomFor e past lasts before → AreAbortsOf (e ∷ past) (slice_set lasts at (now + 1)) (slice_set before now (slice_index lasts at))
    one_aborted at now here long room = record {
      last = beside_set last_abort e past lasts (x ∷ []) at (now + 1) was.last (room.top (x ∷ []) at (ap (option_map (λ (k : ℕ). k ∷ [])) is) here) (abort_no_start e.event x is) here
          (ap (λ n. n + 1) long ∙ last_here abort_top e past x is)
          (λ n other. abort_stays e past n (λ y named top. other (named ∙ ap (λ k. k ∷ []) (same_Some y x (sym top ∙ is)))));
      linked = linked_set abort_top e past before x now (slice_index lasts at) was.linked is (room.here x is) long (was.last.at_place (x ∷ []) at here);
    }

-- what an entry that aborts below no top has to do with tops
pub top_none : (o : Option ℕ) → option_map (λ (x : ℕ). x ∷ []) o ≡ None → o ≡ None
top_none None h = refl
top_none (Some x) h = absurd cc

pub top_some : (o : Option ℕ) (top : Name) → option_map (λ (x : ℕ). x ∷ []) o ≡ Some top → (x : ℕ) × (o ≡ Some x) × (top ≡ x ∷ [])
top_some None top h = absurd cc
top_some (Some x) top h = (x, refl, sym (same_Some (x ∷ []) top h))

-- WHO IS LISTED

-- only who was aborted below the top is listed
pub listed_only : (past : Past) (x : ℕ) (e : Entry) → (abort_top e.event ≡ Some x → ⊥) → aborted_in past (x ∷ []) e.event ≡ None
listed_only past x e other = by_event e.event other
  where
    if_no : (b c : Bool) (n : Name) → b ≡ false → (if (b && true) && not (b && false) && c then Some n else None) ≡ None
    if_no true c n h = absurd (true≢false h)
    if_no false c n h = refl

    not_both : (b c : Bool) (n : Name) → (if (b && true) && not (b && true) && c then Some n else None) ≡ None
    not_both true c n = refl
    not_both false c n = refl

    by_event : (ev : Event) → (abort_top ev ≡ Some x → ⊥) → aborted_in past (x ∷ []) ev ≡ None
    by_event (event.End [] (Abort c)) other = refl
    by_event (event.End (y ∷ []) (Abort c)) other = not_both (x == y) (not (is_aborted (outcome past []))) (y ∷ [])
    by_event (event.End (y ∷ z ∷ r) (Abort c)) other =
        if_no (x == y) (not (is_aborted (outcome past (name.front (y ∷ z ∷ r))))) (y ∷ z ∷ r) (false_from_ne_true (x == y) (λ h. other (ap (λ k. Some k) (sym (eqb-true x y h)))))
    by_event _ other = refl

-- So far: those that are found, the latest first, and those before the entry that comes next.
pub record IsMidway (past : Past) (top : Name) (next : ℕ) (found : List Name) : Type 0 where
  pub newer : Past
  pub older : Past
  pub parts : past ≡ newer ++ older
  pub comes : next ≡ last_abort older top
  pub told : aborted_below past top ≡ every (λ e. aborted_in past top e.event) older ++ reverse found

-- one entry back
pub record GoesOn (past : Past) (top : Name) (before : List ℕ) (i : ℕ) (found : List Name) : Type 0 where
  pub inside : i < length past
  pub smaller : slice_index before i ≤ i
  pub goes_on : (e : Entry) → slice_get (reverse past) i ≡ Some e → IsMidway past top (slice_index before i) (found ++ option_to_list (aborted_in past top e.event))

turned : (found : List Name) (o : Option Name) → option_to_list o ++ reverse found ≡ reverse (found ++ option_to_list o)
turned found None = ap reverse (sym (append-nil found))
turned found (Some n) = sym (reverse-append found (n ∷ []))

pub midway_first : (past : Past) (top : Name) → IsMidway past top (last_abort past top) []
midway_first past top = record { newer = []; older = past; parts = refl; comes = refl; told = sym (append-nil (aborted_below past top)) }

module _ (past : Past) (lasts before : List ℕ) (was : AreAbortsOf past lasts before) where
  pub one_further : (top : Name) (next i : ℕ) (found : List Name) → length top ≡ 1 → IsMidway past top next found → next ≡ i + 1 → GoesOn past top before i found
  one_further [] next i found one m is = absurd (omega (arith, one))
  one_further (x ∷ y ∷ r) next i found one m is = absurd (omega (arith, one))
  one_further (x ∷ []) next i found one m is =
      let f : Entry → Option Name = λ e. aborted_in past (x ∷ []) e.event in
      let s : Step abort_top f x i m.older = one_back abort_top f x (λ e other. listed_only past x e other) m.older i (sym m.comes ∙ is) in
      let parts : past ≡ (m.newer ++ s.newer) ++ s.here ∷ s.older = m.parts ∙ ap (λ p. m.newer ++ p) s.parts ∙ sym (append_assoc m.newer s.newer (s.here ∷ s.older)) in
      let there : slice_get (reverse past) i ≡ Some s.here = subst (λ j. slice_get (reverse past) j ≡ Some s.here) s.place (ap (λ p. slice_get (reverse p) (length s.older)) parts ∙ entry_there (m.newer ++ s.newer) s.older s.here) in
      let back : slice_index before i ≡ last_of abort_top x s.older = ap (slice_index before) (sym s.place) ∙ link_back abort_top (m.newer ++ s.newer) s.older s.here before x (subst (λ p. AreLinked abort_top p before) parts was.linked) s.its_key in
      let few = last_few abort_top s.older x in
      record {
        inside = omega (arith, slice_get_within (reverse past) i s.here there, length-reverse past);
        smaller = omega (arith, back, few, s.place);
        goes_on = λ e at. record {
          newer = (m.newer ++ s.newer) ++ s.here ∷ [];
          older = s.older;
          parts = parts ∙ sym (append_assoc (m.newer ++ s.newer) (s.here ∷ []) s.older);
          comes = back;
          told =
              m.told
              ∙ ap (λ ns. ns ++ reverse found) s.answers
              ∙ append_assoc (every f s.older) (option_to_list (f s.here)) (reverse found)
              ∙ ap (λ ns. every f s.older ++ ns) (turned found (f s.here))
              ∙ ap (λ (h : Entry). every f s.older ++ reverse (found ++ option_to_list (f h))) (same_Some s.here e (sym there ∙ at));
        };
      }

  -- where nothing comes next, all are found
  pub all_found : (top : Name) (next : ℕ) (found : List Name) → length top ≡ 1 → IsMidway past top next found → next ≡ 0 → reverse found ≡ aborted_below past top
  all_found [] next found one m zero = absurd (omega (arith, one))
  all_found (x ∷ y ∷ r) next found one m zero = absurd (omega (arith, one))
  all_found (x ∷ []) next found one m zero =
      sym (m.told ∙ ap (λ ns. ns ++ reverse found) (none_left abort_top (λ e. aborted_in past (x ∷ []) e.event) x (λ e other. listed_only past x e other) m.older (sym m.comes ∙ zero)))
