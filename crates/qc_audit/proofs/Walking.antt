-- What is listed of open names, one entry after another.
use Rattle.std.proofs.Common.{◌≡◌, ℕ, ◌+◌, ◌<◌, inl, inr, Bool, true, false, [], ◌∷◌, ◌++◌, length, refl, sym, ap, ◌∙◌, subst, arith, append-nil}
use Rattle.std.specs.Prelude.{Option, None, Some, is_some, if◌then◌else◌}
use Rattle.std.specs.Option.{option_map}
use Rattle.std.proofs.lemmas.Bool.{false_from_ne_true}
use Rattle.std.proofs.lemmas.Option.{none-some, same_Some}
use Rattle.qc_names.specs.Name as name
use Rattle.qc_event.specs.declared.event.Entry.{Entry}
use Rattle.qc_event.specs.declared.event.Event.{Event}
use Rattle.qc_event.specs.declared.event.Event.TheVariants as event
use Rattle.qc_event.specs.declared.event.How.{How}
use Rattle.qc_event.specs.declared.event.Kind.TheVariants as kind
use Rattle.qc_event.specs.Base.{Setting}
use Rattle.qc_event.specs.History.{IsOpen, Past, Name, Begun, is_child, kind_of, start, end, end_in}
use Rattle.qc_event.specs.Legal.{Legal}
use Rattle.qc_event.proofs.LastNumber.{ends_in, front_last, is_child-last, child_front, last_longer}
use Rattle.qc_event.proofs.Later.{earlier_legal, start_still}
use Rattle.qc_event.proofs.Lawful.{Lawful, lawful, child_starts, ends_open, nonroot, parent_started}
use Rattle.qc_event.proofs.LegalOrderly.{legal_orderly}
use Rattle.qc_event.proofs.OneEntry.{Starting, end_now, none_before, open_before, some_or_none, start_stays}
use Rattle.qc_event.proofs.Orderly.{KeepsOrder}
use Rattle.qc_event.proofs.StillTold.{begun_still}
use Rattle.qc_history.specs.Places.{place}
use Rattle.qc_history.proofs.Placing.{placed, place_once}
use Rattle.qc_history.proofs.Spots.{one_of}
use Rattle.qc_serial.specs.declared.event.SerialEvent.TheVariants.{Start}
use Rattle.qc_serial.specs.Walk.{added, ended, walk}
use Rattle.qc_audit.specs.Walks.{AreWalks, GoesOn, Lists, TakesOver, listed, slot, started_user}

-- THE PLACES OF LISTS

behind : (o : Option ℕ) (i : ℕ) → option_map (λ k. k + 1) o ≡ Some i → (k : ℕ) × (o ≡ Some k) × (k + 1 ≡ i)
behind None i is = absurd cc
behind (Some k) i is = (k, refl, same_Some (k + 1) i is)

-- no two names have one place
pub slot_once : (whole : Past) (m n : Name) (i : ℕ) → slot whole m ≡ Some i → slot whole n ≡ Some i → m ≡ n
slot_once whole [] [] i h g = refl
slot_once whole [] (y ∷ n) i h g = let at = behind (place whole (y ∷ n)) i g in let first : 0 ≡ i = same_Some 0 i h in let next = at.2 in absurd (omega (arith, first, next))
slot_once whole (x ∷ m) [] i h g = let at = behind (place whole (x ∷ m)) i h in let first : 0 ≡ i = same_Some 0 i g in let next = at.2 in absurd (omega (arith, first, next))
slot_once whole (x ∷ m) (y ∷ n) i h g =
    let here = behind (place whole (x ∷ m)) i h in
    let there = behind (place whole (y ∷ n)) i g in
    let is = here.2 in
    let also = there.2 in
    let same : there.0 ≡ here.0 = omega (arith, is, also) in
    place_once whole (x ∷ m) (y ∷ n) here.0 here.1 (there.1 ∙ ap (λ k. Some k) same)

-- each started name has one
pub has_slot : (whole : Past) (n : Name) → is_some (start whole n) ≡ true → slot whole n ≡ None → ⊥
has_slot whole [] began none = absurd cc
has_slot whole (x ∷ n) began none = some_or_none (place whole (x ∷ n)) (placed whole (x ∷ n) ∙ began) (no_place (place whole (x ∷ n)) none)
  where
    no_place : (o : Option ℕ) → option_map (λ k. k + 1) o ≡ None → o ≡ None
    no_place None is = refl
    no_place (Some k) is = absurd cc

-- ENTRIES

pub started_is : (ev : Event) (c : Name) → started_user ev ≡ Some c → (session : ℕ) × (body : ℕ) × (ev ≡ event.Start c (kind.User session body))
started_is (event.Start n (kind.User session body)) c is = (session, body, ap (λ m. event.Start m (kind.User session body)) (same_Some n c is))
started_is (event.Start n (kind.Read rec)) c is = absurd cc
started_is (event.Start n (kind.Write rec value)) c is = absurd cc
started_is (event.Start n (kind.Reconf rec config)) c is = absurd cc
started_is (event.Start n kind.Access) c is = absurd cc
started_is (event.End n how) c is = absurd cc
started_is _ c is = absurd cc

module _ (setting : Setting) (whole later past : Past) (e : Entry) (parts : whole ≡ later ++ e ∷ past) (legal : Legal setting whole) (lists : Lists) (was : AreWalks whole past lists) where
  legal_here : Legal setting (e ∷ past)
  legal_here = earlier_legal setting later (e ∷ past) (subst (Legal setting) parts legal)

  law : Lawful past
  law = lawful past (legal_orderly setting past legal_here.0)

  keeps : KeepsOrder past e.event
  keeps = (legal_orderly setting (e ∷ past) legal_here).1

  -- who was started has a list's place
  began_slot : (n : Name) → is_some (start past n) ≡ true → slot whole n ≡ None → ⊥
  began_slot n began = has_slot whole n (ap (λ p. is_some (start p n)) parts ∙ begun_still later (e ∷ past) n (start_stays e past n began))

  -- THE PARENT OF WHOM THE ENTRY IS ABOUT

  module _ (c : Name) (elsewhere : (n : Name) → is_child n c ≡ false → added past (walk past) n e.event ≡ []) (at : ℕ) (here : slot whole (name.front c) ≡ Some at) (next : Lists) where
    -- its list goes on by what the entry adds
    parent_goes_on : listed next at ≡ listed lists at ++ added past (walk past) (name.front c) e.event
        → ((n : Name) (i : ℕ) → slot whole n ≡ Some i → end (e ∷ past) n ≡ None → (i ≡ at → ⊥) → listed next i ≡ listed lists i) → AreWalks whole (e ∷ past) next
    parent_goes_on goes others = record {
      each = λ n i is live. elim (one_of i at) [
        | inl there ↦
            let this : n ≡ name.front c = slot_once whole n (name.front c) at (is ∙ ap (λ k. Some k) there) here in
            ap (listed next) there ∙ goes
            ∙ ap (λ es. es ++ added past (walk past) (name.front c) e.event) (ap (listed lists) (sym there) ∙ was.each n i is (open_before e past n live))
            ∙ ap (λ m. walk past n ++ added past (walk past) m e.event) (sym this)
        | inr other ↦
            others n i is live other ∙ was.each n i is (open_before e past n live) ∙ sym (append-nil (walk past n))
            ∙ ap (λ es. walk past n ++ es) (sym (elsewhere n (false_from_ne_true (is_child n c) (λ under. other (same_Some i at (sym is ∙ ap (slot whole) (sym (child_front n c under)) ∙ here))))))
      ];
    }

  -- whoever has a parent is a child of it
  front_child : (p : Name) (j : ℕ) (c : Name) → c ≡ p ++ j ∷ [] → is_child (name.front c) c ≡ true
  front_child p j c is = subst (λ n. is_child (name.front n) n ≡ true) (sym is) (ap (λ q. is_child q (p ++ j ∷ [])) (front_last p j) ∙ is_child-last p j)

  -- the root has a list, and each parent that was started
  parent_slot : (p : Name) (j : ℕ) (c : Name) → c ≡ p ++ j ∷ [] → (0 < length p → is_some (start past p) ≡ true) → slot whole (name.front c) ≡ None → ⊥
  parent_slot p j c is began none = by p began (ap (slot whole) (sym (front_last p j)) ∙ ap (λ n. slot whole (name.front n)) (sym is) ∙ none)
    where
      by : (q : Name) → (0 < length q → is_some (start past q) ≡ true) → slot whole q ≡ None → ⊥
      by [] started without = absurd cc
      by (x ∷ q) started without = began_slot (x ∷ q) (started (omega arith)) without

  -- STARTS

  module _ (c : Name) (starts : started_user e.event ≡ Some c) (next : Lists) (goes : (at : ℕ) → slot whole (name.front c) ≡ Some at → GoesOn lists next at (Start c ∷ [])) where
    abbrev session : ℕ
    session = (started_is e.event c starts).0

    abbrev body : ℕ
    body = (started_is e.event c starts).1

    is_start : e.event ≡ event.Start c (kind.User session body)
    is_start = (started_is e.event c starts).2

    adds : (n : Name) (b : Bool) → is_child n c ≡ b → added past (walk past) n e.event ≡ (if b then Start c ∷ [] else [])
    adds n b is = ap (added past (walk past) n) is_start ∙ ap (λ t. if t then Start c ∷ [] else []) is

    pub user_starts : AreWalks whole (e ∷ past) next
    user_starts = elim (ends_in c) [
      | inl root ↦ absurd (subst (KeepsOrder past) (is_start ∙ ap (λ n. event.Start n (kind.User session body)) root) keeps)
      | inr last ↦
          let p = last.0 in
          let j = last.1 in
          let starting : Starting (p ++ j ∷ []) e.event = (kind.User session body, is_start ∙ ap (λ n. event.Start n (kind.User session body)) last.2) in
          with_slot p j last.2 (slot whole (name.front c)) refl (parent_slot p j c last.2 (λ pos. (child_starts past e p j pos starting keeps).going.is_open.started))
    ]
      where
        with_slot : (p : Name) (j : ℕ) → c ≡ p ++ j ∷ [] → (o : Option ℕ) → slot whole (name.front c) ≡ o → (slot whole (name.front c) ≡ None → ⊥) → AreWalks whole (e ∷ past) next
        with_slot p j is None none has = absurd (has none)
        with_slot p j is (Some at) here has =
            parent_goes_on c (λ n no. adds n false no) at here next
            ((goes at here).here ∙ ap (λ es. listed lists at ++ es) (sym (adds (name.front c) true (front_child p j c is))))
            (λ n i slot_is live other. (goes at here).others i other)

  -- ENDS

  -- what a name was started for stays the same
  same_start : (c : Name) → is_some (start past c) ≡ true → start whole c ≡ start past c
  same_start c began = by (start past c) refl began
    where
      by : (o : Option Begun) → start past c ≡ o → is_some o ≡ true → start whole c ≡ start past c
      by None is some = absurd cc
      by (Some b) is some = ap (λ p. start p c) parts ∙ start_still later (e ∷ past) c b (start_still (e ∷ []) past c b is) ∙ sym is

  module _ (c : Name) (how : How) (is_end : e.event ≡ event.End c how) (next : Lists)
      (goes : (at : ℕ) → slot whole (name.front c) ≡ Some at → (own : ℕ) → slot whole c ≡ Some own → TakesOver lists next own at (ended (kind_of whole c) (listed lists own) c how)) where
    opened : IsOpen past c
    opened = ends_open past e c how is_end keeps

    adds_end : (n : Name) (b : Bool) → is_child n c ≡ b → added past (walk past) n e.event ≡ (if b then ended (kind_of past c) (walk past c) c how else [])
    adds_end n b is = ap (added past (walk past) n) is_end ∙ ap (λ t. if t then ended (kind_of past c) (walk past c) c how else []) is

    -- whoever is still open is another
    other_open : (n : Name) → end (e ∷ past) n ≡ None → n ≡ c → ⊥
    other_open n live this = none-some how (sym (none_before (end past n) (end_in n e.event) live).1 ∙ ap (λ m. end_in m e.event) this ∙ end_now c e.event how is_end)

    pub name_ends : AreWalks whole (e ∷ past) next
    name_ends = elim (ends_in c) [
      | inl root ↦ let long = nonroot past c law opened.started in absurd (omega (arith, long, ap length root))
      | inr last ↦
          let p = last.0 in
          let j = last.1 in
          with_slots p j last.2 (slot whole (name.front c)) refl (slot whole c) refl
          (parent_slot p j c last.2 (λ pos. parent_started past p j law pos (ap (λ n. is_some (start past n)) (sym last.2) ∙ opened.started)))
    ]
      where
        with_slots : (p : Name) (j : ℕ) → c ≡ p ++ j ∷ [] → (o : Option ℕ) → slot whole (name.front c) ≡ o → (q : Option ℕ) → slot whole c ≡ q → (slot whole (name.front c) ≡ None → ⊥) → AreWalks whole (e ∷ past) next
        with_slots p j is None none q own_is has = absurd (has none)
        with_slots p j is (Some at) here None none has = absurd (began_slot c opened.started none)
        with_slots p j is (Some at) here (Some own) own_is has =
            let over = goes at here own own_is in
            let apart : at ≡ own → ⊥ = λ same. last_longer p j (sym is ∙ slot_once whole c (name.front c) own own_is (here ∙ ap (λ k. Some k) same) ∙ ap name.front is ∙ front_last p j) in
            let inner = was.each c own own_is opened.not_ended in
            parent_goes_on c (λ n no. adds_end n false no) at here next
            (over.here apart
            ∙ ap (λ o. listed lists at ++ ended (option_map (λ (b : Begun). b.kind) o) (listed lists own) c how) (same_start c opened.started)
            ∙ ap (λ es. listed lists at ++ ended (kind_of past c) es c how) inner
            ∙ ap (λ es. listed lists at ++ es) (sym (adds_end (name.front c) true (front_child p j c is))))
            (λ n i slot_is live other. over.others i other (λ same. other_open n live (slot_once whole n c own (slot_is ∙ ap (λ k. Some k) same) own_is)))

-- at the end what is listed of the root is its walk
pub root_walk : (setting : Setting) (whole : Past) (lists : Lists) → Legal setting whole → AreWalks whole whole lists → listed lists 0 ≡ walk whole []
root_walk setting whole lists legal are = are.each [] 0 refl (lawful whole (legal_orderly setting whole legal)).no_root_end
