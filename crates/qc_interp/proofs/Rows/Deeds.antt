-- What a transaction did while branches ran: their tries, each branch's in order.
use Rattle.std.proofs.Common.{◌≡◌, ℕ, Bool, true, false, [], ◌∷◌, ◌++◌, map, refl, sym, ap, ◌∙◌, arith, append-nil, append_assoc, filter}
use mathlib.Core.Bool.{true≢false}
use Rattle.std.specs.Prelude.{Option, None, Some, option_map, option_to_list, ◌&&◌, not, if◌then◌else◌}
use Rattle.std.specs.List.{AllByRecursion}
use Rattle.std.proofs.lemmas.List.{map-append}
use Rattle.std.proofs.lemmas.List.Elements.{filter-append}
use Rattle.qc_event.specs.declared.event.Entry.{Entry}
use Rattle.qc_event.specs.declared.event.Event.{Event}
use Rattle.qc_event.specs.declared.event.Event.TheVariants as event
use Rattle.qc_event.specs.History.{Past, Name, children, child_in, is_child}
use Rattle.qc_event.proofs.LastNumber.{child_longer}
use Rattle.qc_event.proofs.OneEntry.{if_is}
use Rattle.qc_script.specs.Client.{about}
use Rattle.qc_interp.specs.Adding.{asks_above, stays_in}
use Rattle.qc_interp.specs.Deeds.{Deed, deeds, deed_in}
use Rattle.qc_interp.specs.Rows.{is_try, tries_among}
use Rattle.qc_interp.specs.Turns.{is_done}
use Rattle.qc_interp.proofs.Rows.Leaves.{longer_other, not_shorter}
use Rattle.qc_interp.proofs.Rows.Tries.{stays_low, one_child}
use Rattle.qc_interp.proofs.Following.Turning.{itself}

-- AMONG SOME ENTRIES

-- where the name marks nothing its deeds are the children that it starts
abbrev pub StartsAlone : Name → Entry → Type 0
StartsAlone n e = (past : Past) → deed_in past n e.event ≡ option_map Deed.child (child_in n e.event)

listed : {X Y : Type 0} (f : X → Y) (o : Option X) → option_to_list (option_map f o) ≡ map f (option_to_list o)
listed f None = refl
listed f (Some x) = refl

pub deeds_started : (n : Name) (es h : Past) → AllByRecursion (StartsAlone n) es → deeds (es ++ h) n ≡ deeds h n ++ map Deed.child (children es n)
deeds_started n [] h all = sym (append-nil _)
deeds_started n (e ∷ es) h all =
    ap (λ l. l ++ option_to_list (deed_in (es ++ h) n e.event)) (deeds_started n es h all.1)
    ∙ ap (λ o. (deeds h n ++ map Deed.child (children es n)) ++ option_to_list o) (all.0 (es ++ h))
    ∙ ap (λ l. (deeds h n ++ map Deed.child (children es n)) ++ l) (listed Deed.child (child_in n e.event))
    ∙ append_assoc (deeds h n) (map Deed.child (children es n)) (map Deed.child (option_to_list (child_in n e.event)))
    ∙ ap (λ l. deeds h n ++ l) (sym (map-append Deed.child (children es n) (option_to_list (child_in n e.event))))

-- an entry that stays with a child of a name marks nothing for that
pub starts_alone : (of t : Name) (e : Entry) → is_child of t ≡ true → stays_in t e ≡ true → StartsAlone of e
starts_alone of t e child stays = by_event e.event refl
  where
    by_event : (ev : Event) → e.event ≡ ev → (past : Past) → deed_in past of ev ≡ option_map Deed.child (child_in of ev)
    by_event (event.Start m k) at past = by_child (is_child of m)
      where
        by_child : (b : Bool) → (if b then Some (Deed.child m) else None) ≡ option_map Deed.child (if b then Some m else None)
        by_child true = refl
        by_child false = refl
    by_event (event.Mark m session) at past =
        ap (λ b. if b && not (is_done past of) then Some (Deed.mark session) else None) (longer_other m of (let l = not_shorter t m (stays_low t m e stays (ap about at) (ap (asks_above t) at)) in omega (arith, l, child_longer of t child)))
    by_event _ at past = refl

-- a child that an entry starts which stays with a child is that one
pub starts_it : (of t m : Name) (e : Entry) → is_child of t ≡ true → stays_in t e ≡ true → child_in of e.event ≡ Some m → m ≡ t
starts_it of t m e child stays is = by_event e.event refl is
  where
    by_event : (ev : Event) → e.event ≡ ev → child_in of ev ≡ Some m → m ≡ t
    by_event (event.Start n k) at is =
        let one = if_is (is_child of n) n m is in
        sym one.1 ∙ one_child of n t n one.0 child (itself n) (stays_low t n e stays (ap about at) (ap (asks_above t) at))
    by_event (event.Ask ask) at is = absurd cc
    by_event (event.Gone n why) at is = absurd cc
    by_event (event.Granted copy grant) at is = absurd cc
    by_event (event.Refused n copy refusal) at is = absurd cc
    by_event (event.Unable n why) at is = absurd cc
    by_event (event.Mark n session) at is = absurd cc
    by_event (event.Ready n) at is = absurd cc
    by_event (event.End n how) at is = absurd cc

-- WHOSE TRIES THEY ARE

-- of the children that are kept those are tries of a body that only some entries start
module _ (h : Past) (number : ℕ) (n : Name) (few keep : Entry → Bool) where
  abbrev pub Sorts : Entry → Type 0
  Sorts e = (few e ≡ true → keep e ≡ true) × (keep e ≡ true → (m : Name) → child_in n e.event ≡ Some m → is_try h number (Deed.child m) ≡ few e)

  pub sorted_tries : (es : Past) → AllByRecursion (λ e. (few e ≡ true → keep e ≡ true) × (keep e ≡ true → (m : Name) → child_in n e.event ≡ Some m → is_try h number (Deed.child m) ≡ few e)) es
      → tries_among h number (map Deed.child (children (filter keep es) n)) ≡ map Deed.child (children (filter few es) n)
  sorted_tries [] all = refl
  sorted_tries (e ∷ es) all = by_tests (few e) (keep e) refl refl (sorted_tries es all.1)
    where
      more : (x : Bool) → few e ≡ x → keep e ≡ true → (o : Option Name) → child_in n e.event ≡ o → tries_among h number (map Deed.child (children (filter keep es) n)) ≡ map Deed.child (children (filter few es) n)
          → tries_among h number (map Deed.child (children (filter keep es) n ++ option_to_list o)) ≡ map Deed.child (if x then children (filter few es) n ++ option_to_list o else children (filter few es) n)
      more x is kept None at rest = ap (λ l. tries_among h number (map Deed.child l)) (append-nil _) ∙ rest ∙ ap (map Deed.child) (sym (by_test x))
        where
          by_test : (b : Bool) → (if b then children (filter few es) n ++ [] else children (filter few es) n) ≡ children (filter few es) n
          by_test true = append-nil _
          by_test false = refl
      more x is kept (Some m) at rest =
          ap (tries_among h number) (map-append Deed.child (children (filter keep es) n) (m ∷ []))
          ∙ filter-append (is_try h number) (map Deed.child (children (filter keep es) n)) (Deed.child m ∷ [])
          ∙ ap (λ l. l ++ tries_among h number (Deed.child m ∷ [])) rest
          ∙ by_test x (all.0.1 kept m at ∙ is)
        where
          by_test : (b : Bool) → is_try h number (Deed.child m) ≡ b → map Deed.child (children (filter few es) n) ++ tries_among h number (Deed.child m ∷ []) ≡ map Deed.child (if b then children (filter few es) n ++ m ∷ [] else children (filter few es) n)
          by_test true so = ap (λ (b : Bool). map Deed.child (children (filter few es) n) ++ (if b then Deed.child m ∷ [] else [])) so ∙ sym (map-append Deed.child (children (filter few es) n) (m ∷ []))
          by_test false so = ap (λ (b : Bool). map Deed.child (children (filter few es) n) ++ (if b then Deed.child m ∷ [] else [])) so ∙ append-nil _

      by_tests : (x y : Bool) → few e ≡ x → keep e ≡ y → tries_among h number (map Deed.child (children (filter keep es) n)) ≡ map Deed.child (children (filter few es) n)
          → tries_among h number (map Deed.child (children (if y then e ∷ filter keep es else filter keep es) n)) ≡ map Deed.child (children (if x then e ∷ filter few es else filter few es) n)
      by_tests true false is also rest = absurd (true≢false (sym (all.0.0 is) ∙ also))
      by_tests false false is also rest = rest
      by_tests true true is also rest = more true is also (child_in n e.event) refl rest
      by_tests false true is also rest = more false is also (child_in n e.event) refl rest
