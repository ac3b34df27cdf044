-- Of branches at once only the first few were begun, and made nothing but their starts.
use Rattle.std.proofs.Common.{◌≡◌, ℕ, zero, suc, ◌<◌, arith, Bool, true, false, List, [], ◌∷◌, ◌++◌, length, map, refl, sym, ap, ◌∙◌, subst, append-nil, append_assoc}
use mathlib.Core.Bool.{true≢false}
use Rattle.std.specs.Prelude.{None, Some, slice_get, option_map, option_to_list, if◌then◌else◌}
use Rattle.std.specs.List.{AllByRecursion, list_all}
use Rattle.std.specs.Option.{option_map_or}
use Rattle.std.proofs.lemmas.Bool.{eq-eqb, false_from_ne_true}
use Rattle.std.proofs.lemmas.List.{append_cancel_right, length-append}
use Rattle.std.proofs.lemmas.List.Elements.{filter-append}
use Rattle.qc_event.specs.declared.event.Entry.{Entry}
use Rattle.qc_event.specs.declared.event.Kind.TheVariants as kind
use Rattle.qc_event.specs.History.{Past, Name, Begun, end, is_ready, children, kind_of}
use Rattle.qc_event.proofs.Absent.{same_itself}
use Rattle.qc_event.proofs.LastNumber.{no_child_length}
use Rattle.qc_script.specs.Client.{Client, mine, is_own}
use Rattle.qc_script.specs.Plan.{Numbered}
use Rattle.qc_interp.specs.Asking.{IsAskedBy}
use Rattle.qc_interp.specs.Branches.{Branch, with_all, start_of, RanRow}
use Rattle.qc_interp.specs.Deeds.{Deed, deeds, OfChild}
use Rattle.qc_interp.specs.Reach.{Reach}
use Rattle.qc_interp.specs.Rows.{is_of_body, is_try}
use Rattle.qc_event.proofs.Lists.{get_first}
use Rattle.qc_interp.proofs.Following.Alike.{AgreesAt}
use Rattle.qc_interp.proofs.Branching.Branches.{AreFirstTries}
use Rattle.qc_interp.proofs.Listing.Places.{at_place, each_place, kept_at, kept_place}
use Rattle.qc_interp.proofs.Rows.Here.{here, row_agrees, none_kept}
use Rattle.qc_interp.proofs.Rows.Leaves.{kept_each}
use Rattle.qc_interp.proofs.Rows.Stands.{firsts_first, first_try}
use Rattle.qc_interp.proofs.Rows.Tries.{IsTry, begun_at, try_at, owner}
use Rattle.qc_interp.proofs.Following.Turning.{itself}

-- a branch's client made its first start, and nothing else
abbrev pub HasOnlyBegun : Client → Past → Branch → Type 0
HasOnlyBegun c now b = mine b.client now ≡ start_of c b ∷ []

-- the first deeds are the first tries of branches
pub first_tries : (h : Past) (bs : List Branch) (others : List Numbered) → AllByRecursion (λ (b : Branch). is_try h b.body.number (Deed.child b.first) ≡ true) bs
    → AreFirstTries h (map (λ (b : Branch). b.body) bs ++ others) (map Deed.child (map (λ (b : Branch). b.first) bs))
first_tries h [] others all = tt
first_tries h (b ∷ bs) others all = (all.0, first_tries h bs others all.1)

pub of_firsts : (P : Name → Type 0) (bs : List Branch) → AllByRecursion (λ (b : Branch). P b.first) bs → AllByRecursion (OfChild P) (map Deed.child (map (λ (b : Branch). b.first) bs))
of_firsts P [] all = tt
of_firsts P (b ∷ bs) all = (all.0, of_firsts P bs all.1)

length_firsts : (bs : List Branch) → length (map Deed.child (map (λ (b : Branch). b.first) bs)) ≡ length bs
length_firsts [] = refl
length_firsts (b ∷ bs) = ap suc (length_firsts bs)

length_bodies : (bs : List Branch) → length (map (λ (b : Branch). b.body) bs) ≡ length bs
length_bodies [] = refl
length_bodies (b ∷ bs) = ap suc (length_bodies bs)

module _ (reach : Reach) (Stopped : Branch → Type 0) (c : Client) (of : Name) (before shown now : Past) (bs : List Branch) (row : RanRow reach Stopped c of before shown now bs) (only : AllByRecursion (HasOnlyBegun c now) bs) where
  abbrev d : Client
  d = with_all c bs

  only_at : (i : ℕ) (b : Branch) → slice_get bs i ≡ Some b → HasOnlyBegun c now b
  only_at i b at = at_place (HasOnlyBegun c now) bs i b only at

  -- nothing was made since the starts were shown
  none_since : (i : ℕ) (b : Branch) → slice_get bs i ≡ Some b → mine b.client row.since.newer ≡ []
  none_since i b at =
      append_cancel_right (mine b.client row.since.newer) [] (start_of c b ∷ [])
      (ap (λ l. mine b.client row.since.newer ++ l) (sym (begun_at reach Stopped c of before shown now bs row i b at).made) ∙ sym (filter-append (λ (e : Entry). is_own b.client e.seat) row.since.newer shown) ∙ ap (mine b.client) (sym row.since.grown) ∙ only_at i b at)

  newer_is : row.made.newer ≡ row.since.newer ++ row.shown_later.newer
  newer_is = append_cancel_right row.made.newer (row.since.newer ++ row.shown_later.newer) before (sym row.made.grown ∙ row.since.grown ∙ ap (λ l. row.since.newer ++ l) row.shown_later.grown ∙ sym (append_assoc row.since.newer row.shown_later.newer before))

  nothing_since : mine d row.since.newer ≡ []
  nothing_since = none_kept (λ (e : Entry). is_own d e.seat) row.since.newer (each_place _ row.since.newer (λ k e is. false_from_ne_true (is_own d e.seat) (λ own.
      let o = owner reach Stopped c of before shown now bs row k e (ap (λ l. slice_get l k) newer_is ∙ get_first row.since.newer row.shown_later.newer k e is) own in
      true≢false (sym (kept_at (λ x. false) (λ (x : Entry). is_own o.one.client x.seat) row.since.newer k e (ap (list_all (λ x. false)) (none_since o.place o.one o.at)) is o.owns)))))

  -- the deeds are the first tries
  pub only_firsts : here reach Stopped c of before shown now bs row ≡ map Deed.child (map (λ (b : Branch). b.first) bs)
  only_firsts = firsts_first reach Stopped c of before shown now bs row ∙ ap (λ l. map Deed.child (map (λ (b : Branch). b.first) bs) ++ map Deed.child (children l of)) nothing_since ∙ append-nil _

  pub first_is_try : (i : ℕ) (b : Branch) → slice_get bs i ≡ Some b → IsTry of now b b.first
  first_is_try i b at = try_at reach Stopped c of before shown now bs row i b at zero b.first (ap (λ l. slice_get l zero) (first_try reach Stopped c of before shown now bs row i b at))

  agrees_first : (i : ℕ) (b : Branch) → slice_get bs i ≡ Some b → AgreesAt (start_of c b ∷ []) (mine d now) b.first
  agrees_first i b at = subst (λ h. AgreesAt h (mine d now) b.first) (only_at i b at) (row_agrees reach Stopped c of before shown now bs row i b at b.first (first_is_try i b at) b.first (itself b.first))

  pub first_kind : (i : ℕ) (b : Branch) → slice_get bs i ≡ Some b → kind_of (mine (with_all c bs) now) b.first ≡ Some (kind.User c.session b.body.number)
  first_kind i b at =
      sym (agrees_first i b at).kind
      ∙ ap (λ (x : Bool). option_map (λ (y : Begun). y.kind) (if x then Some (record { seat = b.client.number; kind = kind.User c.session b.body.number }) else None)) (same_itself b.first)

  pub first_unended : (i : ℕ) (b : Branch) → slice_get bs i ≡ Some b → end (mine (with_all c bs) now) b.first ≡ None
  first_unended i b at = sym (agrees_first i b at).ended

  pub first_unready : (i : ℕ) (b : Branch) → slice_get bs i ≡ Some b → is_ready (mine (with_all c bs) now) b.first ≡ false
  first_unready i b at = sym (agrees_first i b at).ready

  pub first_idle : (i : ℕ) (b : Branch) → slice_get bs i ≡ Some b → deeds (mine (with_all c bs) now) b.first ≡ []
  first_idle i b at =
      sym (agrees_first i b at).deeds
      ∙ ap (λ (x : Bool). option_to_list (if x then Some (Deed.child b.first) else None)) (no_child_length b.first b.first (λ h. omega (arith, h)))

  pub first_known : (i : ℕ) (b : Branch) → slice_get bs i ≡ Some b → is_try (mine (with_all c bs) now) b.body.number (Deed.child b.first) ≡ true
  first_known i b at = ap (λ o. option_map_or (is_of_body b.body.number) o false) (first_kind i b at) ∙ eq-eqb b.body.number b.body.number refl

  pub are_first : (others : List Numbered) → AreFirstTries (mine (with_all c bs) now) (map (λ (b : Branch). b.body) bs ++ others) (map Deed.child (map (λ (b : Branch). b.first) bs))
  are_first others = first_tries (mine d now) bs others (each_place _ bs first_known)

  -- fewer were begun than bodies stand there
  pub fewer : (others : List Numbered) → 0 < length others → length (map Deed.child (map (λ (b : Branch). b.first) bs)) < length (map (λ (b : Branch). b.body) bs ++ others)
  fewer others some =
      omega (arith, some, length_firsts bs, length_bodies bs, length-append (map (λ (b : Branch). b.body) bs) others)

  -- each entry is a start, and asks for nothing
  pub starts_only : (Q : Name → Name → Type 0) → AllByRecursion (λ (e : Entry). IsAskedBy Q e.event) (mine (with_all c bs) row.made.newer)
  starts_only Q = kept_each (λ (e : Entry). IsAskedBy Q e.event) (λ (e : Entry). IsAskedBy Q e.event) (λ (e : Entry). is_own d e.seat) row.made.newer (λ e h. h) (each_place _ row.made.newer (λ k e is own.
      let o = owner reach Stopped c of before shown now bs row k e is own in
      kept_place (λ (y : Entry). IsAskedBy Q y.event) (λ (y : Entry). is_own o.one.client y.seat) now k e (subst (AllByRecursion (λ (y : Entry). IsAskedBy Q y.event)) (sym (only_at o.place o.one o.at)) (tt, tt))
      (ap (λ l. slice_get l k) row.made.grown ∙ get_first row.made.newer before k e is) o.owns))
