-- Branches at once: whose tries are whose, and which entries are about them.
use Rattle.std.proofs.Common.{◌≡◌, ◌⊎◌, inl, inr, ℕ, zero, suc, ◌<◌, Bool, true, false, List, [], ◌∷◌, ◌++◌, length, refl, sym, ap, ◌∙◌, subst, arith, append_assoc}
use mathlib.Core.Bool.{true≢false}
use Rattle.std.specs.Prelude.{Option, None, Some, is_some, slice_get, ◌==◌, ◌||◌}
use Rattle.std.specs.List.{AllByRecursion, IsDistinct, list_all, list_any}
use Rattle.std.specs.Option.{option_map_or}
use Rattle.std.proofs.lemmas.Bool.{and_parts, eqb-true, or_cases, or_right, false_from_ne_true}
use Rattle.qc_event.specs.declared.event.Cause.TheVariants.{Asked}
use Rattle.qc_event.specs.declared.event.Entry.{Entry}
use Rattle.qc_event.specs.declared.event.Event.{Event}
use Rattle.qc_event.specs.declared.event.Event.TheVariants as event
use Rattle.qc_event.specs.declared.event.How.TheVariants.{Abort}
use Rattle.qc_event.specs.History.{Past, Name, Begun, start, is_child}
use Rattle.qc_event.specs.Legal.{Legal}
use Rattle.qc_event.proofs.Later.{earlier_legal, start_still}
use Rattle.qc_event.proofs.LastNumber.{child_last, child_longer, rest_of, below_more, same_rest, ancestor_further}
use Rattle.qc_event.proofs.Lawful.{lawful}
use Rattle.qc_event.proofs.LegalOrderly.{legal_orderly}
use Rattle.qc_event.proofs.Lineage.{above_started}
use Rattle.qc_event.proofs.OneEntry.{all_children, some_or_none}
use Rattle.qc_names.specs.Name as name
use Rattle.qc_script.specs.Client.{Client, mine, is_own, about, is_upward}
use Rattle.qc_interp.specs.Adding.{asks_above, stays_in}
use Rattle.qc_interp.specs.Branches.{Branch, tries_by, stays_with, seats_of, with_all, IsBegun, RanTries, RanRow}
use Rattle.qc_interp.specs.Reach.{Reach}
use Rattle.qc_interp.specs.Turns.{is_under}
use Rattle.qc_event.proofs.Lists.{get_first}
use Rattle.qc_interp.proofs.Listing.Lists.{all_join}
use Rattle.qc_interp.proofs.Scopes.Began.{start_from, kept_start, AreStarted, all_started}
use Rattle.qc_interp.proofs.Listing.Places.{some_same, at_place, each_place, kept_at, any_place}
use Rattle.qc_interp.proofs.Rows.Agrees.{tells, KeepsMore}
use Rattle.qc_interp.proofs.Rows.Seats.{any_owns, all_own, any_own, apart_later, one_owner}
use Rattle.qc_interp.proofs.Scopes.Seats.{number_own}
use Rattle.qc_interp.proofs.Following.Turning.{itself}

-- LISTS

pub passes_at : {X : Type 0} (f : X → Bool) (xs : List X) (i : ℕ) (x : X) → list_all f xs ≡ true → slice_get xs i ≡ Some x → f x ≡ true
passes_at f [] i x all is = absurd cc
passes_at f (y ∷ xs) zero x all is = ap f (sym (some_same y x is)) ∙ (and_parts (f y) (list_all f xs) all).0
passes_at f (y ∷ xs) (suc i) x all is = passes_at f xs i x (and_parts (f y) (list_all f xs) all).1 is

-- NAMES

-- two children of one name at or above another are one
pub one_child : (of a b n : Name) → is_child of a ≡ true → is_child of b ≡ true → name.is_ancestor a n ≡ true → name.is_ancestor b n ≡ true → a ≡ b
one_child of a b n child other low also =
    let j = child_last of a child in
    let k = child_last of b other in
    let r = rest_of a n low in
    let s = rest_of b n also in
    let left : n ≡ of ++ j.0 ∷ r.0 = r.1 ∙ ap (λ x. x ++ r.0) j.1 ∙ append_assoc of (j.0 ∷ []) r.0 in
    let right : n ≡ of ++ k.0 ∷ s.0 = s.1 ∙ ap (λ x. x ++ s.0) k.1 ∙ append_assoc of (k.0 ∷ []) s.0 in
    let both : j.0 ∷ r.0 ≡ k.0 ∷ s.0 = same_rest of (j.0 ∷ r.0) (k.0 ∷ s.0) (sym left ∙ right) in
    let same : j.0 ≡ k.0 = cc in
    j.1 ∙ ap (λ x. of ++ x ∷ []) same ∙ sym k.1

pub upward_above : (t n : Name) → is_upward t n ≡ true → name.is_ancestor n t ≡ true
upward_above t [] up = absurd (true≢false (sym up))
upward_above t (x ∷ n) up = up

-- WHAT STAYS IN A SCOPE

-- it is about a name there, or aborts one above it, as one there asked
pub record AsksFor (t n : Name) (ev : Event) : Type 0 where
  pub by : Name
  pub is : ev ≡ event.End n (Abort (Asked by))
  pub up : is_upward t n ≡ true
  pub low : name.is_ancestor t by ≡ true

pub asks_for : (t n : Name) (ev : Event) → asks_above t ev ≡ true → about ev ≡ Some n → AsksFor t n ev
asks_for t n (event.End m (Abort (Asked by))) asks is =
    let same = some_same m n is in
    let parts = and_parts (is_upward t m) (name.is_ancestor t by) asks in
    record { by = by; is = ap (λ x. event.End x (Abort (Asked by))) same; up = ap (is_upward t) (sym same) ∙ parts.0; low = parts.1 }
asks_for t n _ asks is = absurd (true≢false (sym asks))

pub stays_about : (t n : Name) (e : Entry) → stays_in t e ≡ true → about e.event ≡ Some n → (name.is_ancestor t n ≡ true) ⊎ AsksFor t n e.event
stays_about t n e stays is = elim (or_cases (option_map_or (λ m. name.is_ancestor t m) (about e.event) true) (asks_above t e.event) (and_parts _ _ stays).1) [
  | inl low ↦ inl (sym (ap (λ o. option_map_or (λ m. name.is_ancestor t m) o true) is) ∙ low)
  | inr asks ↦ inr (asks_for t n e.event asks is)
]

-- one that aborts none above is about a name there
pub stays_low : (t n : Name) (e : Entry) → stays_in t e ≡ true → about e.event ≡ Some n → asks_above t e.event ≡ false → name.is_ancestor t n ≡ true
stays_low t n e stays is none = elim (or_cases (option_map_or (λ m. name.is_ancestor t m) (about e.event) true) (asks_above t e.event) (and_parts _ _ stays).1) [
  | inl low ↦ sym (ap (λ o. option_map_or (λ m. name.is_ancestor t m) o true) is) ∙ low
  | inr asks ↦ absurd (true≢false (sym asks ∙ none))
]

-- whom an entry is about that tells of a name
pub told_about : (t : Name) (e : Entry) → tells t e ≡ true → (n : Name) × (about e.event ≡ Some n) × (name.is_ancestor t n ≡ true)
told_about t e tell = by_about (about e.event) refl tell
  where
    by_about : (o : Option Name) → about e.event ≡ o → option_map_or (λ n. name.is_ancestor t n) o false ≡ true → (n : Name) × (about e.event ≡ Some n) × (name.is_ancestor t n ≡ true)
    by_about None is h = absurd (true≢false (sym h))
    by_about (Some n) is h = (n, is, h)

-- TRIES OF A BRANCH

-- a try of a branch: a child that was started under the branch's seat
pub record IsTry (of : Name) (now : Past) (b : Branch) (t : Name) : Type 0 where
  pub child : is_child of t ≡ true
  pub by : Begun
  pub started : start now t ≡ Some by
  pub seat : by.seat ≡ b.client.number

module _ (reach : Reach) (Stopped : Branch → Type 0) (c : Client) (of : Name) (before shown now : Past) (bs : List Branch) (row : RanRow reach Stopped c of before shown now bs) where
  abbrev pub d : Client
  d = with_all c bs

  abbrev pub newer : Past
  newer = row.made.newer

  pub legal_before : Legal c.setting before
  legal_before = earlier_legal c.setting newer before (subst (Legal c.setting) row.made.grown row.made.legal)

  abbrev pub begun_at : (i : ℕ) (b : Branch) → slice_get bs i ≡ Some b → IsBegun c of before shown b
  begun_at i b at = at_place (IsBegun c of before shown) bs i b row.begun at

  abbrev pub ran_at : (i : ℕ) (b : Branch) → slice_get bs i ≡ Some b → RanTries reach (Stopped b) b.client b.body now
  ran_at i b at = at_place (λ x. RanTries reach (Stopped x) x.client x.body now) bs i b row.ran at

  pub root_is : (i : ℕ) (b : Branch) → slice_get bs i ≡ Some b → b.client.root ≡ of
  root_is i b at = ap (λ (x : Client). x.root) (begun_at i b at).client

  pub apart_branches : IsDistinct (λ x y. x == y) (seats_of bs)
  apart_branches = apart_later (c.number ∷ c.kin) (seats_of bs) row.apart

  pub own_more : (i : ℕ) (b : Branch) → slice_get bs i ≡ Some b → (seat : ℕ) → is_own b.client seat ≡ true → is_own d seat ≡ true
  own_more i b at seat own = all_own c bs seat ∙ or_right (is_own c seat) (any_owns bs seat) (any_own bs i b seat at own)

  try_by : (b : Branch) (t : Name) → is_child of t ≡ true → is_under (mine b.client now) b.client.number t ≡ true → IsTry of now b t
  try_by b t child under = by_start (start (mine b.client now) t) refl under
    where
      by_start : (o : Option Begun) → start (mine b.client now) t ≡ o → option_map_or (λ s. s == b.client.number) (Rattle.std.specs.Option.option_map (λ (x : Begun). x.seat) o) false ≡ true → IsTry of now b t
      by_start None is under = absurd (true≢false (sym under))
      by_start (Some x) is under = record { child = child; by = x; started = kept_start (λ (e : Entry). is_own b.client e.seat) c.setting now t x row.made.legal is; seat = eqb-true x.seat b.client.number under }

  pub try_at : (i : ℕ) (b : Branch) → slice_get bs i ≡ Some b → (k : ℕ) (t : Name) → slice_get (tries_by b.client now) k ≡ Some t → IsTry of now b t
  try_at i b at k t is =
      try_by b t (subst (λ r. is_child r t ≡ true) (root_is i b at) (at_place _ (tries_by b.client now) k t (all_children (mine b.client now) b.client.root) is))
      (passes_at (is_under (mine b.client now) b.client.number) (tries_by b.client now) k t (ran_at i b at).own_seat is)

  pub try_owned : (i : ℕ) (b : Branch) → slice_get bs i ≡ Some b → (t : Name) (try : IsTry of now b t) → is_own b.client try.by.seat ≡ true
  try_owned i b at t try = ap (is_own b.client) try.seat ∙ number_own b.client

  -- none of them was started before
  pub not_before : (i : ℕ) (b : Branch) → slice_get bs i ≡ Some b → (t : Name) → IsTry of now b t → start before t ≡ None
  not_before i b at t try = by_start (start before t) refl
    where
      by_start : (o : Option Begun) → start before t ≡ o → o ≡ None
      by_start None is = refl
      by_start (Some x) is =
          let same : x ≡ try.by = some_same x try.by (sym (start_still newer before t x is) ∙ ap (λ h. start h t) (sym row.made.grown) ∙ try.started) in
          let none : is_own b.client x.seat ≡ false = start_from (λ seat. is_own b.client seat ≡ false) before t x (begun_at i b at).none is in
          absurd (true≢false (sym (ap (λ (y : Begun). is_own b.client y.seat) same ∙ try_owned i b at t try) ∙ none))

  -- a name is a try of one branch at most
  pub same_place : (i j : ℕ) (a b : Branch) (t : Name) → slice_get bs i ≡ Some a → slice_get bs j ≡ Some b → IsTry of now a t → IsTry of now b t → i ≡ j
  same_place i j a b t at also one other =
      let same : one.by ≡ other.by = some_same one.by other.by (sym one.started ∙ other.started) in
      one_owner bs one.by.seat i j a b apart_branches at also (try_owned i a at t one) (ap (λ (y : Begun). is_own b.client y.seat) same ∙ try_owned j b also t other)

  pub same_branch : (i j : ℕ) (a b : Branch) → slice_get bs i ≡ Some a → slice_get bs j ≡ Some b → i ≡ j → a ≡ b
  same_branch i j a b at also is = some_same a b (sym at ∙ ap (slice_get bs) is ∙ also)

  -- WHOSE ENTRY IT IS

  -- the branch that made an entry, and the try with which it stays
  pub record Owner (e : Entry) : Type 0 where
    pub place : ℕ
    pub one : Branch
    pub at : slice_get bs place ≡ Some one
    pub owns : is_own one.client e.seat ≡ true
    pub try : Name
    pub turn : ℕ
    pub listed : slice_get (tries_by one.client now) turn ≡ Some try
    pub is_try : IsTry of now one try
    pub stays : stays_in try e ≡ true

  not_own : (k : ℕ) (e : Entry) → slice_get newer k ≡ Some e → is_own c e.seat ≡ false
  not_own k e is = false_from_ne_true (is_own c e.seat) (λ own. true≢false (sym (kept_at (λ x. false) (λ (x : Entry). is_own c x.seat) newer k e (ap (list_all (λ x. false)) row.made.made) is own)))

  pub owner : (k : ℕ) (e : Entry) → slice_get newer k ≡ Some e → is_own d e.seat ≡ true → Owner e
  owner k e is own =
      let any : any_owns bs e.seat ≡ true = ap (λ x. x || any_owns bs e.seat) (sym (not_own k e is)) ∙ sym (all_own c bs e.seat) ∙ own in
      let b = any_place (λ (x : Branch). is_own x.client e.seat) bs any in
      let here : slice_get now k ≡ Some e = ap (λ h. slice_get h k) row.made.grown ∙ get_first newer before k e is in
      let stays = kept_at (stays_with (tries_by b.one.client now)) (λ (x : Entry). is_own b.one.client x.seat) now k e (ran_at b.place b.one b.is).inside here b.passes in
      let t = any_place (λ t. stays_in t e) (tries_by b.one.client now) stays in
      record { place = b.place; one = b.one; at = b.is; owns = b.passes; try = t.one; turn = t.place; listed = t.is; is_try = try_at b.place b.one b.is t.place t.one t.is; stays = t.passes }

  pub owners : AllByRecursion (λ e. is_own d e.seat ≡ true → Owner e) newer
  owners = each_place _ newer owner

  -- WHO TELLS OF A TRY

  module _ (i : ℕ) (b : Branch) (at : slice_get bs i ≡ Some b) (t : Name) (try : IsTry of now b t) where
    -- what stood before tells nothing of it
    pub quiet_before : AllByRecursion (λ e. tells t e ≡ false) before
    quiet_before = by_started before (all_started c.setting before legal_before)
      where
        far : 0 < length t
        far = omega (arith, child_longer of t try.child)

        not_low : (n : Name) → is_some (start before n) ≡ true → name.is_ancestor t n ≡ true → ⊥
        not_low n started low =
            let r = rest_of t n low in
            some_or_none (start before t) (above_started before t r.0 (lawful before (legal_orderly c.setting before legal_before)) far (ap (λ x. is_some (start before x)) (sym r.1) ∙ started)) (not_before i b at t try)

        by_started : (es : Past) → AreStarted before es → AllByRecursion (λ e. tells t e ≡ false) es
        by_started [] all = tt
        by_started (e ∷ es) all = (false_from_ne_true (tells t e) (λ tell. let n = told_about t e tell in not_low n.0 (all.0 n.0 n.1) n.2), by_started es all.1)

    -- no other branch's try is the same
    pub other_try : (e : Entry) (o : Owner e) → is_own b.client e.seat ≡ false → o.try ≡ t → ⊥
    other_try e o not_ours same =
        let place = same_place o.place i o.one b t o.at at (subst (IsTry of now o.one) same o.is_try) try in
        let one : o.one ≡ b = same_branch o.place i o.one b o.at at place in
        true≢false (sym (ap (λ (x : Branch). is_own x.client e.seat) (sym one) ∙ o.owns) ∙ not_ours)

    -- nor is it above one of the names with which another's entry stays
    pub not_above : (e : Entry) (o : Owner e) → is_own b.client e.seat ≡ false → name.is_ancestor t o.try ≡ true → ⊥
    not_above e o not_ours low = other_try e o not_ours (sym (one_child of t o.try o.try try.child o.is_try.child low (itself o.try)))

    pub quiet_other : (e : Entry) → Owner e → is_own b.client e.seat ≡ false → tells t e ≡ false
    quiet_other e o not_ours = false_from_ne_true (tells t e) (λ tell.
        let n = told_about t e tell in
        elim (stays_about o.try n.0 e o.stays n.1) [
          | inl low ↦ other_try e o not_ours (sym (one_child of t o.try n.0 try.child o.is_try.child n.2 low))
          | inr asks ↦ not_above e o not_ours (ancestor_further t n.0 o.try n.2 (upward_above o.try n.0 asks.up))
        ])

    -- among all that branches made and the client before them, none but the branch's own entries tell of it
    pub keeps_more : AllByRecursion (KeepsMore (λ e. is_own b.client e.seat) (λ e. is_own d e.seat) t) now
    keeps_more = subst (AllByRecursion (KeepsMore (λ e. is_own b.client e.seat) (λ e. is_own d e.seat) t)) (sym row.made.grown) (all_join _ newer before (new newer owners) (old before quiet_before))
      where
        new : (es : Past) → AllByRecursion (λ e. is_own d e.seat ≡ true → Owner e) es → AllByRecursion (KeepsMore (λ e. is_own b.client e.seat) (λ e. is_own d e.seat) t) es
        new [] all = tt
        new (e ∷ es) all = ((own_more i b at e.seat, λ own not_ours. quiet_other e (all.0 own) not_ours), new es all.1)

        old : (es : Past) → AllByRecursion (λ e. tells t e ≡ false) es → AllByRecursion (KeepsMore (λ e. is_own b.client e.seat) (λ e. is_own d e.seat) t) es
        old [] all = tt
        old (e ∷ es) all = ((own_more i b at e.seat, λ own not_ours. all.0), old es all.1)
