-- What a client adds stays in a scope.
use Rattle.std.proofs.Common.{◌≡◌, ◌⊎◌, inl, inr, ◌<◌, ℕ, Bool, true, false, List, [], ◌∷◌, ◌++◌, length, refl, sym, ap, ◌∙◌, subst, arith, ◌+◌, ◌*◌}
use mathlib.Core.Bool.{true≢false}
use Rattle.std.specs.Prelude.{Option, None, Some, is_none, is_some, not, ◌==◌, ◌||◌, ◌&&◌, if◌then◌else◌, ◌^◌}
use Rattle.std.specs.List.{AllByRecursion, list_all, list_any}
use Rattle.std.specs.Option.{option_map_or}
use Rattle.std.proofs.lemmas.List.Elements.{filter-append}
use Rattle.std.proofs.lemmas.List.Folds.{list_all-append}
use Rattle.std.proofs.lemmas.Bool.{and_parts, and_from, or_left, or_right, eq-eqb}
use Rattle.qc_event.specs.declared.event.Cause.TheVariants.{Asked}
use Rattle.qc_event.specs.declared.event.Entry.{Entry}
use Rattle.qc_event.specs.declared.event.Event.{Event}
use Rattle.qc_event.specs.declared.event.Event.TheVariants as event
use Rattle.qc_event.specs.declared.event.How.TheVariants.{Abort}
use Rattle.qc_event.specs.declared.event.Kind.{Kind}
use Rattle.qc_event.specs.declared.event.Kind.TheVariants as kind
use Rattle.qc_event.specs.History.{Past, Name, every, end, children, is_child}
use Rattle.qc_event.proofs.Histories.{earliest-append}
use Rattle.qc_event.proofs.OneEntry.{stays_some}
use Rattle.qc_event.proofs.LastNumber.{child_last, is_ancestor-append, child_longer}
use Rattle.qc_event.proofs.Booleans.{or_wider, all_wider, any_right}
use Rattle.qc_names.specs.Name as name
use Rattle.qc_script.specs.Calls.{IsOfAccess, is_over, unable_in}
use Rattle.qc_script.specs.Client.{Client, mine, is_own, about, is_upward, IsLater}
use Rattle.qc_script.specs.Numbers.{any_top, own_next, each}
use Rattle.qc_interp.specs.Adding.{own_after, all_over, asks_above, stays_in, AllStayIn, is_of_one, AllOfOne, starts_for, AllForIts}
use Rattle.qc_interp.proofs.Scopes.Scope.{upward_top}
use Rattle.qc_interp.specs.Sessions.{top_in}

module _ (f : Entry → Bool) where
  pub all_both : (xs ys : Past) → list_all f xs ≡ true → list_all f ys ≡ true → list_all f (xs ++ ys) ≡ true
  all_both xs ys a b = list_all-append f xs ys ∙ and_from _ _ a b

  pub all_later : (c : Client) (older newer : Past) → list_all f (mine c older) ≡ true → list_all f (mine c newer) ≡ true → list_all f (mine c (newer ++ older)) ≡ true
  all_later c older newer a b = ap (list_all f) (filter-append _ newer older) ∙ all_both (mine c newer) (mine c older) b a

pub no_top : (n : Name) (k : Kind) → 1 < length n → any_top (event.Start n k) ≡ None
no_top [] k far = refl
no_top (x ∷ []) k far = let z : ⊥ = omega (arith, far) in absurd z
no_top (x ∷ y ∷ n) k far = refl

-- an entry about a name in a scope that starts no top
pub stays_at : (t n : Name) (e : Entry) → any_top e.event ≡ None → about e.event ≡ Some n → name.is_ancestor t n ≡ true → stays_in t e ≡ true
stays_at t n e none is low = and_from _ _ (ap is_none none) (or_left _ _ (ap (λ o. option_map_or (λ m. name.is_ancestor t m) o true) is ∙ low))

pub one_stays : (t n : Name) (e : Entry) → any_top e.event ≡ None → about e.event ≡ Some n → name.is_ancestor t n ≡ true → list_all (stays_in t) (e ∷ []) ≡ true
one_stays t n e none is low = ap (λ b. b && true) (stays_at t n e none is low)

-- an entry about no name
stays_none : (t : Name) (e : Entry) → any_top e.event ≡ None → about e.event ≡ None → stays_in t e ≡ true
stays_none t e none is = and_from _ _ (ap is_none none) (or_left _ _ (ap (λ o. option_map_or (λ m. name.is_ancestor t m) o true) is))

-- an abort of one at or above a name, as that one asked
pub asks_stays : (t p by : Name) (seat : ℕ) → (name.is_ancestor t p ≡ true) ⊎ (is_upward t p ≡ true) → name.is_ancestor t by ≡ true → stays_in t (record { seat = seat; event = event.End p (Abort (Asked by)) }) ≡ true
asks_stays t p by seat (inl low) at = or_left (name.is_ancestor t p) _ low
asks_stays t p by seat (inr up) at = or_right (name.is_ancestor t p) _ (and_from (is_upward t p) (name.is_ancestor t by) up at)

-- a child starts below one that is no root
pub start_stays_in : (t n : Name) (k : Kind) (e : Entry) → e.event ≡ event.Start n k → 1 < length n → name.is_ancestor t n ≡ true → stays_in t e ≡ true
start_stays_in t n k e is far low =
    stays_at t n e (ap any_top is ∙ no_top n k far) (ap about is) low

-- the entries of accesses stay
pub accesses_stay : (t m : Name) (inner : Past) → 0 < length m → name.is_ancestor t m ≡ true → AllByRecursion (λ (e : Entry). IsOfAccess m e.event) inner → list_all (stays_in t) inner ≡ true
accesses_stay t m [] long low all = refl
accesses_stay t m (e ∷ inner) long low all = and_from _ _ (by_event e.event refl all.0) (accesses_stay t m inner long low all.1)
  where
    child : (n : Name) → is_child m n ≡ true → name.is_ancestor t n ≡ true
    child n h =
        let l = child_last m n h in
        let s = Rattle.qc_event.proofs.LastNumber.rest_of t m low in
        ap (name.is_ancestor t) (l.1 ∙ ap (λ x. x ++ l.0 ∷ []) s.1 ∙ Rattle.std.proofs.Common.append_assoc t s.0 (l.0 ∷ [])) ∙ is_ancestor-append t (s.0 ++ l.0 ∷ [])

    by_event : (ev : Event) → e.event ≡ ev → IsOfAccess m ev → stays_in t e ≡ true
    by_event (event.Start n k) is of = start_stays_in t n k e is (let l : length n ≡ length m + 1 = child_longer m n of.0 in omega (arith, l, long)) (child n of.0)
    by_event (event.End n how) is of = stays_at t n e (ap any_top is) (ap about is) (child n of.0)
    by_event (event.Ready n) is of = absurd of
    by_event (event.Mark n session) is of = absurd of
    by_event (event.Ask ask) is of = stays_none t e (ap any_top is) (ap about is)
    by_event (event.Gone n why) is of = stays_none t e (ap any_top is) (ap about is)
    by_event (event.Granted copy grant) is of = stays_none t e (ap any_top is) (ap about is)
    by_event (event.Refused n copy refusal) is of = stays_none t e (ap any_top is) (ap about is)
    by_event (event.Unable n why) is of = stays_none t e (ap any_top is) (ap about is)

-- where no top starts, what holds of tops as they start holds as before
module _ (c : Client) (t : Name) (G : Past → ℕ → Bool) where
  abbrev passes : Entry → Past → Bool
  passes e past = not (is_own c e.seat) || option_map_or (G past) (any_top e.event) true

  none_started : (past : Past) (o : Option ℕ) → is_none o ≡ true → option_map_or (G past) o true ≡ true
  none_started past None h = refl
  none_started past (Some number) h = absurd (true≢false (sym h))

  pub tops_stay : (newer before : Past) → AllStayIn c t newer → each passes before ≡ true → each passes (newer ++ before) ≡ true
  tops_stay [] before stay was = was
  tops_stay (e ∷ newer) before stay was = by_seat (is_own c e.seat) refl stay (λ h. tops_stay newer before h was)
    where
      by_seat : (b : Bool) → is_own c e.seat ≡ b → list_all (stays_in t) (if b then e ∷ mine c newer else mine c newer) ≡ true → (AllStayIn c t newer → each passes (newer ++ before) ≡ true) → each passes (e ∷ newer ++ before) ≡ true
      by_seat false so h rest = and_from _ _ (rest h) (ap (λ b. not b || option_map_or (G (newer ++ before)) (any_top e.event) true) so)
      by_seat true so h rest =
          let p = and_parts (stays_in t e) (list_all (stays_in t) (mine c newer)) h in
          and_from _ _ (rest p.1) (ap (λ b. not b || option_map_or (G (newer ++ before)) (any_top e.event) true) so ∙ none_started (newer ++ before) (any_top e.event) (and_parts _ _ p.0).0)

pub numbers_stay : (c : Client) (t : Name) (newer before : Past) → AllStayIn c t newer → each (own_next c) before ≡ true → each (own_next c) (newer ++ before) ≡ true
numbers_stay c t newer before stay was = tops_stay c t (λ past number. number == c.epoch * 2 ^ 32 + length (every (λ x. any_top x.event) past) + 1) newer before stay was

pub after_stay : (c : Client) (t : Name) (newer before : Past) → AllStayIn c t newer → each (own_after c) before ≡ true → each (own_after c) (newer ++ before) ≡ true
after_stay c t newer before stay was = tops_stay c t (λ past number. all_over c past) newer before stay was

-- WHO IS OVER

pub over_still : (newer past : Past) (n : Name) → is_over past n ≡ true → is_over (newer ++ past) n ≡ true
over_still newer past n h = or_wider (is_some (end past n)) (list_any (λ (e : Entry). unable_in n e.event) past) (is_some (end (newer ++ past) n)) (list_any (λ (e : Entry). unable_in n e.event) (newer ++ past))
    (λ s. ap is_some (earliest-append _ newer past) ∙ stays_some _ _ s) (any_right _ newer past) h

pub over_later : (c : Client) (a b : Past) → IsLater c a b → (n : Name) → is_over a n ≡ true → is_over b n ≡ true
over_later c a b p n h = subst (λ x. is_over x n ≡ true) (sym p.grown) (over_still p.newer a n h)

pub over_ended : (past : Past) (n : Name) → is_some (end past n) ≡ true → is_over past n ≡ true
over_ended past n h = ap (λ b. b || list_any (λ (e : Entry). unable_in n e.event) past) h

pub all_over_more : (c : Client) (newer past : Past) (more : List Name) → children (mine c (newer ++ past)) [] ≡ children (mine c past) [] ++ more → all_over c past ≡ true → list_all (is_over (newer ++ past)) more ≡ true → all_over c (newer ++ past) ≡ true
all_over_more c newer past more is was new =
    ap (list_all (is_over (newer ++ past))) is ∙ list_all-append (is_over (newer ++ past)) (children (mine c past) []) more
    ∙ and_from _ _ (all_wider (is_over past) (is_over (newer ++ past)) (children (mine c past) []) (λ n. over_still newer past n) was) new

-- a top starts, and those before it are over
pub begun_after : (c : Client) (e : Entry) (newer before : Past) → mine c newer ≡ e ∷ [] → each (own_after c) before ≡ true → all_over c before ≡ true → each (own_after c) (newer ++ before) ≡ true
begun_after c e [] before is was over = absurd cc
begun_after c e (x ∷ newer) before is was over = by_seat (is_own c x.seat) refl is (λ h. begun_after c e newer before h was over)
  where
    all_the_same : (b : Bool) (o : Option ℕ) → b ≡ true → option_map_or (λ number. b) o true ≡ true
    all_the_same b None h = refl
    all_the_same b (Some number) h = h

    by_seat : (b : Bool) → is_own c x.seat ≡ b → (if b then x ∷ mine c newer else mine c newer) ≡ e ∷ [] → (mine c newer ≡ e ∷ [] → each (own_after c) (newer ++ before) ≡ true) → each (own_after c) (x ∷ newer ++ before) ≡ true
    by_seat false so h rest = and_from _ _ (rest h) (ap (λ b. not b || option_map_or (λ number. all_over c (newer ++ before)) (any_top x.event) true) so)
    by_seat true so h rest =
        let none : mine c newer ≡ [] = cc in
        let same : mine c (newer ++ before) ≡ mine c before = filter-append _ newer before ∙ ap (λ l. l ++ mine c before) none in
        and_from _ _ (after_stay c [] newer before (ap (list_all (stays_in [])) none) was)
        (or_right _ _ (all_the_same (all_over c (newer ++ before)) (any_top x.event) (all_over_more c newer before [] (ap (λ l. children l []) same ∙ sym (Rattle.std.proofs.Common.append-nil _)) over refl)))

-- OF ONE OF SOME TOPS

any_left : (f : Name → Bool) (xs ys : List Name) → list_any f xs ≡ true → list_any f (xs ++ ys) ≡ true
any_left f [] ys h = absurd (true≢false (sym h))
any_left f (x ∷ xs) ys h = by_test (f x) h (any_left f xs ys)
  where
    by_test : (b : Bool) → (b || list_any f xs) ≡ true → (list_any f xs ≡ true → list_any f (xs ++ ys) ≡ true) → (b || list_any f (xs ++ ys)) ≡ true
    by_test true h more = refl
    by_test false h more = more h

about_wider : (f g : Name → Bool) (o : Option Name) → ((n : Name) → f n ≡ true → g n ≡ true) → option_map_or f o true ≡ true → option_map_or g o true ≡ true
about_wider f g None step h = refl
about_wider f g (Some n) step h = step n h

pub one_both : (c : Client) (xs ys : List Name) (older newer : Past) → AllOfOne c xs older → AllOfOne c ys newer → AllOfOne c (xs ++ ys) (newer ++ older)
one_both c xs ys older newer a b = all_later (is_of_one (xs ++ ys)) c older newer
    (all_wider (is_of_one xs) (is_of_one (xs ++ ys)) (mine c older) (λ e. about_wider _ _ (about e.event) (λ n. any_left (λ t. name.is_ancestor t n) xs ys)) a)
    (all_wider (is_of_one ys) (is_of_one (xs ++ ys)) (mine c newer) (λ e. about_wider _ _ (about e.event) (λ n. any_right (λ t. name.is_ancestor t n) xs ys)) b)

-- an abort as another asked of one that leads up from a top is of the top
asks_low : (number : ℕ) (ev : Event) → asks_above (number ∷ []) ev ≡ true → option_map_or (λ n. name.is_ancestor (number ∷ []) n) (about ev) true ≡ true
asks_low number (event.End n (Abort (Asked by))) h = upward_top number n (and_parts (is_upward (number ∷ []) n) (name.is_ancestor (number ∷ []) by) h).0
asks_low number _ h = absurd (true≢false (sym h))

-- one of two, where the second implies the first
pub first_anyhow : (a b : Bool) → (b ≡ true → a ≡ true) → (a || b) ≡ true → a ≡ true
first_anyhow true b step h = refl
first_anyhow false b step h = step h

stays_one : (number : ℕ) (e : Entry) → stays_in (number ∷ []) e ≡ true → is_of_one ((number ∷ []) ∷ []) e ≡ true
stays_one number e h = about_wider (λ n. name.is_ancestor (number ∷ []) n) _ (about e.event) (λ n a. ap (λ b. b || false) a) (first_anyhow (option_map_or (λ n. name.is_ancestor (number ∷ []) n) (about e.event) true) (asks_above (number ∷ []) e.event) (asks_low number e.event) (and_parts _ _ h).1)

pub all_one : (c : Client) (t : Name) (newer : Past) → length t ≡ 1 → AllStayIn c t newer → AllOfOne c (t ∷ []) newer
all_one c [] newer long stay = let z : ⊥ = omega (arith, long) in absurd z
all_one c (x ∷ []) newer long stay = all_wider (stays_in (x ∷ [])) (is_of_one ((x ∷ []) ∷ [])) (mine c newer) (stays_one x) stay
all_one c (x ∷ y ∷ t) newer long stay = let z : ⊥ = omega (arith, long) in absurd z

-- FOR THE CLIENT'S SESSION

-- what stays below a top starts none
pub all_for : (c : Client) (t : Name) (newer : Past) → AllStayIn c t newer → AllForIts c newer
all_for c t newer stay = all_wider (stays_in t) (starts_for c.session) (mine c newer) (λ e h. ap (λ b. b || is_some (top_in c.session e.event)) (and_parts _ _ h).0) stay

-- a top that starts for a session does
pub top_for : (s number : ℕ) (t : Name) (e : Entry) → is_child [] t ≡ true → e.event ≡ event.Start t (kind.User s number) → starts_for s e ≡ true
top_for s number t e child is =
    let top = child_last [] t child in
    ap (λ ev. is_none (any_top ev) || is_some (top_in s ev)) (is ∙ ap (λ n. event.Start n (kind.User s number)) top.1)
    ∙ ap (λ b. is_some (if b then Some (top.0 ∷ []) else None)) (eq-eqb s s refl)
