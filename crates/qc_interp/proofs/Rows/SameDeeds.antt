-- Rows of branches: where none began, where the same deeds stand as tries by two histories, and which deeds they are.
use Rattle.std.proofs.Common.{◌≡◌, ◌⊎◌, inl, inr, ℕ, zero, suc, Bool, true, false, List, [], ◌∷◌, ◌++◌, refl, sym, ap, ◌∙◌, append-nil, filter}
use mathlib.Core.Bool.{true≢false}
use Rattle.std.specs.Prelude.{Option, None, Some, ◌&&◌, ◌||◌, if◌then◌else◌}
use Rattle.std.specs.List.{AllByRecursion, list_all, list_any, last_or}
use Rattle.std.specs.Option.{option_or, option_map_or}
use Rattle.std.proofs.lemmas.Bool.{and_parts}
use Rattle.std.proofs.lemmas.List.Elements.{filter-append}
use Rattle.std.proofs.lemmas.List.Folds.{list_all-append}
use Rattle.qc_event.specs.History.{Past, Name, kind_of}
use Rattle.qc_script.specs.Plan.{Plan}
use Rattle.qc_interp.specs.Deeds.{Deed, deed_end}
use Rattle.qc_interp.specs.Rows.{OneOf, is_of_body, is_try, tries_among, was_tried, has_committed, failed_last, is_try_in, begin_each, each_begun, each_own_seat, each_tried, first_failed, are_tries_at_once, begin_first}
use Rattle.qc_interp.specs.Tries.{is_tried_again}
use Rattle.qc_interp.proofs.Trying.TriesAlike.{AreAlike, IfAny}

-- if it is a child, this is so of it
abbrev pub OfAnyChild : (Name → Type 0) → Deed → Type 0
OfAnyChild P (Deed.child x) = P x
OfAnyChild P (Deed.mark session) = Unit {0}

-- EACH OF SOME THINGS

module _ {A : Type 0} where
  pub all_map : (P Q : A → Type 0) → ((x : A) → P x → Q x) → (xs : List A) → AllByRecursion P xs → AllByRecursion Q xs
  all_map P Q step [] h = tt
  all_map P Q step (x ∷ xs) h = (step x h.0, all_map P Q step xs h.1)

  pub all_both : (P Q R : A → Type 0) → ((x : A) → P x → Q x → R x) → (xs : List A) → AllByRecursion P xs → AllByRecursion Q xs → AllByRecursion R xs
  all_both P Q R step [] h g = tt
  all_both P Q R step (x ∷ xs) h g = (step x h.0 g.0, all_both P Q R step xs h.1 g.1)

  pub all_each : (P : A → Type 0) → ((x : A) → P x) → (xs : List A) → AllByRecursion P xs
  all_each P every [] = tt
  all_each P every (x ∷ xs) = (every x, all_each P every xs)

  pub all_among : (test : A → Bool) (P : A → Type 0) (xs : List A) → AllByRecursion P xs → AllByRecursion P (filter test xs)
  all_among test P [] h = tt
  all_among test P (x ∷ xs) h = by_test (test x) (all_among test P xs h.1)
    where
      by_test : (b : Bool) → AllByRecursion P (filter test xs) → AllByRecursion P (if b then x ∷ filter test xs else filter test xs)
      by_test true more = (h.0, more)
      by_test false more = more

  pub among_pass : (test : A → Bool) (xs : List A) → AllByRecursion (λ x. test x ≡ true) (filter test xs)
  among_pass test [] = tt
  among_pass test (x ∷ xs) = by_test (test x) refl (among_pass test xs)
    where
      by_test : (b : Bool) → test x ≡ b → AllByRecursion (λ y. test y ≡ true) (filter test xs) → AllByRecursion (λ y. test y ≡ true) (if b then x ∷ filter test xs else filter test xs)
      by_test true is more = (is, more)
      by_test false is more = more

  -- each that passes the test
  pub all_passing : (test : A → Bool) (P : A → Type 0) (xs : List A) → AllByRecursion P (filter test xs) → AllByRecursion (λ x. test x ≡ true → P x) xs
  all_passing test P [] h = tt
  all_passing test P (x ∷ xs) h = by_test (test x) (all_passing test P xs) h
    where
      by_test : (b : Bool) → (AllByRecursion P (filter test xs) → AllByRecursion (λ y. test y ≡ true → P y) xs) → AllByRecursion P (if b then x ∷ filter test xs else filter test xs) → (b ≡ true → P x) × AllByRecursion (λ y. test y ≡ true → P y) xs
      by_test true more g = (λ is. g.0, more g.1)
      by_test false more g = (λ is. absurd (true≢false (sym is)), more g)

  pub all_passed : (test : A → Bool) (xs : List A) → list_all test xs ≡ true → AllByRecursion (λ x. test x ≡ true) xs
  all_passed test [] h = tt
  all_passed test (x ∷ xs) h = let both = and_parts (test x) (list_all test xs) h in (both.0, all_passed test xs both.1)

  pub last_is : (P : A → Type 0) (o : Option A) (xs : List A) → IfAny P o → AllByRecursion P xs → IfAny P (last_or o xs)
  last_is P o [] was h = was
  last_is P o (x ∷ xs) was h = last_is P (Some x) xs h.0 h.1

  pub one_map : (P Q : A → Type 0) (Good : A → Type 0) → ((x : A) → Good x → P x → Q x) → (xs : List A) → AllByRecursion Good xs → OneOf P xs → OneOf Q xs
  one_map P Q Good step [] good h = absurd h
  one_map P Q Good step (x ∷ xs) good (inl h) = inl (step x good.0 h)
  one_map P Q Good step (x ∷ xs) good (inr h) = inr (one_map P Q Good step xs good.1 h)

-- WHERE NO BRANCH BEGAN

none_tried : (past : Past) (left : ℕ) → was_tried past true left [] ≡ true
none_tried past zero = refl
none_tried past (suc left) = refl

pub none_each : (past : Past) (branches : Plan) → each_tried past true branches [] ≡ true
none_each past (Plan.child_then number tries must inner others) = ap (λ b. b && each_tried past true others []) (none_tried past tries) ∙ none_each past others
none_each past _ = refl

pub none_at_once : (past : Past) (branches : Plan) → are_tries_at_once past branches [] ≡ true
none_at_once past branches = ap (λ b. b && each_tried past true branches []) (begins branches) ∙ none_each past branches
  where
    begins : (row : Plan) → begin_each past row [] ≡ true
    begins (Plan.child_then number tries must inner others) = refl
    begins _ = refl

pub none_own_seat : (past : Past) (branches : Plan) → each_own_seat past branches [] ≡ true
none_own_seat past (Plan.child_then number tries must inner others) = none_own_seat past others
none_own_seat past _ = refl

pub none_begin : (past : Past) (branches : Plan) → begin_first past branches [] ≡ true
none_begin past (Plan.child_then number tries must inner others) = none_begin past others
none_begin past _ = refl

pub none_failed : (past : Past) (branches : Plan) → first_failed past branches [] ≡ None
none_failed past (Plan.child_then number tries must inner others) = ap (λ o. option_or o (first_failed past others [])) (by_must must) ∙ none_failed past others
  where
    by_must : (b : Bool) → failed_last past b None ≡ None
    by_must true = refl
    by_must false = refl
none_failed past _ = refl

-- what is so of each deed is so of the last of the first branch that failed
pub failed_is : (past : Past) (P : Deed → Type 0) (branches : Plan) (ds : List Deed) → AllByRecursion P ds → IfAny P (first_failed past branches ds)
failed_is past P (Plan.child_then number tries must inner others) ds all =
    by_last must (last_or None (tries_among past number ds)) (last_is P None (tries_among past number ds) tt (all_among (is_try past number) P ds all)) (failed_is past P others ds all)
  where
    by_last : (b : Bool) (o : Option Deed) → IfAny P o → IfAny P (first_failed past others ds) → IfAny P (option_or (failed_last past b o) (first_failed past others ds))
    by_last false o one further = further
    by_last true None one further = further
    by_last true (Some d) one further = by_test (has_committed (deed_end past d))
      where
        by_test : (c : Bool) → IfAny P (option_or (if c then None else Some d) (first_failed past others ds))
        by_test true = further
        by_test false = one
failed_is past P _ ds all = tt

-- BY TWO HISTORIES

-- a deed is a try of the same bodies, and tried again alike
pub record IsSameTry (first second : Past) (d : Deed) : Type 0 where
  pub tried : (number : ℕ) → is_try first number d ≡ is_try second number d
  pub again : AreAlike (deed_end first) (deed_end second) d

module _ (p q : Past) where
  pub among_alike : (number : ℕ) (ds : List Deed) → AllByRecursion (IsSameTry p q) ds → tries_among p number ds ≡ tries_among q number ds
  among_alike number [] all = refl
  among_alike number (d ∷ ds) all =
      ap (λ b. if b then d ∷ tries_among p number ds else tries_among p number ds) (all.0.tried number) ∙ ap (λ l. if is_try q number d then d ∷ l else l) (among_alike number ds all.1)

  tried_alike : (stopped : Bool) (left : ℕ) (ds : List Deed) → AllByRecursion (IsSameTry p q) ds → was_tried p stopped left ds ≡ was_tried q stopped left ds
  tried_alike stopped zero [] all = refl
  tried_alike stopped zero (d ∷ ds) all = refl
  tried_alike stopped (suc left) [] all = refl
  tried_alike stopped (suc left) (d ∷ ds) all =
      ap (λ b. was_tried p stopped (if b then left else zero) ds) all.0.again ∙ tried_alike stopped (if is_tried_again (deed_end q d) then left else zero) ds all.1

  pub each_alike : (stopped : Bool) (branches : Plan) (ds : List Deed) → AllByRecursion (IsSameTry p q) ds → each_tried p stopped branches ds ≡ each_tried q stopped branches ds
  each_alike stopped (Plan.child_then number tries must inner others) ds all =
      ap (λ b. b && each_tried p stopped others ds) (tried_alike stopped tries (tries_among p number ds) (all_among (is_try p number) (IsSameTry p q) ds all) ∙ ap (was_tried q stopped tries) (among_alike number ds all))
      ∙ ap (λ b. was_tried q stopped tries (tries_among q number ds) && b) (each_alike stopped others ds all)
  each_alike stopped _ ds all = refl

  in_alike : (branches : Plan) (d : Deed) → IsSameTry p q d → is_try_in p branches d ≡ is_try_in q branches d
  in_alike (Plan.child_then number tries must inner others) d same = ap (λ b. b || is_try_in p others d) (same.tried number) ∙ ap (λ b. is_try q number d || b) (in_alike others d same)
  in_alike _ d same = refl

  all_in_alike : (branches : Plan) (ds : List Deed) → AllByRecursion (IsSameTry p q) ds → list_all (is_try_in p branches) ds ≡ list_all (is_try_in q branches) ds
  all_in_alike branches [] all = refl
  all_in_alike branches (d ∷ ds) all = ap (λ b. b && list_all (is_try_in p branches) ds) (in_alike branches d all.0) ∙ ap (λ b. is_try_in q branches d && b) (all_in_alike branches ds all.1)

  begin_alike : (branches : Plan) (ds : List Deed) → AllByRecursion (IsSameTry p q) ds → begin_each p branches ds ≡ begin_each q branches ds
  begin_alike (Plan.child_then number tries must inner others) [] all = refl
  begin_alike (Plan.child_then number tries must inner others) (d ∷ ds) all = ap (λ b. b && begin_each p others ds) (all.0.tried number) ∙ ap (λ b. is_try q number d && b) (begin_alike others ds all.1)
  begin_alike _ ds all = refl

  pub at_once_alike : (branches : Plan) (ds : List Deed) → AllByRecursion (IsSameTry p q) ds → are_tries_at_once p branches ds ≡ are_tries_at_once q branches ds
  at_once_alike branches ds all =
      ap (λ b. b && begin_each p branches ds && each_tried p true branches ds) (all_in_alike branches ds all)
      ∙ ap (λ b. list_all (is_try_in q branches) ds && b && each_tried p true branches ds) (begin_alike branches ds all)
      ∙ ap (λ b. list_all (is_try_in q branches) ds && begin_each q branches ds && b) (each_alike true branches ds all)

  any_alike : (number : ℕ) (ds : List Deed) → AllByRecursion (IsSameTry p q) ds → list_any (is_try p number) ds ≡ list_any (is_try q number) ds
  any_alike number [] all = refl
  any_alike number (d ∷ ds) all = ap (λ b. b || list_any (is_try p number) ds) (all.0.tried number) ∙ ap (λ b. is_try q number d || b) (any_alike number ds all.1)

  pub begun_alike : (branches : Plan) (ds : List Deed) → AllByRecursion (IsSameTry p q) ds → each_begun p branches ds ≡ each_begun q branches ds
  begun_alike (Plan.child_then number tries must inner others) ds all =
      ap (λ b. b && each_begun p others ds) (any_alike number ds all) ∙ ap (λ b. list_any (is_try q number) ds && b) (begun_alike others ds all)
  begun_alike _ ds all = refl

  -- the same branch failed, where each committed alike
  abbrev IsSameEnd : Deed → Type 0
  IsSameEnd d = has_committed (deed_end p d) ≡ has_committed (deed_end q d)

  failed_last_alike : (must : Bool) (o : Option Deed) → IfAny IsSameEnd o → failed_last p must o ≡ failed_last q must o
  failed_last_alike true None same = refl
  failed_last_alike true (Some d) same = ap (λ b. if b then None else Some d) same
  failed_last_alike false o same = refl

  pub failed_alike : (branches : Plan) (ds : List Deed) → AllByRecursion (IsSameTry p q) ds → AllByRecursion (λ d. has_committed (deed_end p d) ≡ has_committed (deed_end q d)) ds → first_failed p branches ds ≡ first_failed q branches ds
  failed_alike (Plan.child_then number tries must inner others) ds all ends =
      ap (λ o. option_or o (first_failed p others ds))
      (failed_last_alike must (last_or None (tries_among p number ds)) (last_is IsSameEnd None (tries_among p number ds) tt (all_among (is_try p number) IsSameEnd ds ends)) ∙ ap (λ l. failed_last q must (last_or None l)) (among_alike number ds all))
      ∙ ap (λ o. option_or (failed_last q must (last_or None (tries_among q number ds))) o) (failed_alike others ds all ends)
  failed_alike _ ds all ends = refl

  -- the first that failed stands, where each end stands
  pub failed_stays : ((d : Deed) (how : Rattle.qc_event.specs.declared.event.How.How) → deed_end p d ≡ Some how → deed_end q d ≡ Some how) → (branches : Plan) (ds : List Deed) → AllByRecursion (IsSameTry p q) ds
      → IfAny (λ d. deed_end p d ≡ None → ⊥) (first_failed p branches ds) → first_failed p branches ds ≡ first_failed q branches ds
  failed_stays stays (Plan.child_then number tries must inner others) ds all ended =
      by_last must (last_or None (tries_among p number ds)) (failed_stays stays others ds all) ended ∙ ap (λ l. option_or (failed_last q must (last_or None l)) (first_failed q others ds)) (among_alike number ds all)
    where
      by_last : (b : Bool) (o : Option Deed) → (IfAny (λ d. deed_end p d ≡ None → ⊥) (first_failed p others ds) → first_failed p others ds ≡ first_failed q others ds) → IfAny (λ d. deed_end p d ≡ None → ⊥) (option_or (failed_last p b o) (first_failed p others ds))
          → option_or (failed_last p b o) (first_failed p others ds) ≡ option_or (failed_last q b o) (first_failed q others ds)
      by_last false o more e = more e
      by_last true None more e = more e
      by_last true (Some d) more e = by_end (deed_end p d) refl e
        where
          by_end : (how : Option Rattle.qc_event.specs.declared.event.How.How) → deed_end p d ≡ how → IfAny (λ x. deed_end p x ≡ None → ⊥) (option_or (if has_committed how then None else Some d) (first_failed p others ds))
              → option_or (if has_committed how then None else Some d) (first_failed p others ds) ≡ option_or (if has_committed (deed_end q d) then None else Some d) (first_failed q others ds)
          by_end None is g = absurd (g is)
          by_end (Some how) is g = by_test (has_committed (Some how)) g ∙ ap (λ x. option_or (if has_committed x then None else Some d) (first_failed q others ds)) (sym (stays d how is))
            where
              by_test : (c : Bool) → IfAny (λ x. deed_end p x ≡ None → ⊥) (option_or (if c then None else Some d) (first_failed p others ds))
                  → option_or (if c then None else Some d) (first_failed p others ds) ≡ option_or (if c then None else Some d) (first_failed q others ds)
              by_test true f = more f
              by_test false f = refl
  failed_stays stays _ ds all ended = refl

-- WHICH DEEDS THEY ARE

module _ (past : Past) where
  -- where each branch was tried as often as it is, no further try stands
  tried_once : (left : ℕ) (xs : List Deed) (d : Deed) (ys : List Deed) → was_tried past false left xs ≡ true → was_tried past true left (xs ++ d ∷ ys) ≡ true → ⊥
  tried_once zero [] d ys h g = true≢false (sym g)
  tried_once zero (x ∷ xs) d ys h g = true≢false (sym h)
  tried_once (suc left) [] d ys h g = true≢false (sym h)
  tried_once (suc left) (x ∷ xs) d ys h g = tried_once (if is_tried_again (deed_end past x) then left else zero) xs d ys h g

  tried_out : (branches : Plan) (here : List Deed) (d : Deed) (more : List Deed) → is_try_in past branches d ≡ true → each_tried past false branches here ≡ true → each_tried past true branches (here ++ d ∷ more) ≡ true → ⊥
  tried_out (Plan.child_then number tries must inner others) here d more is h g =
      let one = and_parts (was_tried past false tries (tries_among past number here)) (each_tried past false others here) h in
      let two = and_parts (was_tried past true tries (tries_among past number (here ++ d ∷ more))) (each_tried past true others (here ++ d ∷ more)) g in
      by_test (is_try past number d) refl is one.0 (ap (was_tried past true tries) (sym (filter-append (is_try past number) here (d ∷ more))) ∙ two.0) (λ t. tried_out others here d more t one.1 two.1)
    where
      by_test : (b : Bool) → is_try past number d ≡ b → (b || is_try_in past others d) ≡ true → was_tried past false tries (tries_among past number here) ≡ true
          → was_tried past true tries (tries_among past number here ++ tries_among past number (d ∷ more)) ≡ true → (is_try_in past others d ≡ true → ⊥) → ⊥
      by_test false at t a b further = further t
      by_test true at t a b further =
          tried_once tries (tries_among past number here) d (tries_among past number more) a
          (ap (λ c. was_tried past true tries (tries_among past number here ++ (if c then d ∷ tries_among past number more else tries_among past number more))) (sym at) ∙ b)
  tried_out Plan.done here d more is h g = true≢false (sym is)
  tried_out (Plan.manage_by k next) here d more is h g = true≢false (sym is)
  tried_out (Plan.par_then branches rest) here d more is h g = true≢false (sym is)
  tried_out (Plan.abort_then levels rest) here d more is h g = true≢false (sym is)
  tried_out (Plan.crash_then copy rest) here d more is h g = true≢false (sym is)
  tried_out (Plan.kill_then session rest) here d more is h g = true≢false (sym is)

  -- who was not started is a try of no body
  pub unknown_in : (c : Name) (branches : Plan) → kind_of past c ≡ None → is_try_in past branches (Deed.child c) ≡ false
  unknown_in c (Plan.child_then number tries must inner others) is = ap (λ o. option_map_or (is_of_body number) o false || is_try_in past others (Deed.child c)) is ∙ unknown_in c others is
  unknown_in c _ is = refl

  pub record AtOnce (branches : Plan) (ds : List Deed) : Type 0 where
    pub each : list_all (is_try_in past branches) ds ≡ true
    pub begins : begin_each past branches ds ≡ true
    pub tried : each_tried past true branches ds ≡ true

  pub at_once : (branches : Plan) (ds : List Deed) → are_tries_at_once past branches ds ≡ true → AtOnce branches ds
  at_once branches ds h =
      let a = and_parts (list_all (is_try_in past branches) ds && begin_each past branches ds) (each_tried past true branches ds) h in
      let b = and_parts (list_all (is_try_in past branches) ds) (begin_each past branches ds) a.0 in
      record { each = b.0; begins = b.1; tried = a.1 }

  none_more : (branches : Plan) (here more : List Deed) → are_tries_at_once past branches (here ++ more) ≡ true → each_tried past false branches here ≡ true → more ≡ []
  none_more branches here [] h out = refl
  none_more branches here (d ∷ more) h out =
      let all = at_once branches (here ++ d ∷ more) h in
      let parts = and_parts (list_all (is_try_in past branches) here) (list_all (is_try_in past branches) (d ∷ more)) (sym (list_all-append (is_try_in past branches) here (d ∷ more)) ∙ all.each) in
      absurd (tried_out branches here d more (and_parts (is_try_in past branches d) (list_all (is_try_in past branches) more) parts.1).0 out all.tried)

-- TWO WAYS TO PART THE SAME DEEDS

-- one front begins with the other
abbrev BeginsWith : List Deed → List Deed → List Deed → List Deed → Type 0
BeginsWith first behind second behind_too = (more : List Deed) × (second ≡ first ++ more) × (behind ≡ more ++ behind_too)

two_fronts : (a b c d : List Deed) → a ++ b ≡ c ++ d → BeginsWith a b c d ⊎ BeginsWith c d a b
two_fronts [] b c d is = inl (c, refl, is)
two_fronts (x ∷ a) b [] d is = inr (x ∷ a, refl, sym is)
two_fronts (x ∷ a) b (y ∷ c) d is = elim (two_fronts a b c d (ap tail is)) [
  | inl h ↦ inl (h.0, same_head ∙ ap (λ l. x ∷ l) h.1, h.2)
  | inr h ↦ inr (h.0, sym same_head_too ∙ ap (λ l. y ∷ l) h.1, h.2)
]
  where
    tail : List Deed → List Deed
    tail [] = []
    tail (z ∷ l) = l

    same_one : x ≡ y
    same_one = cc

    same_head : y ∷ c ≡ x ∷ c
    same_head = ap (λ z. z ∷ c) (sym same_one)

    same_head_too : y ∷ a ≡ x ∷ a
    same_head_too = ap (λ z. z ∷ a) (sym same_one)

-- where each branch was tried as often as it is, or nothing further was done, the front is one alone
pub same_front : (past : Past) (branches : Plan) (a b c d : List Deed) → a ++ b ≡ c ++ d → are_tries_at_once past branches a ≡ true → are_tries_at_once past branches c ≡ true
    → (each_tried past false branches a ≡ true) ⊎ (b ≡ []) → (each_tried past false branches c ≡ true) ⊎ (d ≡ []) → (a ≡ c) × (b ≡ d)
same_front past branches a b c d is first second out out_too = elim (two_fronts a b c d is) [
  | inl h ↦ let none = longer a b c d h second out in (sym (append-nil a) ∙ ap (λ l. a ++ l) (sym none) ∙ sym h.1, h.2 ∙ ap (λ l. l ++ d) none)
  | inr h ↦ let none = longer c d a b h first out_too in (h.1 ∙ ap (λ l. c ++ l) none ∙ append-nil c, sym (h.2 ∙ ap (λ l. l ++ b) none))
]
  where
    front_none : (x y : List Deed) → x ++ y ≡ [] → x ≡ []
    front_none [] y h = refl
    front_none (z ∷ x) y h = absurd cc

    longer : (x y z w : List Deed) → (h : BeginsWith x y z w) → are_tries_at_once past branches z ≡ true → (each_tried past false branches x ≡ true) ⊎ (y ≡ []) → h.0 ≡ []
    longer x y z w h tries (inl all) = none_more past branches x h.0 (ap (are_tries_at_once past branches) (sym h.1) ∙ tries) all
    longer x y z w h tries (inr none) = front_none h.0 w (sym h.2 ∙ none)
