-- What disks restore is what the root was served.
use Rattle.std.proofs.Common.{◌≡◌, ℕ, ◌⊎◌, inl, inr, Bool, true, false, List, [], ◌∷◌, ◌++◌, ◌&&◌, ◌||◌, refl, sym, ap, ap₂, ◌∙◌, subst, arith, append-nil}
use Rattle.std.specs.Prelude.{◌==◌, All, None, Some, is_some, filter, option_to_list, if◌then◌else◌}
use Rattle.std.proofs.Math.Bool.{or-false}
use Rattle.std.proofs.lemmas.Bool.{and_parts, and_right, eqb-true, false_from_ne_true}
use Rattle.std.proofs.lemmas.List.Elements.{All-nil, All-cons, All-append, All-weaker, All-head, All-tail, filter-append}
use Rattle.std.proofs.lemmas.List.Folds.{list_any-append}
use Rattle.std.proofs.lemmas.List.Sums.{fold-append}
use Rattle.qc_names.specs.Name as name
use Rattle.qc_config.specs.Tuple.{after}
use Rattle.qc_config.specs.declared.tuple.Tuple.{Tuple}
use Rattle.qc_event.specs.declared.event.Event.{Event}
use Rattle.qc_event.specs.declared.event.Event.TheVariants as event
use Rattle.qc_event.specs.declared.event.Grant.{Grant}
use Rattle.qc_event.specs.Base.{Setting, start_tuple}
use Rattle.qc_event.specs.Dead.{outcome, is_committed}
use Rattle.qc_event.specs.Grants.{MayGrant}
use Rattle.qc_event.specs.History.{Past, Name, start, end, asked, granted, grants, grant_at}
use Rattle.qc_event.specs.Legal.{Legal, MayHappen}
use Rattle.qc_event.specs.Seen.{changed_by}
use Rattle.qc_event.proofs.OneEntry.{some_or_none}
use Rattle.qc_event.proofs.LastNumber.{ends_in, EndsIn}
use Rattle.qc_event.proofs.Lawful.{committed_is, lawful, started_some}
use Rattle.qc_event.proofs.LegalOrderly.{legal_orderly}
use Rattle.qc_event.proofs.Lineage.{above_started}
use Rattle.qc_event.proofs.RootAndTops.{root_alive}
use Rattle.qc_serial.specs.Visible.{is_visible, served_order, left_at}
use Rattle.qc_serial.proofs.Accesses.{asked_stays, asked_access, grant_asked, committed_granted}
use Rattle.qc_serial.proofs.MossVisible.{leaves}
use Rattle.qc_refine.specs.Final.{is_for_good}
use Rattle.qc_refine.proofs.Order.ForGood.{root_sees}
use Rattle.qc_codec.specs.Ledger.{IsOld, epoch_in}
use Rattle.qc_codec.specs.declared.past.Logged.{Logged}
use Rattle.qc_codec.specs.Restored.{keeps, is_kept, is_kept_at, restored_tuple}
use Rattle.qc_refine.specs.Listed.{logged}
use Rattle.qc_refine.specs.Standing.{IsOfEpoch, IsUntold}
use Rattle.qc_refine.proofs.Order.KeptForGood.{good_committed, kept_is_good}
use Rattle.qc_refine.proofs.Restoring.LoggedTops.{IsLogged, logged_are}

-- LISTS

-- tests that agree on a list choose the same of it
pub filter_same : (p q : Grant → Bool) (gs : List Grant) → All (λ g. p g ≡ q g) gs → filter p gs ≡ filter q gs
filter_same p q [] same = refl
filter_same p q (g ∷ gs) same =
    ap₂ (λ (b : Bool) (rest : List Grant). if b then g ∷ rest else rest) (All-head (λ h. p h ≡ q h) g gs same)
    (filter_same p q gs (All-tail (λ h. p h ≡ q h) g gs same))

filter_none : (p : Grant → Bool) (gs : List Grant) → All (λ g. p g ≡ false) gs → filter p gs ≡ []
filter_none p [] none = refl
filter_none p (g ∷ gs) none =
    ap₂ (λ (b : Bool) (rest : List Grant). if b then g ∷ rest else rest) (All-head (λ h. p h ≡ false) g gs none)
    (filter_none p gs (All-tail (λ h. p h ≡ false) g gs none))

-- ACCESSES

abbrev pub HasAsked : Past → Grant → Type 0
HasAsked past g = is_some (asked past g.access) ≡ true

pub grants_asked : (setting : Setting) (past : Past) (copy : ℕ) → Legal setting past → All (HasAsked past) (grants past copy)
grants_asked setting [] copy legal = All-nil (HasAsked [])
grants_asked setting (e ∷ past) copy legal =
    All-append (HasAsked (e ∷ past)) (grants past copy) (option_to_list (grant_at copy e.event))
    (All-weaker (HasAsked past) (HasAsked (e ∷ past)) (λ g h. asked_stays e past g.access h) (grants past copy) (grants_asked setting past copy legal.0))
    (here e.event refl)
  where
    if_there : (b : Bool) (g : Grant) → is_some (asked (e ∷ past) g.access) ≡ true → All (HasAsked (e ∷ past)) (option_to_list (if b then Some g else None))
    if_there true g h = All-cons (HasAsked (e ∷ past)) g [] h (All-nil (HasAsked (e ∷ past)))
    if_there false g h = All-nil (HasAsked (e ∷ past))

    here : (ev : Event) → e.event ≡ ev → All (HasAsked (e ∷ past)) (option_to_list (grant_at copy ev))
    here (event.Granted c g) is =
        let may : MayGrant setting past e.seat c g = subst (MayHappen setting past e.seat) is legal.1 in
        if_there (c == copy) g (asked_stays e past g.access (grant_asked setting past e.seat c g may))
    here _ is = All-nil (HasAsked (e ∷ past))

-- an access stands below a started top
pub record IsBelow (past : Past) (a : Name) : Type 0 where
  pub number : ℕ
  pub rest : Name
  pub is : a ≡ number ∷ rest
  pub started : is_some (start past (number ∷ rest)) ≡ true
  pub top_started : is_some (start past (number ∷ [])) ≡ true

pub below_top : (setting : Setting) (past : Past) (a : Name) → Legal setting past → is_some (asked past a) ≡ true → IsBelow past a
below_top setting past a legal asks = by_shape a (started_some _ (start past a) (asked_access setting past a legal asks).started)
  where
    by_shape : (a : Name) → is_some (start past a) ≡ true → IsBelow past a
    by_shape [] h = absurd (some_or_none (start past []) h (lawful past (legal_orderly setting past legal)).no_root_start)
    by_shape (x ∷ r) h = record { number = x; rest = r; is = refl; started = h; top_started = above_started past (x ∷ []) r (lawful past (legal_orderly setting past legal)) (omega arith) h }

module _ (epoch : ℕ) (setting : Setting) (past : Past) (legal : Legal setting past) (of_epoch : IsOfEpoch epoch past) where
  -- OLD AND NEW

  -- the record of an old top is above no access of this history
  old_apart : (tops : List Logged) (x : ℕ) (r : Name) → All (λ (l : Logged). IsOld epoch l.top) tops → is_some (start past (x ∷ [])) ≡ true → is_kept tops (x ∷ r) ≡ false
  old_apart [] x r old began = refl
  old_apart (l ∷ tops) x r old began =
      ap₂ (λ a b. a || b) (apart l.top l (All-head (λ (k : Logged). IsOld epoch k.top) l tops old) refl) (old_apart tops x r (All-tail (λ (k : Logged). IsOld epoch k.top) l tops old) began)
    where
      apart : (t : Name) (l : Logged) → IsOld epoch t → l.top ≡ t → keeps (x ∷ r) l ≡ false
      apart [] l old is = absurd old
      apart (y ∷ n) l old is = false_from_ne_true (keeps (x ∷ r) l) (λ kept.
          let above : name.is_ancestor (y ∷ n) (x ∷ r) ≡ true = ap (λ t. name.is_ancestor t (x ∷ r)) (sym is) ∙ (and_parts (name.is_ancestor l.top (x ∷ r)) _ kept).0 in
          let same : y ≡ x = eqb-true y x (and_parts (y == x) _ above).0 in
          let here : epoch_in y ≡ epoch = ap epoch_in same ∙ of_epoch x began in
          omega (arith, here, old))

  -- and that of a top of this history is above no old access
  new_apart : (tops : List Logged) (a : Name) → All (IsLogged past) tops → IsOld epoch a → is_kept tops a ≡ false
  new_apart [] a all old = refl
  new_apart (l ∷ tops) a all old =
      ap₂ (λ a b. a || b) (apart a l (All-head (IsLogged past) l tops all) old) (new_apart tops a (All-tail (IsLogged past) l tops all) old)
    where
      apart : (a : Name) (l : Logged) → IsLogged past l → IsOld epoch a → keeps a l ≡ false
      apart [] l is old = absurd old
      apart (y ∷ n) l is old = false_from_ne_true (keeps (y ∷ n) l) (λ kept.
          let above : name.is_ancestor (is.number ∷ []) (y ∷ n) ≡ true = ap (λ t. name.is_ancestor t (y ∷ n)) (sym is.is_top) ∙ (and_parts (name.is_ancestor l.top (y ∷ n)) _ kept).0 in
          let same : is.number ≡ y = eqb-true is.number y (and_parts (is.number == y) _ above).0 in
          let began : is_some (start past (is.number ∷ [])) ≡ true = (lawful past (legal_orderly setting past legal)).end_has_start (is.number ∷ []) (ap is_some (committed_is (end past (is.number ∷ [])) is.committed).1) in
          let here : epoch_in y ≡ epoch = ap epoch_in (sym same) ∙ of_epoch is.number began in
          omega (arith, here, old))

  module _ (before : List Logged) (old_tops : All (λ (l : Logged). IsOld epoch l.top) before) where
    kept_old : (a : Name) → IsOld epoch a → is_kept (before ++ logged past) a ≡ is_kept before a
    kept_old a old = list_any-append (keeps a) before (logged past) ∙ ap (λ b. is_kept before a || b) (new_apart (logged past) a (logged_are setting past legal) old) ∙ or-false (is_kept before a)

    kept_new : (a : Name) → is_some (asked past a) ≡ true → is_kept (before ++ logged past) a ≡ is_for_good past a
    kept_new a asks =
        let b = below_top setting past a legal asks in
        ap (is_kept (before ++ logged past)) b.is
        ∙ list_any-append (keeps (b.number ∷ b.rest)) before (logged past)
        ∙ ap (λ c. c || is_kept (logged past) (b.number ∷ b.rest)) (old_apart before b.number b.rest old_tops b.top_started)
        ∙ kept_is_good setting past b.number b.rest legal b.started
        ∙ ap (is_for_good past) (sym b.is)

    -- a grant that the history does not tell is not kept
    untold_lost : (g : Grant) → IsUntold past g → is_kept (before ++ logged past) g.access ≡ false
    untold_lost g untold = kept_new g.access untold.asked ∙ false_from_ne_true (is_for_good past g.access) (λ good. by_last_number (ends_in g.access) good)
      where
        by_last_number : (g.access ≡ []) ⊎ EndsIn g.access → is_for_good past g.access ≡ true → ⊥
        by_last_number (inl root) good = no_root (below_top setting past g.access legal untold.asked)
          where
            no_root : IsBelow past g.access → ⊥
            no_root b = cons_or_nil b.number b.rest (sym b.is ∙ root)
              where
                cons_or_nil : (x : ℕ) (r : Name) → x ∷ r ≡ [] → ⊥
                cons_or_nil x r is = cc
        by_last_number (inr (p, k, is)) good =
            some_or_none (granted past g.access)
            (committed_granted setting past g.access legal untold.asked (ap (λ m. is_committed (outcome past m)) is ∙ good_committed past p k (ap (is_for_good past) (sym is) ∙ good)))
            untold.not_granted

    -- ONE TUPLE

    pub restores : (copy rec : ℕ) (first : Tuple) (old extra : List Grant) → All (λ (g : Grant). IsOld epoch g.access) old → All (IsUntold past) extra
        → restored_tuple before rec first old ≡ start_tuple setting.base copy rec
        → restored_tuple (before ++ logged past) rec first (old ++ (grants past copy ++ extra)) ≡ left_at setting.base (served_order past []) copy rec
    restores copy rec first old extra are_old are_untold started =
        ap (changed_by first) (filter-append (is_kept_at (before ++ logged past) rec) old (grants past copy ++ extra))
        ∙ fold-append (λ (t : Tuple) (g : Grant). after t g.op) first (filter (is_kept_at (before ++ logged past) rec) old) (filter (is_kept_at (before ++ logged past) rec) (grants past copy ++ extra))
        ∙ ap₂ changed_by
        (ap (changed_by first) (filter_same (is_kept_at (before ++ logged past) rec) (is_kept_at before rec) old (All-weaker (λ (g : Grant). IsOld epoch g.access) (λ g. is_kept_at (before ++ logged past) rec g ≡ is_kept_at before rec g) (λ g o. ap (λ b. (g.rec == rec) && b) (kept_old g.access o)) old are_old)) ∙ started)
        (filter-append (is_kept_at (before ++ logged past) rec) (grants past copy) extra
        ∙ ap₂ (λ (xs ys : List Grant). xs ++ ys)
        (filter_same (is_kept_at (before ++ logged past) rec) (λ g. (g.rec == rec) && is_visible past g.access []) (grants past copy)
        (All-weaker (HasAsked past) (λ g. is_kept_at (before ++ logged past) rec g ≡ ((g.rec == rec) && is_visible past g.access [])) (λ g h. ap (λ b. (g.rec == rec) && b) (kept_new g.access h ∙ sym (root_sees past g.access))) (grants past copy) (grants_asked setting past copy legal)))
        (filter_none (is_kept_at (before ++ logged past) rec) extra (All-weaker (IsUntold past) (λ g. is_kept_at (before ++ logged past) rec g ≡ false) (λ g u. and_right (g.rec == rec) _ (untold_lost g u)) extra are_untold))
        ∙ append-nil (filter (λ g. (g.rec == rec) && is_visible past g.access []) (grants past copy)))
        ∙ sym (leaves setting past [] legal tt (root_alive setting past legal) copy rec)
