-- What a try of a body leaves that runs as a top.
use Rattle.std.proofs.Common.{◌≡◌, inl, inr, ℕ, ◌<◌, Bool, true, false, List, [], ◌∷◌, ◌++◌, length, refl, sym, ap, ◌∙◌, subst, append-nil, append_assoc, arith, length-append}
use mathlib.Core.Bool.{true≢false}
use Rattle.std.specs.Prelude.{None, Some, MatchOption, is_some, is_none, find, option_map, ◌&&◌, ◌||◌}
use Rattle.std.specs.List.{AllByRecursion, list_all}
use Rattle.std.proofs.lemmas.Bool.{and_from, false_from_ne_true}
use Rattle.std.proofs.lemmas.List.Folds.{list_all-append}
use Rattle.qc_event.specs.declared.event.Entry.{Entry}
use Rattle.qc_event.specs.declared.event.Event.TheVariants as event
use Rattle.qc_event.specs.declared.event.Kind.TheVariants as kind
use Rattle.qc_event.specs.History.{Past, Name, Begun, start, end, is_ready, children, is_child, kind_of}
use Rattle.qc_event.specs.Legal.{Legal}
use Rattle.qc_event.proofs.Booleans.{all_wider}
use Rattle.qc_event.proofs.LastNumber.{child_last, child_longer, no_child_length}
use Rattle.qc_event.proofs.Lawful.{lawful}
use Rattle.qc_event.proofs.LegalOrderly.{legal_orderly}
use Rattle.qc_event.proofs.Lineage.{IsFresh, fresh_below}
use Rattle.qc_event.proofs.OneEntry.{child_added, start_is, stays_some, some_or_none}
use Rattle.qc_event.proofs.Orderly.{Begins}
use Rattle.qc_event.proofs.Later.{earlier_legal, start_still}
use Rattle.qc_event.proofs.RootAndTops.{ready_started}
use Rattle.qc_script.specs.Calls.{by_client, IsOfSession, is_over}
use Rattle.qc_script.specs.Client.{Client, mine, is_own, scope, Made, IsLater, AreOurs}
use Rattle.qc_interp.specs.Deeds.{deeds}
use Rattle.qc_interp.proofs.Listing.Lists.{all_front, all_last}
use Rattle.qc_interp.proofs.Following.Deeds.{start_silent, deeds_quiet, no_deeds, same_children}
use Rattle.qc_interp.specs.Follows.{FollowsPlan, IsUnended}
use Rattle.qc_interp.specs.Reach.{Reach}
use Rattle.qc_script.specs.Plan.{Numbered}
use Rattle.qc_interp.specs.Running.{IsBelow, Runs, LeavesAt, EndsAt, Ended, CutOff}
use Rattle.qc_interp.specs.Session.{tops, NotBegun, RunsBodies, AreAllOurs, AreUnderIts, InTurnAt, RanInTurn, CutTops}
use Rattle.qc_interp.specs.Turns.{is_done, seat_of, is_under, seat_for}
use Rattle.qc_script.specs.Numbers.{each, Numbers, own_next}
use Rattle.qc_interp.proofs.Scopes.Scope.{whole_scope}
use Rattle.qc_interp.proofs.Scopes.Adding.{numbers_stay, one_both, all_one, all_later, all_for, top_for, after_stay, begun_after, all_over_more, over_ended}
use Rattle.qc_interp.proofs.Following.Turning.{InTurn, Alone, Keeps, start_turns, alone_up, some_done, itself}
use Rattle.qc_interp.specs.Tries.{is_tried_again, is_again}
use Rattle.qc_interp.specs.declared.stops.Finish.{Finish}
use Rattle.qc_interp.proofs.Trying.TriesAlike.{no_tries}
use Rattle.qc_interp.proofs.Scopes.Mine.{kept_some}
use Rattle.qc_interp.proofs.Following.Followed.{followed_done, done_closed}
use Rattle.qc_interp.proofs.Stepping.Stopping.{unended_again}
use Rattle.qc_interp.proofs.Scopes.Growth.{made_is, made_later, later_itself, later_trans, ours_before}
use Rattle.qc_interp.proofs.Scopes.Seats.{start_under, own_under, later_seat, later_under}
use Rattle.qc_interp.proofs.Stepping.Managers.{absent, came_after, none_kept, children_rest, start_rest, one_end, one_ready}
use Rattle.qc_interp.specs.Adding.{AllStayIn, is_of_one, AllOfOne, starts_for, AllForIts, own_after, all_over}
use Rattle.qc_interp.proofs.Stepping.Asked.{asked_made}
use Rattle.qc_interp.proofs.Trying.TriesLead.{again_is}
use Rattle.qc_interp.proofs.Trying.OneTry.{IsTry, is_try}

-- A TOP THAT BEGINS

module _ (c : Client) (t : Name) (number : ℕ) (before now : Past) (top : is_child [] t ≡ true) (m : Made c (by_client c (event.Start t (kind.User c.session number)) ∷ []) before now) where
  abbrev begins : Entry
  begins = by_client c (event.Start t (kind.User c.session number))

  now_is : mine c now ≡ begins ∷ mine c before
  now_is = made_is c _ before now m

  long : length t ≡ 1
  long = child_longer [] t top

  -- it was new
  pub record NewTop : Type 0 where
    pub fresh : IsFresh (mine c before) t
    pub idle : deeds (mine c before) t ≡ []
    pub unready : is_ready (mine c before) t ≡ false
    pub started : start now t ≡ Some (record { seat = c.number; kind = kind.User c.session number })

  new : NewTop
  new =
      let at = came_after c [] begins [] before now m in
      let old = at.mid ++ before in
      let l = child_last [] t top in
      let keeps : Begins old t (kind.User c.session number) = (legal_orderly c.setting (begins ∷ (at.mid ++ before)) at.legal).1 in
      let first : Begins old (l.0 ∷ []) (kind.User c.session number) = subst (λ n. Begins old n (kind.User c.session number)) l.1 keeps in
      let none : start old t ≡ None = ap (start old) l.1 ∙ first.fresh in
      let was : IsFresh old t = subst (IsFresh old) (append-nil t) (fresh_below old t [] (lawful old (legal_orderly c.setting old at.legal.0)) (omega (arith, long)) none) in
      record {
        fresh = record { no_start = absent c _ at.mid before was.no_start; no_end = absent c _ at.mid before was.no_end; no_children = none_kept c before t (children_rest at.mid before t was.no_children) };
        idle = no_deeds (λ (e : Entry). is_own c e.seat) c.setting before t (earlier_legal c.setting at.mid before at.legal.0) (start_rest at.mid before t was.no_start) (children_rest at.mid before t was.no_children);
        unready = false_from_ne_true _ (λ h. some_or_none (start old t) (ready_started c.setting old t at.legal.0 (later_ready at.mid (kept_some (λ (e : Entry). is_own c e.seat) _ before h))) none);
        started = ap (λ h. start h t) at.is ∙ start_still at.after _ t _ (start_is begins old t (kind.User c.session number) none refl);
      }
    where
      later_ready : (mid : Past) → is_ready before t ≡ true → is_ready (mid ++ before) t ≡ true
      later_ready mid h = ap is_some (Rattle.qc_event.proofs.Histories.earliest-append _ mid before) ∙ stays_some _ _ h

  pub tops_begun : tops c now ≡ tops c before ++ t ∷ []
  tops_begun = ap (λ h. children h []) now_is ∙ child_added begins (mine c before) [] t (kind.User c.session number) refl top

  pub kind_top : kind_of (mine c now) t ≡ Some (kind.User c.session number)
  kind_top = ap (λ h. kind_of h t) now_is ∙ ap (option_map (λ (b : Begun). b.kind)) (start_is begins (mine c before) t (kind.User c.session number) new.fresh.no_start refl)

  -- a top starts under the seat of each that the client made before
  keeps_top : AreUnderIts c before → Keeps begins (mine c before)
  keeps_top under =
      let l = child_last [] t top in
      subst (λ n. seat_for (mine c before) c.number (event.Start n (kind.User c.session number)) ≡ true) (sym l.1) under

  pub turns_top : AreUnderIts c before → InTurn (mine c before) → Alone (mine c before) [] → InTurn (mine c now) × Alone (mine c now) t
  turns_top under turns alone = subst (λ h. InTurn h × Alone h t) (sym now_is) (start_turns begins (mine c before) [] t (kind.User c.session number) refl top (keeps_top under) turns alone)

  pub seat_top : seat_of now t ≡ Some c.number
  seat_top = start_under now t c.number (kind.User c.session number) new.started

  pub none_top : deeds (mine c now) t ≡ []
  none_top = ap (λ h. deeds h t) now_is ∙ deeds_quiet t (begins ∷ []) (mine c before) (start_silent t t (kind.User c.session number) (no_child_length t t (λ l. omega (arith, l))), tt) ∙ new.idle

  above_top : (p r : Name) → t ≡ p ++ r → 0 < length p → IsUnended p (end (mine c now) p) × (is_ready (mine c now) p ≡ false)
  above_top p r is far = subst (λ n. IsUnended n (end (mine c now) n) × (is_ready (mine c now) n ≡ false)) (itself p r is far) (
    inl (one_end c _ before now m t refl ∙ new.fresh.no_end),
    one_ready c _ before now m t refl ∙ new.unready,
  )
    where
      itself : (p r : Name) → t ≡ p ++ r → 0 < length p → t ≡ p
      itself p [] is far = is ∙ append-nil p
      itself p (x ∷ r) is far = let z : ⊥ = omega (arith, long, ap length is, length-append p (x ∷ r), far) in absurd z

  pub runs_top : c.root ≡ [] → Runs c t now
  runs_top rootless = record {
    legal = m.legal;
    user = subst (λ o. MatchOption o ⊥ (λ (b : Begun). IsOfSession c.session b.kind)) (sym new.started) refl;
    seat = seat_top;
    nonroot = omega (arith, long);
    below = subst (λ r. IsBelow r t) (sym rootless) (omega (arith, long), refl);
    above = above_top;
    closed = λ ours. ap (find (λ x. is_none (end (mine c now) x))) (same_children (mine c now) [] t none_top);
  }

pub turn_itself : (c : Client) (now : Past) → Legal c.setting now → RanInTurn c now now
turn_itself c now legal = record { later = later_itself c now legal; inside = refl; of_session = refl; numbers = λ was. was; seats = λ was. was; order = λ ours after over. (after, over); made = []; more = sym (append-nil _); turns = λ ours under turns alone. (turns, alone) }

pub turn_trans : {reach : Reach} (c : Client) (a b d : Past) → IsLater c b d → RanInTurn c a b → InTurnAt reach c b d → InTurnAt reach c a d
turn_trans c a b d later f g = record {
  made = f.made ++ g.made;
  later = later_trans c a b d f.later g.later;
  inside = one_both c f.made g.made f.later.newer g.later.newer f.inside g.inside;
  of_session = all_later (starts_for c.session) c f.later.newer g.later.newer f.of_session g.of_session;
  numbers = λ was. g.numbers (f.numbers was);
  seats = λ was. g.seats (f.seats was);
  order = λ ours after over.
      let mid = f.order (all_front (λ n. AreOurs c n d) (λ n. AreOurs c n b) (tops c b) g.made (λ n o. ours_before c n b d later o) (subst (AllByRecursion (λ n. AreOurs c n d)) g.more ours)) after over in
      g.order ours mid.0 mid.1;
  more = g.more ∙ ap (λ l. l ++ g.made) f.more ∙ append_assoc (tops c a) f.made g.made;
  turns = λ ours under turns alone.
      let mid = f.turns (all_front (λ n. AreOurs c n d) (λ n. AreOurs c n b) (tops c b) g.made (λ n o. ours_before c n b d later o) (subst (AllByRecursion (λ n. AreOurs c n d)) g.more ours)) under turns alone in
      g.turns ours (f.seats under) mid.0 mid.1;
}

-- nothing was made
pub turn_cut : (c : Client) (before now : Past) → Made c [] before now → InTurnAt Reach.cut_off c before now
turn_cut c before now m =
    let own = made_is c [] before now m in
    record {
      made = [];
      more = ap (λ h. children h []) own ∙ sym (append-nil _);
      later = made_later c [] before now m;
      inside = ap (list_all (is_of_one [])) m.made;
      of_session = ap (list_all (starts_for c.session)) m.made;
      numbers = λ was. subst (λ h. each (own_next c) h ≡ true) (sym m.grown) (numbers_stay c [] m.newer before (ap (list_all (Rattle.qc_interp.specs.Adding.stays_in [])) m.made) was);
      order = λ ours after over. (subst (λ h. each (own_after c) h ≡ true) (sym m.grown) (after_stay c [] m.newer before (ap (list_all (Rattle.qc_interp.specs.Adding.stays_in [])) m.made) after), tt);
      seats = subst (λ h. list_all (is_under h c.number) (children h []) ≡ true) (sym own);
      turns = λ ours under turns alone. (subst InTurn (sym own) turns, tt);
    }

-- A TRY OF A TOP

pub record TriedTop (c : Client) (body : Numbered) (before now : Past) (again : Bool) : Type 0 where
  pub later : IsLater c before now
  pub in_turn : RanInTurn c before now
  pub top : Name
  pub more : tops c now ≡ tops c before ++ top ∷ []
  pub one : IsTry Reach.to_the_end c top body (AreOurs c top now) before now
  pub tried : again ≡ is_tried_again (end (mine c now) top)

-- A try of a top that was cut off.
pub record CutTop (c : Client) (body : Numbered) (before now : Past) : Type 0 where
  pub in_turn : InTurnAt Reach.cut_off c before now
  pub top : Name
  pub more : tops c now ≡ tops c before ++ top ∷ []
  pub one : IsTry Reach.cut_off c top body (AreOurs c top now) before now
  pub tried : is_tried_again (end (mine c now) top) ≡ false

module _ (c : Client) (t : Name) (body : Numbered) (before mid now : Past) (top : is_child [] t ≡ true) (m : Made c (by_client c (event.Start t (kind.User c.session body.number)) ∷ []) before mid) (numbers : Numbers c before mid) where
  long_top : length t ≡ 1
  long_top = child_longer [] t top

  whole : scope c t ≡ t
  whole = whole_scope c t long_top

  begun_one : AllOfOne c (t ∷ []) m.newer
  begun_one = ap (list_all (is_of_one (t ∷ []))) m.made ∙ ap (λ b. (b || false) && true) (itself t)

  begun_for : AllForIts c m.newer
  begun_for = ap (list_all (starts_for c.session)) m.made ∙ ap (λ b. b && true) (top_for c.session body.number t (by_client c (event.Start t (kind.User c.session body.number))) top refl)

  one_one : (older newer : Past) → AllOfOne c (t ∷ []) older → AllOfOne c (t ∷ []) newer → AllOfOne c (t ∷ []) (newer ++ older)
  one_one older newer a b = all_later (is_of_one (t ∷ [])) c older newer a b

  -- by what the top left, which has ended or was cut off
  module _ (reach : Reach) (leaves : LeavesAt reach c t mid now) where
    abbrev later_is : IsLater c before now
    later_is = later_trans c before mid now (made_later c _ before mid m) leaves.later

    more_is : tops c now ≡ tops c before ++ t ∷ []
    more_is = same_children (mine c now) (mine c mid) [] (leaves.above [] t refl (let l : length t ≡ 1 = child_longer [] t top in omega (arith, l))).deeds ∙ tops_begun c t body.number before mid top m

    inside_is : AllOfOne c (t ∷ []) later_is.newer
    inside_is = one_one (made_later c _ before mid m).newer leaves.later.newer begun_one (all_one c t leaves.later.newer long_top (subst (λ x. AllStayIn c x leaves.later.newer) whole leaves.inside))

    for_it : AllForIts c later_is.newer
    for_it = all_later (starts_for c.session) c (made_later c _ before mid m).newer leaves.later.newer begun_for (all_for c (scope c t) leaves.later.newer leaves.inside)

    numbers_are : Numbers c before now
    numbers_are was = subst (λ h. each (own_next c) h ≡ true) (sym leaves.later.grown) (numbers_stay c (scope c t) leaves.later.newer mid leaves.inside (numbers was))

    seats_are : AreUnderIts c before → AreUnderIts c now
    seats_are was =
        ap (list_all (is_under (mine c now) c.number)) more_is ∙ list_all-append (is_under (mine c now) c.number) (tops c before) (t ∷ [])
        ∙ and_from _ _ (all_wider (is_under (mine c before) c.number) (is_under (mine c now) c.number) (tops c before) (later_under c before now later_is c.number) was)
        (ap (λ b. b && true) (own_under c now t (later_seat c mid now leaves.later t c.number (seat_top c t body.number before mid top m))))

    after_is : each (own_after c) before ≡ true → all_over c before ≡ true → each (own_after c) now ≡ true
    after_is after over =
        subst (λ h. each (own_after c) h ≡ true) (sym leaves.later.grown) (after_stay c (scope c t) leaves.later.newer mid leaves.inside (subst (λ h. each (own_after c) h ≡ true) (sym m.grown) (begun_after c _ m.newer before m.made after over)))

    ours_new : AreAllOurs c now → AreOurs c t now
    ours_new ours = all_last (λ n. AreOurs c n now) (tops c before) t [] (subst (AllByRecursion (λ n. AreOurs c n now)) more_is ours)

    one_is : EndsAt reach c t mid now body.plan → IsTry reach c t body (AreOurs c t now) before now
    one_is ends = is_try reach c t body (AreOurs c t now) before mid now m (kind_top c t body.number before mid top m) (none_top c t body.number before mid top m) leaves.later ends (λ ours. ours)

  pub top_once : (to : Finish) → Ended c t mid now body.plan to → TriedTop c body before now (is_again to)
  top_once to ended = record {
    later = later_is Reach.to_the_end ended.leaves;
    top = t;
    more = more_is Reach.to_the_end ended.leaves;
    in_turn = record {
      made = t ∷ [];
      more = more_is Reach.to_the_end ended.leaves;
      later = later_is Reach.to_the_end ended.leaves;
      inside = inside_is Reach.to_the_end ended.leaves;
      of_session = for_it Reach.to_the_end ended.leaves;
      numbers = numbers_are Reach.to_the_end ended.leaves;
      seats = seats_are Reach.to_the_end ended.leaves;
      order = λ ours after over. (after_is Reach.to_the_end ended.leaves after over, all_later_over (ours_new Reach.to_the_end ended.leaves ours) (later_is Reach.to_the_end ended.leaves) over);
      turns = λ ours under turns alone.
          let one = ours_new Reach.to_the_end ended.leaves ours in
          let a = turns_top c t body.number before mid top m under turns alone in
          let b = ended.leaves.turns one a.0 a.1 in
          (b.0, alone_up (mine c now) [] t top (done_is (follows_is one)) b.1);
    };
    one = one_is Reach.to_the_end ended.leaves ended.ends;
    tried = sym (again_is to (end (mine c now) t) ended.tried);
  }
    where
      follows_is : AreOurs c t now → FollowsPlan c.session (mine c now) t body.plan (deeds (mine c now) t) (end (mine c now) t)
      follows_is ours = (one_is Reach.to_the_end ended.leaves ended.ends).runs ours

      over_is : AreOurs c t now → is_over now t ≡ true
      over_is ours = elim (done_closed (mine c now) t (followed_done c.session (mine c now) t body.plan (deeds (mine c now) t) (end (mine c now) t) (follows_is ours))) [
        | inl some ↦ over_ended now t (kept_some (λ (e : Entry). is_own c e.seat) _ now some)
        | inr ready ↦ ended.leaves.over (λ was. absurd (true≢false (sym was ∙ (above_top c t body.number before mid top m t [] (sym (append-nil t)) (omega (arith, long_top))).1))) ready
      ]

      all_later_over : AreOurs c t now → IsLater c before now → all_over c before ≡ true → all_over c now ≡ true
      all_later_over ours later was =
          subst (λ h. all_over c h ≡ true) (sym later.grown)
          (all_over_more c later.newer before (t ∷ []) (ap (tops c) (sym later.grown) ∙ more_is Reach.to_the_end ended.leaves) was (subst (λ h. list_all (is_over h) (t ∷ []) ≡ true) later.grown (ap (λ b. b && true) (over_is ours))))

      done_is : FollowsPlan c.session (mine c now) t body.plan (deeds (mine c now) t) (end (mine c now) t) → is_done (mine c now) t ≡ true
      done_is f = elim (done_closed (mine c now) t (followed_done c.session (mine c now) t body.plan (deeds (mine c now) t) (end (mine c now) t) f)) [
        | inl some ↦ some_done (mine c now) t some
        | inr ready ↦ ready_done (is_some (end (mine c now) t)) (is_ready (mine c now) t) ready
      ]
        where
          ready_done : (a b : Bool) → b ≡ true → Rattle.std.specs.Prelude.◌||◌ a b ≡ true
          ready_done true b h = refl
          ready_done false b h = h

  pub top_cut : CutOff c t mid now body.plan → CutTop c body before now
  top_cut cut = record {
    top = t;
    more = more_is Reach.cut_off cut.leaves;
    in_turn = record {
      made = t ∷ [];
      more = more_is Reach.cut_off cut.leaves;
      later = later_is Reach.cut_off cut.leaves;
      inside = inside_is Reach.cut_off cut.leaves;
      of_session = for_it Reach.cut_off cut.leaves;
      numbers = numbers_are Reach.cut_off cut.leaves;
      seats = seats_are Reach.cut_off cut.leaves;
      order = λ ours after over. (after_is Reach.cut_off cut.leaves after over, tt);
      turns = λ ours under turns alone.
          let a = turns_top c t body.number before mid top m under turns alone in
          ((cut.leaves.turns (ours_new Reach.cut_off cut.leaves ours) a.0 a.1).0, tt);
    };
    one = one_is Reach.cut_off cut.leaves cut.begins;
    tried = unended_again t _ cut.unended;
  }

-- no body was begun where the run was cut off
pub none_begun : (s : ℕ) (past : Past) (bodies : List Numbered) → RunsBodies Reach.cut_off s past bodies []
none_begun s past [] = tt
none_begun s past (b ∷ bodies) = no_tries (end past) _ (NotBegun Reach.cut_off) (λ last further. RunsBodies Reach.cut_off s past bodies further) None tt (none_begun s past bodies) b.tries

-- nor where nothing was made
pub none_cut : (c : Client) (bodies : List Numbered) (before now : Past) → Made c [] before now → CutTops c before now bodies
none_cut c bodies before now m = record {
  in_turn = turn_cut c before now m;
  begins = λ ours. (
    [],
    ap (λ h. children h []) (made_is c [] before now m) ∙ sym (append-nil _),
    none_begun c.session (mine c now) bodies,
    asked_made c [] before now _ m tt,
  );
}
