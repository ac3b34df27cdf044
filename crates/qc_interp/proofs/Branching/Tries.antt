-- What a try of a branch's body leaves, below the client's root.
use Rattle.std.proofs.Common.{◌≡◌, Bool, true, false, List, [], ◌∷◌, ◌++◌, refl, sym, ap, ◌∙◌, subst, append-nil, append_assoc, arith}
use Rattle.std.specs.Prelude.{is_some, ◌&&◌, ◌||◌}
use Rattle.std.specs.List.{AllByRecursion, list_all}
use Rattle.std.proofs.lemmas.List.Elements.{filter-append}
use Rattle.std.proofs.lemmas.Bool.{and_from, and_parts, or_left, or_right}
use Rattle.std.proofs.lemmas.List.Folds.{list_all-append, list_any-append}
use Rattle.qc_event.specs.declared.event.Event.TheVariants as event
use Rattle.qc_event.specs.declared.event.Kind.TheVariants as kind
use Rattle.qc_event.specs.History.{Past, Name, end, is_ready, children, is_child}
use Rattle.qc_event.specs.Legal.{Legal}
use Rattle.qc_event.proofs.LastNumber.{child_longer}
use Rattle.qc_event.proofs.OneEntry.{child_added}
use Rattle.qc_script.specs.Calls.{by_client}
use Rattle.qc_script.specs.Client.{Client, mine, scope, Made, IsLater, AreOurs}
use Rattle.qc_script.specs.Plan.{Numbered}
use Rattle.qc_interp.specs.Adding.{stays_in, AllStayIn}
use Rattle.qc_interp.specs.Branches.{tries_by, AreTriesOurs, stays_with}
use Rattle.qc_interp.specs.Follows.{IsUnended}
use Rattle.qc_interp.specs.Reach.{Reach, AtTheEnd}
use Rattle.qc_interp.specs.Running.{LeavesIt, LeavesAt, EndsAt, CameTo, Ended, CutOff}
use Rattle.qc_interp.specs.Tries.{is_tried_again}
use Rattle.qc_interp.specs.Turns.{is_under}
use Rattle.qc_interp.specs.declared.stops.Finish.{Finish}
use Rattle.qc_interp.proofs.Listing.Lists.{all_front, all_last}
use Rattle.qc_interp.proofs.Scopes.Adding.{start_stays_in}
use Rattle.qc_interp.proofs.Following.Deeds.{same_children}
use Rattle.qc_interp.proofs.Scopes.Growth.{made_is, made_later, later_itself, later_trans, ours_before}
use Rattle.qc_interp.proofs.Rows.Ours.{child_is_scope}
use Rattle.qc_interp.proofs.Scopes.Seats.{own_under, later_seat, later_under}
use Rattle.qc_interp.proofs.Trying.OneTry.{IsTry, is_try, left_above, ended_below}
use Rattle.qc_interp.proofs.Stepping.Stopping.{unended_again}
use Rattle.qc_interp.proofs.Trying.Tried.{MayBegin, end_begun, ready_begun, kind_begun, turns_begun, none_begun, seat_begun}
use Rattle.qc_interp.proofs.Following.Turning.{InTurn, Alone, alone_up, some_done, itself}

-- WHAT A BRANCH'S CLIENT LEAVES

-- what it left of a transaction at or above its root
abbrev pub LeavesUp : Client → Past → Past → Type 0
LeavesUp c before now = (p r : Name) → c.root ≡ p ++ r → (IsUnended p (end (mine c before) p) → IsUnended p (end (mine c now) p)) × (is_ready (mine c now) p ≡ is_ready (mine c before) p)

-- What was made meanwhile is of these tries alone, each under the client's number; it was made in turn, and all of it is done
-- where the run came to its end.
pub record TriesAt (reach : Reach) (c : Client) (before now : Past) : Type 0 where
  pub later : IsLater c before now
  pub made : List Name
  pub more : tries_by c now ≡ tries_by c before ++ made
  pub inside : list_all (stays_with made) (mine c later.newer) ≡ true
  pub seats : list_all (is_under (mine c now) c.number) made ≡ true
  pub above : LeavesUp c before now
  pub turns : AreTriesOurs c now → InTurn (mine c before) → Alone (mine c before) c.root → InTurn (mine c now) × AtTheEnd reach (Alone (mine c now) c.root)

list_all_weaker : {A : Type 0} (p q : A → Bool) → ((x : A) → p x ≡ true → q x ≡ true) → (xs : List A) → list_all p xs ≡ true → list_all q xs ≡ true
list_all_weaker p q step [] h = refl
list_all_weaker p q step (x ∷ xs) h = let parts = and_parts (p x) _ h in and_from (q x) _ (step x parts.0) (list_all_weaker p q step xs parts.1)

stay_more : (one two : List Name) (es : Past) → list_all (stays_with one) es ≡ true → list_all (stays_with (one ++ two)) es ≡ true
stay_more one two es h = list_all_weaker (stays_with one) (stays_with (one ++ two)) (λ e stays. list_any-append (λ t. stays_in t e) one two ∙ or_left _ _ stays) es h

more_stay : (one two : List Name) (es : Past) → list_all (stays_with two) es ≡ true → list_all (stays_with (one ++ two)) es ≡ true
more_stay one two es h = list_all_weaker (stays_with two) (stays_with (one ++ two)) (λ e stays. list_any-append (λ t. stays_in t e) one two ∙ or_right _ _ stays) es h

pub tries_ours_before : (c : Client) (before now : Past) (made : List Name) → IsLater c before now → tries_by c now ≡ tries_by c before ++ made → AreTriesOurs c now → AreTriesOurs c before
tries_ours_before c before now made later more ours = all_front (λ n. AreOurs c n now) (λ n. AreOurs c n before) (tries_by c before) made (λ n o. ours_before c n before now later o) (subst (AllByRecursion (λ n. AreOurs c n now)) more ours)

pub tries_itself : (c : Client) (now : Past) → Legal c.setting now → TriesAt Reach.to_the_end c now now
tries_itself c now legal = record { later = later_itself c now legal; made = []; more = sym (append-nil _); inside = refl; seats = refl; above = λ p r is. (λ was. was, refl); turns = λ ours turns alone. (turns, alone) }

pub tries_trans : {reach : Reach} (c : Client) (a b d : Past) → TriesAt Reach.to_the_end c a b → TriesAt reach c b d → TriesAt reach c a d
tries_trans c a b d f g = record {
  later = later_trans c a b d f.later g.later;
  made = f.made ++ g.made;
  more = g.more ∙ ap (λ l. l ++ g.made) f.more ∙ append_assoc (tries_by c a) f.made g.made;
  inside =
      ap (list_all (stays_with (f.made ++ g.made))) (filter-append _ g.later.newer f.later.newer)
      ∙ list_all-append (stays_with (f.made ++ g.made)) (mine c g.later.newer) (mine c f.later.newer)
      ∙ and_from _ _ (more_stay f.made g.made (mine c g.later.newer) g.inside) (stay_more f.made g.made (mine c f.later.newer) f.inside);
  seats =
      list_all-append (is_under (mine c d) c.number) f.made g.made
      ∙ and_from _ _ (list_all_weaker (is_under (mine c b) c.number) (is_under (mine c d) c.number) (λ n under. later_under c b d g.later c.number n under) f.made f.seats) g.seats;
  above = λ p r is. (λ was. (g.above p r is).0 ((f.above p r is).0 was), (g.above p r is).1 ∙ (f.above p r is).1);
  turns = λ ours turns alone.
      let mid = f.turns (tries_ours_before c b d g.made g.later g.more ours) turns alone in
      g.turns ours mid.0 mid.1;
}

-- A TRY OF A BRANCH

pub record TriedOne (c : Client) (body : Numbered) (n : Name) (before now : Past) (to : Finish) : Type 0 where
  pub leaves : TriesAt Reach.to_the_end c before now
  pub is_made : leaves.made ≡ n ∷ []
  pub one : IsTry Reach.to_the_end c n body (AreOurs c n now) before now
  pub came : CameTo to (end (mine c now) n)
  pub ended : AreOurs c n now → is_some (end (mine c now) n) ≡ true

-- a try that was cut off
pub record CutOne (c : Client) (body : Numbered) (n : Name) (before now : Past) : Type 0 where
  pub leaves : TriesAt Reach.cut_off c before now
  pub is_made : leaves.made ≡ n ∷ []
  pub one : IsTry Reach.cut_off c n body (AreOurs c n now) before now
  pub tried : is_tried_again (end (mine c now) n) ≡ false

module _ (c : Client) (n : Name) (body : Numbered) (before mid now : Past) (may : MayBegin c c.root before) (child : is_child c.root n ≡ true)
    (m : Made c (by_client c (event.Start n (kind.User c.session body.number)) ∷ []) before mid) where
  scope_is : scope c n ≡ n
  scope_is = child_is_scope c n child

  module _ (reach : Reach) (leaves : LeavesAt reach c n mid now) where
    left : (p r : Name) → c.root ≡ p ++ r → LeavesIt c p mid now
    left = left_above reach c c.root n mid now child leaves

    more_is : tries_by c now ≡ tries_by c before ++ n ∷ []
    more_is =
        same_children (mine c now) (mine c mid) c.root (left c.root [] (sym (append-nil c.root))).deeds
        ∙ ap (λ h. children h c.root) (made_is c _ before mid m)
        ∙ child_added (by_client c (event.Start n (kind.User c.session body.number))) (mine c before) c.root n (kind.User c.session body.number) refl child

    abbrev later_is : IsLater c before now
    later_is = later_trans c before mid now (made_later c _ before mid m) leaves.later

    start_inside : list_all (stays_with (n ∷ [])) (mine c m.newer) ≡ true
    start_inside =
        ap (list_all (stays_with (n ∷ []))) m.made
        ∙ ap (λ b. (b || false) && true) (start_stays_in n n (kind.User c.session body.number) (by_client c (event.Start n (kind.User c.session body.number))) refl (let l = child_longer c.root n child in omega (arith, l, may.nonroot)) (itself n))

    rest_inside : list_all (stays_with (n ∷ [])) (mine c leaves.later.newer) ≡ true
    rest_inside = list_all_weaker (stays_in n) (stays_with (n ∷ [])) (λ e stays. ap (λ b. b || false) stays) (mine c leaves.later.newer) (subst (λ t. AllStayIn c t leaves.later.newer) scope_is leaves.inside)

    ours_new : AreTriesOurs c now → AreOurs c n now
    ours_new ours = all_last (λ x. AreOurs c x now) (tries_by c before) n [] (subst (AllByRecursion (λ x. AreOurs c x now)) more_is ours)

    abbrev TurnsTo : Type 0
    TurnsTo = AreTriesOurs c now → InTurn (mine c before) → Alone (mine c before) c.root → InTurn (mine c now) × AtTheEnd reach (Alone (mine c now) c.root)

    tries_at : TurnsTo → TriesAt reach c before now
    tries_at turns = record {
      later = later_is;
      made = n ∷ [];
      more = more_is;
      inside =
          ap (list_all (stays_with (n ∷ []))) (filter-append _ leaves.later.newer m.newer)
          ∙ list_all-append (stays_with (n ∷ [])) (mine c leaves.later.newer) (mine c m.newer) ∙ and_from _ _ rest_inside start_inside;
      seats = ap (λ b. b && true) (own_under c now n (later_seat c mid now leaves.later n c.number (seat_begun c c.root n body.number before mid may child m)));
      above = λ p r is. (
        λ was. (left p r is).unended (subst (λ o. IsUnended p o) (sym (end_begun c c.root n body.number before mid may child m p r is)) was),
        (left p r is).ready ∙ ready_begun c c.root n body.number before mid may child m p r is,
      );
      turns = turns;
    }

    one_is : EndsAt reach c n mid now body.plan → IsTry reach c n body (AreOurs c n now) before now
    one_is ends = is_try reach c n body (AreOurs c n now) before mid now m (kind_begun c c.root n body.number before mid may child m) (none_begun c c.root n body.number before mid may child m) leaves.later ends (λ ours. ours)

  pub one_tried : (to : Finish) → Ended c n mid now body.plan to → TriedOne c body n before now to
  unfolding tries_at
  one_tried to ended = record {
    leaves = tries_at Reach.to_the_end ended.leaves turns_is;
    is_made = refl;
    one = one_is Reach.to_the_end ended.leaves ended.ends;
    came = ended.tried;
    ended = ended_is;
  }
    where
      ended_is : AreOurs c n now → is_some (end (mine c now) n) ≡ true
      ended_is ours = ended_below c c.root n body.plan now may.nonroot child ended.leaves.later.legal ((one_is Reach.to_the_end ended.leaves ended.ends).runs ours)

      turns_is : TurnsTo Reach.to_the_end ended.leaves
      turns_is ours turns alone =
          let one = ours_new Reach.to_the_end ended.leaves ours in
          let a = turns_begun c c.root n body.number before mid may child m turns alone in
          let b = ended.leaves.turns one a.0 a.1 in
          (b.0, alone_up (mine c now) c.root n child (some_done (mine c now) n (ended_is one)) b.1)

  pub one_cut : CutOff c n mid now body.plan → CutOne c body n before now
  unfolding tries_at
  one_cut cut = record {
    leaves = tries_at Reach.cut_off cut.leaves (λ ours turns alone.
        let a = turns_begun c c.root n body.number before mid may child m turns alone in
        ((cut.leaves.turns (ours_new Reach.cut_off cut.leaves ours) a.0 a.1).0, tt));
    is_made = refl;
    one = one_is Reach.cut_off cut.leaves cut.begins;
    tried = unended_again n _ cut.unended;
  }
