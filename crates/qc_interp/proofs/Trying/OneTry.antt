-- One try of a body, be it of a child, of a branch or of a top: what is so of it by what it left, as its client merges branches,
-- and for ever.
use Rattle.std.proofs.Common.{◌≡◌, inl, inr, ◌<◌, true, List, [], ◌∷◌, ◌++◌, length, sym, ap, ◌∙◌, subst, append_assoc, arith, ℕ, ◌+◌}
use Rattle.std.specs.Prelude.{Some, is_some}
use Rattle.std.specs.List.{AllByRecursion}
use Rattle.qc_event.specs.declared.event.Entry.{Entry}
use Rattle.qc_event.specs.declared.event.Event.TheVariants as event
use Rattle.qc_event.specs.declared.event.Kind.TheVariants as kind
use Rattle.qc_event.specs.History.{Past, Name, end, is_child, kind_of}
use Rattle.qc_event.specs.Legal.{Legal}
use Rattle.qc_event.proofs.LastNumber.{child_last, length_last, child_longer}
use Rattle.qc_event.proofs.LegalOrderly.{ready_top}
use Rattle.qc_script.specs.Calls.{by_client}
use Rattle.qc_script.specs.Client.{Client, mine, is_own, Made, IsLater, AreOurs}
use Rattle.qc_script.specs.Plan.{Plan, Numbered}
use Rattle.qc_interp.specs.Asking.{Asks, AllAsked, IsAskedBy}
use Rattle.qc_interp.specs.Deeds.{deeds}
use Rattle.qc_interp.specs.Follows.{RunsPlan, FollowsPlan}
use Rattle.qc_interp.specs.Reach.{Reach}
use Rattle.qc_interp.specs.Running.{LeavesIt, LeavesAt, EndsAt}
use Rattle.qc_interp.specs.Tries.{is_tried_again}
use Rattle.qc_interp.proofs.Stepping.Asked.{asked_made, asked_wider, asked_trans, asks_still}
use Rattle.qc_interp.proofs.Following.Followed.{follows_runs, followed_done, done_closed}
use Rattle.qc_interp.proofs.Branching.Joined.{OwnAlike, more_mine, both}
use Rattle.qc_interp.proofs.Scopes.Mine.{kept_some}
use Rattle.qc_interp.proofs.Following.Still.{follows_still, again_still}
use Rattle.qc_interp.proofs.Stepping.StepsLeave.{kind_later}

-- Where what it did is the client's own, it did what its body asks for, or came as far, and it alone asked for what was asked for
-- since then.
pub record IsTry (reach : Reach) (c : Client) (n : Name) (body : Numbered) (ours : Type 0) (before now : Past) : Type 0 where
  pub number : kind_of (mine c now) n ≡ Some (kind.User c.session body.number)
  pub runs : ours → RunsPlan reach c.session (mine c now) n body.plan (deeds (mine c now) n) (end (mine c now) n)
  pub asked : ours → AllAsked c before now (λ by target. Asks (mine c now) n body.plan (deeds (mine c now) n) by target)

-- as it has run since its start
pub is_try : (reach : Reach) (c : Client) (n : Name) (body : Numbered) (ours : Type 0) (before mid now : Past) → Made c (by_client c (event.Start n (kind.User c.session body.number)) ∷ []) before mid → kind_of (mine c mid) n ≡ Some (kind.User c.session body.number) → deeds (mine c mid) n ≡ [] → IsLater c mid now
    → EndsAt reach c n mid now body.plan → (ours → AreOurs c n now) → IsTry reach c n body ours before now
is_try reach c n body ours before mid now m number none later ends own = record {
  number = kind_later c n mid now later n _ number;
  runs = λ o.
      let e = ends (own o) in
      subst (λ ds. RunsPlan reach c.session (mine c now) n body.plan ds (end (mine c now) n)) (sym (e.1 ∙ ap (λ l. l ++ e.0) none)) e.2;
  asked = λ o.
      let e = ends (own o) in
      asked_trans c before mid now _ (asked_made c _ before mid _ m (tt, tt)) (asked_wider _ _ (λ by target a. subst (λ ds. Asks (mine c now) n body.plan ds by target) (sym (e.1 ∙ ap (λ l. l ++ e.0) none)) a) c mid now e.3);
}

-- what it left of its parent and of those above
pub left_above : (reach : Reach) (c : Client) (of n : Name) (mid now : Past) → is_child of n ≡ true → LeavesAt reach c n mid now → (p r : Name) → of ≡ p ++ r → LeavesIt c p mid now
left_above reach c of n mid now child leaves p r is =
    let last = child_last of n child in
    leaves.above p (r ++ last.0 ∷ []) (last.1 ∙ ap (λ x. x ++ last.0 ∷ []) is ∙ append_assoc p r (last.0 ∷ [])) (let l : length (r ++ last.0 ∷ []) ≡ length r + 1 = length_last r last.0 in omega (arith, l))

-- below the root it has ended, as only a top is ready
pub ended_below : (c : Client) (of n : Name) (plan : Plan) (now : Past) → 0 < length of → is_child of n ≡ true → Legal c.setting now → FollowsPlan c.session (mine c now) n plan (deeds (mine c now) n) (end (mine c now) n) → is_some (end (mine c now) n) ≡ true
ended_below c of n plan now nonroot child legal follows = elim (done_closed (mine c now) n (followed_done c.session (mine c now) n plan (deeds (mine c now) n) (end (mine c now) n) follows)) [
  | inl some ↦ some
  | inr ready ↦
      let short = ready_top c.setting now n legal (kept_some (λ (e : Entry). is_own c e.seat) _ now ready) in
      let z : ⊥ = omega (arith, short, child_longer of n child, nonroot) in absurd z
]

-- as the client merges branches
pub more_try : (c : Client) (kin : List ℕ) (before now : Past) → IsLater c before now → OwnAlike c (record c { kin = kin }) now → (reach : Reach) (n : Name) (body : Numbered) (ours more : Type 0) → (more → ours) → IsTry reach c n body ours before now → IsTry reach (record c { kin = kin }) n body more before now
more_try c kin before now later all reach n body ours more back t =
    let same = more_mine c kin now all in
    record {
      number = ap (λ h. kind_of h n) same ∙ t.number;
      runs = λ o. subst (λ h. RunsPlan reach c.session h n body.plan (deeds h n) (end h n)) (sym same) (t.runs (back o));
      asked = λ o.
          both c kin before now later all
          (λ x y. (made : Past) × (y ≡ made ++ x) × AllByRecursion (λ (e : Entry). IsAskedBy (λ by target. Asks y n body.plan (deeds y n) by target) e.event) made) (t.asked (back o));
    }

-- by what was seen later
module _ (c : Client) (n : Name) (body : Numbered) (ours : Type 0) (before now : Past) (t : IsTry Reach.to_the_end c n body ours before now) (x : Past) (later : IsLater c now x) (own : ours) where
  legal : Legal c.setting (later.newer ++ now)
  legal = subst (Legal c.setting) later.grown later.legal

  pub number_later : kind_of (mine c x) n ≡ Some (kind.User c.session body.number)
  number_later = kind_later c n now x later n _ t.number

  pub runs_later : (reach : Reach) → RunsPlan reach c.session (mine c x) n body.plan (deeds (mine c x) n) (end (mine c x) n)
  runs_later reach = follows_runs reach c.session (mine c x) n body.plan _ _ (subst (λ h. FollowsPlan c.session (mine c h) n body.plan (deeds (mine c h) n) (end (mine c h) n)) (sym later.grown)
      (follows_still c.session (λ (e : Entry). is_own c e.seat) c.setting later.newer now legal n body.plan (t.runs own)).0)

  pub again_later : is_tried_again (end (mine c x) n) ≡ is_tried_again (end (mine c now) n)
  again_later =
      ap (λ h. is_tried_again (end (mine c h) n)) later.grown
      ∙ again_still c.session (λ (e : Entry). is_own c e.seat) c.setting later.newer now legal n (done_closed (mine c now) n (followed_done c.session (mine c now) n body.plan (deeds (mine c now) n) (end (mine c now) n) (t.runs own)))

  pub asked_later : AllAsked c before now (λ by target. Asks (mine c x) n body.plan (deeds (mine c x) n) by target)
  asked_later = asked_wider _ _ (λ by target a.
      subst (λ h. Asks (mine c h) n body.plan (deeds (mine c h) n) by target) (sym later.grown)
      (asks_still c.session (λ (e : Entry). is_own c e.seat) c.setting later.newer now legal by target n body.plan (t.runs own) a)) c before now (t.asked own)
