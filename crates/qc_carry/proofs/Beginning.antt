-- A manager's next access starts and asks, or is cut off before it asks.
use Rattle.std.proofs.Common.{◌≡◌, ℕ, ◌+◌, [], ◌∷◌, ◌++◌, length, refl, sym, ap, ◌∙◌, subst, inl, inr}
use Rattle.std.specs.Prelude.{None, IsTrue}
use Rattle.qc_config.specs.declared.tuple.Op.{Op}
use Rattle.qc_names.specs.Name as name
use Rattle.qc_event.specs.declared.event.Ask.{Ask}
use Rattle.qc_event.specs.declared.event.Cause.TheVariants.{Orphan as OrphanOf}
use Rattle.qc_event.specs.declared.event.Event.{Event}
use Rattle.qc_event.specs.declared.event.Event.TheVariants as event
use Rattle.qc_event.specs.declared.event.How.TheVariants.{Abort}
use Rattle.qc_event.specs.declared.event.Kind.TheVariants as kind
use Rattle.qc_event.specs.Base.{Setting}
use Rattle.qc_event.specs.History.{Past, Name, end, children}
use Rattle.qc_event.specs.Legal.{Legal}
use Rattle.qc_event.specs.Seats.{is_client}
use Rattle.qc_event.specs.Standing.{IsNamedOrphan, open_child}
use Rattle.qc_managers.specs.Carrying.{MayCarry, next_ask, entry, began}
use Rattle.qc_managers.specs.declared.carrier.CarryNo.{CarryNo}
use Rattle.qc_managers.specs.declared.carrier.CarryNo.TheVariants as carry
use Rattle.qc_desk.specs.declared.refusal.DeskNo.{DeskNo}
use Rattle.qc_desk.specs.declared.refusal.DeskNo.TheVariants as no
use Rattle.qc_desk.specs.declared.view.View.{View}
use Rattle.qc_desk.specs.Calling.{EnteredAs, Refused}
use Rattle.qc_desk.specs.Own.{IsOwnAccess, MayAskOwn}
use Rattle.qc_desk.specs.Refusing.{against_child}
use Rattle.qc_desk.specs.Rules.{IsClient}
use Rattle.qc_desk.proofs.Calls as calls
use Rattle.qc_carry.specs.Access.{CutUnasked, IsStopped, Waits, no_of, orphaning}
use Rattle.qc_carry.specs.Walk.{Walk}
use Rattle.qc_carry.proofs.AfterStart as after
use Rattle.qc_carry.proofs.Carries as carries
use Rattle.qc_carry.proofs.Orphans.{orphan_of, parent_orphan}
use Rattle.qc_carry.proofs.OwnRequests.{no_request}
use Rattle.qc_carry.proofs.Refusing.{child_dead, child_want}
use Rattle.qc_carry.proofs.Walking as walking

-- which child was started, for an access
abbrev IsNext : Name → Name → Past → Event → Type 0
IsNext m n past ev = (n ≡ m ++ (length (children past m) + 1) ∷ []) × (ev ≡ event.Start n kind.Access)

module _ (setting : Setting) (v w : View) (m : Name) (copy rec : ℕ) (op : Op) (client : IsClient v) (may : MayCarry setting v.number v.seen m copy rec op) (legal : Legal setting w.seen) where
  abbrev q : Ask
  q = next_ask v.seen m copy rec op

  seat : IsTrue (is_client v.number)
  seat = calls.client v client

  module _ (made : Past) (walk : Walk v w made) where
    now_legal : Legal setting (walk.newer ++ v.seen)
    now_legal = subst (Legal setting) walk.grown legal

    pub manager_open : end made m ≡ None → end w.seen m ≡ None
    manager_open none = ap (λ p. end p m) walk.grown ∙ carries.still_open setting v.number v.seen m copy rec op seat may walk.newer now_legal made walk.own none

    -- what holds of the manager in the history that was seen
    pub freed_at : (end (walk.newer ++ v.seen) m ≡ None) × (open_child (walk.newer ++ v.seen) m ≡ None) → (end w.seen m ≡ None) × (open_child w.seen m ≡ None)
    freed_at h = (ap (λ p. end p m) walk.grown ∙ h.0, ap (λ p. open_child p m) walk.grown ∙ h.1)

  -- IT DOES NOT START

  no_child_new : Walk v w [] → open_child w.seen m ≡ None
  no_child_new walk =
      ap (λ p. open_child p m) walk.grown
      ∙ carries.still_closed setting v.number v.seen m copy rec op seat may walk.newer (subst (Legal setting) walk.grown legal) (ap (λ p. children p m) walk.own)

  pub cut_at_start : (why : DeskNo) → Refused (against_child m) v w why → CutUnasked v w m q (no_of why)
  cut_at_start (no.Orphan a) r =
      let walk = walking.of_looked v w r.0 in
      let going = manager_open [] walk refl in
      ([], walk, (inl refl, orphan_of w.seen m a (child_dead w.seen m a r.1) going, going, no_child_new walk), refl)
  cut_at_start (no.Short short) r = ([], walking.of_looked v w r.0, (inl refl, child_want w.seen m short r.1), refl)
  cut_at_start no.Ended r = ([], walking.of_looked v w r.0, (inl refl, tt), refl)
  cut_at_start no.Ready r = ([], walking.of_looked v w r.0, (inl refl, tt), refl)
  cut_at_start (no.ChildrenOpen c) r = ([], walking.of_looked v w r.0, (inl refl, tt), refl)

  -- IT STARTS

  module _ (n : Name) (s : EnteredAs (against_child m) (IsNext m n) v w) where
    before_legal : Legal setting (s.3.0 ++ v.seen)
    before_legal = subst (Legal setting) s.3.1 (subst (Legal setting) (ap (λ (x : View). x.seen) s.5) legal).0

    pub started_next : n ≡ q.access
    started_next =
        s.2.0
        ∙ ap (λ p. m ++ (length (children p m) + 1) ∷ []) s.3.1
        ∙ after.same_next setting v.number v.seen m copy rec op seat may s.3.0 before_legal s.3.2

    pub started_walk : Walk v w (entry v.number (event.Start n kind.Access) ∷ [])
    started_walk = subst (λ ev. Walk v w (entry v.number ev ∷ [])) s.2.1 (walking.of_entered_as (against_child m) (IsNext m n) v w s)

    is_seen : entry v.number (event.Start q.access kind.Access) ∷ s.3.0 ++ v.seen ≡ w.seen
    is_seen =
        ap (λ p. entry v.number (event.Start q.access kind.Access) ∷ p) (sym s.3.1)
        ∙ ap (λ x. entry v.number (event.Start x kind.Access) ∷ s.0) (sym started_next)
        ∙ ap (λ ev. entry v.number ev ∷ s.0) (sym s.2.1)
        ∙ sym (ap (λ (x : View). x.seen) s.5)

    pub may_ask : MayAskOwn setting w.seen w.number (name.front q.access) q
    may_ask =
        subst (λ p. MayAskOwn setting p w.number (name.front q.access) q) is_seen
        (subst (λ k. MayAskOwn setting (entry v.number (event.Start q.access kind.Access) ∷ s.3.0 ++ v.seen) k (name.front q.access) q) (sym (ap (λ (x : View). x.number) s.5))
        (after.may_ask setting v.number v.seen m copy rec op seat may s.3.0 before_legal s.3.2))

  pub started_own : Walk v w (entry v.number (event.Start q.access kind.Access) ∷ []) → IsOwnAccess w.seen w.number q.access
  started_own walk =
      subst (λ p. IsOwnAccess p w.number q.access) (sym walk.grown)
      (subst (λ k. IsOwnAccess (walk.newer ++ v.seen) k q.access) (sym walk.number)
      (carries.started_own setting v.number v.seen m copy rec op seat may walk.newer (now_legal _ walk) walk.own))

  -- IT IS STOPPED BEFORE IT ASKS

  -- a started access is below its manager
  pub managers_orphan : (a : Name) → IsNamedOrphan w.seen q.access a → end w.seen m ≡ None → IsNamedOrphan w.seen m a
  managers_orphan a orphan going = parent_orphan w.seen m a (length (children v.seen m) + 1) orphan going

  pub stopped_unasked : (u : View) (why : CarryNo) → Walk v u (entry v.number (event.Start q.access kind.Access) ∷ []) → IsStopped u w q.access why → CutUnasked v w m q why
  stopped_unasked u (carry.Orphan a) first (second, orphan) =
      let made = orphaning v.number q.access a ++ entry v.number (event.Start q.access kind.Access) ∷ [] in
      let walk : Walk v w made = subst (λ k. Walk v w (orphaning k q.access a ++ entry v.number (event.Start q.access kind.Access) ∷ [])) first.number (walking.walk_on v u w _ _ first second) in
      let freed = freed_at made walk (carries.orphaned_unasked setting v.number v.seen m copy rec op seat may walk.newer (now_legal made walk) a walk.own) in (
        made,
        walk,
        (inr (inl refl), managers_orphan a orphan freed.0, freed.0, freed.1),
        no_request v.number (event.End q.access (Abort (OrphanOf a))) (entry v.number (event.Start q.access kind.Access) ∷ []) refl ∙ no_request v.number (event.Start q.access kind.Access) [] refl,
      )
  stopped_unasked u (carry.Short short) first (second, want) =
      (entry v.number (event.Start q.access kind.Access) ∷ [], walking.walk_on v u w _ [] first second, (inr (inl refl), want), no_request v.number (event.Start q.access kind.Access) [] refl)

  -- IT HAS ASKED

  pub waits : Walk v w (began v.number q) → Waits w.seen w.number q
  waits walk =
      subst (λ p. Waits p w.number q) (sym walk.grown)
      (subst (λ k. Waits (walk.newer ++ v.seen) k q) (sym walk.number)
      (carries.waits_for_answer setting v.number v.seen m copy rec op seat may walk.newer (now_legal _ walk) walk.own))
