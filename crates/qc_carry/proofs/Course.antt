-- What a manager's next access has come to, once it has asked, and what its carrier says of that.
use Rattle.std.proofs.Common.{◌≡◌, ℕ, ◌==◌, not, [], ◌∷◌, ◌++◌, refl, sym, ap, ◌∙◌, subst, inl, inr}
use Rattle.std.specs.Prelude.{Result, Ok, Err, IfOk, IfErr}
use Rattle.std.specs.List.{AllByRecursion}
use Rattle.qc_config.specs.declared.tuple.Op.{Op}
use Rattle.qc_event.specs.declared.event.Ask.{Ask}
use Rattle.qc_event.specs.declared.event.Event.TheVariants as event
use Rattle.qc_event.specs.Base.{Setting}
use Rattle.qc_event.specs.History.{Past, Name, refused}
use Rattle.qc_event.specs.Legal.{Legal}
use Rattle.qc_event.specs.Manager.{Result as Became, Replied, Missing, BlockedBy}
use Rattle.qc_managers.specs.Carrying.{MayCarry, next_ask, entry, began, access_entries, became, carriage, made_by, HasGrown, WasCarried, WasNotCarried, WasStopped, IsBegun}
use Rattle.qc_managers.specs.declared.carrier.Carried.{Carried}
use Rattle.qc_managers.specs.declared.carrier.Carried.TheVariants.{Reply, Blocked, Gone}
use Rattle.qc_managers.specs.declared.carrier.CarryNo.{CarryNo}
use Rattle.qc_managers.specs.declared.carrier.CarryNo.TheVariants as no
use Rattle.qc_desk.specs.declared.view.View.{View}
use Rattle.qc_desk.specs.Rules.{IsClient}
use Rattle.qc_desk.proofs.Calls as calls
use Rattle.qc_desk.proofs.Lists.{entries_append}
use Rattle.qc_carry.specs.Access.{Course, Cut, Ends, IsLeft, IsPart, IsShort, AnswerStands, ending, orphaning}
use Rattle.qc_carry.specs.Walk.{Walk}
use Rattle.qc_carry.proofs.Beginning as beginning
use Rattle.qc_carry.proofs.Carries as carries
use Rattle.qc_carry.proofs.Walking as walking
use Rattle.qc_carry.proofs.Walks.{IsOf}

-- WHOSE ENTRIES THEY ARE

pub of_stopped : (seat : ℕ) (q : Ask) (a : Name) (made : Past) → WasStopped seat q a made → AllByRecursion (IsOf q.access) made
of_stopped seat q a made (inl is) = subst (AllByRecursion (IsOf q.access)) (sym is) tt
of_stopped seat q a made (inr (inl is)) = subst (AllByRecursion (IsOf q.access)) (sym is) (refl, (refl, tt))
of_stopped seat q a made (inr (inr is)) = subst (AllByRecursion (IsOf q.access)) (sym is) (refl, (refl, (refl, tt)))

of_begun : (seat : ℕ) (q : Ask) (made : Past) → IsBegun seat q made → AllByRecursion (IsOf q.access) made
of_begun seat q made (inl is) = subst (AllByRecursion (IsOf q.access)) (sym is) tt
of_begun seat q made (inr (inl is)) = subst (AllByRecursion (IsOf q.access)) (sym is) (refl, tt)
of_begun seat q made (inr (inr (inl is))) = subst (AllByRecursion (IsOf q.access)) (sym is) (refl, (refl, tt))
of_begun seat q made (inr (inr (inr (why, is)))) = subst (AllByRecursion (IsOf q.access)) (sym is) (refl, (refl, (refl, tt)))

pub of_part : (v w : View) (m : Name) (q : Ask) (made : Past) (why : CarryNo) → IsPart v w m q made why → AllByRecursion (IsOf q.access) made
of_part v w m q made (no.Orphan a) part = of_stopped v.number q a made part.0
of_part v w m q made (no.Short short) part = of_begun v.number q made part.0

pub of_ended : (seat : ℕ) (q : Ask) (r : Became) → AllByRecursion (IsOf q.access) (access_entries seat q r)
of_ended seat q (Replied tuple) = (refl, (refl, (refl, tt)))
of_ended seat q (BlockedBy holder) = (refl, (refl, (refl, tt)))
of_ended seat q (Missing why) = (refl, (refl, (refl, (refl, tt))))

-- the entries of an access that has ended
pub all_entries : (seat : ℕ) (q : Ask) (r : Became) → ending seat q r ++ began seat q ≡ access_entries seat q r
all_entries seat q (Replied tuple) = refl
all_entries seat q (BlockedBy holder) = refl
all_entries seat q (Missing why) = refl

-- WHERE IT HAS ASKED

-- it goes on by entries under its own number
pub go_on : (v u w : View) (first : Past) (f : ℕ → Past) → Walk v u first → Walk u w (f u.number) → Walk v w (f v.number ++ first)
go_on v u w first f p q = subst (λ k. Walk v w (f k ++ first)) p.number (walking.walk_on v u w first (f u.number) p q)

module _ (setting : Setting) (v u w : View) (m : Name) (copy rec : ℕ) (op : Op) (client : IsClient v) (may : MayCarry setting v.number v.seen m copy rec op) (legal : Legal setting w.seen) (first : Walk v u (began v.number (next_ask v.seen m copy rec op))) where
  abbrev q : Ask
  q = next_ask v.seen m copy rec op

  pub left : (why : CarryNo) → ((made : Past) → IsBegun v.number q made → IsPart v w m q made why) → IsLeft u w q.access → Cut v w m q why
  left why part (inl walk) = (began v.number q, walking.walk_on v u w _ [] first walk, part _ (inr (inr (inl refl))))
  left why part (inr (reason, walk)) =
      (entry v.number (event.Gone q.access reason) ∷ began v.number q, go_on v u w _ (λ k. entry k (event.Gone q.access reason) ∷ []) first walk, part _ (inr (inr (inr (reason, refl)))))

  pub course : (result : Result Carried CarryNo) → Ends u w q result → Course v w m q result
  course (Ok told) (walk, stands) = (subst (Walk v w) (all_entries v.number q (became told)) (go_on v u w _ (λ k. ending k q (became told)) first walk), stands)
  course (Err (no.Orphan a)) (walk, orphan) =
      let all = go_on v u w _ (λ k. orphaning k q.access a) first walk in
      let freed = beginning.freed_at setting v w m copy rec op client may legal _ all
      (carries.orphaned_asked setting v.number v.seen m copy rec op (calls.client v client) may all.newer (subst (Legal setting) all.grown legal) a all.own) in
      (orphaning v.number q.access a ++ began v.number q, all, (inr (inr refl), beginning.managers_orphan setting v w m copy rec op client may legal a orphan freed.0, freed.0, freed.1))
  course (Err (no.Short short)) (ends, want) = left (no.Short short) (λ made begun. (begun, want)) ends

-- its answer did not come, for want of memory or of room
pub cut_asked : (v u w : View) (m : Name) (q : Ask) (why : CarryNo) → Walk v u (began v.number q) → IsShort u w why → Cut v w m q why
cut_asked v u w m q (no.Orphan a) first second = absurd second
cut_asked v u w m q (no.Short short) first second = (began v.number q, walking.walk_on v u w (began v.number q) [] first second.0, (inr (inr (inl refl)), second.1))

-- WHAT ITS CARRIER SAYS

module _ (setting : Setting) (v w : View) (m : Name) (copy rec : ℕ) (op : Op) (client : IsClient v) (may : MayCarry setting v.number v.seen m copy rec op) (legal : Legal setting w.seen) where
  abbrev request : Ask
  request = next_ask v.seen m copy rec op

  -- its entries, and that they are of the access
  pub made_of : (result : Result Carried CarryNo) → Course v w m request result → (made : Past) × Walk v w made × AllByRecursion (IsOf request.access) made
  made_of (Ok told) (walk, stands) = (access_entries v.number request (became told), walk, of_ended v.number request (became told))
  made_of (Err why) (made, walk, part) = (made, walk, of_part v w m request made why part)

  pub grown : (result : Result Carried CarryNo) → Course v w m request result → HasGrown (λ e. not (e.seat == v.number)) (λ x. x ≡ request.access) v.seen w.seen
  grown result course =
      let made = made_of result course in
      subst (HasGrown (λ e. not (e.seat == v.number)) (λ x. x ≡ request.access) v.seen) (sym made.1.grown)
      (carries.grown_by_own v.number v.seen made.1.newer request.access (subst (AllByRecursion (IsOf request.access)) (sym made.1.own) made.2))

  pub carried : (result : Result Carried CarryNo) → Course v w m request result → IfOk result (λ told. WasCarried (carriage v.number v.seen w.seen m copy rec op) (became told))
  carried (Err why) course = tt
  carried (Ok told) (walk, stands) =
      subst (λ p. WasCarried (carriage v.number v.seen p m copy rec op) (became told)) (sym walk.grown)
      (carries.carried setting v.number v.seen m copy rec op (calls.client v client) may walk.newer (subst (Legal setting) walk.grown legal) (became told) (first told stands) walk.own)
    where
      first : (c : Carried) → AnswerStands w.seen request.access c → carries.IsFirst setting v.number v.seen m copy rec op (calls.client v client) may walk.newer (subst (Legal setting) walk.grown legal) (became c)
      first (Reply tuple) h = tt
      first (Blocked holder) h = ap (λ p. refused p request.access) (sym walk.grown) ∙ h
      first (Gone why) h = tt

  pub not_carried : (result : Result Carried CarryNo) → Course v w m request result → IfErr result (WasNotCarried (carriage v.number v.seen w.seen m copy rec op))
  not_carried (Ok told) course = tt
  not_carried (Err why) (made, walk, part) = by_why why part
    where
      added : made_by v.number w.seen ≡ made ++ made_by v.number v.seen
      added = ap (made_by v.number) walk.grown ∙ entries_append v.number walk.newer v.seen ∙ ap (λ p. p ++ made_by v.number v.seen) walk.own

      by_why : (x : CarryNo) → IsPart v w m request made x → WasNotCarried (carriage v.number v.seen w.seen m copy rec op) x
      by_why (no.Orphan a) (stopped, orphan, going, closed) = record { made = made; stopped = stopped; added = added; orphan = orphan; not_ended = going; children_ended = closed }
      by_why (no.Short short) (begun, want) = (record { made = made; part = begun; added = added }, want)
