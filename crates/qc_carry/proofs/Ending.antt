-- How an access that waits ends, by what each call entered.
use Rattle.std.proofs.Common.{◌≡◌, ℕ, Bool, [], ◌∷◌, length, refl, sym, ap, ◌∙◌, subst, inl, inr, append-nil}
use Rattle.std.specs.Prelude.{None, Some, IsTrue, not, ◌||◌, is_some, if◌then◌else◌, Result, Ok, Err}
use Rattle.std.specs.Option.{option_or}
use Rattle.std.proofs.lemmas.Bool.{or_left, or_right}
use Rattle.qc_event.specs.declared.event.Ask.{Ask}
use Rattle.qc_event.specs.declared.event.Cause.TheVariants as cause
use Rattle.qc_event.specs.declared.event.Event.TheVariants as event
use Rattle.qc_event.specs.declared.event.Refusal.{Refusal}
use Rattle.qc_event.specs.declared.event.Why.{Why}
use Rattle.qc_event.specs.Aborts.{AccessCause}
use Rattle.qc_event.specs.Base.{Setting}
use Rattle.qc_event.specs.History.{Past, Name, limit, same, gone, refused, refusal_in}
use Rattle.qc_event.specs.Legal.{Legal}
use Rattle.qc_event.specs.Requests.{is_fault, was_unable}
use Rattle.qc_event.specs.Standing.{IsNamedOrphan}
use Rattle.qc_event.proofs.Absent.{same_itself}
use Rattle.qc_event.specs.declared.short.Short.{Short}
use Rattle.qc_event.specs.declared.short.Short.TheVariants as short
use Rattle.qc_event.proofs.Booleans.{or_wider}
use Rattle.qc_event.proofs.StillTold.{is_stays}
use Rattle.qc_managers.specs.Carrying.{entry, became}
use Rattle.qc_managers.specs.declared.carrier.Carried.{Carried}
use Rattle.qc_managers.specs.declared.carrier.CarryNo.{CarryNo}
use Rattle.qc_managers.specs.declared.carrier.CarryNo.TheVariants as no
use Rattle.qc_desk.specs.declared.view.View.{View}
use Rattle.qc_carry.specs.Access.{Ends, IsLeft, IsShort, IsStopped, Waits, ending, orphaning}
use Rattle.qc_carry.specs.Walk.{Walk}
use Rattle.qc_desk.proofs.Answered.{unable_still}
use Rattle.qc_carry.proofs.Course.{go_on}
use Rattle.qc_carry.proofs.Orphans.{named_stays}
use Rattle.qc_carry.proofs.OwnStays as own
use Rattle.qc_carry.proofs.Walking as walking

-- WHAT STAYS

module _ (v w : View) (made : Past) (walk : Walk v w made) (n : Name) where
  pub still_orphan : (a : Name) → IsNamedOrphan v.seen n a → IsNamedOrphan w.seen n a
  still_orphan a orphan = subst (λ p. IsNamedOrphan p n a) (sym walk.grown) (named_stays walk.newer v.seen n a orphan)

  pub still_refused : (r : Refusal) → refused v.seen n ≡ Some r → refused w.seen n ≡ Some r
  still_refused r is = ap (λ p. refused p n) walk.grown ∙ is_stays (λ e. refusal_in n e.event) walk.newer v.seen r is

  pub still_told : (why : Why) → IsTrue (not (is_fault why) || was_unable v.seen n why) → IsTrue (not (is_fault why) || was_unable w.seen n why)
  still_told why = or_wider (not (is_fault why)) (was_unable v.seen n why) (not (is_fault why)) (was_unable w.seen n why) (λ h. h)
      (λ was. ap (λ p. was_unable p n why) walk.grown ∙ unable_still walk.newer v.seen n why was)

-- IT MISSES ITS ANSWER

-- what was given up has missed its answer
pub missed_gone : (setting : Setting) (v w : View) (ask : Ask) (why : Why) → Waits v.seen v.number ask → Legal setting w.seen → Walk v w (entry v.number (event.Gone ask.access why) ∷ []) → AccessCause w.seen ask.access cause.Missed
missed_gone setting v w ask why waits legal walk =
    or_left (is_some (gone w.seen ask.access)) (is_some (refused w.seen ask.access))
    (ap is_some (own.gone_on setting v w _ walk legal ask.access waits.own ∙ ap (λ o. option_or o (if same ask.access ask.access then Some why else None)) waits.ungone)
    ∙ ap (λ (b : Bool). is_some (if b then Some why else None)) (same_itself ask.access))

-- so has what was refused
pub missed_refused : (past : Past) (n : Name) (r : Refusal) → refused past n ≡ Some r → AccessCause past n cause.Missed
missed_refused past n r is = or_right (is_some (gone past n)) (is_some (refused past n)) (ap is_some is)

-- IT IS LEFT

pub ends_stopped : (v u w : View) (ask : Ask) (why : CarryNo) → Walk v u [] → IsStopped u w ask.access why → Ends v w ask (Err why)
ends_stopped v u w ask (no.Orphan a) first (second, orphan) = (go_on v u w [] (λ k. orphaning k ask.access a) first second, orphan)
ends_stopped v u w ask (no.Short short) first (second, want) = (inl (walking.walk_on v u w [] [] first second), want)

pub ends_short : (v u w : View) (ask : Ask) (why : CarryNo) → Walk v u [] → IsShort u w why → Ends v w ask (Err why)
ends_short v u w ask (no.Orphan a) first second = absurd second
ends_short v u w ask (no.Short short) first (second, want) = (inl (walking.walk_on v u w [] [] first second), want)

pub ends_gone : (v u w : View) (ask : Ask) (reason : Why) (why : CarryNo) → Walk v u (entry v.number (event.Gone ask.access reason) ∷ []) → IsShort u w why → Ends v w ask (Err why)
ends_gone v u w ask reason (no.Orphan a) first second = absurd second
ends_gone v u w ask reason (no.Short short) first (second, want) = (inr (reason, walking.walk_on v u w _ [] first second), want)

-- IT ENDS AFTER ITS PASS HAS SEEN MORE

on_nothing : (v u w : View) (f : ℕ → Past) → Walk v u [] → Walk u w (f u.number) → Walk v w (f v.number)
on_nothing v u w f first second = subst (Walk v w) (append-nil (f v.number)) (go_on v u w [] f first second)

left_on : (v u w : View) (n : Name) → Walk v u [] → IsLeft u w n → IsLeft v w n
left_on v u w n first (inl walk) = inl (walking.walk_on v u w [] [] first walk)
left_on v u w n first (inr (why, walk)) = inr (why, on_nothing v u w (λ k. entry k (event.Gone n why) ∷ []) first walk)

pub ends_on : (v u w : View) (ask : Ask) (result : Result Carried CarryNo) → Walk v u [] → Ends u w ask result → Ends v w ask result
ends_on v u w ask (Ok told) first (walk, stands) = (on_nothing v u w (λ k. ending k ask (became told)) first walk, stands)
ends_on v u w ask (Err (no.Orphan a)) first (walk, orphan) = (on_nothing v u w (λ k. orphaning k ask.access a) first walk, orphan)
ends_on v u w ask (Err (no.Short short)) first (left, want) = (left_on v u w ask.access first left, want)

-- what was wanting for an answer
pub want_short : (v w : View) (want : Short) → Walk v w [] → (want ≡ short.Room → length w.seen ≡ limit) → IsShort v w (no.Short want)
want_short v w short.Room walk full = (walk, full refl)
want_short v w short.Memory walk full = (walk, tt)

-- THE ENTRIES OF ITS END

left_walk : (v w : View) (n : Name) → IsLeft v w n → (made : Past) × Walk v w made
left_walk v w n (inl walk) = ([], walk)
left_walk v w n (inr (why, walk)) = (entry v.number (event.Gone n why) ∷ [], walk)

pub ends_walk : (v w : View) (ask : Ask) (result : Result Carried CarryNo) → Ends v w ask result → (made : Past) × Walk v w made
ends_walk v w ask (Ok told) (walk, stands) = (ending v.number ask (became told), walk)
ends_walk v w ask (Err (no.Orphan a)) (walk, orphan) = (orphaning v.number ask.access a, walk)
ends_walk v w ask (Err (no.Short short)) (left, want) = left_walk v w ask.access left
