-- What a line keeps of its link, by what an access has come to.
use Rattle.std.proofs.Common.{◌≡◌, ℕ, Bool, true, false, List, [], ◌∷◌, ◌++◌, refl, ap, ◌∙◌, subst, inl, inr}
use Rattle.std.proofs.Math.Logic.{∥∥₁_map}
use Rattle.std.specs.Prelude.{Option, None, Some, IfSome, Result, Ok, Err, if◌then◌else◌}
use Rattle.std.specs.List.{AllByRecursion}
use Rattle.std.specs.Option.{option_map, option_or}
use Rattle.qc_config.specs.declared.tuple.Op.{Op}
use Rattle.qc_event.specs.declared.event.Ask.{Ask}
use Rattle.qc_event.specs.declared.event.Cause.TheVariants.{Missed, Orphan as OrphanOf}
use Rattle.qc_event.specs.declared.event.Event.TheVariants as event
use Rattle.qc_event.specs.declared.event.How.TheVariants.{Abort, Commit}
use Rattle.qc_event.specs.declared.event.Answer.TheVariants as answer
use Rattle.qc_event.specs.declared.event.Why.{Why}
use Rattle.qc_event.specs.Base.{Setting}
use Rattle.qc_event.specs.History.{Past, Name, end, gone}
use Rattle.qc_event.specs.Legal.{Legal}
use Rattle.qc_event.proofs.Absent.{same_itself}
use Rattle.qc_managers.specs.Carrying.{MayCarry, next_ask, entry, began, access_entries, became}
use Rattle.qc_managers.specs.declared.carrier.Carried.{Carried}
use Rattle.qc_managers.specs.declared.carrier.Carried.TheVariants.{Reply, Blocked, Gone}
use Rattle.qc_managers.specs.declared.carrier.CarryNo.{CarryNo}
use Rattle.qc_managers.specs.declared.carrier.CarryNo.TheVariants as no
use Rattle.qc_net.specs.Messages.{asked_under}
use Rattle.qc_net.specs.Plan.{Plan, anew}
use Rattle.qc_net.specs.Sending.{IsSending, sending}
use Rattle.qc_net.specs.declared.courier.Sent.{Sent}
use Rattle.qc_desk.specs.declared.view.View.{View}
use Rattle.qc_desk.specs.Entries.{IsOlder}
use Rattle.qc_desk.specs.Rules.{IsClient}
use Rattle.qc_desk.specs.Answers.{HasAnswered}
use Rattle.qc_carry.specs.Access.{CutUnasked, Ends, IsLeft, IsShort, ending, orphaning}
use Rattle.qc_carry.specs.Kept.{IsKept, Keeps, TellsLoss, TellsSent, reason_of, is_cut_off}
use Rattle.qc_carry.specs.Walk.{Walk}
use Rattle.qc_carry.proofs.Course.{of_ended, of_part, all_entries, go_on}
use Rattle.qc_carry.proofs.Keeping as keeping
use Rattle.qc_carry.proofs.Keeping.{tells_still}
use Rattle.qc_carry.proofs.OwnRequests.{no_request, began_request}
use Rattle.qc_carry.proofs.Walking as walking
use Rattle.qc_carry.proofs.Walks.{IsOf}

-- the request of an access that has ended
one_request : (seat : ℕ) (q : Ask) (told : Carried) → asked_under seat (access_entries seat q (became told)) ≡ q ∷ []
one_request seat q (Reply tuple) = no_request seat (event.End q.access (Commit (answer.Reply tuple))) (began seat q) refl ∙ began_request seat q
one_request seat q (Blocked holder) = no_request seat (event.End q.access (Abort Missed)) (began seat q) refl ∙ began_request seat q
one_request seat q (Gone why) =
    no_request seat (event.End q.access (Abort Missed)) (entry seat (event.Gone q.access why) ∷ began seat q) refl
    ∙ no_request seat (event.Gone q.access why) (began seat q) refl
    ∙ began_request seat q

-- why it was given up
its_reason : (seat : ℕ) (q : Ask) (told : Carried) → gone (access_entries seat q (became told)) q.access ≡ reason_of told
its_reason seat q (Reply tuple) = refl
its_reason seat q (Blocked holder) = refl
its_reason seat q (Gone why) = ap (λ (b : Bool). option_or (if b then Some why else None) None) (same_itself q.access)

module _ (setting : Setting) (v w : View) (m : Name) (copy rec : ℕ) (op : Op) (client : IsClient v) (may : MayCarry setting v.number v.seen m copy rec op) (legal : Legal setting w.seen) (patience : ℕ) where
  abbrev q : Ask
  q = next_ask v.seen m copy rec op

  -- it was cut off before it asked
  pub unasked : (why : CarryNo) (plan : Option Plan) (held : List Ask) (torn : Bool) → CutUnasked v w m q why → Keeps v.number plan held patience v.seen false → Keeps w.number plan held patience w.seen torn
  unasked why plan held torn (made, walk, part, none) keeps = ∥∥₁_map keeps (by_plan plan)
    where
      by_plan : (o : Option Plan) → IfSome o (λ p. IsKept v.number p held patience v.seen false) → IfSome o (λ p. IsKept w.number p held patience w.seen torn)
      by_plan None h = tt
      by_plan (Some p) h = keeping.kept_unasked setting v w m copy rec op client may legal made walk (of_part v w m q made why part) p held patience torn none h

  module _ (plan plan' : Option Plan) (held held' : List Ask) (same : option_map anew plan' ≡ option_map anew plan) where
    abbrev Before : Option Plan → Type 0
    Before o = IfSome o (λ p. IsKept v.number p held patience v.seen false)

    before : (p : Plan) → plan ≡ Some p → Before plan → IsKept v.number p held patience v.seen false
    before p is h = subst Before is h

    open_after : (made : Past) → Walk v w made → AllByRecursion (IsOf q.access) made → asked_under v.number made ≡ q ∷ [] → end made q.access ≡ None → Before plan → IfSome plan' (λ p. IsKept w.number p held' patience w.seen true)
    open_after made walk of one unended h = tells_still plan plan' (λ p. IsKept w.number p held' patience w.seen true) same (λ p p' is is' again.
        keeping.kept_open setting v w m copy rec op client may legal made walk of one p p' held held' patience again unended (before p is h))

    -- it has asked, and its answer did not come, for want of memory or of room
    unsent : Walk v w (began v.number q) → Keeps v.number plan held patience v.seen false → Keeps w.number plan' held' patience w.seen true
    unsent walk keeps = ∥∥₁_map keeps (open_after (began v.number q) walk (refl, (refl, tt)) (began_request v.number q) refl)

    pub cut_short : (u : View) (why : CarryNo) → Walk v u (began v.number q) → IsShort u w why → Keeps v.number plan held patience v.seen false → Keeps w.number plan' held' patience w.seen (is_cut_off (Err why))
    cut_short u (no.Orphan a) first second keeps = absurd second
    cut_short u (no.Short short) first second keeps = unsent (walking.walk_on v u w (began v.number q) [] first second.0) keeps

    -- it has asked, and what was sent came back
    module _ (u : View) (first : Walk v u (began v.number q)) (older : IsOlder u.seen w.seen) (what : Sent) (told : IfSome plan (λ p. IsSending (sending p held q patience) plan' held' (λ (a : Ask). HasAnswered a.copy u.seen a) None None what)) where
      ended_after : (made : Past) → Walk v w made → AllByRecursion (IsOf q.access) made → asked_under v.number made ≡ q ∷ [] → (reason : Option Why) → TellsLoss what reason → gone made q.access ≡ reason → Before plan → IfSome plan' (λ p. IsKept w.number p held' patience w.seen false)
      ended_after made walk of one reason tells given_up h = tells_still plan plan' (λ p. IsKept w.number p held' patience w.seen false) same (λ p p' is is' again.
          keeping.kept_ended setting v w m copy rec op client may legal made walk of one p p' held held' patience again (before p is h) u.seen older what reason (as_sent p p' is is') tells given_up)
        where
          as_sent : (p p' : Plan) → plan ≡ Some p → plan' ≡ Some p' → IsSending (sending p held q patience) (Some p') held' (λ (a : Ask). HasAnswered a.copy u.seen a) None None what
          as_sent p p' is is' =
              subst (λ o. IsSending (sending p held q patience) o held' (λ (a : Ask). HasAnswered a.copy u.seen a) None None what) is'
              (subst (λ o. IfSome o (λ x. IsSending (sending x held q patience) plan' held' (λ (a : Ask). HasAnswered a.copy u.seen a) None None what)) is told)

      left_after : IsLeft u w q.access → Before plan → IfSome plan' (λ p. IsKept w.number p held' patience w.seen true)
      left_after (inl walk) = open_after (began v.number q) (walking.walk_on v u w _ [] first walk) (refl, (refl, tt)) (began_request v.number q) refl
      left_after (inr (why, walk)) =
          open_after (entry v.number (event.Gone q.access why) ∷ began v.number q) (go_on v u w _ (λ k. entry k (event.Gone q.access why) ∷ []) first walk) (refl, (refl, (refl, tt)))
          (no_request v.number (event.Gone q.access why) (began v.number q) refl ∙ began_request v.number q) refl

      pub sent : (result : Result Carried CarryNo) → Ends u w q result → TellsSent what result → Keeps v.number plan held patience v.seen false → Keeps w.number plan' held' patience w.seen (is_cut_off result)
      sent (Ok c) (walk, stands) tells keeps =
          ∥∥₁_map keeps (ended_after (access_entries v.number q (became c)) (subst (Walk v w) (all_entries v.number q (became c)) (go_on v u w _ (λ k. ending k q (became c)) first walk))
          (of_ended v.number q (became c)) (one_request v.number q c) (reason_of c) tells (its_reason v.number q c))
      sent (Err (no.Orphan a)) (walk, orphan) tells keeps =
          ∥∥₁_map keeps (ended_after (orphaning v.number q.access a ++ began v.number q) (go_on v u w _ (λ k. orphaning k q.access a) first walk)
          (refl, (refl, (refl, tt))) (no_request v.number (event.End q.access (Abort (OrphanOf a))) (began v.number q) refl ∙ began_request v.number q) None tells refl)
      sent (Err (no.Short short)) (ends, want) tells keeps = ∥∥₁_map keeps (left_after ends)
