-- A refusal that comes once an access has ended changes nothing of its result.
use Rattle.std.proofs.Common.{◌≡◌, ℕ, Bool, true, false, ◌∷◌, refl, sym, ap, ◌∙◌}
use mathlib.Core.Bool.{true≢false}
use Rattle.std.specs.Prelude.{Option, None, Some, if◌then◌else◌, is_some}
use Rattle.std.specs.Option.{option_or}
use Rattle.qc_event.specs.declared.event.Answer.{Answer}
use Rattle.qc_event.specs.declared.event.Answer.TheVariants.{Reply}
use Rattle.qc_event.specs.declared.event.Cause.{Cause}
use Rattle.qc_event.specs.declared.event.Entry.{Entry}
use Rattle.qc_event.specs.declared.event.Event.{Event}
use Rattle.qc_event.specs.declared.event.Event.TheVariants as event
use Rattle.qc_event.specs.declared.event.How.{How}
use Rattle.qc_event.specs.declared.event.How.TheVariants.{Commit, Abort}
use Rattle.qc_event.specs.declared.event.Refusal.{Refusal}
use Rattle.qc_event.specs.declared.event.Refusal.TheVariants.{Blocked, Dead}
use Rattle.qc_event.specs.declared.event.Why.{Why}
use Rattle.qc_event.specs.Base.{Setting}
use Rattle.qc_event.specs.Dead.{outcome_of, is_aborted, dead}
use Rattle.qc_event.specs.Grants.{IsRefusal, MayRefuse}
use Rattle.qc_event.specs.History.{Past, Name, same, end, gone, asked, refused, refusal_in}
use Rattle.qc_event.specs.Legal.{Allowed, MayHappen}
use Rattle.qc_event.specs.Manager.{result, result_by}
use Rattle.qc_event.proofs.Absent.{same_is}
use Rattle.qc_event.proofs.AskedAccess.{asked_access}
use Rattle.qc_event.proofs.Lawful.{some_how}
use Rattle.qc_event.proofs.Lineage.{alive_not_aborted}
use Rattle.qc_event.proofs.Options.{some_there}

-- a refusal that blocks nobody
abbrev IsNoBlock : Option Refusal → Type 0
IsNoBlock (Some (Blocked holder)) = ⊥
IsNoBlock _ = Unit {0}

committed : (given : Answer) (why : Option Why) (refusal : Option Refusal) → result_by (Some (Commit given)) why refusal ≡ result_by (Some (Commit given)) why None
committed (Reply tuple) why refusal = refl
committed _ why refusal = refl

later_refusal : (how : How) (why : Option Why) (old new : Option Refusal) → ((c : Cause) → how ≡ Abort c → IsNoBlock new) → result_by (Some how) why (option_or old new) ≡ result_by (Some how) why old
later_refusal how why (Some r) new h = refl
later_refusal how why None None h = refl
later_refusal (Commit given) why None (Some r) h = committed given why (Some r)
later_refusal (Abort c) (Some w) None (Some r) h = refl
later_refusal (Abort c) None None (Some (Dead a)) h = refl
later_refusal (Abort c) None None (Some (Blocked b)) h = absurd (h c refl)

-- an aborted access is dead, so a copy does not block it
aborted_unblocked : (past : Past) (seat : ℕ) (n : Name) (copy : ℕ) (h : Name) (c : Cause) → MayRefuse past seat n copy (Blocked h) → end past n ≡ Some (Abort c) → ⊥
aborted_unblocked past seat n copy h c may is =
    let there = some_there (asked past n) (λ a. IsRefusal past a.ask (Blocked h)) may.reason in
    let alive : dead past n ≡ None = ap (dead past) (sym (asked_access past n there.0 there.1)) ∙ there.2.0 in
    true≢false (ap (λ o. is_aborted (outcome_of o)) (sym is) ∙ alive_not_aborted past n alive)

-- the result of an access that has ended stays, where the entry neither ends it nor gives it up
pub result_stays : (setting : Setting) (e : Entry) (past : Past) (x : Name) → Allowed setting past e → end (e ∷ past) x ≡ end past x → gone (e ∷ past) x ≡ gone past x → is_some (end past x) ≡ true → result (e ∷ past) x ≡ result past x
result_stays setting e past x may ends goes ended =
    let how = some_how (end past x) ended in
    ap (λ o. result_by o (gone (e ∷ past) x) (refused (e ∷ past) x)) ends
    ∙ ap (λ o. result_by (end past x) o (refused (e ∷ past) x)) goes
    ∙ ap (λ o. result_by o (gone past x) (refused (e ∷ past) x)) how.1
    ∙ later_refusal how.0 (gone past x) (refused past x) (refusal_in x e.event) (λ c is. by_event e.event may c (how.1 ∙ ap (λ y. Some y) is))
    ∙ ap (λ o. result_by o (gone past x) (refused past x)) (sym how.1)
  where
    by_refusal : (r : Refusal) (m : Name) (copy : ℕ) (b : Bool) → same m x ≡ b → MayRefuse past e.seat m copy r → (c : Cause) → end past x ≡ Some (Abort c) → IsNoBlock (if b then Some r else None)
    by_refusal r m copy false is may c at = tt
    by_refusal (Dead a) m copy true is may c at = tt
    by_refusal (Blocked h) m copy true is may c at = aborted_unblocked past e.seat m copy h c may (ap (end past) (same_is m x is) ∙ at)

    by_event : (ev : Event) → MayHappen setting past e.seat ev → (c : Cause) → end past x ≡ Some (Abort c) → IsNoBlock (refusal_in x ev)
    by_event (event.Refused m copy r) may c at = by_refusal r m copy (same m x) refl may c at
    by_event _ may c at = tt
