-- What a line keeps of its link from the start on, while its client enters nothing of accesses, and what it tells.
use Rattle.std.proofs.Common.{◌≡◌, ℕ, Bool, false, List, [], ◌∷◌, ◌++◌, sym, ap, ◌∙◌, subst, append-nil, inr}
use mathlib.Core.Bool.{Bool-set}
use Rattle.std.proofs.Math.Logic.{∥∥₁_elim, ∥∥₁_map}
use Rattle.std.specs.Prelude.{Option, None, Some, IfSome, IsTrue}
use Rattle.std.specs.List.{AllByRecursion}
use Rattle.std.specs.Option.{option_or}
use Rattle.qc_event.specs.declared.event.Ask.{Ask}
use Rattle.qc_event.specs.declared.event.Kind.TheVariants as kind
use Rattle.qc_event.specs.Base.{Setting}
use Rattle.qc_event.specs.History.{Past, Name, kind_of, end, gone}
use Rattle.qc_event.specs.Legal.{Legal}
use Rattle.qc_event.proofs.Later.{earlier_legal}
use Rattle.qc_event.proofs.Options.{still}
use Rattle.qc_managers.specs.Carrying.{made_by}
use Rattle.qc_net.specs.Messages.{are_met, asked_under, meets_fates}
use Rattle.qc_net.specs.Plan.{Plan, anew}
use Rattle.qc_desk.specs.declared.view.View.{View}
use Rattle.qc_carry.specs.Kept.{IsKept, Keeps, at_start, net_of, sendings}
use Rattle.qc_carry.specs.Walk.{Walk}
use Rattle.qc_carry.proofs.Keeping.{no_request_kept}
use Rattle.qc_carry.proofs.Meeting.{IsLeft}
use Rattle.qc_carry.proofs.OwnAccesses.{IsOwnRequest, asks_own}
use Rattle.qc_carry.proofs.OwnRequests.{requests_more}
use Rattle.qc_carry.proofs.Walks as walks

-- THE START

nothing_asked : (seat : ℕ) (past : Past) → made_by seat past ≡ [] → asked_under seat past ≡ []
nothing_asked seat past none = ap (asked_under seat) (sym (append-nil past)) ∙ requests_more seat past [] ∙ ap (asked_under seat) none

-- a client that has entered nothing has asked nothing
pub keeps_at_start : (seat : ℕ) (plan : Option Plan) (held : List Ask) (patience : ℕ) (past : Past) → made_by seat past ≡ [] → held ≡ [] → IfSome plan (λ p. p ≡ anew p) → Keeps seat plan held patience past false
keeps_at_start seat plan held patience past none empty first = ∣ by_plan plan first ∣₁
  where
    asks : asked_under seat past ≡ []
    asks = nothing_asked seat past none

    by_plan : (o : Option Plan) → IfSome o (λ p. p ≡ anew p) → IfSome o (λ p. IsKept seat p held patience past false)
    by_plan None is = tt
    by_plan (Some p) is = record {
      met = ap (are_met patience past (at_start (net_of p patience)).plan []) asks;
      in_step = λ whole.
          let same = ap (sendings patience (at_start (net_of p patience))) (sym asks) in
          record { same_plan = is ∙ ap (λ w. w.plan) same; same_held = empty ∙ ap (λ w. w.held) same };
    }

-- WHAT IS TOLD

pub keeps_met : (seat : ℕ) (plan : Option Plan) (held : List Ask) (patience : ℕ) (past : Past) (torn : Bool) → Keeps seat plan held patience past torn → IfSome plan (λ p. IsTrue (meets_fates seat (net_of p patience) past))
keeps_met seat None held patience past torn keeps = tt
keeps_met seat (Some p) held patience past torn keeps = ∥∥₁_elim keeps (hlevel Bool-set) (λ (kept : IsKept seat p held patience past torn). kept.met)

-- NOTHING OF ACCESSES

module _ (setting : Setting) (v w : View) (made : Past) (legal : Legal setting w.seen) (walk : Walk v w made) (none : asked_under v.number made ≡ [])
    (others : (n : Name) → kind_of v.seen n ≡ Some kind.Access → (end made n ≡ None) × (gone made n ≡ None)) where
  now_legal : Legal setting (walk.newer ++ v.seen)
  now_legal = subst (Legal setting) walk.grown legal

  each_left : (requests : List Ask) → AllByRecursion (IsOwnRequest v.seen v.number) requests → AllByRecursion (λ (a : Ask). IsLeft v.seen (walk.newer ++ v.seen) a.access) requests
  each_left [] all = tt
  each_left (a ∷ rest) all =
      let own = all.0 in
      let quiet = others a.access own.access in (
        record {
          ends =
              walks.end_c setting v.seen v.number own.manager own.mine walk.newer now_legal a.access own.child
              ∙ ap (λ p. option_or (end v.seen a.access) (end p a.access)) walk.own
              ∙ ap (option_or (end v.seen a.access)) quiet.0
              ∙ still (end v.seen a.access);
          goes = inr
              (walks.gone_c setting v.seen v.number own.manager own.mine walk.newer now_legal a.access own.child
              ∙ ap (λ p. option_or (gone v.seen a.access) (gone p a.access)) walk.own
              ∙ ap (option_or (gone v.seen a.access)) quiet.1
              ∙ still (gone v.seen a.access));
        },
        each_left rest all.1,
      )

  -- a client's entries of no access leave what its line keeps
  pub keeps_still : (plan : Option Plan) (held : List Ask) (patience : ℕ) (torn : Bool) → Keeps v.number plan held patience v.seen torn → Keeps w.number plan held patience w.seen torn
  keeps_still plan held patience torn keeps = ∥∥₁_map keeps (by_plan plan)
    where
      by_plan : (o : Option Plan) → IfSome o (λ p. IsKept v.number p held patience v.seen torn) → IfSome o (λ p. IsKept w.number p held patience w.seen torn)
      by_plan None h = tt
      by_plan (Some p) h =
          subst (λ k. IsKept k p held patience w.seen torn) (sym walk.number)
          (subst (λ x. IsKept v.number p held patience x torn) (sym walk.grown)
          (no_request_kept v.number v.seen walk.newer (each_left (asked_under v.number v.seen) (asks_own setting v.seen v.number (earlier_legal setting walk.newer v.seen now_legal))) (ap (asked_under v.number) walk.own ∙ none) p held patience torn torn (λ whole. whole) h))
