-- Who may be aborted as it asked or made ready; and the first pass once its splits are joined back.
use Rattle.std.proofs.Common.{◌≡◌, ℕ, ◌+◌, ◌<◌, ◌==◌, Bool, true, false, cond, nat_lt, ◌&&◌, List, [], ◌∷◌, refl, sym, ap, ap₂, ◌∙◌, subst, eq-eqb, MatchBool}
use Rattle.std.specs.Prelude.{Some, MatchOption}
use Rattle.qc_event.specs.declared.event.Cause.TheVariants as cause
use Rattle.qc_event.specs.declared.event.Kind.TheVariants as kind
use Rattle.qc_event.specs.Aborts.{Licensed}
use Rattle.qc_event.specs.Base.{Setting}
use Rattle.qc_event.specs.History.{Past, Name, Begun, start}
use Rattle.qc_event.specs.Standing.{Started, IsUser}
use Rattle.qc_desk.specs.declared.view.View.{View}
use Rattle.qc_desk.specs.Rules.{IsSplit, IsClient, without, knows, joined, pass, counted}
use Rattle.qc_desk.proofs.AskedTops.{may_ask_abort}

-- who stands so may be aborted as it asked
pub asked_itself : (setting : Setting) (past : Past) (by seat session body : ℕ) (n : Name) → start past n ≡ Some (record { seat = by; kind = kind.User session body }) → Started past n (λ b. Licensed setting past seat n b b.kind (cause.Asked n))
asked_itself setting past by seat session body n at = may_ask_abort setting past seat n (subst (λ o. MatchOption o ⊥ (λ (b : Begun). IsUser b.kind)) (sym at) tt)

-- THE FIRST PASS

-- two that were split off are taken out again
without_both : (a b : ℕ) → without b (without a (b ∷ a ∷ [])) ≡ []
without_both a b = by_test (b == a)
  where
    one : (n : ℕ) → without n (n ∷ []) ≡ []
    one n = ap (λ (t : Bool). cond t [] (n ∷ [])) (eq-eqb n n refl)

    by_test : (t : Bool) → without b (cond t (without a (a ∷ [])) (b ∷ without a (a ∷ []))) ≡ []
    by_test true = ap (without b) (one a)
    by_test false = ap (λ (xs : List ℕ). without b (b ∷ xs)) (one a) ∙ one b

-- a pass of the first one, once all low numbers are given
abbrev pub High : View → View → View → Type 0
High v w new = (17 < new.number) × (new ≡ pass new.number v.seen) × (w ≡ record { live = v.live; rules = v.rules; number = v.number; seen = v.seen; all = v.all; mine = v.mine; flight = v.flight; out = new.number ∷ v.out; kin = v.kin; count = v.count; drawn = v.drawn })

pub high : (v w new : View) → v.number ≡ 0 → v.count ≡ 17 → IsSplit v w new → High v w new
high v w new number count is =
    let off : ((v.number == 0) && nat_lt v.count 17) ≡ false = ap₂ (λ a b. (a == 0) && nat_lt b 17) number count in
    subst (λ (b : Bool). MatchBool b ((w ≡ counted v) × (new ≡ pass (v.count + 1) v.seen)) (High v w new)) off is

abbrev pub IsFull : View → Type 0
IsFull v = (v.live ≡ true) × (v.number ≡ 0) × (v.out ≡ []) × (v.count ≡ 17)

pub is_client : (v w new : View) → v.number ≡ 0 → v.count ≡ 17 → IsSplit v w new → IsClient new
is_client v w new number count is = let h = high v w new number count is in (ap (λ (x : View). x.live) h.1, λ some. h.0)

-- two passes are split off and joined back
pub closes : (v a b one two one' two' x y : View) → IsFull v → IsSplit v a one → IsSplit a b two → one'.number ≡ one.number → two'.number ≡ two.number → x ≡ knows x.seen (joined b one') → y ≡ knows y.seen (joined x two') → (y.live ≡ true) × (y.number ≡ 0) × (y.out ≡ [])
closes v a b one two one' two' x y opened first second n1 n2 j1 j2 =
    let h = high v a one opened.1 opened.3 first in
    let a_number : a.number ≡ 0 = ap (λ (u : View). u.number) h.2 ∙ opened.1 in
    let k = high a b two a_number (ap (λ (u : View). u.count) h.2 ∙ opened.3) second in
    let out_b : b.out ≡ two.number ∷ one.number ∷ [] = ap (λ (u : View). u.out) k.2 ∙ ap (λ o. two.number ∷ o) (ap (λ (u : View). u.out) h.2 ∙ ap (λ o. one.number ∷ o) opened.2) in (
      ap (λ (u : View). u.live) j2 ∙ ap (λ (u : View). u.live) j1 ∙ ap (λ (u : View). u.live) k.2 ∙ ap (λ (u : View). u.live) h.2 ∙ opened.0,
      ap (λ (u : View). u.number) j2 ∙ ap (λ (u : View). u.number) j1 ∙ ap (λ (u : View). u.number) k.2 ∙ a_number,
      ap (λ (u : View). u.out) j2 ∙ ap₂ without n2 (ap (λ (u : View). u.out) j1 ∙ ap₂ without n1 out_b) ∙ without_both one.number two.number,
    )

-- the first number that is given is the ledger's
pub low : (v w new : View) → v ≡ pass 0 [] → IsSplit v w new → (w ≡ counted (pass 0 [])) × (new ≡ pass 1 [])
low v w new is split = subst (λ x. IsSplit x w new) is split

-- and the next one the first copy's
pub next_low : (v w new : View) → v ≡ counted (pass 0 []) → IsSplit v w new → (w ≡ counted (counted (pass 0 []))) × (new ≡ pass 2 [])
next_low v w new is split = subst (λ x. IsSplit x w new) is split
