-- A line that took another in stays one.
use Rattle.std.proofs.Common.{◌≡◌, ◌<◌, ◌≤◌, ℕ, Bool, true, false, List, [], ◌∷◌, refl, sym, ap, ◌∙◌, subst}
use mathlib.Core.Bool.{true≢false}
use Rattle.std.specs.Prelude.{All, MatchBool, Option}
use Rattle.qc_event.specs.declared.event.Ask.{Ask}
use Rattle.qc_event.specs.Base.{Setting}
use Rattle.qc_net.specs.Plan.{Plan}
use Rattle.qc_desk.specs.declared.view.View.{View}
use Rattle.qc_desk.specs.Consulting.{HasAsked}
use Rattle.qc_desk.specs.Entries.{IsOlder, entries_of}
use Rattle.qc_desk.specs.Known.{IsKnown}
use Rattle.qc_desk.specs.Rules.{Has, IsClient, joined, knows, sees}
use Rattle.qc_desk.proofs.Having.{has_right}
use Rattle.qc_desk.proofs.Since as since
use Rattle.qc_carry.specs.Branching.{HasTaken}
use Rattle.qc_carry.specs.Kept.{Keeps}
use Rattle.qc_carry.specs.Walk.{Walk}
use Rattle.qc_carry.proofs.Held.{held_on}
use Rattle.qc_carry.proofs.KeepsStill.{keeps_still}
use Rattle.qc_carry.proofs.Walking.{none_own}

-- THE PASSES

-- what a test that fails asks for
pub by_count : (P Q : Type 0) (b : Bool) → b ≡ false → MatchBool b P Q → Q
by_count P Q true is m = absurd (true≢false is)
by_count P Q false is m = m

-- another's pass is joined into it
pub took : {setting : Setting} (v other w : View) → v.live ≡ true → other.live ≡ true → IsOlder v.seen w.seen × IsOlder other.seen w.seen → w ≡ knows w.seen (joined v other) → (v.live ≡ true → v.mine ≡ entries_of v.number v.seen)
    → (other.live ≡ true → other.mine ≡ entries_of other.number other.seen) → IsKnown setting w → HasTaken v other w
took {setting} v other w live lives older is own theirs now = record {
  taken = is;
  since = since.since v.number v.seen w.seen older.0 (ap (λ n. entries_of n w.seen) (sym (ap (λ (x : View). x.number) is)) ∙ sym (now.mine (ap (λ (x : View). x.live) is ∙ live)) ∙ ap (λ (x : View). x.mine) is ∙ own live);
  other_since = since.since other.number other.seen w.seen older.1 (now.kin other.number other.mine has ∙ theirs lives);
}
  where
    has : Has w.kin (other.number, other.mine)
    has = subst (λ ks. Has ks (other.number, other.mine)) (sym (ap (λ (x : View). x.kin) is)) (has_right v.kin ((other.number, other.mine) ∷ other.kin) (other.number, other.mine) (0, refl))

-- THE LINE

module _ (setting : Setting) (v w : View) (client : IsClient v) (plan : Option Plan) (held : List Ask) (patience : ℕ) (torn : Bool) (was : All (HasAsked v.seen) held) (keeps : Keeps v.number plan held patience v.seen torn) where
  abbrev Stays : Type 0
  Stays = IsClient w × ∥ IsKnown setting w ∥₁ × All (HasAsked w.seen) held × Keeps w.number plan held patience w.seen torn

  -- it took one in
  pub taken_still : (other : View) → IsKnown setting w → HasTaken v other w → Stays
  taken_still other known took =
      let number : w.number ≡ v.number = ap (λ (x : View). x.number) took.taken in
      let live : w.live ≡ v.live = ap (λ (x : View). x.live) took.taken in
      let still = keeps_still setting v (sees w.seen v) [] known.legal walk refl (λ n access. (refl, refl)) plan held patience torn keeps in (
        subst (λ (x : Bool × ℕ). (x.0 ≡ true) × (1 ≤ x.1 → 17 < x.1)) (λ i. (sym live i, sym number i)) client,
        ∣ known ∣₁,
        held_on v (sees w.seen v) [] walk held was,
        subst (λ n. Keeps n plan held patience w.seen torn) (sym number) still,
      )
    where
      walk : Walk v (sees w.seen v) []
      walk = record { newer = took.since.0; grown = took.since.1; own = none_own v.number took.since.0 took.since.2; number = refl; live = refl; out = refl; kin = refl }
