-- What may start below a user transaction.
use Rattle.std.proofs.Common.{◌≡◌, ℕ, ◌<◌, ◌≤◌, Bool, false, [], ◌∷◌, length, refl, sym, ◌∙◌, arith}
use mathlib.Core.Bool.{true≢false}
use Rattle.std.specs.Prelude.{◌↔◌, Option, None, Some, MatchOption, IsTrue}
use Rattle.std.proofs.lemmas.Bool.{le-leb, lt-ltb}
use Rattle.qc_event.specs.declared.event.Kind.{Kind}
use Rattle.qc_event.specs.declared.event.Kind.TheVariants as kind
use Rattle.qc_event.specs.Base.{Setting}
use Rattle.qc_event.specs.History.{Past, Name, Begun, start}
use Rattle.qc_event.specs.Legal.{Legal}
use Rattle.qc_event.specs.Standing.{IsUser, Started}
use Rattle.qc_event.specs.Starts.{Stands}
use Rattle.qc_event.proofs.Lawful.{started_wider}
use Rattle.qc_event.proofs.Starting.{user_short}
use Rattle.qc_script.specs.Plan.{KindFits}
use Rattle.qc_session.specs.Acting.{StandsBelow}

-- NAMES

by_begun : (past : Past) (n : Name) (P : Begun → Type 0) (Q : Type 0) → ((b : Begun) → start past n ≡ Some b → P b → Q) → Started past n P → Q
by_begun past n P Q step began = by_start (start past n) refl began
  where
    by_start : (o : Option Begun) → start past n ≡ o → MatchOption o ⊥ P → Q
    by_start None is h = absurd h
    by_start (Some b) is h = step b is h

pub user_depth : (setting : Setting) (past : Past) (n : Name) → Legal setting past → Started past n (λ b. IsUser b.kind) → length n ≤ 16
user_depth setting past n legal user = by_begun past n (λ b. IsUser b.kind) (length n ≤ 16) (λ b is h. user_short setting past n b legal is h) user

-- a name that is told not to be the root
pub not_root : (n : Name) (b : Bool) → IsTrue b ↔ (n ≡ []) → b ≡ false → 0 < length n
not_root [] b told is = absurd (true≢false (sym (told.1 refl) ∙ is))
not_root (x ∷ n) b told is = omega arith

-- one that has more than one number, as it is neither the root nor a top
pub below_top : (n : Name) → 0 < length n → (length n ≡ 1 → ⊥) → 2 ≤ length n
below_top [] nonroot other = omega (arith, nonroot)
below_top (x ∷ []) nonroot other = absurd (other refl)
below_top (x ∷ y ∷ n) nonroot other = omega arith

-- KINDS

stands : (setting : Setting) (seat depth : ℕ) (b : Begun) (k : Kind) → IsUser b.kind → StandsBelow setting depth k → Stands setting seat b depth k
stands setting seat depth b (kind.User session body) user below = (user, le-leb depth 16 below)
stands setting seat depth b (kind.Read rec) user below = (user, lt-ltb rec (length setting.firsts) below)
stands setting seat depth b (kind.Write rec value) user below = (user, lt-ltb rec (length setting.firsts) below)
stands setting seat depth b (kind.Reconf rec config) user below = (user, lt-ltb rec (length setting.firsts) below.0, below.1.for_copies, below.1.legal)
stands setting seat depth b kind.Access user below = absurd below

pub manages_below : (setting : Setting) (depth : ℕ) (k : Kind) → KindFits setting k → StandsBelow setting depth k
manages_below setting depth (kind.User session body) fits = absurd fits
manages_below setting depth (kind.Read rec) fits = fits
manages_below setting depth (kind.Write rec value) fits = fits
manages_below setting depth (kind.Reconf rec config) fits = fits
manages_below setting depth kind.Access fits = absurd fits

-- a user transaction that was started may have such a child
pub may_stand : (setting : Setting) (seat depth : ℕ) (past : Past) (of : Name) (k : Kind) → StandsBelow setting depth k → Started past of (λ b. IsUser b.kind) → Started past of (λ b. Stands setting seat b depth k)
may_stand setting seat depth past of k below user = started_wider (λ b. IsUser b.kind) (λ b. Stands setting seat b depth k) (start past of) (λ b is. stands setting seat depth b k is below) user
