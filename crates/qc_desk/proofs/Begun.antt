-- What the start of a name tells: how long the name is, that it is not the root, and whether there is room below it.
use Rattle.std.proofs.Common.{◌≡◌, ℕ, ◌+◌, ◌<◌, ◌≤◌, [], ◌∷◌, length, arith}
use Rattle.std.specs.Prelude.{Some}
use Rattle.qc_event.specs.declared.event.Kind.{Kind}
use Rattle.qc_event.specs.declared.event.Kind.TheVariants as kind
use Rattle.qc_event.specs.Base.{Setting}
use Rattle.qc_event.specs.History.{Past, Name, Begun, start}
use Rattle.qc_event.specs.Legal.{Legal}
use Rattle.qc_event.specs.Standing.{IsUser, Started}
use Rattle.qc_event.specs.Starts.{Stands, Starts}
use Rattle.qc_event.proofs.Options.{some_there}
use Rattle.qc_event.proofs.Starting.{was_begun, user_short, manager_name}

-- the root is never started
pub not_root : (setting : Setting) (past : Past) (n : Name) (b : Begun) → Legal setting past → start past n ≡ Some b → 0 < length n
not_root setting past n b legal is = let was = was_begun setting past n b legal is in by_name n was.before was.may
  where
    by_name : (m : Name) (older : Past) → Starts setting older b.seat m b.kind → 0 < length m
    by_name [] older may = absurd may
    by_name (x ∷ r) older may = omega arith

pub user_nonroot : (setting : Setting) (past : Past) (n : Name) → Legal setting past → Started past n (λ b. IsUser b.kind) → 0 < length n
user_nonroot setting past n legal began = let there = some_there (start past n) (λ b. IsUser b.kind) began in not_root setting past n there.0 legal there.1

-- a name under which a child may stand is not the root, and has room for a further number
pub record NameHasRoom (n : Name) : Type 0 where
  pub below_a_top : 0 < length n
  pub room : length n ≤ 17

pub has_room : (setting : Setting) (past : Past) (seat : ℕ) (n : Name) (k : Kind) → Legal setting past → Started past n (λ p. Stands setting seat p (length n + 1) k) → NameHasRoom n
has_room setting past seat n k legal h =
    let there = some_there (start past n) (λ p. Stands setting seat p (length n + 1) k) h in
    record { below_a_top = not_root setting past n there.0 legal there.1; room = by_kind k there.0 there.1 there.2 }
  where
    short : (b : Begun) → start past n ≡ Some b → IsUser b.kind → length n ≤ 17
    short b is user = let l = user_short setting past n b legal is user in omega (arith, l)

    by_kind : (k : Kind) (b : Begun) → start past n ≡ Some b → Stands setting seat b (length n + 1) k → length n ≤ 17
    by_kind (kind.User session body) b is stands = short b is stands.0
    by_kind (kind.Read rec) b is stands = short b is stands.0
    by_kind (kind.Write rec value) b is stands = short b is stands.0
    by_kind (kind.Reconf rec config) b is stands = short b is stands.0
    by_kind kind.Access b is stands = (manager_name setting past n b legal is stands.0).short
