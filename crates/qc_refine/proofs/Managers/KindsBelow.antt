-- What stands below a manager is an access, and nothing stands below an access.
use Rattle.std.proofs.Common.{◌≡◌, ℕ, ◌<◌, true, [], ◌∷◌, ◌++◌, length, refl, sym, ap, ◌∙◌, subst}
use Rattle.std.specs.Prelude.{Option, None, Some, is_some, MatchOption}
use Rattle.std.specs.Option.{option_or}
use Rattle.std.proofs.lemmas.Option.{same_Some}
use Rattle.qc_event.specs.declared.event.Entry.{Entry}
use Rattle.qc_event.specs.declared.event.Kind.{Kind}
use Rattle.qc_event.specs.declared.event.Kind.TheVariants as kind
use Rattle.qc_event.specs.History.{Past, Name, Begun, start, start_in, is_child}
use Rattle.qc_event.specs.Standing.{IsUser, IsManager, Started}
use Rattle.qc_event.proofs.LastNumber.{child_last}
use Rattle.qc_event.proofs.Lawful.{Lawful}
use Rattle.qc_event.proofs.Orderly.{Belongs}
use Rattle.qc_event.proofs.KindsApart.{user_or_manager}

-- the name is of this kind, if it was started
abbrev pub HasKind : Past → Name → Kind → Type 0
HasKind past n k = (b : Begun) → start past n ≡ Some b → b.kind ≡ k

-- and so it was before
pub kind_before : (e : Entry) (past : Past) (n : Name) (k : Kind) → HasKind (e ∷ past) n k → HasKind past n k
kind_before e past n k has b is = has b (ap (λ o. option_or o (start_in n e.seat e.event)) is)

-- a started child and its parent
pub record Below (past : Past) (p c : Name) : Type 0 where
  pub parent : Begun
  pub child : Begun
  pub parent_start : start past p ≡ Some parent
  pub child_start : start past c ≡ Some child
  pub belongs : Belongs parent child.kind

pub below : (past : Past) (p c : Name) → Lawful past → 0 < length p → is_child p c ≡ true → is_some (start past c) ≡ true → Below past p c
below past p c law pos is began = at_last (child_last p c is)
  where
    by_parent : (b : Begun) (o : Option Begun) → start past c ≡ Some b → start past p ≡ o → MatchOption o ⊥ (λ a. Belongs a b.kind) → Below past p c
    by_parent b None here above under = absurd under
    by_parent b (Some a) here above under = record { parent = a; child = b; parent_start = above; child_start = here; belongs = under }

    by_child : (o : Option Begun) → start past c ≡ o → MatchOption o ⊥ (λ b. Started past p (λ a. Belongs a b.kind)) → Below past p c
    by_child None here under = absurd under
    by_child (Some b) here under = by_parent b (start past p) here refl under

    at_last : (j : ℕ) × (c ≡ p ++ j ∷ []) → Below past p c
    at_last (j, last) = by_child (start past c) refl
        (subst (λ x. Started past x (λ b. Started past p (λ a. Belongs a b.kind))) (sym last) (law.under p j pos (ap (λ x. is_some (start past x)) (sym last) ∙ began)))

only_access : (k x : Kind) (b : Begun) → IsManager k → b.kind ≡ k → Belongs b x → x ≡ kind.Access
only_access k kind.Access b manager is under = refl
only_access k (kind.User session body) b manager is under = absurd (user_or_manager k (subst IsUser is under) manager)
only_access k (kind.Read rec) b manager is under = absurd (user_or_manager k (subst IsUser is under) manager)
only_access k (kind.Write rec value) b manager is under = absurd (user_or_manager k (subst IsUser is under) manager)
only_access k (kind.Reconf rec config) b manager is under = absurd (user_or_manager k (subst IsUser is under) manager)

none_belongs : (x : Kind) (b : Begun) → b.kind ≡ kind.Access → Belongs b x → ⊥
none_belongs kind.Access b is under = subst IsManager is under
none_belongs (kind.User session body) b is under = subst IsUser is under
none_belongs (kind.Read rec) b is under = subst IsUser is under
none_belongs (kind.Write rec value) b is under = subst IsUser is under
none_belongs (kind.Reconf rec config) b is under = subst IsUser is under

-- a child of a manager is an access
pub child_access : (past : Past) (m c : Name) (k : Kind) → Lawful past → 0 < length m → HasKind past m k → IsManager k → is_child m c ≡ true → is_some (start past c) ≡ true → HasKind past c kind.Access
child_access past m c k law pos has manager is began b here =
    let u = below past m c law pos is began in
    let same : u.child ≡ b = same_Some u.child b (sym u.child_start ∙ here) in
    ap (λ (x : Begun). x.kind) (sym same) ∙ only_access k u.child.kind u.parent manager (has u.parent u.parent_start) u.belongs

-- an access has no child
pub no_child : (past : Past) (a c : Name) → Lawful past → 0 < length a → HasKind past a kind.Access → is_child a c ≡ true → is_some (start past c) ≡ true → ⊥
no_child past a c law pos has is began =
    let u = below past a c law pos is began in
    none_belongs u.child.kind u.parent (has u.parent u.parent_start) u.belongs
