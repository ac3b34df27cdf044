-- How deep names nest that have children.
use Rattle.std.proofs.Common.{◌≡◌, ℕ, ◌+◌, ◌-◌, ◌<◌, ◌≤◌, true, [], ◌∷◌, ◌++◌, length, refl, sym, ap, ◌∙◌, arith, subst}
use Rattle.std.specs.Prelude.{Option, None, Some, MatchOption, find, is_none}
use Rattle.qc_names.specs.Name as name
use Rattle.qc_event.specs.declared.event.Cause.{Cause}
use Rattle.qc_event.specs.declared.event.Kind.{Kind}
use Rattle.qc_event.specs.declared.event.Kind.TheVariants as kind
use Rattle.qc_event.specs.Base.{Setting}
use Rattle.qc_event.specs.History.{Past, Name, Begun, start, end, is_child, children}
use Rattle.qc_event.specs.Legal.{Legal}
use Rattle.qc_event.specs.Standing.{open_child, IsManager, Started}
use Rattle.qc_event.specs.Starts.{Starts, Stands}
use Rattle.qc_event.specs.Users.{ChildAborted}
use Rattle.qc_event.proofs.LastNumber.{child_front, child_last, child_longer, is_child-last}
use Rattle.qc_event.proofs.Lawful.{lawful, started_some}
use Rattle.qc_event.proofs.LegalOrderly.{legal_orderly}
use Rattle.qc_event.proofs.OneEntry.{childless, unless_some}
use Rattle.qc_event.proofs.Starting.{was_begun, user_short, manager_name}
use Rattle.qc_looks.specs.Names.{IsAbortedManager}

pub nonempty : (n : Name) → (n ≡ [] → ⊥) → 0 < length n
nonempty [] some = absurd (some refl)
nonempty (x ∷ n) some = omega arith

module _ (setting : Setting) where
  under : (older : Past) (m : Name) (k : Kind) (d seat : ℕ) (o : Option Begun) → Legal setting older → start older m ≡ o → MatchOption o ⊥ (λ p. Stands setting seat p d k) → length m ≤ 17
  under older m k d seat None legal at h = absurd h
  under older m (kind.User session body) d seat (Some p) legal at h = let short = user_short setting older m p legal at h.0 in omega (arith, short)
  under older m (kind.Read rec) d seat (Some p) legal at h = let short = user_short setting older m p legal at h.0 in omega (arith, short)
  under older m (kind.Write rec value) d seat (Some p) legal at h = let short = user_short setting older m p legal at h.0 in omega (arith, short)
  under older m (kind.Reconf rec config) d seat (Some p) legal at h = let short = user_short setting older m p legal at h.0 in omega (arith, short)
  under older m kind.Access d seat (Some p) legal at h = (manager_name setting older m p legal at h.0).short

  parent_short : (older : Past) (n c : Name) (seat : ℕ) (k : Kind) → Legal setting older → is_child n c ≡ true → 0 < length n → Starts setting older seat c k → length n ≤ 17
  parent_short older n [] seat k legal child pos may = absurd may
  parent_short older n (x ∷ []) seat k legal child pos may = let long = child_longer n (x ∷ []) child in absurd (omega (arith, long, pos))
  parent_short older n (x ∷ y ∷ r) seat k legal child pos may =
      subst (λ m. length m ≤ 17) (child_front n (x ∷ y ∷ r) child)
      (under older (name.front (x ∷ y ∷ r)) k (length (x ∷ y ∷ r)) seat (start older (name.front (x ∷ y ∷ r))) legal refl may.stands)

  -- a name with a started child has at most 17 numbers
  pub with_child_short : (past : Past) (n c : Name) (b : Begun) → Legal setting past → 0 < length n → is_child n c ≡ true → start past c ≡ Some b → length n ≤ 17
  with_child_short past n c b legal pos child is =
      let was = was_begun setting past c b legal is in
      parent_short was.before n c b.seat b.kind was.legal child pos was.may

  -- so a longer one has none
  pub no_children : (past : Past) (n : Name) → Legal setting past → 17 < length n → children past n ≡ []
  no_children past n legal long =
      childless past n (λ c child. unless_some (start past c) (λ b is. let short = with_child_short past n c b legal (omega (arith, long)) child is in omega (arith, short, long)))

  pub none_open : (past : Past) (n : Name) → Legal setting past → 17 < length n → true ≡ is_none (open_child past n)
  none_open past n legal long = sym (ap (λ cs. is_none (find (λ c. is_none (end past c)) cs)) (no_children past n legal long))

  -- NO MANAGER WAS ABORTED

  pub none_aborted : (past : Past) (n : Name) (cause : Cause) → Legal setting past → 17 < length n → ChildAborted past n cause → ⊥
  none_aborted past n cause legal long is = by_start (start past is.child) refl is.manages
    where
      by_start : (o : Option Begun) → start past is.child ≡ o → MatchOption o ⊥ (λ b. IsManager b.kind) → ⊥
      by_start None at manages = absurd manages
      by_start (Some b) at manages =
          let short = with_child_short past n is.child b legal (omega (arith, long)) is.is_one at in
          absurd (omega (arith, short, long))

  pub none_at_root : (past : Past) (cause : Cause) → Legal setting past → ChildAborted past [] cause → ⊥
  none_at_root past cause legal is = by_start (start past is.child) refl is.manages
    where
      by_start : (o : Option Begun) → start past is.child ≡ o → MatchOption o ⊥ (λ b. IsManager b.kind) → ⊥
      by_start None at manages = absurd manages
      by_start (Some b) at manages =
          let below = (manager_name setting past is.child b legal at manages).below_a_top in
          let long = child_longer [] is.child is.is_one in
          absurd (omega (arith, below, long))

  -- a child that was aborted is one of those that are counted
  pub counted : (past : Past) (n : Name) (cause : Cause) → Legal setting past → 0 < length n → ChildAborted past n cause → (j : ℕ) × (j < length (children past n)) × IsAbortedManager past (n ++ (j + 1) ∷ []) cause
  counted past n cause legal pos is =
      let last = child_last n is.child is.is_one in
      let began = started_some (λ b. IsManager b.kind) (start past (n ++ last.0 ∷ [])) (subst (λ c. Started past c (λ b. IsManager b.kind)) last.1 is.manages) in
      let number = (lawful past (legal_orderly setting past legal)).number n last.0 pos began in
      let next : last.0 ≡ (last.0 - 1) + 1 = omega (arith, number.0) in
      let one : IsAbortedManager past is.child cause = record { manages = is.manages; ended = is.ended } in
      (last.0 - 1, omega (arith, number.0, number.1), subst (λ c. IsAbortedManager past c cause) (last.1 ∙ ap (λ j. n ++ j ∷ []) next) one)

  pub is_one : (past : Past) (n : Name) (j : ℕ) (cause : Cause) → IsAbortedManager past (n ++ j ∷ []) cause → ChildAborted past n cause
  is_one past n j cause is = record { child = n ++ j ∷ []; is_one = is_child-last n j; manages = is.manages; ended = is.ended }
