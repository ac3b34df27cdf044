-- What the start of a name tells: how long it is, and that an access stands under a manager.
use Rattle.std.proofs.Common.{◌≡◌, ℕ, ◌-◌, ◌≤◌, [], ◌∷◌, length, refl, sym, ap, ◌∙◌, subst, inl, inr, arith}
use Rattle.std.specs.Prelude.{Option, None, Some, is_some, MatchOption}
use Rattle.std.proofs.lemmas.Bool.{leb-true}
use Rattle.std.proofs.lemmas.List.{length-take-le}
use Rattle.qc_names.specs.Name as name
use Rattle.qc_event.specs.declared.event.Entry.{Entry}
use Rattle.qc_event.specs.declared.event.Kind.{Kind}
use Rattle.qc_event.specs.declared.event.Kind.TheVariants as kind
use Rattle.qc_event.specs.Base.{Setting}
use Rattle.qc_event.specs.History.{Past, Name, Begun, start, start_in}
use Rattle.qc_event.specs.Legal.{Legal, MayHappen}
use Rattle.qc_event.specs.Standing.{IsUser, IsManager, Started}
use Rattle.qc_event.specs.Starts.{Stands, Starts}
use Rattle.qc_event.proofs.KindsApart.{user_or_manager}
use Rattle.qc_event.proofs.Lawful.{started_wider}
use Rattle.qc_event.proofs.OneEntry.{Starting, first_is, start_is, starting, started_stays}

-- THE MOMENT

some_same : (x y : Begun) → Some x ≡ Some y → x ≡ y
some_same x y h = cc

-- the entry that starts a name is allowed
starts_now : (setting : Setting) (e : Entry) (past : Past) (n : Name) (b : Begun) → Legal setting (e ∷ past) → start (e ∷ past) n ≡ Some b → start past n ≡ None → Starting n e.event → Starts setting past b.seat n b.kind
starts_now setting e past n b legal is none (k, at) =
    let same : record { seat = e.seat; kind = k } ≡ b = some_same _ b (sym (start_is e past n k none at) ∙ is) in
    subst (λ (x : Begun). Starts setting past x.seat n x.kind) same (subst (MayHappen setting past e.seat) at legal.1)

-- the moment at which a name was started
pub record WasBegun (setting : Setting) (n : Name) (b : Begun) : Type 0 where
  pub before : Past
  pub legal : Legal setting before
  pub may : Starts setting before b.seat n b.kind

pub was_begun : (setting : Setting) (past : Past) (n : Name) (b : Begun) → Legal setting past → start past n ≡ Some b → WasBegun setting n b
was_begun setting [] n b legal is = absurd cc
was_begun setting (e ∷ past) n b legal is = elim (first_is (start past n) (start_in n e.seat e.event) b is) [
  | inl old ↦ was_begun setting past n b legal.0 old
  | inr new ↦ record { before = past; legal = legal.0; may = starts_now setting e past n b legal is new.0 (starting n e.seat e.event (ap is_some new.1)) }
]

-- LENGTHS

-- a user transaction nests no deeper than 16
pub user_short : (setting : Setting) (past : Past) (n : Name) (b : Begun) → Legal setting past → start past n ≡ Some b → IsUser b.kind → length n ≤ 16
user_short setting past n b legal is user = let was = was_begun setting past n b legal is in by_name n b.kind was.before was.may user
  where
    under : (k : Kind) (d : ℕ) (p : Begun) (seat : ℕ) → IsUser k → Stands setting seat p d k → d ≤ 16
    under (kind.User session body) d p seat user h = leb-true d 16 h.1
    under (kind.Read rec) d p seat user h = absurd user
    under (kind.Write rec value) d p seat user h = absurd user
    under (kind.Reconf rec config) d p seat user h = absurd user
    under kind.Access d p seat user h = absurd user

    by_parent : (k : Kind) (d : ℕ) (o : Option Begun) → IsUser k → MatchOption o ⊥ (λ p. Stands setting b.seat p d k) → d ≤ 16
    by_parent k d None user h = absurd h
    by_parent k d (Some p) user h = under k d p b.seat user h

    by_name : (m : Name) (k : Kind) (older : Past) → Starts setting older b.seat m k → IsUser k → length m ≤ 16
    by_name [] k older may user = absurd may
    by_name (x ∷ []) k older may user = omega arith
    by_name (x ∷ y ∷ r) k older may user = by_parent k (length (x ∷ y ∷ r)) (start older (name.front (x ∷ y ∷ r))) user may.stands

pub record IsManagerName (n : Name) : Type 0 where
  pub below_a_top : 2 ≤ length n
  pub short : length n ≤ 17

-- a manager stands below a user transaction
pub manager_name : (setting : Setting) (past : Past) (n : Name) (b : Begun) → Legal setting past → start past n ≡ Some b → IsManager b.kind → IsManagerName n
manager_name setting past n b legal is manager = let was = was_begun setting past n b legal is in by_name n b.kind was.before was.legal was.may manager
  where
    under : (k : Kind) (d : ℕ) (p : Begun) (seat : ℕ) → IsManager k → Stands setting seat p d k → IsUser p.kind
    under (kind.Read rec) d p seat manager h = h.0
    under (kind.Write rec value) d p seat manager h = h.0
    under (kind.Reconf rec config) d p seat manager h = h.0
    under (kind.User session body) d p seat manager h = absurd manager
    under kind.Access d p seat manager h = absurd manager

    by_parent : (older : Past) (k : Kind) (m : Name) (d : ℕ) (o : Option Begun) → Legal setting older → start older m ≡ o → IsManager k → MatchOption o ⊥ (λ p. Stands setting b.seat p d k) → length m ≤ 16
    by_parent older k m d None legal at manager h = absurd h
    by_parent older k m d (Some p) legal at manager h = user_short setting older m p legal at (under k d p b.seat manager h)

    by_name : (m : Name) (k : Kind) (older : Past) → Legal setting older → Starts setting older b.seat m k → IsManager k → IsManagerName m
    by_name [] k older legal may manager = absurd may
    by_name (x ∷ []) k older legal may manager = absurd (user_or_manager k may.user manager)
    by_name (x ∷ y ∷ r) k older legal may manager =
        let front = by_parent older k (name.front (x ∷ y ∷ r)) (length (x ∷ y ∷ r)) (start older (name.front (x ∷ y ∷ r))) legal refl manager may.stands in
        let l = length-take-le (length (x ∷ y ∷ r) - 1) (x ∷ y ∷ r) (omega arith) in
        record { below_a_top = omega arith; short = omega arith }

-- ACCESSES

-- a name's parent is a started manager
abbrev pub IsManaged : Past → Name → Type 0
IsManaged past n = Started past (name.front n) (λ p. IsManager p.kind)

starts_managed : (setting : Setting) (past : Past) (seat : ℕ) (n : Name) → Starts setting past seat n kind.Access → IsManaged past n
starts_managed setting past seat [] may = absurd may
starts_managed setting past seat (x ∷ []) may = absurd may.user
starts_managed setting past seat (x ∷ y ∷ r) may = started_wider (λ p. IsManager p.kind × (seat ≡ p.seat)) (λ p. IsManager p.kind) (start past (name.front (x ∷ y ∷ r))) (λ p h. h.0) may.stands

-- an access stands under a manager
pub access_managed : (setting : Setting) (past : Past) (n : Name) (b : Begun) → Legal setting past → start past n ≡ Some b → b.kind ≡ kind.Access → IsManaged past n
access_managed setting [] n b legal is access = absurd cc
access_managed setting (e ∷ past) n b legal is access = started_stays e past (name.front n) (λ p. IsManager p.kind) (elim (first_is (start past n) (start_in n e.seat e.event) b is) [
  | inl old ↦ access_managed setting past n b legal.0 old access
  | inr new ↦ starts_managed setting past b.seat n (subst (Starts setting past b.seat n) access (starts_now setting e past n b legal is new.0 (starting n e.seat e.event (ap is_some new.1))))
])
