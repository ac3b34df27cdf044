-- What the names of a legal history are like: a started name begins with a top's number, no number behind it is 0, and
-- that of an access that asked has 3 to 18 numbers.
use Rattle.std.proofs.Common.{◌≡◌, ℕ, ◌-◌, ◌^◌, ◌<◌, ◌≤◌, true, [], ◌∷◌, ◌++◌, length, refl, sym, subst, inl, inr, arith}
use mathlib.Core.Bool.{true≢false}
use Rattle.std.specs.Prelude.{Option, None, Some, is_some, MatchOption, ◌/◌, ◌%◌}
use Rattle.std.specs.List.{All}
use Rattle.std.proofs.lemmas.Bool.{leb-true}
use Rattle.std.proofs.lemmas.List.{length-take-le}
use Rattle.std.proofs.lemmas.List.Elements.{All-nil, All-push}
use Rattle.qc_names.specs.Name as name
use Rattle.qc_event.specs.declared.event.Kind.{Kind}
use Rattle.qc_event.specs.declared.event.Kind.TheVariants as kind
use Rattle.qc_event.specs.Base.{Setting}
use Rattle.qc_event.specs.History.{Past, Name, Asked, Begun, start, asked}
use Rattle.qc_event.specs.Legal.{Legal, MayHappen}
use Rattle.qc_event.specs.Standing.{IsManager}
use Rattle.qc_event.specs.Starts.{Starts}
use Rattle.qc_event.proofs.Lawful.{started_some}
use Rattle.qc_event.proofs.OneEntry.{start_step}
use Rattle.qc_event.proofs.Asked.{was_asked, managed}
use Rattle.qc_event.proofs.Starting.{IsManagerName, manager_name}

-- both halves of a name's first number, and each number behind it, are at least 1
abbrev pub IsNumbered : Name → Type 0
IsNumbered [] = ⊥
IsNumbered (top ∷ rest) = (0 < top / 2 ^ 32) × (0 < top % 2 ^ 32) × All (λ n. 0 < n) rest

numbered_last : (p : Name) (j : ℕ) → IsNumbered p → 0 < j → IsNumbered (p ++ j ∷ [])
numbered_last [] j numbered some = absurd numbered
numbered_last (top ∷ rest) j numbered some = (numbered.0, numbered.1, All-push (λ n. 0 < n) rest j numbered.2 some)

-- a name that starts is numbered, where those that were started are
next_numbered : (setting : Setting) (past : Past) (seat : ℕ) (n : Name) (k : Kind) → ((p : Name) → is_some (start past p) ≡ true → IsNumbered p) → Starts setting past seat n k → IsNumbered n
next_numbered setting past seat [] k before may = absurd may
next_numbered setting past seat (top ∷ []) k before may = (omega (arith, leb-true 1 (top / 2 ^ 32) may.epoch), omega (arith, leb-true 1 (top % 2 ^ 32) may.place), All-nil (λ n. 0 < n))
next_numbered setting past seat (x ∷ y ∷ r) k before may =
    subst IsNumbered (sym may.next_child) (numbered_last (name.front (x ∷ y ∷ r)) _ (before (name.front (x ∷ y ∷ r)) may.parent_going.is_open.started) (omega arith))

pub started_numbered : (setting : Setting) (past : Past) (n : Name) → Legal setting past → is_some (start past n) ≡ true → IsNumbered n
started_numbered setting [] n legal began = absurd (true≢false (sym began))
started_numbered setting (e ∷ past) n legal began = elim (start_step e past n began) [
  | inl old ↦ started_numbered setting past n legal.0 old
  | inr new ↦ next_numbered setting past e.seat n new.1.0 (λ p was. started_numbered setting past p legal.0 was) (subst (MayHappen setting past e.seat) new.1.1 legal.1)
]

-- What the name of an access that asked is like.
pub record IsAccessName (n : Name) : Type 0 where
  pub long : 3 ≤ length n
  pub short : length n ≤ 18
  pub numbered : IsNumbered n

pub asked_name : (setting : Setting) (past : Past) (n : Name) (a : Asked) → Legal setting past → asked past n ≡ Some a → IsAccessName a.ask.access
asked_name setting past n a legal is =
    let was = was_asked setting past n a legal is in
    let began = started_some (λ b. (b.seat ≡ a.seat) × (b.kind ≡ kind.Access)) (start was.before a.ask.access) was.may.started in
    let front = by_manager was.before was.legal (start was.before (name.front a.ask.access)) refl (managed setting was.before a.seat a.ask was.legal was.may) in
    let l = length-take-le (length a.ask.access - 1) a.ask.access (omega arith) in
    record {
      long = omega arith;
      short = omega arith;
      numbered = started_numbered setting was.before a.ask.access was.legal began;
    }
  where
    by_manager : (before : Past) → Legal setting before → (o : Option Begun) → start before (name.front a.ask.access) ≡ o → MatchOption o ⊥ (λ m. IsManager m.kind) → IsManagerName (name.front a.ask.access)
    by_manager before was None at manages = absurd manages
    by_manager before was (Some m) at manages = manager_name setting before (name.front a.ask.access) m was at manages
