-- Tops that were started stay so, and one more is.
use Rattle.std.proofs.Common.{◌≡◌, ℕ, ◌<◌, List, [], ◌∷◌, ◌++◌, length, get_or, sym, subst}
use Rattle.std.specs.Prelude.{All}
use Rattle.std.proofs.lemmas.List.Elements.{All-append, All-cons, All-nil}
use Rattle.qc_event.specs.History.{Past, Name}
use Rattle.qc_event.specs.Standing.{Started, IsUser}
use Rattle.qc_desk.specs.Entries.{IsOlder}
use Rattle.qc_desk.proofs.Entering.{started_later}
use Rattle.bench_desk.specs.Tops.{AreStarted}

pub still_started : (before now : Past) (names : List Name) → IsOlder before now → AreStarted before names → AreStarted now names
still_started before now names older was = λ k d less. started_later before now _ (λ b. IsUser b.kind) older (was k d less)

pub one_more : (past : Past) (names : List Name) (n : Name) → AreStarted past names → Started past n (λ b. IsUser b.kind) → AreStarted past (names ++ n ∷ [])
one_more past names n was new = All-append (λ n. Started past n (λ b. IsUser b.kind)) names (n ∷ []) was (alone n new)
  where
    alone : (n : Name) → Started past n (λ b. IsUser b.kind) → All (λ n. Started past n (λ b. IsUser b.kind)) (n ∷ [])
    alone n h = All-cons (λ n. Started past n (λ b. IsUser b.kind)) n [] h (All-nil (λ n. Started past n (λ b. IsUser b.kind)))

-- one of them
pub one_of_them : (past : Past) (names : List Name) (k : ℕ) (n : Name) → AreStarted past names → k < length names → n ≡ get_or names k n → Started past n (λ b. IsUser b.kind)
one_of_them past names k n all less is = subst (λ m. Started past m (λ b. IsUser b.kind)) (sym is) (all k n less)
