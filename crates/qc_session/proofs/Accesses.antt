-- What the entries of a manager's accesses are.
use Rattle.std.proofs.Common.{◌≡◌, ℕ, ◌==◌, ◌<◌, ◌⊎◌, inl, inr, Bool, true, false, cond, [], ◌∷◌, ◌++◌, length, refl, sym, ap, ◌∙◌, subst, arith}
use mathlib.Core.Bool.{true≢false}
use Rattle.std.specs.Prelude.{not, IsTrue, All}
use Rattle.std.specs.List.{AllByRecursion}
use Rattle.std.proofs.lemmas.Bool.{not-true}
use Rattle.std.proofs.lemmas.List.Elements.{All-head, All-tail}
use Rattle.qc_names.specs.Name as name
use Rattle.qc_event.specs.Aborts.{Licensed}
use Rattle.qc_event.specs.Base.{Setting}
use Rattle.qc_event.specs.declared.event.Cause.{Cause}
use Rattle.qc_event.specs.declared.event.Cause.TheVariants as cause
use Rattle.qc_event.specs.declared.event.Entry.{Entry}
use Rattle.qc_event.specs.declared.event.Event.{Event}
use Rattle.qc_event.specs.declared.event.Event.TheVariants as event
use Rattle.qc_event.specs.declared.event.How.TheVariants.{Commit, Abort}
use Rattle.qc_event.specs.declared.event.Kind.{Kind}
use Rattle.qc_event.specs.declared.event.Kind.TheVariants as kind
use Rattle.qc_event.specs.History.{Past, Name, Begun, start, is_child}
use Rattle.qc_event.specs.Legal.{Legal, MayEnd, MayHappen}
use Rattle.qc_event.specs.Standing.{IsUser, IsManager, Started}
use Rattle.qc_event.specs.Starts.{Stands, Starts}
use Rattle.qc_event.proofs.LastNumber.{child_last, front_last, child_longer}
use Rattle.qc_event.proofs.Lawful.{started_wider}
use Rattle.qc_event.proofs.Later.{started_still}
use Rattle.qc_event.proofs.BelowTops.{next_below}
use Rattle.qc_managers.specs.Carrying.{made_by, name_of}
use Rattle.qc_script.specs.Calls.{IsOfAccess, is_access, is_asked}
use Rattle.qc_session.proofs.Standing.{not_both, no_user_below}

-- where a manager's child stands
pub stands_there : (setting : Setting) (past : Past) (n m : Name) (seat : ℕ) (k : Kind) → 0 < length n → is_child n m ≡ true → Starts setting past seat m k → Started past n (λ b. Stands setting seat b (length m) k)
stands_there setting past n m seat k pos is may =
    let last = child_last n m is in
    let next = next_below setting past seat m k (omega (arith, pos, child_longer n m is)) may in
    subst (λ q. Started past q (λ b. Stands setting seat b (length m) k)) (ap name.front last.1 ∙ front_last n last.0) next.stands

under_manager : (setting : Setting) (past : Past) (n : Name) (seat depth : ℕ) (k : Kind) → Started past n (λ b. IsManager b.kind) → Started past n (λ b. Stands setting seat b depth k) → is_access k ≡ true
under_manager setting past n seat depth (kind.User session body) manager stands = absurd (not_both past n (started_wider _ _ (start past n) (λ b h. h.0) stands) manager)
under_manager setting past n seat depth (kind.Read rec) manager stands = absurd (not_both past n (started_wider _ _ (start past n) (λ b h. h.0) stands) manager)
under_manager setting past n seat depth (kind.Write rec value) manager stands = absurd (not_both past n (started_wider _ _ (start past n) (λ b h. h.0) stands) manager)
under_manager setting past n seat depth (kind.Reconf rec config) manager stands = absurd (not_both past n (started_wider _ _ (start past n) (λ b h. h.0) stands) manager)
under_manager setting past n seat depth kind.Access manager stands = refl

asked_by_user : (setting : Setting) (past : Past) (seat : ℕ) (n by : Name) (b : Begun) (k : Kind) → Licensed setting past seat n b k (cause.Asked by) → IsUser k
asked_by_user setting past seat n by b (kind.User session body) h = tt
asked_by_user setting past seat n by b (kind.Read rec) h = absurd h.0
asked_by_user setting past seat n by b (kind.Write rec value) h = absurd h.0
asked_by_user setting past seat n by b (kind.Reconf rec config) h = absurd h.0
asked_by_user setting past seat n by b kind.Access h = absurd h.0

not_asked : (setting : Setting) (past : Past) (seat : ℕ) (m : Name) (c : Cause) → (Started past m (λ b. IsUser b.kind) → ⊥) → Started past m (MayEnd setting past seat m (Abort c)) → is_asked (Abort c) ≡ false
not_asked setting past seat m (cause.Asked by) other may = absurd (other (started_wider _ _ (start past m) (λ b h. asked_by_user setting past seat m by b b.kind h.licensed) may))
not_asked setting past seat m _ other may = refl

pub access_does : (setting : Setting) (past : Past) (n : Name) (seat : ℕ) (ev : Event) → Legal setting past → 0 < length n → Started past n (λ b. IsManager b.kind) → is_child n (name_of ev) ≡ true → MayHappen setting past seat ev → IsOfAccess n ev
access_does setting past n seat (event.Start m k) legal pos manager is may = (is, under_manager setting past n seat (length m) k manager (stands_there setting past n m seat k pos is may))
access_does setting past n seat (event.End m (Commit given)) legal pos manager is may = (is, refl)
access_does setting past n seat (event.End m (Abort c)) legal pos manager is may = (is, ap not (not_asked setting past seat m c (no_user_below setting past n m legal pos manager is) may))
access_does setting past n seat (event.Ready m) legal pos manager is may = absurd (omega (arith, pos, child_longer n m is, may.is_top))
access_does setting past n seat (event.Mark by session) legal pos manager is may = absurd (no_user_below setting past n by legal pos manager is may.by_user)
access_does setting past n seat (event.Ask ask) legal pos manager is may = tt
access_does setting past n seat (event.Gone m why) legal pos manager is may = tt
access_does setting past n seat (event.Granted copy grant) legal pos manager is may = tt
access_does setting past n seat (event.Refused m copy refusal) legal pos manager is may = tt
access_does setting past n seat (event.Unable m why) legal pos manager is may = tt

-- an entry is of a child of the name, or is not under the seat
abbrev pub OfManager : ℕ → Name → Entry → Type 0
OfManager seat n e = IsTrue (is_child n (name_of e.event)) ⊎ IsTrue (not (e.seat == seat))

-- what is made under the seat is of accesses alone
pub accesses_do : (setting : Setting) (seat : ℕ) (n : Name) (inner past : Past) → Legal setting (inner ++ past) → 0 < length n → Started past n (λ b. IsManager b.kind) → All (OfManager seat n) inner → AllByRecursion (λ (e : Entry). IsOfAccess n e.event) (made_by seat inner)
accesses_do setting seat n [] past legal pos manager each = tt
accesses_do setting seat n (e ∷ inner) past legal pos manager each =
    by_seat (e.seat == seat) refl (accesses_do setting seat n inner past legal.0 pos manager (All-tail (OfManager seat n) e inner each)) (All-head (OfManager seat n) e inner each)
  where
    by_seat : (b : Bool) → (e.seat == seat) ≡ b → AllByRecursion (λ (x : Entry). IsOfAccess n x.event) (made_by seat inner) → OfManager seat n e → AllByRecursion (λ (x : Entry). IsOfAccess n x.event) (cond b (e ∷ made_by seat inner) (made_by seat inner))
    by_seat true is rest (inl access) = (access_does setting (inner ++ past) n e.seat e.event legal.0 pos (started_still inner past n _ manager) access legal.1, rest)
    by_seat true is rest (inr other) = absurd (true≢false (sym is ∙ not-true (e.seat == seat) other))
    by_seat false is rest of = rest
