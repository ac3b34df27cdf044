-- What is logged of a legal history is what the ledger committed: each top with the names that are listed of it.
use Rattle.std.proofs.Common.{◌≡◌, ℕ, ◌==◌, cond, Bool, true, false, List, [], ◌∷◌, ◌++◌, refl, sym, ap, ap₂, ◌∙◌, subst, eq-eqb, append-nil}
use mathlib.Core.Bool.{true≢false}
use Rattle.std.specs.Prelude.{map, Option, None, Some, MatchOption, option_to_list}
use Rattle.std.specs.Option.{option_map}
use Rattle.std.specs.List.{All}
use Rattle.std.proofs.lemmas.List.{map-append}
use Rattle.std.proofs.lemmas.List.Elements.{All-head, All-tail}
use Rattle.qc_event.specs.declared.event.Answer.{Answer}
use Rattle.qc_event.specs.declared.event.Event.{Event}
use Rattle.qc_event.specs.declared.event.Event.TheVariants as event
use Rattle.qc_event.specs.declared.event.How.TheVariants.{Commit, Abort}
use Rattle.qc_event.specs.declared.event.Kind.{Kind}
use Rattle.qc_event.specs.declared.event.Kind.TheVariants as kind
use Rattle.qc_event.specs.Base.{Setting}
use Rattle.qc_event.specs.Commits.{MayCommit}
use Rattle.qc_event.specs.History.{Begun, Name, Past, start}
use Rattle.qc_event.specs.Legal.{Legal, MayEnd, MayHappen}
use Rattle.qc_event.specs.Listed.{listed}
use Rattle.qc_event.specs.Seats.{ledger_seat}
use Rattle.qc_event.specs.Standing.{IsUser}
use Rattle.qc_event.proofs.OneEntry.{unless_some}
use Rattle.qc_event.proofs.Options.{some_match}
use Rattle.qc_codec.specs.Bodies as body
use Rattle.qc_codec.specs.Ledger.{record_of_top, top_in}
use Rattle.qc_codec.specs.declared.past.Logged.{Logged}
use Rattle.qc_ledger.specs.Entered.{told_body, tops_of}
use Rattle.qc_desk.specs.Entries.{entries_of}
use Rattle.qc_refine.specs.Listed.{logged, logged_as}
use Rattle.qc_refine.proofs.Restoring.LoggedTops.{IsLogged, logged_are, top_user}

-- WHO COMMITS TOPS

top_event : (ev : Event) (t : Name) → top_in ev ≡ Some t → (x : ℕ) × (given : Answer) × (ev ≡ event.End (x ∷ []) (Commit given))
top_event (event.End (x ∷ []) (Commit given)) t is = (x, given, refl)
top_event (event.End (x ∷ []) (Abort c)) t is = absurd cc
top_event (event.End (x ∷ y ∷ n) how) t is = absurd cc
top_event (event.End [] how) t is = absurd cc
top_event _ t is = absurd cc

user_seat : (setting : Setting) (past : Past) (seat x : ℕ) (b : Begun) (given : Answer) (k : Kind) → IsUser k → MayCommit setting past seat (x ∷ []) b given k → seat ≡ ledger_seat
user_seat setting past seat x b given (kind.User session plan) user may = may.ledger
user_seat setting past seat x b given _ user may = absurd user

end_seat : (setting : Setting) (past : Past) (seat x : ℕ) (given : Answer) (o : Option Begun) → MatchOption o ⊥ (λ b. IsUser b.kind) → MatchOption o ⊥ (MayEnd setting past seat (x ∷ []) (Commit given)) → seat ≡ ledger_seat
end_seat setting past seat x given None user may = absurd may
end_seat setting past seat x given (Some b) user may = user_seat setting past seat x b given b.kind user may

-- a top commits under the ledger's seat
commit_seat : (setting : Setting) (past : Past) (seat x : ℕ) (given : Answer) → Legal setting past → MayHappen setting past seat (event.End (x ∷ []) (Commit given)) → seat ≡ ledger_seat
commit_seat setting past seat x given legal may =
    end_seat setting past seat x given (start past (x ∷ []))
    (top_user setting past x legal (some_match (start past (x ∷ [])) (MayEnd setting past seat (x ∷ []) (Commit given)) may)) may

-- an entry under another seat commits no top
no_top : (setting : Setting) (past : Past) (seat : ℕ) (ev : Event) → Legal setting past → MayHappen setting past seat ev → (seat == ledger_seat) ≡ false → top_in ev ≡ None
no_top setting past seat ev legal may other = unless_some (top_in ev) (λ t is.
    let (x, given, ends) = top_event ev t is in
    true≢false (sym (eq-eqb seat ledger_seat (commit_seat setting past seat x given legal (subst (MayHappen setting past seat) ends may))) ∙ other))

-- WHAT IS LOGGED

abbrev tops : List Logged → List Name
tops ls = map (λ (l : Logged). l.top) ls

one_top : (past : Past) (o : Option Name) → tops (option_to_list (option_map (logged_as past) o)) ≡ option_to_list o
one_top past None = refl
one_top past (Some t) = refl

-- the logged tops are those that the ledger's entries commit
tops_logged : (setting : Setting) (past : Past) → Legal setting past → tops (logged past) ≡ tops_of (entries_of ledger_seat past)
tops_logged setting [] legal = refl
tops_logged setting (e ∷ past) legal =
    map-append (λ (l : Logged). l.top) (logged past) (option_to_list (option_map (logged_as past) (top_in e.event)))
    ∙ ap₂ (λ (a b : List Name). a ++ b) (tops_logged setting past legal.0) (one_top past (top_in e.event))
    ∙ by_seat (e.seat == ledger_seat) refl
  where
    by_seat : (b : Bool) → (e.seat == ledger_seat) ≡ b → tops_of (entries_of ledger_seat past) ++ option_to_list (top_in e.event) ≡ tops_of (cond b (e ∷ entries_of ledger_seat past) (entries_of ledger_seat past))
    by_seat true is = refl
    by_seat false is =
        ap (λ o. tops_of (entries_of ledger_seat past) ++ option_to_list o) (no_top setting past e.seat e.event legal.0 legal.1 is)
        ∙ append-nil (tops_of (entries_of ledger_seat past))

by_tops : (past : Past) (ls : List Logged) → All (IsLogged past) ls → ls ≡ map (logged_as past) (tops ls)
by_tops past [] are = refl
by_tops past (l ∷ ls) are =
    let is = All-head (IsLogged past) l ls are in
    ap₂ (λ (x : Logged) (xs : List Logged). x ∷ xs)
    (ap (λ (names : List Name). record { top = l.top; aborted = names }) (is.same_list ∙ ap (listed past) (sym is.is_top)))
    (by_tops past ls (All-tail (IsLogged past) l ls are))

-- what is logged, by the tops that the ledger's entries commit
pub logged_same : (setting : Setting) (past : Past) → Legal setting past → logged past ≡ map (logged_as past) (tops_of (entries_of ledger_seat past))
logged_same setting past legal = by_tops past (logged past) (logged_are setting past legal) ∙ ap (map (logged_as past)) (tops_logged setting past legal)

-- the bodies of tops spell their records
pub bodies_same : (past : Past) (ts : List Name) → map (told_body (listed past)) ts ≡ map body.ledger.spell (map record_of_top (map (logged_as past) ts))
bodies_same past [] = refl
bodies_same past (t ∷ ts) = ap (λ (rest : List (List ℕ)). told_body (listed past) t ∷ rest) (bodies_same past ts)
