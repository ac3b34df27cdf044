-- What a client is told of marks, and what it made as it marked a session.
use Rattle.std.proofs.Common.{◌≡◌, ℕ, inl, inr, Bool, true, false, List, [], ◌∷◌, length, sym, subst}
use mathlib.Core.Bool.{true≢false, Bool-set}
use Rattle.std.proofs.Math.Logic.{∥∥₁_elim}
use Rattle.std.specs.Prelude.{Option, None, Some, MatchOption, nat_le, option_and_then, option_map}
use Rattle.std.specs.Option.{option_map_or}
use Rattle.std.proofs.lemmas.Option.{none-some}
use Rattle.qc_board.specs.Boards.{Mark}
use Rattle.qc_board.specs.Marks.{IsBound}
use Rattle.qc_carry.specs.Walk.{Walk}
use Rattle.qc_carry.proofs.Walking as walking
use Rattle.qc_event.specs.declared.event.Cause.TheVariants as cause
use Rattle.qc_event.specs.declared.event.Entry.{Entry}
use Rattle.qc_event.specs.declared.event.Kind.{Kind}
use Rattle.qc_event.specs.declared.event.Kind.TheVariants as kind
use Rattle.qc_event.specs.declared.short.Short.{Short}
use Rattle.qc_event.specs.Base.{Setting}
use Rattle.qc_event.specs.History.{Past, Name, Begun, limit, start}
use Rattle.qc_event.specs.Legal.{Legal}
use Rattle.qc_event.specs.Standing.{Started}
use Rattle.qc_event.specs.Users.{is_marked, top_number}
use Rattle.qc_event.specs.Wants.{IsWant}
use Rattle.qc_desk.specs.declared.view.View.{View as Pass}
use Rattle.qc_history.specs.Looking.{is_marked_for, session_of}
use Rattle.qc_script.specs.Calls.{IsGrounded, IsMarkedFor, IsOfSession}
use Rattle.qc_script.specs.Client.{Client, Made, is_own, mine}
use Rattle.qc_session.specs.Acting.{IsWanting}
use Rattle.qc_session.specs.Clients.{IsFor}
use Rattle.qc_session.specs.Marking.{KnowsMarks}
use Rattle.qc_session.proofs.OwnMarks.{none_marks, some_unmarked}
use Rattle.qc_session.proofs.Own.{made_so}

-- THE HISTORY'S WORD

-- what is told of a start: whether its session is marked
abbrev told : Past → Name → Option Begun → Bool
told seen n o = option_map_or (λ session. is_marked seen session (top_number n)) (option_and_then session_of (option_map (λ (b : Begun). b.kind) o)) false

-- a mark that is seen licenses that a transaction is killed
pub killed_grounded : (seen : Past) (n : Name) → is_marked_for seen n ≡ true → IsGrounded seen n cause.Killed
killed_grounded seen n marked = by_start (start seen n) marked
  where
    by_kind : (k : Kind) (seat : ℕ) → told seen n (Some (record { seat = seat; kind = k })) ≡ true → IsMarkedFor seen n k
    by_kind (kind.User session body) seat marked = marked
    by_kind _ seat marked = absurd (true≢false (sym marked))

    by_start : (o : Option Begun) → told seen n o ≡ true → MatchOption o ⊥ (λ b. IsMarkedFor seen n b.kind)
    by_start None marked = absurd (true≢false (sym marked))
    by_start (Some b) marked = by_kind b.kind b.seat marked

-- where none is seen that does, its session has none
none_seen : (seen : Past) (n : Name) (session : ℕ) → Started seen n (λ b. IsOfSession session b.kind) → is_marked_for seen n ≡ false → is_marked seen session (top_number n) ≡ false
none_seen seen n session own none = by_start (start seen n) own none
  where
    by_kind : (k : Kind) (seat : ℕ) → IsOfSession session k → told seen n (Some (record { seat = seat; kind = k })) ≡ false → is_marked seen session (top_number n) ≡ false
    by_kind (kind.User s body) seat own none = subst (λ x. is_marked seen x (top_number n) ≡ false) own none
    by_kind _ seat own none = absurd own

    by_start : (o : Option Begun) → MatchOption o ⊥ (λ b. IsOfSession session b.kind) → told seen n o ≡ false → is_marked seen session (top_number n) ≡ false
    by_start None own none = absurd own
    by_start (Some b) own none = by_kind b.kind b.seat own none

-- so its client has made none
pub none_made : (c : Client) (seen : Past) (n : Name) → Started seen n (λ b. IsOfSession c.session b.kind) → is_marked_for seen n ≡ false → is_marked (mine c seen) c.session (top_number n) ≡ false
none_made c seen n own none = some_unmarked c.session (top_number n) (λ (e : Entry). is_own c e.seat) seen (none_seen seen n c.session own none)

-- THE BOARD'S WORD

-- where the word of a client's session is below a top, it has made none that reaches that
pub none_told : (c : Client) (seen : Past) (top word may : ℕ) (marks : List Mark) → IsBound may marks c.session word → nat_le top word ≡ false → ∥ KnowsMarks (c.number ∷ c.kin) seen marks ∥₁ → is_marked (mine c seen) c.session top ≡ false
none_told c seen top word may marks bound low known = ∥∥₁_elim known (hlevel Bool-set) (λ (k : KnowsMarks (c.number ∷ c.kin) seen marks). none_marks c.session top word may marks bound low _ k)

-- MARKS THAT WERE NOT MADE

-- its client tells what was wanting
pub not_marked : (setting : Setting) (v w : Pass) (c : Client) (short : Short) → IsFor setting v w c → Legal setting w.seen → IsWanting v w short → Made c [] v.seen w.seen × IsWant w.seen short
not_marked setting v w c short for legal wanting = (made_so setting v w c for legal [] wanting.0, wanting.1)
