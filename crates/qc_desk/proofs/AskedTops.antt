-- A top that was started is a user transaction, and may be aborted as it asked.
use Rattle.std.proofs.Common.{◌≡◌, ℕ, Bool, true, ◌+◌, [], ◌∷◌, length, refl, sym, ap, ◌∙◌, subst, append-nil}
use Rattle.std.specs.Prelude.{Option, None, Some, MatchOption, IsTrue, if◌then◌else◌, is_some, Result, Ok, Err, OnOk}
use Rattle.qc_names.specs.Name as name
use Rattle.qc_event.specs.declared.event.Cause.TheVariants as cause
use Rattle.qc_event.specs.declared.event.Event.{Event}
use Rattle.qc_event.specs.declared.event.Event.TheVariants as event
use Rattle.qc_event.specs.declared.event.Kind.{Kind}
use Rattle.qc_event.specs.declared.event.Kind.TheVariants as kind
use Rattle.qc_event.specs.Aborts.{Licensed}
use Rattle.qc_event.specs.Base.{Setting}
use Rattle.qc_event.specs.History.{Past, Name, Begun, start, children, is_ready}
use Rattle.qc_event.specs.Legal.{Legal}
use Rattle.qc_event.specs.Seats.{top_name}
use Rattle.qc_event.specs.Standing.{Started, IsUser}
use Rattle.qc_event.proofs.LastNumber.{is_ancestor-append}
use Rattle.qc_event.proofs.Absent.{same_itself}
use Rattle.qc_event.proofs.Lawful.{started_some}
use Rattle.qc_event.proofs.OneEntry.{here_some, start_is}
use Rattle.qc_desk.specs.declared.refusal.DeskNo.{DeskNo}
use Rattle.qc_desk.specs.declared.view.View.{View}
use Rattle.qc_desk.specs.Calling.{Entered, EnteredAs}
use Rattle.qc_desk.specs.Entries.{IsOlder, entry}
use Rattle.qc_desk.specs.Refusing.{against_nothing}

abbrev pub IsTop : ℕ → ℕ → ℕ → Name → Past → Event → Type 0
IsTop epoch session body n past ev = (n ≡ top_name epoch (length (children past []) + 1)) × (ev ≡ event.Start n (kind.User session body))

itself : (n : Name) → IsTrue (name.is_ancestor n n)
itself n = ap (name.is_ancestor n) (sym (append-nil n)) ∙ is_ancestor-append n []

begun : (setting : Setting) (epoch seat session body : ℕ) (past : Past) (n : Name) → n ≡ top_name epoch (length (children past []) + 1) → Legal setting (entry seat (event.Start n (kind.User session body)) ∷ past)
    → start (entry seat (event.Start n (kind.User session body)) ∷ past) n ≡ Some (record { seat = seat; kind = kind.User session body })
begun setting epoch seat session body past n named legal =
    subst (λ m. Legal setting (entry seat (event.Start m (kind.User session body)) ∷ past) → start (entry seat (event.Start m (kind.User session body)) ∷ past) m ≡ Some (record { seat = seat; kind = kind.User session body })) (sym named) by_top legal
  where
    by_top : Legal setting (entry seat (event.Start (top_name epoch (length (children past []) + 1)) (kind.User session body)) ∷ past) → start (entry seat (event.Start (top_name epoch (length (children past []) + 1)) (kind.User session body)) ∷ past) (top_name epoch (length (children past []) + 1)) ≡ Some (record { seat = seat; kind = kind.User session body })
    by_top (was, may) = start_is (entry seat (event.Start (top_name epoch (length (children past []) + 1)) (kind.User session body))) past (top_name epoch (length (children past []) + 1)) (kind.User session body) may.fresh refl

-- the start of a top stands once it was entered
pub top_started : (setting : Setting) (epoch session body : ℕ) (v w : View) (n : Name) → EnteredAs against_nothing (IsTop epoch session body n) v w → Legal setting w.seen → start w.seen n ≡ Some (record { seat = v.number; kind = kind.User session body })
top_started setting epoch session body v w n (before, ev, (named, is), since, none, same) legal =
    let seen : w.seen ≡ entry v.number (event.Start n (kind.User session body)) ∷ before = ap (λ (x : View). x.seen) same ∙ ap (λ e. entry v.number e ∷ before) is in
    ap (λ p. start p n) seen ∙ begun setting epoch v.number session body before n named (subst (Legal setting) seen legal)

-- and is that of a user transaction
pub top_begun : (setting : Setting) (epoch session body : ℕ) (v w : View) (n : Name) → EnteredAs against_nothing (IsTop epoch session body n) v w → Legal setting w.seen → Started w.seen n (λ b. IsUser b.kind)
top_begun setting epoch session body v w n entered legal = subst (λ o. MatchOption o ⊥ (λ (b : Begun). IsUser b.kind)) (sym (top_started setting epoch session body v w n entered legal)) tt

-- a user transaction may be aborted as it asked
pub may_ask_abort : (setting : Setting) (past : Past) (seat : ℕ) (n : Name) → Started past n (λ b. IsUser b.kind) → Started past n (λ b. Licensed setting past seat n b b.kind (cause.Asked n))
may_ask_abort setting past seat n user = by_start (start past n) user
  where
    by_kind : (b : Begun) (k : Kind) → IsUser k → Licensed setting past seat n b k (cause.Asked n)
    by_kind b (kind.User session body) is = (user, itself n)
    by_kind b (kind.Read rec) is = absurd is
    by_kind b (kind.Write rec value) is = absurd is
    by_kind b (kind.Reconf rec config) is = absurd is
    by_kind b kind.Access is = absurd is

    by_start : (o : Option Begun) → MatchOption o ⊥ (λ b. IsUser b.kind) → MatchOption o ⊥ (λ b. Licensed setting past seat n b b.kind (cause.Asked n))
    by_start None is = is
    by_start (Some b) is = by_kind b b.kind is

-- READY TOPS

-- a top that has just started may be made ready
pub may_be_ready : (setting : Setting) (epoch session body : ℕ) (v w : View) (n : Name) → EnteredAs against_nothing (IsTop epoch session body n) v w → Legal setting w.seen → (length n ≡ 1) × (is_some (start w.seen n) ≡ true)
may_be_ready setting epoch session body v w n (before, ev, (named, is), since, none, same) legal = (ap length named, started_some (λ b. IsUser b.kind) (start w.seen n) (top_begun setting epoch session body v w n (before, ev, (named, is), since, none, same) legal))

-- and is ready once it was
pub is_ready_now : (against : Past → Option DeskNo) (v w : View) (n : Name) → Entered against (event.Ready n) v w → IsTrue (is_ready w.seen n)
is_ready_now against v w n (before, since, none, same) =
    ap (λ (x : View). is_ready x.seen n) same ∙ here_some _ _ (ap (λ (b : Bool). is_some {T = Unit {0}} (if b then Some tt else None)) (same_itself n))

-- WHAT A CALL HAS SEEN

-- what was seen is a beginning of what is seen once an event was entered
pub entered_later : (against : Past → Option DeskNo) (event : Event) (v w : View) → Entered against event v w → IsOlder v.seen w.seen
entered_later against event v w (before, since, none, same) = (entry v.number event ∷ since.0, ap (λ (x : View). x.seen) same ∙ ap (λ p. entry v.number event ∷ p) since.1)

pub entered_as_later : (against : Past → Option DeskNo) (IsIt : Past → Event → Type 0) (v w : View) → EnteredAs against IsIt v w → IsOlder v.seen w.seen
entered_as_later against IsIt v w (before, event, it, since, none, same) = entered_later against event v w (before, since, none, same)

pub on_ok : {T E : Type 0} (r : Result T E) (P Q : Type 0) → (P → Q) → OnOk r P → OnOk r Q
on_ok (Ok x) P Q h p = h p
on_ok (Err e) P Q h p = p
