-- What a serial machine that walks through a history comes to know of a name, by the name's kind and end.
use Rattle.std.proofs.Common.{◌≡◌, ℕ, true, false, ◌∷◌, refl, sym, ap, ◌∙◌}
use mathlib.Core.Bool.{true≢false}
use Rattle.std.specs.Prelude.{Option, None, Some, is_some, if◌then◌else◌}
use Rattle.std.specs.Option.{option_or, option_map}
use Rattle.qc_event.specs.declared.event.Answer.TheVariants as answer
use Rattle.qc_event.specs.declared.event.Entry.{Entry}
use Rattle.qc_event.specs.declared.event.Event.TheVariants as event
use Rattle.qc_event.specs.declared.event.How.{How}
use Rattle.qc_event.specs.declared.event.How.TheVariants.{Commit, Abort}
use Rattle.qc_event.specs.declared.event.Kind.{Kind}
use Rattle.qc_event.specs.declared.event.Kind.TheVariants as kind
use Rattle.qc_event.specs.History.{Past, Name, Begun, same, start, start_in, end, end_in, kind_of}
use Rattle.qc_event.proofs.Absent.{same_itself, if_not}
use Rattle.qc_event.proofs.Histories.{or_none}
use Rattle.qc_event.proofs.Options.{or_new}
use Rattle.qc_serial.proofs.Known.{Known}
use Rattle.qc_serial.proofs.Steps.{waiting}

abbrev pub nothing : Known
nothing = record { used = false; started = false; entered = false; closed = false }

abbrev pub stage_of : Option Kind → Option How → Known
stage_of (Some (kind.User session body)) None = waiting
stage_of (Some (kind.User session body)) (Some (Commit given)) = record { used = true; started = true; entered = true; closed = true }
stage_of (Some (kind.User session body)) (Some (Abort cause)) = record { used = true; started = true; entered = false; closed = true }
stage_of (Some (kind.Read rec)) (Some (Commit (answer.Value value))) = record { used = true; started = false; entered = false; closed = false }
stage_of (Some (kind.Write rec value)) (Some (Commit given)) = record { used = true; started = false; entered = false; closed = false }
stage_of _ _ = nothing

abbrev pub stage : Past → Name → Known
stage past x = stage_of (kind_of past x) (end past x)

-- a started user transaction that has ended has closed
ended_closed : (k : Option Kind) (how : Option How) → (stage_of k how).started ≡ true → is_some how ≡ true → (stage_of k how).closed ≡ true
ended_closed (Some (kind.User session body)) None h ended = absurd (true≢false (sym ended))
ended_closed (Some (kind.User session body)) (Some (Commit given)) h ended = refl
ended_closed (Some (kind.User session body)) (Some (Abort cause)) h ended = refl
ended_closed (Some (kind.Read rec)) (Some (Commit (answer.Value value))) h ended = absurd (true≢false (sym h))
ended_closed (Some (kind.Write rec value)) (Some (Commit given)) h ended = absurd (true≢false (sym h))
ended_closed _ _ h ended = absurd (true≢false (sym h))

pub stage_closed : (past : Past) (x : Name) → (stage past x).started ≡ true → is_some (end past x) ≡ true → (stage past x).closed ≡ true
stage_closed past x h ended = ended_closed (kind_of past x) (end past x) h ended

has_kind : (o : Option Begun) (how : Option How) → (stage_of (option_map (λ (b : Begun). b.kind) o) how).started ≡ true → is_some o ≡ true
has_kind None None h = absurd (true≢false (sym h))
has_kind None (Some how) h = absurd (true≢false (sym h))
has_kind (Some b) how h = refl

pub stage_started : (past : Past) (x : Name) → (stage past x).started ≡ true → is_some (start past x) ≡ true
stage_started past x h = has_kind (start past x) (end past x) h

-- ONE ENTRY MORE

abbrev kind_in : Option Begun → Option Kind
kind_in o = option_map (λ (b : Begun). b.kind) o

-- an entry that neither starts nor ends a name leaves its stage
pub same_stage : (e : Entry) (past : Past) (x : Name) → start_in x e.seat e.event ≡ None → end_in x e.event ≡ None → stage (e ∷ past) x ≡ stage past x
same_stage e past x no_start no_end =
    ap (λ o. stage_of (kind_in (option_or (start past x) o)) (end (e ∷ past) x)) no_start
    ∙ ap (λ o. stage_of (kind_in o) (end (e ∷ past) x)) (sym (or_none (start past x)))
    ∙ ap (λ o. stage_of (kind_of past x) (option_or (end past x) o)) no_end
    ∙ ap (stage_of (kind_of past x)) (sym (or_none (end past x)))

pub stage_unstarted : (past : Past) (x : Name) → start past x ≡ None → end past x ≡ None → stage past x ≡ nothing
stage_unstarted past x no_start no_end = ap (λ o. stage_of (kind_in o) (end past x)) no_start ∙ ap (stage_of None) no_end

pub stage_at_start : (past : Past) (seat : ℕ) (c : Name) (k : Kind) → start past c ≡ None → end past c ≡ None → stage (record { seat = seat; event = event.Start c k } ∷ past) c ≡ stage_of (Some k) None
stage_at_start past seat c k no_start no_end =
    ap (λ o. stage_of (kind_in (option_or o (start_in c seat (event.Start c k)))) (option_or (end past c) None)) no_start
    ∙ ap (λ b. stage_of (kind_in (if b then Some (record { seat = seat; kind = k }) else None)) (option_or (end past c) None)) (same_itself c)
    ∙ ap (λ o. stage_of (Some k) (option_or o None)) no_end

pub end_there : (past : Past) (seat : ℕ) (c : Name) (how : How) → end past c ≡ None → end (record { seat = seat; event = event.End c how } ∷ past) c ≡ Some how
end_there past seat c how going = or_new (end past c) (end_in c (event.End c how)) going ∙ ap (λ b. if b then Some how else None) (same_itself c)

-- and nothing else ends then
pub end_elsewhere : (past : Past) (seat : ℕ) (c x : Name) (how : How) → same c x ≡ false → end (record { seat = seat; event = event.End c how } ∷ past) x ≡ end past x
end_elsewhere past seat c x how other = ap (option_or (end past x)) (if_not (same c x) (Some how) other) ∙ sym (or_none (end past x))

pub stage_open : (past : Past) (c : Name) (o : Option Kind) → kind_of past c ≡ o → end past c ≡ None → stage past c ≡ stage_of o None
stage_open past c o is going = ap (λ k. stage_of k (end past c)) is ∙ ap (stage_of o) going

pub stage_at_end : (past : Past) (seat : ℕ) (c : Name) (how : How) (o : Option Kind) → kind_of past c ≡ o → end past c ≡ None → stage (record { seat = seat; event = event.End c how } ∷ past) c ≡ stage_of o (Some how)
stage_at_end past seat c how o is going =
    ap (λ h. stage_of (kind_in (option_or (start past c) None)) h) (end_there past seat c how going)
    ∙ ap (λ b. stage_of (kind_in b) (Some how)) (sym (or_none (start past c)))
    ∙ ap (λ k. stage_of k (Some how)) is
