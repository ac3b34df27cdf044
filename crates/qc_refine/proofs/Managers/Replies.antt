-- A reply is told by the end of its access alone, and stands once it is there.
use Rattle.std.proofs.Common.{◌≡◌, false, ◌∷◌, refl, sym, ap, ◌∙◌, inl, inr, ◌⊎◌}
use Rattle.std.specs.Prelude.{Option, None, Some, is_none}
use Rattle.std.specs.Option.{option_or, option_map}
use Rattle.qc_config.specs.declared.tuple.Tuple.{Tuple}
use Rattle.qc_event.specs.declared.event.Answer.TheVariants as answer
use Rattle.qc_event.specs.declared.event.Ask.{Ask}
use Rattle.qc_event.specs.declared.event.Entry.{Entry}
use Rattle.qc_event.specs.declared.event.Event.{Event}
use Rattle.qc_event.specs.declared.event.Event.TheVariants as event
use Rattle.qc_event.specs.declared.event.How.{How}
use Rattle.qc_event.specs.declared.event.How.TheVariants.{Commit, Abort}
use Rattle.qc_event.specs.declared.event.Refusal.{Refusal}
use Rattle.qc_event.specs.declared.event.Refusal.TheVariants.{Blocked, Dead}
use Rattle.qc_event.specs.declared.event.Why.{Why}
use Rattle.qc_event.specs.History.{Past, Name, Given, end, end_in, gone, refused}
use Rattle.qc_event.specs.Manager.{result_by, reply_of, reply}
use Rattle.qc_event.proofs.OneEntry.{ending}

-- the tuple of an end that is a reply
abbrev pub reply_by : Option How → Option Tuple
reply_by (Some (Commit (answer.Reply tuple))) = Some tuple
reply_by _ = None

by_end : (how : Option How) (why : Option Why) (refusal : Option Refusal) → reply_of (result_by how why refusal) ≡ reply_by how
by_end None why refusal = refl
by_end (Some (Commit answer.Nothing)) why refusal = refl
by_end (Some (Commit (answer.Value value))) why refusal = refl
by_end (Some (Commit (answer.Generation generation))) why refusal = refl
by_end (Some (Commit (answer.Reply tuple))) why refusal = refl
by_end (Some (Abort cause)) (Some why) refusal = refl
by_end (Some (Abort cause)) None None = refl
by_end (Some (Abort cause)) None (Some (Blocked holder)) = refl
by_end (Some (Abort cause)) None (Some (Dead a)) = refl

pub reply_is : (past : Past) (n : Name) → reply past n ≡ reply_by (end past n)
reply_is past n = by_end (end past n) (gone past n) (refused past n)

-- what an open access replies: nothing
pub open_silent : (past : Past) (n : Name) → end past n ≡ None → reply past n ≡ None
open_silent past n going = reply_is past n ∙ ap reply_by going

-- the entry commits the access with a reply
abbrev pub Replying : Name → Event → Type 0
Replying n ev = (t : Tuple) × (ev ≡ event.End n (Commit (answer.Reply t)))

-- a reply that is there stays as it is, and a new one is the entry's
pub reply_step : (e : Entry) (past : Past) (n : Name) → (reply (e ∷ past) n ≡ reply past n) ⊎ ((end past n ≡ None) × Replying n e.event)
reply_step e past n = by_old (end past n) (end_in n e.event) refl refl
  where
    as_before : reply_by (end (e ∷ past) n) ≡ reply_by (end past n) → reply (e ∷ past) n ≡ reply past n
    as_before is = reply_is (e ∷ past) n ∙ is ∙ sym (reply_is past n)

    unchanged : (old new : Option How) → end past n ≡ old → end_in n e.event ≡ new → reply_by (option_or old new) ≡ reply_by old → reply (e ∷ past) n ≡ reply past n
    unchanged old new was now is = as_before (ap (λ o. reply_by (option_or o (end_in n e.event))) was ∙ ap (λ o. reply_by (option_or old o)) now ∙ is ∙ sym (ap reply_by was))

    by_new : (new : Option How) → end past n ≡ None → end_in n e.event ≡ new → (reply (e ∷ past) n ≡ reply past n) ⊎ ((end past n ≡ None) × Replying n e.event)
    by_new None was now = inl (unchanged None None was now refl)
    by_new (Some (Abort cause)) was now = inl (unchanged None (Some (Abort cause)) was now refl)
    by_new (Some (Commit answer.Nothing)) was now = inl (unchanged None (Some (Commit answer.Nothing)) was now refl)
    by_new (Some (Commit (answer.Value value))) was now = inl (unchanged None (Some (Commit (answer.Value value))) was now refl)
    by_new (Some (Commit (answer.Generation generation))) was now = inl (unchanged None (Some (Commit (answer.Generation generation))) was now refl)
    by_new (Some (Commit (answer.Reply tuple))) was now = inr (was, (tuple, ending n e.event (Commit (answer.Reply tuple)) now))

    by_old : (old new : Option How) → end past n ≡ old → end_in n e.event ≡ new → (reply (e ∷ past) n ≡ reply past n) ⊎ ((end past n ≡ None) × Replying n e.event)
    by_old None new was now = by_new new was now
    by_old (Some how) new was now = inl (unchanged (Some how) new was now refl)

-- the reply that the entry makes is there then
pub reply_now : (e : Entry) (past : Past) (n : Name) (t : Tuple) → end past n ≡ None → end_in n e.event ≡ Some (Commit (answer.Reply t)) → reply (e ∷ past) n ≡ Some t
reply_now e past n t was now = reply_is (e ∷ past) n ∙ ap (λ o. reply_by (option_or o (end_in n e.event))) was ∙ ap reply_by now

-- who has ended replies no more than it has
pub ended_still : (e : Entry) (past : Past) (n : Name) → is_none (end past n) ≡ false → reply (e ∷ past) n ≡ reply past n
ended_still e past n ended = elim (reply_step e past n) [
  | inl is ↦ is
  | inr new ↦ absurd (let open_then = ap is_none new.0 in cc)
]

-- the grant that a request tells with a reply
abbrev pub given_as : Ask → Tuple → Given
given_as ask t = record { copy = ask.copy; grant = record { access = ask.access; rec = ask.rec; op = ask.op; tuple = t } }

-- what a request was given, where it replied
abbrev pub given_for : Past → Ask → Option Given
given_for past ask = option_map (given_as ask) (reply past ask.access)
