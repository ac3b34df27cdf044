-- What a copy asks the desk of a request, and what it is told.
use Rattle.std.specs.Prelude.{◌≡◌, Option, None, Some, option_and_then}
use Rattle.std.specs.Option.{option_map}
use Rattle.qc_config.specs.declared.tuple.Tuple.{Tuple}
use Rattle.qc_event.specs.Base.{Setting}
use Rattle.qc_event.specs.Dead.{dead}
use Rattle.qc_event.specs.declared.event.Ask.{Ask}
use Rattle.qc_event.specs.declared.event.Event.{Event}
use Rattle.qc_event.specs.declared.event.Event.TheVariants as event
use Rattle.qc_event.specs.declared.event.Refusal.{Refusal}
use Rattle.qc_event.specs.declared.event.Refusal.TheVariants as refusal
use Rattle.qc_event.specs.Grants.{IsServed, IsRefusal, MayGrant, grant_with}
use Rattle.qc_event.specs.History.{Past, Asked, asked, granted}
use Rattle.qc_event.specs.Seats.{copy_seat}
use Rattle.qc_moss.specs.declared.consulting.Verdict.{Verdict}
use Rattle.qc_moss.specs.declared.consulting.Verdict.TheVariants as verdict
use Rattle.qc_history.specs.Grants.{tuple_at}
use Rattle.qc_desk.specs.declared.consult.Consulted.{Consulted}
use Rattle.qc_desk.specs.declared.consult.Consulted.TheVariants as consulted
use Rattle.qc_desk.specs.declared.view.View.{View}
use Rattle.qc_desk.specs.Calling.{Looked, EnteredAs}
use Rattle.qc_desk.specs.Refusing.{against_nothing}

-- this request stands in the history
abbrev pub HasAsked : Past → Ask → Type 0
HasAsked past ask = option_map (λ (a : Asked). a.ask) (asked past ask.access) ≡ Some ask

-- A request is free: its access lives, no grant is in its way, and it may be granted with this tuple, unless it was
-- granted before.
pub record IsFree (setting : Setting) (past : Past) (ask : Ask) (tuple : Tuple) : Type 0 where
  pub alive : dead past ask.access ≡ None
  pub served : IsServed setting past ask.copy (grant_with ask tuple)
  pub may : granted past ask.access ≡ None → MayGrant setting past (copy_seat ask.copy) ask.copy (grant_with ask tuple)

-- the event refuses the request, for a reason that stands
abbrev pub AskIsRefused : Ask → Refusal → Past → Event → Type 0
AskIsRefused ask r past ev = IsRefusal past ask r × (ev ≡ event.Refused ask.access ask.copy r)

-- what a verdict makes of a copy's pass: a free request enters nothing, and a refusal is entered
abbrev pub IsJudged : Setting → Ask → View → View → Verdict → Type 0
IsJudged setting ask v w (verdict.Free tuple) = Looked v w × IsFree setting w.seen ask tuple
IsJudged setting ask v w (verdict.Blocked holder) = EnteredAs against_nothing (AskIsRefused ask (refusal.Blocked holder)) v w
IsJudged setting ask v w (verdict.Dead ancestor) = EnteredAs against_nothing (AskIsRefused ask (refusal.Dead ancestor)) v w

-- the tuple that the copy of a request granted it first
abbrev pub granted_before : Past → Ask → Option Tuple
granted_before past ask = option_and_then (tuple_at ask.copy) (granted past ask.access)

-- what a consultation makes of a copy's pass: a repeat is told what it was granted, and enters nothing
abbrev pub IsTold : Setting → Ask → View → View → Consulted → Type 0
IsTold setting ask v w (consulted.Again tuple) = Looked v w × (granted_before w.seen ask ≡ Some tuple)
IsTold setting ask v w (consulted.Fresh said) = (granted_before w.seen ask ≡ None) × IsJudged setting ask v w said

-- the refusal that a verdict is
abbrev pub refusal_of : Verdict → Option Refusal
refusal_of (verdict.Free tuple) = None
refusal_of (verdict.Blocked holder) = Some (refusal.Blocked holder)
refusal_of (verdict.Dead ancestor) = Some (refusal.Dead ancestor)
