-- What is kept of requests beside a history.
use Rattle.qc_event.specs.declared.event.Entry.{Entry}
use Rattle.qc_event.specs.declared.event.Why.TheVariants.{Down, Full, Strange}
use Rattle.qc_event.specs.Base.{Setting}
use Rattle.qc_event.specs.History.{Past}
use Rattle.qc_event.specs.Legal.{Legal}
use Rattle.qc_history.specs.Firsts.{AreFirsts}
use Rattle.qc_history.specs.Grants.{granted_name}
use Rattle.qc_history.specs.Index.{Shape, IsOf}
use Rattle.qc_history.specs.Slots.{Reaches}
use Rattle.qc_looks.specs.declared.requests.Requests.{Requests}
use Rattle.qc_looks.specs.Subjects.{asked_name, gone_name, unable_name}

-- The first entries about names are those of a history.
pub record AreRequestsOf (past : Past) (kept : Requests) : Type 0 where
  pub asked : AreFirsts asked_name kept.asked past
  pub gone : AreFirsts gone_name kept.gone past
  pub granted : AreFirsts granted_name kept.granted past
  pub down : AreFirsts (unable_name Down) kept.down past
  pub full : AreFirsts (unable_name Full) kept.full past
  pub strange : AreFirsts (unable_name Strange) kept.strange past

abbrev pub AreRequests : Requests → Past → Type 0
AreRequests kept past = AreRequestsOf past kept

-- There is room for an entry that may come next.
pub record RequestsHaveRoom (e : Entry) (past : Past) (kept : Requests) : Type 0 where
  pub asked : Reaches past (asked_name e.event) kept.asked.after.items
  pub gone : Reaches past (gone_name e.event) kept.gone.after.items
  pub granted : Reaches past (granted_name e.event) kept.granted.after.items
  pub down : Reaches past (unable_name Down e.event) kept.down.after.items
  pub full : Reaches past (unable_name Full e.event) kept.full.after.items
  pub strange : Reaches past (unable_name Strange e.event) kept.strange.after.items

-- a fact holds of a legal history, where this is kept beside it and its names are indexed
abbrev pub OfEntries : Requests → Shape → Past → (Past → Type 0) → Type 0
OfEntries kept names past fact = (setting : Setting) → AreRequests kept past → IsOf names past → Legal setting past → fact past
