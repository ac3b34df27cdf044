-- What is kept beside a history.
use Rattle.qc_event.specs.Base.{Setting}
use Rattle.qc_event.specs.declared.event.Entry.{Entry}
use Rattle.qc_event.specs.History.{Past}
use Rattle.qc_event.specs.Legal.{Legal}
use Rattle.qc_history.specs.Index.{Shape, IsOf}
use Rattle.qc_history.specs.declared.indexes.Indexes.{Indexes}
use Rattle.qc_history.specs.Aborts.{AreAborts, HaveRoomFor}
use Rattle.qc_history.specs.Firsts.{AreFirsts}
use Rattle.qc_history.specs.Grants.{AreGrants, HasSpare, granted_name}
use Rattle.qc_history.specs.Marks.{AreMarks}
use Rattle.qc_history.specs.Opens.{AreOpen}
use Rattle.qc_history.specs.Refusals.{refused_name}
use Rattle.qc_history.specs.Slots.{Reaches}

-- Each is that of a history.
pub record AreIndexes (past : Past) (indexes : Indexes) : Type 0 where
  pub opens : AreOpen indexes.opens past
  pub refusals : AreFirsts refused_name indexes.refusals past
  pub first_grants : AreFirsts granted_name indexes.first_grants past
  pub marks : AreMarks indexes.marks past
  pub aborts : AreAborts indexes.aborts past
  pub grants : AreGrants indexes.grants past

-- what is kept is kept of a history
abbrev pub AreOf : Indexes → Past → Type 0
AreOf indexes past = AreIndexes past indexes

-- There is room for an entry that may come next.
pub record IndexesHaveRoom (e : Entry) (past : Past) (indexes : Indexes) : Type 0 where
  pub refusals : Reaches past (refused_name e.event) indexes.refusals.after.items
  pub first_grants : Reaches past (granted_name e.event) indexes.first_grants.after.items
  pub aborts : HaveRoomFor e past indexes.aborts.last.items indexes.aborts.before.items
  pub grants : HasSpare e.event indexes.grants.copies.items

-- what is kept is kept of a history, and has room for the entry
abbrev pub AreReady : Indexes → Entry → Past → Type 0
AreReady indexes e past = AreOf indexes past × IndexesHaveRoom e past indexes

-- a fact holds of a legal history, where this is kept beside it and its names are indexed
abbrev pub OfEntries : Indexes → Shape → Past → (Past → Type 0) → Type 0
OfEntries indexes names past fact = (setting : Setting) → AreOf indexes past → IsOf names past → Legal setting past → fact past

-- this is kept beside a legal history whose names are indexed
abbrev pub AreKept : Indexes → Shape → Past → Type 0
AreKept indexes names past = (setting : Setting) × AreOf indexes past × IsOf names past × Legal setting past
