-- What has an index.
use Rattle.std.specs.Prelude.{◌∷◌}
use Rattle.qc_event.specs.declared.event.Entry.{Entry}
use Rattle.qc_event.specs.Base.{IsProper, Setting}
use Rattle.qc_event.specs.History.{Past}
use Rattle.qc_event.specs.Legal.{Legal}
use Rattle.qc_looks.specs.Asks.{AreAsks}
use Rattle.qc_looks.specs.Requests.{AreRequests}
use Rattle.qc_looks.specs.Tables.{AreTables}
use Rattle.qc_looks.specs.declared.asks.Asks.{Asks}
use Rattle.qc_looks.specs.declared.requests.Requests.{Requests}
use Rattle.qc_looks.specs.declared.tables.Tables.{Tables}

-- A history, and the setting from which it is legal.
pub record Known : Type 0 where
  pub setting : Setting
  pub past : Past

-- All is kept beside a legal history from a proper setting.
pub record AreKept (setting : Setting) (past : Past) (requests : Requests) (asks : Asks) (tables : Tables) : Type 0 where
  pub proper : IsProper setting
  pub legal : Legal setting past
  pub requests_are : AreRequests requests past
  pub asks_are : AreAsks asks past
  pub tables_are : AreTables setting.base tables past

-- the entry may follow a history beside which all is kept
abbrev pub CanFollow : Past → Requests → Asks → Tables → Entry → Type 0
CanFollow past requests asks tables e = (setting : Setting) × AreKept setting past requests asks tables × Legal setting (e ∷ past)
