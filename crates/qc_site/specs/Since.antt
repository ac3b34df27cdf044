-- What a crash might have left of a copy's disk at each moment since one.
use Rattle.std.specs.Prelude.{◌≡◌, ℕ, List, length, map, IfSome, Option}
use Rattle.qc_disk.specs.declared.disk.Disk.{Ghosts}
use Rattle.qc_event.specs.declared.event.Grant.{Grant}
use Rattle.qc_event.specs.Base.{Setting}
use Rattle.qc_event.specs.Grants.{MayGrant}
use Rattle.qc_event.specs.History.{Past, grants}
use Rattle.qc_event.specs.Seats.{copy_seat}
use Rattle.qc_journal.specs.Journal.{disk_of}
use Rattle.qc_ledger.specs.Since.{GrownSince, OrMore}
use Rattle.qc_desk.specs.Entries.{IsOlder}
use Rattle.qc_site.specs.Back.{grant_body}
use Rattle.qc_site.specs.Log.{log_journal}
use Rattle.qc_site.specs.declared.log.GrantLog.{GrantLog}

-- Bodies are those of what the copy had granted at some time up to now, in order, and maybe of one grant more, which could be made next then.
pub record AreGrantsBy (setting : Setting) (copy : ℕ) (past : Past) (bodies : List (List ℕ)) : Type 0 where
  pub earlier : Past
  pub older : IsOlder earlier past
  pub untold : Option Grant
  pub may : IfSome untold (MayGrant setting earlier (copy_seat copy) copy)
  pub given : List Grant
  pub these : OrMore (grants earlier copy) untold given
  pub are : bodies ≡ map (grant_body (length setting.base)) given

-- since a moment the copy's disk has the records from before it, and behind them those of grants up to now
abbrev pub GrantsGrow : {D : Type 0} {g : Ghosts D} → Setting → ℕ → List (List ℕ) → ℕ → GrantLog D g → Past → Type 0
GrantsGrow {D} {g} setting copy before since log past = GrownSince since before (AreGrantsBy setting copy past) (g.view (disk_of (log_journal log)))
