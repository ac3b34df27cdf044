-- What disks keep of a history.
use Rattle.std.specs.Prelude.{ℕ, List, ◌++◌, All, map, Option, IfSome, option_to_list}
use Rattle.qc_codec.specs.Bodies as body
use Rattle.qc_codec.specs.Fields.{current}
use Rattle.qc_event.specs.declared.event.Grant.{Grant}
use Rattle.qc_event.specs.Base.{Setting}
use Rattle.qc_event.specs.Grants.{MayGrant}
use Rattle.qc_event.specs.History.{Past, Name, grants}
use Rattle.qc_event.specs.Listed.{listed}
use Rattle.qc_event.specs.Seats.{copy_seat, ledger_seat}
use Rattle.qc_journal.specs.Image.{HasRecords}
use Rattle.qc_ledger.specs.Entered.{told_body, tops_of}
use Rattle.qc_ledger.specs.Since.{IsNext, OrMore}
use Rattle.qc_desk.specs.Entries.{entries_of}
use Rattle.qc_site.specs.Back.{grant_body}

-- Each image of a copy's disk has the records from before, then one for each of the copy's grants in the history, and
-- maybe one more, of a grant that may be made next.
pub record KeepsGrants (setting : Setting) (copies copy : ℕ) (before : List (List ℕ)) (left : List ℕ → Type 0) (past : Past) : Type 0 where
  pub untold : Option Grant
  pub may : IfSome untold (MayGrant setting past (copy_seat copy) copy)
  pub fit : All (body.grant (current copies)).fits (grants past copy ++ option_to_list untold)
  pub each : (image : List ℕ) → left image → (given : List Grant) × OrMore (grants past copy) untold given × HasRecords (before ++ map (grant_body copies) given) image

-- Each image of the ledger's disk has the records from before, then one for each top that the ledger committed, with the
-- names that are listed of it, and maybe one more, of a top that may be committed next.
pub record KeepsTops (before : List (List ℕ)) (left : List ℕ → Type 0) (past : Past) : Type 0 where
  pub untold : Option Name
  pub next : IfSome untold (IsNext past)
  pub each : (image : List ℕ) → left image → (tops : List Name) × OrMore (tops_of (entries_of ledger_seat past)) untold tops
      × HasRecords (before ++ map (told_body (listed past)) tops) image
