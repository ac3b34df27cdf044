-- What a copy's disk keeps of its grants.
use Rattle.std.specs.Prelude.{ℕ, ◌≡◌, ◌⊎◌, List, [], ◌++◌, length, map, option_to_list, All, Option, None}
use Rattle.std.specs.Option.{option_map}
use Rattle.qc_codec.specs.Bodies as body
use Rattle.qc_codec.specs.Fields.{current}
use Rattle.qc_disk.specs.declared.disk.Disk.{Ghosts}
use Rattle.qc_event.specs.declared.event.Grant.{Grant}
use Rattle.qc_journal.specs.Journal.{in_hand, IsDown, IsUp, Keeps}
use Rattle.qc_journal.specs.declared.fault.Fault.{Fault}
use Rattle.qc_journal.specs.declared.fault.Fault.TheVariants as fault
use Rattle.qc_journal.specs.declared.journal.Journal.{Journal}
use Rattle.qc_site.specs.Back.{grant_body}
use Rattle.qc_site.specs.declared.log.GrantLog.{GrantLog}

module _ {D : Type 0} {g : Ghosts D} where
  -- the journal
  abbrev pub log_journal : GrantLog D g → Journal D g
  log_journal log = log.journal

  -- for how many copies it is
  abbrev pub copies_of : GrantLog D g → ℕ
  copies_of log = log.copies

  -- how many records are from before this run
  abbrev pub earlier_in : GrantLog D g → ℕ
  earlier_in log = log.earlier

  -- The disk tells its bytes. Each image has records from before, then one for each of these grants, and maybe one for
  -- the grant in hand: that stands where it is up.
  pub record IsOver (before : List (List ℕ)) (log : GrantLog D g) (given : List Grant) (hand : Option Grant) : Type 0 where
    pub rest : List Grant
    pub is_hand : (rest ≡ []) ⊎ (rest ≡ option_to_list hand)
    pub up : IsUp log.journal → rest ≡ option_to_list hand
    pub keeps : Keeps log.journal (before ++ map (grant_body log.copies) (given ++ rest))
    pub in_journal : (in_hand log.journal ≡ None) ⊎ ((in_hand log.journal ≡ option_map (grant_body log.copies) hand) × (rest ≡ []))
    pub size : log.earlier ≡ length before
    pub fits : All (body.grant (current log.copies)).fits (given ++ option_to_list hand)

  -- what a refused writing leaves: a fault of the disk takes it down; one for room leaves it up, as it was
  abbrev pub WriteLeaves : GrantLog D g → GrantLog D g → Fault → Type 0
  WriteLeaves old new fault.Disk = IsDown new.journal
  WriteLeaves old new (fault.Broken place) = ⊥
  WriteLeaves old new (fault.Full place) = new.journal ≡ old.journal
  WriteLeaves old new fault.Memory = (new.journal ≡ old.journal) ⊎ IsDown new.journal
