-- What a call of a site leaves of it, and what its answers and its refusals say.
use Rattle.std.specs.Prelude.{ℕ, ◌≡◌, ◌⊎◌, Bool, true, false, List, length, Option, None, Some, is_some}
use Rattle.qc_config.specs.declared.tuple.Tuple.{Tuple}
use Rattle.qc_event.specs.Grants.{grant_with}
use Rattle.qc_disk.specs.declared.disk.Disk.{Ghosts}
use Rattle.qc_event.specs.declared.event.Answered.{Answered}
use Rattle.qc_event.specs.declared.event.Answered.TheVariants as answer
use Rattle.qc_event.specs.declared.event.Ask.{Ask}
use Rattle.qc_event.specs.Base.{Setting}
use Rattle.qc_event.specs.Wants.{IsWant}
use Rattle.qc_journal.specs.Journal.{disk_of, limit_of}
use Rattle.qc_ledger.specs.Runs.{Falls, Leaves, LosesNone}
use Rattle.qc_ledger.specs.Shelf.{EndsWithin}
use Rattle.qc_desk.specs.declared.store.Store.{Ghosts as Desk}
use Rattle.qc_desk.specs.declared.view.View.{View}
use Rattle.qc_desk.specs.Entries.{IsOlder}
use Rattle.qc_desk.specs.Answers.{IsGranted}
use Rattle.qc_site.specs.Back.{grant_body}
use Rattle.qc_site.specs.Log.{log_journal}
use Rattle.qc_site.specs.Replica.{Standing}
use Rattle.qc_site.specs.Since.{GrantsGrow}
use Rattle.qc_site.specs.Sites.{AnswerEnters, GrowsByGrant, IsTooLongFor, KeepsGranted}
use Rattle.qc_site.specs.declared.fault.SiteNo.{SiteNo}
use Rattle.qc_site.specs.declared.fault.SiteNo.TheVariants as no_site
use Rattle.qc_site.specs.declared.log.GrantLog.{GrantLog}
use Rattle.qc_site.specs.declared.serve.ServeNo.{ServeNo}
use Rattle.qc_site.specs.declared.serve.ServeNo.TheVariants as no_serve
use Rattle.qc_site.specs.declared.site.Site.{Site}

-- A site as a call finds it or leaves it: its journal of grants, its copy at the desk, and whether it is strange.
pub record SiteState {D : Type 0} (g : Ghosts D) : Type 0 where
  pub log : GrantLog D g
  pub replica : Standing
  pub strange : Bool

abbrev pub site_state : {D N : Type 0} {C : ℕ} {g : Ghosts D} {h : Desk N} → Site D N C g h → SiteState g
site_state site = record { log = site.log; replica = site.replica; strange = is_some site.strange }

-- as it was with nothing in hand
abbrev pub empty_handed : {D : Type 0} {g : Ghosts D} → SiteState g → SiteState g
empty_handed site = record site { replica = record site.replica { hand = None } }

-- WHAT IT LEAVES

module _ (setting : Setting) (copy : ℕ) {D : Type 0} {g : Ghosts D} where
  -- A crash at any moment of a call leaves an image from before it, or the records of one and behind them that of a grant of
  -- what was asked.
  abbrev pub GrantMoments : Option Ask → GrantLog D g → GrantLog D g → Type 0
  GrantMoments None old new = Leaves (log_journal old) (log_journal new) (g.view (disk_of (log_journal old))).may_leave
  GrantMoments (Some ask) old new = GrowsByGrant (length setting.base) ask (log_journal old) (log_journal new)

  -- What a call leaves, which writes a grant of what was asked, or nothing. Where the disk tells its bytes, each image goes on
  -- to keep what the copy granted and at most the grant in hand, none loses a record, and nothing turns strange. Since a
  -- moment each had the records from before it, and behind them those of grants up to now.
  pub record SiteBecame (asked : Option Ask) (old new : SiteState g) : Type 0 where
    pub kept : (before : List (List ℕ)) → KeepsGranted copy before old.log old.replica → KeepsGranted copy before new.log new.replica
    pub plain : (before : List (List ℕ)) → KeepsGranted copy before old.log old.replica → new.strange ≡ old.strange
    pub moments : (before : List (List ℕ)) → KeepsGranted copy before old.log old.replica → GrantMoments asked old.log new.log
    pub grows : (before : List (List ℕ)) → KeepsGranted copy before old.log old.replica → LosesNone (log_journal old.log) (log_journal new.log)
    pub grown : (before : List (List ℕ)) (since : ℕ) → KeepsGranted copy before old.log old.replica
        → GrantsGrow setting copy before since old.log old.replica.pass.seen → GrantsGrow setting copy before since new.log new.replica.pass.seen
    pub seen : IsOlder old.replica.pass.seen new.replica.pass.seen
    pub limit : limit_of (log_journal new.log) ≡ limit_of (log_journal old.log)

  -- Whatever the disk tells, nothing was written: it goes on to tell what it told, and of what a crash may leave some falls
  -- away.
  pub record SiteWroteNone (old new : SiteState g) : Type 0 where
    pub content : (g.view (disk_of (log_journal new.log))).content ≡ (g.view (disk_of (log_journal old.log))).content
    pub moments : GrantMoments None old.log new.log
    pub falls : Falls (log_journal old.log) (log_journal new.log)
    pub grown : (before : List (List ℕ)) (since : ℕ)
        → GrantsGrow setting copy before since old.log old.replica.pass.seen → GrantsGrow setting copy before since new.log new.replica.pass.seen

-- WHAT IT SAYS

-- that a request was not answered by the desk, of a call that wrote nothing
abbrev pub IsUnwrittenNo : ServeNo → Type 0
IsUnwrittenNo no_serve.Full = Unit {0}
IsUnwrittenNo no_serve.Strange = Unit {0}
IsUnwrittenNo _ = ⊥

-- A request can be served: the copy is up, with nothing in hand.
pub record CanServe (standing : Standing) : Type 0 where
  pub up : standing.up ≡ true
  pub none : standing.hand ≡ None

module _ {D : Type 0} {g : Ghosts D} where
  -- what a refused revival says
  abbrev pub ReviveSays : SiteState g → SiteNo → Type 0
  ReviveSays new no_site.Disk = new.replica.up ≡ false
  ReviveSays new (no_site.Image bad) = ⊥
  ReviveSays new no_site.Strange = new.strange ≡ true
  ReviveSays new (no_site.Short short) = IsWant new.replica.pass.seen short

  -- what it says that a request was not answered by the desk: that the copy is down, that it is full and can serve others, or
  -- that it is strange
  abbrev pub ServeSays : SiteState g → ServeNo → Type 0
  ServeSays new no_serve.Down = new.replica.up ≡ false
  ServeSays new no_serve.Full = CanServe new.replica
  ServeSays new no_serve.Strange = new.strange ≡ true
  ServeSays new (no_serve.Short short) = IsWant new.replica.pass.seen short

  -- what an answer rests on, beside its entry
  abbrev pub AnswerRests : ℕ → Ask → SiteState g → Answered → Type 0
  AnswerRests copy ask new (answer.Granted tuple) = CanServe new.replica × IsGranted copy new.replica.pass.seen (grant_with ask tuple)
  AnswerRests copy ask new (answer.Blocked holder) = CanServe new.replica
  AnswerRests copy ask new (answer.Dead ancestor) = CanServe new.replica
  AnswerRests copy ask new answer.Down = new.replica.up ≡ false
  AnswerRests copy ask new answer.Full = CanServe new.replica
  AnswerRests copy ask new answer.Strange = new.strange ≡ true

  -- what is granted is entered only where its record would not pass the limit
  abbrev pub FitsOrRepeats : Ask → SiteState g → SiteState g → Tuple → Type 0
  FitsOrRepeats ask old new tuple = (new.replica.pass.mine ≡ old.replica.pass.mine) ⊎ (IsTooLongFor old.log ask tuple → ⊥)

  -- the record of a grant of this request ends where the next one would begin, within the limit
  abbrev pub HasEnded : Ask → SiteState g → Tuple → Type 0
  HasEnded ask new tuple = EndsWithin (log_journal new.log) (grant_body new.log.copies (grant_with ask tuple))

  -- A request was answered: at most the grant in hand was entered, and then the answer's entry; and the seer has seen what it
  -- rests on.
  pub record HasServed (copy : ℕ) (ask : Ask) (seer : View) (old new : SiteState g) (said : Answered) : Type 0 where
    pub enters : AnswerEnters copy ask said old.replica new.replica
    pub rests : AnswerRests copy ask new said
    pub shown : seer.seen ≡ new.replica.pass.seen
