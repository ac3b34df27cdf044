-- What a copy makes of its pass at its desk.
use Rattle.std.specs.Prelude.{ℕ, ◌≡◌, [], ◌∷◌, Option, None, Some}
use Rattle.qc_moss.specs.declared.consulting.Verdict.TheVariants as verdict
use Rattle.qc_event.specs.Grants.{grant_with}
use Rattle.qc_event.specs.declared.event.Ask.{Ask}
use Rattle.qc_event.specs.declared.event.Entry.{Entry}
use Rattle.qc_event.specs.declared.event.Event.TheVariants as event
use Rattle.qc_event.specs.declared.event.Grant.{Grant}
use Rattle.qc_event.specs.declared.event.Refusal.TheVariants as refusal
use Rattle.qc_event.specs.declared.event.Why.{Why}
use Rattle.qc_event.specs.Base.{Setting}
use Rattle.qc_event.specs.History.{Past, grants}
use Rattle.qc_event.specs.Seats.{copy_seat}
use Rattle.qc_desk.specs.declared.consult.Consulted.{Consulted}
use Rattle.qc_desk.specs.declared.consult.Consulted.TheVariants as consulted
use Rattle.qc_desk.specs.declared.view.View.{View}
use Rattle.qc_desk.specs.Answers.{refused_entry}
use Rattle.qc_desk.specs.Entries.{IsOlder, entries_of, entry}
use Rattle.qc_desk.specs.Known.{IsKnown}
use Rattle.qc_site.specs.Replica.{Standing}

-- what is in hand after a consultation: the grant of a free request
abbrev pub hand_after : Ask → Consulted → Option Grant
hand_after ask (consulted.Fresh (verdict.Free tuple)) = Some (grant_with ask tuple)
hand_after ask _ = None

module _ (copy : ℕ) where
  -- the entry of the grant in hand
  abbrev pub hand_entries : Option Grant → Past
  hand_entries None = []
  hand_entries (Some grant) = entry (copy_seat copy) (event.Granted copy grant) ∷ []

  -- that it was unable to serve it
  abbrev pub unable_entry : Ask → Why → Entry
  unable_entry ask why = entry (copy_seat copy) (event.Unable ask.access why)

  -- what a consultation enters: a refusal
  abbrev pub told_entries : Ask → Consulted → Past
  told_entries ask (consulted.Fresh (verdict.Blocked holder)) = refused_entry copy ask (refusal.Blocked holder) ∷ []
  told_entries ask (consulted.Fresh (verdict.Dead ancestor)) = refused_entry copy ask (refusal.Dead ancestor) ∷ []
  told_entries ask _ = []

  -- A copy has at most seen more, and entered nothing.
  pub record OnlyLooks (old new : Standing) : Type 0 where
    pub mine : new.pass.mine ≡ old.pass.mine
    pub same_grants : grants new.pass.seen copy ≡ grants old.pass.seen copy
    pub older : IsOlder old.pass.seen new.pass.seen

-- What a call leaves known: that the copy's own entries are those seen under its number, and what a pass knows of the seer.
pub record LeavesKnown (setting : Setting) (copy : ℕ) (pass seer : View) : Type 0 where
  pub own : pass.mine ≡ entries_of (copy_seat copy) pass.seen
  pub known : IsKnown setting seer
