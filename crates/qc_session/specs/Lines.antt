-- What each call of a client leaves of its line.
use Rattle.std.specs.Prelude.{ℕ, ◌≡◌, IsTrue, Option, IfSome}
use Rattle.qc_carry.specs.Carried.{HasCarried}
use Rattle.qc_carry.specs.Kept.{net_of}
use Rattle.qc_event.specs.Base.{Setting}
use Rattle.qc_event.specs.Legal.{Legal}
use Rattle.qc_net.specs.Messages.{meets_fates}
use Rattle.qc_net.specs.Plan.{Plan}
use Rattle.qc_desk.specs.declared.view.View.{View}
use Rattle.qc_desk.specs.Entries.{IsOlder}
use Rattle.qc_desk.specs.Rules.{AreKin}
use Rattle.qc_session.specs.Tidy.{IsTidy}

module _ {System : Type 0} where
  -- A line has gone on: it carries as before, over the same system. Its pass has seen more, which is legal, and of which
  -- those that were joined into it entered what they had; its requests meet the fates of its link, where that tells them;
  -- and its own entries are tidy where they were.
  pub record HasGoneOn (setting : Setting) (v w : View) (before now : Option Plan) (patience patience' : ℕ) (over over' : System) : Type 0 where
    pub carried : HasCarried v w before now patience patience'
    pub system : over' ≡ over
    pub older : IsOlder v.seen w.seen
    pub legal : Legal setting w.seen
    pub kin : AreKin w.kin w.seen
    pub met : IfSome now (λ plan. IsTrue (meets_fates w.number (net_of plan patience') w.seen))
    pub tidy : IsTidy v.number v.seen → IsTidy w.number w.seen
