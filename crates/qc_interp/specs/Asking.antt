-- Who is aborted as another asked, and by which step.
use Rattle.std.specs.Prelude.{◌≡◌, ◌⊎◌, Bool, true, false, IsTrue, List, [], ◌∷◌, ◌++◌, Option, None, Some}
use Rattle.std.specs.List.{AllByRecursion}
use Rattle.qc_event.specs.declared.event.Answer.{Answer}
use Rattle.qc_event.specs.declared.event.Cause.{Cause}
use Rattle.qc_event.specs.declared.event.Cause.TheVariants as cause
use Rattle.qc_event.specs.declared.event.Entry.{Entry}
use Rattle.qc_event.specs.declared.event.Event.{Event}
use Rattle.qc_event.specs.declared.event.Event.TheVariants as event
use Rattle.qc_event.specs.declared.event.How.{How}
use Rattle.qc_event.specs.declared.event.How.TheVariants.{Commit, Abort}
use Rattle.qc_event.specs.History.{Past, Name, end}
use Rattle.qc_script.specs.Client.{Client, mine}
use Rattle.qc_interp.specs.Deeds.{Deed, deeds, deed_end, OfChild}
use Rattle.qc_interp.specs.Follows.{above, WasAsked, WasKilled}
use Rattle.qc_script.specs.Plan.{Plan, Numbered}
use Rattle.qc_interp.specs.Rows.{OneOf, are_tries_at_once, each_begun, each_tried, first_failed, tries_among}
use Rattle.qc_interp.specs.Tries.{TriesDo}

-- it is done after a manager that committed, by its answer
abbrev pub DoesOn : Option How → (Answer → Type 0) → Type 0
DoesOn (Some (Commit given)) rest = rest given
DoesOn _ rest = ⊥

-- it is done behind the last try of a child, which has committed if it must
abbrev pub DoesAfter : Past → Option Deed → Bool → Type 0 → Type 0
DoesAfter past None must rest = rest
DoesAfter past (Some d) false rest = rest
DoesAfter past (Some d) true rest = DoesOn (deed_end past d) (λ given. rest)

-- it is done by one of the branches at once, or behind them, where each was tried as often as it is
abbrev pub DoesInRow : Past → Bool → Option Deed → Type 0 → List Deed → Type 0 → Type 0
DoesInRow past true failed one further rest = one ⊎ DoesAfter past failed true rest
DoesInRow past false failed one further rest = (further ≡ []) × one

-- As a transaction that does this follows its plan, one of its body or below, `by`, comes to a step `abort` that names its
-- ancestor `target`. One that was killed before the step did not come to it. One that was aborted as another asked goes on,
-- and what it marks then counts for nothing.
abbrev mutual
  pub Asks : Past → Name → Plan → List Deed → Name → Name → Type 0
  Asks past n Plan.done ds by target = ⊥
  Asks past n (Plan.manage_by k next) [] by target = ⊥
  Asks past n (Plan.manage_by k next) (d ∷ further) by target = DoesOn (deed_end past d) (λ given. Asks past n (next given) further by target)
  Asks past n (Plan.child_then number tries must inner rest) ds by target =
      TriesDo (deed_end past) (OfChild (λ c. Asks past c inner (deeds past c) by target)) (λ last further. DoesAfter past last must (Asks past n rest further by target)) None tries ds
  Asks past n (Plan.par_then branches rest) ds by target =
      (here : List Deed) × (further : List Deed) × (ds ≡ here ++ further) × IsTrue (are_tries_at_once past branches here)
      × DoesInRow past (each_tried past false branches here) (first_failed past branches here) (IsTrue (each_begun past branches here) × RowAsks past branches here by target) further (Asks past n rest further by target)
  Asks past n (Plan.abort_then levels rest) [] by target = (by ≡ n) × (target ≡ above n levels) × (WasKilled (end past n) → ⊥)
  Asks past n (Plan.abort_then levels rest) (d ∷ further) by target = ⊥
  Asks past n (Plan.crash_then copy rest) ds by target = Asks past n rest ds by target
  Asks past n (Plan.kill_then session rest) [] by target = WasAsked n (end past n) × Asks past n rest [] by target
  Asks past n (Plan.kill_then session rest) (d ∷ further) by target = Asks past n rest further by target

  -- one of the tries of one of the branches of a row does so
  pub RowAsks : Past → Plan → List Deed → Name → Name → Type 0
  RowAsks past (Plan.child_then number tries must inner others) ds by target =
      OneOf (OfChild (λ c. Asks past c inner (deeds past c) by target)) (tries_among past number ds) ⊎ RowAsks past others ds by target
  RowAsks past _ ds by target = ⊥

-- the same for the tops of bodies
abbrev pub BodiesAsk : Past → List Numbered → List Name → Name → Name → Type 0
BodiesAsk past [] ts by target = ⊥
BodiesAsk past (b ∷ bodies) ts by target =
    TriesDo (end past) (λ t. Asks past t b.plan (deeds past t) by target) (λ last further. BodiesAsk past bodies further by target) None b.tries ts

-- whoever the event aborts as another asked, that one may ask so
abbrev pub IsAskedBy : (Name → Name → Type 0) → Event → Type 0
IsAskedBy Q (event.End target (Abort (cause.Asked by))) = (target ≡ by) ⊎ Q by target
IsAskedBy Q _ = Unit {0}

-- whoever a client aborted meanwhile as another asked, that one may ask so
abbrev pub AllAsked : Client → Past → Past → (Name → Name → Type 0) → Type 0
AllAsked c before now Q = (made : Past) × (mine c now ≡ made ++ mine c before) × AllByRecursion (λ (e : Entry). IsAskedBy Q e.event) made

-- it aborts no other, nor for a child
abbrev pub ByItself : Name → Cause → Type 0
ByItself n (cause.Asked by) = by ≡ n
ByItself n (cause.Child child) = ⊥
ByItself n _ = Unit {0}
