-- What the tops of a session leave.
use Rattle.std.specs.Prelude.{ℕ, ◌≡◌, true, List, [], ◌∷◌, ◌++◌, None}
use Rattle.std.specs.List.{AllByRecursion, list_all}
use Rattle.qc_event.specs.History.{Past, Name, end, children}
use Rattle.qc_interp.specs.Adding.{AllOfOne, AllForIts, own_after, all_over}
use Rattle.qc_script.specs.Numbers.{Numbers, each}
use Rattle.qc_script.specs.Client.{Client, mine, IsLater, HasJoined, AreOurs}
use Rattle.qc_interp.specs.Follows.{RunsBody}
use Rattle.qc_interp.specs.Reach.{Reach, AtTheEnd}
use Rattle.qc_script.specs.Plan.{Numbered}
use Rattle.qc_interp.specs.Turns.{takes_turn, is_alone, is_under}
use Rattle.qc_interp.specs.Tries.{Tries}
use Rattle.qc_interp.specs.Asking.{BodiesAsk, AllAsked}

-- the tops that a client made
abbrev pub tops : Client → Past → List Name
tops c past = children (mine c past) []

-- the run was cut off before a try began
abbrev pub NotBegun : Reach → Type 0
NotBegun Reach.to_the_end = ⊥
NotBegun Reach.cut_off = Unit {0}

-- the tops are the tries of each body, in order, or of the first bodies as far as the run came that was cut off
abbrev pub RunsBodies : Reach → ℕ → Past → List Numbered → List Name → Type 0
RunsBodies reach s past [] [] = Unit {0}
RunsBodies reach s past [] (t ∷ ts) = ⊥
RunsBodies reach s past (b ∷ bodies) ts = Tries (end past) (RunsBody reach s past b) (NotBegun reach) (λ last further. RunsBodies reach s past bodies further) None b.tries ts

abbrev pub FollowsBodies : ℕ → Past → List Numbered → List Name → Type 0
FollowsBodies s past bodies ts = RunsBodies Reach.to_the_end s past bodies ts

-- all about each top that a client made, but its commit, is the client's
abbrev pub AreAllOurs : Client → Past → Type 0
AreAllOurs c past = AllByRecursion (λ t. AreOurs c t past) (tops c past)

-- From `before` on the tops that a client made are tries of these bodies, and whoever was aborted as another asked was
-- named by a step `abort` to which that one came.
abbrev pub EndsTopsAt : Reach → Client → Past → Past → List Numbered → Type 0
EndsTopsAt reach c before now bodies = AreAllOurs c now → (further : List Name) × (tops c now ≡ tops c before ++ further) × RunsBodies reach c.session (mine c now) bodies further
    × AllAsked c before now (λ by t. BodiesAsk (mine c now) bodies further by t)

abbrev pub EndsTops : Client → Past → Past → List Numbered → Type 0
EndsTops c before now bodies = EndsTopsAt Reach.to_the_end c before now bodies

-- the client started its tops under its number
abbrev pub AreUnderIts : Client → Past → Type 0
AreUnderIts c past = list_all (is_under (mine c past) c.number) (tops c past) ≡ true

-- What was made meanwhile is about these tops alone, which are of the client's session, had the next numbers and started
-- once those before were over; it was made in turn, and all of it is done where the run came to its end.
pub record InTurnAt (reach : Reach) (c : Client) (before now : Past) : Type 0 where
  pub made : List Name
  pub more : tops c now ≡ tops c before ++ made
  pub later : IsLater c before now
  pub inside : AllOfOne c made later.newer
  pub of_session : AllForIts c later.newer
  pub numbers : Numbers c before now
  pub seats : AreUnderIts c before → AreUnderIts c now
  pub order : AreAllOurs c now → each (own_after c) before ≡ true → all_over c before ≡ true → (each (own_after c) now ≡ true) × AtTheEnd reach (all_over c now ≡ true)
  pub turns : AreAllOurs c now → AreUnderIts c before → each takes_turn (mine c before) ≡ true → is_alone (mine c before) [] ≡ true → (each takes_turn (mine c now) ≡ true) × AtTheEnd reach (is_alone (mine c now) [] ≡ true)

abbrev pub RanInTurn : Client → Past → Past → Type 0
RanInTurn c before now = InTurnAt Reach.to_the_end c before now

-- the tops of some bodies were run: whatever bodies follow, they follow these
pub record RanTops (c : Client) (before now : Past) (front : List Numbered → List Numbered) : Type 0 where
  pub later : IsLater c before now
  pub in_turn : RanInTurn c before now
  pub follows : (reach : Reach) (d : Client) (x : Past) → HasJoined c now d → IsLater d now x → (rest : List Numbered) → EndsTopsAt reach d now x rest → EndsTopsAt reach d before x (front rest)

-- The tops of these bodies were cut off, for want of memory or room.
pub record CutTops (c : Client) (before now : Past) (bodies : List Numbered) : Type 0 where
  pub in_turn : InTurnAt Reach.cut_off c before now
  pub begins : EndsTopsAt Reach.cut_off c before now bodies
