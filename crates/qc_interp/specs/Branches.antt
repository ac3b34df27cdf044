-- What the clients of branches at once made: each by itself, and all together.
use Rattle.std.specs.Prelude.{ℕ, ◌≡◌, ◌==◌, Bool, true, false, MatchBool, List, [], ◌∷◌, ◌++◌, map, reverse, Option, None, Some, option_map}
use Rattle.std.specs.List.{AllByRecursion, IsDistinct, list_all, list_any}
use Rattle.qc_event.specs.declared.event.Entry.{Entry}
use Rattle.qc_event.specs.declared.event.Event.TheVariants as event
use Rattle.qc_event.specs.declared.event.Kind.TheVariants as kind
use Rattle.qc_event.specs.History.{Past, Name, end, children, is_child, kind_of}
use Rattle.qc_event.specs.Legal.{Legal}
use Rattle.qc_script.specs.Calls.{by_client}
use Rattle.qc_script.specs.Client.{Client, mine, is_own, branch_of, Made, IsLater, HasJoined, AreOurs}
use Rattle.qc_script.specs.Numbers.{each}
use Rattle.qc_script.specs.Plan.{Plan, Numbered, row_of}
use Rattle.qc_interp.specs.Adding.{stays_in}
use Rattle.qc_interp.specs.Asking.{Asks, AllAsked, DoesAfter, IsAskedBy}
use Rattle.qc_interp.specs.Deeds.{Deed, deeds, deed_end, OfChild}
use Rattle.qc_interp.specs.Follows.{AfterRow, RunsPlan}
use Rattle.qc_interp.specs.Reach.{Reach, AtTheEnd}
use Rattle.qc_interp.specs.Rows.{OneOf}
use Rattle.qc_interp.specs.Running.{EndsAt}
use Rattle.qc_interp.specs.Tries.{Tries}
use Rattle.qc_interp.specs.Turns.{takes_turn, is_alone, is_under}

-- ONE BRANCH

-- the tries that a branch's client made below its root
abbrev pub tries_by : Client → Past → List Name
tries_by c past = children (mine c past) c.root

-- all about each of them is the client's
abbrev pub AreTriesOurs : Client → Past → Type 0
AreTriesOurs c past = AllByRecursion (λ t. AreOurs c t past) (tries_by c past)

-- whether an entry stays in the scope of one of some children
abbrev pub stays_with : List Name → Entry → Bool
stays_with ts e = list_any (λ t. stays_in t e) ts

-- nothing stands behind the last try
abbrev pub IsLast : Option Deed → List Deed → Type 0
IsLast last further = further ≡ []

-- What a branch's client made in all: tries of a body below its root, as often as it is tried, or as far as it came where it
-- stopped before. It made them in turn, under its own number, and nothing but of them.
pub record RanTries (reach : Reach) (Stopped : Type 0) (c : Client) (body : Numbered) (now : Past) : Type 0 where
  pub legal : Legal c.setting now
  pub inside : list_all (stays_with (tries_by c now)) (mine c now) ≡ true
  pub own_seat : list_all (is_under (mine c now) c.number) (tries_by c now) ≡ true
  pub tries : AreTriesOurs c now
      → Tries (deed_end (mine c now)) (OfChild (λ n. (kind_of (mine c now) n ≡ Some (kind.User c.session body.number)) × RunsPlan reach c.session (mine c now) n body.plan (deeds (mine c now) n) (end (mine c now) n)))
      Stopped IsLast None body.tries (map Deed.child (tries_by c now))
  pub asked : AreTriesOurs c now
      → AllByRecursion (λ (e : Entry). IsAskedBy (λ by t. OneOf (λ n. Asks (mine c now) n body.plan (deeds (mine c now) n) by t) (tries_by c now)) e.event) (mine c now)
  pub turns : AreTriesOurs c now → (each takes_turn (mine c now) ≡ true) × AtTheEnd reach (is_alone (mine c now) c.root ≡ true)

-- BRANCHES AT ONCE

-- a branch: its client, its body, and the first of its tries
pub record Branch : Type 0 where
  pub client : Client
  pub body : Numbered
  pub first : Name

-- the seats of branches, and of those that they have merged
abbrev pub seats_of : List Branch → List ℕ
seats_of [] = []
seats_of (b ∷ bs) = b.client.number ∷ b.client.kin ++ seats_of bs

-- a client that has merged branches
abbrev pub with_all : Client → List Branch → Client
with_all c bs = record c { kin = c.kin ++ seats_of bs }

-- the entry by which a branch began
abbrev pub start_of : Client → Branch → Entry
start_of c b = by_client b.client (event.Start b.first (kind.User c.session b.body.number))

-- A branch of a client below a transaction was begun: by `shown` its client had made the start of its first try alone, under
-- whose seats nothing stood before.
pub record IsBegun (c : Client) (of : Name) (before shown : Past) (b : Branch) : Type 0 where
  pub client : b.client ≡ record (branch_of c b.client.number of) { kin = b.client.kin }
  pub none : AllByRecursion (λ (e : Entry). is_own b.client e.seat ≡ false) before
  pub is_one : is_child of b.first ≡ true
  pub made : mine b.client shown ≡ start_of c b ∷ []

-- Branches of a client were begun below a transaction, in order, by `shown`, ran then until `now`, and were merged. The client
-- itself made nothing meanwhile.
pub record RanRow (reach : Reach) (Stopped : Branch → Type 0) (c : Client) (of : Name) (before shown now : Past) (bs : List Branch) : Type 0 where
  pub made : Made c [] before now
  pub shown_later : IsLater c before shown
  pub since : IsLater c shown now
  pub apart : IsDistinct (λ a b. a == b) (c.number ∷ c.kin ++ seats_of bs)
  pub begun : AllByRecursion (IsBegun c of before shown) bs
  pub in_order : mine (with_all c bs) shown ≡ reverse (map (start_of c) bs) ++ mine c before
  pub ran : AllByRecursion (λ b. RanTries reach (Stopped b) b.client b.body now) bs

-- BEHIND THEM

-- a step that runs branches of bodies at once
abbrev pub row_step : List Numbered → Plan → Plan
row_step bodies rest = Plan.par_then (row_of bodies) rest

-- From `now` on, behind branches of which each was tried as often as it is, or not, and of which this try is the first that
-- must have committed and did not, a transaction did the rest, and ended, or came as far as the run.
abbrev pub EndsRow : Reach → Client → Name → Past → Past → Bool → Option Name → Plan → Type 0
EndsRow reach c of before now out failed rest =
    AreOurs c of now → (further : List Deed) × (deeds (mine c now) of ≡ deeds (mine c before) of ++ further)
    × AfterRow reach (mine c now) of out (option_map Deed.child failed) (RunsPlan reach c.session (mine c now) of rest further (end (mine c now) of)) further (end (mine c now) of)
    × AllAsked c before now (λ by t. MatchBool out (DoesAfter (mine c now) (option_map Deed.child failed) true (Asks (mine c now) of rest further by t)) ⊥)

-- Branches were run: what is left behind them leads to all of the step.
abbrev pub FrontRow : Client → Name → Past → Past → List Numbered → Bool → Option Name → Type 0
FrontRow c of before now bodies out failed =
    (reach : Reach) (d : Client) (x : Past) → HasJoined c now d → IsLater d now x → (rest : Plan) → EndsRow reach d of now x out failed rest → EndsAt reach d of before x (row_step bodies rest)
