-- What holds of branches at once as they begin, are shown the starts of all, run, and are merged.
use Rattle.std.specs.Prelude.{ℕ, ◌≡◌, ◌+◌, ◌==◌, ◌<◌, ◌⊎◌, Bool, true, false, not, List, [], ◌∷◌, ◌++◌, length, filter, map, Option, None, Some, Result, Ok, Err, is_some}
use Rattle.std.specs.List.{AllByRecursion, list_any}
use Rattle.qc_event.specs.declared.event.Event.TheVariants as event
use Rattle.qc_event.specs.declared.event.Kind.TheVariants as kind
use Rattle.qc_event.specs.declared.event.Cause.TheVariants as cause
use Rattle.qc_event.specs.declared.event.How.TheVariants.{Abort}
use Rattle.qc_event.specs.declared.short.Short.{Short}
use Rattle.qc_event.specs.declared.short.Short.TheVariants as short
use Rattle.qc_event.specs.History.{Past, Name, end, is_child}
use Rattle.qc_event.specs.Legal.{Legal}
use Rattle.qc_event.specs.Standing.{Started, IsUser}
use Rattle.qc_event.specs.Wants.{IsWant}
use Rattle.qc_net.specs.Messages.{Net}
use Rattle.qc_script.specs.declared.tx.TxNo.{TxNo}
use Rattle.qc_script.specs.declared.tx.TxNo.TheVariants as tx_no
use Rattle.qc_script.specs.Calls.{by_client, MeetsLink, NoneUnder, Refuses, WasRefused, NotAborted, Merged}
use Rattle.qc_script.specs.Client.{Client, ClientView, mine, is_own, branch_of, Made, IsLater, HasJoined}
use Rattle.qc_script.specs.Plan.{Numbered, PlanFits}
use Rattle.qc_script.specs.Steps.{numbered}
use Rattle.qc_interp.specs.declared.body.branch.Branch.{Branch as Held}
use Rattle.qc_interp.specs.declared.body.branch.BranchCame.{BranchCame}
use Rattle.qc_interp.specs.declared.body.branch.BranchCame.TheVariants as came
use Rattle.qc_interp.specs.declared.stops.Finish.{Finish}
use Rattle.qc_interp.specs.declared.stops.Finish.TheVariants as finish
use Rattle.qc_interp.specs.Branches.{Branch, RanTries, AreTriesOurs, tries_by}
use Rattle.qc_interp.specs.Reach.{Reach}
use Rattle.qc_interp.specs.Running.{WhyStop, HasFailed, QuitFor, Stopped}
use Rattle.qc_interp.specs.Rows.{has_committed, was_tried}
use Rattle.qc_interp.specs.Deeds.{Deed}

-- A branch as it stands: its client and what that has seen, its body, the first of its tries, and what they came to once it
-- has run.
pub record StandingBranch : Type 0 where
  pub view : ClientView
  pub body : Numbered
  pub first : Name
  pub came : Option (Result BranchCame Short)

abbrev pub stands : {T : Type 0} → (T → ClientView) → Held T → StandingBranch
stands view b = record { view = view b.tx; body = numbered b.body.now; first = b.first; came = b.came }

-- a branch whose first try has begun
abbrev pub at_first : ClientView → Numbered → Name → StandingBranch
at_first view body first = record { view = view; body = body; first = first; came = None }

-- the branch of which it stands so
abbrev pub branch_in : StandingBranch → Branch
branch_in b = record { client = b.view.client; body = b.body; first = b.first }

-- AS THEY BEGIN

-- A branch was made, and the first try of its body begun: both have seen its start, and neither made anything else.
pub record HasBegun (old new : ClientView) (of : Name) (b : StandingBranch) : Type 0 where
  pub client : b.view.client ≡ branch_of old.client b.view.client.number of
  pub other : is_own old.client b.view.client.number ≡ false
  pub not_out : list_any (λ k. k == b.view.client.number) old.client.out ≡ false
  pub none : NoneUnder b.view.client.number old.seen
  pub left : new.client ≡ record old.client { out = b.view.client.number ∷ old.client.out }
  pub seen : b.view.seen ≡ new.seen
  pub made : Made old.client [] old.seen new.seen
  pub is_one : is_child of b.first ≡ true
  pub branch_made : Made b.view.client (by_client b.view.client (event.Start b.first (kind.User b.view.client.session b.body.number)) ∷ []) old.seen new.seen
  pub met : MeetsLink b.view

-- A branch was not begun, and was merged at once where it was made.
pub record NotBegun (old new : ClientView) (of : Name) (why : TxNo) : Type 0 where
  pub joined : HasJoined old.client old.seen new.client
  pub refused : WasRefused new.client of old.seen new.seen why

-- branches were begun one after another
abbrev pub BeganInTurn : ClientView → Name → List StandingBranch → ClientView → Type 0
BeganInTurn old of [] new = new ≡ old
BeganInTurn old of (b ∷ bs) new = (mid : ClientView) × HasBegun old mid of b × BeganInTurn mid of bs new

-- Some of them were begun, and the next was not.
abbrev pub BeganSome : ClientView → Name → List StandingBranch → ClientView → TxNo → Type 0
BeganSome old of bs new why = (mid : ClientView) × BeganInTurn old of bs mid × NotBegun mid new of why

-- AS THEY ARE SHOWN

-- two lists are as long, and their elements are this to each other, in order
abbrev pub InPairs : {A : Type 0} → (A → A → Type 0) → List A → List A → Type 0
InPairs P [] [] = Unit {0}
InPairs P (x ∷ xs) (y ∷ ys) = P x y × InPairs P xs ys
InPairs P _ _ = ⊥

-- A branch has seen what was seen at some time, and more, and has made nothing.
pub record WasShown (seen : Past) (old new : StandingBranch) : Type 0 where
  pub client : new.view.client ≡ old.view.client
  pub body : new.body ≡ old.body
  pub first : new.first ≡ old.first
  pub made : Made old.view.client [] old.view.seen new.view.seen
  pub since : IsLater old.view.client seen new.view.seen
  pub met : MeetsLink new.view

-- AS THEY RUN

-- A branch's client has begun the first try of its body, and nothing else. Below its root it may begin further ones.
pub record MayRun (of : Name) (b : StandingBranch) : Type 0 where
  pub root : b.view.client.root ≡ of
  pub parent : Started b.view.seen of (λ e. IsUser e.kind)
  pub nonroot : 0 < length of
  pub depth : length of < 16
  pub legal : Legal b.view.client.setting b.view.seen
  pub is_one : is_child of b.first ≡ true
  pub made : mine b.view.client b.view.seen ≡ by_client b.view.client (event.Start b.first (kind.User b.view.client.session b.body.number)) ∷ []
  pub tried : 0 < b.body.tries
  pub fits : PlanFits b.view.client.setting (length of + 1) b.body.plan
  pub met : MeetsLink b.view

-- where the tries that a branch made are the branch's, the last of them committed, or did not
abbrev pub LastCommitted : Bool → Client → Past → Name → Type 0
LastCommitted committed c now last = AreTriesOurs c now → has_committed (end (mine c now) last) ≡ committed

-- what a try came to that is the last
abbrev pub came_at_last : Finish → Name → BranchCame
came_at_last finish.Committed last = came.Through
came_at_last (finish.Stopped again) last = came.Failed last

-- a call to begin is refused so where it is not want of memory or room
abbrev pub IsCallRefusal : TxNo → Type 0
IsCallRefusal (tx_no.Orphan a) = Unit {0}
IsCallRefusal tx_no.Ended = Unit {0}
IsCallRefusal tx_no.Ready = Unit {0}
IsCallRefusal _ = ⊥

-- the tries of a branch came to this
abbrev pub TriesEnd : Client → Numbered → Past → BranchCame → Type 0
TriesEnd c body now came.Through =
    RanTries Reach.to_the_end ⊥ c body now × ((front : List Name) × (last : Name) × (tries_by c now ≡ front ++ last ∷ []) × LastCommitted true c now last)
TriesEnd c body now (came.Failed last) =
    RanTries Reach.to_the_end ⊥ c body now × ((front : List Name) × (tries_by c now ≡ front ++ last ∷ [])) × Started now last (λ e. IsUser e.kind) × LastCommitted false c now last
TriesEnd c body now (came.Refused why) =
    RanTries Reach.to_the_end (Unit {0}) c body now × (Refuses now c.root why × IsCallRefusal why) × (AreTriesOurs c now → was_tried (mine c now) false body.tries (map Deed.child (tries_by c now)) ≡ false)

-- A branch ran, or was cut off for want of memory or room.
abbrev pub CameSo : Client → Numbered → Past → Option (Result BranchCame Short) → Type 0
CameSo c body now None = ⊥
CameSo c body now (Some (Ok came)) = TriesEnd c body now came
CameSo c body now (Some (Err why)) = RanTries Reach.cut_off (Unit {0}) c body now × IsWant now why

pub record HasRun (old new : StandingBranch) : Type 0 where
  pub joined : HasJoined old.view.client old.view.seen new.view.client
  pub later : IsLater old.view.client old.view.seen new.view.seen
  pub body : new.body ≡ old.body
  pub first : new.first ≡ old.first
  pub came : CameSo new.view.client new.body new.view.seen new.came
  pub met : MeetsLink new.view

-- AS THEY ARE MERGED

-- Branches can be merged one after another, where these are out, by a client of this link.
abbrev pub AreOut : List ℕ → Option Net → List StandingBranch → Type 0
AreOut out net [] = Unit {0}
AreOut out net (b ∷ bs) =
    (list_any (λ k. k == b.view.client.number) out ≡ true) × (b.view.client.out ≡ []) × (b.view.client.net ≡ net) × MeetsLink b.view
    × AreOut (filter (λ k. not (k == b.view.client.number)) out) net bs

-- branches were merged one after another
abbrev pub MergedInTurn : ClientView → List StandingBranch → ClientView → Type 0
MergedInTurn old [] new = new ≡ old
MergedInTurn old (b ∷ bs) new = (mid : ClientView) × Merged old b.view mid × MergedInTurn mid bs new

-- of two wants that of memory is told
abbrev pub told_want : Short → Short → Short
told_want short.Memory other = short.Memory
told_want short.Room other = other

-- What branches came to, with one more: want of memory comes first, then want of room, then a refusal, then the first that
-- must commit and failed.
abbrev pub came_worse : BranchCame → Bool → BranchCame → BranchCame
came_worse came.Through true (came.Failed last) = came.Failed last
came_worse came.Through must (came.Refused why) = came.Refused why
came_worse (came.Failed first) must (came.Refused why) = came.Refused why
came_worse so_far must one = so_far

abbrev pub came_behind : Result BranchCame Short → Bool → Option (Result BranchCame Short) → Result BranchCame Short
came_behind (Err one) must None = Err one
came_behind (Err one) must (Some (Ok other)) = Err one
came_behind (Err one) must (Some (Err other)) = Err (told_want one other)
came_behind (Ok so_far) must None = Ok so_far
came_behind (Ok so_far) must (Some (Err short)) = Err short
came_behind (Ok so_far) must (Some (Ok one)) = Ok (came_worse so_far must one)

-- what branches came to together, behind others
abbrev pub row_came : Result BranchCame Short → List StandingBranch → Result BranchCame Short
row_came so_far [] = so_far
row_came so_far (b ∷ bs) = row_came (came_behind so_far b.body.must b.came) bs

-- BEHIND THEM

-- what a transaction must know to go on behind branches that came to this
abbrev pub KnowsBehind : Client → Name → Past → BranchCame → Type 0
KnowsBehind c of now came.Through = Unit {0}
KnowsBehind c of now (came.Failed last) = HasFailed c of now last
KnowsBehind c of now (came.Refused why) = WhyStop c now of why

-- It goes on, or was aborted for the child that failed, or stopped by the refusal.
abbrev pub WentBehind : Client → Name → Past → Past → BranchCame → Option Bool → Type 0
WentBehind c of before now came.Through None = now ≡ before
WentBehind c of before now (came.Failed last) (Some again) = QuitFor c of last before now again
WentBehind c of before now (came.Refused why) (Some again) = Stopped c of why before now again
WentBehind c of before now came result = ⊥

-- WHERE NOT ALL COULD BE BEGUN

-- a call to begin was refused, where it is not want of memory or room
abbrev pub RefusedSo : Past → Name → TxNo → Type 0
RefusedSo now of why = Refuses now of why × IsCallRefusal why

-- a child that is a user transaction
abbrev pub IsFirst : Name → Past → Name → Type 0
IsFirst of now n = (is_child of n ≡ true) × Started now n (λ e. IsUser e.kind)

-- Names that a client aborted as orphans, in order, the latest first, as far as told: of whom each is an orphan, or that it had
-- ended already.
abbrev pub aborts_of : Client → List Name → List (Option Name) → Past
aborts_of c [] above = []
aborts_of c (n ∷ ns) [] = []
aborts_of c (n ∷ ns) (Some a ∷ above) = aborts_of c ns above ++ by_client c (event.End n (Abort (cause.Orphan a))) ∷ []
aborts_of c (n ∷ ns) (None ∷ above) = aborts_of c ns above

-- One was aborted as an orphan, or was not, but for want of memory or room.
abbrev pub TurnedOne : Client → Name → Name → Past → Past → Type 0
TurnedOne c n above before now =
    Made c (by_client c (event.End n (Abort (cause.Orphan above))) ∷ []) before now
    ⊎ ((why : TxNo) × NotAborted c n (cause.Orphan above) before now why × ((s : Short) → why ≡ tx_no.Short s → ⊥))

abbrev pub TurnedSome : Client → List Name → Past → Past → Type 0
TurnedSome c ns before now = (above : List (Option Name)) × Made c (aborts_of c ns above) before now

-- All of them have ended, but where the transaction is ready: then none was aborted.
abbrev pub TurnedAll : Client → TxNo → List Name → Past → Past → Type 0
TurnedAll c tx_no.Ready ns before now = now ≡ before
TurnedAll c why ns before now = TurnedSome c ns before now × AllByRecursion (λ n. is_some (end now n) ≡ true) ns
