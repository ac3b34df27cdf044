-- What it is for a trail to follow a script of one session.
use Rattle.std.specs.Prelude.{List, [], ◌∷◌}
use Rattle.qc_event.specs.History.{Past}
use Rattle.qc_net.specs.Messages.{Net}
use Rattle.qc_script.specs.Plan.{Numbered, SessionPlan}
use Rattle.qc_interp.specs.FollowsScript.{FollowsScript, BeginsScript}

-- the session whose tops are of these bodies, over a link
abbrev pub session_of : Net → List Numbered → SessionPlan
session_of net bodies = record { fates = net.fates; hold = net.hold; tops = bodies }

-- it follows the script of that session alone, in epoch 1
abbrev pub PastFollows : Net → List Numbered → Past → Type 0
PastFollows net bodies past = FollowsScript 1 net.patience (session_of net bodies ∷ []) past

-- it is a beginning of one that does
abbrev pub Begins : Net → List Numbered → Past → Type 0
Begins net bodies past = BeginsScript 1 net.patience (session_of net bodies ∷ []) past
