-- The rule of a queue of requests to one copy.
use Rattle.std.specs.Prelude.{◌≡◌, ◌≤◌, ◌+◌, ℕ, true, false, List, [], ◌∷◌, ◌++◌, length, ◌==◌, cond, filter, flat_map, map}
use mathlib.Core.Option.{Option, some, none}
use lib.ListN.{get_elem?}
use Rattle.qc_event.specs.declared.event.Ask.{Ask}
use Rattle.qc_lane.specs.declared.lane.Lane.{Lane}
use Rattle.qc_lane.specs.declared.lane.Request.{Request}

-- the requests of a session among these, in order
abbrev pub of : ℕ → List Request → List Request
of s xs = filter (λ (r : Request). r.from == s) xs

abbrev pub request : ℕ → ℕ → Ask → Request
request s k ask = record { from = s; number = k; ask = ask }

-- requests of a session, numbered from k on
abbrev pub numbered : ℕ → ℕ → List Ask → List Request
numbered s k [] = []
numbered s k (ask ∷ asks) = request s k ask ∷ numbered s (k + 1) asks

-- a pass that may take, before any session has one
abbrev pub taker : Lane
taker = record { puts = false; takes = true; from = 0; made = 0; put = []; got = []; known = 0 }

-- a pass of a session that has put nothing
abbrev pub putter : ℕ → Lane
putter s = record { puts = true; takes = false; from = s; made = 0; put = []; got = []; known = 0 }

-- a pass that knows nothing
abbrev pub spent : Lane
spent = record { puts = false; takes = false; from = 0; made = 0; put = []; got = []; known = 0 }

abbrev pub seated : Lane → Lane
seated v = record { puts = v.puts; takes = v.takes; from = v.from; made = v.made + 1; put = v.put; got = v.got; known = v.known }

abbrev pub with_put : List Ask → Lane → Lane
with_put put v = record { puts = v.puts; takes = v.takes; from = v.from; made = v.made; put = put; got = v.got; known = v.known }

abbrev pub with_got : List Request → Lane → Lane
with_got got v = record { puts = v.puts; takes = v.takes; from = v.from; made = v.made; put = v.put; got = got; known = v.known }

-- the session of the last request
abbrev pub last_from : List Request → ℕ
last_from [] = 0
last_from (r ∷ []) = r.from
last_from (r ∷ rs) = last_from rs

abbrev pub note : ℕ → ℕ → Lane
note s known = record { puts = false; takes = false; from = s; made = 0; put = []; got = []; known = known }

-- what a note of the last request tells
abbrev pub noted : Lane → Lane
noted v = note (last_from v.got) (length (of (last_from v.got) v.got))

-- a note of one's own session is taken in
abbrev pub told : Lane → Lane → Lane
told v w = record { puts = v.puts; takes = v.takes; from = v.from; made = v.made; put = v.put; got = v.got; known = cond (w.from == v.from) w.known v.known }

-- a session's pass is joined into the one that takes
abbrev pub closed : Lane → Lane → Lane
closed v w = record { puts = w.puts; takes = v.takes; from = w.from; made = v.made; put = w.put; got = v.got; known = w.known }

-- and what each of the two is again, once they are split
abbrev pub freed : Lane → Lane
freed v = record { puts = false; takes = v.takes; from = 0; made = v.made; put = []; got = v.got; known = 0 }

abbrev pub reopened : Lane → Lane
reopened v = record { puts = v.puts; takes = false; from = v.from; made = 0; put = v.put; got = []; known = v.known }

-- THE RULE

pub record Fits (writer : ℕ → Option ℕ) (reader : ℕ) (sent : ℕ → List Ask) (got : List Request) (pass : ℕ) (v : Lane) : Type 0 where
  pub puts : v.puts ≡ true → (writer v.from ≡ some pass) × (v.put ≡ sent v.from)
  pub takes : v.takes ≡ true → (pass ≡ reader) × (v.got ≡ got) × ((s : ℕ) → v.made ≤ s → (writer s ≡ none) × (sent s ≡ []))
  pub known : v.known ≤ length (of v.from got)

module _ {T : Type 0} (requests : T → List Request) where
  -- what was taken, and then what the queue holds, is of each session what it sent, in order and each once
  abbrev pub Kept : List T → List Lane → Type 0
  Kept items views =
      (writer : ℕ → Option ℕ) × (reader : ℕ) × (sent : ℕ → List Ask) × (got : List Request)
      × ((s : ℕ) → of s (got ++ flat_map requests items) ≡ numbered s 0 (sent s))
      × ((pass : ℕ) (v : Lane) → get_elem? views pass ≡ some v → Fits writer reader sent got pass v)

  -- the pass has put what the item carries
  abbrev pub Puts : Lane → T → Lane → Type 0
  Puts v x w = w ≡ with_put (v.put ++ map (λ (r : Request). r.ask) (requests x)) v

  -- the pass has taken what the item carries, and each request has the number that it should have
  abbrev pub Takes : Lane → T → Lane → Type 0
  Takes v x w = (w ≡ with_got (v.got ++ requests x) v) × ((r : Request) → requests x ≡ r ∷ [] → r.number ≡ length (of r.from v.got))

  -- what was taken of the session, and then what the queue holds of it, is what it put
  abbrev pub Balances : Lane → List T → Type 0
  Balances v items = (of v.from v.got ++ of v.from (flat_map requests items) ≡ numbered v.from 0 v.put) × (v.known ≤ length (of v.from v.got))

-- no more requests were taken than were put
abbrev pub IsBounded : Lane → Type 0
IsBounded v = v.known ≤ length v.put
