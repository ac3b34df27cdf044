-- What a session sent to each copy, and what a copy's server took of it.
use Rattle.std.specs.Prelude.{◌≡◌, ℕ, List, [], ◌∷◌, ◌++◌, get_or, set}
use Rattle.crossbeam_queue.specs.Passes.{Pass, view}
use Rattle.qc_event.specs.declared.event.Ask.{Ask}
use Rattle.qc_lane.specs.declared.lane.Lane.{Lane}
use Rattle.qc_lane.specs.declared.lane.Request.{Request}
use Rattle.qc_lane.specs.Lanes.{of, numbered}

-- what was put at an end of a queue, what was taken there, how much of what was put is known to be taken, and from
-- which number on sessions have no end
abbrev pub put_at : {T : Type 0} → Pass T Lane → List Ask
put_at p = (view p).put

abbrev pub got_at : {T : Type 0} → Pass T Lane → List Request
got_at p = (view p).got

abbrev pub known_at : {T : Type 0} → Pass T Lane → ℕ
known_at p = (view p).known

abbrev pub made_at : {T : Type 0} → Pass T Lane → ℕ
made_at p = (view p).made

-- what was sent to each copy, by its number, and one request more to a copy
abbrev pub with_sent : ℕ → Ask → List (List Ask) → List (List Ask)
with_sent copy ask all = set all copy (get_or all copy [] ++ ask ∷ [])

-- which requests were taken at a copy
abbrev pub taken_at : {T : Type 0} → ℕ → Pass T Lane → ℕ × List Request
taken_at copy p = (copy, got_at p)

-- What was taken at a copy has of a session what it sent there: in its order, each once, and all of it.
abbrev pub HasAll : ℕ → List (List Ask) → ℕ × List Request → Type 0
HasAll session all taken = of session taken.1 ≡ numbered session 0 (get_or all taken.0 [])
