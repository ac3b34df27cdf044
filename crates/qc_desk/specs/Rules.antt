-- The rule of the desk: one history, and what the views have to do with it.
use Rattle.std.specs.Prelude.{◌≡◌, ℕ, ◌+◌, ◌<◌, ◌≤◌, List, [], ◌∷◌, ◌++◌, length, ◌==◌, nat_lt, cond, Bool, true, false, Some, None, Option, MatchBool, ◌⊎◌, ◌&&◌, map}
use Rattle.std.specs.List.{IsDistinct, list_any}
use mathlib.Core.Option.{some}
use lib.ListN.{get_elem?}
use Rattle.atomic_table.specs.Table.{State, Step, Me}
use Rattle.qc_event.specs.Base.{Setting}
use Rattle.qc_event.specs.declared.event.Entry.{Entry}
use Rattle.qc_desk.specs.declared.view.View.{View}
use Rattle.qc_desk.specs.Entries.{entries_of, IsLegal, IsOlder}

-- who has a number: no one, the view at a place, a view that has drawn it, or a view that a pass with it was joined into
pub data Role : Type 0 where
  nobody_yet : Role
  held : ℕ → Role
  drawn_by : ℕ → Role
  kin_of : ℕ → Role

-- the right to append, with the whole history
abbrev pub ruler : List Entry → View
ruler log = record { live = false; rules = true; number = 0; seen = []; all = log; mine = []; flight = []; out = []; kin = []; count = 0; drawn = None }

-- the number of a note
abbrev pub NOTE : ℕ
NOTE = 4294967295

-- what knows a history, and no more
abbrev pub note : List Entry → View
note log = record { live = false; rules = false; number = NOTE; seen = log; all = []; mine = []; flight = []; out = []; kin = []; count = 0; drawn = None }

abbrev pub spent : View
spent = note []

-- a pass of a caller
abbrev pub pass : ℕ → List Entry → View
pass number seen = record { live = true; rules = false; number = number; seen = seen; all = []; mine = []; flight = []; out = []; kin = []; count = 0; drawn = None }

abbrev pub with_right : Bool → List Entry → View → View
with_right rules all v = record { live = v.live; rules = rules; number = v.number; seen = v.seen; all = all; mine = v.mine; flight = v.flight; out = v.out; kin = v.kin; count = v.count; drawn = v.drawn }

-- a pass that has been lent the right
abbrev pub lent : View → View → View
lent v m = with_right true m.all v

-- the first pass, with the right
abbrev pub first_of_all : View
first_of_all = with_right true [] (pass 0 [])

abbrev pub returned : View → View
returned v = with_right false [] v

abbrev pub right_of : View → View
right_of v = ruler v.all

-- what was seen
abbrev pub sees : List Entry → View → View
sees seen v = record { live = v.live; rules = v.rules; number = v.number; seen = seen; all = v.all; mine = v.mine; flight = v.flight; out = v.out; kin = v.kin; count = v.count; drawn = v.drawn }

abbrev pub looked : View → View
looked v = sees v.all v

-- master append: the history has the entry, which is in flight
abbrev pub posted : Entry → View → View
posted e v = record { live = v.live; rules = v.rules; number = v.number; seen = v.seen; all = e ∷ v.all; mine = v.mine; flight = e ∷ v.flight; out = v.out; kin = v.kin; count = v.count; drawn = v.drawn }

-- caller append: the caller has it, and has seen the history
abbrev pub taken : View → View
taken v = record { live = v.live; rules = v.rules; number = v.number; seen = v.all; all = v.all; mine = v.flight ++ v.mine; flight = []; out = v.out; kin = v.kin; count = v.count; drawn = v.drawn }

abbrev pub with_drawn : Option ℕ → View → View
with_drawn d v = record { live = v.live; rules = v.rules; number = v.number; seen = v.seen; all = v.all; mine = v.mine; flight = v.flight; out = v.out; kin = v.kin; count = v.count; drawn = d }

-- the number drawn goes out
abbrev pub gave : View → View
gave v = record { live = v.live; rules = v.rules; number = v.number; seen = v.seen; all = v.all; mine = v.mine; flight = v.flight; out = number_of v.drawn v.out; kin = v.kin; count = v.count; drawn = None }
  where
    number_of : Option ℕ → List ℕ → List ℕ
    number_of None xs = xs
    number_of (Some n) xs = n ∷ xs

abbrev pub given : View → View
given v = given_at v.drawn v.seen
  where
    given_at : Option ℕ → List Entry → View
    given_at None seen = note seen
    given_at (Some n) seen = pass n seen

-- the first splits of pass 0
abbrev pub counted : View → View
counted v = record { live = v.live; rules = v.rules; number = v.number; seen = v.seen; all = v.all; mine = v.mine; flight = v.flight; out = v.out; kin = v.kin; count = v.count + 1; drawn = v.drawn }

abbrev pub next_of : View → View
next_of v = pass (v.count + 1) v.seen

abbrev pub noted : View → View
noted v = note v.seen

abbrev pub longer : List Entry → List Entry → List Entry
longer xs ys = cond (nat_lt (length xs) (length ys)) ys xs

abbrev pub without : ℕ → List ℕ → List ℕ
without n [] = []
without n (x ∷ xs) = cond (x == n) (without n xs) (x ∷ without n xs)

-- a note is joined into a pass
abbrev pub told : View → View → View
told v w = sees (longer v.seen w.seen) v

-- a pass is joined into a pass
abbrev pub joined : View → View → View
joined v w = record { live = v.live; rules = v.rules; number = v.number; seen = longer v.seen w.seen; all = v.all; mine = v.mine; flight = v.flight; out = without w.number v.out; kin = v.kin ++ (w.number, w.mine) ∷ w.kin; count = v.count; drawn = v.drawn }

abbrev pub Has : {A : Type 0} → List A → A → Type 0
Has xs x = (i : ℕ) × (get_elem? xs i ≡ some x)

-- KIN

-- the numbers of a pass and of those that were joined into it
abbrev pub numbers : View → List ℕ
numbers v = v.number ∷ map (λ (p : ℕ × List Entry). p.0) v.kin

-- no two of the numbers of a live pass are the same
abbrev pub AreApart : View → Type 0
AreApart v = v.live ≡ true → IsDistinct (λ a b. a == b) (numbers v)

-- each that was joined has these entries in a history
abbrev pub AreKin : List (ℕ × List Entry) → List Entry → Type 0
AreKin kin log = (k : ℕ) (m : List Entry) → Has kin (k, m) → entries_of k log ≡ m

-- a number is neither a pass's own, nor of one that was joined into it, nor out with it
abbrev pub IsNewTo : View → ℕ → Type 0
IsNewTo v n = (list_any (λ k. k == n) (numbers v) ≡ false) × (list_any (λ k. k == n) v.out ≡ false)

-- THE RULE

pub record Fits (log : List Entry) (role : ℕ → Role) (by : ℕ) (v : View) : Type 0 where
  pub prefix : IsOlder v.seen log
  pub whole : v.rules ≡ true → v.all ≡ log
  pub holds : v.live ≡ true → role v.number ≡ held by
  pub mine : v.live ≡ true → entries_of v.number log ≡ v.flight ++ v.mine
  pub landed : v.rules ≡ false → v.flight ≡ []
  pub draws : (k : ℕ) → v.drawn ≡ Some k → (role k ≡ drawn_by by) × (v.number < k) × (17 < k) × (v.live ≡ true)
  pub kin : (k : ℕ) (m : List Entry) → Has v.kin (k, m) → (role k ≡ kin_of by) × (entries_of k log ≡ m)
  pub low : v.live ≡ true → 1 ≤ v.number → v.number ≤ 17 → (v.out ≡ []) × (v.kin ≡ [])
  pub count : v.live ≡ true → v.number ≡ 0 → (k : ℕ) → v.count < k → k ≤ 17 → role k ≡ nobody_yet
  pub apart : AreApart v
  pub out : (k : ℕ) → Has v.out k → role k ≡ nobody_yet → ⊥

-- the number is that of a live view; if it is above 17, it is out with a live view of a smaller number
abbrev pub IsHolder : List View → ℕ → ℕ → Type 0
IsHolder views k by = (v : View) × (get_elem? views by ≡ some v) × (v.live ≡ true) × (v.number ≡ k)
    × (17 < k → (at : ℕ) × (u : View) × (get_elem? views at ≡ some u) × (u.live ≡ true) × (u.number < k) × Has u.out k)

abbrev pub IsKinHolder : List View → ℕ → ℕ → Type 0
IsKinHolder views k by = (v : View) × (get_elem? views by ≡ some v) × (v.live ≡ true) × (m : List Entry) × Has v.kin (k, m)

pub record IsKept (words : List ℕ) (views : List View) (log : List Entry) (role : ℕ → Role) (at : ℕ) (next : ℕ) : Type 0 where
  pub cells : words ≡ length log ∷ next ∷ []
  pub each : (by : ℕ) (v : View) → get_elem? views by ≡ some v → Fits log role by v
  pub one : (by : ℕ) (v : View) → get_elem? views by ≡ some v → v.rules ≡ true → by ≡ at
  pub quiet : (k : ℕ) → role k ≡ nobody_yet → entries_of k log ≡ []
  pub undrawn : (k by : ℕ) → role k ≡ drawn_by by → entries_of k log ≡ []
  pub holder : (k by : ℕ) → role k ≡ held by → IsHolder views k by
  pub kin_holder : (k by : ℕ) → role k ≡ kin_of by → IsKinHolder views k by
  pub fresh : (k : ℕ) → next ≤ k → 17 < k → role k ≡ nobody_yet
  pub high : 17 < next

abbrev pub Kept : State Entry View → Type 0
Kept s = (log : List Entry) × (role : ℕ → Role) × (at : ℕ) × (next : ℕ) × IsKept s.words s.views log role at next

-- the pass with the right appends the entry that it announces
abbrev pub Posts : Step Entry → Me Entry View → ℕ → Me Entry View → Type 0
Posts s v found w = (e : Entry) × (s.said ≡ some e) × (w ≡ (posted e v.0, v.1))

-- the pass takes the entry in flight
abbrev pub Takes : Step Entry → Me Entry View → ℕ → Me Entry View → Type 0
Takes s v found w = w ≡ (taken v.0, v.1)

-- the pass with the right looks at the history, which begins with what it had seen
abbrev pub Looks : Step Entry → Me Entry View → ℕ → Me Entry View → Type 0
Looks s v found w = (w ≡ (looked v.0, v.1)) × IsOlder v.0.seen v.0.all × (v.0.live ≡ true → entries_of v.0.number v.0.all ≡ v.0.flight ++ v.0.mine) × AreKin v.0.kin v.0.all × AreApart v.0

-- the number found was drawn, or another drew first
abbrev pub Draws : Step Entry → Me Entry View → ℕ → Me Entry View → Type 0
Draws s v found w = MatchBool (found == s.first) ((w ≡ (with_drawn (Some s.first) v.0, v.1)) × (17 < s.first) × (entries_of s.first v.0.seen ≡ []) × IsNewTo v.0 s.first) (w ≡ v)

-- the first pass learns that the next number has no entry
abbrev pub Counting : Step Entry → Me Entry View → ℕ → Me Entry View → Type 0
Counting s v found w = (w ≡ v) × (entries_of (v.0.count + 1) v.0.seen ≡ []) × IsNewTo v.0 (v.0.count + 1)

-- a pass of a client, which may split and append
abbrev pub IsClient : View → Type 0
IsClient v = (v.live ≡ true) × (1 ≤ v.number → 17 < v.number)

-- what is known of a pass between two calls
abbrev pub IsAtRest : Setting → View → Type 0
IsAtRest setting v = (v.rules ≡ false) × (v.all ≡ []) × (v.drawn ≡ None) × IsLegal setting v.seen × (v.live ≡ true → v.mine ≡ entries_of v.number v.seen) × (v.flight ≡ []) × AreKin v.kin v.seen × AreApart v

-- a pass between two calls that has seen this history
abbrev pub knows : List Entry → View → View
knows seen v = with_right false [] (sees seen v)

-- the history and the caller's own entries each with one more
abbrev pub extends : Entry → List Entry → View → View
extends e before v = record { live = v.live; rules = false; number = v.number; seen = e ∷ before; all = []; mine = e ∷ v.mine; flight = []; out = v.out; kin = v.kin; count = v.count; drawn = v.drawn }

-- where a pass was split: the new one has a new number, which is out
abbrev pub IsSplit : View → View → View → Type 0
IsSplit v w new = MatchBool ((v.number == 0) && nat_lt v.count 17)
    ((w ≡ counted v) × (new ≡ pass (v.count + 1) v.seen))
    ((17 < new.number) × (new ≡ pass new.number v.seen) × (w ≡ record { live = v.live; rules = v.rules; number = v.number; seen = v.seen; all = v.all; mine = v.mine; flight = v.flight; out = new.number ∷ v.out; kin = v.kin; count = v.count; drawn = v.drawn }))

-- what is known of a pass that has the right
abbrev pub IsHeld : Setting → List Entry → View → Type 0
IsHeld setting log v = (v.rules ≡ true) × (v.all ≡ log) × (v.seen ≡ log) × (v.drawn ≡ None) × IsLegal setting log × (v.live ≡ true → entries_of v.number log ≡ v.mine) × (v.flight ≡ []) × AreKin v.kin log × AreApart v

-- what the first pass knows once its passes are joined back: its own entries, those of its kin, and that no other client has an entry
abbrev pub IsSettled : List Entry → View → Type 0
IsSettled log v =
    (entries_of 0 log ≡ v.mine)
    × ((k : ℕ) (m : List Entry) → Has v.kin (k, m) → entries_of k log ≡ m)
    × ((k : ℕ) → 17 < k → (entries_of k log ≡ []) ⊎ Has v.kin (k, entries_of k log))

-- the first pass, with the right and nothing out, learns that
abbrev pub Settles : Step Entry → Me Entry View → ℕ → Me Entry View → Type 0
Settles s v found w = (w ≡ v) × IsSettled v.0.all v.0

-- a pass learns that its numbers are apart
abbrev pub Knows : Step Entry → Me Entry View → ℕ → Me Entry View → Type 0
Knows s v found w = (w ≡ v) × AreApart v.0
