-- Ready tops that are offered to be logged together, and where a draw puts them.
use Rattle.std.specs.Prelude.{◌≡◌, ◌⊎◌, ℕ, Bool, IsTrue, List, [], ◌∷◌, length, map, None, is_some}
use Rattle.std.specs.List.{All, list_any}
use Rattle.qc_event.specs.History.{Name, end, same}
use Rattle.qc_desk.specs.declared.store.Store.{Ghosts}
use Rattle.qc_desk.specs.Entries.{IsOlder}
use Rattle.qc_group.specs.declared.waiting.Waiting.{Waiting}

-- the tops of offers, in order
abbrev pub tops : {N : Type 0} {g : Ghosts N} → List (Waiting N g) → List Name
tops offers = map (λ w. w.top) offers

-- The second is the first, and its note has seen what the first one's had, and maybe more.
pub record IsLater {N : Type 0} {g : Ghosts N} (v w : Waiting N g) : Type 0 where
  pub same_top : w.top ≡ v.top
  pub same_aborted : w.aborted.items ≡ v.aborted.items
  pub seen : IsOlder v.pass.seen w.pass.seen

-- its top has no end in the history that its note has seen
abbrev pub IsOpenOffer : {N : Type 0} {g : Ghosts N} → Waiting N g → Type 0
IsOpenOffer w = end w.pass.seen w.top ≡ None

-- its top has its end there
abbrev pub IsEndedOffer : {N : Type 0} {g : Ghosts N} → Waiting N g → Type 0
IsEndedOffer w = IsTrue (is_some (end w.pass.seen w.top))

-- Where offers went, each once and in their order: those that were drawn, and those that stay. Each was shown the
-- history. It was drawn or stays where its top had no end there, and was dropped where it had.
pub data AreDivided {N : Type 0} {g : Ghosts N} : List (Waiting N g) → List (Waiting N g) → List (Waiting N g) → Type 0 where
  none : AreDivided [] [] []
  draws : (v w : Waiting N g) (offers taken left : List (Waiting N g)) → IsLater v w → IsOpenOffer w → AreDivided offers taken left → AreDivided (v ∷ offers) (w ∷ taken) left
  keeps : (v w : Waiting N g) (offers taken left : List (Waiting N g)) → IsLater v w → IsOpenOffer w → AreDivided offers taken left → AreDivided (v ∷ offers) taken (w ∷ left)
  drops : (v w : Waiting N g) (offers taken left : List (Waiting N g)) → IsLater v w → IsEndedOffer w → AreDivided offers taken left → AreDivided (v ∷ offers) taken left

-- a top is one's own, or that of an offer that was drawn
abbrev pub is_taken : {N : Type 0} {g : Ghosts N} → Name → List (Waiting N g) → Name → Bool
is_taken own drawn top = list_any (same top) (own ∷ tops drawn)

-- As many as were asked for were drawn, or each offer that stays is of one's own top, or of a top of which another was
-- drawn. All of them may be drawn later.
abbrev pub StayFor : {N : Type 0} {g : Ghosts N} → Name → ℕ → List (Waiting N g) → List (Waiting N g) → Type 0
StayFor own most drawn left = (length drawn ≡ most) ⊎ All (λ w. IsTrue (is_taken own drawn w.top)) left
