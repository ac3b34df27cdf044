-- Which requests were answered, and that they stay so.
use Rattle.std.proofs.Common.{◌≡◌, ◌⊎◌, zero, suc, Bool, true, List, [], ◌∷◌, ◌++◌, inl, inr, refl, ap, ◌∙◌, arith}
use Rattle.std.specs.Prelude.{None, Some, Contains, ◌||◌, map, is_some, if◌then◌else◌}
use Rattle.std.specs.List.{AllByRecursion, list_all}
use Rattle.std.proofs.lemmas.Bool.{and_from, and_parts, or_left, or_right}
use Rattle.qc_event.specs.declared.event.Answered.{Answered}
use Rattle.qc_event.specs.declared.event.Answered.TheVariants as answered
use Rattle.qc_event.specs.declared.event.Ask.{Ask}
use Rattle.qc_event.specs.declared.event.Entry.{Entry}
use Rattle.qc_event.specs.declared.event.Refusal.{Refusal}
use Rattle.qc_event.specs.declared.event.Refusal.TheVariants as refusal
use Rattle.qc_event.specs.declared.event.Why.TheVariants.{Down, Full, Strange}
use Rattle.qc_event.specs.History.{Past, Name, granted, grant_in, refused, refusal_in}
use Rattle.qc_event.specs.Requests.{was_unable}
use Rattle.qc_event.proofs.Absent.{same_itself}
use Rattle.qc_event.proofs.Booleans.{or_wider}
use Rattle.qc_event.proofs.OneEntry.{here_some, stays_some}
use Rattle.qc_event.proofs.StillTold.{some_stays}
use Rattle.qc_net.specs.Given.{Given}
use Rattle.qc_net.specs.Messages.{was_answered}
use Rattle.qc_desk.specs.Answers.{refused_entry, HasAnswered}
use Rattle.qc_desk.proofs.Answered.{unable_still}

-- WHAT STAYS

-- what was answered is answered for ever
answered_still : (newer past : Past) (n : Name) → was_answered past n ≡ true → was_answered (newer ++ past) n ≡ true
answered_still newer past n = or_wider _ _ _ _
    (or_wider _ _ _ _
    (or_wider _ _ _ _
    (or_wider _ _ _ _
    (some_stays (λ e. grant_in n e.event) newer past)
    (some_stays (λ e. refusal_in n e.event) newer past))
    (unable_still newer past n Down))
    (unable_still newer past n Full))
    (unable_still newer past n Strange)

pub all_answered_still : (newer past : Past) (requests : List Ask) → list_all (λ (a : Ask). was_answered past a.access) requests ≡ true → list_all (λ (a : Ask). was_answered (newer ++ past) a.access) requests ≡ true
all_answered_still newer past [] h = refl
all_answered_still newer past (a ∷ rest) h =
    let parts = and_parts (was_answered past a.access) (list_all (λ (x : Ask). was_answered past x.access) rest) h in
    and_from (was_answered (newer ++ past) a.access) (list_all (λ (x : Ask). was_answered (newer ++ past) x.access) rest) (answered_still newer past a.access parts.0) (all_answered_still newer past rest parts.1)

-- ENTRIES THAT STAND

cons_cases : {X : Type 0} (x y : X) (xs : List X) → Contains (x ∷ xs) y → (x ≡ y) ⊎ Contains xs y
cons_cases x y xs (zero, lt, is) = inl is
cons_cases x y xs (suc k, lt, is) = inr (k, omega arith, is)

-- what an entry that stands tells, the history does
refusal_in_past : (past : Past) (n : Name) (x : Entry) → Contains past x → is_some (refusal_in n x.event) ≡ true → is_some (refused past n) ≡ true
refusal_in_past [] n x (k, lt, is) h = absurd (omega arith)
refusal_in_past (e ∷ past) n x there h = elim (cons_cases e x past there) [
  | inl here ↦ here_some (refused past n) (refusal_in n e.event) (ap (λ (y : Entry). is_some (refusal_in n y.event)) here ∙ h)
  | inr older ↦ stays_some (refused past n) (refusal_in n e.event) (refusal_in_past past n x older h)
]

pub refusal_stands : (past : Past) (ask : Ask) (r : Refusal) → Contains past (refused_entry ask.copy ask r) → is_some (refused past ask.access) ≡ true
refusal_stands past ask r there = refusal_in_past past ask.access (refused_entry ask.copy ask r) there (ap (λ (b : Bool). is_some (if b then Some r else None)) (same_itself ask.access))

-- WHAT WAS DELIVERED

-- a request that has an answer was answered
answer_tells : (past : Past) (ask : Ask) (answer : Answered) → HasAnswered ask.copy past ask answer → was_answered past ask.access ≡ true
answer_tells past ask (answered.Granted t) is = or_left _ _ (or_left _ _ (or_left _ _ (or_left (is_some (granted past ask.access)) (is_some (refused past ask.access)) (ap is_some is))))
answer_tells past ask (answered.Blocked h) has = or_left _ _ (or_left _ _ (or_left _ _ (or_right (is_some (granted past ask.access)) (is_some (refused past ask.access)) (refusal_stands past ask (refusal.Blocked h) has))))
answer_tells past ask (answered.Dead a) has = or_left _ _ (or_left _ _ (or_left _ _ (or_right (is_some (granted past ask.access)) (is_some (refused past ask.access)) (refusal_stands past ask (refusal.Dead a) has))))
answer_tells past ask answered.Down has = or_left _ _ (or_left _ _ (or_right (is_some (granted past ask.access) || is_some (refused past ask.access)) (was_unable past ask.access Down) has))
answer_tells past ask answered.Full has = or_left _ _ (or_right (is_some (granted past ask.access) || is_some (refused past ask.access) || was_unable past ask.access Down) (was_unable past ask.access Full) has)
answer_tells past ask answered.Strange has = or_right (is_some (granted past ask.access) || is_some (refused past ask.access) || was_unable past ask.access Down || was_unable past ask.access Full) (was_unable past ask.access Strange) has

pub delivered_answered : (past : Past) (made : List Given) → AllByRecursion (λ (g : Given). HasAnswered g.ask.copy past g.ask g.answer) made → list_all (λ (a : Ask). was_answered past a.access) (map (λ (g : Given). g.ask) made) ≡ true
delivered_answered past [] all = refl
delivered_answered past (g ∷ made) all =
    and_from (was_answered past g.ask.access) (list_all (λ (a : Ask). was_answered past a.access) (map (λ (x : Given). x.ask) made)) (answer_tells past g.ask g.answer all.0) (delivered_answered past made all.1)
