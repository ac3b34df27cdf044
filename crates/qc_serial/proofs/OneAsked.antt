-- Of a manager's accesses at most one that was asked is open.
use Rattle.std.proofs.Common.{◌≡◌, Bool, true, false, [], ◌∷◌, refl, sym, ap, ◌∙◌, subst, inl, inr}
use mathlib.Core.Bool.{true≢false}
use Rattle.std.specs.Prelude.{None, Some, is_some, is_none, find, option_to_list, if◌then◌else◌}
use Rattle.std.proofs.lemmas.List.Folds.{find-append}
use Rattle.qc_names.specs.Name as name
use Rattle.qc_event.specs.declared.event.Ask.{Ask}
use Rattle.qc_event.specs.declared.event.Entry.{Entry}
use Rattle.qc_event.specs.Base.{Setting}
use Rattle.qc_event.specs.History.{Past, Name, end, asked, asks, ask_below, is_child}
use Rattle.qc_event.specs.Manager.{waiting}
use Rattle.qc_event.specs.Requests.{MayAsk}
use Rattle.qc_event.specs.Legal.{Legal}
use Rattle.qc_event.proofs.LastNumber.{child_front}
use Rattle.qc_event.proofs.OneEntry.{open_before, none_before}
use Rattle.qc_event.proofs.SameEvents.{same_ask}
use Rattle.qc_serial.proofs.Accesses.{Asking, asked_step, may_ask}

-- what every request of a manager fails, each access that asked fails
pub no_ask_passes : (test : Name → Bool) (past : Past) (m a : Name) → is_child m a ≡ true → is_some (asked past a) ≡ true → find (λ (ask : Ask). test ask.access) (asks past m) ≡ None → test a ≡ false
no_ask_passes test [] m a is asks none = absurd (true≢false (sym asks))
no_ask_passes test (e ∷ past) m a is h none =
    let parts = none_before _ _ (sym (find-append (λ (ask : Ask). test ask.access) (asks past m) (option_to_list (ask_below m e.event))) ∙ none) in
    elim (asked_step e past a h) [
      | inl old ↦ no_ask_passes test past m a is old parts.0
      | inr new ↦ ap test (sym new.2) ∙ alone (test new.0.access) new.0 (sym (ap (λ o. find (λ (ask : Ask). test ask.access) (option_to_list o)) (below new)) ∙ parts.1)
    ]
  where
    below : (new : Asking a e.event) → ask_below m e.event ≡ Some new.0
    below new = ap (ask_below m) new.1 ∙ ap (λ b. if b then Some new.0 else None) (ap (is_child m) new.2 ∙ is)

    alone : (b : Bool) (ask : Ask) → (if b then Some ask else None) ≡ None → b ≡ false
    alone true ask h = absurd cc
    alone false ask h = refl

-- who asks finds no other open
asks_alone : (setting : Setting) (past : Past) (e : Entry) (m a b : Name) → is_child m a ≡ true → is_child m b ≡ true → (asks : Asking a e.event) → Legal setting (e ∷ past) → is_some (asked past b) ≡ true → end past b ≡ None → ⊥
asks_alone setting past e m a b is_a is_b asks legal asked_b going =
    let may : MayAsk setting past e.seat asks.0 = may_ask setting past e a asks legal.1 in
    let none : waiting past m ≡ None = subst (λ x. waiting past x ≡ None) (ap name.front asks.2 ∙ child_front m a is_a) may.nothing_open in
    true≢false (sym (ap is_none going) ∙ no_ask_passes (λ n. is_none (end past n)) past m b is_b asked_b none)

pub one_asked : (setting : Setting) (past : Past) (m a b : Name) → Legal setting past → is_child m a ≡ true → is_child m b ≡ true → is_some (asked past a) ≡ true → is_some (asked past b) ≡ true → end past a ≡ None → end past b ≡ None → a ≡ b
one_asked setting [] m a b legal is_a is_b asked_a asked_b open_a open_b = absurd (true≢false (sym asked_a))
one_asked setting (e ∷ past) m a b legal is_a is_b asked_a asked_b open_a open_b = elim (asked_step e past a asked_a) [
  | inl old_a ↦ elim (asked_step e past b asked_b) [
    | inl old_b ↦ one_asked setting past m a b legal.0 is_a is_b old_a old_b (open_before e past a open_a) (open_before e past b open_b)
    | inr new_b ↦ absurd (asks_alone setting past e m b a is_b is_a new_b legal old_a (open_before e past a open_a))
  ]
  | inr new_a ↦ elim (asked_step e past b asked_b) [
    | inl old_b ↦ absurd (asks_alone setting past e m a b is_a is_b new_a legal old_b (open_before e past b open_b))
    | inr new_b ↦ sym new_a.2 ∙ ap (λ (x : Ask). x.access) (same_ask new_a.0 new_b.0 (sym new_a.1 ∙ new_b.1)) ∙ new_b.2
  ]
]
