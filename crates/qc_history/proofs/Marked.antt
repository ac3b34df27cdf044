-- Which sessions are not marked.
use Rattle.std.proofs.Common.{◌≡◌, ℕ, ◌≤◌, Bool, false, [], ◌∷◌, refl, ap, ◌∙◌, arith}
use Rattle.std.specs.Prelude.{Option, None, Some, ◌==◌, ◌&&◌, ◌||◌, nat_le}
use Rattle.std.specs.Option.{option_map_or}
use Rattle.std.proofs.lemmas.Bool.{leb-true, eqb-true, false_from_ne_true}
use Rattle.qc_event.specs.Base.{Setting}
use Rattle.qc_event.specs.declared.event.Entry.{Entry}
use Rattle.qc_event.specs.declared.event.Event.{Event}
use Rattle.qc_event.specs.declared.event.Event.TheVariants as event
use Rattle.qc_event.specs.History.{Past, Name}
use Rattle.qc_event.specs.Legal.{Legal, MayHappen}
use Rattle.qc_event.specs.Users.{is_marked, mark_of, top_number}

-- whether one mark marks a session for a number
abbrev marks_it : ℕ → ℕ → Option (Name × ℕ) → Bool
marks_it session number o = option_map_or (λ m. (m.1 == session) && nat_le number (top_number m.0)) o false

-- another entry, or the mark of another session, marks nothing
not_marked : (e : Entry) (past : Past) (session number : ℕ) (o : Option (Name × ℕ)) → mark_of e.event ≡ o → ((by : Name) (s : ℕ) → o ≡ Some (by, s) → s ≡ session → ⊥) → is_marked (e ∷ past) session number ≡ is_marked past session number
not_marked e past session number o is other = ap (λ b. b || is_marked past session number) (ap (marks_it session number) is ∙ nothing o other)
  where
    nothing : (o : Option (Name × ℕ)) → ((by : Name) (s : ℕ) → o ≡ Some (by, s) → s ≡ session → ⊥) → marks_it session number o ≡ false
    nothing None other = refl
    nothing (Some m) other = ap (λ b. b && nat_le number (top_number m.0)) (false_from_ne_true (m.1 == session) (λ same. other m.0 m.1 refl (eqb-true m.1 session same)))

-- no session above 15 is marked
pub none_above : (setting : Setting) (past : Past) (session number : ℕ) → Legal setting past → 16 ≤ session → is_marked past session number ≡ false
none_above setting [] session number legal high = refl
none_above setting (e ∷ past) session number legal high =
    not_marked e past session number (mark_of e.event) refl (λ by s is same. low e.event legal.1 by s is (omega (arith, same, high)))
    ∙ none_above setting past session number legal.0 high
  where
    low : (ev : Event) → MayHappen setting past e.seat ev → (by : Name) (s : ℕ) → mark_of ev ≡ Some (by, s) → 16 ≤ s → ⊥
    low (event.Mark m t) may by s is more =
        let same : t ≡ s = ap (λ (o : Option (Name × ℕ)). option_map_or (λ m. m.1) o 0) is in
        let small : t ≤ 15 = leb-true t 15 may.session_small in
        absurd (omega (arith, small, same, more))
    low _ may by s is more = absurd cc
