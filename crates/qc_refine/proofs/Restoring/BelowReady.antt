-- Below a ready top, whoever stands under a live parent has ended, and is listed where it was aborted.
use Rattle.std.proofs.Common.{◌≡◌, ℕ, ◌<◌, ◌⊎◌, inl, inr, Bool, true, false, [], ◌∷◌, ◌++◌, ◌&&◌, length, refl, sym, ap, ◌∙◌, subst, arith, append-nil, append_assoc}
use mathlib.Core.Bool.{true≢false}
use Rattle.std.specs.Prelude.{Option, None, Some, is_some, not, if◌then◌else◌, option_to_list}
use Rattle.std.specs.Option.{option_or}
use Rattle.std.specs.List.{Contains}
use Rattle.std.proofs.lemmas.Bool.{and_from, both_ways, cond-true, cond-false, false_from_ne_true, not-true}
use Rattle.std.proofs.lemmas.List.{length-append}
use Rattle.std.proofs.lemmas.List.Elements.{Contains-append_left, Contains-append_right}
use Rattle.qc_names.specs.Name as name
use Rattle.qc_event.specs.declared.event.Entry.{Entry}
use Rattle.qc_event.specs.declared.event.Event.{Event}
use Rattle.qc_event.specs.declared.event.Event.TheVariants as event
use Rattle.qc_event.specs.declared.event.Cause.{Cause}
use Rattle.qc_event.specs.declared.event.How.{How}
use Rattle.qc_event.specs.declared.event.How.TheVariants.{Commit, Abort}
use Rattle.qc_event.specs.History.{Past, Name, same, start, end, is_ready, ready_in, every}
use Rattle.qc_event.specs.Dead.{dead, outcome, outcome_of, is_aborted, is_committed}
use Rattle.qc_event.specs.Standing.{open_child}
use Rattle.qc_event.proofs.Absent.{other_length, same_itself}
use Rattle.qc_event.proofs.LastNumber.{EndsIn, ends_in, by_last, is_ancestor-append, front_last, length_last}
use Rattle.qc_event.proofs.OneEntry.{Starting, some_or_none, start_step, end_step, end_stays, ready_step, marking}
use Rattle.qc_event.proofs.Orderly.{Orderly, KeepsOrder, BecomesReady}
use Rattle.qc_event.proofs.Lawful.{Lawful, lawful, ChildStart, child_starts, no_open_child, parent_started}
use Rattle.qc_event.proofs.Later.{alive_before}
use Rattle.qc_event.proofs.Lineage.{dead_parent, alive_not_aborted}
use Rattle.qc_event.specs.Listed.{aborted_in, aborted_below, listed}

-- ENDS THAT STAY

aborted_is : (o : Option How) → is_aborted (outcome_of o) ≡ true → (c : Cause) × (o ≡ Some (Abort c))
aborted_is None h = absurd (true≢false (sym h))
aborted_is (Some (Commit given)) h = absurd (true≢false (sym h))
aborted_is (Some (Abort c)) h = (c, refl)

-- an end stays as it is
pub same_end : (e : Entry) (past : Past) (n : Name) → is_some (end past n) ≡ true → end (e ∷ past) n ≡ end past n
same_end e past n h = first (end past n) _ h
  where
    first : (a b : Option How) → is_some a ≡ true → option_or a b ≡ a
    first None b h = absurd (true≢false (sym h))
    first (Some x) b h = refl

pub still_aborted : (e : Entry) (past : Past) (n : Name) → is_aborted (outcome past n) ≡ true → is_aborted (outcome (e ∷ past) n) ≡ true
still_aborted e past n h = let was = aborted_is (end past n) h in ap (λ o. is_aborted (outcome_of o)) (same_end e past n (ap is_some was.1)) ∙ h

-- WHO STANDS BELOW

-- below a top, whoever stands under a live parent has ended, and is listed where it was aborted
abbrev pub IsSettledBelow : Past → Name → Type 0
IsSettledBelow past t = (r : Name) (j : ℕ) → dead past (t ++ r) ≡ None → is_some (start past ((t ++ r) ++ j ∷ [])) ≡ true
    → (is_some (end past ((t ++ r) ++ j ∷ [])) ≡ true) × (is_aborted (outcome past ((t ++ r) ++ j ∷ [])) ≡ true → Contains (listed past t) ((t ++ r) ++ j ∷ []))

longer : (t r : Name) → 0 < length t → 0 < length (t ++ r)
longer t r pos = omega (arith, length-append t r, pos)

pub committed_or : (o : Option How) → is_some o ≡ true → is_aborted (outcome_of o) ≡ false → is_committed (outcome_of o) ≡ true
committed_or None h a = absurd (true≢false (sym h))
committed_or (Some (Commit given)) h a = refl
committed_or (Some (Abort c)) h a = absurd (true≢false a)

-- A TOP BECOMES READY

module _ (past : Past) (t : Name) (law : Lawful past) (pos : 0 < length t) (none : open_child past t ≡ None) where
  abbrev Ended : Name → Type 0
  Ended r = (j : ℕ) → dead past (t ++ r) ≡ None → is_some (start past ((t ++ r) ++ j ∷ [])) ≡ true → is_some (end past ((t ++ r) ++ j ∷ [])) ≡ true

  at_top : Ended []
  at_top j alive h =
      let same : (t ++ []) ++ j ∷ [] ≡ t ++ j ∷ [] = ap (λ n. n ++ j ∷ []) (append-nil t) in
      ap (λ n. is_some (end past n)) same ∙ no_open_child past t j none (ap (λ n. is_some (start past n)) (sym same) ∙ h)

  further : (r : Name) (k : ℕ) → Ended r → Ended (r ++ k ∷ [])
  further r k before j alive h =
      let same : t ++ (r ++ k ∷ []) ≡ (t ++ r) ++ k ∷ [] = sym (append_assoc t r (k ∷ [])) in
      let q : Name = (t ++ r) ++ k ∷ [] in
      let lives : dead past ((t ++ r) ++ k ∷ []) ≡ None = ap (dead past) (sym same) ∙ alive in
      let began : is_some (start past (((t ++ r) ++ k ∷ []) ++ j ∷ [])) ≡ true = ap (λ n. is_some (start past (n ++ j ∷ []))) (sym same) ∙ h in
      let long : 0 < length ((t ++ r) ++ k ∷ []) = omega (arith, length_last (t ++ r) k) in
      let ended = before k (dead_parent past (t ++ r) k lives) (parent_started past ((t ++ r) ++ k ∷ []) j law long began) in
      let done = committed_or (end past ((t ++ r) ++ k ∷ [])) ended (alive_not_aborted past ((t ++ r) ++ k ∷ []) lives) in
      ap (λ n. is_some (end past (n ++ j ∷ []))) same ∙ law.committed_closed ((t ++ r) ++ k ∷ []) j long done began

  all_ended : (r : Name) → Ended r
  all_ended = by_last Ended at_top further

-- an aborted name under a live parent is among those that are aborted below
among : (whole past : Past) (t n : Name) (c : Cause) → (name.is_ancestor t n && not (same t n) && not (is_aborted (outcome whole (name.front n)))) ≡ true
    → end past n ≡ Some (Abort c) → Contains (every (λ e. aborted_in whole t e.event) past) n
among whole [] t n c test is = absurd cc
among whole (e ∷ past) t n c test is = elim (end_step e past n (Abort c) is) [
  | inl old ↦ Contains-append_left (every (λ x. aborted_in whole t x.event) past) (option_to_list (aborted_in whole t e.event)) n (among whole past t n c test old)
  | inr new ↦ Contains-append_right (every (λ x. aborted_in whole t x.event) past) (option_to_list (aborted_in whole t e.event)) n
      (subst (λ o. Contains (option_to_list o) n) (sym (ap (aborted_in whole t) new.1 ∙ cond-true _ (Some n) None test)) (0, omega arith, refl))
]

below_test : (past : Past) (t r : Name) (j : ℕ) → dead past (t ++ r) ≡ None → (name.is_ancestor t ((t ++ r) ++ j ∷ []) && not (same t ((t ++ r) ++ j ∷ [])) && not (is_aborted (outcome past (name.front ((t ++ r) ++ j ∷ []))))) ≡ true
below_test past t r j alive =
    let n : Name = (t ++ r) ++ j ∷ [] in
    and_from _ _ (and_from _ _
    (ap (name.is_ancestor t) (append_assoc t r (j ∷ [])) ∙ is_ancestor-append t (r ++ j ∷ []))
    (ap not (other_length t ((t ++ r) ++ j ∷ []) (λ l. omega (arith, l, length_last (t ++ r) j, length-append t r)))))
    (ap (λ m. not (is_aborted (outcome past m))) (front_last (t ++ r) j) ∙ ap not (alive_not_aborted past (t ++ r) alive))

-- ONE ENTRY AFTER ANOTHER

is_now_ready : (t : Name) (ev : Event) → ev ≡ event.Ready t → is_some (ready_in t ev) ≡ true
is_now_ready t ev is = ap (λ x. is_some (ready_in t x)) is ∙ ap (λ (b : Bool). is_some {T = Unit {0}} (if b then Some tt else None)) (same_itself t)

module _ (e : Entry) (past : Past) (t : Name) (law : Lawful past) (keeps : KeepsOrder past e.event) (pos : 0 < length t) where
  pub becomes_settled : e.event ≡ event.Ready t → IsSettledBelow (e ∷ past) t
  becomes_settled now r j alive h =
      let ready : BecomesReady past t = subst (KeepsOrder past) now keeps in
      let n : Name = (t ++ r) ++ j ∷ [] in
      let lived = alive_before (e ∷ []) past (t ++ r) alive in
      let began : is_some (start past ((t ++ r) ++ j ∷ [])) ≡ true = elim (start_step e past ((t ++ r) ++ j ∷ []) h) [
        | inl old ↦ old
        | inr new ↦ absurd (let both : event.Start ((t ++ r) ++ j ∷ []) new.1.0 ≡ event.Ready t = sym new.1.1 ∙ now in cc)
      ] in
      let ended = all_ended past t law pos ready.children_ended r j lived began in
      let same : listed (e ∷ past) t ≡ aborted_below past t = cond-true _ (aborted_below past t) (listed past t) (is_now_ready t e.event now) in (
        end_stays e past ((t ++ r) ++ j ∷ []) ended,
        λ aborted.
            let was = aborted_is (end past ((t ++ r) ++ j ∷ [])) (sym (ap (λ o. is_aborted (outcome_of o)) (same_end e past ((t ++ r) ++ j ∷ []) ended)) ∙ aborted) in
            subst (λ l. Contains l ((t ++ r) ++ j ∷ [])) (sym same) (among past past t ((t ++ r) ++ j ∷ []) was.0 (below_test past t r j lived) was.1),
      )

  pub not_again : is_ready past t ≡ true → listed (e ∷ past) t ≡ listed past t
  not_again ready = cond-false _ (aborted_below past t) (listed past t) (false_from_ne_true _ (λ again.
      let twice : BecomesReady past t = subst (KeepsOrder past) (marking t e.event again) keeps in
      both_ways (is_ready past t) (not-true (is_ready past t) twice.not_ready) ready))

  no_more : is_ready past t ≡ true → IsSettledBelow past t → (r : Name) (j : ℕ) → dead past (t ++ r) ≡ None → Starting ((t ++ r) ++ j ∷ []) e.event → ⊥
  no_more ready settled r j alive starting = by_rest (ends_in r)
    where
      child : ChildStart past (t ++ r) j starting.0
      child = child_starts past e (t ++ r) j (longer t r pos) starting keeps

      by_rest : (r ≡ []) ⊎ EndsIn r → ⊥
      by_rest (inl none) = child.not_ready (ap (λ s. is_ready past (t ++ s)) none ∙ ap (is_ready past) (append-nil t) ∙ ready)
      by_rest (inr (s, k, is)) =
          let same : t ++ r ≡ (t ++ s) ++ k ∷ [] = ap (λ x. t ++ x) is ∙ sym (append_assoc t s (k ∷ [])) in
          let lives : dead past ((t ++ s) ++ k ∷ []) ≡ None = ap (dead past) (sym same) ∙ alive in
          let began : is_some (start past ((t ++ s) ++ k ∷ [])) ≡ true = ap (λ n. is_some (start past n)) (sym same) ∙ child.going.is_open.started in
          some_or_none (end past ((t ++ s) ++ k ∷ [])) (settled s k (dead_parent past (t ++ s) k lives) began).0 (ap (end past) (sym same) ∙ child.going.is_open.not_ended)

  pub stays_settled : is_ready past t ≡ true → IsSettledBelow past t → IsSettledBelow (e ∷ past) t
  stays_settled ready settled r j alive h = elim (start_step e past ((t ++ r) ++ j ∷ []) h) [
    | inl began ↦
        let was = settled r j (alive_before (e ∷ []) past (t ++ r) alive) began in (
          end_stays e past ((t ++ r) ++ j ∷ []) was.0,
          λ aborted.
              subst (λ l. Contains l ((t ++ r) ++ j ∷ [])) (sym (not_again ready))
              (was.1 (sym (ap (λ o. is_aborted (outcome_of o)) (same_end e past ((t ++ r) ++ j ∷ []) was.0)) ∙ aborted)),
        )
    | inr new ↦ absurd (no_more ready settled r j (alive_before (e ∷ []) past (t ++ r) alive) new.1)
  ]

pub settled_below : (past : Past) (t : Name) → Orderly past → 0 < length t → is_ready past t ≡ true → IsSettledBelow past t
settled_below [] t orderly pos ready = absurd (true≢false (sym ready))
settled_below (e ∷ past) t orderly pos ready = elim (ready_step e past t ready) [
  | inl old ↦ stays_settled e past t (lawful past orderly.0) orderly.1 pos old (settled_below past t orderly.0 pos old)
  | inr now ↦ becomes_settled e past t (lawful past orderly.0) orderly.1 pos now
]
