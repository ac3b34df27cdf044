use Rattle.std.proofs.Common.{◌≡◌, ◌<◌, ◌≤◌, ℕ, true, false, length, ◌∙◌, sym, ap, arith, inl, inr, nat_lt}
use Rattle.std.specs.Prelude.{◌&&◌, not, List, Bool}
use Rattle.std.proofs.lemmas.Bool.{lt-ltb, cases_lt}
use Rattle.std.proofs.lemmas.List.{get_or_past}
use Rattle.qc_config.specs.Config.{Voting, votes_of}
use Rattle.qc_config.specs.Copies.{has}
use Rattle.qc_managers.specs.declared.heard.Heard.{Heard}
use Rattle.qc_managers.specs.Told.{Told, was_asked}
use Rattle.qc_managers.specs.Heard.{heard}
use Rattle.qc_managers.proofs.HeardMore.{asked_at}
use Rattle.qc_managers.proofs.Rows.{found_first, found_none}
use Rattle.qc_managers.proofs.heard.Heard.unasked.Goals as goal

-- a copy with votes that was not asked, by the list and by the marks
is_next : Voting → List Told → ℕ → Bool
is_next config told copy = nat_lt 0 (votes_of config copy) && not (was_asked told copy)

by_marks : (config : Voting) (told : List Told) (h : Heard) (copy : ℕ) → h ≡ heard told → copy < 16 → is_next config told copy ≡ (nat_lt 0 (votes_of config copy) && not (has h.asked copy))
unfolding is_next
by_marks config told h copy is within = ap (λ b. nat_lt 0 (votes_of config copy) && not b) (asked_at told h copy is within)

pub returns-then-not-has-clause-next : goal.returns-then-not-has-clause-next
unfolding is_next
returns-then-not-has-clause-next c = λ told is.
    let config = c.args.config.now in
    let copy = c.loop-copy.copy in
    let has_votes : nat_lt 0 (votes_of config copy) ≡ true = lt-ltb 0 (votes_of config copy) (omega (arith, c.votes.ensures)) in
    let not_asked : has c.args.self.now.asked copy ≡ false = sym c.has.ensures ∙ c.if-not-has.true in
    sym (found_first (is_next config told) 0 16 copy (omega arith) (omega arith)
    (λ k before. by_marks config told c.args.self.now k is (omega arith) ∙ c.loop-copy.invariant k before)
    (by_marks config told c.args.self.now copy is (omega arith) ∙ ap (λ b. b && not (has c.args.self.now.asked copy)) has_votes ∙ ap not not_asked))

pub returns-clause-next : goal.returns-clause-next
unfolding is_next
returns-clause-next c = λ told is.
    let config = c.args.config.now in
    let past_list : (k : ℕ) → length config.votes ≤ k → votes_of config k ≡ 0 = λ k past. get_or_past config.votes k 0 past in
    sym (found_none (is_next config told) 0 16 (λ k within. elim (cases_lt k c.loop-copy.copy) [
      | inl before ↦ by_marks config told c.args.self.now k is (omega arith) ∙ c.loop-copy.invariant k before
      | inr past ↦ ap (λ v. nat_lt 0 v && not (was_asked told k)) (past_list k (omega (arith, c.count-copy-end.ensures.count)))
    ]))
