use Rattle.std.proofs.Common.{◌≡◌, ℕ, ◌+◌, ◌<◌, ◌&&◌, true, false, nat_lt, refl, sym, ap, ◌∙◌, arith, subst}
use Rattle.std.specs.Prelude.{Option, None, Some, is_none, is_some}
use Rattle.std.proofs.lemmas.Bool.{and_from}
use Rattle.std.proofs.lemmas.Bool.Decides.{nat_tests}
use Rattle.qc_config.specs.Config.{votes_of}
use Rattle.qc_event.specs.Manager as words
use Rattle.qc_scan.proofs.Ranges.{first_in_range}
use Rattle.qc_scan.proofs.manager.next_copy.Goals as goal

unfound : {Y : Type 0} (o : Option Y) → is_some o ≡ false → is_none o ≡ true
unfound None h = refl
unfound (Some y) h = absurd cc

some_votes : (n : ℕ) → 0 < n → nat_lt 0 n ≡ true
some_votes n h = grind (arith, nat_tests)

pub returns-then-is_none : goal.returns-then-is_none
returns-then-is_none g c =
    let past = g.H.Looks.past c.args.h.now in
    let copy = c.loop-copy.copy in
    let own = λ (s : words.Stage). λ (j : ℕ). nat_lt 0 (votes_of s.config j) && is_none (words.ask_at past c.args.m.now s.phase j) in
    let votes : 0 < votes_of c.stage.inside.config copy = subst (λ n. 0 < n) c.votes.ensures c.if-votes-gt0.true in
    let unasked : is_none (words.ask_at past c.args.m.now c.stage.inside.phase copy) ≡ true = ap is_none (sym c.ask_at.ensures) ∙ unfound c.ask_at.result c.if-is_none.ensures in
    let here : own c.args.stage.now copy ≡ true = subst (λ (s : words.Stage). own s copy ≡ true) c.stage.view_is (and_from _ _ (some_votes _ votes) unasked) in
    let itself : copy ≡ 0 + copy = omega arith in
    ap Some itself ∙ sym (first_in_range (own c.args.stage.now) 0 16 copy (omega arith) (λ j lt. subst (λ k. own c.args.stage.now k ≡ false) (omega arith) (c.loop-copy.invariant j lt)) (subst (λ k. own c.args.stage.now k ≡ true) itself here))
