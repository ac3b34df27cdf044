use Rattle.std.proofs.Common.{◌≡◌, ℕ, Option, None, Some, map, refl, sym, subst, ◌∙◌}
use Rattle.std.specs.Prelude.{◌↔◌, option_map, string_bytes}
use Rattle.qc_run.specs.Commands.{asked_by, chosen_in}
use Rattle.qc_run.specs.Words.{Asked, Chosen, IsCommand, asked_as}
use Rattle.qc_run.proofs.OneCommand.{audit_found, audit_words, found_command, no_command}
use Rattle.qc_run.proofs.words.command_of.Goals as goal

pub returns-then-is_audit : goal.returns-then-is_audit
returns-then-is_audit c =
    let words = map string_bytes c.args.words.now in
    found_command words Asked.audit (audit_words words (sym c.is_audit.ensures ∙ c.if-is_audit.true))

pub returns-in-Some : goal.returns-in-Some
returns-in-Some c = found_command (map string_bytes c.args.words.now) (Asked.made_of c.in-Some.number) ((c.in-Some.ensures c.in-Some.number).0 refl)

nothing : (o : Option ℕ) (n : ℕ) → o ≡ None → o ≡ Some n → ⊥
nothing o n a b = cc

unchosen : (chosen : Chosen) → ◌≡◌ {A = Option Chosen} None (Some chosen) → ⊥
unchosen chosen e = cc

pub returns-in_err-options_of_run : goal.returns-in_err-options_of_run
returns-in_err-options_of_run c =
    let words = map string_bytes c.args.words.now in
    subst (λ o. (asked : Asked) → (option_map asked_by o ≡ Some asked) ↔ IsCommand words asked) (sym c.from_residual.ensures)
    (no_command words (audit_found words (sym c.is_audit.ensures ∙ c.if-is_audit.false))
    (λ n gen. nothing c.number_of_gen.result n c.in_default.is ((c.number_of_gen.ensures n).1 gen))
    (λ chosen run. unchosen chosen ((c.in_err-options_of_run.ensures chosen).1 run)))

pub returns : goal.returns
returns c =
    let words = map string_bytes c.args.words.now in
    let chosen = chosen_in c.in_ok-options_of_run.field-0 in
    let run = (c.in_ok-options_of_run.ensures chosen).0 refl in
    subst (λ a. (asked : Asked) → (Some a ≡ Some asked) ↔ IsCommand words asked) (sym c.run_with.ensures) (found_command words (asked_as chosen) (chosen, run, refl))
