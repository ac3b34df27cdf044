use Rattle.std.proofs.Common.{◌≡◌, ℕ, ◌∙◌, sym, ap, refl, true, false, not}
use Rattle.std.specs.Prelude.{Option, None, Some, is_some}
use Rattle.std.specs.Option.{option_or}
use Rattle.qc_event.specs.History.{Name}
use Rattle.qc_config.specs.Copies.{with}
use Rattle.qc_managers.specs.declared.heard.Heard.{Heard}
use Rattle.qc_managers.proofs.HeardMore.{heard_block}
use Rattle.qc_managers.proofs.heard.Heard.blocked.Goals as goal

first_kept : {X : Type 0} (o : Option X) (x : X) → is_some o ≡ true → option_or o (Some x) ≡ o
first_kept None x h = absurd cc
first_kept (Some y) x h = refl

first_taken : {X : Type 0} (o : Option X) (x : X) → is_some o ≡ false → option_or o (Some x) ≡ Some x
first_taken None x h = refl
first_taken (Some y) x h = absurd cc

pub returns-then-is_none : goal.returns-then-is_none
returns-then-is_none c = λ told is.
    let block : ℕ × Name = (c.args.copy, c.args.holder.now) in
    rw (c.with-self.ensures, ← first_taken c.args.self.now.blocked block (c.is_none.ensures ∙ ap not c.if-is_none.true))
    (ap (λ (h : Heard). record h { asked = with h.asked c.args.copy; blocked = option_or h.blocked (Some block) }) is ∙ sym (heard_block told c.args.copy c.args.holder.now c.requires))

pub returns-else-is_none : goal.returns-else-is_none
returns-else-is_none c = λ told is.
    let block : ℕ × Name = (c.args.copy, c.args.holder.now) in
    let kept = first_kept c.args.self.now.blocked block (c.is_none.ensures ∙ ap not c.if-is_none.false) in
    rw c.with-self.ensures
    (ap (λ b. record c.args.self.now { asked = with c.args.self.now.asked c.args.copy; blocked = b }) (sym kept)
    ∙ ap (λ (h : Heard). record h { asked = with h.asked c.args.copy; blocked = option_or h.blocked (Some block) }) is
    ∙ sym (heard_block told c.args.copy c.args.holder.now c.requires))
