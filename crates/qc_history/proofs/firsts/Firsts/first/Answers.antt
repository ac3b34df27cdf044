use Rattle.std.proofs.Common.{◌≡◌, ◌+◌, ◌-◌, reverse, sym, ap, ◌∙◌, arith}
use Rattle.std.specs.Prelude.{slice_get, slice_index}
use Rattle.std.proofs.lemmas.List.{reverse-reverse}
use Rattle.qc_history.proofs.FirstEntries.{nothing_there, its_entry, is_there}
use Rattle.qc_history.proofs.firsts.Firsts.first.Goals as goal

pub returns-in_default : goal.returns-in_default
returns-in_default c = λ subject setting was names legal.
    let past = reverse c.args.entries.now in
    sym (was.only_started c.args.name.now (sym (c.place.ensures.place setting past names legal) ∙ c.in_default.is))

pub returns-then-after-eq0 : goal.returns-then-after-eq0
returns-then-after-eq0 c = λ subject setting was names legal.
    let past = reverse c.args.entries.now in
    let at = c.in-Some.place in
    sym (nothing_there subject past c.args.self.now.after.items c.args.name.now was at (sym (c.place.ensures.place setting past names legal) ∙ c.in-Some.is)
    (ap (λ ys. slice_index ys at) (sym c.deref.ensures.value) ∙ sym c.slot-after.ensures ∙ c.if-after-eq0.true))

pub returns : goal.returns
returns c = λ subject setting was names legal.
    let entries = c.args.entries.now in
    let past = reverse entries in
    let at = c.in-Some.place in
    let i = c.slot-after.result - 1 in
    let some : c.slot-after.result ≡ i + 1 = omega (arith, c.if-after-eq0.false) in
    let found = its_entry subject past c.args.self.now.after.items c.args.name.now was at i (sym (c.place.ensures.place setting past names legal) ∙ c.in-Some.is)
    (ap (λ ys. slice_index ys at) (sym c.deref.ensures.value) ∙ sym c.slot-after.ensures ∙ some) in
    c.get.ensures ∙ ap (λ xs. slice_get xs i) (sym (reverse-reverse entries)) ∙ is_there subject past c.args.self.now.after.items c.args.name.now was i found
