use Rattle.std.proofs.Common.{ap, reverse, subst, sym, ◌∙◌}
use Rattle.qc_event.specs.declared.event.Entry.{Entry}
use Rattle.qc_event.specs.History.{start_in}
use Rattle.qc_history.specs.Places.{IsWhere}
use Rattle.qc_history.proofs.Outlines.{access_told, no_access_told, starts_access}
use Rattle.qc_history.proofs.index.Index.is_access.Goals as goal

pub returns-in-StartAccess : goal.returns-in-StartAccess
returns-in-StartAccess c = λ setting is legal.
    let entries = c.args.entries.now in
    let n = c.args.name.now in
    let found = subst (IsWhere (λ (e : Entry). start_in n e.seat e.event) (reverse entries)) c.in-Some.is (c.start.ensures setting (reverse entries) is legal) in
    sym (ap starts_access c.in-StartAccess.is) ∙ access_told entries n c.in-Some.at c.outline.result found c.outline.ensures

pub returns-in_default-matches : goal.returns-in_default-matches
returns-in_default-matches c = λ setting is legal.
    let entries = c.args.entries.now in
    let n = c.args.name.now in
    let found = subst (IsWhere (λ (e : Entry). start_in n e.seat e.event) (reverse entries)) c.in-Some.is (c.start.ensures setting (reverse entries) is legal) in
    no_access_told c.outline.result c.in_default-matches.not-StartAccess ∙ access_told entries n c.in-Some.at c.outline.result found c.outline.ensures
