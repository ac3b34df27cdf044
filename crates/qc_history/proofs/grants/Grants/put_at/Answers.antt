use Rattle.std.proofs.Common.{reverse, sym, ◌∙◌, ap, arith}
use Rattle.std.specs.Prelude.{option_and_then, slice_index, if◌then◌else◌, None, Some}
use Rattle.std.specs.Option.{option_map}
use Rattle.std.proofs.lemmas.Option.{same_Some, slice_get_past}
use Rattle.qc_event.specs.Clear.{is_get}
use Rattle.qc_event.specs.declared.event.Entry.{Entry}
use Rattle.qc_event.specs.declared.event.Grant.{Grant}
use Rattle.qc_event.specs.History.{grants}
use Rattle.qc_trail.specs.Outline.{outline_of}
use Rattle.qc_trail.proofs.Outlined.{outlined}
use Rattle.qc_history.proofs.GrantPlaces.{all_listed, reads}
use Rattle.qc_history.proofs.Outlines.{no_put_there, put_there}
use Rattle.qc_history.proofs.grants.Grants.put_at.Goals as goal

pub outline-requires : goal.outline-requires
outline-requires c = (reads c.args.entries.now _ c.requires.kept c.args.copy _ c.places-places.ensures c.args.index (omega arith)).within

pub returns-then-index-places : goal.returns-then-index-places
returns-then-index-places c =
    let many = all_listed c.args.entries.now _ c.requires.kept c.args.copy _ c.places-places.ensures in
    sym (ap (option_and_then (λ (g : Grant). if is_get g.op then None else Some g)) (slice_get_past (grants (reverse c.args.entries.now) c.args.copy) c.args.index (omega arith)))

pub returns-in-Put : goal.returns-in-Put
returns-in-Put c =
    let on = reads c.args.entries.now _ c.requires.kept c.args.copy _ c.places-places.ensures c.args.index (omega arith) in
    let e = c.at.result in
    let grant = on.grant e c.at.ensures in
    let of = sym (same_Some (outline_of e.event) c.outline.result (ap (option_map (λ (x : Entry). outline_of x.event)) (sym c.at.ensures) ∙ c.outline.ensures)) in
    c.grant_of.ensures ∙ grant.1 ∙ put_there (grants (reverse c.args.entries.now) c.args.copy) c.args.index e.event grant.0 c.outline.result grant.1 of c.in-Put.is grant.2

pub returns-in_default : goal.returns-in_default
returns-in_default c =
    let on = reads c.args.entries.now _ c.requires.kept c.args.copy _ c.places-places.ensures c.args.index (omega arith) in
    let here = outlined c.args.entries.now (slice_index c.places-places.result.now c.args.index) c.outline.result c.outline.ensures in
    let grant = on.grant here.entry here.there in
    no_put_there (grants (reverse c.args.entries.now) c.args.copy) c.args.index here.entry.event grant.0 c.outline.result grant.1 here.is c.in_default.not-Put grant.2
