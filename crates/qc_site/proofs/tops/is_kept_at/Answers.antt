-- The top of an access is found by its number.
use Rattle.std.proofs.Common.{sym, ◌∙◌}
use Rattle.qc_site.proofs.Places.{kept_by_place, none_kept, not_kept}
use Rattle.qc_site.proofs.tops.is_kept_at.Goals as goal

pub returns-in_default : goal.returns-in_default
returns-in_default c = none_kept c.args.places.now c.args.tops.now c.requires c.args.access.now (sym c.number.ensures ∙ c.in_default.is)

pub returns-in-None : goal.returns-in-None
returns-in-None c = not_kept c.args.places.now c.args.tops.now c.requires c.args.access.now c.in-Some.number (sym c.number.ensures ∙ c.in-Some.is) c.in-None.ensures.value

pub returns-in-Some-get : goal.returns-in-Some-get
returns-in-Some-get c =
    c.keeps.ensures
    ∙ kept_by_place c.args.places.now c.args.tops.now c.requires c.args.access.now c.in-Some.number (sym c.number.ensures ∙ c.in-Some.is)
    c.in-Some-get.place.now c.index-tops-place.result c.in-Some-get.ensures.value c.index-tops-place.is
