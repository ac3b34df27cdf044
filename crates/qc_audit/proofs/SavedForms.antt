-- What is saved of a legal history has the saved form.
use Rattle.std.proofs.Common.{◌≡◌, List, arith, length, refl, ◌∙◌}
use Rattle.std.proofs.lemmas.List.{length-map}
use Rattle.qc_codec.specs.Bodies.{made, table}
use Rattle.qc_codec.specs.Fields.{current_format, word}
use Rattle.qc_codec.specs.Ledger.{made_for}
use Rattle.qc_config.specs.declared.tuple.Tuple.{Tuple}
use Rattle.qc_event.specs.Base.{IsProper}
use Rattle.qc_event.specs.Tables.{setting_of}
use Rattle.qc_event.specs.declared.table.Row.{Row}
use Rattle.qc_event.specs.declared.table.Table.{Table}
use Rattle.qc_trail_codec.specs.Trail as saved
use Rattle.qc_trail_codec.specs.declared.record.SavedTrail.{SavedTrail}
use Rattle.qc_audit.specs.Saved.{HasSizes, IsSaved, saved_text}
use Rattle.qc_codec.proofs.Fits.{made_proper}
use Rattle.qc_audit.proofs.Fronts.{front_short}

-- a proper base of a table has its sizes
pub sizes : (t : Table) (base : List (List Tuple)) → length base ≡ t.copies → IsProper (setting_of t base) → HasSizes t base
sizes t base many proper = record {
  copies = many;
  records = λ copy d within. (proper.base.rows copy d within).same_records ∙ length-map t.records (λ (r : Row). r.config);
}

pub is_saved : (t : Table) (trail : SavedTrail) → (table current_format).fits t → (saved.trail current_format).fits trail → HasSizes t trail.base → IsSaved t trail (saved_text t trail)
unfolding word
is_saved t trail spelled fits has = record {
  front = made.spell (made_for 0 t);
  back = (saved.trail current_format).spell trail;
  format = current_format;
  parts = record { short = front_short t spelled; joined = refl };
  made = (refl, made_proper 0 t (omega arith) spelled);
  rest = (refl, fits);
  sizes = has;
}
