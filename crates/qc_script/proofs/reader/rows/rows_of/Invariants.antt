use Rattle.std.proofs.Common.{◌≡◌, [], map, drop, vec_len}
use Rattle.serde_json.specs.View.{view}
use Rattle.qc_script.specs.Reading.{texts_of}
use Rattle.qc_script.specs.ScriptText as script
use Rattle.qc_script.proofs.reader.rows.rows_of.Given as goal

-- the records that are left decide, and the names are those of the rows
abbrev pub invariant-loop-value : goal.invariant-loop-value
invariant-loop-value l = record {
  read : script.rows_of l.copies l.rows.items (map view (drop l.value-index l.list)) ≡ script.rows_of l.copies [] (map view l.list);
  counted : vec_len l.rows ≡ l.value-index;
  named : texts_of l.names.keys ≡ script.names_of l.rows.items;
}
