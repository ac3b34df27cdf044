use Rattle.std.proofs.Common.{◌≡◌, map, drop, vec_len}
use Rattle.serde_json.specs.View.{view}
use Rattle.qc_script.specs.JsonText as json
use Rattle.qc_script.specs.ScriptText as script
use Rattle.qc_script.proofs.Parts.{with_front}
use Rattle.qc_script.proofs.reader.rows.votes_of.Given as goal

abbrev pub invariant-loop-value : goal.invariant-loop-value
invariant-loop-value l = record {
  read : with_front l.votes.items (json.each script.vote_of (map view (drop l.value-index l.list))) ≡ json.each script.vote_of (map view l.list);
  counted : vec_len l.votes ≡ l.value-index;
}
