use Rattle.std.proofs.Common.{◌≡◌, drop}
use Rattle.qc_script.specs.JsonText as json
use Rattle.qc_script.specs.ScriptText as script
use Rattle.qc_script.proofs.Parts.{with_front}
use Rattle.qc_script.proofs.reader.session.letters_of.Given as goal

-- the letters that are left decide
abbrev pub invariant-loop-letter : goal.invariant-loop-letter
invariant-loop-letter l =
    with_front l.fates.items (json.each script.fate_of (drop l.letter-index l.text)) ≡ json.each script.fate_of l.text
