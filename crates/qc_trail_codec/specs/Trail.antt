-- The body of a saved trail.
use Rattle.std.specs.Prelude.{ℕ, List, length}
use Rattle.qc_config.specs.declared.tuple.Tuple.{Tuple}
use Rattle.qc_trail_codec.specs.declared.record.SavedTrail.{SavedTrail}
use Rattle.qc_codec.specs.Form.{Form, Any, byte, pair, as_another, only, times, counted}
use Rattle.qc_codec.specs.Fields.{Layout, long, tuple}
use Rattle.qc_codec.specs.Bodies.{is_between}
use Rattle.qc_trail_codec.specs.Events.{entry}
use Rattle.qc_trail_codec.specs.Saving.{records_of}

abbrev pub layout_of : ℕ → ℕ → Layout
layout_of format copies = record { copies = copies; format = format }

abbrev pub base_of : ℕ × (ℕ × List (List Tuple)) → List (List Tuple)
base_of p = p.1.1

-- how many copies there are, how many records the first has, and the tuples
abbrev pub parts_of_base : List (List Tuple) → ℕ × (ℕ × List (List Tuple))
parts_of_base base = (length base, (records_of base, base))

-- the tuples of 1 to 16 copies and 1 to 64 records, copy by copy
unfoldable pub base : ℕ → Form (List (List Tuple))
base format = as_another base_of parts_of_base Any
    (pair (only (is_between 1 16) byte) (λ copies. pair (only (is_between 1 64) byte) (λ records. times copies (times records (tuple (layout_of format copies))))))

-- what a run started from and its entries, whose configurations are for as many copies
unfoldable pub trail : ℕ → Form SavedTrail
trail format = as_another (λ p. record { base = p.0; entries = p.1 }) (λ (t : SavedTrail). (t.base, t.entries)) Any
    (pair (base format) (λ b. counted long (entry (layout_of format (length b)))))
