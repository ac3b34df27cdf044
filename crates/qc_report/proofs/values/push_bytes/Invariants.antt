use Rattle.std.proofs.Common.{◌≡◌, ◌++◌, take}
use Rattle.std.specs.List.{flat_map}
use Rattle.qc_report.specs.Report.{quoted_byte}
use Rattle.qc_report.proofs.values.push_bytes.Given as goal

abbrev pub invariant-loop-byte : goal.invariant-loop-byte
invariant-loop-byte l = l.page ≡ l.fn.page ++ flat_map quoted_byte (take l.byte-index l.text)
