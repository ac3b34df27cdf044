-- Events that are the same are of the same name, and say the same.
use Rattle.std.proofs.Common.{◌≡◌}
use Rattle.qc_event.specs.declared.event.Ask.{Ask}
use Rattle.qc_event.specs.declared.event.Event.TheVariants as event
use Rattle.qc_event.specs.declared.event.How.{How}
use Rattle.qc_event.specs.History.{Name}

pub same_end : (m n : Name) (h how : How) → event.End m h ≡ event.End n how → m ≡ n
same_end m n h how is = cc

pub same_ask : (x y : Ask) → event.Ask x ≡ event.Ask y → x ≡ y
same_ask x y is = cc
