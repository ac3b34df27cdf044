-- Why a request was not answered by the desk.
use Rattle.qc_event.specs.declared.short.Short.TheVariants as short
use Rattle.qc_journal.specs.declared.fault.Fault.{Fault}
use Rattle.qc_journal.specs.declared.fault.Fault.TheVariants as fault
use Rattle.qc_site.specs.declared.fault.SiteNo.{SiteNo}
use Rattle.qc_site.specs.declared.fault.SiteNo.TheVariants as site
use Rattle.qc_site.specs.declared.serve.ServeNo.{ServeNo}
use Rattle.qc_site.specs.declared.serve.ServeNo.TheVariants.{Down, Full, Strange, Short}

-- what a refused revival is to a request
abbrev pub of_site : SiteNo → ServeNo
of_site site.Disk = Down
of_site (site.Image bad) = Short short.Memory
of_site site.Strange = Strange
of_site (site.Short want) = Short want

-- what a fault of the journal is to a request
abbrev pub of_fault : Fault → ServeNo
of_fault fault.Disk = Down
of_fault (fault.Broken place) = Down
of_fault (fault.Full place) = Full
of_fault fault.Memory = Short short.Memory
