-- A grant's access joins those of the grants.
use Rattle.std.proofs.Common.{List, sym, subst}
use Rattle.qc_event.specs.declared.event.Grant.{Grant}
use Rattle.qc_site.specs.Granted.{AreAccesses}
use Rattle.qc_site.proofs.Accesses.{accesses_more}
use Rattle.qc_site.proofs.granted.Granted.take.Goals as goal

pub returns-clause-accesses : goal.returns-clause-accesses
returns-clause-accesses c =
    subst (λ (grants : List Grant). AreAccesses c.insert.new.self grants) (sym c.in_ok-append.ensures.ok)
    (accesses_more c.args.self.now.accesses c.insert.new.self c.args.self.now.grants.items c.args.grant c.in_ok-insert.ensures.updates c.requires)
