-- An access that was refused as an orphan is one.
use Rattle.std.proofs.Common.{subst}
use Rattle.qc_desk.specs.Refusing.{against_access, Refuses}
use Rattle.qc_carry.proofs.Orphans.{orphan_of}
use Rattle.qc_carry.proofs.Refusing.{access_dead}
use Rattle.qc_carry.proofs.calls.stopped.Goals as goal

pub orphaned-requires-clause-orphan : goal.orphaned-requires-clause-orphan
orphaned-requires-clause-orphan g c =
    let seen = c.args.pass.now.seen in
    let n = c.args.access.now in
    let a = c.in-Orphan.ancestor in
    orphan_of seen n a (access_dead seen n a (subst (Refuses (against_access n) seen) c.in-Orphan.is c.requires.refused)) c.requires.own.is_open.not_ended
