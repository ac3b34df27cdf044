-- The set of names gives the number of a record.
use Rattle.std.proofs.Common.{ap}
use Rattle.std.specs.Prelude.{ok_or}
use Rattle.qc_script.specs.declared.bad_script.BadScript.TheVariants.{Unknown}
use Rattle.qc_script.proofs.Names.{place_is}
use Rattle.qc_script.proofs.reader.rows.Records.number_of.Goals as goal

pub returns-in-Some : goal.returns-in-Some
returns-in-Some c =
    ap (λ o. ok_or o (Unknown c.args.name.now)) (place_is _ _ c.args.name.now _ c.args.self.now.named c.in-Some.ensures.index)

pub returns-in_ok-new-in-None : goal.returns-in_ok-new-in-None
returns-in_ok-new-in-None c =
    rw (c.in_ok-new-in-None.ensures, c.as_bytes.ensures.value)
    (ap (λ o. ok_or o (Unknown c.args.name.now)) (place_is _ _ c.args.name.now _ c.args.self.now.named c.in-None.ensures.index))
