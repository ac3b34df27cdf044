-- A name that the set takes is fresh, and another is there twice.
use Rattle.serde_json.specs.View.{view}
use Rattle.qc_script.proofs.Names.{name_twice, name_fresh}
use Rattle.qc_script.proofs.reader.rows.name_of.Goals as goal

pub returns-then-not-branch-clause-exact : goal.returns-then-not-branch-clause-exact
returns-then-not-branch-clause-exact c =
    rw (c.in_ok-label.ensures, c.as_bytes.ensures.value)
    (name_twice c.args.names.now.keys (view c.args.value.now) _ _ c.in_ok-name.ensures.exact c.in_ok-check_name.ensures.exact c.in_ok-insert.ensures.added c.if-not-branch.true)

pub returns-clause-exact : goal.returns-clause-exact
returns-clause-exact c =
    rw (c.in_ok-label.ensures, c.as_bytes.ensures.value)
    (name_fresh c.args.names.now.keys (view c.args.value.now) _ _ c.in_ok-name.ensures.exact c.in_ok-check_name.ensures.exact c.in_ok-insert.ensures.added c.if-not-branch.false)
