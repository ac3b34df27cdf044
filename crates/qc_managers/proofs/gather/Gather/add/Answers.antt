use Rattle.std.proofs.Common.{◌∙◌, sym, ap, Some}
use Rattle.std.specs.Prelude.{option_map}
use Rattle.qc_event.specs.Manager.{Newest}
use Rattle.qc_managers.specs.Gathered.{Gathered, kept, raised}
use Rattle.qc_managers.proofs.GatheredMore.{with_reply, gathered_reply, newer_taken, newer_kept}
use Rattle.qc_managers.proofs.gather.Gather.add.Goals as goal

pub returns-then-self-tuple : goal.returns-then-self-tuple
returns-then-self-tuple c = λ first told is.
    let was = c.self.view_is ∙ is in
    let tuple = c.args.tuple.now in
    let best : Newest = record { generation = c.self.inside.generation; config = c.self.inside.config } in
    rw (c.greater.ensures, ← newer_taken best tuple c.if-self-tuple.true)
    (ap (λ (g : Gathered). with_reply c.add.new.self tuple g) was
    ∙ gathered_reply first told c.args.copy tuple c.add.new.self (c.add.ensures tuple told (ap (λ (g : Gathered). g.heard) was)))

pub returns-else-self-tuple : goal.returns-else-self-tuple
returns-else-self-tuple c = λ first told is.
    let was = c.self.view_is ∙ is in
    let tuple = c.args.tuple.now in
    let best : Newest = record { generation = c.self.inside.generation; config = c.self.inside.config } in
    rw c.greater.ensures
    (ap (λ n. record { heard = c.add.new.self; newest = n; greatest = Some (raised (option_map kept c.self.inside.greatest) tuple) }) (sym (newer_kept best tuple c.if-self-tuple.false))
    ∙ ap (λ (g : Gathered). with_reply c.add.new.self tuple g) was
    ∙ gathered_reply first told c.args.copy tuple c.add.new.self (c.add.ensures tuple told (ap (λ (g : Gathered). g.heard) was)))
