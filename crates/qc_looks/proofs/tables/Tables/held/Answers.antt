use Rattle.std.proofs.Common.{List, ap, ◌∙◌, arith}
use Rattle.std.specs.Prelude.{filter, slice_index_or}
use Rattle.qc_config.specs.declared.tuple.Tuple.{Tuple}
use Rattle.qc_event.specs.Base.{no_tuple}
use Rattle.qc_event.specs.History.{grants}
use Rattle.qc_event.specs.Seen.{changed_by, is_live_at}
use Rattle.qc_looks.proofs.Tabling.{copy_within, record_within, its_table, settled}
use Rattle.qc_looks.proofs.tables.Tables.held.Goals as goal

pub index_mut-requires : goal.index_mut-requires
index_mut-requires c =
    let can = c.requires in
    let less = copy_within can.0.0 can.0.1 c.args.history.now can.0.2 c.args.ask.now can.1 c.args.self.now.copies.items can.0.3 in
    omega (arith, less, c.args.self.now.copies.ok)

pub held-requires : goal.held-requires
held-requires c =
    let can = c.requires in
    let past = c.args.history.now in
    let ask = c.args.ask.now in
    let tables = c.args.self.now.copies.items in
    let old = c.index_mut.result.now in
    let at = its_table can.0.0 can.0.1 past can.0.2 ask can.1 tables can.0.3 old c.index_mut.ensures.value in
    record_within can.0.0 can.0.1 past can.0.2 ask can.1 tables can.0.3 old at

pub returns-clause-tables : goal.returns-clause-tables
returns-clause-tables c = λ base are.
    let can = c.requires in
    let past = c.args.history.now in
    let ask = c.args.ask.now in
    let tables = c.args.self.now.copies.items in
    let old = c.index_mut.result.now in
    let at = its_table can.0.0 can.0.1 past can.0.2 ask can.1 tables can.0.3 old c.index_mut.ensures.value in
    settled base past tables ask.copy old c.held.new.locks are at c.held.ensures.start (c.held.ensures.follows can.0.0 (grants past ask.copy) can.0.2)

pub returns-clause-held : goal.returns-clause-held
returns-clause-held c = λ base are.
    let can = c.requires in
    let past = c.args.history.now in
    let ask = c.args.ask.now in
    let tables = c.args.self.now.copies.items in
    let old = c.index_mut.result.now in
    let at = its_table can.0.0 can.0.1 past can.0.2 ask can.1 tables can.0.3 old c.index_mut.ensures.value in
    c.held.ensures.held can.0.0 (grants past ask.copy) can.0.2 (can.0.3.each ask.copy old at).follows
    ∙ ap (λ (row : List Tuple). changed_by (slice_index_or row ask.rec no_tuple) (filter (is_live_at past ask.rec) (grants past ask.copy))) (are.each ask.copy old at).start
