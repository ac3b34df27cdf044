use Rattle.std.proofs.Common.{arith}
use Rattle.qc_event.specs.History.{grants}
use Rattle.qc_looks.proofs.Tabling.{copy_within, record_within, its_table, settled}
use Rattle.qc_looks.proofs.tables.Tables.holder.Goals as goal

pub index_mut-requires : goal.index_mut-requires
index_mut-requires c =
    let can = c.requires in
    let less = copy_within can.0.0 can.0.1 c.args.history.now can.0.2 c.args.ask.now can.1 c.args.self.now.copies.items can.0.3 in
    omega (arith, less, c.args.self.now.copies.ok)

pub blocker-requires : goal.blocker-requires
blocker-requires c =
    let can = c.requires in
    let past = c.args.history.now in
    let ask = c.args.ask.now in
    let tables = c.args.self.now.copies.items in
    let old = c.index_mut.result.now in
    let at = its_table can.0.0 can.0.1 past can.0.2 ask can.1 tables can.0.3 old c.index_mut.ensures.value in
    record_within can.0.0 can.0.1 past can.0.2 ask can.1 tables can.0.3 old at

pub returns-clause-tables : goal.returns-clause-tables
returns-clause-tables c = λ base are.
    let can = c.requires in
    let past = c.args.history.now in
    let ask = c.args.ask.now in
    let tables = c.args.self.now.copies.items in
    let old = c.index_mut.result.now in
    let at = its_table can.0.0 can.0.1 past can.0.2 ask can.1 tables can.0.3 old c.index_mut.ensures.value in
    settled base past tables ask.copy old c.blocker.new.locks are at c.blocker.ensures.start (c.blocker.ensures.follows can.0.0 (grants past ask.copy) can.0.2)

pub returns-clause-holder : goal.returns-clause-holder
returns-clause-holder c =
    let can = c.requires in
    let past = c.args.history.now in
    let ask = c.args.ask.now in
    let tables = c.args.self.now.copies.items in
    let old = c.index_mut.result.now in
    let at = its_table can.0.0 can.0.1 past can.0.2 ask can.1 tables can.0.3 old c.index_mut.ensures.value in
    c.blocker.ensures.blocker can.0.0 (grants past ask.copy) can.0.2 (can.0.3.each ask.copy old at).follows
