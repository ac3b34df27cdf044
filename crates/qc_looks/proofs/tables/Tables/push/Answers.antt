use Rattle.std.proofs.Common.{◌≡◌, ◌<◌, ◌∷◌, length, sym, ap, ◌∙◌, arith, subst}
use Rattle.std.specs.Prelude.{slice_set}
use Rattle.qc_moss.specs.Locks.{Table, granted_to}
use Rattle.qc_looks.specs.Tables.{AreTablesOf, ask_for}
use Rattle.qc_looks.proofs.Tabling.{copy_within, record_within, its_table, none_granted, one_granted, granted_asked}
use Rattle.qc_looks.proofs.tables.Tables.push.Goals as goal

pub returns-in_default : goal.returns-in_default
returns-in_default c = λ setting past proper legal are. none_granted setting.base c.args.entry.now past c.args.self.now.copies.items c.in_default.not-Granted are

pub index_mut-locks-requires : goal.index_mut-locks-requires
index_mut-locks-requires c =
    let can = c.requires in
    let past = can.0 in
    let grant = c.in-Granted.grant in
    let tables = c.args.self.now.copies.items in
    let ask = ask_for c.in-Granted.copy grant in
    let asked = granted_asked can.1 past c.args.entry.now.seat c.args.entry.now.event c.in-Granted.copy grant can.3.1 c.in-Granted.is in
    let less = copy_within can.1 can.2 past can.3.0 ask asked tables can.4 in
    omega (arith, less, c.args.self.now.copies.ok)

pub hold-requires-clause-within : goal.hold-requires-clause-within
hold-requires-clause-within c =
    let can = c.requires in
    let past = can.0 in
    let grant = c.in-Granted.grant in
    let tables = c.args.self.now.copies.items in
    let ask = ask_for c.in-Granted.copy grant in
    let asked = granted_asked can.1 past c.args.entry.now.seat c.args.entry.now.event c.in-Granted.copy grant can.3.1 c.in-Granted.is in
    let old = c.index_mut-locks.result.now in
    let at = its_table can.1 can.2 past can.3.0 ask asked tables can.4 old c.index_mut-locks.ensures.value in
    let less = record_within can.1 can.2 past can.3.0 ask asked tables can.4 old at in
    let reserved = c.in_ok-reserve.ensures.ok in
    subst (λ (t : Table). grant.rec < length t.start) (sym reserved) less

pub returns : goal.returns
returns c = λ setting past proper legal are.
    let e = c.args.entry.now in
    let copy = c.in-Granted.copy in
    let g = c.in-Granted.grant in
    let tables = c.args.self.now.copies.items in
    let ask = ask_for copy g in
    let asked = granted_asked setting past e.seat e.event copy g legal.1 c.in-Granted.is in
    let old = c.index_mut-locks.result.now in
    let at = its_table setting proper past legal.0 ask asked tables are old c.index_mut-locks.ensures.value in
    let less = record_within setting proper past legal.0 ask asked tables are old at in
    let reserved = c.in_ok-reserve.ensures.ok in
    let lists : length old.held ≡ length old.start = subst (λ (t : Table). length t.held ≡ length t.start) reserved c.hold.ensures.lists in
    subst (λ (t : Table). AreTablesOf setting.base (e ∷ past) (slice_set tables copy t)) (sym (c.hold.ensures.granted ∙ ap (λ (t : Table). granted_to t g.access g.rec g.op) reserved))
    (one_granted setting.base e past tables copy g old c.in-Granted.is are at (omega (arith, less, lists)))
