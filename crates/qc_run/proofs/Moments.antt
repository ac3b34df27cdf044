-- At every moment of a legal history over a sound start each live user transaction has its serial order.
use Rattle.std.proofs.Common.{List, ap, subst, ◌∙◌, reverse}
use Rattle.std.proofs.lemmas.List.{reverse-append}
use Rattle.qc_config.specs.declared.tuple.Tuple.{Tuple}
use Rattle.qc_event.specs.Legal.{Legal}
use Rattle.qc_event.specs.Tables.{setting_of}
use Rattle.qc_event.specs.declared.event.Entry.{Entry}
use Rattle.qc_event.specs.declared.table.Table.{Table}
use Rattle.qc_event.proofs.Later.{earlier_legal}
use Rattle.qc_refine.proofs.Order.CopiesSerial.{serial_order}
use Rattle.qc_run.specs.Run.{HasSerialOrders}

pub serial_orders : (table : Table) (start : List (List Tuple)) (trail : List Entry) → Legal (setting_of table start) (reverse trail) → HasSerialOrders table start trail
serial_orders table start trail legal values sound front later is t user alive =
    let setting = setting_of table start in
    serial_order setting values (reverse front) t
    (earlier_legal setting (reverse later) (reverse front) (subst (Legal setting) (ap reverse is ∙ reverse-append front later) legal))
    sound user alive
