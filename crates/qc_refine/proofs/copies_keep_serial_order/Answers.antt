use Rattle.qc_refine.proofs.Order.CopiesSerial.{serial_order, left_copies}
use Rattle.qc_refine.proofs.Managers.EachManager.{each_manager}
use Rattle.qc_refine.proofs.copies_keep_serial_order.Goals as goal

pub returns-clause-serial : goal.returns-clause-serial
returns-clause-serial c = serial_order

pub returns-clause-left : goal.returns-clause-left
returns-clause-left c = left_copies

pub returns-clause-managers : goal.returns-clause-managers
returns-clause-managers c = each_manager
