-- The disk of one number is given, and those of other numbers stay.
use Rattle.std.proofs.Common.{[], Some, ap, rules}
use Rattle.qc_disk.specs.MemDisk.{mem_bytes, mem_faults}
use Rattle.qc_disk.proofs.Shops.{told_elsewhere}
use Rattle.qc_disk.proofs.shop.memory.MemShopShop.obtain.Goals as goal

pub returns-clause-others : goal.returns-clause-others
returns-clause-others c = λ p n other.
    let disks = c.args.self.now.disks.items in
    let later = c.exchange.new.items.items in
    record {
      offers = ap Some (told_elsewhere mem_bytes [] disks later c.args.which n _ c.exchange.ensures.items other);
      counts = told_elsewhere mem_faults 0 disks later c.args.which n _ c.exchange.ensures.items other;
    }

pub returns-clause-gives : goal.returns-clause-gives
returns-clause-gives c = record {
  empty = c.new-empty.result;
  is_empty = record { first = search rules; bytes = search rules; acts = search rules; fails = search rules; faults = search rules };
  disk = c.exchange.ensures.answer;
  disks = c.exchange.ensures.items;
}
