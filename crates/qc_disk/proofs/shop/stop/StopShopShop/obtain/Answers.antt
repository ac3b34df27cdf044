-- The bytes of one number are given, and those of other numbers stay.
use Rattle.std.proofs.Common.{◌≡◌, ℕ, List, [], Some, Vec, Global, ap, set, refl, ◌∙◌}
use Rattle.qc_disk.specs.StopShop.{offered, stop_disks}
use Rattle.qc_disk.proofs.Shops.{told_elsewhere, told_set, told_of}
use Rattle.qc_disk.proofs.shop.stop.StopShopShop.obtain.Goals as goal

abbrev items : Vec ℕ Global → List ℕ
items bytes = bytes.items

pub returns-clause-others : goal.returns-clause-others
returns-clause-others c = λ p n other. record {
  offers = ap Some (told_elsewhere items [] c.args.self.now.disks.items c.exchange-bytes.new.items.items c.args.which n _ c.exchange-bytes.ensures.items other);
  counts = refl;
}

pub returns-clause-gives : goal.returns-clause-gives
returns-clause-gives c =
    let disks = c.args.self.now.disks.items in
    let given : c.exchange-bytes.result.items ≡ offered c.args.self.now c.args.which
    = told_of items disks c.args.which c.new.result c.exchange-bytes.result [] c.exchange-bytes.ensures.answer c.new.ensures.items in
    record {
      first = c.new-2.ensures.first ∙ given;
      bytes = c.new-2.ensures.bytes ∙ given;
      acts = c.new-2.ensures.acts;
      refused = c.new-2.ensures.refused;
      disks = told_set items disks c.exchange-bytes.new.items.items c.args.which _ c.exchange-bytes.ensures.items
          ∙ ap (λ (none : List ℕ). set (stop_disks c.args.self.now) c.args.which none) c.new.ensures.items;
    }
