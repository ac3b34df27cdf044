-- The table of a made record of any format fits the current one.
use Rattle.std.proofs.Common.{rules, ◌≡◌}
use Rattle.qc_codec.specs.Bodies as body
use Rattle.qc_codec.specs.Ledger.{made_for}
use Rattle.qc_codec.proofs.Fits.{made_renewed, table_renewed}
use Rattle.qc_codec.proofs.table.write_made_anew.Goals as goal

pub put_table-requires : goal.put_table-requires
put_table-requires c = table_renewed c.args.made.now c.requires.proper

spelled : (c : goal.In_ok-put_table) → c.put_table.new.out.items ≡ body.made.spell (made_for c.args.made.now.who c.args.made.now.table)
unfolding body.made body.making
spelled c = search rules

pub returns : goal.returns
returns c = (spelled c, made_renewed c.args.made.now c.requires.proper)
