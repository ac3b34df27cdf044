use Rattle.std.proofs.Common.{refl}
use Rattle.rows_serve.proofs.run.all_words.Goals as goal

pub loop-word-init : goal.loop-word-init
loop-word-init g c = (refl, refl, refl, c.new-client.ensures.none c.args.pass.now.seen c.args.pass.now.number)
