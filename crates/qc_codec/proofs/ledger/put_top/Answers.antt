use Rattle.std.proofs.Common.{◌≡◌, ◌++◌, List, ℕ, ap, ◌∙◌, arith}
use Rattle.std.specs.Prelude.{slice_index, flat_map, length}
use Rattle.std.proofs.lemmas.Option.{unwrap_or-slice_get}
use Rattle.qc_event.specs.History.{Name}
use Rattle.qc_codec.specs.Fields as field
use Rattle.qc_codec.specs.Bodies.{top, below}
use Rattle.qc_codec.proofs.Fits.{top_names, top_count, below_spelling}
use Rattle.qc_codec.proofs.Puts.{on_ok, three}
use Rattle.qc_codec.proofs.ledger.put_top.Goals as goal

pub overflow_cast-names : goal.overflow_cast-names
overflow_cast-names c = omega (arith, top_count (slice_index c.args.top.now 0) c.args.names.now c.requires.fits)

pub put_names-requires : goal.put_names-requires
put_names-requires c = top_names (slice_index c.args.top.now 0) c.args.names.now c.requires.fits

pub returns : goal.returns
unfolding top
returns c =
    let n = slice_index c.args.top.now 0 in
    let first : c.unwrap_or.result ≡ n = rw (c.unwrap_or.ensures, c.number.ensures) (unwrap_or-slice_get c.args.top.now 0 0) in
    on_ok c.put_names.result
    (three c.args.out.now.items c.put_long.new.out.items c.put_word.new.out.items c.put_names.new.out.items (field.long.spell n) (field.word.spell (length c.args.names.now))
    (flat_map (field.name 1).spell c.args.names.now) (flat_map (below n).spell c.args.names.now)
    (c.in_ok-put_long.ensures ∙ ap (λ (number : ℕ). c.args.out.now.items ++ field.long.spell number) first) c.in_ok-put_word.ensures
    (ap (λ (spell : Name → List ℕ). flat_map spell c.args.names.now) (below_spelling n)))
    c.put_names.ensures
