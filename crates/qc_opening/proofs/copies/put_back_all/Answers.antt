-- The last copy's disks go before those that wait.
use Rattle.std.proofs.Common.{◌≡◌, ◌+◌, ◌++◌, ◌∷◌, [], List, length, map, ap, ap₂, arith, ◌∙◌}
use Rattle.std.proofs.lemmas.List.{length-append, length-map}
use Rattle.qc_opening.specs.Mounted.{copy_disks}
use Rattle.qc_opening.specs.Waiting.{waiting_in}
use Rattle.qc_opening.proofs.Mountings.InTurn.{one_back}
use Rattle.qc_opening.proofs.copies.put_back_all.Goals as goal

-- as many pairs are mounted or wait
row_size : {A B : Type 0} (f : A → B) (now before : List A) (waiting waited : List B) → map f now ++ waiting ≡ map f before ++ waited → length now + length waiting ≡ length before + length waited
row_size f now before waiting waited same =
    omega (arith, ap length same, length-append (map f now) waiting, length-append (map f before) waited, length-map now f, length-map before f)

pub put_back-requires : goal.put_back-requires
put_back-requires g c =
    let kept = c.loop-copy.invariant in
    let more = c.in-Some.ensures.items in
    let room = kept.room (length c.args.copies.items + length (waiting_in c.args.waiting.now)) c.requires.room in
    let size = row_size copy_disks c.loop-copy.copies.items c.args.copies.items (waiting_in c.loop-copy.waiting) (waiting_in c.args.waiting.now) kept.pairs in
    let one = ap length more ∙ length-append c.pop.new.self.items (c.in-Some.copy ∷ []) in
    (omega (arith, room.0, size, one), omega (arith, room.1, size, one))

pub loop-copy-preserved : goal.loop-copy-preserved
loop-copy-preserved g c =
    let kept = c.loop-copy.invariant in
    record {
      pairs = one_back c.loop-copy.copies.items c.pop.new.self.items c.in-Some.copy (waiting_in c.loop-copy.waiting) (waiting_in c.put_back.new.self) c.in-Some.ensures.items
          (c.put_back.ensures.pairs ∙ ap₂ (λ (a b : g.row.D.Denot). (a, b) ∷ waiting_in c.loop-copy.waiting) c.into_disks-disk.ensures.own c.into_disks-disk.ensures.spare) ∙ kept.pairs;
      room = λ pairs room. c.put_back.ensures.room pairs (kept.room pairs room);
    }
