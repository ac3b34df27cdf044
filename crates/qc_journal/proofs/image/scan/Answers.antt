-- One more record is read, or the end is reached.
use Rattle.std.proofs.Common.{◌≡◌, ◌≤◌, ◌<◌, ◌+◌, ◌-◌, ℕ, List, [], ◌∷◌, ◌++◌, length, take, drop, rules, arith, sym, ◌∙◌, ap, subst, length-drop, length-take, ◌^◌}
use Rattle.std.specs.Prelude.{slice_index}
use Rattle.std.specs.List.{All}
use Rattle.std.specs.Int.{w32, to_be_bytes}
use Rattle.std.proofs.lemmas.List.{map_push, take_rest}
use Rattle.std.proofs.lemmas.List.Elements.{All-push}
use Rattle.qc_journal.specs.Image.{row, IsShort, bodies_of}
use Rattle.qc_journal.proofs.Images.{scan_more, length-row-push}
use Rattle.qc_journal.proofs.image.scan.Goals as goal

-- what holds after one record more
record Read (bytes : List ℕ) (place : ℕ) (bodies : List (List ℕ)) : Type 0 where
  split : bytes ≡ row bodies ++ drop place bytes
  size : place ≡ length (row bodies)
  short : All IsShort bodies
  within : place < length bytes

more : (bytes : List ℕ) (place n : ℕ) (bodies now : List (List ℕ)) → Read bytes place bodies → slice_index bytes place ≡ 1 → 5 + n ≤ length (drop (place + 1) bytes) → take 4 (drop (place + 1) bytes) ≡ to_be_bytes w32 n → n < 2 ^ 32
    → now ≡ bodies ++ take n (drop 4 (drop (place + 1) bytes)) ∷ [] → Read bytes (place + (5 + n)) now
more bytes place n bodies now read is_open enough four short is =
    let after = drop (place + 1) bytes in
    let body = take n (drop 4 after) in
    let left = length-drop (place + 1) bytes in
    let long : length body ≡ n = omega (arith, length-take n (drop 4 after), length-drop 4 after, left) in
    let grown = length-row-push bodies body in
    let size = read.size in
    subst (Read bytes (place + (5 + n))) (sym is) (record {
      split = scan_more bytes bodies place n read.split read.within is_open (omega (arith, left)) four;
      size = omega (arith, grown, long, size);
      short = All-push IsShort bodies body read.short (omega (arith, long));
      within = omega (arith, left);
    })

-- the body that is copied
copy : (bytes : List ℕ) (place n : ℕ) (body : List ℕ) → body ≡ take (4 + n - 4) (drop 4 (take (length bytes - (place + 1)) (drop (place + 1) bytes))) → body ≡ take n (drop 4 (drop (place + 1) bytes))
copy bytes place n body is =
    let size : 4 + n - 4 ≡ n = omega arith in
    is ∙ ap (λ k. take k (drop 4 (take (length bytes - (place + 1)) (drop (place + 1) bytes)))) size ∙ ap (λ (l : List ℕ). take n (drop 4 l)) (take_rest bytes (place + 1))

pub loop-place-preserved : goal.loop-place-preserved
loop-place-preserved c =
    let bytes = c.args.bytes.now in
    let place = c.loop-place.place in
    let n = c.in-Some.size in
    let old = c.loop-place.bodies.items in
    let inv = c.loop-place.invariant in
    let read : Read bytes place (bodies_of old) = record { split = inv.split; size = inv.size; short = inv.short; within = inv.within } in
    let copied : c.in_ok-to_vec.field-0.items ≡ take n (drop 4 (drop (place + 1) bytes)) = copy bytes place n _ (c.in_ok-to_vec.ensures.items_if_clones_equal (λ x y same. same)) in
    let pushed : bodies_of c.append.new.items.items ≡ bodies_of old ++ take n (drop 4 (drop (place + 1) bytes)) ∷ [] =
    ap bodies_of c.in_ok-append.ensures.ok ∙ map_push (λ b. b.items) old c.in_ok-to_vec.field-0 ∙ ap (λ (l : List ℕ). bodies_of old ++ l ∷ []) copied in
    let enough : 5 + n ≤ length (drop (place + 1) bytes) = omega (arith, c.in-Some.ensures.whole, ap length (take_rest bytes (place + 1))) in
    let four : take 4 (drop (place + 1) bytes) ≡ to_be_bytes w32 n = search rules in
    let next = more bytes place n (bodies_of old) _ read c.loop-place-test.true enough four c.in-Some.ensures.short pushed in
    record { split = next.split; size = next.size; short = next.short; within = next.within }
