-- What one call after another does to the bytes that a stream tells.
use Rattle.std.proofs.Common.{◌≡◌, ◌<◌, ◌+◌, ◌-◌, ℕ, min, List, ◌++◌, length, take, drop, Option, Some, None, sym, ap, ◌∙◌, arith}
use Rattle.std.specs.Option.{option_map}
use Rattle.std.proofs.Math.Seq.{take-add, drop-append-add}
use Rattle.std.proofs.lemmas.List.{append_assoc, drop-drop, take-append-drop, take_rest, nil_from_length}
use Rattle.qc_io.specs.Io.{Gave, Appends, Drops, Reads}

-- one write behind another
pub appends_more : (a b c : Option (List ℕ)) (text : List ℕ) (done n : ℕ) → Appends a b (take done text) → Appends b c (take n (take (length text - done) (drop done text))) → Appends a c (take (done + n) text)
appends_more None b c text done n first then = then ∙ ap (option_map _) first
appends_more (Some xs) b c text done n first then =
    let joined = take-add done n text in
    let rest = take_rest text done in
    let grouped = append_assoc xs (take done text) (take n (drop done text)) in
    then ∙ ap (option_map (λ taken. taken ++ take n (take (length text - done) (drop done text)))) first ∙ ap Some (cc)

-- what a read loses behind bytes that came
pub loses_more : (a b c : Option (List ℕ)) (xs : List ℕ) (n : ℕ) → Gave a b xs → Drops b c n → Drops a c (length xs + n)
loses_more a None c xs n gave lost = lost ∙ sym (ap (option_map (drop (length xs + n))) gave)
loses_more a (Some ys) c xs n gave lost =
    lost ∙ ap Some (sym (drop-append-add xs ys n)) ∙ sym (ap (option_map (drop (length xs + n))) gave)

-- a read of a list from a place on
pub reads_from : (held bytes buffer : List ℕ) (at n : ℕ) → held ≡ bytes → 0 < length buffer → n ≡ min (length (take (length held - at) (drop at held))) (length buffer) → take n buffer ≡ take n (take (length held - at) (drop at held)) → Reads (Some (drop at bytes)) (Some (drop (at + n) bytes)) buffer n
reads_from held bytes buffer at n same room count copied =
    let rest = take_rest held at ∙ ap (drop at) same in
    let size : n ≡ min (length (drop at bytes)) (length buffer) = count ∙ ap (λ (xs : List ℕ). min (length xs) (length buffer)) rest in
    let front : take n buffer ≡ take n (drop at bytes) = copied ∙ ap (take n) rest in
    let whole = take-append-drop n (drop at bytes) in
    let back = drop-drop n at bytes in
    record {
      within = omega arith;
      bytes = ap Some (cc);
      end = λ none. nil_from_length (drop at bytes) (omega arith);
    }
