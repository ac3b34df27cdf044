use Rattle.std.proofs.Common.{◌++◌, List, length, ap, ◌∙◌, append_assoc, ℕ}
use Rattle.qc_codec.specs.Fields.{word}
use Rattle.qc_audit.proofs.saving.joined.Goals as goal

pub returns : goal.returns
returns c =
    let front = c.args.front.now in
    let back = c.args.back.now in
    let head = word.spell (length front) in
    c.in_ok-extend_from_slice-2.ensures.items
    ∙ ap (λ (xs : List ℕ). xs ++ back) (c.in_ok-extend_from_slice.ensures.items ∙ ap (λ (xs : List ℕ). xs ++ front) (c.in_ok-put_word.ensures ∙ ap (λ (xs : List ℕ). xs ++ head) c.new-bytes.ensures.items))
    ∙ append_assoc head front back
