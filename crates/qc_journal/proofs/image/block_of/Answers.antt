-- The bytes one after another.
use Rattle.std.proofs.Common.{◌≡◌, List, ℕ, [], ◌∷◌, ◌++◌, length, replicate, rules, ◌∙◌, ap, sym, append_assoc}
use Rattle.std.specs.Int.{w32, to_be_bytes}
use Rattle.qc_journal.proofs.Images.{length_bytes-is}
use Rattle.qc_journal.proofs.image.block_of.Goals as goal

joined : (front block a b c lb body : List ℕ) → block ≡ front → a ≡ block ++ lb → b ≡ a ++ body → c ≡ b ++ 0 ∷ [] → c ≡ front ++ (lb ++ body ++ 0 ∷ [])
joined front block a b c lb body e f g h =
    h ∙ ap (λ (l : List ℕ). l ++ 0 ∷ []) (g ∙ ap (λ (l : List ℕ). l ++ body) (f ∙ ap (λ (l : List ℕ). l ++ lb) e) ∙ append_assoc front lb body) ∙ append_assoc front (lb ++ body) (0 ∷ [])

pub returns : goal.returns
returns c =
    let body = c.args.body.now in
    let first : c.in_ok-block.block.items ≡ replicate c.args.missing 0 = search rules in
    let second : c.extend_from_slice.new.self.items ≡ c.in_ok-block.block.items ++ to_be_bytes w32 (length body) = search rules in
    joined _ _ _ _ _ _ body first (second ∙ ap (λ (l : List ℕ). c.in_ok-block.block.items ++ l) (sym (length_bytes-is body))) c.in_ok-extend_from_slice-2.ensures.items c.in_ok-push.ensures.items
