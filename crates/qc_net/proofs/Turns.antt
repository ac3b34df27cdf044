-- A list that goes round, read from a place on, is read from the next place on once its first is last.
use Rattle.std.proofs.Common.{◌≡◌, ◌≤◌, ◌<◌, ℕ, suc, ◌+◌, ◌-◌, List, [], ◌∷◌, ◌++◌, length, take, drop, get_or, refl, sym, ap, ◌∙◌, append_assoc, add-one, arith, drop-cons}
use Rattle.std.proofs.Math.ListN.{drop_of_length-le}
use Rattle.std.proofs.Math.Seq.{take-suc}
use Rattle.std.proofs.lemmas.List.{take_all, append-nil}
use Rattle.qc_net.specs.Plan.{turned}
use Rattle.qc_net.specs.declared.link.Fate.{Fate}
use Rattle.qc_net.specs.declared.link.Fate.TheVariants.{Deliver}

-- within the list
within : (fates : List Fate) (at : ℕ) → at < length fates → drop (suc at) fates ++ take (suc at) fates ≡ turned (drop at fates ++ take at fates)
within fates at h =
    let dropped = drop-cons fates at Deliver h in
    let taken = take-suc fates at Deliver h in
    rw dropped (rw taken (sym (append_assoc (drop (suc at) fates) (take at fates) (get_or fates at Deliver ∷ []))))

pub turned-next : (fates : List Fate) (at : ℕ) → at + 1 < length fates → drop (at + 1) fates ++ take (at + 1) fates ≡ turned (drop at fates ++ take at fates)
turned-next fates at h = rw add-one (within fates at (omega arith))

-- at its end
pub turned-end : (fates : List Fate) (at : ℕ) → at ≤ length fates - 1 → length fates ≤ at + 1 → drop 0 fates ++ take 0 fates ≡ turned (drop at fates ++ take at fates)
turned-end [] at h end = let e : at ≡ 0 = omega arith in rw e refl
turned-end (fate ∷ fates) at h end =
    let all = fate ∷ fates in
    let past : length all ≤ suc at = omega arith in
    append-nil all ∙ sym (ap (λ l. l ++ take (suc at) all) (drop_of_length-le all past) ∙ take_all (suc at) all past) ∙ within all at (omega arith)
