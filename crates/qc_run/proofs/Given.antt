-- Of which disks a shop tells as before.
use Rattle.std.proofs.Common.{ℕ, ◌≡◌, List, [], ◌∷◌, ◌++◌, sym, ap, subst, ◌∙◌}
use Rattle.std.specs.Prelude.{◌≢◌, All}
use Rattle.std.proofs.lemmas.List.{append_cancel_left}
use Rattle.std.proofs.lemmas.List.Elements.{All-nil, All-cons, All-head, All-tail}
use Rattle.qc_disk.specs.Shop.{TellsAlike, disks_of_place, ShopView as Shop}
use Rattle.qc_opening.specs.Disks.{first_numbers}
use Rattle.qc_run.specs.Left.{HasGiven}

-- one that is as it was tells as before of each
pub same_shop : {H : Type 0} (view : H → Shop) (shop now : H) → now ≡ shop → (place : List ℕ) (n : ℕ) → TellsAlike (view shop) (view now) place n
same_shop view shop now same place n = record {
  offers = ap (λ h. (view h).offers place n) same;
  counts = ap (λ h. (view h).counts place n) same;
}

-- what is so of the numbers of all disks of a place is so of their numbers alone
of_numbers : (P : ℕ → Type 0) (place : List ℕ) (numbers : List ℕ) → All (λ given. P given.1) (disks_of_place place numbers) → All P numbers
of_numbers P place [] all = All-nil P
of_numbers P place (n ∷ numbers) all =
    All-cons P n numbers (All-head (λ given. P given.1) (place, n) (disks_of_place place numbers) all)
    (of_numbers P place numbers (All-tail (λ given. P given.1) (place, n) (disks_of_place place numbers) all))

-- one that gave disks, whatever they are, tells as before of all others
pub tells_others : (copies : ℕ) (place : List ℕ) (before now : Shop) (many : ℕ) → HasGiven copies place before now many
    → (more : List (List ℕ × ℕ)) → now.gave ≡ before.gave ++ more → (p : List ℕ) (n : ℕ) → All (λ given. n ≢ given.1) more → TellsAlike before now p n
tells_others copies place before now many has more gave p n other =
    let theirs = disks_of_place place (first_numbers copies many) in
    let same : more ≡ theirs = append_cancel_left before.gave more theirs (sym gave ∙ has.gave) in
    has.others p n (of_numbers (λ which. n ≢ which) place (first_numbers copies many) (subst (All (λ given. n ≢ given.1)) same other))
