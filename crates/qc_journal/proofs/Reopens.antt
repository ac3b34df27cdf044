-- Which records stand, by the gate or by what is found.
use Rattle.std.proofs.Common.{◌≡◌, ◌≤◌, inl, inr, ℕ, ◌+◌, ◌-◌, List, [], ◌∷◌, ◌++◌, length, Option, Some, None, Bool, true, false, if◌then◌else◌, refl, sym, ap, subst, arith, get_or, length-append}
use Rattle.std.specs.Prelude.{IsTrue, IsSome, IfSome, ◌↔◌}
use Rattle.std.proofs.lemmas.List.Elements.{All-nil}
use Rattle.std.proofs.lemmas.Bool.{cases_lt}
use Rattle.qc_disk.specs.Disk.{HasLength, Only}
use Rattle.qc_journal.specs.Image.{IsShort, EndsAt, row}
use Rattle.qc_journal.specs.Journal.{ImageStands, with_hand, behind_hand}
use Rattle.qc_journal.specs.Found.{Finds, found_bodies}
use Rattle.qc_journal.specs.declared.image.Found.{Found}
use Rattle.qc_journal.proofs.Images.{place_within, closed_gate, open_gate}

-- the body in hand stands exactly where its gate is open
pub by_gate : (place now : ℕ) (bodies : List (List ℕ)) (hand : Option (List ℕ)) (bytes : List ℕ) (is_open : Bool) → ImageStands place bodies hand bytes → IsSome hand → IsTrue is_open ↔ (get_or bytes place 0 ≡ 1)
    → now ≡ (if is_open then behind_hand place hand else place) → EndsAt now (if is_open then with_hand bodies hand else bodies) bytes
by_gate place now bodies None bytes is_open stands held tells is = absurd (cc)
by_gate place now bodies (Some body) bytes true (inl ends) held tells is = absurd (closed_gate place bodies bytes ends (tells.0 refl))
by_gate place now bodies (Some body) bytes true (inr ends) held tells is = subst (λ n. EndsAt n (bodies ++ body ∷ []) bytes) (sym is) ends
by_gate place now bodies (Some body) bytes false (inl ends) held tells is = subst (λ n. EndsAt n bodies bytes) (sym is) ends
by_gate place now bodies (Some body) bytes false (inr ends) held tells is = let no : false ≡ true = tells.1 (open_gate place bodies body bytes ends) in absurd (cc)

-- some records stand
stands_ends : (place : ℕ) (bodies : List (List ℕ)) (hand : Option (List ℕ)) (image : List ℕ) → ImageStands place bodies hand image → (p : ℕ) × (b : List (List ℕ)) × EndsAt p b image
stands_ends place bodies None image ends = (place, bodies, ends)
stands_ends place bodies (Some body) image (inl ends) = (place, bodies, ends)
stands_ends place bodies (Some body) image (inr ends) = (place + 5 + length body, bodies ++ body ∷ [], ends)

-- at most one byte has none
ends_blank : (place : ℕ) (bodies : List (List ℕ)) (image : List ℕ) → EndsAt place bodies image → length image ≤ 1 → EndsAt 0 [] image
ends_blank place [] image ends short = record { gate = ends.gate; rest = ends.rest; split = ends.split; closed = ends.closed; size = refl; short = All-nil IsShort }
ends_blank place (body ∷ bodies) image ends short =
    let same = ap length ends.split in
    let all = length-append (row (body ∷ bodies)) (ends.gate ∷ ends.rest) in
    absurd (omega (arith, same, all, short))

-- what is found in bytes that have records
pub found_some : (told : Option (List ℕ)) (bytes : List ℕ) (size : ℕ) (found : Found) → told ≡ Some bytes → HasLength told size → (p : ℕ) (b : List (List ℕ)) → EndsAt p b bytes → Finds told size found
    → EndsAt found.place (found_bodies found) bytes
found_some told bytes size found is has p b ends finds =
    let long : size ≡ length bytes = subst (λ t. HasLength t size) is has in
    elim (cases_lt 1 size) [
      | inl longer ↦ subst (λ t. IfSome t (EndsAt found.place (found_bodies found))) is (finds.records longer)
      | inr short ↦
          let blank = ends_blank p b bytes ends (omega (arith, long, short)) in
          subst (λ p. EndsAt p (found_bodies found) bytes) (sym (finds.at_start short)) (subst (λ (b : List (List ℕ)). EndsAt 0 b bytes) (sym (finds.none short)) blank)
    ]

-- and in those of a disk that keeps records
pub found_ends : (place : ℕ) (bodies : List (List ℕ)) (hand : Option (List ℕ)) (told : Option (List ℕ)) (bytes : List ℕ) (size : ℕ) (found : Found) → told ≡ Some bytes → HasLength told size → ImageStands place bodies hand bytes → Finds told size found
    → EndsAt found.place (found_bodies found) bytes
found_ends place bodies hand told bytes size found is has stands finds =
    let some = stands_ends place bodies hand bytes stands in
    found_some told bytes size found is has some.0 some.1 some.2 finds

-- nothing is missing up to the gate
pub none_missing : (place : ℕ) (bodies : List (List ℕ)) (told : Option (List ℕ)) (bytes : List ℕ) (size : ℕ) → EndsAt place bodies bytes → told ≡ Some bytes → HasLength told size → place + 1 - size ≡ 0
none_missing place bodies told bytes size ends is has =
    let long : size ≡ length bytes = subst (λ t. HasLength t size) is has in
    omega (arith, long, place_within place bodies bytes ends)

-- what a crash may leave is what was told, and has what that has
pub only_told : (told : Option (List ℕ)) (bytes : List ℕ) (images : List ℕ → Type 0) (P : List ℕ → Type 0) → told ≡ Some bytes → Only told images → P bytes → (c : List ℕ) → images c → P c
only_told told bytes images P is only here c left = subst P (sym (subst (λ t. Only t images) is only c left)) here
