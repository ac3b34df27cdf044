-- What records an image has, it has behind one record more.
use Rattle.std.proofs.Common.{◌≡◌, ◌<◌, ◌⊎◌, ⊎_elim, ℕ, List, [], ◌∷◌, ◌++◌, length, ◌∙◌, subst, arith, length-append, get_or}
use Rattle.std.proofs.lemmas.List.{get_or_append_left}
use Rattle.qc_journal.specs.Image.{HasRecords, HasAt}
use Rattle.qc_journal.proofs.Readings.{records-same}

-- an image that has a record has it among the records that it has
pub among : (index : ℕ) (had image : List ℕ) (bodies : List (List ℕ)) → HasRecords bodies image → HasAt index had image → (index < length bodies) × (get_or bodies index [] ≡ had)
among index had image bodies has h =
    subst (λ (b : List (List ℕ)). (index < length b) × (get_or b index [] ≡ had)) (records-same image bodies h.0 has h.1) (h.2, h.3)

-- another image with these records, or these and one more, has it too
pub has_still : (index : ℕ) (had image c : List ℕ) (bodies : List (List ℕ)) (body : List ℕ) → HasRecords bodies image → HasAt index had image
    → HasRecords bodies c ⊎ HasRecords (bodies ++ body ∷ []) c → HasAt index had c
has_still index had image c bodies body has h either =
    let in_them = among index had image bodies has h in
    let longer = length-append bodies (body ∷ []) in
    ⊎_elim (λ these. (bodies, these, in_them.0, in_them.1))
    (λ more. (bodies ++ body ∷ [], more, omega (arith, longer, in_them.0), get_or_append_left bodies (body ∷ []) [] index in_them.0 ∙ in_them.1))
    either
