-- Where all that a session sent is known to be taken, it was.
use Rattle.std.proofs.Common.{◌≡◌, ℕ, ◌≤◌, ◌<◌, List, [], ◌∷◌, ◌++◌, length, get_or, map, refl, sym, ap, ◌∙◌, subst, arith, append-nil, length-append}
use Rattle.qc_event.specs.declared.event.Ask.{Ask}
use Rattle.qc_lane.specs.declared.lane.Request.{Request}
use Rattle.qc_lane.specs.Lanes.{of, numbered}
use Rattle.qc_lane.proofs.Moves.{length_numbered}
use Rattle.std.proofs.lemmas.List.{get_or-map}
use Rattle.qc_mail.specs.Mails.{HasAll}

nothing : (rest : List Request) → length rest ≡ 0 → rest ≡ []
nothing [] e = refl
nothing (r ∷ rest) e = absurd (omega (arith, e))

pub whole : (s known : ℕ) (got rest : List Request) (asks : List Ask) → of s got ++ rest ≡ numbered s 0 asks → known ≡ length asks → known ≤ length (of s got) → of s got ≡ numbered s 0 asks
whole s known got rest asks is all few =
    let none : rest ≡ [] = nothing rest (omega (arith, length-append (of s got) rest, ap length is, length_numbered s 0 asks, all, few)) in
    sym (append-nil (of s got)) ∙ ap (λ l. of s got ++ l) (sym none) ∙ is

-- what an end sent, as its post tells it
pub has_all : {X : Type 0} (put : X → List Ask) (ends : List X) (i copy session own : ℕ) (x : X) (got : List Request) → i ≡ copy → i < length ends → x ≡ get_or ends i x → own ≡ session
    → of own got ≡ numbered own 0 (put x) → HasAll session (map put ends) (copy, got)
has_all put ends i copy session own x got at within here mine all =
    let told : put x ≡ get_or (map put ends) copy [] = ap put here ∙ sym (get_or-map put ends i x [] within) ∙ ap (λ k. get_or (map put ends) k []) at in
    subst (λ s. of s got ≡ numbered s 0 (get_or (map put ends) copy [])) mine (all ∙ ap (numbered own 0) told)

pub same_all : (s own : ℕ) (all sent : List (List Ask)) (taken : ℕ × List Request) → own ≡ s → sent ≡ all → HasAll own sent taken → HasAll s all taken
same_all s own all sent taken mine same h = subst (λ (x : ℕ × List (List Ask)). HasAll x.0 x.1 taken) (λ i. (mine i, same i)) h
