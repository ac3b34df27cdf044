-- What is left of the requests that were held, as they are answered one by one.
use Rattle.std.proofs.Common.{◌≡◌, ◌≢◌, ◌<◌, ℕ, zero, suc, ◌-◌, ◌⊎◌, inl, inr, List, [], ◌∷◌, ◌++◌, length, refl, sym, subst, ap, ◌∙◌, Option, Some, None, Result, Ok, Err, arith, length-append}
use Rattle.std.specs.Result.{IsErrAnd}
use Rattle.std.specs.Prelude.{All, slice_get, remove}
use Rattle.std.proofs.lemmas.List.Edits.{remove-append_left, remove-append_right}
use Rattle.std.proofs.lemmas.List.Elements.{All-append, All-take, All-drop, All-weaker, All-same}
use Rattle.std.proofs.lemmas.List.{append-nil}
use Rattle.std.proofs.lemmas.Option.{slice_get_within}
use Rattle.qc_event.specs.declared.event.Ask.{Ask}
use Rattle.qc_event.specs.declared.event.Answered.{Answered}
use Rattle.qc_event.specs.declared.short.Short.{Short}
use Rattle.qc_net.specs.Given.{Given}
use Rattle.qc_net.specs.Courier.{WasAnswered, IsLeft, IsHeldBehind, HeldAfter, Stepped}
use Rattle.qc_net.specs.declared.courier.Sent.{Sent}
use Rattle.qc_net.specs.declared.courier.Sent.TheVariants.{Answer, Lost, Late}

-- the meanings of a port widen
abbrev pub Wider : (Ask → Answered → Type 0) → (Ask → Answered → Type 0) → Type 0
Wider Gave Gives = (ask : Ask) (answer : Answered) → Gave ask answer → Gives ask answer

-- all of them are left
pub left-same : (Gave : Ask → Answered → Type 0) (held : List Ask) → IsLeft Gave held held
left-same Gave [] = refl
left-same Gave (ask ∷ held) = inl (held, refl, left-same Gave held)

-- more was answered since
pub left-wider : (Gave Gives : Ask → Answered → Type 0) → Wider Gave Gives → (before now : List Ask) → IsLeft Gave before now → IsLeft Gives before now
left-wider Gave Gives wider [] now left = left
left-wider Gave Gives wider (ask ∷ before) now (inl (rest, is, left)) = inl (rest, is, left-wider Gave Gives wider before rest left)
left-wider Gave Gives wider (ask ∷ before) now (inr (answered, left)) = inr ((answered.0, wider ask answered.0 answered.1), left-wider Gave Gives wider before now left)

none-at : (now : List Ask) (place : ℕ) (ask : Ask) → now ≡ [] → slice_get now place ≡ Some ask → ⊥
none-at [] place ask is at = cc
none-at (first ∷ now) place ask is at = cc

-- one more is gone
pub left-remove : (Gave : Ask → Answered → Type 0) (before now : List Ask) (place : ℕ) (ask : Ask) → IsLeft Gave before now → slice_get now place ≡ Some ask → WasAnswered Gave ask → IsLeft Gave before (remove now place)
left-remove Gave [] now place ask left at answered = absurd (none-at now place ask left at)
left-remove Gave (first ∷ before) now place ask (inr (gone, left)) at answered = inr (gone, left-remove Gave before now place ask left at answered)
left-remove Gave (first ∷ before) now zero ask (inl (rest, is, left)) at answered =
    let here : slice_get (first ∷ rest) zero ≡ Some ask = rw is at at in
    let same : first ≡ ask = cc in
    rw is (inr (subst (WasAnswered Gave) (sym same) answered, left))
left-remove Gave (first ∷ before) now (suc place) ask (inl (rest, is, left)) at answered =
    let behind : slice_get rest place ≡ Some ask = rw is at at in
    rw is (inl (remove rest place, refl, left-remove Gave before rest place ask left behind answered))

pub slice_get-left : {X : Type 0} → (xs ys : List X) (i : ℕ) → i < length xs → slice_get (xs ++ ys) i ≡ slice_get xs i
slice_get-left [] ys i h = absurd (omega arith)
slice_get-left (x ∷ xs) ys zero h = refl
slice_get-left (x ∷ xs) ys (suc i) h = slice_get-left xs ys i (omega arith)

slice_get-seam : (xs : List Ask) (y : Ask) → slice_get (xs ++ y ∷ []) (length xs) ≡ Some y
slice_get-seam [] y = refl
slice_get-seam (x ∷ xs) y = slice_get-seam xs y

-- A due step that delivers none, or another, leaves the request that is held last.
pub behind-other : (Gave : Ask → Answered → Type 0) (before : List Ask) (mine : Ask) (held : List Ask) (place : ℕ) (ask : Ask) → IsHeldBehind Gave before mine held → slice_get held place ≡ Some ask → place ≢ length held - 1 → WasAnswered Gave ask → IsHeldBehind Gave before mine (remove held place)
behind-other Gave before mine held place ask (rest, is, left) at other answered =
    let there : slice_get (rest ++ mine ∷ []) place ≡ Some ask = rw is at at in
    let another : place ≢ length (rest ++ mine ∷ []) - 1 = rw is at other in
    let long = length-append rest (mine ∷ []) in
    let within : place < length rest = omega (arith, slice_get_within (rest ++ mine ∷ []) place ask there, long, another) in
    let found : slice_get rest place ≡ Some ask = sym (slice_get-left rest (mine ∷ []) place within) ∙ there in
    rw is (remove rest place, remove-append_left rest (mine ∷ []) place within, left-remove Gave before rest place ask left found answered)

-- One that delivers the last leaves what is left of the others.
pub behind-mine : (Gave : Ask → Answered → Type 0) (before : List Ask) (mine : Ask) (held : List Ask) (place : ℕ) (ask : Ask) → IsHeldBehind Gave before mine held → slice_get held place ≡ Some ask → place ≡ length held - 1 → (ask ≡ mine) × IsLeft Gave before (remove held place)
behind-mine Gave before mine held place ask (rest, is, left) at last =
    let long = length-append rest (mine ∷ []) in
    let end : place ≡ length rest = omega (arith, last, ap length is, long) in
    let there : slice_get (rest ++ mine ∷ []) (length rest) ≡ Some ask = rw (is, end) at at in
    let seam = slice_get-seam rest mine in
    let gone : remove (rest ++ mine ∷ []) (length rest) ≡ rest ++ remove (mine ∷ []) (length rest - length rest) = remove-append_right rest (mine ∷ []) (length rest) (length rest) refl (omega arith) in
    let zero_left : length rest - length rest ≡ 0 = omega arith in
    let all_gone : remove (rest ++ mine ∷ []) (length rest) ≡ rest = gone ∙ ap (λ n. rest ++ remove (mine ∷ []) n) zero_left ∙ append-nil rest in
    let same : ask ≡ mine = cc in
    (same, rw (is, end) (rw all_gone left))

-- what is true of each of those that are held is true of each that is left
pub all-remove : (May Mays : Ask → Type 0) → ((ask : Ask) → May ask → Mays ask) → (held : List Ask) (place : ℕ) → All May held → All Mays (remove held place)
all-remove May Mays wider held place all =
    let more = All-weaker May Mays wider held all in
    All-append Mays _ _ (All-take Mays place held more) (All-drop Mays (suc place) held more)

pub all-stepped : (Gave : Ask → Answered → Type 0) (May Mays : Ask → Type 0) → ((ask : Ask) → May ask → Mays ask) → (held now : List Ask) (before after : Option (List Given)) (step : Option (ℕ × Answered)) → Stepped Gave held now before after step → All May held → All Mays now
all-stepped Gave May Mays wider held now before after None stepped all = All-same Mays now held (stepped.0) (All-weaker May Mays wider held all)
all-stepped Gave May Mays wider held now before after (Some (place, answer)) stepped all = rw (stepped.2) (all-remove May Mays wider held place all)

-- a request that is held last is so after a step that delivers none
pub behind-same : (Gave Gives : Ask → Answered → Type 0) → Wider Gave Gives → (before : List Ask) (mine : Ask) (held now : List Ask) → now ≡ held → IsHeldBehind Gave before mine held → IsHeldBehind Gives before mine now
behind-same Gave Gives wider before mine held now same (rest, is, left) = (rest, same ∙ is, left-wider Gave Gives wider before rest left)

pub held-some : (Gave : Ask → Answered → Type 0) (before : List Ask) (mine : Ask) (held : List Ask) → IsHeldBehind Gave before mine held → 0 < length held
held-some Gave before mine held (rest, is, left) = let long = length-append rest (mine ∷ []) in omega (arith, ap length is, long)

-- a due step leaves the request held last, unless it delivers the last
pub behind-stepped : (Gave Gives : Ask → Answered → Type 0) → Wider Gave Gives → (before : List Ask) (mine : Ask) (held now : List Ask) (made after : Option (List Given)) → IsHeldBehind Gave before mine held → (step : Option (ℕ × Answered)) → Stepped Gives held now made after step → ((place : ℕ) (answer : Answered) → step ≡ Some (place, answer) → place ≢ length held - 1) → IsHeldBehind Gives before mine now
behind-stepped Gave Gives wider before mine held now made after behind None stepped other = behind-same Gave Gives wider before mine held now stepped.0 behind
behind-stepped Gave Gives wider before mine held now made after behind (Some (place, answer)) stepped other =
    let wide = behind-same Gave Gives wider before mine held held refl behind in
    rw (stepped.2) (behind-other Gives before mine held place stepped.0 wide stepped.1 (other place answer refl) (answer, stepped.3))

-- what is left after an error
pub left-err : (Gave : Ask → Answered → Type 0) (before : List Ask) (mine : Ask) (now : List Ask) (r : Result Sent Short) (Q : Short → Type 0) → IsErrAnd r Q → IsLeft Gave before now ⊎ IsHeldBehind Gave before mine now → HeldAfter Gave before mine now r
left-err Gave before mine now (Ok sent) Q is left = absurd is
left-err Gave before mine now (Err e) Q is left = left

-- the first is left, or gone, of a longer list too
kept-left : (Gave : Ask → Answered → Type 0) (ask : Ask) (before rest now : List Ask) → IsLeft Gave (ask ∷ rest) now → ((later : List Ask) → IsLeft Gave rest later → IsLeft Gave before later) → IsLeft Gave (ask ∷ before) now
kept-left Gave ask before rest now (inl (later, is, left)) on = inl (later, is, on later left)
kept-left Gave ask before rest now (inr (gone, left)) on = inr (gone, on now left)

-- what is left of what was left before
left-left : (Gave : Ask → Answered → Type 0) (before mid now : List Ask) → IsLeft Gave before mid → IsLeft Gave mid now → IsLeft Gave before now
left-left Gave [] mid now first next = subst (λ (m : List Ask). IsLeft Gave m now) first next
left-left Gave (ask ∷ before) mid now (inr (gone, first)) next = inr (gone, left-left Gave before mid now first next)
left-left Gave (ask ∷ before) mid now (inl (rest, is, first)) next =
    let then_next : IsLeft Gave (ask ∷ rest) now = subst (λ (m : List Ask). IsLeft Gave m now) is next in
    kept-left Gave ask before rest now then_next (λ later left. left-left Gave before rest later first left)

-- and after a whole call
pub held-after : (Gave : Ask → Answered → Type 0) (before mid : List Ask) (mine : Ask) (now : List Ask) (r : Result Sent Short) → IsLeft Gave before mid → HeldAfter Gave mid mine now r → HeldAfter Gave before mine now r
held-after Gave before mid mine now (Ok (Answer answer)) first next = left-left Gave before mid now first next
held-after Gave before mid mine now (Ok Lost) first next = left-left Gave before mid now first next
held-after Gave before mid mine now (Ok Late) first (rest, is, left) = (rest, is, left-left Gave before mid rest first left)
held-after Gave before mid mine now (Err e) first (inl left) = inl (left-left Gave before mid now first left)
held-after Gave before mid mine now (Err e) first (inr (rest, is, left)) = inr (rest, is, left-left Gave before mid rest first left)

-- a due step leaves what it does not deliver
pub left-stepped : (Gave : Ask → Answered → Type 0) (held now : List Ask) (made after : Option (List Given)) (step : Option (ℕ × Answered)) → Stepped Gave held now made after step → IsLeft Gave held now
left-stepped Gave held now made after None stepped = subst (λ (n : List Ask). IsLeft Gave held n) (sym stepped.0) (left-same Gave held)
left-stepped Gave held now made after (Some (place, answer)) stepped = subst (λ (n : List Ask). IsLeft Gave held n) (sym stepped.2) (left-remove Gave held held place stepped.0 (left-same Gave held) stepped.1 (answer, stepped.3))
