-- An image of bytes has one reading.
use Rattle.std.proofs.Common.{◌≡◌, ◌≢◌, ◌≤◌, ◌<◌, ◌⊎◌, inl, inr, ℕ, zero, suc, ◌+◌, ◌^◌, List, [], ◌∷◌, ◌++◌, length, take, drop, get_or, refl, sym, ◌∙◌, ap, subst, arith, append_assoc, length-append, length-take, length-drop, take-append-drop}
use Rattle.std.specs.List.{All}
use Rattle.std.specs.Int.{w32, to_be_bytes, from_be_bytes}
use Rattle.std.proofs.lemmas.List.{take_at, drop_at, append_cancel_left, drop-drop, get_or-take, get_or-drop, get_or_past}
use Rattle.std.proofs.lemmas.List.Elements.{All-nil, All-cons}
use Rattle.std.proofs.lemmas.Nat.{be_bytes_4, from_be_bytes-to_be_bytes_4}
use Rattle.std.proofs.lemmas.Bool.{cases_eq, cases_lt}
use Rattle.qc_journal.specs.Image.{length_bytes, row, IsShort, EndsAt, HasRecords, IsCutOff, IsBroken}
use Rattle.qc_journal.proofs.Images.{length-length_bytes, length_bytes-is}

-- no whole record begins here
abbrev pub IsEnd : List ℕ → Type 0
IsEnd [] = ⊥
IsEnd (gate ∷ rest) = (gate ≢ 1) ⊎ IsCutOff rest

end_some : (t : List ℕ) → IsEnd t → 0 < length t
end_some [] end = absurd end
end_some (gate ∷ rest) end = omega arith

-- the length of a body, read from in front of it
size_read : (body rest : List ℕ) → IsShort body → from_be_bytes w32 (take 4 (length_bytes body ++ rest)) ≡ length body
size_read body rest short =
    ap (from_be_bytes w32) (take_at (length_bytes body) rest 4 (length-length_bytes body) ∙ length_bytes-is body) ∙ from_be_bytes-to_be_bytes_4 (length body) short

-- a whole record is no end
whole : (t body more : List ℕ) → IsShort body → 0 < length more → IsEnd t → t ≡ 1 ∷ (length_bytes body ++ (body ++ more)) → ⊥
whole [] body more short some end is = cc
whole (gate ∷ rest) body more short some (inl shut) is = shut (cc)
whole (gate ∷ rest) body more short some (inr cut) is =
    let same : rest ≡ length_bytes body ++ (body ++ more) = cc in
    let long = length-append (length_bytes body) (body ++ more) in
    let both = length-append body more in
    let four = length-length_bytes body in
    let size : from_be_bytes w32 (take 4 rest) ≡ length body = ap (λ (l : List ℕ). from_be_bytes w32 (take 4 l)) same ∙ size_read body (body ++ more) short in
    elim cut [
      | inl few ↦ omega (arith, few, ap length same, long, both, four, some)
      | inr less ↦ omega (arith, less, ap length same, long, both, four, some, size)
    ]

-- a row of at least one, with its first record in front
row_first : (body : List ℕ) (bodies : List (List ℕ)) (t : List ℕ) → row (body ∷ bodies) ++ t ≡ 1 ∷ (length_bytes body ++ (body ++ (row bodies ++ t)))
row_first body bodies t = ap (λ (l : List ℕ). 1 ∷ l) (append_assoc (length_bytes body ++ body) (row bodies) t ∙ append_assoc (length_bytes body) body (row bodies ++ t))

more_some : (bodies : List (List ℕ)) (t : List ℕ) → IsEnd t → 0 < length (row bodies ++ t)
more_some bodies t end = omega (arith, length-append (row bodies) t, end_some t end)

-- two bodies in front of the same bytes
same_body : (x y s t : List ℕ) → IsShort x → IsShort y → length_bytes x ++ (x ++ s) ≡ length_bytes y ++ (y ++ t) → (x ≡ y) × (s ≡ t)
same_body x y s t short_x short_y is =
    let size : length x ≡ length y = sym (size_read x (x ++ s) short_x) ∙ ap (λ (l : List ℕ). from_be_bytes w32 (take 4 l)) is ∙ size_read y (y ++ t) short_y in
    let rest : x ++ s ≡ y ++ t = sym (drop_at (length_bytes x) (x ++ s) 4 (length-length_bytes x)) ∙ ap (λ (l : List ℕ). drop 4 l) is ∙ drop_at (length_bytes y) (y ++ t) 4 (length-length_bytes y) in
    let body : x ≡ y = sym (take_at x s (length x) refl) ∙ ap (λ (l : List ℕ). take (length x) l) rest ∙ take_at y t (length x) (sym size) in
    (body, append_cancel_left y s t (ap (λ (l : List ℕ). l ++ s) (sym body) ∙ rest))

All-tail : (bodies : List (List ℕ)) (body : List ℕ) → All IsShort (body ∷ bodies) → All IsShort bodies
All-tail bodies body all = λ k d within. all (suc k) d (omega arith)

All-first : (bodies : List (List ℕ)) (body : List ℕ) → All IsShort (body ∷ bodies) → IsShort body
All-first bodies body all = all 0 [] (omega arith)

-- the same bytes are the same records and the same end
pub same_row : (a b : List (List ℕ)) (s t : List ℕ) → IsEnd s → IsEnd t → All IsShort a → All IsShort b → row a ++ s ≡ row b ++ t → (a ≡ b) × (s ≡ t)
same_row [] [] s t end_s end_t short_a short_b is = (refl, is)
same_row [] (y ∷ b) s t end_s end_t short_a short_b is = absurd (whole s y (row b ++ t) (All-first b y short_b) (more_some b t end_t) end_s (is ∙ row_first y b t))
same_row (x ∷ a) [] s t end_s end_t short_a short_b is = absurd (whole t x (row a ++ s) (All-first a x short_a) (more_some a s end_s) end_t (sym is ∙ row_first x a s))
same_row (x ∷ a) (y ∷ b) s t end_s end_t short_a short_b is =
    let fronts : 1 ∷ (length_bytes x ++ (x ++ (row a ++ s))) ≡ 1 ∷ (length_bytes y ++ (y ++ (row b ++ t))) = sym (row_first x a s) ∙ is ∙ row_first y b t in
    let behind : length_bytes x ++ (x ++ (row a ++ s)) ≡ length_bytes y ++ (y ++ (row b ++ t)) = ap (λ (l : List ℕ). drop 1 l) fronts in
    let first = same_body x y (row a ++ s) (row b ++ t) (All-first a x short_a) (All-first b y short_b) behind in
    let rest = same_row a b s t end_s end_t (All-tail a x short_a) (All-tail b y short_b) first.1 in
    (cc (first.0, rest.0), rest.1)

-- at most one byte ends no record
short_none : (place : ℕ) (bodies : List (List ℕ)) (image : List ℕ) → EndsAt place bodies image → length image ≤ 1 → bodies ≡ []
short_none place [] image ends short = refl
short_none place (body ∷ bodies) image ends short =
    absurd (omega (arith, ap length ends.split, length-append (row (body ∷ bodies)) (ends.gate ∷ ends.rest), short))

pub records-same : (image : List ℕ) (bodies others : List (List ℕ)) → HasRecords bodies image → HasRecords others image → others ≡ bodies
records-same image bodies others (inl few) (inl less) = less.0 ∙ sym few.0
records-same image bodies others (inl few) (inr ends) = short_none ends.0 others image ends.1 few.1 ∙ sym few.0
records-same image bodies others (inr ends) (inl few) = few.0 ∙ sym (short_none ends.0 bodies image ends.1 few.1)
records-same image bodies others (inr one) (inr two) =
    (same_row others bodies (two.1.gate ∷ two.1.rest) (one.1.gate ∷ one.1.rest) (inl two.1.closed) (inl one.1.closed) two.1.short one.1.short (sym two.1.split ∙ one.1.split)).0

pub records_not_broken : (image : List ℕ) (bodies : List (List ℕ)) (place : ℕ) → HasRecords bodies image → IsBroken place image → ⊥
records_not_broken image bodies place (inl few) broken = omega (arith, few.1, broken.longer)
records_not_broken image bodies place (inr ends) broken =
    let same = (same_row bodies broken.bodies (ends.1.gate ∷ ends.1.rest) (1 ∷ broken.rest) (inl ends.1.closed) (inr broken.cut_off) ends.1.short broken.short (sym ends.1.split ∙ broken.split)).1 in
    ends.1.closed (cc (same))

pub broken-same : (image : List ℕ) (place other : ℕ) → IsBroken place image → IsBroken other image → other ≡ place
broken-same image place other one two =
    let same = (same_row two.bodies one.bodies (1 ∷ two.rest) (1 ∷ one.rest) (inr two.cut_off) (inr one.cut_off) two.short one.short (sym two.split ∙ one.split)).0 in
    two.size ∙ ap (λ (b : List (List ℕ)). length (row b)) same ∙ sym one.size

-- records, and an end behind them
record Read (t : List ℕ) : Type 0 where
  bodies : List (List ℕ)
  end : List ℕ
  split : t ≡ row bodies ++ end
  ends : IsEnd end
  short : All IsShort bodies

four_below : (bytes : List ℕ) → length bytes ≡ 4 → ((i : ℕ) → get_or bytes i 0 < 256) → from_be_bytes w32 bytes < 2 ^ 32
four_below [] size below = absurd (omega arith)
four_below (a ∷ []) size below = absurd (omega arith)
four_below (a ∷ b ∷ []) size below = absurd (omega arith)
four_below (a ∷ b ∷ c ∷ []) size below = absurd (omega arith)
four_below (a ∷ b ∷ c ∷ d ∷ []) size below = omega (arith, below 0, below 1, below 2, below 3)
four_below (a ∷ b ∷ c ∷ d ∷ e ∷ rest) size below = absurd (omega arith)

take_below : (n : ℕ) (bytes : List ℕ) → ((i : ℕ) → get_or bytes i 0 < 256) → (i : ℕ) → get_or (take n bytes) i 0 < 256
take_below n bytes below i = elim (cases_lt i n) [
  | inl less ↦ subst (λ k. k < 256) (sym (get_or-take n bytes i 0 less)) (below i)
  | inr past ↦ subst (λ k. k < 256) (sym (get_or_past (take n bytes) i 0 (omega (arith, length-take n bytes, past)))) (omega arith)
]

drop_below : (n : ℕ) (bytes : List ℕ) → ((i : ℕ) → get_or bytes i 0 < 256) → (i : ℕ) → get_or (drop n bytes) i 0 < 256
drop_below n bytes below i = subst (λ k. k < 256) (sym (get_or-drop n bytes i 0)) (below (n + i))

-- a whole record in front of what was read behind it
with_first : (rest : List ℕ) → ((i : ℕ) → get_or rest i 0 < 256) → 5 + from_be_bytes w32 (take 4 rest) ≤ length rest → Read (drop (4 + from_be_bytes w32 (take 4 rest)) rest) → Read (1 ∷ rest)
with_first rest below long read =
    let n = from_be_bytes w32 (take 4 rest) in
    let body = take n (drop 4 rest) in
    let four : length (take 4 rest) ≡ 4 = omega (arith, length-take 4 rest, long) in
    let small = take_below 4 rest below in
    let size : length body ≡ n = omega (arith, length-take n (drop 4 rest), length-drop 4 rest, long) in
    let front : take 4 rest ≡ length_bytes body = sym (be_bytes_4 (take 4 rest) n four small refl) ∙ ap (to_be_bytes w32) (sym size) ∙ sym (length_bytes-is body) in
    let back : drop n (drop 4 rest) ≡ row read.bodies ++ read.end = drop-drop n 4 rest ∙ read.split in
    let all : rest ≡ length_bytes body ++ (body ++ (row read.bodies ++ read.end)) =
    sym (take-append-drop 4 rest)
    ∙ ap (λ (l : List ℕ). l ++ drop 4 rest) front
    ∙ ap (λ (l : List ℕ). length_bytes body ++ l) (sym (take-append-drop n (drop 4 rest)) ∙ ap (λ (l : List ℕ). body ++ l) back) in
    record {
      bodies = body ∷ read.bodies;
      end = read.end;
      split = ap (λ (l : List ℕ). 1 ∷ l) all ∙ sym (row_first body read.bodies read.end);
      ends = read.ends;
      short = All-cons IsShort body read.bodies (omega (arith, size, four_below (take 4 rest) four small)) read.short;
    }

-- a first byte that begins no whole record
ends_here : (gate : ℕ) (rest : List ℕ) → IsEnd (gate ∷ rest) → Read (gate ∷ rest)
ends_here gate rest end = record { bodies = []; end = gate ∷ rest; split = refl; ends = end; short = All-nil IsShort }

reads : (n : ℕ) (t : List ℕ) → length t ≤ n → 0 < length t → ((i : ℕ) → get_or t i 0 < 256) → Read t
reads zero t within some below = absurd (omega arith)
reads (suc n) [] within some below = absurd (omega arith)
reads (suc n) (gate ∷ rest) within some below = elim (cases_eq gate 1) [
  | inr shut ↦ ends_here gate rest (inl shut)
  | inl is_open ↦
      elim (cases_lt (length rest) (5 + from_be_bytes w32 (take 4 rest))) [
        | inl less ↦ ends_here gate rest (inr (inr less))
        | inr long ↦
            let small : (i : ℕ) → get_or rest i 0 < 256 = λ i. below (suc i) in
            let k = 4 + from_be_bytes w32 (take 4 rest) in
            let left = length-drop k rest in
            subst (λ g. Read (g ∷ rest)) (sym is_open) (with_first rest small long (reads n (drop k rest) (omega (arith, left, within)) (omega (arith, left, long)) (drop_below k rest small)))
      ]
]

pub one_of : (image : List ℕ) → All (λ byte. byte < 256) image → ((bodies : List (List ℕ)) × HasRecords bodies image) ⊎ ((place : ℕ) × IsBroken place image)
one_of image bytes = elim (cases_lt 1 (length image)) [
  | inr few ↦ inl ([], inl (refl, few))
  | inl longer ↦ by (reads (length image) image (omega arith) (omega (arith, longer)) (λ i. below i)) longer
]
  where
    below : (i : ℕ) → get_or image i 0 < 256
    below i = elim (cases_lt i (length image)) [
      | inl within ↦ bytes i 0 within
      | inr past ↦ subst (λ k. k < 256) (sym (get_or_past image i 0 past)) (omega arith)
    ]

    by_end : (bodies : List (List ℕ)) (end : List ℕ) → image ≡ row bodies ++ end → IsEnd end → All IsShort bodies → 1 < length image → ((b : List (List ℕ)) × HasRecords b image) ⊎ ((place : ℕ) × IsBroken place image)
    by_end bodies [] split ends short longer = absurd ends
    by_end bodies (gate ∷ rest) split (inl shut) short longer = inl (bodies, inr (length (row bodies), record { gate = gate; rest = rest; split = split; closed = shut; size = refl; short = short }))
    by_end bodies (gate ∷ rest) split (inr cut) short longer = elim (cases_eq gate 1) [
      | inl is_open ↦ inr (length (row bodies), record { bodies = bodies; rest = rest; split = split ∙ ap (λ g. row bodies ++ g ∷ rest) is_open; size = refl; short = short; longer = longer; cut_off = cut })
      | inr shut ↦ inl (bodies, inr (length (row bodies), record { gate = gate; rest = rest; split = split; closed = shut; size = refl; short = short }))
    ]

    by : Read image → 1 < length image → ((b : List (List ℕ)) × HasRecords b image) ⊎ ((place : ℕ) × IsBroken place image)
    by read longer = by_end read.bodies read.end read.split read.ends read.short longer
