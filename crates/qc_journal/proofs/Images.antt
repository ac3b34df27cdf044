-- What the records of an image are behind a write, torn or whole.
use Rattle.std.proofs.Common.{◌≡◌, ◌≢◌, ◌<◌, ◌≤◌, ◌⊎◌, inl, inr, ℕ, ◌+◌, List, [], ◌∷◌, ◌++◌, length, take, drop, get_or, refl, sym, ◌∙◌, ap, arith, append_assoc, length-append, length-take, length-drop, take-append-drop}
use Rattle.std.specs.List.{All}
use Rattle.std.specs.Int.{w32, to_be_bytes}
use Rattle.std.proofs.lemmas.List.{append-nil, ext_get_or, get_or-take, get_or-drop, get_or_at, take_at, drop_at, drop_more, drop-drop}
use Rattle.std.proofs.lemmas.List.Elements.{All-nil, All-push}
use Rattle.std.proofs.lemmas.Bool.{cases_eq}
use Rattle.qc_disk.specs.Disk.{written, Torn}
use Rattle.qc_journal.specs.Image.{length_bytes, row, IsShort, EndsAt, IsCutOff, IsBroken, behind_gate}

pub length-length_bytes : (body : List ℕ) → length (length_bytes body) ≡ 4
unfolding length_bytes
length-length_bytes body = refl

pub length_bytes-is : (body : List ℕ) → length_bytes body ≡ to_be_bytes w32 (length body)
unfolding length_bytes
length_bytes-is body = refl

-- one more record behind the others
pub row-push : (bodies : List (List ℕ)) (body rest : List ℕ) → row (bodies ++ body ∷ []) ++ rest ≡ row bodies ++ 1 ∷ (length_bytes body ++ body ++ rest)
row-push [] body rest = ap (λ (l : List ℕ). 1 ∷ (l ++ rest)) (append-nil (length_bytes body ++ body))
row-push (b ∷ bodies) body rest = ap (λ (l : List ℕ). 1 ∷ l) (
    append_assoc (length_bytes b ++ b) (row (bodies ++ body ∷ [])) rest
    ∙ ap (λ (l : List ℕ). length_bytes b ++ b ++ l) (row-push bodies body rest)
    ∙ sym (append_assoc (length_bytes b ++ b) (row bodies) (1 ∷ (length_bytes body ++ body ++ rest)))
    )

pub length-row-push : (bodies : List (List ℕ)) (body : List ℕ) → length (row (bodies ++ body ∷ [])) ≡ length (row bodies) + 5 + length body
length-row-push bodies body =
    let same = ap length (row-push bodies body []) in
    let left = length-append (row (bodies ++ body ∷ [])) [] in
    let right = length-append (row bodies) (1 ∷ (length_bytes body ++ body ++ [])) in
    let most = length-append (length_bytes body ++ body) [] in
    let piece = length-append (length_bytes body) body in
    let four = length-length_bytes body in
    omega (arith, same, left, right, most, piece, four)

pub length-behind_gate : (body : List ℕ) → length (behind_gate body) ≡ 5 + length body
length-behind_gate body =
    let all = length-append (length_bytes body ++ body) (0 ∷ []) in
    let piece = length-append (length_bytes body) body in
    let four = length-length_bytes body in
    omega (arith, all, piece, four)

-- a whole record and a closed gate behind the others
pub ends_push : (place : ℕ) (bodies : List (List ℕ)) (body : List ℕ) (gate : ℕ) (rest image : List ℕ) → image ≡ row bodies ++ 1 ∷ (length_bytes body ++ body ++ gate ∷ rest) → gate ≢ 1
    → place ≡ length (row bodies) → All IsShort bodies → IsShort body → EndsAt (place + 5 + length body) (bodies ++ body ∷ []) image
ends_push place bodies body gate rest image split closed size short fits =
    let long = length-row-push bodies body in
    record {
      gate = gate;
      rest = rest;
      split = split ∙ sym (row-push bodies body (gate ∷ rest));
      closed = closed;
      size = omega (arith, long, size);
      short = All-push IsShort bodies body short fits;
    }

pub place_within : (place : ℕ) (bodies : List (List ℕ)) (image : List ℕ) → EndsAt place bodies image → place + 1 ≤ length image
place_within place bodies image ends =
    let same = ap length ends.split in
    let long = length-append (row bodies) (ends.gate ∷ ends.rest) in
    let size = ends.size in
    omega (arith, same, long, size)

-- up to and with the gate
front_of : (place : ℕ) (bodies : List (List ℕ)) (image : List ℕ) (ends : EndsAt place bodies image) → take (place + 1) image ≡ row bodies ++ ends.gate ∷ []
front_of place bodies image ends =
    let long = length-append (row bodies) (ends.gate ∷ []) in
    let size = ends.size in
    ap (λ (l : List ℕ). take (place + 1) l) (ends.split ∙ sym (append_assoc (row bodies) (ends.gate ∷ []) ends.rest))
    ∙ take_at (row bodies ++ ends.gate ∷ []) ends.rest (place + 1) (omega (arith, long, size))

-- the records of an image stand in each that is the same up to the gate
same_front : (place : ℕ) (bodies : List (List ℕ)) (old new : List ℕ) → EndsAt place bodies old → take (place + 1) new ≡ take (place + 1) old → EndsAt place bodies new
same_front place bodies old new ends same = record {
  gate = ends.gate;
  rest = drop (place + 1) new;
  split = sym (take-append-drop (place + 1) new)
      ∙ ap (λ (l : List ℕ). l ++ drop (place + 1) new) (same ∙ front_of place bodies old ends)
      ∙ append_assoc (row bodies) (ends.gate ∷ []) (drop (place + 1) new);
  closed = ends.closed;
  size = ends.size;
  short = ends.short;
}

front_same : (n : ℕ) (old new : List ℕ) → n ≤ length old → length old ≤ length new → ((i : ℕ) → i < n → i < length old → get_or new i 0 ≡ get_or old i 0) → take n new ≡ take n old
front_same n old new within longer same =
    let size_old = length-take n old in
    let size_new = length-take n new in
    ext_get_or 0 (take n new) (take n old) (omega (arith, size_old, size_new)) (λ i h.
    let below : i < n = omega (arith, size_new, h) in
    get_or-take n new i 0 below ∙ same i below (omega (arith, below, within)) ∙ sym (get_or-take n old i 0 below))

back_same : (n : ℕ) (old new : List ℕ) → length new ≡ length old → ((i : ℕ) → n ≤ i → i < length old → get_or new i 0 ≡ get_or old i 0) → drop n new ≡ drop n old
back_same n old new size same =
    let size_old = length-drop n old in
    let size_new = length-drop n new in
    ext_get_or 0 (drop n new) (drop n old) (omega (arith, size_old, size_new, size)) (λ i h.
    get_or-drop n new i 0 ∙ same (n + i) (omega arith) (omega (arith, size_new, size, h)) ∙ sym (get_or-drop n old i 0))

-- the closed gate stands in whatever is left of a write behind it
pub torn_behind : (place : ℕ) (bodies : List (List ℕ)) (n : ℕ) (old new : List ℕ) → EndsAt place bodies old → Torn (place + 1) n old new → EndsAt place bodies new
torn_behind place bodies n old new ends torn =
    same_front place bodies old new ends (front_same (place + 1) old new (place_within place bodies old ends) torn.no_shorter torn.before)

-- A whole record stands behind a gate of any kind, and a closed gate behind the record.
pub record Staged (place : ℕ) (bodies : List (List ℕ)) (body : List ℕ) (image : List ℕ) : Type 0 where
  pub gate : ℕ
  pub rest : List ℕ
  pub split : image ≡ row bodies ++ gate ∷ (length_bytes body ++ body ++ 0 ∷ rest)
  pub size : place ≡ length (row bodies)
  pub short : All IsShort bodies
  pub fits : IsShort body

pub written_behind : (place : ℕ) (bodies : List (List ℕ)) (body old : List ℕ) → EndsAt place bodies old → IsShort body → Staged place bodies body (written (place + 1) (behind_gate body) old)
written_behind place bodies body old ends fits =
    let rest = drop (place + 1 + length (behind_gate body)) old in
    record {
      gate = ends.gate;
      rest = rest;
      split = ap (λ (l : List ℕ). l ++ behind_gate body ++ rest) (front_of place bodies old ends)
          ∙ append_assoc (row bodies ++ ends.gate ∷ []) (behind_gate body) rest
          ∙ append_assoc (row bodies) (ends.gate ∷ []) (behind_gate body ++ rest)
          ∙ ap (λ (l : List ℕ). row bodies ++ ends.gate ∷ l) (append_assoc (length_bytes body ++ body) (0 ∷ []) rest);
      size = ends.size;
      short = ends.short;
      fits = fits;
    }

-- what is behind the gate of such an image
abbrev tail : List ℕ → List ℕ → List ℕ
tail body rest = length_bytes body ++ body ++ 0 ∷ rest

module _ (place : ℕ) (bodies : List (List ℕ)) (body : List ℕ) (old : List ℕ) (staged : Staged place bodies body old) where
  front : take place old ≡ row bodies
  front = ap (λ (l : List ℕ). take place l) staged.split ∙ take_at (row bodies) (staged.gate ∷ tail body staged.rest) place (sym staged.size)

  back : drop (place + 1) old ≡ tail body staged.rest
  back =
      let long = length-append (row bodies) (staged.gate ∷ []) in
      let size = staged.size in
      ap (λ (l : List ℕ). drop (place + 1) l) (staged.split ∙ sym (append_assoc (row bodies) (staged.gate ∷ []) (tail body staged.rest)))
      ∙ drop_at (row bodies ++ staged.gate ∷ []) (tail body staged.rest) (place + 1) (omega (arith, long, size))

  pub gate_within : place + 1 ≤ length old
  gate_within =
      let same = ap length staged.split in
      let long = length-append (row bodies) (staged.gate ∷ tail body staged.rest) in
      let size = staged.size in
      omega (arith, same, long, size)

  -- the record counts where its gate is open
  by_gate : (gate : ℕ) (new : List ℕ) → new ≡ row bodies ++ gate ∷ tail body staged.rest → EndsAt place bodies new ⊎ EndsAt (place + 5 + length body) (bodies ++ body ∷ []) new
  by_gate gate new split = elim (cases_eq gate 1) [
    | inl is_open ↦ inr (ends_push place bodies body 0 staged.rest new (split ∙ ap (λ n. row bodies ++ n ∷ tail body staged.rest) is_open) (omega arith) staged.size staged.short staged.fits)
    | inr shut ↦ inl (record { gate = gate; rest = tail body staged.rest; split = split; closed = shut; size = staged.size; short = staged.short })
  ]

  -- whatever is left of a write over the gate has the records, with the new one or without
  pub torn_gate : (new : List ℕ) → Torn place 1 old new → EndsAt place bodies new ⊎ EndsAt (place + 5 + length body) (bodies ++ body ∷ []) new
  torn_gate new torn =
      let within = gate_within in
      let longer = torn.no_shorter in
      let size : length new ≡ length old = omega (arith, within, longer, torn.no_longer) in
      let before = front_same place old new (omega (arith, within)) longer torn.before in
      let after = back_same (place + 1) old new size torn.after in
      by_gate (get_or new place 0) new (
      sym (take-append-drop place new)
      ∙ ap (λ (l : List ℕ). l ++ drop place new) (before ∙ front)
      ∙ ap (λ (l : List ℕ). row bodies ++ l) (drop_more new place 0 (omega (arith, size, within)) ∙ ap (λ (l : List ℕ). get_or new place 0 ∷ l) (after ∙ back))
      )

  -- an open gate
  pub written_gate : EndsAt (place + 5 + length body) (bodies ++ body ∷ []) (written place (1 ∷ []) old)
  written_gate =
      let split : written place (1 ∷ []) old ≡ row bodies ++ 1 ∷ tail body staged.rest =
      append_assoc (take place old) (1 ∷ []) (drop (place + 1) old)
      ∙ ap (λ (l : List ℕ). l ++ 1 ∷ drop (place + 1) old) front
      ∙ ap (λ (l : List ℕ). row bodies ++ 1 ∷ l) back in
      ends_push place bodies body 0 staged.rest (written place (1 ∷ []) old) split (omega arith) staged.size staged.short staged.fits

-- where the gate is closed it is not 1
pub closed_gate : (place : ℕ) (bodies : List (List ℕ)) (image : List ℕ) → EndsAt place bodies image → get_or image place 0 ≢ 1
closed_gate place bodies image ends is =
    let gate = get_or_at (row bodies) ends.gate ends.rest 0 place (sym ends.size) in
    ends.closed (sym gate ∙ ap (λ (l : List ℕ). get_or l place 0) (sym ends.split) ∙ is)

-- where the record of a body counts, its gate is 1
pub open_gate : (place : ℕ) (bodies : List (List ℕ)) (body image : List ℕ) → EndsAt (place + 5 + length body) (bodies ++ body ∷ []) image → get_or image place 0 ≡ 1
open_gate place bodies body image ends =
    let long = length-row-push bodies body in
    let size = ends.size in
    ap (λ (l : List ℕ). get_or l place 0) (ends.split ∙ row-push bodies body (ends.gate ∷ ends.rest))
    ∙ get_or_at (row bodies) 1 (length_bytes body ++ body ++ ends.gate ∷ ends.rest) 0 place (omega (arith, long, size))

-- an image of at most one byte with a closed gate written over it
pub written_blank : (old : List ℕ) → length old ≤ 1 → EndsAt 0 [] (written 0 (0 ∷ []) old)
written_blank old short = record { gate = 0; rest = drop 1 old; split = refl; closed = omega arith; size = refl; short = All-nil IsShort }

-- an open gate and what stands behind it
open_split : (bytes : List ℕ) (bodies : List (List ℕ)) (place : ℕ) → bytes ≡ row bodies ++ drop place bytes → place < length bytes → get_or bytes place 0 ≡ 1 → bytes ≡ row bodies ++ 1 ∷ drop (place + 1) bytes
open_split bytes bodies place split within is_open =
    split ∙ ap (λ (l : List ℕ). row bodies ++ l) (drop_more bytes place 0 within ∙ ap (λ n. n ∷ drop (place + 1) bytes) is_open)

-- one more record is read
pub scan_more : (bytes : List ℕ) (bodies : List (List ℕ)) (place n : ℕ) → bytes ≡ row bodies ++ drop place bytes → place < length bytes → get_or bytes place 0 ≡ 1
    → place + 5 + n < length bytes → take 4 (drop (place + 1) bytes) ≡ to_be_bytes w32 n
    → bytes ≡ row (bodies ++ take n (drop 4 (drop (place + 1) bytes)) ∷ []) ++ drop (place + (5 + n)) bytes
scan_more bytes bodies place n split below is_open within size =
    let after = drop (place + 1) bytes in
    let body = take n (drop 4 after) in
    let left = length-drop (place + 1) bytes in
    let long : length body ≡ n = omega (arith, length-take n (drop 4 after), length-drop 4 after, left) in
    let next : drop n (drop 4 after) ≡ drop (place + (5 + n)) bytes =
    drop-drop n 4 after ∙ drop-drop (4 + n) (place + 1) bytes ∙ ap (λ k. drop k bytes) (omega arith) in
    let rest : drop 4 after ≡ body ++ drop (place + (5 + n)) bytes = sym (take-append-drop n (drop 4 after)) ∙ ap (λ (l : List ℕ). body ++ l) next in
    let whole : after ≡ length_bytes body ++ body ++ drop (place + (5 + n)) bytes =
    sym (take-append-drop 4 after)
    ∙ ap (λ (l : List ℕ). l ++ drop 4 after) (size ∙ sym (ap (to_be_bytes w32) long) ∙ sym (length_bytes-is body))
    ∙ ap (λ (l : List ℕ). length_bytes body ++ l) rest
    ∙ sym (append_assoc (length_bytes body) body (drop (place + (5 + n)) bytes)) in
    open_split bytes bodies place split below is_open ∙ ap (λ (l : List ℕ). row bodies ++ 1 ∷ l) whole ∙ sym (row-push bodies body (drop (place + (5 + n)) bytes))

-- the gate that ends them
pub scan_ends : (bytes : List ℕ) (bodies : List (List ℕ)) (place : ℕ) → bytes ≡ row bodies ++ drop place bytes → place < length bytes → get_or bytes place 0 ≢ 1 → place ≡ length (row bodies) → All IsShort bodies → EndsAt place bodies bytes
scan_ends bytes bodies place split within shut size short =
    record { gate = get_or bytes place 0; rest = drop (place + 1) bytes; split = split ∙ ap (λ (l : List ℕ). row bodies ++ l) (drop_more bytes place 0 within); closed = shut; size = size; short = short }

-- an open gate with too little behind it
pub scan_broken : (bytes : List ℕ) (bodies : List (List ℕ)) (place : ℕ) → bytes ≡ row bodies ++ drop place bytes → place < length bytes → get_or bytes place 0 ≡ 1 → place ≡ length (row bodies) → All IsShort bodies → 1 < length bytes → IsCutOff (drop (place + 1) bytes) → IsBroken place bytes
scan_broken bytes bodies place split within is_open size short longer cut_off =
    record { bodies = bodies; rest = drop (place + 1) bytes; split = open_split bytes bodies place split within is_open; size = size; short = short; longer = longer; cut_off = cut_off }
