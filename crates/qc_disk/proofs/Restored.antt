-- Of bytes that others were written over: those can be read back, and what stood there before can be restored.
use Rattle.std.proofs.Common.{◌≡◌, inl, inr, ◌<◌, ◌≤◌, ℕ, ◌+◌, ◌-◌, min, List, ◌++◌, length, take, drop, get_or, sym, ◌∙◌, ap, ap₂, arith, length-append, length-take, length-drop, append_assoc}
use Rattle.std.proofs.lemmas.Bool.{cases_lt}
use Rattle.std.proofs.lemmas.List.{ext_get_or, take_at, get_or_append_left, get_or-append_right, get_or-take, get_or-drop}
use Rattle.std.proofs.Math.Seq.{drop-append_seam}
use Rattle.qc_disk.specs.Disk.{written}
use Rattle.qc_disk.specs.Laws.{length-written, torn-written}
use Rattle.qc_disk.specs.Kept.{restored, left_by}
use Rattle.qc_disk.specs.declared.records.Change.{Change}

-- the bytes from a place on, as they were written there
written_there : (at : ℕ) (bytes old : List ℕ) (start : ℕ) → start ≡ min at (length old) → take (length bytes) (drop start (written at bytes old)) ≡ bytes
written_there at bytes old start is =
    let front : length (take at old) ≡ start = omega (arith, length-take at old) in
    let behind : drop start (written at bytes old) ≡ bytes ++ drop (at + length bytes) old =
    ap₂ drop (sym front) (append_assoc (take at old) bytes (drop (at + length bytes) old)) ∙ drop-append_seam (take at old) (bytes ++ drop (at + length bytes) old) in
    ap (take (length bytes)) behind ∙ take_at bytes (drop (at + length bytes) old) (length bytes) (omega arith)

-- one of the bytes that were written
written-inside : (at : ℕ) (bytes old : List ℕ) (i : ℕ) → min at (length old) ≤ i → i < min at (length old) + length bytes → get_or (written at bytes old) i 0 ≡ get_or bytes (i - min at (length old)) 0
written-inside at bytes old i above below =
    let front = length-take at old in
    let most = length-append (take at old) bytes in
    get_or_append_left (take at old ++ bytes) (drop (at + length bytes) old) 0 i (omega (arith, front, most, below))
    ∙ get_or-append_right (take at old) bytes (min at (length old)) i 0 front above

-- A write: where it began, how many bytes it wrote over, and these.
module _ (at : ℕ) (new old : List ℕ) (change : Change) (start over : ℕ) (lost : List ℕ) (at_is : change.at ≡ at) (added_is : change.added ≡ length new - over) (start_is : start ≡ min at (length old)) (over_is : over ≡ min (length new) (length old - start)) (lost_is : lost ≡ take over (drop start old)) where
  -- as many bytes were lost as it wrote over
  pub lost_count : length lost ≡ over
  lost_count = ap length lost_is ∙ omega (arith, length-take over (drop start old), length-drop start old, start_is, over_is)

  -- without what it added there are as many bytes as before
  old_count : length (written at new old) - change.added ≡ length old
  old_count = omega (arith, length-written at new old, added_is, start_is, over_is)

  -- what it wrote
  pub left_by-written : left_by change lost (written at new old) ≡ new
  left_by-written =
      let count : length lost + change.added ≡ length new = omega (arith, lost_count, added_is, over_is) in
      let place : min change.at (length (written at new old) - change.added) ≡ start = omega (arith, old_count, at_is, start_is) in
      ap₂ (λ n k. take n (drop k (written at new old))) count place ∙ written_there at new old start start_is

  -- without them it is as it was before and behind the write
  abbrev shortened : List ℕ
  shortened = take (length old) (written at new old)

  shortened_count : length shortened ≡ length old
  shortened_count = omega (arith, length-take (length old) (written at new old), length-written at new old)

  outside : (i : ℕ) → i < length old → get_or (written at new old) i 0 ≡ get_or old i 0 → get_or (written at lost shortened) i 0 ≡ get_or shortened i 0 → get_or (written at lost shortened) i 0 ≡ get_or old i 0
  outside i within there torn = torn ∙ get_or-take (length old) (written at new old) i 0 within ∙ there

  restored_count : length (written at lost shortened) ≡ length old
  restored_count = omega (arith, length-written at lost shortened, shortened_count, lost_count, start_is, over_is)

  -- and within it what was lost is put back
  inside : (i : ℕ) → start ≤ i → i < start + over → get_or (written at lost shortened) i 0 ≡ get_or old i 0
  inside i from under =
      let place : min at (length shortened) ≡ start = omega (arith, shortened_count, start_is) in
      let back : start + (i - start) ≡ i = omega arith in
      written-inside at lost shortened i (omega (arith, from, place)) (omega (arith, under, lost_count, place))
      ∙ ap₂ (λ (l : List ℕ) k. get_or l (i - k) 0) lost_is place
      ∙ get_or-take over (drop start old) (i - start) 0 (omega (arith, from, under))
      ∙ get_or-drop start old (i - start) 0
      ∙ ap (λ k. get_or old k 0) back

  restored_byte : (i : ℕ) → i < length old → get_or (written at lost shortened) i 0 ≡ get_or old i 0
  restored_byte i within =
      let torn = torn-written at lost shortened in
      let there = torn-written at new old in
      let short : i < length shortened = omega (arith, within, shortened_count) in
      elim (cases_lt i start) [
        | inl before ↦
            let front : i < at = omega (arith, before, start_is) in
            outside i within (there.before i front within) (torn.before i front short)
        | inr from ↦ elim (cases_lt i (start + over)) [
          | inl under ↦ inside i from under
          | inr behind ↦
              let beyond : at + length new ≤ i = omega (arith, behind, within, start_is, over_is) in
              let past : at + length lost ≤ i = omega (arith, behind, within, lost_count, start_is, over_is) in
              outside i within (there.after i beyond within) (torn.after i past short)
        ]
      ]

  -- what was there before
  pub restored-written : restored change lost (written at new old) ≡ old
  restored-written =
      ap₂ (λ k n. written k lost (take n (written at new old))) at_is old_count
      ∙ ext_get_or 0 (written at lost shortened) old restored_count (λ i within. restored_byte i (omega (arith, within, restored_count)))
