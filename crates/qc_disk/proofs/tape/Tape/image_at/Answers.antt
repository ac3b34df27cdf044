-- What is left began with the same bytes, and did what the first calls did.
use Rattle.std.proofs.Common.{◌≡◌, ℕ, List, length, take, Bool, true, false, sym, ◌∙◌, ap, ap₂, arith, rules, Vec, Global}
use Rattle.qc_disk.specs.Replay.{replayed, last_synced, image_after}
use Rattle.qc_disk.specs.Kept.{Kept, first_of, acts_of, IsExact, records_kept, past_kept}
use Rattle.qc_disk.specs.Laws.{exact-replayed}
use Rattle.qc_disk.proofs.Kept.{same_kept, kept_count, acts_count}
use Rattle.qc_disk.proofs.tape.Tape.image_at.Goals as goal
use Rattle.qc_disk.proofs.tape.Tape.image_at.Goals.{then-not-done+in_ok-rewind_to_sync, else-not-done}

-- The calls that are left, and what was there before the others.
module _ (all began left : List Kept) (now begun was : List ℕ) (count : ℕ) (same : began ≡ all) (there : begun ≡ now) (exact : IsExact left was) (first : first_of left was ≡ first_of began begun) (acts : acts_of left was ≡ take count (acts_of began begun)) where
  first_is : first_of left was ≡ first_of all now
  first_is = first ∙ ap₂ first_of same there

  acts_are : acts_of left was ≡ take count (acts_of all now)
  acts_are = acts ∙ ap₂ (λ (calls : List Kept) (bytes : List ℕ). take count (acts_of calls bytes)) same there

  done_image : (done : Bool) → done ≡ true → was ≡ image_after (first_of all now) (take count (acts_of all now)) done
  done_image done is = rw is (sym (exact-replayed left was exact) ∙ ap₂ replayed first_is acts_are)

  synced_image : (done : Bool) (bytes : List ℕ) → done ≡ false → bytes ≡ last_synced (first_of left was) (first_of left was) (acts_of left was) → bytes ≡ image_after (first_of all now) (take count (acts_of all now)) done
  synced_image done bytes is synced = rw is (synced ∙ ap₂ (λ (first : List ℕ) acts. last_synced first first acts) first_is acts_are)

pub rewind-requires-clause-count : goal.rewind-requires-clause-count
rewind-requires-clause-count c =
    let tape = c.args.self.now in
    let records = tape.records in
    omega (arith, c.requires, ap length c.past.ensures.calls, acts_count (records_kept records) tape.bytes.items, kept_count records.calls.items records.changes.items records.lost.items)

pub returns : goal.returns
returns c =
    let tape = c.args.self.now in
    let records = tape.records in
    let past = c.past.result in
    let same : past_kept past ≡ records_kept records = same_kept records.calls.items past.calls.now records.changes.items past.changes.now records.lost.items past.lost.now c.past.ensures.calls c.past.ensures.changes c.past.ensures.lost in
    let there : c.in_ok-bytes.bytes.items ≡ tape.bytes.items = search rules in
    let left = c.in_ok-past.ensures in
    let was = c.rewind.new.bytes.items in
    elim c.if-not-done.branch [
      | then-not-done+in_ok-rewind_to_sync w ↦
          synced_image (records_kept records) (past_kept past) (past_kept c.in_ok-past.past) tape.bytes.items c.in_ok-bytes.bytes.items was c.args.count same there left.exact left.first left.acts
          c.args.done c.if-not-done.bytes.items w.if-not-done.true (ap (λ (bytes : Vec ℕ Global). bytes.items) w.bytes-is ∙ w.in_ok-rewind_to_sync.ensures)
      | else-not-done w ↦
          ap (λ (bytes : Vec ℕ Global). bytes.items) w.bytes-is
          ∙ done_image (records_kept records) (past_kept past) (past_kept c.in_ok-past.past) tape.bytes.items c.in_ok-bytes.bytes.items was c.args.count same there left.exact left.first left.acts
          c.args.done w.if-not-done.false
    ]
