-- A write is kept, with the bytes that it wrote over.
use Rattle.std.proofs.Common.{◌≡◌, ℕ, ◌+◌, ◌-◌, min, List, [], ◌∷◌, ◌++◌, length, take, drop, sym, ◌∙◌, ap, ap₂, arith, rules}
use Rattle.qc_disk.specs.Disk.{written}
use Rattle.qc_disk.specs.Replay.{wrote}
use Rattle.qc_disk.specs.Kept.{write, before, act_kept, records_kept}
use Rattle.qc_disk.specs.declared.records.Kind.TheVariants.{Wrote}
use Rattle.qc_disk.specs.declared.records.Change.{Change}
use Rattle.qc_disk.specs.declared.records.Records.{Records}
use Rattle.qc_disk.proofs.Kept.{Adds, adds-first, adds-acts, adds-exact, write_more}
use Rattle.qc_disk.proofs.Restored.{lost_count, left_by-written, restored-written}
use Rattle.qc_disk.proofs.tape.Tape.write.Goals as goal

-- The records and the bytes as they were, with room made, and after the write.
module _ (records reserved entered : Records) (at : ℕ) (new old room seen now : List ℕ) (change : Change) (start over : ℕ)
    (calls_stay : reserved.calls.items ≡ records.calls.items) (changes_stay : reserved.changes.items ≡ records.changes.items) (lost_stays : reserved.lost.items ≡ records.lost.items) (bytes_stay : room ≡ old)
    (calls : entered.calls.items ≡ reserved.calls.items ++ Wrote ∷ []) (changes : entered.changes.items ≡ reserved.changes.items ++ change ∷ [])
    (lost : entered.lost.items ≡ reserved.lost.items ++ take (start + over - start) (drop start seen)) (seen_is : seen ≡ room) (now_is : now ≡ written at new room)
    (at_is : change.at ≡ at) (over_kept : change.over ≡ over) (added_is : change.added ≡ length new - over) (start_is : start ≡ min at (length old)) (over_is : over ≡ min (length new) (length old - start)) where
  abbrev gone : List ℕ
  gone = take (start + over - start) (drop start seen)

  gone_is : gone ≡ take over (drop start old)
  gone_is =
      let count : start + over - start ≡ over = omega arith in
      ap₂ (λ n (bytes : List ℕ). take n (drop start bytes)) count (seen_is ∙ bytes_stay)

  written_is : now ≡ written at new old
  written_is = now_is ∙ ap (written at new) bytes_stay

  adds : Adds (records_kept records) (records_kept entered) (write change gone) (wrote at new) old now
  adds = record {
    more = write_more records.calls.items entered.calls.items records.changes.items entered.changes.items records.lost.items entered.lost.items gone change
        (calls ∙ ap (λ l. l ++ Wrote ∷ []) calls_stay) (changes ∙ ap (λ l. l ++ change ∷ []) changes_stay) (lost ∙ ap (λ l. l ++ gone) lost_stays)
        (lost_count at new old change start over gone at_is added_is start_is over_is gone_is ∙ sym over_kept);
    did = ap (act_kept (write change gone)) written_is ∙ ap₂ wrote at_is (left_by-written at new old change start over gone at_is added_is start_is over_is gone_is);
    was = ap (before (write change gone)) written_is ∙ restored-written at new old change start over gone at_is added_is start_is over_is gone_is;
  }

pub invariant_of-self-2 : goal.invariant_of-self-2
invariant_of-self-2 c =
    let tape = c.args.self.now in
    let start_is : c.min-start.result ≡ min c.args.at (length tape.bytes.items) = search rules in
    let over_is : c.min-over.result ≡ min (length c.args.new.now) (length tape.bytes.items - c.min-start.result) = search rules in
    let more = adds tape.records c.reserve.new.self c.enter.new.self c.args.at c.args.new.now tape.bytes.items c.reserve-2.new.self.items c.deref.result.now c.overwrite.new.bytes.items
    c.in_ok-change.change c.min-start.result c.min-over.result c.reserve.ensures.calls c.reserve.ensures.changes c.reserve.ensures.lost c.reserve-2.ensures.items
    c.enter.ensures.calls c.enter.ensures.changes c.enter.ensures.lost c.deref.ensures.value c.overwrite.ensures
    c.in_ok-change.ensures.at c.in_ok-change.ensures.over c.in_ok-change.ensures.added start_is over_is in
    let done = c.overwrite.ensures ∙ ap (written c.args.at c.args.new.now) c.reserve-2.ensures.items in
    record { exact = adds-exact _ _ _ _ _ _ more done tape.exact }

pub returns-clause-ok : goal.returns-clause-ok
returns-clause-ok c =
    let tape = c.args.self.now in
    let start_is : c.min-start.result ≡ min c.args.at (length tape.bytes.items) = search rules in
    let over_is : c.min-over.result ≡ min (length c.args.new.now) (length tape.bytes.items - c.min-start.result) = search rules in
    let more = adds tape.records c.reserve.new.self c.enter.new.self c.args.at c.args.new.now tape.bytes.items c.reserve-2.new.self.items c.deref.result.now c.overwrite.new.bytes.items
    c.in_ok-change.change c.min-start.result c.min-over.result c.reserve.ensures.calls c.reserve.ensures.changes c.reserve.ensures.lost c.reserve-2.ensures.items
    c.enter.ensures.calls c.enter.ensures.changes c.enter.ensures.lost c.deref.ensures.value c.overwrite.ensures
    c.in_ok-change.ensures.at c.in_ok-change.ensures.over c.in_ok-change.ensures.added start_is over_is in
    let done = c.overwrite.ensures ∙ ap (written c.args.at c.args.new.now) c.reserve-2.ensures.items in
    record { first = adds-first _ _ _ _ _ _ more; acts = adds-acts _ _ _ _ _ _ more; bytes = done }
