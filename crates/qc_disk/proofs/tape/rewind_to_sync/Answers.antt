-- A call more is undone that was no sync, or what is left ends with a sync, or nothing is left.
use Rattle.std.proofs.Common.{ℕ, List, refl, sym, ◌∙◌, ap}
use Rattle.qc_disk.specs.Replay.{last_synced}
use Rattle.qc_disk.specs.Kept.{first_of, acts_of, past_kept}
use Rattle.qc_disk.proofs.Kept.{back-exact, back-first, ends_unsynced, ends_synced, none_left}
use Rattle.qc_disk.proofs.tape.rewind_to_sync.Goals as goal

pub loop-left-init : goal.loop-left-init
loop-left-init c = record { exact = c.requires; first = refl; synced = refl }

pub loop-left-preserved : goal.loop-left-preserved
loop-left-preserved c =
    let left = c.loop-left.left in
    let before = c.in_ok-left.left in
    let now = c.loop-left.bytes.items in
    let was = c.step_back.new.bytes.items in
    let back = c.in_ok-left.ensures.back in
    let earliest = first_of (past_kept c.args.past) c.args.bytes.now.items in
    record {
      exact = back-exact (past_kept left) (past_kept before) now was back c.loop-left.invariant.exact;
      first = back-first (past_kept left) (past_kept before) now was back ∙ c.loop-left.invariant.first;
      synced = ends_unsynced earliest now left.calls.now left.changes.now left.lost.now earliest (past_kept before) was c.in-len1-up.len_at_least c.in_default-kind.not-Synced back
          ∙ c.loop-left.invariant.synced;
    }

pub returns-in_default : goal.returns-in_default
returns-in_default c =
    let left = c.loop-left.left in
    let earliest = first_of (past_kept c.args.past) c.args.bytes.now.items in
    sym (none_left earliest c.loop-left.bytes.items left.calls.now left.changes.now left.lost.now c.in_default.len_below c.loop-left.invariant.first)
    ∙ c.loop-left.invariant.synced

pub returns-in-Synced : goal.returns-in-Synced
returns-in-Synced c =
    let left = c.loop-left.left in
    let now = c.loop-left.bytes.items in
    let earliest = first_of (past_kept c.args.past) c.args.bytes.now.items in
    sym (ends_synced earliest now left.calls.now left.changes.now left.lost.now c.in-len1-up.len_at_least c.in-Synced.is c.loop-left.invariant.exact)
    ∙ ap (λ (first : List ℕ). last_synced earliest first (acts_of (past_kept left) now)) c.loop-left.invariant.first
    ∙ c.loop-left.invariant.synced
