-- What the grants so far leave, with the next.
use Rattle.std.proofs.Common.{◌≡◌, ℕ, zero, suc, ◌∙◌, ◌+◌, ◌<◌, List, ◌∷◌, ◌++◌, [], Bool, true, false, refl, ap, sym, length, take, arith}
use Rattle.std.specs.Prelude.{None, Some, if◌then◌else◌, slice_get}
use Rattle.qc_event.specs.declared.event.Grant.{Grant}
use Rattle.qc_event.specs.Clear.{is_get}
use Rattle.qc_event.specs.History.{grants}
use Rattle.qc_history.specs.Grants.{put_at}
use Rattle.qc_history.proofs.GrantPlaces.{take_one}
use Rattle.qc_desk.specs.Held.{changed_row, from_row, is_alive}
use Rattle.qc_desk.proofs.Rows.{row_more, row_none, row_read, row_same}
use Rattle.qc_desk.proofs.locked.Locked.held.Goals as goal
use Rattle.qc_desk.proofs.locked.Locked.held.Goals.{then-is_alive, else-is_alive}

-- what is one of a put is the grant there
put_is : (theirs : List Grant) (index : ℕ) (h : Grant) → put_at theirs index ≡ Some h → slice_get theirs index ≡ Some h
put_is [] index h is = absurd cc
put_is (g ∷ theirs) zero h is = by (is_get g.op) is
  where
    by : (b : Bool) → (if b then None else Some g) ≡ Some h → slice_get (g ∷ theirs) zero ≡ Some h
    by true is = absurd cc
    by false is = is
put_is (g ∷ theirs) (suc index) h is = put_is theirs index h is

pub loop-index-init : goal.loop-index-init
loop-index-init g c = c.in_ok-row.ensures.items_if_clones_equal (λ x y same. same) ∙ sym (row_none (is_alive c.args.self.now) c.args.start.now)

pub loop-index-preserved : goal.loop-index-preserved
loop-index-preserved g c =
    let keep = is_alive c.args.self.now in
    let records = length c.args.start.now in
    let start = from_row c.args.start.now in
    let theirs = grants c.args.self.now c.args.copy in
    let gs = take c.loop-index.index theirs in
    let h = c.in-Some.grant in
    let more : take (c.loop-index.index + 1) theirs ≡ gs ++ h ∷ [] = take_one theirs c.loop-index.index h (put_is theirs c.loop-index.index h (sym c.put_at.ensures ∙ c.in-Some.is)) in
    elim c.if-is_alive.branch [
      | then-is_alive w ↦
          ap (λ v. v.items) w.row-is
          ∙ row_more keep records start gs h c.loop-index.row.items w.change_tuple.new.tuples.items (sym c.is_alive.ensures ∙ w.if-is_alive.true) w.change_tuple.ensures.known w.change_tuple.ensures.past c.loop-index.invariant
          ∙ ap (changed_row keep records start) (sym more)
      | else-is_alive w ↦
          ap (λ v. v.items) w.row-is
          ∙ c.loop-index.invariant
          ∙ sym (row_same keep records start gs h (sym c.is_alive.ensures ∙ w.if-is_alive.false))
          ∙ ap (changed_row keep records start) (sym more)
    ]

-- what is none of a put is one of a read
reads_there : (h : Grant) → (if is_get h.op then None else Some h) ≡ None → is_get h.op ≡ true
reads_there h none = by (is_get h.op) none
  where
    by : (b : Bool) → (if b then None else Some h) ≡ None → b ≡ true
    by true none = refl
    by false none = absurd cc

-- where there is no put, there is a read
read_there : (theirs : List Grant) (index : ℕ) → index < length theirs → put_at theirs index ≡ None → (h : Grant) × (slice_get theirs index ≡ Some h) × (is_get h.op ≡ true)
read_there [] index less none = absurd (omega (arith, less))
read_there (g ∷ theirs) zero less none = (g, refl, reads_there g none)
read_there (g ∷ theirs) (suc index) less none = read_there theirs index (omega (arith, less)) none

pub loop-index-preserved-in_default : goal.loop-index-preserved-in_default
loop-index-preserved-in_default g c =
    let keep = is_alive c.args.self.now in
    let records = length c.args.start.now in
    let start = from_row c.args.start.now in
    let theirs = grants c.args.self.now c.args.copy in
    let gs = take c.loop-index.index theirs in
    let here = read_there theirs c.loop-index.index (omega arith) (sym c.put_at.ensures ∙ c.in_default.is) in
    c.loop-index.invariant
    ∙ sym (row_read keep records start gs here.0 here.2)
    ∙ ap (changed_row keep records start) (sym (take_one theirs c.loop-index.index here.0 here.1))
