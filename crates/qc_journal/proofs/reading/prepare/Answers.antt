-- A closed gate is written over at most one byte; more bytes have one already.
use Rattle.std.proofs.Common.{◌≡◌, ◌<◌, ◌≤◌, inl, refl, ℕ, List, [], ◌∷◌, Option, Some, None, sym, subst, arith}
use Rattle.std.specs.Prelude.{IfSome, IsSome, option_map, ◌↔◌}
use Rattle.qc_disk.specs.declared.disk.Disk.{Ghosts}
use Rattle.qc_disk.specs.Disk.{HasLength, IsImage, LeavesOnly, FallsAway, ChangesOnce, Grows, written}
use Rattle.qc_journal.specs.Image.{EndsAt, HasRecords, HasAt}
use Rattle.qc_journal.specs.Found.{found_bodies}
use Rattle.qc_journal.proofs.Images.{written_blank}
use Rattle.qc_journal.proofs.Growing.{among}
use Rattle.qc_journal.proofs.Moments.{grows_by_falls, grows_once, grows_on}
use Rattle.qc_journal.proofs.reading.prepare.Goals as goal
use Rattle.qc_journal.proofs.reading.prepare.Goals.{then-found-le1+in_ok-write_synced, else-found-le1}

blank : (told now : Option (List ℕ)) (size place : ℕ) (bodies : List (List ℕ)) → HasLength told size → size ≤ 1 → place ≡ 0 → bodies ≡ [] → now ≡ option_map (written 0 (0 ∷ [])) told → IfSome now (EndsAt place bodies)
blank None now size place bodies has short start none is = subst (λ t. IfSome t (EndsAt place bodies)) (sym is) tt
blank (Some bytes) now size place bodies has short start none is =
    let ends : EndsAt 0 [] (written 0 (0 ∷ []) bytes) = written_blank bytes (omega (arith, has, short)) in
    subst (λ t. IfSome t (EndsAt place bodies)) (sym is)
    (subst (λ p. EndsAt p bodies (written 0 (0 ∷ []) bytes)) (sym start)
    (subst (λ (b : List (List ℕ)). EndsAt 0 b (written 0 (0 ∷ []) bytes)) (sym none) ends))

pub returns-clause-ready : goal.returns-clause-ready
returns-clause-ready g c =
    let found = c.in_ok-found.found in
    let finds = c.in_ok-found.ensures.found in
    elim c.if-found-le1.branch [
      | then-found-le1+in_ok-write_synced w ↦
          let short : (g.D.Disk.view c.read_records.new.disk).size ≤ 1 = omega (arith, finds.size_is, w.if-found-le1.true) in
          subst (λ d. IfSome (g.D.Disk.view d).content (EndsAt found.place (found_bodies found))) (sym w.disk-is)
          (blank (g.D.Disk.view c.read_records.new.disk).content _ _ found.place (found_bodies found) (g.met.D.Disk.has_size c.read_records.new.disk) short (finds.at_start short) (finds.none short) w.in_ok-write_synced.ensures.written)
      | else-found-le1 w ↦
          let long : 1 < (g.D.Disk.view c.read_records.new.disk).size = omega (arith, finds.size_is, w.if-found-le1.false) in
          subst (λ d. IfSome (g.D.Disk.view d).content (EndsAt found.place (found_bodies found))) (sym w.disk-is)
          (subst (λ t. IfSome t (EndsAt found.place (found_bodies found))) (sym c.read_records.ensures.content) (finds.records long))
    ]

-- at most one byte has no record, so none is lost
none_lost : {D : Type 0} (g : Ghosts D) (old mid new : D) (P Q : List ℕ → Type 0) (size : ℕ) → size ≤ 1 → HasLength (g.view mid).content size → IsSome (g.view mid).content → IsImage (g.view mid).content (g.view mid).may_leave
    → ((c : List ℕ) → (g.view mid).left_at (g.view mid).moment c ↔ (g.view mid).may_leave c) → LeavesOnly g.view old mid P → FallsAway g.view old mid
    → LeavesOnly g.view mid new Q → ChangesOnce g.view mid new → (index : ℕ) (had : List ℕ) → Grows g.view old new (HasAt index had)
none_lost g old mid new P Q size short has told here now first falls run once index had =
    grows_on g.view old mid new (HasAt index had) Q first.later (grows_by_falls g.view old mid (HasAt index had) falls) run
    (grows_once g.view mid new (HasAt index had) Q run once (λ all c left. absurd (never (g.view mid).content has told here all)))
  where
    never : (o : Option (List ℕ)) → HasLength o size → IsSome o → IsImage o (g.view mid).may_leave → ((c : List ℕ) → (g.view mid).left_at (g.view mid).moment c → HasAt index had c) → ⊥
    never None long some image all = absurd (cc)
    never (Some bytes) long some image all =
        let none : HasRecords [] bytes = inl (refl, omega (arith, long, short)) in
        let in_none = among index had bytes [] none (all bytes ((now bytes).1 image)) in
        omega (arith, in_none.0)

pub returns-in_err-write_synced-clause-grows : goal.returns-in_err-write_synced-clause-grows
returns-in_err-write_synced-clause-grows g c = λ told index had.
    let mid = c.read_records.new.disk in
    let finds = c.in_ok-found.ensures.found in
    let short : (g.D.Disk.view mid).size ≤ 1 = omega (arith, finds.size_is, c.if-found-le1.true) in
    none_lost g.D.Disk c.args.disk.now mid c.write_synced.new.disk _ _ (g.D.Disk.view mid).size short (g.met.D.Disk.has_size mid) (subst IsSome (sym c.read_records.ensures.content) told) (g.met.D.Disk.reads_as_image mid) (g.met.D.Disk.leaves_now mid)
    c.read_records.ensures.any_moment c.read_records.ensures.falls c.write_synced.ensures.any_moment c.write_synced.ensures.once index had

pub returns-clause-grows : goal.returns-clause-grows
returns-clause-grows g c = λ told index had.
    let old = c.args.disk.now in
    let mid = c.read_records.new.disk in
    let finds = c.in_ok-found.ensures.found in
    elim c.if-found-le1.branch [
      | then-found-le1+in_ok-write_synced w ↦
          let short : (g.D.Disk.view mid).size ≤ 1 = omega (arith, finds.size_is, w.if-found-le1.true) in
          subst (λ d. Grows g.D.Disk.view old d (HasAt index had)) (sym w.disk-is)
          (none_lost g.D.Disk old mid w.write_synced.new.disk _ _ (g.D.Disk.view mid).size short (g.met.D.Disk.has_size mid) (subst IsSome (sym c.read_records.ensures.content) told) (g.met.D.Disk.reads_as_image mid) (g.met.D.Disk.leaves_now mid)
          c.read_records.ensures.any_moment c.read_records.ensures.falls w.write_synced.ensures.any_moment w.write_synced.ensures.once index had)
      | else-found-le1 w ↦
          subst (λ d. Grows g.D.Disk.view old d (HasAt index had)) (sym w.disk-is)
          (grows_by_falls g.D.Disk.view old mid (HasAt index had) c.read_records.ensures.falls)
    ]
