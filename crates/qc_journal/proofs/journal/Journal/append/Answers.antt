-- What a crash may leave after each of the two writes.
use Rattle.std.proofs.Common.{◌≡◌, inl, inr, ℕ, refl, add_assoc, ◌+◌, List, [], ◌∷◌, ◌++◌, length, Some, sym, ◌∙◌, ap, subst, arith, rules, length-append, replicate}
use Rattle.std.specs.Prelude.{option_map}
use Rattle.std.proofs.lemmas.List.{length-replicate}
use Rattle.std.proofs.lemmas.Result.{err_from_is_err_and}
use Rattle.qc_disk.specs.Disk.{written}
use Rattle.qc_journal.specs.Image.{IsShort, EndsAt, behind_gate}
use Rattle.qc_journal.specs.Journal.{disk_of, ImageStands}
use Rattle.qc_journal.proofs.Images.{length-behind_gate}
use Rattle.qc_journal.proofs.Appends.{tells_on, behind, behind_lost, told_mid, gate, opened, any_moment, nothing_lost}
use Rattle.qc_journal.proofs.Moments.{weakened}
use Rattle.qc_journal.proofs.journal.Journal.append.Goals as goal

pub returns-in_err-write_synced-clause-kept : goal.returns-in_err-write_synced-clause-kept
returns-in_err-write_synced-clause-kept g c =
    let p = err_from_is_err_and c.from_residual-in_err-write_synced.result c.from_residual-in_err-write_synced.ensures.1 in
    rw (p.1) (λ bodies k.
    let now = tells_on _ _ _ k.bytes k.told c.write_synced.ensures.torn in
    record {
      bytes = now.0;
      told = now.1;
      each = λ image left. inl (behind c.args.self.now bodies c.args.body.now _ c.requires k c.missing-missing.ensures _ image (c.write_synced.ensures.crash image left));
      whole = λ up. absurd up;
    })

pub returns-in_err-write_synced-clause-any_moment : goal.returns-in_err-write_synced-clause-any_moment
returns-in_err-write_synced-clause-any_moment g c = λ bodies k.
    let old = c.args.self.now in
    weakened g.D.Disk.view (disk_of old) c.write_synced.new.disk _ _ c.write_synced.ensures.any_moment
    (λ image from. inl (inr (old.place, behind old bodies c.args.body.now _ c.requires k c.missing-missing.ensures _ image from)))

pub returns-in_err-write_synced-clause-grows : goal.returns-in_err-write_synced-clause-grows
returns-in_err-write_synced-clause-grows g c = λ bodies k index had.
    let old = c.args.self.now in
    behind_lost old bodies c.args.body.now _ c.requires k c.missing-missing.ensures c.write_synced.new.disk _ (g.met.D.Disk.reads_as_image old.disk) c.write_synced.ensures.any_moment c.write_synced.ensures.once
    (g.met.D.Disk.leaves_now old.disk) index had

pub returns-in_err-write_synced-2-clause-kept : goal.returns-in_err-write_synced-2-clause-kept
returns-in_err-write_synced-2-clause-kept g c =
    let old = c.args.self.now in
    let body = c.args.body.now in
    let wrote = c.in_ok-write_synced.ensures in
    let fits : IsShort body = omega (arith, c.has_room.ensures) in
    let held : c.in_ok-held.held.items ≡ body = search rules in
    let p = err_from_is_err_and c.from_residual-in_err-write_synced-2.result c.from_residual-in_err-write_synced-2.ensures.1 in
    rw (p.1) (λ bodies k.
    let now = tells_on _ _ _ k.bytes k.told c.write_synced.ensures.torn in
    let then = tells_on _ _ _ now.0 now.1 c.write_synced-2.ensures.torn in
    record {
      bytes = then.0;
      told = then.1;
      each = λ image left.
          let P : List ℕ → Type 0 = λ b. ImageStands old.place bodies (Some b) image in
          let here = g.met.D.Disk.reads_as_image old.disk in
          subst P (sym held) (gate old bodies body _ c.requires k c.missing-missing.ensures c.write_synced.new.disk _ fits here (c.deref.ensures.value ∙ c.in_ok-block.ensures) wrote.written wrote.durable image (c.write_synced-2.ensures.crash image left));
      whole = λ up. absurd up;
    })

pub returns-in_err-write_synced-2-clause-any_moment : goal.returns-in_err-write_synced-2-clause-any_moment
returns-in_err-write_synced-2-clause-any_moment g c = λ bodies k.
    let old = c.args.self.now in
    let body = c.args.body.now in
    let wrote = c.in_ok-write_synced.ensures in
    let fits : IsShort body = omega (arith, c.has_room.ensures) in
    any_moment old bodies body _ c.requires k c.missing-missing.ensures c.write_synced.new.disk _ fits (g.met.D.Disk.reads_as_image old.disk) (c.deref.ensures.value ∙ c.in_ok-block.ensures) wrote.written wrote.durable c.write_synced-2.new.disk _ c.write_synced.ensures.any_moment c.write_synced-2.ensures.any_moment

pub invariant_of-self-2 : goal.invariant_of-self-2
invariant_of-self-2 g c =
    let old = c.args.self.now in
    let body = c.args.body.now in
    let m = c.missing-missing.result in
    let size = ap length c.in_ok-block.ensures in
    let both = length-append (replicate m 0) (behind_gate body) in
    let zeros = length-replicate {A = ℕ} m 0 in
    let rest = length-behind_gate body in
    let gap = old.gap_within in
    let within = old.gate_within in
    let first = c.in_ok-write_synced.ensures.size in
    let second = c.in_ok-write_synced-2.ensures.size in
    record { gate_within = omega (arith, size, both, zeros, rest, gap, within, first, second, c.missing-missing.ensures); gap_within = omega arith; hand_fits = omega arith; hand_short = omega arith }

pub returns-clause-acknowledged : goal.returns-clause-acknowledged
returns-clause-acknowledged g c = λ bodies k.
    let old = c.args.self.now in
    let body = c.args.body.now in
    let wrote = c.in_ok-write_synced.ensures in
    let opens = c.in_ok-write_synced-2.ensures in
    let fits : IsShort body = omega (arith, c.has_room.ensures) in
    let here = g.met.D.Disk.reads_as_image old.disk in
    let block = c.deref.ensures.value ∙ c.in_ok-block.ensures in
    record {
      bytes = written old.place (1 ∷ []) (written (old.place + 1) (behind_gate body) k.bytes);
      told = opens.written ∙ ap (option_map (written old.place (1 ∷ []))) (told_mid old bodies body _ c.requires k c.missing-missing.ensures c.write_synced.new.disk _ fits here block wrote.written wrote.durable);
      each = λ image left. subst (λ n. EndsAt n (bodies ++ body ∷ []) image) (add_assoc old.place 5 (length body)) (opened old bodies body _ c.requires k c.missing-missing.ensures c.write_synced.new.disk _ fits here block wrote.written wrote.durable _ _ opens.written opens.durable image left);
      whole = λ up. refl;
    }

pub returns-clause-any_moment : goal.returns-clause-any_moment
returns-clause-any_moment g c = λ bodies k.
    let old = c.args.self.now in
    let body = c.args.body.now in
    let wrote = c.in_ok-write_synced.ensures in
    let fits : IsShort body = omega (arith, c.has_room.ensures) in
    any_moment old bodies body _ c.requires k c.missing-missing.ensures c.write_synced.new.disk _ fits (g.met.D.Disk.reads_as_image old.disk) (c.deref.ensures.value ∙ c.in_ok-block.ensures) wrote.written wrote.durable c.write_synced-2.new.disk _ c.write_synced.ensures.any_moment c.write_synced-2.ensures.any_moment

pub returns-in_err-write_synced-2-clause-grows : goal.returns-in_err-write_synced-2-clause-grows
returns-in_err-write_synced-2-clause-grows g c = λ bodies k index had.
    let old = c.args.self.now in
    let body = c.args.body.now in
    let wrote = c.in_ok-write_synced.ensures in
    let fits : IsShort body = omega (arith, c.has_room.ensures) in
    let mid = c.write_synced.new.disk in
    nothing_lost old bodies body _ c.requires k c.missing-missing.ensures mid _ fits (g.met.D.Disk.reads_as_image old.disk) (c.deref.ensures.value ∙ c.in_ok-block.ensures) wrote.written wrote.durable c.write_synced-2.new.disk _
    c.write_synced.ensures.any_moment c.write_synced.ensures.once c.write_synced-2.ensures.any_moment c.write_synced-2.ensures.once (g.met.D.Disk.leaves_now old.disk) (g.met.D.Disk.leaves_now mid) (g.met.D.Disk.reads_as_image mid)
    c.write_synced.ensures.crash index had

pub returns-clause-grows : goal.returns-clause-grows
returns-clause-grows g c = λ bodies k index had.
    let old = c.args.self.now in
    let body = c.args.body.now in
    let wrote = c.in_ok-write_synced.ensures in
    let fits : IsShort body = omega (arith, c.has_room.ensures) in
    let mid = c.write_synced.new.disk in
    nothing_lost old bodies body _ c.requires k c.missing-missing.ensures mid _ fits (g.met.D.Disk.reads_as_image old.disk) (c.deref.ensures.value ∙ c.in_ok-block.ensures) wrote.written wrote.durable c.write_synced-2.new.disk _
    c.write_synced.ensures.any_moment c.write_synced.ensures.once c.write_synced-2.ensures.any_moment c.write_synced-2.ensures.once (g.met.D.Disk.leaves_now old.disk) (g.met.D.Disk.leaves_now mid) (g.met.D.Disk.reads_as_image mid)
    c.write_synced.ensures.crash index had
