-- The opening, and then the run over the active journal.
use Rattle.std.proofs.Common.{◌≡◌, ◌+◌, ◌∙◌, inl, ℕ, ap, arith, sym, subst}
use Rattle.std.specs.Prelude.{Bool, true, false, not, Ok, Err}
use Rattle.std.specs.Result.{IsErrOf}
use Rattle.qc_journal.specs.Image.{bodies_of}
use Rattle.qc_journal.specs.Journal.{Keeps, disk_of, limit_of, IsUp}
use Rattle.qc_codec.proofs.Fits.{made_proper}
use Rattle.qc_ledger.proofs.Halves.{opened_half, own_begun, own_parted, spare_begun, spare_parted, LeavesHalf}
use Rattle.qc_pair.specs.Pair.{active_of, number_at, other_of, own_of, spare_of, swapped}
use Rattle.qc_pair.specs.declared.fault.PairNo.TheVariants as no
use Rattle.qc_pair.specs.declared.kind.Kind.TheVariants as kind
use Rattle.qc_pair.proofs.Halves.{active_keeps}
use Rattle.qc_site.specs.Image.{made_body, to_write, AreMountableAsCopy, IsCopyFault}
use Rattle.qc_site.specs.Refusing.{IsOfCopyImage}
use Rattle.qc_site.specs.declared.fault.SiteNo.TheVariants.{Disk}
use Rattle.qc_site.proofs.Faults.{few_copies}
use Rattle.qc_site.proofs.PairMounts.{IsFindingNo, begin_refused, copy_mounted, none_fails, not_for_memory, other_number, own_refused, refused_fails, refused_so, spare_refused}
use Rattle.qc_site.proofs.Rests.{start_told}
use Rattle.qc_site.proofs.mounting.find_pair.Goals as goal

pub overflow_add-who : goal.overflow_add-who
overflow_add-who g c = omega (arith, c.requires.copy, few_copies c.args.table.now c.requires.proper)

pub open-requires : goal.open-requires
open-requires g c = omega (arith, c.requires.copy, few_copies c.args.table.now c.requires.proper)

pub active_disk-active-requires : goal.active_disk-active-requires
active_disk-active-requires g c = omega (arith, c.requires.copy, few_copies c.args.table.now c.requires.proper)

pub other_disk-requires : goal.other_disk-requires
other_disk-requires g c = omega (arith, c.requires.copy, few_copies c.args.table.now c.requires.proper)

pub begin-requires-clause-few : goal.begin-requires-clause-few
begin-requires-clause-few g c = few_copies c.args.table.now c.requires.proper

pub into_fold-journal-requires : goal.into_fold-journal-requires
into_fold-journal-requires g c = record { few = few_copies c.args.table.now c.requires.proper }

pub returns-in-Ok-begin-clause-finds : goal.returns-in-Ok-begin-clause-finds
returns-in-Ok-begin-clause-finds g c =
    let table = c.args.table.now in
    let past = c.args.past.now in
    let disk = c.active_disk-active.result in
    let found = bodies_of c.in_ok-pair.bodies.items in
    let one = c.in-Ok-begin.ensures in
    let fold = c.into_fold-journal.ensures in
    copy_mounted c.args.copy table past c.args.limit (g.D.Disk.view c.args.disk).content (g.D.Disk.view c.args.spare).content c.in_ok-pair.pair c.into_fold-journal.result.1 _ disk found c.in_ok-pair.ensures.opens
    fold.other fold.number fold.swapped c.active_disk-active.ensures c.in-Ok-begin.format one.format one.granted
    (λ keeps. subst (λ n. AreMountableAsCopy disk table past n found) c.in_ok-pair.ensures.limit.0 (one.fine keeps))
    one.bodies (λ keeps. subst (λ j. Keeps j (bodies_of c.begin.new.bodies.items)) (sym fold.active) (one.keeps keeps))

pub returns-in-Ok-begin-clause-start : goal.returns-in-Ok-begin-clause-start
returns-in-Ok-begin-clause-start g c =
    let disk = c.active_disk-active.result in
    let table = c.args.table.now in
    let found = bodies_of c.in_ok-pair.bodies.items in
    start_told disk table c.args.past.now (made_proper disk table (omega arith) c.requires.proper) found (bodies_of c.begin.new.bodies.items) c.in-Ok-begin.ensures.bodies c.in-Ok-begin.start c.in-Ok-begin.ensures.start

pub returns-in-Ok-begin-clause-own : goal.returns-in-Ok-begin-clause-own
returns-in-Ok-begin-clause-own g c =
    let who = c.args.copy + 1 in
    let written = λ (n : ℕ). to_write n c.args.table.now in
    let own = c.args.disk in
    let spare = c.args.spare in
    let of = c.in_ok-pair.pair in
    let found = bodies_of c.in_ok-pair.bodies.items in
    let disk = c.active_disk-active.result in
    let was = c.in_ok-pair.ensures in
    let one = c.in-Ok-begin.ensures in
    subst (LeavesHalf kind.Copy who written g.D.Disk own spare false ⊥ own) (sym (own_parted c.into_fold-journal.result.1 c.into_fold-journal.result.0 c.begin.new.journal (other_of of) (swapped of) c.into_fold-journal.ensures.active c.into_fold-journal.ensures.other c.into_fold-journal.ensures.swapped))
    (own_begun kind.Copy who written g.D.Disk own spare found ⊥ (IsErrOf (Ok (c.in-Ok-begin.start, c.in-Ok-begin.format)) Disk) (λ n. ⊥) disk (active_of of) (other_of of) c.begin.new.journal (swapped of) c.active_disk-active.ensures
    (record { any_moment = was.any_moment; grows = was.grows; cause = was.cause; counts_once = was.counts_once }) (λ never. never) was.opens.have
    (active_keeps kind.Copy who (g.D.Disk.view own).content (g.D.Disk.view spare).content of found was.opens)
    (record { any_moment = one.any_moment; grows = one.grows; cause = one.cause; counts_once = one.counts_once }) (none_fails (c.in-Ok-begin.start, c.in-Ok-begin.format) who disk))

pub returns-in-Ok-begin-clause-spare : goal.returns-in-Ok-begin-clause-spare
returns-in-Ok-begin-clause-spare g c =
    let who = c.args.copy + 1 in
    let written = λ (n : ℕ). to_write n c.args.table.now in
    let own = c.args.disk in
    let spare = c.args.spare in
    let of = c.in_ok-pair.pair in
    let found = bodies_of c.in_ok-pair.bodies.items in
    let disk = c.active_disk-active.result in
    let was = c.in_ok-pair.ensures in
    let one = c.in-Ok-begin.ensures in
    subst (LeavesHalf kind.Copy who written g.D.Disk own spare true ⊥ spare) (sym (spare_parted c.into_fold-journal.result.1 c.into_fold-journal.result.0 c.begin.new.journal (other_of of) (swapped of) c.into_fold-journal.ensures.active c.into_fold-journal.ensures.other c.into_fold-journal.ensures.swapped))
    (spare_begun kind.Copy who written g.D.Disk own spare found ⊥ (IsErrOf (Ok (c.in-Ok-begin.start, c.in-Ok-begin.format)) Disk) (λ n. ⊥) disk (active_of of) (other_of of) c.begin.new.journal (swapped of) c.active_disk-active.ensures
    (record { any_moment = was.any_moment_of_spare; grows = was.grows_of_spare; cause = was.cause_of_spare; counts_once = was.counts_once_of_spare }) (λ never. never) was.opens.have
    (active_keeps kind.Copy who (g.D.Disk.view own).content (g.D.Disk.view spare).content of found was.opens)
    (record { any_moment = one.any_moment; grows = one.grows; cause = one.cause; counts_once = one.counts_once }) (none_fails (c.in-Ok-begin.start, c.in-Ok-begin.format) (who + 17) disk))

pub returns-in-Ok-begin-clause-fold : goal.returns-in-Ok-begin-clause-fold
returns-in-Ok-begin-clause-fold g c =
    let fold = c.into_fold-journal.ensures in
    record {
      up = subst (λ j. IsUp j) (sym fold.other) c.in_ok-pair.ensures.up.1;
      limit_is = ap (λ j. limit_of j) fold.other ∙ c.in_ok-pair.ensures.limit.1;
      made_is = fold.made ∙ c.in-Ok.ensures ∙ ap (λ n. made_body n c.args.table.now) (c.other_disk.ensures ∙ other_number (swapped c.in_ok-pair.pair) (c.args.copy + 1) ∙ ap (λ (s : Bool). number_at (not s) (c.args.copy + 1)) (sym fold.swapped));
      epoch_is = fold.epoch;
      copies_are = fold.copies;
    }

pub returns-in-Err-begin-clause-own : goal.returns-in-Err-begin-clause-own
returns-in-Err-begin-clause-own g c =
    let who = c.args.copy + 1 in
    let written = λ (n : ℕ). to_write n c.args.table.now in
    let own = c.args.disk in
    let spare = c.args.spare in
    let of = c.in_ok-pair.pair in
    let found = bodies_of c.in_ok-pair.bodies.items in
    let disk = c.active_disk-active.result in
    let was = c.in_ok-pair.ensures in
    let one = c.in-Err-begin.ensures in
    subst (LeavesHalf kind.Copy who written g.D.Disk own spare false (c.hand_back-in-Err-begin.result.2 ≡ no.Disk who) own) (sym c.hand_back-in-Err-begin.ensures.own)
    (own_begun kind.Copy who written g.D.Disk own spare found ⊥ (IsErrOf (Err c.in-Err-begin.no) Disk) (λ n. c.hand_back-in-Err-begin.result.2 ≡ no.Disk n) disk (active_of of) (other_of of) c.begin.new.journal (swapped of) c.active_disk-active.ensures
    (record { any_moment = was.any_moment; grows = was.grows; cause = was.cause; counts_once = was.counts_once }) (λ never. never) was.opens.have
    (active_keeps kind.Copy who (g.D.Disk.view own).content (g.D.Disk.view spare).content of found was.opens)
    (record { any_moment = one.any_moment; grows = one.grows; cause = one.cause; counts_once = one.counts_once }) (refused_fails disk who c.in-Err-begin.no c.hand_back-in-Err-begin.result.2 (c.hand_back-in-Err-begin.ensures.no ∙ c.pair_no.ensures)))

pub returns-in-Err-begin-clause-spare : goal.returns-in-Err-begin-clause-spare
returns-in-Err-begin-clause-spare g c =
    let who = c.args.copy + 1 in
    let written = λ (n : ℕ). to_write n c.args.table.now in
    let own = c.args.disk in
    let spare = c.args.spare in
    let of = c.in_ok-pair.pair in
    let found = bodies_of c.in_ok-pair.bodies.items in
    let disk = c.active_disk-active.result in
    let was = c.in_ok-pair.ensures in
    let one = c.in-Err-begin.ensures in
    subst (LeavesHalf kind.Copy who written g.D.Disk own spare true (c.hand_back-in-Err-begin.result.2 ≡ no.Disk (who + 17)) spare) (sym c.hand_back-in-Err-begin.ensures.spare)
    (spare_begun kind.Copy who written g.D.Disk own spare found ⊥ (IsErrOf (Err c.in-Err-begin.no) Disk) (λ n. c.hand_back-in-Err-begin.result.2 ≡ no.Disk n) disk (active_of of) (other_of of) c.begin.new.journal (swapped of) c.active_disk-active.ensures
    (record { any_moment = was.any_moment_of_spare; grows = was.grows_of_spare; cause = was.cause_of_spare; counts_once = was.counts_once_of_spare }) (λ never. never) was.opens.have
    (active_keeps kind.Copy who (g.D.Disk.view own).content (g.D.Disk.view spare).content of found was.opens)
    (record { any_moment = one.any_moment; grows = one.grows; cause = one.cause; counts_once = one.counts_once }) (refused_fails disk (who + 17) c.in-Err-begin.no c.hand_back-in-Err-begin.result.2 (c.hand_back-in-Err-begin.ensures.no ∙ c.pair_no.ensures)))

pub returns-in-Err-begin-clause-refused : goal.returns-in-Err-begin-clause-refused
returns-in-Err-begin-clause-refused g c =
    let table = c.args.table.now in
    let past = c.args.past.now in
    let told = (g.D.Disk.view c.args.disk).content in
    let spare_told = (g.D.Disk.view c.args.spare).content in
    let of = c.in_ok-pair.pair in
    let found = bodies_of c.in_ok-pair.bodies.items in
    let disk = c.active_disk-active.result in
    let was = c.in_ok-pair.ensures in
    let K = Keeps (active_of of) found in
    subst (IsFindingNo c.args.copy table past c.args.limit told spare_told) (sym (c.hand_back-in-Err-begin.ensures.no ∙ c.pair_no.ensures))
    (begin_refused c.args.copy table past c.args.limit told spare_told (swapped of) disk found K c.in-Err-begin.no c.active_disk-active.ensures was.opens.have
    (active_keeps kind.Copy (c.args.copy + 1) told spare_told of found was.opens)
    (subst (λ n. IsOfCopyImage disk (λ f. K → IsCopyFault disk table past n found f) c.in-Err-begin.no) was.limit.0 c.in-Err-begin.ensures.refused))

pub returns-in_err-pair-clause-own : goal.returns-in_err-pair-clause-own
returns-in_err-pair-clause-own g c =
    let was = c.in_err-pair.ensures in
    own_refused (c.args.copy + 1) (λ n. to_write n c.args.table.now) g.D.Disk c.args.disk c.args.spare c.from_residual.result c.in_err-pair.field-0.0 c.from_residual.ensures.1
    (record { any_moment = was.any_moment; grows = was.grows; cause = was.cause; counts_once = was.counts_once })

pub returns-in_err-pair-clause-spare : goal.returns-in_err-pair-clause-spare
returns-in_err-pair-clause-spare g c =
    let was = c.in_err-pair.ensures in
    spare_refused (c.args.copy + 1) (λ n. to_write n c.args.table.now) g.D.Disk c.args.disk c.args.spare c.from_residual.result c.in_err-pair.field-0.0 c.from_residual.ensures.1
    (record { any_moment = was.any_moment_of_spare; grows = was.grows_of_spare; cause = was.cause_of_spare; counts_once = was.counts_once_of_spare })

pub returns-in_err-pair-clause-refused : goal.returns-in_err-pair-clause-refused
returns-in_err-pair-clause-refused g c =
    refused_so c.args.copy c.args.table.now c.args.past.now c.args.limit (g.D.Disk.view c.args.disk).content (g.D.Disk.view c.args.spare).content c.from_residual.result c.in_err-pair.field-0.0 c.from_residual.ensures.1 c.in_err-pair.ensures.refused

pub returns-in-Err-clause-own : goal.returns-in-Err-clause-own
returns-in-Err-clause-own g c =
    let who = c.args.copy + 1 in
    let written = λ (n : ℕ). to_write n c.args.table.now in
    let own = c.args.disk in
    let spare = c.args.spare in
    let was = c.in_ok-pair.ensures in
    let Failed = c.hand_back.result.2 ≡ no.Disk who in
    subst (LeavesHalf kind.Copy who written g.D.Disk own spare false Failed own) (sym c.hand_back.ensures.own)
    (opened_half kind.Copy who written g.D.Disk own spare false ⊥ Failed own (disk_of (own_of c.in_ok-pair.pair))
    (record { any_moment = was.any_moment; grows = was.grows; cause = was.cause; counts_once = was.counts_once }) (λ never. absurd never) (not_for_memory who c.hand_back.result.2 c.hand_back.ensures.no))

pub returns-in-Err-clause-spare : goal.returns-in-Err-clause-spare
returns-in-Err-clause-spare g c =
    let who = c.args.copy + 1 in
    let written = λ (n : ℕ). to_write n c.args.table.now in
    let own = c.args.disk in
    let spare = c.args.spare in
    let was = c.in_ok-pair.ensures in
    let Failed = c.hand_back.result.2 ≡ no.Disk (who + 17) in
    subst (LeavesHalf kind.Copy who written g.D.Disk own spare true Failed spare) (sym c.hand_back.ensures.spare)
    (opened_half kind.Copy who written g.D.Disk own spare true ⊥ Failed spare (disk_of (spare_of c.in_ok-pair.pair))
    (record { any_moment = was.any_moment_of_spare; grows = was.grows_of_spare; cause = was.cause_of_spare; counts_once = was.counts_once_of_spare }) (λ never. absurd never) (not_for_memory (who + 17) c.hand_back.result.2 c.hand_back.ensures.no))

pub returns-in-Err-clause-refused : goal.returns-in-Err-clause-refused
returns-in-Err-clause-refused g c = subst (IsFindingNo c.args.copy c.args.table.now c.args.past.now c.args.limit (g.D.Disk.view c.args.disk).content (g.D.Disk.view c.args.spare).content) (sym c.hand_back.ensures.no) (inl tt)
