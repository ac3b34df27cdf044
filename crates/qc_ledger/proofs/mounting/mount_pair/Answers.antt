-- An opening, and then what is begun over the active journal.
use Rattle.std.proofs.Common.{◌≡◌, ℕ, sym, subst, ◌∙◌}
use Rattle.std.specs.Prelude.{false, true, Ok, Err}
use Rattle.std.specs.Result.{IsErrOf}
use Rattle.qc_codec.specs.declared.past.Past.{Past}
use Rattle.qc_codec.proofs.Fits.{table_sized}
use Rattle.qc_codec.specs.Fields.{current_format}
use Rattle.qc_journal.specs.Image.{bodies_of}
use Rattle.qc_journal.specs.Journal.{Keeps}
use Rattle.qc_ledger.specs.Image.{AreMountableAsLedger, IsLedgerFault, to_write}
use Rattle.qc_ledger.specs.Pairs.{IsLedgerPairNo}
use Rattle.qc_ledger.specs.Refusing.{IsOfLedgerImage}
use Rattle.qc_ledger.specs.declared.fault.LedgerNo.TheVariants.{Disk}
use Rattle.qc_ledger.proofs.Halves.{LeavesHalf, ledger_mounted, ledger_refused, none_fails, own_begun, own_parted, refused_fails, spare_begun, spare_parted}
use Rattle.qc_pair.specs.Pair.{active_of, other_of, swapped}
use Rattle.qc_pair.specs.declared.fault.PairNo.TheVariants as pair_no
use Rattle.qc_pair.specs.declared.kind.Kind.TheVariants as kind
use Rattle.qc_pair.proofs.Halves.{active_keeps}
use Rattle.qc_ledger.proofs.mounting.mount_pair.Goals as goal

pub into_fold-journal-requires : goal.into_fold-journal-requires
into_fold-journal-requires g c = record { few = (table_sized current_format c.args.table.now c.requires.proper).copies }

pub returns-in-Ok-begin-clause-mounts : goal.returns-in-Ok-begin-clause-mounts
returns-in-Ok-begin-clause-mounts g c =
    let pair = c.in_ok-pair.pair in
    let bodies = bodies_of c.in_ok-pair.bodies.items in
    let begun = c.in-Ok-begin.ensures in
    let parted = c.into_fold-journal.ensures in
    ledger_mounted c.args.table.now c.args.limit (g.D.Disk.view c.args.disk).content (g.D.Disk.view c.args.spare).content pair c.into_fold-journal.result.1 _ c.active_disk-active.result bodies c.in-Ok-begin.past c.in_ok-pair.ensures.opens
    parted.other parted.number parted.swapped c.active_disk-active.ensures begun.ledgers
    (λ k. subst (λ (n : ℕ). AreMountableAsLedger c.active_disk-active.result c.args.table.now n bodies) c.in_ok-pair.ensures.limit.0 (begun.fine k))
    begun.past begun.bodies
    (λ k. subst (λ j. Keeps j (bodies_of c.begin.new.bodies.items)) (sym parted.active) (begun.keeps k))

pub returns-in-Ok-begin-clause-own : goal.returns-in-Ok-begin-clause-own
returns-in-Ok-begin-clause-own g c =
    let pair = c.in_ok-pair.pair in
    let bodies = bodies_of c.in_ok-pair.bodies.items in
    let begun = c.in-Ok-begin.ensures in
    let opened = c.in_ok-pair.ensures in
    let parted = c.into_fold-journal.ensures in
    let writes = λ (n : ℕ). to_write n c.args.table.now in
    subst (λ d. LeavesHalf kind.Ledger 0 writes g.D.Disk c.args.disk c.args.spare false ⊥ c.args.disk d)
    (sym (own_parted c.into_fold-journal.result.1 c.into_fold-journal.result.0 c.begin.new.journal (other_of pair) (swapped pair) parted.active parted.other parted.swapped))
    (own_begun kind.Ledger 0 writes g.D.Disk c.args.disk c.args.spare bodies ⊥ (IsErrOf {T = Past} (Ok c.in-Ok-begin.past) Disk) (λ n. ⊥) c.active_disk-active.result (active_of pair) (other_of pair) c.begin.new.journal (swapped pair) c.active_disk-active.ensures
    (record { any_moment = opened.any_moment; grows = opened.grows; cause = opened.cause; counts_once = opened.counts_once }) (λ is. is)
    opened.opens.have (active_keeps kind.Ledger 0 (g.D.Disk.view c.args.disk).content (g.D.Disk.view c.args.spare).content pair bodies opened.opens)
    (record { any_moment = begun.any_moment; grows = begun.grows; cause = begun.cause; counts_once = begun.counts_once })
    (none_fails c.in-Ok-begin.past 0 c.active_disk-active.result))

pub returns-in-Ok-begin-clause-spare : goal.returns-in-Ok-begin-clause-spare
returns-in-Ok-begin-clause-spare g c =
    let pair = c.in_ok-pair.pair in
    let bodies = bodies_of c.in_ok-pair.bodies.items in
    let begun = c.in-Ok-begin.ensures in
    let opened = c.in_ok-pair.ensures in
    let parted = c.into_fold-journal.ensures in
    let writes = λ (n : ℕ). to_write n c.args.table.now in
    subst (λ d. LeavesHalf kind.Ledger 0 writes g.D.Disk c.args.disk c.args.spare true ⊥ c.args.spare d)
    (sym (spare_parted c.into_fold-journal.result.1 c.into_fold-journal.result.0 c.begin.new.journal (other_of pair) (swapped pair) parted.active parted.other parted.swapped))
    (spare_begun kind.Ledger 0 writes g.D.Disk c.args.disk c.args.spare bodies ⊥ (IsErrOf {T = Past} (Ok c.in-Ok-begin.past) Disk) (λ n. ⊥) c.active_disk-active.result (active_of pair) (other_of pair) c.begin.new.journal (swapped pair) c.active_disk-active.ensures
    (record { any_moment = opened.any_moment_of_spare; grows = opened.grows_of_spare; cause = opened.cause_of_spare; counts_once = opened.counts_once_of_spare }) (λ is. is)
    opened.opens.have (active_keeps kind.Ledger 0 (g.D.Disk.view c.args.disk).content (g.D.Disk.view c.args.spare).content pair bodies opened.opens)
    (record { any_moment = begun.any_moment; grows = begun.grows; cause = begun.cause; counts_once = begun.counts_once })
    (none_fails c.in-Ok-begin.past 17 c.active_disk-active.result))

pub returns-in-Err-begin-clause-refused : goal.returns-in-Err-begin-clause-refused
returns-in-Err-begin-clause-refused g c =
    let pair = c.in_ok-pair.pair in
    let bodies = bodies_of c.in_ok-pair.bodies.items in
    let opens = c.in_ok-pair.ensures.opens in
    let active = c.active_disk-active.result in
    let told = (g.D.Disk.view c.args.disk).content in
    let spare_told = (g.D.Disk.view c.args.spare).content in
    let keeps = Keeps (active_of pair) bodies in
    subst (IsLedgerPairNo c.args.table.now c.args.limit told spare_told) (sym (c.hand_back-in-Err-begin.ensures.no ∙ c.pair_no.ensures))
    (ledger_refused c.args.table.now c.args.limit told spare_told (swapped pair) active bodies keeps c.in-Err-begin.no c.active_disk-active.ensures opens.have
    (active_keeps kind.Ledger 0 told spare_told pair bodies opens)
    (subst (λ (n : ℕ). IsOfLedgerImage active (λ fault. keeps → IsLedgerFault active c.args.table.now n bodies fault) c.in-Err-begin.no) c.in_ok-pair.ensures.limit.0 c.in-Err-begin.ensures.refused))

pub returns-in-Err-begin-clause-own : goal.returns-in-Err-begin-clause-own
returns-in-Err-begin-clause-own g c =
    let pair = c.in_ok-pair.pair in
    let bodies = bodies_of c.in_ok-pair.bodies.items in
    let begun = c.in-Err-begin.ensures in
    let opened = c.in_ok-pair.ensures in
    let back = c.hand_back-in-Err-begin in
    let writes = λ (n : ℕ). to_write n c.args.table.now in
    subst (λ d. LeavesHalf kind.Ledger 0 writes g.D.Disk c.args.disk c.args.spare false (back.result.2 ≡ pair_no.Disk 0) c.args.disk d) (sym back.ensures.own)
    (own_begun kind.Ledger 0 writes g.D.Disk c.args.disk c.args.spare bodies ⊥ (IsErrOf {T = Past} (Err c.in-Err-begin.no) Disk) (λ n. back.result.2 ≡ pair_no.Disk n) c.active_disk-active.result (active_of pair) (other_of pair) c.begin.new.journal (swapped pair) c.active_disk-active.ensures
    (record { any_moment = opened.any_moment; grows = opened.grows; cause = opened.cause; counts_once = opened.counts_once }) (λ is. is)
    opened.opens.have (active_keeps kind.Ledger 0 (g.D.Disk.view c.args.disk).content (g.D.Disk.view c.args.spare).content pair bodies opened.opens)
    (record { any_moment = begun.any_moment; grows = begun.grows; cause = begun.cause; counts_once = begun.counts_once })
    (refused_fails c.active_disk-active.result 0 c.in-Err-begin.no back.result.2 (back.ensures.no ∙ c.pair_no.ensures)))

pub returns-in-Err-begin-clause-spare : goal.returns-in-Err-begin-clause-spare
returns-in-Err-begin-clause-spare g c =
    let pair = c.in_ok-pair.pair in
    let bodies = bodies_of c.in_ok-pair.bodies.items in
    let begun = c.in-Err-begin.ensures in
    let opened = c.in_ok-pair.ensures in
    let back = c.hand_back-in-Err-begin in
    let writes = λ (n : ℕ). to_write n c.args.table.now in
    subst (λ d. LeavesHalf kind.Ledger 0 writes g.D.Disk c.args.disk c.args.spare true (back.result.2 ≡ pair_no.Disk 17) c.args.spare d) (sym back.ensures.spare)
    (spare_begun kind.Ledger 0 writes g.D.Disk c.args.disk c.args.spare bodies ⊥ (IsErrOf {T = Past} (Err c.in-Err-begin.no) Disk) (λ n. back.result.2 ≡ pair_no.Disk n) c.active_disk-active.result (active_of pair) (other_of pair) c.begin.new.journal (swapped pair) c.active_disk-active.ensures
    (record { any_moment = opened.any_moment_of_spare; grows = opened.grows_of_spare; cause = opened.cause_of_spare; counts_once = opened.counts_once_of_spare }) (λ is. is)
    opened.opens.have (active_keeps kind.Ledger 0 (g.D.Disk.view c.args.disk).content (g.D.Disk.view c.args.spare).content pair bodies opened.opens)
    (record { any_moment = begun.any_moment; grows = begun.grows; cause = begun.cause; counts_once = begun.counts_once })
    (refused_fails c.active_disk-active.result 17 c.in-Err-begin.no back.result.2 (back.ensures.no ∙ c.pair_no.ensures)))
