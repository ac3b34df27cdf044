-- The gate tells which records stand.
use Rattle.std.proofs.Common.{◌≡◌, if◌then◌else◌, sym, ◌∙◌, ap, subst}
use Rattle.std.specs.Prelude.{IfSome, IsTrue, ◌↔◌, slice_index}
use Rattle.qc_disk.specs.Disk.{HasLength}
use Rattle.qc_journal.specs.Image.{EndsAt}
use Rattle.qc_journal.specs.Journal.{in_hand, with_hand, behind_hand}
use Rattle.qc_journal.proofs.Appends.{told_image}
use Rattle.qc_journal.proofs.Reopens.{by_gate, none_missing, only_told}
use Rattle.qc_journal.proofs.journal.Journal.reopen.Goals as goal
use Rattle.qc_journal.proofs.journal.Journal.reopen.Goals.{then-stands, else-stands}

pub returns-clause-tells : goal.returns-clause-tells
returns-clause-tells g c = λ bodies k.
    let old = c.args.self.now in
    let hand = in_hand old in
    let stands = c.in_ok-stands.stands in
    let place : c.if-stands.place ≡ (if stands then behind_hand old.place hand else old.place) =
    elim c.if-stands.branch [
      | then-stands w ↦ w.place-is ∙ c.behind_hand-behind.ensures.place ∙ sym (ap (λ b. if b then behind_hand old.place hand else old.place) w.if-stands.true)
      | else-stands w ↦ w.place-is ∙ sym (ap (λ b. if b then behind_hand old.place hand else old.place) w.if-stands.false)
    ] in
    let synced = c.synced_len.ensures.content ∙ k.told in
    let told = c.gate_is_open.ensures.content ∙ synced in
    let tells : IsTrue stands ↔ (slice_index k.bytes old.place ≡ 1) = subst (λ t. IfSome t (λ b. IsTrue stands ↔ (slice_index b old.place ≡ 1))) synced c.in_ok-stands.ensures.tells in
    let here = k.each k.bytes (told_image _ _ k.bytes k.told (g.met.D.Disk.reads_as_image old.disk)) in
    let ends = by_gate old.place c.if-stands.place bodies hand k.bytes stands here c.requires tells place in
    record {
      bytes = k.bytes;
      told = told;
      each = λ image left. only_told _ k.bytes _ (EndsAt c.if-stands.place (if stands then with_hand bodies hand else bodies)) synced c.in_ok-size.ensures.durable ends image (c.gate_is_open.ensures.crash image left);
      whole = λ up. c.saturating_sub-missing.ensures ∙ none_missing c.if-stands.place _ _ k.bytes c.in_ok-size.size ends synced (subst (HasLength (g.D.Disk.view c.synced_len.new.disk).content) (sym c.in_ok-size.ensures.size) (g.met.D.Disk.has_size c.synced_len.new.disk));
    }
