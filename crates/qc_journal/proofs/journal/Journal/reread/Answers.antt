-- What is found stands in each image.
use Rattle.std.proofs.Common.{◌≡◌, ℕ, List, [], ⊎_elim, inl, inr, sym, ◌∙◌, ap, subst}
use Rattle.qc_disk.specs.Disk.{HasLength}
use Rattle.qc_journal.specs.Image.{EndsAt, HasRecords}
use Rattle.qc_journal.specs.Found.{found_bodies}
use Rattle.qc_journal.specs.Journal.{in_hand}
use Rattle.qc_journal.proofs.Appends.{told_image}
use Rattle.qc_journal.proofs.Readings.{records-same}
use Rattle.qc_journal.proofs.Reopens.{found_ends, found_some, none_missing, only_told}
use Rattle.qc_journal.proofs.journal.Journal.reread.Goals as goal

pub returns-clause-tells : goal.returns-clause-tells
returns-clause-tells g c = λ bodies k.
    let old = c.args.self.now in
    let found = c.in_ok-found.found in
    let disk = c.read_records.new.disk in
    let same : (g.D.Disk.view c.close.new.self.disk).content ≡ (g.D.Disk.view old.disk).content = ap (λ d. (g.D.Disk.view d).content) c.close.ensures.disk in
    let was = same ∙ k.told in
    let told = c.read_records.ensures.content ∙ was in
    let here = k.each k.bytes (told_image _ _ k.bytes k.told (g.met.D.Disk.reads_as_image old.disk)) in
    let has = g.met.D.Disk.has_size disk in
    let has_was = subst (λ t. HasLength t (g.D.Disk.view disk).size) c.read_records.ensures.content has in
    let ends = found_ends old.place bodies (in_hand old) _ k.bytes _ found was has_was here c.in_ok-found.ensures.found in
    record {
      bytes = k.bytes;
      told = told;
      each = λ image left. only_told _ k.bytes _ (EndsAt found.place (found_bodies found)) told c.in_ok-found.ensures.durable ends image left;
      whole = λ up. c.saturating_sub-missing.ensures ∙ none_missing found.place _ _ k.bytes found.size ends told (subst (HasLength (g.D.Disk.view disk).content) (sym c.in_ok-found.ensures.found.size_is) has);
    }

pub returns-clause-reset_tells : goal.returns-clause-reset_tells
returns-clause-reset_tells g c = λ bodies k.
    let old = c.args.self.now in
    let found = c.in_ok-found.found in
    let disk = c.read_records.new.disk in
    let was = ap (λ d. (g.D.Disk.view d).content) c.close.ensures.disk ∙ k.told in
    let told = c.read_records.ensures.content ∙ was in
    let has = subst (λ t. HasLength t (g.D.Disk.view disk).size) c.read_records.ensures.content (g.met.D.Disk.has_size disk) in
    let here = k.each k.bytes (told_image _ _ k.bytes k.told (g.met.D.Disk.reads_as_image old.disk)) in
    let finds = found_some _ k.bytes _ found was has in
    let ends : EndsAt found.place (found_bodies found) k.bytes = ⊎_elim (λ all. finds old.place bodies all c.in_ok-found.ensures.found) (λ none. finds 0 [] none c.in_ok-found.ensures.found) here in
    let same : (bs : List (List ℕ)) → HasRecords bs k.bytes → found_bodies found ≡ bs = λ bs has_them. records-same k.bytes bs (found_bodies found) has_them (inr (found.place, ends)) in (
      record {
        bytes = k.bytes;
        told = told;
        each = λ image left. only_told _ k.bytes _ (EndsAt found.place (found_bodies found)) told c.in_ok-found.ensures.durable ends image left;
        whole = λ up. c.saturating_sub-missing.ensures ∙ none_missing found.place _ _ k.bytes found.size ends told (subst (HasLength (g.D.Disk.view disk).content) (sym c.in_ok-found.ensures.found.size_is) (g.met.D.Disk.has_size disk));
      },
      ⊎_elim (λ all. inl (same bodies (inr (old.place, all)))) (λ none. inr (same [] (inr (0, none)))) here,
    )
