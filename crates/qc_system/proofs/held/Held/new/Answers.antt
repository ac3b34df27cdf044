-- What was found on the disk is kept, and nothing of this run.
use Rattle.std.proofs.Common.{◌+◌, sym, ap, ◌∙◌, subst}
use mathlib.Core.Bool.{true≢false}
use Rattle.qc_desk.specs.declared.view.View.{View}
use Rattle.qc_event.specs.declared.event.Why.{Why}
use Rattle.qc_event.specs.declared.event.Why.TheVariants as why
use Rattle.qc_event.specs.History.{Name}
use Rattle.qc_event.specs.Requests.{was_unable}
use Rattle.qc_journal.specs.Journal.{limit_of}
use Rattle.qc_event.specs.Tables.{setting_of}
use Rattle.qc_site.specs.Since.{GrantsGrow}
use Rattle.qc_site.specs.Sites.{KeepsGranted}
use Rattle.qc_system.specs.Grown.{LeftAlike}
use Rattle.qc_system.specs.Kept.{CopyHadNoRoom, Pays, downs}
use Rattle.qc_system.proofs.Grown.{disk_in}
use Rattle.qc_system.proofs.Paying.{faults_of, pays_first}
use Rattle.qc_system.proofs.held.Held.new.Goals as goal

pub invariant_of-result : goal.invariant_of-result
invariant_of-result g c =
    let found = c.requires.mounted.disk in
    let first = (g.N.Mounting.found.active (g.row.C + 1)).first in
    let none = ap (λ (v : View). downs v.mine) c.enter.ensures.pass ∙ ap downs c.requires.fresh.0 in
    let fresh = λ (access : Name) (w : Why). ap (λ (v : View). was_unable v.mine access w) c.enter.ensures.pass ∙ ap (λ p. was_unable p access w) c.requires.fresh.0 in
    record {
      keeps = ∣ (λ told. (
        subst (λ b. KeepsGranted g.row.C b c.enter.result.log c.enter.result.replica) (sym found.same) (c.enter.ensures.over (found.keeps told)),
        record {
          began = subst (λ j. LeftAlike first (disk_in j)) (sym c.enter.ensures.journal) found.left;
          grown = subst (λ b. GrantsGrow (setting_of g.N.Store.table g.N.Store.base) g.row.C b first.moment c.enter.result.log c.enter.result.replica.pass.seen) (sym found.same) (c.enter.ensures.grown first.moment found.at (found.keeps told));
        },
      )) ∣₁;
      pays = subst (λ n. Pays first.faults n (faults_of c.enter.result.log.journal)) (sym none)
          (pays_first first.faults (faults_of c.enter.result.log.journal) (found.count ∙ sym (ap faults_of c.enter.ensures.journal)));
      limit = ap limit_of c.enter.ensures.journal ∙ c.requires.mounted.limit;
      full = ∣ (λ told. subst (CopyHadNoRoom (setting_of g.N.Store.table g.N.Store.base) g.row.C (g.N.Mounting.found.active (g.row.C + 1)).before g.N.Mounting.found.limit c.enter.result.replica.pass.seen) (sym (ap (λ (v : View). v.mine) c.enter.ensures.pass ∙ c.requires.fresh.0)) tt) ∣₁;
      plain = ∣ (λ told. (c.enter.ensures.strange, λ access unable. true≢false (sym unable ∙ fresh access why.Strange))) ∣₁;
    }
