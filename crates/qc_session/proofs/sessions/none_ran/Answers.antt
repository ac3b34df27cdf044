-- Nothing has happened, as no client acted.
use Rattle.std.proofs.Common.{◌≡◌, [], false, ap, sym, subst, reverse, ◌∙◌}
use mathlib.Core.Bool.{true≢false}
use Rattle.std.specs.Prelude.{Err, IsOk}
use Rattle.qc_event.specs.declared.short.Short.TheVariants.{Memory}
use Rattle.std.proofs.lemmas.List.{reverse-reverse}
use Rattle.qc_event.specs.Tables.{setting_of}
use Rattle.qc_system.specs.Closing.{AllKeep}
use Rattle.qc_system.proofs.Settled.{kept_where}
use Rattle.qc_session.proofs.Unrun.{none_acted}
use Rattle.qc_session.proofs.sessions.none_ran.Given.{Over}
use Rattle.qc_session.proofs.sessions.none_ran.Goals as goal

pub finish-start-requires : goal.finish-start-requires
finish-start-requires g c = record { first = (c.requires.first.live, c.requires.first.number, c.requires.first.out); others = c.requires.others }

nothing : (g : Over) (c : goal.After-finish-start g) → reverse c.finish-start.result.1 ≡ []
nothing g c = none_acted (setting_of g.N.Store.table g.N.Store.base) (reverse c.finish-start.result.1) c.args.first c.requires.first c.finish-start.ensures.legal c.finish-start.ensures.settled

pub returns-clause-nothing : goal.returns-clause-nothing
returns-clause-nothing g c = sym (reverse-reverse c.finish-start.result.1) ∙ ap reverse (nothing g c)

pub returns-clause-disks : goal.returns-clause-disks
returns-clause-disks g c =
    let setting = setting_of g.N.Store.table g.N.Store.base in
    let disks = c.finish-start.result.2.items in
    let None : Type 0 = IsOk {T = Unit {0}} (Err Memory) in
    subst (AllKeep setting g.N.Mounting.found g.D.Disk.view None disks) (nothing g c)
    (kept_where setting g.N.Mounting.found g.D.Disk.view disks (reverse c.finish-start.result.1) (c.finish-start.result.3 ≡ false) None (λ never. absurd (true≢false (sym never))) c.finish-start.ensures.disks)
