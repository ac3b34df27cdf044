use Rattle.std.proofs.Common.{[], length, sym, ap, ◌∙◌, subst, arith, true≢false, ℕ, List}
use Rattle.std.specs.Prelude.{None, Vec}
use Rattle.std.specs.declared.alloc.Global.{Global}
use Rattle.std.proofs.lemmas.List.{length-map}
use Rattle.qc_config.specs.declared.tuple.Tuple.{Tuple}
use Rattle.qc_event.specs.History.{grants}
use Rattle.qc_journal.specs.Journal.{disk_of}
use Rattle.qc_event.specs.Tables.{setting_of}
use Rattle.qc_desk.specs.declared.view.View.{View}
use Rattle.qc_site.specs.Mounted.{records_of}
use Rattle.qc_site.specs.Replica.{IsTableOf}
use Rattle.qc_ledger.proofs.Logging.{up_by}
use Rattle.qc_site.proofs.Logs.{first_over, same_over}
use Rattle.qc_site.proofs.Replicas.{nothing_granted}
use Rattle.qc_site.proofs.Since.{grants_first}
use Rattle.qc_site.proofs.mounted.Mounted.enter.Goals as goal

pub new-requires : goal.new-requires
new-requires g c =
    let setting = setting_of g.N.Store.table g.N.Store.base in
    let start = c.into_parts-start.ensures.start in
    let nothing = nothing_granted setting g.row.C c.args.pass c.requires.pass.1 c.known.ensures.legal (c.known.ensures.mine c.requires.pass.0) c.requires.fresh.0 in (
      omega arith,
      (
        c.requires.small,
        (
          c.requires.pass,
          (
            c.requires.fresh.1,
            (
              c.requires.none_joined,
              (
                c.known.ensures,
                (
                  nothing,
                  (
                    start ∙ c.requires.start,
                    subst (λ (row : List Tuple). IsTableOf row c.args.pass.seen g.row.C c.into_parts-start.result.1) (sym start) (c.into_parts-start.ensures.locks c.args.pass.seen g.row.C nothing),
                  ),
                ),
              ),
            ),
          ),
        ),
      ),
    )

pub invariant_of-result-2 : goal.invariant_of-result-2
invariant_of-result-2 g c = record {
  journal = λ up. c.args.self.up;
  sound = λ strange. absurd (true≢false (sym strange));
  copies = c.requires.copies;
}

pub returns-clause-over : goal.returns-clause-over
returns-clause-over g c = λ keeps.
    let setting = setting_of g.N.Store.table g.N.Store.base in
    let nothing = nothing_granted setting g.row.C c.args.pass c.requires.pass.1 c.known.ensures.legal (c.known.ensures.mine c.requires.pass.0) c.requires.fresh.0 in
    same_over (records_of c.args.self) _ [] _ None _ (ap (λ (v : View). grants v.seen g.row.C) c.new.ensures.pass ∙ nothing) c.new.ensures.none
    (first_over (records_of c.args.self) _ c.args.self.up keeps (ap length c.as_slice.ensures.value ∙ sym (length-map c.args.self.bodies.items (λ (b : Vec ℕ Global). b.items))))

pub returns-clause-grown : goal.returns-clause-grown
returns-clause-grown g c = λ since is keeps.
    let own = c.args.self in
    grants_first (setting_of g.N.Store.table g.N.Store.base) g.row.C (records_of own) since own.journal c.new.result.pass.seen is (up_by own.journal.state own.up) keeps (g.met.D.Disk.leaves_now (disk_of own.journal))
