use Rattle.std.proofs.Common.{◌≡◌, ℕ, List, ◌++◌, ◌∷◌, [], refl, ◌∙◌, subst}
use Rattle.std.specs.Prelude.{IfErr, OnOk}
use Rattle.qc_journal.specs.Journal.{AppendLeaves, Keeps}
use Rattle.qc_ledger.specs.Runs.{HasOrMore, Leaves}
use Rattle.qc_ledger.specs.Shelf.{EndsWithin}
use Rattle.qc_ledger.proofs.Logging.{append_ends}
use Rattle.qc_site.specs.Back.{grant_body}
use Rattle.qc_site.specs.Log.{copies_of, log_journal}
use Rattle.qc_site.proofs.Logs.{unsure_each, written_each}
use Rattle.qc_site.proofs.log.GrantLog.write.Goals as goal

pub returns-clause-over : goal.returns-clause-over
returns-clause-over g c =
    let old = c.args.self.now in
    let r = c.append.result in
    let is : c.deref.result.now ≡ grant_body (copies_of old) c.args.grant.now = c.deref.ensures.value ∙ c.in_ok-bytes.ensures.0 in
    written_each old _ c.args.grant.now refl refl c.requires.proper r c.append.ensures.up
    (subst (λ b. OnOk r ((bodies : List (List ℕ)) → Keeps (log_journal old) bodies → Keeps c.append.new.self (bodies ++ b ∷ []))) is c.append.ensures.acknowledged)

pub returns-clause-unsure : goal.returns-clause-unsure
returns-clause-unsure g c =
    let old = c.args.self.now in
    let r = c.append.result in
    let is : c.deref.result.now ≡ grant_body (copies_of old) c.args.grant.now = c.deref.ensures.value ∙ c.in_ok-bytes.ensures.0 in
    unsure_each old _ c.args.grant.now refl refl c.requires.proper r c.requires.up
    (subst (λ b. IfErr r (AppendLeaves (log_journal old) c.append.new.self b)) is c.append.ensures.left) c.append.ensures.kept

pub returns-clause-any_moment : goal.returns-clause-any_moment
returns-clause-any_moment g c = λ bodies k.
    let old = c.args.self.now in
    let is : c.deref.result.now ≡ grant_body (copies_of old) c.args.grant.now = c.deref.ensures.value ∙ c.in_ok-bytes.ensures.0 in
    subst (λ b. Leaves (log_journal old) c.append.new.self (HasOrMore bodies b)) is (c.append.ensures.any_moment bodies k)

pub returns-clause-within : goal.returns-clause-within
returns-clause-within g c =
    let old = c.args.self.now in
    let r = c.append.result in
    let is : c.deref.result.now ≡ grant_body (copies_of old) c.args.grant.now = c.deref.ensures.value ∙ c.in_ok-bytes.ensures.0 in
    subst (λ b. OnOk r (EndsWithin c.append.new.self b)) is (append_ends (log_journal old) c.append.new.self c.deref.result.now c.append.ensures.limit r c.append.ensures.place c.append.ensures.full)
