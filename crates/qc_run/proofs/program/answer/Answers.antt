use Rattle.std.proofs.Common.{map, ap, refl}
use Rattle.std.specs.Prelude.{Some, string_bytes}
use Rattle.qc_run.specs.Commands.{asked_by}
use Rattle.qc_run.specs.Words.{Asked}
use Rattle.qc_run.proofs.Asking.{by_audit, by_making, by_reading, makes_no_trail, none_found, not_audit, not_reading, reads_alone, reads_no_trail}
use Rattle.qc_run.proofs.Clauses.{as_asked}
use Rattle.qc_run.proofs.program.answer.Goals as goal

pub returns-in-Some-Run-clause-answer : goal.returns-in-Some-Run-clause-answer
returns-in-Some-Run-clause-answer g c =
    let asked = Asked.read_at c.in-Some-Run.place.now c.in-Some-Run.mode c.in-Some-Run.form in
    by_reading g.H.D.Disk.view g.H.Shop.view (map string_bytes c.args.words.now) _ _ _ _ _ _ _ c.in-Some-Run.place.now c.in-Some-Run.mode c.in-Some-Run.form
    ((c.in-Some-Run.ensures asked).0 (ap (λ x. Some (asked_by x)) c.in-Some-Run.field-0-is)) c.read.ensures.answer

pub returns-in-Some-Run-clause-no_command : goal.returns-in-Some-Run-clause-no_command
returns-in-Some-Run-clause-no_command g c = λ none.
    let asked = Asked.read_at c.in-Some-Run.place.now c.in-Some-Run.mode c.in-Some-Run.form in
    absurd (none asked ((c.in-Some-Run.ensures asked).0 (ap (λ x. Some (asked_by x)) c.in-Some-Run.field-0-is)))

pub returns-in-Some-Run-clause-source_within : goal.returns-in-Some-Run-clause-source_within
returns-in-Some-Run-clause-source_within g c =
    let asked = Asked.read_at c.in-Some-Run.place.now c.in-Some-Run.mode c.in-Some-Run.form in
    as_asked (map string_bytes c.args.words.now) asked _ ((c.in-Some-Run.ensures asked).0 (ap (λ x. Some (asked_by x)) c.in-Some-Run.field-0-is)) c.read.ensures.source_within

pub returns-in-Some-Run-clause-source_left : goal.returns-in-Some-Run-clause-source_left
returns-in-Some-Run-clause-source_left g c = λ making.
    let asked = Asked.read_at c.in-Some-Run.place.now c.in-Some-Run.mode c.in-Some-Run.form in
    let run = (c.in-Some-Run.ensures asked).0 (ap (λ x. Some (asked_by x)) c.in-Some-Run.field-0-is) in
    absurd (reads_alone (map string_bytes c.args.words.now) (run.0, run.1) making)

pub returns-in-Some-Run-clause-audited : goal.returns-in-Some-Run-clause-audited
returns-in-Some-Run-clause-audited g c = λ audit.
    let asked = Asked.read_at c.in-Some-Run.place.now c.in-Some-Run.mode c.in-Some-Run.form in
    let run = (c.in-Some-Run.ensures asked).0 (ap (λ x. Some (asked_by x)) c.in-Some-Run.field-0-is) in
    absurd (reads_no_trail (map string_bytes c.args.words.now) (run.0, run.1) audit)

pub returns-in-Some-Gen-clause-answer : goal.returns-in-Some-Gen-clause-answer
returns-in-Some-Gen-clause-answer g c =
    let number = c.in-Some-Gen.number in
    by_making g.H.D.Disk.view g.H.Shop.view (map string_bytes c.args.words.now) _ _ _ _ _ _ _ number
    ((c.in-Some-Gen.ensures (Asked.made_of number)).0 (ap (λ x. Some (asked_by x)) c.in-Some-Gen.field-0-is)) c.make.ensures.answer

pub returns-in-Some-Gen-clause-no_command : goal.returns-in-Some-Gen-clause-no_command
returns-in-Some-Gen-clause-no_command g c = λ none.
    let asked = Asked.made_of c.in-Some-Gen.number in
    absurd (none asked ((c.in-Some-Gen.ensures asked).0 (ap (λ x. Some (asked_by x)) c.in-Some-Gen.field-0-is)))

pub returns-in-Some-Gen-clause-source_taken : goal.returns-in-Some-Gen-clause-source_taken
returns-in-Some-Gen-clause-source_taken g c = λ reading.
    let number = c.in-Some-Gen.number in
    absurd (reads_alone (map string_bytes c.args.words.now) reading (number, (c.in-Some-Gen.ensures (Asked.made_of number)).0 (ap (λ x. Some (asked_by x)) c.in-Some-Gen.field-0-is)))

pub returns-in-Some-Gen-clause-audited : goal.returns-in-Some-Gen-clause-audited
returns-in-Some-Gen-clause-audited g c = λ audit.
    let number = c.in-Some-Gen.number in
    absurd (makes_no_trail (map string_bytes c.args.words.now) (number, (c.in-Some-Gen.ensures (Asked.made_of number)).0 (ap (λ x. Some (asked_by x)) c.in-Some-Gen.field-0-is)) audit)

pub returns-in-Some-Audit-clause-answer : goal.returns-in-Some-Audit-clause-answer
returns-in-Some-Audit-clause-answer g c =
    by_audit g.H.D.Disk.view g.H.Shop.view (map string_bytes c.args.words.now) _ _ _ _ _ _ _
    ((c.in-Some-Audit.ensures Asked.audit).0 (ap (λ x. Some (asked_by x)) c.in-Some-Audit.field-0-is)) c.audit_source.ensures.audited refl

pub returns-in-Some-Audit-clause-no_command : goal.returns-in-Some-Audit-clause-no_command
returns-in-Some-Audit-clause-no_command g c = λ none.
    absurd (none Asked.audit ((c.in-Some-Audit.ensures Asked.audit).0 (ap (λ x. Some (asked_by x)) c.in-Some-Audit.field-0-is)))

pub returns-in-Some-Audit-clause-source_taken : goal.returns-in-Some-Audit-clause-source_taken
returns-in-Some-Audit-clause-source_taken g c = λ reading.
    absurd (reads_no_trail (map string_bytes c.args.words.now) reading ((c.in-Some-Audit.ensures Asked.audit).0 (ap (λ x. Some (asked_by x)) c.in-Some-Audit.field-0-is)))

pub returns-in-Some-Audit-clause-source_within : goal.returns-in-Some-Audit-clause-source_within
returns-in-Some-Audit-clause-source_within g c =
    as_asked (map string_bytes c.args.words.now) Asked.audit _ ((c.in-Some-Audit.ensures Asked.audit).0 (ap (λ x. Some (asked_by x)) c.in-Some-Audit.field-0-is)) c.audit_source.ensures.source_within

pub returns-in-Some-Audit-clause-source_left : goal.returns-in-Some-Audit-clause-source_left
returns-in-Some-Audit-clause-source_left g c = λ making.
    absurd (makes_no_trail (map string_bytes c.args.words.now) making ((c.in-Some-Audit.ensures Asked.audit).0 (ap (λ x. Some (asked_by x)) c.in-Some-Audit.field-0-is)))

pub returns-in-None-clause-source_taken : goal.returns-in-None-clause-source_taken
returns-in-None-clause-source_taken g c = λ reading.
    let words = map string_bytes c.args.words.now in
    absurd (not_reading words (none_found words (λ asked is. (c.in-None.ensures asked).1 is)) reading)

pub returns-in-None-clause-audited : goal.returns-in-None-clause-audited
returns-in-None-clause-audited g c = λ audit.
    let words = map string_bytes c.args.words.now in
    absurd (not_audit words (none_found words (λ asked is. (c.in-None.ensures asked).1 is)) audit)
