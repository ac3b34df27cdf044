use Rattle.std.proofs.Common.{◌≤◌, ℕ, List, length, take, refl, sym, ◌∙◌, subst, arith}
use Rattle.std.proofs.lemmas.Option.{none-some}
use Rattle.std.proofs.lemmas.Result.{err_from_is_err_and}
use Rattle.qc_codec.specs.declared.fault.CodecNo.{CodecNo}
use Rattle.qc_codec.specs.Fields.{word}
use Rattle.qc_codec.specs.Gives.{Refuses}
use Rattle.qc_audit.specs.Saved.{AreParts}
use Rattle.qc_audit.proofs.Spelled.{parts_taken, taken, long_enough}
use Rattle.qc_audit.proofs.reading.parted.Goals as goal

pub returns-in_err-size-clause-bad : goal.returns-in_err-size-clause-bad
returns-in_err-size-clause-bad c =
    let p = err_from_is_err_and c.from_residual.result c.from_residual.ensures.1 in
    let bytes = c.args.bytes.now in
    let none = subst (λ (f : CodecNo). Refuses f (word.taken bytes)) c.in_err-size.ensures.only_bad c.in_err-size.ensures.taken in
    rw (p.1, p.2) (c.in_err-size.ensures.only_bad, λ front back parts. none-some _ (sym none ∙ taken bytes front back parts))

pub returns-then-rest-size-clause-bad : goal.returns-then-rest-size-clause-bad
returns-then-rest-size-clause-bad c = (
  refl,
  λ front back parts.
      let le = long_enough c.args.bytes.now c.in_ok-size.field-0 c.word.new.self.rest.now front back c.in_ok-size.ensures.taken parts in
      let over = c.if-rest-size.true in
      absurd (omega arith),
)

pub returns-clause-found : goal.returns-clause-found
returns-clause-found c =
    let bytes = c.args.bytes.now in
    let size = c.in_ok-size.field-0 in
    let rest = c.word.new.self.rest.now in
    let le : size ≤ length rest = omega (arith, c.if-rest-size.false) in
    subst (λ (front : List ℕ). AreParts bytes front c.split_at.result.1.now) (sym c.split_at.ensures.front)
    (subst (λ (back : List ℕ). AreParts bytes (take size rest) back) (sym c.split_at.ensures.back)
    (parts_taken bytes size rest (λ i. omega (arith, c.type_inv.bytes i)) c.in_ok-size.ensures.taken le))
