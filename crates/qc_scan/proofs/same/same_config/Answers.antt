use Rattle.std.proofs.Common.{◌≡◌, length, refl, arith}
use Rattle.std.proofs.lemmas.List.{ext_get_or}
use Rattle.qc_config.specs.Config.{Voting}
use Rattle.qc_scan.proofs.same.same_config.Goals as goal

same_parts : (a b : Voting) → a.votes ≡ b.votes → a.read ≡ b.read → a.write ≡ b.write → a ≡ b
same_parts a b votes read write = λ i. record { votes = votes i; read = read i; write = write i }

pub returns : goal.returns
returns c =
    let a = c.args.a.now in
    let b = c.args.b.now in
    let long : length a.votes ≡ length b.votes = omega (arith, c.count.ensures.count, c.count-2.ensures.count) in
    let read : a.read ≡ b.read = omega arith in
    let write : a.write ≡ b.write = omega arith in
    (λ _. same_parts a b (ext_get_or 0 a.votes b.votes long (λ j lt. c.loop-c.invariant j (omega arith))) read write, λ _. refl)
