-- What a step came to, by what the call came to that did it, for the client as it is then.
use Rattle.std.proofs.Common.{◌≡◌, sym, subst}
use Rattle.std.specs.Prelude.{Bool, Option, Result, IfOk, IfErr}
use Rattle.qc_event.specs.History.{Past, Name}
use Rattle.qc_script.specs.Client.{Client}
use Rattle.qc_script.specs.Plan.{Plan}
use Rattle.qc_interp.specs.Running.{CutOff, HasActed, Stepped}
use Rattle.qc_interp.proofs.Stepping.Marking.{acted_by}
use Rattle.qc_interp.proofs.Stepping.Results.{if_ok, if_err}

module _ {E : Type 0} {c d : Client} {front step : Plan → Plan} (of : Name) (before now : Past) (r : Result (Option Bool) E) (same : d ≡ c) (is : step ≡ front) where
  pub cut_so : IfErr r (λ _. (rest : Plan) → CutOff c of before now (front rest)) → IfErr r (λ _. (rest : Plan) → CutOff d of before now (step rest))
  cut_so h =
      subst (λ x. IfErr r (λ _. (rest : Plan) → CutOff x of before now (step rest))) (sym same)
      (if_err ((rest : Plan) → CutOff c of before now (front rest)) ((rest : Plan) → CutOff c of before now (step rest)) r (λ all rest. subst (λ f. CutOff c of before now (f rest)) (sym is) (all rest)) h)

  pub acted_so : IfOk r (Stepped c of before now front) → IfErr r (λ _. (rest : Plan) → CutOff c of before now (front rest)) → IfOk r (HasActed d of before now step) × IfErr r (λ _. (rest : Plan) → CutOff d of before now (step rest))
  acted_so ok cut = (
    subst (λ x. IfOk r (HasActed x of before now step)) (sym same)
        (if_ok (Stepped c of before now front) (HasActed c of before now step) r (λ a one. acted_by c of before now step a (subst (λ f. Stepped c of before now f a) (sym is) one)) ok),
    cut_so cut,
  )
