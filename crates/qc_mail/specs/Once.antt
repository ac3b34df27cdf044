-- That an answer rests on something is shown in one way at most.
use Rattle.std.proofs.Common.{ℕ}
use Rattle.std.proofs.Props.{props}
use Rattle.std.specs.Coded.{Coded, Coded-set, codes}
use Rattle.std.specs.Prelude.{Result, Ok, Err, IfOk, Option}
use Rattle.qc_event.specs.declared.event.Answered.{Answered}
use Rattle.qc_event.specs.declared.event.Answered.TheVariants as answer
use Rattle.qc_event.specs.declared.event.Ask.{Ask}
use Rattle.qc_event.specs.declared.short.Short.{Short}
use Rattle.qc_event.specs.History.{Past, Given}
use Rattle.qc_mail.specs.Serving.{HasAnswered}

given_coded : Coded (Option Given)
given_coded = hlevel codes

pub once : (copy : ℕ) (past : Past) (ask : Ask) (r : Result Answered Short) → IsProp (IfOk r (HasAnswered copy past ask))
once copy past ask (Ok (answer.Granted tuple)) = Coded-set given_coded _ _
once copy past ask (Ok (answer.Blocked holder)) = hlevel
once copy past ask (Ok (answer.Dead ancestor)) = hlevel
once copy past ask (Ok answer.Down) = hlevel props
once copy past ask (Ok answer.Full) = hlevel props
once copy past ask (Ok answer.Strange) = hlevel props
once copy past ask (Err short) = hlevel
