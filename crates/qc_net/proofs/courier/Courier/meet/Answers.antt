-- Whatever its fate, what was held stays, and the deliveries are those of the definition.
use Rattle.std.proofs.Common.{inl}
use Rattle.qc_net.proofs.Left.{left-same, left-err}
use Rattle.qc_net.proofs.Steps.{made-one, made-two}
use Rattle.qc_net.proofs.Sendings.{met-deliver, met-lose_reply, met-twice}
use Rattle.qc_net.proofs.courier.Courier.meet.Goals as goal

pub returns-in_err-deliver-in-Deliver-clause-held : goal.returns-in_err-deliver-in-Deliver-clause-held
returns-in_err-deliver-in-Deliver-clause-held g c = left-err _ _ _ _ _ _ c.from_residual.ensures.1 (inl (left-same _ c.args.self.now.held.items))

pub returns-in_err-deliver-in-LoseReply-clause-held : goal.returns-in_err-deliver-in-LoseReply-clause-held
returns-in_err-deliver-in-LoseReply-clause-held g c = left-err _ _ _ _ _ _ c.from_residual-in_err-deliver-in-LoseReply.ensures.1 (inl (left-same _ c.args.self.now.held.items))

pub returns-in_err-deliver_twice-in-Twice-clause-held : goal.returns-in_err-deliver_twice-in-Twice-clause-held
returns-in_err-deliver_twice-in-Twice-clause-held g c = left-err _ _ _ _ _ _ c.from_residual-in_err-deliver_twice-in-Twice.ensures.1 (inl (left-same _ c.args.self.now.held.items))

pub returns-in_ok-deliver-in-Deliver-clause-held : goal.returns-in_ok-deliver-in-Deliver-clause-held
returns-in_ok-deliver-in-Deliver-clause-held g c = left-same _ c.args.self.now.held.items

pub returns-in-LoseAsk-clause-held : goal.returns-in-LoseAsk-clause-held
returns-in-LoseAsk-clause-held g c = left-same _ c.args.self.now.held.items

pub returns-in_ok-deliver-in-LoseReply-clause-held : goal.returns-in_ok-deliver-in-LoseReply-clause-held
returns-in_ok-deliver-in-LoseReply-clause-held g c = left-same _ c.args.self.now.held.items

pub returns-in_ok-deliver_twice-in-Twice-clause-held : goal.returns-in_ok-deliver_twice-in-Twice-clause-held
returns-in_ok-deliver_twice-in-Twice-clause-held g c = left-same _ c.args.self.now.held.items

pub returns-in_ok-deliver-in-Deliver-clause-told : goal.returns-in_ok-deliver-in-Deliver-clause-told
returns-in_ok-deliver-in-Deliver-clause-told g c =
    let arm = c.in_ok-deliver-in-Deliver in
    rw (c.in-Deliver.is) (met-deliver (g.P.Port.view c.deliver.new.self).gave (g.L.Link.view c.args.self.now.link).plan c.args.self.now.held.items _ _ c.args.ask.now arm.field-0 c.args.patience (made-one _ _ _ c.args.ask.now arm.field-0 arm.ensures.answered arm.ensures.told))

pub returns-in_ok-deliver-in-LoseReply-clause-told : goal.returns-in_ok-deliver-in-LoseReply-clause-told
returns-in_ok-deliver-in-LoseReply-clause-told g c =
    let arm = c.in_ok-deliver-in-LoseReply in
    rw (c.in-LoseReply.is) (met-lose_reply (g.P.Port.view c.deliver-in-LoseReply.new.self).gave (g.L.Link.view c.args.self.now.link).plan c.args.self.now.held.items _ _ c.args.ask.now arm.field-0 c.args.patience (made-one _ _ _ c.args.ask.now arm.field-0 arm.ensures.answered arm.ensures.told))

pub returns-in_ok-deliver_twice-in-Twice-clause-told : goal.returns-in_ok-deliver_twice-in-Twice-clause-told
returns-in_ok-deliver_twice-in-Twice-clause-told g c =
    let arm = c.in_ok-deliver_twice-in-Twice in
    let told = arm.ensures.told in
    rw (c.in-Twice.is)
    (met-twice (g.P.Port.view c.deliver_twice.new.port).gave (g.L.Link.view c.args.self.now.link).plan c.args.self.now.held.items _ _ c.args.ask.now arm.field-0 told.0 c.args.patience
    (made-two _ _ _ c.args.ask.now arm.field-0 told.0 arm.ensures.answered told.1 told.2))
