-- What a session's client leaves, as its tops ran.
use Rattle.std.proofs.Common.{rules, ◌≡◌, List, Some, sym, ap, ◌∙◌, arith, map, OnOk, IfErr, subst}
use Rattle.qc_event.specs.Base.{Setting}
use Rattle.qc_event.specs.Tables.{setting_of}
use Rattle.qc_interp.specs.Session.{CutTops, EndsTops}
use Rattle.qc_net.specs.Courier.{link_of}
use Rattle.qc_net.specs.declared.courier.Courier.{Courier}
use Rattle.qc_net.specs.declared.plan.PlanLink.{PlanLink}
use Rattle.qc_net.specs.Plan.{starting}
use Rattle.qc_net.specs.PlanLink.{plan_of}
use Rattle.qc_desk.specs.declared.view.View.{View}
use Rattle.qc_desk.proofs.Known.{known_again}
use Rattle.qc_script.specs.Client.{Client}
use Rattle.qc_script.specs.declared.script.Body.{Body}
use Rattle.qc_script.specs.Plan.{SessionPlan}
use Rattle.qc_script.specs.Steps.{numbered, plan_of_session}
use Rattle.qc_session.specs.Clients.{client_for, client_of, link_told}
use Rattle.qc_session.specs.Session.{AreHigh, RanOne}
use Rattle.qc_desk.specs.Rules.{numbers}
use Rattle.qc_session.specs.Tidy.{AreTidy}
use Rattle.qc_session.proofs.AtStart.{client_is}
use Rattle.qc_session.proofs.Leaving.{meets_at_start, none_ran, one_ran}
use Rattle.qc_session.proofs.stage.run_client.Given.{Over}
use Rattle.qc_session.proofs.stage.run_client.Goals as goal

pub returns-in-Err : goal.returns-in-Err
returns-in-Err g c =
    none_ran (setting_of g.N.Store.table g.N.Store.base) c.args.system.now.desk.epoch c.args.script.now.patience c.args.number (plan_of_session c.args.session.now) c.args.pass c.requires.new c.requires.known

pub new-requires : goal.new-requires
new-requires g c = let held = c.requires.fits.some_hold in omega (arith, held)

pub run_tops-ran-requires-clause-met : goal.run_tops-ran-requires-clause-met
run_tops-ran-requires-clause-met g c κs within =
    let setting = setting_of g.N.Store.table g.N.Store.base in
    let inside = c.new-gated.ensures.inside in
    let client = c.new-gated.result.tx in
    let line = ap (λ k. k.line) inside ∙ c.new-client.ensures.line in
    let told = plan_of (link_of client.line.courier) in
    let same_pass : client.line.pass ≡ c.args.pass = ap (λ l. l.pass) line ∙ c.new-line.ensures.pass in
    let same_plan : told ≡ starting c.in-Ok.fates.items c.args.session.now.hold =
    ap (λ l. plan_of (link_of l.courier)) line ∙ ap (λ (k : Courier PlanLink). plan_of (link_of k)) c.new-line.ensures.courier ∙ ap plan_of c.new-courier.ensures.link ∙ c.new.ensures.plan in
    let epoch = ap (λ l. l.system.now.desk.epoch) line ∙ ap (λ s. s.desk.epoch) c.new-line.ensures.system in
    let patience = ap (λ l. l.patience) line ∙ c.new-line.ensures.patience in
    meets_at_start setting c.args.system.now.desk.epoch c.args.script.now.patience c.args.number (plan_of_session c.args.session.now) c.args.pass c.requires.new _ client.line.pass.seen
    (client_is setting client.root client.session c.args.number client.line.system.now.desk.epoch c.args.system.now.desk.epoch client.line.patience c.args.script.now.patience c.args.session.now.hold told c.in-Ok.fates.items c.args.session.now.fates.items client.line.pass c.args.pass
    (ap (λ k. k.root) inside ∙ c.new-client.ensures.root) (ap (λ k. k.session) inside ∙ c.new-client.ensures.session) epoch same_plan c.in-Ok.ensures patience same_pass)
    (ap (λ (v : View). v.seen) same_pass)

module _ (g : Over) (c : goal.After-into_pass g) where
  abbrev setting : Setting
  setting = setting_of g.N.Store.table g.N.Store.base

  abbrev plan : SessionPlan
  plan = plan_of_session c.args.session.now

  line_is : c.new-gated.result.tx.line ≡ c.new-line.result
  line_is = ap (λ k. k.line) c.new-gated.ensures.inside ∙ c.new-client.ensures.line

  same_pass : c.new-gated.result.tx.line.pass ≡ c.args.pass
  same_pass = ap (λ l. l.pass) line_is ∙ c.new-line.ensures.pass

  same_epoch : c.new-gated.result.tx.line.system.now.desk.epoch ≡ c.args.system.now.desk.epoch
  same_epoch = ap (λ l. l.system.now.desk.epoch) line_is ∙ ap (λ s. s.desk.epoch) c.new-line.ensures.system

  same_patience : c.new-gated.result.tx.line.patience ≡ c.args.script.now.patience
  same_patience = ap (λ l. l.patience) line_is ∙ c.new-line.ensures.patience

  same_plan : plan_of (link_of c.new-gated.result.tx.line.courier) ≡ starting c.in-Ok.fates.items c.args.session.now.hold
  same_plan =
      ap (λ l. plan_of (link_of l.courier)) line_is
      ∙ ap (λ (k : Courier PlanLink). plan_of (link_of k)) c.new-line.ensures.courier
      ∙ ap plan_of c.new-courier.ensures.link
      ∙ c.new.ensures.plan

  abbrev asked : Client
  asked = client_of setting c.new-gated.result.tx.root c.new-gated.result.tx.session c.new-gated.result.tx.line.system.now.desk.epoch (link_told (Some (plan_of (link_of c.new-gated.result.tx.line.courier))) c.new-gated.result.tx.line.patience) c.new-gated.result.tx.line.pass

  abbrev wanted : Client
  wanted = client_for setting c.args.system.now.desk.epoch c.args.script.now.patience c.args.number plan c.args.pass

  same_client : asked ≡ wanted
  same_client = client_is setting c.new-gated.result.tx.root c.new-gated.result.tx.session c.args.number c.new-gated.result.tx.line.system.now.desk.epoch c.args.system.now.desk.epoch c.new-gated.result.tx.line.patience c.args.script.now.patience c.args.session.now.hold (plan_of (link_of c.new-gated.result.tx.line.courier)) c.in-Ok.fates.items c.args.session.now.fates.items c.new-gated.result.tx.line.pass c.args.pass
      (ap (λ k. k.root) c.new-gated.ensures.inside ∙ c.new-client.ensures.root) (ap (λ k. k.session) c.new-gated.ensures.inside ∙ c.new-client.ensures.session) same_epoch same_plan c.in-Ok.ensures same_patience same_pass

pub returns : goal.returns
returns g c =
    let tx = c.run_tops-ran.new.tx.tx in
    let given : c.into_pass.result ≡ tx.line.pass = c.into_pass.ensures.pass ∙ ap (λ k. k.line.pass) c.into_inner.ensures.inside in
    let ran = client_of (setting g c) tx.root tx.session tx.line.system.now.desk.epoch (link_told (Some (plan_of (link_of tx.line.courier))) tx.line.patience) tx.line.pass in
    let before = c.new-gated.result.tx.line.pass.seen in
    let back = tx.line.pass in
    subst (RanOne (setting g c) c.args.system.now.desk.epoch c.args.script.now.patience c.args.number (plan g c) c.args.pass c.run_tops-ran.result) (sym given)
    (one_ran (setting g c) c.args.system.now.desk.epoch c.args.script.now.patience c.args.number (plan g c) c.args.pass c.requires.new (asked g c) before (same_client g c) (ap (λ (v : View). v.seen) (same_pass g c))
    tx.root tx.session tx.line.system.now.desk.epoch (link_told (Some (plan_of (link_of tx.line.courier))) tx.line.patience) back c.run_tops-ran.ensures.joined
    tx.line.client.0
    (subst (λ (v : View). AreHigh (numbers v)) given c.into_pass.ensures.high)
    (subst (λ (v : View). ∥ AreTidy (numbers v) v.seen ∥₁) given c.into_pass.ensures.tidy)
    c.run_tops-ran.ensures.met c.run_tops-ran.result
    (subst (λ (bodies : List Body). OnOk c.run_tops-ran.result (EndsTops ran before back.seen (map numbered bodies))) c.as_slice.ensures.value c.run_tops-ran.ensures.ok)
    c.run_tops-ran.ensures.turns
    (subst (λ (bodies : List Body). IfErr c.run_tops-ran.result (λ _. CutTops ran before back.seen (map numbered bodies))) c.as_slice.ensures.value c.run_tops-ran.ensures.cut)
    (search rules)
    (known_again (setting g c) tx.line.pass tx.line.known))
