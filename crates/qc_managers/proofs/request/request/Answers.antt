-- An access that was carried, or not, as its manager sees it.
use Rattle.std.proofs.Common.{◌≡◌, ◌+◌, length, refl}
use Rattle.qc_event.specs.Counts.{Rose}
use Rattle.qc_event.specs.History.{children}
use Rattle.qc_event.proofs.LastNumber.{is_child-last}
use Rattle.qc_managers.specs.Carrying.{carriage, became}
use Rattle.qc_managers.proofs.Causes.{cause_of_request}
use Rattle.qc_managers.proofs.Served.{served_once}
use Rattle.qc_managers.proofs.Undisturbed.{shortage_of}
use Rattle.qc_managers.proofs.Hearing.{heard_of, refused_of, made_carried, made_not_carried}
use Rattle.std.proofs.lemmas.Result.{err_from_is_err_and}
use Rattle.qc_managers.proofs.request.request.Goals as goal

pub returns-clause-served : goal.returns-clause-served
returns-clause-served g c =
    let m = c.args.manager.now in
    let carrier = g.C.Carrier in
    let before = c.args.carrier.now in
    let now = c.carry.new.self in
    let way = carriage (carrier.view before).seat (carrier.view before).seen (carrier.view now).seen m c.args.copy c.args.rec c.args.op in
    let child = is_child-last m (length (children (carrier.view before).seen m) + 1) in
    served_once m _ _ way.ask.access child c.carry.ensures.setting c.carry.ensures.seat c.carry.ensures.others c.carry.ensures.grown (made_carried m way (became c.in_ok-carry.field-0) child c.in_ok-carry.ensures.carried) c.carry.ensures.later

pub returns-in_err-carry-clause-served : goal.returns-in_err-carry-clause-served
returns-in_err-carry-clause-served g c =
    let m = c.args.manager.now in
    let carrier = g.C.Carrier in
    let before = c.args.carrier.now in
    let now = c.carry.new.self in
    let way = carriage (carrier.view before).seat (carrier.view before).seen (carrier.view now).seen m c.args.copy c.args.rec c.args.op in
    let child = is_child-last m (length (children (carrier.view before).seen m) + 1) in
    served_once m _ _ way.ask.access child c.carry.ensures.setting c.carry.ensures.seat c.carry.ensures.others c.carry.ensures.grown (made_not_carried m way c.in_err-carry.field-0.0 child c.in_err-carry.ensures.refused) c.carry.ensures.later

pub returns-clause-heard : goal.returns-clause-heard
returns-clause-heard g c =
    let m = c.args.manager.now in
    let carrier = g.C.Carrier in
    let before = c.args.carrier.now in
    let now = c.carry.new.self in
    let way = carriage (carrier.view before).seat (carrier.view before).seen (carrier.view now).seen m c.args.copy c.args.rec c.args.op in
    heard_of (carrier.view before).others (λ n. n ≡ way.ask.access) (carrier.view before).seat m g.kind way (became c.in_ok-carry.field-0) (record { grown = c.carry.ensures.grown; running = c.requires.1.0.running; each_told = c.requires.1.0.each_told; its = refl }) c.in_ok-carry.ensures.carried

pub returns-in_err-carry-clause-refused : goal.returns-in_err-carry-clause-refused
returns-in_err-carry-clause-refused g c =
    let m = c.args.manager.now in
    let carrier = g.C.Carrier in
    let before = c.args.carrier.now in
    let now = c.carry.new.self in
    let way = carriage (carrier.view before).seat (carrier.view before).seen (carrier.view now).seen m c.args.copy c.args.rec c.args.op in
    let p = err_from_is_err_and c.from_residual.result c.from_residual.ensures.1 in
    rw (p.1, p.2) (refused_of (carrier.view before).setting (carrier.view before).others (λ n. n ≡ way.ask.access) (carrier.view before).seat m g.kind way c.in_err-carry.field-0.0 (record { grown = c.carry.ensures.grown; running = c.requires.1.0.running; each_told = c.requires.1.0.each_told; its = refl }) c.in_err-carry.ensures.refused)

pub returns-clause-cause : goal.returns-clause-cause
returns-clause-cause g c =
    let m = c.args.manager.now in
    let carrier = g.C.Carrier in
    let before = c.args.carrier.now in
    let now = c.carry.new.self in
    let way = carriage (carrier.view before).seat (carrier.view before).seen (carrier.view now).seen m c.args.copy c.args.rec c.args.op in
    cause_of_request way m (Rose (carrier.view before).troubles (carrier.view now).troubles) c.in_ok-carry.field-0 refl c.in_ok-carry.ensures.carried c.in_ok-carry.ensures.reason

pub returns-in_err-carry-clause-complete : goal.returns-in_err-carry-clause-complete
returns-in_err-carry-clause-complete g c =
    let m = c.args.manager.now in
    let carrier = g.C.Carrier in
    let before = c.args.carrier.now in
    let now = c.carry.new.self in
    let way = carriage (carrier.view before).seat (carrier.view before).seen (carrier.view now).seen m c.args.copy c.args.rec c.args.op in
    let p = err_from_is_err_and c.from_residual.result c.from_residual.ensures.1 in
    rw (p.1, p.2) (shortage_of (carrier.view before).setting way m g.kind (carrier.view before).troubles (carrier.view now).troubles c.in_err-carry.field-0.0 refl c.in_err-carry.ensures.refused)
