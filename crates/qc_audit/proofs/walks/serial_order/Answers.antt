use Rattle.std.proofs.Common.{◌≡◌, ◌+◌, [], ◌∷◌, ◌++◌, drop, take, reverse, sym, ap, ◌∙◌, subst}
use Rattle.std.proofs.lemmas.List.{take_all}
use Rattle.qc_event.specs.declared.event.Entry.{Entry}
use Rattle.qc_event.specs.History.{Past}
use Rattle.qc_event.proofs.Histories.{parted, reverse-take_more}
use Rattle.qc_serial.specs.Walk.{walk}
use Rattle.qc_audit.specs.Walks.{AreWalks}
use Rattle.qc_audit.proofs.Walking.{root_walk}
use Rattle.qc_audit.proofs.walks.serial_order.Goals as goal

pub loop-entry-preserved : goal.loop-entry-preserved
loop-entry-preserved c =
    let trail = c.args.trail.now in
    let i = c.loop-entry.entry-index in
    let e = c.entry-item.result in
    let less = c.loop-entry-test.true in
    let known = c.args.known.now in
    let rest = reverse (drop (i + 1) trail) in
    let whole : reverse trail ≡ rest ++ e ∷ reverse (take i trail) = parted trail i e less ∙ ap (λ (x : Entry). rest ++ x ∷ reverse (take i trail)) (sym c.entry-item.is) in
    let next : reverse (take (i + 1) trail) ≡ e ∷ reverse (take i trail) = reverse-take_more trail i e less ∙ ap (λ (x : Entry). x ∷ reverse (take i trail)) (sym c.entry-item.is) in
    subst (λ (p : Past). AreWalks known.past p c.take_in.new.self.lists.items) (sym next)
    (c.in_ok-take_in.ensures rest (reverse (take i trail)) (c.requires.whole ∙ whole) c.requires.legal c.loop-entry.invariant)

pub returns : goal.returns
returns c =
    let trail = c.args.trail.now in
    let known = c.args.known.now in
    let lists = c.loop-entry.walks.lists.items in
    let all : reverse (take c.loop-entry.entry-index trail) ≡ known.past = ap reverse (take_all c.loop-entry.entry-index trail c.loop-entry-test.false) ∙ sym c.requires.whole in
    let done = root_walk known.setting known.past lists c.requires.legal (subst (λ (p : Past). AreWalks known.past p lists) all c.loop-entry.invariant) in
    let order : walk known.past [] ≡ walk (reverse trail) [] = ap (λ (p : Past). walk p []) c.requires.whole in
    cc
