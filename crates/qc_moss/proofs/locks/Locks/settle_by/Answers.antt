use Rattle.std.proofs.Common.{◌≡◌, ◌<◌, ℕ, List, Vec, Global, [], length, get_or-set_other, get_or, sym, ap, ◌∙◌, subst, arith, All}
use Rattle.std.specs.Prelude.{slice_set}
use Rattle.std.proofs.lemmas.List.{map-set, get_or-map, get_or_default, length-map, get_or-set_same}
use Rattle.qc_event.specs.Base.{no_tuple}
use Rattle.qc_moss.specs.Locks.{Table, lists, start_of, base_of, holders_of, unfolded, folded_into, is_short, is_first_root}
use Rattle.qc_moss.specs.Follows.{TableFollows, AreFolded, Becomes, HoldsStill}
use Rattle.qc_moss.specs.declared.holder.Holder.{Holder}
use Rattle.qc_moss.proofs.Lists.{list_of}
use Rattle.qc_moss.proofs.Shortness.{unfolded_short, none_at_root}
use Rattle.qc_moss.proofs.Tables.{settles, settled_record, still_unfolded}
use Rattle.qc_moss.proofs.locks.Locks.settle_by.Goals as goal

pub returns-clause-follows : goal.returns-clause-follows
returns-clause-follows g c = λ past given tells follows.
    let inside = c.self.inside in
    let rec_ = c.args.rec in
    let view : Table = record { start = inside.start.items; base = inside.base.items; held = lists inside.held.items; reserved = inside.reserved } in
    let short : rec_ < length inside.start.items = subst (λ (t : Table). rec_ < length t.start) (sym c.self.view_is) c.requires in
    let in_base : rec_ < length view.base = omega (arith, short, c.self.invariant.same_base, inside.base.ok, inside.start.ok) in
    let in_held : rec_ < length inside.held.items = omega (arith, short, c.self.invariant.same_length, inside.held.ok, inside.start.ok) in
    let mid = c.settle_list.new.held.items in
    let old : holders_of view rec_ ≡ c.index_mut-list.result.now.items = get_or-map list_of inside.held.items rec_ c.index_mut-list.result.now [] in_held ∙ ap list_of (sym c.index_mut-list.ensures.value) in
    let base : base_of view rec_ ≡ c.index_mut.result.now = get_or_default inside.base.items rec_ no_tuple c.index_mut.result.now in_base ∙ sym c.index_mut.ensures.value in
    let written = settles past given view rec_ c.fold_first.new.base c.fold_first.new.held.items in_base (subst (λ n. rec_ < n) (sym (length-map inside.held.items list_of)) in_held)
    (λ gs are. subst (λ b. AreFolded past gs (start_of view rec_) b c.fold_first.new.held.items) (sym (c.fold_first.ensures.base ∙ ap (λ t. folded_into t mid) (sym base)))
    (subst (λ h. AreFolded past gs (start_of view rec_) (folded_into (base_of view rec_) mid) h) (sym c.fold_first.ensures.rest)
    (settled_record past gs (start_of view rec_) (base_of view rec_) (holders_of view rec_) mid (subst (λ xs. Becomes past xs mid) (sym old) (c.settle_list.ensures.becomes past tells)) are)))
    (subst (TableFollows past given) (sym c.self.view_is) follows) in
    subst (λ held. TableFollows past given (let t : Table = record { start = inside.start.items; base = slice_set inside.base.items rec_ c.fold_first.new.base; held = held; reserved = inside.reserved } in t))
    (sym (map-set list_of inside.held.items rec_ c.fold_first.new.held)) written

held_now : (all : List (Vec Holder Global)) (rec : ℕ) (list : Vec Holder Global) → rec < length all → get_or (lists (slice_set all rec list)) rec [] ≡ list.items
held_now all rec list within =
    ap (λ hs. get_or hs rec []) (map-set list_of all rec list)
    ∙ get_or-set_same (lists all) rec list.items [] (subst (λ n. rec < n) (sym (length-map all list_of)) within)

pub returns-clause-settled : goal.returns-clause-settled
returns-clause-settled g c = λ past tells.
    let inside = c.self.inside in
    let rec_ = c.args.rec in
    let short : rec_ < length inside.start.items = subst (λ (t : Table). rec_ < length t.start) (sym c.self.view_is) c.requires in
    let in_held : rec_ < length inside.held.items = omega (arith, short, c.self.invariant.same_length, inside.held.ok, inside.start.ok) in
    let held : get_or (lists (slice_set inside.held.items rec_ c.fold_first.new.held)) rec_ [] ≡ unfolded c.settle_list.new.held.items =
    held_now inside.held.items rec_ c.fold_first.new.held in_held ∙ c.fold_first.ensures.rest in
    subst (All (HoldsStill past)) (sym held) (still_unfolded past c.settle_list.new.held.items (c.settle_list.ensures.settled past tells))

pub returns-clause-short : goal.returns-clause-short
returns-clause-short g c =
    let inside = c.self.inside in
    let rec_ = c.args.rec in
    let short : rec_ < length inside.start.items = subst (λ (t : Table). rec_ < length t.start) (sym c.self.view_is) c.requires in
    let in_held : rec_ < length inside.held.items = omega (arith, short, c.self.invariant.same_length, inside.held.ok, inside.start.ok) in
    ap is_short (held_now inside.held.items rec_ c.fold_first.new.held in_held ∙ c.fold_first.ensures.rest) ∙ unfolded_short c.settle_list.new.held.items c.settle_list.ensures.short

pub returns-clause-folded : goal.returns-clause-folded
returns-clause-folded g c =
    let inside = c.self.inside in
    let rec_ = c.args.rec in
    let short : rec_ < length inside.start.items = subst (λ (t : Table). rec_ < length t.start) (sym c.self.view_is) c.requires in
    let in_held : rec_ < length inside.held.items = omega (arith, short, c.self.invariant.same_length, inside.held.ok, inside.start.ok) in
    ap is_first_root (held_now inside.held.items rec_ c.fold_first.new.held in_held ∙ c.fold_first.ensures.rest) ∙ none_at_root c.settle_list.new.held.items c.settle_list.ensures.short

pub returns-clause-others : goal.returns-clause-others
returns-clause-others g c = λ other apart.
    let inside = c.self.inside in
    let rec_ = c.args.rec in
    record {
      same_holders = ap (λ hs. get_or hs other []) (map-set list_of inside.held.items rec_ c.fold_first.new.held)
          ∙ get_or-set_other (lists inside.held.items) rec_ other c.fold_first.new.held.items [] apart
          ∙ ap (λ (t : Table). holders_of t other) c.self.view_is;
      same_base = get_or-set_other inside.base.items rec_ other c.fold_first.new.base no_tuple apart
          ∙ ap (λ (t : Table). base_of t other) c.self.view_is;
    }
