-- A manager's requests stand phase by phase, each of the operation that the final collection gives; and its open
-- request is of the stage at which it is.
use Rattle.std.proofs.Common.{◌≡◌, ◌<◌, Bool, true, false, [], ◌∷◌, ◌++◌, length, refl, sym, ap, ◌∙◌, subst, inl, inr, ◌⊎◌, append-nil}
use Rattle.std.specs.Prelude.{Option, None, Some, is_some, MatchOption, if◌then◌else◌}
use Rattle.std.specs.Option.{option_or}
use Rattle.std.proofs.Math.Path.{fun_ext}
use Rattle.qc_config.specs.Config.{Voting}
use Rattle.qc_event.specs.declared.event.Answer.TheVariants as answer
use Rattle.qc_event.specs.declared.event.Ask.{Ask}
use Rattle.qc_event.specs.declared.event.Entry.{Entry}
use Rattle.qc_event.specs.declared.event.Event.{Event}
use Rattle.qc_event.specs.declared.event.Event.TheVariants as event
use Rattle.qc_event.specs.declared.event.How.TheVariants.{Commit}
use Rattle.qc_event.specs.declared.event.Kind.{Kind}
use Rattle.qc_event.specs.declared.event.Phase.TheVariants.{Collect}
use Rattle.qc_event.specs.Base.{Setting}
use Rattle.qc_event.specs.History.{Past, Name, Begun, Asked, start, end, asked, ask_in, asks, ask_below, is_child, same, end_in}
use Rattle.qc_event.specs.Standing.{IsManager, Started}
use Rattle.qc_event.specs.Manager.{Stage, stage, replied, first_for, AtStage}
use Rattle.qc_event.specs.Requests.{IsNextAsk}
use Rattle.qc_event.specs.Legal.{Legal}
use Rattle.qc_event.proofs.Absent.{same_is}
use Rattle.qc_event.proofs.OneEntry.{end_now, open_before}
use Rattle.qc_event.proofs.LastNumber.{child_front}
use Rattle.qc_event.proofs.Options.{some_match}
use Rattle.qc_event.proofs.SameEvents.{same_ask}
use Rattle.qc_serial.specs.Visible.{given_in, served}
use Rattle.qc_serial.proofs.OneAsked.{one_asked}
use Rattle.qc_refine.specs.Given.{in_phase, tuples_of}
use Rattle.qc_refine.proofs.Managers.KindsBelow.{HasKind, kind_before}
use Rattle.qc_refine.proofs.Managers.LastOpen.{Asks, asks_or_not, asks_more, asks_same, may_ask, ended_before, none_open}
use Rattle.qc_refine.proofs.Managers.Delivers.{Delivers, IsQuiet, ask_of, delivers_or_not}
use Rattle.qc_refine.proofs.Managers.ServedAsked.{served_more, served_same}
use Rattle.qc_refine.proofs.Managers.Gathered.{replies_served, replied_served}
use Rattle.qc_refine.proofs.Managers.Stages.{stage_by, finds}
use Rattle.qc_refine.proofs.Managers.Shapes.{marks_in, LeadsTo, ShapeAfter, shape_ask, shape_given}

-- a name asked just this
abbrev pub AskedAs : Past → Name → Ask → Type 0
AskedAs past n ask = MatchOption (asked past n) ⊥ (λ a. a.ask ≡ ask)

asked_as_some : (past : Past) (n : Name) (ask : Ask) → AskedAs past n ask → is_some (asked past n) ≡ true
asked_as_some past n ask h = some_match (asked past n) (λ a. a.ask ≡ ask) h

-- what a name asked it asked before, or asks now
asked_back : (e : Entry) (past : Past) (m n : Name) (ask : Ask) → is_child m n ≡ true → AskedAs (e ∷ past) n ask → AskedAs past n ask ⊎ ((e.event ≡ event.Ask ask) × (ask_below m e.event ≡ Some ask))
asked_back e past m n ask child h = by_old (asked past n) h
  where
    by_event : (ev : Event) → MatchOption (ask_in n e.seat ev) ⊥ (λ a. a.ask ≡ ask) → (ev ≡ event.Ask ask) × (ask_below m ev ≡ Some ask)
    by_event (event.Ask a) here = by_test (same a.access n) refl here
      where
        by_test : (b : Bool) → same a.access n ≡ b → MatchOption (if b then Some (record { seat = e.seat; ask = a }) else None) ⊥ (λ (x : Asked). x.ask ≡ ask) → (event.Ask a ≡ event.Ask ask) × ((if is_child m a.access then Some a else None) ≡ Some ask)
        by_test true at is = (ap (λ x. event.Ask x) is, ap (λ b. if b then Some a else None) (ap (is_child m) (same_is a.access n at) ∙ child) ∙ ap (λ x. Some x) is)
        by_test false at is = absurd is
    by_event _ here = absurd here

    by_old : (o : Option Asked) → MatchOption (option_or o (ask_in n e.seat e.event)) ⊥ (λ a. a.ask ≡ ask) → MatchOption o ⊥ (λ a. a.ask ≡ ask) ⊎ ((e.event ≡ event.Ask ask) × (ask_below m e.event ≡ Some ask))
    by_old None here = inr (by_event e.event here)
    by_old (Some a) here = inl here

-- the stage of a request
pub record OfStage (setting : Setting) (past : Past) (m : Name) (k : Kind) (ask : Ask) : Type 0 where
  pub at : Stage
  pub leads : LeadsTo (first_for setting k) k (served past m) at
  pub next : IsNextAsk past m k ask at

-- the stage of an open request
pub record IsPending (first : Voting) (past : Past) (m : Name) (k : Kind) (ask : Ask) : Type 0 where
  pub at : Stage
  pub leads : LeadsTo first k (served past m) at
  pub same_op : ask.op ≡ at.op

-- what a manager has on its way
pub record Going (setting : Setting) (past : Past) (m : Name) (k : Kind) : Type 0 where
  pub shape : ShapeAfter (first_for setting k) k (served past m) (asks past m)
  pub pending : (n : Name) (ask : Ask) → is_child m n ≡ true → AskedAs past n ask → end past n ≡ None → IsPending (first_for setting k) past m k ask

module _ (setting : Setting) (past : Past) (m : Name) (k : Kind) (legal : Legal setting past) (pos : 0 < length m) (has : HasKind past m k) (manager : IsManager k) where
  -- the stage by what was given
  pub stage_served : (first : Voting) → stage past first m k ≡ stage_by first k (tuples_of (in_phase Collect (served past m))) (marks_in (served past m))
  stage_served first =
      ap (λ ts. stage_by first k ts (replied past m)) (replies_served setting past m k legal pos has manager)
      ∙ ap (stage_by first k (tuples_of (in_phase Collect (served past m)))) (fun_ext (λ phase. replied_served setting past m k legal pos has manager phase))

module _ (setting : Setting) (past : Past) (e : Entry) (m : Name) (k : Kind) (legal : Legal setting (e ∷ past)) (pos : 0 < length m) (has : HasKind past m k) (manager : IsManager k) where
  -- a request is of the stage
  pub of_stage : (new : Asks m e.event) → OfStage setting past m k new.ask
  of_stage new = by_start (start past m) refl
      (subst (λ n. Started past n (λ b. AtStage setting past n b.kind (IsNextAsk past n b.kind new.ask))) (child_front m new.ask.access new.child) (may_ask setting past e new.ask legal new.is).of_stage)
    where
      by_stage : (o : Option Stage) → stage past (first_for setting k) m k ≡ o → MatchOption o ⊥ (IsNextAsk past m k new.ask) → OfStage setting past m k new.ask
      by_stage None is next = absurd next
      by_stage (Some s) is next = record {
        at = s;
        leads = finds (first_for setting k) (tuples_of (in_phase Collect (served past m))) (marks_in (served past m)) s k manager (sym (stage_served setting past m k legal.0 pos has manager (first_for setting k)) ∙ is);
        next = next;
      }

      by_start : (o : Option Begun) → start past m ≡ o → MatchOption o ⊥ (λ b. AtStage setting past m b.kind (IsNextAsk past m b.kind new.ask)) → OfStage setting past m k new.ask
      by_start None is at = absurd at
      by_start (Some b) is at = by_stage (stage past (first_for setting k) m k) refl (subst (λ x. AtStage setting past m x (IsNextAsk past m x new.ask)) (has b is) at)

  served_asking : Asks m e.event → served (e ∷ past) m ≡ served past m
  served_asking new = ap (λ ev. served past m ++ given_in (served past) m ev) new.is ∙ append-nil (served past m)

  going_asks : (new : Asks m e.event) → Going setting past m k → Going setting (e ∷ past) m k
  going_asks new going = record {
    shape = subst (λ gs. ShapeAfter (first_for setting k) k gs (asks (e ∷ past) m)) (sym (served_asking new))
        (subst (ShapeAfter (first_for setting k) k (served past m)) (sym (asks_more e past m new))
        (shape_ask (first_for setting k) k (served past m) (asks past m) of.at going.shape new.ask of.leads of.next.same_op));
    pending = λ n ask child asks_n open_n. elim (asked_back e past m n ask child asks_n) [
      | inl old ↦ absurd (none_open setting past m n legal.0 (ended_before setting past e m legal new) child (asked_as_some past n ask old) (open_before e past n open_n))
      | inr now ↦
          let is : new.ask ≡ ask = same_ask new.ask ask (sym new.is ∙ now.0) in
          record {
            at = of.at;
            leads = subst (λ gs. LeadsTo (first_for setting k) k gs of.at) (sym (served_asking new)) of.leads;
            same_op = ap (λ (a : Ask). a.op) (sym is) ∙ of.next.same_op;
          }
    ];
  }
    where
      of : OfStage setting past m k new.ask
      of = of_stage new

  -- no child asks now
  old_ask : ask_below m e.event ≡ None → (n : Name) (ask : Ask) → is_child m n ≡ true → AskedAs (e ∷ past) n ask → AskedAs past n ask
  old_ask none n ask child h = elim (asked_back e past m n ask child h) [
    | inl old ↦ old
    | inr now ↦ absurd (let differ = sym none ∙ now.1 in cc)
  ]

  going_delivers : ask_below m e.event ≡ None → (d : Delivers past m e.event) → Going setting past m k → Going setting (e ∷ past) m k
  going_delivers none d going =
      let p : IsPending (first_for setting k) past m k (ask_of d.g) = going.pending d.access (ask_of d.g) d.child d.asked_for d.going in
      record {
        shape = subst (λ gs. ShapeAfter (first_for setting k) k gs (asks (e ∷ past) m)) (sym (served_more setting past e m k legal pos has manager d))
            (subst (ShapeAfter (first_for setting k) k (served past m ++ d.g ∷ [])) (sym (asks_same e past m none))
            (shape_given (first_for setting k) k (served past m) (asks past m) p.at going.shape d.g p.leads p.same_op));
        pending = λ n ask child asks_n open_n.
            let old = old_ask none n ask child asks_n in
            let same : n ≡ d.access = one_asked setting past m n d.access legal.0 child d.child (asked_as_some past n ask old) (asked_as_some past d.access (ask_of d.g) d.asked_for) (open_before e past n open_n) d.going in
            absurd (let done = ended d in let going_on = sym (ap (end (e ∷ past)) same) ∙ open_n in cc);
      }
    where
      ended : (d : Delivers past m e.event) → end (e ∷ past) d.access ≡ Some (Commit (answer.Reply d.g.grant.tuple))
      ended d = ap (λ o. option_or o (end_in d.access e.event)) d.going ∙ end_now d.access e.event _ d.is

  going_quiet : ask_below m e.event ≡ None → IsQuiet past m e.event → Going setting past m k → Going setting (e ∷ past) m k
  going_quiet none quiet going =
      let still = served_same setting past e m k legal pos has manager quiet in
      record {
        shape = subst (λ gs. ShapeAfter (first_for setting k) k gs (asks (e ∷ past) m)) (sym still) (subst (ShapeAfter (first_for setting k) k (served past m)) (sym (asks_same e past m none)) going.shape);
        pending = λ n ask child asks_n open_n.
            let p = going.pending n ask child (old_ask none n ask child asks_n) (open_before e past n open_n) in
            record { at = p.at; leads = subst (λ gs. LeadsTo (first_for setting k) k gs p.at) (sym still) p.leads; same_op = p.same_op };
      }

  going_more : Going setting past m k → Going setting (e ∷ past) m k
  going_more going = elim (asks_or_not m e.event) [
    | inl new ↦ going_asks new going
    | inr none ↦ elim (delivers_or_not setting past e m k legal pos has manager) [
      | inl d ↦ going_delivers none d going
      | inr quiet ↦ going_quiet none quiet going
    ]
  ]

pub going : (setting : Setting) (past : Past) (m : Name) (k : Kind) → Legal setting past → 0 < length m → HasKind past m k → IsManager k → Going setting past m k
going setting [] m k legal pos has manager = record {
  shape = record { gets = []; puts = []; configs = []; parts = refl; all_gets = tt; all_puts = tt; all_configs = tt; enough = inl refl; written = inl refl; only_puts = inl refl; only_moves = inl refl };
  pending = λ n ask child asks_n open_n. absurd asks_n;
}
going setting (e ∷ past) m k legal pos has manager =
    let had = kind_before e past m k has in
    going_more setting past e m k legal pos had manager (going setting past m k legal.0 pos had manager)
