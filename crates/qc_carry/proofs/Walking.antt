-- How a pass goes on, from what each call says of it.
use Rattle.std.proofs.Common.{◌≡◌, ℕ, ◌==◌, Bool, true, cond, [], ◌∷◌, ◌++◌, refl, sym, ap, ◌∙◌, subst, append_assoc, eqb-true, eq-eqb}
use Rattle.std.specs.Prelude.{◌<◌, ◌≤◌, Option}
use Rattle.std.proofs.lemmas.Bool.{false_from_ne_true}
use Rattle.qc_event.specs.declared.event.Event.{Event}
use Rattle.qc_event.specs.History.{Past}
use Rattle.qc_managers.specs.Carrying.{made_by, entry}
use Rattle.qc_desk.specs.declared.refusal.DeskNo.{DeskNo}
use Rattle.qc_desk.specs.declared.view.View.{View}
use Rattle.qc_desk.specs.Calling.{Looked, Entered, EnteredAs, Shown, SeesMore}
use Rattle.qc_desk.specs.Entries.{AreOthers, IsSince, entries_of}
use Rattle.qc_desk.specs.Rules.{IsClient, knows, extends}
use Rattle.qc_desk.proofs.Lists.{entries_append}
use Rattle.qc_desk.proofs.Since as since
use Rattle.qc_carry.specs.Walk.{Walk}

pub none_own : (seat : ℕ) (xs : Past) → AreOthers seat xs → made_by seat xs ≡ []
none_own seat [] all = refl
none_own seat (e ∷ xs) all = ap (λ (b : Bool). cond b (e ∷ made_by seat xs) (made_by seat xs)) (false_from_ne_true (e.seat == seat) (λ is. all.0 (eqb-true e.seat seat is))) ∙ none_own seat xs all.1

-- a pass of a client stays one
pub still_client : (v w : View) (made : Past) → Walk v w made → IsClient v → IsClient w
still_client v w made walk client = (walk.live ∙ client.0, subst (λ n. 1 ≤ n → 17 < n) (sym walk.number) client.1)

pub nothing : (v : View) → Walk v v []
nothing v = record { newer = []; grown = refl; own = refl; number = refl; live = refl; out = refl; kin = refl }

-- it has seen what others entered
knew : (v w : View) (seen : Past) → IsSince v.number v.seen seen → w ≡ knows seen v → Walk v w []
knew v w seen s is = record {
  newer = s.0;
  grown = ap (λ (x : View). x.seen) is ∙ s.1;
  own = none_own v.number s.0 s.2;
  number = ap (λ (x : View). x.number) is;
  live = ap (λ (x : View). x.live) is;
  out = ap (λ (x : View). x.out) is;
  kin = ap (λ (x : View). x.kin) is;
}

pub of_looked : (v w : View) → Looked v w → Walk v w []
of_looked v w l = knew v w w.seen l.0 l.1

pub of_shown : (v w : View) → IsClient v → Shown v w → Walk v w []
of_shown v w client s = knew v w w.seen (s.2 client.0) s.1

-- its own entries are as they were, so what is new is of others
pub of_seen : (v w : View) → IsClient v → (v.live ≡ true → v.mine ≡ entries_of v.number v.seen) → (w.live ≡ true → w.mine ≡ entries_of w.number w.seen) → SeesMore v w → Walk v w []
of_seen v w client before now s =
    let same : entries_of v.number w.seen ≡ entries_of v.number v.seen =
    ap (λ n. entries_of n w.seen) (sym s.number) ∙ sym (now (s.live ∙ client.0)) ∙ s.mine ∙ before client.0 in
    let newer = since.since v.number v.seen w.seen s.older same in
    record { newer = newer.0; grown = newer.1; own = none_own v.number newer.0 newer.2; number = s.number; live = s.live; out = s.out; kin = s.kin }

extended : (ev : Event) (before : Past) (v w : View) → IsSince v.number v.seen before → w ≡ extends (entry v.number ev) before v → Walk v w (entry v.number ev ∷ [])
extended ev before v w s is = record {
  newer = entry v.number ev ∷ s.0;
  grown = ap (λ (x : View). x.seen) is ∙ ap (λ p. entry v.number ev ∷ p) s.1;
  own = ap (λ (b : Bool). cond b (entry v.number ev ∷ made_by v.number s.0) (made_by v.number s.0)) (eq-eqb v.number v.number refl) ∙ ap (λ p. entry v.number ev ∷ p) (none_own v.number s.0 s.2);
  number = ap (λ (x : View). x.number) is;
  live = ap (λ (x : View). x.live) is;
  out = ap (λ (x : View). x.out) is;
  kin = ap (λ (x : View). x.kin) is;
}

pub of_entered : (against : Past → Option DeskNo) (ev : Event) (v w : View) → Entered against ev v w → Walk v w (entry v.number ev ∷ [])
of_entered against ev v w e = extended ev e.0 v w e.1 e.3

pub of_entered_as : (against : Past → Option DeskNo) (IsIt : Past → Event → Type 0) (v w : View) → (e : EnteredAs against IsIt v w) → Walk v w (entry v.number e.1 ∷ [])
of_entered_as against IsIt v w e = extended e.1 e.0 v w e.3 e.5

pub walk_on : (a b c : View) (first second : Past) → Walk a b first → Walk b c second → Walk a c (second ++ first)
walk_on a b c first second p q = record {
  newer = q.newer ++ p.newer;
  grown = q.grown ∙ ap (λ x. q.newer ++ x) p.grown ∙ sym (append_assoc q.newer p.newer a.seen);
  own = entries_append a.number q.newer p.newer ∙ ap (λ x. x ++ made_by a.number p.newer) (ap (λ n. made_by n q.newer) (sym p.number) ∙ q.own) ∙ ap (λ x. second ++ x) p.own;
  number = q.number ∙ p.number;
  live = q.live ∙ p.live;
  out = q.out ∙ p.out;
  kin = q.kin ∙ p.kin;
}
