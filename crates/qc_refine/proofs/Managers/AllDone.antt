-- Each manager that is done in a legal history is complete at its record.
use Rattle.std.proofs.Common.{◌≡◌, ℕ, Bool, true, false, List, [], ◌∷◌, refl, sym, subst}
use Rattle.std.specs.Prelude.{All, Option, None, Some, MatchOption, filter, if◌then◌else◌}
use Rattle.std.specs.Option.{option_map}
use Rattle.std.specs.List.{flat_map}
use Rattle.std.proofs.lemmas.List.Elements.{All-nil, All-cons, All-append}
use Rattle.qc_event.specs.declared.event.Answer.{Answer}
use Rattle.qc_event.specs.declared.event.Entry.{Entry}
use Rattle.qc_event.specs.declared.event.Event.{Event}
use Rattle.qc_event.specs.declared.event.Event.TheVariants as event
use Rattle.qc_event.specs.declared.event.How.TheVariants.{Commit}
use Rattle.qc_event.specs.declared.event.Kind.{Kind}
use Rattle.qc_event.specs.declared.event.Kind.TheVariants as kind
use Rattle.qc_event.specs.Base.{Setting}
use Rattle.qc_event.specs.Commits.{MayCommit, MayCommitManager}
use Rattle.qc_event.specs.Dead.{ancestors}
use Rattle.qc_event.specs.History.{Past, Name, Begun, start, is_child, kind_of}
use Rattle.qc_event.specs.Legal.{Legal, MayHappen, MayEnd}
use Rattle.qc_event.specs.Standing.{IsManager}
use Rattle.qc_event.proofs.KindFits.{kind_fits, record_fits}
use Rattle.qc_serial.specs.Visible.{served}
use Rattle.qc_serial.specs.Walk.{is_open_or_root}
use Rattle.qc_refine.specs.InTurn.{Done, IsDone}
use Rattle.qc_refine.specs.Turns.{done_by, done_in, dones, dones_order}
use Rattle.qc_refine.proofs.Managers.CompleteDone.{complete_done}
use Rattle.qc_refine.proofs.Managers.Finished.{committing_done, is_started}
use Rattle.qc_refine.proofs.Order.Grounded.{IsGrounded}
use Rattle.qc_refine.proofs.Managers.ServedThere.{served_at}

-- a manager that commits is complete at its record
manager_done : (setting : Setting) (past : Past) (seat : ℕ) (m : Name) (b : Begun) (told : Answer) → IsGrounded setting → Legal setting past → start past m ≡ Some b → IsManager b.kind → MayCommitManager setting past seat m b told → IsDone setting (record { kind = b.kind; answer = told; given = served past m })
manager_done setting past seat m b told ground legal is manager may =
    let fits = kind_fits setting past m b legal is in
    let there = record_fits setting b.kind manager fits in
    let s = is_started setting past m b legal is in
    record {
      record_there = there;
      at_record = served_at setting past m b.kind ground legal s.below_root s.has manager;
      complete = complete_done setting past m b.kind told fits (committing_done setting past seat m b told legal is manager may);
    }

alone : (setting : Setting) (d : Done) → IsDone setting d → All (IsDone setting) (d ∷ [])
alone setting d done = All-cons (IsDone setting) d [] done (All-nil (IsDone setting))

if_all : (setting : Setting) (b : Bool) (ds : List Done) → All (IsDone setting) ds → All (IsDone setting) (if b then ds else [])
if_all setting true ds all = all
if_all setting false ds all = All-nil (IsDone setting)

module _ (setting : Setting) (past : Past) (seat : ℕ) (c : Name) (told : Answer) (ground : IsGrounded setting) (legal : Legal setting past) (below : All (IsDone setting) (dones past c)) where
  by_kind : (b : Begun) (k : Kind) → start past c ≡ Some b → b.kind ≡ k → MayCommit setting past seat c b told k → All (IsDone setting) (done_by (Some k) told (served past c) (dones past c))
  by_kind b (kind.User session body) is of may = below
  by_kind b (kind.Read rec) is of may = alone setting _ (subst (λ k. IsDone setting (record { kind = k; answer = told; given = served past c })) of (manager_done setting past seat c b told ground legal is (subst IsManager (sym of) tt) may))
  by_kind b (kind.Write rec value) is of may = alone setting _ (subst (λ k. IsDone setting (record { kind = k; answer = told; given = served past c })) of (manager_done setting past seat c b told ground legal is (subst IsManager (sym of) tt) may))
  by_kind b (kind.Reconf rec config) is of may = alone setting _ (subst (λ k. IsDone setting (record { kind = k; answer = told; given = served past c })) of (manager_done setting past seat c b told ground legal is (subst IsManager (sym of) tt) may))
  by_kind b kind.Access is of may = All-nil (IsDone setting)

  by_start : (o : Option Begun) → start past c ≡ o → MatchOption o ⊥ (MayEnd setting past seat c (Commit told)) → All (IsDone setting) (done_by (option_map (λ (b : Begun). b.kind) o) told (served past c) (dones past c))
  by_start None is may = absurd may
  by_start (Some b) is may = by_kind b b.kind is refl may

-- what an entry adds
adds_done : (setting : Setting) (past : Past) (e : Entry) (n : Name) (ev : Event) → e.event ≡ ev → IsGrounded setting → Legal setting (e ∷ past) → ((c : Name) → All (IsDone setting) (dones past c)) → All (IsDone setting) (done_in past (dones past) n ev)
adds_done setting past e n (event.End c (Commit told)) is ground legal below =
    if_all setting (is_child n c) (done_by (kind_of past c) told (served past c) (dones past c))
    (by_start setting past e.seat c told ground legal.0 (below c) (start past c) refl (subst (MayHappen setting past e.seat) is legal.1))
adds_done setting past e n _ is ground legal below = All-nil (IsDone setting)

pub all_done : (setting : Setting) (past : Past) (n : Name) → IsGrounded setting → Legal setting past → All (IsDone setting) (dones past n)
all_done setting [] n ground legal = All-nil (IsDone setting)
all_done setting (e ∷ past) n ground legal =
    All-append (IsDone setting) (dones past n) (done_in past (dones past) n e.event)
    (all_done setting past n ground legal.0)
    (adds_done setting past e n e.event refl ground legal (λ c. all_done setting past c ground legal.0))

pub order_done : (setting : Setting) (past : Past) (t : Name) → IsGrounded setting → Legal setting past → All (IsDone setting) (dones_order past t)
order_done setting past t ground legal = through (filter (is_open_or_root past) (ancestors t))
  where
    through : (names : List Name) → All (IsDone setting) (flat_map (dones past) names)
    through [] = All-nil (IsDone setting)
    through (n ∷ names) = All-append (IsDone setting) (dones past n) (flat_map (dones past) names) (all_done setting past n ground legal) (through names)
