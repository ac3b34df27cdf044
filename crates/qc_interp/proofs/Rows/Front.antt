-- What follows branches at once that have run is with them the whole step.
use Rattle.std.proofs.Common.{◌≡◌, ◌⊎◌, inl, inr, Bool, true, false, List, [], ◌++◌, refl, sym, ap, ◌∙◌, subst, append_assoc}
use Rattle.std.specs.Prelude.{Option, MatchBool, option_map}
use Rattle.qc_event.specs.declared.event.Entry.{Entry}
use Rattle.qc_event.specs.declared.event.How.{How}
use Rattle.qc_event.specs.History.{Past, Name, end}
use Rattle.qc_event.specs.Legal.{Legal}
use Rattle.qc_script.specs.Client.{Client, mine, is_own, IsLater, HasJoined, AreOurs}
use Rattle.qc_script.specs.Plan.{Plan, Numbered, row_of}
use Rattle.qc_interp.specs.Asking.{Asks, RowAsks, AllAsked, DoesAfter}
use Rattle.qc_interp.specs.Branches.{row_step, EndsRow, FrontRow}
use Rattle.qc_interp.specs.Deeds.{Deed, deeds}
use Rattle.qc_interp.specs.Follows.{AfterRow, RunsPlan}
use Rattle.qc_interp.specs.Reach.{Reach}
use Rattle.qc_interp.specs.Rows.{each_tried, each_begun, first_failed}
use Rattle.qc_interp.specs.Running.{EndsAt}
use Rattle.qc_interp.proofs.Stepping.Asked.{asked_trans, asked_wider}
use Rattle.qc_interp.proofs.Scopes.Growth.{ours_before}
use Rattle.qc_interp.proofs.Branching.Joined.{joined_before, joined_mine, joined_ours, joined_session, joined_asked}
use Rattle.qc_interp.proofs.Rows.Later.{HaveRun, row_then, one_asks, rest_asks}

-- Branches at once have run: whether each was tried as often as it is, which failed first, and who asked.
pub record HaveRunBy (c : Client) (before now : Past) (bodies : List Numbered) (here : List Deed) (out : Bool) (failed : Option Name) : Type 0 where
  pub run : HaveRun c.session (mine c now) (row_of bodies) here
  pub tried : each_tried (mine c now) false (row_of bodies) here ≡ out
  pub first : out ≡ true → first_failed (mine c now) (row_of bodies) here ≡ option_map Deed.child failed
  pub asked : AllAsked c before now (λ by target. (each_begun (mine c now) (row_of bodies) here ≡ true) × RowAsks (mine c now) (row_of bodies) here by target)

-- so it stands for a client that has joined more
joined_run : (c d : Client) (before now : Past) (bodies : List Numbered) (here : List Deed) (out : Bool) (failed : Option Name) → IsLater c before now → HasJoined c now d → HaveRunBy c before now bodies here out failed → HaveRunBy d before now bodies here out failed
joined_run c d before now bodies here out failed later j r =
    let same = joined_mine c d now j in
    record {
      run = subst (λ s. HaveRun s (mine d now) (row_of bodies) here) (sym (joined_session c d now j)) (subst (λ h. HaveRun c.session h (row_of bodies) here) (sym same) r.run);
      tried = ap (λ h. each_tried h false (row_of bodies) here) same ∙ r.tried;
      first = λ all. ap (λ h. first_failed h (row_of bodies) here) same ∙ r.first all;
      asked = subst (λ h. AllAsked d before now (λ by target. (each_begun h (row_of bodies) here ≡ true) × RowAsks h (row_of bodies) here by target)) (sym same) (joined_asked c d now j before _ later r.asked);
    }

-- the whole step, as the history grows
module _ (c : Client) (of : Name) (before newer now : Past) (legal : Legal c.setting (newer ++ now)) (bodies : List Numbered) (here : List Deed) (out : Bool) (failed : Option Name) (r : HaveRunBy c before now bodies here out failed) where
  abbrev p : Entry → Bool
  p y = is_own c y.seat

  abbrev x : Past
  x = newer ++ now

  -- which failed first, as far as it counts
  abbrev first : Bool → Option Deed
  first true = option_map Deed.child failed
  first false = first_failed (mine c now) (row_of bodies) here

  first_is : (b : Bool) → out ≡ b → first_failed (mine c now) (row_of bodies) here ≡ first b
  first_is true is = r.first is
  first_is false is = refl

  follows : (reach : Reach) (rest : Plan) (further : List Deed) (how : Option How) → deeds (mine c x) of ≡ deeds (mine c now) of ++ further → (b : Bool) → out ≡ b
      → AfterRow reach (mine c x) of b (option_map Deed.child failed) (RunsPlan reach c.session (mine c x) of rest further how) further how → RunsPlan reach c.session (mine c x) of (row_step bodies rest) (here ++ further) how
  follows reach rest further how more true is after = row_then c.session p c.setting newer now legal (row_of bodies) here r.run reach of rest further how true (first true) more (r.tried ∙ is) (first_is true is) after
  follows reach rest further how more false is after = row_then c.session p c.setting newer now legal (row_of bodies) here r.run reach of rest further how false (first false) more (r.tried ∙ is) (first_is false is) after

  stopped : (reach : Reach) (rest : Plan) (further : List Deed) (how : Option How) → (b : Bool) → out ≡ b → AfterRow reach (mine c x) of b (option_map Deed.child failed) (RunsPlan reach c.session (mine c x) of rest further how) further how
      → (each_tried (mine c now) false (row_of bodies) here ≡ true) ⊎ (further ≡ [])
  stopped reach rest further how true is after = inl (r.tried ∙ is)
  stopped reach rest further how false is after = inr after.0

  asked_then : (rest : Plan) (further : List Deed) → (each_tried (mine c now) false (row_of bodies) here ≡ true) ⊎ (further ≡ []) → AllAsked c before now (λ by target. Asks (mine c x) of (row_step bodies rest) (here ++ further) by target)
  asked_then rest further out_or = asked_wider _ _ (λ by target asks. one_asks c.session p c.setting newer now legal (row_of bodies) here r.run of rest further by target asks.0 out_or asks.1) c before now r.asked

  asked_since : (rest : Plan) (further : List Deed) (b : Bool) → out ≡ b → AllAsked c now x (λ by target. MatchBool b (DoesAfter (mine c x) (option_map Deed.child failed) true (Asks (mine c x) of rest further by target)) ⊥)
      → AllAsked c now x (λ by target. Asks (mine c x) of (row_step bodies rest) (here ++ further) by target)
  asked_since rest further true is asked = asked_wider _ _ (λ by target asks. rest_asks c.session p c.setting newer now legal (row_of bodies) here r.run of rest further by target true (first true) (r.tried ∙ is) (first_is true is) asks) c now x asked
  asked_since rest further false is asked = asked_wider _ _ (λ by target asks. absurd asks) c now x asked

  front_ends : (reach : Reach) (rest : Plan) → deeds (mine c now) of ≡ deeds (mine c before) of ++ here → EndsRow reach c of now (newer ++ now) out failed rest → EndsAt reach c of before (newer ++ now) (row_step bodies rest)
  front_ends reach rest deeds_now ends = λ ours.
      let e = ends ours in (
        here ++ e.0,
        e.1 ∙ ap (λ l. l ++ e.0) deeds_now ∙ append_assoc (deeds (mine c before) of) here e.0,
        follows reach rest e.0 (end (mine c x) of) e.1 out refl e.2,
        asked_trans c before now x _ (asked_then rest e.0 (stopped reach rest e.0 (end (mine c x) of) out refl e.2)) (asked_since rest e.0 out refl e.3),
      )

-- Branches at once have run: what is left behind them leads to all of the step.
pub front_of : (c : Client) (of : Name) (before now : Past) (bodies : List Numbered) (here : List Deed) (out : Bool) (failed : Option Name) → IsLater c before now → deeds (mine c now) of ≡ deeds (mine c before) of ++ here
    → (AreOurs c of now → HaveRunBy c before now bodies here out failed) → FrontRow c of before now bodies out failed
front_of c of before now bodies here out failed later deeds_now ran reach d x j since rest ends = at_x since.newer x since.grown since.legal ends
  where
    deeds_then : deeds (mine d now) of ≡ deeds (mine d before) of ++ here
    deeds_then = ap (λ h. deeds h of) (joined_mine c d now j) ∙ deeds_now ∙ ap (λ h. deeds h of ++ here) (sym (joined_mine c d before (joined_before c d before now later j)))

    at_x : (newer x : Past) → x ≡ newer ++ now → Legal d.setting x → EndsRow reach d of now x out failed rest → EndsAt reach d of before x (row_step bodies rest)
    at_x newer x is legal ends = λ ours.
        let ours_now : AreOurs c of now = joined_ours c d now j of (ours_before d of now x (record { newer = newer; grown = is; legal = legal }) ours) in
        subst (λ y. EndsRow reach d of now y out failed rest → EndsAt reach d of before y (row_step bodies rest)) (sym is)
        (λ ends_too. front_ends d of before newer now (subst (Legal d.setting) is legal) bodies here out failed (joined_run c d before now bodies here out failed later j (ran ours_now)) reach rest deeds_then ends_too) ends ours
