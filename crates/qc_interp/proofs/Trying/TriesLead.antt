-- What tries of a child lead to, as the transaction goes on behind them.
use Rattle.std.proofs.Common.{◌≡◌, inl, inr, ℕ, suc, Bool, true, false, List, [], ◌∷◌, ◌++◌, refl, sym, ap, ◌∙◌, subst, append_assoc}
use mathlib.Core.Bool.{true≢false}
use Rattle.std.specs.Prelude.{Option, None, Some, MatchOption, MatchBool, is_some, option_map}
use Rattle.qc_event.specs.declared.event.Answer.{Answer}
use Rattle.qc_event.specs.declared.event.How.{How}
use Rattle.qc_event.specs.declared.event.How.TheVariants.{Commit, Abort}
use Rattle.qc_event.specs.declared.event.Kind.TheVariants as kind
use Rattle.qc_event.specs.History.{Past, Name, end, is_ready, kind_of}
use Rattle.qc_event.specs.Standing.{IsAbort}
use Rattle.qc_script.specs.Client.{Client, mine, IsLater, AreOurs}
use Rattle.qc_interp.specs.Deeds.{Deed, deeds, deed_end, OfChild}
use Rattle.qc_interp.specs.Follows.{Stops, IsUnended, GoesOnAfter, AfterTries, RunsPlan}
use Rattle.qc_interp.specs.Reach.{Reach}
use Rattle.qc_interp.specs.Turns.{is_beside}
use Rattle.qc_script.specs.Plan.{Plan, Numbered}
use Rattle.qc_interp.specs.Running.{EndsAt, CameTo, HasFailed, EndsTries}
use Rattle.qc_interp.specs.Tries.{Tries, is_tried_again, is_again, TriesDo}
use Rattle.qc_interp.specs.declared.stops.Finish.{Finish}
use Rattle.qc_interp.specs.declared.stops.Finish.TheVariants as finish
use Rattle.qc_interp.proofs.Trying.OneTry.{number_later, runs_later, again_later, asked_later}
use Rattle.qc_interp.proofs.Scopes.Seats.{later_beside}
use Rattle.qc_interp.proofs.Scopes.Growth.{ours_before}
use Rattle.qc_interp.proofs.Stepping.Stopping.{running_stops, running_unended, running_runs}
use Rattle.qc_interp.proofs.Stepping.StepsLeave.{end_later}
use Rattle.qc_interp.specs.Asking.{DoesOn, DoesAfter, Asks, AllAsked}
use Rattle.qc_interp.proofs.Stepping.Asked.{asked_wider, asked_trans}
use Rattle.qc_interp.proofs.Trying.Tried.{Tried, CutTry}

-- WHAT TRIES LEAD TO

pub match_true : (P Q : Type 0) (b : Bool) → b ≡ true → P → MatchBool b P Q
match_true P Q true is h = h
match_true P Q false is h = absurd (true≢false (sym is))

pub match_false : (P Q : Type 0) (b : Bool) → b ≡ false → Q → MatchBool b P Q
match_false P Q false is h = h
match_false P Q true is h = absurd (true≢false is)

-- behind a child that committed a transaction goes on
goes_behind : (reach : Reach) (past : Past) (n child : Name) (must : Bool) (Rest : Type 0) (further : List Deed) (how : Option How) (given : Answer) → end past child ≡ Some (Commit given) → Rest → AfterTries reach past n (Some (Deed.child child)) must Rest further how
goes_behind reach past n child false Rest further how given is h = h
goes_behind reach past n child true Rest further how given is h = subst (λ o. GoesOnAfter reach past n child o Rest further how) (sym is) h

does_behind : (past : Past) (child : Name) (must : Bool) (Does : Type 0) (given : Answer) → end past child ≡ Some (Commit given) → Does → DoesAfter past (Some (Deed.child child)) must Does
does_behind past child false Does given is h = h
does_behind past child true Does given is h = subst (λ o. DoesOn o (λ told. Does)) (sym is) h

-- where the run was cut off at a child, the transaction came no further
pub cut_behind : (past : Past) (n child : Name) (must : Bool) (Rest : Type 0) (how : Option How) → IsUnended n how → is_ready past n ≡ false → Rest → AfterTries Reach.cut_off past n (Some (Deed.child child)) must Rest [] how
cut_behind past n child false Rest how unended unready rest = rest
cut_behind past n child true Rest how unended unready rest = by_end (end past child)
  where
    by_end : (o : Option How) → GoesOnAfter Reach.cut_off past n child o Rest [] how
    by_end None = (refl, running_unended past n how unended unready)
    by_end (Some (Commit given)) = rest
    by_end (Some (Abort x)) = (refl, inr (running_stops past n how unended unready))

-- a body that came to this is tried again, or not
pub again_is : (to : Finish) (how : Option How) → CameTo to how → is_tried_again how ≡ is_again to
again_is finish.Committed None h = refl
again_is finish.Committed (Some (Commit given)) h = refl
again_is finish.Committed (Some (Abort x)) h = absurd h
again_is (finish.Stopped again) None h = sym h
again_is (finish.Stopped again) (Some (Commit given)) h = absurd h
again_is (finish.Stopped again) (Some (Abort x)) h = sym h

module _ (c : Client) (of child : Name) (body : Numbered) (before now : Past) (to : Finish) (t : Tried c of child body before now to) where
  -- the try by what was seen later
  module _ (reach : Reach) (x : Past) (later : IsLater c now x) (ours : AreOurs c of x) where
    own : AreOurs c of now
    own = ours_before c of now x later ours

    one_try : (is_beside (mine c x) of child ≡ true) × (kind_of (mine c x) child ≡ Some (kind.User c.session body.number)) × RunsPlan reach c.session (mine c x) child body.plan (deeds (mine c x) child) (end (mine c x) child)
    one_try = (
      later_beside c now x later of child t.runs.seat t.seat,
      number_later c child body (AreOurs c of now) before now t.one x later own,
      runs_later c child body (AreOurs c of now) before now t.one x later own reach,
    )

    again_now : is_tried_again (end (mine c x) child) ≡ is_again to
    again_now = again_later c child body (AreOurs c of now) before now t.one x later own ∙ again_is to (end (mine c now) child) t.tried

    asked_now : AllAsked c before now (λ by n. Asks (mine c x) child body.plan (deeds (mine c x) child) by n)
    asked_now = asked_later c child body (AreOurs c of now) before now t.one x later own

    abbrev Rest : Plan → Option Deed → List Deed → Type 0
    Rest rest last further = AfterTries reach (mine c x) of last body.must (RunsPlan reach c.session (mine c x) of rest further (end (mine c x) of)) further (end (mine c x) of)

    abbrev RestDoes : Plan → Name → Name → Option Deed → List Deed → Type 0
    RestDoes rest by n last further = DoesAfter (mine c x) last body.must (Asks (mine c x) of rest further by n)

    abbrev Try : Name → Type 0
    Try n = (is_beside (mine c x) of n ≡ true) × (kind_of (mine c x) n ≡ Some (kind.User c.session body.number)) × RunsPlan reach c.session (mine c x) n body.plan (deeds (mine c x) n) (end (mine c x) n)

    abbrev DoTries : Option Deed → ℕ → Plan → List Deed → Name → Name → Type 0
    DoTries last left rest further by n = TriesDo (deed_end (mine c x)) (OfChild (λ y. Asks (mine c x) y body.plan (deeds (mine c x) y) by n)) (RestDoes rest by n) last left further

    abbrev AreTries : Option Deed → ℕ → Plan → List Deed → Type 0
    AreTries last left rest further = Tries (deed_end (mine c x)) (OfChild Try) (Stops reach (mine c x) of (end (mine c x) of)) (Rest rest) last left further

    -- one try more, and then as many as are left: none where it is not tried again
    module _ (last : Option Deed) (left : ℕ) (rest : Plan) (further : List Deed) where
      abbrev MoreDo : Name → Name → Bool → Type 0
      MoreDo by n b = MatchBool b (DoTries (Some (Deed.child child)) left rest further by n) (RestDoes rest by n (Some (Deed.child child)) further)

      with_asked : AllAsked c now x (λ by n. MoreDo by n (is_again to)) → AllAsked c before x (λ by n. DoTries last (suc left) rest (Deed.child child ∷ further) by n)
      with_asked h = asked_trans c before now x _ (asked_wider _ _ (λ by n a. inl a) c before now asked_now) (asked_wider _ _ (λ by n a. inr (subst (MoreDo by n) (sym again_now) a)) c now x h)

      with_try : MatchBool (is_again to) (AreTries (Some (Deed.child child)) left rest further) (Rest rest (Some (Deed.child child)) further) → AreTries last (suc left) rest (Deed.child child ∷ further)
      with_try h = (one_try, subst (λ b. MatchBool b (AreTries (Some (Deed.child child)) left rest further) (Rest rest (Some (Deed.child child)) further)) (sym again_now) h)

    more_later : (further : List Deed) → deeds (mine c x) of ≡ deeds (mine c now) of ++ further → deeds (mine c x) of ≡ deeds (mine c before) of ++ Deed.child child ∷ further
    more_later further is = is ∙ ap (λ l. l ++ further) t.more ∙ append_assoc (deeds (mine c before) of) (Deed.child child ∷ []) further

  -- one try more, after which there is another
  pub try_again : is_again to ≡ true → (reach : Reach) (x : Past) → IsLater c now x → (last : Option Name) (left : ℕ) (rest : Plan) → EndsTries reach c of now x body (Some child) left rest → EndsTries reach c of before x body last (suc left) rest
  try_again is reach x later last left rest ends ours =
      let e = ends ours in (
        Deed.child child ∷ e.0,
        more_later reach x later ours e.0 e.1,
        with_try reach x later ours (option_map Deed.child last) left rest e.0 (match_true _ (Rest reach x later ours rest (Some (Deed.child child)) e.0) (is_again to) is e.2),
        with_asked reach x later ours (option_map Deed.child last) left rest e.0 (asked_wider _ _ (λ by n a. match_true _ (RestDoes reach x later ours rest by n (Some (Deed.child child)) e.0) (is_again to) is a) c now x e.3),
      )

  -- one try more, which is the last
  pub try_last : is_again to ≡ false → (reach : Reach) (x : Past) → IsLater c now x → (last : Option Name) (left : ℕ) (rest : Plan) → EndsTries reach c of now x body (Some child) 0 rest → EndsTries reach c of before x body last (suc left) rest
  try_last is reach x later last left rest ends ours =
      let e = ends ours in (
        Deed.child child ∷ e.0,
        more_later reach x later ours e.0 e.1,
        with_try reach x later ours (option_map Deed.child last) left rest e.0 (match_false (AreTries reach x later ours (Some (Deed.child child)) left rest e.0) _ (is_again to) is e.2),
        with_asked reach x later ours (option_map Deed.child last) left rest e.0 (asked_wider _ _ (λ by n a. match_false (DoTries reach x later ours (Some (Deed.child child)) left rest e.0 by n) _ (is_again to) is a) c now x e.3),
      )

  -- the child was aborted, or committed
  pub has_failed : (again : Bool) → to ≡ finish.Stopped again → HasFailed c of now child
  has_failed again is = record { is_one = t.is_one; user = t.user; aborted = λ ours. by_end (end (mine c now) child) (t.ended ours) (subst (λ y. CameTo y (end (mine c now) child)) is t.tried) }
    where
      by_end : (o : Option How) → is_some o ≡ true → CameTo (finish.Stopped again) o → MatchOption o ⊥ IsAbort
      by_end None some h = absurd (true≢false (sym some))
      by_end (Some (Commit given)) some h = absurd h
      by_end (Some (Abort y)) some h = tt

  has_committed : to ≡ finish.Committed → AreOurs c of now → (given : Answer) × (end (mine c now) child ≡ Some (Commit given))
  has_committed is ours = by_end (end (mine c now) child) refl (t.ended ours) (subst (λ y. CameTo y (end (mine c now) child)) is t.tried)
    where
      by_end : (o : Option How) → end (mine c now) child ≡ o → is_some o ≡ true → CameTo finish.Committed o → (given : Answer) × (end (mine c now) child ≡ Some (Commit given))
      by_end None at some h = absurd (true≢false (sym some))
      by_end (Some (Commit given)) at some h = (given, at)
      by_end (Some (Abort y)) at some h = absurd h

  -- behind a try that committed the transaction goes on, whether it must or not
  pub try_through : to ≡ finish.Committed → (reach : Reach) (x : Past) → IsLater c now x → (rest : Plan) → EndsAt reach c of now x rest → EndsTries reach c of now x body (Some child) 0 rest
  try_through is reach x later rest ends ours =
      let e = ends ours in
      let had = has_committed is (ours_before c of now x later ours) in
      let has : end (mine c x) child ≡ Some (Commit had.0) = end_later c of now x later child (Commit had.0) had.1 in (
        e.0,
        e.1,
        goes_behind reach (mine c x) of child body.must _ e.0 (end (mine c x) of) had.0 has e.2,
        asked_wider _ _ (λ by n a. does_behind (mine c x) child body.must _ had.0 has a) c now x e.3,
      )

-- A try that was cut off is the last, and the run came no further.
pub try_cut : (c : Client) (of : Name) (body : Numbered) (before now : Past) → CutTry c of body before now → (last : Option Name) (left : ℕ) (rest : Plan) → EndsTries Reach.cut_off c of before now body last (suc left) rest
try_cut c of body before now t last left rest ours = (
  Deed.child t.child ∷ [],
  t.more,
  ((t.beside, t.one.number, t.one.runs ours), match_false _ _ _ t.tried (cut_behind (mine c now) of t.child body.must _ (end (mine c now) of) t.unended t.unready (running_runs c.session (mine c now) of _ t.unended t.unready rest))),
  asked_wider _ _ (λ by n a. inl a) c before now (t.one.asked ours),
)
