-- What tries of a body that run as tops lead to, as other bodies follow.
use Rattle.std.proofs.Common.{◌≡◌, inl, inr, ℕ, suc, Bool, true, false, List, [], ◌∷◌, ◌++◌, sym, ap, ◌∙◌, subst, append_assoc}
use Rattle.std.specs.Prelude.{Option, Some, MatchBool}
use Rattle.std.specs.List.{AllByRecursion}
use Rattle.qc_event.specs.History.{Past, Name, end}
use Rattle.qc_script.specs.Client.{Client, mine, IsLater, AreOurs}
use Rattle.qc_interp.specs.Deeds.{deeds}
use Rattle.qc_interp.specs.Follows.{RunsBody}
use Rattle.qc_interp.specs.Reach.{Reach}
use Rattle.qc_script.specs.Plan.{Numbered}
use Rattle.qc_interp.specs.Session.{tops, NotBegun, RunsBodies, AreAllOurs, EndsTopsAt}
use Rattle.qc_interp.specs.Tries.{Tries, is_tried_again, TriesDo}
use Rattle.qc_interp.proofs.Listing.Lists.{all_last}
use Rattle.qc_interp.proofs.Trying.OneTry.{number_later, runs_later, again_later, asked_later}
use Rattle.qc_interp.proofs.Scopes.Growth.{ours_before}
use Rattle.qc_interp.specs.Asking.{Asks, BodiesAsk, AllAsked}
use Rattle.qc_interp.proofs.Stepping.Asked.{asked_wider, asked_trans}
use Rattle.qc_interp.proofs.Trying.TriesLead.{match_true, match_false}
use Rattle.qc_interp.proofs.Sessions.TopsRun.{TriedTop, CutTop, none_begun}

-- from `before` on, so many tries of a body and then of other bodies, or as far as the run came
abbrev pub EndsTopTries : Reach → Client → Past → Past → Numbered → Option Name → ℕ → List Numbered → Type 0
EndsTopTries reach c before now body last left rest =
    AreAllOurs c now → (further : List Name) × (tops c now ≡ tops c before ++ further)
    × Tries (end (mine c now)) (RunsBody reach c.session (mine c now) body) (NotBegun reach) (λ latest more. RunsBodies reach c.session (mine c now) rest more) last left further
    × AllAsked c before now (λ by t. TriesDo (end (mine c now)) (λ n. Asks (mine c now) n body.plan (deeds (mine c now) n) by t) (λ latest more. BodiesAsk (mine c now) rest more by t) last left further)

module _ (c : Client) (body : Numbered) (before now : Past) (again : Bool) (t : TriedTop c body before now again) where
  module _ (reach : Reach) (x : Past) (later : IsLater c now x) (further : List Name) (more : tops c x ≡ tops c now ++ further) (ours : AreAllOurs c x) where
    more_later : tops c x ≡ tops c before ++ t.top ∷ further
    more_later = more ∙ ap (λ l. l ++ further) t.more ∙ append_assoc (tops c before) (t.top ∷ []) further

    ours_top : AreOurs c t.top x
    ours_top = all_last (λ n. AreOurs c n x) (tops c before) t.top further (subst (AllByRecursion (λ n. AreOurs c n x)) more_later ours)

    own : AreOurs c t.top now
    own = ours_before c t.top now x later ours_top

    one_top : RunsBody reach c.session (mine c x) body t.top
    one_top = record {
      kind = number_later c t.top body (AreOurs c t.top now) before now t.one x later own;
      steps = runs_later c t.top body (AreOurs c t.top now) before now t.one x later own reach;
    }

    again_now : is_tried_again (end (mine c x) t.top) ≡ again
    again_now = again_later c t.top body (AreOurs c t.top now) before now t.one x later own ∙ sym t.tried

    asked_now : AllAsked c before now (λ by n. Asks (mine c x) t.top body.plan (deeds (mine c x) t.top) by n)
    asked_now = asked_later c t.top body (AreOurs c t.top now) before now t.one x later own

    abbrev DoTries : Option Name → ℕ → List Numbered → Name → Name → Type 0
    DoTries last left rest by n = TriesDo (end (mine c x)) (λ y. Asks (mine c x) y body.plan (deeds (mine c x) y) by n) (λ latest more. BodiesAsk (mine c x) rest more by n) last left further

    abbrev MoreDo : ℕ → List Numbered → Name → Name → Bool → Type 0
    MoreDo left rest by n b = MatchBool b (DoTries (Some t.top) left rest by n) (BodiesAsk (mine c x) rest further by n)

    with_asked : (last : Option Name) (left : ℕ) (rest : List Numbered) → AllAsked c now x (λ by n. MoreDo left rest by n again)
        → AllAsked c before x (λ by n. TriesDo (end (mine c x)) (λ y. Asks (mine c x) y body.plan (deeds (mine c x) y) by n) (λ latest more. BodiesAsk (mine c x) rest more by n) last (suc left) (t.top ∷ further))
    with_asked last left rest h = asked_trans c before now x _ (asked_wider _ _ (λ by n a. inl a) c before now asked_now) (asked_wider _ _ (λ by n a. inr (subst (MoreDo left rest by n) (sym again_now) a)) c now x h)

  pub top_again : again ≡ true → (reach : Reach) (x : Past) → IsLater c now x → (last : Option Name) (left : ℕ) (rest : List Numbered) → EndsTopTries reach c now x body (Some t.top) left rest → EndsTopTries reach c before x body last (suc left) rest
  top_again is reach x later last left rest ends ours =
      let e = ends ours in
      (t.top ∷ e.0, more_later reach x later e.0 e.1 ours, (one_top reach x later e.0 e.1 ours, match_true _ (RunsBodies reach c.session (mine c x) rest e.0) _ (again_now reach x later e.0 e.1 ours ∙ is) e.2), with_asked reach x later e.0 e.1 ours last left rest (asked_wider _ _ (λ by n a. match_true _ (BodiesAsk (mine c x) rest e.0 by n) again is a) c now x e.3))

  pub top_last : again ≡ false → (reach : Reach) (x : Past) → IsLater c now x → (last : Option Name) (left : ℕ) (rest : List Numbered) → EndsTopsAt reach c now x rest → EndsTopTries reach c before x body last (suc left) rest
  top_last is reach x later last left rest ends ours =
      let e = ends ours in
      (t.top ∷ e.0, more_later reach x later e.0 e.1 ours, (one_top reach x later e.0 e.1 ours, match_false (Tries (end (mine c x)) (RunsBody reach c.session (mine c x) body) (NotBegun reach) (λ latest more. RunsBodies reach c.session (mine c x) rest more) (Some t.top) left e.0) _ _ (again_now reach x later e.0 e.1 ours ∙ is) e.2), with_asked reach x later e.0 e.1 ours last left rest (asked_wider _ _ (λ by n a. match_false (DoTries reach x later e.0 e.1 ours (Some t.top) left rest by n) _ again is a) c now x e.3))

-- a try of a top that was cut off is the last
pub cut_last : (c : Client) (body : Numbered) (before now : Past) → CutTop c body before now → (last : Option Name) (left : ℕ) (rest : List Numbered) → EndsTopTries Reach.cut_off c before now body last (suc left) rest
cut_last c body before now t last left rest ours =
    let one = all_last (λ n. AreOurs c n now) (tops c before) t.top [] (subst (AllByRecursion (λ n. AreOurs c n now)) t.more ours) in (
      t.top ∷ [],
      t.more,
      (record { kind = t.one.number; steps = t.one.runs one }, match_false _ _ _ t.tried (none_begun c.session (mine c now) rest)),
      asked_wider _ _ (λ by n a. inl a) c before now (t.one.asked one),
    )
