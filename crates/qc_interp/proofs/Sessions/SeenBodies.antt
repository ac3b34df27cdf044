-- Tops that follow bodies by what a client made do so by what was seen, where all about them is its own.
use Rattle.std.proofs.Common.{◌≡◌, ◌<◌, arith, ℕ, true, false, List, [], ◌∷◌, length, refl, sym, ap, ◌∙◌, subst}
use Rattle.std.specs.Prelude.{Option, None, Some}
use Rattle.std.specs.List.{AllByRecursion}
use Rattle.qc_event.specs.declared.event.Answer.{Answer}
use Rattle.qc_event.specs.declared.event.Entry.{Entry}
use Rattle.qc_event.specs.declared.event.How.{How}
use Rattle.qc_event.specs.declared.event.How.TheVariants.{Commit, Abort}
use Rattle.qc_event.specs.History.{Past, Name, end, is_ready, is_child}
use Rattle.qc_event.specs.Legal.{Legal}
use Rattle.qc_event.proofs.OneEntry.{some_or_none, not_some}
use Rattle.qc_script.specs.Client.{Client, mine, is_own, AreOurs}
use Rattle.qc_script.specs.Plan.{Numbered}
use Rattle.qc_interp.specs.Asking.{BodiesAsk, Asks}
use Rattle.qc_interp.specs.Deeds.{deeds}
use Rattle.qc_interp.specs.Follows.{RunsBody}
use Rattle.qc_interp.specs.Reach.{Reach}
use Rattle.qc_interp.specs.Session.{NotBegun, RunsBodies}
use Rattle.qc_interp.specs.Tries.{is_tried_again}
use Rattle.qc_interp.proofs.Scopes.Mine.{kept_some}
use Rattle.qc_interp.proofs.Scopes.Scope.{at_scope}
use Rattle.qc_interp.proofs.Stepping.Ending.{committed_ready}
use Rattle.qc_interp.proofs.Following.Seen.{same_kind, runs_seen, asks_seen, own_abort, own_once}
use Rattle.qc_interp.proofs.Scopes.Starts.{top_is}
use Rattle.qc_interp.proofs.Trying.TriesAlike.{AreAlike, tries_alike, tries_do_alike}

-- BODIES

-- a top, all about which is the client's
abbrev pub IsOurTop : Client → Past → Name → Type 0
IsOurTop c past t = (is_child [] t ≡ true) × AreOurs c t past

module _ (c : Client) (past : Past) (legal : Legal c.setting past) where
  -- a top is tried again by what the client made where it is by what was seen: only its commit is not the client's
  again_alike : (t : Name) → IsOurTop c past t → AreAlike (end (mine c past)) (end past) t
  again_alike t ours = by_end (end past t) refl
    where
      committed : (given : Answer) (o : Option How) → end (mine c past) t ≡ o → end past t ≡ Some (Commit given) → is_tried_again o ≡ false
      committed given None at is = refl
      committed given (Some how) at is = let same_how : Some how ≡ Some (Commit given) = sym (own_once c past t how legal at) ∙ is in ap is_tried_again same_how

      by_end : (o : Option How) → end past t ≡ o → AreAlike (end (mine c past)) (end past) t
      by_end None is = ap is_tried_again (not_some (end (mine c past) t) (λ h. some_or_none (end past t) (kept_some (λ (e : Entry). is_own c e.seat) _ past h) is) ∙ sym is)
      by_end (Some (Abort x)) is = ap is_tried_again (own_abort c t past x ours.1 is ∙ sym is)
      by_end (Some (Commit given)) is = committed given (end (mine c past) t) refl is ∙ sym (ap is_tried_again is)

  long : (t : Name) → is_child [] t ≡ true → 0 < length t
  long t child = let top = top_is t child in subst (λ x. 0 < length x) (sym top.1) (omega arith)

  module _ (reach : Reach) (s : ℕ) where
    body_seen : (b : Numbered) (t : Name) → IsOurTop c past t → RunsBody reach s (mine c past) b t → RunsBody reach s past b t
    body_seen b t ours runs = record {
      kind = sym (same_kind c t past ours.1 t (at_scope c t)) ∙ runs.kind;
      steps = runs_seen reach c s t past b.plan legal (long t ours.0) ours.1 ready runs.steps;
    }
      where
        ready : (given : Answer) → end past t ≡ Some (Commit given) → is_ready past t ≡ true
        ready given is =
            let top = top_is t ours.0 in
            subst (λ x. is_ready past x ≡ true) (sym top.1) (committed_ready c.setting past top.0 given legal (sym (ap (end past) top.1) ∙ is))

    pub bodies_seen : (bodies : List Numbered) (ts : List Name) → AllByRecursion (IsOurTop c past) ts → RunsBodies reach s (mine c past) bodies ts → RunsBodies reach s past bodies ts
    bodies_seen [] [] ours h = h
    bodies_seen [] (t ∷ ts) ours h = absurd h
    bodies_seen (b ∷ bodies) ts ours h =
        tries_alike (end (mine c past)) (end past) (RunsBody reach s (mine c past) b) (RunsBody reach s past b) (NotBegun reach) (NotBegun reach) (λ last further. RunsBodies reach s (mine c past) bodies further) (λ last further. RunsBodies reach s past bodies further) (IsOurTop c past)
        again_alike (λ none. none) (body_seen b) (λ last further was o r. bodies_seen bodies further o r) None b.tries ts tt ours h

  pub bodies_ask_seen : (by target : Name) (bodies : List Numbered) (ts : List Name) → AllByRecursion (IsOurTop c past) ts → BodiesAsk (mine c past) bodies ts by target → BodiesAsk past bodies ts by target
  bodies_ask_seen by target [] ts ours h = absurd h
  bodies_ask_seen by target (b ∷ bodies) ts ours h =
      tries_do_alike (end (mine c past)) (end past) (λ t. Asks (mine c past) t b.plan (deeds (mine c past) t) by target) (λ t. Asks past t b.plan (deeds past t) by target)
      (λ last further. BodiesAsk (mine c past) bodies further by target) (λ last further. BodiesAsk past bodies further by target) (IsOurTop c past)
      again_alike (λ t o a. asks_seen c t past o.1 legal (long t o.0) by target b.plan (at_scope c t) a) (λ last further was o a. bodies_ask_seen by target bodies further o a) None b.tries ts tt ours h
