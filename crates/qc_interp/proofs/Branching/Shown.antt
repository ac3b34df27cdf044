-- Branches that are shown what was seen.
use Rattle.std.proofs.Common.{◌≡◌, ℕ, ◌<◌, List, [], ◌∷◌, length, map, slice_index_or, refl, sym, ◌∙◌, subst, arith, suc, zero}
use Rattle.std.specs.List.{AllByRecursion}
use Rattle.qc_event.specs.Legal.{Legal}
use Rattle.qc_script.specs.Calls.{MeetsLink, Showed}
use Rattle.qc_script.specs.Client.{ClientView, Made}
use Rattle.qc_interp.specs.AtOnce.{StandingBranch, WasShown}
use Rattle.qc_interp.proofs.Scopes.Growth.{made_both}

-- at each place
pub each_at : {A B : Type 0} (f : A → B) (P : B → Type 0) (xs : List A) (i : ℕ) (d : A) → i < length xs → AllByRecursion P (map f xs) → P (f (slice_index_or xs i d))
each_at f P [] i d lt h = absurd (omega (arith, lt))
each_at f P (x ∷ xs) zero d lt h = h.0
each_at f P (x ∷ xs) (suc i) d lt h = each_at f P xs i d (omega (arith, lt)) h.1

module _ (v w x : ClientView) (b c : StandingBranch) (client : w.client ≡ v.client) (made : Made v.client [] v.seen w.seen) (shown : ClientView) (showed : Showed w x b.view shown) (met : MeetsLink shown) (is : c ≡ record { view = shown; body = b.body; first = b.first; came = b.came }) where
  pub made_on : Made v.client [] v.seen x.seen
  made_on = made_both v.client v.seen w.seen x.seen made (subst (λ d. Made d [] w.seen x.seen) client showed.made)

  pub was_shown : WasShown v.seen b c
  was_shown = subst (WasShown v.seen b) (sym is) (record {
    client = showed.branch_client;
    body = refl;
    first = refl;
    made = subst (Made b.view.client [] b.view.seen) (sym showed.seen) showed.branch_made;
    since = record { newer = made_on.newer; grown = showed.seen ∙ made_on.grown; legal = subst (Legal b.view.client.setting) (sym showed.seen) showed.branch_made.legal };
    met = met;
  })
