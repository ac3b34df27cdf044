-- What the fit of a step that runs bodies at once says of them, and that each branch may run once it has seen the starts of all.
use Rattle.std.proofs.Common.{◌≡◌, ℕ, ◌<◌, ◌+◌, true, List, [], ◌∷◌, length, map, refl, sym, ap, ◌∙◌, subst, arith}
use Rattle.std.specs.Prelude.{◌==◌}
use Rattle.std.specs.List.{AllByRecursion, IsDistinct}
use Rattle.qc_event.specs.declared.event.Event.TheVariants as event
use Rattle.qc_event.specs.declared.event.Kind.TheVariants as kind
use Rattle.qc_event.specs.Base.{Setting}
use Rattle.qc_event.specs.History.{Past, Name, is_child}
use Rattle.qc_event.specs.Legal.{Legal}
use Rattle.qc_event.specs.Standing.{Started, IsUser}
use Rattle.qc_event.proofs.Later.{started_still}
use Rattle.qc_script.specs.Calls.{by_client}
use Rattle.qc_script.specs.Client.{Client, ClientView, mine, branch_of}
use Rattle.qc_script.specs.Plan.{Plan, Numbered, PlanFits, row_of, row_numbers}
use Rattle.qc_script.proofs.Rows.{row_length-row_of}
use Rattle.qc_interp.specs.AtOnce.{StandingBranch, HasBegun, BeganInTurn, InPairs, WasShown, MayRun}
use Rattle.qc_interp.specs.Branches.{row_step}
use Rattle.qc_interp.specs.Running.{Runs}
use Rattle.qc_interp.proofs.Branching.Plans.{BodyFits, row_fits}
use Rattle.qc_interp.proofs.Branching.Branches.{HaveOwnNumbers}
use Rattle.qc_interp.proofs.Stepping.Ending.{user_is}
use Rattle.qc_interp.proofs.Scopes.Growth.{made_is}
use Rattle.qc_interp.proofs.Branching.MadeBy.{NoneOf, none_mine, none_under}
use Rattle.qc_interp.proofs.Rows.Ran.{WithOut, began_made, more_out}

-- THE BODIES

numbers_are : (bodies : List Numbered) → row_numbers (row_of bodies) ≡ map (λ (b : Numbered). b.number) bodies
numbers_are [] = refl
numbers_are (b ∷ bodies) = ap (λ l. b.number ∷ l) (numbers_are bodies)

module _ (setting : Setting) (depth : ℕ) (bodies : List Numbered) (rest : Plan) (fits : PlanFits setting depth (row_step bodies rest)) where
  pub fits_own : HaveOwnNumbers bodies
  fits_own = subst (IsDistinct ◌==◌) (numbers_are bodies) fits.5

  pub fits_some : 0 < length bodies
  fits_some = let some = fits.1 in omega (arith, some, row_length-row_of bodies)

  pub fits_each : AllByRecursion (BodyFits setting depth) bodies
  fits_each = row_fits setting depth bodies fits.3

  pub fits_tried : AllByRecursion (λ (b : Numbered). 0 < b.tries) bodies
  fits_tried = by_each bodies fits_each
    where
      by_each : (bs : List Numbered) → AllByRecursion (BodyFits setting depth) bs → AllByRecursion (λ (b : Numbered). 0 < b.tries) bs
      by_each [] all = tt
      by_each (b ∷ bs) all = (let some = all.0.1.0 in omega (arith, some), by_each bs all.1)

-- EACH MAY RUN

module _ (c : Client) (of : Name) (nonroot : 0 < length of) (seen : Past) (parent : Started seen of (λ e. IsUser e.kind)) where
  one_may : (v u : ClientView) (b one : StandingBranch) → WithOut c v.client → HasBegun v u of b → WasShown seen b one → BodyFits c.setting (length of) b.body → MayRun of one
  one_may v u b one same begun shown fits = record {
    root = ap (λ (x : Client). x.root) is;
    parent = subst (λ h. Started h of (λ e. IsUser e.kind)) (sym shown.since.grown) (started_still shown.since.newer seen of _ parent);
    nonroot = nonroot;
    depth = fits.0;
    legal = subst (λ (x : Client). Legal x.setting one.view.seen) (sym shown.client) shown.made.legal;
    is_one = subst (λ n. is_child of n ≡ true) (sym shown.first) begun.is_one;
    made = subst (λ (x : Client). mine x one.view.seen ≡ by_client x (event.Start one.first (kind.User x.session one.body.number)) ∷ []) (sym shown.client)
        (subst (λ n. mine b.view.client one.view.seen ≡ by_client b.view.client (event.Start n (kind.User b.view.client.session one.body.number)) ∷ []) (sym shown.first)
        (subst (λ (k : Numbered). mine b.view.client one.view.seen ≡ by_client b.view.client (event.Start b.first (kind.User b.view.client.session k.number)) ∷ []) (sym shown.body) own_start));
    tried = subst (λ (k : Numbered). 0 < k.tries) (sym shown.body) (let some = fits.1.0 in omega (arith, some));
    fits = subst (λ (k : Numbered). PlanFits one.view.client.setting (length of + 1) k.plan) (sym shown.body) (subst (λ s. PlanFits s (length of + 1) b.body.plan) (sym (ap (λ (x : Client). x.setting) is)) fits.2);
    met = shown.met;
  }
    where
      is_branch : b.view.client ≡ branch_of c b.view.client.number of
      is_branch = begun.client ∙ ap (λ (x : Client). branch_of x b.view.client.number of) same.1

      is : one.view.client ≡ branch_of c b.view.client.number of
      is = shown.client ∙ is_branch

      own_start : mine b.view.client one.view.seen ≡ by_client b.view.client (event.Start b.first (kind.User b.view.client.session b.body.number)) ∷ []
      own_start =
          made_is b.view.client [] b.view.seen one.view.seen shown.made ∙ ap (mine b.view.client) begun.seen
          ∙ made_is b.view.client _ v.seen u.seen begun.branch_made
          ∙ ap (λ l. by_client b.view.client (event.Start b.first (kind.User b.view.client.session b.body.number)) ∷ l)
          (none_mine b.view.client v.seen (subst (λ x. NoneOf x v.seen) (sym is_branch) (none_under b.view.client.number v.seen begun.none)))

  pub each_may : (v w : ClientView) (bs ones : List StandingBranch) → WithOut c v.client → BeganInTurn v of bs w → InPairs (WasShown seen) bs ones → AllByRecursion (BodyFits c.setting (length of)) (map (λ (b : StandingBranch). b.body) bs) → AllByRecursion (MayRun of) ones
  each_may v w [] [] same began shown fits = tt
  each_may v w [] (o ∷ ones) same began shown fits = absurd shown
  each_may v w (b ∷ bs) [] same began shown fits = absurd shown
  each_may v w (b ∷ bs) (o ∷ ones) same (u, begun, rest) shown fits =
      (one_may v u b o same begun shown.0 fits.0, each_may u w bs ones (more_out c of v u b same begun) rest shown.1 fits.1)

-- where the starts of all were shown, each may run
pub may_run : (v w : ClientView) (of : Name) (bs ones : List StandingBranch) → Runs v.client of v.seen → BeganInTurn v of bs w → InPairs (WasShown w.seen) bs ones → AllByRecursion (BodyFits v.client.setting (length of)) (map (λ (b : StandingBranch). b.body) bs) → AllByRecursion (MayRun of) ones
may_run v w of bs ones runs began shown fits =
    let m = began_made v.client of v w bs (v.client.out, refl) runs.legal began in
    each_may v.client of runs.nonroot w.seen (subst (λ h. Started h of (λ e. IsUser e.kind)) (sym m.grown) (started_still m.newer v.seen of _ (user_is v.client.session v.seen of runs.user))) v w bs ones (v.client.out, refl) began shown fits
