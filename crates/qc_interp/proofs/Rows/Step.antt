-- A step that runs bodies at once, by what each call of it left, where the code holds each branch in some way.
use Rattle.std.proofs.Common.{◌≡◌, ◌<◌, List, [], ◌∷◌, ◌++◌, map, length, refl, sym, ap, ◌∙◌, subst, arith}
use Rattle.std.specs.Prelude.{◌==◌}
use Rattle.std.specs.List.{AllByRecursion, IsDistinct}
use Rattle.std.proofs.lemmas.List.{length-map}
use Rattle.qc_event.specs.History.{Past, Name, limit}
use Rattle.qc_event.specs.declared.short.Short.{Short}
use Rattle.qc_event.specs.Wants.{IsWant}
use Rattle.qc_script.specs.declared.tx.TxNo.{TxNo}
use Rattle.qc_script.specs.declared.tx.TxNo.TheVariants as tx_no
use Rattle.qc_script.specs.Client.{Client, ClientView, Made}
use Rattle.qc_script.specs.Plan.{Plan, Numbered, PlanFits}
use Rattle.qc_interp.specs.AtOnce.{StandingBranch, branch_in, BeganInTurn, BeganSome, InPairs, WasShown, HasRun, MayRun, AreOut, MergedInTurn}
use Rattle.qc_interp.specs.Branches.{Branch, row_step}
use Rattle.qc_interp.specs.Running.{Runs}
use Rattle.qc_interp.proofs.Listing.Lists.{map_twice}
use Rattle.qc_interp.proofs.Branching.Plans.{BodyFits}
use Rattle.qc_interp.proofs.Rows.Done.{RowDone, all_become}
use Rattle.qc_interp.proofs.Rows.Fits.{fits_own, fits_some, fits_each, may_run}
use Rattle.qc_interp.proofs.Rows.Met.{merged_any, ran_met}
use Rattle.qc_interp.proofs.Rows.TurnedDone.{turned_want}
use Rattle.qc_interp.proofs.Rows.TurnedOut.{RowTurned}
use Rattle.qc_interp.proofs.Rows.Turning.{turned_out}
use Rattle.qc_interp.proofs.Rows.Whole.{same_numbers, all_out}

pub row_depth : (c : Client) (of : Name) (bodies : List Numbered) → PlanFits c.setting (length of) (row_step bodies Plan.done) → length of < 16
row_depth c of [] fits = absurd (let some = fits.1 in omega (arith, some))
row_depth c of (b ∷ bodies) fits = fits.3.0

pub shown_bodies : (seen : Past) (bs0 bs1 : List StandingBranch) → InPairs (WasShown seen) bs0 bs1 → map (λ (b : StandingBranch). b.body) bs1 ≡ map (λ (b : StandingBranch). b.body) bs0
shown_bodies seen [] [] h = refl
shown_bodies seen [] (b ∷ bs1) h = absurd h
shown_bodies seen (b ∷ bs0) [] h = absurd h
shown_bodies seen (b ∷ bs0) (b1 ∷ bs1) h = ap (λ k. k ∷ map (λ (y : StandingBranch). y.body) bs1) h.0.body ∙ ap (λ l. b.body ∷ l) (shown_bodies seen bs0 bs1 h.1)

-- where no branch is, none were given and merged
none_given : {A B : Type 0} (f : A → B) (news olds : List A) → length news ≡ length olds → map f news ≡ [] → olds ≡ []
none_given f [] [] long is = refl
none_given f [] (x ∷ olds) long is = absurd cc
none_given f (x ∷ news) olds long is = absurd cc

none_merged : (v w : ClientView) (ones : List StandingBranch) → MergedInTurn v ones w → ones ≡ [] → w ≡ v
none_merged v w [] merged is = merged
none_merged v w (b ∷ ones) merged is = absurd cc

-- The bodies were begun, and their branches shown the starts of all. `lent` are the branches before that, as they were lent to it.
module _ {B : Type 0} (st : B → StandingBranch) (of : Name) (v w1 w2 : ClientView) (items lent ones : List B) (bodies : List Numbered) (runs : Runs v.client of v.seen) (fits : PlanFits v.client.setting (length of) (row_step bodies Plan.done)) (all : lent ≡ items)
    (lent_shown : InPairs (WasShown w1.seen) (map st lent) (map st ones)) (same : w2.client ≡ w1.client) (made : Made w1.client [] w1.seen w2.seen) where
  shown : InPairs (WasShown w1.seen) (map st items) (map st ones)
  shown = subst (λ l. InPairs (WasShown w1.seen) (map st l) (map st ones)) all lent_shown

  -- all of them
  module _ (began : BeganInTurn v of (map st items) w1) (are : map (λ b. (st b).body) items ≡ bodies) where
    were : map (λ (b : StandingBranch). b.body) (map st items) ≡ bodies
    were = map_twice (λ (b : StandingBranch). b.body) st items ∙ are

    pub bodies_begun : map (λ b. (st b).body) ones ≡ bodies
    bodies_begun = sym (map_twice (λ (b : StandingBranch). b.body) st ones) ∙ shown_bodies w1.seen (map st items) (map st ones) shown ∙ were

    pub row_may : (back : List B) → back ≡ ones → AllByRecursion (MayRun of) (map st back)
    row_may back is = subst (λ l. AllByRecursion (MayRun of) (map st l)) (sym is) (may_run v w1 of (map st items) (map st ones) runs began shown (subst (AllByRecursion (BodyFits v.client.setting (length of))) (sym were) (fits_each v.client.setting (length of) bodies Plan.done fits)))

    module _ (back twos : List B) (is : back ≡ ones) (back_ran : InPairs HasRun (map st back) (map st twos)) (whole : List B) (merged_all : whole ≡ twos) where
      ran : InPairs HasRun (map st ones) (map st twos)
      ran = subst (λ l. InPairs HasRun (map st l) (map st twos)) is back_ran

      pub row_out : AreOut w2.client.out w2.client.net (map st whole)
      row_out = subst (λ l. AreOut w2.client.out w2.client.net (map st l)) (sym merged_all) (all_out of v w1 w2 (map st items) (map st ones) (map st twos) runs.legal began shown same (all_become (map st ones) (map st twos) ran) (ran_met (map st ones) (map st twos) ran))

      pub row_done : (w3 : ClientView) → MergedInTurn w2 (map st whole) w3 → RowDone of v w3 (map st twos) bodies
      row_done w3 whole_merged = record {
        w1 = w1;
        w2 = w2;
        bs0 = map st items;
        bs1 = map st ones;
        runs = runs;
        began = began;
        shown = shown;
        same = same;
        made = made;
        ran = ran;
        merged = merged;
        some = merged_any w2 w3 (map st twos) long merged;
        own = subst (λ l. IsDistinct ◌==◌ (map (λ (b : Numbered). b.number) l)) (sym kept) (fits_own v.client.setting (length of) bodies Plan.done fits);
        are = kept;
      }
        where
          merged : MergedInTurn w2 (map st twos) w3
          merged = subst (λ l. MergedInTurn w2 (map st l) w3) merged_all whole_merged

          kept : map (λ (b : Branch). b.body) (map branch_in (map st twos)) ≡ bodies
          kept = map_twice (λ (b : Branch). b.body) branch_in (map st twos) ∙ (same_numbers w1.seen (map st items) (map st ones) (map st twos) shown (all_become (map st ones) (map st twos) ran)).1 ∙ were

          long : 0 < length (map st twos)
          long =
              let some = fits_some v.client.setting (length of) bodies Plan.done fits in
              omega (arith, some, ap length kept, length-map (map branch_in (map st twos)) (λ (b : Branch). b.body), length-map (map st twos) branch_in)

  -- the first few, and the next was refused
  module _ (why : TxNo) (began : BeganSome v of (map st items) w1 why) (whole : List B) (merged_all : whole ≡ ones) where
    pub few_out : AreOut w2.client.out w2.client.net (map st whole)
    few_out = subst (λ l. AreOut w2.client.out w2.client.net (map st l)) (sym merged_all) (turned_out of v w1 w2 (map st items) (map st ones) why runs began shown same made)

    module _ (w3 : ClientView) (whole_merged : MergedInTurn w2 (map st whole) w3) (others : (others : List Numbered) × (0 < length others) × (bodies ≡ map (λ b. (st b).body) items ++ others)) (firsts : List Name) (are : firsts ≡ map (λ b. (st b).first) ones) where
      merged : MergedInTurn w2 (map st ones) w3
      merged = subst (λ l. MergedInTurn w2 (map st l) w3) merged_all whole_merged

      pub row_turned : RowTurned of v w3 bodies why firsts
      row_turned = record {
        begun = w1;
        seen_by_all = w2;
        bs = map st items;
        ones = map st ones;
        others = others.0;
        runs = runs;
        began = began;
        shown = shown;
        same = same;
        made = made;
        merged = merged;
        first = others.2 ∙ ap (λ l. l ++ others.0) (sym (map_twice (λ (b : StandingBranch). b.body) st items));
        some = others.1;
        then = Plan.done;
        fits = fits;
        are = are ∙ sym (map_twice (λ (b : StandingBranch). b.first) st ones);
      }

      -- where there was no room to begin that one, there is none
      pub row_want : length ones ≡ length lent → (lent ≡ [] → w2.seen ≡ w1.seen) → (s : Short) → why ≡ tx_no.Short s → IsWant w3.seen s
      unfolding row_turned
      row_want long idle = turned_want row_turned (λ empty. ap (λ (x : ClientView). x.seen) (none_merged w2 w3 (map st ones) merged empty) ∙ idle (none_given st ones lent long empty))
