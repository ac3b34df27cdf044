-- The fronts of some deeds, and what none of them is.
use Rattle.std.proofs.Common.{◌≡◌, ◌⊎◌, inl, inr, true, false, List, [], ◌∷◌, ◌++◌, sym, ap, subst}
use mathlib.Core.Bool.{true≢false}
use Rattle.qc_event.specs.History.{Past, end}
use Rattle.qc_interp.specs.Deeds.{Deed, deeds}
use Rattle.qc_interp.specs.Follows.{AfterRow, FollowsPlan, RunsRow}
use Rattle.qc_interp.specs.Reach.{Reach}
use Rattle.qc_interp.specs.Rows.{AreAtOnce, each_begun, each_tried, first_failed}
use Rattle.qc_script.specs.Plan.{Plan}
use Rattle.rows_laws.specs.Trails.{top}

-- it is so of one of the fronts of some deeds, and what stands behind it
abbrev pub OfOneFront : (List Deed → List Deed → Type 0) → List Deed → Type 0
OfOneFront P [] = P [] []
OfOneFront P (d ∷ ds) = P [] (d ∷ ds) ⊎ OfOneFront (λ here further. P (d ∷ here) further) ds

one_front : (P : List Deed → List Deed → Type 0) (ds here further : List Deed) → ds ≡ here ++ further → P here further → OfOneFront P ds
one_front P [] [] further is h = subst (P []) (sym is) h
one_front P [] (x ∷ here) further is h = absurd cc
one_front P (d ∷ ds) [] further is h = inl (subst (P []) (sym is) h)
one_front P (d ∷ ds) (x ∷ here) further is h = inr (one_front (λ here further. P (d ∷ here) further) ds here further (ap tail is) (subst (λ y. P (y ∷ here) further) (sym same) h))
  where
    tail : List Deed → List Deed
    tail [] = []
    tail (y ∷ l) = l

    same : d ≡ x
    same = cc

-- by what stands of branches at once, and behind them
abbrev pub StandsAt : Past → Plan → Plan → List Deed → List Deed → Type 0
StandsAt past branches rest here further =
    AreAtOnce past branches here further × RunsRow Reach.to_the_end 0 past (each_begun past branches here) branches here
    × AfterRow Reach.to_the_end past top (each_tried past false branches here) (first_failed past branches here) (FollowsPlan 0 past top rest further (end past top)) further (end past top)

pub at_front : (past : Past) (branches rest : Plan) → FollowsPlan 0 past top (Plan.par_then branches rest) (deeds past top) (end past top) → OfOneFront (StandsAt past branches rest) (deeds past top)
at_front past branches rest f = one_front (StandsAt past branches rest) (deeds past top) f.0 f.1 f.2 (f.3, f.4, f.5)

-- no is not yes
pub no : {C : Type 0} → false ≡ true → C
no h = absurd (true≢false (sym h))

-- some deeds are not none
pub some_further : {C : Type 0} {d : Deed} {ds : List Deed} → d ∷ ds ≡ [] → C
some_further h = absurd cc
