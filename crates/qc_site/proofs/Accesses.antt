-- The names of accesses, with one more.
use Rattle.std.proofs.Common.{◌≡◌, ◌≢◌, List, [], ◌∷◌, ◌++◌, length, refl, sym, ap, ◌∙◌, subst, arith, cond, length-append}
use mathlib.Core.Bool.{true≢false}
use Rattle.std.specs.Prelude.{◌↔◌, All, Bool, true, false}
use Rattle.std.specs.Str.{bytes_eq}
use Rattle.std.specs.Ordering.{nat_cmp}
use Rattle.std.specs.Cmp.Lexicographic.{slice_cmp}
use Rattle.std.specs.BTreeMap.{is_at}
use Rattle.std.specs.BTreeSet.{BTreeSet, Updates, contains}
use Rattle.std.proofs.Math.Seq.{get_or-append_seam}
use Rattle.std.proofs.lemmas.List.{get_or_append_left}
use Rattle.std.proofs.lemmas.List.Elements.{All-push}
use Rattle.std.proofs.lemmas.Map.Text.{is_eq-slice_cmp}
use Rattle.std.proofs.lemmas.Slice.Eq.{bytes_eq-Decides}
use Rattle.qc_event.specs.declared.event.Grant.{Grant}
use Rattle.qc_event.specs.History.{Name}
use Rattle.qc_site.specs.Granted.{AreAccesses}

module _ (P : Grant → Type 0) (grants : List Grant) (g : Grant) where
  all_front : All P (grants ++ g ∷ []) → All P grants
  all_front all k d within = subst P (get_or_append_left grants (g ∷ []) d k within) (all k d (omega (arith, within, length-append grants (g ∷ []))))

  all_last : All P (grants ++ g ∷ []) → P g
  all_last all = subst P (get_or-append_seam grants g [] g) (all (length grants) g (omega (arith, length-append grants (g ∷ []))))

-- with the access of one grant more they are the accesses of the grants
pub accesses_more : (old new : BTreeSet Name) (grants : List Grant) (g : Grant) → Updates (slice_cmp nat_cmp) old new g.access true → AreAccesses old grants → AreAccesses new (grants ++ g ∷ [])
accesses_more old new grants g updates are q = by (bytes_eq g.access q) refl
  where
    at : (b : Bool) → bytes_eq g.access q ≡ b → is_at (slice_cmp nat_cmp g.access) q ≡ b
    at b is = is_eq-slice_cmp g.access q ∙ is

    by : (b : Bool) → bytes_eq g.access q ≡ b → (contains (slice_cmp nat_cmp) new q ≡ false) ↔ All (λ (h : Grant). h.access ≢ q) (grants ++ g ∷ [])
    by true is = (
      (λ absent. absurd (true≢false (sym (updates.0 q ∙ ap (λ b. cond b true (contains (slice_cmp nat_cmp) old q)) (at true is)) ∙ absent))),
      (λ all. absurd (all_last (λ (h : Grant). h.access ≢ q) grants g all ((bytes_eq-Decides g.access q).0 is))),
    )
    by false is =
        let other : contains (slice_cmp nat_cmp) new q ≡ contains (slice_cmp nat_cmp) old q = updates.2 q (at false is) in (
          (λ absent. All-push (λ (h : Grant). h.access ≢ q) grants g ((are q).0 (sym other ∙ absent)) (λ same. true≢false (sym ((bytes_eq-Decides g.access q).1 same) ∙ is))),
          (λ all. other ∙ (are q).1 (all_front (λ (h : Grant). h.access ≢ q) grants g all)),
        )
