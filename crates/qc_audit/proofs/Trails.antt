-- The entry of a trail that may not come next.
use Rattle.std.proofs.Common.{◌≡◌, ℕ, ◌<◌, inl, inr, List, length, take, get_or, reverse, sym, ap, ◌∙◌, subst}
use Rattle.std.specs.Prelude.{Option, Some, MatchOption}
use Rattle.std.proofs.lemmas.Option.{slice_get-get_or, slice_get_cases}
use Rattle.qc_event.specs.declared.event.Entry.{Entry}
use Rattle.qc_event.specs.Base.{Setting}
use Rattle.qc_event.specs.Legal.{Legal, Allowed}
use Rattle.qc_check.proofs.Fronts.{allowed_at}
use Rattle.qc_audit.specs.Illegal.{IsFirstIllegal}

module _ (setting : Setting) (trail : List Entry) (i : ℕ) where
  IsNotAllowed : Option Entry → Type 0
  IsNotAllowed o = MatchOption o ⊥ (λ e. Allowed setting (reverse (take i trail)) e → ⊥)

  -- an entry that may not come next is the first such
  pub is_first : (e : Entry) → i < length trail → e ≡ get_or trail i e → Legal setting (reverse (take i trail)) → (Allowed setting (reverse (take i trail)) e → ⊥) → IsFirstIllegal setting trail i
  unfolding IsNotAllowed
  is_first e lt item legal refused = record {
    within = lt;
    legal_before = legal;
    not_allowed = subst IsNotAllowed (sym (slice_get-get_or trail i e lt ∙ ap Some (sym item))) refused;
  }

  -- a trail that has one is no legal history
  pub not_legal : IsFirstIllegal setting trail i → Legal setting (reverse trail) → ⊥
  unfolding IsNotAllowed
  not_legal first legal = elim (slice_get_cases trail i).1 [
    | inl there ↦ subst IsNotAllowed there.2 first.not_allowed (allowed_at setting trail i there.0 there.1 (sym there.3) legal)
    | inr over ↦ subst IsNotAllowed over.1 first.not_allowed
  ]
