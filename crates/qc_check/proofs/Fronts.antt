-- The entries of a legal history are allowed by those before them.
use Rattle.std.proofs.Common.{◌≡◌, ℕ, ◌+◌, ◌<◌, List, [], ◌∷◌, ◌++◌, length, take, drop, get_or, reverse, sym, subst}
use Rattle.qc_event.specs.declared.event.Entry.{Entry}
use Rattle.qc_event.specs.Base.{Setting}
use Rattle.qc_event.specs.History.{Past}
use Rattle.qc_event.specs.Legal.{Legal, Allowed}
use Rattle.qc_event.proofs.Histories.{parted}

module _ (setting : Setting) where
  legal_front : (later past : Past) → Legal setting (later ++ past) → Legal setting past
  legal_front [] past legal = legal
  legal_front (e ∷ later) past legal = legal_front later past legal.0

  pub allowed_at : (h : List Entry) (i : ℕ) (e : Entry) → i < length h → e ≡ get_or h i e → Legal setting (reverse h) → Allowed setting (reverse (take i h)) e
  allowed_at h i e lt item legal =
      let at : Allowed setting (reverse (take i h)) (get_or h i e) = (legal_front (reverse (drop (i + 1) h)) (get_or h i e ∷ reverse (take i h)) (subst (Legal setting) (parted h i e lt) legal)).1 in
      subst (Allowed setting (reverse (take i h))) (sym item) at
