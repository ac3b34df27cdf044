-- What a history says of a name stands in one of its entries.
use Rattle.std.proofs.Common.{◌≡◌, ℕ, suc, ◌<◌, Bool, true, false, List, [], ◌∷◌, length, get_or, reverse, refl, sym, ap, ◌∙◌, arith}
use Rattle.std.specs.Prelude.{Option, None, Some, if◌then◌else◌}
use Rattle.std.specs.Option.{option_or}
use Rattle.std.specs.List.{list_any}
use Rattle.std.proofs.lemmas.List.{reverse-append}
use Rattle.std.proofs.lemmas.List.Sorted.{list_any-IsPermutation, IsPermutation-reverse}
use Rattle.qc_event.specs.declared.event.Entry.{Entry}
use Rattle.qc_event.specs.declared.event.Event.{Event}
use Rattle.qc_event.specs.declared.event.Event.TheVariants as event
use Rattle.qc_event.specs.declared.event.How.{How}
use Rattle.qc_event.specs.History.{Name, earliest, end, end_in, same}
use Rattle.qc_event.proofs.Histories.{earliest-append}
use Rattle.qc_event.proofs.Absent.{same_is}

-- a test of the entries does not mind their order
pub any_reversed : (test : Entry → Bool) (h : List Entry) → list_any test h ≡ list_any test (reverse h)
any_reversed test h = list_any-IsPermutation test h (reverse h) (IsPermutation-reverse h)

-- an entry that answers
abbrev pub AnswersSo : {Y : Type 0} → (Entry → Option Y) → List Entry → Y → Type 0
AnswersSo f h y = (j : ℕ) × (j < length h) × ((d : Entry) → f (get_or h j d) ≡ Some y)

module _ {Y : Type 0} (f : Entry → Option Y) where
  oldest_first : (e : Entry) (h : List Entry) → earliest f (reverse (e ∷ h)) ≡ option_or (f e) (earliest f (reverse h))
  oldest_first e h = ap (earliest f) (reverse-append (e ∷ []) h) ∙ earliest-append f (reverse h) (e ∷ [])

  -- the earliest answer is that of some entry
  pub stands : (h : List Entry) (y : Y) → earliest f (reverse h) ≡ Some y → AnswersSo f h y
  stands [] y is = absurd cc
  stands (e ∷ h) y is = pick (f e) refl (stands h y) (sym (oldest_first e h) ∙ is)
    where
      later : AnswersSo f h y → AnswersSo f (e ∷ h) y
      later (j, lt, at) = (suc j, omega arith, at)

      pick : (o : Option Y) → f e ≡ o → (earliest f (reverse h) ≡ Some y → AnswersSo f h y) → option_or o (earliest f (reverse h)) ≡ Some y → AnswersSo f (e ∷ h) y
      pick None own below rest = later (below rest)
      pick (Some z) own below rest = (0, omega arith, λ d. own ∙ rest)

-- an event that ends a name so
reads : (n : Name) (how : How) (ev : Event) → end_in n ev ≡ Some how → ev ≡ event.End n how
reads n how (event.End m given) is = by (same m n) refl is
  where
    by : (b : Bool) → same m n ≡ b → (if b then Some given else None) ≡ Some how → event.End m given ≡ event.End n how
    by true own e = let names : m ≡ n = same_is m n own in cc
    by false own e = absurd cc
reads n how _ is = absurd cc

-- one of some entries
pub an_entry : (h : List Entry) (j : ℕ) → j < length h → Entry
an_entry [] j lt = absurd (omega arith)
an_entry (e ∷ h) j lt = e

-- an end stands in an entry
pub end_stands : (h : List Entry) (n : Name) (how : How) → end (reverse h) n ≡ Some how → (j : ℕ) × (j < length h) × ((d : Entry) → (get_or h j d).event ≡ event.End n how)
end_stands h n how is = let at = stands (λ e. end_in n e.event) h how is in (at.0, at.1, λ d. reads n how (get_or h at.0 d).event (at.2 d))
