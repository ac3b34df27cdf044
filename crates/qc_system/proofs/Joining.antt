-- What the first pass has once the passes of the ledger and of the copies are joined into it.
use Rattle.std.proofs.Common.{◌≡◌, ℕ, ◌<◌, ◌≤◌, ◌⊎◌, inl, inr, [], ◌∷◌, ◌++◌, refl, sym, ap, ◌∙◌, arith, subst}
use Rattle.qc_event.specs.History.{Past}
use Rattle.qc_desk.specs.Calling.{SeesMore}
use Rattle.qc_desk.specs.declared.view.View.{View}
use Rattle.qc_desk.specs.Entries.{entries_of}
use Rattle.qc_desk.specs.Rules.{Has, IsSettled, joined, knows}
use Rattle.qc_desk.proofs.Having.{has_both, has_cons, has_left, has_none}
use Rattle.qc_system.specs.Parts.{JoinsLow}

pub low_itself : (v : View) → JoinsLow v v
low_itself v = record { mine = refl; still = λ k own h. h; no_other = λ k own lt h. h }

-- a pass that has seen more joins none
pub low_sees : (v w : View) → SeesMore v w → JoinsLow v w
low_sees v w sees = record {
  mine = sees.mine;
  still = λ k own h. subst (λ l. Has l (k, own)) (sym sees.kin) h;
  no_other = λ k own lt h. subst (λ l. Has l (k, own)) sees.kin h;
}

pub low_by_both : (a b c : View) → JoinsLow a b → JoinsLow b c → JoinsLow a c
low_by_both a b c one two = record {
  mine = two.mine ∙ one.mine;
  still = λ k own h. two.still k own (one.still k own h);
  no_other = λ k own lt h. one.no_other k own lt (two.no_other k own lt h);
}

abbrev pair : ℕ → Past → ℕ × Past
pair number own = (number, own)

-- a pass of a low number, into which none was joined, is joined
pub joins_low : (v other w : View) → other.number ≤ 17 → other.kin ≡ [] → w ≡ knows w.seen (joined v other) → JoinsLow v w
joins_low v other w low none is = record {
  mine = ap (λ (x : View). x.mine) is;
  still = λ k own h. subst (λ l. Has l (k, own)) (sym kin) (has_left v.kin (pair other.number other.mine ∷ []) (pair k own) h);
  no_other = λ k own lt h. by_place k own lt (let at = subst (λ l. Has l (k, own)) kin h in has_both v.kin (pair other.number other.mine ∷ []) (pair k own) at.0 at.1);
}
  where
    kin : w.kin ≡ v.kin ++ pair other.number other.mine ∷ []
    kin = ap (λ (x : View). x.kin) is ∙ ap (λ l. v.kin ++ pair other.number other.mine ∷ l) none

    by_last : (k : ℕ) (own : Past) → 17 < k → (pair other.number other.mine ≡ pair k own) ⊎ Has [] (pair k own) → Has v.kin (k, own)
    by_last k own lt (inl same) = absurd (omega (arith, lt, low, ap (λ (p : ℕ × Past). p.0) same))
    by_last k own lt (inr h) = absurd (has_none (pair k own) h)

    by_place : (k : ℕ) (own : Past) → 17 < k → Has v.kin (k, own) ⊎ Has (pair other.number other.mine ∷ []) (pair k own) → Has v.kin (k, own)
    by_place k own lt (inl h) = h
    by_place k own lt (inr h) = by_last k own lt (has_cons (pair other.number other.mine) (pair k own) [] h.0 h.1)

-- the closed history is settled by what the pass was before these were joined
pub settled_before : (v w : View) (log : Past) → JoinsLow v w → IsSettled log w → IsSettled log v
settled_before v w log low settled = (
  settled.0 ∙ low.mine,
  λ k own h. settled.1 k own (low.still k own h),
  λ k lt. by_client k lt (settled.2 k lt),
)
  where
    by_client : (k : ℕ) → 17 < k → (entries_of k log ≡ []) ⊎ Has w.kin (k, entries_of k log) → (entries_of k log ≡ []) ⊎ Has v.kin (k, entries_of k log)
    by_client k lt (inl none) = inl none
    by_client k lt (inr h) = inr (low.no_other k (entries_of k log) lt h)
