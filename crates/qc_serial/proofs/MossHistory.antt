-- Outcomes, the dead, and what is shown, as the moves go on.
use Rattle.std.proofs.Common.{ℕ, ◌≡◌, ◌||◌, true, List, [], ◌∷◌, length, refl, sym, ap, ◌∙◌, subst, inl, inr, ◌⊎◌, arith}
use Rattle.std.proofs.lemmas.Bool.{and_parts, and_from, or_cases, or_left, or_right, cond-true, cond-false, cases_lt}
use Rattle.qc_config.specs.declared.tuple.Tuple.{Tuple}
use Rattle.qc_event.specs.declared.event.Outcome.{Outcome}
use Rattle.qc_event.specs.declared.event.Outcome.TheVariants.{Live, Committed, Aborted}
use Rattle.qc_event.specs.History.{same}
use Rattle.qc_event.specs.Dead.{is_committed, is_aborted}
use Rattle.qc_serial.proofs.MossNames.{Line, IsAbove, is_above, same_from, same_not, cases_name, above-refl, above-parent, above-trans, above-both, above-not-up, is_above-true, is_above-from, cases_above}
use Rattle.qc_serial.proofs.MossMoves.{Place, Move, Granted, Commit, Abort, outcome, is_dead, is_shown}
use Rattle.qc_serial.proofs.MossLocks.{AllLive, MayMove}

-- the outcome of an entry's own name, and of every other
pub commit-own : (h : List Move) (k : ℕ) (p n : Line) → k ∷ p ≡ n → outcome (Commit k p ∷ h) n ≡ Committed
commit-own h k p n e = cond-true (same (k ∷ p) n) Committed (outcome h n) (same_from (k ∷ p) n e)

pub commit-other : (h : List Move) (k : ℕ) (p n : Line) → (k ∷ p ≡ n → ⊥) → outcome (Commit k p ∷ h) n ≡ outcome h n
commit-other h k p n ne = cond-false (same (k ∷ p) n) Committed (outcome h n) (same_not (k ∷ p) n ne)

pub abort-own : (h : List Move) (k : ℕ) (p n : Line) → k ∷ p ≡ n → outcome (Abort k p ∷ h) n ≡ Aborted
abort-own h k p n e = cond-true (same (k ∷ p) n) Aborted (outcome h n) (same_from (k ∷ p) n e)

pub abort-other : (h : List Move) (k : ℕ) (p n : Line) → (k ∷ p ≡ n → ⊥) → outcome (Abort k p ∷ h) n ≡ outcome h n
abort-other h k p n ne = cond-false (same (k ∷ p) n) Aborted (outcome h n) (same_not (k ∷ p) n ne)

-- what is live was live before
pub live-before : (e : Move) (h : List Move) (n : Line) → outcome (e ∷ h) n ≡ Live → outcome h n ≡ Live
live-before (Granted g) h n l = l
live-before (Commit k p) h n l = elim (cases_name (k ∷ p) n) [
  | inl q ↦ absurd (let o = commit-own h k p n q in cc)
  | inr ne ↦ let o = commit-other h k p n ne in cc
]
live-before (Abort k p) h n l = elim (cases_name (k ∷ p) n) [
  | inl q ↦ absurd (let o = abort-own h k p n q in cc)
  | inr ne ↦ let o = abort-other h k p n ne in cc
]

pub all_live-before : (e : Move) (h : List Move) (n : Line) → AllLive (e ∷ h) n → AllLive h n
all_live-before e h n l = λ m a. live-before e h m (l m a)

pub all_live-up : (h : List Move) (m n : Line) → IsAbove m n → AllLive h n → AllLive h m
all_live-up h m n a l = λ x b. l x (above-trans x m n b a)

-- what is committed stays committed
pub committed-stays : (base : Place → Tuple) (e : Move) (h : List Move) (n : Line) → MayMove base h e → outcome h n ≡ Committed → outcome (e ∷ h) n ≡ Committed
committed-stays base (Granted g) h n al c = c
committed-stays base (Commit k p) h n al c = elim (cases_name (k ∷ p) n) [
  | inl q ↦ commit-own h k p n q
  | inr ne ↦ let o = commit-other h k p n ne in cc
]
committed-stays base (Abort k p) h n al c = elim (cases_name (k ∷ p) n) [
  | inl q ↦ absurd (let o : outcome h n ≡ Live = subst (λ (x : Line). outcome h x ≡ Live) q al in cc)
  | inr ne ↦ let o = abort-other h k p n ne in cc
]

-- what is aborted stays aborted
pub aborted-stays : (base : Place → Tuple) (e : Move) (h : List Move) (n : Line) → MayMove base h e → outcome h n ≡ Aborted → outcome (e ∷ h) n ≡ Aborted
aborted-stays base (Granted g) h n al c = c
aborted-stays base (Commit k p) h n al c = elim (cases_name (k ∷ p) n) [
  | inl q ↦ absurd (let o : outcome h (k ∷ p) ≡ Live = al (k ∷ p) (above-refl (k ∷ p)) in let o' : outcome h n ≡ Live = subst (λ (x : Line). outcome h x ≡ Live) q o in cc)
  | inr ne ↦ let o = commit-other h k p n ne in cc
]
aborted-stays base (Abort k p) h n al c = elim (cases_name (k ∷ p) n) [
  | inl q ↦ abort-own h k p n q
  | inr ne ↦ let o = abort-other h k p n ne in cc
]

-- a dead name has an aborted ancestor
pub record Killer (h : List Move) (n : Line) : Type 0 where
  pub who : Line
  pub above : IsAbove who n
  pub gone : outcome h who ≡ Aborted

is_aborted-true : (o : Outcome) → is_aborted o ≡ true → o ≡ Aborted
is_aborted-true Live e = cc
is_aborted-true Committed e = cc
is_aborted-true Aborted e = refl

pub is_committed-true : (o : Outcome) → is_committed o ≡ true → o ≡ Committed
is_committed-true Live e = cc
is_committed-true Committed e = refl
is_committed-true Aborted e = cc

pub dead-killer : (h : List Move) (n : Line) → is_dead h n ≡ true → Killer h n
dead-killer h [] e = record { who = []; above = refl; gone = is_aborted-true (outcome h []) e }
dead-killer h (k ∷ p) e = elim (or_cases (is_aborted (outcome h (k ∷ p))) (is_dead h p) e) [
  | inl a ↦ record { who = k ∷ p; above = inl refl; gone = is_aborted-true (outcome h (k ∷ p)) a }
  | inr d ↦ let w = dead-killer h p d in record { who = w.who; above = inr w.above; gone = w.gone }
]

pub killer-dead : (h : List Move) (n m : Line) → IsAbove m n → outcome h m ≡ Aborted → is_dead h n ≡ true
killer-dead h [] m a g = ap is_aborted (subst (λ (x : Line). outcome h x ≡ Aborted) a g)
killer-dead h (k ∷ p) m (inl a) g = or_left (is_aborted (outcome h (k ∷ p))) (is_dead h p) (ap is_aborted (subst (λ (x : Line). outcome h x ≡ Aborted) a g))
killer-dead h (k ∷ p) m (inr a) g = or_right (is_aborted (outcome h (k ∷ p))) (is_dead h p) (killer-dead h p m a g)

pub dead-stays : (base : Place → Tuple) (e : Move) (h : List Move) (n : Line) → MayMove base h e → is_dead h n ≡ true → is_dead (e ∷ h) n ≡ true
dead-stays base e h n al d = let w = dead-killer h n d in killer-dead (e ∷ h) n w.who w.above (aborted-stays base e h w.who al w.gone)

pub live-not-dead : (h : List Move) (n : Line) → AllLive h n → is_dead h n ≡ true → ⊥
live-not-dead h n l d = let w = dead-killer h n d in let o = l w.who w.above in let g = w.gone in cc

-- what is shown
abbrev pub Shown : List Move → Line → Line → Type 0
Shown h b a = (m : Line) → IsAbove m b → (outcome h m ≡ Committed) ⊎ IsAbove m a

part : (h : List Move) (m a : Line) → (is_committed (outcome h m) || is_above m a) ≡ true → (outcome h m ≡ Committed) ⊎ IsAbove m a
part h m a e = elim (or_cases (is_committed (outcome h m)) (is_above m a) e) [
  | inl c ↦ inl (is_committed-true (outcome h m) c)
  | inr i ↦ inr (is_above-true m a i)
]

part-from : (h : List Move) (m a : Line) → (outcome h m ≡ Committed) ⊎ IsAbove m a → (is_committed (outcome h m) || is_above m a) ≡ true
part-from h m a (inl c) = or_left (is_committed (outcome h m)) (is_above m a) (ap is_committed c)
part-from h m a (inr i) = or_right (is_committed (outcome h m)) (is_above m a) (is_above-from m a i)

pub shown-all : (h : List Move) (b a : Line) → is_shown h b a ≡ true → Shown h b a
shown-all h [] a e = λ m q. subst (λ (x : Line). (outcome h x ≡ Committed) ⊎ IsAbove x a) (sym q) (part h [] a e)
shown-all h (k ∷ p) a e =
    let both = and_parts (is_committed (outcome h (k ∷ p)) || is_above (k ∷ p) a) (is_shown h p a) e in
    λ m w. elim w [
      | inl q ↦ subst (λ (x : Line). (outcome h x ≡ Committed) ⊎ IsAbove x a) (sym q) (part h (k ∷ p) a both.0)
      | inr u ↦ shown-all h p a both.1 m u
    ]

pub shown-from : (h : List Move) (b a : Line) → Shown h b a → is_shown h b a ≡ true
shown-from h [] a s = part-from h [] a (s [] refl)
shown-from h (k ∷ p) a s =
    and_from (is_committed (outcome h (k ∷ p)) || is_above (k ∷ p) a) (is_shown h p a) (part-from h (k ∷ p) a (s (k ∷ p) (inl refl))) (shown-from h p a (λ m u. s m (inr u)))

pub shown-stays : (base : Place → Tuple) (e : Move) (h : List Move) (b a : Line) → MayMove base h e → Shown h b a → Shown (e ∷ h) b a
shown-stays base e h b a al s = λ m u. elim (s m u) [ inl c ↦ inl (committed-stays base e h m al c) | inr v ↦ inr v ]

pub shown-down : (h : List Move) (b m a : Line) → IsAbove m a → Shown h b m → Shown h b a
shown-down h b m a u s = λ x v. elim (s x v) [ inl c ↦ inl c | inr w ↦ inr (above-trans x m a w u) ]

pub shown-self : (h : List Move) (b a : Line) → IsAbove b a → Shown h b a
shown-self h b a u = λ m v. inr (above-trans m b a v u)

-- what is shown to a live name is not dead
pub shown-not-dead : (h : List Move) (b a : Line) → AllLive h a → Shown h b a → is_dead h b ≡ true → ⊥
shown-not-dead h b a l s d =
    let w = dead-killer h b d in
    let g = w.gone in
    elim (s w.who w.above) [ inl c ↦ cc | inr u ↦ let o = l w.who u in cc ]

-- an ancestor that is live is one of the name that sees
pub shown-live : (h : List Move) (b a m : Line) → Shown h b a → IsAbove m b → outcome h m ≡ Live → IsAbove m a
shown-live h b a m s u l = elim (s m u) [ inl c ↦ absurd (cc) | inr v ↦ v ]

-- an abort shows nothing new
pub shown-abort : (h : List Move) (k : ℕ) (p b a : Line) → Shown (Abort k p ∷ h) b a → Shown h b a
shown-abort h k p b a s = λ m u. elim (s m u) [
  | inl c ↦ elim (cases_name (k ∷ p) m) [ inl q ↦ absurd (let o = abort-own h k p m q in cc) | inr ne ↦ let o = abort-other h k p m ne in inl (cc) ]
  | inr v ↦ inr v
]

-- a commit shows to a live name what was shown to it, and, below the parent, what was shown to the child
pub record Through (h : List Move) (k : ℕ) (p b a : Line) : Type 0 where
  pub parent : IsAbove p a
  pub under : IsAbove (k ∷ p) b
  pub shown : Shown h b (k ∷ p)

shown-but : (h : List Move) (k : ℕ) (p b a : Line) → Shown (Commit k p ∷ h) b a → (IsAbove (k ∷ p) b → ⊥) → Shown h b a
shown-but h k p b a s out = λ m u. elim (s m u) [
  | inl c ↦ elim (cases_name (k ∷ p) m) [
    | inl q ↦ absurd (out (subst (λ (x : Line). IsAbove x b) (sym q) u))
    | inr ne ↦ let o = commit-other h k p m ne in inl (cc)
  ]
  | inr v ↦ inr v
]

-- a live name is at or below no child that just committed
not_under : (h : List Move) (k : ℕ) (p a : Line) → AllLive (Commit k p ∷ h) a → IsAbove (k ∷ p) a → ⊥
not_under h k p a l w = let o = l (k ∷ p) w in let c = commit-own h k p (k ∷ p) refl in cc

above_child : (h : List Move) (k : ℕ) (p b a m : Line) → AllLive (Commit k p ∷ h) a → IsAbove (k ∷ p) b → IsAbove m b → IsAbove m a → IsAbove m (k ∷ p)
above_child h k p b a m l under u v = elim (cases_lt (length m) (length (k ∷ p))) [
  | inl lt ↦ above-both m (k ∷ p) b u under (omega arith)
  | inr ge ↦ absurd (not_under h k p a l (above-trans (k ∷ p) m a (above-both (k ∷ p) m b under u ge) v))
]

shown-below : (h : List Move) (k : ℕ) (p b a : Line) → AllLive (Commit k p ∷ h) a → Shown (Commit k p ∷ h) b a → IsAbove (k ∷ p) b → Shown h b (k ∷ p)
shown-below h k p b a l s under = λ m u. elim (s m u) [
  | inl c ↦ elim (cases_name (k ∷ p) m) [
    | inl q ↦ inr (subst (λ (x : Line). IsAbove x (k ∷ p)) q (above-refl (k ∷ p)))
    | inr ne ↦ let o = commit-other h k p m ne in inl (cc)
  ]
  | inr v ↦ inr (above_child h k p b a m l under u v)
]

pub shown-commit : (h : List Move) (k : ℕ) (p b a : Line) → AllLive h (k ∷ p) → AllLive (Commit k p ∷ h) a → Shown (Commit k p ∷ h) b a → Shown h b a ⊎ Through h k p b a
shown-commit h k p b a al l s = elim (cases_above (k ∷ p) b) [
  | inl under ↦
      let was : outcome h p ≡ Live = al p (inr (above-refl p)) in
      let is : outcome (Commit k p ∷ h) p ≡ Live = commit-other h k p p (λ q. above-not-up k p (subst (λ (x : Line). IsAbove x p) (sym q) (above-refl p))) ∙ was in
      inr (record {
        parent = shown-live (Commit k p ∷ h) b a p s (above-parent k p b under) is;
        under = under;
        shown = shown-below h k p b a l s under;
      })
  | inr out ↦ inl (shown-but h k p b a s out)
]

pub shown-through : (h : List Move) (k : ℕ) (p b a : Line) → AllLive h (k ∷ p) → Shown h b (k ∷ p) → IsAbove p a → Shown (Commit k p ∷ h) b a
shown-through h k p b a al s up = λ m u. elim (s m u) [
  | inl c ↦ elim (cases_name (k ∷ p) m) [
    | inl q ↦ inl (commit-own h k p m q)
    | inr ne ↦ let o = commit-other h k p m ne in inl (cc)
  ]
  | inr v ↦ elim v [
    | inl q ↦ inl (commit-own h k p m (sym q))
    | inr w ↦ inr (above-trans m p a w up)
  ]
]
