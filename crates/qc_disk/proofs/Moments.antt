-- One more act joins a record: what a crash may leave then, and what it might have left since.
use Rattle.std.proofs.Common.{◌≡◌, inl, inr, ℕ, ◌+◌, List, [], ◌∷◌, ◌++◌, length, sym, ◌∙◌, subst, arith, length-append, ◌<◌, ◌≤◌, ◌⊎◌}
use Rattle.std.specs.Prelude.{◌↔◌}
use Rattle.std.proofs.lemmas.List.{take-append-le, take_all}
use Rattle.std.proofs.lemmas.Bool.{cases_lt}
use Rattle.qc_disk.specs.Replay.{Act, does, leaves, replayed, left_after, images, images_at}

-- the images after one more act
pub left-push : (now : List ℕ) (was : List ℕ → Type 0) (acts : List Act) (act : Act) (c : List ℕ) → left_after now was (acts ++ act ∷ []) c → leaves act (replayed now acts) (left_after now was acts) c
left-push now was [] act c left = left
left-push now was (a ∷ acts) act c left = left-push (does a now) (leaves a now was) acts act c left

-- Time goes on, by the moment, by what a crash at each moment might have left, and by what it may leave.
pub record Passes (before now : ℕ) (past at : ℕ → List ℕ → Type 0) (left leaves : List ℕ → Type 0) : Type 0 where
  pub later : before ≤ now
  pub earlier : (t : ℕ) (c : List ℕ) → t < before → at t c ↔ past t c
  pub inside : (t : ℕ) (c : List ℕ) → before ≤ t → t ≤ now → at t c → left c ⊎ leaves c
  pub until : (t : ℕ) (c : List ℕ) → before ≤ t → t < now → left c → at t c

-- time goes on by one act
elapses-push : (first : List ℕ) (acts : List Act) (act : Act) → Passes (length acts) (length (acts ++ act ∷ [])) (images_at first acts) (images_at first (acts ++ act ∷ [])) (images first acts) (images first (acts ++ act ∷ []))
elapses-push first acts act =
    let more = acts ++ act ∷ [] in
    let size : length more ≡ length acts + 1 = length-append acts (act ∷ []) in
    record {
      later = omega (arith, size);
      earlier = λ t c early.
          let same = take-append-le t acts (act ∷ []) (omega (arith, early)) in
          (λ left. subst (λ (l : List Act). images first l c) same left, λ left. subst (λ (l : List Act). images first l c) (sym same) left);
      inside = λ t c from last left.
          elim (cases_lt t (length more)) [
            | inl below ↦ inl (subst (λ (l : List Act). images first l c) (take-append-le t acts (act ∷ []) (omega (arith, below, size)) ∙ take_all t acts from) left)
            | inr long ↦ inr (subst (λ (l : List Act). images first l c) (take_all t more long) left)
          ];
      until = λ t c from early left. subst (λ (l : List Act). images first l c) (sym (take-append-le t acts (act ∷ []) (omega (arith, early, size)) ∙ take_all t acts from)) left;
    }

-- the same, where the record is known to be one act longer
pub elapses-applied : (first first' : List ℕ) (acts acts' : List Act) (act : Act) → first' ≡ first → acts' ≡ acts ++ act ∷ []
    → Passes (length acts) (length acts') (images_at first acts) (images_at first' acts') (images first acts) (images first' acts')
elapses-applied first first' acts acts' act same more =
    subst (λ (f : List ℕ). Passes (length acts) (length acts') (images_at first acts) (images_at f acts') (images first acts) (images f acts')) (sym same)
    (subst (λ (l : List Act). Passes (length acts) (length l) (images_at first acts) (images_at first l) (images first acts) (images first l)) (sym more) (elapses-push first acts act))

-- no time goes by where the record stays
pub elapses-same : (first first' : List ℕ) (acts acts' : List Act) → first' ≡ first → acts' ≡ acts
    → Passes (length acts) (length acts') (images_at first acts) (images_at first' acts') (images first acts) (images first' acts')
elapses-same first first' acts acts' same stays =
    subst (λ (f : List ℕ). Passes (length acts) (length acts') (images_at first acts) (images_at f acts') (images first acts) (images f acts')) (sym same)
    (subst (λ (l : List Act). Passes (length acts) (length l) (images_at first acts) (images_at first l) (images first acts) (images first l)) (sym stays)
    (record {
      later = omega arith;
      earlier = λ t c early. (λ left. left, λ left. left);
      inside = λ t c from last left. inl (subst (λ (l : List Act). images first l c) (take_all t acts from) left);
      until = λ t c from early left. absurd (omega (arith, from, early));
    }))

-- the images where the record is known to be one act longer
pub leaves-applied : (first first' : List ℕ) (acts acts' : List Act) (act : Act) → first' ≡ first → acts' ≡ acts ++ act ∷ []
    → (c : List ℕ) → images first' acts' c → leaves act (replayed first acts) (images first acts) c
leaves-applied first first' acts acts' act same more c left =
    let there : images first acts' c = subst (λ (f : List ℕ). images f acts' c) same left in
    left-push first (λ d. d ≡ first) acts act c (subst (λ (l : List Act). images first l c) more there)
