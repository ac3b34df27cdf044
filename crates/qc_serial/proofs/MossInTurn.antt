-- The grants to children of one name stand, in the order that completion gives, as in the order of the moves.
use Rattle.std.proofs.Common.{ℕ, ◌≡◌, List, [], ◌∷◌, ◌++◌, length, refl, sym, ap, ◌∙◌, subst, inl, inr, ◌⊎◌, arith}
use Rattle.qc_config.specs.declared.tuple.Tuple.{Tuple}
use Rattle.qc_event.specs.declared.event.Outcome.TheVariants.{Live}
use Rattle.qc_event.specs.History.{Given}
use Rattle.qc_serial.proofs.MossNames.{Line, IsAbove, above-refl, above-length, above-not-up, above-one-child, cases_above}
use Rattle.qc_serial.proofs.MossMoves.{Place, access_of, Move, Granted, Commit, Abort, outcome, grants}
use Rattle.qc_serial.proofs.MossLocks.{In, AllLive, MovesFollow}
use Rattle.qc_serial.proofs.MossSerial.{walk, serial}
use Rattle.qc_serial.proofs.MossHistory.{all_live-before}
use Rattle.qc_serial.proofs.MossLists.{in-append, in-left, in-right}
use Rattle.qc_serial.proofs.MossWalks.{adds-grant, adds-commit, serial-abort, serial-same, walk-in, serial-in, split}
use Rattle.qc_serial.proofs.MossOrder.{free-if, child_differs, serial-empty}

-- one grant stands before another, in a list with the last first
abbrev pub IsBefore : List Given → Given → Given → Type 0
IsBefore [] x y = ⊥
IsBefore (z ∷ zs) x y = ((y ≡ z) × In x zs) ⊎ IsBefore zs x y

-- two children of one name
pub record Siblings (a b : Line) : Type 0 where
  pub parent : Line
  pub one : ℕ
  pub other : ℕ
  pub is_one : a ≡ one ∷ parent
  pub is_other : b ≡ other ∷ parent

-- the earlier of two grants to siblings stands before the later in a list of all
abbrev pub InTurn : List Given → List Given → Type 0
InTurn all [] = Unit {0}
InTurn all (y ∷ ys) = ((x : Given) → In x ys → Siblings (access_of x) (access_of y) → IsBefore all x y) × InTurn all ys

-- of siblings that were granted at most one is live
abbrev pub OneLive : List Move → Type 0
OneLive h = (b c : Given) → In b (grants h) → In c (grants h) → Siblings (access_of b) (access_of c) → outcome h (access_of b) ≡ Live → outcome h (access_of c) ≡ Live → access_of b ≡ access_of c

-- and so it was before each move
abbrev pub AlwaysOneLive : List Move → Type 0
AlwaysOneLive [] = Unit {0}
AlwaysOneLive (e ∷ h) = OneLive h × AlwaysOneLive h

in_turn_more : (g : Given) (all ys : List Given) → InTurn all ys → InTurn (g ∷ all) ys
in_turn_more g all [] turn = tt
in_turn_more g all (y ∷ ys) turn = (λ x i s. inr (turn.0 x i s), in_turn_more g all ys turn.1)

in_turn_insert : (all ys zs xs : List Given) → InTurn all (ys ++ xs) → InTurn all (zs ++ xs) → ((y z : Given) → In y ys → In z zs → Siblings (access_of z) (access_of y) → ⊥) → InTurn all (ys ++ (zs ++ xs))
in_turn_insert all [] zs xs ty tz apart = tz
in_turn_insert all (y ∷ ys) zs xs ty tz apart = (
  λ x i s. elim (in-append x ys (zs ++ xs) i) [
    | inl a ↦ ty.0 x (in-left x ys xs a) s
    | inr b ↦ elim (in-append x zs xs b) [
      | inl c ↦ absurd (apart y x (inl refl) c s)
      | inr c ↦ ty.0 x (in-right x ys xs c) s
    ]
  ],
  in_turn_insert all ys zs xs ty.1 tz (λ w z i j. apart w z (inr i) j),
)

-- what stands below a child of the access is no sibling of it
below_access : (d : ℕ) (a b : Line) → IsAbove (d ∷ a) b → Siblings a b → ⊥
below_access d a b under s =
    let long = above-length (d ∷ a) b under in
    let one = ap (length {A = ℕ}) s.is_one in
    let other = ap (length {A = ℕ}) s.is_other in
    omega (arith, long, one, other)

-- where two children of a name have siblings below them, they are these siblings
record Same (k d : ℕ) (p z y : Line) : Type 0 where
  is_one : z ≡ k ∷ p
  is_other : y ≡ d ∷ p

siblings_under : (k d : ℕ) (p z y : Line) → (d ≡ k → ⊥) → IsAbove (k ∷ p) z → IsAbove (d ∷ p) y → Siblings z y → Same k d p z y
siblings_under k d p z y differ uz uy s =
    elim z_under [
      | inr up ↦ absurd (differ (above-one-child d k p y uy (subst (IsAbove (k ∷ p)) (sym s.is_other) (inr up))))
      | inl at ↦
          let same : s.parent ≡ p = cc in
          elim y_under [
            | inr up ↦ absurd (above-not-up d p (subst (IsAbove (d ∷ p)) same up))
            | inl here ↦ record { is_one = s.is_one ∙ sym at; is_other = s.is_other ∙ sym here }
          ]
    ]
  where
    z_under : IsAbove (k ∷ p) (s.one ∷ s.parent)
    z_under = subst (IsAbove (k ∷ p)) s.is_one uz

    y_under : IsAbove (d ∷ p) (s.other ∷ s.parent)
    y_under = subst (IsAbove (d ∷ p)) s.is_other uy

in_turn_at : (all xs ys : List Given) → xs ≡ ys → InTurn all ys → InTurn all xs
in_turn_at all xs ys e turn = subst (InTurn all) (sym e) turn

module _ (base : Place → Tuple) where
  in_turn_grant : (g : Given) (h : List Move) (t : Line) → MovesFollow base (Granted g ∷ h) → AllLive h t → InTurn (grants h) (serial h t) → (AllLive h (access_of g) → InTurn (grants h) (serial h (access_of g))) → InTurn (g ∷ grants h) (serial (Granted g ∷ h) t)
  in_turn_grant g h t l lt ih ihg = elim (cases_above (access_of g) t) [
    | inr out ↦ in_turn_at (g ∷ grants h) _ _ (serial-same (Granted g) h (access_of g) (g ∷ []) (adds-grant g h) t out) (in_turn_more g (grants h) (serial h t) ih)
    | inl u ↦
        let s = split base (Granted g) h (access_of g) (g ∷ []) t l.1 (adds-grant g h) u in
        let free = free-if base h g t l.0 lt u in
        let old : InTurn (g ∷ grants h) (s.later ++ serial h (access_of g)) = in_turn_more g (grants h) _ (in_turn_at (grants h) _ _ (sym s.old) ih) in
        let new : InTurn (g ∷ grants h) (g ∷ serial h (access_of g)) = (
          λ x i _. inl (refl, (serial-in base h (access_of g) x l.1 i).granted),
          in_turn_more g (grants h) (serial h (access_of g)) (ihg free.live),
        ) in
        in_turn_at (g ∷ grants h) _ _ s.new (in_turn_insert (g ∷ grants h) s.later (g ∷ []) (serial h (access_of g)) old new (λ y z i j sib. elim j [
          | inl e ↦ let b = s.below y i in below_access b.0 (access_of g) (access_of y) b.1.1 (subst (λ (x : Given). Siblings (access_of x) (access_of y)) e sib)
          | inr none ↦ none
        ]))
  ]

  in_turn_commit : (k : ℕ) (p : Line) (h : List Move) (t : Line) → MovesFollow base (Commit k p ∷ h) → OneLive h → AllLive (Commit k p ∷ h) t → InTurn (grants h) (serial h t) → InTurn (grants h) (serial h (k ∷ p)) → InTurn (grants h) (serial (Commit k p ∷ h) t)
  in_turn_commit k p h t l one lt ih ihk = elim (cases_above p t) [
    | inr out ↦ in_turn_at (grants h) _ _ (serial-same (Commit k p) h p (walk h (k ∷ p)) (adds-commit k p h) t out) ih
    | inl u ↦
        let s = split base (Commit k p) h p (walk h (k ∷ p)) t l.1 (adds-commit k p h) u in
        in_turn_at (grants h) _ _ s.new (in_turn_insert (grants h) s.later (walk h (k ∷ p)) (serial h p) (in_turn_at (grants h) _ _ (sym s.old) ih) ihk (λ y z i j sib.
        let b = s.below y i in
        let w = walk-in base h (k ∷ p) z l.1 j in
        let differ = child_differs h k b.0 p t lt b.1.0 in
        let same = siblings_under k b.0 p (access_of z) (access_of y) differ w.under b.1.1 sib in
        let granted = (serial-in base h t y l.1 (subst (In y) (sym s.old) (in-left y s.later (serial h p) i))).granted in
        let z_live : outcome h (access_of z) ≡ Live = subst (λ x. outcome h x ≡ Live) (sym same.is_one) (l.0 (k ∷ p) (above-refl (k ∷ p))) in
        let y_live : outcome h (access_of y) ≡ Live = subst (λ x. outcome h x ≡ Live) (sym same.is_other) (all_live-before (Commit k p) h t lt (b.0 ∷ p) b.1.0) in
        let e : k ∷ p ≡ b.0 ∷ p = sym same.is_one ∙ one z y w.granted granted sib z_live y_live ∙ same.is_other in
        differ cc))
  ]

  pub in_turn : (h : List Move) (t : Line) → MovesFollow base h → AlwaysOneLive h → AllLive h t → InTurn (grants h) (serial h t)
  in_turn [] t l one lt = in_turn_at [] _ _ (serial-empty t) tt
  in_turn (Granted g ∷ h) t l one lt = in_turn_grant g h t l lt (in_turn h t l.1 one.1 lt) (λ lg. in_turn h (access_of g) l.1 one.1 lg)
  in_turn (Commit k p ∷ h) t l one lt = in_turn_commit k p h t l one.0 lt (in_turn h t l.1 one.1 (all_live-before (Commit k p) h t lt)) (in_turn h (k ∷ p) l.1 one.1 l.0)
  in_turn (Abort k p ∷ h) t l one lt = in_turn_at (grants h) _ _ (serial-abort k p h t) (in_turn h t l.1 one.1 (all_live-before (Abort k p) h t lt))
