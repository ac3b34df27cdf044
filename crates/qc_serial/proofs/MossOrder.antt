-- Each visible grant finds what the earlier visible ones leave.
use Rattle.std.proofs.Common.{ℕ, ◌≡◌, true, not, List, [], ◌∷◌, ◌++◌, refl, sym, ap, ◌∙◌, subst, inl, inr, ◌⊎◌}
use Rattle.std.proofs.lemmas.Bool.{false_from_ne_true, not-true, not_from_false}
use Rattle.qc_config.specs.declared.tuple.Tuple.{Tuple}
use Rattle.qc_config.specs.Tuple.{after}
use Rattle.qc_event.specs.History.{Given}
use Rattle.qc_serial.proofs.MossNames.{two_ways, Line, IsAbove, above-refl, above-not-up, above-one-child, cases_above}
use Rattle.qc_serial.proofs.MossMoves.{Place, place_of, access_of, is_put, Move, Granted, Commit, Abort, is_dead, is_shown, grants, left_by, seen}
use Rattle.qc_serial.proofs.MossLocks.{In, AllLive, Conflict, Free, MayMove, MovesFollow}
use Rattle.qc_serial.proofs.MossSerial.{walk, serial, state, Chain}
use Rattle.qc_serial.proofs.MossHistory.{Shown, shown-all, shown-from, shown-stays, shown-down, shown-self, shown-not-dead, shown-live, shown-abort, shown-commit, shown-through, dead-stays, live-not-dead, all_live-before, all_live-up, commit-own}
use Rattle.qc_serial.proofs.MossLists.{in-append, in-left, in-right, NoPut, cases_put, left-skip, left-none, left-over, left-tests, left-put, left-hidden, chain-insert}
use Rattle.qc_serial.proofs.MossWalks.{Adds, adds-grant, adds-commit, serial-abort, serial-same, walk-in, Visible, serial-in, Split, split}

pub turned : (b c : Given) → Conflict b c → Conflict c b
turned b c x = record { place = sym x.place; put = elim x.put [ inl a ↦ inr a | inr a ↦ inl a ] }

-- the grant that is appended, against an earlier one
last_pair : (base : Place → Tuple) (h : List Move) (g b : Given) → MayMove base h (Granted g) → In b (grants h) → Conflict b g
    → (is_dead h (access_of b) ≡ true → ⊥) → (is_dead h (access_of g) ≡ true → ⊥) → Shown h (access_of b) (access_of g)
last_pair base h g b (inl d) i x nb ng = absurd (ng d)
last_pair base h g b (inr free) i x nb ng = elim (free.clear b i x) [ inl d ↦ absurd (nb d) | inr s ↦ shown-all h (access_of b) (access_of g) s ]

shown_at : (h : List Move) (a b : Line) → a ≡ b → Shown h a b
shown_at h a b e = shown-self h a b (subst (λ (x : Line). IsAbove a x) e (above-refl a))

conflict_at : (b c d : Given) → c ≡ d → Conflict b c → Conflict b d
conflict_at b c d e x = subst (λ (y : Given). Conflict b y) e x

-- of two grants that conflict, one is shown to the other, unless one is dead
pub pairs : (base : Place → Tuple) (h : List Move) (b c : Given) → MovesFollow base h → In b (grants h) → In c (grants h) → Conflict b c
    → (is_dead h (access_of b) ≡ true → ⊥) → (is_dead h (access_of c) ≡ true → ⊥) → Shown h (access_of b) (access_of c) ⊎ Shown h (access_of c) (access_of b)
pairs base [] b c l i j x nb nc = absurd i
pairs base (Granted g ∷ h) b c l (inl p) (inl q) x nb nc = inl (shown_at (Granted g ∷ h) (access_of b) (access_of c) (ap (λ (y : Given). access_of y) (p ∙ sym q)))
pairs base (Granted g ∷ h) b c l (inl p) (inr j) x nb nc =
    let x' : Conflict c g = conflict_at c b g p (turned b c x) in
    let ng : is_dead h (access_of g) ≡ true → ⊥ = λ d. nb (dead-stays base (Granted g) h (access_of b) l.0 (subst (λ (y : Given). is_dead h (access_of y) ≡ true) (sym p) d)) in
    let s = last_pair base h g c l.0 j x' (λ d. nc (dead-stays base (Granted g) h (access_of c) l.0 d)) ng in
    let s' = shown-stays base (Granted g) h (access_of c) (access_of g) l.0 s in
    inr (subst (λ (y : Given). Shown (Granted g ∷ h) (access_of c) (access_of y)) (sym p) s')
pairs base (Granted g ∷ h) b c l (inr i) (inl q) x nb nc =
    let x' : Conflict b g = conflict_at b c g q x in
    let ng : is_dead h (access_of g) ≡ true → ⊥ = λ d. nc (dead-stays base (Granted g) h (access_of c) l.0 (subst (λ (y : Given). is_dead h (access_of y) ≡ true) (sym q) d)) in
    let s = last_pair base h g b l.0 i x' (λ d. nb (dead-stays base (Granted g) h (access_of b) l.0 d)) ng in
    let s' = shown-stays base (Granted g) h (access_of b) (access_of g) l.0 s in
    inl (subst (λ (y : Given). Shown (Granted g ∷ h) (access_of b) (access_of y)) (sym q) s')
pairs base (Granted g ∷ h) b c l (inr i) (inr j) x nb nc =
    elim (pairs base h b c l.1 i j x (λ d. nb (dead-stays base (Granted g) h (access_of b) l.0 d)) (λ d. nc (dead-stays base (Granted g) h (access_of c) l.0 d))) [
      | inl s ↦ inl (shown-stays base (Granted g) h (access_of b) (access_of c) l.0 s)
      | inr s ↦ inr (shown-stays base (Granted g) h (access_of c) (access_of b) l.0 s)
    ]
pairs base (Commit k p ∷ h) b c l i j x nb nc =
    elim (pairs base h b c l.1 i j x (λ d. nb (dead-stays base (Commit k p) h (access_of b) l.0 d)) (λ d. nc (dead-stays base (Commit k p) h (access_of c) l.0 d))) [
      | inl s ↦ inl (shown-stays base (Commit k p) h (access_of b) (access_of c) l.0 s)
      | inr s ↦ inr (shown-stays base (Commit k p) h (access_of c) (access_of b) l.0 s)
    ]
pairs base (Abort k p ∷ h) b c l i j x nb nc =
    elim (pairs base h b c l.1 i j x (λ d. nb (dead-stays base (Abort k p) h (access_of b) l.0 d)) (λ d. nc (dead-stays base (Abort k p) h (access_of c) l.0 d))) [
      | inl s ↦ inl (shown-stays base (Abort k p) h (access_of b) (access_of c) l.0 s)
      | inr s ↦ inr (shown-stays base (Abort k p) h (access_of c) (access_of b) l.0 s)
    ]

-- what is below a live child of p, against what stood in another child, which now commits
apart-commit : (base : Place → Tuple) (h : List Move) (k d : ℕ) (p t : Line) (z y : Given) → MovesFollow base h → AllLive h (k ∷ p) → AllLive h t → (d ≡ k → ⊥)
    → In z (walk h (k ∷ p)) → Visible h y t → IsAbove (d ∷ p) t → IsAbove (d ∷ p) (access_of y) → Conflict z y → ⊥
apart-commit base h k d p t z y l lk lt ne i v ut uy x =
    let w = walk-in base h (k ∷ p) z l i in
    elim (pairs base h z y l w.granted v.granted x (shown-not-dead h (access_of z) (k ∷ p) lk w.shown) (shown-not-dead h (access_of y) t lt v.shown)) [
      | inl s ↦ ne (sym (above-one-child k d p (access_of y) (shown-live h (access_of z) (access_of y) (k ∷ p) s w.under (lk (k ∷ p) (above-refl (k ∷ p)))) uy))
      | inr s ↦ ne (above-one-child d k p (access_of z) (shown-live h (access_of y) (access_of z) (d ∷ p) s uy (lt (d ∷ p) ut)) w.under)
    ]

-- what is below a live child of an access, against a grant of that access
apart-grant : (base : Place → Tuple) (h : List Move) (g y : Given) (d : ℕ) (t : Line) → Free base h g → AllLive h t → Visible h y t → IsAbove (d ∷ (access_of g)) t → IsAbove (d ∷ (access_of g)) (access_of y) → Conflict y g → ⊥
apart-grant base h g y d t free lt v ut uy x =
    elim (free.clear y v.granted x) [
      | inl dead ↦ shown-not-dead h (access_of y) t lt v.shown dead
      | inr s ↦ above-not-up d (access_of g) (shown-live h (access_of y) (access_of g) (d ∷ (access_of g)) (shown-all h (access_of y) (access_of g) s) uy (lt (d ∷ (access_of g)) ut))
    ]

pub child_differs : (h : List Move) (k d : ℕ) (p t : Line) → AllLive (Commit k p ∷ h) t → IsAbove (d ∷ p) t → d ≡ k → ⊥
child_differs h k d p t l u e =
    let o = l (k ∷ p) (subst (λ (x : ℕ). IsAbove (x ∷ p) t) e u) in
    let c = commit-own h k p (k ∷ p) refl in
    cc

-- what was later is in the old order, so it was granted and shown
later-visible : (base : Place → Tuple) (e : Move) (h : List Move) (p : Line) (zs : List Given) (t : Line) (y : Given) → MovesFollow base h → (s : Split base e h p zs t) → In y s.later → Visible h y t
later-visible base e h p zs t y l s i = serial-in base h t y l (subst (λ (x : List Given). In y x) (sym s.old) (in-left y s.later (serial h p) i))

-- the two independence facts at one entry
no_conflict-commit : (base : Place → Tuple) (h : List Move) (k : ℕ) (p t : Line) (y z : Given) → MovesFollow base (Commit k p ∷ h) → AllLive (Commit k p ∷ h) t → (s : Split base (Commit k p) h p (walk h (k ∷ p)) t)
    → In y s.later → In z (walk h (k ∷ p)) → Conflict z y → ⊥
no_conflict-commit base h k p t y z l lt s i j x =
    let b = s.below y i in
    apart-commit base h k b.0 p t z y l.1 l.0 (all_live-before (Commit k p) h t lt) (child_differs h k b.0 p t lt b.1.0) j (later-visible base (Commit k p) h p (walk h (k ∷ p)) t y l.1 s i) b.1.0 b.1.1 x

no_conflict-grant : (base : Place → Tuple) (h : List Move) (g : Given) (t : Line) (y : Given) → MovesFollow base h → Free base h g → AllLive h t → (s : Split base (Granted g) h (access_of g) (g ∷ []) t)
    → In y s.later → Conflict y g → ⊥
no_conflict-grant base h g t y l free lt s i x =
    let b = s.below y i in
    apart-grant base h g y b.0 t free lt (later-visible base (Granted g) h (access_of g) (g ∷ []) t y l s i) b.1.0 b.1.1 x

-- a grant of a live name is free
pub free-if : (base : Place → Tuple) (h : List Move) (g : Given) (t : Line) → MayMove base h (Granted g) → AllLive h t → IsAbove (access_of g) t → Free base h g
free-if base h g t (inl d) l u = absurd (live-not-dead h (access_of g) (all_live-up h (access_of g) t u l) d)
free-if base h g t (inr f) l u = f

-- every grant that is shown stands in the serial order
in-new : (base : Place → Tuple) (e : Move) (h : List Move) (p : Line) (zs : List Given) (t : Line) (b : Given) → Split base e h p zs t → In b (serial h t) → In b (serial (e ∷ h) t)
in-new base e h p zs t b s i =
    let j : In b (s.later ++ (zs ++ serial h p)) = elim (in-append b s.later (serial h p) (subst (λ (x : List Given). In b x) s.old i)) [
      | inl a ↦ in-left b s.later (zs ++ serial h p) a
      | inr c ↦ in-right b s.later (zs ++ serial h p) (in-right b zs (serial h p) c)
    ] in
    subst (λ (x : List Given). In b x) (sym s.new) j

in-new_added : (base : Place → Tuple) (e : Move) (h : List Move) (p : Line) (zs : List Given) (t : Line) (b : Given) → Split base e h p zs t → In b (zs ++ serial h p) → In b (serial (e ∷ h) t)
in-new_added base e h p zs t b s i = subst (λ (x : List Given). In b x) (sym s.new) (in-right b s.later (zs ++ serial h p) i)

in-kept : (base : Place → Tuple) (e : Move) (h : List Move) (p : Line) (zs : List Given) (t : Line) (b : Given) → MovesFollow base h → Adds e h p zs → In b (serial h t) → In b (serial (e ∷ h) t)
in-kept base e h p zs t b l ad i = elim (cases_above p t) [
  | inl u ↦ in-new base e h p zs t b (split base e h p zs t l ad u) i
  | inr out ↦ subst (λ (x : List Given). In b x) (sym (serial-same e h p zs ad t out)) i
]

-- a grant that is shown to a live name is of a name all of whose ancestors are live or committed; the newest is at or above it
newest-above : (base : Place → Tuple) (h : List Move) (g : Given) (t : Line) → MayMove base h (Granted g) → AllLive h t → Shown h (access_of g) t → IsAbove (access_of g) t
newest-above base h g t (inl d) l s = absurd (shown-not-dead h (access_of g) t l s d)
newest-above base h g t (inr f) l s = shown-live h (access_of g) t (access_of g) s (above-refl (access_of g)) (f.live (access_of g) (above-refl (access_of g)))

pub serial-has : (base : Place → Tuple) (h : List Move) (t : Line) (b : Given) → MovesFollow base h → AllLive h t → In b (grants h) → Shown h (access_of b) t → In b (serial h t)
serial-has base [] t b l lt i s = absurd i
serial-has base (Granted g ∷ h) t b l lt (inl e) s =
    let sg : Shown h (access_of g) t = subst (λ (x : Given). Shown h (access_of x) t) e s in
    let u = newest-above base h g t l.0 lt sg in
    let sp = split base (Granted g) h (access_of g) (g ∷ []) t l.1 (adds-grant g h) u in
    in-new_added base (Granted g) h (access_of g) (g ∷ []) t b sp (inl e)
serial-has base (Granted g ∷ h) t b l lt (inr i) s = in-kept base (Granted g) h (access_of g) (g ∷ []) t b l.1 (adds-grant g h) (serial-has base h t b l.1 lt i s)
serial-has base (Commit k p ∷ h) t b l lt i s =
    let lt' = all_live-before (Commit k p) h t lt in
    elim (shown-commit h k p (access_of b) t l.0 lt s) [
      | inl old ↦ in-kept base (Commit k p) h p (walk h (k ∷ p)) t b l.1 (adds-commit k p h) (serial-has base h t b l.1 lt' i old)
      | inr via ↦
          let sp = split base (Commit k p) h p (walk h (k ∷ p)) t l.1 (adds-commit k p h) via.parent in
          in-new_added base (Commit k p) h p (walk h (k ∷ p)) t b sp (serial-has base h (k ∷ p) b l.1 l.0 i via.shown)
    ]
serial-has base (Abort k p ∷ h) t b l lt i s =
    subst (λ (x : List Given). In b x) (sym (serial-abort k p h t)) (serial-has base h t b l.1 (all_live-before (Abort k p) h t lt) i (shown-abort h k p (access_of b) t s))

same_tests : (base : Place → Tuple) (e : Move) (h : List Move) (t u : Line) (gs : List Given) (place : Place)
    → ((b : Given) → In b gs → place_of b ≡ place → is_put b.grant.op ≡ true → Shown h (access_of b) u → Shown (e ∷ h) (access_of b) t)
    → ((b : Given) → In b gs → place_of b ≡ place → is_put b.grant.op ≡ true → Shown (e ∷ h) (access_of b) t → Shown h (access_of b) u)
    → left_by base (λ n. is_shown h n u) gs place ≡ left_by base (λ n. is_shown (e ∷ h) n t) gs place
same_tests base e h t u gs place f g =
    left-tests base (λ n. is_shown h n u) (λ n. is_shown (e ∷ h) n t) gs place (λ b i at put. two_ways _ _
    (λ x. shown-from (e ∷ h) (access_of b) t (f b i at put (shown-all h (access_of b) u x)))
    (λ x. shown-from h (access_of b) u (g b i at put (shown-all (e ∷ h) (access_of b) t x))))

state-grant : (base : Place → Tuple) (g : Given) (h : List Move) (t : Line) (place : Place) → MovesFollow base (Granted g ∷ h) → AllLive h t
    → state base (serial h t) place ≡ left_by base (λ n. is_shown h n t) (grants h) place
    → state base (serial (Granted g ∷ h) t) place ≡ left_by base (λ n. is_shown (Granted g ∷ h) n t) (g ∷ grants h) place
state-grant base g h t place l lt ih =
    let p = λ (n : Line). is_shown (Granted g ∷ h) n t in
    let same = same_tests base (Granted g) h t t (grants h) place (λ b i at put s. s) (λ b i at put s. s) in
    elim (cases_above (access_of g) t) [
      | inr out ↦
          ap (λ (x : List Given). state base x place) (serial-same (Granted g) h (access_of g) (g ∷ []) (adds-grant g h) t out)
          ∙ ih ∙ same
          ∙ sym (left-hidden base p g (grants h) place (λ x. out (newest-above base h g t l.0 lt (shown-all (Granted g ∷ h) (access_of g) t x))))
      | inl u ↦
          let s = split base (Granted g) h (access_of g) (g ∷ []) t l.1 (adds-grant g h) u in
          let free = free-if base h g t l.0 lt u in
          let new = ap (λ (x : List Given). state base x place) s.new in
          let old = ap (λ (x : List Given). state base x place) s.old in
          elim (cases_put place (g ∷ [])) [
            | inr none ↦
                new
                ∙ left-over base (λ n. true) s.later (g ∷ serial h (access_of g)) (serial h (access_of g)) place (left-none base (λ n. true) (g ∷ []) (serial h (access_of g)) place none)
                ∙ sym old ∙ ih ∙ same
                ∙ sym (left-skip base p g (grants h) place (none g (inl refl)))
            | inl some ↦
                let e : some.which ≡ g = elim some.member [ inl q ↦ q | inr i ↦ absurd i ] in
                let at : place_of g ≡ place = ap (λ (x : Given). place_of x) (sym e) ∙ some.here in
                let put : is_put g.grant.op ≡ true = ap (λ (x : Given). is_put x.grant.op) (sym e) ∙ some.put in
                let clear : NoPut place s.later = λ y i yat yput. no_conflict-grant base h g t y l.1 free lt s i (record { place = yat ∙ sym at; put = inl yput }) in
                let rest : state base (serial h (access_of g)) place ≡ left_by base p (grants h) place =
                sym (left-none base (λ n. true) s.later (serial h (access_of g)) place clear) ∙ sym old ∙ ih ∙ same in
                new
                ∙ left-none base (λ n. true) s.later (g ∷ serial h (access_of g)) place clear
                ∙ left-put base (λ n. true) g (serial h (access_of g)) place at refl
                ∙ ap (λ (x : Tuple). after x g.grant.op) rest
                ∙ sym (left-put base p g (grants h) place at (shown-from (Granted g ∷ h) (access_of g) t (shown-self (Granted g ∷ h) (access_of g) t u)))
          ]
    ]

state-commit : (base : Place → Tuple) (k : ℕ) (p : Line) (h : List Move) (t : Line) (place : Place) → MovesFollow base (Commit k p ∷ h) → AllLive (Commit k p ∷ h) t
    → state base (serial h t) place ≡ left_by base (λ n. is_shown h n t) (grants h) place
    → state base (serial h (k ∷ p)) place ≡ left_by base (λ n. is_shown h n (k ∷ p)) (grants h) place
    → state base (serial (Commit k p ∷ h) t) place ≡ left_by base (λ n. is_shown (Commit k p ∷ h) n t) (grants h) place
state-commit base k p h t place l lt ih ihk =
    let lt' = all_live-before (Commit k p) h t lt in
    let zs = walk h (k ∷ p) in
    elim (cases_above p t) [
      | inr out ↦
          ap (λ (x : List Given). state base x place) (serial-same (Commit k p) h p zs (adds-commit k p h) t out)
          ∙ ih
          ∙ same_tests base (Commit k p) h t t (grants h) place
          (λ b i at put s. shown-stays base (Commit k p) h (access_of b) t l.0 s)
          (λ b i at put s. elim (shown-commit h k p (access_of b) t l.0 lt s) [ inl x ↦ x | inr via ↦ absurd (out via.parent) ])
      | inl u ↦
          let s = split base (Commit k p) h p zs t l.1 (adds-commit k p h) u in
          let new = ap (λ (x : List Given). state base x place) s.new in
          let old = ap (λ (x : List Given). state base x place) s.old in
          elim (cases_put place zs) [
            | inr none ↦
                new
                ∙ left-over base (λ n. true) s.later (zs ++ serial h p) (serial h p) place (left-none base (λ n. true) zs (serial h p) place none)
                ∙ sym old ∙ ih
                ∙ same_tests base (Commit k p) h t t (grants h) place
                (λ b i at put x. shown-stays base (Commit k p) h (access_of b) t l.0 x)
                (λ b i at put x. elim (shown-commit h k p (access_of b) t l.0 lt x) [
                  | inl y ↦ y
                  | inr via ↦ elim (in-append b zs (serial h p) (serial-has base h (k ∷ p) b l.1 l.0 i via.shown)) [
                    | inl j ↦ absurd (none b j at put)
                    | inr j ↦ shown-down h (access_of b) p t u (serial-in base h p b l.1 j).shown
                  ]
                ])
            | inl some ↦
                let clear : NoPut place s.later = λ y i yat yput. no_conflict-commit base h k p t y some.which l lt s i some.member (record { place = some.here ∙ sym yat; put = inr yput }) in
                new
                ∙ left-none base (λ n. true) s.later (zs ++ serial h p) place clear
                ∙ ihk
                ∙ same_tests base (Commit k p) h t (k ∷ p) (grants h) place
                (λ b i at put x. shown-through h k p (access_of b) t l.0 x u)
                (λ b i at put x. elim (shown-commit h k p (access_of b) t l.0 lt x) [
                  | inr via ↦ via.shown
                  | inl y ↦ elim (in-append b s.later (serial h p) (subst (λ (x : List Given). In b x) s.old (serial-has base h t b l.1 lt' i y))) [
                    | inl j ↦ absurd (clear b j at put)
                    | inr j ↦ shown-down h (access_of b) p (k ∷ p) (inr (above-refl p)) (serial-in base h p b l.1 j).shown
                  ]
                ])
          ]
    ]

pub serial-empty : (t : Line) → serial [] t ≡ []
serial-empty [] = refl
serial-empty (k ∷ p) = serial-empty p

-- what the serial order leaves at a place is what the shown puts leave in the order of the history
pub state-shown : (base : Place → Tuple) (h : List Move) (t : Line) (place : Place) → MovesFollow base h → AllLive h t
    → state base (serial h t) place ≡ left_by base (λ n. is_shown h n t) (grants h) place
state-shown base [] t place l lt = ap (λ (x : List Given). state base x place) (serial-empty t)
state-shown base (Granted g ∷ h) t place l lt = state-grant base g h t place l lt (state-shown base h t place l.1 lt)
state-shown base (Commit k p ∷ h) t place l lt = state-commit base k p h t place l lt (state-shown base h t place l.1 (all_live-before (Commit k p) h t lt)) (state-shown base h (k ∷ p) place l.1 l.0)
state-shown base (Abort k p ∷ h) t place l lt =
    let lt' = all_live-before (Abort k p) h t lt in
    ap (λ (x : List Given). state base x place) (serial-abort k p h t)
    ∙ state-shown base h t place l.1 lt'
    ∙ same_tests base (Abort k p) h t t (grants h) place
    (λ b i at put s. shown-stays base (Abort k p) h (access_of b) t l.0 s)
    (λ b i at put s. shown-abort h k p (access_of b) t s)

-- a free grant finds what is shown to it
found : (base : Place → Tuple) (h : List Move) (g : Given) → MovesFollow base h → Free base h g → seen base h (place_of g) ≡ state base (serial h (access_of g)) (place_of g)
found base h g l free =
    left-tests base (λ n. not (is_dead h n)) (λ n. is_shown h n (access_of g)) (grants h) (place_of g) (λ b i at put. two_ways _ _
    (λ x. elim (free.clear b i (record { place = at; put = inl put })) [ inl d ↦ absurd (let n = not-true (is_dead h (access_of b)) x in cc) | inr s ↦ s ])
    (λ x. not_from_false (is_dead h (access_of b)) (false_from_ne_true (is_dead h (access_of b)) (shown-not-dead h (access_of b) (access_of g) free.live (shown-all h (access_of b) (access_of g) x)))))
    ∙ sym (state-shown base h (access_of g) (place_of g) l free.live)

chain-at : (base : Place → Tuple) (xs ys : List Given) → xs ≡ ys → Chain base ys → Chain base xs
chain-at base xs ys e c = subst (λ (x : List Given). Chain base x) (sym e) c

chain-grant : (base : Place → Tuple) (g : Given) (h : List Move) (t : Line) → MovesFollow base (Granted g ∷ h) → AllLive h t → Chain base (serial h t) → (AllLive h (access_of g) → Chain base (serial h (access_of g))) → Chain base (serial (Granted g ∷ h) t)
chain-grant base g h t l lt ih ihg = elim (cases_above (access_of g) t) [
  | inr out ↦ chain-at base _ _ (serial-same (Granted g) h (access_of g) (g ∷ []) (adds-grant g h) t out) ih
  | inl u ↦
      let s = split base (Granted g) h (access_of g) (g ∷ []) t l.1 (adds-grant g h) u in
      let free = free-if base h g t l.0 lt u in
      let cy : Chain base (s.later ++ serial h (access_of g)) = chain-at base _ _ (sym s.old) ih in
      let cz : Chain base (g ∷ serial h (access_of g)) = (free.finds ∙ ap (λ (x : Tuple). after x g.grant.op) (found base h g l.1 free), ihg free.live) in
      chain-at base _ _ s.new (chain-insert base s.later (g ∷ []) (serial h (access_of g)) cy cz (λ y i z j at put. elim j [
        | inl e ↦ no_conflict-grant base h g t y l.1 free lt s i (record { place = sym (ap (λ (x : Given). place_of x) (sym e) ∙ at); put = inr (ap (λ (x : Given). is_put x.grant.op) (sym e) ∙ put) })
        | inr k ↦ k
      ]))
]

chain-commit : (base : Place → Tuple) (k : ℕ) (p : Line) (h : List Move) (t : Line) → MovesFollow base (Commit k p ∷ h) → AllLive (Commit k p ∷ h) t → Chain base (serial h t) → Chain base (serial h (k ∷ p)) → Chain base (serial (Commit k p ∷ h) t)
chain-commit base k p h t l lt ih ihk = elim (cases_above p t) [
  | inr out ↦ chain-at base _ _ (serial-same (Commit k p) h p (walk h (k ∷ p)) (adds-commit k p h) t out) ih
  | inl u ↦
      let s = split base (Commit k p) h p (walk h (k ∷ p)) t l.1 (adds-commit k p h) u in
      let cy : Chain base (s.later ++ serial h p) = chain-at base _ _ (sym s.old) ih in
      chain-at base _ _ s.new (chain-insert base s.later (walk h (k ∷ p)) (serial h p) cy ihk (λ y i z j at put.
      no_conflict-commit base h k p t y z l lt s i j (record { place = at; put = inl put })))
]

-- each visible grant finds what the earlier ones leave
pub serial-chain : (base : Place → Tuple) (h : List Move) (t : Line) → MovesFollow base h → AllLive h t → Chain base (serial h t)
serial-chain base [] t l lt = chain-at base _ _ (serial-empty t) tt
serial-chain base (Granted g ∷ h) t l lt = chain-grant base g h t l lt (serial-chain base h t l.1 lt) (λ lg. serial-chain base h (access_of g) l.1 lg)
serial-chain base (Commit k p ∷ h) t l lt = chain-commit base k p h t l lt (serial-chain base h t l.1 (all_live-before (Commit k p) h t lt)) (serial-chain base h (k ∷ p) l.1 l.0)
serial-chain base (Abort k p ∷ h) t l lt = chain-at base _ _ (serial-abort k p h t) (serial-chain base h t l.1 (all_live-before (Abort k p) h t lt))
