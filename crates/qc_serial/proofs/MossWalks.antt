-- How the order that completion gives grows.
use Rattle.std.proofs.Common.{ℕ, ◌≡◌, List, [], ◌∷◌, ◌++◌, append_assoc, refl, sym, ap, ◌∙◌, subst, inl, inr}
use Rattle.std.proofs.lemmas.Bool.{cond-true, cond-false}
use Rattle.qc_config.specs.declared.tuple.Tuple.{Tuple}
use Rattle.qc_event.specs.History.{Given, same}
use Rattle.qc_serial.proofs.MossNames.{Line, IsAbove, same_from, same_not, cases_name, above-refl, above-parent, above-trans, above-not-up, Below, above-split}
use Rattle.qc_serial.proofs.MossMoves.{Place, access_of, Move, Granted, Commit, Abort, grants}
use Rattle.qc_serial.proofs.MossLocks.{In, MayMove, MovesFollow}
use Rattle.qc_serial.proofs.MossSerial.{walk, serial}
use Rattle.qc_serial.proofs.MossHistory.{Shown, shown-stays, shown-down, shown-self, commit-own, committed-stays}
use Rattle.qc_serial.proofs.MossLists.{in-append}

-- an entry adds grants to the walk of one name
pub record Adds (e : Move) (h : List Move) (p : Line) (zs : List Given) : Type 0 where
  pub there : walk (e ∷ h) p ≡ zs ++ walk h p
  pub elsewhere : (n : Line) → (p ≡ n → ⊥) → walk (e ∷ h) n ≡ walk h n

pub adds-grant : (g : Given) (h : List Move) → Adds (Granted g) h (access_of g) (g ∷ [])
adds-grant g h = record {
  there = cond-true (same (access_of g) (access_of g)) (g ∷ walk h (access_of g)) (walk h (access_of g)) (same_from (access_of g) (access_of g) refl);
  elsewhere = λ n ne. cond-false (same (access_of g) n) (g ∷ walk h n) (walk h n) (same_not (access_of g) n ne);
}

pub adds-commit : (k : ℕ) (p : Line) (h : List Move) → Adds (Commit k p) h p (walk h (k ∷ p))
adds-commit k p h = record {
  there = cond-true (same p p) (walk h (k ∷ p) ++ walk h p) (walk h p) (same_from p p refl);
  elsewhere = λ n ne. cond-false (same p n) (walk h (k ∷ p) ++ walk h n) (walk h n) (same_not p n ne);
}

pub serial-abort : (k : ℕ) (p : Line) (h : List Move) (t : Line) → serial (Abort k p ∷ h) t ≡ serial h t
serial-abort k p h [] = refl
serial-abort k p h (j ∷ q) = ap (λ (s : List Given). walk h (j ∷ q) ++ s) (serial-abort k p h q)

pub serial-same : (e : Move) (h : List Move) (p : Line) (zs : List Given) → Adds e h p zs → (t : Line) → (IsAbove p t → ⊥) → serial (e ∷ h) t ≡ serial h t
serial-same e h p zs ad [] out = ad.elsewhere [] (λ q. out q)
serial-same e h p zs ad (k ∷ q) out =
    let one = ad.elsewhere (k ∷ q) (λ r. out (inl r)) in
    let two = serial-same e h p zs ad q (λ r. out (inr r)) in
    ap (λ (w : List Given). w ++ serial (e ∷ h) q) one ∙ ap (λ (s : List Given). walk h (k ∷ q) ++ s) two

-- what stands at or below n, granted and shown to n
pub record Listed (h : List Move) (b : Given) (n : Line) : Type 0 where
  pub granted : In b (grants h)
  pub shown : Shown h (access_of b) n
  pub under : IsAbove n (access_of b)

pub granted-stays : (e : Move) (h : List Move) (b : Given) → In b (grants h) → In b (grants (e ∷ h))
granted-stays (Granted g) h b i = inr i
granted-stays (Commit k p) h b i = i
granted-stays (Abort k p) h b i = i

listed-stays : (base : Place → Tuple) (e : Move) (h : List Move) (b : Given) (n : Line) → MayMove base h e → Listed h b n → Listed (e ∷ h) b n
listed-stays base e h b n al x = record { granted = granted-stays e h b x.granted; shown = shown-stays base e h (access_of b) n al x.shown; under = x.under }

listed-commit : (base : Place → Tuple) (h : List Move) (k : ℕ) (p : Line) (b : Given) (n : Line) → MayMove base h (Commit k p) → p ≡ n → Listed h b (k ∷ p) → Listed (Commit k p ∷ h) b n
listed-commit base h k p b n al e x =
    let up : Listed (Commit k p ∷ h) b p = record {
      granted = x.granted;
      shown = λ m u. elim (x.shown m u) [
        | inl c ↦ inl (committed-stays base (Commit k p) h m al c)
        | inr v ↦ elim v [ inl q ↦ inl (commit-own h k p m (sym q)) | inr w ↦ inr w ]
      ];
      under = above-parent k p (access_of b) x.under;
    } in
    subst (λ (x : Line). Listed (Commit k p ∷ h) b x) e up

listed-grant : (h : List Move) (g b : Given) (n : Line) → access_of g ≡ n → b ≡ g → Listed (Granted g ∷ h) b n
listed-grant h g b n e q =
    let at : n ≡ (access_of b) = sym e ∙ ap (λ (x : Given). access_of x) (sym q) in
    let an : IsAbove n (access_of b) = subst (λ (x : Line). IsAbove n x) at (above-refl n) in
    let na : IsAbove (access_of b) n = subst (λ (x : Line). IsAbove x n) at (above-refl n) in
    record { granted = inl q; shown = shown-self (Granted g ∷ h) (access_of b) n na; under = an }

pub walk-in : (base : Place → Tuple) (h : List Move) (n : Line) (b : Given) → MovesFollow base h → In b (walk h n) → Listed h b n
walk-in base [] n b l i = absurd i
walk-in base (Granted g ∷ h) n b l i = elim (cases_name (access_of g) n) [
  | inl e ↦
      let there : In b (g ∷ walk h n) = subst (λ (s : List Given). In b s) (cond-true (same (access_of g) n) (g ∷ walk h n) (walk h n) (same_from (access_of g) n e)) i in
      elim there [
        | inl q ↦ listed-grant h g b n e q
        | inr j ↦ listed-stays base (Granted g) h b n l.0 (walk-in base h n b l.1 j)
      ]
  | inr ne ↦ listed-stays base (Granted g) h b n l.0 (walk-in base h n b l.1 (subst (λ (s : List Given). In b s) ((adds-grant g h).elsewhere n ne) i))
]
walk-in base (Commit k p ∷ h) n b l i = elim (cases_name p n) [
  | inl e ↦
      let there : In b (walk h (k ∷ p) ++ walk h n) = subst (λ (s : List Given). In b s) (cond-true (same p n) (walk h (k ∷ p) ++ walk h n) (walk h n) (same_from p n e)) i in
      elim (in-append b (walk h (k ∷ p)) (walk h n) there) [
        | inl j ↦ listed-commit base h k p b n l.0 e (walk-in base h (k ∷ p) b l.1 j)
        | inr j ↦ listed-stays base (Commit k p) h b n l.0 (walk-in base h n b l.1 j)
      ]
  | inr ne ↦ listed-stays base (Commit k p) h b n l.0 (walk-in base h n b l.1 (subst (λ (s : List Given). In b s) ((adds-commit k p h).elsewhere n ne) i))
]
walk-in base (Abort k p ∷ h) n b l i = listed-stays base (Abort k p) h b n l.0 (walk-in base h n b l.1 i)

-- each grant of the serial order is granted and shown
pub record Visible (h : List Move) (b : Given) (t : Line) : Type 0 where
  pub granted : In b (grants h)
  pub shown : Shown h (access_of b) t

pub serial-in : (base : Place → Tuple) (h : List Move) (t : Line) (b : Given) → MovesFollow base h → In b (serial h t) → Visible h b t
serial-in base h [] b l i = let x = walk-in base h [] b l i in record { granted = x.granted; shown = x.shown }
serial-in base h (k ∷ p) b l i = elim (in-append b (walk h (k ∷ p)) (serial h p) i) [
  | inl j ↦ let x = walk-in base h (k ∷ p) b l j in record { granted = x.granted; shown = x.shown }
  | inr j ↦ let x = serial-in base h p b l j in record { granted = x.granted; shown = shown-down h (access_of b) p (k ∷ p) (inr (above-refl p)) x.shown }
]

-- where the new grants go: after those shown to p, before those below it
pub record Split (base : Place → Tuple) (e : Move) (h : List Move) (p : Line) (zs : List Given) (t : Line) : Type 0 where
  pub later : List Given
  pub old : serial h t ≡ later ++ serial h p
  pub new : serial (e ∷ h) t ≡ later ++ (zs ++ serial h p)
  pub below : (y : Given) → In y later → (d : ℕ) × (IsAbove (d ∷ p) t × IsAbove (d ∷ p) (access_of y))

serial-there : (e : Move) (h : List Move) (p : Line) (zs : List Given) → Adds e h p zs → serial (e ∷ h) p ≡ zs ++ serial h p
serial-there e h [] zs ad = ad.there
serial-there e h (k ∷ q) zs ad =
    let two = serial-same e h (k ∷ q) zs ad q (λ u. above-not-up k q u) in
    ap (λ (w : List Given). w ++ serial (e ∷ h) q) ad.there
    ∙ ap (λ (s : List Given). (zs ++ walk h (k ∷ q)) ++ s) two
    ∙ append_assoc zs (walk h (k ∷ q)) (serial h q)

split-here : (base : Place → Tuple) (e : Move) (h : List Move) (p : Line) (zs : List Given) (t : Line) → Adds e h p zs → p ≡ t → Split base e h p zs t
split-here base e h p zs t ad q =
    let own : Split base e h p zs p = record { later = []; old = refl; new = serial-there e h p zs ad; below = λ y i. absurd i } in
    subst (λ (x : Line). Split base e h p zs x) q own

under_of : (p q : Line) (k : ℕ) → IsAbove p q → Below p (k ∷ q)
under_of p q k u = elim (above-split p (k ∷ q) (inr u)) [
  | inl e ↦ absurd (above-not-up k q (subst (λ (x : Line). IsAbove x q) (sym e) u))
  | inr b ↦ b
]

pub split : (base : Place → Tuple) (e : Move) (h : List Move) (p : Line) (zs : List Given) (t : Line) → MovesFollow base h → Adds e h p zs → IsAbove p t → Split base e h p zs t
split base e h p zs [] l ad u = split-here base e h p zs [] ad u
split base e h p zs (k ∷ q) l ad (inl u) = split-here base e h p zs (k ∷ q) ad u
split base e h p zs (k ∷ q) l ad (inr u) =
    let s = split base e h p zs q l ad u in
    let w = under_of p q k u in
    let same = ad.elsewhere (k ∷ q) (λ r. above-not-up k q (subst (λ (x : Line). IsAbove x q) r u)) in
    let mine = walk h (k ∷ q) in
    record {
      later = mine ++ s.later;
      old = ap (λ (x : List Given). mine ++ x) s.old ∙ sym (append_assoc mine s.later (serial h p));
      new = ap (λ (x : List Given). x ++ serial (e ∷ h) q) same ∙ ap (λ (x : List Given). mine ++ x) s.new ∙ sym (append_assoc mine s.later (zs ++ serial h p));
      below = λ y i. elim (in-append y mine s.later i) [
        | inl j ↦ (w.child, (w.under, above-trans (w.child ∷ p) (k ∷ q) (access_of y) w.under (walk-in base h (k ∷ q) y l j).under))
        | inr j ↦ let b = s.below y j in (b.0, (inr b.1.0, b.1.1))
      ];
    }
