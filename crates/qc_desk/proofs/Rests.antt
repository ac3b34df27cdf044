-- What is known of a pass between two calls, and while it has the right to append.
use Rattle.std.proofs.Common.{◌≡◌, ℕ, Bool, true, false, cond, nat_lt, List, [], ◌∷◌, ◌++◌, length, Result, Ok, Err, refl, sym, ap, ◌∙◌, subst, ⊎_elim}
use Rattle.std.specs.Prelude.{OnOk, OnErr}
use Rattle.qc_event.specs.declared.short.Short.{Short}
use Rattle.qc_event.specs.Base.{Setting}
use Rattle.qc_event.specs.declared.event.Entry.{Entry}
use Rattle.qc_event.specs.Legal.{Allowed}
use Rattle.qc_desk.specs.declared.view.View.{View}
use Rattle.qc_desk.specs.Entries.{entries_of, IsLegal}
use Rattle.qc_desk.specs.Rules.{AreApart, AreKin, Has, IsAtRest, IsHeld, extends, joined, lent, longer, looked, pass, posted, returned, ruler, taken}
use Rattle.qc_desk.proofs.Apart.{kin_else, one_apart}
use Rattle.qc_desk.proofs.Having.{has_both, has_cons, has_none}
use Rattle.qc_desk.proofs.Lists.{entries_here, legal_snoc}

-- a new pass
pub new_rest : (setting : Setting) (n : ℕ) (seen : List Entry) (w : View) → w ≡ pass n seen → IsLegal setting seen → entries_of n seen ≡ [] → IsAtRest setting w
new_rest setting n seen w is legal nothing = subst (IsAtRest setting) (sym is) (refl, refl, refl, legal, (λ _. sym nothing), refl, (λ k m h. absurd (has_none (k, m) h)), λ _. one_apart n)

-- what a push leaves
pub held_after : (setting : Setting) (log log' : List Entry) (v v' : View) (e : Entry) (r : Result (Unit {0}) Short) → e.seat ≡ v.number → v.live ≡ true → Allowed (setting) log e
    → OnOk r ((log' ≡ e ∷ log) × (v' ≡ taken (posted e v)))
    → OnErr r ((log' ≡ log) × (v' ≡ v)) → IsHeld setting log v → IsHeld setting log' v'
held_after setting log log' v v' e (Ok x) own live may ok err h =
    let all : e ∷ v.all ≡ e ∷ log = ap (λ (l : List Entry). e ∷ l) h.1 in
    subst (λ (t : List Entry × View). IsHeld setting t.0 t.1) (λ i. (sym ok.0 i, sym ok.1 i)) (
      h.0,
      all,
      all,
      h.3,
      legal_snoc setting log e h.4 may,
      (λ l. ap (λ n. entries_of n (e ∷ log)) (sym own) ∙ entries_here e log ∙ ap (λ n. e ∷ entries_of n log) own ∙ ap (λ (m : List Entry). e ∷ m) (h.5 l) ∙ ap (λ (f : List Entry). e ∷ (f ++ v.mine)) (sym h.6)),
      refl,
      kin_else e v log (own) live h.8 h.7,
      h.8,
    )
held_after setting log log' v v' e (Err why) own live may ok err h = subst (λ (t : List Entry × View). IsHeld setting t.0 t.1) (λ i. (sym err.0 i, sym err.1 i)) h

-- a pass at rest that was lent the right
pub held_lent : (setting : Setting) (log : List Entry) (v m v' : View) → IsAtRest setting v → IsLegal setting log → m ≡ ruler log → v' ≡ looked (lent v m) → (v.live ≡ true → entries_of v.number m.all ≡ v.flight ++ v.mine) → AreKin v.kin m.all → AreApart v → IsHeld setting log v'
held_lent setting log v m v' rest legal is to mine kin apart =
    let same = ap (λ (x : View). x.all) is in
    subst (IsHeld setting log) (sym to) (refl, same, same, rest.2, legal, (λ l. ap (entries_of v.number) (sym same) ∙ mine l ∙ ap (λ (f : List Entry). f ++ v.mine) rest.5), rest.5, subst (AreKin v.kin) same kin, apart)

pub rest_after : (setting : Setting) (log : List Entry) (v w : View) → w ≡ returned v → IsHeld setting log v → IsAtRest setting w
rest_after setting log v w is h = subst (IsAtRest setting) (sym is) (refl, refl, h.3, subst (IsLegal setting) (sym h.2) h.4, (λ l. sym (h.5 l) ∙ ap (entries_of v.number) (sym h.2)), h.6, subst (AreKin v.kin) (sym h.2) h.7, h.8)

longer_same : (xs ys log : List Entry) → xs ≡ log → ys ≡ log → longer xs ys ≡ log
longer_same xs ys log p q = by_test (nat_lt (length xs) (length ys))
  where
    by_test : (b : Bool) → cond b ys xs ≡ log
    by_test true = q
    by_test false = p

-- two passes at rest that have seen the same, joined
pub rest_joined : (setting : Setting) (log : List Entry) (v w x : View) → x ≡ joined v w → v.seen ≡ log → w.seen ≡ log → w.live ≡ true → AreApart x → IsAtRest setting v → IsAtRest setting w → IsAtRest setting x
rest_joined setting log v w x is first second live apart own theirs =
    subst (IsAtRest setting) (sym is) (
      own.0,
      own.1,
      own.2,
      subst (IsLegal setting) (first ∙ sym seen) own.3,
      (λ l. own.4 l ∙ ap (entries_of v.number) (first ∙ sym seen)),
      own.5,
      (λ k m h. ⊎_elim
          (λ (t : Has v.kin (k, m)). ap (entries_of k) (seen ∙ sym first) ∙ own.6 k m t)
          (λ (t : Has ((w.number, w.mine) ∷ w.kin) (k, m)). ap (entries_of k) (seen ∙ sym second) ∙ ⊎_elim
          (λ (q : (w.number, w.mine) ≡ (k, m)). subst (λ (p : ℕ × List Entry). entries_of p.0 w.seen ≡ p.1) q (sym (theirs.4 live)))
          (λ (q : Has w.kin (k, m)). theirs.6 k m q)
          (has_cons (w.number, w.mine) (k, m) w.kin t.0 t.1))
          (has_both v.kin ((w.number, w.mine) ∷ w.kin) (k, m) h.0 h.1)),
      subst AreApart is apart,
    )
  where
    seen : longer v.seen w.seen ≡ log
    seen = longer_same v.seen w.seen log first second

-- the pass afterwards
pub own_after : (log log' : List Entry) (v m v' v'' w : View) (e : Entry) (r : Result (Unit {0}) Short) → m ≡ ruler log → v' ≡ looked (lent v m) → w ≡ returned v''
    → OnOk r ((log' ≡ e ∷ log) × (v'' ≡ taken (posted e v'))) → v.flight ≡ [] → OnOk r ((log' ≡ e ∷ log) × (w ≡ extends e log v))
own_after log log' v m v' v'' w e (Err why) is to back ok clear = tt
own_after log log' v m v' v'' w e (Ok x) is to back ok clear =
    (ok.0, back ∙ ap returned (ok.1 ∙ ap (λ (x : View). taken (posted e x)) (to ∙ ap (λ (x : View). looked (lent v x)) is)) ∙ ap (λ (f : List Entry). shown_with f e log v) clear)
  where
    shown_with : List Entry → Entry → List Entry → View → View
    shown_with f e before v = record { live = v.live; rules = false; number = v.number; seen = e ∷ before; all = []; mine = (e ∷ f) ++ v.mine; flight = []; out = v.out; kin = v.kin; count = v.count; drawn = v.drawn }
