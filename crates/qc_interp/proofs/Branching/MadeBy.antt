-- What a client made meanwhile, by what is its own before and after; and who has more kin.
use Rattle.std.proofs.Common.{◌≡◌, ℕ, ◌≤◌, Bool, true, false, List, [], ◌∷◌, ◌++◌, length, refl, sym, ap, ◌∙◌, subst, append_assoc, arith, length-append}
use mathlib.Core.Bool.{true≢false}
use Rattle.std.specs.Prelude.{◌||◌, not, if◌then◌else◌, filter, ◌==◌}
use Rattle.std.specs.List.{AllByRecursion, list_any}
use Rattle.std.proofs.lemmas.List.{append_cancel_right}
use Rattle.std.proofs.lemmas.List.Elements.{filter-append}
use Rattle.std.proofs.lemmas.List.Folds.{list_any-append}
use Rattle.std.proofs.lemmas.Bool.{eq-eqb, ne_eqb, or_left}
use Rattle.qc_event.specs.declared.event.Entry.{Entry}
use Rattle.qc_event.specs.History.{Past, Name, limit, end_in, ready_in}
use Rattle.qc_event.specs.Legal.{Legal}
use Rattle.qc_event.specs.Standing.{IsAbort}
use Rattle.qc_script.specs.declared.tx.TxNo.{TxNo}
use Rattle.qc_script.specs.declared.tx.TxNo.TheVariants as tx_no
use Rattle.qc_script.specs.Calls.{NoneUnder, Refuses, WasRefused}
use Rattle.qc_script.specs.Client.{Client, mine, is_own, Made, IsLater, HasJoined}
use Rattle.qc_event.proofs.OneEntry.{both_empty}
use Rattle.qc_event.proofs.StillTold.{some_stays}
use Rattle.qc_event.specs.declared.short.Short.TheVariants as short
use Rattle.qc_event.specs.declared.short.Short.{Short}
use Rattle.qc_event.specs.Wants.{IsWant}
use Rattle.qc_interp.proofs.Scopes.Growth.{made_is, ended_still}

-- no entry is the client's
abbrev pub NoneOf : Client → Past → Type 0
NoneOf c past = AllByRecursion (λ (e : Entry). is_own c e.seat ≡ false) past

pub none_of : (c : Client) (past : Past) → mine c past ≡ [] → NoneOf c past
none_of c [] is = tt
none_of c (e ∷ past) is = by_test (is_own c e.seat) refl is (none_of c past)
  where
    by_test : (b : Bool) → is_own c e.seat ≡ b → (if b then e ∷ mine c past else mine c past) ≡ [] → (mine c past ≡ [] → NoneOf c past) → NoneOf c (e ∷ past)
    by_test true own is more = absurd cc
    by_test false own is more = (own, more is)

pub none_mine : (c : Client) (past : Past) → NoneOf c past → mine c past ≡ []
none_mine c [] all = refl
none_mine c (e ∷ past) all = ap (λ b. if b then e ∷ mine c past else mine c past) all.0 ∙ none_mine c past all.1

pub none_both : (c : Client) (newer past : Past) → NoneOf c newer → NoneOf c past → NoneOf c (newer ++ past)
none_both c [] past a b = b
none_both c (e ∷ newer) past a b = (a.0, none_both c newer past a.1 b)

pub none_older : (c : Client) (newer past : Past) → NoneOf c (newer ++ past) → NoneOf c past
none_older c [] past all = all
none_older c (e ∷ newer) past all = none_older c newer past all.1

-- whose own are fewer
pub none_fewer : (c d : Client) (past : Past) → ((seat : ℕ) → is_own c seat ≡ true → is_own d seat ≡ true) → NoneOf d past → NoneOf c past
none_fewer c d [] fewer all = tt
none_fewer c d (e ∷ past) fewer all = (by_test (is_own c e.seat) refl, none_fewer c d past fewer all.1)
  where
    by_test : (b : Bool) → is_own c e.seat ≡ b → is_own c e.seat ≡ false
    by_test false own = own
    by_test true own = absurd (true≢false (sym (fewer e.seat own) ∙ all.0))

module _ (c : Client) where
  pub made_by : (es a b : Past) → IsLater c a b → mine c b ≡ es ++ mine c a → Made c es a b
  made_by es a b p is = record {
    newer = p.newer;
    grown = p.grown;
    made = append_cancel_right (mine c p.newer) es (mine c a) (sym (filter-append _ p.newer a) ∙ ap (mine c) (sym p.grown) ∙ is);
    legal = p.legal;
  }

  -- what was made meanwhile, among just what was newer
  pub made_among : (es newer a b : Past) → b ≡ newer ++ a → Made c es a b → mine c newer ≡ es
  made_among es newer a b is m = append_cancel_right (mine c newer) es (mine c a) (sym (filter-append _ newer a) ∙ ap (mine c) (sym is) ∙ made_is c es a b m)

  -- what was not made until later was not made until then
  pub made_until : (a b x : Past) → IsLater c a b → IsLater c b x → Made c [] a x → Made c [] a b
  made_until a b x p q m =
      let parts = both_empty (mine c q.newer) (mine c p.newer) (append_cancel_right (mine c q.newer ++ mine c p.newer) [] (mine c a)
      (append_assoc (mine c q.newer) (mine c p.newer) (mine c a)
      ∙ ap (λ l. mine c q.newer ++ l) (sym (filter-append _ p.newer a) ∙ ap (mine c) (sym p.grown))
      ∙ sym (filter-append _ q.newer b) ∙ ap (mine c) (sym q.grown) ∙ made_is c [] a x m)) in
      record { newer = p.newer; grown = p.grown; made = parts.1; legal = p.legal }

-- who owns no more made nothing either
pub made_fewer : (c d : Client) (a b : Past) → ((seat : ℕ) → is_own c seat ≡ true → is_own d seat ≡ true) → d.setting ≡ c.setting → Made d [] a b → Made c [] a b
made_fewer c d a b fewer same m = record {
  newer = m.newer;
  grown = m.grown;
  made = none_mine c m.newer (none_fewer c d m.newer fewer (none_of d m.newer m.made));
  legal = subst (λ s. Legal s b) same m.legal;
}

-- MORE KIN

-- some seats are further kin
pub owned_more : (c : Client) (ks : List ℕ) (seat : ℕ) → is_own (record c { kin = c.kin ++ ks }) seat ≡ (is_own c seat || list_any (λ k. k == seat) ks)
owned_more c ks seat = list_any-append (λ k. k == seat) (c.number ∷ c.kin) ks

pub or_none : (a b : Bool) → b ≡ false → (a || b) ≡ a
or_none true b is = refl
or_none false b is = is

-- under which nothing was made
abbrev pub NoneIn : List ℕ → Past → Type 0
NoneIn ks past = AllByRecursion (λ (e : Entry). list_any (λ k. k == e.seat) ks ≡ false) past

pub none_alike : (c : Client) (ks : List ℕ) (past : Past) → NoneIn ks past → AllByRecursion (λ (e : Entry). is_own (record c { kin = c.kin ++ ks }) e.seat ≡ is_own c e.seat) past
none_alike c ks [] none = tt
none_alike c ks (e ∷ past) none = (owned_more c ks e.seat ∙ or_none (is_own c e.seat) (list_any (λ k. k == e.seat) ks) none.0, none_alike c ks past none.1)

pub joins_more : (c : Client) (ks out : List ℕ) (past : Past) → NoneIn ks past → HasJoined c past (record c { kin = c.kin ++ ks })
joins_more c ks out past none = record {
  kin = c.kin ++ ks;
  same = refl;
  wider = λ seat own. owned_more c ks seat ∙ or_left (is_own c seat) (list_any (λ k. k == seat) ks) own;
  own = none_alike c ks past none;
}

-- who owns these too made nothing where neither did
pub none_more : (c : Client) (ks : List ℕ) (past : Past) → NoneOf c past → NoneIn ks past → NoneOf (record c { kin = c.kin ++ ks }) past
none_more c ks [] all none = tt
none_more c ks (e ∷ past) all none = (owned_more c ks e.seat ∙ or_none (is_own c e.seat) (list_any (λ k. k == e.seat) ks) none.0 ∙ all.0, none_more c ks past all.1 none.1)

-- nothing under one seat
pub none_under : (seat : ℕ) (past : Past) → NoneUnder seat past → NoneIn (seat ∷ []) past
none_under seat [] none = tt
none_under seat (e ∷ past) none = (ap (λ b. b || false) (ne_eqb seat e.seat (λ is. none.0 (sym is))), none_under seat past none.1)

abbrev pub without : ℕ → List ℕ → List ℕ
without n l = filter (λ k. not (k == n)) l

-- a number that is not among some is left out of them
pub left_as : (n : ℕ) (l : List ℕ) → list_any (λ k. k == n) l ≡ false → without n l ≡ l
left_as n [] none = refl
left_as n (k ∷ l) none = by_test (k == n) none (left_as n l)
  where
    by_test : (b : Bool) → (b || list_any (λ j. j == n) l) ≡ false → (list_any (λ j. j == n) l ≡ false → without n l ≡ l) → (if not b then k ∷ without n l else without n l) ≡ k ∷ l
    by_test true none more = absurd (true≢false none)
    by_test false none more = ap (λ y. k ∷ y) (more none)

pub left_out : (n : ℕ) (l : List ℕ) → list_any (λ k. k == n) l ≡ false → without n (n ∷ l) ≡ l
left_out n l none = ap (λ b. if not b then n ∷ without n l else without n l) (eq-eqb n n refl) ∙ left_as n l none

-- REFUSALS

-- where what was seen is within its limit, what want says of it stands later
pub want_later : (newer seen : Past) (s : Short) → length (newer ++ seen) ≤ limit → IsWant seen s → IsWant (newer ++ seen) s
want_later newer seen short.Memory bound h = tt
want_later newer seen short.Room bound h = omega (arith, h, bound, length-append newer seen)

-- so does a refusal to begin
pub refuses_later : (newer seen : Past) (of : Name) (why : TxNo) → length (newer ++ seen) ≤ limit → ((child : Name) → why ≡ tx_no.ChildrenOpen child → ⊥) → Refuses seen of why → Refuses (newer ++ seen) of why
refuses_later newer seen of (tx_no.Orphan a) bound closed h = (h.0, ended_still newer seen a IsAbort h.1)
refuses_later newer seen of tx_no.Ended bound closed h = some_stays (λ e. end_in of e.event) newer seen h
refuses_later newer seen of (tx_no.ChildrenOpen child) bound closed h = absurd (closed child refl)
refuses_later newer seen of tx_no.Ready bound closed h = some_stays (λ e. ready_in of e.event) newer seen h
refuses_later newer seen of (tx_no.Short s) bound closed h = want_later newer seen s bound h
refuses_later newer seen of (tx_no.Conflict copy holder) bound closed h = absurd h
refuses_later newer seen of (tx_no.NoQuorum lack) bound closed h = absurd h
refuses_later newer seen of tx_no.Last bound closed h = absurd h
refuses_later newer seen of tx_no.Ledger bound closed h = absurd h

-- a refusal to begin, as another client is told of it that made nothing either
pub refused_later : (c d : Client) (of : Name) (a b x y : Past) (newer : Past) (why : TxNo) → y ≡ newer ++ b → length y ≤ limit → Made d [] x y → WasRefused c of a b why → WasRefused d of x y why
refused_later c d of a b x y newer why is bound m = by_why why
  where
    later : (why : TxNo) → ((child : Name) → why ≡ tx_no.ChildrenOpen child → ⊥) → Refuses b of why → Refuses y of why
    later why closed h = subst (λ h. Refuses h of why) (sym is) (refuses_later newer b of why (subst (λ h. length h ≤ limit) is bound) closed h)

    by_why : (why : TxNo) → WasRefused c of a b why → WasRefused d of x y why
    by_why (tx_no.Short s) h = (m, later (tx_no.Short s) (λ child is. cc) h.1)
    by_why (tx_no.Orphan ancestor) h = (m, later (tx_no.Orphan ancestor) (λ child is. cc) h.1)
    by_why tx_no.Ended h = (m, later tx_no.Ended (λ child is. cc) h.1)
    by_why tx_no.Ready h = (m, later tx_no.Ready (λ child is. cc) h.1)
    by_why (tx_no.ChildrenOpen child) h = absurd h
    by_why (tx_no.Conflict copy holder) h = absurd h.1
    by_why (tx_no.NoQuorum lack) h = absurd h.1
    by_why tx_no.Last h = absurd h.1
    by_why tx_no.Ledger h = absurd h.1
