-- What was inherited from one transaction to another, and who holds a lock before.
use Rattle.std.proofs.Common.{◌≡◌, ℕ, ◌⊎◌, inl, inr, true, false, List, [], ◌∷◌, ◌++◌, refl, sym, ap, ◌∙◌, subst, append_assoc, append-nil}
use mathlib.Core.Bool.{true≢false}
use Rattle.std.specs.Prelude.{Option, None, Some, is_some}
use Rattle.std.proofs.lemmas.Bool.{cases_Bool}
use Rattle.qc_event.proofs.LastNumber.{EndsIn, ends_in, front_last, is_ancestor-append, rest_of, same_last, ancestor_further}
use Rattle.qc_names.specs.Name as name
use Rattle.qc_event.specs.declared.event.Entry.{Entry}
use Rattle.qc_event.specs.declared.event.Grant.{Grant}
use Rattle.qc_event.specs.History.{Past, Name}
use Rattle.qc_event.specs.Dead.{dead, outcome, is_committed}
use Rattle.qc_event.proofs.Later.{committed_stays}
use Rattle.qc_moss.specs.declared.holder.Holder.{Holder}
use Rattle.qc_moss.specs.Follows.{IsAmong, IsInherited, AreOf}
use Rattle.qc_moss.specs.Follows.AreOf.{none, gone, kept, more, read}
use Rattle.qc_moss.proofs.Ancestry.{ancestor_itself, alive_if, alive_at}

-- INHERITING

pub not_passed : (past : Past) (n : Name) → IsInherited past n n
not_passed past n = record {
  above = ancestor_itself n;
  committed = λ a up beside. absurd (true≢false (sym up ∙ beside));
}

pub passed_on : (past : Past) (a b c : Name) → IsInherited past a b → IsInherited past b c → IsInherited past a c
passed_on past a b c low high = record {
  above = ancestor_further c b a high.above low.above;
  committed = λ x up beside. elim (cases_Bool (name.is_ancestor x b)) [
    | inl above ↦ high.committed x above beside
    | inr below ↦ low.committed x up below
  ];
}

pub inherited_on : (e : Entry) (past : Past) (n at : Name) → IsInherited past n at → IsInherited (e ∷ past) n at
inherited_on e past n at i = record {
  above = i.above;
  committed = λ a up below. committed_stays e past a (i.committed a up below);
}

-- below the dead all is dead
pub dead_down : (past : Past) (at n : Name) → name.is_ancestor at n ≡ true → is_some (dead past at) ≡ true → is_some (dead past n) ≡ true
dead_down past at n up dies = by_case (dead past n) refl
  where
    by_case : (o : Option Name) → dead past n ≡ o → is_some o ≡ true
    by_case None lives = absurd (true≢false (sym dies ∙ ap is_some (alive_if past at (λ a above. alive_at past a n (ancestor_further a at n above up) lives))))
    by_case (Some x) is = refl

-- WHO HOLDS ONE BEFORE

-- whoever is among the first has died, or is inherited by one of the others
abbrev pub Covers : Past → List Name → List Name → Type 0
Covers past xs ys = (n : Name) → IsAmong n xs → (is_some (dead past n) ≡ true) ⊎ ((m : Name) × IsAmong m ys × IsInherited past n m)

pub covers_same : (past : Past) (xs : List Name) → Covers past xs xs
covers_same past xs = λ n there. inr (n, there, not_passed past n)

pub covers_on : (past : Past) (a b : Name) (xs ys : List Name) → IsInherited past a b → Covers past xs ys → Covers past (a ∷ xs) (b ∷ ys)
covers_on past a b xs ys up covers = λ n there. by_place n there
  where
    by_place : (n : Name) → (n ≡ a) ⊎ IsAmong n xs → (is_some (dead past n) ≡ true) ⊎ ((m : Name) × ((m ≡ b) ⊎ IsAmong m ys) × IsInherited past n m)
    by_place n (inl is) = inr (b, inl refl, subst (λ x. IsInherited past x b) (sym is) up)
    by_place n (inr there) = elim (covers n there) [
      | inl dies ↦ inl dies
      | inr (m, among, higher) ↦ inr (m, inr among, higher)
    ]

pub covers_first : (past : Past) (a : Name) (xs ys : List Name) → (is_some (dead past a) ≡ true) ⊎ ((m : Name) × IsAmong m ys × IsInherited past a m) → Covers past xs ys → Covers past (a ∷ xs) ys
covers_first past a xs ys first covers = λ n there. by_place n there
  where
    by_place : (n : Name) → (n ≡ a) ⊎ IsAmong n xs → (is_some (dead past n) ≡ true) ⊎ ((m : Name) × IsAmong m ys × IsInherited past n m)
    by_place n (inl is) = subst (λ x. (is_some (dead past x) ≡ true) ⊎ ((m : Name) × IsAmong m ys × IsInherited past x m)) (sym is) first
    by_place n (inr there) = covers n there

pub recast : (past : Past) (xs ys : List Name) → Covers past xs ys → (given : List Grant) (held : List Holder) → AreOf past xs given held → AreOf past ys given held
recast past _ ys covers _ _ (none xs) = none ys
recast past _ ys covers _ _ (gone xs g given held dies rest) = gone ys g given held dies (recast past xs ys covers given held rest)
recast past _ ys covers _ _ (kept xs g at given held i rest) = kept ys g at given held i (recast past (at ∷ xs) (at ∷ ys) (covers_on past at at xs ys (not_passed past at) covers) given held rest)
recast past _ ys covers _ _ (more xs g h given held i rest) = more ys g h given held i (recast past (h.at ∷ xs) (h.at ∷ ys) (covers_on past h.at h.at xs ys (not_passed past h.at) covers) given (h ∷ held) rest)
recast past _ ys covers _ _ (read xs g at given held gets among i rest) =
    by_cover (covers at among) (recast past xs ys covers given held rest)
  where
    by_cover : (is_some (dead past at) ≡ true) ⊎ ((m : Name) × IsAmong m ys × IsInherited past at m) → AreOf past ys given held → AreOf past ys (g ∷ given) held
    by_cover (inl dies) on = gone ys g given held (dead_down past at g.access i.above dies) on
    by_cover (inr (m, there, up)) on = read ys g m given held gets there (passed_on past g.access at m i up) on

pub without_dead : (past : Past) (at : Name) (before : List Name) → is_some (dead past at) ≡ true → Covers past (at ∷ before) before
without_dead past at before dies = covers_first past at before before (inl dies) (covers_same past before)

pub without_again : (past : Past) (at : Name) (before : List Name) → IsAmong at before → Covers past (at ∷ before) before
without_again past at before among = covers_first past at before before (inr (at, among, not_passed past at)) (covers_same past before)

pub higher : (past : Past) (at to : Name) (before : List Name) → IsInherited past at to → Covers past (at ∷ before) (to ∷ before)
higher past at to before up = covers_on past at to before before up (covers_same past before)

-- the commit of one transaction
parent_above : (n : Name) → name.is_ancestor (name.front n) n ≡ true
parent_above n = elim (ends_in n) [
  | inl root ↦ subst (λ m. name.is_ancestor (name.front m) m ≡ true) (sym root) refl
  | inr (p, j, is) ↦ subst (λ m. name.is_ancestor (name.front m) m ≡ true) (sym is) (ap (λ m. name.is_ancestor m (p ++ j ∷ [])) (front_last p j) ∙ is_ancestor-append p (j ∷ []))
]

only_itself : (a n : Name) → name.is_ancestor a n ≡ true → name.is_ancestor a (name.front n) ≡ false → a ≡ n
only_itself a n up below = by_parts (rest_of a n up) (ends_in n)
  where
    by_last : (r p : Name) (j : ℕ) → n ≡ a ++ r → n ≡ p ++ j ∷ [] → (r ≡ []) ⊎ EndsIn r → a ≡ n
    by_last r p j is ends (inl all) = sym (is ∙ ap (λ x. a ++ x) all ∙ append-nil a)
    by_last r p j is ends (inr (q, k, last)) =
        let parent : p ≡ a ++ q = (same_last p (a ++ q) j k (sym ends ∙ is ∙ ap (λ x. a ++ x) last ∙ sym (append_assoc a q (k ∷ [])))).0 in
        let front : name.front n ≡ a ++ q = ap name.front ends ∙ front_last p j ∙ parent in
        absurd (true≢false (sym (is_ancestor-append a q) ∙ sym (ap (name.is_ancestor a) front) ∙ below))

    by_parts : (r : Name) × (n ≡ a ++ r) → (n ≡ []) ⊎ EndsIn n → a ≡ n
    by_parts (r, is) (inl root) = absurd (true≢false (sym up ∙ ap (name.is_ancestor a) root ∙ ap (λ m. name.is_ancestor a (name.front m)) (sym root) ∙ below))
    by_parts (r, is) (inr (p, j, ends)) = by_last r p j is ends (ends_in r)

pub to_parent : (past : Past) (n : Name) → is_committed (outcome past n) ≡ true → IsInherited past n (name.front n)
to_parent past n done = record {
  above = parent_above n;
  committed = λ a up below. ap (λ m. is_committed (outcome past m)) (only_itself a n up below) ∙ done;
}

pub still_alive : (past : Past) (n at : Name) → IsInherited past n at → dead past n ≡ None → dead past at ≡ None
still_alive past n at i lives = alive_if past at (λ a above. alive_at past a n (ancestor_further a at n above i.above) lives)
