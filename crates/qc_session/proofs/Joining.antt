-- The first pass, as it gives a client its pass and that is joined back.
use Rattle.std.proofs.Common.{◌≡◌, ℕ, zero, suc, ◌<◌, ◌≤◌, ◌+◌, ◌==◌, ◌⊎◌, inl, inr, Bool, true, false, cond, List, [], ◌∷◌, ◌++◌, length, refl, sym, ap, ◌∙◌, subst, arith, eq-eqb}
use mathlib.Core.Bool.{true≢false}
use mathlib.Core.Option.{some, some-ne-none, some-injective}
use lib.ListN.{get_elem?}
use Rattle.std.specs.Prelude.{nat_lt, ◌&&◌, ◌||◌, Result, Ok, Err, OnOk, IsErrOf}
use Rattle.std.specs.List.{list_any}
use Rattle.std.proofs.lemmas.Bool.{or_right}
use Rattle.std.proofs.lemmas.List.{length-append}
use Rattle.qc_event.specs.declared.short.Short.{Short}
use Rattle.qc_event.specs.declared.short.Short.TheVariants.{Memory, Room}
use Rattle.qc_event.specs.Base.{Setting}
use Rattle.qc_event.specs.History.{Past, limit}
use Rattle.qc_interp.specs.Reach.{Reach}
use Rattle.qc_desk.specs.declared.view.View.{View}
use Rattle.qc_desk.specs.Entries.{IsOlder, entries_of}
use Rattle.qc_desk.specs.Rules.{AreKin, Has, IsSplit, joined, knows, numbers, pass, without}
use Rattle.qc_carry.proofs.Branching.{by_count}
use Rattle.qc_desk.proofs.Apart.{number_of_kin}
use Rattle.qc_desk.proofs.Having.{has_both, has_cons, has_left, has_none, has_right}
use Rattle.qc_desk.proofs.Seers.{older_trans}
use Rattle.qc_script.specs.Plan.{SessionPlan}
use Rattle.qc_session.specs.Marking.{made_under}
use Rattle.qc_session.specs.Session.{AreHigh, EachJoined, HaveRun, IsFirst, IsNew, Leaves, RanEach, RanOne, first_want, is_of}

-- the first pass with a pass that it gave out
abbrev with_out : View → ℕ → View
with_out v number = record { live = v.live; rules = v.rules; number = v.number; seen = v.seen; all = v.all; mine = v.mine; flight = v.flight; out = number ∷ v.out; kin = v.kin; count = v.count; drawn = v.drawn }

abbrev pub pair : ℕ → Past → ℕ × Past
pair number own = (number, own)

-- A PASS IS GIVEN

module _ (first split given : View) (is : IsFirst first) (splits : IsSplit first split given) where
  parts : (17 < given.number) × (given ≡ pass given.number first.seen) × (split ≡ with_out first given.number)
  parts = by_count _ _ _ (ap (λ n. (n == 0) && nat_lt first.count 17) is.number ∙ ap (λ k. nat_lt k 17) is.given) splits

  pub new_pass : (given.live ≡ true → given.mine ≡ entries_of given.number given.seen) → IsNew given
  new_pass known = record {
    live = live;
    number = parts.0;
    mine = mine;
    kin = ap (λ (v : View). v.kin) parts.1;
    out = ap (λ (v : View). v.out) parts.1;
    none = sym (known live) ∙ mine;
  }
    where
      live : given.live ≡ true
      live = ap (λ (v : View). v.live) parts.1

      mine : given.mine ≡ []
      mine = ap (λ (v : View). v.mine) parts.1

  pub first_split : IsFirst split
  first_split = record {
    live = ap (λ (v : View). v.live) parts.2 ∙ is.live;
    number = ap (λ (v : View). v.number) parts.2 ∙ is.number;
    given = ap (λ (v : View). v.count) parts.2 ∙ is.given;
    mine = ap (λ (v : View). v.mine) parts.2 ∙ is.mine;
  }

  pub kin_split : split.kin ≡ first.kin
  kin_split = ap (λ (v : View). v.kin) parts.2

  pub out_split : split.out ≡ given.number ∷ first.out
  out_split = ap (λ (v : View). v.out) parts.2

  pub seen_split : split.seen ≡ first.seen
  seen_split = ap (λ (v : View). v.seen) parts.2

-- IT IS JOINED BACK

-- a number is found where it stands
one_is : (n : ℕ) (xs : List ℕ) (i : ℕ) → get_elem? xs i ≡ some n → list_any (λ k. k == n) xs ≡ true
one_is n [] i at = absurd (some-ne-none n (sym at))
one_is n (x ∷ xs) zero at = ap (λ b. b || list_any (λ k. k == n) xs) (eq-eqb x n (some-injective x n at))
one_is n (x ∷ xs) (suc i) at = or_right (x == n) (list_any (λ k. k == n) xs) (one_is n xs i at)

-- what is left without a number is of the list, and another
has_without : (n k : ℕ) (xs : List ℕ) → Has (without n xs) k → Has xs k × (k ≡ n → ⊥)
has_without n k [] h = absurd (has_none k h)
has_without n k (x ∷ xs) h = by_test (x == n) refl h (λ rest. has_without n k xs rest)
  where
    more : Has xs k × (k ≡ n → ⊥) → Has (x ∷ xs) k × (k ≡ n → ⊥)
    more t = (has_right (x ∷ []) xs k t.0, t.1)

    by_test : (b : Bool) → (x == n) ≡ b → Has (cond b (without n xs) (x ∷ without n xs)) k → (Has (without n xs) k → Has xs k × (k ≡ n → ⊥)) → Has (x ∷ xs) k × (k ≡ n → ⊥)
    by_test true at h before = more (before h)
    by_test false at h before = elim (has_cons x k (without n xs) h.0 h.1) [
      | inl is ↦ ((0, ap some is), λ same. true≢false (sym (eq-eqb x n (is ∙ same)) ∙ at))
      | inr rest ↦ more (before rest)
    ]

module _ (mid back now : View) (joins : now ≡ knows now.seen (joined mid back)) where
  abbrev given_back : List (ℕ × Past)
  given_back = pair back.number back.mine ∷ back.kin

  pub first_joined : IsFirst mid → IsFirst now
  first_joined is = record {
    live = ap (λ (v : View). v.live) joins ∙ is.live;
    number = ap (λ (v : View). v.number) joins ∙ is.number;
    given = ap (λ (v : View). v.count) joins ∙ is.given;
    mine = ap (λ (v : View). v.mine) joins ∙ is.mine;
  }

  kin_joined : now.kin ≡ mid.kin ++ given_back
  kin_joined = ap (λ (v : View). v.kin) joins

  pub kept_joined : (k : ℕ) (m : Past) → Has mid.kin (pair k m) → Has now.kin (pair k m)
  kept_joined k m h = subst (λ ks. Has ks (pair k m)) (sym kin_joined) (has_left mid.kin given_back (pair k m) h)

  pub one_joined : (k : ℕ) (m : Past) → Has given_back (pair k m) → Has now.kin (pair k m)
  one_joined k m h = subst (λ ks. Has ks (pair k m)) (sym kin_joined) (has_right mid.kin given_back (pair k m) h)

  pub only_joined : (k : ℕ) (m : Past) → Has now.kin (pair k m) → Has mid.kin (pair k m) ⊎ (is_of back k ≡ true)
  only_joined k m h = by_both (subst (λ ks. Has ks (pair k m)) kin_joined h)
    where
      by_both : Has (mid.kin ++ given_back) (pair k m) → Has mid.kin (pair k m) ⊎ (is_of back k ≡ true)
      by_both t = elim (has_both mid.kin given_back (pair k m) t.0 t.1) [
        | inl old ↦ inl old
        | inr new ↦ inr (let at = number_of_kin given_back k new.0 m new.1 in one_is k (numbers back) at.0 at.1)
      ]

  pub out_joined : (k : ℕ) → Has now.out k → Has mid.out k × (k ≡ back.number → ⊥)
  out_joined k h = has_without back.number k mid.out (subst (λ ks. Has ks k) (ap (λ (v : View). v.out) joins) h)

-- THE SESSIONS

-- each that joined has joined still
each_later : (reach : Reach) (setting : Setting) (epoch patience session : ℕ) (plans : List SessionPlan) (ones : List View) (mid now : View)
    → ((k : ℕ) (m : Past) → Has mid.kin (pair k m) → Has now.kin (pair k m)) → IsOlder mid.seen now.seen
    → EachJoined reach setting epoch patience session plans ones mid → EachJoined reach setting epoch patience session plans ones now
each_later reach setting epoch patience session [] [] mid now kept older each = tt
each_later reach setting epoch patience session [] (one ∷ ones) mid now kept older each = each
each_later reach setting epoch patience session (plan ∷ plans) [] mid now kept older each = each
each_later reach setting epoch patience session (plan ∷ plans) (one ∷ ones) mid now kept older each = (
  record {
    high = each.0.high;
    own = each.0.own;
    kin = each.0.kin;
    before = each.0.before;
    none = each.0.none;
    leaves = each.0.leaves;
    joined = λ k m h. kept k m (each.0.joined k m h);
    seen = older_trans one.seen mid.seen now.seen each.0.seen older;
  },
  each_later reach setting epoch patience (session + 1) plans ones mid now kept older each.1,
)

-- none has run yet
pub none_run : (reach : Reach) (setting : Setting) (epoch patience session : ℕ) (first : View) → HaveRun reach setting epoch patience session [] first first
none_run reach setting epoch patience session first = record {
  ones = [];
  each = tt;
  only = λ k m h. inl h;
  kept = λ k m h. h;
  out = λ k h. h;
  older = ([], refl);
}

module _ (setting : Setting) (epoch patience session : ℕ) (plan : SessionPlan) (plans : List SessionPlan) (first split given back mid now : View)
    (is : IsFirst first) (splits : IsSplit first split given) (new : IsNew given) (number : back.number ≡ given.number) (high : AreHigh (numbers back)) (none : made_under (numbers back) given.seen ≡ []) (own : back.mine ≡ entries_of back.number back.seen) (kin : AreKin back.kin back.seen)
    (joins : now ≡ knows now.seen (joined mid back)) (mid_seen : IsOlder mid.seen now.seen) (back_seen : IsOlder back.seen now.seen) where
  -- one more session ran, before those that have run
  one_more_run : (reach : Reach) → Leaves reach setting epoch patience session plan given.seen back → HaveRun reach setting epoch patience (session + 1) plans split mid → HaveRun reach setting epoch patience session (plan ∷ plans) first now
  one_more_run reach leaves others = record {
    ones = back ∷ others.ones;
    each = (
      record {
        high = high;
        own = own;
        kin = kin;
        before = given.seen;
        none = none;
        leaves = leaves;
        joined = one_joined mid back now joins;
        seen = back_seen;
      },
      each_later reach setting epoch patience (session + 1) plans others.ones mid now (kept_joined mid back now joins) mid_seen others.each,
    );
    only = λ k m h. elim (only_joined mid back now joins k m h) [
      | inl old ↦ elim (others.only k m old) [
        | inl before ↦ inl (subst (λ ks. Has ks (pair k m)) (kin_split first split given is splits) before)
        | inr one ↦ inr (or_right (is_of back k) (list_any (λ (v : View). is_of v k) others.ones) one)
      ]
      | inr at ↦ inr (ap (λ b. b || list_any (λ (v : View). is_of v k) others.ones) at)
    ];
    kept = λ k m h. kept_joined mid back now joins k m (others.kept k m (subst (λ ks. Has ks (pair k m)) (sym (kin_split first split given is splits)) h));
    out = λ k h.
        let left = out_joined mid back now joins k h in
        let had = subst (λ ks. Has ks k) (out_split first split given is splits) (others.out k left.0) in
        elim (has_cons given.number k first.out had.0 had.1) [
          | inl at ↦ absurd (left.1 (sym at ∙ sym number))
          | inr before ↦ before
        ];
    older = subst (λ h. IsOlder h now.seen) (seen_split first split given is splits) (older_trans split.seen mid.seen now.seen others.older mid_seen);
  }

  follows_more : (rest : Result (Unit {0}) Short) → Leaves Reach.to_the_end setting epoch patience session plan given.seen back → OnOk rest (HaveRun Reach.to_the_end setting epoch patience (session + 1) plans split mid)
      → OnOk rest (HaveRun Reach.to_the_end setting epoch patience session (plan ∷ plans) first now)
  follows_more (Ok done) leaves others = one_more_run Reach.to_the_end leaves others
  follows_more (Err why) leaves others = tt

  longer : (a : Past) → IsOlder a now.seen → limit ≤ length a → limit ≤ length now.seen
  longer a older full = omega (arith, full, ap (λ (p : Past). length p) older.1, length-append older.0 a)

  pub each_ran : (ran rest : Result (Unit {0}) Short) → RanOne setting epoch patience session plan given ran back → RanEach setting epoch patience (session + 1) plans split rest mid → RanEach setting epoch patience session (plan ∷ plans) first (first_want ran rest) now
  each_ran (Ok done) rest one others = record {
    first = first_joined mid back now joins others.first;
    follows = follows_more rest one.follows others.follows;
    begins = one_more_run Reach.cut_off one.begins others.begins;
    room = λ is. longer mid.seen mid_seen (others.room is);
  }
  each_ran (Err why) (Ok done) one others = record {
    first = first_joined mid back now joins others.first;
    follows = tt;
    begins = one_more_run Reach.cut_off one.begins others.begins;
    room = λ is. longer back.seen back_seen (let full = one.room is in omega (arith, full));
  }
  each_ran (Err Memory) (Err other) one others = record {
    first = first_joined mid back now joins others.first;
    follows = tt;
    begins = one_more_run Reach.cut_off one.begins others.begins;
    room = λ is. absurd (not_room is);
  }
    where
      short : Result (Unit {0}) Short
      short = Err Memory

      not_room : IsErrOf short Room → ⊥
      not_room is = cc
  each_ran (Err Room) (Err other) one others = record {
    first = first_joined mid back now joins others.first;
    follows = tt;
    begins = one_more_run Reach.cut_off one.begins others.begins;
    room = λ is. longer mid.seen mid_seen (others.room is);
  }

-- none is left to run
pub none_left : (setting : Setting) (epoch patience session : ℕ) (first : View) → IsFirst first → RanEach setting epoch patience session [] first (Ok tt) first
none_left setting epoch patience session first is = record {
  first = is;
  follows = none_run Reach.to_the_end setting epoch patience session first;
  begins = none_run Reach.cut_off setting epoch patience session first;
  room = λ full. absurd (no_want full);
}
  where
    well : Result (Unit {0}) Short
    well = Ok tt

    no_want : IsErrOf well Room → ⊥
    no_want full = cc
