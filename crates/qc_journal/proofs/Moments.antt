-- How a run of device calls goes on: what it leaves at each moment, and what is never lost.
use Rattle.std.proofs.Common.{◌≡◌, ◌≤◌, inl, inr, ⊎_elim, ℕ, List, subst, arith}
use Rattle.std.specs.Prelude.{◌↔◌}
use Rattle.std.proofs.lemmas.Bool.{cases_lt}
use Rattle.qc_disk.specs.Disk.{DiskView, Elapses, LeavesOnly, AllAt, Grows, FallsAway, ChangesOnce, Within}

module _ {D : Type 0} (view : D → DiskView) where
  -- what a crash leaves at a moment, at another name of it
  at_same : (disk : D) (t u : ℕ) (c : List ℕ) → t ≡ u → (view disk).left_at t c → (view disk).left_at u c
  at_same disk t u c is left = subst (λ n. (view disk).left_at n c) is left

  -- before the first call
  pub started : (old : D) (P : List ℕ → Type 0) → ((c : List ℕ) → (view old).left_at (view old).moment c → P c) → LeavesOnly view old old P
  started old P here = record {
    later = omega arith;
    each = λ t c from last left. here c (at_same old t (view old).moment c (omega (arith, from, last)) left);
    earlier = λ t c early. (λ left. left, λ left. left);
  }

  -- one call more, before and after which a crash leaves what has P
  pub goes_on : (old mid new : D) (P : List ℕ → Type 0) → LeavesOnly view old mid P → Elapses (view mid) (view new)
      → ((c : List ℕ) → (view mid).may_leave c → P c) → ((c : List ℕ) → (view new).may_leave c → P c) → LeavesOnly view old new P
  goes_on old mid new P so_far time was here = record {
    later = omega (arith, so_far.later, time.later);
    each = λ t c from last now. elim (cases_lt t (view mid).moment) [
      | inl early ↦ so_far.each t c from (omega (arith, early)) ((time.earlier t c early).0 now)
      | inr late ↦ ⊎_elim (was c) (here c) (time.inside t c late last now)
    ];
    earlier = λ t c early.
        let then = time.earlier t c (omega (arith, early, so_far.later)) in
        let first = so_far.earlier t c early in
        (λ now. first.0 (then.0 now), λ past. then.1 (first.1 past));
  }

  -- one run after another
  pub continues : (old mid new : D) (P Q R : List ℕ → Type 0) → LeavesOnly view old mid P → LeavesOnly view mid new Q
      → ((c : List ℕ) → P c → R c) → ((c : List ℕ) → Q c → R c) → LeavesOnly view old new R
  continues old mid new P Q R first then one two = record {
    later = omega (arith, first.later, then.later);
    each = λ t c from last now. elim (cases_lt t (view mid).moment) [
      | inl early ↦ one c (first.each t c from (omega (arith, early)) ((then.earlier t c early).0 now))
      | inr late ↦ two c (then.each t c late last now)
    ];
    earlier = λ t c early.
        let next = then.earlier t c (omega (arith, early, first.later)) in
        let past = first.earlier t c early in
        (λ now. past.0 (next.0 now), λ was. next.1 (past.1 was));
  }

  -- what a crash leaves has also what follows
  pub weakened : (old new : D) (P Q : List ℕ → Type 0) → LeavesOnly view old new P → ((c : List ℕ) → P c → Q c) → LeavesOnly view old new Q
  weakened old new P Q so_far within = record {
    later = so_far.later;
    each = λ t c from last left. within c (so_far.each t c from last left);
    earlier = so_far.earlier;
  }

  -- NOTHING IS LOST

  -- where no call is made
  pub falls_none : (old : D) → FallsAway view old old
  falls_none old = record {
    from_before = λ t c from last left. at_same old t (view old).moment c (omega (arith, from, last)) left;
    within = λ t u c from order last left. at_same old u t c (omega (arith, from, order, last)) left;
  }

  -- one call after which a crash leaves no more than before
  pub falls_by_call : (old new : D) → ((c : List ℕ) → (view old).left_at (view old).moment c ↔ (view old).may_leave c)
      → Elapses (view old) (view new) → Within (view old).may_leave (view new).may_leave → FallsAway view old new
  falls_by_call old new now time fewer = record {
    from_before = λ t c from last l. (now c).1 (was t c from last l);
    within = λ t u c from order last l. elim (cases_lt t (view new).moment) [
      | inl early ↦ time.until t c from early (was u c (omega (arith, from, order)) last l)
      | inr late ↦ at_same new u t c (omega (arith, late, order, last)) l
    ];
  }
    where
      was : (t : ℕ) (c : List ℕ) → (view old).moment ≤ t → t ≤ (view new).moment → (view new).left_at t c → (view old).may_leave c
      was t c from last l = ⊎_elim (λ here. here) (λ after. fewer c after) (time.inside t c from last l)

  -- one such run after another
  pub falls_on : (old mid new : D) (Q : List ℕ → Type 0) → (view old).moment ≤ (view mid).moment → FallsAway view old mid → LeavesOnly view mid new Q → FallsAway view mid new
      → FallsAway view old new
  falls_on old mid new Q later first run then = record {
    from_before = λ t c from last l. elim (cases_lt t (view mid).moment) [
      | inl early ↦ first.from_before t c from (omega (arith, early)) ((run.earlier t c early).0 l)
      | inr late ↦ first.from_before (view mid).moment c later (omega arith) (then.from_before t c late last l)
    ];
    within = λ t u c from order last l. elim (cases_lt t (view mid).moment) [
      | inl early ↦ (run.earlier t c early).1 (elim (cases_lt u (view mid).moment) [
        | inl before ↦ first.within t u c from order (omega (arith, before)) ((run.earlier u c before).0 l)
        | inr after ↦ first.within t (view mid).moment c from (omega (arith, early)) (omega arith) (then.from_before u c after last l)
      ])
      | inr late ↦ then.within t u c late order last l
    ];
  }

  -- where images only fall away, what all have they go on to have
  pub grows_by_falls : (old new : D) (P : List ℕ → Type 0) → FallsAway view old new → Grows view old new P
  grows_by_falls old new P falls = record {
    from_before = λ t from last all c l. all c (falls.from_before t c from last l);
    within = λ t u from order last all c l. all c (falls.within t u c from order last l);
  }

  -- where there is one change, and all that may be left has it where all had it before
  pub grows_once : (old new : D) (P Q : List ℕ → Type 0) → LeavesOnly view old new Q → ChangesOnce view old new
      → (AllAt view old (view old).moment P → (c : List ℕ) → Q c → P c) → Grows view old new P
  grows_once old new P Q run once keeps = record {
    from_before = λ t from last all c l. keeps all c (run.each t c from last l);
    within = λ t u from order last all c l. ⊎_elim
        (λ falls. all c (falls c l))
        (λ still. keeps (λ d was. all d (still d was)) c (run.each u c (omega (arith, from, order)) last l))
        (once t u from order last);
  }

  -- one run after another
  pub grows_on : (old mid new : D) (P Q : List ℕ → Type 0) → (view old).moment ≤ (view mid).moment → Grows view old mid P → LeavesOnly view mid new Q → Grows view mid new P
      → Grows view old new P
  grows_on old mid new P Q later first run then = record {
    from_before = λ t from last all. elim (cases_lt t (view mid).moment) [
      | inl early ↦ λ c l. first.from_before t from (omega (arith, early)) all c ((run.earlier t c early).0 l)
      | inr late ↦ then.from_before t late last (first.from_before (view mid).moment later (omega arith) all)
    ];
    within = λ t u from order last all. elim (cases_lt t (view mid).moment) [
      | inl early ↦ elim (cases_lt u (view mid).moment) [
        | inl before ↦ λ c l. first.within t u from order (omega (arith, before)) (λ d was. all d ((run.earlier t d early).1 was)) c ((run.earlier u c before).0 l)
        | inr after ↦ then.from_before u after last (first.within t (view mid).moment from (omega (arith, early)) (omega arith) (λ d was. all d ((run.earlier t d early).1 was)))
      ]
      | inr late ↦ then.within t u late order last all
    ];
  }

  -- a change, and then calls after which a crash leaves no more
  pub once_on : (old mid new : D) (Q : List ℕ → Type 0) → ((c : List ℕ) → (view old).left_at (view old).moment c ↔ (view old).may_leave c)
      → Elapses (view old) (view mid) → LeavesOnly view mid new Q → FallsAway view mid new → ChangesOnce view old new
  once_on old mid new Q now time run falls t u from order last = elim (cases_lt t (view mid).moment) [
    | inl early ↦ inr (λ c l. (run.earlier t c early).1 (time.until t c from early ((now c).0 l)))
    | inr late ↦ inl (λ c l. falls.within t u c late order last l)
  ]
