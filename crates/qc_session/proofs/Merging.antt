-- What a client is once it has merged a branch.
use Rattle.std.proofs.Common.{◌≡◌, ℕ, zero, suc, ◌==◌, Bool, true, false, cond, List, [], ◌∷◌, ◌++◌, map, refl, sym, ap, ◌∙◌, subst}
use mathlib.Core.Option.{some-injective}
use Rattle.std.proofs.Math.Logic.{∥∥₁_elim, ∥∥₁_map}
use Rattle.std.specs.Prelude.{Option, None, Some, IsTrue, MatchOption, ◌&&◌, filter, not, length, ◌≤◌}
use Rattle.std.proofs.lemmas.List.{map-append}
use Rattle.qc_board.specs.Boards.{Mark}
use Rattle.qc_board.specs.Marks as marking
use Rattle.qc_carry.specs.Branching.{HasTaken}
use Rattle.qc_carry.specs.Walk.{Walk}
use Rattle.qc_carry.proofs.Walking.{none_own}
use Rattle.qc_event.specs.Base.{Setting}
use Rattle.qc_event.specs.History.{Past, Name, limit}
use Rattle.qc_event.specs.Legal.{Legal}
use Rattle.qc_net.specs.Messages.{Net, meets_fates}
use Rattle.qc_desk.specs.declared.view.View.{View}
use Rattle.qc_desk.specs.Entries.{IsOlder, IsSince, entries_of}
use Rattle.qc_desk.specs.Rules.{AreApart, AreKin, Has, numbers, sees, without}
use Rattle.qc_desk.proofs.Apart.{kin_of_number}
use Rattle.qc_desk.proofs.Having.{has_left, has_right}
use Rattle.qc_desk.proofs.Lists.{entries_append}
use Rattle.qc_script.specs.Calls.{MeetsLink, Merged}
use Rattle.qc_script.specs.Client.{Client, Made}
use Rattle.qc_session.specs.Clients.{IsFor, client_of, kin_of, view_of}
use Rattle.qc_session.specs.Keeping.{IsClientPass}
use Rattle.qc_session.specs.Marking.{KnowsMarks}
use Rattle.qc_session.specs.Session.{AreHigh}
use Rattle.qc_session.specs.Tidy.{AreTidy}
use Rattle.qc_session.proofs.High.{high_both}
use Rattle.qc_session.proofs.MarksKept.{did_none, kept}
use Rattle.qc_session.proofs.Own.{made_so}
use Rattle.qc_session.proofs.OwnMarks.{known_joined, known_wider}
use Rattle.qc_session.proofs.Tidy.{each_tidy, tidy_both}
use Rattle.qc_session.proofs.Walks.{all_meet, all_meet_still}

-- EACH OF THE TWO

-- a pass, and what the client has seen since, while its kin entered nothing
module _ (setting : Setting) (v w : View) (legal : Legal setting w.seen) (since : IsSince v.number v.seen w.seen) (was : AreKin v.kin v.seen) (now : AreKin w.kin w.seen) (more : (x : ℕ × Past) → Has v.kin x → Has w.kin x) where
  kin_same : (k : ℕ) → Has (kin_of v) k → entries_of k w.seen ≡ entries_of k v.seen
  kin_same k h = let m = kin_of_number v.kin k h.0 h.1 in now k m.0 (more (k, m.0) m.1) ∙ sym (was k m.0 m.1)

  all_same : (k : ℕ) → Has (numbers v) k → entries_of k w.seen ≡ entries_of k v.seen
  all_same k (zero, at) =
      subst (λ n. entries_of n w.seen ≡ entries_of n v.seen) (some-injective v.number k at)
      (ap (entries_of v.number) since.1 ∙ entries_append v.number since.0 v.seen ∙ ap (λ l. l ++ entries_of v.number v.seen) (none_own v.number since.0 since.2))
  all_same k (suc i, at) = kin_same k (i, at)

  older : IsOlder v.seen w.seen
  older = (since.0, since.1)

  for : (c : Client) → c.number ≡ v.number → c.kin ≡ kin_of v → c.setting ≡ setting → IsFor setting v (sees w.seen v) c
  for c number kin same = record { number = number; kin_still = λ k h. kin_same k (subst (λ ks. Has ks k) kin h); setting_is = same }

  walk : Walk v (sees w.seen v) []
  walk = record { newer = since.0; grown = since.1; own = none_own v.number since.0 since.2; number = refl; live = refl; out = refl; kin = refl }

  pub none_made : (root : Name) (session epoch : ℕ) (net : Option Net) → Made (client_of setting root session epoch net v) [] v.seen w.seen
  none_made root session epoch net =
      let c = client_of setting root session epoch net v in
      made_so setting v (sees w.seen v) c (for c refl refl refl) legal [] walk

  pub tidy_since : AreTidy (numbers v) v.seen → AreTidy (numbers v) w.seen
  tidy_since tidy = each_tidy setting v.seen w.seen (numbers v) legal older all_same tidy

  pub met_since : (net : Net) → all_meet net v.seen (numbers v) ≡ true → all_meet net w.seen (numbers v) ≡ true
  met_since net met = all_meet_still setting net v.seen w.seen (numbers v) legal older all_same met

  pub known_since : (marks more_marks : List Mark) → ((m : Mark) → marking.Has marks m → marking.Has more_marks m) → KnowsMarks (numbers v) v.seen marks → KnowsMarks (numbers v) w.seen more_marks
  known_since marks more_marks wider known = let c = client_of setting [] 0 0 None v in known_wider marks more_marks _ wider (kept c marks v.seen w.seen (did_none c marks v.seen w.seen (none_made [] 0 0 None)) known)

-- BOTH

-- what follows of two facts that hold
both_held : {A B C : Type 0} → ∥ A ∥₁ → ∥ B ∥₁ → (A → B → C) → ∥ C ∥₁
both_held first second then = ∥∥₁_elim first (hlevel) (λ a. ∥∥₁_map second (then a))

-- what is left without a number
without_is : (n : ℕ) (xs : List ℕ) → without n xs ≡ filter (λ k. not (k == n)) xs
without_is n [] = refl
without_is n (x ∷ xs) = by_test (x == n) (without_is n xs)
  where
    by_test : (b : Bool) → without n xs ≡ filter (λ k. not (k == n)) xs → cond b (without n xs) (x ∷ without n xs) ≡ cond (not b) (x ∷ filter (λ k. not (k == n)) xs) (filter (λ k. not (k == n)) xs)
    by_test true rest = rest
    by_test false rest = ap (λ l. x ∷ l) rest

meet_both : (net : Net) (seen : Past) (xs ys : List ℕ) → all_meet net seen xs ≡ true → all_meet net seen ys ≡ true → all_meet net seen (xs ++ ys) ≡ true
meet_both net seen [] ys first second = second
meet_both net seen (x ∷ xs) ys first second = by_test (meets_fates x net seen) first (λ rest. meet_both net seen xs ys rest second)
  where
    by_test : (b : Bool) → (b && all_meet net seen xs) ≡ true → (all_meet net seen xs ≡ true → all_meet net seen (xs ++ ys) ≡ true) → (b && all_meet net seen (xs ++ ys)) ≡ true
    by_test true all rest = rest all
    by_test false all rest = all

abbrev pair : ℕ → Past → ℕ × Past
pair number own = (number, own)

module _ (setting : Setting) (v b w : View) (took : HasTaken v b w) (live : w.live ≡ true) (apart : AreApart w) (legal : Legal setting w.seen) (was : AreKin v.kin v.seen) (was_b : AreKin b.kin b.seen) (now : AreKin w.kin w.seen) where
  kin_is : w.kin ≡ v.kin ++ pair b.number b.mine ∷ b.kin
  kin_is = ap (λ (x : View). x.kin) took.taken

  abbrev number_of : ℕ × Past → ℕ
  number_of p = p.0

  kins_are : kin_of w ≡ kin_of v ++ b.number ∷ kin_of b
  kins_are = ap (map number_of) kin_is ∙ map-append number_of v.kin (pair b.number b.mine ∷ b.kin)

  pub numbers_are : numbers w ≡ numbers v ++ numbers b
  numbers_are = λ i. ap (λ (x : View). x.number) took.taken i ∷ kins_are i

  own_more : (x : ℕ × Past) → Has v.kin x → Has w.kin x
  own_more x h = subst (λ ks. Has ks x) (sym kin_is) (has_left v.kin (pair b.number b.mine ∷ b.kin) x h)

  their_more : (x : ℕ × Past) → Has b.kin x → Has w.kin x
  their_more x h = subst (λ ks. Has ks x) (sym kin_is) (has_right v.kin (pair b.number b.mine ∷ b.kin) x (suc h.0, h.1))

  pub merged : (root root_b : Name) (session session_b epoch epoch_b epoch_w : ℕ) (net net_b net_w : Option Net) → epoch_w ≡ epoch → net_w ≡ net → length w.seen ≤ limit
      → Merged (view_of setting root session epoch net v) (view_of setting root_b session_b epoch_b net_b b) (view_of setting root session epoch_w net_w w)
  merged root root_b session session_b epoch epoch_b epoch_w net net_b net_w same told few = record {
    client = λ i. record {
      number = ap (λ (x : View). x.number) took.taken i;
      root = root;
      kin = kins_are i;
      out = (ap (λ (x : View). x.out) took.taken ∙ without_is b.number v.out) i;
      session = session;
      epoch = same i;
      setting = setting;
      net = told i;
    };
    apart = apart live;
    bounded = few;
    made = none_made setting v w legal took.since was now own_more root session epoch net;
    branch_made = none_made setting b w legal took.other_since was_b now their_more root_b session_b epoch_b net_b;
  }

  merged_high : AreHigh (numbers v) → AreHigh (numbers b) → AreHigh (numbers w)
  merged_high first second = subst AreHigh (sym numbers_are) (high_both (numbers v) (numbers b) first second)

  merged_tidy : AreTidy (numbers v) v.seen → AreTidy (numbers b) b.seen → AreTidy (numbers w) w.seen
  merged_tidy first second = subst (λ ns. AreTidy ns w.seen) (sym numbers_are)
      (tidy_both (numbers v) (numbers b) w.seen (tidy_since setting v w legal took.since was now own_more first) (tidy_since setting b w legal took.other_since was_b now their_more second))

  merged_knows : (marks marks_b : List Mark) → KnowsMarks (numbers v) v.seen marks → KnowsMarks (numbers b) b.seen marks_b → KnowsMarks (numbers w) w.seen (marks ++ marks_b)
  merged_knows marks marks_b first second = subst (λ ns. KnowsMarks ns w.seen (marks ++ marks_b)) (sym numbers_are)
      (known_joined (numbers v) (numbers b) (marks ++ marks_b) w.seen
      (known_since setting v w legal took.since was now own_more marks (marks ++ marks_b) (λ m h. has_left marks marks_b m h) first)
      (known_since setting b w legal took.other_since was_b now their_more marks_b (marks ++ marks_b) (λ m h. has_right marks marks_b m h) second))

  -- a client keeps what both kept
  pub merged_keeps : (marks marks_b : List Mark) → IsClientPass v marks → IsClientPass b marks_b → IsClientPass w (marks ++ marks_b)
  merged_keeps marks marks_b first second = record {
    high = merged_high first.high second.high;
    kin = now;
    tidy = both_held first.tidy second.tidy merged_tidy;
    marks_known = both_held first.marks_known second.marks_known (merged_knows marks marks_b);
  }

  pub merged_met : (root root_b : Name) (session session_b epoch epoch_b epoch_w : ℕ) (net net_b net_w : Option Net) → net_w ≡ net → net_b ≡ net → MeetsLink (view_of setting root session epoch net v) → MeetsLink (view_of setting root_b session_b epoch_b net_b b)
      → MeetsLink (view_of setting root session epoch_w net_w w)
  merged_met root root_b session session_b epoch epoch_b epoch_w net net_b net_w told told_b first second =
      subst (λ (o : Option Net). MatchOption o (Unit {0}) (λ x. IsTrue (all_meet x w.seen (numbers w)))) (sym told)
      (subst (λ ns. MatchOption net (Unit {0}) (λ x. IsTrue (all_meet x w.seen ns))) (sym numbers_are)
      (by_net net first (subst (λ (o : Option Net). MatchOption o (Unit {0}) (λ x. IsTrue (all_meet x b.seen (numbers b)))) told_b second)))
    where
      by_net : (o : Option Net) → MatchOption o (Unit {0}) (λ x. IsTrue (all_meet x v.seen (numbers v))) → MatchOption o (Unit {0}) (λ x. IsTrue (all_meet x b.seen (numbers b)))
          → MatchOption o (Unit {0}) (λ x. IsTrue (all_meet x w.seen (numbers v ++ numbers b)))
      by_net None first second = tt
      by_net (Some x) first second = meet_both x w.seen (numbers v) (numbers b) (met_since setting v w legal took.since was now own_more x first) (met_since setting b w legal took.other_since was_b now their_more x second)
