-- What is left of the tries of a branch after some of them, and what all of them are.
use Rattle.std.proofs.Common.{◌≡◌, inl, inr, ℕ, suc, zero, ◌<◌, Bool, true, false, List, [], ◌∷◌, ◌++◌, map, length, refl, sym, ap, ◌∙◌, subst, append-nil, append_assoc, arith}
use mathlib.Core.Bool.{true≢false}
use Rattle.std.specs.Prelude.{Option, None, Some, MatchBool, is_some, option_map, not, if◌then◌else◌}
use Rattle.std.specs.List.{AllByRecursion, list_all}
use Rattle.qc_event.specs.declared.event.Entry.{Entry}
use Rattle.qc_event.specs.declared.event.Event.TheVariants as event
use Rattle.qc_event.specs.declared.event.How.{How}
use Rattle.qc_event.specs.declared.event.How.TheVariants.{Commit, Abort}
use Rattle.qc_event.specs.declared.event.Kind.TheVariants as kind
use Rattle.qc_event.specs.History.{Past, Name, end, is_ready, is_child, children}
use Rattle.qc_event.specs.Legal.{Legal}
use Rattle.qc_event.proofs.Later.{earlier_legal}
use Rattle.qc_script.specs.Calls.{by_client}
use Rattle.qc_script.specs.Client.{Client, mine, Made, IsLater, HasJoined, AreOurs}
use Rattle.qc_script.specs.Plan.{Numbered}
use Rattle.qc_interp.specs.AtOnce.{LastCommitted}
use Rattle.qc_interp.specs.Asking.{Asks, AllAsked, IsAskedBy}
use Rattle.qc_interp.specs.Branches.{tries_by, AreTriesOurs, stays_with, IsLast, RanTries}
use Rattle.qc_interp.specs.Deeds.{Deed, deeds, deed_end, OfChild}
use Rattle.qc_interp.specs.Follows.{IsUnended}
use Rattle.qc_interp.specs.Reach.{Reach, AtTheEnd}
use Rattle.qc_interp.specs.Rows.{OneOf, has_committed, was_tried}
use Rattle.qc_interp.specs.Running.{Runs, CameTo, Ended, CutOff}
use Rattle.qc_interp.specs.Tries.{Tries, is_tried_again, is_again}
use Rattle.qc_interp.specs.Turns.{is_under}
use Rattle.qc_interp.specs.declared.stops.Finish.{Finish}
use Rattle.qc_interp.specs.declared.stops.Finish.TheVariants as finish
use Rattle.qc_interp.proofs.Listing.Lists.{all_last}
use Rattle.qc_interp.proofs.Stepping.Asked.{asked_made, asked_wider, asked_trans}
use Rattle.qc_interp.proofs.Branching.Tries.{TriesAt, tries_itself, tries_trans, TriedOne, CutOne, one_tried, one_cut}
use Rattle.qc_interp.proofs.Following.Followed.{IsTryOf}
use Rattle.qc_interp.proofs.Scopes.Growth.{made_is, made_later, later_itself, ours_before, first_made}
use Rattle.qc_interp.proofs.Trying.OneTry.{more_try, number_later, runs_later, again_later, asked_later}
use Rattle.qc_interp.proofs.Branching.Joined.{joined_before, joined_chain, joined_since, joined_start, joined_root, joined_mine, by_joined, more_mine, more_later, newer_mine, ours_back, both, OwnAlike}
use Rattle.qc_interp.proofs.Branching.MadeBy.{made_by}
use Rattle.qc_interp.proofs.Trying.Tried.{MayBegin, runs_begun}
use Rattle.qc_interp.proofs.Trying.TriesLead.{again_is, match_true, match_false}
use Rattle.qc_interp.proofs.Following.Turning.{InTurn, Alone, itself}

-- whether it may have stopped before a further try
abbrev pub MayStop : Bool → Type 0
MayStop true = Unit {0}
MayStop false = ⊥

-- from `before` on, so many tries of a branch's body behind this one, or as far as the run came
abbrev pub EndsBranch : Reach → Bool → Client → Past → Past → Numbered → Option Name → ℕ → Type 0
EndsBranch reach stops c before now body last left =
    AreTriesOurs c now → (further : List Name) × (tries_by c now ≡ tries_by c before ++ further)
    × Tries (deed_end (mine c now)) (OfChild (IsTryOf reach c.session (mine c now) body.number body.plan)) (MayStop stops) IsLast (option_map Deed.child last) left (map Deed.child further)
    × (was_tried (mine c now) false left (map Deed.child further) ≡ not stops)
    × AllAsked c before now (λ by t. OneOf (λ n. Asks (mine c now) n body.plan (deeds (mine c now) n) by t) further)

abbrev pub is_stopped : Finish → Bool
is_stopped finish.Committed = false
is_stopped (finish.Stopped again) = true

module _ (c : Client) (body : Numbered) (n : Name) (before now : Past) (to : Finish) (t : TriedOne c body n before now to) where
  pub made_it : tries_by c now ≡ tries_by c before ++ n ∷ []
  made_it = t.leaves.more ∙ ap (λ l. tries_by c before ++ l) t.is_made

  module _ (reach : Reach) (stops : Bool) (x : Past) (later : IsLater c now x) (further : List Name) (more : tries_by c x ≡ tries_by c now ++ further) (ours : AreTriesOurs c x) where
    tries_later : tries_by c x ≡ tries_by c before ++ n ∷ further
    tries_later = more ∙ ap (λ l. l ++ further) made_it ∙ append_assoc (tries_by c before) (n ∷ []) further

    ours_one : AreOurs c n x
    ours_one = all_last (λ y. AreOurs c y x) (tries_by c before) n further (subst (AllByRecursion (λ y. AreOurs c y x)) tries_later ours)

    own : AreOurs c n now
    own = ours_before c n now x later ours_one

    one_try : IsTryOf reach c.session (mine c x) body.number body.plan n
    one_try = (number_later c n body (AreOurs c n now) before now t.one x later own, runs_later c n body (AreOurs c n now) before now t.one x later own reach)

    again_now : is_tried_again (end (mine c x) n) ≡ is_again to
    again_now = again_later c n body (AreOurs c n now) before now t.one x later own ∙ again_is to (end (mine c now) n) t.came

    asked_now : AllAsked c before now (λ by m. Asks (mine c x) n body.plan (deeds (mine c x) n) by m)
    asked_now = asked_later c n body (AreOurs c n now) before now t.one x later own

    abbrev AreTries : Option Deed → ℕ → List Deed → Type 0
    AreTries last left ds = Tries (deed_end (mine c x)) (OfChild (IsTryOf reach c.session (mine c x) body.number body.plan)) (MayStop stops) IsLast last left ds

    with_try : (last : Option Deed) (left : ℕ) → MatchBool (is_again to) (AreTries (Some (Deed.child n)) left (map Deed.child further)) (map Deed.child further ≡ []) → AreTries last (suc left) (map Deed.child (n ∷ further))
    with_try last left h = (one_try, subst (λ b. MatchBool b (AreTries (Some (Deed.child n)) left (map Deed.child further)) (map Deed.child further ≡ [])) (sym again_now) h)

  -- one try more, after which there may be another
  pub branch_again : is_again to ≡ true → (reach : Reach) (stops : Bool) (x : Past) → IsLater c now x → (last : Option Name) (left : ℕ) → EndsBranch reach stops c now x body (Some n) left → EndsBranch reach stops c before x body last (suc left)
  branch_again is reach stops x later last left ends ours =
      let e = ends ours in (
        n ∷ e.0,
        tries_later reach stops x later e.0 e.1 ours,
        with_try reach stops x later e.0 e.1 ours (option_map Deed.child last) left (match_true _ (map Deed.child e.0 ≡ []) (is_again to) is e.2),
        ap (λ b. was_tried (mine c x) false (if b then left else zero) (map Deed.child e.0)) (again_now reach stops x later e.0 e.1 ours ∙ is) ∙ e.3,
        asked_trans c before now x _ (asked_wider _ _ (λ by m a. inl a) c before now (asked_now reach stops x later e.0 e.1 ours)) (asked_wider _ _ (λ by m a. inr a) c now x e.4),
      )

  -- one try more, which is the last
  pub branch_last : (last : Option Name) (left : ℕ) → (is_again to ≡ true → left ≡ zero) → EndsBranch Reach.to_the_end false c before now body last (suc left)
  branch_last last left out ours =
      let same = later_itself c now t.leaves.later.legal in
      let none = sym (append-nil (tries_by c now)) in (
        n ∷ [],
        made_it,
        with_try Reach.to_the_end false now same [] none ours (option_map Deed.child last) left (by_again (is_again to) refl),
        ap (λ b. was_tried (mine c now) false (if b then left else zero) []) (again_now Reach.to_the_end false now same [] none ours) ∙ all_out (is_again to) refl,
        asked_wider _ _ (λ by m a. inl a) c before now (asked_now Reach.to_the_end false now same [] none ours),
      )
    where
      Further : ℕ → Type 0
      Further k = Tries (deed_end (mine c now)) (OfChild (IsTryOf Reach.to_the_end c.session (mine c now) body.number body.plan)) ⊥ IsLast (Some (Deed.child n)) k []

      by_again : (b : Bool) → is_again to ≡ b → MatchBool b (Further left) (map Deed.child [] ≡ [])
      by_again true is = subst Further (sym (out is)) refl
      by_again false is = refl

      all_out : (b : Bool) → is_again to ≡ b → was_tried (mine c now) false (if b then left else zero) [] ≡ true
      all_out true is = subst (λ k. was_tried (mine c now) false k [] ≡ true) (sym (out is)) refl
      all_out false is = refl

  -- whether it committed
  pub last_committed : LastCommitted (not (is_stopped to)) c now n
  last_committed ours =
      let one = all_last (λ y. AreOurs c y now) (tries_by c before) n [] (subst (AllByRecursion (λ y. AreOurs c y now)) made_it ours) in
      by_end (end (mine c now) n) to (t.ended one) t.came
    where
      by_end : (o : Option How) (y : Finish) → is_some o ≡ true → CameTo y o → has_committed o ≡ not (is_stopped y)
      by_end None y some h = absurd (true≢false (sym some))
      by_end (Some (Commit given)) finish.Committed some h = refl
      by_end (Some (Commit given)) (finish.Stopped again) some h = absurd h
      by_end (Some (Abort x)) finish.Committed some h = absurd h
      by_end (Some (Abort x)) (finish.Stopped again) some h = refl

-- a try that was cut off is the last
pub branch_cut : (c : Client) (body : Numbered) (n : Name) (before now : Past) → CutOne c body n before now → (last : Option Name) (left : ℕ) → EndsBranch Reach.cut_off false c before now body last (suc left)
branch_cut c body n before now t last left ours =
    let made = t.leaves.more ∙ ap (λ l. tries_by c before ++ l) t.is_made in
    let one = all_last (λ y. AreOurs c y now) (tries_by c before) n [] (subst (AllByRecursion (λ y. AreOurs c y now)) made ours) in
    (n ∷ [], made, ((t.one.number, t.one.runs one), match_false _ _ _ t.tried refl), ap (λ b. was_tried (mine c now) false (if b then left else zero) []) t.tried, asked_wider _ _ (λ by m a. inl a) c before now (t.one.asked one))

-- a further try was not begun
pub branch_stops : (reach : Reach) (c : Client) (body : Numbered) (before now : Past) → Made c [] before now → (last : Option Name) (left : ℕ) → EndsBranch reach true c before now body last (suc left)
branch_stops reach c body before now m last left ours = ([], ap (λ h. children h c.root) (made_is c [] before now m) ∙ sym (append-nil _), tt, refl, asked_made c [] before now _ m tt)

-- BETWEEN TRIES

abbrev pub FrontBranch : Client → Numbered → Past → Past → Option Name → ℕ → Type 0
FrontBranch c body start now last left =
    (reach : Reach) (stops : Bool) (d : Client) (x : Past) → HasJoined c now d → IsLater d now x → EndsBranch reach stops d now x body last left → EndsBranch reach stops d start x body None body.tries

-- So many tries are left behind this one, of a client that had made nothing at the start.
pub record BranchLeft (c : Client) (body : Numbered) (start now : Past) (last : Option Name) (left : ℕ) : Type 0 where
  pub none : mine c start ≡ []
  pub nonroot : 0 < length c.root
  pub leaves : TriesAt Reach.to_the_end c start now
  pub front : FrontBranch c body start now last left

-- One has begun, and so many are left behind it.
pub record TryRuns (c : Client) (body : Numbered) (start : Past) (n : Name) (now : Past) (left : ℕ) : Type 0 where
  pub prior : Past
  pub last : Option Name
  pub so_far : BranchLeft c body start prior last (suc left)
  pub child : is_child c.root n ≡ true
  pub begun : Made c (by_client c (event.Start n (kind.User c.session body.number)) ∷ []) prior now

-- THEY ARE LEFT AS THE CLIENT MERGES BRANCHES

pub ours_tries_back : (c : Client) (kin : List ℕ) (now : Past) → OwnAlike c (record c { kin = kin }) now → AreTriesOurs (record c { kin = kin }) now → AreTriesOurs c now
ours_tries_back c kin now all ours = by_tries (tries_by c now) (subst (λ h. AllByRecursion (λ t. AreOurs (record c { kin = kin }) t now) (children h c.root)) (more_mine c kin now all) ours)
  where
    by_tries : (ts : List Name) → AllByRecursion (λ t. AreOurs (record c { kin = kin }) t now) ts → AllByRecursion (λ t. AreOurs c t now) ts
    by_tries [] h = tt
    by_tries (t ∷ ts) h = (ours_back c kin now all t h.0, by_tries ts h.1)

module _ (c : Client) (kin : List ℕ) (before now : Past) (all : OwnAlike c (record c { kin = kin }) now) where
  abbrev pub more_kin : Client
  more_kin = record c { kin = kin }

  pub more_tries : (reach : Reach) → TriesAt reach c before now → TriesAt reach (record c { kin = kin }) before now
  more_tries reach t = record {
    later = more_later c kin before now t.later;
    made = t.made;
    more = both c kin before now t.later all (λ x y. children y c.root ≡ children x c.root ++ t.made) t.more;
    inside = ap (list_all (stays_with t.made)) (newer_mine c kin before now t.later all) ∙ t.inside;
    seats = subst (λ h. list_all (is_under h c.number) t.made ≡ true) (sym (more_mine c kin now all)) t.seats;
    above = λ p r is. both c kin before now t.later all (λ x y. (IsUnended p (end x p) → IsUnended p (end y p)) × (is_ready y p ≡ is_ready x p)) (t.above p r is);
    turns = λ ours. both c kin before now t.later all (λ x y. InTurn x → Alone x c.root → InTurn y × AtTheEnd reach (Alone y c.root)) (t.turns (ours_tries_back c kin now all ours));
  }

module _ (c d : Client) (body : Numbered) where
  one_joined : (n : Name) (before now : Past) (to : Finish) → HasJoined c now d → TriedOne c body n before now to → TriedOne d body n before now to
  unfolding more_tries
  one_joined n before now to j t = by_joined (λ y. TriedOne y body n before now to) c d now j (λ kin all.
      let same = more_mine c kin now all in
      let back = ours_back c kin now all n in
      record {
        leaves = more_tries c kin before now all Reach.to_the_end t.leaves;
        is_made = t.is_made;
        one = more_try c kin before now t.leaves.later all Reach.to_the_end n body (AreOurs c n now) (AreOurs (record c { kin = kin }) n now) back t.one;
        came = subst (λ h. CameTo to (end h n)) (sym same) t.came;
        ended = λ ours. ap (λ h. is_some (end h n)) same ∙ t.ended (back ours);
      })

  left_joined : (start now : Past) (last : Option Name) (left : ℕ) → HasJoined c now d → BranchLeft c body start now last left → BranchLeft d body start now last left
  left_joined start now last left j l =
      let leaves = by_joined (λ y. TriesAt Reach.to_the_end y start now) c d now j (λ kin all. more_tries c kin start now all Reach.to_the_end l.leaves) in
      record {
        none = joined_mine c d start (joined_before c d start now l.leaves.later j) ∙ l.none;
        nonroot = subst (λ r. 0 < length r) (sym (joined_root c d now j)) l.nonroot;
        leaves = leaves;
        front = λ reach stops e x further. l.front reach stops e x (joined_chain c d now j e leaves.later.legal further);
      }

  pub runs_joined : (start : Past) (n : Name) (now : Past) (left : ℕ) → HasJoined c now d → TryRuns c body start n now left → TryRuns d body start n now left
  runs_joined start n now left j t = record {
    prior = t.prior;
    last = t.last;
    so_far = left_joined start t.prior t.last (suc left) (joined_before c d t.prior now (made_later c _ t.prior now t.begun) j) t.so_far;
    child = subst (λ r. is_child r n ≡ true) (sym (joined_root c d now j)) t.child;
    begun = joined_start c d now j n body.number t.prior t.begun;
  }

-- A TRY THAT RUNS

module _ (c : Client) (body : Numbered) (start : Past) (n : Name) (now : Past) (left : ℕ) (t : TryRuns c body start n now left) where
  may : MayBegin c c.root t.prior
  may = record {
    nonroot = t.so_far.nonroot;
    short = omega arith;
    below = itself c.root;
    above = λ p r is far. (
      (t.so_far.leaves.above p r is).0 (inl (ap (λ h. end h p) t.so_far.none)),
      (t.so_far.leaves.above p r is).1 ∙ ap (λ h. is_ready h p) t.so_far.none,
    );
  }

  pub try_starts : Runs c n now
  try_starts = runs_begun c c.root n body.number t.prior now may t.child t.begun

  module _ (next : Past) where
    pub try_done : (to : Finish) → Ended c n now next body.plan to → TriedOne c body n t.prior next to
    try_done to ended = one_tried c n body t.prior now next may t.child t.begun to ended

    pub try_cut_off : CutOff c n now next body.plan → CutOne c body n t.prior next
    try_cut_off cut = one_cut c n body t.prior now next may t.child t.begun cut

-- it is tried again
pub tried_further : (c : Client) (body : Numbered) (start : Past) (n : Name) (now next : Past) (left : ℕ) (to : Finish) (t : TryRuns c body start n now left) → is_again to ≡ true → TriedOne c body n t.prior next to → BranchLeft c body start next (Some n) left
tried_further c body start n now next left to t is one = record {
  none = t.so_far.none;
  nonroot = t.so_far.nonroot;
  leaves = tries_trans c start t.prior next t.so_far.leaves one.leaves;
  front = λ reach stops d x j later ends.
      t.so_far.front reach stops d x (joined_before c d t.prior next one.leaves.later j) (joined_since c d next j t.prior x one.leaves.later later)
      (branch_again d body n t.prior next to (one_joined c d body n t.prior next to j one) is reach stops x later t.last left ends);
}

-- ALL TRIES

module _ (reach : Reach) (stops : Bool) (c : Client) (body : Numbered) (start now : Past) (none : mine c start ≡ []) (leaves : TriesAt reach c start now) (ends : EndsBranch reach stops c start now body None body.tries) where
  own_is : mine c now ≡ mine c leaves.later.newer
  own_is = ap (mine c) leaves.later.grown ∙ Rattle.std.proofs.lemmas.List.Elements.filter-append _ leaves.later.newer start ∙ ap (λ l. mine c leaves.later.newer ++ l) none ∙ append-nil _

  made_all : tries_by c now ≡ leaves.made
  made_all = leaves.more ∙ ap (λ h. children h c.root ++ leaves.made) none

  all_further : (further : List Name) → tries_by c now ≡ tries_by c start ++ further → tries_by c now ≡ further
  all_further further is = is ∙ ap (λ h. children h c.root ++ further) none

  -- whether each further try was made that was due
  pub each_due : AreTriesOurs c now → was_tried (mine c now) false body.tries (map Deed.child (tries_by c now)) ≡ not stops
  each_due ours = let e = ends ours in subst (λ ts. was_tried (mine c now) false body.tries (map Deed.child ts) ≡ not stops) (sym (all_further e.0 e.1)) e.3

  pub ran_tries : RanTries reach (MayStop stops) c body now
  ran_tries = record {
    legal = leaves.later.legal;
    inside = ap (list_all (stays_with (tries_by c now))) own_is ∙ subst (λ ts. list_all (stays_with ts) (mine c leaves.later.newer) ≡ true) (sym made_all) leaves.inside;
    own_seat = subst (λ ts. list_all (is_under (mine c now) c.number) ts ≡ true) (sym made_all) leaves.seats;
    tries = λ ours. let e = ends ours in subst (λ ts. Tries (deed_end (mine c now)) (OfChild (IsTryOf reach c.session (mine c now) body.number body.plan)) (MayStop stops) IsLast None body.tries (map Deed.child ts)) (sym (all_further e.0 e.1)) e.2;
    asked = λ ours.
        let e = ends ours in
        let a = e.4 in
        subst (λ es. AllByRecursion (λ (y : Entry). IsAskedBy (λ by t. OneOf (λ n. Asks (mine c now) n body.plan (deeds (mine c now) n) by t) (tries_by c now)) y.event) es) (sym (a.1 ∙ ap (λ l. a.0 ++ l) none ∙ append-nil a.0))
        (subst (λ ts. AllByRecursion (λ (y : Entry). IsAskedBy (λ by t. OneOf (λ n. Asks (mine c now) n body.plan (deeds (mine c now) n) by t) ts) y.event) a.0) (sym (all_further e.0 e.1)) a.2);
    turns = λ ours. leaves.turns ours (ap (Rattle.qc_script.specs.Numbers.each Rattle.qc_interp.specs.Turns.takes_turn) none) (ap (λ h. Rattle.qc_interp.specs.Turns.is_alone h c.root) none);
  }

-- THE FIRST TRY

-- A client that has made the start of its first try alone runs it.
pub first_runs : (c : Client) (body : Numbered) (n : Name) (now : Past) (left : ℕ) → body.tries ≡ suc left → Legal c.setting now → 0 < length c.root → is_child c.root n ≡ true → mine c now ≡ by_client c (event.Start n (kind.User c.session body.number)) ∷ []
    → (start : Past) × TryRuns c body start n now left
first_runs c body n now left tries legal nonroot child is =
    let f = first_made c _ [] now is in
    let later : IsLater c f.mid now = record { newer = f.after ++ by_client c (event.Start n (kind.User c.session body.number)) ∷ []; grown = f.is ∙ sym (append_assoc f.after (by_client c (event.Start n (kind.User c.session body.number)) ∷ []) f.mid); legal = legal } in
    let old = earlier_legal c.setting later.newer f.mid (subst (Legal c.setting) later.grown legal) in (
      f.mid,
      record {
        prior = f.mid;
        last = None;
        so_far = record {
          none = f.made;
          nonroot = nonroot;
          leaves = tries_itself c f.mid old;
          front = λ reach stops d x j later ends. subst (EndsBranch reach stops d f.mid x body None) (sym tries) ends;
        };
        child = child;
        begun = made_by c (by_client c (event.Start n (kind.User c.session body.number)) ∷ []) f.mid now later (is ∙ ap (λ l. by_client c (event.Start n (kind.User c.session body.number)) ∷ l) (sym f.made));
      },
    )
