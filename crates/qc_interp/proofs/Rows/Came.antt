-- What one branch came to: by what it made itself, whether it was tried as often as it is, and whether the last try failed;
-- as far as a run came that was cut off; and where it has only begun.
use Rattle.std.proofs.Common.{◌≡◌, inl, ℕ, zero, suc, ◌<◌, arith, Bool, true, false, List, [], ◌∷◌, ◌++◌, length, map, refl, sym, ap, ◌∙◌, subst}
use Rattle.std.specs.Prelude.{◌&&◌, Option, None, Some, option_map, option_to_list, ◌==◌, if◌then◌else◌}
use Rattle.std.specs.List.{AllByRecursion, list_all, last_or}
use Rattle.std.specs.Option.{option_or, option_map_or}
use Rattle.std.proofs.lemmas.Bool.{and_from, and_right, or_left, eq-eqb}
use Rattle.qc_event.specs.declared.event.Entry.{Entry}
use Rattle.qc_event.specs.declared.event.Event.TheVariants as event
use Rattle.qc_event.specs.declared.event.Kind.TheVariants as kind
use Rattle.qc_event.specs.History.{Past, Name, Begun, same, end, children, is_child, kind_of}
use Rattle.qc_event.specs.Legal.{Legal}
use Rattle.qc_event.proofs.Absent.{same_itself}
use Rattle.qc_event.proofs.LastNumber.{child_longer, no_child_length}
use Rattle.qc_script.specs.Calls.{by_client}
use Rattle.qc_script.specs.Client.{Client, mine}
use Rattle.qc_script.specs.Numbers.{each}
use Rattle.qc_script.specs.Plan.{Numbered}
use Rattle.qc_interp.specs.Adding.{stays_in}
use Rattle.qc_interp.specs.Asking.{Asks, IsAskedBy}
use Rattle.qc_interp.specs.Branches.{Branch, AreTriesOurs, IsLast, RanTries, tries_by, stays_with}
use Rattle.qc_interp.specs.Deeds.{Deed, deeds, deed_end, OfChild}
use Rattle.qc_interp.specs.Follows.{RunsPlan}
use Rattle.qc_interp.specs.Reach.{Reach}
use Rattle.qc_interp.specs.Rows.{OneOf, was_tried, has_committed, failed_last}
use Rattle.qc_interp.specs.Tries.{Tries}
use Rattle.qc_interp.specs.Turns.{is_under, takes_turn}
use Rattle.qc_interp.proofs.Scopes.Adding.{no_top, stays_at}
use Rattle.qc_interp.proofs.Branching.Branches.{tried_in_row}
use Rattle.qc_interp.proofs.Following.Followed.{IsTryOf, follows_runs, tries_wider}
use Rattle.qc_interp.proofs.Rows.Stands.{all_tried, one_failed}
use Rattle.qc_interp.proofs.Stepping.Stopping.{running_runs}
use Rattle.qc_interp.proofs.Following.Turning.{itself}

-- BY ITSELF

-- where it did not stop before, it was tried as often as it is
pub tried_whole : (reach : Reach) (c : Client) (body : Numbered) (now : Past) → RanTries reach ⊥ c body now → AreTriesOurs c now → was_tried (mine c now) false body.tries (map Deed.child (tries_by c now)) ≡ true
tried_whole reach c body now ran ours = (tried_in_row (mine c now) (OfChild (IsTryOf reach c.session (mine c now) body.number body.plan)) ⊥ false (λ s. absurd s) None body.tries (map Deed.child (tries_by c now)) (ran.tries ours)).1

-- the last of its tries, where it must commit and did not
abbrev pub failed_as : Bool → Bool → Name → Option Deed
failed_as true false last = Some (Deed.child last)
failed_as must committed last = None

last_try : (o : Option Deed) (front : List Name) (last : Name) → last_or o (map Deed.child (front ++ last ∷ [])) ≡ Some (Deed.child last)
last_try o [] last = refl
last_try o (t ∷ front) last = last_try (Some (Deed.child t)) front last

pub failed_by : (c : Client) (now : Past) (must committed : Bool) (front : List Name) (last : Name) → tries_by c now ≡ front ++ last ∷ [] → has_committed (end (mine c now) last) ≡ committed
    → failed_last (mine c now) must (last_or None (map Deed.child (tries_by c now))) ≡ failed_as must committed last
failed_by c now must committed front last is came =
    ap (λ ts. failed_last (mine c now) must (last_or None (map Deed.child ts))) is ∙ ap (failed_last (mine c now) must) (last_try None front last) ∙ by_must must committed came
  where
    by_must : (b x : Bool) → has_committed (end (mine c now) last) ≡ x → failed_last (mine c now) b (Some (Deed.child last)) ≡ failed_as b x last
    by_must true true is = ap (λ y. if y then None else Some (Deed.child last)) is
    by_must true false is = ap (λ y. if y then None else Some (Deed.child last)) is
    by_must false true is = refl
    by_must false false is = refl

-- AS FAR AS A RUN CAME

module _ (c : Client) (body : Numbered) (now : Past) where
  try_wider : (reach reach_too : Reach) → ((n : Name) → RunsPlan reach c.session (mine c now) n body.plan (deeds (mine c now) n) (end (mine c now) n) → RunsPlan reach_too c.session (mine c now) n body.plan (deeds (mine c now) n) (end (mine c now) n))
      → (x : Deed) → OfChild (IsTryOf reach c.session (mine c now) body.number body.plan) x → OfChild (IsTryOf reach_too c.session (mine c now) body.number body.plan) x
  try_wider reach reach_too step (Deed.child n) h = (h.0, step n h.1)
  try_wider reach reach_too step (Deed.mark m) h = h

  -- a branch that ran to the end may have stopped, and may have been cut off
  pub ran_stopped : (reach : Reach) (Stopped StoppedToo : Type 0) → (Stopped → StoppedToo) → RanTries reach Stopped c body now → RanTries reach StoppedToo c body now
  ran_stopped reach Stopped StoppedToo stop ran = record {
    legal = ran.legal;
    inside = ran.inside;
    own_seat = ran.own_seat;
    tries = λ ours. tries_wider (deed_end (mine c now)) _ _ Stopped StoppedToo IsLast IsLast (λ x h. h) stop (λ last cs h. h) None body.tries (map Deed.child (tries_by c now)) (ran.tries ours);
    asked = ran.asked;
    turns = ran.turns;
  }

  pub ran_cut : (Stopped : Type 0) → RanTries Reach.to_the_end Stopped c body now → RanTries Reach.cut_off Stopped c body now
  ran_cut Stopped ran = record {
    legal = ran.legal;
    inside = ran.inside;
    own_seat = ran.own_seat;
    tries = λ ours. tries_wider (deed_end (mine c now)) _ _ Stopped Stopped IsLast IsLast
        (try_wider Reach.to_the_end Reach.cut_off (λ n h. follows_runs Reach.cut_off c.session (mine c now) n body.plan (deeds (mine c now) n) (end (mine c now) n) h)) (λ s. s) (λ last cs h. h) None body.tries (map Deed.child (tries_by c now)) (ran.tries ours);
    asked = ran.asked;
    turns = λ ours. ((ran.turns ours).0, tt);
  }

-- WHERE IT HAS ONLY BEGUN

module _ (Stopped : Type 0) (c : Client) (body : Numbered) (n : Name) (nonroot : 0 < length c.root) (child : is_child c.root n ≡ true) (tried : 0 < body.tries) where
  abbrev start : Entry
  start = by_client c (event.Start n (kind.User c.session body.number))

  -- what a run that was cut off made of these tries
  abbrev RanSo : Past → List Name → Type 0
  RanSo h ts =
      (list_all (stays_with ts) h ≡ true) × (list_all (is_under h c.number) ts ≡ true)
      × Tries (deed_end h) (OfChild (IsTryOf Reach.cut_off c.session h body.number body.plan)) Stopped IsLast None body.tries (map Deed.child ts)
      × AllByRecursion (λ (e : Entry). IsAskedBy (λ by t. OneOf (λ m. Asks h m body.plan (deeds h m) by t) ts) e.event) h × (each takes_turn h ≡ true)

  long : 1 < length n
  long = let l = child_longer c.root n child in omega (arith, l, nonroot)

  same_n : (P : Bool → Type 0) → P true → P (same n n)
  same_n P h = subst P (sym (same_itself n)) h

  kind_one : kind_of (start ∷ []) n ≡ Some (kind.User c.session body.number)
  kind_one = same_n (λ b. option_map (λ (y : Begun). y.kind) (if b then Some (record { seat = c.number; kind = kind.User c.session body.number }) else None) ≡ Some (kind.User c.session body.number)) refl

  under_one : is_under (start ∷ []) c.number n ≡ true
  under_one =
      same_n (λ b. option_map_or (λ s. s == c.number) (option_map (λ (y : Begun). y.seat) (if b then Some (record { seat = c.number; kind = kind.User c.session body.number }) else None)) false ≡ true) (eq-eqb c.number c.number refl)

  deeds_one : deeds (start ∷ []) n ≡ []
  deeds_one = ap (λ (x : Bool). option_to_list (if x then Some (Deed.child n) else None)) (no_child_length n n (λ h. omega (arith, h)))

  runs_one : RunsPlan Reach.cut_off c.session (start ∷ []) n body.plan (deeds (start ∷ []) n) (end (start ∷ []) n)
  runs_one = subst (λ ds. RunsPlan Reach.cut_off c.session (start ∷ []) n body.plan ds None) (sym deeds_one) (running_runs c.session (start ∷ []) n None (inl refl) refl body.plan)

  tries_one : (left : ℕ) → 0 < left → Tries (deed_end (start ∷ [])) (OfChild (IsTryOf Reach.cut_off c.session (start ∷ []) body.number body.plan)) Stopped IsLast None left (Deed.child n ∷ [])
  tries_one zero some = absurd (let z : ⊥ = omega (arith, some) in z)
  tries_one (suc left) some = ((kind_one, runs_one), refl)

  turn_one : (m : Name) → 1 < length m → takes_turn (record { seat = c.number; event = event.Start m (kind.User c.session body.number) }) [] ≡ true
  turn_one [] far = let z : ⊥ = omega (arith, far) in absurd z
  turn_one (x ∷ []) far = let z : ⊥ = omega (arith, far) in absurd z
  turn_one (x ∷ y ∷ m) far = refl

  ran_one : RanSo (start ∷ []) (n ∷ [])
  ran_one = (
    and_from (stays_with (n ∷ []) start) true (or_left (stays_in n start) false (stays_at n n start (no_top n (kind.User c.session body.number) long) refl (itself n))) refl,
    and_from (is_under (start ∷ []) c.number n) true under_one refl,
    tries_one body.tries tried,
    (tt, tt),
    turn_one n long,
  )

  -- a branch that has made nothing but its first start has run as far as a run that was cut off there
  pub only_begun : (now : Past) → Legal c.setting now → mine c now ≡ by_client c (event.Start n (kind.User c.session body.number)) ∷ [] → RanTries Reach.cut_off Stopped c body now
  only_begun now legal made =
      let all : RanSo (mine c now) (tries_by c now) = subst (λ h. RanSo h (children h c.root)) (sym made) (subst (RanSo (start ∷ [])) (sym (ap (λ (b : Bool). option_to_list (if b then Some n else None)) child)) ran_one) in
      record {
        legal = legal;
        inside = all.0;
        own_seat = all.1;
        tries = λ ours. all.2;
        asked = λ ours. all.3;
        turns = λ ours. (all.4, tt);
      }

-- ALL OF THEM

-- a branch was tried as often as it is
abbrev pub WasTried : Past → Branch → Type 0
WasTried now b = was_tried (mine b.client now) false b.body.tries (map Deed.child (tries_by b.client now)) ≡ true

-- its last try, where it must commit and did not
abbrev pub failed_try : Past → Branch → Option Deed
failed_try now b = failed_last (mine b.client now) b.body.must (last_or None (map Deed.child (tries_by b.client now)))

module _ (now : Past) where
  pub each_tried : (bs : List Branch) → AllByRecursion (WasTried now) bs → all_tried now bs ≡ true
  each_tried [] all = refl
  each_tried (b ∷ bs) all = and_from _ _ all.0 (each_tried bs all.1)

  -- one that was not tried as often as it is counts
  pub one_untried : (front : List Branch) (b : Branch) (behind : List Branch) → was_tried (mine b.client now) false b.body.tries (map Deed.child (tries_by b.client now)) ≡ false → all_tried now (front ++ b ∷ behind) ≡ false
  one_untried [] b behind is = ap (λ x. x && all_tried now behind) is
  one_untried (x ∷ front) b behind is = and_right (was_tried (mine x.client now) false x.body.tries (map Deed.child (tries_by x.client now))) _ (one_untried front b behind is)

  pub none_failed_last : (bs : List Branch) → AllByRecursion (λ b. failed_try now b ≡ None) bs → one_failed now bs ≡ None
  none_failed_last [] all = refl
  none_failed_last (b ∷ bs) all = ap (λ o. option_or o (one_failed now bs)) all.0 ∙ none_failed_last bs all.1

  -- of those that failed the first counts
  pub first_failed_last : (front : List Branch) (b : Branch) (behind : List Branch) (d : Deed) → AllByRecursion (λ x. failed_try now x ≡ None) front → failed_try now b ≡ Some d → one_failed now (front ++ b ∷ behind) ≡ Some d
  first_failed_last [] b behind d all is = ap (λ o. option_or o (one_failed now behind)) is
  first_failed_last (x ∷ front) b behind d all is = ap (λ o. option_or o (one_failed now (front ++ b ∷ behind))) all.0 ∙ first_failed_last front b behind d all.1 is
