-- What is so of a client stays so as it merges branches.
use Rattle.std.proofs.Common.{◌≡◌, ℕ, Bool, true, false, List, [], ◌∷◌, ◌++◌, refl, sym, ap, ◌∙◌, subst}
use Rattle.std.specs.Prelude.{◌&&◌, ◌||◌, not, if◌then◌else◌, MatchOption}
use Rattle.std.specs.List.{AllByRecursion, list_all}
use Rattle.std.specs.Option.{option_map_or}
use Rattle.qc_event.specs.declared.event.Entry.{Entry}
use Rattle.qc_event.specs.declared.event.Event.{Event}
use Rattle.qc_event.specs.declared.event.Event.TheVariants as event
use Rattle.qc_event.specs.declared.event.How.{How}
use Rattle.qc_event.specs.declared.event.Kind.{Kind}
use Rattle.qc_event.specs.declared.event.Kind.TheVariants as kind
use Rattle.qc_event.specs.History.{Past, Name, children, end, is_ready}
use Rattle.qc_event.specs.Standing.{IsAbort, open_child}
use Rattle.qc_event.specs.Legal.{Legal}
use Rattle.qc_event.specs.Users.{is_marked, top_number}
use Rattle.qc_script.specs.Calls.{by_client, Ran, is_over}
use Rattle.qc_script.specs.Client.{Client, mine, is_own, scope, concerns, all_ours, AreOurs, Made, IsLater, HasJoined}
use Rattle.qc_script.specs.Numbers.{each, any_top, is_next_top, own_next, Numbers}
use Rattle.qc_script.specs.Plan.{Plan}
use Rattle.qc_interp.specs.Adding.{stays_in, all_over, own_after, is_of_one, starts_for}
use Rattle.qc_interp.specs.Asking.{Asks, AllAsked, IsAskedBy}
use Rattle.qc_interp.specs.Deeds.{Deed, deeds}
use Rattle.qc_interp.specs.Follows.{IsUnended, RunsPlan}
use Rattle.qc_interp.specs.Reach.{Reach, AtTheEnd}
use Rattle.qc_interp.specs.Running.{Runs, LeavesIt, LeavesAt, EndsAt, HasFailed, HasNotMarked}
use Rattle.qc_interp.specs.Session.{tops, AreAllOurs, InTurnAt}
use Rattle.qc_interp.proofs.Scopes.Growth.{later_itself, later_trans, made_later}
use Rattle.qc_interp.specs.Turns.{takes_turn, is_alone, is_under}

-- a client owns the same entries of a history as another
abbrev pub OwnAlike : Client → Client → Past → Type 0
OwnAlike c d past = AllByRecursion (λ (e : Entry). is_own d e.seat ≡ is_own c e.seat) past

pub older_alike : (c d : Client) (newer before : Past) → OwnAlike c d (newer ++ before) → OwnAlike c d before
older_alike c d [] before all = all
older_alike c d (e ∷ newer) before all = older_alike c d newer before all.1

newer_alike : (c d : Client) (newer before : Past) → OwnAlike c d (newer ++ before) → OwnAlike c d newer
newer_alike c d [] before all = tt
newer_alike c d (e ∷ newer) before all = (all.0, newer_alike c d newer before all.1)

pub mine_alike : (c d : Client) (past : Past) → OwnAlike c d past → mine d past ≡ mine c past
mine_alike c d [] all = refl
mine_alike c d (e ∷ past) all = ap (λ b. if b then e ∷ mine d past else mine d past) all.0 ∙ ap (λ l. if is_own c e.seat then e ∷ l else l) (mine_alike c d past all.1)

-- WHO HAS JOINED

pub joined_itself : (c : Client) (past : Past) → HasJoined c past c
joined_itself c past = record { kin = c.kin; same = refl; wider = λ seat own. own; own = alike past }
  where
    alike : (past : Past) → OwnAlike c c past
    alike [] = tt
    alike (e ∷ past) = (refl, alike past)

pub joined_same : (c d : Client) (past : Past) → d ≡ c → HasJoined c past d
joined_same c d past is = subst (HasJoined c past) (sym is) (joined_itself c past)

-- who has no more kin is the same
pub joined_none_more : (c d : Client) (past : Past) → HasJoined c past d → d.kin ≡ c.kin → d ≡ c
joined_none_more c d past j same = j.same ∙ ap (λ kin. record c { kin = kin }) (sym (ap (λ (x : Client). x.kin) j.same) ∙ same)

-- before what was made since
pub joined_before : (c d : Client) (before now : Past) → IsLater c before now → HasJoined c now d → HasJoined c before d
joined_before c d before now later j = record { kin = j.kin; same = j.same; wider = j.wider; own = older_alike c d later.newer before (subst (OwnAlike c d) later.grown j.own) }

-- and then more
pub joined_trans : (c d e : Client) (before now : Past) → HasJoined c before d → IsLater d before now → HasJoined d now e → HasJoined c before e
joined_trans c d e before now first later further = record {
  kin = further.kin;
  same = further.same ∙ ap (λ (x : Client). record x { kin = further.kin }) first.same;
  wider = λ seat own. further.wider seat (first.wider seat own);
  own = both before first.own (older_alike d e later.newer before (subst (OwnAlike d e) later.grown further.own));
}
  where
    both : (past : Past) → OwnAlike c d past → OwnAlike d e past → OwnAlike c e past
    both [] a b = tt
    both (x ∷ past) a b = (b.0 ∙ a.0, both past a.1 b.1)

-- A CLIENT WITH MORE KIN

module _ (c : Client) (kin : List ℕ) where
  abbrev pub d : Client
  d = record c { kin = kin }

  abbrev pub more_later : (a b : Past) → IsLater c a b → IsLater d a b
  more_later a b p = record { newer = p.newer; grown = p.grown; legal = p.legal }

  module _ (b : Past) (all : OwnAlike c d b) where
    pub more_mine : mine d b ≡ mine c b
    more_mine = mine_alike c d b all

    pub more_ours : (n : Name) → all_ours d n b ≡ all_ours c n b
    more_ours n = by_past b all
      where
        by_past : (past : Past) → OwnAlike c d past → all_ours d n past ≡ all_ours c n past
        by_past [] all = refl
        by_past (e ∷ past) all =
            ap (λ o. (not (concerns (scope c n) e.event) || o) && all_ours d n past) all.0
            ∙ ap (λ o. (not (concerns (scope c n) e.event) || is_own c e.seat) && o) (by_past past all.1)

    pub ours_back : (n : Name) → AreOurs d n b → AreOurs c n b
    ours_back n ours = sym (more_ours n) ∙ ours

    pub tops_back : AreAllOurs d b → AreAllOurs c b
    tops_back ours = by_tops (tops c b) (subst (λ h. AllByRecursion (λ t. AreOurs d t b) (children h [])) more_mine ours)
      where
        by_tops : (ts : List Name) → AllByRecursion (λ t. AreOurs d t b) ts → AllByRecursion (λ t. AreOurs c t b) ts
        by_tops [] all = tt
        by_tops (t ∷ ts) all = (ours_back t all.0, by_tops ts all.1)

    pub more_runs : (of : Name) → Runs c of b → Runs d of b
    more_runs of runs = record {
      legal = runs.legal;
      user = runs.user;
      seat = runs.seat;
      nonroot = runs.nonroot;
      below = runs.below;
      above = λ p r is far. subst (λ h. IsUnended p (end h p) × (is_ready h p ≡ false)) (sym more_mine) (runs.above p r is far);
      closed = λ ours. ap (λ h. open_child h of) more_mine ∙ runs.closed (ours_back of ours);
    }

    pub more_failed : (of child : Name) → HasFailed c of b child → HasFailed d of b child
    more_failed of child failed = record {
      is_one = failed.is_one;
      user = failed.user;
      aborted = λ ours. subst (λ h. MatchOption (end h child) ⊥ IsAbort) (sym more_mine) (failed.aborted (ours_back of ours));
    }

  -- from an earlier history to a later one
  module _ (a b : Past) (later : IsLater c a b) (all : OwnAlike c d b) where
    joined_all : OwnAlike c d (later.newer ++ a)
    joined_all = subst (OwnAlike c d) later.grown all

    pub all_older : OwnAlike c d a
    all_older = older_alike c d later.newer a joined_all

    pub both : (P : Past → Past → Type 0) → P (mine c a) (mine c b) → P (mine d a) (mine d b)
    both P h = subst (λ x. P x (mine d b)) (sym (more_mine a all_older)) (subst (λ y. P (mine c a) y) (sym (more_mine b all)) h)

    pub newer_mine : mine d later.newer ≡ mine c later.newer
    newer_mine = mine_alike c d later.newer (newer_alike c d later.newer a joined_all)

    pub more_left : (p : Name) → LeavesIt c p a b → LeavesIt d p a b
    more_left p left = record {
      deeds = both (λ x y. deeds y p ≡ deeds x p) left.deeds;
      ready = both (λ x y. is_ready y p ≡ is_ready x p) left.ready;
      unended = both (λ x y. IsUnended p (end x p) → IsUnended p (end y p)) left.unended;
    }

    pub more_asked : (Q : Name → Name → Type 0) → AllAsked c a b Q → AllAsked d a b Q
    more_asked Q asked = both (λ x y. (made : Past) × (y ≡ made ++ x) × AllByRecursion (λ (e : Entry). IsAskedBy Q e.event) made) asked

    pub more_ends : (reach : Reach) (of : Name) (plan : Plan) → EndsAt reach c of a b plan → EndsAt reach d of a b plan
    more_ends reach of plan ends = λ ours.
        both (λ x y. (further : List Deed) × (deeds y of ≡ deeds x of ++ further) × RunsPlan reach c.session y of plan further (end y of)
        × ((made : Past) × (y ≡ made ++ x) × AllByRecursion (λ (e : Entry). IsAskedBy (λ by t. Asks y of plan further by t) e.event) made)) (ends (ours_back b all of ours))

  module _ (reach : Reach) (of : Name) (a b : Past) (left : LeavesAt reach c of a b) (all : OwnAlike c d b) where
    pub more_leaves : LeavesAt reach d of a b
    more_leaves = record {
      later = more_later a b left.later;
      above = λ p r is far. more_left a b left.later all p (left.above p r is far);
      inside = ap (list_all (stays_in (scope c of))) (newer_mine a b left.later all) ∙ left.inside;
      over = both a b left.later all (λ x y. AtTheEnd reach ((is_ready x of ≡ true → is_over a of ≡ true) → is_ready y of ≡ true → is_over b of ≡ true)) left.over;
      turns = λ ours.
          both a b left.later all (λ x y. each takes_turn x ≡ true → is_alone x of ≡ true → (each takes_turn y ≡ true) × AtTheEnd reach (is_alone y of ≡ true))
          (left.turns (ours_back b all of ours));
    }

  -- what a manager made
  pub more_made : (es a b : Past) → OwnAlike c d b → Made c es a b → Made d es a b
  more_made es a b all m = record {
    newer = m.newer;
    grown = m.grown;
    made = mine_alike c d m.newer (newer_alike c d m.newer a (subst (OwnAlike c d) m.grown all)) ∙ m.made;
    legal = m.legal;
  }

  pub more_ran : (of : Name) (k : Kind) (how : How) (a b : Past) → OwnAlike c d b → Ran c of k how a b → Ran d of k how a b
  more_ran of k how a b all ran = record {
    manager = ran.manager;
    is_one = ran.is_one;
    not_asked = ran.not_asked;
    inner = ran.inner;
    of_accesses = ran.of_accesses;
    made = more_made _ a b all ran.made;
  }

  -- TOPS

  -- what each entry keeps as the client's own are told apart
  pub more_each : (G F : Entry → Past → Bool) (past : Past) → ((e : Entry) (before : Past) → is_own d e.seat ≡ is_own c e.seat → OwnAlike c d before → G e before ≡ F e before) → OwnAlike c d past → each G past ≡ each F past
  more_each G F [] step all = refl
  more_each G F (e ∷ past) step all = ap (λ b. b && G e past) (more_each G F past step all.1) ∙ ap (λ b. each F past && b) (step e past all.0 all.1)

  pub more_next : (past : Past) → OwnAlike c d past → each (own_next d) past ≡ each (own_next c) past
  more_next past all = more_each (own_next d) (own_next c) past (λ e before is alike. ap (λ b. not b || is_next_top c.epoch e before) is) all

  pub more_over : (past : Past) → OwnAlike c d past → all_over d past ≡ all_over c past
  more_over past all = ap (λ h. list_all (is_over past) (children h [])) (more_mine past all)

  pub more_after : (past : Past) → OwnAlike c d past → each (own_after d) past ≡ each (own_after c) past
  more_after past all = more_each (own_after d) (own_after c) past (λ e before is alike.
      ap (λ b. not b || option_map_or (λ number. all_over d before) (any_top e.event) true) is
      ∙ ap (λ b. not (is_own c e.seat) || option_map_or (λ number. b) (any_top e.event) true) (more_over before alike)) all

  module _ (reach : Reach) (a b : Past) (turn : InTurnAt reach c a b) (all : OwnAlike c d b) where
    older : OwnAlike c d a
    older = all_older a b turn.later all

    pub more_turn : InTurnAt reach d a b
    more_turn = record {
      made = turn.made;
      more = both a b turn.later all (λ x y. children y [] ≡ children x [] ++ turn.made) turn.more;
      later = more_later a b turn.later;
      inside = ap (list_all (is_of_one turn.made)) (newer_mine a b turn.later all) ∙ turn.inside;
      of_session = ap (list_all (starts_for c.session)) (newer_mine a b turn.later all) ∙ turn.of_session;
      seats = both a b turn.later all (λ x y. list_all (is_under x c.number) (children x []) ≡ true → list_all (is_under y c.number) (children y []) ≡ true) turn.seats;
      numbers = λ was. more_next b all ∙ turn.numbers (sym (more_next a older) ∙ was);
      order = λ ours after over.
          let now = turn.order (tops_back b all ours) (sym (more_after a older) ∙ after) (sym (more_over a older) ∙ over) in
          (more_after b all ∙ now.0, subst (λ o. AtTheEnd reach (o ≡ true)) (sym (more_over b all)) now.1);
      turns = λ ours.
          both a b turn.later all (λ x y. list_all (is_under x c.number) (children x []) ≡ true → each takes_turn x ≡ true → is_alone x [] ≡ true → (each takes_turn y ≡ true) × AtTheEnd reach (is_alone y [] ≡ true)) (turn.turns (tops_back b all ours));
    }

-- A CLIENT THAT HAS JOINED

pub by_joined : (P : Client → Type 0) (c d : Client) (now : Past) → HasJoined c now d → ((kin : List ℕ) → OwnAlike c (record c { kin = kin }) now → P (record c { kin = kin })) → P d
by_joined P c d now j step = subst P (sym j.same) (step j.kin (subst (λ x. OwnAlike c x now) j.same j.own))

module _ (c d : Client) (now : Past) (j : HasJoined c now d) where
  pub joined_chain : (e : Client) → Legal d.setting now → HasJoined d now e → HasJoined c now e
  joined_chain e legal further = joined_trans c d e now now j (later_itself d now legal) further

  pub joined_later : (a b : Past) → IsLater c a b → IsLater d a b
  joined_later a b later = by_joined (λ x. IsLater x a b) c d now j (λ kin all. more_later c kin a b later)

  -- what came later came since
  pub joined_since : (a x : Past) → IsLater c a now → IsLater d now x → IsLater d a x
  joined_since a x later since = later_trans d a now x (joined_later a now later) since

  pub joined_runs : (of : Name) → Runs c of now → Runs d of now
  joined_runs of runs = by_joined (λ x. Runs x of now) c d now j (λ kin all. more_runs c kin now all of runs)

  pub joined_ours : (of : Name) → AreOurs d of now → AreOurs c of now
  joined_ours of = by_joined (λ x. AreOurs x of now → AreOurs c of now) c d now j (λ kin all. ours_back c kin now all of)

  pub joined_mine : mine d now ≡ mine c now
  joined_mine = mine_alike c d now j.own

  pub joined_failed : (of child : Name) → HasFailed c of now child → HasFailed d of now child
  joined_failed of child failed = by_joined (λ x. HasFailed x of now child) c d now j (λ kin all. more_failed c kin now all of child failed)

  pub joined_leaves : (reach : Reach) (of : Name) (a : Past) → LeavesAt reach c of a now → LeavesAt reach d of a now
  joined_leaves reach of a left = by_joined (λ x. LeavesAt reach x of a now) c d now j (λ kin all. more_leaves c kin reach of a now left all)

  pub joined_left : (p : Name) (a : Past) → IsLater c a now → LeavesIt c p a now → LeavesIt d p a now
  joined_left p a later left = by_joined (λ x. LeavesIt x p a now) c d now j (λ kin all. more_left c kin a now later all p left)

  pub joined_asked : (a : Past) (Q : Name → Name → Type 0) → IsLater c a now → AllAsked c a now Q → AllAsked d a now Q
  joined_asked a Q later asked = by_joined (λ x. AllAsked x a now Q) c d now j (λ kin all. more_asked c kin a now later all Q asked)

  pub joined_ends : (reach : Reach) (of : Name) (a : Past) (plan : Plan) → IsLater c a now → EndsAt reach c of a now plan → EndsAt reach d of a now plan
  joined_ends reach of a plan later ends = by_joined (λ x. EndsAt reach x of a now plan) c d now j (λ kin all. more_ends c kin a now later all reach of plan ends)

  pub joined_ran : (of : Name) (k : Kind) (how : How) (a : Past) → Ran c of k how a now → Ran d of k how a now
  joined_ran of k how a ran = by_joined (λ x. Ran x of k how a now) c d now j (λ kin all. more_ran c kin of k how a now all ran)

  pub joined_made : (ev : Event) (a : Past) → Made c (by_client c ev ∷ []) a now → Made d (by_client d ev ∷ []) a now
  joined_made ev a m = by_joined (λ x. Made x (by_client x ev ∷ []) a now) c d now j (λ kin all. more_made c kin _ a now all m)

  pub joined_start : (n : Name) (number : ℕ) (a : Past) → Made c (by_client c (event.Start n (kind.User c.session number)) ∷ []) a now → Made d (by_client d (event.Start n (kind.User d.session number)) ∷ []) a now
  joined_start n number a m = by_joined (λ x. Made x (by_client x (event.Start n (kind.User x.session number)) ∷ []) a now) c d now j (λ kin all. more_made c kin _ a now all m)

  pub joined_none : (a : Past) → Made c [] a now → Made d [] a now
  joined_none a m = by_joined (λ x. Made x [] a now) c d now j (λ kin all. more_made c kin [] a now all m)

  pub joined_unmarked : (of : Name) → HasNotMarked c of now → HasNotMarked d of now
  joined_unmarked of unmarked = by_joined (λ x. HasNotMarked x of now) c d now j (λ kin all. ap (λ h. is_marked h c.session (top_number of)) (more_mine c kin now all) ∙ unmarked)

  pub joined_turn : (reach : Reach) (a : Past) → InTurnAt reach c a now → InTurnAt reach d a now
  joined_turn reach a turn = by_joined (λ x. InTurnAt reach x a now) c d now j (λ kin all. more_turn c kin reach a now turn all)

  pub joined_numbers : (a : Past) → IsLater c a now → Numbers c a now → Numbers d a now
  joined_numbers a later numbers = by_joined (λ x. Numbers x a now) c d now j (λ kin all was. more_next c kin now all ∙ numbers (sym (more_next c kin a (all_older c kin a now later all)) ∙ was))

  pub joined_root : d.root ≡ c.root
  joined_root = ap (λ (x : Client). x.root) j.same

  pub joined_setting : d.setting ≡ c.setting
  joined_setting = ap (λ (x : Client). x.setting) j.same

  pub joined_session : d.session ≡ c.session
  joined_session = ap (λ (x : Client). x.session) j.same

-- a start that a client made, as told of the client that it is once it has run what was started
pub record StartedBy (c d : Client) (n : Name) (number : ℕ) (before begun : Past) : Type 0 where
  pub since : HasJoined c before d
  pub made : Made d (by_client d (event.Start n (kind.User d.session number)) ∷ []) before begun
  pub numbers : Numbers c before begun → Numbers d before begun

pub started_by : (c b d : Client) (n : Name) (number other : ℕ) (before begun : Past) → b ≡ c → other ≡ number → HasJoined b begun d → Made c (by_client c (event.Start n (kind.User c.session other)) ∷ []) before begun
    → StartedBy c d n number before begun
started_by c b d n number other before begun same is joined m =
    let j = subst (λ x. HasJoined x begun d) same joined in
    let later = made_later c _ before begun m in
    record {
      since = joined_before c d before begun later j;
      made = joined_start c d begun j n number before (subst (λ k. Made c (by_client c (event.Start n (kind.User c.session k)) ∷ []) before begun) is m);
      numbers = joined_numbers c d begun j before later;
    }
