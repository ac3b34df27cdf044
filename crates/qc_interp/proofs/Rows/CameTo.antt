-- What branches came to together, by what each came to.
use Rattle.std.proofs.Common.{◌≡◌, ◌≤◌, Bool, true, false, List, [], ◌∷◌, map, length, refl, sym, ap, ◌∙◌, subst, Ok, Err}
use Rattle.std.specs.Prelude.{Option, None, Some, Result, IfErr, ◌&&◌}
use Rattle.std.specs.List.{AllByRecursion, list_all, last_or}
use Rattle.std.specs.Option.{option_or}
use Rattle.qc_event.specs.declared.short.Short.{Short}
use Rattle.qc_event.specs.declared.short.Short.TheVariants as short
use Rattle.qc_event.specs.History.{Past, Name, limit, end, children, kind_of}
use Rattle.qc_event.specs.Standing.{Started, IsUser}
use Rattle.qc_event.proofs.Later.{started_still}
use Rattle.qc_script.specs.declared.tx.TxNo.{TxNo}
use Rattle.qc_script.specs.declared.tx.TxNo.TheVariants as tx_no
use Rattle.qc_script.specs.Calls.{Refuses}
use Rattle.qc_script.specs.Client.{Client, mine, Made, AreOurs}
use Rattle.qc_script.specs.Plan.{Numbered}
use Rattle.qc_interp.specs.declared.body.branch.BranchCame.{BranchCame}
use Rattle.qc_interp.specs.declared.body.branch.BranchCame.TheVariants as came
use Rattle.qc_interp.specs.AtOnce.{StandingBranch, branch_in, IsCallRefusal, LastCommitted, TriesEnd, CameSo, came_worse, came_behind, told_want, row_came}
use Rattle.qc_event.specs.declared.event.Entry.{Entry}
use Rattle.qc_event.specs.declared.event.Kind.TheVariants as kind
use Rattle.qc_event.specs.Wants.{IsWant}
use Rattle.qc_interp.specs.Asking.{Asks, IsAskedBy}
use Rattle.qc_interp.specs.Branches.{Branch, IsLast, RanTries, AreTriesOurs, tries_by, stays_with}
use Rattle.qc_interp.specs.Follows.{RunsPlan}
use Rattle.qc_interp.specs.Tries.{Tries}
use Rattle.qc_interp.specs.Turns.{takes_turn, is_alone, is_under}
use Rattle.qc_script.specs.Numbers.{each}
use Rattle.qc_interp.specs.Deeds.{Deed, deeds, deed_end, OfChild}
use Rattle.qc_interp.specs.Reach.{Reach, AtTheEnd}
use Rattle.qc_interp.specs.Rows.{OneOf, has_committed, was_tried, failed_last}
use Rattle.qc_interp.proofs.Scopes.Growth.{made_is, made_later, ours_before}
use Rattle.qc_interp.proofs.Branching.MadeBy.{refuses_later, want_later}
use Rattle.qc_interp.proofs.Rows.Came.{tried_whole, failed_as, failed_by, ran_stopped, ran_cut}
use Rattle.qc_interp.proofs.Rows.Stands.{all_tried, one_failed}

-- WHAT ONE CAME TO STANDS AS THE HISTORY GROWS

module _ (c : Client) (body : Numbered) (before now : Past) (m : Made c [] before now) where
  own : mine c now ≡ mine c before
  own = made_is c [] before now m

  ours_then : AreTriesOurs c now → AreTriesOurs c before
  ours_then ours = by_tries (tries_by c before) (subst (λ h. AllByRecursion (λ t. AreOurs c t now) (children h c.root)) own ours)
    where
      by_tries : (ts : List Name) → AllByRecursion (λ t. AreOurs c t now) ts → AllByRecursion (λ t. AreOurs c t before) ts
      by_tries [] all = tt
      by_tries (t ∷ ts) all = (ours_before c t before now (made_later c [] before now m) all.0, by_tries ts all.1)

  pub ran_later : (reach : Reach) (Stops : Type 0) → RanTries reach Stops c body before → RanTries reach Stops c body now
  ran_later reach Stops ran = record {
    legal = m.legal;
    inside = subst (λ h. list_all (stays_with (children h c.root)) h ≡ true) (sym own) ran.inside;
    own_seat = subst (λ h. list_all (is_under h c.number) (children h c.root) ≡ true) (sym own) ran.own_seat;
    tries = λ ours. subst (λ h. Tries (deed_end h) (OfChild (λ n. (kind_of h n ≡ Some (kind.User c.session body.number)) × RunsPlan reach c.session h n body.plan (deeds h n) (end h n))) Stops IsLast None body.tries (map Deed.child (children h c.root))) (sym own)
        (ran.tries (ours_then ours));
    asked = λ ours. subst (λ h. AllByRecursion (λ (e : Entry). IsAskedBy (λ by t. OneOf (λ n. Asks h n body.plan (deeds h n) by t) (children h c.root)) e.event) h) (sym own) (ran.asked (ours_then ours));
    turns = λ ours. subst (λ h. (each takes_turn h ≡ true) × AtTheEnd reach (is_alone h c.root ≡ true)) (sym own) (ran.turns (ours_then ours));
  }

  last_later : (committed : Bool) (last : Name) → LastCommitted committed c before last → LastCommitted committed c now last
  last_later committed last h ours = ap (λ l. has_committed (end l last)) own ∙ h (ours_then ours)

  tries_same : tries_by c now ≡ tries_by c before
  tries_same = ap (λ h. children h c.root) own

  pub ends_later : length now ≤ limit → (came : BranchCame) → TriesEnd c body before came → TriesEnd c body now came
  ends_later bound came.Through h = (ran_later Reach.to_the_end ⊥ h.0, (h.1.0, h.1.1, tries_same ∙ h.1.2, last_later true h.1.1 h.1.3))
  ends_later bound (came.Failed last) h = (ran_later Reach.to_the_end ⊥ h.0, (h.1.0, tries_same ∙ h.1.1), subst (λ l. Started l last (λ e. IsUser e.kind)) (sym m.grown) (started_still m.newer before last _ h.2), last_later false last h.3)
  ends_later bound (came.Refused why) h = (
    ran_later Reach.to_the_end (Unit {0}) h.0,
    (subst (λ l. Refuses l c.root why) (sym m.grown) (refuses_later m.newer before c.root why (subst (λ l. length l ≤ limit) m.grown bound) (not_open why h.1.1) h.1.0), h.1.1),
    λ ours. ap (λ l. was_tried l false body.tries (map Deed.child (children l c.root))) own ∙ h.2 (ours_then ours),
  )
    where
      not_open : (why : TxNo) → IsCallRefusal why → (child : Name) → why ≡ tx_no.ChildrenOpen child → ⊥
      not_open why is child same = subst IsCallRefusal same is

  pub came_later : length now ≤ limit → (came : Option (Result BranchCame Short)) → CameSo c body before came → CameSo c body now came
  came_later bound None h = absurd h
  came_later bound (Some (Ok came)) h = ends_later bound came h
  came_later bound (Some (Err why)) h = (
    ran_later Reach.cut_off (Unit {0}) h.0,
    subst (λ l. IsWant l why) (sym m.grown) (want_later m.newer before why (subst (λ l. length l ≤ limit) m.grown bound) h.1),
  )

-- so what ran to the end, or not, was cut off
pub came_cut : (c : Client) (body : Numbered) (now : Past) (came : Option (Result BranchCame Short)) → CameSo c body now came → RanTries Reach.cut_off (Unit {0}) c body now
came_cut c body now None h = absurd h
came_cut c body now (Some (Err why)) h = h.0
came_cut c body now (Some (Ok came.Through)) h = ran_cut c body now (Unit {0}) (ran_stopped c body now Reach.to_the_end ⊥ (Unit {0}) (λ none. tt) h.0)
came_cut c body now (Some (Ok (came.Failed last))) h = ran_cut c body now (Unit {0}) (ran_stopped c body now Reach.to_the_end ⊥ (Unit {0}) (λ none. tt) h.0)
came_cut c body now (Some (Ok (came.Refused why))) h = ran_cut c body now (Unit {0}) h.0

ended_whole : (c : Client) (body : Numbered) (now : Past) (came : BranchCame) → TriesEnd c body now came → RanTries Reach.to_the_end (Unit {0}) c body now
ended_whole c body now came.Through h = ran_stopped c body now Reach.to_the_end ⊥ (Unit {0}) (λ none. tt) h.0
ended_whole c body now (came.Failed last) h = ran_stopped c body now Reach.to_the_end ⊥ (Unit {0}) (λ none. tt) h.0
ended_whole c body now (came.Refused why) h = h.0

-- TOGETHER

abbrev pub CameAt : Past → StandingBranch → Type 0
CameAt now b = CameSo b.view.client b.body now b.came

abbrev pub ok : BranchCame → Result BranchCame Short
ok x = Ok x

abbrev pub err : Short → Result BranchCame Short
err why = Err why

not_both : (why : Short) (x : BranchCame) → err why ≡ ok x → ⊥
not_both why x e = cc

-- behind one that was cut off some want is told
pub not_well : (why : Short) (x : BranchCame) (bs : List StandingBranch) → row_came (Err why) bs ≡ Ok x → ⊥
not_well why x [] is = not_both why x is
not_well why x (b ∷ bs) is = by_came b.came (λ w h. not_well w x bs h) is
  where
    by_came : (o : Option (Result BranchCame Short)) → ((w : Short) → row_came (Err w) bs ≡ Ok x → ⊥) → row_came (came_behind (Err why) b.body.must o) bs ≡ Ok x → ⊥
    by_came None more is = more why is
    by_came (Some (Ok y)) more is = more why is
    by_came (Some (Err other)) more is = more (told_want why other) is

abbrev pub Whole : Past → Branch → Type 0
Whole now b = RanTries Reach.to_the_end (Unit {0}) b.client b.body now

-- Where none was cut off, all ran to the end.
pub all_whole : (now : Past) (bs : List StandingBranch) (so_far x : BranchCame) → AllByRecursion (CameAt now) bs → row_came (Ok so_far) bs ≡ Ok x → AllByRecursion (Whole now) (map branch_in bs)
all_whole now [] so_far x all is = tt
all_whole now (b ∷ bs) so_far x all is = by_came b.came all.0 (λ y h. all_whole now bs y x all.1 h) is
  where
    by_came : (o : Option (Result BranchCame Short)) → CameSo b.view.client b.body now o → ((y : BranchCame) → row_came (Ok y) bs ≡ Ok x → AllByRecursion (Whole now) (map branch_in bs)) → row_came (came_behind (Ok so_far) b.body.must o) bs ≡ Ok x
        → AllByRecursion (Whole now) (map branch_in (b ∷ bs))
    by_came None h more is = absurd h
    by_came (Some (Err why)) h more is = absurd (not_well why x bs is)
    by_came (Some (Ok y)) h more is = (ended_whole b.view.client b.body now y h, more (came_worse so_far b.body.must y) is)

-- What was wanting is told only where one told it.
pub wants : (now : Past) (bs : List StandingBranch) (so_far : Result BranchCame Short) → AllByRecursion (CameAt now) bs → IfErr so_far (IsWant now) → IfErr (row_came so_far bs) (IsWant now)
wants now [] so_far all want = want
wants now (b ∷ bs) so_far all want = wants now bs (came_behind so_far b.body.must b.came) all.1 (by_came so_far b.came all.0 want)
  where
    by_came : (r : Result BranchCame Short) (o : Option (Result BranchCame Short)) → CameSo b.view.client b.body now o → IfErr r (IsWant now) → IfErr (came_behind r b.body.must o) (IsWant now)
    by_came r None h want = absurd h
    by_came (Ok s) (Some (Ok y)) h want = tt
    by_came (Ok s) (Some (Err why)) h want = h.1
    by_came (Err one) (Some (Ok y)) h want = want
    by_came (Err short.Memory) (Some (Err other)) h want = tt
    by_came (Err short.Room) (Some (Err other)) h want = h.1

pub all_cut : (now : Past) (bs : List StandingBranch) → AllByRecursion (CameAt now) bs → AllByRecursion (λ (b : Branch). RanTries Reach.cut_off (Unit {0}) b.client b.body now) (map branch_in bs)
all_cut now [] all = tt
all_cut now (b ∷ bs) all = (came_cut b.view.client b.body now b.came all.0, all_cut now bs all.1)

-- HOW THEY CAME OUT

-- what came first stays
pub refused_stays : (w : TxNo) (bs : List StandingBranch) (x : BranchCame) → row_came (Ok (came.Refused w)) bs ≡ Ok x → x ≡ came.Refused w
refused_stays w [] x is = cc
refused_stays w (b ∷ bs) x is = by_came b.came (refused_stays w bs x) is
  where
    by_came : (o : Option (Result BranchCame Short)) → (row_came (Ok (came.Refused w)) bs ≡ Ok x → x ≡ came.Refused w) → row_came (came_behind (Ok (came.Refused w)) b.body.must o) bs ≡ Ok x → x ≡ came.Refused w
    by_came None more is = more is
    by_came (Some (Err why)) more is = absurd (not_well why x bs is)
    by_came (Some (Ok came.Through)) more is = more is
    by_came (Some (Ok (came.Failed last))) more is = more is
    by_came (Some (Ok (came.Refused v))) more is = more is

-- what is so of all, by what came before them and what they came to
abbrev pub CameOut : BranchCame → BranchCame → Bool → Option Deed → Type 0
CameOut came.Through came.Through tried first = (tried ≡ true) × (first ≡ None)
CameOut came.Through (came.Failed last) tried first = (tried ≡ true) × (first ≡ Some (Deed.child last))
CameOut came.Through (came.Refused why) tried first = tried ≡ false
CameOut (came.Failed one) came.Through tried first = ⊥
CameOut (came.Failed one) (came.Failed last) tried first = (tried ≡ true) × (last ≡ one)
CameOut (came.Failed one) (came.Refused why) tried first = tried ≡ false
CameOut (came.Refused why) x tried first = x ≡ came.Refused why

pass : (s x : BranchCame) (p t : Bool) (q f : Option Deed) → p ≡ true → q ≡ None → CameOut s x t f → CameOut s x (p && t) (option_or q f)
pass s x p t q f sure none h = subst (λ b. CameOut s x (b && t) (option_or q f)) (sym sure) (subst (λ o. CameOut s x t (option_or o f)) (sym none) h)

-- one that must commit and failed comes first, or behind another
fails : (s x : BranchCame) (last : Name) (p t : Bool) (q f : Option Deed) → p ≡ true → q ≡ Some (Deed.child last) → CameOut (came_worse s true (came.Failed last)) x t f → CameOut s x (p && t) (option_or q f)
fails s x last p t q f sure some h = subst (λ b. CameOut s x (b && t) (option_or q f)) (sym sure) (subst (λ o. CameOut s x t (option_or o f)) (sym some) (by_cases s x h))
  where
    by_cases : (s x : BranchCame) → CameOut (came_worse s true (came.Failed last)) x t f → CameOut s x t (Some (Deed.child last))
    by_cases came.Through came.Through h = absurd h
    by_cases came.Through (came.Failed l) h = (h.0, ap (λ n. Some (Deed.child n)) (sym h.1))
    by_cases came.Through (came.Refused w) h = h
    by_cases (came.Failed one) came.Through h = h
    by_cases (came.Failed one) (came.Failed l) h = h
    by_cases (came.Failed one) (came.Refused w) h = h
    by_cases (came.Refused w) x h = h

-- one that could not begin
stops : (s x : BranchCame) (w : TxNo) (p t : Bool) (q f : Option Deed) (must : Bool) → p ≡ false → ((v : TxNo) → came_worse s must (came.Refused w) ≡ came.Refused v → x ≡ came.Refused v) → CameOut s x (p && t) (option_or q f)
stops s x w p t q f must not_so is = subst (λ b. CameOut s x (b && t) (option_or q f)) (sym not_so) (by_cases s must is)
  where
    by_cases : (s : BranchCame) (must : Bool) → ((v : TxNo) → came_worse s must (came.Refused w) ≡ came.Refused v → x ≡ came.Refused v) → CameOut s x false (option_or q f)
    by_cases came.Through true is = subst (λ y. CameOut came.Through y false (option_or q f)) (sym (is w refl)) refl
    by_cases came.Through false is = subst (λ y. CameOut came.Through y false (option_or q f)) (sym (is w refl)) refl
    by_cases (came.Failed one) must is = subst (λ y. CameOut (came.Failed one) y false (option_or q f)) (sym (is w refl)) refl
    by_cases (came.Refused v) must is = is v refl

pub how_out : (now : Past) (bs : List StandingBranch) (s x : BranchCame) → AllByRecursion (CameAt now) bs → AllByRecursion (λ (b : Branch). AreTriesOurs b.client now) (map branch_in bs) → row_came (Ok s) bs ≡ Ok x → CameOut s x (all_tried now (map branch_in bs)) (one_failed now (map branch_in bs))
how_out now [] s x all ours is = by_same s x (same_ok is)
  where
    same_ok : ok s ≡ ok x → s ≡ x
    same_ok e = cc

    by_itself : (s : BranchCame) → CameOut s s true None
    by_itself came.Through = (refl, refl)
    by_itself (came.Failed one) = (refl, refl)
    by_itself (came.Refused w) = refl

    by_same : (s x : BranchCame) → s ≡ x → CameOut s x true None
    by_same s x e = subst (λ y. CameOut s y true None) e (by_itself s)
how_out now (b ∷ bs) s x all ours is = by_came b.came all.0 (λ y h. how_out now bs y x all.1 ours.1 h) is
  where
    t : Bool
    t = all_tried now (map branch_in bs)

    f : Option Deed
    f = one_failed now (map branch_in bs)

    p : Bool
    p = was_tried (mine b.view.client now) false b.body.tries (map Deed.child (tries_by b.view.client now))

    q : Option Deed
    q = failed_last (mine b.view.client now) b.body.must (last_or None (map Deed.child (tries_by b.view.client now)))

    by_must : (last : Name) (must : Bool) → p ≡ true → q ≡ failed_as must false last → ((y : BranchCame) → row_came (Ok y) bs ≡ Ok x → CameOut y x t f) → row_came (Ok (came_worse s must (came.Failed last))) bs ≡ Ok x → CameOut s x (p && t) (option_or q f)
    by_must last true sure some more is = fails s x last p t q f sure some (more (came_worse s true (came.Failed last)) is)
    by_must last false sure some more is = pass s x p t q f sure some (by_s s is (λ y h. more y h))
      where
        by_s : (s : BranchCame) → row_came (Ok (came_worse s false (came.Failed last))) bs ≡ Ok x → ((y : BranchCame) → row_came (Ok y) bs ≡ Ok x → CameOut y x t f) → CameOut s x t f
        by_s came.Through is more = more came.Through is
        by_s (came.Failed one) is more = more (came.Failed one) is
        by_s (came.Refused w) is more = more (came.Refused w) is

    by_came : (o : Option (Result BranchCame Short)) → CameSo b.view.client b.body now o → ((y : BranchCame) → row_came (Ok y) bs ≡ Ok x → CameOut y x t f) → row_came (came_behind (Ok s) b.body.must o) bs ≡ Ok x → CameOut s x (p && t) (option_or q f)
    by_came None h more is = absurd h
    by_came (Some (Err why)) h more is = absurd (not_well why x bs is)
    by_came (Some (Ok came.Through)) h more is =
        pass s x p t q f (tried_whole Reach.to_the_end b.view.client b.body now h.0 ours.0)
        (failed_by b.view.client now b.body.must true h.1.0 h.1.1 h.1.2 (h.1.3 ours.0) ∙ as_none b.body.must) (by_s s b.body.must is more)
      where
        as_none : (must : Bool) → failed_as must true h.1.1 ≡ None
        as_none true = refl
        as_none false = refl

        by_s : (s : BranchCame) (must : Bool) → row_came (Ok (came_worse s must came.Through)) bs ≡ Ok x → ((y : BranchCame) → row_came (Ok y) bs ≡ Ok x → CameOut y x t f) → CameOut s x t f
        by_s came.Through true is more = more came.Through is
        by_s came.Through false is more = more came.Through is
        by_s (came.Failed one) must is more = more (came.Failed one) is
        by_s (came.Refused w) must is more = more (came.Refused w) is
    by_came (Some (Ok (came.Failed last))) h more is =
        by_must last b.body.must (tried_whole Reach.to_the_end b.view.client b.body now h.0 ours.0) (failed_by b.view.client now b.body.must false h.1.0 last h.1.1 (h.3 ours.0)) more is
    by_came (Some (Ok (came.Refused w))) h more is = stops s x w p t q f b.body.must (h.2 ours.0) (λ v e. refused_stays v bs x (ap (λ y. row_came (Ok y) bs) (sym e) ∙ is))
