-- What a copy goes on to know at its desk.
use Rattle.std.proofs.Common.{◌≡◌, ◌<◌, ℕ, Bool, true, List, [], ◌∷◌, ◌++◌, length, refl, sym, ap, ◌∙◌, subst, append-nil}
use Rattle.std.specs.Prelude.{Option, None, Some, IfSome, Result, Ok, Err, OnOk, IfErr, cond, if◌then◌else◌, option_to_list, slice_index_or}
use Rattle.std.specs.Option.{option_or}
use Rattle.std.proofs.lemmas.Bool.{eq-eqb}
use Rattle.qc_moss.specs.declared.consulting.Verdict.{Verdict}
use Rattle.qc_moss.specs.declared.consulting.Verdict.TheVariants as verdict
use Rattle.qc_event.specs.declared.event.Ask.{Ask}
use Rattle.qc_event.specs.declared.event.Event.{Event}
use Rattle.qc_event.specs.declared.event.Event.TheVariants as event
use Rattle.qc_event.specs.declared.event.Why.{Why}
use Rattle.qc_desk.specs.declared.consult.Consulted.{Consulted}
use Rattle.qc_desk.specs.declared.consult.Consulted.TheVariants as consulted
use Rattle.qc_event.specs.declared.short.Short.{Short}
use Rattle.qc_desk.specs.Consulting.{HasAsked, IsJudged, IsTold}
use Rattle.qc_event.specs.Grants.{grant_with, MayGrant}
use Rattle.qc_site.proofs.Again.{none_granted}
use Rattle.qc_event.proofs.Absent.{same_itself}
use Rattle.qc_desk.specs.Refusing.{against_nothing}
use Rattle.qc_desk.specs.Rules.{knows, extends}
use Rattle.qc_desk.specs.Answers.{IsGranted}
use Rattle.qc_site.specs.AtDesk.{hand_after, LeavesKnown, OnlyLooks}
use Rattle.qc_config.specs.declared.tuple.Tuple.{Tuple}
use Rattle.qc_event.specs.declared.event.Entry.{Entry}
use Rattle.qc_event.specs.declared.event.Grant.{Grant}
use Rattle.qc_event.specs.Base.{Setting}
use Rattle.qc_event.specs.History.{Past, Name, grants, grant_at, grant_in}
use Rattle.qc_event.specs.Legal.{Legal}
use Rattle.qc_event.specs.Seats.{copy_seat}
use Rattle.qc_moss.specs.Follows.{TableFollows}
use Rattle.qc_moss.specs.Locks.{Table, granted_to, unheld}
use Rattle.qc_moss.proofs.Tables.{granted, grows, starts}
use Rattle.qc_desk.specs.declared.view.View.{View}
use Rattle.qc_desk.specs.Calling.{Entered, Looked, Shown, Wanted, SeesMore}
use Rattle.qc_desk.specs.Known.{AreKnown, IsKnown}
use Rattle.qc_desk.proofs.Consulting.{follows_more}
use Rattle.qc_desk.proofs.Seers.{older_trans}
use Rattle.qc_desk.proofs.Since.{others_where_none}
use Rattle.qc_desk.specs.Entries.{entries_of, AreOthers, IsOlder, IsSince, entry}
use Rattle.qc_desk.proofs.NoGrants.{AreNoGrants, grants_kept, grant_still_allowed, others_grant_none}
use Rattle.qc_site.specs.Replica.{IsKept, IsTableOf, HasRoomFor, Standing}

-- ENTRIES THAT ARE NO GRANT OF THE COPY

-- A pass has seen entries more, none of which is a grant of the copy.
pub record HasNoGrant (copy : ℕ) (v w : View) : Type 0 where
  pub newer : Past
  pub seen : w.seen ≡ newer ++ v.seen
  pub none : AreNoGrants copy newer
  pub live : w.live ≡ v.live
  pub number : w.number ≡ v.number
  pub out : w.out ≡ v.out
  pub kin : w.kin ≡ v.kin

module _ (setting : Setting) (copy : ℕ) (v w : View) (legal : Legal setting w.seen) (more : HasNoGrant copy v w) where
  here : Legal setting (more.newer ++ v.seen)
  here = subst (Legal setting) more.seen legal

  pub same_grants : grants w.seen copy ≡ grants v.seen copy
  same_grants = ap (λ p. grants p copy) more.seen ∙ grants_kept setting v.seen copy more.newer more.none

  pub table_on : (start : List Tuple) (t : Table) → IsTableOf start v.seen copy t → IsTableOf start w.seen copy t
  table_on start t was = record {
    same_start = was.same_start;
    follows = subst (λ gs. TableFollows w.seen gs t) (sym same_grants) (subst (λ p. TableFollows p (grants v.seen copy) t) (sym more.seen) (follows_more more.newer v.seen (grants v.seen copy) t was.follows));
  }

  pub may_on : (g : Grant) → MayGrant setting v.seen (copy_seat copy) copy g → MayGrant setting w.seen (copy_seat copy) copy g
  may_on g may = subst (λ p. MayGrant setting p (copy_seat copy) copy g) (sym more.seen) (grant_still_allowed setting v.seen more.newer (copy_seat copy) copy g here more.none may)

  pub kept_on : IsKnown setting w → (start : List Tuple) (locks : Option Table) (hand : Option Grant) → IsKept setting copy v start locks hand → IsKept setting copy w start locks hand
  kept_on known start locks hand was = record {
    small = was.small;
    live = more.live ∙ was.live;
    number = more.number ∙ was.number;
    out = more.out ∙ was.out;
    kin = more.kin ∙ was.kin;
    known = ∣ known ∣₁;
    starts = was.starts;
    kept = by_table locks was.kept;
    may = by_hand hand was.may;
    room = was.room;
  }
    where
      by_table : (o : Option Table) → IfSome o (IsTableOf start v.seen copy) → IfSome o (IsTableOf start w.seen copy)
      by_table None k = k
      by_table (Some t) k = table_on start t k

      by_hand : (o : Option Grant) → IfSome o (MayGrant setting v.seen (copy_seat copy) copy) → IfSome o (MayGrant setting w.seen (copy_seat copy) copy)
      by_hand None k = k
      by_hand (Some g) k = may_on g k

-- what others entered is none
pub looked_none : (setting : Setting) (copy : ℕ) (v w : View) → v.number ≡ copy_seat copy → Legal setting w.seen → Looked v w → HasNoGrant copy v w
looked_none setting copy v w number legal looked =
    let since : IsSince v.number v.seen w.seen = looked.0 in
    record {
      newer = since.0;
      seen = since.1;
      none = others_grant_none setting v.seen copy since.0 (subst (Legal setting) since.1 legal) (subst (λ n. AreOthers n since.0) number since.2);
      live = ap (λ (x : View). x.live) looked.1;
      number = ap (λ (x : View). x.number) looked.1;
      out = ap (λ (x : View). x.out) looked.1;
      kin = ap (λ (x : View). x.kin) looked.1;
    }

pub shown_looked : (v w : View) → v.live ≡ true → Shown v w → Looked v w
shown_looked v w live shown = (shown.2 live, shown.1)

-- nor is an entry of its own that grants nothing
pub entered_none : (setting : Setting) (copy : ℕ) (v w : View) (ev : Event) (before : Past) → v.number ≡ copy_seat copy → Legal setting w.seen → grant_at copy ev ≡ None → IsSince v.number v.seen before → w ≡ extends (entry v.number ev) before v → HasNoGrant copy v w
entered_none setting copy v w ev before number legal nothing since is =
    let seen : w.seen ≡ entry v.number ev ∷ since.0 ++ v.seen = ap (λ (x : View). x.seen) is ∙ ap (λ (p : Past). entry v.number ev ∷ p) since.1 in
    record {
      newer = entry v.number ev ∷ since.0;
      seen = seen;
      none = (nothing, others_grant_none setting v.seen copy since.0 (subst (Legal setting) seen legal).0 (subst (λ n. AreOthers n since.0) number since.2));
      live = ap (λ (x : View). x.live) is;
      number = ap (λ (x : View). x.number) is;
      out = ap (λ (x : View). x.out) is;
      kin = ap (λ (x : View). x.kin) is;
    }

judged_none : (setting : Setting) (copy : ℕ) (v w : View) (ask : Ask) (said : Verdict) → v.number ≡ copy_seat copy → Legal setting w.seen → IsJudged setting ask v w said → HasNoGrant copy v w
judged_none setting copy v w ask (verdict.Free tuple) number legal told = looked_none setting copy v w number legal told.0
judged_none setting copy v w ask (verdict.Blocked holder) number legal (before, ev, is, since, against, same) =
    entered_none setting copy v w ev before number legal (ap (grant_at copy) is.1) since same
judged_none setting copy v w ask (verdict.Dead ancestor) number legal (before, ev, is, since, against, same) =
    entered_none setting copy v w ev before number legal (ap (grant_at copy) is.1) since same

pub told_none : (setting : Setting) (copy : ℕ) (v w : View) (ask : Ask) (told : Consulted) → v.number ≡ copy_seat copy → Legal setting w.seen → IsTold setting ask v w told → HasNoGrant copy v w
told_none setting copy v w ask (consulted.Again tuple) number legal told = looked_none setting copy v w number legal told.0
told_none setting copy v w ask (consulted.Fresh said) number legal told = judged_none setting copy v w ask said number legal told.1

pub unable_none : {T : Type 0} (setting : Setting) (copy : ℕ) (v w : View) (n : Name) (why : Why) (r : Result T Short) → v.number ≡ copy_seat copy → Legal setting w.seen
    → OnOk r (Entered against_nothing (event.Unable n why) v w) → IfErr r (Wanted v w) → HasNoGrant copy v w
unable_none setting copy v w n why (Ok x) number legal (before, since, against, same) err = entered_none setting copy v w (event.Unable n why) before number legal refl since same
unable_none setting copy v w n why (Err refusal) number legal ok err = looked_none setting copy v w number legal err.0

-- A GRANT OF THE COPY

granted_here : (past : Past) (seat copy : ℕ) (g : Grant) → grants (entry seat (event.Granted copy g) ∷ past) copy ≡ grants past copy ++ g ∷ []
granted_here past seat copy g = ap (λ (b : Bool). grants past copy ++ option_to_list (cond b (Some g) None)) (eq-eqb copy copy refl)

module _ (setting : Setting) (copy : ℕ) (v w : View) (g : Grant) (start : List Tuple) (number : v.number ≡ copy_seat copy) (legal : Legal setting w.seen) (enters : Entered against_nothing (event.Granted copy g) v w) where
  abbrev e : Entry
  e = entry v.number (event.Granted copy g)

  seen : w.seen ≡ e ∷ enters.0
  seen = ap (λ (x : View). x.seen) enters.3

  -- what was seen as it was entered
  abbrev mid : View
  mid = knows enters.0 v

  first : HasNoGrant copy v mid
  first = looked_none setting copy v mid number (subst (Legal setting) seen legal).0 (enters.1, refl)

  now_grants : grants w.seen copy ≡ grants enters.0 copy ++ g ∷ []
  now_grants = ap (λ p. grants p copy) seen ∙ granted_here enters.0 v.number copy g

  pub table_granted : (t new : Table) → g.rec < length t.held → new ≡ granted_to t g.access g.rec g.op → IsTableOf start v.seen copy t → IsTableOf start w.seen copy new
  table_granted t new within is was =
      let on = table_on setting copy v mid (subst (Legal setting) seen legal).0 first start t was in
      let so_far : TableFollows w.seen (grants enters.0 copy) t = subst (λ p. TableFollows p (grants enters.0 copy) t) (sym seen) (grows enters.0 e (grants enters.0 copy) t on.follows) in
      subst (IsTableOf start w.seen copy) (sym is) record {
        same_start = was.same_start;
        follows = subst (λ gs. TableFollows w.seen gs (granted_to t g.access g.rec g.op)) (sym now_grants) (granted w.seen (grants enters.0 copy) t g within so_far);
      }

  pub kept_granted : IsKnown setting w → (locks new : Option Table) → IfSome new (IsTableOf start w.seen copy) → IsKept setting copy v start locks (Some g) → IsKept setting copy w start new None
  kept_granted known locks new is was = record {
    small = was.small;
    live = ap (λ (x : View). x.live) enters.3 ∙ was.live;
    number = ap (λ (x : View). x.number) enters.3 ∙ was.number;
    out = ap (λ (x : View). x.out) enters.3 ∙ was.out;
    kin = ap (λ (x : View). x.kin) enters.3 ∙ was.kin;
    known = ∣ known ∣₁;
    starts = was.starts;
    kept = is;
    may = tt;
    room = nothing new;
  }
    where
      nothing : (o : Option Table) → IfSome o (λ t. IfSome None (HasRoomFor t))
      nothing None = tt
      nothing (Some t) = tt

-- what a consultation leaves
pub kept_asked : (setting : Setting) (copy : ℕ) (v w : View) (start : List Tuple) (locks new : Option Table) (hand now : Option Grant) → HasNoGrant copy v w → IsKnown setting w
    → IfSome new (IsTableOf start w.seen copy) → IfSome now (MayGrant setting w.seen (copy_seat copy) copy) → IfSome new (λ t. IfSome now (HasRoomFor t))
    → IsKept setting copy v start locks hand → IsKept setting copy w start new now
kept_asked setting copy v w start locks new hand now more known kept may room was = record {
  small = was.small;
  live = more.live ∙ was.live;
  number = more.number ∙ was.number;
  out = more.out ∙ was.out;
  kin = more.kin ∙ was.kin;
  known = ∣ known ∣₁;
  starts = was.starts;
  kept = kept;
  may = may;
  room = room;
}

pub shown_sees : (v w : View) → Shown v w → SeesMore v w
shown_sees v w shown = record {
  older = shown.0;
  mine = ap (λ (x : View). x.mine) shown.1;
  number = ap (λ (x : View). x.number) shown.1;
  live = ap (λ (x : View). x.live) shown.1;
  out = ap (λ (x : View). x.out) shown.1;
  kin = ap (λ (x : View). x.kin) shown.1;
}

-- A TABLE AND ITS DESK

-- room changes nothing of it
pub table_reserved : (start : List Tuple) (past : Past) (copy : ℕ) (t new : Table) → new ≡ record t { reserved = true } → IsTableOf start past copy t → IsTableOf start past copy new
table_reserved start past copy t new is was = subst (IsTableOf start past copy) (sym is) record { same_start = was.same_start; follows = was.follows }

-- no lock is held where nothing was granted
pub table_unheld : (start : List Tuple) (past : Past) (copy : ℕ) → grants past copy ≡ [] → IsTableOf start past copy (unheld start)
table_unheld start past copy nothing = record {
  same_start = refl;
  follows = subst (λ gs. TableFollows past gs (unheld start)) (sym nothing) (starts past start);
}

-- a free request may be granted what it is told
pub may_be_granted : (setting : Setting) (copy : ℕ) (v w : View) (ask : Ask) (tuple : Tuple) → ask.copy ≡ copy → Legal setting w.seen → HasAsked w.seen ask
    → IsTold setting ask v w (consulted.Fresh (verdict.Free tuple)) → MayGrant setting w.seen (copy_seat copy) copy (grant_with ask tuple)
may_be_granted setting copy v w ask tuple is legal has told =
    subst (λ c. MayGrant setting w.seen (copy_seat c) c (grant_with ask tuple)) is (told.1.1.may (none_granted setting w.seen ask legal has told.0))

-- what a copy keeps of a consultation: the grant of a free request is in hand
pub kept_told : (setting : Setting) (copy : ℕ) (v w : View) (ask : Ask) (start : List Tuple) (locks : Option Table) (t : Table) (hand now : Option Grant) (told : Consulted) → ask.copy ≡ copy → v.number ≡ copy_seat copy → IsKnown setting w
    → HasAsked w.seen ask → IsTold setting ask v w told → IsTableOf start w.seen copy t → ask.rec < length t.start → ((tuple : Tuple) → told ≡ consulted.Fresh (verdict.Free tuple) → t.reserved ≡ true)
    → now ≡ hand_after ask told → IsKept setting copy v start locks hand → IsKept setting copy w start (Some t) now
kept_told setting copy v w ask start locks t hand now told is number known has tells table within room at was =
    subst (IsKept setting copy w start (Some t)) (sym at)
    (kept_asked setting copy v w start locks (Some t) hand (hand_after ask told) (told_none setting copy v w ask told number known.legal tells) known table (may told tells) (has_room told room) was)
  where
    may : (x : Consulted) → IsTold setting ask v w x → IfSome (hand_after ask x) (MayGrant setting w.seen (copy_seat copy) copy)
    may (consulted.Again tuple) h = tt
    may (consulted.Fresh (verdict.Free tuple)) h = may_be_granted setting copy v w ask tuple is known.legal has h
    may (consulted.Fresh (verdict.Blocked holder)) h = tt
    may (consulted.Fresh (verdict.Dead ancestor)) h = tt

    has_room : (x : Consulted) → ((tuple : Tuple) → x ≡ consulted.Fresh (verdict.Free tuple) → t.reserved ≡ true) → IfSome (hand_after ask x) (HasRoomFor t)
    has_room (consulted.Again tuple) h = tt
    has_room (consulted.Fresh (verdict.Free tuple)) h = record { reserved = h tuple refl; within = within }
    has_room (consulted.Fresh (verdict.Blocked holder)) h = tt
    has_room (consulted.Fresh (verdict.Dead ancestor)) h = tt

-- a copy has its locks again
pub kept_restored : (setting : Setting) (copy : ℕ) (v : View) (start : List Tuple) (locks : Option Table) (hand : Option Grant) (new : Table) → hand ≡ None
    → IsTableOf start v.seen copy new → IsKept setting copy v start locks hand → IsKept setting copy v start (Some new) hand
kept_restored setting copy v start locks hand new none is was = record {
  small = was.small;
  live = was.live;
  number = was.number;
  out = was.out;
  kin = was.kin;
  known = was.known;
  starts = was.starts;
  kept = is;
  may = was.may;
  room = subst (λ (o : Option Grant). IfSome o (HasRoomFor new)) (sym none) tt;
}

-- the table of the copy that is asked
pub table_at : (base : List (List Tuple)) (start : List Tuple) (past : Past) (asked copy : ℕ) (t : Table) → asked ≡ copy → start ≡ slice_index_or base copy []
    → IsTableOf (slice_index_or base asked []) past asked t → IsTableOf start past copy t
table_at base start past asked copy t is starts was =
    subst (λ (row : List Tuple). IsTableOf row past copy t) (sym starts) (subst (λ c. IsTableOf (slice_index_or base c []) past c t) is was)

-- WHAT IS TOLD OF A CALL

pub only_looks : (setting : Setting) (copy : ℕ) (old new : Standing) (v : View) → v ≡ old.pass → Legal setting new.pass.seen → HasNoGrant copy v new.pass → new.pass.mine ≡ v.mine → OnlyLooks copy old new
only_looks setting copy old new v is legal more mine = record {
  mine = mine ∙ ap (λ (x : View). x.mine) is;
  same_grants = same_grants setting copy v new.pass legal more ∙ ap (λ (x : View). grants x.seen copy) is;
  older = (more.newer, more.seen ∙ ap (λ (x : View). more.newer ++ x.seen) is);
}

pub leaves_known : (setting : Setting) (copy : ℕ) (w seer : View) → w.live ≡ true → w.number ≡ copy_seat copy → AreKnown setting w seer → LeavesKnown setting copy w seer
leaves_known setting copy w seer live number known = record { own = known.0.mine live ∙ ap (λ n. entries_of n w.seen) number; known = known.1 }

pub looks_on : (copy : ℕ) (old mid new : Standing) → OnlyLooks copy old mid → OnlyLooks copy mid new → OnlyLooks copy old new
looks_on copy old mid new first second = record {
  mine = second.mine ∙ first.mine;
  same_grants = second.same_grants ∙ first.same_grants;
  older = older_trans old.pass.seen mid.pass.seen new.pass.seen first.older second.older;
}

-- a grant that is entered is the last of the copy's, and the history tells it
pub granted_last : (setting : Setting) (copy : ℕ) (v w : View) (g : Grant) → v.number ≡ copy_seat copy → Legal setting w.seen → Entered against_nothing (event.Granted copy g) v w → grants w.seen copy ≡ grants v.seen copy ++ g ∷ []
granted_last setting copy v w g number legal enters =
    let e = entry v.number (event.Granted copy g) in
    let seen : w.seen ≡ e ∷ enters.0 = ap (λ (x : View). x.seen) enters.3 in
    let before : Legal setting enters.0 = (subst (Legal setting) seen legal).0 in
    ap (λ p. grants p copy) seen ∙ granted_here enters.0 v.number copy g
    ∙ ap (λ gs. gs ++ g ∷ []) (same_grants setting copy v (knows enters.0 v) before (looked_none setting copy v (knows enters.0 v) number before (enters.1, refl)))

pub granted_told : (setting : Setting) (copy : ℕ) (v w : View) (g : Grant) → Legal setting w.seen → Entered against_nothing (event.Granted copy g) v w → IsGranted copy w.seen g
granted_told setting copy v w g legal enters =
    let e = entry v.number (event.Granted copy g) in
    let seen : w.seen ≡ e ∷ enters.0 = ap (λ (x : View). x.seen) enters.3 in
    let may : MayGrant setting enters.0 v.number copy g = (subst (Legal setting) seen legal).1 in
    subst (λ p. IsGranted copy p g) (sym seen)
    (ap (λ o. option_or o (grant_in g.access (event.Granted copy g))) may.first_time
    ∙ ap (λ (b : Bool). if b then Some (record { copy = copy; grant = g }) else None) (same_itself g.access))

pub older_entered : (v w : View) (ev : Event) → Entered against_nothing ev v w → IsOlder v.seen w.seen
older_entered v w ev enters =
    (entry v.number ev ∷ enters.1.0, ap (λ (x : View). x.seen) enters.3 ∙ ap (λ (p : Past). entry v.number ev ∷ p) enters.1.1)

-- AT FIRST

-- a copy whose pass has entered nothing has granted nothing
pub nothing_granted : (setting : Setting) (copy : ℕ) (v : View) → v.number ≡ copy_seat copy → Legal setting v.seen → v.mine ≡ entries_of v.number v.seen → v.mine ≡ [] → grants v.seen copy ≡ []
nothing_granted setting copy v number legal mine fresh =
    let others = others_where_none (copy_seat copy) v.seen (subst (λ n. entries_of n v.seen ≡ []) number (sym mine ∙ fresh)) in
    let all : v.seen ++ [] ≡ v.seen = append-nil v.seen in
    ap (λ p. grants p copy) (sym all) ∙ grants_kept setting [] copy v.seen (others_grant_none setting [] copy v.seen (subst (Legal setting) (sym all) legal) others)
