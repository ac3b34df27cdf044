-- What the locks of a copy tell of a request, once they are asked by the history at this step.
use Rattle.std.proofs.Common.{◌≡◌, ℕ, ◌<◌, [], ◌∷◌, ◌++◌, length, refl, sym, ap, ◌∙◌, subst, arith, append-nil}
use Rattle.std.specs.Prelude.{Option, None, Some, List, filter, option_and_then, slice_index_or}
use Rattle.std.specs.Option.{option_map, option_map_or}
use Rattle.qc_config.specs.declared.tuple.Tuple.{Tuple}
use Rattle.qc_config.specs.Tuple.{after}
use Rattle.qc_event.specs.Base.{Setting, no_tuple, IsProper}
use Rattle.qc_event.specs.Dead.{dead}
use Rattle.qc_event.specs.declared.event.Ask.{Ask}
use Rattle.qc_event.specs.declared.event.Event.TheVariants as event
use Rattle.qc_event.specs.declared.event.Grant.{Grant}
use Rattle.qc_event.specs.declared.event.Refusal.{Refusal}
use Rattle.qc_event.specs.declared.event.Refusal.TheVariants as refusal
use Rattle.qc_event.specs.Grants.{IsRefusal, MayRefuse}
use Rattle.qc_event.specs.History.{Past, Name, Asked, asked, ask_in, granted, grants}
use Rattle.qc_event.specs.Legal.{Legal, Allowed}
use Rattle.qc_event.specs.Seats.{copy_seat}
use Rattle.qc_event.specs.Seen.{seen, holder, changed_by, is_live_at}
use Rattle.qc_moss.specs.Follows.{TableFollows}
use Rattle.qc_moss.specs.Locks.{Table}
use Rattle.qc_moss.proofs.Tables.{grows}
use Rattle.qc_moss.specs.declared.consulting.Verdict.{Verdict}
use Rattle.qc_moss.specs.declared.consulting.Verdict.TheVariants as verdict
use Rattle.qc_moss.specs.Consulting as copies
use Rattle.qc_event.proofs.MayGrant.{may_grant, may_refuse}
use Rattle.qc_event.proofs.Asked.{asked_fits}
use Rattle.qc_event.proofs.AsksFit.{AskFits, start_sized}
use Rattle.qc_desk.specs.declared.view.View.{View}
use Rattle.qc_desk.specs.Calling.{IsLook, IsEntry, Looked, EnteredAs}
use Rattle.qc_desk.specs.Consulting.{HasAsked, IsFree, AskIsRefused, IsJudged, granted_before, refusal_of}
use Rattle.qc_desk.specs.Entries.{IsOlder, IsSince, entry}
use Rattle.qc_desk.specs.Refusing.{against_nothing}
use Rattle.qc_desk.specs.Rules.{knows, extends}
use Rattle.qc_desk.proofs.NoGrants.{grants_kept, others_grant_none}
use Rattle.qc_event.proofs.Options.{still}
use Rattle.qc_event.proofs.StillTold.{is_stays}
use Rattle.qc_history.specs.Grants.{tuple_at}

-- REQUESTS

-- the request, and the seat under which it was made
pub stands : (o : Option Asked) (ask : Ask) → option_map (λ (a : Asked). a.ask) o ≡ Some ask → (seat : ℕ) × (o ≡ Some (record { seat = seat; ask = ask }))
stands None ask h = absurd cc
stands (Some a) ask h = let same : a.ask ≡ ask = cc in (a.seat, ap (λ x. Some (record { seat = a.seat; ask = x })) same)

pub asked_later : (seen now : Past) (ask : Ask) → IsOlder seen now → HasAsked seen ask → HasAsked now ask
asked_later seen now ask older h =
    let there = stands (asked seen ask.access) ask h in
    ap (λ p. option_map (λ (a : Asked). a.ask) (asked p ask.access)) older.1
    ∙ ap (option_map (λ (a : Asked). a.ask)) (is_stays (λ e. ask_in ask.access e.seat e.event) older.0 seen (record { seat = there.0; ask = ask }) there.1)

-- LOCKS

-- locks follow a longer history too
pub follows_more : (newer past : Past) (given : List Grant) (table : Table) → TableFollows past given table → TableFollows (newer ++ past) given table
follows_more [] past given table f = f
follows_more (e ∷ newer) past given table f = grows (newer ++ past) e given table (follows_more newer past given table f)

-- the locks of a copy follow what others entered since, with the same grants
pub follows_since : (setting : Setting) (past now : Past) (copy : ℕ) (table : Table) → Legal setting now → IsSince (copy_seat copy) past now → TableFollows past (grants past copy) table → TableFollows now (grants now copy) table
follows_since setting past now copy table legal s f =
    let here = subst (Legal setting) s.1 legal in
    subst (λ p. TableFollows p (grants p copy) table) (sym s.1)
    (subst (λ gs. TableFollows (s.0 ++ past) gs table) (sym (grants_kept setting past copy s.0 (others_grant_none setting past copy s.0 here s.2))) (follows_more s.0 past (grants past copy) table f))

-- and the refusal that is entered then, which changes no grant
pub follows_refused : (past : Past) (seat copy : ℕ) (ask : Ask) (r : Refusal) (table : Table) → TableFollows past (grants past copy) table
    → TableFollows (entry seat (event.Refused ask.access ask.copy r) ∷ past) (grants (entry seat (event.Refused ask.access ask.copy r) ∷ past) copy) table
follows_refused past seat copy ask r table f =
    subst (λ gs. TableFollows (entry seat (event.Refused ask.access ask.copy r) ∷ past) gs table) (sym (append-nil (grants past copy))) (grows past (entry seat (event.Refused ask.access ask.copy r)) (grants past copy) table f)

-- REPEATS

-- a refusal grants nothing
pub before_refused : (past : Past) (seat copy : ℕ) (n : Name) (r : Refusal) (ask : Ask) → granted_before (entry seat (event.Refused n copy r) ∷ past) ask ≡ granted_before past ask
before_refused past seat copy n r ask = ap (option_and_then (tuple_at ask.copy)) (still (granted past ask.access))

-- WHAT IS TOLD

module _ (setting : Setting) (past : Past) (ask : Ask) where
  -- what stands of a verdict
  abbrev pub VerdictStands : Verdict → Type 0
  VerdictStands (verdict.Free tuple) = IsFree setting past ask tuple
  VerdictStands (verdict.Blocked holder) = IsRefusal past ask (refusal.Blocked holder)
  VerdictStands (verdict.Dead ancestor) = IsRefusal past ask (refusal.Dead ancestor)

  -- a refusal has its reason
  pub has_reason : (said : Verdict) (r : Refusal) → refusal_of said ≡ Some r → VerdictStands said → IsRefusal past ask r
  has_reason (verdict.Free tuple) r is h = absurd cc
  has_reason (verdict.Blocked holder) r is h = let same : refusal.Blocked holder ≡ r = cc in subst (IsRefusal past ask) same h
  has_reason (verdict.Dead ancestor) r is h = let same : refusal.Dead ancestor ≡ r = cc in subst (IsRefusal past ask) same h

  -- and is judged so once it is entered
  pub judged_refused : (v w : View) (said : Verdict) (r : Refusal) → refusal_of said ≡ Some r → EnteredAs against_nothing (AskIsRefused ask r) v w → IsJudged setting ask v w said
  judged_refused v w (verdict.Free tuple) r is e = absurd cc
  judged_refused v w (verdict.Blocked holder) r is e = let same : r ≡ refusal.Blocked holder = cc in subst (λ x. EnteredAs against_nothing (AskIsRefused ask x) v w) same e
  judged_refused v w (verdict.Dead ancestor) r is e = let same : r ≡ refusal.Dead ancestor = cc in subst (λ x. EnteredAs against_nothing (AskIsRefused ask x) v w) same e

  -- what is free is judged so
  pub judged_free : (v w : View) (said : Verdict) → refusal_of said ≡ None → VerdictStands said → Looked v w → w.seen ≡ past → IsJudged setting ask v w said
  judged_free v w (verdict.Free tuple) none h looked is = (looked, subst (λ p. IsFree setting p ask tuple) (sym is) h)
  judged_free v w (verdict.Blocked holder) none h looked is = absurd cc
  judged_free v w (verdict.Dead ancestor) none h looked is = absurd cc

  module _ (has : HasAsked past ask) where
    request : (seat : ℕ) × (asked past ask.access ≡ Some (record { seat = seat; ask = ask }))
    request = stands (asked past ask.access) ask has

    pub refusal_allowed : (seat : ℕ) (r : Refusal) → seat ≡ copy_seat ask.copy → IsRefusal past ask r → Allowed setting past (entry seat (event.Refused ask.access ask.copy r))
    refusal_allowed seat r number reason = subst (λ n. MayRefuse past n ask.access ask.copy r) (sym number) (may_refuse setting past request.0 ask request.1 r reason)

    module _ (proper : IsProper setting) (legal : Legal setting past) (table : Table) (start : table.start ≡ slice_index_or setting.base ask.copy []) where
      fits : AskFits setting ask
      fits = asked_fits setting past ask.access (record { seat = request.0; ask = ask }) proper legal request.1

      pub within : ask.rec < length table.start
      within =
          let row : length (slice_index_or setting.base ask.copy []) ≡ length setting.firsts = (proper.base.rows ask.copy [] fits.is_copy).same_records in
          let here = ap length start in
          let rec_fits = fits.is_record in
          omega arith

      abbrev tuple : Tuple
      tuple = after (seen setting.base past ask.copy ask.rec) ask.op

      free : dead past ask.access ≡ None → holder past ask.copy ask.rec ask.op ask.access ≡ None → IsFree setting past ask tuple
      free alive none = record {
        alive = alive;
        served = record { free = none; tuple = refl };
        may = λ first. may_grant setting past request.0 ask request.1 legal first alive (record { free = none; tuple = refl }) (start_sized setting proper ask.copy ask.rec fits.is_copy fits.is_record) fits.sized;
      }

      abbrev by_both : Option Name → Option Name → Tuple → Verdict
      by_both d h t = option_map_or verdict.Dead d (option_map_or verdict.Blocked h (verdict.Free t))

      -- what the locks tell stands
      pub verdict_stands : (said : Verdict) → said ≡ copies.verdict past table (grants past ask.copy) ask → VerdictStands said
      verdict_stands said is = by_cases (dead past ask.access) (holder past ask.copy ask.rec ask.op ask.access) refl refl (is ∙ ap (λ t. by_both (dead past ask.access) (holder past ask.copy ask.rec ask.op ask.access) t) same)
        where
          same : copies.tuple_after past table (grants past ask.copy) ask ≡ tuple
          same = ap (λ (ts : List Tuple). after (changed_by (slice_index_or ts ask.rec no_tuple) (filter (is_live_at past ask.rec) (grants past ask.copy))) ask.op) start

          by_cases : (d h : Option Name) → dead past ask.access ≡ d → holder past ask.copy ask.rec ask.op ask.access ≡ h → said ≡ by_both (dead past ask.access) (holder past ask.copy ask.rec ask.op ask.access) tuple → VerdictStands said
          by_cases (Some a) h dies way at = subst VerdictStands (sym (at ∙ ap (λ d. by_both d (holder past ask.copy ask.rec ask.op ask.access) tuple) dies)) dies
          by_cases None (Some h) alive held at = subst VerdictStands (sym (at ∙ (λ i. by_both (alive i) (held i) tuple))) (alive, held)
          by_cases None None alive none at = subst VerdictStands (sym (at ∙ (λ i. by_both (alive i) (none i) tuple))) (free alive none)

-- AFTER THE LOOK

-- What is known of a consultation once the copy's pass has looked.
pub record IsReady (setting : Setting) (past : Past) (v w : View) (ask : Ask) (table : Table) : Type 0 where
  pub legal : Legal setting past
  pub has : HasAsked past ask
  pub since : IsSince v.number v.seen past
  pub is : w ≡ knows past v
  pub follows : TableFollows past (grants past ask.copy) table

pub ready : (setting : Setting) (old now : Past) (v w : View) (ask : Ask) (table : Table) → v.number ≡ copy_seat ask.copy → Legal setting old → HasAsked old ask → IsSince v.number v.seen old → IsLook old now v w → TableFollows v.seen (grants v.seen ask.copy) table → IsReady setting now v w ask table
ready setting old now v w ask table number legal has since look follows = record {
  legal = now_legal;
  has = subst (λ p. HasAsked p ask) (sym look.0) has;
  since = now_since;
  is = look.1 ∙ ap (λ p. knows p v) (sym look.0);
  follows = follows_since setting v.seen now ask.copy table now_legal (subst (λ n. IsSince n v.seen now) number now_since) follows;
}
  where
    now_legal : Legal setting now
    now_legal = subst (Legal setting) (sym look.0) legal

    now_since : IsSince v.number v.seen now
    now_since = subst (IsSince v.number v.seen) (sym look.0) since

module _ (setting : Setting) (past : Past) (v w : View) (ask : Ask) (table : Table) (r : IsReady setting past v w ask table) where
  seen_is : w.seen ≡ past
  seen_is = ap (λ (x : View). x.seen) r.is

  pub looked : Looked v w
  looked = (subst (IsSince v.number v.seen) (sym seen_is) r.since, r.is ∙ ap (λ p. knows p v) (sym seen_is))

  pub follows_still : (settled : Table) → TableFollows past (grants past ask.copy) settled → TableFollows w.seen (grants w.seen ask.copy) settled
  follows_still settled f = subst (λ p. TableFollows p (grants p ask.copy) settled) (sym seen_is) f

  pub follows_wanting : (settled : Table) (now : Past) (u : View) → TableFollows past (grants past ask.copy) settled → IsLook past now w u → TableFollows u.seen (grants u.seen ask.copy) settled
  follows_wanting settled now u f look = subst (λ p. TableFollows p (grants p ask.copy) settled) (sym (ap (λ (x : View). x.seen) look.1)) f

  pub follows_entered : (settled : Table) (now : Past) (u : View) (reason : Refusal) → TableFollows past (grants past ask.copy) settled → IsEntry (event.Refused ask.access ask.copy reason) past now w u → TableFollows u.seen (grants u.seen ask.copy) settled
  follows_entered settled now u reason f e = subst (λ p. TableFollows p (grants p ask.copy) settled) (sym (ap (λ (x : View). x.seen) e.1)) (follows_refused past w.number ask.copy ask reason settled f)

  pub entered_refusal : (now : Past) (u : View) (reason : Refusal) → IsRefusal past ask reason → IsEntry (event.Refused ask.access ask.copy reason) past now w u → EnteredAs against_nothing (AskIsRefused ask reason) v u
  entered_refusal now u reason h e = (
    past,
    event.Refused ask.access ask.copy reason,
    (h, refl),
    r.since,
    refl,
    e.1 ∙ (λ i. extends (entry (r.is i).number (event.Refused ask.access ask.copy reason)) past (r.is i)),
  )
