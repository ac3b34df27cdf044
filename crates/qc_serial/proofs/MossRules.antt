-- The moves of a legal history follow Moss's rules.
use Rattle.std.proofs.Common.{ℕ, ◌≡◌, ◌&&◌, Bool, true, false, not, [], ◌∷◌, ◌++◌, reverse, refl, sym, ap, ◌∙◌, subst, inl, inr, ◌⊎◌, arith}
use mathlib.Core.Bool.{true≢false}
use Rattle.std.specs.Prelude.{Option, None, Some, is_some, is_none, IfNone, if◌then◌else◌}
use Rattle.std.specs.Option.{option_or, option_map}
use Rattle.std.proofs.lemmas.List.{reverse-reverse, length-reverse}
use Rattle.std.proofs.lemmas.Bool.{or_cases, false_from_ne_true, eq-eqb}
use Rattle.qc_config.specs.Tuple.{after}
use Rattle.qc_event.specs.declared.event.Event.{Event}
use Rattle.qc_event.specs.declared.event.Event.TheVariants as event
use Rattle.qc_event.specs.declared.event.Grant.{Grant}
use Rattle.qc_event.specs.declared.event.How.{How}
use Rattle.qc_event.specs.declared.event.How.TheVariants as how
use Rattle.qc_event.specs.declared.event.Outcome.TheVariants.{Live}
use Rattle.qc_config.specs.declared.tuple.Op.{Op}
use Rattle.qc_event.specs.Base.{Setting}
use Rattle.qc_event.specs.History.{Past, Name, Given, start, end, asked, granted}
use Rattle.qc_event.specs.Dead.{outcome, outcome_of, is_aborted, dead}
use Rattle.qc_event.specs.Clear.{clear, conflict, is_get}
use Rattle.qc_event.specs.Seen.{seen, is_in_way}
use Rattle.qc_event.specs.Grants.{IsServed, MayGrant}
use Rattle.qc_event.specs.Legal.{Legal, MayHappen}
use Rattle.qc_event.proofs.OneEntry.{some_or_none}
use Rattle.qc_event.proofs.Orderly.{Orderly, KeepsOrder, Commits, Ends}
use Rattle.qc_event.proofs.Lawful.{Lawful, lawful, started_some, parent_started}
use Rattle.qc_event.proofs.LegalOrderly.{legal_orderly}
use Rattle.qc_event.proofs.Lineage.{dead_last, dead_parent, alive_not_aborted, neither, parent_going}
use Rattle.qc_serial.proofs.Accesses.{asked_access, grant_asked, committed_granted}
use Rattle.qc_serial.proofs.MossNames.{Line}
use Rattle.qc_serial.proofs.MossMoves as moss
use Rattle.qc_serial.proofs.MossMoves.{Granted, Commit, Abort, is_put, is_dead, is_shown, place_of}
use Rattle.qc_serial.proofs.MossLocks.{In, AllLive, Conflict, Free, MovesFollow}
use Rattle.qc_serial.proofs.MossTurned.{turn_last, turn_back}
use Rattle.qc_serial.proofs.MossPast.{end_move, move_in, moves, start_at, left_moves, none_found}
use Rattle.qc_serial.proofs.MossStands.{live_moves, dead_moves, shown_moves, shown_in}

-- WHO STANDS OPEN

abbrev pub StartedOrRoot : Past → Name → Type 0
StartedOrRoot past [] = Unit {0}
StartedOrRoot past n = is_some (start past n) ≡ true

pub started_or_root : (past : Past) (n : Name) → is_some (start past n) ≡ true → StartedOrRoot past n
started_or_root past [] began = tt
started_or_root past (x ∷ n) began = began

pub started_last : (past : Past) (p : Name) (k : ℕ) → StartedOrRoot past (p ++ k ∷ []) → is_some (start past (p ++ k ∷ [])) ≡ true
started_last past [] k began = began
started_last past (x ∷ p) k began = began

pub started_above : (past : Past) (p : Name) (k : ℕ) → Lawful past → is_some (start past (p ++ k ∷ [])) ≡ true → StartedOrRoot past p
started_above past [] k law began = tt
started_above past (x ∷ p) k law began = parent_started past (x ∷ p) k law (omega arith) began

-- the ancestors of what is open and not dead are open
pub all_open : (past : Past) → Orderly past → (d : Line) → StartedOrRoot past (reverse d) → end past (reverse d) ≡ None → dead past (reverse d) ≡ None → AllLive (moves past) d
all_open past orderly [] began going alive = λ m a. subst (λ x. moss.outcome (moves past) x ≡ Live) (sym a) (live_moves past orderly [] going)
all_open past orderly (k ∷ p) began going alive =
    let law : Lawful past = lawful past orderly in
    let began' : is_some (start past (reverse p ++ k ∷ [])) ≡ true = started_last past (reverse p) k (subst (StartedOrRoot past) (turn_last k p) began) in
    let going' : end past (reverse p ++ k ∷ []) ≡ None = subst (λ n. end past n ≡ None) (turn_last k p) going in
    let alive' : dead past (reverse p ++ k ∷ []) ≡ None = subst (λ n. dead past n ≡ None) (turn_last k p) alive in
    let up = all_open past orderly p (started_above past (reverse p) k law began') (parent_going past (reverse p) k law began' going' alive') (dead_parent past (reverse p) k alive') in
    λ m a. elim a [
      | inl is ↦ subst (λ x. moss.outcome (moves past) x ≡ Live) (sym is) (live_moves past orderly (k ∷ p) going)
      | inr above ↦ up m above
    ]

-- COMMITS

-- a top that has no end is not dead
top_alive : (past : Past) (k : ℕ) → Lawful past → end past (k ∷ []) ≡ None → dead past (k ∷ []) ≡ None
top_alive past k law going =
    dead_last past [] k
    ∙ ap (λ o. option_or (if is_aborted (outcome_of o) then Some [] else None) (if is_aborted (outcome past (k ∷ [])) then Some (k ∷ []) else None)) law.no_root_end
    ∙ ap (λ o. if is_aborted (outcome_of o) then Some (k ∷ []) else None) going

commits_alive : (past : Past) (k : ℕ) (p : Line) → Lawful past → Commits past (reverse (k ∷ p)) → dead past (reverse (k ∷ p)) ≡ None
commits_alive past k [] law commits = top_alive past k law commits.is_open.not_ended
commits_alive past k (j ∷ p) law commits = commits.alive (omega (arith, length-reverse (k ∷ j ∷ p)))

commit_open : (past : Past) → Orderly past → (k : ℕ) (p : Line) → Commits past (reverse (k ∷ p)) → AllLive (moves past) (k ∷ p)
commit_open past orderly k p commits =
    all_open past orderly (k ∷ p) (started_or_root past (reverse (k ∷ p)) commits.is_open.started) commits.is_open.not_ended (commits_alive past k p (lawful past orderly) commits)

follows_end : (setting : Setting) (past : Past) → Orderly past → (n : Name) (h : How) (m : Line) → reverse n ≡ m → Ends past n h → MovesFollow (start_at setting.base) (moves past) → MovesFollow (start_at setting.base) (end_move m h ++ moves past)
follows_end setting past orderly n h [] is ends follows = follows
follows_end setting past orderly n (how.Commit answer) (k ∷ p) is ends follows = (commit_open past orderly k p (subst (Commits past) (turn_back n (k ∷ p) is) ends), follows)
follows_end setting past orderly n (how.Abort cause) (k ∷ p) is ends follows = (live_moves past orderly (k ∷ p) (subst (λ x. end past x ≡ None) (turn_back n (k ∷ p) is) ends.not_ended), follows)

-- GRANTS

dead_turned : (past : Past) → Orderly past → (n : Name) → is_dead (moves past) (reverse n) ≡ is_some (dead past n)
dead_turned past orderly n = dead_moves past orderly (reverse n) ∙ ap (λ x. is_some (dead past x)) (reverse-reverse n)

shown_turned : (past : Past) → Orderly past → (b a : Name) → is_shown (moves past) (reverse b) (reverse a) ≡ shown_in past b a
shown_turned past orderly b a =
    shown_moves past orderly (reverse b) (reverse a) ∙ ap (λ x. shown_in past x (reverse (reverse a))) (reverse-reverse b) ∙ ap (shown_in past b) (reverse-reverse a)

some_test : (o : Option Name) → not (is_some o) ≡ is_none o
some_test None = refl
some_test (Some n) = refl

-- an access that is granted is open, where it is not dead
access_open : (setting : Setting) (past : Past) (n : Name) → Legal setting past → is_some (asked past n) ≡ true → granted past n ≡ None → dead past n ≡ None → end past n ≡ None
access_open setting past n legal asks none alive =
    neither (end past n) (false_from_ne_true _ (λ done. some_or_none (granted past n) (committed_granted setting past n legal asks done) none)) (alive_not_aborted past n alive)

-- what is not in the way is clear
clear_there : (same_rec conflicts clears : Bool) → same_rec ≡ true → conflicts ≡ true → (same_rec && conflicts && not clears) ≡ false → clears ≡ true
clear_there true true true s c h = refl
clear_there true true false s c h = absurd (true≢false h)
clear_there true false clears s c h = absurd (true≢false (sym c))
clear_there false conflicts clears s c h = absurd (true≢false (sym s))

conflicts_there : (a b : Op) → (is_put a ≡ true) ⊎ (is_put b ≡ true) → conflict a b ≡ true
conflicts_there a b put = by_tests (is_get a) (is_get b) put
  where
    by_tests : (x y : Bool) → (not x ≡ true) ⊎ (not y ≡ true) → not (x && y) ≡ true
    by_tests true true (inl h) = h
    by_tests true true (inr h) = h
    by_tests true false put = refl
    by_tests false y put = refl

no_holder : (o : Option Grant) → option_map (λ (g : Grant). g.access) o ≡ None → o ≡ None
no_holder None h = refl
no_holder (Some g) h = absurd cc

module _ (setting : Setting) (past : Past) (legal : Legal setting past) (seat copy : ℕ) (grant : Grant) (may : MayGrant setting past seat copy grant) where
  abbrev g : Given
  g = record { copy = copy; grant = grant }

  orderly : Orderly past
  orderly = legal_orderly setting past legal

  clear_for : IsServed setting past copy grant → (b : Given) → In b (moss.grants (moves past)) → Conflict b g → (is_dead (moves past) (reverse b.grant.access) ≡ true) ⊎ (is_shown (moves past) (reverse b.grant.access) (reverse grant.access) ≡ true)
  clear_for served b i x =
      let out = none_found (is_in_way past grant.rec grant.op grant.access) copy past b (no_holder _ served.free) (ap (λ (y : moss.Place). y.copy) x.place) i in
      let cleared : clear past b.grant.access grant.access ≡ true = clear_there _ _ _ (eq-eqb b.grant.rec grant.rec (ap (λ (y : moss.Place). y.rec) x.place)) (conflicts_there b.grant.op grant.op x.put) out in
      elim (or_cases (is_some (dead past b.grant.access)) (shown_in past b.grant.access grant.access) cleared) [
        | inl gone ↦ inl (dead_turned past orderly b.grant.access ∙ gone)
        | inr shown ↦ inr (shown_turned past orderly b.grant.access grant.access ∙ shown)
      ]

  held : moss.seen (start_at setting.base) (moves past) (place_of g) ≡ seen setting.base past copy grant.rec
  held = left_moves setting.base (λ n. not (is_dead (moves past) n)) (λ n. is_none (dead past n)) (λ n. ap not (dead_turned past orderly n) ∙ some_test (dead past n)) copy grant.rec past

  free_for : dead past grant.access ≡ None → IsServed setting past copy grant → Free (start_at setting.base) (moves past) g
  free_for alive served =
      let asks = grant_asked setting past seat copy grant may in
      let began : is_some (start past grant.access) ≡ true = started_some _ (start past grant.access) (asked_access setting past grant.access legal asks).started in
      let there = λ (P : Name → Type 0) (h : P grant.access). subst P (sym (reverse-reverse grant.access)) h in
      record {
        live = all_open past orderly (reverse grant.access)
            (there (StartedOrRoot past) (started_or_root past grant.access began))
            (there (λ n. end past n ≡ None) (access_open setting past grant.access legal asks may.first_time alive))
            (there (λ n. dead past n ≡ None) alive);
        clear = clear_for served;
        finds = served.tuple ∙ ap (λ t. after t grant.op) (sym held);
      }

  grant_moves : (o : Option Name) → dead past grant.access ≡ o → IfNone o (IsServed setting past copy grant) → (is_dead (moves past) (reverse grant.access) ≡ true) ⊎ Free (start_at setting.base) (moves past) g
  grant_moves None is served = inr (free_for is served)
  grant_moves (Some a) is served = inl (dead_turned past orderly grant.access ∙ ap is_some is)

  pub follows_grant : (is_dead (moves past) (reverse grant.access) ≡ true) ⊎ Free (start_at setting.base) (moves past) (record { copy = copy; grant = grant })
  follows_grant = grant_moves (dead past grant.access) refl may.served

-- EACH ENTRY

follows_entry : (setting : Setting) (past : Past) (seat : ℕ) (ev : Event) → Legal setting past → KeepsOrder past ev → MayHappen setting past seat ev → MovesFollow (start_at setting.base) (moves past) → MovesFollow (start_at setting.base) (move_in ev ++ moves past)
follows_entry setting past seat (event.Granted copy grant) legal keeps may follows = (follows_grant setting past legal seat copy grant may, follows)
follows_entry setting past seat (event.End n h) legal keeps may follows = follows_end setting past (legal_orderly setting past legal) n h (reverse n) refl keeps follows
follows_entry setting past seat _ legal keeps may follows = follows

pub follows : (setting : Setting) (past : Past) → Legal setting past → MovesFollow (start_at setting.base) (moves past)
follows setting [] legal = tt
follows setting (e ∷ past) legal = follows_entry setting past e.seat e.event legal.0 (legal_orderly setting (e ∷ past) legal).1 legal.1 (follows setting past legal.0)
