-- A folded pair restores what the open one would.
use Rattle.std.proofs.Common.{false, inl, inr, ◌≡◌, ℕ, ◌<◌, ⊎_elim, true, List, [], ◌∷◌, ◌++◌, ◌&&◌, ◌||◌, drop, length, refl, sym, ap, ap₂, ◌∙◌, subst, arith}
use mathlib.Core.Bool.{true≢false}
use Rattle.std.specs.Prelude.{◌==◌, All, Option, None, Some, is_some, is_none, filter, get_or, MatchOption}
use Rattle.std.specs.List.{list_all}
use Rattle.std.proofs.lemmas.Bool.{and_parts, and_from, false_from_ne_true}
use Rattle.std.proofs.lemmas.List.Elements.{All-head, All-tail, All-weaker}
use Rattle.std.proofs.lemmas.List.FromFn.{get_or-map-range_with_len}
use Rattle.qc_names.specs.Name as name
use Rattle.qc_config.specs.Val.{Datum}
use Rattle.qc_config.specs.declared.tuple.Tuple.{Tuple}
use Rattle.qc_event.specs.Base.{Setting, no_tuple, start_tuple}
use Rattle.qc_event.specs.Dead.{ancestors, dead, outcome, is_committed}
use Rattle.qc_event.specs.History.{Past, Name, Begun, start, end, asked, grants}
use Rattle.qc_event.specs.Legal.{Legal, MayEnd, MayHappen}
use Rattle.qc_event.specs.Listed.{listed}
use Rattle.qc_event.specs.Seen.{changed_by, is_live_at, seen}
use Rattle.qc_event.specs.Seats.{is_client, ledger_seat}
use Rattle.qc_event.specs.Standing.{HasEnded, IsUser, open_child}
use Rattle.qc_event.specs.Users.{MayStartTop}
use Rattle.qc_event.specs.declared.event.Answer.{Answer}
use Rattle.qc_event.specs.declared.event.Entry.{Entry}
use Rattle.qc_event.specs.declared.event.Event.TheVariants as event
use Rattle.qc_event.specs.declared.event.How.{How}
use Rattle.qc_event.specs.declared.event.How.TheVariants.{Commit, Abort}
use Rattle.qc_event.specs.declared.event.Kind.{Kind}
use Rattle.qc_event.specs.declared.event.Kind.TheVariants as kind
use Rattle.qc_event.specs.Commits.{MayCommit}
use Rattle.qc_event.specs.Sound.{IsSound}
use Rattle.qc_event.proofs.LastNumber.{rest_of}
use Rattle.qc_event.proofs.Later.{alive_before, committed_still, earlier_legal}
use Rattle.qc_event.proofs.Lawful.{no_open_child, some_how}
use Rattle.qc_event.proofs.Lineage.{alive_above, alive_not_aborted}
use Rattle.qc_event.proofs.OneEntry.{end_stays, end_step, some_or_none, start_stays, start_step}
use Rattle.qc_event.proofs.RootAndTops.{root_alive}
use Rattle.qc_event.proofs.StillTold.{begun_still}
use Rattle.qc_serial.specs.Serial.{final_values}
use Rattle.qc_serial.specs.Visible.{is_visible, left_at, served_order}
use Rattle.qc_serial.proofs.MossNames.{two_ways}
use Rattle.qc_serial.proofs.MossVisible.{leaves}
use Rattle.qc_codec.specs.declared.past.Logged.{Logged}
use Rattle.qc_codec.specs.Restored.{restored_tuple}
use Rattle.qc_refine.specs.Final.{is_for_good}
use Rattle.qc_refine.specs.Folded.{IsFoldedPair, AreFoldedPairs}
use Rattle.qc_refine.specs.Restored.{Kept, granted_at, restored, restored_setting}
use Rattle.qc_refine.specs.Standing.{AreNext, StandBeside, committed_too}
use Rattle.qc_refine.proofs.Restoring.BelowReady.{committed_or}
use Rattle.qc_refine.proofs.Order.ForGood.{root_sees}
use Rattle.qc_refine.proofs.Copies.Grids.{grid, grids_agree}
use Rattle.qc_refine.proofs.Order.KeptForGood.{NoneAbove, good_above, good_committed, is_good_below, none_listed}
use Rattle.qc_refine.proofs.Restoring.LoggedTops.{WasAborted, listed_aborted, top_user}
use Rattle.qc_refine.proofs.Restoring.RestoredSound.{each, restored_sound}
use Rattle.qc_refine.proofs.Restoring.RestoredTuples.{HasAsked, IsBelow, below_top, filter_same, grants_asked}

-- WHO HAS ENDED

-- where no child of the root is open
pub settled_ended : (past : Past) → open_child past [] ≡ None → HasEnded past
settled_ended past none number began = no_open_child past [] number none began

-- what is entered under the seats of the ledger and the copies starts no top
abbrev pub IsNoClients : Entry → Type 0
IsNoClients e = is_client e.seat ≡ false

pub ended_still : (setting : Setting) (newer past : Past) → Legal setting (newer ++ past) → HasEnded past → All IsNoClients newer → HasEnded (newer ++ past)
ended_still setting [] past legal ended low number began = ended number began
ended_still setting (e ∷ newer) past legal ended low number began = elim (start_step e (newer ++ past) (number ∷ []) began) [
  | inl old ↦ end_stays e (newer ++ past) (number ∷ []) (ended_still setting newer past legal.0 ended (All-tail IsNoClients e newer low) number old)
  | inr new ↦
      let may : MayStartTop (newer ++ past) e.seat number new.1.0 = subst (MayHappen setting (newer ++ past) e.seat) new.1.1 legal.1 in
      absurd (true≢false (sym may.by_client ∙ All-head IsNoClients e newer low))
]

-- nor do copies end one
abbrev pub IsCopies : Entry → Type 0
IsCopies e = (is_client e.seat ≡ false) × (e.seat ≡ ledger_seat → ⊥)

module _ (setting : Setting) (e : Entry) (past : Past) (legal : Legal setting (e ∷ past)) (copies : IsCopies e) where
  ends_none : (number : ℕ) (how : How) → is_some (start past (number ∷ [])) ≡ true → e.event ≡ event.End (number ∷ []) how → ⊥
  ends_none number how began is = by_start (start past (number ∷ [])) (top_user setting past number legal.0 began) how (subst (MayHappen setting past e.seat) is legal.1)
    where
      by_kind : (b : Begun) (k : Kind) (given : Answer) → IsUser k → MayCommit setting past e.seat (number ∷ []) b given k → ⊥
      by_kind b (kind.User session body) given user may = copies.1 may.ledger
      by_kind b _ given user may = absurd user

      by_start : (o : Option Begun) → MatchOption o ⊥ (λ b. IsUser b.kind) → (h : How) → MatchOption o ⊥ (MayEnd setting past e.seat (number ∷ []) h) → ⊥
      by_start None user h may = user
      by_start (Some b) user (Commit given) may = by_kind b b.kind given user may
      by_start (Some b) user (Abort c) may = true≢false (sym may.by_client ∙ copies.0)

  ended_one_before : HasEnded (e ∷ past) → HasEnded past
  ended_one_before ended number began =
      let how = some_how (end (e ∷ past) (number ∷ [])) (ended number (start_stays e past (number ∷ []) began)) in
      elim (end_step e past (number ∷ []) how.0 how.1) [
        | inl old ↦ ap (λ (o : Option How). is_some o) old
        | inr new ↦ absurd (ends_none number how.0 began new.1)
      ]

pub ended_before : (setting : Setting) (newer past : Past) → Legal setting (newer ++ past) → HasEnded (newer ++ past) → All IsCopies newer → HasEnded past
ended_before setting [] past legal ended copies = ended
ended_before setting (e ∷ newer) past legal ended copies =
    ended_before setting newer past legal.0
    (ended_one_before setting e (newer ++ past) legal (All-head IsCopies e newer copies) ended)
    (All-tail IsCopies e newer copies)

-- WHO LIVES

pub none_is : (o : Option Name) → is_none o ≡ true → o ≡ None
none_is None h = refl
none_is (Some n) h = absurd (true≢false (sym h))

is_none_of : (o : Option Name) → o ≡ None → is_none o ≡ true
is_none_of o is = ap (λ (q : Option Name). is_none q) is

-- nobody aborted stands above who lives
none_above : (past : Past) (names : List Name) (n : Name) → All (WasAborted past) names → dead past n ≡ None → NoneAbove names n
none_above past [] n all alive = refl
none_above past (a ∷ names) n all alive = ap₂ (λ b c. b || c)
    (false_from_ne_true (name.is_ancestor a n) (λ above.
    let rest = rest_of a n above in
    let lives : dead past a ≡ None = alive_above past a rest.0 (ap (dead past) (sym rest.1) ∙ alive) in
    true≢false (sym (All-head (WasAborted past) a names all) ∙ alive_not_aborted past a lives)))
    (none_above past names n (All-tail (WasAborted past) a names all) alive)

-- who is committed for good lives
good_lives : (setting : Setting) (past : Past) (x : ℕ) (r : Name) → Legal setting past → is_some (start past (x ∷ r)) ≡ true → is_for_good past (x ∷ r) ≡ true → is_none (dead past (x ∷ r)) ≡ true
good_lives setting past x r legal began for_good =
    let done : is_committed (outcome past (x ∷ [])) ≡ true = good_committed past [] x (good_above past (x ∷ []) r for_good) in
    is_none_of _ (is_good_below setting past x legal done r began (none_listed setting past x r legal began (listed past (x ∷ [])) (listed_aborted setting past (x ∷ []) legal) for_good)).alive

module _ (setting : Setting) (past : Past) (legal : Legal setting past) (ended : HasEnded past) where
  -- once each top has its end, who has asked and lives is committed for good
  pub lives_for_good : (a : Name) → is_some (asked past a) ≡ true → is_none (dead past a) ≡ is_for_good past a
  lives_for_good a asks = by_top (below_top setting past a legal asks)
    where
      good : (x : ℕ) (r : Name) → is_some (start past (x ∷ r)) ≡ true → is_some (start past (x ∷ [])) ≡ true → is_none (dead past (x ∷ r)) ≡ true → is_for_good past (x ∷ r) ≡ true
      good x r began top lives =
          let alive = none_is (dead past (x ∷ r)) lives in
          let above : dead past (x ∷ []) ≡ None = alive_above past (x ∷ []) r alive in
          let done : is_committed (outcome past (x ∷ [])) ≡ true = committed_or (end past (x ∷ [])) (ended x top) (alive_not_aborted past (x ∷ []) above) in
          (is_good_below setting past x legal done r began (none_above past (listed past (x ∷ [])) (x ∷ r) (listed_aborted setting past (x ∷ []) legal) alive)).good

      by_top : IsBelow past a → is_none (dead past a) ≡ is_for_good past a
      by_top b =
          ap (λ n. is_none (dead past n)) b.is
          ∙ two_ways _ _ (good b.number b.rest b.started b.top_started) (good_lives setting past b.number b.rest legal b.started)
          ∙ sym (ap (is_for_good past) b.is)

  -- no record of the ledger is in excess
  pub none_next : (more : List Logged) → AreNext past more → more ≡ []
  none_next [] next = refl
  none_next (l ∷ ls) next = absurd (some_or_none (end past l.top)
      (ap (λ t. is_some (end past t)) next.0.is_top ∙ ended next.0.number (ap (λ t. is_some (start past t)) (sym next.0.is_top) ∙ next.0.is_open.started))
      next.0.is_open.not_ended)

-- LATER

-- who is committed for good stays so
good_still : (newer past : Past) (n : Name) → is_for_good past n ≡ true → is_for_good (newer ++ past) n ≡ true
good_still newer past n = all_still (drop 1 (ancestors n))
  where
    all_still : (ns : List Name) → list_all (λ a. is_committed (outcome past a)) ns ≡ true → list_all (λ a. is_committed (outcome (newer ++ past) a)) ns ≡ true
    all_still [] all = refl
    all_still (a ∷ ns) all =
        let both = and_parts (is_committed (outcome past a)) _ all in
        and_from _ _ (committed_still newer past a both.0) (all_still ns both.1)

-- what a copy held once each top had its end it holds while it grants nothing more
pub seen_still : (setting : Setting) (newer past : Past) (copy rec : ℕ) → Legal setting (newer ++ past) → HasEnded past → grants (newer ++ past) copy ≡ grants past copy
    → seen setting.base (newer ++ past) copy rec ≡ seen setting.base past copy rec
seen_still setting newer past copy rec legal ended no_more =
    ap (changed_by (start_tuple setting.base copy rec))
    (ap (filter (is_live_at (newer ++ past) rec)) no_more
    ∙ filter_same (is_live_at (newer ++ past) rec) (is_live_at past rec) (grants past copy)
    (All-weaker (HasAsked past) (λ g. is_live_at (newer ++ past) rec g ≡ is_live_at past rec g) (λ g asks. ap (λ b. (g.rec == rec) && b) (same g.access asks)) (grants past copy) (grants_asked setting past copy before)))
  where
    before : Legal setting past
    before = earlier_legal setting newer past legal

    same : (a : Name) → is_some (asked past a) ≡ true → is_none (dead (newer ++ past) a) ≡ is_none (dead past a)
    same a asks = by_top (below_top setting past a before asks)
      where
        by_top : IsBelow past a → is_none (dead (newer ++ past) a) ≡ is_none (dead past a)
        by_top b = two_ways _ _
            (λ lives. is_none_of _ (alive_before newer past a (none_is (dead (newer ++ past) a) lives)))
            (λ lives.
            let good : is_for_good past (b.number ∷ b.rest) ≡ true = ap (is_for_good past) (sym b.is) ∙ sym (lives_for_good setting past before ended a asks) ∙ lives in
            ap (λ n. is_none (dead (newer ++ past) n)) b.is ∙ good_lives setting (newer ++ past) b.number b.rest legal (begun_still newer past (b.number ∷ b.rest) b.started) (good_still newer past (b.number ∷ b.rest) good))

-- WHAT IS RESTORED

module _ (first : List (List Tuple)) (epoch : ℕ) (setting : Setting) (before now : Kept) (past : Past) (legal : Legal setting past) (s : StandBeside first epoch setting before now past) where
  -- an open pair restores what the copy holds
  pub open_restores : HasEnded past → (copy rec : ℕ) → copy < length first → rec < length setting.firsts → restored_tuple now.tops rec (start_tuple first copy rec) (granted_at now copy) ≡ seen setting.base past copy rec
  open_restores ended copy rec here there =
      each first epoch setting before now past legal s copy rec here there
      ∙ ap (λ ms. left_at setting.base (served_order (committed_too past ms) []) copy rec) (none_next setting past legal ended s.more s.next)
      ∙ leaves setting past [] legal tt (root_alive setting past legal) copy rec
      ∙ ap (changed_by (start_tuple setting.base copy rec))
      (filter_same (λ g. (g.rec == rec) && is_visible past g.access []) (is_live_at past rec) (grants past copy)
      (All-weaker (HasAsked past) (λ g. ((g.rec == rec) && is_visible past g.access []) ≡ is_live_at past rec g)
      (λ g asks. ap (λ b. (g.rec == rec) && b) (root_sees past g.access ∙ sym (lives_for_good setting past legal ended g.access asks)))
      (grants past copy) (grants_asked setting past copy legal)))

  module _ (first' : List (List Tuple)) (now' : Kept) (folded : AreFoldedPairs setting past first first' now now') where
    -- so does a folded one
    folded_restores : (copy rec : ℕ) → copy < length first → rec < length setting.firsts → IsFoldedPair setting past first first' now now' copy
        → restored_tuple now'.tops rec (start_tuple first' copy rec) (granted_at now' copy) ≡ restored_tuple now.tops rec (start_tuple first copy rec) (granted_at now copy)
    folded_restores copy rec here there pair =
        ap (restored_tuple now'.tops rec (start_tuple first' copy rec)) pair.no_grants
        ∙ ap (λ (row : List Tuple). get_or row rec no_tuple) pair.held
        ∙ get_or-map-range_with_len (seen setting.base past copy) 0 (length setting.firsts) rec rec no_tuple there (omega arith)
        ∙ sym (open_restores pair.ended copy rec here there)

    each_alike : (copy rec : ℕ) → copy < length first → rec < length setting.firsts
        → restored_tuple now'.tops rec (start_tuple first' copy rec) (granted_at now' copy) ≡ restored_tuple now.tops rec (start_tuple first copy rec) (granted_at now copy)
    each_alike copy rec here there = ⊎_elim
        (λ pair. ⊎_elim
        (λ same_tops.
        ap₂ (λ (tops : List Logged) (row : List Tuple). restored_tuple tops rec (get_or row rec no_tuple) (granted_at now' copy)) same_tops pair.same_begin
        ∙ ap (restored_tuple now.tops rec (start_tuple first copy rec)) pair.same_grants)
        (λ all. folded_restores copy rec here there (all copy here))
        folded.ledger)
        (folded_restores copy rec here there)
        (folded.copies copy here)

    -- together they restore the same
    pub restore_alike : restored first' (length setting.firsts) now' ≡ restored first (length setting.firsts) now
    restore_alike =
        ap (λ n. grid n (length setting.firsts) (λ copy rec. restored_tuple now'.tops rec (start_tuple first' copy rec) (granted_at now' copy))) folded.many
        ∙ grids_agree (length first) (length setting.firsts) (λ copy rec. restored_tuple now.tops rec (start_tuple first copy rec) (granted_at now copy))
        (λ copy rec. restored_tuple now'.tops rec (start_tuple first' copy rec) (granted_at now' copy)) each_alike

    pub folded_sound : (values : List Datum) → IsSound setting values → IsSound (restored_setting first' setting now') (final_values values (committed_too past s.more))
    folded_sound values sound =
        subst (λ (base : List (List Tuple)). IsSound (record { firsts = setting.firsts; base = base }) (final_values values (committed_too past s.more))) (sym restore_alike)
        (restored_sound first epoch setting before now past legal s values sound)
