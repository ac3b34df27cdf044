-- What branches at once leave: those at and above the transaction are as they were, and it goes on where they came to the
-- end.
use Rattle.std.proofs.Common.{◌≡◌, ◌⊎◌, inl, inr, ◌<◌, ◌≤◌, ◌+◌, Bool, true, false, List, [], ◌∷◌, ◌++◌, length, refl, sym, ap, ◌∙◌, subst, arith, append-nil, filter}
use mathlib.Core.Bool.{true≢false}
use Rattle.std.specs.Prelude.{Option, None, Some, is_some, is_none, not, ◌||◌, if◌then◌else◌}
use Rattle.std.specs.List.{AllByRecursion, list_all}
use Rattle.std.specs.Option.{option_or, option_map_or}
use Rattle.std.proofs.lemmas.Bool.{and_parts, and_from, or_cases, or_left, or_right, false_from_ne_true}
use Rattle.std.proofs.lemmas.List.{length-append}
use Rattle.std.proofs.lemmas.List.Elements.{filter-append}
use Rattle.qc_event.specs.declared.event.Cause.TheVariants.{Asked}
use Rattle.qc_event.specs.declared.event.Entry.{Entry}
use Rattle.qc_event.specs.declared.event.Event.{Event}
use Rattle.qc_event.specs.declared.event.Event.TheVariants as event
use Rattle.qc_event.specs.declared.event.How.{How}
use Rattle.qc_event.specs.declared.event.How.TheVariants.{Abort}
use Rattle.qc_event.specs.History.{Past, Name, earliest, end, end_in, is_ready, ready_in, is_child, same}
use Rattle.qc_event.proofs.Absent.{if_not, same_is}
use Rattle.qc_event.proofs.Histories.{earliest-append}
use Rattle.qc_event.proofs.LastNumber.{child_longer, rest_of, ancestor_further}
use Rattle.qc_event.proofs.OneEntry.{if_is}
use Rattle.qc_names.specs.Name as name
use Rattle.qc_script.specs.Client.{Client, mine, is_own, about, is_upward, scope, IsLater, HasJoined}
use Rattle.qc_script.specs.Calls.{is_over}
use Rattle.qc_script.specs.Numbers.{each, any_top}
use Rattle.qc_interp.specs.Adding.{asks_above, stays_in, AllStayIn}
use Rattle.qc_interp.specs.Branches.{Branch, with_all, RanRow}
use Rattle.qc_interp.specs.Deeds.{deeds}
use Rattle.qc_interp.specs.Follows.{IsUnended, WasAsked}
use Rattle.qc_interp.specs.Reach.{Reach, AtTheEnd}
use Rattle.qc_interp.specs.Running.{Runs, LeavesIt, LeavesAt}
use Rattle.qc_interp.specs.Turns.{takes_turn, is_alone}
use Rattle.qc_interp.proofs.Following.Deeds.{Silent, start_silent, mark_silent, deeds_quiet}
use Rattle.qc_interp.proofs.Branching.Joined.{joined_mine}
use Rattle.qc_interp.proofs.Rows.Ours.{none_of, upward_long}
use Rattle.qc_interp.proofs.Rows.Seats.{begun_joined}
use Rattle.qc_interp.proofs.Rows.Tries.{AsksFor, asks_for, upward_above, stays_about, stays_low, Owner, owners}
use Rattle.qc_interp.proofs.Rows.Turns.{row_turns, row_alone}
use Rattle.qc_interp.proofs.Scopes.Scope.{in_or_upward, child_scope, same_scope}
use Rattle.qc_event.proofs.Options.{unless_new}

-- SOME ENTRIES

-- what is so of each that is kept is so of those that are
pub kept_each : (P Q : Entry → Type 0) (keep : Entry → Bool) (es : Past) → ((e : Entry) → P e → Q e) → AllByRecursion (λ e. keep e ≡ true → P e) es → AllByRecursion Q (filter keep es)
kept_each P Q keep [] step all = tt
kept_each P Q keep (e ∷ es) step all = by_test (keep e) refl (kept_each P Q keep es step all.1)
  where
    by_test : (b : Bool) → keep e ≡ b → AllByRecursion Q (filter keep es) → AllByRecursion Q (if b then e ∷ filter keep es else filter keep es)
    by_test true is more = (step e (all.0 is), more)
    by_test false is more = more

-- WHAT STAYS WITH A CHILD LEAVES THOSE ABOVE

pub not_shorter : (t m : Name) → name.is_ancestor t m ≡ true → length t ≤ length m
not_shorter t m low = let r = rest_of t m low in let l = ap length r.1 in omega (arith, l, length-append t r.0)

-- a name above is not the same as one that is longer
pub longer_other : (m p : Name) → length p < length m → same m p ≡ false
longer_other m p long = false_from_ne_true (same m p) (λ h. let l = ap length (same_is m p h) in let z : ⊥ = omega (arith, l, long) in z)

module _ (of t p : Name) (child : is_child of t ≡ true) (short : length p ≤ length of) where
  long : (m : Name) → name.is_ancestor t m ≡ true → length p < length m
  long m low = let l = not_shorter t m low in omega (arith, l, child_longer of t child, short)

  -- it ends one above only as one there asked
  pub stays_end : (e : Entry) (how : How) → stays_in t e ≡ true → end_in p e.event ≡ Some how → WasAsked p (Some how)
  stays_end e how stays is = by_event e.event refl is
    where
      by_event : (ev : Event) → e.event ≡ ev → end_in p ev ≡ Some how → WasAsked p (Some how)
      by_event (event.End m x) at is =
          let one = if_is (same m p) x how is in
          let here : e.event ≡ event.End p x = at ∙ ap (λ n. event.End n x) (same_is m p one.0) in
          elim (stays_about t p e stays (ap about here)) [
            | inl low ↦ let z : ⊥ = omega (arith, long p low) in absurd z
            | inr asks ↦ by_asked asks.by asks.low (sym (cause_is asks.by here asks.is) ∙ one.1)
          ]
        where
          cause_is : (by : Name) → e.event ≡ event.End p x → e.event ≡ event.End p (Abort (Asked by)) → x ≡ Abort (Asked by)
          cause_is by here also = same_how (sym here ∙ also)
            where
              same_how : event.End p x ≡ event.End p (Abort (Asked by)) → x ≡ Abort (Asked by)
              same_how h = cc

          by_asked : (by : Name) → name.is_ancestor t by ≡ true → Abort (Asked by) ≡ how → WasAsked p (Some how)
          by_asked by low same = subst (λ h. WasAsked p (Some h)) same (ap not (longer_other by p (long by low)))
      by_event (event.Start m k) at is = absurd cc
      by_event (event.Ask ask) at is = absurd cc
      by_event (event.Gone m why) at is = absurd cc
      by_event (event.Granted copy grant) at is = absurd cc
      by_event (event.Refused m copy refusal) at is = absurd cc
      by_event (event.Unable m why) at is = absurd cc
      by_event (event.Mark m session) at is = absurd cc
      by_event (event.Ready m) at is = absurd cc

  -- it makes none above ready
  pub stays_unready : (e : Entry) → stays_in t e ≡ true → ready_in p e.event ≡ None
  stays_unready e stays = by_event e.event refl
    where
      by_event : (ev : Event) → e.event ≡ ev → ready_in p ev ≡ None
      by_event (event.Ready m) at = if_not (same m p) (Some tt) (longer_other m p (long m (stays_low t m e stays (ap about at) (ap (asks_above t) at))))
      by_event _ at = refl

  -- by it none that is strictly above does anything
  pub stays_silent : length p < length of → (e : Entry) → stays_in t e ≡ true → Silent p e.event
  stays_silent above e stays = by_event e.event refl
    where
      by_event : (ev : Event) → e.event ≡ ev → Silent p ev
      by_event (event.Start m k) at =
          let low = stays_low t m e stays (ap about at) (ap (asks_above t) at) in
          start_silent p m k (false_from_ne_true (is_child p m) (λ child_too. let l = not_shorter t m low in let z : ⊥ = omega (arith, l, child_longer of t child, child_longer p m child_too, above) in z))
      by_event (event.Mark m session) at = mark_silent p m session (longer_other m p (long m (stays_low t m e stays (ap about at) (ap (asks_above t) at))))
      by_event (event.Ask ask) at = λ past. refl
      by_event (event.Gone m why) at = λ past. refl
      by_event (event.Granted copy grant) at = λ past. refl
      by_event (event.Refused m copy refusal) at = λ past. refl
      by_event (event.Unable m why) at = λ past. refl
      by_event (event.Ready m) at = λ past. refl
      by_event (event.End m how) at = λ past. refl

-- what stays in a scope stays in a wider one
pub stays_wider : (s t : Name) (e : Entry) → ((n : Name) → name.is_ancestor t n ≡ true → name.is_ancestor s n ≡ true) → ((n : Name) → is_upward t n ≡ true → (name.is_ancestor s n ≡ true) ⊎ (is_upward s n ≡ true)) → stays_in t e ≡ true → stays_in s e ≡ true
stays_wider s t e low up stays =
    let parts = and_parts (is_none (any_top e.event)) _ stays in
    and_from (is_none (any_top e.event)) _ parts.0 (by_about (about e.event) refl (or_cases _ _ parts.1))
  where
    by_asks : (n : Name) → AsksFor t n e.event → about e.event ≡ Some n → (option_map_or (λ m. name.is_ancestor s m) (about e.event) true || asks_above s e.event) ≡ true
    by_asks n asks whom = elim (up n asks.up) [
      | inl below ↦ or_left _ _ (ap (λ o. option_map_or (λ m. name.is_ancestor s m) o true) whom ∙ below)
      | inr above ↦ or_right _ _ (ap (asks_above s) asks.is ∙ and_from (is_upward s n) (name.is_ancestor s asks.by) above (low asks.by asks.low))
    ]

    by_about : (o : Option Name) → about e.event ≡ o → (option_map_or (λ n. name.is_ancestor t n) (about e.event) true ≡ true) ⊎ (asks_above t e.event ≡ true)
        → (option_map_or (λ m. name.is_ancestor s m) (about e.event) true || asks_above s e.event) ≡ true
    by_about None whom h = or_left _ _ (ap (λ o. option_map_or (λ m. name.is_ancestor s m) o true) whom)
    by_about (Some n) whom (inl h) = or_left _ _ (ap (λ o. option_map_or (λ m. name.is_ancestor s m) o true) whom ∙ low n (sym (ap (λ o. option_map_or (λ m. name.is_ancestor t m) o true) whom) ∙ h))
    by_about (Some n) whom (inr h) = by_asks n (asks_for t n e.event h whom) whom

-- NOTHING MORE IS TOLD

none_told : {Y : Type 0} (f : Entry → Option Y) (es : Past) → AllByRecursion (λ e. f e ≡ None) es → earliest f es ≡ None
none_told f [] all = refl
none_told f (e ∷ es) all = ap (λ o. option_or o (f e)) (none_told f es all.1) ∙ all.0

ended_as_asked : (p : Name) (es : Past) → AllByRecursion (λ (e : Entry). (how : How) → end_in p e.event ≡ Some how → WasAsked p (Some how)) es → IsUnended p (end es p)
ended_as_asked p [] all = inl refl
ended_as_asked p (e ∷ es) all = by_old (end es p) refl (ended_as_asked p es all.1)
  where
    by_new : (o : Option How) → end_in p e.event ≡ o → IsUnended p o
    by_new None is = inl refl
    by_new (Some how) is = inr (all.0 how is)

    by_old : (o : Option How) → end es p ≡ o → IsUnended p o → IsUnended p (option_or o (end_in p e.event))
    by_old None is was = by_new (end_in p e.event) refl
    by_old (Some how) is was = was

module _ (reach : Reach) (Stopped : Branch → Type 0) (c : Client) (of : Name) (before shown now : Past) (bs : List Branch) (row : RanRow reach Stopped c of before shown now bs) where
  abbrev d : Client
  d = with_all c bs

  abbrev keep : Entry → Bool
  keep e = is_own d e.seat

  -- the client that merged the branches has joined the one before
  pub row_joined : HasJoined c before (with_all c bs)
  row_joined = begun_joined c bs before (none_of c of before shown bs row.begun)

  abbrev pub row_later : IsLater (with_all c bs) before now
  row_later = record { newer = row.made.newer; grown = row.made.grown; legal = row.made.legal }

  pub mine_now : mine (with_all c bs) now ≡ mine (with_all c bs) row.made.newer ++ mine (with_all c bs) before
  mine_now = ap (mine d) row.made.grown ∙ filter-append keep row.made.newer before

  pub mine_before : mine (with_all c bs) before ≡ mine c before
  mine_before = joined_mine c d before row_joined

  -- what is so of each entry that stays with a child is so of all that was made since
  pub each_made : (P : Entry → Type 0) → ((e : Entry) (t : Name) → is_child of t ≡ true → stays_in t e ≡ true → P e) → AllByRecursion P (mine (with_all c bs) row.made.newer)
  each_made P step = kept_each (Owner reach Stopped c of before shown now bs row) P keep row.made.newer (λ e o. step e o.try o.is_try.child o.stays) (owners reach Stopped c of before shown now bs row)

  module _ (p : Name) (short : length p ≤ length of) where
    pub row_ready : is_ready (mine (with_all c bs) now) p ≡ is_ready (mine (with_all c bs) before) p
    row_ready =
        ap (λ h. is_ready h p) mine_now
        ∙ ap is_some (earliest-append _ (mine d row.made.newer) (mine d before) ∙ unless_new (earliest (λ e. ready_in p e.event) (mine d before)) _ (none_told (λ e. ready_in p e.event) (mine d row.made.newer) (each_made _ (λ e t child stays. stays_unready of t p child short e stays))))

    pub row_unended : IsUnended p (end (mine (with_all c bs) before) p) → IsUnended p (end (mine (with_all c bs) now) p)
    row_unended was =
        subst (IsUnended p) (sym (ap (λ h. end h p) mine_now ∙ earliest-append _ (mine d row.made.newer) (mine d before)))
        (by_old (end (mine d before) p) was (ended_as_asked p (mine d row.made.newer) (each_made _ (λ e t child stays how is. stays_end of t p child short e how stays is))))
      where
        by_old : (o : Option How) → IsUnended p o → IsUnended p (end (mine d row.made.newer) p) → IsUnended p (option_or o (end (mine d row.made.newer) p))
        by_old None was more = more
        by_old (Some how) was more = was

  row_deeds_above : (p : Name) → length p < length of → deeds (mine d now) p ≡ deeds (mine d before) p
  row_deeds_above p above =
      ap (λ h. deeds h p) mine_now
      ∙ deeds_quiet p (mine d row.made.newer) (mine d before) (each_made _ (λ e t child stays. stays_silent of t p child (omega (arith, above)) above e stays))

  part_short : (p r : Name) → of ≡ p ++ r → length of ≡ length p + length r
  part_short p r is = ap length is ∙ length-append p r

  pub leaves_above : (p r : Name) → of ≡ p ++ r → 0 < length r → LeavesIt (with_all c bs) p before now
  leaves_above p r is far =
      let l = part_short p r is in
      record { deeds = row_deeds_above p (omega (arith, l, far)); ready = row_ready p (omega (arith, l)); unended = row_unended p (omega (arith, l)) }

  module _ (runs : Runs c of before) where
    pub row_inside : AllStayIn d (scope d of) row.made.newer
    row_inside = all_pass (mine d row.made.newer) (each_made (λ e. stays_in (scope d of) e ≡ true) (λ e t child stays. stays_wider (scope d of) t e (λ n low. ancestor_further (scope d of) t n (child_scope d of t child) low) (λ n up.
        let r = rest_of n t (upward_above t n up) in
        subst (λ s. (name.is_ancestor s n ≡ true) ⊎ (is_upward s n ≡ true)) (same_scope d of t runs.below child) (in_or_upward d t n r.0 r.1 (upward_long t n up))) stays))
      where
        all_pass : (es : Past) → AllByRecursion (λ e. stays_in (scope d of) e ≡ true) es → list_all (stays_in (scope d of)) es ≡ true
        all_pass [] all = refl
        all_pass (e ∷ es) all = and_from _ _ all.0 (all_pass es all.1)

    -- it was not ready, and is not
    unready : is_ready (mine d now) of ≡ false
    unready = row_ready of (omega arith) ∙ ap (λ h. is_ready h of) mine_before ∙ (runs.above of [] (sym (append-nil of)) runs.nonroot).1

    pub row_leaves : LeavesAt reach (with_all c bs) of before now
    row_leaves = record {
      later = row_later;
      above = leaves_above;
      inside = row_inside;
      over = by_reach reach;
      turns = λ ours was alone.
          let same = ap (λ h. is_alone h of) (sym mine_before) ∙ alone in (
            row_turns reach Stopped c of before shown now bs row runs ours same (ap (each takes_turn) (sym mine_before) ∙ was),
            row_alone reach Stopped c of before shown now bs row runs ours same,
          );
    }
      where
        by_reach : (r : Reach) → AtTheEnd r ((is_ready (mine d before) of ≡ true → is_over before of ≡ true) → is_ready (mine d now) of ≡ true → is_over now of ≡ true)
        by_reach Reach.to_the_end = λ was ready. absurd (true≢false (sym ready ∙ unready))
        by_reach Reach.cut_off = tt
