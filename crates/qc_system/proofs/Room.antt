-- With its record, each top that the ledger was unable to log for want of room would have passed the journal's limit.
use Rattle.std.proofs.Common.{◌≡◌, inl, inr, ℕ, ◌+◌, ◌^◌, ◌≤◌, ◌<◌, Bool, true, false, cond, List, [], ◌∷◌, ◌++◌, ◌==◌, length, map, refl, sym, ap, ◌∙◌, subst, arith, append-nil}
use mathlib.Core.Bool.{true≢false}
use Rattle.std.specs.Prelude.{Option, None, Some, MatchOption, Result, Ok, Err, IfErr, OnOk, if◌then◌else◌}
use Rattle.std.specs.List.{AllByRecursion}
use Rattle.std.specs.Option.{option_map_or}
use Rattle.std.proofs.Math.Logic.{∥∥₁_elim, ∥∥₁_map}
use Rattle.std.proofs.lemmas.Bool.{cases_lt, or_cases, or_left, or_right}
use Rattle.qc_disk.specs.Disk.{IsImage}
use Rattle.qc_disk.specs.declared.disk.Disk.{Ghosts}
use Rattle.qc_event.specs.declared.event.Event.{Event}
use Rattle.qc_event.specs.declared.event.Event.TheVariants as event
use Rattle.qc_event.specs.declared.event.Why.{Why}
use Rattle.qc_event.specs.declared.event.Why.TheVariants as why
use Rattle.qc_event.specs.Base.{Setting}
use Rattle.qc_event.specs.History.{Asked, Name, Past, asked, is_ready, ready_in, same}
use Rattle.qc_event.specs.Legal.{Legal, MayHappen}
use Rattle.qc_event.specs.Listed.{listed}
use Rattle.qc_event.specs.Requests.{MayBeUnable, is_why, unable_in, was_unable}
use Rattle.qc_event.specs.Seats.{copy_seat, ledger_seat}
use Rattle.qc_event.proofs.Absent.{same_is, same_itself}
use Rattle.qc_event.proofs.StillTold.{some_stays}
use Rattle.qc_journal.specs.Image.{row}
use Rattle.qc_journal.specs.Journal.{IsTooLong, IsUp, Keeps, disk_of, place_of}
use Rattle.qc_journal.specs.State.{IsUpState}
use Rattle.qc_journal.specs.declared.journal.Journal.{Journal}
use Rattle.qc_journal.specs.declared.journal.State.{State}
use Rattle.qc_journal.specs.declared.journal.State.TheVariants as state
use Rattle.qc_journal.proofs.Appends.{ends_up}
use Rattle.qc_ledger.specs.Entered.{CommitsHand, EntersTop, KeepsLogged, RefusalEnters, commits_of, pending_by, told_body, tops_of}
use Rattle.qc_ledger.specs.Shelf.{IsIdle, journal_in, top_body, top_in}
use Rattle.qc_ledger.specs.declared.fault.LedgerNo.{LedgerNo}
use Rattle.qc_ledger.specs.declared.fault.LedgerNo.TheVariants as no
use Rattle.qc_ledger.specs.declared.shelf.Shelf.{Shelf}
use Rattle.qc_desk.specs.Entries.{IsOlder, entries_of}
use Rattle.qc_system.specs.Kept.{HadNoRoom, HadNoRoomFor}
use Rattle.qc_desk.proofs.Listed.{listed_stays}
use Rattle.qc_system.proofs.Listed.{agree, same_bodies, tops_ready}

-- TOO LONG A BODY

-- it is too long where it cannot be that it is not
pub too_long_by : (place most : ℕ) (body : List ℕ) → ((IsTooLong place most body → ⊥) → ⊥) → IsTooLong place most body
too_long_by place most body never = elim (cases_lt most (place + 6 + length body)) [
  | inl passes ↦ inl passes
  | inr fits ↦ elim (cases_lt (length body) (2 ^ 32)) [ inl short ↦ absurd (never (neither fits short)) | inr many ↦ inr many ]
]
  where
    neither : place + 6 + length body ≤ most → length body < 2 ^ 32 → IsTooLong place most body → ⊥
    neither fits short (inl passes) = omega (arith, fits, passes)
    neither fits short (inr many) = omega (arith, short, many)

-- WHERE A RECORD GOES

-- where a journal that is up tells its bytes, its next record goes behind those that it keeps
pub place_is : {D : Type 0} {g : Ghosts D} (journal : Journal D g) (bodies : List (List ℕ)) → Keeps journal bodies → IsUp journal → IsImage (g.view (disk_of journal)).content (g.view (disk_of journal)).may_leave
    → place_of journal ≡ length (row bodies)
place_is {D} {g} journal bodies k up here =
    let left : (g.view (disk_of journal)).may_leave k.bytes = subst (λ o. IsImage o (g.view (disk_of journal)).may_leave) k.told here in
    (ends_up (place_of journal) bodies journal.state k.bytes up (k.each k.bytes left)).size

none_pending : (s : State) (hand : Option Name) → IsUpState s → hand ≡ None → pending_by s hand ≡ []
none_pending (state.Up missing) hand up none = ap (pending_by (state.Up missing)) none
none_pending (state.Down held) hand up none = absurd up

-- an idle ledger's goes behind those from before and those of the tops that it committed
pub idle_place : {D : Type 0} {g : Ghosts D} (shelf : Shelf D g) (at : ℕ) (told : Name → List Name) (before : List (List ℕ)) (tops : List Name) → IsIdle shelf at → KeepsLogged told before shelf tops
    → IsImage (g.view (disk_of (journal_in shelf))).content (g.view (disk_of (journal_in shelf))).may_leave → at ≡ length (row (before ++ map (told_body told) tops))
idle_place shelf at told before tops idle k here =
    let none = ap (λ ts. tops ++ ts) (none_pending (journal_in shelf).state (top_in shelf) idle.up idle.none) ∙ append-nil tops in
    sym idle.at ∙ place_is (journal_in shelf) _ k.keeps idle.up here ∙ ap (λ ts. length (row (before ++ map (told_body told) ts))) none

-- WHO WAS UNABLE

-- whether an entry says so of a name
abbrev says : Name → Why → Event → Bool
says n w e = option_map_or (is_why w) (unable_in n e) false

module _ (setting : Setting) (past : Past) (n : Name) (w : Why) where
  no_copy : (o : Option Asked) → MatchOption o ⊥ (λ a. ledger_seat ≡ copy_seat a.ask.copy) → ⊥
  no_copy None there = there
  no_copy (Some a) there = omega (arith, there)

  by_ledger : (m : Name) (other : Why) → MayBeUnable past ledger_seat m other → is_ready past m ≡ true
  by_ledger m other (inl copy) = absurd (no_copy (asked past m) copy.asked_there)
  by_ledger m other (inr ledger) = ledger.ready

  told_ready : (e : Event) → MayHappen setting past ledger_seat e → says n w e ≡ true → is_ready past n ≡ true
  told_ready (event.Unable m other) may told = by_test (same m n) refl told
    where
      by_test : (b : Bool) → same m n ≡ b → option_map_or (is_why w) (if b then Some other else None) false ≡ true → is_ready past n ≡ true
      by_test true is h = subst (λ x. is_ready past x ≡ true) (same_is m n is) (by_ledger m other may)
      by_test false is h = absurd (true≢false (sym h))
  told_ready _ may told = absurd (true≢false (sym told))

-- what the ledger was unable to log was ready
unable_ready : (setting : Setting) (past : Past) (n : Name) (w : Why) → Legal setting past → was_unable (entries_of ledger_seat past) n w ≡ true → is_ready past n ≡ true
unable_ready setting [] n w legal told = absurd (true≢false (sym told))
unable_ready setting (e ∷ past) n w legal told = some_stays (λ x. ready_in n x.event) (e ∷ []) past (by_seat (unable_ready setting past n w legal.0) (e.seat == ledger_seat) refl told)
  where
    by_seat : (was_unable (entries_of ledger_seat past) n w ≡ true → is_ready past n ≡ true) → (b : Bool) → (e.seat == ledger_seat) ≡ b
        → was_unable (cond b (e ∷ entries_of ledger_seat past) (entries_of ledger_seat past)) n w ≡ true → is_ready past n ≡ true
    by_seat before false is h = before h
    by_seat before true is h =
        let here : e.seat ≡ ledger_seat = grind (arith, is) in
        elim (or_cases (says n w e.event) (was_unable (entries_of ledger_seat past) n w) h) [
          | inl this ↦ told_ready setting past n w e.event (subst (λ s. MayHappen setting past s e.event) here legal.1) this
          | inr rest ↦ before rest
        ]

-- WANT OF ROOM

module _ (told : Name → List Name) (before : List (List ℕ)) (most : ℕ) where
  abbrev Had : Past → Type 0
  Had own = HadNoRoom told before most own

  -- where the record of this top goes behind those of entries
  abbrev place : Past → ℕ
  place own = length (row (before ++ map (told_body told) (tops_of own)))

  after_hand : (hand : Option Name) (old now : Past) → CommitsHand hand old now → Had old → Had now
  after_hand hand old now (inl is) had = subst Had (sym is) had
  after_hand hand old now (inr is) had = subst Had (sym is) (by_hand hand)
    where
      by_hand : (o : Option Name) → Had (commits_of o ++ old)
      by_hand None = had
      by_hand (Some t) = (tt, had)

  module _ (hand : Option Name) (top : Name) (old new : Past) (had : Had old) where
    refusal_room : (r : LedgerNo) → RefusalEnters r hand top old new → ((at : ℕ) → r ≡ no.Full at → IsTooLong (place new) most (told_body told top)) → Had new
    refusal_room no.Disk enters long = subst Had (sym enters.all) (tt, after_hand hand old enters.mid enters.first_of_all had)
    refusal_room (no.Image bad) enters long = absurd enters
    refusal_room (no.Full at) enters long =
        let same : place new ≡ place enters.mid = ap (λ p. length (row (before ++ map (told_body told) p))) (ap tops_of enters.all ∙ append-nil (tops_of enters.mid)) in
        subst Had (sym enters.all) (subst (λ n. IsTooLong n most (told_body told top)) same (long at refl), after_hand hand old enters.mid enters.first_of_all had)
    refusal_room (no.Short want) enters long = after_hand hand old new enters had

    pub log_room : (r : Result (Unit {0}) LedgerNo) → OnOk r (EntersTop hand top old new) → IfErr r (λ refusal. RefusalEnters refusal hand top old new) → ((at : ℕ) → r ≡ Err (no.Full at) → IsTooLong (place new) most (told_body told top)) → Had new
    log_room (Ok x) (inl enters) err long = after_hand hand old new enters had
    log_room (Ok x) (inr enters) err long = subst Had (sym enters.all) (tt, after_hand hand old enters.mid enters.first_of_all had)
    log_room (Err r) ok err long = refusal_room r err (λ at is. long at (ap Err is))

  -- it is so where it cannot be that it is not
  pub no_room_by : (own : Past) → ∥ Had own ∥₁ → Had own
  no_room_by [] had = tt
  no_room_by (e ∷ own) had = (this e.event (∥∥₁_map had (λ h. h.0)), no_room_by own (∥∥₁_map had (λ h. h.1)))
    where
      this : (ev : Event) → ∥ HadNoRoomFor told before most own ev ∥₁ → HadNoRoomFor told before most own ev
      this (event.Unable top why.Full) h = too_long_by (place own) most (told_body told top) (λ fits. ∥∥₁_elim h (hlevel) fits)
      this _ h = tt

-- with what is listed later
module _ (f g : Name → List Name) (before : List (List ℕ)) (most : ℕ) where
  front : (P : Name → Type 0) (a b : List Name) → AllByRecursion P (a ++ b) → AllByRecursion P a
  front P [] b all = tt
  front P (t ∷ a) b all = (all.0, front P a b all.1)

  retold : (own : Past) → AllByRecursion (λ t. f t ≡ g t) (tops_of own) → ((n : Name) → was_unable own n why.Full ≡ true → f n ≡ g n) → HadNoRoom f before most own → HadNoRoom g before most own
  retold [] agree unable had = tt
  retold (e ∷ own) agree unable had = (this e.event (λ n h. unable n (or_left _ _ h)) had.0, retold own tops (λ n h. unable n (or_right _ _ h)) had.1)
    where
      tops : AllByRecursion (λ t. f t ≡ g t) (tops_of own)
      tops = front (λ t. f t ≡ g t) (tops_of own) _ agree

      this : (ev : Event) → ((n : Name) → says n why.Full ev ≡ true → f n ≡ g n) → HadNoRoomFor f before most own ev → HadNoRoomFor g before most own ev
      this (event.Unable top why.Full) same long =
          let here = same top (ap (λ b. option_map_or (is_why why.Full) (if b then Some why.Full else None) false) (same_itself top)) in
          subst (λ bodies. IsTooLong (length (row (before ++ bodies))) most (told_body g top)) (same_bodies f g (tops_of own) tops)
          (subst (λ l. IsTooLong (length (row (before ++ map (told_body f) (tops_of own)))) most (top_body top l)) here long)
      this _ same long = tt

pub room_retold : (setting : Setting) (seen now : Past) → IsOlder seen now → Legal setting now → Legal setting seen → (before : List (List ℕ)) (most : ℕ) → HadNoRoom (listed seen) before most (entries_of ledger_seat seen)
    → HadNoRoom (listed now) before most (entries_of ledger_seat seen)
room_retold setting seen now older legal was before most had =
    retold (listed seen) (listed now) before most (entries_of ledger_seat seen) (agree setting seen now older legal _ (tops_ready setting ledger_seat seen was))
    (λ n h. sym (listed_stays setting seen now n older legal (unable_ready setting seen n why.Full was h))) had
