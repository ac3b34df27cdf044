-- How what a crash might have left since a moment goes on: from the moment itself, over one run of calls more, and while the history grows.
use Rattle.std.proofs.Common.{◌≡◌, ◌≤◌, inl, inr, ℕ, List, [], ◌∷◌, ◌++◌, map, refl, sym, ap, ◌∙◌, subst, arith, append_assoc, append-nil}
use Rattle.std.specs.Prelude.{◌↔◌, Option, None, Some}
use Rattle.std.specs.Option.{option_map}
use Rattle.std.proofs.lemmas.Bool.{cases_lt}
use Rattle.std.proofs.lemmas.List.{map-append}
use Rattle.qc_disk.specs.Disk.{DiskView, LeavesOnly, Grows, FallsAway}
use Rattle.qc_disk.specs.declared.disk.Disk.{Ghosts}
use Rattle.qc_event.specs.History.{Name, Past}
use Rattle.qc_event.specs.Seats.{ledger_seat}
use Rattle.qc_journal.specs.Image.{HasAt, HasRecords}
use Rattle.qc_journal.specs.Journal.{IsUp, Keeps, disk_of, in_hand}
use Rattle.qc_journal.specs.declared.journal.Journal.{Journal}
use Rattle.qc_journal.specs.declared.journal.State.{State}
use Rattle.qc_journal.specs.declared.journal.State.TheVariants.{Up, Down}
use Rattle.qc_journal.proofs.Moments.{grows_by_falls}
use Rattle.qc_ledger.specs.Entered.{KeepsLogged, pending_by, told_body, tops_of, unsure_by}
use Rattle.qc_ledger.specs.Runs.{Falls, HasOrMore, Leaves, LosesNone}
use Rattle.qc_ledger.specs.Since.{AllLeft, AreTopsBy, GrownSince, HasBehind, IsNext, TopsGrow}
use Rattle.qc_ledger.specs.Shelf.{journal_in, top_in}
use Rattle.qc_ledger.specs.declared.shelf.Shelf.{Shelf}
use Rattle.qc_ledger.proofs.Writing.{kept_has}
use Rattle.qc_desk.specs.Entries.{IsOlder, entries_of}
use Rattle.qc_desk.proofs.Seers.{older_trans}

-- THE LAW OF A RUN

module _ (since : ℕ) (before : List (List ℕ)) where
  -- what may be, may be later
  pub grown_more : (May May' : List (List ℕ) → Type 0) (disk : DiskView) → ((more : List (List ℕ)) → May more → May' more) → GrownSince since before May disk → GrownSince since before May' disk
  grown_more May May' disk on g = record {
    later = g.later;
    each = λ t from last c left. let h = g.each t from last c left in (h.0, on h.0 h.1, h.2);
    within = g.within;
  }

  module _ {D : Type 0} (view : D → DiskView) where
    -- at the moment itself
    pub grown_first : (disk : D) (May : List (List ℕ) → Type 0) → since ≡ (view disk).moment → ((c : List ℕ) → (view disk).left_at (view disk).moment c → HasBehind before May c) → GrownSince since before May (view disk)
    grown_first disk May is here = record {
      later = omega (arith, is);
      each = λ t from last c left. here c (subst (λ n. (view disk).left_at n c) (at_now t from last) left);
      within = λ t u from order last index had all. subst (λ n. AllLeft (view disk) n (HasAt index had)) (at_now t from (omega (arith, order, last)) ∙ sym (at_now u (omega (arith, from, order)) last)) all;
    }
      where
        at_now : (t : ℕ) → since ≤ t → t ≤ (view disk).moment → t ≡ (view disk).moment
        at_now t from last = omega (arith, is, from, last)

    -- over one run of calls more
    pub grown_on : (old new : D) (May P : List (List ℕ) → Type 0) (Q : List ℕ → Type 0) → ((more : List (List ℕ)) → May more → P more) → ((c : List ℕ) → Q c → HasBehind before P c) → LeavesOnly view old new Q
        → ((index : ℕ) (had : List ℕ) → Grows view old new (HasAt index had)) → GrownSince since before May (view old) → GrownSince since before P (view new)
    grown_on old new May P Q on here run grows g = record {
      later = omega (arith, g.later, run.later);
      each = λ t from last c left. elim (cases_lt t (view old).moment) [
        | inl early ↦ let h = g.each t from (omega (arith, early)) c ((run.earlier t c early).0 left) in (h.0, on h.0 h.1, h.2)
        | inr late ↦ here c (run.each t c late last left)
      ];
      within = λ t u from order last index had all. elim (cases_lt t (view old).moment) [
        | inl early ↦ elim (cases_lt u (view old).moment) [
          | inl before ↦ λ c left. g.within t u from order (omega (arith, before)) index had (λ d was. all d ((run.earlier t d early).1 was)) c ((run.earlier u c before).0 left)
          | inr after ↦ (grows index had).from_before u after last (g.within t (view old).moment from (omega (arith, early)) (omega arith) index had (λ d was. all d ((run.earlier t d early).1 was)))
        ]
        | inr late ↦ (grows index had).within t u late order last all
      ];
    }

    -- over calls after which a crash leaves no more than before
    pub grown_falls : (old new : D) (May : List (List ℕ) → Type 0) → ((c : List ℕ) → (view old).left_at (view old).moment c ↔ (view old).may_leave c) → LeavesOnly view old new (view old).may_leave → FallsAway view old new
        → GrownSince since before May (view old) → GrownSince since before May (view new)
    grown_falls old new May now run falls g =
        grown_on old new May May (view old).may_leave (λ more m. m) (λ c left. g.each (view old).moment g.later (omega arith) c ((now c).1 left)) run
        (λ index had. grows_by_falls view old new (HasAt index had) falls) g

-- THE LEDGER

-- the history has grown
pub tops_later : (told : Name → List Name) (past now : Past) (bodies : List (List ℕ)) → IsOlder past now → AreTopsBy told past bodies → AreTopsBy told now bodies
tops_later told past now bodies older are = record {
  earlier = are.earlier;
  older = older_trans are.earlier past now are.older older;
  untold = are.untold;
  next = are.next;
  tops = are.tops;
  these = are.these;
  are = are.are;
}

none_pending : (s : State) → pending_by s None ≡ []
none_pending (Up missing) = refl
none_pending (Down held) = refl

module _ (told : Name → List Name) (before : List (List ℕ)) (past mine : Past) (top : Name) (own : mine ≡ entries_of ledger_seat past) (next : IsNext past top) where
  abbrev told_of : List Name → List (List ℕ)
  told_of tops = map (told_body told) tops

  committed : tops_of mine ≡ tops_of (entries_of ledger_seat past)
  committed = ap tops_of own

  without : AreTopsBy told past (told_of (tops_of mine))
  without = record { earlier = past; older = ([], refl); untold = Some top; next = next; tops = tops_of mine; these = inl committed; are = refl }

  with_top : AreTopsBy told past (told_of (tops_of mine ++ top ∷ []))
  with_top = record { earlier = past; older = ([], refl); untold = Some top; next = next; tops = tops_of mine ++ top ∷ []; these = inr (ap (λ l. l ++ top ∷ []) committed); are = refl }

  one_more : (before ++ told_of (tops_of mine)) ++ told_body told top ∷ [] ≡ before ++ told_of (tops_of mine ++ top ∷ [])
  one_more = append_assoc before (told_of (tops_of mine)) (told_body told top ∷ []) ∙ ap (λ l. before ++ l) (sym (map-append (told_body told) (tops_of mine) (top ∷ [])))

  written_has : (c : List ℕ) → HasOrMore (before ++ told_of (tops_of mine)) (told_body told top) c → HasBehind before (AreTopsBy told past) c
  written_has c (inl these) = (told_of (tops_of mine), without, these)
  written_has c (inr more) = (told_of (tops_of mine ++ top ∷ []), with_top, subst (λ (b : List (List ℕ)). HasRecords b c) one_more more)

  -- a top's record is written that may be committed next
  pub tops_written : {D : Type 0} {g : Ghosts D} (since : ℕ) (old new : Shelf D g) (bytes : List ℕ) → bytes ≡ told_body told top → top_in old ≡ None
      → ((found : List (List ℕ)) → Keeps (journal_in old) found → Leaves (journal_in old) (journal_in new) (HasOrMore found bytes))
      → ((found : List (List ℕ)) → Keeps (journal_in old) found → LosesNone (journal_in old) (journal_in new))
      → KeepsLogged told before old (tops_of mine) → TopsGrow told before since old past → TopsGrow told before since new past
  tops_written {D} {g} since old new bytes is none leaves grows over grown =
      grown_on since before g.view (journal_in old).disk (journal_in new).disk (AreTopsBy told past) (AreTopsBy told past) (HasOrMore found (told_body told top)) (λ more m. m) written_has
      (subst (λ (b : List ℕ). Leaves (journal_in old) (journal_in new) (HasOrMore found b)) is (leaves found keeps)) (grows found keeps) grown
    where
      found : List (List ℕ)
      found = before ++ told_of (tops_of mine)

      keeps : Keeps (journal_in old) found
      keeps = subst (λ l. Keeps (journal_in old) (before ++ told_of l)) (ap (λ h. tops_of mine ++ pending_by (journal_in old).state h) none ∙ ap (λ l. tops_of mine ++ l) (none_pending (journal_in old).state) ∙ append-nil (tops_of mine)) over.keeps

module _ {D : Type 0} {g : Ghosts D} (told : Name → List Name) (before : List (List ℕ)) (since : ℕ) where
  -- more was seen
  pub tops_seen : (shelf : Shelf D g) (past now : Past) → IsOlder past now → TopsGrow told before since shelf past → TopsGrow told before since shelf now
  tops_seen shelf past now older grown = grown_more since before (AreTopsBy told past) (AreTopsBy told now) (g.view (journal_in shelf).disk) (λ bodies are. tops_later told past now bodies older are) grown

  -- a journal that has the records from before it, and no others
  pub tops_first : (shelf : Shelf D g) (past : Past) → since ≡ (g.view (journal_in shelf).disk).moment → IsUp (journal_in shelf) → Keeps (journal_in shelf) before
      → ((c : List ℕ) → (g.view (journal_in shelf).disk).left_at (g.view (journal_in shelf).disk).moment c ↔ (g.view (journal_in shelf).disk).may_leave c) → TopsGrow told before since shelf past
  tops_first shelf past is up keeps now = grown_first since before g.view (journal_in shelf).disk (AreTopsBy told past) is (λ c left. ([], none, subst (λ (b : List (List ℕ)). HasRecords b c) (sym (append-nil before)) (kept_has (journal_in shelf) before c up keeps ((now c).0 left))))
    where
      none : AreTopsBy told past []
      none = record { earlier = []; older = (past, sym (append-nil past)); untold = None; next = tt; tops = []; these = inl refl; are = refl }

-- an open ledger goes on
module _ {D : Type 0} {g : Ghosts D} (told : Name → List Name) (before : List (List ℕ)) (since : ℕ) (old new : Shelf D g) where
  -- over the same journal, with more seen
  pub tops_on : (past now : Past) → journal_in new ≡ journal_in old → IsOlder past now → TopsGrow told before since old past → TopsGrow told before since new now
  tops_on past now same older grown = tops_seen told before since new past now older (subst (λ (j : Journal D g). GrownSince since before (AreTopsBy told past) (g.view j.disk)) (sym same) grown)

  -- brought up, and then over the same journal
  pub tops_risen : (mid : Shelf D g) (past now : Past) → ((c : List ℕ) → (g.view (disk_of (journal_in old))).left_at (g.view (disk_of (journal_in old))).moment c ↔ (g.view (disk_of (journal_in old))).may_leave c)
      → Leaves (journal_in old) (journal_in mid) (g.view (disk_of (journal_in old))).may_leave → Falls (journal_in old) (journal_in mid) → journal_in new ≡ journal_in mid → IsOlder past now
      → TopsGrow told before since old past → TopsGrow told before since new now
  tops_risen mid past now law run falls same older grown = tops_seen told before since new past now older (subst (λ (j : Journal D g). GrownSince since before (AreTopsBy told past) (g.view j.disk)) (sym same)
      (grown_falls since before g.view (disk_of (journal_in old)) (disk_of (journal_in mid)) (AreTopsBy told past) law run falls grown))

  -- what is kept over the same journal, with the same top in hand
  pub over_same : (tops tops' : List Name) → journal_in new ≡ journal_in old → top_in new ≡ top_in old → tops' ≡ tops → KeepsLogged told before old tops → KeepsLogged told before new tops'
  over_same tops tops' same hand is over = record {
    keeps = subst (λ (p : Journal D g × (Option Name × List Name)). Keeps p.0 (before ++ map (told_body told) (p.1.1 ++ pending_by p.0.state p.1.0))) (λ i. (sym same i, (sym hand i, sym is i))) over.keeps;
    hand = subst (λ (p : Journal D g × Option Name). in_hand p.0 ≡ option_map (told_body told) (unsure_by p.0.state p.1)) (λ i. (sym same i, sym hand i)) over.hand;
  }
