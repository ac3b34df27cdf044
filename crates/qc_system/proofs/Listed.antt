-- What is listed of a ready top stays, and with it what the ledger's disk keeps.
use Rattle.std.proofs.Common.{◌≡◌, inl, inr, ℕ, Bool, true, false, List, [], ◌∷◌, ◌++◌, ◌==◌, refl, sym, ap, ap₂, ◌∙◌, subst, cond}
use Rattle.std.specs.Prelude.{map, IfSome, Option, None, Some, option_to_list}
use Rattle.std.specs.List.{AllByRecursion}
use Rattle.std.specs.Option.{option_map}
use Rattle.qc_codec.specs.Ledger as records
use Rattle.qc_disk.specs.declared.disk.Disk.{Ghosts}
use Rattle.qc_event.specs.declared.event.Event.{Event}
use Rattle.qc_event.specs.declared.event.Event.TheVariants as event
use Rattle.qc_event.specs.declared.event.How.TheVariants.{Commit, Abort}
use Rattle.qc_event.specs.Base.{Setting}
use Rattle.qc_event.specs.History.{Past, Name, is_ready, ready_in}
use Rattle.qc_event.specs.Legal.{Legal, MayHappen}
use Rattle.qc_event.specs.Listed.{listed}
use Rattle.qc_event.specs.Seats.{ledger_seat}
use Rattle.qc_event.proofs.StillTold.{some_stays}
use Rattle.qc_ledger.specs.Entered.{KeepsLogged, MayFinish, pending_by, told_body, tops_of, unsure_by}
use Rattle.qc_ledger.specs.Shelf.{journal_in, top_body, top_in}
use Rattle.qc_ledger.specs.declared.shelf.Shelf.{Shelf}
use Rattle.qc_journal.specs.Journal.{Keeps}
use Rattle.qc_journal.specs.declared.journal.State.{State}
use Rattle.qc_journal.specs.declared.journal.State.TheVariants as state
use Rattle.qc_desk.specs.Entries.{IsOlder, entries_of}
use Rattle.qc_desk.specs.declared.view.View.{View}
use Rattle.qc_desk.proofs.Finishing.{commit_ready}
use Rattle.qc_desk.proofs.Listed.{listed_stays}
use Rattle.qc_desk.proofs.Seers.{older_trans}
use Rattle.qc_event.proofs.Later.{earlier_legal}
use Rattle.qc_ledger.specs.Since.{AreTopsBy, IsNext, OrMore}
use Rattle.qc_ledger.proofs.Since.{tops_later}

-- THE TOPS THAT A PASS COMMITTED

all_append : (P : Name → Type 0) (a b : List Name) → AllByRecursion P a → AllByRecursion P b → AllByRecursion P (a ++ b)
all_append P [] b pa pb = pb
all_append P (t ∷ a) b pa pb = (pa.0, all_append P a b pa.1 pb)

all_on : (P Q : Name → Type 0) (ts : List Name) → ((t : Name) → P t → Q t) → AllByRecursion P ts → AllByRecursion Q ts
all_on P Q [] on p = tt
all_on P Q (t ∷ ts) on p = (on t p.0, all_on P Q ts on p.1)

-- what agrees on tops tells the same records of them
pub same_bodies : (f g : Name → List Name) (ts : List Name) → AllByRecursion (λ t. f t ≡ g t) ts → map (told_body f) ts ≡ map (told_body g) ts
same_bodies f g [] agree = refl
same_bodies f g (t ∷ ts) agree = ap₂ (λ (l : List Name) rest. top_body t l ∷ rest) agree.0 (same_bodies f g ts agree.1)

-- the tops that entries under a number commit were seen to be ready
pub tops_ready : (setting : Setting) (n : ℕ) (past : Past) → Legal setting past → AllByRecursion (λ t. is_ready past t ≡ true) (tops_of (entries_of n past))
tops_ready setting n [] legal = tt
tops_ready setting n (e ∷ past) legal = by_seat (e.seat == n) (on (tops_of (entries_of n past)) (tops_ready setting n past legal.0))
  where
    on : (ts : List Name) → AllByRecursion (λ t. is_ready past t ≡ true) ts → AllByRecursion (λ t. is_ready (e ∷ past) t ≡ true) ts
    on ts = all_on (λ t. is_ready past t ≡ true) (λ t. is_ready (e ∷ past) t ≡ true) ts (λ t h. some_stays (λ x. ready_in t x.event) (e ∷ []) past h)

    this : (ev : Event) → MayHappen setting past e.seat ev → AllByRecursion (λ t. is_ready past t ≡ true) (option_to_list (records.top_in ev))
    this (event.End (number ∷ []) (Commit given)) may = (commit_ready setting past e.seat number given legal.0 may, tt)
    this (event.End [] how) may = tt
    this (event.End (number ∷ []) (Abort cause)) may = tt
    this (event.End (number ∷ m ∷ name) how) may = tt
    this _ may = tt

    by_seat : (b : Bool) → AllByRecursion (λ t. is_ready (e ∷ past) t ≡ true) (tops_of (entries_of n past)) → AllByRecursion (λ t. is_ready (e ∷ past) t ≡ true) (tops_of (cond b (e ∷ entries_of n past) (entries_of n past)))
    by_seat false before = before
    by_seat true before = all_append (λ t. is_ready (e ∷ past) t ≡ true) (tops_of (entries_of n past)) (option_to_list (records.top_in e.event)) before (on (option_to_list (records.top_in e.event)) (this e.event legal.1))

-- WHAT THE DISK KEEPS

module _ (setting : Setting) (before now : Past) (older : IsOlder before now) (legal : Legal setting now) where
  pub agree : (ts : List Name) → AllByRecursion (λ t. is_ready before t ≡ true) ts → AllByRecursion (λ t. listed before t ≡ listed now t) ts
  agree ts = all_on (λ t. is_ready before t ≡ true) (λ t. listed before t ≡ listed now t) ts (λ t ready. sym (listed_stays setting before now t older legal ready))

  pending_ready : (s : State) (hand : Option Name) → ((t : Name) → hand ≡ Some t → is_ready before t ≡ true) → AllByRecursion (λ t. is_ready before t ≡ true) (pending_by s hand)
  pending_ready (state.Up missing) None ready = tt
  pending_ready (state.Up missing) (Some t) ready = (ready t refl, tt)
  pending_ready (state.Down held) hand ready = tt

  unsure_same : (s : State) (hand : Option Name) → ((t : Name) → hand ≡ Some t → is_ready before t ≡ true) → option_map (told_body (listed before)) (unsure_by s hand) ≡ option_map (told_body (listed now)) (unsure_by s hand)
  unsure_same (state.Up missing) hand ready = refl
  unsure_same (state.Down held) None ready = refl
  unsure_same (state.Down held) (Some t) ready = ap (λ (l : List Name). Some (top_body t l)) (sym (listed_stays setting before now t older legal (ready t refl)))

  -- what is listed at first is listed later
  pub over_later : {D : Type 0} {g : Ghosts D} (bodies : List (List ℕ)) (shelf : Shelf D g) (n : ℕ) → Legal setting before → ((t : Name) → top_in shelf ≡ Some t → is_ready before t ≡ true)
      → KeepsLogged (listed before) bodies shelf (tops_of (entries_of n before)) → KeepsLogged (listed now) bodies shelf (tops_of (entries_of n before))
  over_later {D} {g} bodies shelf n was ready over = record {
    keeps = subst (λ bs. Keeps (journal_in shelf) (bodies ++ bs)) (same_bodies (listed before) (listed now) tops (agree tops all)) over.keeps;
    hand = over.hand ∙ unsure_same (journal_in shelf).state (top_in shelf) ready;
  }
    where
      tops : List Name
      tops = tops_of (entries_of n before) ++ pending_by (journal_in shelf).state (top_in shelf)

      all : AllByRecursion (λ t. is_ready before t ≡ true) tops
      all = all_append (λ t. is_ready before t ≡ true) (tops_of (entries_of n before)) (pending_by (journal_in shelf).state (top_in shelf)) (tops_ready setting n before was) (pending_ready (journal_in shelf).state (top_in shelf) ready)

-- the tops that a disk has records of are listed the same
pub same_listed : (setting : Setting) (before now : Past) → IsOlder before now → Legal setting now → Legal setting before → (n : ℕ) (untold : Option Name) → IfSome untold (IsNext before)
    → (tops : List Name) → OrMore (tops_of (entries_of n before)) untold tops → map (told_body (listed before)) tops ≡ map (told_body (listed now)) tops
same_listed setting before now older legal was n untold next tops these = same_bodies (listed before) (listed now) tops (agree setting before now older legal tops (all_ready these))
  where
    IsReady : Name → Type 0
    IsReady t = is_ready before t ≡ true

    committed : AllByRecursion IsReady (tops_of (entries_of n before))
    committed = tops_ready setting n before was

    more : (o : Option Name) → IfSome o (IsNext before) → AllByRecursion IsReady (option_to_list o)
    more None h = tt
    more (Some t) h = (h.ready, tt)

    all_ready : OrMore (tops_of (entries_of n before)) untold tops → AllByRecursion IsReady tops
    all_ready (inl is) = subst (AllByRecursion IsReady) (sym is) committed
    all_ready (inr is) = subst (AllByRecursion IsReady) (sym is) (all_append IsReady (tops_of (entries_of n before)) (option_to_list untold) committed (more untold next))

-- a pass has seen more, and the disk keeps its tops as they are listed then
pub over_seen : {D : Type 0} {g : Ghosts D} (setting : Setting) (old : View) (now : Past) (bodies : List (List ℕ)) (shelf : Shelf D g) → IsOlder old.seen now → Legal setting now → Legal setting old.seen → old.mine ≡ entries_of ledger_seat old.seen
    → ((top : Name) → top_in shelf ≡ Some top → MayFinish old top) → KeepsLogged (listed old.seen) bodies shelf (tops_of old.mine) → KeepsLogged (listed now) bodies shelf (tops_of old.mine)
over_seen setting old now bodies shelf older legal was own may over = subst (λ p. KeepsLogged (listed now) bodies shelf (tops_of p)) (sym own)
    (over_later setting old.seen now older legal bodies shelf ledger_seat was (λ t is. (may t is).ready) (subst (λ p. KeepsLogged (listed old.seen) bodies shelf (tops_of p)) own over))

-- the records of tops up to then are listed the same later
module _ (setting : Setting) (seen now : Past) (older : IsOlder seen now) (legal : Legal setting now) (was : Legal setting seen) (bodies : List (List ℕ)) where
  pub tops_retold : AreTopsBy (listed seen) seen bodies → AreTopsBy (listed now) seen bodies
  tops_retold are =
      let then : Legal setting are.earlier = earlier_legal setting are.older.0 are.earlier (subst (Legal setting) are.older.1 was) in
      let first = same_listed setting are.earlier seen are.older was then ledger_seat are.untold are.next are.tops are.these in
      let last = same_listed setting are.earlier now (older_trans are.earlier seen now are.older older) legal then ledger_seat are.untold are.next are.tops are.these in
      record {
        earlier = are.earlier;
        older = are.older;
        untold = are.untold;
        next = are.next;
        tops = are.tops;
        these = are.these;
        are = are.are ∙ (sym first ∙ last);
      }

  pub tops_told_later : AreTopsBy (listed seen) seen bodies → AreTopsBy (listed now) now bodies
  tops_told_later are = tops_later (listed now) seen now bodies older (tops_retold are)
