-- Whose start of a name it is, in a legal history and among some of its entries.
use Rattle.std.proofs.Common.{◌≡◌, inl, inr, ℕ, Bool, true, false, [], ◌∷◌, ◌++◌, refl, sym, ap, ◌∙◌, subst, filter}
use mathlib.Core.Bool.{true≢false}
use Rattle.std.specs.Prelude.{Option, None, Some, is_some, MatchOption, if◌then◌else◌, option_to_list}
use Rattle.std.specs.List.{AllByRecursion, list_all}
use Rattle.std.specs.Option.{option_or}
use Rattle.std.proofs.lemmas.Bool.{and_parts, and_from}
use Rattle.std.proofs.lemmas.List.Folds.{list_all-append}
use Rattle.qc_event.specs.Base.{Setting}
use Rattle.qc_event.specs.declared.event.Cause.TheVariants as cause
use Rattle.qc_event.specs.declared.event.Entry.{Entry}
use Rattle.qc_event.specs.declared.event.Event.{Event}
use Rattle.qc_event.specs.declared.event.Event.TheVariants as event
use Rattle.qc_event.specs.declared.event.How.TheVariants.{Abort}
use Rattle.qc_event.specs.declared.event.Kind.{Kind}
use Rattle.qc_event.specs.declared.event.Kind.TheVariants as kind
use Rattle.qc_event.specs.History.{Past, Name, Begun, every, start, start_in}
use Rattle.qc_event.specs.Legal.{Legal, MayHappen, MayEnd}
use Rattle.qc_event.specs.Standing.{Started, IsUser}
use Rattle.qc_event.proofs.LegalOrderly.{legal_orderly}
use Rattle.qc_event.proofs.Lawful.{ends_open, started_some}
use Rattle.qc_event.proofs.OneEntry.{first_is, starting, start_now, start_stays}
use Rattle.qc_event.proofs.Orderly.{KeepsOrder, BecomesReady}
use Rattle.qc_names.specs.Name as name
use Rattle.qc_script.specs.Client.{Client, mine, is_own, about}
use Rattle.qc_interp.proofs.Scopes.Seats.{own_start}
use Rattle.qc_interp.proofs.Scopes.Starts.{start_fresh, start_seat}

-- AMONG SOME ENTRIES

-- a start stands under the seat of one of the entries
pub start_from : (P : ℕ → Type 0) (past : Past) (n : Name) (b : Begun) → AllByRecursion (λ (e : Entry). P e.seat) past → start past n ≡ Some b → P b.seat
start_from P [] n b all is = absurd cc
start_from P (e ∷ past) n b all is = elim (first_is (start past n) (start_in n e.seat e.event) b is) [
  | inl old ↦ start_from P past n b all.1 old
  | inr new ↦ subst P (start_seat n e.seat e.event b new.1) all.0
]

-- the start that stands among some entries of a legal history is the only one
pub kept_start : (keep : Entry → Bool) (setting : Setting) (past : Past) (n : Name) (b : Begun) → Legal setting past → start (filter keep past) n ≡ Some b → start past n ≡ Some b
kept_start keep setting [] n b legal is = absurd cc
kept_start keep setting (e ∷ past) n b legal is = by_test (keep e) (kept_start keep setting past n b legal.0) is
  where
    stays : start past n ≡ Some b → start (e ∷ past) n ≡ Some b
    stays at = ap (λ o. option_or o (start_in n e.seat e.event)) at

    by_test : (x : Bool) → (start (filter keep past) n ≡ Some b → start past n ≡ Some b) → start (if x then e ∷ filter keep past else filter keep past) n ≡ Some b → start (e ∷ past) n ≡ Some b
    by_test false before is = stays (before is)
    by_test true before is = elim (first_is (start (filter keep past) n) (start_in n e.seat e.event) b is) [
      | inl old ↦ stays (before old)
      | inr new ↦
          let s = starting n e.seat e.event (ap is_some new.1) in
          ap (λ o. option_or o (start_in n e.seat e.event)) (start_fresh setting past e n s.0 legal s.1) ∙ new.1
    ]

-- what a client made stands under its seats
pub own_made : (c : Client) (past : Past) → AllByRecursion (λ (e : Entry). is_own c e.seat ≡ true) (mine c past)
own_made c [] = tt
own_made c (e ∷ past) = by_test (is_own c e.seat) refl (own_made c past)
  where
    by_test : (x : Bool) → is_own c e.seat ≡ x → AllByRecursion (λ (y : Entry). is_own c y.seat ≡ true) (mine c past) → AllByRecursion (λ (y : Entry). is_own c y.seat ≡ true) (if x then e ∷ mine c past else mine c past)
    by_test true is more = (is, more)
    by_test false is more = more

pub start_owned : (c : Client) (past : Past) (n : Name) (b : Begun) → start (mine c past) n ≡ Some b → is_own c b.seat ≡ true
start_owned c past n b is = start_from (λ seat. is_own c seat ≡ true) (mine c past) n b (own_made c past) is

-- what one client started, another started that owns more seats
pub start_wider : (c d : Client) (setting : Setting) (past : Past) (n : Name) (b : Begun) → ((seat : ℕ) → is_own c seat ≡ true → is_own d seat ≡ true) → Legal setting past → start (mine c past) n ≡ Some b → start (mine d past) n ≡ Some b
start_wider c d setting past n b wider legal is =
    own_start d past n b (kept_start (λ (e : Entry). is_own c e.seat) setting past n b legal is) (wider b.seat (start_owned c past n b is))

-- WHOM AN ENTRY IS ABOUT

-- that one was started
pub about_started : (setting : Setting) (past : Past) (e : Entry) (n : Name) → Legal setting (e ∷ past) → about e.event ≡ Some n → is_some (start (e ∷ past) n) ≡ true
about_started setting past e n legal is = by_event e.event refl is
  where
    keeps : KeepsOrder past e.event
    keeps = (legal_orderly setting (e ∷ past) legal).1

    old : (m : Name) → Some m ≡ Some n → is_some (start past m) ≡ true → is_some (start (e ∷ past) n) ≡ true
    old m is some = let same : m ≡ n = cc in start_stays e past n (ap (λ x. is_some (start past x)) (sym same) ∙ some)

    by_event : (ev : Event) → e.event ≡ ev → about ev ≡ Some n → is_some (start (e ∷ past) n) ≡ true
    by_event (event.Start m k) at is = let same : m ≡ n = cc in start_now e past n (k, at ∙ ap (λ x. event.Start x k) same)
    by_event (event.Ready m) at is = let may : BecomesReady past m = subst (KeepsOrder past) at keeps in old m is may.is_open.started
    by_event (event.End m how) at is = old m is (ends_open past e m how at keeps).started
    by_event (event.Mark m session) at is =
        let may : MayHappen setting past e.seat (event.Mark m session) = subst (MayHappen setting past e.seat) at legal.1 in
        old m is (started_some (λ b. IsUser b.kind) (start past m) may.by_user)
    by_event (event.Ask ask) at is = absurd cc
    by_event (event.Gone m why) at is = absurd cc
    by_event (event.Granted copy grant) at is = absurd cc
    by_event (event.Refused m copy refusal) at is = absurd cc
    by_event (event.Unable m why) at is = absurd cc

abbrev pub AreStarted : Past → Past → Type 0
AreStarted past es = AllByRecursion (λ (e : Entry). (n : Name) → about e.event ≡ Some n → is_some (start past n) ≡ true) es

pub all_started : (setting : Setting) (past : Past) → Legal setting past → AreStarted past past
all_started setting [] legal = tt
all_started setting (e ∷ past) legal = (λ n is. about_started setting past e n legal is, later past (all_started setting past legal.0))
  where
    later : (es : Past) → AreStarted past es → AreStarted (e ∷ past) es
    later [] all = tt
    later (x ∷ es) all = (λ n is. start_stays e past n (all.0 n is), later es all.1)

-- WHO ACTS

-- one who asked for an abort of another was started, and is at or below that one
pub asker : (setting : Setting) (past : Past) (e : Entry) (n by : Name) → Legal setting (e ∷ past) → e.event ≡ event.End n (Abort (cause.Asked by)) → (is_some (start past by) ≡ true) × (name.is_ancestor n by ≡ true)
asker setting past e n by legal is =
    let may : Started past n (MayEnd setting past e.seat n (Abort (cause.Asked by))) = subst (MayHappen setting past e.seat) is legal.1 in
    by_start (start past n) may
  where
    by_kind : (b : Begun) (k : Kind) → Rattle.qc_event.specs.Aborts.Licensed setting past e.seat n b k (cause.Asked by) → (is_some (start past by) ≡ true) × (name.is_ancestor n by ≡ true)
    by_kind b (kind.User session body) may = (started_some (λ x. IsUser x.kind) (start past by) may.0, may.1)
    by_kind b (kind.Read rec) may = absurd may.0
    by_kind b (kind.Write rec value) may = absurd may.0
    by_kind b (kind.Reconf rec config) may = absurd may.0
    by_kind b kind.Access may = absurd may.0

    by_start : (o : Option Begun) → MatchOption o ⊥ (MayEnd setting past e.seat n (Abort (cause.Asked by))) → (is_some (start past by) ≡ true) × (name.is_ancestor n by ≡ true)
    by_start None may = absurd may
    by_start (Some b) may = by_kind b b.kind may.licensed

-- OF EACH ANSWER

-- what passes of each answer that is kept passes of it
pub every_at : {Y : Type 0} (passes : Y → Bool) (f : Entry → Option Y) (keep : Entry → Bool) (past : Past) → list_all passes (every f (filter keep past)) ≡ true → AllByRecursion (λ e. keep e ≡ true → (y : Y) → f e ≡ Some y → passes y ≡ true) past
every_at passes f keep [] all = tt
every_at {Y = Y} passes f keep (e ∷ past) all = by_test (keep e) all (every_at passes f keep past)
  where
    by_test : (x : Bool) → list_all passes (every f (if x then e ∷ filter keep past else filter keep past)) ≡ true → (list_all passes (every f (filter keep past)) ≡ true → AllByRecursion (λ z. keep z ≡ true → (y : Y) → f z ≡ Some y → passes y ≡ true) past)
        → (x ≡ true → (y : Y) → f e ≡ Some y → passes y ≡ true) × AllByRecursion (λ z. keep z ≡ true → (y : Y) → f z ≡ Some y → passes y ≡ true) past
    by_test false all more = (λ is. absurd (true≢false (sym is)), more all)
    by_test true all more =
        let parts = and_parts (list_all passes (every f (filter keep past))) (list_all passes (option_to_list (f e))) (sym (list_all-append passes (every f (filter keep past)) (option_to_list (f e))) ∙ all) in
        (λ is y tells. (and_parts (passes y) true (sym (ap (λ o. list_all passes (option_to_list o)) tells) ∙ parts.1)).0, more parts.0)

pub every_more : {Y : Type 0} (passes : Y → Bool) (f : Entry → Option Y) (keep : Entry → Bool) (newer past : Past) → AllByRecursion (λ e. keep e ≡ true → (y : Y) → f e ≡ Some y → passes y ≡ true) newer
    → list_all passes (every f (filter keep past)) ≡ true → list_all passes (every f (filter keep (newer ++ past))) ≡ true
every_more passes f keep [] past all was = was
every_more {Y = Y} passes f keep (e ∷ newer) past all was = by_test (keep e) all.0 (every_more passes f keep newer past all.1 was)
  where
    by_answer : (o : Option Y) → ((y : Y) → o ≡ Some y → passes y ≡ true) → list_all passes (option_to_list o) ≡ true
    by_answer None each = refl
    by_answer (Some y) each = and_from (passes y) true (each y refl) refl

    by_test : (x : Bool) → (x ≡ true → (y : Y) → f e ≡ Some y → passes y ≡ true) → list_all passes (every f (filter keep (newer ++ past))) ≡ true → list_all passes (every f (if x then e ∷ filter keep (newer ++ past) else filter keep (newer ++ past))) ≡ true
    by_test false each more = more
    by_test true each more = list_all-append passes (every f (filter keep (newer ++ past))) (option_to_list (f e)) ∙ and_from _ _ more (by_answer (f e) (each refl))
