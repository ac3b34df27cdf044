-- What a pass entered itself stands in what it has seen: a copy's answers, and the ledger's refusals.
use Rattle.std.proofs.Common.{◌≡◌, ℕ, zero, suc, Bool, true, false, [], ◌∷◌, ◌==◌, refl, sym, ap, ◌∙◌, subst, cond, arith}
use Rattle.std.specs.Prelude.{◌≤◌, Contains, IsTrue, Option, None, Some, if◌then◌else◌, length, Result, Ok, Err, OnOk, IfErr, IsErrOf, is_some}
use Rattle.std.specs.List.{list_any}
use Rattle.std.specs.Option.{option_map_or}
use Rattle.std.proofs.lemmas.Bool.{or_left, or_right}
use Rattle.qc_config.specs.declared.tuple.Tuple.{Tuple}
use Rattle.qc_event.specs.Grants.{grant_with}
use Rattle.qc_event.specs.declared.event.Answered.{Answered}
use Rattle.qc_event.specs.declared.event.Answered.TheVariants as answer
use Rattle.qc_event.specs.declared.event.Ask.{Ask}
use Rattle.qc_event.specs.declared.event.Entry.{Entry}
use Rattle.qc_event.specs.declared.event.Event.TheVariants as event
use Rattle.qc_event.specs.declared.event.Refusal.TheVariants as refusal
use Rattle.qc_event.specs.declared.event.Why.{Why}
use Rattle.qc_event.specs.declared.event.Why.TheVariants as why
use Rattle.qc_event.specs.declared.short.Short.TheVariants as short
use Rattle.qc_event.specs.History.{Past, Name, end, end_in, limit}
use Rattle.qc_event.specs.Requests.{is_why, unable_in, was_unable}
use Rattle.qc_event.specs.Seats.{copy_seat, ledger_seat}
use Rattle.qc_event.proofs.Absent.{same_itself}
use Rattle.qc_event.proofs.StillTold.{some_stays}
use Rattle.qc_ledger.specs.Entered.{RefusalEnters, unlogged_entry}
use Rattle.qc_ledger.specs.declared.fault.LedgerNo.{LedgerNo}
use Rattle.qc_ledger.specs.declared.fault.LedgerNo.TheVariants as no
use Rattle.qc_desk.specs.Entries.{IsOlder, entries_of, entry}
use Rattle.qc_desk.specs.Answers.{IsGranted, refused_entry, HasAnswered}
use Rattle.qc_desk.proofs.Answered.{full_still, unable_still}
use Rattle.qc_site.specs.AtDesk.{unable_entry}
use Rattle.qc_site.specs.Replica.{Standing}
use Rattle.qc_site.specs.Sites.{AnswerEnters}
use Rattle.qc_system.specs.Kept.{HasRefused}

-- ENTRIES OF ONE NUMBER AMONG ALL

later : (e x : Entry) (past : Past) → Contains past x → Contains (e ∷ past) x
later e x past (k, lt, is) = (suc k, omega (arith, lt), is)

among_all : (n : ℕ) (past : Past) (x : Entry) → Contains (entries_of n past) x → Contains past x
among_all n [] x c = c
among_all n (e ∷ past) x c = by_seat (e.seat == n) (among_all n past x) c
  where
    first_or_rest : (Contains (entries_of n past) x → Contains past x) → Contains (e ∷ entries_of n past) x → Contains (e ∷ past) x
    first_or_rest on (zero, lt, is) = (zero, omega arith, is)
    first_or_rest on (suc k, lt, is) = later e x past (on (k, omega (arith, lt), is))

    by_seat : (b : Bool) → (Contains (entries_of n past) x → Contains past x) → Contains (cond b (e ∷ entries_of n past) (entries_of n past)) x → Contains (e ∷ past) x
    by_seat true on h = first_or_rest on h
    by_seat false on h = later e x past (on h)

-- what an entry that stands tells, the history does
any_told : (f : Entry → Bool) (past : Past) (x : Entry) → Contains past x → f x ≡ true → list_any f past ≡ true
any_told f [] x (k, lt, is) h = absurd (omega (arith, lt))
any_told f (e ∷ past) x (zero, lt, is) h = or_left (f e) (list_any f past) (ap f is ∙ h)
any_told f (e ∷ past) x (suc k, lt, is) h = or_right (f e) (list_any f past) (any_told f past x (k, omega (arith, lt), is) h)

-- an entry of one's own that stands behind others is among all
own_stands : (n : ℕ) (past mine mid : Past) (x : Entry) → mine ≡ entries_of n past → mine ≡ x ∷ mid → Contains past x
own_stands n past mine mid x own is = among_all n past x (subst (λ p. Contains p x) (sym is ∙ own) (zero, omega arith, refl))

says_unable : (n : Name) (w : Why) → option_map_or (is_why w) (unable_in n (event.Unable n w)) false ≡ is_why w w
says_unable n w = ap (λ (b : Bool). option_map_or (is_why w) (if b then Some w else None) false) (same_itself n)

told_unable : (past : Past) (seat : ℕ) (n : Name) (w : Why) → is_why w w ≡ true → Contains past (entry seat (event.Unable n w)) → IsTrue (was_unable past n w)
told_unable past seat n w is there = any_told (λ (e : Entry). option_map_or (is_why w) (unable_in n e.event) false) past (entry seat (event.Unable n w)) there (says_unable n w ∙ is)

-- A COPY'S ANSWERS

pub answer_stands : (copy : ℕ) (ask : Ask) (old new : Standing) (said : Answered) → new.pass.mine ≡ entries_of (copy_seat copy) new.pass.seen
    → ((tuple : Tuple) → said ≡ answer.Granted tuple → IsGranted copy new.pass.seen (grant_with ask tuple)) → AnswerEnters copy ask said old new → HasAnswered copy new.pass.seen ask said
answer_stands copy ask old new (answer.Granted tuple) own granted enters = granted tuple refl
answer_stands copy ask old new (answer.Blocked holder) own granted enters = own_stands (copy_seat copy) new.pass.seen new.pass.mine enters.mid (refused_entry copy ask (refusal.Blocked holder)) own enters.all
answer_stands copy ask old new (answer.Dead ancestor) own granted enters = own_stands (copy_seat copy) new.pass.seen new.pass.mine enters.mid (refused_entry copy ask (refusal.Dead ancestor)) own enters.all
answer_stands copy ask old new answer.Down own granted enters = told_unable new.pass.seen (copy_seat copy) ask.access why.Down refl (own_stands (copy_seat copy) new.pass.seen new.pass.mine enters.mid (unable_entry copy ask why.Down) own enters.all)
answer_stands copy ask old new answer.Full own granted enters = told_unable new.pass.seen (copy_seat copy) ask.access why.Full refl (own_stands (copy_seat copy) new.pass.seen new.pass.mine enters.mid (unable_entry copy ask why.Full) own enters.all)
answer_stands copy ask old new answer.Strange own granted enters = told_unable new.pass.seen (copy_seat copy) ask.access why.Strange refl (own_stands (copy_seat copy) new.pass.seen new.pass.mine enters.mid (unable_entry copy ask why.Strange) own enters.all)

-- THE LEDGER'S REFUSALS

-- that the ledger was unable stands in what was seen later
pub refusal_stands : (past mine old : Past) (hand : Option Name) (top : Name) (r : LedgerNo) → mine ≡ entries_of ledger_seat past → (r ≡ no.Short short.Room → length past ≡ limit) → RefusalEnters r hand top old mine → HasRefused past top r
refusal_stands past mine old hand top no.Disk own room enters = told_unable past ledger_seat top why.Down refl (own_stands ledger_seat past mine enters.mid (unlogged_entry top why.Down) own enters.all)
refusal_stands past mine old hand top (no.Image bad) own room enters = enters
refusal_stands past mine old hand top (no.Full place) own room enters = told_unable past ledger_seat top why.Full refl (own_stands ledger_seat past mine enters.mid (unlogged_entry top why.Full) own enters.all)
refusal_stands past mine old hand top (no.Short short.Memory) own room enters = tt
refusal_stands past mine old hand top (no.Short short.Room) own room enters = room refl

-- what is told of a ledger's answer stands in what was seen later
later_refused : (before now : Past) → IsOlder before now → length now ≤ limit → (top : Name) (r : LedgerNo) → HasRefused before top r → HasRefused now top r
later_refused before now older most top no.Disk h = subst (λ p. IsTrue (was_unable p top why.Down)) (sym older.1) (unable_still older.0 before top why.Down h)
later_refused before now older most top (no.Image bad) h = h
later_refused before now older most top (no.Full place) h = subst (λ p. IsTrue (was_unable p top why.Full)) (sym older.1) (unable_still older.0 before top why.Full h)
later_refused before now older most top (no.Short short.Memory) h = tt
later_refused before now older most top (no.Short short.Room) h = full_still before now older most h

pub refused_still : (r : Result (Unit {0}) LedgerNo) (mid now mine old : Past) (hand : Option Name) (top : Name) → mine ≡ entries_of ledger_seat mid → IsOlder mid now → length now ≤ limit → (IsErrOf r (no.Short short.Room) → length mid ≡ limit)
    → IfErr r (λ refusal. RefusalEnters refusal hand top old mine) → IfErr r (HasRefused now top)
refused_still (Ok x) mid now mine old hand top own older most room enters = tt
refused_still (Err r) mid now mine old hand top own older most room enters = later_refused mid now older most top r (refusal_stands mid mine old hand top r own (λ is. room (ap Err is)) enters)

pub ended_still : (r : Result (Unit {0}) LedgerNo) (mid now : Past) (top : Name) → IsOlder mid now → OnOk r (IsTrue (is_some (end mid top))) → OnOk r (IsTrue (is_some (end now top)))
ended_still (Ok x) mid now top older ended = subst (λ p. IsTrue (is_some (end p top))) (sym older.1) (some_stays (λ e. end_in top e.event) older.0 mid ended)
ended_still (Err r) mid now top older ended = tt
