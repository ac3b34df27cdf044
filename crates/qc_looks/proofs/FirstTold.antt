-- Entries about accesses come after their starts, and the first of them tells.
use Rattle.std.proofs.Common.{◌≡◌, ℕ, Bool, true, false, ◌||◌, ◌⊎◌, [], ◌∷◌, refl, sym, ap, ap₂, ◌∙◌, inl, inr}
use mathlib.Core.Bool.{true≢false}
use Rattle.std.specs.Prelude.{Option, None, Some, IsTrue, is_some, if◌then◌else◌, option_and_then}
use Rattle.std.specs.Option.{option_or, option_map_or}
use Rattle.std.proofs.lemmas.Option.{same_Some}
use Rattle.qc_event.specs.declared.event.Entry.{Entry}
use Rattle.qc_event.specs.declared.event.Event.{Event}
use Rattle.qc_event.specs.declared.event.Event.TheVariants as event
use Rattle.qc_event.specs.declared.event.Why.{Why}
use Rattle.qc_event.specs.declared.event.Why.TheVariants.{Lost, Late, Down, Full, Strange}
use Rattle.qc_event.specs.Base.{Setting}
use Rattle.qc_event.specs.History.{Past, Name, Asked, same, start, earliest, asked, ask_in, gone, gone_in, Given, granted, grant_in}
use Rattle.qc_event.specs.Legal.{Legal, MayHappen}
use Rattle.qc_event.specs.Requests.{MayBeUnable, is_fault, is_ledger_fault, is_why, unable_in, was_unable}
use Rattle.qc_event.proofs.Absent.{same_itself}
use Rattle.qc_event.proofs.Lawful.{started_some}
use Rattle.qc_event.proofs.Options.{some_match}
use Rattle.qc_event.proofs.RootAndTops.{ready_started}
use Rattle.qc_history.specs.Places.{starts_in}
use Rattle.qc_history.specs.Grants.{granted_name}
use Rattle.qc_history.specs.Firsts.{Subject, ComesAfterStart, is_about, about_in, first_about}
use Rattle.qc_history.proofs.Answering.{asked_started}
use Rattle.qc_history.proofs.FirstEntries.{first_tells}
use Rattle.qc_looks.specs.Subjects.{asked_name, gone_name, unable_name}

-- what the first entry about a name tells is what is told first, where only entries about the name tell
first_gives : {Y : Type 0} (subject : Subject) (n : Name) (f : Entry → Option Y) → ((e : Entry) → is_about subject n e.event ≡ false → f e ≡ None) → ((e : Entry) → subject e.event ≡ Some n → is_some (f e) ≡ true)
    → (past : Past) → option_and_then f (first_about subject past n) ≡ earliest f past
first_gives {Y} subject n f silent tells past = first_tells subject n f f (λ e. by e (is_about subject n e.event) refl) tells past
  where
    by : (e : Entry) (b : Bool) → is_about subject n e.event ≡ b → f e ≡ option_and_then f (if b then Some e else None)
    by e true about = refl
    by e false other = silent e other

-- REQUESTS

pub asked_after_start : ComesAfterStart asked_name
asked_after_start = record { started = λ setting past e n legal is. began setting past e n legal e.event legal.1 is; calm = calm }
  where
    began : (setting : Setting) (past : Past) (e : Entry) (n : Name) → Legal setting (e ∷ past) → (ev : Event) → MayHappen setting past e.seat ev → asked_name ev ≡ Some n → is_some (start past n) ≡ true
    began setting past e n legal (event.Ask ask) may is =
        ap (λ x. is_some (start past x)) (sym (same_Some ask.access n is)) ∙ started_some _ (start past ask.access) may.started
    began setting past e n legal _ may is = absurd cc

    calm : (ev : Event) (n : Name) → asked_name ev ≡ Some n → starts_in ev ≡ 0
    calm (event.Start m k) n is = absurd cc
    calm _ n is = refl

pub first_asked : (past : Past) (n : Name) → option_and_then (λ (e : Entry). ask_in n e.seat e.event) (first_about asked_name past n) ≡ asked past n
first_asked past n = first_gives asked_name n (λ (e : Entry). ask_in n e.seat e.event) (λ e other. silent e.seat e.event other) (λ e is. tells e.seat e.event is) past
  where
    silent : (seat : ℕ) (ev : Event) → is_about asked_name n ev ≡ false → ask_in n seat ev ≡ None
    silent seat (event.Ask ask) other = ap (λ (b : Bool). if b then Some (let a : Asked = record { seat = seat; ask = ask } in a) else None) other
    silent seat _ other = refl

    tells : (seat : ℕ) (ev : Event) → asked_name ev ≡ Some n → is_some (ask_in n seat ev) ≡ true
    tells seat (event.Ask ask) is = ap (λ (b : Bool). is_some (if b then Some (let a : Asked = record { seat = seat; ask = ask } in a) else None)) (ap (λ m. same m n) (same_Some ask.access n is) ∙ same_itself n)
    tells seat _ is = absurd cc

-- GIVING UP

pub gone_after_start : ComesAfterStart gone_name
gone_after_start = record { started = λ setting past e n legal is. began setting past e n legal e.event legal.1 is; calm = calm }
  where
    began : (setting : Setting) (past : Past) (e : Entry) (n : Name) → Legal setting (e ∷ past) → (ev : Event) → MayHappen setting past e.seat ev → gone_name ev ≡ Some n → is_some (start past n) ≡ true
    began setting past e n legal (event.Gone access why) may is =
        ap (λ x. is_some (start past x)) (sym (same_Some access n is)) ∙ may.is_open.started
    began setting past e n legal _ may is = absurd cc

    calm : (ev : Event) (n : Name) → gone_name ev ≡ Some n → starts_in ev ≡ 0
    calm (event.Start m k) n is = absurd cc
    calm _ n is = refl

pub first_gone : (past : Past) (n : Name) → option_and_then (λ (e : Entry). gone_in n e.event) (first_about gone_name past n) ≡ gone past n
first_gone past n = first_gives gone_name n (λ (e : Entry). gone_in n e.event) (λ e other. silent e.event other) (λ e is. tells e.event is) past
  where
    silent : (ev : Event) → is_about gone_name n ev ≡ false → gone_in n ev ≡ None
    silent (event.Gone access why) other = ap (λ (b : Bool). if b then Some why else None) other
    silent _ other = refl

    tells : (ev : Event) → gone_name ev ≡ Some n → is_some (gone_in n ev) ≡ true
    tells (event.Gone access why) is = ap (λ (b : Bool). is_some (if b then Some why else None)) (ap (λ m. same m n) (same_Some access n is) ∙ same_itself n)
    tells _ is = absurd cc

-- GRANTS

pub first_granted : (past : Past) (n : Name) → option_and_then (λ (e : Entry). grant_in n e.event) (first_about granted_name past n) ≡ granted past n
first_granted past n = first_gives granted_name n (λ (e : Entry). grant_in n e.event) (λ e other. silent e.event other) (λ e is. tells e.event is) past
  where
    silent : (ev : Event) → is_about granted_name n ev ≡ false → grant_in n ev ≡ None
    silent (event.Granted copy g) other = ap (λ (b : Bool). if b then Some (let x : Given = record { copy = copy; grant = g } in x) else None) other
    silent _ other = refl

    tells : (ev : Event) → granted_name ev ≡ Some n → is_some (grant_in n ev) ≡ true
    tells (event.Granted copy g) is = ap (λ (b : Bool). is_some (if b then Some (let x : Given = record { copy = copy; grant = g } in x) else None)) (ap (λ m. same m n) (same_Some g.access n is) ∙ same_itself n)
    tells _ is = absurd cc

-- WHO COULD NOT BE SERVED

-- by whom a name could not be served was asked or made ready before
unable_started : (setting : Setting) (past : Past) (seat : ℕ) (n : Name) (why : Why) → Legal setting past → MayBeUnable past seat n why → is_some (start past n) ≡ true
unable_started setting past seat n why legal (inl copy) = asked_started setting past n legal (some_match _ _ copy.asked_there)
unable_started setting past seat n why legal (inr ledger) = ready_started setting past n legal ledger.ready

pub unable_after_start : (why : Why) → ComesAfterStart (unable_name why)
unable_after_start why = record { started = λ setting past e n legal is. began setting past e n legal e.event legal.1 is; calm = calm }
  where
    named : (b : Bool) (m n : Name) → (if b then Some m else None) ≡ Some n → m ≡ n
    named true m n is = same_Some m n is
    named false m n is = absurd cc

    began : (setting : Setting) (past : Past) (e : Entry) (n : Name) → Legal setting (e ∷ past) → (ev : Event) → MayHappen setting past e.seat ev → unable_name why ev ≡ Some n → is_some (start past n) ≡ true
    began setting past e n legal (event.Unable m told) may is =
        ap (λ x. is_some (start past x)) (sym (named (is_why why told) m n is)) ∙ unable_started setting past e.seat m told legal.0 may
    began setting past e n legal _ may is = absurd cc

    calm : (ev : Event) (n : Name) → unable_name why ev ≡ Some n → starts_in ev ≡ 0
    calm (event.Start m k) n is = absurd cc
    calm _ n is = refl

-- whether the event tells that a name could not be served, for this reason
abbrev tells_so : Name → Why → Event → Bool
tells_so n why ev = option_map_or (is_why why) (unable_in n ev) false

pub found_unable : (n : Name) (why : Why) (past : Past) → is_some (first_about (unable_name why) past n) ≡ was_unable past n why
found_unable n why [] = refl
found_unable n why (e ∷ past) =
    either (first_about (unable_name why) past n) (about_in (unable_name why) n e)
    ∙ ap₂ ◌||◌ (by_event e.event) (found_unable n why past)
  where
    either : {Y : Type 0} (a b : Option Y) → is_some (option_or a b) ≡ (is_some b || is_some a)
    either None None = refl
    either None (Some y) = refl
    either (Some x) None = refl
    either (Some x) (Some y) = refl

    plain : (m : Name) (told : Why) (w : Bool) → is_why why told ≡ w → (s : Bool) → same m n ≡ s → is_some (if option_map_or (λ (k : Name). same k n) (if w then Some m else None) false then Some e else None) ≡ option_map_or (is_why why) (if s then Some told else None) false
    plain m told true w true s = ap (λ (b : Bool). is_some (if b then Some e else None)) s ∙ sym w
    plain m told true w false s = ap (λ (b : Bool). is_some (if b then Some e else None)) s
    plain m told false w true s = sym w
    plain m told false w false s = refl

    by_event : (ev : Event) → is_some (if is_about (unable_name why) n ev then Some e else None) ≡ tells_so n why ev
    by_event (event.Unable m told) = plain m told (is_why why told) refl (same m n) refl
    by_event _ = refl

-- nothing is lost or late by anyone's own word
pub never_unable : (setting : Setting) (n : Name) (why : Why) → is_fault why ≡ false → (past : Past) → Legal setting past → false ≡ was_unable past n why
never_unable setting n why harmless [] legal = refl
never_unable setting n why harmless (e ∷ past) legal =
    never_unable setting n why harmless past legal.0 ∙ sym (ap (λ b. b || was_unable past n why) (by_event e.event legal.1))
  where
    other : (a told : Why) → is_fault a ≡ false → IsTrue (is_fault told) ⊎ IsTrue (is_ledger_fault told) → is_why a told ≡ false
    other Lost Lost fault (inl h) = absurd (true≢false (sym h))
    other Lost Lost fault (inr h) = absurd (true≢false (sym h))
    other Late Late fault (inl h) = absurd (true≢false (sym h))
    other Late Late fault (inr h) = absurd (true≢false (sym h))
    other Down told fault h = absurd (true≢false fault)
    other Full told fault h = absurd (true≢false fault)
    other Strange told fault h = absurd (true≢false fault)
    other Lost Late fault h = refl
    other Lost Down fault h = refl
    other Lost Full fault h = refl
    other Lost Strange fault h = refl
    other Late Lost fault h = refl
    other Late Down fault h = refl
    other Late Full fault h = refl
    other Late Strange fault h = refl

    word : (m : Name) (told : Why) → MayBeUnable past e.seat m told → IsTrue (is_fault told) ⊎ IsTrue (is_ledger_fault told)
    word m told (inl copy) = inl copy.fault
    word m told (inr ledger) = inr ledger.fault

    here : (told : Why) (s : Bool) → is_why why told ≡ false → option_map_or (is_why why) (if s then Some told else None) false ≡ false
    here told true is = is
    here told false is = refl

    by_event : (ev : Event) → MayHappen setting past e.seat ev → tells_so n why ev ≡ false
    by_event (event.Unable m told) may = here told (same m n) (other why told harmless (word m told may))
    by_event _ may = refl
