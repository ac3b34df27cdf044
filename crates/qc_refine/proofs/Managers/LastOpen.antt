-- Of a manager's requests at most one is open, and it is the last.
use Rattle.std.proofs.Common.{◌≡◌, ℕ, Bool, true, false, List, [], ◌∷◌, ◌++◌, refl, sym, ap, ◌∙◌, subst, inl, inr, ◌⊎◌, append-nil}
use mathlib.Core.Bool.{true≢false}
use Rattle.std.specs.Prelude.{Option, None, Some, is_some, is_none, find, cond, option_to_list, if◌then◌else◌}
use Rattle.std.specs.Option.{option_or}
use Rattle.std.proofs.lemmas.Bool.{cases_Bool}
use Rattle.qc_event.specs.declared.event.Ask.{Ask}
use Rattle.qc_event.specs.declared.event.Entry.{Entry}
use Rattle.qc_event.specs.declared.event.Event.{Event}
use Rattle.qc_event.specs.declared.event.Event.TheVariants as event
use Rattle.qc_event.specs.declared.event.How.{How}
use Rattle.qc_event.specs.Base.{Setting}
use Rattle.qc_event.specs.History.{Past, Name, Asked, end, end_in, asked, ask_in, asks, ask_below, is_child}
use Rattle.qc_event.specs.Manager.{waiting}
use Rattle.qc_event.specs.Requests.{MayAsk}
use Rattle.qc_event.specs.Standing.{AsksUnder}
use Rattle.qc_event.specs.Legal.{Legal, MayHappen}
use Rattle.qc_event.proofs.Absent.{same_itself}
use Rattle.qc_event.proofs.LastNumber.{child_front}
use Rattle.qc_event.proofs.Options.{still, still_is, still_not_none}
use Rattle.qc_serial.proofs.OneAsked.{no_ask_passes}

-- the entry is a request of a child of the manager
pub record Asks (m : Name) (ev : Event) : Type 0 where
  pub ask : Ask
  pub is : ev ≡ event.Ask ask
  pub child : is_child m ask.access ≡ true
  pub adds : ask_below m ev ≡ Some ask

pub asks_or_not : (m : Name) (ev : Event) → Asks m ev ⊎ (ask_below m ev ≡ None)
asks_or_not m (event.Ask ask) = elim (cases_Bool (is_child m ask.access)) [
  | inl child ↦ inl (record { ask = ask; is = refl; child = child; adds = ap (λ b. if b then Some ask else None) child })
  | inr other ↦ inr (ap (λ b. if b then Some ask else None) other)
]
asks_or_not m _ = inr refl

pub asks_more : (e : Entry) (past : Past) (m : Name) (new : Asks m e.event) → asks (e ∷ past) m ≡ asks past m ++ new.ask ∷ []
asks_more e past m new = ap (λ o. asks past m ++ option_to_list o) new.adds

pub asks_same : (e : Entry) (past : Past) (m : Name) → ask_below m e.event ≡ None → asks (e ∷ past) m ≡ asks past m
asks_same e past m none = ap (λ o. asks past m ++ option_to_list o) none ∙ append-nil (asks past m)

pub may_ask : (setting : Setting) (past : Past) (e : Entry) (ask : Ask) → Legal setting (e ∷ past) → e.event ≡ event.Ask ask → MayAsk setting past e.seat ask
may_ask setting past e ask legal is = subst (MayHappen setting past e.seat) is legal.1

-- a request ends nothing
pub ask_ends_none : (e : Entry) (past : Past) (n : Name) (ask : Ask) → e.event ≡ event.Ask ask → end (e ∷ past) n ≡ end past n
ask_ends_none e past n ask is = ap (λ ev. option_or (end past n) (end_in n ev)) is ∙ still (end past n)

-- all requests of the list have ended
abbrev pub AllEnded : Past → List Ask → Type 0
AllEnded past [] = Unit {0}
AllEnded past (a ∷ rest) = (is_none (end past a.access) ≡ false) × AllEnded past rest

pub ended_stays : (e : Entry) (past : Past) (n : Name) → is_none (end past n) ≡ false → is_none (end (e ∷ past) n) ≡ false
ended_stays e past n h = still_not_none (end past n) (end_in n e.event) h

pub all_ended_stays : (e : Entry) (past : Past) (rest : List Ask) → AllEnded past rest → AllEnded (e ∷ past) rest
all_ended_stays e past [] all = tt
all_ended_stays e past (a ∷ rest) all = (ended_stays e past a.access all.0, all_ended_stays e past rest all.1)

all_ended_more : (past : Past) (rest : List Ask) (ask : Ask) → AllEnded past rest → is_none (end past ask.access) ≡ false → AllEnded past (rest ++ ask ∷ [])
all_ended_more past [] ask all here = (here, tt)
all_ended_more past (a ∷ rest) ask all here = (all.0, all_ended_more past rest ask all.1 here)

none_waits : (past : Past) (rest : List Ask) → find (λ (a : Ask). is_none (end past a.access)) rest ≡ None → AllEnded past rest
none_waits past [] none = tt
none_waits past (a ∷ rest) none = let parts = not_found (is_none (end past a.access)) none in (parts.0, none_waits past rest parts.1)
  where
    not_found : {o : Option Ask} → (b : Bool) → cond b (Some a) o ≡ None → (b ≡ false) × (o ≡ None)
    not_found true h = absurd cc
    not_found false h = (refl, h)

-- the one open request
pub record IsWaiting (past : Past) (m : Name) : Type 0 where
  pub before : List Ask
  pub ask : Ask
  pub seat : ℕ
  pub parts : asks past m ≡ before ++ ask ∷ []
  pub ended : AllEnded past before
  pub going : end past ask.access ≡ None
  pub asked_as : AsksUnder past seat ask
  pub child : is_child m ask.access ≡ true

asked_now : (e : Entry) (past : Past) (ask : Ask) → e.event ≡ event.Ask ask → asked past ask.access ≡ None → asked (e ∷ past) ask.access ≡ Some (record { seat = e.seat; ask = ask })
asked_now e past ask is none =
    ap (λ o. option_or o (ask_in ask.access e.seat e.event)) none
    ∙ ap (ask_in ask.access e.seat) is
    ∙ ap (λ (b : Bool). if b then Some (record { seat = e.seat; ask = ask }) else None) (same_itself ask.access)

pub asked_still : (e : Entry) (past : Past) (n : Name) (a : Asked) → asked past n ≡ Some a → asked (e ∷ past) n ≡ Some a
asked_still e past n a is = still_is (asked past n) (ask_in n e.seat e.event) a is

-- who asks finds all ended
pub ended_before : (setting : Setting) (past : Past) (e : Entry) (m : Name) → Legal setting (e ∷ past) → Asks m e.event → AllEnded past (asks past m)
ended_before setting past e m legal new =
    none_waits past (asks past m) (subst (λ x. waiting past x ≡ None) (child_front m new.ask.access new.child) (may_ask setting past e new.ask legal new.is).nothing_open)

pub last_open : (setting : Setting) (past : Past) (m : Name) → Legal setting past → AllEnded past (asks past m) ⊎ IsWaiting past m
last_open setting [] m legal = inl tt
last_open setting (e ∷ past) m legal = elim (asks_or_not m e.event) [
  | inl new ↦ inr (asking new)
  | inr none ↦ elim (last_open setting past m legal.0) [
    | inl all ↦ inl (subst (AllEnded (e ∷ past)) (sym (asks_same e past m none)) (all_ended_stays e past (asks past m) all))
    | inr last ↦ on none last (end (e ∷ past) last.ask.access) refl
  ]
]
  where
    asking : Asks m e.event → IsWaiting (e ∷ past) m
    asking new =
        let may : MayAsk setting past e.seat new.ask = may_ask setting past e new.ask legal new.is in
        record {
          before = asks past m;
          ask = new.ask;
          seat = e.seat;
          parts = asks_more e past m new;
          ended = all_ended_stays e past (asks past m) (ended_before setting past e m legal new);
          going = ask_ends_none e past new.ask.access new.ask new.is ∙ may.going.is_open.not_ended;
          asked_as = asked_now e past new.ask new.is may.not_asked;
          child = new.child;
        }

    on : ask_below m e.event ≡ None → (last : IsWaiting past m) (o : Option How) → end (e ∷ past) last.ask.access ≡ o → AllEnded (e ∷ past) (asks (e ∷ past) m) ⊎ IsWaiting (e ∷ past) m
    on none last None is = inr (record {
      before = last.before;
      ask = last.ask;
      seat = last.seat;
      parts = asks_same e past m none ∙ last.parts;
      ended = all_ended_stays e past last.before last.ended;
      going = is;
      asked_as = asked_still e past last.ask.access _ last.asked_as;
      child = last.child;
    })
    on none last (Some how) is = inl (subst (AllEnded (e ∷ past)) (sym (asks_same e past m none ∙ last.parts))
        (all_ended_more (e ∷ past) last.before last.ask (all_ended_stays e past last.before last.ended) (ap is_none is)))

-- where all have ended, no child that asked is open
pub none_open : (setting : Setting) (past : Past) (m c : Name) → Legal setting past → AllEnded past (asks past m) → is_child m c ≡ true → is_some (asked past c) ≡ true → end past c ≡ None → ⊥
none_open setting past m c legal all is asks_c going =
    true≢false (sym (ap is_none going) ∙ no_ask_passes (λ n. is_none (end past n)) past m c is asks_c (waits_none (asks past m) all))
  where
    waits_none : (rest : List Ask) → AllEnded past rest → find (λ (a : Ask). is_none (end past a.access)) rest ≡ None
    waits_none [] all = refl
    waits_none (a ∷ rest) all = ap (λ b. cond b (Some a) (find (λ (x : Ask). is_none (end past x.access)) rest)) all.0 ∙ waits_none rest all.1
