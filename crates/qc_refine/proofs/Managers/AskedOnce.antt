-- Each request of a manager is what its access asked, and each grant that a manager was given is the committed
-- access's own, as it was asked for.
use Rattle.std.proofs.Common.{◌≡◌, ◌<◌, Bool, true, List, [], ◌∷◌, ◌++◌, length, refl, sym, ap, ◌∙◌, subst, inl, inr}
use Rattle.std.specs.Prelude.{None, Some, MatchOption, if◌then◌else◌}
use Rattle.std.specs.Option.{option_or}
use Rattle.std.proofs.lemmas.Option.{same_Some}
use Rattle.qc_config.specs.declared.tuple.Tuple.{Tuple}
use Rattle.qc_event.specs.declared.event.Answer.TheVariants as answer
use Rattle.qc_event.specs.declared.event.Ask.{Ask}
use Rattle.qc_event.specs.declared.event.Entry.{Entry}
use Rattle.qc_event.specs.declared.event.Event.TheVariants as event
use Rattle.qc_event.specs.declared.event.How.TheVariants.{Commit}
use Rattle.qc_event.specs.declared.event.Kind.{Kind}
use Rattle.qc_event.specs.Base.{Setting}
use Rattle.qc_event.specs.History.{Past, Name, Given, Asked, end, end_in, asked, ask_in, granted, asks, is_child}
use Rattle.qc_event.specs.Standing.{IsManager}
use Rattle.qc_event.specs.Manager.{reply}
use Rattle.qc_event.specs.Legal.{Legal}
use Rattle.qc_event.proofs.Absent.{same_itself}
use Rattle.qc_event.proofs.OneEntry.{end_now}
use Rattle.qc_event.proofs.Options.{still_matches}
use Rattle.qc_event.proofs.SameEvents.{same_end}
use Rattle.qc_serial.specs.Visible.{served}
use Rattle.qc_serial.proofs.Accesses.{grant_stays}
use Rattle.qc_refine.proofs.Managers.KindsBelow.{HasKind, kind_before}
use Rattle.qc_refine.proofs.Managers.Replies.{reply_step, reply_is, reply_by}
use Rattle.qc_refine.proofs.Managers.LastOpen.{asks_or_not, asks_more, asks_same, may_ask}
use Rattle.qc_refine.proofs.Managers.Delivers.{AskedFor, asked_for_still, granted_as, delivers_or_not, Delivers}
use Rattle.qc_refine.proofs.Managers.ServedAsked.{served_more, served_same}
use Rattle.qc_refine.proofs.Managers.AskedInOrder.{AskedAs}

asked_as_still : (e : Entry) (past : Past) (n : Name) (ask : Ask) → AskedAs past n ask → AskedAs (e ∷ past) n ask
asked_as_still e past n ask h = still_matches (asked past n) (ask_in n e.seat e.event) (λ a. a.ask ≡ ask) h

-- each request is what its access asked
abbrev pub AllAsked : Past → Name → List Ask → Type 0
AllAsked past m [] = Unit {0}
AllAsked past m (a ∷ rest) = (is_child m a.access ≡ true) × AskedAs past a.access a × AllAsked past m rest

all_asked_still : (e : Entry) (past : Past) (m : Name) (rest : List Ask) → AllAsked past m rest → AllAsked (e ∷ past) m rest
all_asked_still e past m [] all = tt
all_asked_still e past m (a ∷ rest) all = (all.0, asked_as_still e past a.access a all.1, all_asked_still e past m rest all.2)

all_asked_more : (past : Past) (m : Name) (rest : List Ask) (ask : Ask) → AllAsked past m rest → is_child m ask.access ≡ true → AskedAs past ask.access ask → AllAsked past m (rest ++ ask ∷ [])
all_asked_more past m [] ask all child here = (child, here, tt)
all_asked_more past m (a ∷ rest) ask all child here = (all.0, all.1, all_asked_more past m rest ask all.2 child here)

asks_now : (e : Entry) (past : Past) (ask : Ask) → e.event ≡ event.Ask ask → asked past ask.access ≡ None → AskedAs (e ∷ past) ask.access ask
asks_now e past ask is none = subst (λ o. MatchOption o ⊥ (λ a. a.ask ≡ ask)) (sym now) refl
  where
    now : asked (e ∷ past) ask.access ≡ Some (record { seat = e.seat; ask = ask })
    now =
        ap (λ o. option_or o (ask_in ask.access e.seat e.event)) none
        ∙ ap (ask_in ask.access e.seat) is
        ∙ ap (λ (b : Bool). if b then Some (record { seat = e.seat; ask = ask }) else None) (same_itself ask.access)

pub all_asked : (setting : Setting) (past : Past) (m : Name) → Legal setting past → AllAsked past m (asks past m)
all_asked setting [] m legal = tt
all_asked setting (e ∷ past) m legal = elim (asks_or_not m e.event) [
  | inl new ↦ subst (AllAsked (e ∷ past) m) (sym (asks_more e past m new))
      (all_asked_more (e ∷ past) m (asks past m) new.ask (all_asked_still e past m (asks past m) (all_asked setting past m legal.0)) new.child
      (asks_now e past new.ask new.is (may_ask setting past e new.ask legal new.is).not_asked))
  | inr none ↦ subst (AllAsked (e ∷ past) m) (sym (asks_same e past m none)) (all_asked_still e past m (asks past m) (all_asked setting past m legal.0))
]

-- no two requests of the list are of one access
abbrev pub NotOf : Name → List Ask → Type 0
NotOf n [] = Unit {0}
NotOf n (a ∷ rest) = (n ≡ a.access → ⊥) × NotOf n rest

abbrev pub AllOnce : List Ask → Type 0
AllOnce [] = Unit {0}
AllOnce (a ∷ rest) = NotOf a.access rest × AllOnce rest

not_of_more : (n : Name) (rest : List Ask) (ask : Ask) → NotOf n rest → (n ≡ ask.access → ⊥) → NotOf n (rest ++ ask ∷ [])
not_of_more n [] ask all here = (here, tt)
not_of_more n (a ∷ rest) ask all here = (all.0, not_of_more n rest ask all.1 here)

once_more : (past : Past) (m : Name) (rest : List Ask) (ask : Ask) → AllOnce rest → AllAsked past m rest → asked past ask.access ≡ None → AllOnce (rest ++ ask ∷ [])
once_more past m [] ask all told none = (tt, tt)
once_more past m (a ∷ rest) ask all told none = (
  not_of_more a.access rest ask all.0 (λ is. subst (λ o. MatchOption o ⊥ (λ (x : Asked). x.ask ≡ a)) (ap (asked past) is ∙ none) told.1),
  once_more past m rest ask all.1 told.2 none,
)

-- an access asks once
pub all_once : (setting : Setting) (past : Past) (m : Name) → Legal setting past → AllOnce (asks past m)
all_once setting [] m legal = tt
all_once setting (e ∷ past) m legal = elim (asks_or_not m e.event) [
  | inl new ↦ subst AllOnce (sym (asks_more e past m new))
      (once_more past m (asks past m) new.ask (all_once setting past m legal.0) (all_asked setting past m legal.0) (may_ask setting past e new.ask legal new.is).not_asked)
  | inr none ↦ subst AllOnce (sym (asks_same e past m none)) (all_once setting past m legal.0)
]

-- A grant that a manager was given is its child's, which committed with it and had asked for it.
pub record IsServed (past : Past) (m : Name) (g : Given) : Type 0 where
  pub child : is_child m g.grant.access ≡ true
  pub was_granted : granted past g.grant.access ≡ Some g
  pub asked_for : AskedFor past g.grant.access g
  pub committed : end past g.grant.access ≡ Some (Commit (answer.Reply g.grant.tuple))

abbrev pub AllServed : Past → Name → List Given → Type 0
AllServed past m [] = Unit {0}
AllServed past m (g ∷ given) = IsServed past m g × AllServed past m given

all_served_still : (e : Entry) (past : Past) (m : Name) (given : List Given) → AllServed past m given → AllServed (e ∷ past) m given
all_served_still e past m [] all = tt
all_served_still e past m (g ∷ given) all = (
  record {
    child = all.0.child;
    was_granted = grant_stays e past g.grant.access g all.0.was_granted;
    asked_for = asked_for_still e past g.grant.access g all.0.asked_for;
    committed = ap (λ o. option_or o (end_in g.grant.access e.event)) all.0.committed;
  },
  all_served_still e past m given all.1,
)

all_served_more : (past : Past) (m : Name) (given : List Given) (g : Given) → AllServed past m given → IsServed past m g → AllServed past m (given ++ g ∷ [])
all_served_more past m [] g all here = (here, tt)
all_served_more past m (x ∷ given) g all here = (all.0, all_served_more past m given g all.1 here)

delivered : (setting : Setting) (past : Past) (e : Entry) (m : Name) → Legal setting (e ∷ past) → (d : Delivers past m e.event) → IsServed (e ∷ past) m d.g
delivered setting past e m legal d =
    let own : d.access ≡ d.g.grant.access = sym (granted_as setting past d.access d.g legal.0 d.was_granted).0 in
    record {
      child = ap (is_child m) (sym own) ∙ d.child;
      was_granted = grant_stays e past d.g.grant.access d.g (ap (granted past) (sym own) ∙ d.was_granted);
      asked_for = asked_for_still e past d.g.grant.access d.g (subst (λ n. AskedFor past n d.g) own d.asked_for);
      committed = ap (end (e ∷ past)) (sym own) ∙ ap (λ o. option_or o (end_in d.access e.event)) d.going ∙ end_now d.access e.event _ d.is;
    }

pub all_served : (setting : Setting) (past : Past) (m : Name) (k : Kind) → Legal setting past → 0 < length m → HasKind past m k → IsManager k → AllServed past m (served past m)
all_served setting [] m k legal pos has manager = tt
all_served setting (e ∷ past) m k legal pos has manager =
    let had = kind_before e past m k has in
    let before = all_served_still e past m (served past m) (all_served setting past m k legal.0 pos had manager) in
    elim (delivers_or_not setting past e m k legal pos had manager) [
      | inl d ↦ subst (AllServed (e ∷ past) m) (sym (served_more setting past e m k legal pos had manager d)) (all_served_more (e ∷ past) m (served past m) d.g before (delivered setting past e m legal d))
      | inr quiet ↦ subst (AllServed (e ∷ past) m) (sym (served_same setting past e m k legal pos had manager quiet)) before
    ]

-- what a manager's access replied, it was granted, as it had asked for
pub record IsGranted (past : Past) (n : Name) (t : Tuple) : Type 0 where
  pub g : Given
  pub was_granted : granted past n ≡ Some g
  pub same_tuple : g.grant.tuple ≡ t
  pub asked_for : AskedFor past n g

pub reply_granted : (setting : Setting) (past : Past) (m n : Name) (k : Kind) (t : Tuple) → Legal setting past → 0 < length m → HasKind past m k → IsManager k → is_child m n ≡ true → reply past n ≡ Some t → IsGranted past n t
reply_granted setting [] m n k t legal pos has manager child is = absurd cc
reply_granted setting (e ∷ past) m n k t legal pos has manager child is = elim (reply_step e past n) [
  | inl old ↦
      let before = reply_granted setting past m n k t legal.0 pos (kind_before e past m k has) manager child (sym old ∙ is) in
      record { g = before.g; was_granted = grant_stays e past n before.g before.was_granted; same_tuple = before.same_tuple; asked_for = asked_for_still e past n before.g before.asked_for }
  | inr new ↦ elim (delivers_or_not setting past e m k legal pos (kind_before e past m k has) manager) [
    | inl d ↦
        let own : d.access ≡ n = same_end _ _ _ _ (sym d.is ∙ new.1.1) in
        let now : reply (e ∷ past) d.access ≡ Some d.g.grant.tuple = reply_is (e ∷ past) d.access ∙ ap (λ o. reply_by (option_or o (end_in d.access e.event))) d.going ∙ ap reply_by (end_now d.access e.event _ d.is) in
        record {
          g = d.g;
          was_granted = grant_stays e past n d.g (ap (granted past) (sym own) ∙ d.was_granted);
          same_tuple = same_Some d.g.grant.tuple t (sym now ∙ ap (reply (e ∷ past)) own ∙ is);
          asked_for = asked_for_still e past n d.g (subst (λ x. AskedFor past x d.g) own d.asked_for);
        }
    | inr quiet ↦ absurd (quiet.no_commit n _ new.1.1 child)
  ]
]
