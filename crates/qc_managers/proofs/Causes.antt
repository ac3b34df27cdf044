-- What is missing has a cause: each stays while the history grows, and each is one of a disturbance.
use Rattle.std.proofs.Common.{◌≡◌, ℕ, ◌≤◌, Bool, true, false, List, [], ◌∷◌, ◌++◌, refl, sym, ap, ◌∙◌, subst, arith, inl, inr}
use Rattle.std.specs.Prelude.{IsTrue, All, Option, None, Some, MatchOption, option_to_list}
use Rattle.std.specs.List.{list_any, AllByRecursion}
use Rattle.std.specs.Option.{option_map_or}
use Rattle.std.proofs.lemmas.Bool.{or_left, or_right, or_cases, true≢false}
use Rattle.std.proofs.lemmas.List.Elements.{All-nil, All-append, All-weaker, All-from_recursion, recursion_from_All}
use Rattle.std.proofs.lemmas.List.Folds.{list_any-append}
use Rattle.qc_event.specs.declared.event.Ask.{Ask}
use Rattle.qc_event.specs.declared.event.Entry.{Entry}
use Rattle.qc_event.specs.declared.event.Phase.{Phase}
use Rattle.qc_event.specs.declared.event.Why.{Why}
use Rattle.qc_event.specs.declared.event.Why.TheVariants.{Lost, Late, Down, Full, Strange}
use Rattle.qc_event.specs.Counts.{Rose}
use Rattle.qc_event.specs.History.{Past, Name, asks, ask_below}
use Rattle.qc_event.specs.Requests.{is_why, is_fault, unable_in, was_unable}
use Rattle.qc_managers.specs.Carrying.{CarrierView, Carriage, HasGrown, HasReason, WasCarried, became}
use Rattle.qc_managers.specs.declared.carrier.Carried.{Carried}
use Rattle.qc_managers.specs.declared.carrier.Carried.TheVariants as carried
use Rattle.qc_managers.specs.Told.{Told, why_in}
use Rattle.qc_managers.specs.Answered.{told_in}
use Rattle.qc_managers.specs.Going.{HasServed}
use Rattle.qc_managers.specs.Undisturbed.{any_unable, StandsOn, TellHasCause, IsAble}
use Rattle.qc_managers.proofs.Served.{grown_none}

-- TROUBLES

pub rose_later : (a b c : ℕ) → b ≤ c → Rose a b → Rose a c
rose_later a b c more rose = omega arith

pub rose_sooner : (a b c : ℕ) → a ≤ b → Rose b c → Rose a c
rose_sooner a b c more rose = omega arith

-- A COPY'S WORD

any_wider : {X : Type 0} (p q : X → Bool) → ((x : X) → p x ≡ true → q x ≡ true) → (xs : List X) → list_any p xs ≡ true → list_any q xs ≡ true
any_wider p q wider [] h = h
any_wider p q wider (x ∷ xs) h = elim (or_cases (p x) (list_any p xs) h) [
  | inl here ↦ or_left (q x) (list_any q xs) (wider x here)
  | inr below ↦ or_right (q x) (list_any q xs) (any_wider p q wider xs below)
]

unable_next : (past : Past) (e : Entry) (m : Name) (why : Why) → any_unable past m why ≡ true → any_unable (e ∷ past) m why ≡ true
unable_next past e m why h =
    let unable = λ (ask : Ask). was_unable (e ∷ past) ask.access why in
    list_any-append unable (asks past m) (option_to_list (ask_below m e.event))
    ∙ or_left (list_any unable (asks past m)) (list_any unable (option_to_list (ask_below m e.event)))
    (any_wider (λ (ask : Ask). was_unable past ask.access why) unable (λ ask. or_right (option_map_or (is_why why) (unable_in ask.access e.event) false) (was_unable past ask.access why)) (asks past m) h)

unable_stays : (newer past : Past) (m : Name) (why : Why) → any_unable past m why ≡ true → any_unable (newer ++ past) m why ≡ true
unable_stays [] past m why h = h
unable_stays (e ∷ newer) past m why h = unable_next (newer ++ past) e m why (unable_stays newer past m why h)

-- CAUSES

stands_stays : (before now : Past) (m : Name) (Old New : Type 0) → ((why : Why) → any_unable before m why ≡ true → any_unable now m why ≡ true) → (Old → New) → (why : Why) → StandsOn before m Old why → StandsOn now m New why
stands_stays before now m Old New more rose Lost h = rose h
stands_stays before now m Old New more rose Late h = rose h
stands_stays before now m Old New more rose Down h = more Down h
stands_stays before now m Old New more rose Full h = more Full h
stands_stays before now m Old New more rose Strange h = more Strange h

-- a cause stays one
pub cause_stays : (others : Entry → Bool) (Names : Name → Type 0) (before now : Past) (m : Name) (Old New : Type 0) → HasGrown others Names before now → (Old → New) → (t : Told) → TellHasCause before m Old t → TellHasCause now m New t
cause_stays others Names before now m Old New grown rose t = of_why (why_in t)
  where
    more : (why : Why) → any_unable before m why ≡ true → any_unable now m why ≡ true
    more why h = ap (λ p. any_unable p m why) grown.grown ∙ unable_stays grown.newer before m why h

    of_why : (o : Option Why) → MatchOption o (Unit {0}) (StandsOn before m Old) → MatchOption o (Unit {0}) (StandsOn now m New)
    of_why None h = tt
    of_why (Some why) h = stands_stays before now m Old New more rose why h

-- a request that was carried has a cause where it is missing
pub cause_of_request : (way : Carriage) (m : Name) (Trouble : Type 0) (c : Carried) → way.manager ≡ m → WasCarried way (became c) → HasReason way Trouble c → TellHasCause way.now m Trouble (record { copy = way.ask.copy; result = became c })
cause_of_request way m Trouble c its was reason = of_carried c reason
  where
    word : (why : Why) → was_unable way.now way.ask.access why ≡ true → any_unable way.now m why ≡ true
    word why h =
        let unable = λ (ask : Ask). was_unable way.now ask.access why in
        ap (λ n. list_any unable (asks way.now n)) (sym its)
        ∙ ap (list_any unable) was.told.asked
        ∙ list_any-append unable (asks way.before way.manager) (way.ask ∷ [])
        ∙ or_right (list_any unable (asks way.before way.manager)) (list_any unable (way.ask ∷ [])) (or_left (unable way.ask) false h)

    of_carried : (c : Carried) → HasReason way Trouble c → TellHasCause way.now m Trouble (record { copy = way.ask.copy; result = became c })
    of_carried (carried.Reply tuple) h = tt
    of_carried (carried.Blocked holder) h = tt
    of_carried (carried.Gone Lost) h = h
    of_carried (carried.Gone Late) h = h
    of_carried (carried.Gone Down) h = word Down h
    of_carried (carried.Gone Full) h = word Full h
    of_carried (carried.Gone Strange) h = word Strange h

-- where nothing was told, nothing wants a cause
pub causes_none : (a : CarrierView) (m : Name) (phase : Phase) → told_in a.seen m phase ≡ [] → All (TellHasCause a.seen m (Rose a.troubles a.troubles)) (told_in a.seen m phase)
causes_none a m phase none = subst (All (TellHasCause a.seen m (Rose a.troubles a.troubles))) (sym none) (All-nil (TellHasCause a.seen m (Rose a.troubles a.troubles)))

-- with one more that was told, each has its cause
pub causes_further : (a now then : CarrierView) (m : Name) (phase : Phase) (t : Told) → HasServed m a now → HasServed m now then → told_in then.seen m phase ≡ told_in now.seen m phase ++ t ∷ [] → All (TellHasCause now.seen m (Rose a.troubles now.troubles)) (told_in now.seen m phase) → TellHasCause then.seen m (Rose now.troubles then.troubles) t → All (TellHasCause then.seen m (Rose a.troubles then.troubles)) (told_in then.seen m phase)
causes_further a now then m phase t before served more causes cause =
    let Had : Told → Type 0 = TellHasCause now.seen m (Rose a.troubles now.troubles) in
    let Has : Told → Type 0 = TellHasCause then.seen m (Rose a.troubles then.troubles) in
    let old : All Has (told_in now.seen m phase) =
    All-weaker Had Has (cause_stays _ _ now.seen then.seen m (Rose a.troubles now.troubles) (Rose a.troubles then.troubles) served.grown (rose_later a.troubles now.troubles then.troubles served.later)) (told_in now.seen m phase) causes in
    let new : Has t = cause_stays _ _ then.seen then.seen m (Rose now.troubles then.troubles) (Rose a.troubles then.troubles) (grown_none then.others (λ n. Unit {0}) then.seen) (rose_sooner a.troubles now.troubles then.troubles before.later) t cause in
    subst (All Has) (sym more) (All-append Has (told_in now.seen m phase) (t ∷ []) old (All-from_recursion Has (t ∷ []) (new, tt)))

-- WHERE NOTHING DISTURBS

none_unable : (past : Past) (why : Why) → IsTrue (is_fault why) → (asks : List Ask) → AllByRecursion (IsAble past) asks → list_any (λ (ask : Ask). was_unable past ask.access why) asks ≡ true → ⊥
none_unable past why fault [] able h = true≢false (sym h)
none_unable past why fault (ask ∷ asks) able h = elim (or_cases (was_unable past ask.access why) (list_any (λ (a : Ask). was_unable past a.access why) asks) h) [
  | inl here ↦ true≢false (sym here ∙ able.0 why fault)
  | inr below ↦ none_unable past why fault asks able.1 below
]

-- no reason stands on anything
pub stands_on_nothing : (past : Past) (m : Name) (Trouble : Type 0) → (Trouble → ⊥) → All (IsAble past) (asks past m) → (why : Why) → StandsOn past m Trouble why → ⊥
stands_on_nothing past m Trouble quiet able = of_why
  where
    able_each : AllByRecursion (IsAble past) (asks past m)
    able_each = recursion_from_All (IsAble past) (asks past m) able

    of_why : (why : Why) → StandsOn past m Trouble why → ⊥
    of_why Lost h = quiet h
    of_why Late h = quiet h
    of_why Down h = none_unable past Down refl (asks past m) able_each h
    of_why Full h = none_unable past Full refl (asks past m) able_each h
    of_why Strange h = none_unable past Strange refl (asks past m) able_each h
