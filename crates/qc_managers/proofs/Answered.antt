-- A manager that has asked nothing may collect, and one that has done all its stages may commit.
use Rattle.std.proofs.Common.{◌≡◌, ℕ, Bool, true, false, [], ◌∷◌, ◌++◌, refl, sym, ap, ◌∙◌, subst}
use Rattle.std.specs.Prelude.{◌&&◌, not, is_some, find, filter, filter_map, IsSome, All, option_to_list, Option, None, Some}
use Rattle.std.proofs.lemmas.Bool.{true≢false, some_since, false_from_ne_true}
use Rattle.std.proofs.lemmas.List.Elements.{All-nil}
use Rattle.qc_config.specs.Config.{Voting}
use Rattle.qc_config.specs.Val.{Datum}
use Rattle.qc_event.specs.Base.{Setting, first_of}
use Rattle.qc_event.specs.declared.event.Answer.TheVariants as answer
use Rattle.qc_event.specs.declared.event.Ask.{Ask}
use Rattle.qc_event.specs.declared.event.Event.{Event}
use Rattle.qc_event.specs.declared.event.Event.TheVariants as event
use Rattle.qc_event.specs.declared.event.Kind.{Kind}
use Rattle.qc_event.specs.declared.event.Kind.TheVariants as kind
use Rattle.qc_event.specs.declared.event.Phase.{Phase}
use Rattle.qc_event.specs.declared.event.Phase.TheVariants.{Collect}
use Rattle.qc_event.specs.History.{Past, Name, Begun, start, is_child, child_in, children, ask_below, asks}
use Rattle.qc_event.specs.Legal.{Legal, MayHappen}
use Rattle.qc_event.specs.Manager.{Greatest, collecting, newest, is_enough, first_for, result, is_phase, phase_of, record_of}
use Rattle.qc_event.specs.Standing.{IsManager}
use Rattle.qc_event.proofs.Absent.{if_not}
use Rattle.qc_event.proofs.OneEntry.{no_child_passes, both_empty}
use Rattle.qc_managers.specs.Carrying.{IsRunning}
use Rattle.qc_managers.specs.Gathered.{Gathered}
use Rattle.qc_managers.specs.Told.{greatest_in}
use Rattle.qc_managers.specs.Answered.{told_of, told_in, EachTold}
use Rattle.qc_managers.specs.Going.{MayCollect, HasCollected}
use Rattle.qc_managers.specs.Managed.{IsAnswered}
use Rattle.qc_managers.proofs.Known.{greatest-told}

-- the kind with which a name was started
abbrev pub kind_or : Option Begun → Kind
kind_or None = kind.Access
kind_or (Some b) = b.kind

abbrev pub kind_at : Past → Name → Kind
kind_at past m = kind_or (start past m)

-- NOTHING ASKED

-- what was started below a name is among its children
started_below : (past : Past) (m c : Name) → is_child m c ≡ true → is_some (start past c) ≡ true → children past m ≡ [] → ⊥
started_below past m c child started none =
    true≢false (no_child_passes (λ n. true) past m c child started (ap (find (λ n. true)) none))

asks_nothing : (setting : Setting) (past : Past) (seat : ℕ) (m : Name) (ev : Event) → MayHappen setting past seat ev → children past m ≡ [] → ask_below m ev ≡ None
asks_nothing setting past seat m (event.Ask ask) may none =
    if_not (is_child m ask.access) (Some ask) (false_from_ne_true (is_child m ask.access) (λ child. started_below past m ask.access child (some_since (start past ask.access) ⊥ _ may.started (λ h. h)) none))
asks_nothing setting past seat m _ may none = refl

-- where no child was started, no access has asked
pub nothing_asked : (setting : Setting) (past : Past) (m : Name) → Legal setting past → children past m ≡ [] → asks past m ≡ []
nothing_asked setting [] m legal none = refl
nothing_asked setting (e ∷ past) m legal none =
    let before : children past m ≡ [] = (both_empty (children past m) (option_to_list (child_in m e.event)) none).0 in
    ap (λ old. old ++ option_to_list (ask_below m e.event)) (nothing_asked setting past m legal.0 before)
    ∙ ap option_to_list (asks_nothing setting past e.seat m e.event legal.1 before)

pub nothing_told : (past : Past) (m : Name) (phase : Phase) → asks past m ≡ [] → told_in past m phase ≡ []
unfolding told_in
nothing_told past m phase none = ap (λ xs. filter_map (told_of (result past)) (filter (λ (ask : Ask). is_phase phase (phase_of ask.op)) xs)) none

none_untold : (past : Past) (m : Name) → asks past m ≡ [] → EachTold past m
unfolding EachTold
none_untold past m none = subst (All (λ (ask : Ask). IsSome (result past ask.access))) (sym none) (All-nil (λ (ask : Ask). IsSome (result past ask.access)))

-- a manager that has asked nothing may collect
pub may_collect : (setting : Setting) (seat : ℕ) (past : Past) (m : Name) (k : Kind) (rec : ℕ) (first : Voting) → Legal setting past → IsManager k → IsRunning seat past m k → children past m ≡ [] → rec ≡ record_of k → first ≡ first_for setting k → MayCollect setting seat past m k rec first
may_collect setting seat past m k rec first legal manages running none same_record same_first =
    let unasked = nothing_asked setting past m legal none in
    record {
      manages = manages;
      goes_on = record { running = running; each_told = none_untold past m unasked };
      same_record = same_record;
      same_first = same_first;
      nothing_told = nothing_told past m Collect unasked;
    }

-- A READING MANAGER

read_done : (b : Bool) → b ≡ true → (not (b && false) && (b && true)) ≡ true
read_done b is = ap (λ c. not (c && false) && (c && true)) is

pub read_answered : (setting : Setting) (seat : ℕ) (before now : Past) (m : Name) (rec : ℕ) (kept : Gathered) (value : Datum) → HasCollected seat before now m (kind.Read rec) (first_of setting rec) kept → value ≡ (greatest_in (told_in now m Collect)).value → IsAnswered setting seat now m (kind.Read rec) (answer.Value value)
read_answered setting seat before now m rec kept value h is =
    record {
      running = h.goes_on.running;
      complete = read_done (is_enough now m (collecting (newest now (first_of setting rec) m))) h.enough;
      answers = ap answer.Value (is ∙ sym (ap (λ (g : Greatest). g.value) (greatest-told now m)));
    }
