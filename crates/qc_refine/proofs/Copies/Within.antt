-- Each grant that a manager was given is of its record, and from a copy that there is.
use Rattle.std.proofs.Common.{◌≡◌, ℕ, ◌<◌, Bool, true, false, List, [], ◌∷◌, ◌++◌, length, sym, subst, inl, inr, arith}
use Rattle.std.specs.Prelude.{Option, None, Some, cond, nat_lt, is_none, ◌&&◌}
use Rattle.std.specs.Option.{option_map}
use Rattle.std.specs.List.{cons_option}
use Rattle.std.proofs.lemmas.Bool.{and_parts, ltb-true}
use Rattle.qc_config.specs.Config.{votes_of}
use Rattle.qc_config.specs.declared.tuple.Tuple.{Tuple}
use Rattle.qc_event.specs.declared.event.Ask.{Ask}
use Rattle.qc_event.specs.declared.event.Entry.{Entry}
use Rattle.qc_event.specs.declared.event.Kind.{Kind}
use Rattle.qc_event.specs.declared.event.Phase.{Phase}
use Rattle.qc_event.specs.declared.event.Phase.TheVariants.{Collect}
use Rattle.qc_event.specs.Base.{Setting}
use Rattle.qc_event.specs.Grants.{MayGrant}
use Rattle.qc_event.specs.History.{Past, Name, Given, granted, asks}
use Rattle.qc_event.specs.Standing.{IsManager}
use Rattle.qc_event.specs.Manager.{Stage, next_copy, ask_at, record_of, first_for, phase_of, is_phase, reply}
use Rattle.qc_event.specs.Legal.{Legal, MayHappen}
use Rattle.qc_event.proofs.Found.{found_range, has_place}
use Rattle.qc_event.proofs.Sizes.{AllSized}
use Rattle.qc_serial.specs.Visible.{served}
use Rattle.qc_serial.proofs.Accesses.{granted_step}
use Rattle.qc_refine.specs.Given.{in_phase, tuples_of}
use Rattle.qc_refine.specs.Complete.{AllWithin}
use Rattle.qc_refine.proofs.Managers.Replies.{given_as}
use Rattle.qc_refine.proofs.Managers.KindsBelow.{HasKind, kind_before}
use Rattle.qc_refine.proofs.Managers.LastOpen.{Asks, asks_or_not, asks_more, asks_same}
use Rattle.qc_refine.proofs.Managers.Delivers.{delivers_or_not}
use Rattle.qc_refine.proofs.Managers.ServedAsked.{given_to, served_asked, served_more, served_same}
use Rattle.qc_refine.proofs.Managers.Stages.{KindSized, stage_sized}
use Rattle.qc_refine.proofs.Managers.Shapes.{marks_in}
use Rattle.qc_refine.proofs.Managers.AskedInOrder.{OfStage, of_stage}

-- SIZES

granted_sized : (setting : Setting) (past : Past) (n : Name) (g : Given) → Legal setting past → granted past n ≡ Some g → length g.grant.tuple.config.votes ≡ length setting.base
granted_sized setting [] n g legal is = absurd cc
granted_sized setting (e ∷ past) n g legal is = elim (granted_step e past n g is) [
  | inl old ↦ granted_sized setting past n g legal.0 old
  | inr new ↦ let may : MayGrant setting past e.seat g.copy g.grant = subst (MayHappen setting past e.seat) new.0 legal.1 in may.for_copies
]

sized_more : (size : ℕ) (given : List Given) (g : Given) → AllSized size (tuples_of given) → length g.grant.tuple.config.votes ≡ size → AllSized size (tuples_of (given ++ g ∷ []))
sized_more size [] g all here = (here, tt)
sized_more size (x ∷ given) g all here = (all.0, sized_more size given g all.1 here)

pub sized_phase : (size : ℕ) (phase : Phase) (given : List Given) → AllSized size (tuples_of given) → AllSized size (tuples_of (in_phase phase given))
sized_phase size phase [] all = tt
sized_phase size phase (g ∷ given) all = by_test (is_phase phase (phase_of g.grant.op)) (sized_phase size phase given all.1)
  where
    by_test : (b : Bool) → AllSized size (tuples_of (in_phase phase given)) → AllSized size (tuples_of (cond b (g ∷ in_phase phase given) (in_phase phase given)))
    by_test true rest = (all.0, rest)
    by_test false rest = rest

-- what a manager was given has configurations for as many copies as there are
pub served_sized : (setting : Setting) (past : Past) (m : Name) (k : Kind) → Legal setting past → 0 < length m → HasKind past m k → IsManager k → AllSized (length setting.base) (tuples_of (served past m))
served_sized setting [] m k legal pos has manager = tt
served_sized setting (e ∷ past) m k legal pos has manager =
    let had = kind_before e past m k has in
    let before = served_sized setting past m k legal.0 pos had manager in
    elim (delivers_or_not setting past e m k legal pos had manager) [
      | inl d ↦ subst (λ gs. AllSized (length setting.base) (tuples_of gs)) (sym (served_more setting past e m k legal pos had manager d))
          (sized_more (length setting.base) (served past m) d.g before (granted_sized setting past d.access d.g legal.0 d.was_granted))
      | inr quiet ↦ subst (λ gs. AllSized (length setting.base) (tuples_of gs)) (sym (served_same setting past e m k legal pos had manager quiet)) before
    ]

-- COPIES

-- a request fits its manager
pub record Fits (setting : Setting) (k : Kind) (ask : Ask) : Type 0 where
  pub below : ask.copy < 16
  pub is_copy : ask.copy < length setting.base
  pub same_record : ask.rec ≡ record_of k

abbrev pub AllFit : Setting → Kind → List Ask → Type 0
AllFit setting k [] = Unit {0}
AllFit setting k (a ∷ rest) = Fits setting k a × AllFit setting k rest

all_fit_more : (setting : Setting) (k : Kind) (rest : List Ask) (ask : Ask) → AllFit setting k rest → Fits setting k ask → AllFit setting k (rest ++ ask ∷ [])
all_fit_more setting k [] ask all here = (here, tt)
all_fit_more setting k (a ∷ rest) ask all here = (all.0, all_fit_more setting k rest ask all.1 here)

-- the copy that is asked next has votes at the stage
pub next_has_votes : (past : Past) (m : Name) (s : Stage) (c : ℕ) → next_copy past m s ≡ Some c → (c < 16) × (0 < votes_of s.config c)
next_has_votes past m s c is =
    let found = found_range (λ copy. nat_lt 0 (votes_of s.config copy) && is_none (ask_at past m s.phase copy)) 0 16 c is in
    (omega (arith, found.0), ltb-true 0 (votes_of s.config c) (and_parts _ _ found.1).0)

module _ (setting : Setting) (m : Name) (k : Kind) (pos : 0 < length m) (manager : IsManager k) (first_sized : length (first_for setting k).votes ≡ length setting.base) (kind_sized : KindSized (length setting.base) k) where
  fits_new : (past : Past) (e : Entry) → Legal setting (e ∷ past) → HasKind past m k → (new : Asks m e.event) → Fits setting k new.ask
  fits_new past e legal has new =
      let of : OfStage setting past m k new.ask = of_stage setting past e m k legal pos has manager new in
      let votes = next_has_votes past m of.at new.ask.copy of.next.next in
      let sized = stage_sized (length setting.base) (first_for setting k) k (tuples_of (in_phase Collect (served past m))) (marks_in (served past m)) of.at first_sized
      (sized_phase (length setting.base) Collect (served past m) (served_sized setting past m k legal.0 pos has manager)) kind_sized of.leads in
      let place = has_place of.at.config.votes new.ask.copy votes.1 in
      record { below = votes.0; is_copy = omega (arith, place, sized); same_record = of.next.same_record }

  pub asks_fit : (past : Past) → Legal setting past → HasKind past m k → AllFit setting k (asks past m)
  asks_fit [] legal has = tt
  asks_fit (e ∷ past) legal has =
      let had = kind_before e past m k has in
      let before = asks_fit past legal.0 had in
      elim (asks_or_not m e.event) [
        | inl new ↦ subst (AllFit setting k) (sym (asks_more e past m new)) (all_fit_more setting k (asks past m) new.ask before (fits_new past e legal had new))
        | inr none ↦ subst (AllFit setting k) (sym (asks_same e past m none)) before
      ]

  given_within : (past : Past) (requests : List Ask) → AllFit setting k requests → AllWithin setting k (given_to past requests)
  given_within past [] all = tt
  given_within past (a ∷ rest) all = step (reply past a.access) (given_within past rest all.1)
    where
      step : (o : Option Tuple) → AllWithin setting k (given_to past rest) → AllWithin setting k (cons_option (option_map (given_as a) o) (given_to past rest))
      step None before = before
      step (Some t) before = (record { below = all.0.below; is_copy = all.0.is_copy; same_record = all.0.same_record }, before)

  pub served_within : (past : Past) → Legal setting past → HasKind past m k → AllWithin setting k (served past m)
  served_within past legal has = subst (AllWithin setting k) (sym (served_asked setting past m k legal pos has manager)) (given_within past (asks past m) (asks_fit past legal has))
