-- A manager's next access by its client's own entries, whatever others enter between them.
use Rattle.std.proofs.Common.{◌≡◌, ℕ, ◌==◌, Bool, true, false, cond, [], ◌∷◌, ◌++◌, refl, sym, ap, ◌∙◌, subst, eqb-true, eq-eqb, append-nil, append_assoc}
use mathlib.Core.Bool.{true≢false}
use Rattle.std.specs.Prelude.{Option, None, Some, if◌then◌else◌, option_to_list, is_some}
use Rattle.std.specs.List.{AllByRecursion}
use Rattle.std.specs.Option.{option_or}
use Rattle.std.proofs.lemmas.Bool.{false_from_ne_true}
use Rattle.qc_event.specs.declared.event.Entry.{Entry}
use Rattle.qc_event.specs.declared.event.Event.{Event}
use Rattle.qc_event.specs.declared.event.Event.TheVariants as event
use Rattle.qc_event.specs.Base.{Setting}
use Rattle.qc_event.specs.History.{Past, Name, earliest, every, same, start, start_in, end, end_in, asked, ask_in, gone, gone_in, refused, refusal_in, asks, ask_below, children, child_in, is_child}
use Rattle.qc_event.specs.Legal.{Legal, Allowed}
use Rattle.qc_event.specs.Manager.{result, result_by}
use Rattle.qc_event.specs.Standing.{IsManager}
use Rattle.qc_event.proofs.Absent.{same_is}
use Rattle.qc_event.proofs.Later.{started_still}
use Rattle.qc_event.proofs.Histories.{or_first}
use Rattle.qc_event.proofs.OneEntry.{stays_some}
use Rattle.qc_event.proofs.Options.{still}
use Rattle.qc_managers.specs.Carrying.{made_by, name_of}
use Rattle.qc_desk.specs.Own.{IsMine}
use Rattle.qc_desk.proofs.Others as others

-- a result by the same end, reason and refusal is the same
pub result_same : (before now : Past) (x : Name) → end now x ≡ end before x → gone now x ≡ gone before x → refused now x ≡ refused before x → result now x ≡ result before x
result_same before now x ends goes refuses =
    ap (λ o. result_by o (gone now x) (refused now x)) ends
    ∙ ap (λ o. result_by (end before x) o (refused now x)) goes
    ∙ ap (result_by (end before x) (gone before x)) refuses

-- the entry is of a name
abbrev pub IsOf : Name → Entry → Type 0
IsOf n e = name_of e.event ≡ n

-- an entry of another access tells nothing of this one
pub elsewhere : (e : Entry) (n c : Name) → IsOf n e → (n ≡ c → ⊥) → (end_in c e.event ≡ None) × (gone_in c e.event ≡ None) × (refusal_in c e.event ≡ None)
elsewhere e n c of apart = by_event e.event of
  where
    off : (x : Name) → x ≡ n → same x c ≡ false
    off x is = false_from_ne_true (same x c) (λ s. apart (sym is ∙ same_is x c s))

    none : {Y : Type 0} (x : Name) (y : Y) → x ≡ n → (if same x c then Some y else None) ≡ None
    none x y is = ap (λ (b : Bool). if b then Some y else None) (off x is)

    by_event : (ev : Event) → name_of ev ≡ n → (end_in c ev ≡ None) × (gone_in c ev ≡ None) × (refusal_in c ev ≡ None)
    by_event (event.End x how) is = (none x how is, refl, refl)
    by_event (event.Gone x why) is = (refl, none x why is, refl)
    by_event (event.Refused x copy r) is = (refl, refl, none x r is)
    by_event (event.Start x k) is = (refl, refl, refl)
    by_event (event.Ask a) is = (refl, refl, refl)
    by_event (event.Granted copy g) is = (refl, refl, refl)
    by_event (event.Unable x why) is = (refl, refl, refl)
    by_event (event.Mark x s) is = (refl, refl, refl)
    by_event (event.Ready x) is = (refl, refl, refl)

pub none_elsewhere : (made : Past) (n c : Name) → AllByRecursion (IsOf n) made → (n ≡ c → ⊥) → (end made c ≡ None) × (gone made c ≡ None)
none_elsewhere [] n c of apart = (refl, refl)
none_elsewhere (e ∷ made) n c of apart =
    let rest = none_elsewhere made n c of.1 apart in
    let here = elsewhere e n c of.0 apart in
    (ap (option_or (end made c)) here.0 ∙ still (end made c) ∙ rest.0, ap (option_or (gone made c)) here.1 ∙ still (gone made c) ∙ rest.1)

module _ (setting : Setting) (past : Past) (seat : ℕ) (m : Name) (mine : IsMine past seat m) where
  -- what no entry of another tells of is told by own entries alone
  abbrev Silent : {Y : Type 0} → (Entry → Option Y) → Type 0
  Silent f = (e : Entry) (before : Past) → (e.seat ≡ seat → ⊥) → Legal setting before → Allowed setting before e → IsMine before seat m → f e ≡ None

  own_or_not : {X : Type 0} (e : Entry) → ((e.seat ≡ seat) → (e.seat == seat) ≡ true → X) → ((e.seat ≡ seat → ⊥) → (e.seat == seat) ≡ false → X) → X
  own_or_not {X} e yes_own others_own = by_test (e.seat == seat) refl
    where
      by_test : (b : Bool) → (e.seat == seat) ≡ b → X
      by_test true is = yes_own (eqb-true e.seat seat is) is
      by_test false is = others_own (λ s. true≢false (sym (eq-eqb e.seat seat s) ∙ is)) is

  pub mine_at : (newer : Past) → IsMine (newer ++ past) seat m
  mine_at newer = started_still newer past m (λ b. IsManager b.kind × (b.seat ≡ seat)) mine

  pub earliest_own : {Y : Type 0} (f : Entry → Option Y) → Silent f → (newer : Past) → Legal setting (newer ++ past)
      → earliest f (newer ++ past) ≡ option_or (earliest f past) (earliest f (made_by seat newer))
  earliest_own f silent [] legal = sym (still (earliest f past))
  earliest_own f silent (e ∷ newer) legal = own_or_not e
      (λ own is.
      ap (λ o. option_or o (f e)) (earliest_own f silent newer legal.0)
      ∙ or_first (earliest f past) (earliest f (made_by seat newer)) (f e)
      ∙ sym (ap (λ (b : Bool). option_or (earliest f past) (earliest f (cond b (e ∷ made_by seat newer) (made_by seat newer)))) is))
      (λ other is.
      ap (option_or (earliest f (newer ++ past))) (silent e (newer ++ past) other legal.0 legal.1 (mine_at newer))
      ∙ still (earliest f (newer ++ past))
      ∙ earliest_own f silent newer legal.0
      ∙ sym (ap (λ (b : Bool). option_or (earliest f past) (earliest f (cond b (e ∷ made_by seat newer) (made_by seat newer)))) is))

  pub every_own : {Y : Type 0} (f : Entry → Option Y) → Silent f → (newer : Past) → Legal setting (newer ++ past)
      → every f (newer ++ past) ≡ every f past ++ every f (made_by seat newer)
  every_own f silent [] legal = sym (append-nil (every f past))
  every_own f silent (e ∷ newer) legal = own_or_not e
      (λ own is.
      ap (λ xs. xs ++ option_to_list (f e)) (every_own f silent newer legal.0)
      ∙ append_assoc (every f past) (every f (made_by seat newer)) (option_to_list (f e))
      ∙ sym (ap (λ (b : Bool). every f past ++ every f (cond b (e ∷ made_by seat newer) (made_by seat newer))) is))
      (λ other is.
      ap (λ o. every f (newer ++ past) ++ option_to_list o) (silent e (newer ++ past) other legal.0 legal.1 (mine_at newer))
      ∙ append-nil (every f (newer ++ past))
      ∙ every_own f silent newer legal.0
      ∙ sym (ap (λ (b : Bool). every f past ++ every f (cond b (e ∷ made_by seat newer) (made_by seat newer))) is))

  -- THE SCANS OF A MANAGER AND ITS ACCESSES

  module _ (newer : Past) (legal : Legal setting (newer ++ past)) where
    abbrev now : Past
    now = newer ++ past

    abbrev made : Past
    made = made_by seat newer

    pub end_m : end now m ≡ option_or (end past m) (end made m)
    end_m = earliest_own (λ e. end_in m e.event) (λ e before other law may own. others.no_end setting e before seat m other law may own) newer legal

    pub children_m : children now m ≡ children past m ++ children made m
    children_m = every_own (λ e. child_in m e.event) (λ e before other law may own. others.no_child setting e before seat m other law may own) newer legal

    pub asks_m : asks now m ≡ asks past m ++ asks made m
    asks_m = every_own (λ e. ask_below m e.event) (λ e before other law may own. others.no_ask setting e before seat m other law may own) newer legal

    module _ (c : Name) (child : is_child m c ≡ true) where
      pub end_c : end now c ≡ option_or (end past c) (end made c)
      end_c = earliest_own (λ e. end_in c e.event) (λ e before other law may own. others.no_access_end setting e before seat m other law may own c child) newer legal

      pub asked_c : asked now c ≡ option_or (asked past c) (asked made c)
      asked_c = earliest_own (λ e. ask_in c e.seat e.event) (λ e before other law may own. others.no_request setting e before seat m other law may own c child) newer legal

      pub gone_c : gone now c ≡ option_or (gone past c) (gone made c)
      gone_c = earliest_own (λ e. gone_in c e.event) (λ e before other law may own. others.no_giving_up setting e before seat m other law may own c child) newer legal

      no_start : (e : Entry) → child_in m e.event ≡ None → start_in c e.seat e.event ≡ None
      no_start e none = by_event e.event none
        where
          not_child : (n : Name) (b : Bool) → is_child m n ≡ b → (if b then Some n else None) ≡ None → same n c ≡ false
          not_child n true is h = absurd cc
          not_child n false is h = false_from_ne_true (same n c) (λ s. true≢false (sym child ∙ sym (ap (is_child m) (same_is n c s)) ∙ is))

          by_event : (ev : Event) → child_in m ev ≡ None → start_in c e.seat ev ≡ None
          by_event (event.Start n k) h = ap (λ (b : Bool). if b then Some (record { seat = e.seat; kind = k }) else None) (not_child n (is_child m n) refl h)
          by_event _ h = refl

      pub start_c : start now c ≡ option_or (start past c) (start made c)
      start_c = earliest_own (λ e. start_in c e.seat e.event) (λ e before other law may own. no_start e (others.no_child setting e before seat m other law may own)) newer legal

  -- RESULTS

  -- the result of another access that has ended stays
  pub result_kept : (n c : Name) → is_child m c ≡ true → (n ≡ c → ⊥) → is_some (end past c) ≡ true → (newer : Past) → Legal setting (newer ++ past) → AllByRecursion (IsOf n) (made_by seat newer)
      → (is_some (end (newer ++ past) c) ≡ true) × (result (newer ++ past) c ≡ result past c)
  result_kept n c child apart ended [] legal all = (ended, refl)
  result_kept n c child apart ended (e ∷ newer) legal all = own_or_not e
      (λ own is.
      let parts = subst (λ (b : Bool). AllByRecursion (IsOf n) (cond b (e ∷ made_by seat newer) (made_by seat newer))) is all in
      let before = result_kept n c child apart ended newer legal.0 parts.1 in
      let off = elsewhere e n c parts.0 apart in (
        stays_some (end (newer ++ past) c) _ before.0,
        result_same (newer ++ past) (e ∷ newer ++ past) c
            (ap (option_or (end (newer ++ past) c)) off.0 ∙ still (end (newer ++ past) c))
            (ap (option_or (gone (newer ++ past) c)) off.1 ∙ still (gone (newer ++ past) c))
            (ap (option_or (refused (newer ++ past) c)) off.2 ∙ still (refused (newer ++ past) c))
            ∙ before.1,
      ))
      (λ other is.
      let before = result_kept n c child apart ended newer legal.0 (subst (λ (b : Bool). AllByRecursion (IsOf n) (cond b (e ∷ made_by seat newer) (made_by seat newer))) is all) in (
        stays_some (end (newer ++ past) c) _ before.0,
        others.result_stays setting e (newer ++ past) seat m other legal.0 legal.1 (mine_at newer) c child before.0 ∙ before.1,
      ))
