-- The tables of copies, one entry after another.
use Rattle.std.proofs.Common.{◌≡◌, ℕ, zero, suc, ◌<◌, ◌⊎◌, List, [], ◌∷◌, ◌++◌, length, get_or, refl, sym, ap, ◌∙◌, subst, arith, append-nil, inl, inr}
use Rattle.std.specs.Prelude.{Option, None, Some, MatchOption, option_to_list, slice_get, slice_set}
use Rattle.std.proofs.lemmas.List.{length-set}
use Rattle.std.proofs.lemmas.Option.{same_Some, slice_get-get_or}
use Rattle.qc_config.specs.declared.tuple.Tuple.{Tuple}
use Rattle.qc_event.specs.declared.event.Ask.{Ask}
use Rattle.qc_event.specs.declared.event.Entry.{Entry}
use Rattle.qc_event.specs.declared.event.Event.{Event}
use Rattle.qc_event.specs.declared.event.Event.TheVariants as event
use Rattle.qc_event.specs.declared.event.Grant.{Grant}
use Rattle.qc_event.specs.Base.{Setting, IsProper}
use Rattle.qc_event.specs.Grants.{MayGrant}
use Rattle.qc_event.specs.History.{Past, Name, asked, grants, grant_at}
use Rattle.qc_event.specs.Legal.{Legal, MayHappen}
use Rattle.qc_event.proofs.Asked.{asked_fits}
use Rattle.qc_event.proofs.AsksFit.{AskFits}
use Rattle.qc_event.proofs.Granted.{at_copy, elsewhere, grants_nothing}
use Rattle.qc_event.proofs.Options.{some_there}
use Rattle.qc_moss.specs.Follows.{TableFollows}
use Rattle.qc_moss.specs.Locks.{Table, granted_to, test_by}
use Rattle.qc_moss.proofs.Tables.{grows, granted}
use Rattle.qc_history.proofs.Spots.{one_of}
use Rattle.qc_looks.specs.Tables.{AreTablesOf, IsTableOf, ask_for, first_of}

module _ {X : Type 0} where
  set_here : (xs : List X) (i : ℕ) (y z : X) → slice_get (slice_set xs i y) i ≡ Some z → y ≡ z
  set_here [] i y z is = absurd cc
  set_here (x ∷ xs) zero y z is = same_Some y z is
  set_here (x ∷ xs) (suc i) y z is = set_here xs i y z is

  set_there : (xs : List X) (i j : ℕ) (y : X) → (j ≡ i → ⊥) → slice_get (slice_set xs i y) j ≡ slice_get xs j
  set_there [] i j y other = refl
  set_there (x ∷ xs) zero zero y other = absurd (other refl)
  set_there (x ∷ xs) zero (suc j) y other = refl
  set_there (x ∷ xs) (suc i) zero y other = refl
  set_there (x ∷ xs) (suc i) (suc j) y other = set_there xs i j y (λ is. other (ap suc is))

  last_or_before : (xs : List X) (y z : X) (i : ℕ) → slice_get (xs ++ y ∷ []) i ≡ Some z → (slice_get xs i ≡ Some z) ⊎ ((i ≡ length xs) × (y ≡ z))
  last_or_before [] y z zero is = inr (refl, same_Some y z is)
  last_or_before [] y z (suc i) is = absurd cc
  last_or_before (x ∷ xs) y z zero is = inl is
  last_or_before (x ∷ xs) y z (suc i) is = elim (last_or_before xs y z i is) [
    | inl before ↦ inl before
    | inr last ↦ inr (ap suc last.0, last.1)
  ]

pub first_tested : (o : Option Name) → first_of (test_by o) ≡ o
first_tested None = refl
first_tested (Some n) = refl

-- what was asked goes to a copy that there is, for a record that there is
module _ (setting : Setting) (proper : IsProper setting) (past : Past) (legal : Legal setting past) (ask : Ask) (is : MatchOption (asked past ask.access) ⊥ (λ a. a.ask ≡ ask)) where
  pub fits : AskFits setting ask
  fits =
      let there = some_there (asked past ask.access) (λ a. a.ask ≡ ask) is in
      subst (AskFits setting) there.2 (asked_fits setting past ask.access there.0 proper legal there.1)

  module _ (tables : List Table) (are : AreTablesOf setting.base past tables) where
    pub copy_within : ask.copy < length tables
    copy_within = omega (arith, fits.is_copy, are.as_many)

    pub record_within : (table : Table) → slice_get tables ask.copy ≡ Some table → ask.rec < length table.start
    record_within table at =
        let row = proper.base.rows ask.copy [] fits.is_copy in
        omega (arith, fits.is_record, ap length (are.each ask.copy table at).start, row.same_records)

    pub its_table : (table : Table) → table ≡ get_or tables ask.copy table → slice_get tables ask.copy ≡ Some table
    its_table table is = slice_get-get_or tables ask.copy table copy_within ∙ ap (λ t. Some t) (sym is)

-- a copy's table, and what it became
pub replaced : (base : List (List Tuple)) (past later : Past) (tables : List Table) (copy : ℕ) (table : Table) → AreTablesOf base past tables → IsTableOf base later copy table
    → ((c : ℕ) (t : Table) → (c ≡ copy → ⊥) → IsTableOf base past c t → IsTableOf base later c t) → AreTablesOf base later (slice_set tables copy table)
replaced base past later tables copy table are here others = record {
  as_many = length-set tables copy table ∙ are.as_many;
  each = λ c t at. elim (one_of c copy) [
    | inl this ↦ subst (λ k. IsTableOf base later k t) (sym this) (subst (IsTableOf base later copy) (set_here tables copy table t (ap (slice_get (slice_set tables copy table)) (sym this) ∙ at)) here)
    | inr other ↦ others c t other (are.each c t (sym (set_there tables copy c table other) ∙ at))
  ];
}

-- an entry by which no copy grants, or another one
stays : (base : List (List Tuple)) (e : Entry) (past : Past) (copy : ℕ) (table : Table) → grant_at copy e.event ≡ None → IsTableOf base past copy table → IsTableOf base (e ∷ past) copy table
stays base e past copy table none was = record {
  start = was.start;
  follows =
      subst (λ given. TableFollows (e ∷ past) given table) (sym (append-nil (grants past copy)) ∙ ap (λ o. grants past copy ++ option_to_list o) (sym none))
      (grows past e (grants past copy) table was.follows);
}

pub none_granted : (base : List (List Tuple)) (e : Entry) (past : Past) (tables : List Table) → ((copy : ℕ) (g : Grant) → e.event ≡ event.Granted copy g → ⊥) → AreTablesOf base past tables → AreTablesOf base (e ∷ past) tables
none_granted base e past tables not are = record {
  as_many = are.as_many;
  each = λ c t at. stays base e past c t (grants_nothing c e.event not) (are.each c t at);
}

pub one_granted : (base : List (List Tuple)) (e : Entry) (past : Past) (tables : List Table) (copy : ℕ) (g : Grant) (table : Table) → e.event ≡ event.Granted copy g → AreTablesOf base past tables → slice_get tables copy ≡ Some table → g.rec < length table.held
    → AreTablesOf base (e ∷ past) (slice_set tables copy (granted_to table g.access g.rec g.op))
one_granted base e past tables copy g table is are at within =
    replaced base past (e ∷ past) tables copy (granted_to table g.access g.rec g.op) are
    (let was = are.each copy table at in record {
      start = was.start;
      follows =
          subst (λ given. TableFollows (e ∷ past) given (granted_to table g.access g.rec g.op)) (ap (λ o. grants past copy ++ option_to_list o) (sym (at_copy copy copy g e.event is refl)))
          (granted (e ∷ past) (grants past copy) table g within (grows past e (grants past copy) table was.follows));
    })
    (λ c t other was. stays base e past c t (elsewhere copy c g e.event is (λ h. other (sym h))) was)

-- a table that was settled, or otherwise follows on
pub settled : (base : List (List Tuple)) (past : Past) (tables : List Table) (copy : ℕ) (old table : Table) → AreTablesOf base past tables → slice_get tables copy ≡ Some old → table.start ≡ old.start
    → (TableFollows past (grants past copy) old → TableFollows past (grants past copy) table) → AreTablesOf base past (slice_set tables copy table)
settled base past tables copy old table are at start follows =
    replaced base past past tables copy table are
    (let was = are.each copy old at in record { start = start ∙ was.start; follows = follows was.follows }) (λ c t other was. was)

-- what is granted was asked
pub granted_asked : (setting : Setting) (past : Past) (seat : ℕ) (ev : Event) (copy : ℕ) (g : Grant) → MayHappen setting past seat ev → ev ≡ event.Granted copy g → MatchOption (asked past g.access) ⊥ (λ a. a.ask ≡ ask_for copy g)
granted_asked setting past seat ev copy g may is =
    let grants_it : MayGrant setting past seat copy g = subst (MayHappen setting past seat) is may in
    grants_it.request
