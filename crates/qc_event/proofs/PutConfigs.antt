-- What holds of each configuration that is put at a copy, and of the one with which it starts, holds of each that it
-- has.
use Rattle.std.proofs.Common.{◌≡◌, ℕ, Bool, true, false, List, [], ◌∷◌, refl, subst}
use Rattle.std.proofs.lemmas.Bool.{eqb-true}
use Rattle.std.specs.Prelude.{◌==◌, Some, None, option_to_list, if◌then◌else◌}
use Rattle.std.specs.List.{All, filter}
use Rattle.std.proofs.lemmas.List.Elements.{All-nil, All-cons, All-head, All-tail, All-append, All-filter}
use Rattle.qc_config.specs.Config.{Voting}
use Rattle.qc_config.specs.declared.tuple.Op.{Op}
use Rattle.qc_config.specs.declared.tuple.Op.TheVariants.{Get, PutData, PutConfig}
use Rattle.qc_config.specs.declared.tuple.Tuple.{Tuple}
use Rattle.qc_config.specs.Tuple.{after}
use Rattle.qc_event.specs.declared.event.Event.{Event}
use Rattle.qc_event.specs.declared.event.Event.TheVariants as event
use Rattle.qc_event.specs.declared.event.Grant.{Grant}
use Rattle.qc_event.specs.Base.{Setting, start_tuple}
use Rattle.qc_event.specs.Grants.{MayGrant}
use Rattle.qc_event.specs.History.{Past, grant_at, grants}
use Rattle.qc_event.specs.Legal.{Legal, MayHappen}
use Rattle.qc_event.specs.Seen.{is_live_at, changed_by, seen}

-- what an operation puts, where it is a configuration, has the property
abbrev pub OpHas : (Voting → Type 0) → Op → Type 0
OpHas P Get = Unit {0}
OpHas P (PutData version value) = Unit {0}
OpHas P (PutConfig generation config) = P config

-- what a grant puts has it
abbrev pub GrantHas : (Voting → Type 0) → Grant → Type 0
GrantHas P g = OpHas P g.op

-- each grant that is allowed puts what has it
abbrev pub AllowedHave : (Voting → Type 0) → Setting → Type 0
AllowedHave P setting = (past : Past) (seat copy : ℕ) (g : Grant) → Legal setting past → MayGrant setting past seat copy g → GrantHas P g

-- what is told of each grant as it is allowed holds of each grant of a copy
pub each_granted : (Q : ℕ → Grant → Type 0) (setting : Setting) → ((past : Past) (seat copy : ℕ) (g : Grant) → Legal setting past → MayGrant setting past seat copy g → Q copy g)
    → (past : Past) (copy : ℕ) → Legal setting past → All (Q copy) (grants past copy)
each_granted Q setting allowed [] copy legal = All-nil (Q copy)
each_granted Q setting allowed (e ∷ past) copy legal = All-append (Q copy) (grants past copy) _ (each_granted Q setting allowed past copy legal.0) (by_event e.event legal.1)
  where
    by_test : (g : Grant) (b : Bool) → (b ≡ true → Q copy g) → All (Q copy) (option_to_list (if b then Some g else None))
    by_test g true has = All-cons (Q copy) g [] (has refl) (All-nil (Q copy))
    by_test g false has = All-nil (Q copy)

    by_event : (ev : Event) → MayHappen setting past e.seat ev → All (Q copy) (option_to_list (grant_at copy ev))
    by_event (event.Granted c g) may = by_test g (c == copy) (λ is. subst (λ n. Q n g) (eqb-true c copy is) (allowed past e.seat c g legal.0 may))
    by_event _ may = All-nil (Q copy)

module _ (P : Voting → Type 0) where
  pub after_has : (t : Tuple) (op : Op) → P t.config → OpHas P op → P (after t op).config
  after_has t Get here put = here
  after_has t (PutData version value) here put = here
  after_has t (PutConfig generation config) here put = put

  changed_has : (t : Tuple) (given : List Grant) → P t.config → All (GrantHas P) given → P (changed_by t given).config
  changed_has t [] here all = here
  changed_has t (g ∷ given) here all =
      changed_has (after t g.op) given (after_has t g.op here (All-head (GrantHas P) g given all)) (All-tail (GrantHas P) g given all)

  grants_have : (setting : Setting) (past : Past) (copy : ℕ) → AllowedHave P setting → Legal setting past → All (GrantHas P) (grants past copy)
  grants_have setting past copy allowed = each_granted (λ c. GrantHas P) setting allowed past copy

  -- what a copy has of a record has the property, where its start tuple and what is put have it
  pub seen_has : (setting : Setting) (past : Past) (copy rec : ℕ) → AllowedHave P setting → Legal setting past → P (start_tuple setting.base copy rec).config → P (seen setting.base past copy rec).config
  seen_has setting past copy rec allowed legal here =
      changed_has (start_tuple setting.base copy rec) (filter (is_live_at past rec) (grants past copy)) here
      (All-filter (is_live_at past rec) (GrantHas P) (grants past copy) (grants_have setting past copy allowed legal))
