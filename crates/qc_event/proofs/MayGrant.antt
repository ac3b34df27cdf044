-- What a copy may enter of a request that stands in the history, at whatever time it comes.
use Rattle.std.proofs.Common.{◌≡◌, ℕ, length, refl, sym, subst}
use Rattle.std.specs.Prelude.{None, Some, MatchOption, IfNone}
use Rattle.qc_config.specs.declared.tuple.Op.{Op}
use Rattle.qc_config.specs.declared.tuple.Op.TheVariants.{Get, PutData, PutConfig}
use Rattle.qc_config.specs.declared.tuple.Tuple.{Tuple}
use Rattle.qc_config.specs.Tuple.{after}
use Rattle.qc_event.specs.declared.event.Ask.{Ask}
use Rattle.qc_event.specs.declared.event.Refusal.{Refusal}
use Rattle.qc_event.specs.Base.{Setting, start_tuple}
use Rattle.qc_event.specs.Dead.{dead}
use Rattle.qc_event.specs.Grants.{Sets, IsServed, IsRefusal, MayGrant, MayRefuse, grant_with}
use Rattle.qc_event.specs.History.{Past, Asked, asked, granted}
use Rattle.qc_event.specs.Legal.{Legal}
use Rattle.qc_event.specs.Seats.{copy_seat}
use Rattle.qc_event.specs.Seen.{seen}
use Rattle.qc_event.proofs.SizedConfigs.{IsSized, OpSized, after_sized, seen_sized}

pub sets_after : (op : Op) (t : Tuple) → Sets op (after t op)
sets_after Get t = tt
sets_after (PutData version value) t = (refl, refl)
sets_after (PutConfig generation config) t = (refl, refl)

module _ (setting : Setting) (past : Past) (seat : ℕ) (ask : Ask) (stands : asked past ask.access ≡ Some (record { seat = seat; ask = ask })) where
  asks_this : (P : Asked → Type 0) → P (record { seat = seat; ask = ask }) → MatchOption (asked past ask.access) ⊥ P
  asks_this P h = subst (λ o. MatchOption o ⊥ P) (sym stands) h

  abbrev pub tuple : Tuple
  tuple = after (seen setting.base past ask.copy ask.rec) ask.op

  -- an access that is not dead is granted where none is in its way
  pub may_grant : Legal setting past → granted past ask.access ≡ None → dead past ask.access ≡ None → IsServed setting past ask.copy (grant_with ask tuple)
      → IsSized (length setting.base) (start_tuple setting.base ask.copy ask.rec) → OpSized (length setting.base) ask.op → MayGrant setting past (copy_seat ask.copy) ask.copy (grant_with ask tuple)
  may_grant legal first alive served here sized = record {
    by_copy = refl;
    request = asks_this (λ a. a.ask ≡ record { access = ask.access; copy = ask.copy; rec = ask.rec; op = ask.op }) refl;
    first_time = first;
    sets = sets_after ask.op (seen setting.base past ask.copy ask.rec);
    for_copies = after_sized (length setting.base) (seen setting.base past ask.copy ask.rec) ask.op (seen_sized setting past ask.copy ask.rec legal here) sized;
    served = subst (λ o. IfNone o (IsServed setting past ask.copy (grant_with ask tuple))) (sym alive) served;
  }

  pub may_refuse : (refusal : Refusal) → IsRefusal past ask refusal → MayRefuse past (copy_seat ask.copy) ask.access ask.copy refusal
  may_refuse refusal reason = record {
    by_copy = refl;
    request = asks_this (λ a. a.ask.copy ≡ ask.copy) refl;
    reason = asks_this (λ a. IsRefusal past a.ask refusal) reason;
  }
