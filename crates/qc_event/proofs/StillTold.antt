-- What an entry told first is told first for ever.
use Rattle.std.proofs.Common.{◌≡◌, true, ◌++◌, sym, ap, ◌∙◌, subst}
use Rattle.std.specs.Prelude.{Option, Some, MatchOption, is_some}
use Rattle.qc_event.specs.declared.event.Entry.{Entry}
use Rattle.qc_event.specs.History.{Past, Name, earliest, start, start_in}
use Rattle.qc_event.proofs.Histories.{earliest-append}
use Rattle.qc_event.proofs.OneEntry.{stays_some}
use Rattle.qc_event.proofs.Options.{still_is, still_matches}

pub match_stays : {Y : Type 0} (f : Entry → Option Y) (newer past : Past) (P : Y → Type 0) → MatchOption (earliest f past) ⊥ P → MatchOption (earliest f (newer ++ past)) ⊥ P
match_stays f newer past P h = subst (λ o. MatchOption o ⊥ P) (sym (earliest-append f newer past)) (still_matches (earliest f past) (earliest f newer) P h)

pub some_stays : {Y : Type 0} (f : Entry → Option Y) (newer past : Past) → is_some (earliest f past) ≡ true → is_some (earliest f (newer ++ past)) ≡ true
some_stays f newer past h = ap is_some (earliest-append f newer past) ∙ stays_some (earliest f past) (earliest f newer) h

pub is_stays : {Y : Type 0} (f : Entry → Option Y) (newer past : Past) (y : Y) → earliest f past ≡ Some y → earliest f (newer ++ past) ≡ Some y
is_stays f newer past y is = earliest-append f newer past ∙ still_is (earliest f past) (earliest f newer) y is

-- who was started was so in every later history
pub begun_still : (newer past : Past) (n : Name) → is_some (start past n) ≡ true → is_some (start (newer ++ past) n) ≡ true
begun_still newer past n h = some_stays (λ e. start_in n e.seat e.event) newer past h
