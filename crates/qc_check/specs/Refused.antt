-- The first entry of a list that those before it do not allow.
use Rattle.std.specs.Prelude.{List, take, reverse, slice_get, MatchOption}
use Rattle.qc_check.specs.declared.checker.Illegal.{Illegal}
use Rattle.qc_check.specs.Breaks.{Breaks}
use Rattle.qc_check.specs.declared.rule.Rule.{Rule}
use Rattle.qc_event.specs.Base.{Setting}
use Rattle.qc_event.specs.Legal.{Legal, Allowed}
use Rattle.qc_event.specs.declared.event.Entry.{Entry}

-- the entry is not allowed after these, and this is the first of its event's rules that it breaks
pub record IsRefusedBy (setting : Setting) (before : List Entry) (why : Rule) (e : Entry) : Type 0 where
  pub not_allowed : Allowed setting (reverse before) e → ⊥
  pub broken : Breaks setting (reverse before) e why

-- Of entries, the oldest first, those before a place are legal, and the one there is refused.
pub record HistoryIsRefused (setting : Setting) (h : List Entry) (why : Illegal) : Type 0 where
  pub legal_before : Legal setting (reverse (take why.place h))
  pub refused_there : MatchOption (slice_get h why.place) ⊥ (IsRefusedBy setting (take why.place h) why.rule)
