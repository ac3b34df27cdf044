-- A name that has no place has no start, no end and no ready entry.
use Rattle.std.proofs.Common.{append-nil, ◌≡◌, ◌<◌, [], length, ◌∙◌, subst}
use Rattle.qc_event.specs.Base.{Setting}
use Rattle.std.specs.Prelude.{None}
use Rattle.qc_event.specs.History.{Past, Name, earliest, start, end, ready_in}
use Rattle.qc_event.proofs.LegalOrderly.{legal_orderly}
use Rattle.qc_event.proofs.Lawful.{lawful}
use Rattle.qc_event.proofs.Lineage.{IsFresh, fresh_below}
use Rattle.qc_event.proofs.OneEntry.{not_some, some_or_none}
use Rattle.qc_history.specs.Places.{place}
use Rattle.qc_history.proofs.Placing.{placed}
use Rattle.qc_history.proofs.Changing.{never_ready, none_ready}
use Rattle.qc_event.specs.Legal.{Legal}

pub unstarted : (past : Past) (n : Name) → place past n ≡ None → start past n ≡ None
unstarted past n none = not_some (start past n) (λ h. some_or_none (place past n) (placed past n ∙ h) none)

-- nothing is known of it
pub unknown : (setting : Setting) (past : Past) (n : Name) → Legal setting past → 0 < length n → place past n ≡ None → IsFresh past n
unknown setting past n legal pos none =
    subst (IsFresh past) (append-nil n) (fresh_below past n [] (lawful past (legal_orderly setting past legal)) pos (unstarted past n none))

pub no_end : (setting : Setting) (past : Past) (n : Name) → Legal setting past → place past n ≡ None → end past n ≡ None
no_end setting past n legal none =
    not_some (end past n) (λ h. some_or_none (start past n) ((lawful past (legal_orderly setting past legal)).end_has_start n h) (unstarted past n none))

pub not_ready : (setting : Setting) (past : Past) (n : Name) → Legal setting past → place past n ≡ None → earliest (λ e. ready_in n e.event) past ≡ None
not_ready setting past n legal none = none_ready (earliest (λ e. ready_in n e.event) past) (never_ready past n (legal_orderly setting past legal) (unstarted past n none))
