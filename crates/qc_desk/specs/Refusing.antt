-- Why a call appends nothing, by the history at its step: each test in turn, the first that fails.
use Rattle.std.specs.Prelude.{◌≡◌, ◌⊎◌, Option, None, Some, if◌then◌else◌}
use Rattle.std.specs.Option.{option_or, option_map}
use Rattle.qc_event.specs.Dead.{dead, outcome, is_live, is_committed}
use Rattle.qc_event.specs.History.{Past, Name, is_ready}
use Rattle.qc_event.specs.Standing.{open_child}
use Rattle.qc_event.specs.Wants.{IsExactWant}
use Rattle.qc_desk.specs.declared.refusal.DeskNo.{DeskNo}
use Rattle.qc_desk.specs.declared.refusal.DeskNo.TheVariants as no

-- THE TESTS

-- it has ended
abbrev pub if_ended : Past → Name → Option DeskNo
if_ended past n = if is_live (outcome past n) then None else Some no.Ended

-- it has committed
abbrev pub if_committed : Past → Name → Option DeskNo
if_committed past n = if is_committed (outcome past n) then Some no.Ended else None

-- an ancestor, or itself, was aborted: the shortest such
abbrev pub if_dead : Past → Name → Option DeskNo
if_dead past n = option_map (λ a. no.Orphan a) (dead past n)

-- it is ready
abbrev pub if_ready : Past → Name → Option DeskNo
if_ready past n = if is_ready past n then Some no.Ready else None

-- a child has not ended: the first such
abbrev pub if_open : Past → Name → Option DeskNo
if_open past n = option_map (λ c. no.ChildrenOpen c) (open_child past n)

-- THE CALLS

-- what is against a child of a name
abbrev pub against_child : Name → Past → Option DeskNo
against_child parent past = option_or (if_committed past parent) (option_or (if_dead past parent) (if_ready past parent))

-- what is against a top's being ready
abbrev pub against_ready : Name → Past → Option DeskNo
against_ready top past = option_or (if_ended past top) (option_or (if_dead past top) (option_or (if_ready past top) (if_open past top)))

-- what is against a commit
abbrev pub against_commit : Name → Past → Option DeskNo
against_commit n past = option_or (if_ended past n) (option_or (if_dead past n) (if_open past n))

-- what is against an abort
abbrev pub against_abort : Name → Past → Option DeskNo
against_abort n past = option_or (if_ended past n) (if_ready past n)

-- what is against an access: its death
abbrev pub against_access : Name → Past → Option DeskNo
against_access n past = if_dead past n

-- nothing is looked at
abbrev pub against_nothing : Past → Option DeskNo
against_nothing past = None

-- memory or room was wanting, memory only while the history took more
abbrev pub IsShort : Past → DeskNo → Type 0
IsShort past (no.Short short) = IsExactWant past short
IsShort past _ = ⊥

-- Why nothing was appended: this test failed first, or none did and memory or room was wanting.
abbrev pub Refuses : (Past → Option DeskNo) → Past → DeskNo → Type 0
Refuses against past why = (against past ≡ Some why) ⊎ ((against past ≡ None) × IsShort past why)
