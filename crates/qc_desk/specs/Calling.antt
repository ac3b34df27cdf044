-- What one call makes of the history and of the passes that it is lent.
use Rattle.std.specs.Prelude.{◌≡◌, ℕ, ◌+◌, true, [], ◌∷◌, ◌++◌, length, Option, None}
use Rattle.atomic_table.specs.Seated.{TableId}
use Rattle.qc_event.specs.declared.event.Event.{Event}
use Rattle.qc_event.specs.declared.event.Event.TheVariants as event
use Rattle.qc_event.specs.declared.event.Kind.{Kind}
use Rattle.qc_event.specs.declared.event.Kind.TheVariants as kind
use Rattle.qc_event.specs.History.{Past, Name, children}
use Rattle.qc_event.specs.Seats.{top_name}
use Rattle.qc_event.specs.Wants.{IsExactWant}
use Rattle.qc_event.specs.declared.short.Short.{Short}
use Rattle.qc_desk.specs.declared.view.View.{View}
use Rattle.qc_desk.specs.Entries.{IsOlder, IsSince, entry}
use Rattle.qc_desk.specs.declared.refusal.DeskNo.{DeskNo}
use Rattle.qc_desk.specs.Refusing.{Refuses, against_child, against_nothing}
use Rattle.qc_desk.specs.Rules.{knows, extends}

-- the words of this desk: how long the history is, and the next number
abbrev pub IsRoomOf : TableId → TableId → Type 0
IsRoomOf desk words = (words ≡ desk) × (words.words ≡ 2)

-- the history is as it was, and the pass has seen it
abbrev pub IsLook : Past → Past → View → View → Type 0
IsLook past now v w = (now ≡ past) × (w ≡ knows past v)

-- the history has an entry of this event more, under the pass's number, and the pass has seen it
abbrev pub IsEntry : Event → Past → Past → View → View → Type 0
IsEntry event past now v w = (now ≡ entry v.number event ∷ past) × (w ≡ extends (entry v.number event) past v)

-- the pass has looked at a history that goes on from what it had seen, by others' entries
abbrev pub Looked : View → View → Type 0
Looked v w = IsSince v.number v.seen w.seen × (w ≡ knows w.seen v)

-- the pass has entered this event behind what others had entered, where nothing was against it
abbrev pub Entered : (Past → Option DeskNo) → Event → View → View → Type 0
Entered against event v w = (before : Past) × IsSince v.number v.seen before × (against before ≡ None) × (w ≡ extends (entry v.number event) before v)

-- the pass has entered such an event behind what others had entered, where nothing was against it
abbrev pub EnteredAs : (Past → Option DeskNo) → (Past → Event → Type 0) → View → View → Type 0
EnteredAs against IsIt v w = (before : Past) × (event : Event) × IsIt before event × IsSince v.number v.seen before × (against before ≡ None) × (w ≡ extends (entry v.number event) before v)

-- the next top of an epoch was started, for a session with a body
abbrev pub StartsTop : ℕ → ℕ → ℕ → Name → View → View → Type 0
StartsTop epoch session body n = EnteredAs against_nothing (λ past ev. (n ≡ top_name epoch (length (children past []) + 1)) × (ev ≡ event.Start n (kind.User session body)))

-- the next child of a name was started, where nothing was against it
abbrev pub StartsChild : Name → Kind → Name → View → View → Type 0
StartsChild parent k n = EnteredAs (against_child parent) (λ past ev. (n ≡ parent ++ (length (children past parent) + 1) ∷ []) × (ev ≡ event.Start n k))

-- the pass has looked, and entered nothing
abbrev pub Refused : (Past → Option DeskNo) → View → View → DeskNo → Type 0
Refused against v w why = Looked v w × Refuses against w.seen why

-- the pass has looked, and entered nothing, since memory or room was wanting, memory only while the history took more
abbrev pub Wanted : View → View → Short → Type 0
Wanted v w short = Looked v w × IsExactWant w.seen short

-- A pass has seen more, and is else as it was.
pub record SeesMore (old new : View) : Type 0 where
  pub older : IsOlder old.seen new.seen
  pub mine : new.mine ≡ old.mine
  pub number : new.number ≡ old.number
  pub live : new.live ≡ old.live
  pub out : new.out ≡ old.out
  pub kin : new.kin ≡ old.kin

-- a pass or a note was shown a history; where it is no note, others made what is new
abbrev pub Shown : View → View → Type 0
Shown v w = IsOlder v.seen w.seen × (w ≡ knows w.seen v) × (v.live ≡ true → IsSince v.number v.seen w.seen)
