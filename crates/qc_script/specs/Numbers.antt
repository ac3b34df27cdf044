-- How tops are numbered.
use Rattle.std.specs.Prelude.{ℕ, ◌+◌, ◌*◌, ◌^◌, ◌==◌, ◌≡◌, Bool, true, not, ◌&&◌, ◌||◌, [], ◌∷◌, length, Option, None, Some}
use Rattle.std.specs.Option.{option_map_or}
use Rattle.qc_event.specs.declared.event.Entry.{Entry}
use Rattle.qc_event.specs.declared.event.Event.{Event}
use Rattle.qc_event.specs.declared.event.Event.TheVariants as event
use Rattle.qc_event.specs.History.{Past, every}
use Rattle.qc_script.specs.Client.{Client, is_own}

-- whether each entry passes a test, by those before it
abbrev pub each : (Entry → Past → Bool) → Past → Bool
each passes [] = true
each passes (e ∷ past) = each passes past && passes e past

-- the number of the top that an event starts
abbrev pub any_top : Event → Option ℕ
any_top (event.Start (number ∷ []) k) = Some number
any_top _ = None

-- the next top has the number `epoch/place`, where the place is one more than there are tops
abbrev pub next_top : ℕ → Past → ℕ
next_top epoch past = epoch * 2 ^ 32 + length (every (λ e. any_top e.event) past) + 1

-- Tops are numbered `epoch/1`, `epoch/2` and so on in order of Start, whatever the sessions.
abbrev pub is_next_top : ℕ → Entry → Past → Bool
is_next_top epoch e past = option_map_or (λ number. number == next_top epoch past) (any_top e.event) true

-- a top that the client starts has the next number
abbrev pub own_next : Client → Entry → Past → Bool
own_next c e past = not (is_own c e.seat) || is_next_top c.epoch e past

-- each top that the client started had the next number, as it was before
abbrev pub Numbers : Client → Past → Past → Type 0
Numbers c before now = each (own_next c) before ≡ true → each (own_next c) now ≡ true
