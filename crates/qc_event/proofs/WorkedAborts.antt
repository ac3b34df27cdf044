-- Worked histories that abort, over one copy with one vote, which are legal by computation.
use Rattle.std.proofs.Common.{◌≡◌, List, [], ◌∷◌, ◌++◌, reverse, refl, rules, replicate}
use Rattle.std.specs.Prelude.{false, Some, None}
use Rattle.qc_config.specs.Val.{Number}
use Rattle.qc_config.specs.declared.tuple.Op.TheVariants.{Get}
use Rattle.qc_event.specs.declared.event.Cause.TheVariants as cause
use Rattle.qc_event.specs.declared.event.Entry.{Entry}
use Rattle.qc_event.specs.declared.event.Event.TheVariants as event
use Rattle.qc_event.specs.declared.event.Kind.TheVariants as kind
use Rattle.qc_event.specs.declared.event.Lack.{Lack}
use Rattle.qc_event.specs.declared.event.Phase.TheVariants.{Collect}
use Rattle.qc_event.specs.declared.event.Refusal.TheVariants as refusal
use Rattle.qc_event.specs.declared.event.Why.{Why}
use Rattle.qc_event.specs.declared.event.Why.TheVariants.{Lost, Down}
use Rattle.qc_event.specs.Seen.{seen, holder}
use Rattle.qc_event.specs.Seats.{copy_seat, number_in, top_name}
use Rattle.qc_event.specs.Legal.{Allowed, Legal}
use Rattle.qc_event.proofs.Worked.{setting, setting_at, tuple, client, start, ask, abort, grant, get, write}

-- A CONFLICT

-- a reader that asks while a writer's top is open
abbrev asking : List Entry
asking =
    write
    ++ start (top_name 1 2) (kind.User 1 0)
    ∷ start (number_in 1 2 ∷ 1 ∷ []) (kind.Read 0)
    ∷ start (number_in 1 2 ∷ 1 ∷ 1 ∷ []) kind.Access
    ∷ ask (number_in 1 2 ∷ 1 ∷ 1 ∷ []) Get
    ∷ []

-- is refused, and gives up
abbrev refused : List Entry
refused =
    asking
    ++ record { seat = copy_seat 0; event = event.Refused (number_in 1 2 ∷ 1 ∷ 1 ∷ []) 0 (refusal.Blocked (number_in 1 1 ∷ 1 ∷ 2 ∷ [])) }
    ∷ abort (number_in 1 2 ∷ 1 ∷ 1 ∷ []) cause.Missed
    ∷ abort (number_in 1 2 ∷ 1 ∷ []) (cause.Conflict 0 (number_in 1 1 ∷ 1 ∷ 2 ∷ []))
    ∷ []

legal_refused : Legal setting (reverse refused)
legal_refused = search rules

-- the reader's top ends so too, since its manager did
top_ends : Allowed setting (reverse refused) (abort (top_name 1 2) (cause.Conflict 0 (number_in 1 1 ∷ 1 ∷ 2 ∷ [])))
top_ends = record {
  by_client = refl;
  is_open = record { started = refl; not_ended = refl };
  not_ready = refl;
  licensed = record { child = number_in 1 2 ∷ 1 ∷ []; is_one = refl; manages = tt; ended = refl };
}

-- the copy may not grant while the writer is in the way
no_grant : Allowed setting (reverse asking) (grant (number_in 1 2 ∷ 1 ∷ 1 ∷ []) Get (tuple 1 5)) → ⊥
no_grant may = absurd (let free = may.served.free in cc)

-- once the writer is aborted its write is gone, and so is its lock
abbrev undone : List Entry
undone = asking ++ abort (top_name 1 1) (cause.Asked (top_name 1 1)) ∷ []

restored : seen setting.base (reverse undone) 0 0 ≡ tuple 0 0
restored = refl

free : holder (reverse undone) 0 0 Get (number_in 1 2 ∷ 1 ∷ 1 ∷ []) ≡ None
free = refl

legal_after : Legal setting (reverse (undone ++ grant (number_in 1 2 ∷ 1 ∷ 1 ∷ []) Get (tuple 0 0) ∷ []))
legal_after = search rules

-- NO QUORUM

abbrev lack : Why → Lack
lack why = record { phase = Collect; replied = replicate 16 false; missing = Some why ∷ replicate 15 None }

abbrev begun : List Entry
begun =
    start (top_name 1 1) (kind.User 0 0)
    ∷ start (number_in 1 1 ∷ 1 ∷ []) (kind.Read 0)
    ∷ start (number_in 1 1 ∷ 1 ∷ 1 ∷ []) kind.Access
    ∷ ask (number_in 1 1 ∷ 1 ∷ 1 ∷ []) Get
    ∷ []

legal_lost : Legal setting (reverse (
    begun
    ++ client (event.Gone (number_in 1 1 ∷ 1 ∷ 1 ∷ []) Lost)
    ∷ abort (number_in 1 1 ∷ 1 ∷ 1 ∷ []) cause.Missed
    ∷ abort (number_in 1 1 ∷ 1 ∷ []) (cause.NoQuorum (lack Lost))
    ∷ []))
legal_lost = search rules

legal_down : Legal setting (reverse (
    begun
    ++ record { seat = copy_seat 0; event = event.Unable (number_in 1 1 ∷ 1 ∷ 1 ∷ []) Down }
    ∷ client (event.Gone (number_in 1 1 ∷ 1 ∷ 1 ∷ []) Down)
    ∷ abort (number_in 1 1 ∷ 1 ∷ 1 ∷ []) cause.Missed
    ∷ abort (number_in 1 1 ∷ 1 ∷ []) (cause.NoQuorum (lack Down))
    ∷ []))
legal_down = search rules

-- a manager may not give up without an answer missing, nor while it waits for one
no_lack_at_once : Allowed setting (start (number_in 1 1 ∷ 1 ∷ []) (kind.Read 0) ∷ start (top_name 1 1) (kind.User 0 0) ∷ []) (abort (number_in 1 1 ∷ 1 ∷ []) (cause.NoQuorum (lack Lost))) → ⊥
no_lack_at_once may = absurd (let none_left = may.licensed.0.failed.no_copy in cc)

no_lack_while_waiting : Allowed setting (reverse begun) (abort (number_in 1 1 ∷ 1 ∷ []) (cause.NoQuorum (lack Lost))) → ⊥
no_lack_while_waiting may = absurd (let nothing_open = may.licensed.0.failed.nothing_open in cc)

-- THE LAST NUMBER, AND MARKS

legal_last : Legal (setting_at 18446744073709551615) (reverse (
    start (top_name 1 1) (kind.User 0 0)
    ∷ start (number_in 1 1 ∷ 1 ∷ []) (kind.Write 0 (Number 5))
    ∷ get (number_in 1 1 ∷ 1 ∷ 1 ∷ []) (tuple 18446744073709551615 0)
    ++ abort (number_in 1 1 ∷ 1 ∷ []) cause.Last
    ∷ []))
legal_last = search rules

legal_killed : Legal setting (reverse (
    start (top_name 1 1) (kind.User 0 0)
    ∷ start (top_name 1 2) (kind.User 1 0)
    ∷ client (event.Mark (top_name 1 2) 0)
    ∷ abort (top_name 1 1) cause.Killed
    ∷ []))
legal_killed = search rules

-- a mark by an older top kills no younger one
no_kill : Allowed setting (client (event.Mark (top_name 1 1) 1) ∷ start (top_name 1 2) (kind.User 1 0) ∷ start (top_name 1 1) (kind.User 0 0) ∷ []) (abort (top_name 1 2) cause.Killed) → ⊥
no_kill may = absurd (let marked = may.licensed in cc)
