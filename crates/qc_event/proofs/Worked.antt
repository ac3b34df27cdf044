-- Worked histories over one copy with one vote, which are legal by computation: a write, a read and a
-- reconfiguration; and entries that may not come next.
use Rattle.std.proofs.Common.{ℕ, List, [], ◌∷◌, ◌++◌, reverse, rules}
use Rattle.qc_config.specs.Config.{Voting}
use Rattle.qc_config.specs.Val.{Number}
use Rattle.qc_config.specs.declared.tuple.Op.{Op}
use Rattle.qc_config.specs.declared.tuple.Op.TheVariants.{Get, PutData, PutConfig}
use Rattle.qc_config.specs.declared.tuple.Tuple.{Tuple}
use Rattle.qc_event.specs.Base.{Setting}
use Rattle.qc_event.specs.declared.event.Answer.{Answer}
use Rattle.qc_event.specs.declared.event.Answer.TheVariants as answer
use Rattle.qc_event.specs.declared.event.Cause.{Cause}
use Rattle.qc_event.specs.declared.event.Entry.{Entry}
use Rattle.qc_event.specs.declared.event.Event.{Event}
use Rattle.qc_event.specs.declared.event.Event.TheVariants as event
use Rattle.qc_event.specs.declared.event.How.TheVariants.{Commit, Abort}
use Rattle.qc_event.specs.declared.event.Kind.{Kind}
use Rattle.qc_event.specs.declared.event.Kind.TheVariants as kind
use Rattle.qc_event.specs.History.{Name}
use Rattle.qc_event.specs.Seats.{client_seat, ledger_seat, copy_seat, number_in, top_name}
use Rattle.qc_event.specs.Legal.{Allowed, Legal}

abbrev pub one : Voting
one = record { votes = 1 ∷ []; read = 1; write = 1 }

abbrev pub tuple : ℕ → ℕ → Tuple
tuple version value = record { version = version; value = Number value; generation = 0; config = one }

-- one copy of one record, which starts with this version and value 0
abbrev pub setting_at : ℕ → Setting
setting_at version = record { firsts = one ∷ []; base = (tuple version 0 ∷ []) ∷ [] }

abbrev pub setting : Setting
setting = setting_at 0

abbrev pub client : Event → Entry
client ev = record { seat = client_seat; event = ev }

abbrev pub start : Name → Kind → Entry
start n k = client (event.Start n k)

abbrev pub commit : Name → Answer → Entry
commit n given = client (event.End n (Commit given))

abbrev pub ask : Name → Op → Entry
ask n op = client (event.Ask (record { access = n; copy = 0; rec = 0; op = op }))

abbrev pub abort : Name → Cause → Entry
abort n c = client (event.End n (Abort c))

abbrev pub grant : Name → Op → Tuple → Entry
grant n op t = record { seat = copy_seat 0; event = event.Granted 0 (record { access = n; rec = 0; op = op; tuple = t }) }

abbrev pub get : Name → Tuple → List Entry
get n t = start n kind.Access ∷ ask n Get ∷ grant n Get t ∷ commit n (answer.Reply t) ∷ []

abbrev pub put : Name → Op → Tuple → List Entry
put n op t = start n kind.Access ∷ ask n op ∷ grant n op t ∷ commit n (answer.Reply t) ∷ []

-- a top that is ready and commits
abbrev pub ends : Name → List Entry
ends n = client (event.Ready n) ∷ record { seat = ledger_seat; event = event.End n (Commit answer.Nothing) } ∷ []

-- A WRITE

-- a top that writes 5, up to its manager's answer
abbrev pub write : List Entry
write =
    start (top_name 1 1) (kind.User 0 0)
    ∷ start (number_in 1 1 ∷ 1 ∷ []) (kind.Write 0 (Number 5))
    ∷ get (number_in 1 1 ∷ 1 ∷ 1 ∷ []) (tuple 0 0)
    ++ put (number_in 1 1 ∷ 1 ∷ 2 ∷ []) (PutData 1 (Number 5)) (tuple 1 5)
    ++ commit (number_in 1 1 ∷ 1 ∷ []) answer.Nothing
    ∷ []

abbrev pub written : List Entry
written = write ++ ends (top_name 1 1)

legal_written : Legal setting (reverse written)
legal_written = search rules

-- A READ

abbrev reading : List Entry
reading =
    written
    ++ start (top_name 1 2) (kind.User 1 0)
    ∷ start (number_in 1 2 ∷ 1 ∷ []) (kind.Read 0)
    ∷ get (number_in 1 2 ∷ 1 ∷ 1 ∷ []) (tuple 1 5)

legal_read : Legal setting (reverse (reading ++ commit (number_in 1 2 ∷ 1 ∷ []) (answer.Value (Number 5)) ∷ []))
legal_read = search rules

-- a reader answers no other value
no_other_value : Allowed setting (reverse reading) (commit (number_in 1 2 ∷ 1 ∷ []) (answer.Value (Number 0))) → ⊥
no_other_value may = absurd (let same = may.answers in cc)

-- nor does it answer before it has collected enough
no_early_answer : Allowed setting (start (number_in 1 1 ∷ 1 ∷ []) (kind.Read 0) ∷ start (top_name 1 1) (kind.User 0 0) ∷ []) (commit (number_in 1 1 ∷ 1 ∷ []) (answer.Value (Number 0))) → ⊥
no_early_answer may = absurd (let enough = may.complete in cc)

-- A RECONFIGURATION

abbrev two : Voting
two = record { votes = 2 ∷ []; read = 1; write = 2 }

abbrev moved : Tuple
moved = record { version = 0; value = Number 0; generation = 1; config = two }

legal_reconfigured : Legal setting (reverse (
    start (top_name 1 1) (kind.User 0 0)
    ∷ start (number_in 1 1 ∷ 1 ∷ []) (kind.Reconf 0 two)
    ∷ get (number_in 1 1 ∷ 1 ∷ 1 ∷ []) (tuple 0 0)
    ++ put (number_in 1 1 ∷ 1 ∷ 2 ∷ []) (PutData 0 (Number 0)) (tuple 0 0)
    ++ put (number_in 1 1 ∷ 1 ∷ 3 ∷ []) (PutConfig 1 two) moved
    ++ commit (number_in 1 1 ∷ 1 ∷ []) (answer.Generation 1)
    ∷ ends (top_name 1 1)))
legal_reconfigured = search rules
