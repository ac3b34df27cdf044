-- A table that was granted one after another follows any history, where its records are there.
use Rattle.std.proofs.Common.{◌≡◌, ℕ, ◌<◌, List, [], ◌∷◌, ◌++◌, length, sym, ◌∙◌, subst, append-nil, append_assoc, All}
use Rattle.std.proofs.lemmas.List.{length-map, length-set}
use Rattle.std.proofs.lemmas.List.Elements.{All-head, All-tail}
use Rattle.qc_config.specs.declared.tuple.Tuple.{Tuple}
use Rattle.qc_event.specs.declared.event.Grant.{Grant}
use Rattle.qc_event.specs.History.{Past}
use Rattle.qc_moss.specs.Follows.{TableFollows}
use Rattle.qc_moss.specs.Locks.{Table, unheld, granted_to}
use Rattle.qc_moss.proofs.Tables.{starts, granted}
use Rattle.qc_moss.specs.Consulting.{all_granted}

-- the record of a grant is one of so many
abbrev IsThere : ℕ → Grant → Type 0
IsThere records g = g.rec < records

onward : (past : Past) (records : ℕ) (done given : List Grant) (table : Table) → length table.held ≡ records → All (IsThere records) given → TableFollows past done table → TableFollows past (done ++ given) (all_granted table given)
onward past records done [] table many there follows = subst (λ gs. TableFollows past gs table) (sym (append-nil done)) follows
onward past records done (g ∷ given) table many there follows =
    subst (λ gs. TableFollows past gs (all_granted (granted_to table g.access g.rec g.op) given)) (append_assoc done (g ∷ []) given)
    (onward past records (done ++ g ∷ []) given (granted_to table g.access g.rec g.op) (length-set table.held g.rec _ ∙ many) (All-tail (IsThere records) g given there)
    (granted past done table g (subst (λ n. g.rec < n) (sym many) (All-head (IsThere records) g given there)) follows))

pub replay_follows : (past : Past) (start : List Tuple) (given : List Grant) → All (λ (g : Grant). g.rec < length start) given → TableFollows past given (all_granted (unheld start) given)
replay_follows past start given there = onward past (length start) [] given (unheld start) (length-map start _) there (starts past start)
