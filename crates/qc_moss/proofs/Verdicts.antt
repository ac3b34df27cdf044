-- What settled locks answer a request is the verdict on it.
use Rattle.std.proofs.Common.{◌≡◌, List, [], refl, sym, ap, ◌∙◌}
use Rattle.std.specs.Prelude.{not, Option, None, Some, filter}
use Rattle.std.specs.Option.{option_map_or}
use Rattle.qc_config.specs.declared.tuple.Tuple.{Tuple}
use Rattle.qc_config.specs.Tuple.{after}
use Rattle.qc_event.specs.Clear.{is_get}
use Rattle.qc_event.specs.Dead.{dead}
use Rattle.qc_event.specs.Grants.{grant_with}
use Rattle.qc_event.specs.declared.event.Ask.{Ask}
use Rattle.qc_event.specs.declared.event.Grant.{Grant}
use Rattle.qc_event.specs.History.{Past, Name}
use Rattle.qc_event.specs.Seen.{changed_by, is_live_at}
use Rattle.qc_event.proofs.Lineage.{alive_above}
use Rattle.qc_moss.specs.declared.locks.Test.TheVariants.{Free, Held}
use Rattle.qc_moss.specs.declared.consulting.Verdict.TheVariants as verdicts
use Rattle.qc_moss.specs.Consulting.{verdict, blocker, tuple_after, grant_of}
use Rattle.qc_moss.specs.Follows.{TableFollows, IsSettled}
use Rattle.qc_moss.specs.Locks.{Table, test_of, test_by, start_of}
use Rattle.qc_moss.proofs.Answering.{free, tuple}

held_is : (o : Option Name) (first : Name) → test_by o ≡ Held first → o ≡ Some first
held_is None first h = absurd cc
held_is (Some x) first h = cc

free_is : (o : Option Name) → test_by o ≡ Free → o ≡ None
free_is None h = refl
free_is (Some x) h = absurd cc

-- the table follows a copy's grants from the start tuples of one that was, and the record asked for is settled
pub record IsReady (past : Past) (was : Table) (given : List Grant) (ask : Ask) (table : Table) : Type 0 where
  pub follows : TableFollows past given table
  pub settled : IsSettled past table ask.rec
  pub same_start : table.start ≡ was.start

module _ (past : Past) (was : Table) (given : List Grant) (ask : Ask) (alive : dead past ask.access ≡ None) where
  root : dead past [] ≡ None
  root = alive_above past [] ask.access alive

  told : (b : Option Name) → blocker past given ask ≡ b → verdict past was given ask ≡ option_map_or verdicts.Blocked b (verdicts.Free (tuple_after past was given ask))
  told b is =
      ap (λ o. option_map_or verdicts.Dead o (option_map_or verdicts.Blocked (blocker past given ask) (verdicts.Free (tuple_after past was given ask)))) alive
      ∙ ap (λ o. option_map_or verdicts.Blocked o (verdicts.Free (tuple_after past was given ask))) is

  module _ (table : Table) (ready : IsReady past was given ask table) where
    by_locks : test_of table ask.access ask.rec (not (is_get ask.op)) ≡ test_by (blocker past given ask)
    by_locks = free past given table ask.access ask.rec ask.op ready.follows ready.settled root

    grant_is : grant_of table ask ≡ grant_with ask (tuple_after past was given ask)
    grant_is =
        ap (λ t. grant_with ask (after t ask.op))
        (tuple past given table ask.rec ready.follows ready.settled root
        ∙ ap (λ (start : List Tuple). changed_by (start_of (record table { start = start }) ask.rec) (filter (is_live_at past ask.rec) given)) ready.same_start)

    pub held_told : (first : Name) → test_of table ask.access ask.rec (not (is_get ask.op)) ≡ Held first → verdict past was given ask ≡ verdicts.Blocked first
    held_told first held = told (Some first) (held_is (blocker past given ask) first (sym by_locks ∙ held))

    pub free_told : test_of table ask.access ask.rec (not (is_get ask.op)) ≡ Free → verdict past was given ask ≡ verdicts.Free (grant_of table ask).tuple
    free_told none = told None (free_is (blocker past given ask) (sym by_locks ∙ none)) ∙ ap (λ (x : Grant). verdicts.Free x.tuple) (sym grant_is)
