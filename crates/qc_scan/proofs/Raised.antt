-- What a manager's reads replied, one request after another.
use Rattle.std.proofs.Common.{◌≡◌, ℕ, ◌+◌, ◌≤◌, Bool, true, false, cond, List, [], ◌∷◌, length, drop, refl, sym, ap, ◌∙◌}
use Rattle.std.specs.Prelude.{Option, None, Some, fold, filter, filter_map, slice_get, unwrap_or, if◌then◌else◌}
use Rattle.std.specs.List.{cons_option}
use Rattle.std.proofs.lemmas.List.{drop_all}
use Rattle.qc_config.specs.Val.{Number}
use Rattle.qc_config.specs.declared.tuple.Tuple.{Tuple}
use Rattle.qc_event.specs.declared.event.Ask.{Ask}
use Rattle.qc_event.specs.Clear.{is_get}
use Rattle.qc_event.specs.History.{Past}
use Rattle.qc_event.specs.Manager.{Greatest, greatest_among, greater, reply}
use Rattle.qc_scan.specs.Raised.{raised, reply_to, replies_to}
use Rattle.qc_scan.proofs.Search.{from_here}

one_more : (past : Past) (ask : Ask) (rest : List Ask) → replies_to past (ask ∷ rest) ≡ cons_option (reply_to past ask) (replies_to past rest)
one_more past ask rest = by (is_get ask.op)
  where
    by : (b : Bool) → filter_map (λ (a : Ask). reply past a.access) (cond b (ask ∷ filter (λ (a : Ask). is_get a.op) rest) (filter (λ (a : Ask). is_get a.op) rest)) ≡ cons_option (if b then reply past ask.access else None) (replies_to past rest)
    by true = refl
    by false = refl

module _ {B : Type 0} (step : B → Tuple → B) (past : Past) (requests : List Ask) (k : ℕ) (b : B) where
  -- a fold, one answer further
  abbrev pub onward : Option Tuple → B
  onward None = b
  onward (Some t) = step b t

  pub fold_one : (o : Option Tuple) (ts : List Tuple) → fold step b (cons_option o ts) ≡ fold step (onward o) ts
  fold_one None ts = refl
  fold_one (Some t) ts = refl

  -- a fold of what the requests replied, one request further
  pub fold_further : (ask : Ask) → slice_get requests k ≡ Some ask → fold step b (replies_to past (drop k requests)) ≡ fold step (onward (reply_to past ask)) (replies_to past (drop (k + 1) requests))
  fold_further ask at =
      ap (λ l. fold step b (replies_to past l)) (from_here requests k ask at)
      ∙ ap (fold step b) (one_more past ask (drop (k + 1) requests))
      ∙ fold_one (reply_to past ask) (replies_to past (drop (k + 1) requests))

  -- a fold over every request
  pub fold_all : length requests ≤ k → fold step b (replies_to past (drop k requests)) ≡ b
  fold_all over = ap (λ l. fold step b (replies_to past l)) (drop_all k requests over)

some_greatest : (best : Greatest) (ts : List Tuple) → fold raised (Some best) ts ≡ Some (fold greater best ts)
some_greatest best [] = refl
some_greatest best (t ∷ ts) = some_greatest (greater best t) ts

pub greatest_is : (ts : List Tuple) → unwrap_or (fold raised None ts) (record { version = 0; value = Number 0 }) ≡ greatest_among ts
greatest_is [] = refl
greatest_is (t ∷ ts) = ap (λ o. unwrap_or o (record { version = 0; value = Number 0 })) (some_greatest (record { version = t.version; value = t.value }) ts)
